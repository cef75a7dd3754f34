use mathlib.Core.Path.{refl}
use Rattle.text.specs.Told.{next_of}
use Rattle.text.proofs.ToldLaws.{follows-stopped, take-follows}
use Rattle.text.proofs.StateLaws.{took-follows}
use Rattle.text.proofs.AheadLaws.{ahead-took}
use Rattle.text.proofs.Carried.take.Goals as goal

pub returns-then-self-ne0-clause-follows : goal.returns-then-self-ne0-clause-follows
returns-then-self-ne0-clause-follows c =
    λ h. follows-stopped c.if-self-ne0.true

pub returns : goal.returns
returns c =
    let a = c.args in
    let r = a.self.now in record {
      follows = λ h. took-follows a.text.now a.k r c.taken.ensures (take-follows a.text.now r (next_of r) a.k c.if-self-ne0.false h refl);
      ahead = λ h. ahead-took a.text.now r a.k c.taken.ensures h;
    }
