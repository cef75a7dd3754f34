use mathlib.Core.Path.{refl, ◌∙◌}
use Rattle.text.proofs.DoesLaws.{does-stopped, does-from}
use Rattle.text.proofs.AheadLaws.{ahead-deep}
use Rattle.text.proofs.StatedCode.{on_same, on-expression}
use Rattle.text.proofs.constraints.stated_on.Goals as goal

pub returns-then-r-ne0-clause-onward : goal.returns-then-r-ne0-clause-onward
returns-then-r-ne0-clause-onward c =
    λ h l. does-stopped c.if-r-ne0.true

pub returns-then-r-eq-IDENTICAL-clause-onward : goal.returns-then-r-eq-IDENTICAL-clause-onward
returns-then-r-eq-IDENTICAL-clause-onward c =
    λ h l. on_same c.args.text.now c.args.from c.args.verb c.args.p c.args.at c.requires.verb_bound h l
    c.put_number.ensures.words_after c.put_number.ensures.origins_after
    refl c.if-r-eq-IDENTICAL.true (c.take.ensures.follows h) (does-from c.put_number.ensures.names_after (c.path.ensures.piece (c.take.ensures.ahead h)))

pub returns : goal.returns
returns c =
    record {
      onward = λ h l.
          let i = ahead-deep c.args.text.now c.insert.new.self.carried 1 c.deepen.ensures
          (c.insert.ensures.ahead c.args.text.now (c.owe.ensures.ahead c.args.text.now h)) in
          on-expression c.args.text.now c.args.from c.args.verb c.args.p c.args.at c.requires.verb_bound h l c.put_number-2.ensures.words_after c.put_number-2.ensures.origins_after
          refl c.if-r-eq-IDENTICAL.false c.if-r-ne0.false
          c.owe.ensures.owes c.insert.ensures.inserts c.deepen.ensures (λ most le. does-from (c.insert.ensures.names_after ∙ c.put_number-2.ensures.names_after) (c.onwards.ensures.onward i most le)) (c.constraint_on.ensures.onward (c.onwards.ensures.ahead i));
      ahead = λ h.
          let i = ahead-deep c.args.text.now c.insert.new.self.carried 1 c.deepen.ensures
          (c.insert.ensures.ahead c.args.text.now (c.owe.ensures.ahead c.args.text.now h)) in
          c.constraint_on.ensures.ahead (c.onwards.ensures.ahead i);
    }
