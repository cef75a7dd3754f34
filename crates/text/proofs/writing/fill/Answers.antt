use mathlib.Core.Path.{ap}
use lib.ListN.{get_or, drop_of_length-le}
use lib.IntN.{pos}
use mir.Val.{SFits}
use mir.Syntax.{w32}
use Rattle.words.proofs.Signed.{back32}
use Rattle.text.specs.Reading.{everywhere}
use Rattle.text.proofs.RaisedLaws.{filling-goes-on, filling-ends, gap-words, gap-places}
use Rattle.text.proofs.writing.fill.Goals as goal

pub returns : goal.returns
returns c =
    let a = c.args in record {
      words_after = filling-ends c.loop-i.invariant.0 (drop_of_length-le a.gap.now c.loop-i-test.false);
      origins_after = filling-ends c.loop-i.invariant.1 (ap (everywhere a.p) (drop_of_length-le a.gap.now c.loop-i-test.false));
    }

pub loop-i-preserved : goal.loop-i-preserved
loop-i-preserved c =
    let a = c.args in
    let f : SFits w32 (get_or a.gap.now c.loop-i.i (pos 0)) = search in (
      filling-goes-on c.loop-i.invariant.0 (gap-words a.gap.now c.loop-i.i c.loop-i-test.true) (rw (back32 (get_or a.gap.now c.loop-i.i (pos 0)) f) at c.store.ensures),
      filling-goes-on c.loop-i.invariant.1 (gap-places a.p a.gap.now c.loop-i.i c.loop-i-test.true) c.put.ensures,
    )
