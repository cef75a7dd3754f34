use mathlib.Core.Path.{refl}
use Rattle.words.specs.Bits.{marked}
use Rattle.words.proofs.BitLaws.{past-marked}
use Rattle.words.proofs.bits.is_marked.Goals as goal

pub returns-then-s-i : goal.returns-then-s-i
returns-then-s-i c = past-marked c.args.s.now c.args.l c.if-s-i.true

pub returns : goal.returns
unfolding marked
returns c = refl
