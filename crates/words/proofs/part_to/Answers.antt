use mathlib.Core.Path.{sym}
use native.Mathlib.Omega.{arith}
use lib.Seq.{length-take-le, take_all}
use Rattle.words.proofs.part_to.Goals as goal

pub slice_bounds-result-end : goal.slice_bounds-result-end
slice_bounds-result-end g c = sym (length-take-le c.args.k c.args.s.now c.if-k-s.true)

pub returns-else-k-s : goal.returns-else-k-s
returns-else-k-s g c = sym (take_all c.args.k c.args.s.now (omega arith))
