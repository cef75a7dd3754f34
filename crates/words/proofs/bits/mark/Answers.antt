use mathlib.Core.Path.{ap}
use native.Mathlib.Omega.{arith}
use lib.Bits.{bit_or}
use lib.ListN.{get_or, set}
use Prim.Native.Nat.{ℕ, ◌/◌, ◌%◌}
use Rattle.words.specs.Bits.{with_mark}
use Rattle.words.proofs.BitLaws.{one_shifted, mark-past}
use Rattle.words.proofs.bits.mark.Goals as goal

pub returns-then-i-s : goal.returns-then-i-s
unfolding with_mark
returns-then-i-s c = ap (λ (x : ℕ). set c.args.s.now (c.args.l / 64) (bit_or (get_or c.args.s.now (c.args.l / 64) 0) x)) (one_shifted (c.args.l % 64) (omega arith))

pub returns-else-i-s : goal.returns-else-i-s
returns-else-i-s c = mark-past c.args.s.now c.args.l c.if-i-s.false
