use Prim.Native.Nat.{◌+◌}
use mathlib.Core.Path.{ap, ◌∙◌}
use native.Mathlib.Omega.{arith}
use lib.IntN.{pos}
use Rattle.std.proofs.Common.{rules}
use lib.ListN.{get_or}
use Rattle.words.proofs.Laws.{number_past}
use Rattle.words.proofs.Signed.{number_read}
use Rattle.printing.proofs.TextLaws.{number-most}
use Rattle.printing.proofs.paths.label_at.Goals as goal

pub overflow_add-result : goal.overflow_add-result
overflow_add-result c = omega (arith, number-most (get_or c.args.p.now c.args.i (pos 0)) (search rules) c.number.ensures)

pub returns-then-i-p : goal.returns-then-i-p
returns-then-i-p c = ap (λ n. 64 + n) (c.number.ensures ∙ number_read c.args.p.now c.args.i c.if-i-p.true (search rules))

pub returns-else-i-p : goal.returns-else-i-p
returns-else-i-p c = ap (λ n. 64 + n) (number_past c.args.p.now c.args.i c.if-i-p.false)
