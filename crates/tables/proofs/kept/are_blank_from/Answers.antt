use mathlib.Core.Path.{◌≡◌, ◌∙◌}
use native.Mathlib.Omega.{arith}
use Prim.Native.Nat.{◌+◌, ◌-◌}
use Rattle.tables.specs.Cells.{zeros}
use Rattle.tables.specs.Kept.{most_kept, first_kept}
use Rattle.tables.proofs.KeptLaws.{most-small, first_small}
use Rattle.tables.proofs.ClearLaws.{clear-part, positions-clear, positions-full}
use Rattle.tables.proofs.kept.are_blank_from.Goals as goal

pub returns-then-most-n : goal.returns-then-most-n
returns-then-most-n c = positions-full c.args.constraints.now c.args.s c.args.n (rw c.most_kept-most.ensures at c.if-most-n.true)

pub overflow_add-first_kept : goal.overflow_add-first_kept
overflow_add-first_kept c = omega (arith, c.first_kept.ensures, first_small c.args.s, c.most_kept-most.ensures, most-small c.args.s, c.if-most-n.false)

pub returns : goal.returns
returns c =
    let z : c.is_clear.result ≡ zeros c.args.constraints.now (first_kept c.args.s + c.args.n) (most_kept c.args.s - c.args.n) =
    rw (c.first_kept.ensures, c.most_kept-most.ensures) at (clear-part c.args.constraints.now (c.first_kept.result + c.args.n) (c.most_kept-most.result - c.args.n) c.part_from.ensures c.part_to.ensures c.is_clear.ensures) in
    z ∙ positions-clear c.args.constraints.now c.args.s c.args.n
