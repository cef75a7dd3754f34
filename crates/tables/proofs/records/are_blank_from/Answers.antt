use mathlib.Core.Path.{◌∙◌}
use native.Mathlib.Omega.{arith}
use Prim.Native.Nat.{◌+◌, ◌*◌, ◌-◌}
use Rattle.tables.specs.Sizes.{count_word}
use Rattle.tables.proofs.ClearLaws.{clear-part, from-clear, from-full}
use Rattle.tables.proofs.records.are_blank_from.Goals as goal

pub returns-then-n-ge-RECORDS : goal.returns-then-n-ge-RECORDS
returns-then-n-ge-RECORDS c = from-full c.args.heap.now c.args.n c.if-n-ge-RECORDS.true

pub returns : goal.returns
unfolding count_word
returns c =
    clear-part c.args.heap.now (25 * c.args.n + 1) (1600 - 25 * c.args.n) c.part_from.ensures c.part_to.ensures c.is_clear.ensures
    ∙ from-clear c.args.heap.now c.args.n (omega (arith, c.if-n-ge-RECORDS.false))
