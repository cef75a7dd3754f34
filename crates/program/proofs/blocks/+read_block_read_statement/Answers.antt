use mathlib.Core.Path.{◌≡◌, sym, ◌∙◌}
use Prim.Native.Nat.{◌-◌}
use native.Mathlib.Omega.{arith}
use lib.ListN.{drop}
use mathlib.Core.Bool.{false}
use Rattle.std.proofs.lemmas.Result.{err_from_is_err_and}
use Rattle.words.specs.Answer.{got}
use Rattle.program.specs.Reading.{read_expression, read_block}
use Rattle.program.proofs.LengthLaws.{part-trans, after-part, uses-keeps, expression-uses, statement-uses, block-uses}
use Rattle.program.proofs.ReadLaws.{onward}
use Rattle.program.proofs.RowLaws.{last-part, row-starts, row-stops, row-goes-on, row_ends}
use Rattle.program.proofs.BlockLaws.{block_row, branch-first, branch-second, loop-body}
use Rattle.program.proofs.blocks.+read_block_read_statement.Goals as goal

pub read_block-loop-init : goal.read_block-loop-init
read_block-loop-init t c =
    rw (c.less-left.ensures, c.number_at-n.ensures) (row-starts (omega arith) (block_row c.args.d c.args.p.now c.if-d-eq0.false (rw c.number_at-n.ensures at c.if-n-gt-MOST_STATEMENTS.false)))

pub read_block-read_statement-requires : goal.read_block-read_statement-requires
read_block-read_statement-requires t c = omega (arith, c.decreases, c.if-d-eq0.false)

pub read_block-returns-in_err-left : goal.read_block-returns-in_err-left
read_block-returns-in_err-left t c =
    let e = err_from_is_err_and c.from_residual.result c.from_residual.ensures.1 in
    rw (e.1, e.2) (row-stops c.loop.invariant c.loop-test.true c.part_last.ensures c.in_err-left.ensures)

pub read_block-loop-preserved : goal.read_block-loop-preserved
read_block-loop-preserved t c =
    row-goes-on c.loop.invariant c.loop-test.true c.part_last.ensures c.in_ok-left.ensures (after-part _ (uses-keeps (statement-uses (c.args.d - 1) _)))

pub read_block-returns : goal.read_block-returns
read_block-returns t c = row_ends c.loop.invariant c.loop-test.false

pub read_statement-returns-in_err-rest-in-7 : goal.read_statement-returns-in_err-rest-in-7
read_statement-returns-in_err-rest-in-7 t c =
    let q : read_expression 16 false (drop 1 c.args.p.now) ≡ got c.part_last.result.now =
    onward (read_expression 16 false (drop 1 c.args.p.now)) (after-part _ (uses-keeps (expression-uses 16 false (drop 1 c.args.p.now))))
    (rw c.part_from-q.ensures at c.in_ok-left-in-7.ensures) (rw c.part_from-q.ensures at c.part_last.ensures) in
    let e = err_from_is_err_and c.from_residual-in_err-rest-in-7.result c.from_residual-in_err-rest-in-7.ensures.1 in
    rw (e.1, e.2) (branch-first c.args.d c.args.p.now (sym c.number_at-verb.ensures ∙ c.in-7.is) q c.in_err-rest-in-7.ensures)

pub read_statement-returns-in_ok-rest-in-7 : goal.read_statement-returns-in_ok-rest-in-7
read_statement-returns-in_ok-rest-in-7 t c =
    let q : read_expression 16 false (drop 1 c.args.p.now) ≡ got c.part_last.result.now =
    onward (read_expression 16 false (drop 1 c.args.p.now)) (after-part _ (uses-keeps (expression-uses 16 false (drop 1 c.args.p.now))))
    (rw c.part_from-q.ensures at c.in_ok-left-in-7.ensures) (rw c.part_from-q.ensures at c.part_last.ensures) in
    let r : read_block c.args.d c.part_last.result.now ≡ got c.part_last-in-7.result.now =
    onward {p = drop 1 c.args.p.now} (read_block c.args.d c.part_last.result.now)
    (part-trans (rw (c.part_last.ensures, c.part_from-q.ensures) (last-part _ (drop 1 c.args.p.now))) (after-part _ (uses-keeps (block-uses c.args.d c.part_last.result.now))))
    c.in_ok-rest-in-7.ensures (rw c.part_from-q.ensures at c.part_last-in-7.ensures) in
    c.read_block-in-7.ensures ∙ branch-second c.args.d c.args.p.now (sym c.number_at-verb.ensures ∙ c.in-7.is) q r

pub read_statement-returns-in_ok-left-in-8 : goal.read_statement-returns-in_ok-left-in-8
read_statement-returns-in_ok-left-in-8 t c =
    let q : read_expression 16 false (drop 1 c.args.p.now) ≡ got c.part_last-in-8.result.now =
    onward (read_expression 16 false (drop 1 c.args.p.now)) (after-part _ (uses-keeps (expression-uses 16 false (drop 1 c.args.p.now))))
    (rw c.part_from-q.ensures at c.in_ok-left-in-8.ensures) (rw c.part_from-q.ensures at c.part_last-in-8.ensures) in
    c.read_block-in-8.ensures ∙ loop-body c.args.d c.args.p.now (sym c.number_at-verb.ensures ∙ c.in-8.is) q
