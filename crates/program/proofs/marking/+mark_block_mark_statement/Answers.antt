use mathlib.Core.Path.{◌≡◌, sym, ◌∙◌}
use mathlib.Core.Bool.{false}
use native.Mathlib.Omega.{arith}
use lib.ListN.{drop}
use Rattle.program.specs.Reading.{read_expression, read_block, after}
use Rattle.program.proofs.LengthLaws.{after-part, uses-keeps, expression-uses, block-uses}
use Rattle.program.proofs.WhereLaws.{after_is}
use Rattle.program.proofs.MarkingLaws.{rest-short, last-short, mark-none, mark-loop, mark-branch, mark-deep, mark-long, marking-starts, marking-goes-on, marking-ends}
use Rattle.program.proofs.marking.+mark_block_mark_statement.Goals as goal

pub mark_block-returns-then-d-eq0 : goal.mark_block-returns-then-d-eq0
mark_block-returns-then-d-eq0 t c = mark-deep c.args.d c.args.total c.args.p.now c.if-d-eq0.true

pub mark_block-returns-then-n-gt-MOST_STATEMENTS : goal.mark_block-returns-then-n-gt-MOST_STATEMENTS
mark_block-returns-then-n-gt-MOST_STATEMENTS t c = mark-long c.args.d c.args.total c.args.p.now c.if-d-eq0.false (rw c.number_at-n.ensures at c.if-n-gt-MOST_STATEMENTS.true)

pub mark_block-loop-init : goal.mark_block-loop-init
mark_block-loop-init t c = rw (c.less-here.ensures, c.number_at-n.ensures) (marking-starts c.args.d c.args.total c.args.p.now c.if-d-eq0.false (rw c.number_at-n.ensures at c.if-n-gt-MOST_STATEMENTS.false))

pub mark_block-mark_statement-requires : goal.mark_block-mark_statement-requires
mark_block-mark_statement-requires t c = (omega (arith, c.decreases, c.if-d-eq0.false), last-short c.args.p.now c.loop.here c.part_last-q.ensures c.requires)

pub mark_block-loop-preserved : goal.mark_block-loop-preserved
mark_block-loop-preserved t c = marking-goes-on c.loop.invariant c.loop-test.true c.part_last-q.ensures c.mark_statement.ensures c.mark_statement.auto.marks c.read_statement.ensures c.words_left-here.ensures

pub mark_block-shape_of-marks : goal.mark_block-shape_of-marks
mark_block-shape_of-marks t c = c.loop.invariant.kept

pub mark_block-returns : goal.mark_block-returns
mark_block-returns t c = marking-ends c.loop.invariant c.loop-test.false

pub mark_statement-overflow_sub-total : goal.mark_statement-overflow_sub-total
mark_statement-overflow_sub-total t c = omega (arith, c.requires)

pub mark_statement-mark_block-requires : goal.mark_statement-mark_block-requires
mark_statement-mark_block-requires t c = (omega (arith, c.decreases), last-short c.part_from-q.result.now c.words_left-left.result c.part_last-b.ensures (rest-short c.args.p.now c.part_from-q.ensures c.requires))

pub mark_statement-mark_block-requires-in-7 : goal.mark_statement-mark_block-requires-in-7
mark_statement-mark_block-requires-in-7 t c = (omega (arith, c.decreases), last-short c.part_last-b.result.now c.words_left-rest.result c.part_last.ensures (last-short c.part_from-q.result.now c.words_left-left.result c.part_last-b.ensures (rest-short c.args.p.now c.part_from-q.ensures c.requires)))

pub mark_statement-mark_block-requires-in-8 : goal.mark_statement-mark_block-requires-in-8
mark_statement-mark_block-requires-in-8 t c = (omega (arith, c.decreases), last-short c.part_from-q.result.now c.words_left-left-in-8.result c.part_last-in-8.ensures (rest-short c.args.p.now c.part_from-q.ensures c.requires))

pub mark_statement-returns-in-7 : goal.mark_statement-returns-in-7
mark_statement-returns-in-7 t c =
    let q : c.part_last-b.result.now ≡ after (read_expression 16 false (drop 1 c.args.p.now)) =
    after_is (read_expression 16 false (drop 1 c.args.p.now)) (after-part _ (uses-keeps (expression-uses 16 false (drop 1 c.args.p.now))))
    (rw c.part_from-q.ensures at c.read_expression.ensures) c.words_left-left.ensures (rw c.part_from-q.ensures at c.part_last-b.ensures) in
    let r : c.part_last.result.now ≡ after (read_block c.args.d c.part_last-b.result.now) =
    after_is (read_block c.args.d c.part_last-b.result.now) (after-part _ (uses-keeps (block-uses c.args.d c.part_last-b.result.now))) c.read_block.ensures c.words_left-rest.ensures c.part_last.ensures in
    mark-branch c.args.d c.args.total c.args.p.now c.requires c.args.marks.now c.mark.ensures (sym c.number_at.ensures ∙ c.in-7.is)
    (rw q at c.mark_block.ensures) c.mark_block.auto.marks (rw (r, q) at c.mark_block-in-7.ensures)

pub mark_statement-returns-in-8 : goal.mark_statement-returns-in-8
mark_statement-returns-in-8 t c =
    let q : c.part_last-in-8.result.now ≡ after (read_expression 16 false (drop 1 c.args.p.now)) =
    after_is (read_expression 16 false (drop 1 c.args.p.now)) (after-part _ (uses-keeps (expression-uses 16 false (drop 1 c.args.p.now))))
    (rw c.part_from-q.ensures at c.read_expression-in-8.ensures) c.words_left-left-in-8.ensures (rw c.part_from-q.ensures at c.part_last-in-8.ensures) in
    mark-loop c.args.d c.args.total c.args.p.now c.requires c.args.marks.now c.mark.ensures (sym c.number_at.ensures ∙ c.in-8.is) (rw q at c.mark_block-in-8.ensures)

pub mark_statement-returns-in_default : goal.mark_statement-returns-in_default
mark_statement-returns-in_default t c =
    mark-none c.args.d c.args.total c.args.p.now c.requires c.args.marks.now c.mark.ensures (λ e. omega (arith, e, c.number_at.ensures)) (λ e. omega (arith, e, c.number_at.ensures))
