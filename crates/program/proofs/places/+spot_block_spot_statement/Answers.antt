use mathlib.Core.Path.{◌≡◌, sym, ◌∙◌}
use mathlib.Core.Bool.{false}
use native.Mathlib.Omega.{arith}
use lib.ListN.{drop}
use Rattle.program.specs.Reading.{read_expression, read_block, after}
use Rattle.program.proofs.LengthLaws.{after-part, uses-keeps, expression-uses, block-uses}
use Rattle.program.proofs.WhereLaws.{after_is, spot-loop, spot-branch, looking-starts, looking-finds, looking-goes-on, looking-ends}
use Rattle.program.proofs.places.+spot_block_spot_statement.Goals as goal

pub spot_block-loop-init : goal.spot_block-loop-init
spot_block-loop-init t c = rw (c.less-here.ensures, c.number_at-n.ensures) (looking-starts c.args.d c.args.left c.args.p.now c.if-d-eq0.false (rw c.number_at-n.ensures at c.if-n-gt-MOST_STATEMENTS.false))

pub spot_block-spot_statement-requires : goal.spot_block-spot_statement-requires
spot_block-spot_statement-requires t c = omega (arith, c.decreases, c.if-d-eq0.false)

pub spot_block-returns-in-Some : goal.spot_block-returns-in-Some
spot_block-returns-in-Some t c = looking-finds c.loop.invariant c.loop-test.true c.part_last-q.ensures c.spot_statement.ensures c.in-Some.is

pub spot_block-loop-preserved : goal.spot_block-loop-preserved
spot_block-loop-preserved t c = looking-goes-on c.loop.invariant c.loop-test.true c.part_last-q.ensures c.spot_statement.ensures c.in_default.is c.read_statement.ensures c.words_left-here.ensures

pub spot_block-returns : goal.spot_block-returns
spot_block-returns t c = looking-ends c.loop.invariant c.loop-test.false

pub spot_statement-returns-in-Some : goal.spot_statement-returns-in-Some
spot_statement-returns-in-Some t c =
    let q : c.part_last-b.result.now ≡ after (read_expression 16 false (drop 1 c.args.p.now)) =
    after_is (read_expression 16 false (drop 1 c.args.p.now)) (after-part _ (uses-keeps (expression-uses 16 false (drop 1 c.args.p.now))))
    (rw c.part_from-q.ensures at c.read_expression.ensures) c.words_left-body.ensures (rw c.part_from-q.ensures at c.part_last-b.ensures) in
    let f = sym (rw q at c.spot_block.ensures) ∙ c.in-Some.is in
    rw f at (spot-branch c.args.d c.args.left c.args.p.now c.if-p-left.false (sym c.number_at-verb.ensures ∙ c.in-7.is))

pub spot_statement-returns-in-None : goal.spot_statement-returns-in-None
spot_statement-returns-in-None t c =
    let q : c.part_last-b.result.now ≡ after (read_expression 16 false (drop 1 c.args.p.now)) =
    after_is (read_expression 16 false (drop 1 c.args.p.now)) (after-part _ (uses-keeps (expression-uses 16 false (drop 1 c.args.p.now))))
    (rw c.part_from-q.ensures at c.read_expression.ensures) c.words_left-body.ensures (rw c.part_from-q.ensures at c.part_last-b.ensures) in
    let r : c.part_last.result.now ≡ after (read_block c.args.d c.part_last-b.result.now) =
    after_is (read_block c.args.d c.part_last-b.result.now) (after-part _ (uses-keeps (block-uses c.args.d c.part_last-b.result.now))) c.read_block.ensures c.words_left-rest.ensures c.part_last.ensures in
    let f = sym (rw q at c.spot_block.ensures) ∙ c.in-None.is in
    c.spot_block-in-None.ensures ∙ rw (r, q) (rw f at (spot-branch c.args.d c.args.left c.args.p.now c.if-p-left.false (sym c.number_at-verb.ensures ∙ c.in-7.is)))

pub spot_statement-returns-in-8 : goal.spot_statement-returns-in-8
spot_statement-returns-in-8 t c =
    let q : c.part_last-in-8.result.now ≡ after (read_expression 16 false (drop 1 c.args.p.now)) =
    after_is (read_expression 16 false (drop 1 c.args.p.now)) (after-part _ (uses-keeps (expression-uses 16 false (drop 1 c.args.p.now))))
    (rw c.part_from-q.ensures at c.read_expression-in-8.ensures) c.words_left-body-in-8.ensures (rw c.part_from-q.ensures at c.part_last-in-8.ensures) in
    c.spot_block-in-8.ensures ∙ rw q (spot-loop c.args.d c.args.left c.args.p.now c.if-p-left.false (sym c.number_at-verb.ensures ∙ c.in-8.is))
