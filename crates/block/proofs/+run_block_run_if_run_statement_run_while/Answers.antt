use mathlib.Core.Path.{sym, ap, ◌∙◌}
use native.Mathlib.Omega.{arith}
use Rattle.std.specs.Prelude.{Ok}
use Rattle.phases.specs.Told.{state_in}
use Rattle.block.proofs.RunLaws.{past-test, past-block, block-deep, block-long, row-starts, row-halts, row-quits, row-goes-on, row_ends, if-refused, if-first, if-second}
use Rattle.block.proofs.RunLaws.{turning-starts, turning-refused, turning-quits, turning-halts, turning-broke, turning-less, turning-again, statement-simple, statement-begins, statement-broke, statement-if, statement-while}
use Rattle.block.proofs.+run_block_run_if_run_statement_run_while.Goals as goal

pub run_block-returns-then-d-eq0-clause-goes : goal.run_block-returns-then-d-eq0-clause-goes
run_block-returns-then-d-eq0-clause-goes t c = block-deep c.args.program.now c.args.budget c.args.p.now c.args.proposals.now (state_in c.args.t.now) c.requires c.less.ensures c.args.d c.if-d-eq0.true c.ended.ensures

pub run_block-returns-then-n-gt-MOST_STATEMENTS-clause-goes : goal.run_block-returns-then-n-gt-MOST_STATEMENTS-clause-goes
run_block-returns-then-n-gt-MOST_STATEMENTS-clause-goes t c = block-long c.args.program.now c.args.budget c.args.p.now c.args.proposals.now (state_in c.args.t.now) c.requires c.less-then-n-gt-MOST_STATEMENTS.ensures c.args.d c.if-d-eq0.false (rw c.number_at-n.ensures at c.if-n-gt-MOST_STATEMENTS.true) c.ended-then-n-gt-MOST_STATEMENTS.ensures

pub run_block-loop-i-init : goal.run_block-loop-i-init
run_block-loop-i-init t c = rw (c.less-left.ensures, c.number_at-n.ensures) (row-starts c.if-d-eq0.false (rw c.number_at-n.ensures at c.if-n-gt-MOST_STATEMENTS.false) c.requires)

pub run_block-run_statement-w-requires : goal.run_block-run_statement-w-requires
run_block-run_statement-w-requires t c = (omega (arith, c.decreases, c.if-d-eq0.false), c.loop-i.invariant.begins)

pub run_block-returns-then-w-ne0-clause-goes : goal.run_block-returns-then-w-ne0-clause-goes
run_block-returns-then-w-ne0-clause-goes t c = row-halts c.loop-i.invariant c.loop-i-test.true c.part_last-q.ensures c.run_statement-w.new.t c.run_statement-w.ensures.goes c.if-w-ne0.true

pub run_block-returns-then-n-i-clause-goes : goal.run_block-returns-then-n-i-clause-goes
run_block-returns-then-n-i-clause-goes t c = row-quits c.loop-i.invariant c.loop-i-test.true c.part_last-q.ensures c.run_statement-w.new.t c.run_statement-w.ensures.goes c.if-w-ne0.false c.if-n-i.true

pub run_block-loop-i-preserved : goal.run_block-loop-i-preserved
run_block-loop-i-preserved t c = row-goes-on c.loop-i.invariant c.loop-i-test.true c.part_last-q.ensures c.run_statement-w.new.t c.run_statement-w.ensures.goes c.if-w-ne0.false c.read_statement.ensures c.words_left-left.ensures c.run_statement-w.ensures.lent

pub run_block-returns-clause-goes : goal.run_block-returns-clause-goes
run_block-returns-clause-goes t c = row_ends c.loop-i.invariant c.loop-i-test.false

pub run_if-run_block-requires : goal.run_if-run_block-requires
run_if-run_block-requires t c = (omega (arith, c.decreases), c.requires)

pub run_if-returns-then-b-clause-goes : goal.run_if-returns-then-b-clause-goes
run_if-returns-then-b-clause-goes t c = if-first c.args.program.now c.args.budget c.args.p.now c.args.proposals.now (state_in c.args.t.now) c.args.tally c.args.d c.part_from-q.ensures (rw c.view-seen.ensures.cells at c.test_at.ensures) (c.in-Ok.is ∙ ap Ok c.if-b.true) (past-test c.args.p.now c.part_from-q.ensures c.read_expression.ensures c.words_left-left.ensures c.part_last-first.ensures) c.run_block.ensures.goes

pub run_if-run_block-requires-in-Ok : goal.run_if-run_block-requires-in-Ok
run_if-run_block-requires-in-Ok t c = (omega (arith, c.decreases), c.requires)

pub run_if-returns-in-Err-clause-goes : goal.run_if-returns-in-Err-clause-goes
run_if-returns-in-Err-clause-goes t c = if-refused c.args.program.now c.args.budget c.args.p.now c.args.proposals.now (state_in c.args.t.now) c.args.tally c.args.d c.part_from-q.ensures (rw c.view-seen.ensures.cells at c.test_at.ensures) c.requires c.less.ensures c.in-Err.is c.ended.ensures

pub run_if-returns-else-b-clause-goes : goal.run_if-returns-else-b-clause-goes
run_if-returns-else-b-clause-goes t c = if-second c.args.program.now c.args.budget c.args.p.now c.args.proposals.now (state_in c.args.t.now) c.args.tally c.args.d c.part_from-q.ensures (rw c.view-seen.ensures.cells at c.test_at.ensures) (c.in-Ok.is ∙ ap Ok c.if-b.false) (past-test c.args.p.now c.part_from-q.ensures c.read_expression.ensures c.words_left-left.ensures c.part_last-first.ensures) (past-block c.args.d c.part_last-first.result.now c.read_block.ensures c.words_left-skipped.ensures c.part_last-second.ensures) c.run_block-in-Ok.ensures.goes

pub run_statement-returns-then-not-holds_blocks-clause-goes : goal.run_statement-returns-then-not-holds_blocks-clause-goes
run_statement-returns-then-not-holds_blocks-clause-goes t c = statement-simple c.args.program.now c.args.budget c.args.p.now c.args.proposals.now (state_in c.args.t.now) c.args.d c.requires (sym c.if-not-holds_blocks.true ∙ (rw (c.from-verb.ensures, c.number_at.ensures) at c.holds_blocks.ensures)) c.stepped_on.ensures.steps

pub run_statement-returns-then-u-ne0-clause-goes : goal.run_statement-returns-then-u-ne0-clause-goes
run_statement-returns-then-u-ne0-clause-goes t c = statement-broke c.args.program.now c.args.budget c.args.p.now c.args.proposals.now (state_in c.args.t.now) c.args.d c.requires c.less.ensures c.pay-u.ensures c.if-u-ne0.true

pub run_statement-run_if-requires : goal.run_statement-run_if-requires
run_statement-run_if-requires t c = (omega (arith, c.decreases), statement-begins c.args.program.now c.args.budget c.args.p.now c.args.proposals.now (state_in c.args.t.now) c.args.d c.requires c.less.ensures c.pay-u.ensures c.if-u-ne0.false)

pub run_statement-returns-in-If-clause-goes : goal.run_statement-returns-in-If-clause-goes
run_statement-returns-in-If-clause-goes t c = statement-if c.args.program.now c.args.budget c.args.p.now c.args.proposals.now (state_in c.args.t.now) c.args.d c.requires c.less.ensures c.pay-u.ensures c.if-u-ne0.false (sym (rw c.number_at.ensures at c.from-verb.ensures) ∙ c.in-If.is) c.run_if.ensures.goes

pub run_statement-run_while-requires : goal.run_statement-run_while-requires
run_statement-run_while-requires t c = (omega (arith, c.decreases), statement-begins c.args.program.now c.args.budget c.args.p.now c.args.proposals.now (state_in c.args.t.now) c.args.d c.requires c.less.ensures c.pay-u.ensures c.if-u-ne0.false)

pub run_statement-returns-in_default-clause-goes : goal.run_statement-returns-in_default-clause-goes
run_statement-returns-in_default-clause-goes t c = statement-while c.args.program.now c.args.budget c.args.p.now c.args.proposals.now (state_in c.args.t.now) c.args.d c.requires c.less.ensures c.pay-u.ensures c.if-u-ne0.false (sym c.if-not-holds_blocks.false ∙ (rw (c.from-verb.ensures, c.number_at.ensures) at c.holds_blocks.ensures)) (λ e. c.in_default.not-If ((rw c.number_at.ensures at c.from-verb.ensures) ∙ e)) c.run_while.ensures.goes

pub run_while-turns-init : goal.run_while-turns-init
run_while-turns-init t c = turning-starts c.part_from-q.ensures (past-test c.args.p.now c.part_from-q.ensures c.read_expression.ensures c.words_left-left.ensures c.part_last-body.ensures) c.less-while_place.ensures c.requires

pub run_while-returns-in-Err-clause-goes : goal.run_while-returns-in-Err-clause-goes
run_while-returns-in-Err-clause-goes t c = turning-refused c.turns.invariant (rw c.view-seen.ensures.cells at c.test_at.ensures) c.less.ensures c.in-Err.is c.ended.ensures

pub run_while-returns-then-not-b-clause-goes : goal.run_while-returns-then-not-b-clause-goes
run_while-returns-then-not-b-clause-goes t c = turning-quits c.turns.invariant (rw c.view-seen.ensures.cells at c.test_at.ensures) (c.in-Ok.is ∙ ap Ok c.if-not-b.true)

pub run_while-run_block-w-requires : goal.run_while-run_block-w-requires
run_while-run_block-w-requires t c = (omega (arith, c.decreases), c.turns.invariant.begins)

pub run_while-returns-then-w-ne0-clause-goes : goal.run_while-returns-then-w-ne0-clause-goes
run_while-returns-then-w-ne0-clause-goes t c = turning-halts c.turns.invariant (rw c.view-seen.ensures.cells at c.test_at.ensures) (c.in-Ok.is ∙ ap Ok c.if-not-b.false) c.run_block-w.new.t c.run_block-w.ensures.goes c.if-w-ne0.true

pub run_while-returns-then-u-ne0-clause-goes : goal.run_while-returns-then-u-ne0-clause-goes
run_while-returns-then-u-ne0-clause-goes t c = turning-broke c.turns.invariant (rw c.view-seen.ensures.cells at c.test_at.ensures) (c.in-Ok.is ∙ ap Ok c.if-not-b.false) c.run_block-w.new.t c.run_block-w.ensures.goes c.if-w-ne0.false c.pay-u.ensures c.if-u-ne0.true

pub run_while-turns-smaller : goal.run_while-turns-smaller
run_while-turns-smaller t c = turning-less c.turns.invariant (rw c.view-seen.ensures.cells at c.test_at.ensures) (c.in-Ok.is ∙ ap Ok c.if-not-b.false) c.run_block-w.new.t c.run_block-w.ensures.goes c.if-w-ne0.false c.pay-u.ensures c.if-u-ne0.false

pub run_while-turns-preserved : goal.run_while-turns-preserved
run_while-turns-preserved t c = turning-again c.turns.invariant (rw c.view-seen.ensures.cells at c.test_at.ensures) (c.in-Ok.is ∙ ap Ok c.if-not-b.false) c.run_block-w.new.t c.run_block-w.ensures.goes c.if-w-ne0.false c.pay-u.ensures c.if-u-ne0.false c.run_block-w.ensures.lent
