use Rattle.std.proofs.Common.{◌∙◌}
use Rattle.std.proofs.lemmas.Result.{err_from_is_err_and}
use Rattle.tables.specs.Lending.{seen}
use Rattle.expressions.proofs.OperandLaws.{valued-deep}
use Rattle.expressions.proofs.EvaluateLaws.{operand-falls, ends-alone, ends-refused, ends-settled, walking-goes-on}
use Rattle.expressions.proofs.values.+evaluate_at_operand.Goals as goal

pub evaluate_at-operand-requires : goal.evaluate_at-operand-requires
evaluate_at-operand-requires t c = (rw (← c.decreases) (operand-falls c.row_at.ensures c.in_ok-row.was c.loop-j.invariant c.part_last-q.ensures), tt)

pub evaluate_at-returns-in_err-j : goal.evaluate_at-returns-in_err-j
evaluate_at-returns-in_err-j t c =
    let e = err_from_is_err_and c.from_residual-in_err-j.result c.from_residual-in_err-j.ensures.1 in
    rw (e.1, e.2) (ends-refused c.row_at.ensures c.in_ok-row.was c.loop-j.invariant c.part_last-q.ensures (rw c.in_err-j.was at c.operand.ensures))

pub evaluate_at-returns-in_default : goal.evaluate_at-returns-in_default
evaluate_at-returns-in_default t c = ends-alone c.row_at.ensures c.in_ok-row.was c.loop-j.invariant c.part_last-q.ensures c.in_default.is (rw c.in_ok-j.was at c.operand.ensures)

pub evaluate_at-returns-in-Some-first : goal.evaluate_at-returns-in-Some-first
evaluate_at-returns-in-Some-first t c =
    c.settled.ensures ∙ ends-settled c.row_at.ensures c.in_ok-row.was c.loop-j.invariant c.part_last-q.ensures c.in-Some.is (rw c.in_ok-j.was at c.operand.ensures) c.in-Some-first.is

pub evaluate_at-loop-j-preserved : goal.evaluate_at-loop-j-preserved
evaluate_at-loop-j-preserved t c =
    walking-goes-on c.row_at.ensures c.in_ok-row.was c.loop-j.invariant c.part_last-q.ensures c.in-Some.is (rw c.in_ok-j.was at c.operand.ensures) c.in_default-first.is

pub operand-returns-then-d-eq0 : goal.operand-returns-then-d-eq0
operand-returns-then-d-eq0 t c = rw c.at.ensures (valued-deep c.args.inside (seen c.args.t.now) c.args.d c.args.p.now c.if-d-eq0.true)
