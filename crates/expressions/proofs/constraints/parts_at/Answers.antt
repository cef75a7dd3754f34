use Rattle.std.proofs.lemmas.Result.{err_from_is_err_and}
use Rattle.expressions.proofs.ConstraintLaws.{parts-start, parts-stop, parts-go-on, parts-end}
use Rattle.expressions.proofs.constraints.parts_at.Goals as goal

pub loop-i-init : goal.loop-i-init
loop-i-init c = parts-start

pub returns-in_err-part : goal.returns-in_err-part
returns-in_err-part c =
    let e = err_from_is_err_and c.from_residual.result c.from_residual.ensures.1 in
    rw (e.1, e.2) (parts-stop c.loop-i.invariant c.loop-i-test.true c.part_last.ensures c.part_at.ensures c.in_err-part.was)

pub loop-i-preserved : goal.loop-i-preserved
loop-i-preserved c = parts-go-on c.loop-i.invariant c.loop-i-test.true c.part_last.ensures c.part_at.ensures c.in_ok-part.was

pub returns : goal.returns
returns c = parts-end c.loop-i.invariant c.loop-i-test.false
