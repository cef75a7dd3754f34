use Rattle.expressions.proofs.ConstraintLaws.{kept-start, kept-stop, kept-go-on, kept-end}
use Rattle.expressions.proofs.constraints.kept_at.Goals as goal

pub loop-i-init : goal.loop-i-init
loop-i-init c = kept-start c.kept_count-n.ensures

pub returns-in-Err : goal.returns-in-Err
returns-in-Err c =
    kept-stop c.loop-i.invariant c.loop-i-test.true (rw (c.part_from-statement.ensures, c.position_at.ensures) at c.part_from.ensures) c.constraint_at.ensures c.in-Err.is

pub loop-i-preserved : goal.loop-i-preserved
loop-i-preserved c =
    kept-go-on c.loop-i.invariant c.loop-i-test.true (rw (c.part_from-statement.ensures, c.position_at.ensures) at c.part_from.ensures) c.constraint_at.ensures c.in-Ok.is

pub returns : goal.returns
returns c = kept-end c.loop-i.invariant c.loop-i-test.false
