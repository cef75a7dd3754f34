use Rattle.std.proofs.Common.{sym, ap, ◌∙◌, arith}
use Rattle.lent.specs.Tallied.{accepted_in, done_by}
use Rattle.lent.proofs.counting.tallied.Goals as goal

pub overflow_add-result : goal.overflow_add-result
overflow_add-result c = omega (arith, c.requires, ap accepted_in c.in-Ok.is)

pub returns-in-Ok : goal.returns-in-Ok
returns-in-Ok c = ap (done_by c.args.long c.args.t) (sym c.in-Ok.is)

pub returns-in-Err : goal.returns-in-Err
returns-in-Err c = (rw c.less.ensures at c.ended.ensures) ∙ ap (done_by c.args.long c.args.t) (sym c.in-Err.is)
