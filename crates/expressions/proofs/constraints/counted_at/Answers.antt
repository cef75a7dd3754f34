use Rattle.std.proofs.lemmas.Result.{err_from_is_err_and}
use Rattle.tables.specs.Lending.{seen}
use Rattle.expressions.specs.Judging.{own_in}
use Rattle.expressions.proofs.ConstraintLaws.{counted-own, counted-kept, counted-both}
use Rattle.expressions.proofs.constraints.counted_at.Goals as goal

pub returns-in_err-ours : goal.returns-in_err-ours
returns-in_err-ours c =
    let e = err_from_is_err_and c.from_residual.result c.from_residual.ensures.1 in
    rw (e.1, e.2) (counted-own c.args.program.now (seen c.args.t.now) c.args.t.now.constraints.now (own_in c.args.own) c.own_at.ensures c.in_err-ours.was)

pub returns-in_err-kept : goal.returns-in_err-kept
returns-in_err-kept c =
    let e = err_from_is_err_and c.from_residual-in_err-kept.result c.from_residual-in_err-kept.ensures.1 in
    rw (e.1, e.2)
    (counted-kept c.args.program.now (seen c.args.t.now) c.args.t.now.constraints.now (own_in c.args.own) c.own_at.ensures c.in_ok-ours.was c.kept_at.ensures c.in_err-kept.was)

pub returns : goal.returns
returns c =
    counted-both c.args.program.now (seen c.args.t.now) c.args.t.now.constraints.now (own_in c.args.own) c.own_at.ensures c.in_ok-ours.was
    c.kept_at.ensures c.in_ok-kept.was
