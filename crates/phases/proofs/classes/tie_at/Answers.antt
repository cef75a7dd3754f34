use Rattle.std.proofs.lemmas.Result.{err_from_is_err_and}
use Rattle.tables.specs.Lending.{seen}
use Rattle.phases.proofs.TieLaws.{tie-lost, tie-second-lost, tie-found}
use Rattle.phases.proofs.classes.tie_at.Goals as goal

pub returns-in_err-one : goal.returns-in_err-one
returns-in_err-one c =
    let e = err_from_is_err_and c.from_residual.result c.from_residual.ensures.1 in
    rw (e.1, e.2) (tie-lost (seen c.args.t.now) c.args.p.now c.cell_at.ensures c.in_err-one.was)

pub returns-in_err-two : goal.returns-in_err-two
returns-in_err-two c =
    let e = err_from_is_err_and c.from_residual-in_err-two.result c.from_residual-in_err-two.ensures.1 in
    rw (e.1, e.2) (tie-second-lost (seen c.args.t.now) c.args.p.now c.cell_at.ensures c.in_ok-one.was c.part_last.ensures c.cell_at-2.ensures c.in_err-two.was)

pub returns : goal.returns
returns c = tie-found (seen c.args.t.now) c.args.p.now c.cell_at.ensures c.in_ok-one.was c.part_last.ensures c.cell_at-2.ensures c.in_ok-two.was
