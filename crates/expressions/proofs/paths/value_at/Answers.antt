use Rattle.std.proofs.lemmas.Result.{err_from_is_err_and}
use Rattle.tables.specs.Lending.{seen}
use Rattle.expressions.proofs.PathLaws.{value-lost, value-named}
use Rattle.expressions.proofs.paths.value_at.Goals as goal

pub returns-in_err-named : goal.returns-in_err-named
returns-in_err-named c =
    let e = err_from_is_err_and c.from_residual.result c.from_residual.ensures.1 in
    rw (e.1, e.2) (value-lost (seen c.args.t.now) c.args.p.now c.cell_at.ensures c.in_err-named.was)

pub returns-in-Some : goal.returns-in-Some
returns-in-Some c =
    let e = value-named (seen c.args.t.now) c.args.p.now {n = c.in_ok-named.named} c.cell_at.ensures c.in_ok-named.was c.value.ensures in
    rw c.in-Some.is at e

pub returns-in-None : goal.returns-in-None
returns-in-None c =
    let e = value-named (seen c.args.t.now) c.args.p.now {n = c.in_ok-named.named} c.cell_at.ensures c.in_ok-named.was c.value.ensures in
    rw c.at.ensures (rw c.in-None.is at e)
