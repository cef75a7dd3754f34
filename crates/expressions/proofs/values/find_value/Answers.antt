use Rattle.std.proofs.lemmas.Result.{err_from_is_err_and}
use Rattle.tables.specs.Lending.{seen}
use Rattle.expressions.proofs.EvaluateLaws.{value-fails, value-comes}
use Rattle.expressions.proofs.values.find_value.Goals as goal

pub returns-in_err-j : goal.returns-in_err-j
returns-in_err-j c =
    let e = err_from_is_err_and c.from_residual.result c.from_residual.ensures.1 in
    rw (e.1, e.2) (value-fails (seen c.args.t.now) 16 c.args.p.now c.evaluate_at.ensures c.in_err-j.was)

pub returns : goal.returns
returns c = value-comes (seen c.args.t.now) 16 c.args.p.now c.evaluate_at.ensures c.in_ok-j.was
