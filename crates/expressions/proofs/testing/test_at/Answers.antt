use Rattle.std.proofs.Common.{◌∙◌}
use Rattle.std.proofs.lemmas.Result.{err_from_is_err_and}
use Rattle.tables.specs.Lending.{seen}
use Rattle.expressions.proofs.TestLaws.{test-fails, test-comes}
use Rattle.expressions.proofs.testing.test_at.Goals as goal

pub returns-in_err-find_value : goal.returns-in_err-find_value
returns-in_err-find_value c =
    let e = err_from_is_err_and c.from_residual.result c.from_residual.ensures.1 in
    rw (e.1, e.2) (test-fails (seen c.args.t.now) c.args.p.now c.find_value.ensures c.in_err-find_value.was)

pub returns : goal.returns
returns c = c.truth.ensures ∙ test-comes (seen c.args.t.now) c.args.p.now c.find_value.ensures c.in_ok-find_value.was
