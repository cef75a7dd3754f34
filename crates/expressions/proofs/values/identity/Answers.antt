use Rattle.std.proofs.Common.{◌≡◌}
use Rattle.std.proofs.lemmas.Result.{err_from_is_err_and}
use Rattle.words.specs.Answer.{got}
use Rattle.tables.specs.Lending.{seen}
use Rattle.rules.specs.Paths.{value_at}
use Rattle.rules.proofs.EvaluateClauses.{value-part}
use Rattle.expressions.proofs.LeafLaws.{got-on, identity-left, identity-right, identity-both}
use Rattle.expressions.proofs.values.identity.Goals as goal

pub returns-in_err-a : goal.returns-in_err-a
returns-in_err-a c =
    let e = err_from_is_err_and c.from_residual.result c.from_residual.ensures.1 in
    rw (e.1, e.2) (identity-left (seen c.args.t.now) c.args.q.now c.value_at.ensures c.in_err-a.was)

pub returns-in_err-b : goal.returns-in_err-b
returns-in_err-b c =
    let l : value_at (seen c.args.t.now) c.args.q.now ≡ got (c.in_ok-a.a.value, c.part_last.result.now) =
    got-on (value_at (seen c.args.t.now) c.args.q.now) (λ x e. value-part (seen c.args.t.now) c.args.q.now x e) c.value_at.ensures c.in_ok-a.was c.part_last.ensures in
    let e = err_from_is_err_and c.from_residual-in_err-b.result c.from_residual-in_err-b.ensures.1 in
    rw (e.1, e.2) (identity-right (seen c.args.t.now) c.args.q.now l c.value_at-2.ensures c.in_err-b.was)

pub returns : goal.returns
returns c =
    let l : value_at (seen c.args.t.now) c.args.q.now ≡ got (c.in_ok-a.a.value, c.part_last.result.now) =
    got-on (value_at (seen c.args.t.now) c.args.q.now) (λ x e. value-part (seen c.args.t.now) c.args.q.now x e) c.value_at.ensures c.in_ok-a.was c.part_last.ensures in
    rw (c.gives.ensures, c.are_same.ensures) (identity-both (seen c.args.t.now) c.args.q.now l c.value_at-2.ensures c.in_ok-b.was)
