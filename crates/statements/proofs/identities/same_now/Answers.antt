use Rattle.std.proofs.Common.{sym, ◌∙◌}
use Rattle.std.proofs.lemmas.Result.{err_from_is_err_and}
use Rattle.tables.specs.Lending.{seen}
use Rattle.rules.specs.Paths.{value_at}
use Rattle.rules.proofs.EvaluateClauses.{value-part}
use Rattle.expressions.proofs.LeafLaws.{got-on}
use Rattle.statements.proofs.SimpleLaws.{same_left, same-right, same_kind, same-kinds, same_not, same-holds}
use Rattle.statements.proofs.identities.same_now.Goals as goal

pub returns-in_err-v : goal.returns-in_err-v
returns-in_err-v c =
    let e = err_from_is_err_and c.from_residual.result c.from_residual.ensures.1 in
    rw (e.1, e.2) (same_left (seen c.args.t.now) c.args.s.now c.part_from-p.ensures c.value_at.ensures c.in_err-v.was)

pub returns-in_err-u : goal.returns-in_err-u
returns-in_err-u c =
    let S = seen c.args.t.now in
    let l = got-on (value_at S c.part_from-p.result.now) (value-part S c.part_from-p.result.now) c.value_at.ensures c.in_ok-v.was c.part_last-q.ensures in
    let e = err_from_is_err_and c.from_residual-in_err-u.result c.from_residual-in_err-u.ensures.1 in
    rw (e.1, e.2) (same-right S c.args.s.now c.part_from-p.ensures l c.value_at-2.ensures c.in_err-u.was)

pub returns-then-not-is_node : goal.returns-then-not-is_node
returns-then-not-is_node c =
    let S = seen c.args.t.now in
    let l = got-on (value_at S c.part_from-p.result.now) (value-part S c.part_from-p.result.now) c.value_at.ensures c.in_ok-v.was c.part_last-q.ensures in
    rw c.at.ensures (same_kind S c.args.s.now c.part_from-p.ensures l c.value_at-2.ensures c.in_ok-u.was (sym c.is_node.ensures ∙ c.if-not-is_node.true))

pub returns-then-not-is_node-2 : goal.returns-then-not-is_node-2
returns-then-not-is_node-2 c =
    let S = seen c.args.t.now in
    let l = got-on (value_at S c.part_from-p.result.now) (value-part S c.part_from-p.result.now) c.value_at.ensures c.in_ok-v.was c.part_last-q.ensures in
    rw c.at-then-not-is_node-2.ensures
    (same-kinds S c.args.s.now c.part_from-p.ensures l c.value_at-2.ensures c.in_ok-u.was (sym c.is_node.ensures ∙ c.if-not-is_node.false) (sym c.is_node-2.ensures ∙ c.if-not-is_node-2.true))

pub returns-then-not-are_same : goal.returns-then-not-are_same
returns-then-not-are_same c =
    let S = seen c.args.t.now in
    let l = got-on (value_at S c.part_from-p.result.now) (value-part S c.part_from-p.result.now) c.value_at.ensures c.in_ok-v.was c.part_last-q.ensures in
    rw c.at-then-not-are_same.ensures
    (same_not S c.args.s.now c.part_from-p.ensures l c.value_at-2.ensures c.in_ok-u.was (sym c.is_node.ensures ∙ c.if-not-is_node.false) (sym c.is_node-2.ensures ∙ c.if-not-is_node-2.false)
    (sym c.are_same.ensures ∙ c.if-not-are_same.true))

pub returns : goal.returns
returns c =
    let S = seen c.args.t.now in
    let l = got-on (value_at S c.part_from-p.result.now) (value-part S c.part_from-p.result.now) c.value_at.ensures c.in_ok-v.was c.part_last-q.ensures in
    same-holds S c.args.s.now c.part_from-p.ensures l c.value_at-2.ensures c.in_ok-u.was (sym c.is_node.ensures ∙ c.if-not-is_node.false) (sym c.is_node-2.ensures ∙ c.if-not-is_node-2.false)
    (sym c.are_same.ensures ∙ c.if-not-are_same.false)
