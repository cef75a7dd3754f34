use Rattle.std.proofs.Common.{sym, ◌∙◌}
use Rattle.std.proofs.lemmas.Result.{err_from_is_err_and}
use Rattle.tables.specs.Lending.{cells_in}
use Rattle.statements.proofs.SimpleLaws.{identify-fails, identify-full, identify-once, identify-keeps}
use Rattle.statements.proofs.simple.identify.Goals as goal

pub returns-in_err-same_now-clause-does : goal.returns-in_err-same_now-clause-does
returns-in_err-same_now-clause-does c =
    let e = err_from_is_err_and c.from_residual.result c.from_residual.ensures.1 in
    rw (e.1, e.2)
    (identify-fails c.args.program.now c.args.p.now c.args.t.now.constraints.now c.args.proposals.now (cells_in c.args.t.now) c.args.keeps (rw c.view-seen.ensures.cells at c.same_now.ensures)
    c.in_err-same_now.was)

pub returns-then-not-keeps-clause-does : goal.returns-then-not-keeps-clause-does
returns-then-not-keeps-clause-does c =
    identify-once c.args.program.now c.args.p.now c.args.t.now.constraints.now c.args.proposals.now (cells_in c.args.t.now) c.args.keeps (rw c.view-seen.ensures.cells at c.same_now.ensures)
    c.in_ok-same_now.was c.if-not-keeps.true

pub returns-then-not-has_room-clause-does : goal.returns-then-not-has_room-clause-does
returns-then-not-has_room-clause-does c =
    rw c.at.ensures
    (identify-full c.args.program.now c.args.p.now c.args.t.now.constraints.now c.args.proposals.now (cells_in c.args.t.now) c.args.keeps (rw c.view-seen.ensures.cells at c.same_now.ensures)
    c.in_ok-same_now.was c.if-not-keeps.false (rw (c.less-position.ensures, c.view-seen.ensures.kept) at (sym c.has_room.ensures ∙ c.if-not-has_room.true)))

pub returns-clause-does : goal.returns-clause-does
returns-clause-does c =
    identify-keeps c.args.program.now c.args.p.now c.args.t.now.constraints.now c.args.proposals.now (cells_in c.args.t.now) c.args.keeps (rw c.view-seen.ensures.cells at c.same_now.ensures)
    c.in_ok-same_now.was c.if-not-keeps.false (rw (c.less-position.ensures, c.view-seen.ensures.kept) at (sym c.has_room.ensures ∙ c.if-not-has_room.false)) (rw c.less-position.ensures at c.keep_once.ensures)
