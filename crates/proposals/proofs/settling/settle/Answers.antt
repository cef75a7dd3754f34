use Rattle.std.proofs.Common.{sym, ◌∙◌}
use Rattle.std.proofs.lemmas.Result.{err_from_is_err_and}
use Rattle.tables.specs.Lending.{cells_moved}
use Rattle.proposals.specs.Told.{asks_of}
use Rattle.proposals.proofs.FormLaws.{proposed}
use Rattle.proposals.proofs.ProposalLaws.{settle-stops, settle-full, settle-unformed, settle-judged}
use Rattle.proposals.proofs.settling.settle.Goals as goal

pub returns-in_err-parts-clause-settles : goal.returns-in_err-parts-clause-settles
returns-in_err-parts-clause-settles c =
    let a = c.args in
    let e = err_from_is_err_and c.from_residual.result c.from_residual.ensures.1 in
    rw (e.1, e.2)
    (settle-stops a.program.now a.t.now.constraints.now (asks_of a.asked) a.p.now (cells_moved a.t.now) a.proposals.now
    (rw (c.view-v.ensures.cells, c.view-v.ensures.kept) at c.counted_at.ensures) c.in_err-parts.was)

pub returns-then-not-asked-clause-settles : goal.returns-then-not-asked-clause-settles
returns-then-not-asked-clause-settles c =
    let a = c.args in
    rw c.at.ensures
    (settle-full a.program.now a.t.now.constraints.now (asks_of a.asked) a.p.now (cells_moved a.t.now) a.proposals.now
    (rw (c.view-v.ensures.cells, c.view-v.ensures.kept) at c.counted_at.ensures) c.in_ok-parts.was c.if-not-asked.true)

pub judge-requires-clause-n_le_locations : goal.judge-requires-clause-n_le_locations
judge-requires-clause-n_le_locations c = (proposed (sym c.in-Ok.is ∙ c.form_of.ensures)).few

pub returns-in-Err-clause-settles : goal.returns-in-Err-clause-settles
returns-in-Err-clause-settles c =
    let a = c.args in
    rw c.at-in-Err.ensures
    (settle-unformed a.program.now a.t.now.constraints.now (asks_of a.asked) a.p.now (cells_moved a.t.now) a.proposals.now
    (rw (c.view-v.ensures.cells, c.view-v.ensures.kept) at c.counted_at.ensures) c.in_ok-parts.was c.if-not-asked.false (sym c.in-Err.is ∙ c.form_of.ensures))

pub returns-in-Ok-clause-settles : goal.returns-in-Ok-clause-settles
returns-in-Ok-clause-settles c =
    let a = c.args in
    settle-judged a.program.now a.t.now.constraints.now (asks_of a.asked) a.p.now (cells_moved a.t.now) a.proposals.now
    (rw (c.view-v.ensures.cells, c.view-v.ensures.kept) at c.counted_at.ensures) c.in_ok-parts.was c.if-not-asked.false (sym c.in-Ok.is ∙ c.form_of.ensures)
    c.judge.ensures.settles
