use borrow.Author.Tests.{not-true, not-false}
use Rattle.tables.specs.Lending.{cells_moved}
use Rattle.expressions.specs.Judging.{own_in}
use Rattle.proposals.proofs.ProposalLaws.{try-stops, try-unmet, try-takes}
use Rattle.proposals.proofs.settling.try_saving.Goals as goal

pub returns-in-Err-clause-settles : goal.returns-in-Err-clause-settles
returns-in-Err-clause-settles c =
    let a = c.args in
    let parts = rw (c.view-v.ensures.cells, c.view-v.ensures.kept, c.apply.ensures.rest.kept) at c.counted_at.ensures in
    try-stops a.program.now a.t.now.constraints.now (own_in a.own) a.p.now (cells_moved a.t.now) a.proposals.now a.n
    (rw c.part_from-pairs.ensures at c.apply.ensures.applies) parts c.in-Err.is (rw c.part_from-pairs.ensures at c.put_back.ensures.cells)

pub returns-then-not-parts-clause-settles : goal.returns-then-not-parts-clause-settles
returns-then-not-parts-clause-settles c =
    let a = c.args in
    let parts = rw (c.view-v.ensures.cells, c.view-v.ensures.kept, c.apply.ensures.rest.kept) at c.counted_at.ensures in
    rw c.at.ensures
    (try-unmet a.program.now a.t.now.constraints.now (own_in a.own) a.p.now (cells_moved a.t.now) a.proposals.now a.n
    (rw c.part_from-pairs.ensures at c.apply.ensures.applies) parts c.in-Ok.is (not-true _ c.if-not-parts.true)
    (rw c.part_from-pairs.ensures at c.put_back-then-not-parts.ensures.cells))

pub returns-else-not-parts-clause-settles : goal.returns-else-not-parts-clause-settles
returns-else-not-parts-clause-settles c =
    let a = c.args in
    let parts = rw (c.view-v.ensures.cells, c.view-v.ensures.kept, c.apply.ensures.rest.kept) at c.counted_at.ensures in
    rw c.less.ensures
    (try-takes a.program.now a.t.now.constraints.now (own_in a.own) a.p.now (cells_moved a.t.now) a.proposals.now a.n
    (rw c.part_from-pairs.ensures at c.apply.ensures.applies) parts c.in-Ok.is (not-false _ c.if-not-parts.false))
