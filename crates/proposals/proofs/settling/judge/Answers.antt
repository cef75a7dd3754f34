use borrow.Author.Tests.{not-true, not-false}
use Rattle.tables.specs.Lending.{cells_moved}
use Rattle.proposals.specs.Told.{asks_of}
use Rattle.proposals.proofs.ProposalLaws.{judge-unmet, judge-takes, judge-unfit, judge-needless, judge-tries}
use Rattle.proposals.proofs.settling.judge.Goals as goal

pub returns-then-not-parts-clause-settles : goal.returns-then-not-parts-clause-settles
returns-then-not-parts-clause-settles c =
    let a = c.args in
    rw c.at.ensures
    (judge-unmet a.program.now a.t.now.constraints.now (asks_of a.asked) a.p.now (cells_moved a.t.now) a.proposals.now a.n
    c.requires.heap_value c.if-n-eq0.true (not-true _ c.if-not-parts.true))

pub returns-then-n-eq0-clause-settles : goal.returns-then-n-eq0-clause-settles
returns-then-n-eq0-clause-settles c =
    let a = c.args in
    rw c.less.ensures
    (judge-takes a.program.now a.t.now.constraints.now (asks_of a.asked) a.p.now (cells_moved a.t.now) a.proposals.now a.n
    c.requires.heap_value c.if-n-eq0.true (not-false _ c.if-not-parts.false))

pub returns-then-not-entries_fit-clause-settles : goal.returns-then-not-entries_fit-clause-settles
returns-then-not-entries_fit-clause-settles c =
    let a = c.args in
    rw c.at-then-not-entries_fit.ensures
    (judge-unfit a.program.now a.t.now.constraints.now (asks_of a.asked) a.p.now (cells_moved a.t.now) a.proposals.now a.n a.parts.all
    (rw (c.part_from.ensures, c.view-v.ensures.cells) at c.entries_fit.ensures) c.if-not-entries_fit.true)

pub returns-then-parts-clause-settles : goal.returns-then-parts-clause-settles
returns-then-parts-clause-settles c =
    let a = c.args in
    rw c.at-then-parts.ensures
    (judge-needless a.program.now a.t.now.constraints.now (asks_of a.asked) a.p.now (cells_moved a.t.now) a.proposals.now a.n a.parts.all
    (rw (c.part_from.ensures, c.view-v.ensures.cells) at c.entries_fit.ensures) c.if-n-eq0.false c.if-not-entries_fit.false c.if-parts.true)

pub returns-clause-settles : goal.returns-clause-settles
returns-clause-settles c =
    let a = c.args in
    judge-tries a.program.now a.t.now.constraints.now (asks_of a.asked) a.p.now (cells_moved a.t.now) a.proposals.now a.n a.parts.all
    (rw (c.part_from.ensures, c.view-v.ensures.cells) at c.entries_fit.ensures) c.if-not-entries_fit.false c.if-parts.false c.try_pairs.ensures.settles
