use Rattle.std.proofs.lemmas.Result.{err_from_is_err_and}
use Rattle.tables.specs.Lending.{cells_moved}
use Rattle.phases.proofs.ClassLaws.{unmarked-none}
use Rattle.phases.proofs.PhaseLaws.{does-same, target-low, give-lost, give-clash, give-way-clash, give-moves}
use Rattle.phases.proofs.giving.give.Goals as goal

pub returns-in_err-target-clause-does : goal.returns-in_err-target-clause-does
returns-in_err-target-clause-does c =
    let e = err_from_is_err_and c.from_residual.result c.from_residual.ensures.1 in
    rw (e.1, e.2) (give-lost c.args.program.now c.args.p.now c.args.t.now.constraints.now c.args.proposals.now (cells_moved c.args.t.now) c.args.v c.part_from-q.ensures (rw c.view-seen.ensures.cells at c.cell_at.ensures) c.in_err-target.was)

pub mark_class-requires : goal.mark_class-requires
mark_class-requires c = record { target_lt_locations = target-low c.args.program.now c.args.p.now c.args.t.now.constraints.now c.args.proposals.now (cells_moved c.args.t.now) c.args.v c.part_from-q.ensures (rw c.view-seen.ensures.cells at c.cell_at.ensures) c.in_ok-target.was; unmarked = unmarked-none }

pub returns-in_err-mark_class-clause-does : goal.returns-in_err-mark_class-clause-does
returns-in_err-mark_class-clause-does c =
    let e = err_from_is_err_and c.from_residual-in_err-mark_class.result c.from_residual-in_err-mark_class.ensures.1 in
    rw (e.1, e.2) (give-clash c.args.program.now c.args.p.now c.args.t.now.constraints.now c.args.proposals.now (cells_moved c.args.t.now) c.args.v c.part_from-q.ensures (rw c.view-seen.ensures.cells at c.cell_at.ensures) c.in_ok-target.was (rw (c.view-seen.ensures.cells, c.view-seen.ensures.kept) at c.mark_class.ensures) c.in_err-mark_class.was)

pub returns-then-not-is_way_free-clause-does : goal.returns-then-not-is_way_free-clause-does
returns-then-not-is_way_free-clause-does c = rw c.at.ensures (give-way-clash c.args.program.now c.args.p.now c.args.t.now.constraints.now c.args.proposals.now (cells_moved c.args.t.now) c.args.v c.part_from-q.ensures (rw c.view-seen.ensures.cells at c.cell_at.ensures) c.in_ok-target.was (rw (c.view-seen.ensures.cells, c.view-seen.ensures.kept) at c.mark_class.ensures) c.in_ok-mark_class.was (rw c.view-seen.ensures.cells at c.is_way_free.ensures) c.if-not-is_way_free.true)

pub returns-clause-does : goal.returns-clause-does
returns-clause-does c = does-same (give-moves c.args.program.now c.args.p.now c.args.t.now.constraints.now c.args.proposals.now (cells_moved c.args.t.now) c.args.v c.part_from-q.ensures (rw c.view-seen.ensures.cells at c.cell_at.ensures) c.in_ok-target.was (rw (c.view-seen.ensures.cells, c.view-seen.ensures.kept) at c.mark_class.ensures) c.in_ok-mark_class.was (rw c.view-seen.ensures.cells at c.is_way_free.ensures) c.if-not-is_way_free.false) c.move_class.ensures.does
