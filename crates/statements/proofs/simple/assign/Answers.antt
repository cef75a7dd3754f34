use Rattle.std.proofs.Common.{rules, sym}
use Rattle.std.proofs.lemmas.Result.{err_from_is_err_and}
use Rattle.tables.specs.Lending.{cells_in}
use Rattle.phases.proofs.PhaseLaws.{does-same}
use Rattle.statements.proofs.SimpleLaws.{moved, path-after, assign-fails, assign-gives}
use Rattle.statements.proofs.simple.assign.Goals as goal

pub returns-in_err-v-clause-does : goal.returns-in_err-v-clause-does
returns-in_err-v-clause-does c =
    let a = path-after c.args.p.now c.part_from-q.ensures c.read_path.ensures c.words_left-left.ensures c.part_last-e.ensures in
    let e = err_from_is_err_and c.from_residual.result c.from_residual.ensures.1 in
    rw (e.1, e.2)
    (assign-fails c.args.program.now c.args.p.now c.args.t.now.constraints.now c.args.proposals.now (cells_in c.args.t.now) a (rw c.view-seen.ensures.cells at c.find_value.ensures) c.in_err-v.was)

pub returns-clause-does : goal.returns-clause-does
returns-clause-does c =
    let a = path-after c.args.p.now c.part_from-q.ensures c.read_path.ensures c.words_left-left.ensures c.part_last-e.ensures in
    moved c.give.new.t (search rules) (search rules) (sym c.give.ensures.rest.kept)
    (does-same
    (assign-gives c.args.program.now c.args.p.now c.args.t.now.constraints.now c.args.proposals.now (cells_in c.args.t.now) a (rw c.view-seen.ensures.cells at c.find_value.ensures) c.in_ok-v.was)
    c.give.ensures.does)
