use borrow.Author.Rules.{rules}
use Rattle.words.proofs.Signed.{back32}
use Rattle.phases.specs.Told.{tables, state_in}
use Rattle.run.proofs.WholeLaws.{begins, moved}
use Rattle.entries.proofs.WholeLaws.{meets-early, meets-listed}
use Rattle.entries.proofs.whole.assign.Goals as goal

pub returns-in-Err : goal.returns-in-Err
returns-in-Err c =
    let b = back32 c.args.budget c.ranges.budget in
    meets-early c.args.program.now c.args.entries.now c.args.proposals.now c.args.budget (tables c.args.environment.now c.args.heap.now c.args.constraints.now) (rw (b, c.view-seen.ensures.cells, c.view-seen.ensures.kept) at c.starts.ensures) c.in-Err.is c.answer_with.ensures

pub returns-in-Ok : goal.returns-in-Ok
returns-in-Ok c =
    let b = back32 c.args.budget c.ranges.budget in
    let x = begins c.args.program.now c.args.budget (tables c.args.environment.now c.args.heap.now c.args.constraints.now) (rw (b, c.view-seen.ensures.cells, c.view-seen.ensures.kept) at c.starts.ensures) c.in-Ok.is in
    rw c.part_last.ensures
    (moved c.enter_all-tally.new.t (search rules) (search rules) (search rules)
    (meets-listed c.args.program.now c.args.entries.now c.args.proposals.now c.args.budget (tables c.args.environment.now c.args.heap.now c.args.constraints.now) {Z = state_in c.enter_all-tally.new.t} _ x (rw (rw b at c.number-most.ensures) at c.enter_all-tally.ensures.given) c.answer_with-in-Ok.ensures))
