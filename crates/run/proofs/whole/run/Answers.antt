use borrow.Author.Rules.{rules}
use Rattle.words.proofs.Signed.{back32}
use Rattle.phases.specs.Told.{tables}
use Rattle.run.proofs.WholeLaws.{meets-early, begins, moved}
use Rattle.run.proofs.whole.run.Goals as goal

pub run_begun-unread-requires : goal.run_begun-unread-requires
run_begun-unread-requires c =
    let b = back32 c.args.budget c.ranges.budget in
    rw b (begins c.args.program.now c.args.budget (tables c.args.environment.now c.args.heap.now c.args.constraints.now) (rw (b, c.view-seen.ensures.cells, c.view-seen.ensures.kept) at c.starts.ensures) c.in-Ok.is)

pub returns-in-Err : goal.returns-in-Err
returns-in-Err c =
    let b = back32 c.args.budget c.ranges.budget in
    meets-early c.args.program.now c.args.proposals.now c.args.budget (tables c.args.environment.now c.args.heap.now c.args.constraints.now) (rw (b, c.view-seen.ensures.cells, c.view-seen.ensures.kept) at c.starts.ensures) c.in-Err.is c.answer_with.ensures

pub returns-in-Ok : goal.returns-in-Ok
returns-in-Ok c =
    let b = back32 c.args.budget c.ranges.budget in
    let l = c.run_begun-unread.ensures.lent in
    rw c.part_last.ensures (moved c.run_begun-unread.new.t (search rules) (search rules) (search rules) (rw b at c.run_begun-unread.ensures.meets))
