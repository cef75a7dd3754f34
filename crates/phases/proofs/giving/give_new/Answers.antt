use mathlib.Core.Path.{ap, ◌∙◌}
use Rattle.std.proofs.lemmas.Result.{err_from_is_err_and}
use Rattle.tables.specs.Records.{record_count}
use Rattle.phases.proofs.ClassLaws.{unmarked-none}
use Rattle.phases.proofs.PhaseLaws.{does-same, heap-seen, new-nowhere, new-full, new-clash, new-moves}
use Rattle.phases.proofs.giving.give_new.Goals as goal

pub returns-then-x-ge-VARIABLES-clause-does : goal.returns-then-x-ge-VARIABLES-clause-does
returns-then-x-ge-VARIABLES-clause-does c = rw (c.at.ensures, c.part_from.ensures) (new-nowhere c.args.program.now c.args.p.now c.args.t.now.constraints.now c.args.proposals.now c.args.t.now.environment.now c.args.t.now.heap.now c.args.x c.args.fields.now c.args.n c.if-x-ge-VARIABLES.true)

pub returns-then-r-ge-RECORDS-clause-does : goal.returns-then-r-ge-RECORDS-clause-does
returns-then-r-ge-RECORDS-clause-does c =
    let r = c.record_count-r.ensures ∙ ap record_count (heap-seen c.view-seen.ensures.cells) in
    rw c.at-then-r-ge-RECORDS.ensures (new-full c.args.program.now c.args.p.now c.args.t.now.constraints.now c.args.proposals.now c.args.t.now.environment.now c.args.t.now.heap.now c.args.x c.args.fields.now c.args.n c.if-x-ge-VARIABLES.false (rw r at c.if-r-ge-RECORDS.true))

pub mark_class-requires-clause-unmarked : goal.mark_class-requires-clause-unmarked
mark_class-requires-clause-unmarked c = unmarked-none

pub returns-in_err-mark_class-clause-does : goal.returns-in_err-mark_class-clause-does
returns-in_err-mark_class-clause-does c =
    let r = c.record_count-r.ensures ∙ ap record_count (heap-seen c.view-seen.ensures.cells) in
    let e = err_from_is_err_and c.from_residual.result c.from_residual.ensures.1 in
    rw (e.1, e.2) (new-clash c.args.program.now c.args.p.now c.args.t.now.constraints.now c.args.proposals.now c.args.t.now.environment.now c.args.t.now.heap.now c.args.x c.args.fields.now c.args.n c.if-x-ge-VARIABLES.false (rw r at c.if-r-ge-RECORDS.false) (rw (c.view-seen.ensures.cells, c.view-seen.ensures.kept, r) at c.mark_class.ensures) c.in_err-mark_class.was)

pub returns-clause-does : goal.returns-clause-does
returns-clause-does c =
    let r = c.record_count-r.ensures ∙ ap record_count (heap-seen c.view-seen.ensures.cells) in
    does-same (new-moves c.args.program.now c.args.p.now c.args.t.now.constraints.now c.args.proposals.now c.args.t.now.environment.now c.args.t.now.heap.now c.args.x c.args.fields.now c.args.n c.if-x-ge-VARIABLES.false (rw r at c.if-r-ge-RECORDS.false) (rw (c.view-seen.ensures.cells, c.view-seen.ensures.kept, r) at c.mark_class.ensures) c.in_ok-mark_class.was) c.move_new.ensures.does
