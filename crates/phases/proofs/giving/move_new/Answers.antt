use mathlib.Core.Path.{ap, ◌∙◌}
use native.Mathlib.Omega.{arith}
use Rattle.tables.specs.Records.{record_count}
use Rattle.phases.proofs.PhaseLaws.{heap-seen, new-back}
use Rattle.phases.proofs.giving.move_new.Goals as goal

pub returns-in-Err-clause-does : goal.returns-in-Err-clause-does
returns-in-Err-clause-does c =
    let h = heap-seen c.view-seen.ensures.cells in
    new-back c.args.program.now c.args.p.now c.args.t.now.constraints.now c.args.proposals.now c.args.t.now.environment.now c.args.t.now.heap.now c.args.fields.now c.args.class.now c.args.n c.args.x
    c.add_record.ensures (c.record_count.ensures ∙ ap record_count h) c.move_class.ensures.does _ (omega arith) (rw h at c.lay_by.ensures) c.in-Err.is c.bring_back.ensures
