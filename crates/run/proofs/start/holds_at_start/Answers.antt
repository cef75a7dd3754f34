use mathlib.Core.Path.{◌∙◌}
use Rattle.tables.specs.Lending.{seen}
use Rattle.tables.specs.declared.Sort.TheVariants.{Values, Identities}
use Rattle.rules.specs.State.{positions}
use Rattle.rules.specs.Start.{values_hold, identities_hold, early}
use Rattle.run.proofs.BeginLaws.{held-stop, held_on, held-last-stop, held-last-on}
use Rattle.run.proofs.start.holds_at_start.Goals as goal

pub returns-in-Err : goal.returns-in-Err
returns-in-Err c =
    held-stop 4 (values_hold c.args.program.now (seen c.args.t.now) (positions c.args.t.now.constraints.now Values)) c.values_hold.ensures _ c.in-Err.is

pub returns-in-Err-identities_hold : goal.returns-in-Err-identities_hold
returns-in-Err-identities_hold c =
    held-last-stop 4 (identities_hold c.args.program.now (seen c.args.t.now) (positions c.args.t.now.constraints.now Identities)) c.identities_hold.ensures c.in-Err-identities_hold.is
    ∙ held_on 4 (values_hold c.args.program.now (seen c.args.t.now) (positions c.args.t.now.constraints.now Values)) c.values_hold.ensures (early 4 (identities_hold c.args.program.now (seen c.args.t.now) (positions c.args.t.now.constraints.now Identities))) c.in-Ok.is

pub returns-in-Ok-identities_hold : goal.returns-in-Ok-identities_hold
returns-in-Ok-identities_hold c =
    held-last-on 4 (identities_hold c.args.program.now (seen c.args.t.now) (positions c.args.t.now.constraints.now Identities)) c.identities_hold.ensures c.in-Ok-identities_hold.is
    ∙ held_on 4 (values_hold c.args.program.now (seen c.args.t.now) (positions c.args.t.now.constraints.now Values)) c.values_hold.ensures (early 4 (identities_hold c.args.program.now (seen c.args.t.now) (positions c.args.t.now.constraints.now Identities))) c.in-Ok.is
