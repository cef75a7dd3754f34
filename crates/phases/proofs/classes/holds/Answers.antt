use mathlib.Core.Path.{sym, ◌∙◌}
use Rattle.tables.specs.Lending.{seen}
use Rattle.rules.proofs.PathClauses.{slot_is}
use Rattle.phases.proofs.classes.holds.Goals as goal

pub returns-in-None : goal.returns-in-None
returns-in-None c = rw (sym (slot_is (seen c.args.t.now) c.args.l) ∙ sym c.value.ensures ∙ c.in-None.is)

pub returns-in-Some : goal.returns-in-Some
returns-in-Some c = rw (sym (slot_is (seen c.args.t.now) c.args.l) ∙ sym c.value.ensures ∙ c.in-Some.is) c.are_same.ensures
