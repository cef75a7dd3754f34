use Rattle.typed.proofs.TypedLaws.{typed-refused, typed-written}
use Rattle.typed.proofs.type_program.Goals as goal

pub returns-then-outcome-ne0 : goal.returns-then-outcome-ne0
returns-then-outcome-ne0 c = typed-refused _ c.write-n.ensures c.number_at-outcome.ensures c.if-outcome-ne0.true c.number_at.ensures c.put_refusal.ensures

pub returns : goal.returns
returns c = typed-written _ c.write-n.ensures c.number_at-outcome.ensures c.if-outcome-ne0.false c.part_to.ensures c.put_all-to.ensures c.put.ensures
