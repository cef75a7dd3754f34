use mathlib.Core.Path.{refl}
use Rattle.typed.proofs.TypedLaws.{typed-reads, typed-unfit}
use Rattle.typed.proofs.typed_text.Goals as goal

pub returns-in-Err : goal.returns-in-Err
returns-in-Err c = typed-unfit _ (rw c.in-Err.is at c.read_input.ensures) c.write_unfit.ensures

pub returns-in-Ok : goal.returns-in-Ok
returns-in-Ok c = typed-reads _ refl (rw c.in-Ok.is at c.read_input.ensures) c.part_to.ensures c.type_program.ensures
