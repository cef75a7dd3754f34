use Rattle.program.proofs.BlockLaws.{InFields}
use Rattle.program.proofs.blocks.read_fields.Given as goal

abbrev pub invariant-loop : goal.invariant-loop
invariant-loop l = InFields l.n l.p l.counter l.left l.seen
