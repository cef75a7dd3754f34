use Prim.Native.Nat.{◌+◌, ◌*◌}
use Rattle.program.proofs.MarkingLaws.{Marking}
use Rattle.program.proofs.marking.+mark_block_mark_statement.Given as goal

abbrev pub decreases-mark_block : goal.decreases-mark_block
decreases-mark_block l = 2 * l.d

abbrev pub decreases-mark_statement : goal.decreases-mark_statement
decreases-mark_statement l = 2 * l.d + 1

abbrev pub invariant-mark_block-loop : goal.invariant-mark_block-loop
invariant-mark_block-loop l = Marking l.d l.total l.n l.p l.counter l.here l.initial.marks l.marks
