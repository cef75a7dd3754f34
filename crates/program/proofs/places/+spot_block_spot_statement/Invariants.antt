use Prim.Native.Nat.{◌+◌, ◌*◌}
use Rattle.program.proofs.WhereLaws.{Looking}
use Rattle.program.proofs.places.+spot_block_spot_statement.Given as goal

abbrev pub decreases-spot_block : goal.decreases-spot_block
decreases-spot_block l = 2 * l.d

abbrev pub decreases-spot_statement : goal.decreases-spot_statement
decreases-spot_statement l = 2 * l.d + 1

abbrev pub invariant-spot_block-loop : goal.invariant-spot_block-loop
invariant-spot_block-loop l = Looking l.d l.left l.n l.p l.counter l.here
