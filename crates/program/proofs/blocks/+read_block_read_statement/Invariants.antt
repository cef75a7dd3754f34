use Prim.Native.Nat.{◌+◌, ◌-◌, ◌*◌}
use Rattle.program.specs.Reading.{read_block, read_statement}
use Rattle.program.proofs.RowLaws.{InRow}
use Rattle.program.proofs.blocks.+read_block_read_statement.Given as goal

abbrev pub decreases-read_block : goal.decreases-read_block
decreases-read_block l = 2 * l.d

abbrev pub decreases-read_statement : goal.decreases-read_statement
decreases-read_statement l = 2 * l.d + 1

abbrev pub invariant-read_block-loop : goal.invariant-read_block-loop
invariant-read_block-loop l = InRow (read_statement (l.d - 1)) l.n l.p (read_block l.d l.p) l.counter l.left
