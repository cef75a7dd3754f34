use Rattle.program.specs.Reading.{read_part, read_parts}
use Rattle.program.proofs.RowLaws.{InRow}
use Rattle.program.proofs.reading.read_parts.Given as goal

abbrev pub invariant-loop : goal.invariant-loop
invariant-loop l = InRow read_part l.m l.p (read_parts l.m l.p) l.counter l.left
