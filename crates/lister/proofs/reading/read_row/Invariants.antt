use Rattle.std.proofs.Common.{◌≡◌, length}
use Rattle.lister.proofs.ReadingLaws.{Rowing}
use Rattle.lister.proofs.reading.read_row.Given as goal

abbrev pub invariant-loop-piece : goal.invariant-loop-piece
invariant-loop-piece l = Rowing l.s l.initial.out l.out l.n × (length l.yielded ≡ l.n)
