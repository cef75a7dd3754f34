use Rattle.lister.proofs.BufferLaws.{Writing}
use Rattle.lister.proofs.bytes.put_all.Given as goal

abbrev pub invariant-loop-b : goal.invariant-loop-b
invariant-loop-b l = Writing l.initial.out l.at l.s l.out l.to l.b-index
