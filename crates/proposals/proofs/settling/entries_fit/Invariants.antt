use Rattle.tables.specs.Lending.{seen}
use Rattle.proposals.proofs.ProposalLaws.{EntriesLeft}
use Rattle.proposals.proofs.settling.entries_fit.Given as goal

abbrev pub invariant-loop-i : goal.invariant-loop-i
invariant-loop-i l = EntriesLeft (seen l.t) l.target l.pairs l.n l.i
