use Rattle.tables.specs.Lending.{seen}
use Rattle.tables.specs.declared.Sort.TheVariants.{Identities}
use Rattle.rules.specs.Start.{identities_hold}
use Rattle.run.proofs.BeginLaws.{KeptLeft}
use Rattle.run.proofs.start.identities_hold.Given as goal

abbrev pub invariant-loop-i : goal.invariant-loop-i
invariant-loop-i l = KeptLeft Identities (identities_hold l.program (seen l.t)) l.t.constraints.now l.n l.i
