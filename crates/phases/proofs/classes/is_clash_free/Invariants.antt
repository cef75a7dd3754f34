use Rattle.words.specs.Bits.{marked}
use Rattle.tables.specs.Lending.{seen}
use Rattle.phases.specs.Tying.{identity_at}
use Rattle.phases.proofs.FreeLaws.{FreeingTies}
use Rattle.phases.proofs.classes.is_clash_free.Given as goal

abbrev pub invariant-loop-i : goal.invariant-loop-i
invariant-loop-i l = FreeingTies (seen l.t) (marked l.class) l.v (identity_at l.program l.t.constraints.now) l.n l.i
