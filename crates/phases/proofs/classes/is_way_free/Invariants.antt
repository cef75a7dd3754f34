use Rattle.words.specs.Bits.{marked}
use Rattle.tables.specs.Lending.{seen}
use Rattle.phases.proofs.FreeLaws.{Freeing}
use Rattle.phases.proofs.classes.is_way_free.Given as goal

abbrev pub invariant-loop-i : goal.invariant-loop-i
invariant-loop-i l = Freeing (seen l.t) (marked l.class) l.v l.p l.i l.at
