use lib.ListN.{drop}
use Rattle.text.specs.Reading.{everywhere}
use Rattle.text.proofs.RaisedLaws.{Filling}
use Rattle.text.proofs.writing.fill.Given as goal

abbrev pub invariant-loop-i : goal.invariant-loop-i
invariant-loop-i l = Filling l.from l.gap l.initial.words (drop l.i l.gap) l.words l.i × Filling l.from (everywhere l.p l.gap) l.initial.origins (everywhere l.p (drop l.i l.gap)) l.origins l.i
