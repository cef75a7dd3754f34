use Rattle.tables.specs.Lending.{seen}
use Rattle.statements.proofs.FieldLaws.{FieldsLeft}
use Rattle.statements.proofs.simple.field_words.Given as goal

abbrev pub invariant-loop-i : goal.invariant-loop-i
invariant-loop-i l = FieldsLeft (seen l.t) l.n l.p l.initial.fields l.fields l.i l.left
