use mathlib.Core.List.{[], ◌∷◌}
use Rattle.printing.specs.Signs.{space, comma_sign}
use Rattle.printing.specs.Printing.{field_text, fields_text}
use Rattle.printing.proofs.RowLaws.{InRow}
use Rattle.printing.proofs.page.Page.fields.Given as goal

abbrev pub invariant-loop-i : goal.invariant-loop-i
invariant-loop-i l =
    InRow l.initial.self (comma_sign ∷ space ∷ []) field_text l.n (fields_text l.p) l.i l.rest l.self
