use mathlib.Core.List.{[], ◌∷◌}
use Rattle.printing.specs.Signs.{space, beside_sign}
use Rattle.printing.specs.Printing.{part_text, constraint_text}
use Rattle.printing.proofs.RowLaws.{InRow}
use Rattle.printing.proofs.page.Page.constraint.Given as goal

abbrev pub invariant-loop-i : goal.invariant-loop-i
invariant-loop-i l =
    InRow l.initial.self (space ∷ beside_sign ∷ space ∷ []) part_text l.m (constraint_text l.p) l.i l.rest l.self
