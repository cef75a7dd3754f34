-- Paths (01, "What a statement does": "An L names one cell, reached through its prefix cells"). Assumes nothing: these are definitions.
use Rattle.std.specs.Prelude.{ℕ, zero, suc, ◌-◌, List, [], ◌∷◌, ℤ, drop, None, Option, Some}
use Rattle.words.specs.Words.{number_at}
use Rattle.words.specs.Answer.{Answer, got, stop, ◌>>=◌}
use Rattle.tables.specs.declared.Value.{Value}
use Rattle.tables.specs.declared.Value.TheVariants.{Nil, Bool as Truth, Int, Ref}
use Rattle.tables.specs.Sizes.{variables}
use Rattle.tables.specs.Cells.{Cells}
use Rattle.tables.specs.Records.{field_with}
use Rattle.program.specs.Forms.{most_steps}
use Rattle.program.specs.Reading.{number}
use Rattle.rules.specs.State.{Res, or_refuse, reads, slot_at, present}

-- the record that a cell holds a reference to
abbrev pub a_record : Option Value → Answer (Unit {0}) ℕ
a_record (Some (Ref r)) = got r
a_record (Some Nil) = stop tt
a_record (Some (Truth b)) = stop tt
a_record (Some (Int n)) = stop tt
a_record None = stop tt

abbrev pub a_field : Option ℕ → Answer (Unit {0}) ℕ
a_field (Some l) = got l
a_field None = stop tt

-- the cell that n labels, at p, lead to from the cell l, and the cells on the way, l first
unfoldable pub follow : Cells → ℕ → ℕ → List ℤ → Answer (Unit {0}) (ℕ × List ℕ)
follow S zero l p = got (l, [])
follow S (suc n) l p = do
  r ← a_record (slot_at S l)
  next ← a_field (field_with S.heap r (number_at p 0))
  (to, on) ← follow S n next (drop 1 p)
  got (to, l ∷ on)

-- an L: the cell that it names, its prefix cells, and the part after it
pub record Way : Type 0 where
  pub cell : ℕ
  pub prefix : List ℕ
  pub rest : List ℤ

-- "L: variable, n (0 to 7), n labels"; 7 "absent variable, missing field, path through a non-record"
unfoldable pub way_at : Cells → List ℤ → Res Way
way_at S p = do
  (x, q) ← reads (number 0 (variables - 1) p)
  (n, r) ← reads (number 0 most_steps q)
  (to, on) ← or_refuse 7 p (follow S n x r)
  got (record { cell = to; prefix = on; rest = drop n r })

-- the value that an L names, and the part after it
unfoldable pub value_at : Cells → List ℤ → Res (Value × List ℤ)
value_at S p = do
  w ← way_at S p
  v ← or_refuse 7 p (present (slot_at S w.cell))
  got (v, w.rest)
