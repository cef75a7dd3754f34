-- The rules' paths, nearer to the code: one label at a time, and the cell alone. Assumes nothing: these are definitions.
use Rattle.std.specs.Prelude.{ℕ, zero, suc, List, [], ◌∷◌, ℤ, drop, None, Option, Some}
use Rattle.words.specs.Words.{number_at}
use Rattle.tables.specs.declared.Value.{Value}
use Rattle.tables.specs.declared.Value.TheVariants.{Nil, Bool as Truth, Int, Ref}
use Rattle.tables.specs.Cells.{Cells}
use Rattle.tables.specs.Records.{field_with}
use Rattle.rules.specs.State.{slot_at}

abbrev pub step_from : List ℤ → Option Value → ℕ → Option ℕ
step_from h (Some (Ref r)) label = field_with h r label
step_from h (Some Nil) label = None
step_from h (Some (Truth b)) label = None
step_from h (Some (Int n)) label = None
step_from h None label = None

-- the cell that one label leads to from the cell l
unfoldable pub step_to : Cells → ℕ → ℕ → Option ℕ
step_to S l label = step_from S.heap (slot_at S l) label

abbrev pub land_on : Option ℕ → (ℕ → (Option ℕ)) → Option ℕ
land_on (Some next) f = f next
land_on None f = None

-- the cell that n labels lead to
unfoldable pub landed : Cells → ℕ → ℕ → List ℤ → Option ℕ
landed S zero l p = Some l
landed S (suc n) l p = land_on (step_to S l (number_at p 0)) (λ next. landed S n next (drop 1 p))

-- what is found there
abbrev pub slot_in : Cells → Option ℕ → Option Value
slot_in S (Some l) = slot_at S l
slot_in S None = None

-- the cells that n labels lead through from the cell l, as far as they lead
abbrev pub through : Option ℕ → (ℕ → List ℕ) → List ℕ
through (Some next) f = f next
through None f = []

unfoldable pub passed : Cells → ℕ → ℕ → List ℤ → List ℕ
passed S zero l p = []
passed S (suc n) l p = l ∷ through (step_to S l (number_at p 0)) (λ next. passed S n next (drop 1 p))
