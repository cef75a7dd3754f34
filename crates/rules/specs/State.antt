-- The state of a run, and refusals (01, "Lent tables", "What comes back"). Assumes nothing: these are definitions.
use Rattle.std.specs.Prelude.{ℕ, zero, suc, List, [], ◌∷◌, ℤ, length, None, Option, Some}
use Rattle.words.specs.Answer.{Answer, got, stop}
use Rattle.tables.specs.declared.Value.{Value}
use Rattle.tables.specs.declared.Sort.{Sort}
use Rattle.tables.specs.Values.{slot_of}
use Rattle.tables.specs.Sizes.{environment_words, heap_words, constraints_words}
use Rattle.tables.specs.Cells.{Cells, cells, cell_at, fresh}
use Rattle.tables.specs.Kept.{kept_count, position_at}
use Rattle.program.specs.declared.Refusal.{Refusal}
use Rattle.program.specs.Reading.{Reading}

-- the three lent tables: the environment and the heap with their cells, and the constraints
pub record State : Type 0 where
  pub cells : Cells
  pub kept : List ℤ

unfoldable pub fresh_state : State
fresh_state = record { cells = cells (fresh environment_words) (fresh heap_words); kept = fresh constraints_words }

-- a refusal: its number (01's table), and the word at fault, told by how many words of the program are left from it on
abbrev pub Fault : Type 0
Fault = Refusal

abbrev pub Res : Type 0 → Type 0
Res A = Answer Fault A

abbrev pub refused : ℕ → List ℤ → Fault
refused n p = record { number = n; word = length p }

abbrev pub refuse : {A : Type 0} → ℕ → List ℤ → Res A
refuse n p = stop (refused n p)

-- what is missing is a refusal at p
abbrev pub or_refuse : {E A : Type 0} → ℕ → List ℤ → Answer E A → Res A
or_refuse n p (got a) = got a
or_refuse n p (stop e) = refuse n p

-- a piece that does not read is refused with 2; in a program that reads there is none
abbrev pub reads : {A : Type 0} → Reading A → Res A
reads (got a) = got a
reads (stop q) = refuse 2 q

-- what the cell at a location holds
unfoldable pub slot_at : Cells → ℕ → Option Value
slot_at S l = slot_of (cell_at S l)

abbrev pub present : Option Value → Answer (Unit {0}) Value
present (Some v) = got v
present None = stop tt

-- f i, f (i + 1), .. : n of them
unfoldable pub listed : {A : Type 0} → (ℕ → A) → ℕ → ℕ → List A
listed f i zero = []
listed f i (suc n) = f i ∷ listed f (suc i) n

-- the kept positions of a sort, in kept order
unfoldable pub positions : List ℤ → Sort → List ℕ
positions c s = listed (position_at c s) 0 (kept_count c s)
