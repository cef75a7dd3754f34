-- The identity phase, nearer to the code: the class first, and then the cells that take the value. Assumes nothing: these are definitions.
use Rattle.std.specs.Prelude.{ℕ, ◌≤◌, ◌≡◌, false, not, ◌||◌, List, [], ltb, ℤ, length, drop, Result, Ok, Err}
use Rattle.words.specs.Bits.{marked}
use Rattle.words.specs.Answer.{got, stop, ◌>>=◌, ◌>>◌, want}
use Rattle.tables.specs.declared.Value.{Value}
use Rattle.tables.specs.declared.Value.TheVariants.{Ref}
use Rattle.tables.specs.Sizes.{variables, most_records}
use Rattle.tables.specs.Cells.{Cells, cells}
use Rattle.tables.specs.Records.{record_count, with_record}
use Rattle.program.specs.declared.Refusal.{Refusal}
use Rattle.rules.specs.State.{State, Res, refused}
use Rattle.rules.specs.Paths.{way_at}
use Rattle.rules.specs.Identities.{is_node, ties, frozen_by, class_of, names, clash_free, member, identity_phase}
use Rattle.rules.specs.Statements.{Left, value_phase}
use Rattle.phases.specs.Sizes.{marks_words, class_cells}
use Rattle.phases.specs.Taking.{cells_of}

-- the class of the target, reached through no cells, that is to take v: 13, then 12, at the statement's word
unfoldable pub class_for : List ℤ → List ℤ → Cells → List ℤ → ℕ → Value → Res (List ℕ)
class_for program kept before word target v = do
  ts ← ties program kept before
  want (refused 13 word) (not (names ts target) || is_node v)
  want (refused 12 word) (clash_free before (frozen_by ts) v (class_of ts target))
  got (class_of ts target)

-- no cell is marked
pub record Unmarked (class : List ℕ) : Type 0 where
  pub long : length class ≡ marks_words
  pub none : (l : ℕ) → marked class l ≡ false

-- the cells of the class are marked, and no others
pub record Finds (class : List ℕ) (m : Res (List ℕ)) : Type 0 where
  pub list : List ℕ
  pub is : m ≡ got list
  pub long : length class ≡ marks_words
  pub few : length (cells_of class) ≤ class_cells
  pub marks : (l : ℕ) → marked class l ≡ member l list
  pub same : (l : ℕ) → member l (cells_of class) ≡ member l list

pub record Classes (class : List ℕ) (r : Result (Unit {0}) Refusal) (m : Res (List ℕ)) : Type 0 where
  pub refuses : (f : Refusal) → r ≡ Err f → m ≡ stop f
  pub finds : r ≡ Ok tt → Finds class m

-- the L of the assignment at p takes the value v, and then the value phase
unfoldable pub gives : List ℤ → List ℤ → State → List ℤ → Value → Res Left
gives program p S ws v = do
  w ← way_at S.cells (drop 1 p)
  Z ← identity_phase program S.kept S.cells S.cells p w.cell w.prefix v
  value_phase program S.kept p w.cell Z ws

-- the variable x takes a new record of n fields, and then the value phase; what is no variable is refused as `do_new` refuses it, at the word after p's first
unfoldable pub gives_new : List ℤ → List ℤ → State → List ℤ → ℕ → List ℤ → ℕ → Res Left
gives_new program p S ws x fs n = do
  want (refused 2 (drop 1 p)) (ltb x variables)
  want (refused 10 p) (ltb (record_count S.cells.heap) most_records)
  Z ← identity_phase program S.kept S.cells (cells S.cells.environment (with_record S.cells.heap fs n)) p x [] (Ref (record_count S.cells.heap))
  value_phase program S.kept p x Z ws
