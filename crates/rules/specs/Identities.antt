-- Kept identities, and the identity phase (01, "What a statement does"; 000, stay_prefix). Assumes nothing: these are definitions.
use Rattle.std.specs.Prelude.{ℕ, ◌+◌, Bool, true, false, not, cond, ◌&&◌, ◌||◌, List, [], ◌∷◌, ◌++◌, eqb, ℤ, drop, None, Option, Some}
use Rattle.words.specs.Answer.{got, ◌>>=◌, ◌>>◌, want}
use Rattle.tables.specs.declared.Value.{Value}
use Rattle.tables.specs.declared.Value.TheVariants.{Nil, Bool as Truth, Int, Ref}
use Rattle.tables.specs.declared.Sort.TheVariants.{Identities}
use Rattle.tables.specs.Values.{cell_of}
use Rattle.tables.specs.Cells.{Cells, put_cell}
use Rattle.rules.specs.State.{Res, refused, slot_at, positions}
use Rattle.rules.specs.Paths.{way_at, value_at}
use Rattle.rules.specs.Evaluation.{same}

-- "references or nil"
unfoldable pub is_node : Value → Bool
is_node Nil = true
is_node (Truth b) = false
is_node (Int n) = false
is_node (Ref r) = true

-- "both sides must now hold references or nil, and the same one": paths 7, 8, 11; p is the part at L == L, and `word` the statement's
unfoldable pub same_now : Cells → List ℤ → List ℤ → Res (Unit {0})
same_now S word p = do
  (v, q) ← value_at S p
  (w, r) ← value_at S q
  want (refused 8 p) (is_node v)
  want (refused 8 q) (is_node w)
  want (refused 11 word) (same v w)

-- the two cells that a kept identity names, and the prefix cells of both sides
pub record Tie : Type 0 where
  pub one : ℕ
  pub two : ℕ
  pub prefix : List ℕ

unfoldable pub tie_at : Cells → List ℤ → Res Tie
tie_at S p = do
  a ← way_at S p
  b ← way_at S a.rest
  got (record { one = a.cell; two = b.cell; prefix = a.prefix ++ b.prefix })

unfoldable pub ties_of : List ℤ → Cells → List ℕ → Res (List Tie)
ties_of program S [] = got []
ties_of program S (position ∷ more) = do
  t ← tie_at S (drop (position + 1) program)
  ts ← ties_of program S more
  got (t ∷ ts)

-- every kept identity, "followed in the state before the statement"
unfoldable pub ties : List ℤ → List ℤ → Cells → Res (List Tie)
ties program kept S = ties_of program S (positions kept Identities)

unfoldable pub member : ℕ → List ℕ → Bool
member x [] = false
member x (y ∷ ys) = eqb x y || member x ys

-- "frozen are the prefix cells of the target and of both sides of every kept identity"
unfoldable pub frozen_by : List Tie → List ℕ
frozen_by [] = []
frozen_by (t ∷ ts) = t.prefix ++ frozen_by ts

-- the cells with both ends of each tie that has an end among them, and so on as often as there are ties:
-- "the target and every cell tied to it through kept identities"
unfoldable pub grown : List Tie → List ℕ → List ℕ
grown [] c = c
grown (t ∷ ts) c = cond (member t.one c || member t.two c) (grown ts (t.one ∷ t.two ∷ c)) (grown ts c)

unfoldable pub grown_by : List Tie → List Tie → List ℕ → List ℕ
grown_by [] ts c = c
grown_by (t ∷ more) ts c = grown_by more ts (grown ts c)

unfoldable pub class_of : List Tie → ℕ → List ℕ
class_of ts target = grown_by ts ts (target ∷ [])

-- "If an identity names the target"
unfoldable pub names : List Tie → ℕ → Bool
names [] l = false
names (t ∷ ts) l = eqb t.one l || eqb t.two l || names ts l

abbrev pub is : Option Value → Value → Bool
is (Some w) v = same w v
is None v = false

-- "If a frozen cell is in the class and now holds something else, the clash refuses the statement."
unfoldable pub clash_free : Cells → List ℕ → Value → List ℕ → Bool
clash_free S frozen v [] = true
clash_free S frozen v (l ∷ ls) = (not (member l frozen) || is (slot_at S l) v) && clash_free S frozen v ls

-- "the whole class takes the value and nothing else moves"
unfoldable pub put_all : Cells → List ℕ → Value → Cells
put_all S [] v = S
put_all S (l ∷ ls) v = put_all (put_cell S l (cell_of v)) ls v

-- the target, reached through its prefix, takes the value v: paths are followed in `before`, and `now` is written; 13, then 12, at the statement's word
unfoldable pub identity_phase : List ℤ → List ℤ → Cells → Cells → List ℤ → ℕ → List ℕ → Value → Res Cells
identity_phase program kept before now word target prefix v = do
  ts ← ties program kept before
  want (refused 13 word) (not (names ts target) || is_node v)
  want (refused 12 word) (clash_free before (prefix ++ frozen_by ts) v (class_of ts target))
  got (put_all now (class_of ts target) v)
