-- The statements that hold no block (01, "What a statement does"). p is the part that begins at the statement's word.
-- Assumes nothing: these are definitions.
use Rattle.std.specs.Prelude.{ℕ, zero, suc, ◌-◌, Bool, true, false, cond, ◌||◌, List, [], ◌∷◌, ltb, ℤ, pos, length, drop, None, Some}
use Rattle.words.specs.Answer.{got, ◌>>=◌, ◌>>◌, want}
use Rattle.tables.specs.declared.Value.TheVariants.{Ref}
use Rattle.tables.specs.declared.Sort.{Sort}
use Rattle.tables.specs.declared.Sort.TheVariants.{Values, Identities}
use Rattle.tables.specs.Sizes.{variables, labels, most_fields, most_records}
use Rattle.tables.specs.Values.{cell_of}
use Rattle.tables.specs.Cells.{Cells, cells}
use Rattle.tables.specs.Records.{record_count, with_record}
use Rattle.tables.specs.Kept.{most_kept, kept_count, is_kept, with_position}
use Rattle.program.specs.Forms.{expression_depth}
use Rattle.program.specs.declared.Verb.{Verb}
use Rattle.program.specs.declared.Verb.TheVariants.{Skip as skip, Assign as assign, New as new, Always as always, Once as once, AlwaysSame as always_same, OnceSame as once_same, If as branch, While as loop, Unknown as no_verb}
use Rattle.program.specs.Reading.{number, read_path, after}
use Rattle.rules.specs.State.{State, Fault, Res, refused, refuse, reads}
use Rattle.rules.specs.Paths.{way_at}
use Rattle.rules.specs.Evaluation.{evaluate}
use Rattle.rules.specs.Identities.{same_now, identity_phase}
use Rattle.rules.specs.Proposals.{settle}

-- what an accepted statement leaves: the state, the unread words of the proposals, and how many proposals it took
pub record Left : Type 0 where
  pub state : State
  pub unread : List ℤ
  pub accepted : ℕ

-- the position of the statement at p, and the place of the word at fault
abbrev pub position_of : List ℤ → List ℤ → ℕ
position_of program p = length program - length p

abbrev pub place_of : List ℤ → Fault → ℕ
place_of program f = length program - f.word

-- "A position already kept is not added again"
unfoldable pub has_room : List ℤ → Sort → ℕ → Bool
has_room kept s position = is_kept kept s position || ltb (kept_count kept s) (most_kept s)

unfoldable pub keep : List ℤ → Sort → ℕ → List ℤ
keep kept s position = cond (is_kept kept s position) kept (with_position kept s position)

-- the value phase of an assignment or a new
unfoldable pub value_phase : List ℤ → List ℤ → List ℤ → ℕ → Cells → List ℤ → Res Left
value_phase program kept p target S ws = do
  (Z, unread) ← settle program kept (record { own = None; target = Some target; room = true }) p S ws
  got (record { state = record { cells = Z; kept = kept }; unread = unread; accepted = 1 })

-- "1 assign L e": the expression, the target path, the identity phase, the value phase
unfoldable pub do_assign : List ℤ → List ℤ → State → List ℤ → Res Left
do_assign program p S ws = do
  (v, r) ← evaluate expression_depth S.cells (after (read_path (drop 1 p)))
  w ← way_at S.cells (drop 1 p)
  Z ← identity_phase program S.kept S.cells S.cells p w.cell w.prefix v
  value_phase program S.kept p w.cell Z ws

-- n times label and e: the words of the record's fields, each its label, kind and payload
unfoldable pub field_words : ℕ → Cells → List ℤ → Res (List ℤ)
field_words zero S p = got []
field_words (suc n) S p = do
  (l, q) ← reads (number 0 (labels - 1) p)
  (v, r) ← evaluate expression_depth S q
  more ← field_words n S r
  got (pos l ∷ (cell_of v).kind ∷ (cell_of v).payload ∷ more)

-- "2 new: variable, n (0 to 8), n times label e": 10 "heap full"
unfoldable pub do_new : List ℤ → List ℤ → State → List ℤ → Res Left
do_new program p S ws = do
  (x, q) ← reads (number 0 (variables - 1) (drop 1 p))
  (n, r) ← reads (number 0 most_fields q)
  fs ← field_words n S.cells r
  want (refused 10 p) (ltb (record_count S.cells.heap) most_records)
  Z ← identity_phase program S.kept S.cells (cells S.cells.environment (with_record S.cells.heap fs n)) p x [] (Ref (record_count S.cells.heap))
  value_phase program S.kept p x Z ws

-- "Always C, once C": C must read, then one proposal is read; always keeps the position
unfoldable pub do_constraint : Bool → List ℤ → List ℤ → State → List ℤ → Res Left
do_constraint keeps program p S ws = do
  (Z, unread) ← settle program S.kept (record { own = Some (drop 1 p); target = None; room = cond keeps (has_room S.kept Values (position_of program p)) true }) p S.cells ws
  got (record { state = record { cells = Z; kept = cond keeps (keep S.kept Values (position_of program p)) S.kept }; unread = unread; accepted = 1 })

-- "Identity (5, 6)": 5 keeps the position, 14 where there is no room; no proposal is read
unfoldable pub do_identity : Bool → List ℤ → List ℤ → State → List ℤ → Res Left
do_identity keeps program p S ws = do
  same_now S.cells p (drop 1 p)
  want (refused 14 p) (cond keeps (has_room S.kept Identities (position_of program p)) true)
  got (record { state = record { cells = S.cells; kept = cond keeps (keep S.kept Identities (position_of program p)) S.kept }; unread = ws; accepted = 0 })

-- a statement that holds no block, by itself; one that holds blocks is none of these
unfoldable pub do_simple : List ℤ → List ℤ → State → List ℤ → Verb → Res Left
do_simple program p S ws skip = got (record { state = S; unread = ws; accepted = 0 })
do_simple program p S ws assign = do_assign program p S ws
do_simple program p S ws new = do_new program p S ws
do_simple program p S ws always = do_constraint true program p S ws
do_simple program p S ws once = do_constraint false program p S ws
do_simple program p S ws always_same = do_identity true program p S ws
do_simple program p S ws once_same = do_identity false program p S ws
do_simple program p S ws branch = refuse 2 p
do_simple program p S ws loop = refuse 2 p
do_simple program p S ws no_verb = refuse 2 p
