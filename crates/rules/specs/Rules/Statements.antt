-- The rules of statements that hold no block (000, 6.1.2, narrowed by document 01): which are accepted and what they leave, which are refused and with which number.
-- p is the part that begins at the statement's word. Assumes nothing: these are definitions.
use Rattle.std.specs.Prelude.{◌≡◌, ◌≢◌, ◌↔◌, ℕ, suc, ◌+◌, ◌<◌, ◌≤◌, Bool, true, false, List, [], ◌∷◌, ℤ, pos, length, drop, Option, None, Some}
use Rattle.words.specs.Words.{number_at}
use Rattle.tables.specs.declared.Value.{Value}
use Rattle.tables.specs.declared.Value.TheVariants.{Ref}
use Rattle.tables.specs.declared.Sort.{Sort}
use Rattle.tables.specs.declared.Sort.TheVariants.{Values, Identities}
use Rattle.tables.specs.Sizes.{variables, labels, most_fields, most_records, field_location}
use Rattle.tables.specs.Values.{cell_of}
use Rattle.tables.specs.Cells.{Cells, cell_at}
use Rattle.tables.specs.Records.{record_count, count_at, label_at}
use Rattle.tables.specs.Kept.{most_kept, kept_count, is_kept, with_position}
use Rattle.program.specs.Forms.{expression_depth}
use Rattle.rules.specs.State.{State, Fault, refused}
use Rattle.rules.specs.Paths.{Way}
use Rattle.rules.specs.Proposals.{Asked}
use Rattle.rules.specs.Statements.{Left, position_of}
use Rattle.rules.specs.Rules.Expressions.{Names, Within, Astray, Meets}
use Rattle.rules.specs.Rules.Identities.{Same, Unsame, Phase, PhaseFails}
use Rattle.rules.specs.Rules.Proposals.{Settles, Unsettled}

-- ---- a new record

-- "n times label e", n of them at p: the labels with their values
pub data FieldsAre (S : Cells) : ℕ → List ℤ → List (ℕ × Value) → Type 0 where
  no_field : {p : List ℤ} → FieldsAre S 0 p []
  field : {n label : ℕ} {v : Value} {p q : List ℤ} {fs : List (ℕ × Value)}
      → label < labels → Within S expression_depth p v q → FieldsAre S n q fs → FieldsAre S (suc n) (pos label ∷ p) ((label, v) ∷ fs)

-- 7, 8, 9 in one of them, "as met"
pub data FieldsMeet (S : Cells) : ℕ → List ℤ → Fault → Type 0 where
  first : {m label : ℕ} {f : Fault} {p : List ℤ} → label < labels → Meets S false expression_depth p f → FieldsMeet S (suc m) (pos label ∷ p) f
  later : {m label : ℕ} {f : Fault} {v : Value} {p q : List ℤ} → label < labels → Within S expression_depth p v q → FieldsMeet S m q f → FieldsMeet S (suc m) (pos label ∷ p) f

-- record r has these fields, from field place f on
pub data Written (S : Cells) (r : ℕ) : ℕ → List (ℕ × Value) → Type 0 where
  no_more : {f : ℕ} → Written S r f []
  next : {f : ℕ} {x : ℕ × Value} {fs : List (ℕ × Value)}
      → label_at S.heap r f ≡ x.0 → cell_at S (field_location r f) ≡ cell_of x.1 → Written S r (suc f) fs → Written S r f (x ∷ fs)

-- "New first adds a record, numbered by the old count, with fields in the order written"; nothing else moves
pub record Adds (S : Cells) (fs : List (ℕ × Value)) (now : Cells) : Type 0 where
  pub records : record_count now.heap ≡ suc (record_count S.heap)
  pub count : count_at now.heap (record_count S.heap) ≡ length fs
  pub fields : Written now (record_count S.heap) 0 fs
  pub counts : (r : ℕ) → r ≢ record_count S.heap → count_at now.heap r ≡ count_at S.heap r
  pub labels : (r f : ℕ) → (r ≡ record_count S.heap → f < length fs → ⊥) → label_at now.heap r f ≡ label_at S.heap r f
  pub cells : (l : ℕ) → ((f : ℕ) → f < length fs → l ≢ field_location (record_count S.heap) f) → cell_at now l ≡ cell_at S l
  pub environment_length : length now.environment ≡ length S.environment
  pub heap_length : length now.heap ≡ length S.heap

-- ---- a position that is kept

-- "A position already kept is not added again"; 14, where there is none, "no room for a position not yet kept"
pub data Keeps (kept : List ℤ) (s : Sort) (position : ℕ) : List ℤ → Type 0 where
  again : is_kept kept s position ≡ true → Keeps kept s position kept
  added : is_kept kept s position ≡ false → kept_count kept s < most_kept s → Keeps kept s position (with_position kept s position)

-- ---- accepted

abbrev pub leaves : Cells → List ℤ → List ℤ → ℕ → Left
leaves Z kept unread accepted = record { state = record { cells = Z; kept = kept }; unread = unread; accepted = accepted }

-- what is asked of a proposal: by a C that is its own, of a target that keeps its value, and whether there is room for a position
abbrev pub asking : Option (List ℤ) → Option ℕ → Bool → Asked
asking c target b = record { own = c; target = target; room = b }

-- the part after the L at p: "L: variable, n (0 to 7), n labels"
abbrev pub past_path : List ℤ → List ℤ
past_path p = drop (number_at p 1 + 2) p

-- the statement at p gives a value to a target, which is reached through prefix cells; the last are the tables that the identity phase then writes
pub data Gives (S : Cells) : List ℤ → ℕ → List ℕ → Value → Cells → Type 0 where
  -- S-ASGN: the value, the target
  assigns : {v : Value} {w : Way} {p r : List ℤ} → Within S expression_depth (past_path p) v r → Names S p w → Gives S (pos 1 ∷ p) w.cell w.prefix v S
  -- S-ASGNNEW: the values of the fields, the new record
  makes : {x n : ℕ} {fs : List (ℕ × Value)} {N : Cells} {p : List ℤ} → x < variables → n ≤ most_fields → FieldsAre S n p fs
      → record_count S.heap < most_records → Adds S fs N → Gives S (pos 2 ∷ pos x ∷ pos n ∷ p) x [] (Ref (record_count S.heap)) N

pub data Steps (program : List ℤ) (S : State) (ws : List ℤ) : List ℤ → Left → Type 0 where
  -- S-SKIP
  s_skip : {p : List ℤ} → Steps program S ws (pos 0 ∷ p) (leaves S.cells S.kept ws 0)
  -- S-ASGN, S-ASGNNEW: the identity phase to Y, the value phase to Z
  s_gives : {target : ℕ} {prefix : List ℕ} {v : Value} {N Y Z : Cells} {p rest : List ℤ}
      → Gives S.cells p target prefix v N → Phase program S.kept S.cells N target prefix v Y
      → Settles program S.kept (asking None (Some target) true) Y ws Z rest → Steps program S ws p (leaves Z S.kept rest 1)
  -- S-ALWAYS, S-ONCE: always keeps the position
  s_always : {Z : Cells} {p kept rest : List ℤ} → Settles program S.kept (asking (Some p) None true) S.cells ws Z rest
      → Keeps S.kept Values (position_of program (pos 3 ∷ p)) kept → Steps program S ws (pos 3 ∷ p) (leaves Z kept rest 1)
  s_once : {Z : Cells} {p rest : List ℤ} → Settles program S.kept (asking (Some p) None true) S.cells ws Z rest → Steps program S ws (pos 4 ∷ p) (leaves Z S.kept rest 1)
  -- S-ALWAYSIDENTITY, S-ONCEIDENTITY: "No proposal is read."
  s_always_identity : {p kept : List ℤ}
      → Same S.cells p → Keeps S.kept Identities (position_of program (pos 5 ∷ p)) kept → Steps program S ws (pos 5 ∷ p) (leaves S.cells kept ws 0)
  s_once_identity : {p : List ℤ} → Same S.cells p → Steps program S ws (pos 6 ∷ p) (leaves S.cells S.kept ws 0)

-- ---- refused, and the word at fault: "the expressions in reading order (7, 8, 9 as met); the target path (7); 10; 13; 12; 15; 14; 6; 16; 17; 18; 19"; each has what comes before it

pub data Refused (program : List ℤ) (S : State) (ws : List ℤ) : List ℤ → Fault → Type 0 where
  f_value : {f : Fault} {p : List ℤ} → Meets S.cells false expression_depth (past_path p) f → Refused program S ws (pos 1 ∷ p) f
  f_target : {v : Value} {p r : List ℤ} → Within S.cells expression_depth (past_path p) v r → Astray S.cells p → Refused program S ws (pos 1 ∷ p) (refused 7 p)
  f_field : {x m : ℕ} {f : Fault} {p : List ℤ} → x < variables → m ≤ most_fields → FieldsMeet S.cells m p f → Refused program S ws (pos 2 ∷ pos x ∷ pos m ∷ p) f
  f_full : {x m : ℕ} {fs : List (ℕ × Value)} {p : List ℤ} → x < variables → m ≤ most_fields → FieldsAre S.cells m p fs
      → most_records ≤ record_count S.cells.heap → Refused program S ws (pos 2 ∷ pos x ∷ pos m ∷ p) (refused 10 (pos 2 ∷ pos x ∷ pos m ∷ p))
  f_phase : {n target : ℕ} {prefix : List ℕ} {v : Value} {N : Cells} {p : List ℤ}
      → Gives S.cells p target prefix v N → PhaseFails program S.kept S.cells target prefix v n → Refused program S ws p (refused n p)
  f_given : {target : ℕ} {prefix : List ℕ} {v : Value} {N Y : Cells} {f : Fault} {p : List ℤ} → Gives S.cells p target prefix v N → Phase program S.kept S.cells N target prefix v Y
      → Unsettled program S.kept (asking None (Some target) true) p Y ws f → Refused program S ws p f
  f_always : {b : Bool} {f : Fault} {p : List ℤ} → (b ≡ true) ↔ ((after : List ℤ) × Keeps S.kept Values (position_of program (pos 3 ∷ p)) after)
      → Unsettled program S.kept (asking (Some p) None b) (pos 3 ∷ p) S.cells ws f → Refused program S ws (pos 3 ∷ p) f
  f_once : {f : Fault} {p : List ℤ} → Unsettled program S.kept (asking (Some p) None true) (pos 4 ∷ p) S.cells ws f → Refused program S ws (pos 4 ∷ p) f
  f_identity : {verb : ℕ} {f : Fault} {p : List ℤ} → 5 ≤ verb → verb ≤ 6 → Unsame S.cells (pos verb ∷ p) p f → Refused program S ws (pos verb ∷ p) f
  f_unkept : {p : List ℤ} → Same S.cells p → ((after : List ℤ) → Keeps S.kept Identities (position_of program (pos 5 ∷ p)) after → ⊥) → Refused program S ws (pos 5 ∷ p) (refused 14 (pos 5 ∷ p))
