-- The identity phase (01, "What a statement does"; 000, Definitions 1 to 5, stay_prefix): what is tied, what is frozen, what is updated.
-- Assumes nothing: these are definitions.
use Rattle.std.specs.Prelude.{ℕ, ◌+◌, ◌≡◌, ◌≢◌, ◌⊎◌, ℤ, length, drop, Some}
use mathlib.Core.List.{List, [], ◌∷◌, ◌++◌, Memᴰ as OneOf}
use Rattle.tables.specs.declared.Value.{Value}
use Rattle.tables.specs.declared.Value.TheVariants.{Nil, Ref}
use Rattle.tables.specs.declared.Sort.TheVariants.{Identities}
use Rattle.tables.specs.Values.{cell_of}
use Rattle.tables.specs.Cells.{Cells, cell_at}
use Rattle.tables.specs.Records.{record_count, count_at, label_at}
use Rattle.rules.specs.State.{Fault, refused, slot_at, positions}
use Rattle.rules.specs.Paths.{Way}
use Rattle.rules.specs.Identities.{Tie}
use Rattle.rules.specs.Rules.Expressions.{Names, Holds, Lost}

-- "references or nil"
pub data Node : Value → Type 0 where
  nil : Node Nil
  reference : {r : ℕ} → Node (Ref r)

-- "Identity (5, 6): both sides must now hold references or nil, and the same one": the L == L at p holds
pub data Same (S : Cells) : List ℤ → Type 0 where
  same : {v w : Value} {p q r : List ℤ} → Holds S p v q → Holds S q w r → Node v → Node w → cell_of v ≡ cell_of w → Same S p

-- "An identity: paths 7, 8, 11"; 7 and 8 stand at the first side at fault (02, W2), 11 at the statement's word
pub data Unsame (S : Cells) (word : List ℤ) : List ℤ → Fault → Type 0 where
  one_lost : {p : List ℤ} → Lost S p → Unsame S word p (refused 7 p)
  other_lost : {v : Value} {p q : List ℤ} → Holds S p v q → Lost S q → Unsame S word p (refused 7 q)
  one_plain : {v w : Value} {p q r : List ℤ} → Holds S p v q → Holds S q w r → (Node v → ⊥) → Unsame S word p (refused 8 p)
  other_plain : {v w : Value} {p q r : List ℤ} → Holds S p v q → Holds S q w r → Node v → (Node w → ⊥) → Unsame S word p (refused 8 q)
  differ : {v w : Value} {p q r : List ℤ} → Holds S p v q → Holds S q w r → Node v → Node w → cell_of v ≢ cell_of w → Unsame S word p (refused 11 word)

-- the kept identities at these positions: the two cells that each names, and the prefix cells of both sides
pub data TiesAre (program : List ℤ) (S : Cells) : List ℕ → List Tie → Type 0 where
  none : TiesAre program S [] []
  one : {position : ℕ} {more : List ℕ} {a b : Way} {ts : List Tie} → Names S (drop (position + 1) program) a → Names S a.rest b → TiesAre program S more ts
      → TiesAre program S (position ∷ more) (record { one = a.cell; two = b.cell; prefix = a.prefix ++ b.prefix } ∷ ts)

-- two cells are tied: a cell to itself, the two ends of a tie, both ways, and on from tie to tie (the induced graph);
-- "the target and every cell tied to it through kept identities" are the target's class, the relevant cells
pub data Tied (ts : List Tie) : ℕ → ℕ → Type 0 where
  itself : {a : ℕ} → Tied ts a a
  by_tie : (t : Tie) → OneOf t ts → Tied ts t.one t.two
  backwards : {a b : ℕ} → Tied ts a b → Tied ts b a
  onwards : {a b c : ℕ} → Tied ts a b → Tied ts b c → Tied ts a c

-- "frozen are the prefix cells of the target and of both sides of every kept identity"
pub data Frozen (prefix : List ℕ) (ts : List Tie) (l : ℕ) : Type 0 where
  of_target : OneOf l prefix → Frozen prefix ts l
  of_side : (t : Tie) → OneOf t ts → OneOf l t.prefix → Frozen prefix ts l

-- "an identity names the target"
abbrev pub IsNamed : List Tie → ℕ → Type 0
IsNamed ts l = (t : Tie) × (OneOf t ts × ((t.one ≡ l) ⊎ (t.two ≡ l)))

-- "the whole class takes the value and nothing else moves"
pub record Update (ts : List Tie) (target : ℕ) (v : Value) (now after : Cells) : Type 0 where
  pub class : (l : ℕ) → Tied ts target l → cell_at after l ≡ cell_of v
  pub others : (l : ℕ) → (Tied ts target l → ⊥) → cell_at after l ≡ cell_at now l
  pub records : record_count after.heap ≡ record_count now.heap
  pub counts : (r : ℕ) → count_at after.heap r ≡ count_at now.heap r
  pub labels : (r f : ℕ) → label_at after.heap r f ≡ label_at now.heap r f
  pub environment_length : length after.environment ≡ length now.environment
  pub heap_length : length after.heap ≡ length now.heap

-- the phase: paths are followed in `before`, `now` is written, and Z is left; "If an identity names the target, the new value must be a reference or nil";
-- the update is relevant: nothing that is frozen changed
pub record Phase (program kept : List ℤ) (before now : Cells) (target : ℕ) (prefix : List ℕ) (v : Value) (Z : Cells) : Type 0 where
  pub ties : List Tie
  pub followed : TiesAre program before (positions kept Identities) ties
  pub node : IsNamed ties target → Node v
  pub update : Update ties target v now Z
  pub frozen : (l : ℕ) → Frozen prefix ties l → slot_at Z l ≡ slot_at before l

-- 13, and else 12: "a frozen cell is in the class and now holds something else"
pub data PhaseFails (program kept : List ℤ) (before : Cells) (target : ℕ) (prefix : List ℕ) (v : Value) : ℕ → Type 0 where
  no_node : {ts : List Tie} → TiesAre program before (positions kept Identities) ts → IsNamed ts target → (Node v → ⊥) → PhaseFails program kept before target prefix v 13
  clash : {ts : List Tie} {l : ℕ} → TiesAre program before (positions kept Identities) ts → (IsNamed ts target → Node v)
      → Tied ts target l → Frozen prefix ts l → (slot_at before l ≡ Some v → ⊥) → PhaseFails program kept before target prefix v 12
