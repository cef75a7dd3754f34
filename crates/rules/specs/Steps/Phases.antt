-- Words for what is shown of the identity phase on the way to the claims. Assumes nothing: these are definitions.
use Rattle.std.specs.Prelude.{ℕ, ◌<◌, ◌≤◌, ◌≡◌, true, ℤ, Some}
use mathlib.Core.List.{List, [], Memᴰ as OneOf}
use Rattle.words.specs.Answer.{got}
use Rattle.tables.specs.declared.Value.{Value}
use Rattle.tables.specs.Sizes.{variables, most_records, most_fields}
use Rattle.tables.specs.Cells.{Cells, cells}
use Rattle.tables.specs.Records.{record_count, with_record}
use Rattle.rules.specs.State.{slot_at}
use Rattle.rules.specs.Paths.{Way, way_at}
use Rattle.rules.specs.Identities.{Tie, ties, is_node, class_of, put_all}
use Rattle.rules.specs.Rules.Identities.{Tied, Frozen, IsNamed, Update}

-- the target's class: the relevant cells
abbrev pub Relevant : List Tie → ℕ → ℕ → Type 0
Relevant ts target l = Tied ts target l

-- the relevant update: and nothing that is frozen changed
pub record RelevantUpdate (prefix : List ℕ) (ts : List Tie) (target : ℕ) (v : Value) (before now after : Cells) : Type 0 where
  pub update : Update ts target v now after
  pub frozen : (l : ℕ) → Frozen prefix ts l → slot_at after l ≡ slot_at before l

-- "a frozen cell is in the class and now holds something else"
pub record Clash (prefix : List ℕ) (ts : List Tie) (target : ℕ) (v : Value) (before : Cells) : Type 0 where
  pub cell : ℕ
  pub in_class : Relevant ts target cell
  pub frozen : Frozen prefix ts cell
  pub other : slot_at before cell ≡ Some v → ⊥

-- every identity holds: both ends of every tie hold the same
abbrev pub Satisfies : Cells → List Tie → Type 0
Satisfies S ts = (t : Tie) → OneOf t ts → slot_at S t.one ≡ slot_at S t.two

-- what any way to carry out the phase has to come to: it keeps the frozen cells, every identity holds, and the target has the value
pub record Solves (prefix : List ℕ) (ts : List Tie) (target : ℕ) (v : Value) (before Z : Cells) : Type 0 where
  pub keeps : (l : ℕ) → Frozen prefix ts l → slot_at Z l ≡ slot_at before l
  pub satisfies : Satisfies Z ts
  pub has : slot_at Z target ≡ Some v

-- the target of an assignment is named by an L, that of a new is a variable
pub data Target (before : Cells) : ℕ → List ℕ → Type 0 where
  by_variable : {x : ℕ} → x < variables → Target before x []
  by_path : (p : List ℤ) (w : Way) → way_at before p ≡ got w → Target before w.cell w.prefix

-- the tables that the phase writes: those before the statement; for a new, with its record
pub data Ready (before : Cells) : Cells → Type 0 where
  as_before : Ready before before
  with-record : (fs : List ℤ) (n : ℕ) → record_count before.heap < most_records → n ≤ most_fields → Ready before (cells before.environment (with_record before.heap fs n))

-- what the definition of the phase tests and writes
pub record Computed (program kept : List ℤ) (before now : Cells) (target : ℕ) (prefix : List ℕ) (v : Value) (Z : Cells) : Type 0 where
  pub tied : List Tie
  pub followed : ties program kept before ≡ got tied
  pub node : IsNamed tied target → is_node v ≡ true
  pub free : (l : ℕ) → Relevant tied target l → Frozen prefix tied l → slot_at before l ≡ Some v
  pub written : Z ≡ put_all now (class_of tied target) v
