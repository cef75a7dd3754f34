-- When a constraint reads, what its parts then are (000, T-PRIORITY and T-CONJUNCTION, as document 01 narrows them), and which parts count.
-- Assumes nothing: these are definitions.
use Rattle.std.specs.Prelude.{◌≡◌, ◌↔◌, ℕ, suc, ◌+◌, ◌≤◌, Bool, true, List, [], ◌∷◌, ◌++◌, ℤ, pos, drop, Option, None, Some}
use Rattle.tables.specs.declared.Value.TheVariants.{Bool as Truth}
use Rattle.tables.specs.declared.Sort.TheVariants.{Values}
use Rattle.tables.specs.declared.Kind.TheVariants.{Bool as is_bool}
use Rattle.tables.specs.Cells.{Cells}
use Rattle.program.specs.Forms.{expression_depth, most_parts, required}
use Rattle.rules.specs.State.{Fault, positions}
use Rattle.rules.specs.Constraints.{Part}
use Rattle.rules.specs.Rules.Expressions.{Within, KindWithin, Untested}

-- ---- the parts: each one's priority, and whether it is satisfied, that is, whether its value is true

-- where its value is not true, it is false, or its arithmetic leaves 32 bits
pub data PartIs (S : Cells) : List ℤ → Part → List ℤ → Type 0 where
  part : {priority : ℕ} {b : Bool} {p q : List ℤ} → 1 ≤ priority → priority ≤ required → KindWithin S expression_depth p is_bool q
      → (b ≡ true) ↔ Within S expression_depth p (Truth true) q → PartIs S (pos priority ∷ p) (record { priority = priority; satisfied = b }) q

pub data PartsAre (S : Cells) : ℕ → List ℤ → List Part → List ℤ → Type 0 where
  none : {p : List ℤ} → PartsAre S 0 p [] p
  one : {m : ℕ} {x : Part} {xs : List Part} {p q r : List ℤ} → PartIs S p x q → PartsAre S m q xs r → PartsAre S (suc m) p (x ∷ xs) r

pub data ConstraintIs (S : Cells) : List ℤ → List Part → Type 0 where
  constraint : {m : ℕ} {xs : List Part} {p q : List ℤ} → 1 ≤ m → m ≤ most_parts → PartsAre S m p xs q → ConstraintIs S (pos m ∷ p) xs

-- ---- the parts that count for a statement: those of the kept value constraints, and of its own C, if it has one

pub data KeptAre (program : List ℤ) (S : Cells) : List ℕ → List Part → Type 0 where
  none : KeptAre program S [] []
  one : {position : ℕ} {more : List ℕ} {xs ys : List Part}
      → ConstraintIs S (drop (position + 1) program) xs → KeptAre program S more ys → KeptAre program S (position ∷ more) (xs ++ ys)

pub data CountedAre (program kept : List ℤ) (S : Cells) : Option (List ℤ) → List Part → Type 0 where
  kept_only : {xs : List Part} → KeptAre program S (positions kept Values) xs → CountedAre program kept S None xs
  with_own : {p : List ℤ} {xs ys : List Part} → KeptAre program S (positions kept Values) xs → ConstraintIs S p ys → CountedAre program kept S (Some p) (xs ++ ys)

-- ---- refusals: the C at p does not read, 7 or 8 as met; 8 of a part that is no boolean stands at its priority

pub data PartMeets (S : Cells) : List ℤ → Fault → Type 0 where
  part : {priority : ℕ} {f : Fault} {p : List ℤ} → 1 ≤ priority → priority ≤ required → Untested S true (pos priority ∷ p) p f → PartMeets S (pos priority ∷ p) f

pub data PartsMeet (S : Cells) : ℕ → List ℤ → Fault → Type 0 where
  first : {m : ℕ} {f : Fault} {p : List ℤ} → PartMeets S p f → PartsMeet S (suc m) p f
  later : {m : ℕ} {f : Fault} {x : Part} {p q : List ℤ} → PartIs S p x q → PartsMeet S m q f → PartsMeet S (suc m) p f

pub data ConstraintMeets (S : Cells) : List ℤ → Fault → Type 0 where
  constraint : {m : ℕ} {f : Fault} {p : List ℤ} → 1 ≤ m → m ≤ most_parts → PartsMeet S m p f → ConstraintMeets S (pos m ∷ p) f

-- the value constraint at a position reads
abbrev pub Reads : List ℤ → Cells → ℕ → Type 0
Reads program S position = (xs : List Part) × ConstraintIs S (drop (position + 1) program) xs

-- x is the first of the list that is not P
pub data FirstNot {A : Type 0} (P : A → Type 0) : List A → A → Type 0 where
  here : {x : A} {xs : List A} → (P x → ⊥) → FirstNot P (x ∷ xs) x
  later : {x y : A} {xs : List A} → P x → FirstNot P xs y → FirstNot P (x ∷ xs) y

-- a statement's own C does not read; or, 15, "a kept value constraint no longer reads": the word at fault "in the first such kept constraint" (02, W2)
pub data Uncounted (program kept : List ℤ) (S : Cells) : Option (List ℤ) → Fault → Type 0 where
  own : {f : Fault} {p : List ℤ} → ConstraintMeets S p f → Uncounted program kept S (Some p) f
  kept : {own : Option (List ℤ)} {k : ℕ} {f : Fault} → ((p : List ℤ) → own ≡ Some p → (xs : List Part) × ConstraintIs S p xs)
      → FirstNot (Reads program S) (positions kept Values) k → ConstraintMeets S (drop (k + 1) program) f → Uncounted program kept S own (record { number = 15; word = f.word })
