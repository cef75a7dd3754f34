-- The definitions of expressions and constraints say what the E- and T-rules say. Assumes nothing: these are statements.
use Rattle.std.specs.Prelude.{◌≡◌, ◌≢◌, ◌↔◌, ℕ, suc, ◌≤◌, true, false, List, ◌∷◌, ℤ, pos}
use Rattle.words.specs.Answer.{got, stop}
use Rattle.tables.specs.declared.Value.{Value}
use Rattle.tables.specs.declared.Value.TheVariants.{Bool as Truth}
use Rattle.tables.specs.declared.Kind.{Kind}
use Rattle.tables.specs.declared.Kind.TheVariants.{Bool as is_bool}
use Rattle.tables.specs.Cells.{Cells}
use Rattle.fit.specs.Fit.{Fit}
use Rattle.program.specs.Forms.{expression_depth, most_parts, required}
use Rattle.rules.specs.State.{Fault, Res}
use Rattle.rules.specs.Paths.{Way, way_at}
use Rattle.rules.specs.Evaluation.{kind_of, evaluate, kind}
use Rattle.rules.specs.Constraints.{Part, constraint_at}
use Rattle.rules.specs.Rules.Expressions.{Names, Holds, Within, KindWithin}
use Rattle.rules.specs.Rules.Constraints.{ConstraintIs}

-- E-IDENTITYTRUE and E-IDENTITYFALSE in the paper's own words, for fit tables: one value, two values
pub record OneValue (S : Cells) (p r : List ℤ) : Type 0 where
  pub value : Value
  pub between : List ℤ
  pub left : Holds S p value between
  pub right : Holds S between value r

pub record TwoValues (S : Cells) (p r : List ℤ) : Type 0 where
  pub one : Value
  pub other : Value
  pub between : List ℤ
  pub left : Holds S p one between
  pub right : Holds S between other r
  pub apart : one ≢ other

-- what an expression of the kind k comes to: a value of that kind, with q after it, or refusal 9
pub data ComesTo (k : Kind) (q : List ℤ) : Res (Value × List ℤ) → Type 0 where
  value : {v : Value} → kind_of v ≡ k → ComesTo k q (got (v, q))
  range : {f : Fault} → f.number ≡ 9 → ComesTo k q (stop f)

-- T-PRIORITY: a part at p, of a priority from 1 to 3, reads where its expression is boolean; q follows it
pub data PartReads (S : Cells) : List ℤ → List ℤ → Type 0 where
  part : {priority : ℕ} {p q : List ℤ}
      → 1 ≤ priority → priority ≤ required → KindWithin S expression_depth p is_bool q → PartReads S (pos priority ∷ p) q

-- T-CONJUNCTION: m parts in a row
pub data PartsRead (S : Cells) : ℕ → List ℤ → List ℤ → Type 0 where
  none : {p : List ℤ} → PartsRead S 0 p p
  one : {m : ℕ} {p q r : List ℤ} → PartReads S p q → PartsRead S m q r → PartsRead S (suc m) p r

-- "C: m (1 to 16), m times priority and e": the C at p reads
pub data ConstraintReads (S : Cells) : List ℤ → Type 0 where
  constraint : {m : ℕ} {p q : List ℤ} → 1 ≤ m → m ≤ most_parts → PartsRead S m p q → ConstraintReads S (pos m ∷ p)

pub record EvaluationClaim : Type 0 where
  -- an L names a cell, with its prefix cells and what follows it
  pub paths : (S : Cells) (p : List ℤ) (w : Way) → (way_at S p ≡ got w) ↔ Names S p w
  -- the expression at p, nested at most d deep, has the value v, and q follows it (E-rules)
  pub values : (d : ℕ) (S : Cells) (p : List ℤ) (v : Value) (q : List ℤ) → (evaluate d S p ≡ got (v, q)) ↔ Within S d p v q
  -- L == L, in fit tables: true for one value, false for two
  pub same : (d : ℕ) (S : Cells) (p r : List ℤ) → Fit S → (evaluate (suc d) S (pos 26 ∷ p) ≡ got (Truth true, r)) ↔ OneValue S p r
  pub differ : (d : ℕ) (S : Cells) (p r : List ℤ) → Fit S → (evaluate (suc d) S (pos 26 ∷ p) ≡ got (Truth false, r)) ↔ TwoValues S p r
  -- the expression at p has the kind k (T-rules)
  pub kinds : (d : ℕ) (S : Cells) (p : List ℤ) (k : Kind) (q : List ℤ) → (kind d S p ≡ got (k, q)) ↔ KindWithin S d p k q
  -- kinds are sound: what has a kind has a value of that kind, or leaves 32 bits
  pub sound : (d : ℕ) (S : Cells) (p : List ℤ) (k : Kind) (q : List ℤ) → kind d S p ≡ got (k, q) → ComesTo k q (evaluate d S p)
  -- the C at p reads, and these are its parts
  pub reads : (S : Cells) (p : List ℤ) → ((parts : List Part) × (constraint_at S p ≡ got parts)) ↔ ConstraintReads S p
  pub parts : (S : Cells) (p : List ℤ) (xs : List Part) → (constraint_at S p ≡ got xs) ↔ ConstraintIs S p xs
