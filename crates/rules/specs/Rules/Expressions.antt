-- The paper's rules of evaluation and typing (000, 6.1.2: the E- and T-rules, as document 01 narrows them), on the program's words.
-- Assumes nothing: these are definitions.
use Rattle.std.specs.Prelude.{◌≡◌, ◌≢◌, ℕ, suc, ◌<◌, ◌≤◌, Bool, true, false, List, [], ◌∷◌, ℤ, pos, drop, None, Some}
use Rattle.words.specs.Words.{number_at}
use Rattle.tables.specs.declared.Value.{Value}
use Rattle.tables.specs.declared.Value.TheVariants.{Nil, Bool as Truth, Int, Ref}
use Rattle.tables.specs.declared.Kind.{Kind}
use Rattle.tables.specs.declared.Kind.TheVariants.{Bool as is_bool}
use Rattle.tables.specs.Sizes.{variables, field_location}
use Rattle.tables.specs.Values.{cell_of}
use Rattle.tables.specs.Cells.{Cells}
use Rattle.tables.specs.Records.{field_count, label_at}
use Rattle.program.specs.Forms.{most_steps, operators, expression_depth}
use Rattle.rules.specs.State.{Fault, refused, slot_at}
use Rattle.rules.specs.Paths.{Way}
use Rattle.rules.specs.Evaluation.{kind_of}
use Rattle.rules.specs.Rules.Operators.{Gives, Makes}

-- ---- paths

-- the location is that of the first field of record r that has the label
pub data HasField (heap : List ℤ) (r label : ℕ) : ℕ → Type 0 where
  field : (f : ℕ) → f < field_count heap r → label_at heap r f ≡ label → ((g : ℕ) → g < f → label_at heap r g ≢ label) → HasField heap r label (field_location r f)

-- E-FIELD, n times: the n labels at p lead from the cell l to the cell `to`, through the prefix cells, l first
pub data Leads (S : Cells) : ℕ → ℕ → List ℤ → ℕ → List ℕ → Type 0 where
  here : {l : ℕ} {p : List ℤ} → Leads S l 0 p l []
  by : {l r next n to : ℕ} {p : List ℤ} {prefix : List ℕ} → slot_at S l ≡ Some (Ref r) → HasField S.heap r (number_at p 0) next → Leads S next n (drop 1 p) to prefix
      → Leads S l (suc n) p to (l ∷ prefix)

-- "L: variable, n (0 to 7), n labels": p begins with an L, whose cell, prefix cells and rest are w
pub data Names (S : Cells) : List ℤ → Way → Type 0 where
  names : {x n to : ℕ} {p : List ℤ} {prefix : List ℕ} → x < variables → n ≤ most_steps → Leads S x n p to prefix
      → Names S (pos x ∷ pos n ∷ p) (record { cell = to; prefix = prefix; rest = drop n p })

-- E-VAR and E-FIELD: p begins with an L that names a cell holding v, and q follows it
pub data Holds (S : Cells) : List ℤ → Value → List ℤ → Type 0 where
  holds : {w : Way} {v : Value} {p : List ℤ} → Names S p w → slot_at S w.cell ≡ Some v → Holds S p v w.rest

-- ---- literals: p begins with one, whose value is v, and q follows it

pub data Literal : List ℤ → Value → List ℤ → Type 0 where
  nil : {p : List ℤ} → Literal (pos 20 ∷ p) Nil p
  no : {p : List ℤ} → Literal (pos 21 ∷ p) (Truth false) p
  yes : {p : List ℤ} → Literal (pos 22 ∷ p) (Truth true) p
  integer : {w : ℤ} {p : List ℤ} → Literal (pos 23 ∷ w ∷ p) (Int w) p

-- ---- evaluation: p begins with an expression, nested at most d deep, a leaf being 1; its value is v, and q follows it

pub data Within (S : Cells) : ℕ → List ℤ → Value → List ℤ → Type 0 where
  -- E-CONST
  e_literal : {d : ℕ} {v : Value} {p q : List ℤ} → Literal p v q → Within S (suc d) p v q
  -- E-VAR, E-FIELD
  e_path : {d : ℕ} {v : Value} {p q : List ℤ} → Holds S p v q → Within S (suc d) (pos 24 ∷ p) v q
  -- E-OP
  e_operation : {d o : ℕ} {a b v : Value} {p q r : List ℤ} → Within S d p a q → Within S d q b r → Makes o a b v → Within S (suc d) (pos 25 ∷ pos o ∷ p) v r
  -- E-IDENTITYTRUE, E-IDENTITYFALSE: "L == L compares kind and payload of any two values"
  e_same : {d : ℕ} {a b : Value} {p q r : List ℤ} → Holds S p a q → Holds S q b r → cell_of a ≡ cell_of b → Within S (suc d) (pos 26 ∷ p) (Truth true) r
  e_differ : {d : ℕ} {a b : Value} {p q r : List ℤ} → Holds S p a q → Holds S q b r → cell_of a ≢ cell_of b → Within S (suc d) (pos 26 ∷ p) (Truth false) r

-- ---- typing: the same with a kind; there is no rule for L == L

pub data KindWithin (S : Cells) : ℕ → List ℤ → Kind → List ℤ → Type 0 where
  -- T-CONST
  t_literal : {d : ℕ} {v : Value} {p q : List ℤ} → Literal p v q → KindWithin S (suc d) p (kind_of v) q
  -- T-VAR, T-FIELD
  t_path : {d : ℕ} {v : Value} {p q : List ℤ} → Holds S p v q → KindWithin S (suc d) (pos 24 ∷ p) (kind_of v) q
  -- T-OP
  t_operation : {d o : ℕ} {a b k : Kind} {p q r : List ℤ} → KindWithin S d p a q → KindWithin S d q b r → Gives o a b k → KindWithin S (suc d) (pos 25 ∷ pos o ∷ p) k r

-- ---- refusals: 7, 8 and 9 "as met"

-- 7 "missing field, path through a non-record": the L at p names no cell
pub data Astray (S : Cells) : List ℤ → Type 0 where
  astray : {x n : ℕ} {p : List ℤ} → x < variables → n ≤ most_steps → ((to : ℕ) (prefix : List ℕ) → Leads S x n p to prefix → ⊥) → Astray S (pos x ∷ pos n ∷ p)

-- 7: the L at p names no cell, or an "absent variable"
pub data Lost (S : Cells) : List ℤ → Type 0 where
  nowhere : {p : List ℤ} → Astray S p → Lost S p
  absent : {w : Way} {p : List ℤ} → Names S p w → slot_at S w.cell ≡ None → Lost S p

-- what an operand comes to: inside C a kind, outside it a value of that kind
pub data Comes (S : Cells) : Bool → ℕ → List ℤ → Kind → List ℤ → Type 0 where
  typed : {d : ℕ} {k : Kind} {p q : List ℤ} → KindWithin S d p k q → Comes S true d p k q
  valued : {d : ℕ} {v : Value} {p q : List ℤ} → Within S d p v q → Comes S false d p (kind_of v) q

-- an operator and its operands, at p, make no value: 8 where it does not take the kinds; 9, outside C, where its result leaves 32 bits
pub data Unmade (S : Cells) : Bool → ℕ → List ℤ → ℕ → Type 0 where
  kinds : {c : Bool} {d o : ℕ} {a b : Kind} {p q r : List ℤ} → 1 ≤ o → o ≤ operators → Comes S c d p a q → Comes S c d q b r → ((k : Kind) → Gives o a b k → ⊥) → Unmade S c d (pos o ∷ p) 8
  range : {d o : ℕ} {a b : Value} {k : Kind} {p q r : List ℤ} → Within S d p a q → Within S d q b r → Gives o (kind_of a) (kind_of b) k → ((v : Value) → Makes o a b v → ⊥) → Unmade S false d (pos o ∷ p) 9

-- the expression at p, inside C or outside it, is refused: "Both operands are always evaluated, left first; then kinds are tested, then range";
-- "For 7 .. the variable word of the path that failed; for 8 and 9, the first word of the operator expression (25)" (02, W2)
pub data Meets (S : Cells) : Bool → ℕ → List ℤ → Fault → Type 0 where
  m_path : {c : Bool} {d : ℕ} {p : List ℤ} → Lost S p → Meets S c (suc d) (pos 24 ∷ p) (refused 7 p)
  m_left : {c : Bool} {d o : ℕ} {f : Fault} {p : List ℤ} → 1 ≤ o → o ≤ operators → Meets S c d p f → Meets S c (suc d) (pos 25 ∷ pos o ∷ p) f
  m_right : {c : Bool} {d o : ℕ} {k : Kind} {f : Fault} {p q : List ℤ}
      → 1 ≤ o → o ≤ operators → Comes S c d p k q → Meets S c d q f → Meets S c (suc d) (pos 25 ∷ pos o ∷ p) f
  m_here : {c : Bool} {d n : ℕ} {p : List ℤ} → Unmade S c d p n → Meets S c (suc d) (pos 25 ∷ p) (refused n (pos 25 ∷ p))
  m_one : {d : ℕ} {p : List ℤ} → Lost S p → Meets S false (suc d) (pos 26 ∷ p) (refused 7 p)
  m_other : {d : ℕ} {v : Value} {p q : List ℤ} → Holds S p v q → Lost S q → Meets S false (suc d) (pos 26 ∷ p) (refused 7 q)

-- "If, while test a boolean"; in C "each part is boolean": the expression at p is refused, or is none, which is told at the word w
pub data Untested (S : Cells) (c : Bool) (w p : List ℤ) : Fault → Type 0 where
  meets : {f : Fault} → Meets S c expression_depth p f → Untested S c w p f
  no_boolean : {k : Kind} {q : List ℤ} → Comes S c expression_depth p k q → k ≢ is_bool → Untested S c w p (refused 8 w)
