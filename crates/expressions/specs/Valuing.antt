-- What the code answers of an expression, outside C and inside it. A part is told by how many words are left in it. Assumes nothing: these are definitions.
use Rattle.std.specs.Prelude.{ℕ, ◌-◌, ◌≤◌, ◌≡◌, Bool, true, false, cond, ◌&&◌, List, ℤ, pos, length, drop, Some, None, Result, Ok, Err}
use Rattle.words.specs.Words.{word_at, number_at}
use Rattle.words.specs.Answer.{Answer, got, stop, ◌>>=◌}
use Rattle.tables.specs.declared.Value.{Value}
use Rattle.tables.specs.declared.Value.TheVariants.{Nil, Bool as Truth, Int, Ref}
use Rattle.tables.specs.Cells.{Cells}
use Rattle.program.specs.declared.Operator.{Operator as Op}
use Rattle.program.specs.Reading.{any_word}
use Rattle.rules.specs.State.{Res, reads}
use Rattle.rules.specs.Paths.{value_at}
use Rattle.rules.specs.Evaluation.{kind_of, same, op_of, takes, gives, made, evaluate}
use Rattle.tables.specs.declared.Kind.{Kind}
use Rattle.tables.specs.declared.Kind.TheVariants.{Nil as is_nil, Bool as is_bool, Int as is_int, Ref as is_ref}
use Rattle.rules.specs.Evaluation.{kind as kind_at}
use Rattle.program.specs.declared.Refusal.{Refusal}
use Rattle.expressions.specs.declared.Valued.{Valued}
use Rattle.expressions.specs.declared.Row.{Row}
use Rattle.expressions.specs.Judging.{refusal}

abbrev pub known : Value → ℕ → Valued
known v left = record { value = v; exact = true; left = left }

-- "A part whose arithmetic leaves 32 bits is unsatisfied": a value of its kind stands in, for a boolean false
abbrev pub stand_in : Kind → Value
stand_in is_nil = Nil
stand_in is_bool = Truth false
stand_in is_int = Int (pos 0)
stand_in is_ref = Ref 0

abbrev pub unknown : Kind → ℕ → Valued
unknown k left = record { value = stand_in k; exact = false; left = left }

-- inside C it reads where it has a kind; then it has a value, or its arithmetic leaves 32 bits
abbrev pub judged_of : Res (Kind × List ℤ) → Res (Value × List ℤ) → Result Valued Refusal
judged_of (got x) (got y) = Ok (known y.0 (length x.1))
judged_of (got x) (stop f) = Ok (unknown x.0 (length x.1))
judged_of (stop f) m = Err f

-- outside C its value counts alone
abbrev pub value_only : Res (Value × List ℤ) → Result Valued Refusal
value_only (got x) = Ok (known x.0 (length x.1))
value_only (stop f) = Err f

abbrev pub valued_by : Bool → Res (Kind × List ℤ) → Res (Value × List ℤ) → Result Valued Refusal
valued_by true k m = judged_of k m
valued_by false k m = value_only m

-- the expression at p, nested at most d deep, inside C or outside it
unfoldable pub valued_at : Bool → ℕ → Cells → List ℤ → Result Valued Refusal
valued_at inside d S p = valued_by inside (kind_at d S p) (evaluate d S p)

-- ---- its pieces

abbrev pub literal_of : List ℤ → Res (Value × List ℤ)
literal_of q = reads (any_word q) >>= λ r. got (Int (word_at q 0), r)

abbrev pub identity_of : Cells → List ℤ → Res (Value × List ℤ)
identity_of S q = value_at S q >>= λ a. value_at S a.1 >>= λ b. got (Truth (same a.0 b.0), b.1)

-- an expression without an operator comes to the same at any depth that is left
abbrev pub LeafIs : Bool → Cells → List ℤ → Result Valued Refusal → Type 0
LeafIs inside S p r = (d : ℕ) → (d ≡ 0 → ⊥) → r ≡ valued_at inside d S p

-- what an operator makes of operands whose kinds it takes; `exact` tells whether their own arithmetic stayed within 32 bits
abbrev pub made_by : Bool → Op → Answer ℕ Value → Bool → ℕ → ℕ → Result Valued Refusal
made_by inside o (got v) true left word = Ok (known v left)
made_by true o (got v) false left word = Ok (unknown (gives o) left)
made_by false o (got v) false left word = Err (refusal 0 word)
made_by true o (stop n) exact left word = Ok (unknown (gives o) left)
made_by false o (stop n) exact left word = Err (refusal n word)

-- kinds (8), then range (9)
abbrev pub settled_by : Bool → Op → Valued → Valued → ℕ → Result Valued Refusal
settled_by inside o a b word =
    cond (takes o (kind_of a.value) (kind_of b.value)) (made_by inside o (made o a.value b.value) (a.exact && b.exact) b.left word) (Err (refusal 8 word))

-- ---- its operands

-- an expression without an operator is its own only operand
pub record Alone (d : ℕ) (p : List ℤ) (r : Row) : Type 0 where
  pub deep : d ≡ 0 → ⊥
  pub none : number_at p 0 ≡ 25 → ⊥
  pub start : r.left ≡ length p
  pub nest : r.depth ≡ d

-- one with an operator has two, a level deeper
pub record Two (d : ℕ) (p : List ℤ) (o : Op) (r : Row) : Type 0 where
  pub deep : d ≡ 0 → ⊥
  pub is : number_at p 0 ≡ 25
  pub operator : o ≡ op_of (number_at (drop 1 p) 0)
  pub least : number_at (drop 1 p) 0 ≡ 0 → ⊥
  pub most : number_at (drop 1 p) 0 ≤ 11
  pub start : r.left ≡ length (drop 1 (drop 1 p))
  pub nest : r.depth ≡ d - 1

pub record Rows (d : ℕ) (p : List ℤ) (m : Result Row Refusal) : Type 0 where
  pub refuses : (f : Refusal) → m ≡ Err f → (inside : Bool) (S : Cells) → Err f ≡ valued_at inside d S p
  pub alone : (r : Row) → m ≡ Ok r → r.operator ≡ None → Alone d p r
  pub two : (r : Row) (o : Op) → m ≡ Ok r → r.operator ≡ Some o → Two d p o r
