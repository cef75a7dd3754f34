-- What the code of the test of an if or while comes to. Assumes nothing.
use mathlib.Core.Path.{◌≡◌, refl, sym, ◌∙◌}
use mathlib.Core.Bool.{true, false}
use mathlib.Core.List.{List}
use native.Mathlib.Omega.{arith}
use lib.IntN.{ℤ}
use lib.ListN.{length}
use Rattle.std.specs.Prelude.{Result, Ok, Err}
use Rattle.words.specs.Answer.{got, stop, ◌>>=◌, ◌>>◌, want}
use Rattle.tables.specs.declared.Kind.{Kind}
use Rattle.tables.specs.declared.Kind.TheVariants.{Nil as is_nil, Bool as is_bool, Int as is_int, Ref as is_ref}
use Rattle.tables.specs.declared.Value.{Value}
use Rattle.tables.specs.declared.Value.TheVariants.{Nil, Bool as Truth, Int, Ref}
use Rattle.tables.specs.Cells.{Cells}
use Rattle.program.specs.declared.Refusal.{Refusal}
use Rattle.rules.specs.State.{Res, refused}
use Rattle.rules.specs.Evaluation.{kind_of, a_bool, bool_of, evaluate}
use Rattle.rules.specs.Running.{test}
use Rattle.rules.proofs.ConstraintClauses.{test-is}
use Rattle.expressions.specs.declared.Evaluated.{Evaluated}
use Rattle.expressions.specs.Told.{evaluated_of, kind_number}
use Rattle.expressions.specs.Judging.{tested_of, truth_of}

-- ---- booleans by the number of their kind

pub no_bool : (k : Kind) → (kind_number k ≡ 2 → ⊥) → a_bool k ≡ false
no_bool is_nil h = refl
no_bool is_bool h = absurd (h refl)
no_bool is_int h = refl
no_bool is_ref h = refl

pub a-bool : (k : Kind) → kind_number k ≡ 2 → a_bool k ≡ true
a-bool is_nil h = absurd (omega arith)
a-bool is_bool h = refl
a-bool is_int h = absurd (omega arith)
a-bool is_ref h = absurd (omega arith)

-- ---- the test of an if or while

module _ (S : Cells) (p : List ℤ) {r : Result Evaluated Refusal} (e : r ≡ evaluated_of (evaluate 16 S p)) where
  pub test-fails : {f : Refusal} → r ≡ Err f → Err f ≡ tested_of (test S p)
  test-fails h = rw (test-is S p) (by (evaluate 16 S p) (sym e ∙ h))
    where
      by : {f : Refusal} (m : Res (Value × List ℤ)) → evaluated_of m ≡ Err f → Err f ≡ tested_of (m >>= λ x. want (refused 8 p) (a_bool (kind_of x.0)) >> got (bool_of x.0))
      by (got x) e = cc
      by (stop f) e = cc

  pub test-comes : {x : Evaluated} → r ≡ Ok x → truth_of x.value (length p) ≡ tested_of (test S p)
  test-comes h = rw (test-is S p) (by (evaluate 16 S p) (sym e ∙ h))
    where
      last : (v : Value) → truth_of v (length p) ≡ tested_of (want (refused 8 p) (a_bool (kind_of v)) >> got (bool_of v))
      last Nil = refl
      last (Truth b) = refl
      last (Int n) = refl
      last (Ref n) = refl

      by : {x : Evaluated} (m : Res (Value × List ℤ)) → evaluated_of m ≡ Ok x
          → truth_of x.value (length p) ≡ tested_of (m >>= λ y. want (refused 8 p) (a_bool (kind_of y.0)) >> got (bool_of y.0))
      by {x = x} (got y) e = let c : x ≡ record { value = y.0; left = length y.1 } = cc in rw c (last y.0)
      by (stop f) e = cc
