-- How many brackets signs have: one list of signs behind another, operators, priorities. Assumes nothing.
use mathlib.Core.Path.{◌≡◌, refl}
use mathlib.Core.List.{List, [], ◌∷◌, ◌++◌}
use Prim.Native.Nat.{ℕ, zero, suc, ◌+◌, ◌≤◌}
use native.Mathlib.Omega.{arith}
use Rattle.tokens.specs.declared.Token.{Token}
use Rattle.text.proofs.LevelLaws.{by-operator}
use Rattle.printing.specs.Signs.{Sign, blank, fixed, integer, variable, label, operator_text, priority_text}
use Rattle.printing.specs.Claims.{brackets_in, brackets_of}

pub in-append : (a b : List Sign) → brackets_in (a ++ b) ≡ brackets_in a + brackets_in b
in-append [] b = omega arith
in-append (blank s ∷ a) b = in-append a b
in-append (fixed c s ∷ a) b = rw (in-append a b) (omega arith)
in-append (integer z ∷ a) b = in-append a b
in-append (variable x ∷ a) b = in-append a b
in-append (label l ∷ a) b = in-append a b

-- with signs between them that have none
pub in-joined : (a s b : List Sign) → brackets_in s ≡ 0 → brackets_in (a ++ (s ++ b)) ≡ brackets_in a + brackets_in b
in-joined a s b h = rw (in-append a (s ++ b), in-append s b, h) (omega arith)

pub of-append : (a b : List Token) → brackets_of (a ++ b) ≡ brackets_of a + brackets_of b
of-append [] b = omega arith
of-append (t ∷ a) b = rw (of-append a b) (omega arith)

pub in-operator : (o : ℕ) → 1 ≤ o → o ≤ 11 → brackets_in (operator_text o) ≡ 0
unfolding operator_text
in-operator o h k = by-operator (λ n. brackets_in (operator_text n) ≡ 0) o h k refl refl refl refl refl refl refl refl refl refl refl

pub in-priority : (k : ℕ) → 1 ≤ k → k ≤ 3 → brackets_in (priority_text k) ≡ 0
unfolding priority_text
in-priority zero h k = let z : ⊥ = omega arith in absurd z
in-priority (suc zero) h k = refl
in-priority (suc (suc zero)) h k = refl
in-priority (suc (suc (suc zero))) h k = refl
in-priority (suc (suc (suc (suc n)))) h k = let z : ⊥ = omega arith in absurd z
