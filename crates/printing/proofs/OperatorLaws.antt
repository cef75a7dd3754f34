-- The signs of operators and priorities by their numbers. Assumes nothing.
use mathlib.Core.Path.{◌≡◌, refl}
use Prim.Native.Nat.{ℕ, zero, suc, ◌+◌, ◌≤◌}
use mathlib.Core.Bool.{true}
use mathlib.Core.List.{List, [], ◌∷◌, ◌++◌, append_assoc}
use native.Mathlib.Omega.{arith}
use Rattle.tokens.specs.Codes.{weak_code, medium_code, required_code}
use Rattle.tokens.proofs.SpellingLaws.{minus-there}
use Rattle.tokens.proofs.ThereLaws.{plus-there, times-there, below-there, at-most-there, equal-there, unequal-there, at-least-there, above-there}
use Rattle.tokens.proofs.ThereLaws.{and-there, or-there, weak-there, medium-there, required-there}
use Rattle.text.specs.Reading.{due_after}
use Rattle.text.proofs.LevelLaws.{by-operator, due-weak, due-medium, due-required}
use Rattle.printing.specs.Signs.{Sign, space, operator_text, priority_text}
use Rattle.printing.specs.Spaced.{Ends, Opened, Fixed}

-- an operator is one token, 40 and its number, with its spaces
pub record Operator (o : ℕ) : Type 0 where
  pub spelling : List ℕ
  pub text : operator_text o ≡ space ∷ Sign.fixed (40 + o) spelling ∷ space ∷ []
  pub apart : (ss : List Sign) → Opened ss → Fixed ss (40 + o) spelling

pub operator-is : (o : ℕ) → 1 ≤ o → o ≤ 11 → Operator o
unfolding operator_text
operator-is o l m =
    by-operator (λ n. Operator n) o l m
    (record { spelling = 43 ∷ []; text = refl; apart = λ ss a. Fixed.single plus-there a })
    (record { spelling = 45 ∷ []; text = refl; apart = λ ss a. Fixed.single minus-there a })
    (record { spelling = 42 ∷ []; text = refl; apart = λ ss a. Fixed.single times-there a })
    (record { spelling = 60 ∷ []; text = refl; apart = λ ss a. Fixed.single below-there a })
    (record { spelling = 60 ∷ 61 ∷ []; text = refl; apart = λ ss a. Fixed.pair at-most-there })
    (record { spelling = 61 ∷ []; text = refl; apart = λ ss a. Fixed.single equal-there a })
    (record { spelling = 33 ∷ 61 ∷ []; text = refl; apart = λ ss a. Fixed.pair unequal-there })
    (record { spelling = 62 ∷ 61 ∷ []; text = refl; apart = λ ss a. Fixed.pair at-least-there })
    (record { spelling = 62 ∷ []; text = refl; apart = λ ss a. Fixed.single above-there a })
    (record { spelling = 97 ∷ 110 ∷ 100 ∷ []; text = refl; apart = λ ss a. Fixed.keyword and-there (Ends.spaced a) })
    (record { spelling = 111 ∷ 114 ∷ []; text = refl; apart = λ ss a. Fixed.keyword or-there (Ends.spaced a) })

pub operands-are : {o : ℕ} (k : Operator o) (sa sb : List Sign) → sa ++ operator_text o ++ sb ≡ sa ++ space ∷ Sign.fixed (40 + o) k.spelling ∷ space ∷ sb
operands-are {o} k sa sb = rw (append_assoc sa (operator_text o) sb, k.text)

-- a priority is one token with a space behind it
pub record Priority (k : ℕ) : Type 0 where
  pub code : ℕ
  pub spelling : List ℕ
  pub text : priority_text k ≡ Sign.fixed code spelling ∷ space ∷ []
  pub numbered : code + 1 ≡ weak_code + k
  pub due : due_after code ≡ true
  pub apart : (ss : List Sign) → Opened ss → Fixed ss code spelling

pub priority-is : (k : ℕ) → 1 ≤ k → k ≤ 3 → Priority k
unfolding priority_text
priority-is zero l m = let z : ⊥ = omega arith in absurd z
priority-is (suc zero) l m =
    record {
      code = weak_code;
      spelling = 119 ∷ 101 ∷ 97 ∷ 107 ∷ [];
      text = refl;
      numbered = refl;
      due = due-weak;
      apart = λ ss a. Fixed.keyword weak-there (Ends.spaced a);
    }
priority-is (suc (suc zero)) l m =
    record {
      code = medium_code;
      spelling = 109 ∷ 101 ∷ 100 ∷ 105 ∷ 117 ∷ 109 ∷ [];
      text = refl;
      numbered = refl;
      due = due-medium;
      apart = λ ss a. Fixed.keyword medium-there (Ends.spaced a);
    }
priority-is (suc (suc (suc zero))) l m =
    record {
      code = required_code;
      spelling = 114 ∷ 101 ∷ 113 ∷ 117 ∷ 105 ∷ 114 ∷ 101 ∷ 100 ∷ [];
      text = refl;
      numbered = refl;
      due = due-required;
      apart = λ ss a. Fixed.keyword required-there (Ends.spaced a);
    }
priority-is (suc (suc (suc (suc k)))) l m = let z : ⊥ = omega arith in absurd z
