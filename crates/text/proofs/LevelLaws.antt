-- The levels of the operators by their numbers, and behind which tokens an operand is due. Assumes nothing.
use mathlib.Core.Path.{◌≡◌, refl}
use mathlib.Core.Bool.{true}
use Prim.Native.Nat.{ℕ, zero, suc, ◌+◌, ◌≤◌}
use native.Mathlib.Omega.{arith}
use lib.Dec.{eqb, leb}
use Rattle.tables.proofs.SearchLaws.{cases}
use Rattle.tokens.specs.Codes.{always_code, once_code, weak_code, medium_code, required_code, if_code, while_code, becomes_code, colon_code, open_bracket_code, beside_code}
use Rattle.text.specs.Reading.{due_after, level_of}
use Rattle.text.specs.Grammar.{Level}

-- an operator by its number
pub by-operator {ℓ} : (X : ℕ → Type ℓ) (k : ℕ) → 1 ≤ k → k ≤ 11 → X 1 → X 2 → X 3 → X 4 → X 5 → X 6 → X 7 → X 8 → X 9 → X 10 → X 11 → X k
by-operator X zero l m a b c d e f g h i j n = let z : ⊥ = omega arith in absurd z
by-operator X (suc zero) l m a b c d e f g h i j n = a
by-operator X (suc (suc zero)) l m a b c d e f g h i j n = b
by-operator X (suc (suc (suc zero))) l m a b c d e f g h i j n = c
by-operator X (suc (suc (suc (suc zero)))) l m a b c d e f g h i j n = d
by-operator X (suc (suc (suc (suc (suc zero))))) l m a b c d e f g h i j n = e
by-operator X (suc (suc (suc (suc (suc (suc zero)))))) l m a b c d e f g h i j n = f
by-operator X (suc (suc (suc (suc (suc (suc (suc zero))))))) l m a b c d e f g h i j n = g
by-operator X (suc (suc (suc (suc (suc (suc (suc (suc zero)))))))) l m a b c d e f g h i j n = h
by-operator X (suc (suc (suc (suc (suc (suc (suc (suc (suc zero))))))))) l m a b c d e f g h i j n = i
by-operator X (suc (suc (suc (suc (suc (suc (suc (suc (suc (suc zero)))))))))) l m a b c d e f g h i j n = j
by-operator X (suc (suc (suc (suc (suc (suc (suc (suc (suc (suc (suc zero))))))))))) l m a b c d e f g h i j n = n
by-operator X (suc (suc (suc (suc (suc (suc (suc (suc (suc (suc (suc (suc k)))))))))))) l m a b c d e f g h i j n = let z : ⊥ = omega arith in absurd z

pub level-is : (k : ℕ) → 1 ≤ k → k ≤ 11 → Level k (level_of k)
unfolding level_of
level-is k l m =
    by-operator (λ n. Level n (level_of n)) k l m (Level.sums (omega arith) (omega arith)) (Level.sums (omega arith) (omega arith)) Level.times
    (Level.comparisons (omega arith) (omega arith))
    (Level.comparisons (omega arith) (omega arith))
    (Level.comparisons (omega arith) (omega arith))
    (Level.comparisons (omega arith) (omega arith))
    (Level.comparisons (omega arith) (omega arith))
    (Level.comparisons (omega arith) (omega arith))
    Level.both
    Level.either

pub level-bounds : {k l : ℕ} → Level k l → (1 ≤ l) × (l ≤ 5)
level-bounds Level.times = (omega arith, omega arith)
level-bounds (Level.sums a b) = (omega arith, omega arith)
level-bounds (Level.comparisons a b) = (omega arith, omega arith)
level-bounds Level.both = (omega arith, omega arith)
level-bounds Level.either = (omega arith, omega arith)

-- no number has a level above 5
pub level-most : (k : ℕ) → level_of k ≤ 5
unfolding level_of
level-most k =
    cases (eqb k 3) (λ a. rw a (omega arith))
    (λ a. cases (leb k 2) (λ b. rw (a, b) (omega arith))
    (λ b. cases (leb k 9) (λ c. rw (a, b, c) (omega arith))
    (λ c. cases (leb k 10) (λ d. rw (a, b, c, d) (omega arith)) (λ d. rw (a, b, c, d) (omega arith)))))

-- ---- an operand is due

pub due-operator : (k : ℕ) → 1 ≤ k → k ≤ 11 → due_after (40 + k) ≡ true
unfolding due_after
due-operator k l m = by-operator (λ n. due_after (40 + n) ≡ true) k l m refl refl refl refl refl refl refl refl refl refl refl

pub due-becomes : due_after becomes_code ≡ true
unfolding due_after
due-becomes = refl

pub due-colon : due_after colon_code ≡ true
unfolding due_after
due-colon = refl

pub due-bracket : due_after open_bracket_code ≡ true
unfolding due_after
due-bracket = refl

pub due-beside : due_after beside_code ≡ true
unfolding due_after
due-beside = refl

pub due-always : due_after always_code ≡ true
unfolding due_after
due-always = refl

pub due-once : due_after once_code ≡ true
unfolding due_after
due-once = refl

pub due-weak : due_after weak_code ≡ true
unfolding due_after
due-weak = refl

pub due-medium : due_after medium_code ≡ true
unfolding due_after
due-medium = refl

pub due-required : due_after required_code ≡ true
unfolding due_after
due-required = refl

pub due-if : due_after if_code ≡ true
unfolding due_after
due-if = refl

pub due-while : due_after while_code ≡ true
unfolding due_after
due-while = refl
