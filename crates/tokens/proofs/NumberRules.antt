-- A number is what its bytes say, and all digits are a number. Assumes nothing.
use mathlib.Core.Path.{◌≡◌, refl, sym, ap, subst, ◌∙◌}
use mathlib.Core.List.{List, [], ◌∷◌, ◌++◌, append_assoc, append-nil}
use Prim.Native.Nat.{ℕ, ◌+◌, ◌-◌, ◌*◌, ◌≤◌, ◌<◌}
use native.Mathlib.Omega.{arith}
use lib.IntN.{pos, neg_ℤ}
use lib.ListN.{get_or}
use Rattle.words.specs.Range.{ranged}
use Rattle.tokens.specs.Bytes.{is_digit}
use Rattle.tokens.specs.Numbers.{digit_of, digits_from}
use Rattle.tokens.specs.Rules.{All, Digits, Says}
use Rattle.tokens.specs.Claims.{Values, Counted, Counts}
use Rattle.tokens.proofs.ByteLaws.{between-least, between-most}
use Rattle.tokens.proofs.NumberLaws.{digit-is, digits-none, digits_more, value-negative, value-positive, no-sign, capped-negative, capped-positive}

digit-of : (d : ℕ) → d < 10 → digit_of (48 + d) ≡ d
digit-of d h = digit-is (48 + d) (omega arith) (omega arith) ∙ (let z : 48 + d - 48 ≡ d = omega arith in z)

-- one digit more behind others
digits_last : (k b : ℕ) (s : List ℕ) → digits_from k (s ++ b ∷ []) ≡ 10 * digits_from k s + digit_of b
digits_last k b [] = digits_more k b [] ∙ digits-none (10 * k + digit_of b) ∙ ap (λ n. 10 * n + digit_of b) (sym (digits-none k))
digits_last k b (x ∷ s) = digits_more k x (s ++ b ∷ []) ∙ digits_last (10 * k + digit_of x) b s ∙ ap (λ n. 10 * n + digit_of b) (sym (digits_more k x s))

digits_are : (s : List ℕ) (n : ℕ) → Digits s n → digits_from 0 s ≡ n
digits_are _ _ Digits.none = digits-none 0
digits_are _ _ (Digits.next {s = s} {n = n} {d = d} k h) = digits_last 0 (48 + d) s ∙ rw (digits_are s n k, digit-of d h)

-- digits begin with no sign
first_of : (s : List ℕ) (b : ℕ) → (get_or s 0 0 ≡ 45 → ⊥) → (b ≡ 45 → ⊥) → get_or (s ++ b ∷ []) 0 0 ≡ 45 → ⊥
first_of [] b f g e = g e
first_of (x ∷ s) b f g e = f e

no_sign : (s : List ℕ) (n : ℕ) → Digits s n → get_or s 0 0 ≡ 45 → ⊥
no_sign _ _ Digits.none e = omega arith
no_sign _ _ (Digits.next {s = s} {n = n} {d = d} k h) e = first_of s (48 + d) (λ z. no_sign s n k z) (λ z. omega arith) e

pub values : Values
values s _ (Says.plain {n = n} d) = sym (value-positive s (no-sign s (no_sign s n d)) refl) ∙ capped-positive (digits_from 0 s) ∙ ap (λ m. ranged (pos m)) (digits_are s n d)
values _ _ (Says.negative {s = s} {n = n} d) =
    sym (value-negative (45 ∷ s) refl refl refl) ∙ capped-negative (digits_from 0 s) ∙ ap (λ m. ranged (neg_ℤ (pos m))) (digits_are s n d)

-- digits behind others
count : (p s : List ℕ) (n : ℕ) → Digits p n → All is_digit s → Counted (p ++ s)
count p [] n k a = subst Counted (sym (append-nil p)) (record { number = n; digits = k })
count p (b ∷ s) n k (All.more e a) =
    let l : 48 ≤ b = between-least 48 57 b e in
    let h : b ≤ 57 = between-most 48 57 b e in
    let d : ℕ = b - 48 in
    let z : b ≡ 48 + d = omega arith in
    subst Counted (append_assoc p (b ∷ []) s) (count (p ++ b ∷ []) s (10 * n + d) (subst (λ x. Digits (p ++ x ∷ []) (10 * n + d)) (sym z) (Digits.next k (omega arith))) a)

pub counts : Counts
counts s a = count [] s 0 Digits.none a
