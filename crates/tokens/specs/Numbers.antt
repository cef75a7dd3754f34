-- What a number says: "a run of digits; leading zeros are allowed", behind its sign (docs/DECISIONS.md 76, 77 and 87). Assumes nothing: these are definitions.
use Rattle.std.specs.Prelude.{ℕ, ◌+◌, ◌-◌, ◌*◌, cond, List, [], ◌∷◌, ltb, eqb, ℤ, pos, neg_ℤ, get_or, drop, Option, MatchOption, ◌≡◌, ◌≤◌}
use Rattle.words.specs.Range.{ranged}

-- the digit that a byte is; 0 where it is none
unfoldable pub digit_of : ℕ → ℕ
digit_of b = cond (ltb b 48) 0 (cond (ltb 57 b) 0 (b - 48))

-- the number n with the digits of a text behind it
unfoldable pub digits_from : ℕ → List ℕ → ℕ
digits_from n [] = n
digits_from n (b ∷ s) = digits_from (10 * n + digit_of b) s

-- what is greater than every word without its sign, as the first such number
unfoldable pub capped : ℕ → ℕ
capped n = cond (ltb 2147483648 n) 2147483649 n

-- r is the number n of digits, none where it is greater than every word without its sign
abbrev pub IsCounted : ℕ → Option ℕ → Type 0
IsCounted n r = MatchOption r (n ≡ 2147483649) (λ m. (n ≡ m) × (m ≤ 2147483648))

unfoldable pub integer_of : List ℕ → ℤ
integer_of s = cond (eqb (get_or s 0 0) 45) (neg_ℤ (pos (digits_from 0 (drop 1 s)))) (pos (digits_from 0 s))

-- "a number outside 32 bits (its sign counts)"
unfoldable pub value_of : List ℕ → Option ℤ
value_of s = ranged (integer_of s)
