-- "Numbers are 32-bit words in decimal, without plus sign, leading zeros or -0": how such a text is read, and how a number is written.
-- Assumes nothing: these are definitions.
use Rattle.std.specs.Prelude.{ℕ, zero, suc, ◌+◌, ◌-◌, ◌*◌, ◌/◌, ◌%◌, cond, List, [], ◌∷◌, ◌++◌, ltb, eqb, ℤ, pos, negsuc, None, Option, Some, MatchOption, ◌≡◌, ◌≤◌}

-- ---- reading

-- what no text of digits is read as
abbrev pub no_number : ℕ
no_number = 2147483649

abbrev pub minus : ℕ
minus = 45

-- the digit that a byte is, from 48 for 0; 10 where it is none
unfoldable pub digit_of : ℕ → ℕ
digit_of b = cond (ltb b 48) 10 (cond (ltb 57 b) 10 (b - 48))

-- the number n with the digits of a text behind it; none where a byte is no digit or the number would pass 2147483648
unfoldable pub value_from : ℕ → List ℕ → ℕ
value_from n [] = n
value_from n (b ∷ s) =
    cond (eqb (digit_of b) 10) no_number
    (cond (ltb 2147483648 (10 * n + digit_of b)) no_number (value_from (10 * n + digit_of b) s))

-- at least one digit, and no 0 before others
unfoldable pub natural_in : List ℕ → ℕ
natural_in [] = no_number
natural_in (b ∷ []) = value_from 0 (b ∷ [])
natural_in (b ∷ c ∷ s) = cond (eqb (digit_of b) 0) no_number (value_from 0 (b ∷ c ∷ s))

-- r is the number n that digits are read as, none where they are no number
abbrev pub IsRead : ℕ → Option ℕ → Type 0
IsRead n r = MatchOption r (n ≡ no_number) (λ m. (n ≡ m) × (m ≤ 2147483648))

-- a number from 0 to 2147483647, and one from 1 to 2147483648 behind a minus sign
unfoldable pub positive_of : ℕ → Option ℤ
positive_of n = cond (ltb n 2147483648) (Some (pos n)) None

unfoldable pub negative_of : ℕ → Option ℤ
negative_of zero = None
negative_of (suc n) = cond (ltb n 2147483648) (Some (negsuc n)) None

unfoldable pub numeral_in : List ℕ → Option ℤ
numeral_in [] = None
numeral_in (b ∷ s) = cond (eqb b minus) (negative_of (natural_in s)) (positive_of (natural_in (b ∷ s)))

-- ---- writing

-- the last digits of a number, at most as many as there are places
unfoldable pub digits_by : ℕ → ℕ → List ℕ
digits_by zero n = []
digits_by (suc places) n = cond (ltb n 10) ((48 + n) ∷ []) (digits_by places (n / 10) ++ ((48 + n % 10) ∷ []))

-- a number in decimal; twenty places are enough for every number below 2 ^ 64
unfoldable pub digits : ℕ → List ℕ
digits n = digits_by 20 n

-- a word in decimal
unfoldable pub numeral : ℤ → List ℕ
numeral (pos n) = digits n
numeral (negsuc n) = minus ∷ digits (suc n)
