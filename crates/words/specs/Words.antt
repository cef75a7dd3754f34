-- Words of a program or a table, and words as numbers. Assumes nothing: these are definitions.
use Rattle.std.specs.Prelude.{ℕ, zero, suc, ◌+◌, ◌-◌, Bool, false, cond, List, [], ltb, eqb, ℤ, pos, negsuc, length, get_or, drop, set}

-- the word at i, 0 past the end
abbrev pub word_at : List ℤ → ℕ → ℤ
word_at s i = get_or s i (pos 0)

-- a word as a number; a negative word is 2147483648, which no word is
abbrev pub number_of : ℤ → ℕ
number_of (pos n) = n
number_of (negsuc n) = 2147483648

-- the word at i as a number; past the end as for a negative word
unfoldable pub number_at : List ℤ → ℕ → ℕ
number_at s i = number_of (get_or s i (negsuc 0))

-- a number as a word; what no word is, as the greatest word
unfoldable pub word_of : ℕ → ℤ
word_of n = cond (ltb n 2147483648) (pos n) (pos 2147483647)

-- the last k words
abbrev pub last_of : ℕ → List ℤ → List ℤ
last_of k s = drop (length s - k) s

-- the words s with the first n words of t from the word at on
unfoldable pub copied : List ℤ → ℕ → ℕ → List ℤ → List ℤ
copied t at zero s = s
copied t at (suc n) s = set (copied t at n s) (at + n) (word_at t n)

-- the words s with n zeros from the word at on
abbrev pub cleared : ℕ → ℕ → List ℤ → List ℤ
cleared at n s = copied [] at n s

abbrev pub eq_z : ℤ → ℤ → Bool
eq_z (pos a) (pos b) = eqb a b
eq_z (pos a) (negsuc b) = false
eq_z (negsuc a) (pos b) = false
eq_z (negsuc a) (negsuc b) = eqb a b
