-- The constraints table (01, "Lent tables"): kept positions of both sorts. Assumes nothing: these are definitions.
use Rattle.std.specs.Prelude.{ℕ, ◌+◌, ◌-◌, Bool, cond, List, ltb, leb, eqb, ℤ, pos, set}
use Rattle.words.specs.Words.{word_at, number_at, word_of, eq_z}
use Rattle.tables.specs.Sizes.{no_number}
use Rattle.tables.specs.Search.{every, first}
use Rattle.tables.specs.declared.Sort.{Sort}
use Rattle.tables.specs.declared.Sort.TheVariants.{Values, Identities}

-- "value count, identity count, 64 value positions, 32 identity positions": the word of a sort's count, the room for its positions, and their first word
unfoldable pub kept_word : Sort → ℕ
kept_word Values = 0
kept_word Identities = 1

abbrev pub most_kept : Sort → ℕ
most_kept Values = 64
most_kept Identities = 32

unfoldable pub first_kept : Sort → ℕ
first_kept Values = 2
first_kept Identities = 66

-- the count of a sort as it is written
unfoldable pub kept_number : List ℤ → Sort → ℕ
kept_number c s = number_at c (kept_word s)

-- how many positions of a sort are kept; none where the count is out of its range
unfoldable pub kept_count : List ℤ → Sort → ℕ
kept_count c s = cond (leb (kept_number c s) (most_kept s)) (kept_number c s) 0

-- the kept position number i of a sort
unfoldable pub position_at : List ℤ → Sort → ℕ → ℕ
position_at c s i = cond (ltb i (most_kept s)) (number_at c (first_kept s + i)) no_number

-- "unused words are 0": the word for position number i of a sort, and those for every position from number n on
unfoldable pub blank_position : List ℤ → Sort → ℕ → Bool
blank_position c s i = eq_z (word_at c (first_kept s + i)) (pos 0)

unfoldable pub blank_positions : List ℤ → Sort → ℕ → Bool
blank_positions c s n = every (λ i. blank_position c s (n + i)) (most_kept s - n)

unfoldable pub is_kept : List ℤ → Sort → ℕ → Bool
is_kept c s p = ltb (first (λ i. eqb (position_at c s i) p) 0 (kept_count c s)) (kept_count c s)

-- a position more, after those of its sort; nothing is added where there is no room
unfoldable pub with_position : List ℤ → Sort → ℕ → List ℤ
with_position c s p =
    cond (ltb (kept_count c s) (most_kept s))
    (set (set c (first_kept s + kept_count c s) (word_of p)) (kept_word s) (pos (kept_count c s + 1)))
    c

-- the table without the last position of a sort, whose word is zero again
unfoldable pub without_position : List ℤ → Sort → List ℤ
without_position c s =
    cond (ltb 0 (kept_count c s))
    (set (set c (first_kept s + (kept_count c s - 1)) (pos 0)) (kept_word s) (pos (kept_count c s - 1)))
    c
