-- A mark of one bit for each number, in words of 64. Assumes nothing: these are definitions.
use Rattle.std.specs.Prelude.{ℕ, zero, suc, ◌-◌, ◌*◌, ◌/◌, ◌%◌, ◌^◌, Bool, cond, List, [], ◌∷◌, eqb, length, get_or, set}
use Rattle.std.specs.Int.Bits.{bit_or}

-- bit l % 64 of the word l / 64 is 1; past the end no number is marked
unfoldable pub marked : List ℕ → ℕ → Bool
marked s l = eqb (get_or s (l / 64) 0 / 2 ^ (l % 64) % 2) 1

-- the marks with that of l; past the end they stay as they are
unfoldable pub with_mark : List ℕ → ℕ → List ℕ
with_mark s l = set s (l / 64) (bit_or (get_or s (l / 64) 0) (2 ^ (l % 64)))

-- the first marked number of n from l on; the one after them where none is
unfoldable pub first_marked : List ℕ → ℕ → ℕ → ℕ
first_marked s l zero = l
first_marked s l (suc n) = cond (marked s l) l (first_marked s (suc l) n)

-- the first marked number from l on; where none is, the first past the end
abbrev pub next_marked : List ℕ → ℕ → ℕ
next_marked s l = first_marked s l (64 * length s - l)

-- the marked numbers of n from l on, the least first
unfoldable pub marked_from : List ℕ → ℕ → ℕ → List ℕ
marked_from s l zero = []
marked_from s l (suc n) = cond (marked s l) (l ∷ marked_from s (suc l) n) (marked_from s (suc l) n)
