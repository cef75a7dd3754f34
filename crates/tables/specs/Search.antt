-- Tests of every number below a bound, and the first that passes. Assumes nothing: these are definitions.
use Rattle.std.specs.Prelude.{ℕ, zero, suc, Bool, true, ◌&&◌, cond}

-- every number below n passes
unfoldable pub every : (ℕ → Bool) → ℕ → Bool
every t zero = true
every t (suc n) = every t n && t n

-- the first of the n numbers from i on that passes; the number after them where none does
unfoldable pub first : (ℕ → Bool) → ℕ → ℕ → ℕ
first t i zero = i
first t i (suc n) = cond (t i) i (first t (suc i) n)
