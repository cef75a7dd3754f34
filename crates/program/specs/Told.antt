-- What the readers answer in numbers. Assumes nothing: these are definitions.
use Rattle.std.specs.Prelude.{ℕ, List, ℤ, length, Result, Ok, Err}
use Rattle.words.specs.Answer.{Answer, got, stop}
use Rattle.program.specs.Reading.{Reading}

-- whether a piece reads, and how many words are left after it, or from the first unfit word on
abbrev pub told : Reading (List ℤ) → Result ℕ ℕ
told (got q) = Ok (length q)
told (stop q) = Err (length q)

-- how many words are left, whether the piece reads or not
abbrev pub words_left : Result ℕ ℕ → ℕ
words_left (Ok left) = left
words_left (Err left) = left

-- outcome 2 is `Err` with its place
abbrev pub verdict_of : Answer ℕ (Unit {0}) → Result (Unit {0}) ℕ
verdict_of (got u) = Ok tt
verdict_of (stop place) = Err place
