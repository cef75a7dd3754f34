-- The readers' answers as single numbers, for the comparison program. Assumes nothing: these are definitions.
use Rattle.std.specs.Prelude.{ℕ, ◌+◌, ◌*◌, cond, ltb, Option, Some, None, Result, Ok, Err}
use Rattle.program.specs.declared.Spot.{Spot}
use Rattle.program.specs.Forms.{most_words}

abbrev pub capped : ℕ → ℕ → ℕ
capped n most = cond (ltb n most) n most

-- no place is above most_words
abbrev pub verdict_number : Result (Unit {0}) ℕ → ℕ
verdict_number (Ok u) = 0
verdict_number (Err place) = 1 + capped place most_words

-- in a program that reads no verb is above 8, and no nesting is
abbrev pub spot_number : Option Spot → ℕ
spot_number (Some spot) = 1 + 16 * capped spot.verb 15 + capped spot.nest 15
spot_number None = 0
