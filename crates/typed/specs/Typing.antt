-- The program of a sheet, typed: the text's reading, the program's text with default names, and a newline. Assumes nothing: these are definitions.
use Rattle.std.specs.Prelude.{ℕ, cond, List, [], ◌∷◌, ◌++◌, eqb, ℤ, pos, take, replicate, Result, Ok, Err}
use Rattle.words.specs.Words.{number_at}
use Rattle.tokens.specs.Tokens.{most_bytes}
use Rattle.lister.specs.declared.Input.{Input}
use Rattle.lister.specs.Reading.{Given, input_in}
use Rattle.lister.specs.Listing.{named_line, outcome_name, place_name, unfit_text}
use Rattle.printing.specs.Whole.{Answered, write}

-- `outcome=` and `place=`, each on its line
abbrev pub refused_text : ℕ → ℕ → List ℕ
refused_text outcome place = named_line outcome_name outcome ++ named_line place_name place

-- what was written and a newline, or the refusal
abbrev pub answered_text : Answered → List ℕ
answered_text a = cond (eqb (number_at a.answer 0) 0) (take a.bytes a.text ++ 10 ∷ []) (refused_text (number_at a.answer 0) (number_at a.answer 1))

-- no name is given, and there is room for the longest text
unfoldable pub program_typed : List ℤ → List ℕ
program_typed p = answered_text (write p [] (replicate 192 (pos 0)) (replicate most_bytes 0))

-- the program of a text that reads is typed; of another its first unfit line is told
abbrev pub typed_by : Given → Result Input ℕ → List ℕ
typed_by g (Ok input) = program_typed g.program
typed_by g (Err line) = unfit_text line

-- the whole output for a text
unfoldable pub typed_to : List ℕ → List ℕ
typed_to t = typed_by (input_in t) (input_in t).answer
