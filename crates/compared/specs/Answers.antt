-- The answers of paths, expressions and constraints as four words, for the comparison program. Assumes nothing: these are definitions.
use Rattle.std.specs.Prelude.{Bool, cond, List, ℤ, pos, set, Result, Ok, Err}
use Rattle.words.specs.Words.{word_of}
use Rattle.tables.specs.Values.{cell_of}
use Rattle.program.specs.declared.Refusal.{Refusal}
use Rattle.expressions.specs.declared.Named.{Named}
use Rattle.expressions.specs.declared.Evaluated.{Evaluated}
use Rattle.expressions.specs.declared.Weighed.{Weighed}

-- The four words of an answer: 0 and what was found, or a refusal's number and its word.
pub record Four : Type 0 where
  pub outcome : ℤ
  pub first : ℤ
  pub second : ℤ
  pub third : ℤ

abbrev pub four : ℤ → ℤ → ℤ → ℤ → Four
four a b c d = record { outcome = a; first = b; second = c; third = d }

-- an answer stored at the start of a slice; what would pass its end is not stored
abbrev pub stored : List ℤ → Four → List ℤ
stored s f = set (set (set (set s 0 f.outcome) 1 f.first) 2 f.second) 3 f.third

abbrev pub refusal : Refusal → Four
refusal f = four (word_of f.number) (word_of f.word) (pos 0) (pos 0)

abbrev pub bit_of : Bool → ℤ
bit_of b = cond b (pos 1) (pos 0)

-- the location of the cell, and the words left
abbrev pub named_words : Result Named Refusal → Four
named_words (Ok x) = four (pos 0) (word_of x.cell) (word_of x.left) (pos 0)
named_words (Err f) = refusal f

-- the value's kind and payload, and the words left
abbrev pub evaluated_words : Result Evaluated Refusal → Four
evaluated_words (Ok x) = four (pos 0) (cell_of x.value).kind (cell_of x.value).payload (word_of x.left)
evaluated_words (Err f) = refusal f

abbrev pub tested_words : Result Bool Refusal → Four
tested_words (Ok b) = four (pos 0) (bit_of b) (pos 0) (pos 0)
tested_words (Err f) = refusal f

-- whether all parts are satisfied, and whether the required ones are
abbrev pub weighed_words : Result Weighed Refusal → Four
weighed_words (Ok w) = four (pos 0) (bit_of w.all) (bit_of w.required) (pos 0)
weighed_words (Err f) = refusal f
