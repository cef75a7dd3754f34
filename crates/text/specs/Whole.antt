-- What the call leaves for a text: number and place, words, origins and names. Assumes nothing: these are definitions.
use Rattle.std.specs.Prelude.{ℕ, zero, suc, ◌+◌, Bool, cond, ◌&&◌, List, [], ◌∷◌, ◌++◌, eqb, ℤ, pos, length, get_or, set, drop}
use Rattle.words.specs.Answer.{got, stop}
use Rattle.words.specs.Words.{word_of}
use Rattle.tables.specs.Sizes.{variables, labels}
use Rattle.program.specs.Forms.{most_words}
use Rattle.text.specs.Reading.{Named, Reader, Form, text_at}

-- program, origins and names as they are left, the four words of the answer, and what the call returns
pub record Answered : Type 0 where
  pub program : List ℤ
  pub origins : List ℤ
  pub names : List ℤ
  pub answer : List ℤ
  pub words : ℕ

abbrev pub answered : List ℤ → List ℤ → List ℤ → List ℤ → ℕ → Answered
answered program origins names answer words = record { program = program; origins = origins; names = names; answer = answer; words = words }

-- "for each program word the place of the token it comes from"
unfoldable pub place_words : List ℕ → List ℤ
place_words [] = []
place_words (p ∷ ps) = word_of p ∷ place_words ps

-- "variable v's first appearance begins at byte words[2v] and has words[2v+1] bytes .. unused ones are 0": two words for each of n numbers
unfoldable pub name_words : ℕ → List Named → List ℤ
name_words zero ns = []
name_words (suc n) [] = pos 0 ∷ pos 0 ∷ name_words n []
name_words (suc n) (x ∷ ns) = word_of x.place ∷ word_of x.length ∷ name_words n ns

-- "program and origins hold as many words, the rest of both is as it was"
abbrev pub over : List ℤ → List ℤ → List ℤ
over ws lent = ws ++ drop (length ws) lent

-- "On a refusal the call returns 0, and answer's third and fourth number are 0"; nothing else is written
abbrev pub refused : List ℤ → List ℤ → List ℤ → ℕ → ℕ → Answered
refused program origins names n place = answered program origins names (word_of n ∷ word_of place ∷ word_of 0 ∷ word_of 0 ∷ []) 0

-- "Outcome 0: place is the text's length; the call returns the number of words; answer has the numbers of variables and labels."
abbrev pub accepted : List ℕ → List ℤ → List ℤ → Form → Reader → Answered
accepted text program origins f r =
    answered
    (over f.words program)
    (over (place_words f.origins) origins)
    (name_words variables r.variables ++ name_words labels r.labels)
    (word_of 0 ∷ word_of (length text) ∷ word_of (length r.variables) ∷ word_of (length r.labels) ∷ [])
    (length f.words)

-- "A table or buffer with a fixed length .. of another length is outcome 1, place 0, before everything else"
unfoldable pub sized : List ℤ → List ℤ → List ℤ → Bool
sized program origins names = eqb (length program) most_words && eqb (length origins) most_words && eqb (length names) 192

unfoldable pub read : List ℕ → List ℤ → List ℤ → List ℤ → Answered
read text program origins names =
    cond (sized program origins names)
    (elim (text_at text) [ got x ↦ accepted text program origins x.0 x.1 | stop f ↦ refused program origins names f.number f.place ])
    (refused program origins names 1 0)

-- ---- on the way

-- n places from one on, as words
unfoldable pub told_from : List ℕ → ℕ → ℕ → List ℤ → List ℤ
told_from places at zero out = out
told_from places at (suc n) out = set (told_from places at n out) (at + n) (word_of (get_or places (at + n) 0))
