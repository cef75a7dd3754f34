-- What the call leaves for a program: number and place, and the text (02, W5). Assumes nothing: these are definitions.
use Rattle.std.specs.Prelude.{ℕ, Bool, cond, ◌&&◌, List, [], ◌∷◌, ◌++◌, eqb, ltb, leb, ℤ, length, drop, replicate}
use Rattle.words.specs.Answer.{got, stop}
use Rattle.words.specs.Words.{word_of}
use Rattle.tables.specs.Sizes.{labels}
use Rattle.program.specs.Reading.{read_program}
use Rattle.tokens.specs.Tokens.{most_bytes}
use Rattle.printing.specs.Printing.{program_text}
use Rattle.printing.specs.Naming.{Naming, naming, numbers, first_label, bytes_of, numbers_of, noted_all}
use Rattle.printing.specs.Faults.{fault_from, used_from}

-- the text as it is left, the four words of the answer, and what the call returns
pub record Answered : Type 0 where
  pub text : List ℕ
  pub answer : List ℤ
  pub bytes : ℕ

abbrev pub answered : List ℕ → List ℤ → ℕ → Answered
answered text answer bytes = record { text = text; answer = answer; bytes = bytes }

-- the text of a program, and the standings of the numbers that it uses
unfoldable pub text_of : Naming → List ℤ → List ℕ
text_of N p = bytes_of N (program_text p)

unfoldable pub standings : List ℤ → List ℕ
standings p = noted_all (replicate numbers 0) (numbers_of (program_text p))

-- "24's place is the first number at fault", 96 where there is none
unfoldable pub first_fault : Naming → List ℤ → ℕ
first_fault N p = fault_from N (standings p) 0 numbers

-- "exactly when that is more than the buffer's bytes or 65,536"
abbrev pub fits_in : ℕ → ℕ → Bool
fits_in room n = leb n room && leb n most_bytes

-- No refusal writes to the text; the call returns 0, and answer's third and fourth number are 0.
abbrev pub refused : List ℕ → ℕ → ℕ → Answered
refused text n place = answered text (word_of n ∷ word_of place ∷ word_of 0 ∷ word_of 0 ∷ []) 0

-- "0: place is the program's length; returns the bytes written, the rest of the buffer is as it was; answer has how many variables and labels are used"
abbrev pub accepted : List ℕ → List ℤ → List ℕ → Answered
accepted written p text =
    answered
    (written ++ drop (length written) text)
    (word_of 0 ∷ word_of (length p) ∷ word_of (used_from (standings p) 0 first_label) ∷ word_of (used_from (standings p) first_label labels) ∷ [])
    (length written)

-- "Order: 1; 2 with 01's place; 24; 25": the last two, of a program that reads
unfoldable pub printed : Naming → List ℤ → List ℕ → Answered
printed N p text =
    cond (ltb (first_fault N p) numbers) (refused text 24 (first_fault N p))
    (cond (fits_in (length text) (length (text_of N p))) (accepted (text_of N p) p text) (refused text 25 (length (text_of N p))))

unfoldable pub write : List ℤ → List ℕ → List ℤ → List ℕ → Answered
write p source names text =
    cond (eqb (length names) 192)
    (elim (read_program p) [ got u ↦ printed (naming source names) p text | stop place ↦ refused text 2 place ])
    (refused text 1 0)
