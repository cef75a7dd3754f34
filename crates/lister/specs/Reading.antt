-- How the input is read (01, "The run lister"). The text's own grammar stands apart, in Grammar. Assumes nothing: these are definitions.
use Rattle.std.specs.Prelude.{ℕ, zero, suc, ◌≡◌, cond, List, [], ◌∷◌, ◌++◌, ltb, ℤ, length, drop, None, Option, Some, Result, Ok, Err}
use Rattle.words.specs.Answer.{Answer, got, stop}
use Rattle.lister.specs.Bytes.{newline, space, up_to, past, pieces, begins, laid}
use Rattle.lister.specs.Numerals.{numeral_in}
use Rattle.lister.specs.declared.Input.{Input}

-- "at most 4,096 numbers each", "a file above 64 KiB"
abbrev pub most_numbers : ℕ
most_numbers = 4096

abbrev pub most_bytes : ℕ
most_bytes = 65536

-- the names of the three lines: `program=`, `proposals=`, `budget=`
abbrev pub program_name : List ℕ
program_name = 112 ∷ 114 ∷ 111 ∷ 103 ∷ 114 ∷ 97 ∷ 109 ∷ 61 ∷ []

abbrev pub proposals_name : List ℕ
proposals_name = 112 ∷ 114 ∷ 111 ∷ 112 ∷ 111 ∷ 115 ∷ 97 ∷ 108 ∷ 115 ∷ 61 ∷ []

abbrev pub budget_name : List ℕ
budget_name = 98 ∷ 117 ∷ 100 ∷ 103 ∷ 101 ∷ 116 ∷ 61 ∷ []

-- the numbers of a line, or, where it is unfit, those before the first unfit piece
abbrev pub Line : Type 0
Line = Answer (List ℤ) (List ℤ)

-- numbers before those of a line
abbrev pub ahead : List ℤ → Line → Line
ahead xs (got ws) = got (xs ++ ws)
ahead xs (stop ws) = stop (xs ++ ws)

-- a number before those of a line, if it is one
abbrev pub ahead_of : Option ℤ → Line → Line
ahead_of (Some w) a = ahead (w ∷ []) a
ahead_of None a = stop []

-- the numbers of pieces, of which there may be n
unfoldable pub numbers_in : ℕ → List (List ℕ) → Line
numbers_in n [] = got []
numbers_in zero (p ∷ ps) = stop []
numbers_in (suc n) (p ∷ ps) = ahead_of (numeral_in p) (numbers_in n ps)

unfoldable pub row_in : List ℕ → Line
row_in s = numbers_in most_numbers (pieces space s)

-- "either list may be empty"
unfoldable pub list_in : List ℕ → Line
list_in [] = got []
list_in (b ∷ s) = row_in (b ∷ s)

unfoldable pub line_in : List ℕ → List ℕ → Line
line_in name s = cond (begins name s) (list_in (drop (length name) s)) (stop [])

-- the third line, from its first byte to the end of the text: a number, and nothing after its newline
abbrev pub only_by : Option ℤ → List ℕ → Option ℤ
only_by n [] = n
only_by n (b ∷ s) = None

unfoldable pub budget_line : List ℕ → Option ℤ
budget_line s = cond (begins budget_name s) (numeral_in (drop (length budget_name) s)) None

unfoldable pub budget_in : List ℕ → Option ℤ
budget_in t = only_by (budget_line (up_to newline t)) (past newline t)

-- what the input comes to: what it says or the number of its first unfit line, and the numbers that are stored for the program and for the proposals
pub record Given : Type 0 where
  pub answer : Result Input ℕ
  pub program : List ℤ
  pub proposals : List ℤ

abbrev pub input_of : ℕ → ℕ → ℤ → Input
input_of n m w = record { program = n; proposals = m; budget = w }

abbrev pub given : Result Input ℕ → List ℤ → List ℤ → Given
given a ps qs = record { answer = a; program = ps; proposals = qs }

abbrev pub with_budget : List ℤ → List ℤ → Option ℤ → Given
with_budget ps qs (Some w) = given (Ok (input_of (length ps) (length qs) w)) ps qs
with_budget ps qs None = given (Err 3) ps qs

abbrev pub with_proposals : List ℤ → Line → Option ℤ → Given
with_proposals ps (got qs) b = with_budget ps qs b
with_proposals ps (stop qs) b = given (Err 2) ps qs

abbrev pub with_program : Line → Line → Option ℤ → Given
with_program (got ps) l b = with_proposals ps l b
with_program (stop ps) l b = given (Err 1) ps []

-- the lines in order; "1 for size"
unfoldable pub lines_in : List ℕ → Given
lines_in t =
    with_program (line_in program_name (up_to newline t)) (line_in proposals_name (up_to newline (past newline t))) (budget_in (past newline (past newline t)))

unfoldable pub input_in : List ℕ → Given
input_in t = cond (ltb most_bytes (length t)) (given (Err 1) [] []) (lines_in t)

-- ---- what a reader promises: its answer, and the words that it stored

abbrev pub numbers_of : Line → List ℤ
numbers_of (got ws) = ws
numbers_of (stop ws) = ws

abbrev pub row_of : Line → Option ℕ
row_of (got ws) = Some (length ws)
row_of (stop ws) = None

pub record RowRead (a : Line) (before after : List ℤ) (r : Option ℕ) : Type 0 where
  pub told : r ≡ row_of a
  pub stored : after ≡ laid (numbers_of a) before

pub record InputRead (g : Given) (p p' q q' : List ℤ) (r : Result Input ℕ) : Type 0 where
  pub told : r ≡ g.answer
  pub program : p' ≡ laid g.program p
  pub proposals : q' ≡ laid g.proposals q
