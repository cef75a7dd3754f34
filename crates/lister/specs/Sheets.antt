-- Document 01's input and output, texts that are unfit, and the values that print. Assumes nothing: these are definitions.
use Rattle.std.specs.Prelude.{ℕ, ◌-◌, List, [], ◌∷◌, ◌++◌, ℤ, pos, negsuc, length, replicate, Result, Ok, Err}
use Rattle.tables.specs.Cells.{Cells, cells}
use Rattle.lister.specs.declared.Input.{Input}
use Rattle.lister.specs.Reading.{Given, given, input_of, input_in}

-- a table of n words that begins with these
abbrev table : ℕ → List ℤ → List ℤ
table n ws = ws ++ replicate (n - length ws) (pos 0)

-- "Input, whole", and what it gives
abbrev pub input_text : List ℕ
input_text = 112 ∷ 114 ∷ 111 ∷ 103 ∷ 114 ∷ 97 ∷ 109 ∷ 61 ∷ 51 ∷ 32 ∷ 50 ∷ 32 ∷ 48 ∷ 32 ∷ 50 ∷ 32 ∷ 48 ∷ 32 ∷ 50 ∷ 51 ∷ 32 ∷ 54 ∷ 52 ∷ 32 ∷ 49 ∷ 32 ∷ 50 ∷ 51 ∷ 32 ∷ 49 ∷ 54 ∷ 32 ∷ 51 ∷ 32 ∷ 49 ∷ 32 ∷ 51 ∷ 32 ∷ 50 ∷ 53 ∷ 32 ∷ 54 ∷ 32 ∷ 50 ∷ 52 ∷ 32 ∷ 48 ∷ 32 ∷ 49 ∷ 32 ∷ 48 ∷ 32 ∷ 50 ∷ 53 ∷ 32 ∷ 51 ∷ 32 ∷ 50 ∷ 51 ∷ 32 ∷ 52 ∷ 32 ∷ 50 ∷ 52 ∷ 32 ∷ 48 ∷ 32 ∷ 49 ∷ 32 ∷ 49 ∷ 32 ∷ 49 ∷ 32 ∷ 48 ∷ 32 ∷ 49 ∷ 32 ∷ 49 ∷ 32 ∷ 50 ∷ 51 ∷ 32 ∷ 51 ∷ 50 ∷ 10 ∷ 112 ∷ 114 ∷ 111 ∷ 112 ∷ 111 ∷ 115 ∷ 97 ∷ 108 ∷ 115 ∷ 61 ∷ 48 ∷ 32 ∷ 48 ∷ 32 ∷ 49 ∷ 32 ∷ 54 ∷ 52 ∷ 32 ∷ 49 ∷ 50 ∷ 56 ∷ 10 ∷ 98 ∷ 117 ∷ 100 ∷ 103 ∷ 101 ∷ 116 ∷ 61 ∷ 49 ∷ 48 ∷ 48 ∷ 10 ∷ []

abbrev pub input_given : Given
input_given = given (Ok (input_of 33 5 (pos 100))) (pos 3 ∷ pos 2 ∷ pos 0 ∷ pos 2 ∷ pos 0 ∷ pos 23 ∷ pos 64 ∷ pos 1 ∷ pos 23 ∷ pos 16 ∷ pos 3 ∷ pos 1 ∷ pos 3 ∷ pos 25 ∷ pos 6 ∷ pos 24 ∷ pos 0 ∷ pos 1 ∷ pos 0 ∷ pos 25 ∷ pos 3 ∷ pos 23 ∷ pos 4 ∷ pos 24 ∷ pos 0 ∷ pos 1 ∷ pos 1 ∷ pos 1 ∷ pos 0 ∷ pos 1 ∷ pos 1 ∷ pos 23 ∷ pos 32 ∷ []) (pos 0 ∷ pos 0 ∷ pos 1 ∷ pos 64 ∷ pos 128 ∷ [])

-- the same without its last newline, and the extreme numbers of both signs
abbrev pub cut_text : List ℕ
cut_text = 112 ∷ 114 ∷ 111 ∷ 103 ∷ 114 ∷ 97 ∷ 109 ∷ 61 ∷ 45 ∷ 50 ∷ 49 ∷ 52 ∷ 55 ∷ 52 ∷ 56 ∷ 51 ∷ 54 ∷ 52 ∷ 56 ∷ 32 ∷ 50 ∷ 49 ∷ 52 ∷ 55 ∷ 52 ∷ 56 ∷ 51 ∷ 54 ∷ 52 ∷ 55 ∷ 10 ∷ 112 ∷ 114 ∷ 111 ∷ 112 ∷ 111 ∷ 115 ∷ 97 ∷ 108 ∷ 115 ∷ 61 ∷ 10 ∷ 98 ∷ 117 ∷ 100 ∷ 103 ∷ 101 ∷ 116 ∷ 61 ∷ 48 ∷ []

abbrev pub cut_given : Given
cut_given = given (Ok (input_of 2 0 (pos 0))) (negsuc 2147483647 ∷ pos 2147483647 ∷ []) []

-- unfit texts, each with its first unfit line
abbrev pub unfit_texts : List (List ℕ)
unfit_texts =
    ([])
    ∷ (112 ∷ 114 ∷ 111 ∷ 103 ∷ 114 ∷ 97 ∷ 109 ∷ 61 ∷ 32 ∷ 48 ∷ 10 ∷ 112 ∷ 114 ∷ 111 ∷ 112 ∷ 111 ∷ 115 ∷ 97 ∷ 108 ∷ 115 ∷ 61 ∷ 10 ∷ 98 ∷ 117 ∷ 100 ∷ 103 ∷ 101 ∷ 116 ∷ 61 ∷ 49 ∷ [])
    ∷ (112 ∷ 114 ∷ 111 ∷ 103 ∷ 114 ∷ 97 ∷ 109 ∷ 61 ∷ 48 ∷ 32 ∷ 10 ∷ 112 ∷ 114 ∷ 111 ∷ 112 ∷ 111 ∷ 115 ∷ 97 ∷ 108 ∷ 115 ∷ 61 ∷ 10 ∷ 98 ∷ 117 ∷ 100 ∷ 103 ∷ 101 ∷ 116 ∷ 61 ∷ 49 ∷ [])
    ∷ (112 ∷ 114 ∷ 111 ∷ 103 ∷ 114 ∷ 97 ∷ 109 ∷ 61 ∷ 48 ∷ 13 ∷ 10 ∷ 112 ∷ 114 ∷ 111 ∷ 112 ∷ 111 ∷ 115 ∷ 97 ∷ 108 ∷ 115 ∷ 61 ∷ 10 ∷ 98 ∷ 117 ∷ 100 ∷ 103 ∷ 101 ∷ 116 ∷ 61 ∷ 49 ∷ [])
    ∷ (112 ∷ 114 ∷ 111 ∷ 103 ∷ 114 ∷ 97 ∷ 109 ∷ 61 ∷ 48 ∷ 32 ∷ 32 ∷ 48 ∷ 10 ∷ 112 ∷ 114 ∷ 111 ∷ 112 ∷ 111 ∷ 115 ∷ 97 ∷ 108 ∷ 115 ∷ 61 ∷ 10 ∷ 98 ∷ 117 ∷ 100 ∷ 103 ∷ 101 ∷ 116 ∷ 61 ∷ 49 ∷ [])
    ∷ (112 ∷ 114 ∷ 111 ∷ 103 ∷ 114 ∷ 97 ∷ 109 ∷ 61 ∷ 43 ∷ 49 ∷ 10 ∷ 112 ∷ 114 ∷ 111 ∷ 112 ∷ 111 ∷ 115 ∷ 97 ∷ 108 ∷ 115 ∷ 61 ∷ 10 ∷ 98 ∷ 117 ∷ 100 ∷ 103 ∷ 101 ∷ 116 ∷ 61 ∷ 49 ∷ [])
    ∷ (112 ∷ 114 ∷ 111 ∷ 103 ∷ 114 ∷ 97 ∷ 109 ∷ 61 ∷ 45 ∷ 48 ∷ 10 ∷ 112 ∷ 114 ∷ 111 ∷ 112 ∷ 111 ∷ 115 ∷ 97 ∷ 108 ∷ 115 ∷ 61 ∷ 10 ∷ 98 ∷ 117 ∷ 100 ∷ 103 ∷ 101 ∷ 116 ∷ 61 ∷ 49 ∷ [])
    ∷ (112 ∷ 114 ∷ 111 ∷ 103 ∷ 114 ∷ 97 ∷ 109 ∷ 61 ∷ 48 ∷ 48 ∷ 10 ∷ 112 ∷ 114 ∷ 111 ∷ 112 ∷ 111 ∷ 115 ∷ 97 ∷ 108 ∷ 115 ∷ 61 ∷ 10 ∷ 98 ∷ 117 ∷ 100 ∷ 103 ∷ 101 ∷ 116 ∷ 61 ∷ 49 ∷ [])
    ∷ (112 ∷ 114 ∷ 111 ∷ 103 ∷ 114 ∷ 97 ∷ 109 ∷ 61 ∷ 45 ∷ 48 ∷ 49 ∷ 10 ∷ 112 ∷ 114 ∷ 111 ∷ 112 ∷ 111 ∷ 115 ∷ 97 ∷ 108 ∷ 115 ∷ 61 ∷ 10 ∷ 98 ∷ 117 ∷ 100 ∷ 103 ∷ 101 ∷ 116 ∷ 61 ∷ 49 ∷ [])
    ∷ (112 ∷ 114 ∷ 111 ∷ 103 ∷ 114 ∷ 97 ∷ 109 ∷ 61 ∷ 50 ∷ 49 ∷ 52 ∷ 55 ∷ 52 ∷ 56 ∷ 51 ∷ 54 ∷ 52 ∷ 56 ∷ 10 ∷ 112 ∷ 114 ∷ 111 ∷ 112 ∷ 111 ∷ 115 ∷ 97 ∷ 108 ∷ 115 ∷ 61 ∷ 10 ∷ 98 ∷ 117 ∷ 100 ∷ 103 ∷ 101 ∷ 116 ∷ 61 ∷ 49 ∷ [])
    ∷ (112 ∷ 114 ∷ 111 ∷ 103 ∷ 114 ∷ 97 ∷ 109 ∷ 61 ∷ 45 ∷ 50 ∷ 49 ∷ 52 ∷ 55 ∷ 52 ∷ 56 ∷ 51 ∷ 54 ∷ 52 ∷ 57 ∷ 10 ∷ 112 ∷ 114 ∷ 111 ∷ 112 ∷ 111 ∷ 115 ∷ 97 ∷ 108 ∷ 115 ∷ 61 ∷ 10 ∷ 98 ∷ 117 ∷ 100 ∷ 103 ∷ 101 ∷ 116 ∷ 61 ∷ 49 ∷ [])
    ∷ (112 ∷ 114 ∷ 111 ∷ 103 ∷ 114 ∷ 97 ∷ 109 ∷ 61 ∷ 48 ∷ [])
    ∷ (112 ∷ 114 ∷ 111 ∷ 103 ∷ 114 ∷ 97 ∷ 109 ∷ 61 ∷ 48 ∷ 10 ∷ 112 ∷ 114 ∷ 111 ∷ 112 ∷ 111 ∷ 115 ∷ 97 ∷ 108 ∷ 115 ∷ 61 ∷ 120 ∷ 10 ∷ 98 ∷ 117 ∷ 100 ∷ 103 ∷ 101 ∷ 116 ∷ 61 ∷ 121 ∷ [])
    ∷ (112 ∷ 114 ∷ 111 ∷ 103 ∷ 114 ∷ 97 ∷ 109 ∷ 61 ∷ 48 ∷ 10 ∷ 112 ∷ 114 ∷ 111 ∷ 112 ∷ 111 ∷ 115 ∷ 97 ∷ 108 ∷ 115 ∷ 61 ∷ [])
    ∷ (112 ∷ 114 ∷ 111 ∷ 103 ∷ 114 ∷ 97 ∷ 109 ∷ 61 ∷ 48 ∷ 10 ∷ 112 ∷ 114 ∷ 111 ∷ 112 ∷ 111 ∷ 115 ∷ 97 ∷ 108 ∷ 115 ∷ 61 ∷ 10 ∷ 98 ∷ 117 ∷ 100 ∷ 103 ∷ 101 ∷ 116 ∷ 61 ∷ [])
    ∷ (112 ∷ 114 ∷ 111 ∷ 103 ∷ 114 ∷ 97 ∷ 109 ∷ 61 ∷ 48 ∷ 10 ∷ 112 ∷ 114 ∷ 111 ∷ 112 ∷ 111 ∷ 115 ∷ 97 ∷ 108 ∷ 115 ∷ 61 ∷ 10 ∷ 98 ∷ 117 ∷ 100 ∷ 103 ∷ 101 ∷ 116 ∷ 61 ∷ 49 ∷ 32 ∷ 49 ∷ [])
    ∷ (112 ∷ 114 ∷ 111 ∷ 103 ∷ 114 ∷ 97 ∷ 109 ∷ 61 ∷ 48 ∷ 10 ∷ 112 ∷ 114 ∷ 111 ∷ 112 ∷ 111 ∷ 115 ∷ 97 ∷ 108 ∷ 115 ∷ 61 ∷ 10 ∷ 98 ∷ 117 ∷ 100 ∷ 103 ∷ 101 ∷ 116 ∷ 61 ∷ 49 ∷ 10 ∷ 10 ∷ [])
    ∷ (112 ∷ 114 ∷ 111 ∷ 103 ∷ 114 ∷ 97 ∷ 109 ∷ 61 ∷ 48 ∷ 10 ∷ 112 ∷ 114 ∷ 111 ∷ 112 ∷ 111 ∷ 115 ∷ 97 ∷ 108 ∷ 115 ∷ 61 ∷ 10 ∷ 98 ∷ 117 ∷ 100 ∷ 103 ∷ 101 ∷ 116 ∷ 61 ∷ 49 ∷ 13 ∷ 10 ∷ [])
    ∷ (112 ∷ 114 ∷ 111 ∷ 103 ∷ 114 ∷ 97 ∷ 109 ∷ 61 ∷ 48 ∷ 10 ∷ 112 ∷ 114 ∷ 111 ∷ 112 ∷ 111 ∷ 115 ∷ 97 ∷ 108 ∷ 115 ∷ 61 ∷ 10 ∷ 98 ∷ 117 ∷ 100 ∷ 103 ∷ 101 ∷ 116 ∷ 61 ∷ 50 ∷ 49 ∷ 52 ∷ 55 ∷ 52 ∷ 56 ∷ 51 ∷ 54 ∷ 52 ∷ 56 ∷ [])
    ∷ []

abbrev pub unfit_lines : List ℕ
unfit_lines = 1 ∷ 1 ∷ 1 ∷ 1 ∷ 1 ∷ 1 ∷ 1 ∷ 1 ∷ 1 ∷ 1 ∷ 1 ∷ 2 ∷ 2 ∷ 3 ∷ 3 ∷ 3 ∷ 3 ∷ 3 ∷ 3 ∷ []

unfoldable pub answers : List (List ℕ) → List (Result Input ℕ)
answers [] = []
answers (t ∷ ts) = (input_in t).answer ∷ answers ts

unfoldable pub unfit : List ℕ → List (Result Input ℕ)
unfit [] = []
unfit (k ∷ ks) = Err k ∷ unfit ks

-- "Output, whole", and the tables that it tells of
abbrev pub output_text : List ℕ
output_text = 111 ∷ 117 ∷ 116 ∷ 99 ∷ 111 ∷ 109 ∷ 101 ∷ 61 ∷ 48 ∷ 10 ∷ 112 ∷ 108 ∷ 97 ∷ 99 ∷ 101 ∷ 61 ∷ 51 ∷ 51 ∷ 10 ∷ 115 ∷ 116 ∷ 101 ∷ 112 ∷ 115 ∷ 61 ∷ 51 ∷ 10 ∷ 112 ∷ 114 ∷ 111 ∷ 112 ∷ 111 ∷ 115 ∷ 97 ∷ 108 ∷ 115 ∷ 61 ∷ 51 ∷ 10 ∷ 118 ∷ 48 ∷ 61 ∷ 114 ∷ 101 ∷ 102 ∷ 32 ∷ 48 ∷ 10 ∷ 114 ∷ 48 ∷ 61 ∷ 50 ∷ 10 ∷ 114 ∷ 48 ∷ 46 ∷ 48 ∷ 61 ∷ 105 ∷ 110 ∷ 116 ∷ 32 ∷ 49 ∷ 50 ∷ 56 ∷ 10 ∷ 114 ∷ 48 ∷ 46 ∷ 49 ∷ 61 ∷ 105 ∷ 110 ∷ 116 ∷ 32 ∷ 51 ∷ 50 ∷ 10 ∷ 99 ∷ 48 ∷ 61 ∷ 49 ∷ 48 ∷ 10 ∷ []

abbrev pub output_cells : Cells
output_cells = cells (table 128 (pos 4 ∷ pos 0 ∷ [])) (table 1601 (pos 1 ∷ pos 2 ∷ pos 0 ∷ pos 3 ∷ pos 128 ∷ pos 1 ∷ pos 3 ∷ pos 32 ∷ []))

abbrev pub output_constraints : List ℤ
output_constraints = table 98 (pos 1 ∷ pos 0 ∷ pos 10 ∷ [])

-- "Values print as `nil`, `bool 1`, `int -5`, `ref 0`", and identities as `i0=`
abbrev pub values_text : List ℕ
values_text = 111 ∷ 117 ∷ 116 ∷ 99 ∷ 111 ∷ 109 ∷ 101 ∷ 61 ∷ 49 ∷ 50 ∷ 10 ∷ 112 ∷ 108 ∷ 97 ∷ 99 ∷ 101 ∷ 61 ∷ 55 ∷ 10 ∷ 115 ∷ 116 ∷ 101 ∷ 112 ∷ 115 ∷ 61 ∷ 49 ∷ 48 ∷ 48 ∷ 48 ∷ 48 ∷ 48 ∷ 48 ∷ 10 ∷ 112 ∷ 114 ∷ 111 ∷ 112 ∷ 111 ∷ 115 ∷ 97 ∷ 108 ∷ 115 ∷ 61 ∷ 50 ∷ 48 ∷ 10 ∷ 118 ∷ 48 ∷ 61 ∷ 110 ∷ 105 ∷ 108 ∷ 10 ∷ 118 ∷ 50 ∷ 61 ∷ 98 ∷ 111 ∷ 111 ∷ 108 ∷ 32 ∷ 49 ∷ 10 ∷ 118 ∷ 51 ∷ 61 ∷ 105 ∷ 110 ∷ 116 ∷ 32 ∷ 45 ∷ 53 ∷ 10 ∷ 118 ∷ 54 ∷ 51 ∷ 61 ∷ 114 ∷ 101 ∷ 102 ∷ 32 ∷ 48 ∷ 10 ∷ 114 ∷ 48 ∷ 61 ∷ 49 ∷ 10 ∷ 114 ∷ 48 ∷ 46 ∷ 51 ∷ 49 ∷ 61 ∷ 98 ∷ 111 ∷ 111 ∷ 108 ∷ 32 ∷ 48 ∷ 10 ∷ 105 ∷ 48 ∷ 61 ∷ 52 ∷ 48 ∷ 57 ∷ 53 ∷ 10 ∷ []

abbrev pub values_cells : Cells
values_cells = cells (table 128 (pos 1 ∷ pos 0 ∷ pos 0 ∷ pos 0 ∷ pos 2 ∷ pos 1 ∷ pos 3 ∷ negsuc 4 ∷ pos 0 ∷ pos 0 ∷ pos 0 ∷ pos 0 ∷ pos 0 ∷ pos 0 ∷ pos 0 ∷ pos 0 ∷ pos 0 ∷ pos 0 ∷ pos 0 ∷ pos 0 ∷ pos 0 ∷ pos 0 ∷ pos 0 ∷ pos 0 ∷ pos 0 ∷ pos 0 ∷ pos 0 ∷ pos 0 ∷ pos 0 ∷ pos 0 ∷ pos 0 ∷ pos 0 ∷ pos 0 ∷ pos 0 ∷ pos 0 ∷ pos 0 ∷ pos 0 ∷ pos 0 ∷ pos 0 ∷ pos 0 ∷ pos 0 ∷ pos 0 ∷ pos 0 ∷ pos 0 ∷ pos 0 ∷ pos 0 ∷ pos 0 ∷ pos 0 ∷ pos 0 ∷ pos 0 ∷ pos 0 ∷ pos 0 ∷ pos 0 ∷ pos 0 ∷ pos 0 ∷ pos 0 ∷ pos 0 ∷ pos 0 ∷ pos 0 ∷ pos 0 ∷ pos 0 ∷ pos 0 ∷ pos 0 ∷ pos 0 ∷ pos 0 ∷ pos 0 ∷ pos 0 ∷ pos 0 ∷ pos 0 ∷ pos 0 ∷ pos 0 ∷ pos 0 ∷ pos 0 ∷ pos 0 ∷ pos 0 ∷ pos 0 ∷ pos 0 ∷ pos 0 ∷ pos 0 ∷ pos 0 ∷ pos 0 ∷ pos 0 ∷ pos 0 ∷ pos 0 ∷ pos 0 ∷ pos 0 ∷ pos 0 ∷ pos 0 ∷ pos 0 ∷ pos 0 ∷ pos 0 ∷ pos 0 ∷ pos 0 ∷ pos 0 ∷ pos 0 ∷ pos 0 ∷ pos 0 ∷ pos 0 ∷ pos 0 ∷ pos 0 ∷ pos 0 ∷ pos 0 ∷ pos 0 ∷ pos 0 ∷ pos 0 ∷ pos 0 ∷ pos 0 ∷ pos 0 ∷ pos 0 ∷ pos 0 ∷ pos 0 ∷ pos 0 ∷ pos 0 ∷ pos 0 ∷ pos 0 ∷ pos 0 ∷ pos 0 ∷ pos 0 ∷ pos 0 ∷ pos 0 ∷ pos 0 ∷ pos 0 ∷ pos 0 ∷ pos 0 ∷ pos 0 ∷ pos 0 ∷ pos 4 ∷ pos 0 ∷ [])) (table 1601 (pos 1 ∷ pos 1 ∷ pos 31 ∷ pos 2 ∷ pos 0 ∷ []))

abbrev pub values_constraints : List ℤ
values_constraints = table 98 (pos 0 ∷ pos 1 ∷ pos 0 ∷ pos 0 ∷ pos 0 ∷ pos 0 ∷ pos 0 ∷ pos 0 ∷ pos 0 ∷ pos 0 ∷ pos 0 ∷ pos 0 ∷ pos 0 ∷ pos 0 ∷ pos 0 ∷ pos 0 ∷ pos 0 ∷ pos 0 ∷ pos 0 ∷ pos 0 ∷ pos 0 ∷ pos 0 ∷ pos 0 ∷ pos 0 ∷ pos 0 ∷ pos 0 ∷ pos 0 ∷ pos 0 ∷ pos 0 ∷ pos 0 ∷ pos 0 ∷ pos 0 ∷ pos 0 ∷ pos 0 ∷ pos 0 ∷ pos 0 ∷ pos 0 ∷ pos 0 ∷ pos 0 ∷ pos 0 ∷ pos 0 ∷ pos 0 ∷ pos 0 ∷ pos 0 ∷ pos 0 ∷ pos 0 ∷ pos 0 ∷ pos 0 ∷ pos 0 ∷ pos 0 ∷ pos 0 ∷ pos 0 ∷ pos 0 ∷ pos 0 ∷ pos 0 ∷ pos 0 ∷ pos 0 ∷ pos 0 ∷ pos 0 ∷ pos 0 ∷ pos 0 ∷ pos 0 ∷ pos 0 ∷ pos 0 ∷ pos 0 ∷ pos 0 ∷ pos 4095 ∷ [])
