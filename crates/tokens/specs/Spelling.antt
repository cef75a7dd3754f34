-- The keywords and marks, each by its spelling (docs/DECISIONS.md 75 and 78). Assumes nothing: these are definitions.
use Rattle.std.specs.Prelude.{ℕ, cond, List, [], ◌∷◌}
use Rattle.tokens.specs.Bytes.{spelt}
use Rattle.tokens.specs.Codes.{new_code, skip_code, always_code, once_code, weak_code, medium_code, required_code, if_code, then_code, else_code, while_code, do_code, true_code, false_code, nil_code, and_code, or_code, becomes_code, colon_code, comma_code, dot_code, semicolon_code, open_brace_code, close_brace_code, open_bracket_code, close_bracket_code, identical_code, beside_code, plus_code, minus_code, times_code, below_code, at_most_code, equal_code, unequal_code, at_least_code, above_code}

-- a spelling, and the code of what is spelt so
pub record Row : Type 0 where
  pub spelling : List ℕ
  pub code : ℕ

abbrev pub row : List ℕ → ℕ → Row
row s n = record { spelling = s; code = n }

-- the code of a spelling, `none` where no row has it
unfoldable pub code_of : ℕ → List Row → List ℕ → ℕ
code_of none [] s = none
code_of none (r ∷ rs) s = cond (spelt r.spelling s) r.code (code_of none rs s)

-- "Barred as variables and as labels are: new skip always once weak medium required if then else while do true false nil and or."
unfoldable pub later_keywords : List Row
later_keywords =
    row (116 ∷ 104 ∷ 101 ∷ 110 ∷ []) then_code
    ∷ row (101 ∷ 108 ∷ 115 ∷ 101 ∷ []) else_code
    ∷ row (119 ∷ 104 ∷ 105 ∷ 108 ∷ 101 ∷ []) while_code
    ∷ row (100 ∷ 111 ∷ []) do_code
    ∷ row (116 ∷ 114 ∷ 117 ∷ 101 ∷ []) true_code
    ∷ row (102 ∷ 97 ∷ 108 ∷ 115 ∷ 101 ∷ []) false_code
    ∷ row (110 ∷ 105 ∷ 108 ∷ []) nil_code
    ∷ row (97 ∷ 110 ∷ 100 ∷ []) and_code
    ∷ row (111 ∷ 114 ∷ []) or_code
    ∷ []

unfoldable pub keywords : List Row
keywords =
    row (110 ∷ 101 ∷ 119 ∷ []) new_code
    ∷ row (115 ∷ 107 ∷ 105 ∷ 112 ∷ []) skip_code
    ∷ row (97 ∷ 108 ∷ 119 ∷ 97 ∷ 121 ∷ 115 ∷ []) always_code
    ∷ row (111 ∷ 110 ∷ 99 ∷ 101 ∷ []) once_code
    ∷ row (119 ∷ 101 ∷ 97 ∷ 107 ∷ []) weak_code
    ∷ row (109 ∷ 101 ∷ 100 ∷ 105 ∷ 117 ∷ 109 ∷ []) medium_code
    ∷ row (114 ∷ 101 ∷ 113 ∷ 117 ∷ 105 ∷ 114 ∷ 101 ∷ 100 ∷ []) required_code
    ∷ row (105 ∷ 102 ∷ []) if_code
    ∷ later_keywords

-- `:= == <= != >= /\`
unfoldable pub pairs : List Row
pairs =
    row (58 ∷ 61 ∷ []) becomes_code
    ∷ row (61 ∷ 61 ∷ []) identical_code
    ∷ row (60 ∷ 61 ∷ []) at_most_code
    ∷ row (33 ∷ 61 ∷ []) unequal_code
    ∷ row (62 ∷ 61 ∷ []) at_least_code
    ∷ row (47 ∷ 92 ∷ []) beside_code
    ∷ []

-- `: , . ; { } ( ) + - * < = >`
unfoldable pub singles : List Row
singles =
    row (58 ∷ []) colon_code
    ∷ row (44 ∷ []) comma_code
    ∷ row (46 ∷ []) dot_code
    ∷ row (59 ∷ []) semicolon_code
    ∷ row (123 ∷ []) open_brace_code
    ∷ row (125 ∷ []) close_brace_code
    ∷ row (40 ∷ []) open_bracket_code
    ∷ row (41 ∷ []) close_bracket_code
    ∷ row (43 ∷ []) plus_code
    ∷ row (45 ∷ []) minus_code
    ∷ row (42 ∷ []) times_code
    ∷ row (60 ∷ []) below_code
    ∷ row (61 ∷ []) equal_code
    ∷ row (62 ∷ []) above_code
    ∷ []
