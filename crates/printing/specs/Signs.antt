-- The signs that a text is made of: what is written of each piece, before names are known. Assumes nothing: these are definitions.
use Rattle.std.specs.Prelude.{ℕ, zero, suc, ◌-◌, List, [], ◌∷◌, ◌++◌, ℤ, get_or}
use Rattle.program.specs.Forms.{block_depth}
use Rattle.tokens.specs.Codes.{new_code, skip_code, always_code, once_code, weak_code, medium_code, required_code, if_code, then_code, else_code, while_code, do_code, true_code, false_code, nil_code, and_code, or_code}
use Rattle.tokens.specs.Codes.{becomes_code, colon_code, comma_code, dot_code, semicolon_code, open_brace_code, close_brace_code, open_bracket_code, close_bracket_code, identical_code, beside_code, plus_code, minus_code, times_code, below_code, at_most_code, equal_code, unequal_code, at_least_code, above_code}

-- white space; a keyword or a mark, by its code and its spelling; an integer; a variable and a label by their numbers
pub data Sign : Type 0 where
  blank : List ℕ → Sign
  fixed : ℕ → List ℕ → Sign
  integer : ℤ → Sign
  variable : ℕ → Sign
  label : ℕ → Sign

-- "One space around operators, `:=` and `==`; after `:` and `,`."
abbrev pub space : Sign
space = blank (32 ∷ [])

-- "two spaces of indent for each open brace": where blocks may nest d deep, 7 less d are open
unfoldable pub indent : ℕ → List ℕ
indent zero = []
indent (suc n) = 32 ∷ 32 ∷ indent n

unfoldable pub line_bytes : ℕ → List ℕ
line_bytes d = 10 ∷ indent (block_depth - 1 - d)

abbrev pub line : ℕ → Sign
line d = blank (line_bytes d)

-- ---- keywords and marks

abbrev pub new_sign : Sign
new_sign = fixed new_code (110 ∷ 101 ∷ 119 ∷ [])

abbrev pub skip_sign : Sign
skip_sign = fixed skip_code (115 ∷ 107 ∷ 105 ∷ 112 ∷ [])

abbrev pub always_sign : Sign
always_sign = fixed always_code (97 ∷ 108 ∷ 119 ∷ 97 ∷ 121 ∷ 115 ∷ [])

abbrev pub once_sign : Sign
once_sign = fixed once_code (111 ∷ 110 ∷ 99 ∷ 101 ∷ [])

abbrev pub weak_sign : Sign
weak_sign = fixed weak_code (119 ∷ 101 ∷ 97 ∷ 107 ∷ [])

abbrev pub medium_sign : Sign
medium_sign = fixed medium_code (109 ∷ 101 ∷ 100 ∷ 105 ∷ 117 ∷ 109 ∷ [])

abbrev pub required_sign : Sign
required_sign = fixed required_code (114 ∷ 101 ∷ 113 ∷ 117 ∷ 105 ∷ 114 ∷ 101 ∷ 100 ∷ [])

abbrev pub if_sign : Sign
if_sign = fixed if_code (105 ∷ 102 ∷ [])

abbrev pub then_sign : Sign
then_sign = fixed then_code (116 ∷ 104 ∷ 101 ∷ 110 ∷ [])

abbrev pub else_sign : Sign
else_sign = fixed else_code (101 ∷ 108 ∷ 115 ∷ 101 ∷ [])

abbrev pub while_sign : Sign
while_sign = fixed while_code (119 ∷ 104 ∷ 105 ∷ 108 ∷ 101 ∷ [])

abbrev pub do_sign : Sign
do_sign = fixed do_code (100 ∷ 111 ∷ [])

abbrev pub true_sign : Sign
true_sign = fixed true_code (116 ∷ 114 ∷ 117 ∷ 101 ∷ [])

abbrev pub false_sign : Sign
false_sign = fixed false_code (102 ∷ 97 ∷ 108 ∷ 115 ∷ 101 ∷ [])

abbrev pub nil_sign : Sign
nil_sign = fixed nil_code (110 ∷ 105 ∷ 108 ∷ [])

abbrev pub and_sign : Sign
and_sign = fixed and_code (97 ∷ 110 ∷ 100 ∷ [])

abbrev pub or_sign : Sign
or_sign = fixed or_code (111 ∷ 114 ∷ [])

abbrev pub becomes_sign : Sign
becomes_sign = fixed becomes_code (58 ∷ 61 ∷ [])

abbrev pub colon_sign : Sign
colon_sign = fixed colon_code (58 ∷ [])

abbrev pub comma_sign : Sign
comma_sign = fixed comma_code (44 ∷ [])

abbrev pub dot_sign : Sign
dot_sign = fixed dot_code (46 ∷ [])

abbrev pub semicolon_sign : Sign
semicolon_sign = fixed semicolon_code (59 ∷ [])

abbrev pub open_brace_sign : Sign
open_brace_sign = fixed open_brace_code (123 ∷ [])

abbrev pub close_brace_sign : Sign
close_brace_sign = fixed close_brace_code (125 ∷ [])

abbrev pub open_bracket_sign : Sign
open_bracket_sign = fixed open_bracket_code (40 ∷ [])

abbrev pub close_bracket_sign : Sign
close_bracket_sign = fixed close_bracket_code (41 ∷ [])

abbrev pub identical_sign : Sign
identical_sign = fixed identical_code (61 ∷ 61 ∷ [])

abbrev pub beside_sign : Sign
beside_sign = fixed beside_code (47 ∷ 92 ∷ [])

abbrev pub plus_sign : Sign
plus_sign = fixed plus_code (43 ∷ [])

abbrev pub minus_sign : Sign
minus_sign = fixed minus_code (45 ∷ [])

abbrev pub times_sign : Sign
times_sign = fixed times_code (42 ∷ [])

abbrev pub below_sign : Sign
below_sign = fixed below_code (60 ∷ [])

abbrev pub at_most_sign : Sign
at_most_sign = fixed at_most_code (60 ∷ 61 ∷ [])

abbrev pub equal_sign : Sign
equal_sign = fixed equal_code (61 ∷ [])

abbrev pub unequal_sign : Sign
unequal_sign = fixed unequal_code (33 ∷ 61 ∷ [])

abbrev pub at_least_sign : Sign
at_least_sign = fixed at_least_code (62 ∷ 61 ∷ [])

abbrev pub above_sign : Sign
above_sign = fixed above_code (62 ∷ [])

-- ---- by number

-- "Operators: 1 +, 2 -, .. 11 or."
abbrev pub operator_signs : List Sign
operator_signs =
    blank []
    ∷ plus_sign
    ∷ minus_sign
    ∷ times_sign
    ∷ below_sign
    ∷ at_most_sign
    ∷ equal_sign
    ∷ unequal_sign
    ∷ at_least_sign
    ∷ above_sign
    ∷ and_sign
    ∷ or_sign
    ∷ []

-- an operator with its spaces; nothing for what is no operator's number
abbrev pub around : Sign → List Sign
around (fixed c s) = space ∷ fixed c s ∷ space ∷ []
around (blank s) = []
around (integer z) = []
around (variable x) = []
around (label l) = []

unfoldable pub operator_text : ℕ → List Sign
operator_text k = around (get_or operator_signs k (blank []))

-- "priority (1 weak, 2 medium, 3 required)", "each with its priority written out"
abbrev pub priority_signs : List Sign
priority_signs = blank [] ∷ weak_sign ∷ medium_sign ∷ required_sign ∷ []

abbrev pub before : Sign → List Sign
before (fixed c s) = fixed c s ∷ space ∷ []
before (blank s) = []
before (integer z) = []
before (variable x) = []
before (label l) = []

unfoldable pub priority_text : ℕ → List Sign
priority_text k = before (get_or priority_signs k (blank []))

-- ---- on the way: what the code writes of them

-- the bytes of signs that are no names and no integers
abbrev pub plain : List Sign → List ℕ
plain [] = []
plain (blank s ∷ ss) = s ++ plain ss
plain (fixed c s ∷ ss) = s ++ plain ss
plain (integer z ∷ ss) = plain ss
plain (variable x ∷ ss) = plain ss
plain (label l ∷ ss) = plain ss

abbrev pub operator_bytes : ℕ → List ℕ
operator_bytes k = plain (operator_text k)

abbrev pub priority_bytes : ℕ → List ℕ
priority_bytes k = plain (priority_text k)

abbrev pub between_bytes : ℕ → List ℕ → List ℕ
between_bytes zero s = []
between_bytes (suc i) s = s
