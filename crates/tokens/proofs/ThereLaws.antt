-- The keywords and marks are there, each by its spelling and its code: who writes a text knows the tables by these. Assumes nothing.
use mathlib.Core.List.{[], ◌∷◌}
use Rattle.tokens.specs.Codes.{new_code, skip_code, always_code, once_code, weak_code, medium_code, required_code, if_code, then_code, else_code, while_code, do_code, true_code, false_code, nil_code, and_code, or_code, becomes_code, identical_code, at_most_code, unequal_code, at_least_code, beside_code, colon_code, comma_code, dot_code, semicolon_code, open_brace_code, close_brace_code, open_bracket_code, close_bracket_code, plus_code, times_code, below_code, equal_code, above_code}
use Rattle.tokens.specs.Spelling.{row, keywords, later_keywords, pairs, singles}
use Rattle.tokens.specs.Rules.{In}

-- ---- keywords

pub new-there : In (row (110 ∷ 101 ∷ 119 ∷ []) new_code) keywords
unfolding keywords later_keywords
new-there = In.here

pub skip-there : In (row (115 ∷ 107 ∷ 105 ∷ 112 ∷ []) skip_code) keywords
unfolding keywords later_keywords
skip-there = In.later In.here

pub always-there : In (row (97 ∷ 108 ∷ 119 ∷ 97 ∷ 121 ∷ 115 ∷ []) always_code) keywords
unfolding keywords later_keywords
always-there = In.later (In.later In.here)

pub once-there : In (row (111 ∷ 110 ∷ 99 ∷ 101 ∷ []) once_code) keywords
unfolding keywords later_keywords
once-there = In.later (In.later (In.later In.here))

pub weak-there : In (row (119 ∷ 101 ∷ 97 ∷ 107 ∷ []) weak_code) keywords
unfolding keywords later_keywords
weak-there = In.later (In.later (In.later (In.later In.here)))

pub medium-there : In (row (109 ∷ 101 ∷ 100 ∷ 105 ∷ 117 ∷ 109 ∷ []) medium_code) keywords
unfolding keywords later_keywords
medium-there = In.later (In.later (In.later (In.later (In.later In.here))))

pub required-there : In (row (114 ∷ 101 ∷ 113 ∷ 117 ∷ 105 ∷ 114 ∷ 101 ∷ 100 ∷ []) required_code) keywords
unfolding keywords later_keywords
required-there = In.later (In.later (In.later (In.later (In.later (In.later In.here)))))

pub if-there : In (row (105 ∷ 102 ∷ []) if_code) keywords
unfolding keywords later_keywords
if-there = In.later (In.later (In.later (In.later (In.later (In.later (In.later In.here))))))

pub then-there : In (row (116 ∷ 104 ∷ 101 ∷ 110 ∷ []) then_code) keywords
unfolding keywords later_keywords
then-there = In.later (In.later (In.later (In.later (In.later (In.later (In.later (In.later In.here)))))))

pub else-there : In (row (101 ∷ 108 ∷ 115 ∷ 101 ∷ []) else_code) keywords
unfolding keywords later_keywords
else-there = In.later (In.later (In.later (In.later (In.later (In.later (In.later (In.later (In.later In.here))))))))

pub while-there : In (row (119 ∷ 104 ∷ 105 ∷ 108 ∷ 101 ∷ []) while_code) keywords
unfolding keywords later_keywords
while-there = In.later (In.later (In.later (In.later (In.later (In.later (In.later (In.later (In.later (In.later In.here)))))))))

pub do-there : In (row (100 ∷ 111 ∷ []) do_code) keywords
unfolding keywords later_keywords
do-there = In.later (In.later (In.later (In.later (In.later (In.later (In.later (In.later (In.later (In.later (In.later In.here))))))))))

pub true-there : In (row (116 ∷ 114 ∷ 117 ∷ 101 ∷ []) true_code) keywords
unfolding keywords later_keywords
true-there = In.later (In.later (In.later (In.later (In.later (In.later (In.later (In.later (In.later (In.later (In.later (In.later In.here)))))))))))

pub false-there : In (row (102 ∷ 97 ∷ 108 ∷ 115 ∷ 101 ∷ []) false_code) keywords
unfolding keywords later_keywords
false-there = In.later (In.later (In.later (In.later (In.later (In.later (In.later (In.later (In.later (In.later (In.later (In.later (In.later In.here))))))))))))

pub nil-there : In (row (110 ∷ 105 ∷ 108 ∷ []) nil_code) keywords
unfolding keywords later_keywords
nil-there = In.later (In.later (In.later (In.later (In.later (In.later (In.later (In.later (In.later (In.later (In.later (In.later (In.later (In.later In.here)))))))))))))

pub and-there : In (row (97 ∷ 110 ∷ 100 ∷ []) and_code) keywords
unfolding keywords later_keywords
and-there = In.later (In.later (In.later (In.later (In.later (In.later (In.later (In.later (In.later (In.later (In.later (In.later (In.later (In.later (In.later In.here))))))))))))))

pub or-there : In (row (111 ∷ 114 ∷ []) or_code) keywords
unfolding keywords later_keywords
or-there = In.later (In.later (In.later (In.later (In.later (In.later (In.later (In.later (In.later (In.later (In.later (In.later (In.later (In.later (In.later (In.later In.here)))))))))))))))

-- ---- marks of two bytes

pub becomes-there : In (row (58 ∷ 61 ∷ []) becomes_code) pairs
unfolding pairs
becomes-there = In.here

pub identical-there : In (row (61 ∷ 61 ∷ []) identical_code) pairs
unfolding pairs
identical-there = In.later In.here

pub at-most-there : In (row (60 ∷ 61 ∷ []) at_most_code) pairs
unfolding pairs
at-most-there = In.later (In.later In.here)

pub unequal-there : In (row (33 ∷ 61 ∷ []) unequal_code) pairs
unfolding pairs
unequal-there = In.later (In.later (In.later In.here))

pub at-least-there : In (row (62 ∷ 61 ∷ []) at_least_code) pairs
unfolding pairs
at-least-there = In.later (In.later (In.later (In.later In.here)))

pub beside-there : In (row (47 ∷ 92 ∷ []) beside_code) pairs
unfolding pairs
beside-there = In.later (In.later (In.later (In.later (In.later In.here))))

-- ---- marks of one byte

pub colon-there : In (row (58 ∷ []) colon_code) singles
unfolding singles
colon-there = In.here

pub comma-there : In (row (44 ∷ []) comma_code) singles
unfolding singles
comma-there = In.later In.here

pub dot-there : In (row (46 ∷ []) dot_code) singles
unfolding singles
dot-there = In.later (In.later In.here)

pub semicolon-there : In (row (59 ∷ []) semicolon_code) singles
unfolding singles
semicolon-there = In.later (In.later (In.later In.here))

pub open-brace-there : In (row (123 ∷ []) open_brace_code) singles
unfolding singles
open-brace-there = In.later (In.later (In.later (In.later In.here)))

pub close-brace-there : In (row (125 ∷ []) close_brace_code) singles
unfolding singles
close-brace-there = In.later (In.later (In.later (In.later (In.later In.here))))

pub open-bracket-there : In (row (40 ∷ []) open_bracket_code) singles
unfolding singles
open-bracket-there = In.later (In.later (In.later (In.later (In.later (In.later In.here)))))

pub close-bracket-there : In (row (41 ∷ []) close_bracket_code) singles
unfolding singles
close-bracket-there = In.later (In.later (In.later (In.later (In.later (In.later (In.later In.here))))))

pub plus-there : In (row (43 ∷ []) plus_code) singles
unfolding singles
plus-there = In.later (In.later (In.later (In.later (In.later (In.later (In.later (In.later In.here)))))))

pub times-there : In (row (42 ∷ []) times_code) singles
unfolding singles
times-there = In.later (In.later (In.later (In.later (In.later (In.later (In.later (In.later (In.later (In.later In.here)))))))))

pub below-there : In (row (60 ∷ []) below_code) singles
unfolding singles
below-there = In.later (In.later (In.later (In.later (In.later (In.later (In.later (In.later (In.later (In.later (In.later In.here))))))))))

pub equal-there : In (row (61 ∷ []) equal_code) singles
unfolding singles
equal-there = In.later (In.later (In.later (In.later (In.later (In.later (In.later (In.later (In.later (In.later (In.later (In.later In.here)))))))))))

pub above-there : In (row (62 ∷ []) above_code) singles
unfolding singles
above-there = In.later (In.later (In.later (In.later (In.later (In.later (In.later (In.later (In.later (In.later (In.later (In.later (In.later In.here))))))))))))
