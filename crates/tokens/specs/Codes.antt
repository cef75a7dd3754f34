-- What a token is, as a number: its code. Assumes nothing: these are definitions.
use Rattle.std.specs.Prelude.{ℕ}

-- the end of the text, a name, a number, a byte that begins no token, and what goes on past the 64 KiB
abbrev pub end_code : ℕ
end_code = 0

abbrev pub name_code : ℕ
name_code = 1

abbrev pub number_code : ℕ
number_code = 2

abbrev pub no_token : ℕ
no_token = 3

abbrev pub too_long : ℕ
too_long = 4

-- the keywords, of which the last two are operators
abbrev pub new_code : ℕ
new_code = 10

abbrev pub skip_code : ℕ
skip_code = 11

abbrev pub always_code : ℕ
always_code = 12

abbrev pub once_code : ℕ
once_code = 13

abbrev pub weak_code : ℕ
weak_code = 14

abbrev pub medium_code : ℕ
medium_code = 15

abbrev pub required_code : ℕ
required_code = 16

abbrev pub if_code : ℕ
if_code = 17

abbrev pub then_code : ℕ
then_code = 18

abbrev pub else_code : ℕ
else_code = 19

abbrev pub while_code : ℕ
while_code = 20

abbrev pub do_code : ℕ
do_code = 21

abbrev pub true_code : ℕ
true_code = 22

abbrev pub false_code : ℕ
false_code = 23

abbrev pub nil_code : ℕ
nil_code = 24

abbrev pub and_code : ℕ
and_code = 50

abbrev pub or_code : ℕ
or_code = 51

-- `:= : , . ; { } ( ) == /\`
abbrev pub becomes_code : ℕ
becomes_code = 30

abbrev pub colon_code : ℕ
colon_code = 31

abbrev pub comma_code : ℕ
comma_code = 32

abbrev pub dot_code : ℕ
dot_code = 33

abbrev pub semicolon_code : ℕ
semicolon_code = 34

abbrev pub open_brace_code : ℕ
open_brace_code = 35

abbrev pub close_brace_code : ℕ
close_brace_code = 36

abbrev pub open_bracket_code : ℕ
open_bracket_code = 37

abbrev pub close_bracket_code : ℕ
close_bracket_code = 38

abbrev pub identical_code : ℕ
identical_code = 39

abbrev pub beside_code : ℕ
beside_code = 40

-- `+ - * < <= = != >= >`: 40 and the operator's number in document 01
abbrev pub plus_code : ℕ
plus_code = 41

abbrev pub minus_code : ℕ
minus_code = 42

abbrev pub times_code : ℕ
times_code = 43

abbrev pub below_code : ℕ
below_code = 44

abbrev pub at_most_code : ℕ
at_most_code = 45

abbrev pub equal_code : ℕ
equal_code = 46

abbrev pub unequal_code : ℕ
unequal_code = 47

abbrev pub at_least_code : ℕ
at_least_code = 48

abbrev pub above_code : ℕ
above_code = 49
