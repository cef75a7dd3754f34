-- Request W1's text, and the short texts of docs/DECISIONS.md 74 to 97, as they are read and as their tokens are judged. Every definition is opened here. Assumes nothing.
use Prim.Native.Nat.{ℕ}
use mathlib.Core.Path.{◌≡◌, refl}
use mathlib.Core.List.{List, [], ◌∷◌}
use lib.IntN.{ℤ, pos}
use lib.ListN.{length}
use Rattle.words.specs.Answer.{Answer, got, stop}
use Rattle.program.specs.Reading.{among}
use Rattle.tokens.specs.Bytes.{between, is_white, is_named, run, trimmed, spelt, same_in}
use Rattle.tokens.specs.Spelling.{code_of, later_keywords, keywords, pairs, singles}
use Rattle.tokens.specs.Tokens.{asked_from, name_length, name_at, single_at, mark_at, signs, token_at, limited, rest_from, token_from}
use Rattle.tokens.specs.Numbers.{digit_of, digits_from, integer_of}
use Rattle.text.specs.Reading.{Fault, Form, Reader, due_after, level_of, number_in, known, with_name}
use Rattle.text.specs.Reading.{peek, refusal, take, need, room_for, variable, label, steps, path, literal, outside, literal_at, path_or_same, operand, opened, onwards, climb, expression, expression_on, priority, part_at, parts_on, constraint_on, stated_on, stated, field_at, fields_on, fields_at, assignment, statement_at, row_at, block_at, text_at}
use Rattle.text.specs.Judge.{Awaited, judge_text, grouped, closed, bracketed, levels, unfit, room, after, stands, too_great, may_operand, may_operator, may_part, may_field, may_statement, may, judge}

abbrev each : (List ℕ → ℕ × ℕ) → List (List ℕ) → List (ℕ × ℕ)
each f [] = []
each f (t ∷ ts) = f t ∷ each f ts

-- number and place; 0 at its length for a text that is accepted
abbrev read : ℕ → Answer Fault (Form × Reader) → ℕ × ℕ
read n (got x) = (0, n)
read n (stop f) = (f.number, f.place)

-- the same, and 1 where something is awaited behind the end
abbrev awaited : Awaited → ℕ
awaited Awaited.nothing = 0
awaited (Awaited.token a b c d) = 1
awaited (Awaited.either a b c d e) = 1
awaited (Awaited.beyond a) = 1
awaited (Awaited.owed a b) = 1
awaited (Awaited.steps a b) = 1
awaited (Awaited.operand a b c) = 1
awaited (Awaited.behind a b c d) = 1
awaited (Awaited.part a) = 1
awaited (Awaited.parts a b) = 1
awaited (Awaited.field a b c) = 1
awaited (Awaited.fields a b c) = 1
awaited (Awaited.statement a b) = 1
awaited (Awaited.row a b c) = 1

abbrev judged : ℕ → Answer Fault (Awaited × Reader) → ℕ × ℕ
judged n (got x) = (awaited x.0, n)
judged n (stop f) = (f.number, f.place)

-- `x := new {bytes: 64, samples: 16}; always required x.bytes = 4 * x.samples`
abbrev example : List ℕ
example = 120 ∷ 32 ∷ 58 ∷ 61 ∷ 32 ∷ 110 ∷ 101 ∷ 119 ∷ 32 ∷ 123 ∷ 98 ∷ 121 ∷ 116 ∷ 101 ∷ 115 ∷ 58 ∷ 32 ∷ 54 ∷ 52 ∷ 44 ∷ 32 ∷ 115 ∷ 97 ∷ 109 ∷ 112 ∷ 108 ∷ 101 ∷ 115 ∷ 58 ∷ 32 ∷ 49 ∷ 54 ∷ 125 ∷ 59 ∷ 32 ∷ 97 ∷ 108 ∷ 119 ∷ 97 ∷ 121 ∷ 115 ∷ 32 ∷ 114 ∷ 101 ∷ 113 ∷ 117 ∷ 105 ∷ 114 ∷ 101 ∷ 100 ∷ 32 ∷ 120 ∷ 46 ∷ 98 ∷ 121 ∷ 116 ∷ 101 ∷ 115 ∷ 32 ∷ 61 ∷ 32 ∷ 52 ∷ 32 ∷ 42 ∷ 32 ∷ 120 ∷ 46 ∷ 115 ∷ 97 ∷ 109 ∷ 112 ∷ 108 ∷ 101 ∷ 115 ∷ []

abbrev texts : List (List ℕ)
texts =
    -- 74: `x := 1and 2`, `skip // end`
    (120 ∷ 32 ∷ 58 ∷ 61 ∷ 32 ∷ 49 ∷ 97 ∷ 110 ∷ 100 ∷ 32 ∷ 50 ∷ []) ∷
    (115 ∷ 107 ∷ 105 ∷ 112 ∷ 32 ∷ 47 ∷ 47 ∷ 32 ∷ 101 ∷ 110 ∷ 100 ∷ []) ∷
    -- 75: `news := 1`, `x?y := 1`, `x.new := 1`
    (110 ∷ 101 ∷ 119 ∷ 115 ∷ 32 ∷ 58 ∷ 61 ∷ 32 ∷ 49 ∷ []) ∷
    (120 ∷ 63 ∷ 121 ∷ 32 ∷ 58 ∷ 61 ∷ 32 ∷ 49 ∷ []) ∷
    (120 ∷ 46 ∷ 110 ∷ 101 ∷ 119 ∷ 32 ∷ 58 ∷ 61 ∷ 32 ∷ 49 ∷ []) ∷
    -- 76: `x := 007`
    (120 ∷ 32 ∷ 58 ∷ 61 ∷ 32 ∷ 48 ∷ 48 ∷ 55 ∷ []) ∷
    -- 77: `y := x -5`, `y := x - -5`, `x := - 5`, `x := --5`
    (121 ∷ 32 ∷ 58 ∷ 61 ∷ 32 ∷ 120 ∷ 32 ∷ 45 ∷ 53 ∷ []) ∷
    (121 ∷ 32 ∷ 58 ∷ 61 ∷ 32 ∷ 120 ∷ 32 ∷ 45 ∷ 32 ∷ 45 ∷ 53 ∷ []) ∷
    (120 ∷ 32 ∷ 58 ∷ 61 ∷ 32 ∷ 45 ∷ 32 ∷ 53 ∷ []) ∷
    (120 ∷ 32 ∷ 58 ∷ 61 ∷ 32 ∷ 45 ∷ 45 ∷ 53 ∷ []) ∷
    -- 78: `x :== 5`, `x := a ! b`
    (120 ∷ 32 ∷ 58 ∷ 61 ∷ 61 ∷ 32 ∷ 53 ∷ []) ∷
    (120 ∷ 32 ∷ 58 ∷ 61 ∷ 32 ∷ 97 ∷ 32 ∷ 33 ∷ 32 ∷ 98 ∷ []) ∷
    -- 79: `x :=  `
    (120 ∷ 32 ∷ 58 ∷ 61 ∷ 32 ∷ 32 ∷ []) ∷
    -- 80: ``, `skip;`
    ([]) ∷
    (115 ∷ 107 ∷ 105 ∷ 112 ∷ 59 ∷ []) ∷
    -- 81: `x.a := new {}`, `x := new {a: 1,}`, `if x then {}`
    (120 ∷ 46 ∷ 97 ∷ 32 ∷ 58 ∷ 61 ∷ 32 ∷ 110 ∷ 101 ∷ 119 ∷ 32 ∷ 123 ∷ 125 ∷ []) ∷
    (120 ∷ 32 ∷ 58 ∷ 61 ∷ 32 ∷ 110 ∷ 101 ∷ 119 ∷ 32 ∷ 123 ∷ 97 ∷ 58 ∷ 32 ∷ 49 ∷ 44 ∷ 125 ∷ []) ∷
    (105 ∷ 102 ∷ 32 ∷ 120 ∷ 32 ∷ 116 ∷ 104 ∷ 101 ∷ 110 ∷ 32 ∷ 123 ∷ 125 ∷ []) ∷
    -- 82: `x := 1 + a == b`, `x := (a) == b`
    (120 ∷ 32 ∷ 58 ∷ 61 ∷ 32 ∷ 49 ∷ 32 ∷ 43 ∷ 32 ∷ 97 ∷ 32 ∷ 61 ∷ 61 ∷ 32 ∷ 98 ∷ []) ∷
    (120 ∷ 32 ∷ 58 ∷ 61 ∷ 32 ∷ 40 ∷ 97 ∷ 41 ∷ 32 ∷ 61 ∷ 61 ∷ 32 ∷ 98 ∷ []) ∷
    -- 83: `once required x == y`, `once (x == y)`, `once x == y and z`
    (111 ∷ 110 ∷ 99 ∷ 101 ∷ 32 ∷ 114 ∷ 101 ∷ 113 ∷ 117 ∷ 105 ∷ 114 ∷ 101 ∷ 100 ∷ 32 ∷ 120 ∷ 32 ∷ 61 ∷ 61 ∷ 32 ∷ 121 ∷ []) ∷
    (111 ∷ 110 ∷ 99 ∷ 101 ∷ 32 ∷ 40 ∷ 120 ∷ 32 ∷ 61 ∷ 61 ∷ 32 ∷ 121 ∷ 41 ∷ []) ∷
    (111 ∷ 110 ∷ 99 ∷ 101 ∷ 32 ∷ 120 ∷ 32 ∷ 61 ∷ 61 ∷ 32 ∷ 121 ∷ 32 ∷ 97 ∷ 110 ∷ 100 ∷ 32 ∷ 122 ∷ []) ∷
    -- 84: `x := 2147483648; y := !`
    (120 ∷ 32 ∷ 58 ∷ 61 ∷ 32 ∷ 50 ∷ 49 ∷ 52 ∷ 55 ∷ 52 ∷ 56 ∷ 51 ∷ 54 ∷ 52 ∷ 56 ∷ 59 ∷ 32 ∷ 121 ∷ 32 ∷ 58 ∷ 61 ∷ 32 ∷ 33 ∷ []) ∷
    -- 85: `x := new {a: 1, a: 2}`
    (120 ∷ 32 ∷ 58 ∷ 61 ∷ 32 ∷ 110 ∷ 101 ∷ 119 ∷ 32 ∷ 123 ∷ 97 ∷ 58 ∷ 32 ∷ 49 ∷ 44 ∷ 32 ∷ 97 ∷ 58 ∷ 32 ∷ 50 ∷ 125 ∷ []) ∷
    -- 87: `x := -2147483648`, `x := y -2147483648`, `x.a.a.a.a.a.a.a.a := 1`
    (120 ∷ 32 ∷ 58 ∷ 61 ∷ 32 ∷ 45 ∷ 50 ∷ 49 ∷ 52 ∷ 55 ∷ 52 ∷ 56 ∷ 51 ∷ 54 ∷ 52 ∷ 56 ∷ []) ∷
    (120 ∷ 32 ∷ 58 ∷ 61 ∷ 32 ∷ 121 ∷ 32 ∷ 45 ∷ 50 ∷ 49 ∷ 52 ∷ 55 ∷ 52 ∷ 56 ∷ 51 ∷ 54 ∷ 52 ∷ 56 ∷ []) ∷
    (120 ∷ 46 ∷ 97 ∷ 46 ∷ 97 ∷ 46 ∷ 97 ∷ 46 ∷ 97 ∷ 46 ∷ 97 ∷ 46 ∷ 97 ∷ 46 ∷ 97 ∷ 46 ∷ 97 ∷ 32 ∷ 58 ∷ 61 ∷ 32 ∷ 49 ∷ []) ∷
    (111 ∷ 110 ∷ 99 ∷ 101 ∷ 32 ∷ 49 ∷ 32 ∷ 47 ∷ 92 ∷ 32 ∷ 49 ∷ 32 ∷ 47 ∷ 92 ∷ 32 ∷ 49 ∷ 32 ∷ 47 ∷ 92 ∷ 32 ∷ 49 ∷ 32 ∷ 47 ∷ 92 ∷ 32 ∷ 49 ∷ 32 ∷ 47 ∷ 92 ∷ 32 ∷ 49 ∷ 32 ∷ 47 ∷ 92 ∷ 32 ∷ 49 ∷ 32 ∷ 47 ∷ 92 ∷ 32 ∷ 49 ∷ 32 ∷ 47 ∷ 92 ∷ 32 ∷ 49 ∷ 32 ∷ 47 ∷ 92 ∷ 32 ∷ 49 ∷ 32 ∷ 47 ∷ 92 ∷ 32 ∷ 49 ∷ 32 ∷ 47 ∷ 92 ∷ 32 ∷ 49 ∷ 32 ∷ 47 ∷ 92 ∷ 32 ∷ 49 ∷ 32 ∷ 47 ∷ 92 ∷ 32 ∷ 49 ∷ 32 ∷ 47 ∷ 92 ∷ 32 ∷ 49 ∷ 32 ∷ 47 ∷ 92 ∷ 32 ∷ 49 ∷ 32 ∷ 47 ∷ 92 ∷ 32 ∷ 49 ∷ []) ∷
    (120 ∷ 32 ∷ 58 ∷ 61 ∷ 32 ∷ 110 ∷ 101 ∷ 119 ∷ 32 ∷ 123 ∷ 97 ∷ 58 ∷ 32 ∷ 49 ∷ 44 ∷ 32 ∷ 98 ∷ 58 ∷ 32 ∷ 49 ∷ 44 ∷ 32 ∷ 99 ∷ 58 ∷ 32 ∷ 49 ∷ 44 ∷ 32 ∷ 100 ∷ 58 ∷ 32 ∷ 49 ∷ 44 ∷ 32 ∷ 101 ∷ 58 ∷ 32 ∷ 49 ∷ 44 ∷ 32 ∷ 102 ∷ 58 ∷ 32 ∷ 49 ∷ 44 ∷ 32 ∷ 103 ∷ 58 ∷ 32 ∷ 49 ∷ 44 ∷ 32 ∷ 104 ∷ 58 ∷ 32 ∷ 49 ∷ 44 ∷ 32 ∷ 105 ∷ 58 ∷ 32 ∷ 49 ∷ 125 ∷ []) ∷
    (119 ∷ 104 ∷ 105 ∷ 108 ∷ 101 ∷ 32 ∷ 120 ∷ 32 ∷ 100 ∷ 111 ∷ 32 ∷ 123 ∷ 119 ∷ 104 ∷ 105 ∷ 108 ∷ 101 ∷ 32 ∷ 120 ∷ 32 ∷ 100 ∷ 111 ∷ 32 ∷ 123 ∷ 119 ∷ 104 ∷ 105 ∷ 108 ∷ 101 ∷ 32 ∷ 120 ∷ 32 ∷ 100 ∷ 111 ∷ 32 ∷ 123 ∷ 119 ∷ 104 ∷ 105 ∷ 108 ∷ 101 ∷ 32 ∷ 120 ∷ 32 ∷ 100 ∷ 111 ∷ 32 ∷ 123 ∷ 119 ∷ 104 ∷ 105 ∷ 108 ∷ 101 ∷ 32 ∷ 120 ∷ 32 ∷ 100 ∷ 111 ∷ 32 ∷ 123 ∷ 119 ∷ 104 ∷ 105 ∷ 108 ∷ 101 ∷ 32 ∷ 120 ∷ 32 ∷ 100 ∷ 111 ∷ 32 ∷ 123 ∷ 119 ∷ 104 ∷ 105 ∷ 108 ∷ 101 ∷ 32 ∷ 120 ∷ 32 ∷ 100 ∷ 111 ∷ 32 ∷ 123 ∷ 119 ∷ 104 ∷ 105 ∷ 108 ∷ 101 ∷ 32 ∷ 120 ∷ 32 ∷ 100 ∷ 111 ∷ 32 ∷ 123 ∷ []) ∷
    -- 88:
    (120 ∷ 32 ∷ 58 ∷ 61 ∷ 32 ∷ 49 ∷ 32 ∷ 43 ∷ 32 ∷ 49 ∷ 32 ∷ 43 ∷ 32 ∷ 49 ∷ 32 ∷ 43 ∷ 32 ∷ 49 ∷ 32 ∷ 43 ∷ 32 ∷ 49 ∷ 32 ∷ 43 ∷ 32 ∷ 49 ∷ 32 ∷ 43 ∷ 32 ∷ 49 ∷ 32 ∷ 43 ∷ 32 ∷ 49 ∷ 32 ∷ 43 ∷ 32 ∷ 49 ∷ 32 ∷ 43 ∷ 32 ∷ 49 ∷ 32 ∷ 43 ∷ 32 ∷ 49 ∷ 32 ∷ 43 ∷ 32 ∷ 49 ∷ 32 ∷ 43 ∷ 32 ∷ 49 ∷ 32 ∷ 43 ∷ 32 ∷ 49 ∷ 32 ∷ 43 ∷ 32 ∷ 49 ∷ 32 ∷ 43 ∷ 32 ∷ 49 ∷ []) ∷
    (120 ∷ 32 ∷ 58 ∷ 61 ∷ 32 ∷ 49 ∷ 32 ∷ 43 ∷ 32 ∷ 49 ∷ 32 ∷ 43 ∷ 32 ∷ 49 ∷ 32 ∷ 43 ∷ 32 ∷ 49 ∷ 32 ∷ 43 ∷ 32 ∷ 49 ∷ 32 ∷ 43 ∷ 32 ∷ 49 ∷ 32 ∷ 43 ∷ 32 ∷ 49 ∷ 32 ∷ 43 ∷ 32 ∷ 49 ∷ 32 ∷ 43 ∷ 32 ∷ 49 ∷ 32 ∷ 43 ∷ 32 ∷ 49 ∷ 32 ∷ 43 ∷ 32 ∷ 49 ∷ 32 ∷ 43 ∷ 32 ∷ 49 ∷ 32 ∷ 43 ∷ 32 ∷ 49 ∷ 32 ∷ 43 ∷ 32 ∷ 49 ∷ 32 ∷ 43 ∷ 32 ∷ 49 ∷ 32 ∷ 43 ∷ 32 ∷ 49 ∷ 32 ∷ 43 ∷ 32 ∷ 49 ∷ []) ∷
    -- 89: `x := ((1)`
    (120 ∷ 32 ∷ 58 ∷ 61 ∷ 32 ∷ 40 ∷ 40 ∷ 40 ∷ 40 ∷ 40 ∷ 40 ∷ 40 ∷ 40 ∷ 40 ∷ 40 ∷ 40 ∷ 40 ∷ 40 ∷ 40 ∷ 40 ∷ 40 ∷ 40 ∷ 40 ∷ 40 ∷ 40 ∷ 49 ∷ 41 ∷ 41 ∷ 41 ∷ 41 ∷ 41 ∷ 41 ∷ 41 ∷ 41 ∷ 41 ∷ 41 ∷ 41 ∷ 41 ∷ 41 ∷ 41 ∷ 41 ∷ 41 ∷ 41 ∷ 41 ∷ 41 ∷ 41 ∷ []) ∷
    (120 ∷ 32 ∷ 58 ∷ 61 ∷ 32 ∷ 40 ∷ 40 ∷ 49 ∷ 41 ∷ []) ∷
    -- 95: `x := new {bytes: 64}`
    (120 ∷ 32 ∷ 58 ∷ 61 ∷ 32 ∷ 110 ∷ 101 ∷ 119 ∷ 32 ∷ 123 ∷ 98 ∷ 121 ∷ 116 ∷ 101 ∷ 115 ∷ 58 ∷ 32 ∷ 54 ∷ 52 ∷ 125 ∷ []) ∷
    -- 96: `once ((-3))`
    (111 ∷ 110 ∷ 99 ∷ 101 ∷ 32 ∷ 40 ∷ 40 ∷ 45 ∷ 51 ∷ 41 ∷ 41 ∷ []) ∷
    -- 97: `x.a := !`
    (120 ∷ 46 ∷ 97 ∷ 32 ∷ 58 ∷ 61 ∷ 32 ∷ 33 ∷ []) ∷
    []

abbrev outcomes : List (ℕ × ℕ)
outcomes = (0, 11) ∷ (20, 5) ∷ (0, 9) ∷ (20, 2) ∷ (20, 2) ∷ (0, 8) ∷ (0, 9) ∷ (0, 11) ∷ (20, 5) ∷ (20, 5) ∷ (20, 4) ∷ (20, 7) ∷ (20, 6) ∷ (0, 0) ∷ (20, 5) ∷ (20, 7) ∷ (20, 15) ∷ (20, 12) ∷ (0, 15) ∷ (20, 9) ∷ (20, 16) ∷ (20, 8) ∷ (20, 12) ∷ (22, 5) ∷ (20, 16) ∷ (0, 16) ∷ (22, 8) ∷ (22, 16) ∷ (22, 85) ∷ (22, 58) ∷ (22, 95) ∷ (0, 66) ∷ (22, 67) ∷ (0, 46) ∷ (20, 9) ∷ (0, 20) ∷ (0, 11) ∷ (20, 7) ∷ []

abbrev words_of : Answer Fault (Form × Reader) → List ℤ × List ℕ
words_of (got x) = (x.0.words, x.0.origins)
words_of (stop f) = ([], [])

pub example-sheet : words_of (text_at example) ≡ (pos 2 ∷ pos 2 ∷ pos 0 ∷ pos 2 ∷ pos 0 ∷ pos 23 ∷ pos 64 ∷ pos 1 ∷ pos 23 ∷ pos 16 ∷ pos 3 ∷ pos 1 ∷ pos 3 ∷ pos 25 ∷ pos 6 ∷ pos 24 ∷ pos 0 ∷ pos 1 ∷ pos 0 ∷ pos 25 ∷ pos 3 ∷ pos 23 ∷ pos 4 ∷ pos 24 ∷ pos 0 ∷ pos 1 ∷ pos 1 ∷ [], 0 ∷ 0 ∷ 0 ∷ 9 ∷ 10 ∷ 17 ∷ 17 ∷ 21 ∷ 30 ∷ 30 ∷ 35 ∷ 42 ∷ 42 ∷ 59 ∷ 59 ∷ 51 ∷ 51 ∷ 51 ∷ 53 ∷ 63 ∷ 63 ∷ 61 ∷ 61 ∷ 65 ∷ 65 ∷ 65 ∷ 67 ∷ [])
unfolding between is_white is_named run trimmed spelt same_in code_of later_keywords keywords pairs singles asked_from name_length name_at single_at mark_at signs token_at limited rest_from token_from digit_of digits_from integer_of due_after level_of number_in known with_name among peek refusal take need room_for variable label steps path literal outside literal_at path_or_same operand opened onwards climb expression expression_on priority part_at parts_on constraint_on stated_on stated field_at fields_on fields_at assignment statement_at row_at block_at text_at
example-sheet = refl

pub reading-sheet : each (λ t. read (length t) (text_at t)) (example ∷ texts) ≡ (0, 74) ∷ outcomes
unfolding between is_white is_named run trimmed spelt same_in code_of later_keywords keywords pairs singles asked_from name_length name_at single_at mark_at signs token_at limited rest_from token_from digit_of digits_from integer_of due_after level_of number_in known with_name among peek refusal take need room_for variable label steps path literal outside literal_at path_or_same operand opened onwards climb expression expression_on priority part_at parts_on constraint_on stated_on stated field_at fields_on fields_at assignment statement_at row_at block_at text_at
reading-sheet = refl

pub judging-sheet : each (λ t. judged (length t) (judge_text t)) (example ∷ texts) ≡ (0, 74) ∷ outcomes
unfolding between is_white is_named run trimmed spelt same_in code_of later_keywords keywords pairs singles asked_from name_length name_at single_at mark_at signs token_at limited rest_from token_from digit_of digits_from integer_of due_after level_of number_in known with_name among grouped closed bracketed levels unfit room after stands too_great may_operand may_operator may_part may_field may_statement may judge
judging-sheet = refl
