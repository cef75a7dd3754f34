-- The text of a program, as signs (02, W5): each piece is written from the part of the program that begins at its first word, and what is left behind it is handed on.
-- Assumes nothing: these are definitions.
use Rattle.std.specs.Prelude.{ℕ, zero, suc, ◌-◌, cond, List, [], ◌∷◌, ◌++◌, leb, ℤ, drop}
use Rattle.words.specs.Words.{word_at, number_at}
use Rattle.program.specs.Forms.{block_depth, expression_depth}
use Rattle.program.specs.Forms.{form_of}
use Rattle.program.specs.declared.Form.{Form}
use Rattle.program.specs.declared.Form.TheVariants.{Nil as a_nil, False as a_false, True as a_true, Integer as an_integer, Path as a_path, Operation as an_operation, Identity as an_identity, Unknown as no_form}
use Rattle.program.specs.Forms.{verb_of}
use Rattle.program.specs.declared.Verb.{Verb}
use Rattle.program.specs.declared.Verb.TheVariants.{Skip as skip, Assign as assign, New as new, Always as always, Once as once, AlwaysSame as always_same, OnceSame as once_same, If as branch, While as loop, Unknown as no_verb}
use Rattle.text.specs.Reading.{level_of}
use Rattle.printing.specs.Signs.{Sign, integer, variable, label, space, line, operator_text, priority_text}
use Rattle.printing.specs.Signs.{new_sign, skip_sign, always_sign, once_sign, if_sign, then_sign, else_sign, while_sign, do_sign, true_sign, false_sign, nil_sign}
use Rattle.printing.specs.Signs.{becomes_sign, colon_sign, comma_sign, dot_sign, semicolon_sign, open_brace_sign, close_brace_sign, open_bracket_sign, close_bracket_sign, identical_sign, beside_sign}

-- what is written of a piece, and the words behind it
abbrev pub Printed : Type 0
Printed = List Sign × List ℤ

-- a piece and then another, and signs before and behind one
abbrev pub then : Printed → (List ℤ → Printed) → Printed
then a f = (a.0 ++ (f a.1).0, (f a.1).1)

abbrev pub say : List Sign → Printed → Printed
say ss a = (ss ++ a.0, a.1)

abbrev pub until : Printed → List Sign → Printed
until a ss = (a.0 ++ ss, a.1)

-- n pieces, with `sep` between them; `lead` stands before the first
unfoldable pub row_text : List Sign → List Sign → (List ℤ → Printed) → ℕ → List ℤ → Printed
row_text lead sep one zero p = ([], p)
row_text lead sep one (suc n) p = say lead (then (one p) (λ q. row_text sep sep one n q))

-- ---- paths

unfoldable pub labels_text : ℕ → List ℤ → List Sign
labels_text zero p = []
labels_text (suc n) p = dot_sign ∷ label (number_at p 0) ∷ labels_text n (drop 1 p)

-- "L: variable, n (0 to 7), n labels."
unfoldable pub path_text : List ℤ → Printed
path_text p = (variable (number_at p 0) ∷ labels_text (number_at p 1) (drop 2 p), drop (number_at p 1) (drop 2 p))

-- L == L
unfoldable pub sides_text : List ℤ → Printed
sides_text p = then (path_text p) (λ q. say (space ∷ identical_sign ∷ space ∷ []) (path_text q))

-- ---- expressions; `go` writes one that stands under an operator, and binds as tightly as a level or more

-- "a left operand whose operator binds less tightly, a right operand whose operator does not bind more tightly" stand in brackets
unfoldable pub operands_text : (ℕ → List ℤ → Printed) → ℕ → ℕ → List ℤ → Printed
operands_text go k level p = then (go level p) (λ q. say (operator_text k) (go (suc level) q))

unfoldable pub operation_text : (ℕ → List ℤ → Printed) → ℕ → List ℤ → Printed
operation_text go low p =
    cond (leb low (level_of (number_at p 0)))
    (operands_text go (number_at p 0) (level_of (number_at p 0)) (drop 1 p))
    (say (open_bracket_sign ∷ []) (until (operands_text go (number_at p 0) (level_of (number_at p 0)) (drop 1 p)) (close_bracket_sign ∷ [])))

-- "e: 20 nil; 21 false; 22 true; 23 integer; 24 L; 25 operator e e; 26 L == L"
unfoldable pub form_text : (ℕ → List ℤ → Printed) → ℕ → List ℤ → Form → Printed
form_text go low p a_nil = (nil_sign ∷ [], drop 1 p)
form_text go low p a_false = (false_sign ∷ [], drop 1 p)
form_text go low p a_true = (true_sign ∷ [], drop 1 p)
form_text go low p an_integer = (integer (word_at (drop 1 p) 0) ∷ [], drop 1 (drop 1 p))
form_text go low p a_path = path_text (drop 1 p)
form_text go low p an_operation = operation_text go low (drop 1 p)
form_text go low p an_identity = sides_text (drop 1 p)
form_text go low p no_form = ([], p)

-- e, nested at most d deep
unfoldable pub expression_text : ℕ → ℕ → List ℤ → Printed
expression_text zero low p = ([], p)
expression_text (suc d) low p = form_text (λ l q. expression_text d l q) low p (form_of (number_at p 0))

-- an e that stands under no operator
abbrev pub whole_text : List ℤ → Printed
whole_text p = expression_text expression_depth 1 p

-- ---- constraints and fields

-- "Parts joined by ` /\ `, each with its priority written out." "In C a part never needs any around it."
unfoldable pub part_text : List ℤ → Printed
part_text p = say (priority_text (number_at p 0)) (whole_text (drop 1 p))

unfoldable pub constraint_text : List ℤ → Printed
constraint_text p = row_text [] (space ∷ beside_sign ∷ space ∷ []) part_text (number_at p 0) (drop 1 p)

-- "`x := new {a: 1, b: 2}`, `new {}`."
unfoldable pub field_text : List ℤ → Printed
field_text p = say (label (number_at p 0) ∷ colon_sign ∷ space ∷ []) (whole_text (drop 1 p))

unfoldable pub fields_text : List ℤ → Printed
fields_text p = row_text [] (comma_sign ∷ space ∷ []) field_text (number_at p 0) (drop 1 p)

unfoldable pub new_text : List ℤ → Printed
new_text p =
    say (variable (number_at p 0) ∷ space ∷ becomes_sign ∷ space ∷ new_sign ∷ space ∷ open_brace_sign ∷ [])
    (until (fields_text (drop 1 p)) (close_brace_sign ∷ []))

-- ---- statements and blocks; `block` writes a block that a statement holds

unfoldable pub assign_text : List ℤ → Printed
assign_text p = then (path_text p) (λ q. say (space ∷ becomes_sign ∷ space ∷ []) (whole_text q))

-- "`if e then {` newline, the block's statements one a line, newline, `} else {`, .., `}`"
unfoldable pub branch_text : (List ℤ → Printed) → List ℤ → Printed
branch_text block p =
    say (if_sign ∷ space ∷ []) (then (whole_text p) (λ q. say (space ∷ then_sign ∷ space ∷ []) (then (block q) (λ r. say (space ∷ else_sign ∷ space ∷ []) (block r)))))

-- "`while e do {` .. `}`"
unfoldable pub loop_text : (List ℤ → Printed) → List ℤ → Printed
loop_text block p = say (while_sign ∷ space ∷ []) (then (whole_text p) (λ q. say (space ∷ do_sign ∷ space ∷ []) (block q)))

unfoldable pub verb_text : (List ℤ → Printed) → List ℤ → Verb → Printed
verb_text block p skip = (skip_sign ∷ [], drop 1 p)
verb_text block p assign = assign_text (drop 1 p)
verb_text block p new = new_text (drop 1 p)
verb_text block p always = say (always_sign ∷ space ∷ []) (constraint_text (drop 1 p))
verb_text block p once = say (once_sign ∷ space ∷ []) (constraint_text (drop 1 p))
verb_text block p always_same = say (always_sign ∷ space ∷ []) (sides_text (drop 1 p))
verb_text block p once_same = say (once_sign ∷ space ∷ []) (sides_text (drop 1 p))
verb_text block p branch = branch_text block (drop 1 p)
verb_text block p loop = loop_text block (drop 1 p)
verb_text block p no_verb = ([], p)

unfoldable pub verb_at : (List ℤ → Printed) → List ℤ → Printed
verb_at block p = verb_text block p (verb_of (number_at p 0))

-- "statements parted by `;` and a newline", where their own blocks may nest d deep
abbrev pub row_of : ℕ → (List ℤ → Printed) → List ℤ → Printed
row_of d one p = row_text [] (semicolon_sign ∷ line d ∷ []) one (number_at p 0) (drop 1 p)

-- "a closing brace stands on its own line under the statement that opened it; an empty block is `{}`"
abbrev pub braces : ℕ → ℕ → Printed → Printed
braces d zero a = (open_brace_sign ∷ close_brace_sign ∷ [], a.1)
braces d (suc n) a = say (open_brace_sign ∷ line d ∷ []) (until a (line (suc d) ∷ close_brace_sign ∷ []))

-- a block, nested at most d deep
unfoldable pub block_text : ℕ → List ℤ → Printed
block_text zero p = ([], p)
block_text (suc d) p = braces d (number_at p 0) (row_of d (λ q. verb_at (λ r. block_text d r) q) p)

-- a statement whose blocks nest at most d deep, and the statements of a block
unfoldable pub statement_text : ℕ → List ℤ → Printed
statement_text d p = verb_at (λ r. block_text d r) p

unfoldable pub statements_text : ℕ → List ℤ → Printed
statements_text d p = row_of d (λ q. statement_text d q) p

-- "no newline at the end of the text"; "The program `0` is the empty text."
unfoldable pub program_text : List ℤ → List Sign
program_text p = (statements_text (block_depth - 1) p).0
