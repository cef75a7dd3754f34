-- The forms of statements and expressions by their numbers, and the limits of a program (01, "The program's words").
-- Assumes nothing: these are definitions.
use Rattle.std.specs.Prelude.{ℕ, ◌-◌, cond, List, [], ◌∷◌, leb, get_or}
use Rattle.program.specs.declared.Form.{Form}
use Rattle.program.specs.declared.Form.TheVariants.{Nil as a_nil, False as a_false, True as a_true, Integer as an_integer, Path as a_path, Operation as an_operation, Identity as an_identity, Unknown as no_form}
use Rattle.program.specs.declared.Verb.{Verb}
use Rattle.program.specs.declared.Verb.TheVariants.{Skip as skip, Assign as assign, New as new, Always as always, Once as once, AlwaysSame as always_same, OnceSame as once_same, If as branch, While as loop, Unknown as no_verb}

-- "A program is one block, filling at most 4,096 words."
abbrev pub most_words : ℕ
most_words = 4096

-- "Block: n (0 to 255), n statements. Blocks nest to depth 8, the outermost being 1."
abbrev pub most_statements : ℕ
most_statements = 255

abbrev pub block_depth : ℕ
block_depth = 8

-- "Expressions nest to depth 16, a leaf being 1."
abbrev pub expression_depth : ℕ
expression_depth = 16

-- "L: variable, n (0 to 7), n labels."
abbrev pub most_steps : ℕ
most_steps = 7

-- "C: m (1 to 16), m times priority (1 weak, 2 medium, 3 required) and e."
abbrev pub most_parts : ℕ
most_parts = 16

abbrev pub required : ℕ
required = 3

-- "Operators: 1 +, 2 -, .. 11 or."
abbrev pub operators : ℕ
operators = 11

-- "e: 20 nil; 21 false; 22 true; 23 integer; 24 L; 25 operator e e; 26 L == L"
abbrev pub forms : List Form
forms = a_nil ∷ a_false ∷ a_true ∷ an_integer ∷ a_path ∷ an_operation ∷ an_identity ∷ []

unfoldable pub form_of : ℕ → Form
form_of n = cond (leb 20 n) (get_or forms (n - 20) no_form) no_form

-- "0 skip; 1 assign L e; 2 new; 3 always C; 4 once C; 5 always L == L; 6 once L == L; 7 if e block block; 8 while e block"
abbrev pub verbs : List Verb
verbs = skip ∷ assign ∷ new ∷ always ∷ once ∷ always_same ∷ once_same ∷ branch ∷ loop ∷ []

unfoldable pub verb_of : ℕ → Verb
verb_of n = get_or verbs n no_verb
