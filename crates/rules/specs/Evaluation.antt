-- Expressions: what one evaluates to, and its kind (01, "The program's words"; 000, E- and T-rules). Assumes nothing: these are definitions.
use Rattle.std.specs.Prelude.{ℕ, zero, suc, Bool, true, false, not, ◌&&◌, ◌||◌, List, [], ◌∷◌, ℤ, pos, ◌+ℤ◌, ◌-ℤ◌, ◌*ℤ◌, get_or, drop}
use Rattle.std.specs.Int.Signed.{lt_z, le_z}
use Rattle.words.specs.Words.{word_at, number_at, eq_z}
use Rattle.words.specs.Range.{fits}
use Rattle.words.specs.Answer.{Answer, got, stop, ◌>>=◌, ◌>>◌, want}
use Rattle.tables.specs.declared.Value.{Value}
use Rattle.tables.specs.declared.Value.TheVariants.{Nil, Bool as Truth, Int, Ref}
use Rattle.tables.specs.declared.Kind.{Kind}
use Rattle.tables.specs.declared.Kind.TheVariants.{Nil as is_nil, Bool as is_bool, Int as is_int, Ref as is_ref}
use Rattle.program.specs.declared.Operator.{Operator}
use Rattle.program.specs.declared.Operator.TheVariants.{Plus, Minus, Times, Below, AtMost, Equal, Unequal, AtLeast, Above, And, Or, Unknown}
use Rattle.tables.specs.Values.{cell_of}
use Rattle.tables.specs.Cells.{Cells}
use Rattle.program.specs.Forms.{operators, form_of}
use Rattle.program.specs.declared.Form.{Form}
use Rattle.program.specs.declared.Form.TheVariants.{Nil as a_nil, False as a_false, True as a_true, Integer as an_integer, Path as a_path, Operation as an_operation, Identity as an_identity, Unknown as no_form}
use Rattle.program.specs.Reading.{number, any_word}
use Rattle.rules.specs.State.{Res, refuse, reads}
use Rattle.rules.specs.Paths.{value_at}

abbrev pub kind_of : Value → Kind
kind_of Nil = is_nil
kind_of (Truth b) = is_bool
kind_of (Int n) = is_int
kind_of (Ref r) = is_ref

-- "Operators: 1 +, 2 -, 3 ×, 4 <, 5 ≤, 6 =, 7 ≠, 8 ≥, 9 >, 10 and, 11 or."
abbrev pub ops : List Operator
ops = Unknown ∷ Plus ∷ Minus ∷ Times ∷ Below ∷ AtMost ∷ Equal ∷ Unequal ∷ AtLeast ∷ Above ∷ And ∷ Or ∷ []

unfoldable pub op_of : ℕ → Operator
op_of n = get_or ops n Unknown

-- ---- kinds: "Operators 1 to 5, 8 and 9 want integers, 10 and 11 booleans" (T-OP)

abbrev pub an_int : Kind → Bool
an_int is_nil = false
an_int is_bool = false
an_int is_int = true
an_int is_ref = false

abbrev pub a_bool : Kind → Bool
a_bool is_nil = false
a_bool is_bool = true
a_bool is_int = false
a_bool is_ref = false

abbrev pub the_nil : Kind → Bool
the_nil is_nil = true
the_nil is_bool = false
the_nil is_int = false
the_nil is_ref = false

abbrev pub two : (Kind → Bool) → Kind → Kind → Bool
two test a b = test a && test b

-- 02, W4: "operators 6 and 7 want two integers, two booleans or two nils", in this one place
unfoldable pub comparable : Kind → Kind → Bool
comparable a b = two an_int a b || two a_bool a b || two the_nil a b

-- whether an operator takes these kinds, and the kind of its result
unfoldable pub takes : Operator → Kind → Kind → Bool
takes Plus = two an_int
takes Minus = two an_int
takes Times = two an_int
takes Below = two an_int
takes AtMost = two an_int
takes Equal = comparable
takes Unequal = comparable
takes AtLeast = two an_int
takes Above = two an_int
takes And = two a_bool
takes Or = two a_bool
takes Unknown = λ a b. false

unfoldable pub gives : Operator → Kind
gives Plus = is_int
gives Minus = is_int
gives Times = is_int
gives Below = is_bool
gives AtMost = is_bool
gives Equal = is_bool
gives Unequal = is_bool
gives AtLeast = is_bool
gives Above = is_bool
gives And = is_bool
gives Or = is_bool
gives Unknown = is_nil

-- ---- values

-- "L == L compares kind and payload of any two values"; = and ≠ those of two that they take
unfoldable pub same : Value → Value → Bool
same a b = eq_z (cell_of a).kind (cell_of b).kind && eq_z (cell_of a).payload (cell_of b).payload

abbrev pub int_of : Value → ℤ
int_of Nil = pos 0
int_of (Truth b) = pos 0
int_of (Int n) = n
int_of (Ref r) = pos 0

abbrev pub bool_of : Value → Bool
bool_of Nil = false
bool_of (Truth b) = b
bool_of (Int n) = false
bool_of (Ref r) = false

-- "Each result of 1 to 3 must fit 32 bits signed": 9
unfoldable pub ranged : ℤ → Answer ℕ Value
ranged z = want 9 (fits z) >> got (Int z)

-- what an operator makes of two values whose kinds it takes
unfoldable pub made : Operator → Value → Value → Answer ℕ Value
made Plus a b = ranged (int_of a +ℤ int_of b)
made Minus a b = ranged (int_of a -ℤ int_of b)
made Times a b = ranged (int_of a *ℤ int_of b)
made Below a b = got (Truth (lt_z (int_of a) (int_of b)))
made AtMost a b = got (Truth (le_z (int_of a) (int_of b)))
made Equal a b = got (Truth (same a b))
made Unequal a b = got (Truth (not (same a b)))
made AtLeast a b = got (Truth (le_z (int_of b) (int_of a)))
made Above a b = got (Truth (lt_z (int_of b) (int_of a)))
made And a b = got (Truth (bool_of a && bool_of b))
made Or a b = got (Truth (bool_of a || bool_of b))
made Unknown a b = stop 8

-- "then kinds are tested, then range"
unfoldable pub apply : Operator → Value → Value → Answer ℕ Value
apply o a b = want 8 (takes o (kind_of a) (kind_of b)) >> made o a b

-- a refusal by its number, at p
abbrev pub at : {A : Type 0} → List ℤ → Answer ℕ A → Res A
at p (got a) = got a
at p (stop n) = refuse n p

-- ---- evaluation: "Both operands are always evaluated, left first"; `go` evaluates what is nested a level deeper

unfoldable pub evaluate_form : (List ℤ → Res (Value × List ℤ)) → Cells → List ℤ → Form → Res (Value × List ℤ)
evaluate_form go S p a_nil = got (Nil, drop 1 p)
evaluate_form go S p a_false = got (Truth false, drop 1 p)
evaluate_form go S p a_true = got (Truth true, drop 1 p)
evaluate_form go S p an_integer = do
  q ← reads (any_word (drop 1 p))
  got (Int (word_at (drop 1 p) 0), q)
evaluate_form go S p a_path = value_at S (drop 1 p)
evaluate_form go S p an_operation = do
  (o, q) ← reads (number 1 operators (drop 1 p))
  (a, r) ← go q
  (b, t) ← go r
  v ← at p (apply (op_of o) a b)
  got (v, t)
evaluate_form go S p an_identity = do
  (a, q) ← value_at S (drop 1 p)
  (b, r) ← value_at S q
  got (Truth (same a b), r)
evaluate_form go S p no_form = refuse 2 p

-- the value of the expression at p, nested at most d deep, and the part after it
unfoldable pub evaluate : ℕ → Cells → List ℤ → Res (Value × List ℤ)
evaluate zero S p = refuse 2 p
evaluate (suc d) S p = evaluate_form (λ q. evaluate d S q) S p (form_of (number_at p 0))

-- ---- kinds of expressions, which do not depend on range

unfoldable pub kind_form : (List ℤ → Res (Kind × List ℤ)) → Cells → List ℤ → Form → Res (Kind × List ℤ)
kind_form go S p a_nil = got (is_nil, drop 1 p)
kind_form go S p a_false = got (is_bool, drop 1 p)
kind_form go S p a_true = got (is_bool, drop 1 p)
kind_form go S p an_integer = do
  q ← reads (any_word (drop 1 p))
  got (is_int, q)
kind_form go S p a_path = do
  (v, q) ← value_at S (drop 1 p)
  got (kind_of v, q)
kind_form go S p an_operation = do
  (o, q) ← reads (number 1 operators (drop 1 p))
  (a, r) ← go q
  (b, t) ← go r
  at p (want 8 (takes (op_of o) a b))
  got (gives (op_of o), t)
kind_form go S p an_identity = refuse 2 p
kind_form go S p no_form = refuse 2 p

unfoldable pub kind : ℕ → Cells → List ℤ → Res (Kind × List ℤ)
kind zero S p = refuse 2 p
kind (suc d) S p = kind_form (λ q. kind d S q) S p (form_of (number_at p 0))
