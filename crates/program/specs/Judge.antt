-- What a word may be where it stands, judged from the words before it (01, "What comes back": "the first unfit word").
-- Assumes nothing: these are definitions.
use Rattle.std.specs.Prelude.{ℕ, zero, suc, ◌-◌, ◌≤◌, ◌≡◌, Bool, true, false, cond, ◌&&◌, List, [], ◌∷◌, ◌++◌, leb, ℤ, length, take, drop, replicate}
use Rattle.words.specs.Words.{number_of}
use Rattle.words.specs.Answer.{Answer, got, stop}
use Rattle.tables.specs.Sizes.{variables, labels, most_fields}
use Rattle.program.specs.Forms.{most_statements, block_depth, expression_depth, most_steps, most_parts, required, operators}
use Rattle.program.specs.Forms.{form_of}
use Rattle.program.specs.declared.Form.{Form}
use Rattle.program.specs.declared.Form.TheVariants.{Nil as a_nil, False as a_false, True as a_true, Integer as an_integer, Path as a_path, Operation as an_operation, Identity as an_identity, Unknown as no_form}
use Rattle.program.specs.Forms.{verb_of}
use Rattle.program.specs.declared.Verb.{Verb}
use Rattle.program.specs.declared.Verb.TheVariants.{Skip as skip, Assign as assign, New as new, Always as always, Once as once, AlwaysSame as always_same, OnceSame as once_same, If as branch, While as loop, Unknown as no_verb}
use Rattle.program.specs.Reading.{Reading, among}

-- what the next word must begin or be
pub data Awaited : Type 0 where
  block : ℕ → Awaited
  statement : ℕ → Awaited
  path : Awaited
  step_count : Awaited
  label : Awaited
  expression : ℕ → Bool → Awaited
  operator : ℕ → Bool → Awaited
  literal : Awaited
  target : Awaited
  field_count : Awaited
  field : ℕ → List ℕ → Awaited
  constraint : Awaited
  part : Awaited

-- n fields more, after these labels
abbrev pub fields_more : ℕ → List ℕ → List Awaited
fields_more zero seen = []
fields_more (suc n) seen = field n seen ∷ []

-- a word may stand here or not; where it may, this is awaited after it
abbrev pub May : Type 0
May = Answer (Unit {0}) (List Awaited)

unfoldable pub may_form : ℕ → Bool → Form → May
may_form d in_c a_nil = got []
may_form d in_c a_false = got []
may_form d in_c a_true = got []
may_form d in_c an_integer = got (literal ∷ [])
may_form d in_c a_path = got (path ∷ [])
may_form d in_c an_operation = got (operator d in_c ∷ [])
may_form d in_c an_identity = cond in_c (stop tt) (got (path ∷ path ∷ []))
may_form d in_c no_form = stop tt

unfoldable pub may_verb : ℕ → Verb → May
may_verb d skip = got []
may_verb d assign = got (path ∷ expression expression_depth false ∷ [])
may_verb d new = got (target ∷ [])
may_verb d always = got (constraint ∷ [])
may_verb d once = got (constraint ∷ [])
may_verb d always_same = got (path ∷ path ∷ [])
may_verb d once_same = got (path ∷ path ∷ [])
may_verb d branch = got (expression expression_depth false ∷ block d ∷ block d ∷ [])
may_verb d loop = got (expression expression_depth false ∷ block d ∷ [])
may_verb d no_verb = stop tt

-- a number from low to high
unfoldable pub between : ℕ → ℕ → ℕ → List Awaited → May
between low high n more = cond (leb low n && leb n high) (got more) (stop tt)

-- the word with this number, where this is awaited; a literal may be any word
unfoldable pub may : Awaited → ℕ → May
may (block zero) n = stop tt
may (block (suc d)) n = between 0 most_statements n (replicate n (statement d))
may (statement d) n = may_verb d (verb_of n)
may path n = between 0 (variables - 1) n (step_count ∷ [])
may step_count n = between 0 most_steps n (replicate n label)
may label n = between 0 (labels - 1) n []
may (expression zero in_c) n = stop tt
may (expression (suc d) in_c) n = may_form d in_c (form_of n)
may (operator d in_c) n = between 1 operators n (expression d in_c ∷ expression d in_c ∷ [])
may literal n = got []
may target n = between 0 (variables - 1) n (field_count ∷ [])
may field_count n = between 0 most_fields n (fields_more n [])
may (field more seen) n = cond (among n seen) (stop tt) (between 0 (labels - 1) n (expression expression_depth false ∷ fields_more more (n ∷ seen)))
may constraint n = between 1 most_parts n (replicate n part)
may part n = between 1 required n (expression expression_depth true ∷ [])

-- the words are judged from left to right: a word that may not stand, words that run out, and "for extra words, the first"
unfoldable pub judge : List Awaited → List ℤ → Reading (Unit {0})
judge [] [] = got tt
judge [] (w ∷ p) = stop (w ∷ p)
judge (a ∷ more) [] = stop []
judge (a ∷ more) (w ∷ p) = elim (may a (number_of w)) [ got then ↦ judge (then ++ more) p | stop u ↦ stop (w ∷ p) ]

-- after the words of a program's beginning, each of which may stand where it stands, this is awaited
pub data Awaits : List ℤ → List Awaited → Type 0 where
  begin : Awaits [] (block block_depth ∷ [])
  next : {ws : List ℤ} {a : Awaited} {more then : List Awaited} (w : ℤ)
      → Awaits ws (a ∷ more) → may a (number_of w) ≡ got then → Awaits (ws ++ (w ∷ [])) (then ++ more)

-- the next word may not stand where these are awaited, or there is none
pub data Unfit : List Awaited → List ℤ → Type 0 where
  wrong : {a : Awaited} {more : List Awaited} {w : ℤ} {p : List ℤ} → may a (number_of w) ≡ stop tt → Unfit (a ∷ more) (w ∷ p)
  extra : {w : ℤ} {p : List ℤ} → Unfit [] (w ∷ p)
  short : {a : Awaited} {more : List Awaited} → Unfit (a ∷ more) []

-- k is the place of the first unfit word of p
pub record FirstUnfit (p : List ℤ) (k : ℕ) : Type 0 where
  pub within : k ≤ length p
  pub awaited : List Awaited
  pub before : Awaits (take k p) awaited
  pub there : Unfit awaited (drop k p)
