-- Steps of a `do` that read words: what was read, where one answered, and the forms by their numbers. Assumes nothing.
use Rattle.std.specs.Prelude.{None, Option, Some, is_ok}
use mathlib.Core.Path.{◌≡◌, refl, sym, ap, ◌∙◌}
use mathlib.Core.Bool.{true, false}
use mathlib.Core.List.{List, [], ◌∷◌, ◌++◌}
use Prim.Native.Nat.{ℕ, ◌-◌, ◌<◌, ◌≤◌}
use native.Mathlib.Omega.{arith}
use lib.IntN.{ℤ, pos}
use lib.ListN.{length, drop, get_or}
use Rattle.words.specs.Words.{number_at}
use Rattle.words.specs.Answer.{Answer, got, stop, ◌>>=◌}
use Rattle.words.proofs.AnswerLaws.{got-inj, stop≢got, step}
use Rattle.words.proofs.Laws.{number-first}
use Rattle.tables.specs.declared.Value.{Value}
use Rattle.program.specs.Forms.{forms, form_of}
use Rattle.program.specs.declared.Form.{Form}
use Rattle.program.specs.declared.Form.TheVariants.{Nil as a_nil, False as a_false, True as a_true, Integer as an_integer, Path as a_path, Operation as an_operation, Identity as an_identity, Unknown as no_form}
use Rattle.program.specs.Grammar.{Path, Labels, Expression}
use Rattle.program.specs.Reading.{Reading, number, any_word, read_expression}
use Rattle.program.specs.Told.{told}
use Rattle.program.proofs.NumberLaws.{IsNumber, number_read, number_is, any-read}
use Rattle.program.proofs.FormLaws.{number_of_form, form-number, form-word}
use Rattle.program.proofs.GrammarLaws.{expression-complete}
use Rattle.program.proofs.ReadLaws.{expression-none}
use Rattle.rules.specs.State.{Res, or_refuse, reads, present}
use Rattle.rules.specs.Evaluation.{at}

-- ---- what answered below answers here, and only that

pub reads-got : {A : Type 0} {a : A} (m : Reading A) → reads m ≡ got a → m ≡ got a
reads-got (got x) e = ap got (got-inj e)
reads-got (stop q) e = stop≢got e

pub or-got : {E A : Type 0} {a : A} (n : ℕ) (p : List ℤ) (m : Answer E A) → or_refuse n p m ≡ got a → m ≡ got a
or-got n p (got x) e = ap got (got-inj e)
or-got n p (stop q) e = stop≢got e

pub at-got : {A : Type 0} {a : A} (p : List ℤ) (m : Answer ℕ A) → at p m ≡ got a → m ≡ got a
at-got p (got x) e = ap got (got-inj e)
at-got p (stop q) e = stop≢got e

pub present-got : {v : Value} (s : Option Value) → present s ≡ got v → s ≡ Some v
present-got (Some v) e = ap Some (got-inj e)
present-got None e = stop≢got e

-- a number was read, and then the rest
pub by_number {ℓ} : {B : Type 0} {X : Type ℓ} {b : B} (low high : ℕ) (p : List ℤ) (f : ℕ × List ℤ → Res B) → high < 2147483648
    → (reads (number low high p) >>= f) ≡ got b → ((n : ℕ) (r : List ℤ) → low ≤ n → n ≤ high → p ≡ pos n ∷ r → f (n, r) ≡ got b → X) → X
by_number low high p f h e k =
    step (reads (number low high p)) f e λ x e1 k1.
    let i : IsNumber low high p x.0 x.1 = number_read low high p (reads-got (number low high p) e1) in
    k x.0 x.1 i.least i.most (number_is h i) k1

-- any word was read
pub by_word {ℓ} : {X : Type ℓ} (p q : List ℤ) → reads (any_word p) ≡ got q → ((w : ℤ) → p ≡ w ∷ q → X) → X
by_word {X = X} p q e k = go p (any-read p q (reads-got (any_word p) e)) k
  where
    go : (r : List ℤ) → (0 < length r) × (q ≡ drop 1 r) → ((w : ℤ) → r ≡ w ∷ q → X) → X
    go [] h k = absurd (omega arith)
    go (w ∷ r) h k = k w (ap (λ (t : List ℤ). w ∷ t) (sym h.1))

-- ---- the forms by their numbers

known : (f : Form) → (f ≡ no_form → ⊥) → number_of_form f < 27
known a_nil h = omega arith
known a_false h = omega arith
known a_true h = omega arith
known an_integer h = omega arith
known a_path h = omega arith
known an_operation h = omega arith
known an_identity h = omega arith
known no_form h = absurd (h refl)

-- the words of an expression whose first word stands for a form
pub form-words : (p : List ℤ) → (form_of (number_at p 0) ≡ no_form → ⊥) → p ≡ pos (number_of_form (form_of (number_at p 0))) ∷ drop 1 p
form-words p h = form-word refl (known (form_of (number_at p 0)) h)

abbrev back : ℕ → Form
back n = get_or forms (n - 20) no_form

back-form : (f : Form) → back (number_of_form f) ≡ f
back-form a_nil = refl
back-form a_false = refl
back-form a_true = refl
back-form an_integer = refl
back-form a_path = refl
back-form an_operation = refl
back-form an_identity = refl
back-form no_form = refl

variable : Path (pos 0 ∷ pos 0 ∷ [])
variable = Path.path {x = 0} {n = 0} (omega arith) (omega arith) Labels.none

-- the number of a form that some expression begins with stands for that form
form-begins : (f : Form) (ws : List ℤ) → Expression false 2 (pos (number_of_form f) ∷ ws) → form_of (number_of_form f) ≡ f
form-begins f ws x =
    sym (back-form (form_of (number_of_form f))) ∙ ap back (sym (form-number (number_of_form f) (known (form_of (number_of_form f)) never))) ∙ back-form f
  where
    never : form_of (number_of_form f) ≡ no_form → ⊥
    never q =
        let e : read_expression 2 false (pos (number_of_form f) ∷ ws ++ []) ≡ got [] = expression-complete x [] in
        let i : number_at (pos (number_of_form f) ∷ ws ++ []) 0 ≡ number_of_form f = number-first (pos (number_of_form f)) (ws ++ []) in
        let t : false ≡ true = ap is_ok (expression-none 2 false (pos (number_of_form f) ∷ ws ++ []) (λ z. omega arith) (rw i q) ∙ ap told e) in
        let z : ◌≡◌ {A = ℕ} 0 1 = cc in
        omega arith

pub apart : {f : Form} → (number_of_form f ≡ 27 → ⊥) → f ≡ no_form → ⊥
apart h e = h (ap number_of_form e)

-- each number from 20 to 26 stands for its form
pub form-is : (f : Form) → (f ≡ no_form → ⊥) → form_of (number_of_form f) ≡ f
form-is a_nil h = form-begins a_nil [] Expression.nil
form-is a_false h = form-begins a_false [] Expression.no
form-is a_true h = form-begins a_true [] Expression.yes
form-is an_integer h = form-begins an_integer (pos 0 ∷ []) Expression.integer
form-is a_path h = form-begins a_path _ (Expression.at variable)
form-is an_operation h = form-begins an_operation _ (Expression.operation {o = 1} (omega arith) (omega arith) Expression.nil Expression.nil)
form-is an_identity h = form-begins an_identity _ (Expression.identity refl variable variable)
form-is no_form h = absurd (h refl)
