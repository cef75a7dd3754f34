-- The definition `kind` and the paper's T-rules say the same. Assumes nothing.
use mathlib.Core.Path.{◌≡◌, refl, ◌∙◌}
use mathlib.Core.Logic.{◌↔◌}
use mathlib.Core.Bool.{Bool, true, false}
use mathlib.Core.List.{List, ◌∷◌}
use Prim.Native.Nat.{ℕ, zero, suc}
use native.Mathlib.Omega.{arith}
use lib.IntN.{ℤ, pos}
use lib.ListN.{drop}
use Rattle.words.specs.Words.{number_at}
use Rattle.words.specs.Answer.{got, want}
use Rattle.words.proofs.AnswerLaws.{got-inj, stop≢got, step, step-on}
use Rattle.words.proofs.Laws.{number-first}
use Rattle.tables.specs.Cells.{Cells}
use Rattle.tables.specs.declared.Kind.{Kind}
use Rattle.program.specs.Forms.{operators}
use Rattle.program.specs.Forms.{form_of}
use Rattle.program.specs.declared.Form.{Form}
use Rattle.program.specs.declared.Form.TheVariants.{Nil as a_nil, False as a_false, True as a_true, Integer as an_integer, Path as a_path, Operation as an_operation, Identity as an_identity, Unknown as no_form}
use Rattle.program.specs.Reading.{any_word}
use Rattle.program.proofs.NumberLaws.{number-of, any-fits}
use Rattle.program.proofs.FormLaws.{number_of_form}
use Rattle.rules.specs.State.{Res, reads}
use Rattle.rules.specs.Paths.{value_at}
use Rattle.rules.specs.Evaluation.{op_of, takes, gives, at, kind_form, kind}
use Rattle.rules.specs.Rules.Operators.{Gives}
use Rattle.rules.specs.Rules.Expressions.{Literal, t_literal, t_path, t_operation, KindWithin}
use Rattle.rules.proofs.WordSteps.{at-got, by_number, by_word, form-words, form-is, apart}
use Rattle.rules.proofs.NameLaws.{holds-sound, holds-complete}
use Rattle.rules.proofs.OperatorLaws.{gives-sound, gives-operator, gives-complete}

-- ---- what the definition answers, the rules derive

pub wanted : {u : Unit {0}} (c : Bool) → want {E = ℕ} 8 c ≡ got u → c ≡ true
wanted true e = refl
wanted false e = stop≢got e

module _ (S : Cells) (d : ℕ) (go : List ℤ → Res (Kind × List ℤ)) (ih : (q : List ℤ) (x : Kind × List ℤ) → go q ≡ got x → KindWithin S d q x.0 x.1) where
  form-sound : (f : Form) (p : List ℤ) (x : Kind × List ℤ) → kind_form go S (pos (number_of_form f) ∷ p) f ≡ got x
      → KindWithin S (suc d) (pos (number_of_form f) ∷ p) x.0 x.1
  unfolding kind_form
  form-sound a_nil p x e = rw (← got-inj e) (t_literal Literal.nil)
  form-sound a_false p x e = rw (← got-inj e) (t_literal Literal.no)
  form-sound a_true p x e = rw (← got-inj e) (t_literal Literal.yes)
  form-sound an_integer p x e =
      step (reads (any_word p)) _ e λ q e1 k1.
      by_word p q e1 λ w s.
      rw (← got-inj k1, s) (t_literal Literal.integer)
  form-sound a_path p x e =
      step (value_at S p) _ e λ y e1 k1.
      rw (← got-inj k1) (t_path (holds-sound S p y e1))
  form-sound an_operation p x e =
      by_number 1 operators p _ (omega arith) e λ o q a b s k.
      step (go q) _ k λ y e2 k2.
      step (go y.1) _ k2 λ z e3 k3.
      step-on (at (pos 25 ∷ p) (want 8 (takes (op_of o) y.0 z.0))) _ k3 λ v e4 k4.
      operation o q s y z (ih q y e2) (ih y.1 z e3)
      (gives-sound y.0 z.0 o a b (wanted (takes (op_of o) y.0 z.0) (at-got (pos 25 ∷ p) (want 8 (takes (op_of o) y.0 z.0)) e4))) (got-inj k4)
    where
      operation : (o : ℕ) (q : List ℤ) → p ≡ pos o ∷ q → (y z : Kind × List ℤ)
          → KindWithin S d q y.0 y.1 → KindWithin S d y.1 z.0 z.1 → Gives o y.0 z.0 (gives (op_of o)) → (gives (op_of o), z.1) ≡ x
          → KindWithin S (suc d) (pos 25 ∷ p) x.0 x.1
      operation o q s y z l r g i = rw (s, ← i) (t_operation l r g)
  form-sound an_identity p x e = stop≢got e
  form-sound no_form p x e = stop≢got e

  words-sound : (p p' : List ℤ) (f : Form) (x : Kind × List ℤ) → p ≡ pos (number_of_form f) ∷ p' → kind_form go S p f ≡ got x → KindWithin S (suc d) p x.0 x.1
  words-sound p p' f x w e = rw w (form-sound f p' x (rw w at e))

pub kind-sound : (S : Cells) (d : ℕ) (p : List ℤ) (x : Kind × List ℤ) → kind d S p ≡ got x → KindWithin S d p x.0 x.1
unfolding kind kind_form
kind-sound S zero p x e = stop≢got e
kind-sound S (suc d) p x e =
    words-sound S d (λ q. kind d S q) (λ q y h. kind-sound S d q y h) p (drop 1 p) (form_of (number_at p 0)) x
    (form-words p (λ q. stop≢got (rw q at e))) e

-- ---- what the rules derive, the definition answers

-- an expression that begins with the word of a form has its kind by that form
pub kind-opens : (S : Cells) (d : ℕ) (f : Form) (p : List ℤ) → (f ≡ no_form → ⊥)
    → kind (suc d) S (pos (number_of_form f) ∷ p) ≡ kind_form (λ q. kind d S q) S (pos (number_of_form f) ∷ p) f
unfolding kind
kind-opens S d f p h = rw (number-first (pos (number_of_form f)) p, form-is f h)

pub kind-complete : {S : Cells} {d : ℕ} {p : List ℤ} {k : Kind} {q : List ℤ} → KindWithin S d p k q → kind d S p ≡ got (k, q)
unfolding kind_form
kind-complete {S} (t_literal {d = d} (Literal.nil {p = p})) = kind-opens S d a_nil p (apart λ z. omega arith)
kind-complete {S} (t_literal {d = d} (Literal.no {p = p})) = kind-opens S d a_false p (apart λ z. omega arith)
kind-complete {S} (t_literal {d = d} (Literal.yes {p = p})) = kind-opens S d a_true p (apart λ z. omega arith)
kind-complete {S} (t_literal {d = d} (Literal.integer {w = w} {p = p})) = kind-opens S d an_integer (w ∷ p) (apart λ z. omega arith) ∙ rw (any-fits (w ∷ p) (omega arith))
kind-complete {S} (t_path {d = d} {p = p} k) = kind-opens S d a_path p (apart λ z. omega arith) ∙ rw (holds-complete S k)
kind-complete {S} (t_operation {d = d} {o = o} {p = p} l r g) =
    kind-opens S d an_operation (pos o ∷ p) (apart λ z. omega arith)
    ∙ rw (number-of 1 operators o p (gives-operator g).0 (gives-operator g).1, kind-complete l, kind-complete r, (gives-complete g).0, (gives-complete g).1)

-- an expression has the kind k, with q after it, exactly where the rules derive it within the nesting
pub kind-iff : (d : ℕ) (S : Cells) (p : List ℤ) (k : Kind) (q : List ℤ) → (kind d S p ≡ got (k, q)) ↔ KindWithin S d p k q
kind-iff d S p k q = (kind-sound S d p (k, q), λ w. kind-complete w)
