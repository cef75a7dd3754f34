-- The definition `evaluate` and the paper's E-rules say the same. Assumes nothing.
use mathlib.Core.Path.{◌≡◌, ◌∙◌}
use mathlib.Core.Logic.{◌↔◌}
use mathlib.Core.List.{List, ◌∷◌}
use Prim.Native.Nat.{ℕ, zero, suc}
use native.Mathlib.Omega.{arith}
use lib.IntN.{ℤ, pos}
use lib.ListN.{drop}
use Rattle.words.specs.Words.{number_at}
use Rattle.words.specs.Answer.{got}
use Rattle.words.proofs.AnswerLaws.{got-inj, stop≢got, step}
use Rattle.words.proofs.Laws.{number-first}
use Rattle.tables.specs.declared.Value.{Value}
use Rattle.tables.specs.Cells.{Cells}
use Rattle.tables.proofs.SearchLaws.{cases}
use Rattle.program.specs.Forms.{operators, form_of}
use Rattle.program.specs.declared.Form.{Form}
use Rattle.program.specs.declared.Form.TheVariants.{Nil as a_nil, False as a_false, True as a_true, Integer as an_integer, Path as a_path, Operation as an_operation, Identity as an_identity, Unknown as no_form}
use Rattle.program.specs.Reading.{any_word}
use Rattle.program.proofs.NumberLaws.{number-of, any-fits}
use Rattle.program.proofs.FormLaws.{number_of_form}
use Rattle.rules.specs.State.{Res, reads}
use Rattle.rules.specs.Paths.{value_at}
use Rattle.rules.specs.Evaluation.{op_of, apply, at, same, evaluate_form, evaluate}
use Rattle.rules.specs.Rules.Operators.{Makes}
use Rattle.rules.specs.Rules.Expressions.{Literal, e_literal, e_path, e_operation, e_same, e_differ, Within}
use Rattle.rules.proofs.WordSteps.{at-got, by_number, by_word, form-words, form-is, apart}
use Rattle.rules.proofs.NameLaws.{holds-sound, holds-complete}
use Rattle.rules.proofs.OperatorLaws.{same_true, cell_same, same_false, cell-differs, makes-sound, makes-operator, makes-complete}

-- ---- what the definition answers, the rules derive

module _ (S : Cells) (d : ℕ) (go : List ℤ → Res (Value × List ℤ)) (ih : (q : List ℤ) (x : Value × List ℤ) → go q ≡ got x → Within S d q x.0 x.1) where
  form-sound : (f : Form) (p : List ℤ) (x : Value × List ℤ) → evaluate_form go S (pos (number_of_form f) ∷ p) f ≡ got x
      → Within S (suc d) (pos (number_of_form f) ∷ p) x.0 x.1
  unfolding evaluate_form
  form-sound a_nil p x e = rw (← got-inj e) (e_literal Literal.nil)
  form-sound a_false p x e = rw (← got-inj e) (e_literal Literal.no)
  form-sound a_true p x e = rw (← got-inj e) (e_literal Literal.yes)
  form-sound an_integer p x e =
      step (reads (any_word p)) _ e λ q e1 k1.
      by_word p q e1 λ w s.
      rw (← got-inj k1, s) (e_literal Literal.integer)
  form-sound a_path p x e = e_path (holds-sound S p x e)
  form-sound an_operation p x e =
      by_number 1 operators p _ (omega arith) e λ o q a b s k.
      step (go q) _ k λ y e2 k2.
      step (go y.1) _ k2 λ z e3 k3.
      step (at (pos 25 ∷ p) (apply (op_of o) y.0 z.0)) _ k3 λ v e4 k4.
      operation o q s y z v (ih q y e2) (ih y.1 z e3) (makes-sound v y.0 z.0 o a b (at-got (pos 25 ∷ p) (apply (op_of o) y.0 z.0) e4)) (got-inj k4)
    where
      operation : (o : ℕ) (q : List ℤ) → p ≡ pos o ∷ q → (y z : Value × List ℤ) (v : Value)
          → Within S d q y.0 y.1 → Within S d y.1 z.0 z.1 → Makes o y.0 z.0 v → (v, z.1) ≡ x
          → Within S (suc d) (pos 25 ∷ p) x.0 x.1
      operation o q s y z v l r m i = rw (s, ← i) (e_operation l r m)
  form-sound an_identity p x e =
      step (value_at S p) _ e λ y e1 k1.
      step (value_at S y.1) _ k1 λ z e2 k2.
      rw (← got-inj k2)
      (cases (same y.0 z.0)
      (λ c. rw c (e_same (holds-sound S p y e1) (holds-sound S y.1 z e2) (same_true y.0 z.0 c)))
      (λ c. rw c (e_differ (holds-sound S p y e1) (holds-sound S y.1 z e2) (same_false y.0 z.0 c))))
  form-sound no_form p x e = stop≢got e

  words-sound : (p p' : List ℤ) (f : Form) (x : Value × List ℤ) → p ≡ pos (number_of_form f) ∷ p' → evaluate_form go S p f ≡ got x → Within S (suc d) p x.0 x.1
  words-sound p p' f x w e = rw w (form-sound f p' x (rw w at e))

pub evaluate-sound : (S : Cells) (d : ℕ) (p : List ℤ) (x : Value × List ℤ) → evaluate d S p ≡ got x → Within S d p x.0 x.1
unfolding evaluate evaluate_form
evaluate-sound S zero p x e = stop≢got e
evaluate-sound S (suc d) p x e =
    words-sound S d (λ q. evaluate d S q) (λ q y h. evaluate-sound S d q y h) p (drop 1 p) (form_of (number_at p 0)) x
    (form-words p (λ q. stop≢got (rw q at e))) e

-- ---- what the rules derive, the definition answers

-- an expression that begins with the word of a form is evaluated by that form
pub evaluate-opens : (S : Cells) (d : ℕ) (f : Form) (p : List ℤ) → (f ≡ no_form → ⊥)
    → evaluate (suc d) S (pos (number_of_form f) ∷ p) ≡ evaluate_form (λ q. evaluate d S q) S (pos (number_of_form f) ∷ p) f
unfolding evaluate
evaluate-opens S d f p h = rw (number-first (pos (number_of_form f)) p, form-is f h)

pub evaluate-complete : {S : Cells} {d : ℕ} {p : List ℤ} {v : Value} {q : List ℤ} → Within S d p v q → evaluate d S p ≡ got (v, q)
unfolding evaluate_form
evaluate-complete {S} (e_literal {d = d} (Literal.nil {p = p})) = evaluate-opens S d a_nil p (apart λ z. omega arith)
evaluate-complete {S} (e_literal {d = d} (Literal.no {p = p})) = evaluate-opens S d a_false p (apart λ z. omega arith)
evaluate-complete {S} (e_literal {d = d} (Literal.yes {p = p})) = evaluate-opens S d a_true p (apart λ z. omega arith)
evaluate-complete {S} (e_literal {d = d} (Literal.integer {w = w} {p = p})) = evaluate-opens S d an_integer (w ∷ p) (apart λ z. omega arith) ∙ rw (any-fits (w ∷ p) (omega arith))
evaluate-complete {S} (e_path {d = d} {p = p} k) = evaluate-opens S d a_path p (apart λ z. omega arith) ∙ holds-complete S k
evaluate-complete {S} (e_operation {d = d} {o = o} {p = p} l r m) =
    evaluate-opens S d an_operation (pos o ∷ p) (apart λ z. omega arith)
    ∙ rw (number-of 1 operators o p (makes-operator m).0 (makes-operator m).1, evaluate-complete l, evaluate-complete r, makes-complete m)
evaluate-complete {S} (e_same {d = d} {a = a} {b = b} {p = p} k l e) =
    evaluate-opens S d an_identity p (apart λ z. omega arith) ∙ rw (holds-complete S k, holds-complete S l, cell_same a b e)
evaluate-complete {S} (e_differ {d = d} {a = a} {b = b} {p = p} k l e) =
    evaluate-opens S d an_identity p (apart λ z. omega arith) ∙ rw (holds-complete S k, holds-complete S l, cell-differs a b e)

-- an expression evaluates to v, with q after it, exactly where the rules derive it within the nesting
pub evaluate-iff : (d : ℕ) (S : Cells) (p : List ℤ) (v : Value) (q : List ℤ) → (evaluate d S p ≡ got (v, q)) ↔ Within S d p v q
evaluate-iff d S p v q = (evaluate-sound S d p (v, q), λ w. evaluate-complete w)
