-- Evaluation, clause by clause, and the part that it leaves: the laws by which code knows it. Assumes nothing.
use mathlib.Core.Path.{◌≡◌, refl}
use mathlib.Core.Bool.{true, false}
use mathlib.Core.List.{List}
use Prim.Native.Nat.{ℕ, zero, suc, ◌-◌}
use native.Mathlib.Omega.{arith}
use native.Mathlib.Numerals.{sub-one}
use lib.IntN.{ℤ}
use lib.ListN.{drop}
use Rattle.words.specs.Words.{word_at, number_at}
use Rattle.words.specs.Answer.{got, ◌>>=◌}
use Rattle.words.proofs.AnswerLaws.{step, got-inj, stop≢got}
use Rattle.tables.specs.declared.Value.{Value}
use Rattle.tables.specs.declared.Value.TheVariants.{Nil, Bool as Truth, Int}
use Rattle.tables.specs.Cells.{Cells}
use Rattle.program.specs.Forms.{form_of}
use Rattle.program.specs.declared.Form.{Form}
use Rattle.program.specs.declared.Form.TheVariants.{Nil as a_nil, False as a_false, True as a_true, Integer as an_integer, Path as a_path, Operation as an_operation, Identity as an_identity, Unknown as no_form}
use Rattle.program.specs.Reading.{number, any_word}
use Rattle.program.proofs.NumberLaws.{number_read, any-read}
use Rattle.program.proofs.FormLaws.{number_of_form}
use Rattle.program.proofs.LengthLaws.{Part, part-drop, part-trans}
use Rattle.rules.specs.State.{Res, refuse, or_refuse, reads, slot_at, present}
use Rattle.rules.specs.Paths.{follow, Way, way_at, value_at}
use Rattle.rules.specs.Evaluation.{op_of, apply, at, same, evaluate_form, evaluate}
use Rattle.rules.proofs.WordSteps.{reads-got, form-is, apart}

-- ---- what is left is a part of what was there

pub way-part : (S : Cells) (p : List ℤ) (w : Way) → way_at S p ≡ got w → Part p w.rest
unfolding way_at
way-part S p w e =
    step (reads (number 0 63 p)) _ e λ x e1 k1.
    step (reads (number 0 7 x.1)) _ k1 λ y e2 k2.
    step (or_refuse 7 p (follow S y.0 x.0 y.1)) _ k2 λ z e3 k3.
    let a = number_read 0 63 p (reads-got (number 0 63 p) e1) in
    let b = number_read 0 7 x.1 (reads-got (number 0 7 x.1) e2) in
    let l : Part p x.1 = rw a.rest (part-drop 1 p) in
    let m : Part x.1 y.1 = rw b.rest (part-drop 1 x.1) in
    rw (← got-inj k3) (part-trans l (part-trans m (part-drop y.0 y.1)))

pub value-part : (S : Cells) (p : List ℤ) (x : Value × List ℤ) → value_at S p ≡ got x → Part p x.1
unfolding value_at
value-part S p x e =
    step (way_at S p) _ e λ w e1 k1.
    step (or_refuse 7 p (present (slot_at S w.cell))) _ k1 λ v e2 k2.
    rw (← got-inj k2) (way-part S p w e1)

module _ (S : Cells) (go : List ℤ → Res (Value × List ℤ)) (ih : (p : List ℤ) (x : Value × List ℤ) → go p ≡ got x → Part p x.1) where
  form-part : (p : List ℤ) (f : Form) (x : Value × List ℤ) → evaluate_form go S p f ≡ got x → Part p x.1
  unfolding evaluate_form
  form-part p a_nil x e = rw (← got-inj e) (part-drop 1 p)
  form-part p a_false x e = rw (← got-inj e) (part-drop 1 p)
  form-part p a_true x e = rw (← got-inj e) (part-drop 1 p)
  form-part p an_integer x e =
      step (reads (any_word (drop 1 p))) _ e λ q e1 k1.
      let a = any-read (drop 1 p) q (reads-got (any_word (drop 1 p)) e1) in
      rw (← got-inj k1) (part-trans (part-drop 1 p) (rw a.1 (part-drop 1 (drop 1 p))))
  form-part p a_path x e = part-trans (part-drop 1 p) (value-part S (drop 1 p) x e)
  form-part p an_operation x e =
      step (reads (number 1 11 (drop 1 p))) _ e λ o e1 k1.
      step (go o.1) _ k1 λ a e2 k2.
      step (go a.1) _ k2 λ b e3 k3.
      step (at p (apply (op_of o.0) a.0 b.0)) _ k3 λ v e4 k4.
      let n = number_read 1 11 (drop 1 p) (reads-got (number 1 11 (drop 1 p)) e1) in
      let l : Part (drop 1 p) o.1 = rw n.rest (part-drop 1 (drop 1 p)) in
      rw (← got-inj k4) (part-trans (part-drop 1 p) (part-trans l (part-trans (ih o.1 a e2) (ih a.1 b e3))))
  form-part p an_identity x e =
      step (value_at S (drop 1 p)) _ e λ a e1 k1.
      step (value_at S a.1) _ k1 λ b e2 k2.
      rw (← got-inj k2) (part-trans (part-drop 1 p) (part-trans (value-part S (drop 1 p) a e1) (value-part S a.1 b e2)))
  form-part p no_form x e = stop≢got e

pub evaluate-part : (S : Cells) (d : ℕ) (p : List ℤ) (x : Value × List ℤ) → evaluate d S p ≡ got x → Part p x.1
unfolding evaluate
evaluate-part S zero p x e = stop≢got e
evaluate-part S (suc d) p x e = form-part S (λ q. evaluate d S q) (λ q y h. evaluate-part S d q y h) p (form_of (number_at p 0)) x e

-- ---- the clauses

module _ (S : Cells) (d : ℕ) (p : List ℤ) where
  pub evaluate-deep : d ≡ 0 → evaluate d S p ≡ refuse 2 p
  unfolding evaluate
  evaluate-deep e = rw e

  opened : (e : ℕ) → (e ≡ 0 → ⊥) → evaluate_form (λ q. evaluate (e - 1) S q) S p (form_of (number_at p 0)) ≡ evaluate e S p
  unfolding evaluate
  opened zero ne = absurd (ne refl)
  opened (suc e) ne = rw (sub-one (suc e))

  module _ (ne : d ≡ 0 → ⊥) where
    by_form : (f : Form) → (f ≡ no_form → ⊥) → number_at p 0 ≡ number_of_form f → evaluate_form (λ q. evaluate (d - 1) S q) S p f ≡ evaluate d S p
    by_form f n e = rw (e, form-is f n) at (opened d ne)

    pub evaluate-nil : number_at p 0 ≡ 20 → got (Nil, drop 1 p) ≡ evaluate d S p
    unfolding evaluate_form
    evaluate-nil e = by_form a_nil (apart (omega arith)) e

    pub evaluate-false : number_at p 0 ≡ 21 → got (Truth false, drop 1 p) ≡ evaluate d S p
    unfolding evaluate_form
    evaluate-false e = by_form a_false (apart (omega arith)) e

    pub evaluate-true : number_at p 0 ≡ 22 → got (Truth true, drop 1 p) ≡ evaluate d S p
    unfolding evaluate_form
    evaluate-true e = by_form a_true (apart (omega arith)) e

    pub evaluate-integer : number_at p 0 ≡ 23 → (reads (any_word (drop 1 p)) >>= λ q. got (Int (word_at (drop 1 p) 0), q)) ≡ evaluate d S p
    unfolding evaluate_form
    evaluate-integer e = by_form an_integer (apart (omega arith)) e

    pub evaluate-path : number_at p 0 ≡ 24 → value_at S (drop 1 p) ≡ evaluate d S p
    unfolding evaluate_form
    evaluate-path e = by_form a_path (apart (omega arith)) e

    pub evaluate-operation : number_at p 0 ≡ 25
        → (reads (number 1 11 (drop 1 p)) >>= λ o. evaluate (d - 1) S o.1 >>= λ a. evaluate (d - 1) S a.1 >>= λ b. at p (apply (op_of o.0) a.0 b.0) >>= λ v. got (v, b.1)) ≡ evaluate d S p
    unfolding evaluate_form
    evaluate-operation e = by_form an_operation (apart (omega arith)) e

    pub evaluate-identity : number_at p 0 ≡ 26
        → (value_at S (drop 1 p) >>= λ a. value_at S a.1 >>= λ b. got (Truth (same a.0 b.0), b.1)) ≡ evaluate d S p
    unfolding evaluate_form
    evaluate-identity e = by_form an_identity (apart (omega arith)) e

    pub evaluate-none : form_of (number_at p 0) ≡ no_form → refuse 2 p ≡ evaluate d S p
    unfolding evaluate_form
    evaluate-none e = rw e at (opened d ne)
