-- Expressions have alike values in two states of one structure, where both answer.
-- Assumes nothing.
use mathlib.Core.Path.{◌≡◌, refl, sym, ◌∙◌}
use mathlib.Core.Bool.{Bool}
use mathlib.Core.List.{List}
use Prim.Native.Nat.{ℕ, zero, suc}
use lib.IntN.{ℤ}
use lib.ListN.{drop}
use Rattle.words.specs.Words.{number_at}
use Rattle.words.specs.Range.{fits}
use Rattle.words.specs.Answer.{Answer, got}
use Rattle.words.proofs.AnswerLaws.{stop≢got, got-inj, step, tested}
use Rattle.tables.specs.declared.Value.{Value}
use Rattle.tables.specs.declared.Value.TheVariants.{Bool as Truth}
use Rattle.tables.specs.Cells.{Cells}
use Rattle.program.specs.Forms.{operators, form_of}
use Rattle.program.specs.declared.Form.{Form}
use Rattle.program.specs.declared.Form.TheVariants.{Nil as a_nil, False as a_false, True as a_true, Integer as an_integer, Path as a_path, Operation as an_operation, Identity as an_identity, Unknown as no_form}
use Rattle.program.specs.Reading.{number, any_word}
use Rattle.program.specs.declared.Operator.{Operator}
use Rattle.program.specs.declared.Operator.TheVariants.{Plus, Minus, Times, Below, AtMost, Equal, Unequal, AtLeast, Above, And, Or, Unknown}
use Rattle.rules.specs.State.{Res, reads}
use Rattle.rules.specs.Paths.{value_at}
use Rattle.rules.specs.Evaluation.{op_of, takes, kind_of, ranged, made, apply, at, evaluate_form, evaluate}
use Rattle.rules.specs.Structure.{Same}
use Rattle.rules.proofs.Structure.{Alike, nils, truths, ints}
use Rattle.rules.proofs.WordSteps.{at-got}
use Rattle.rules.proofs.SamePaths.{Both, answers, refuses, value-both}

-- two answers: alike values, with the same part after them
abbrev pub Near : Value × List ℤ → Value × List ℤ → Type 0
Near x y = Alike x.0 y.0 × (x.1 ≡ y.1)

pub both-near : {m n : Res (Value × List ℤ)} {x y : Value × List ℤ} → Both m n → m ≡ got x → n ≡ got y → Near x y
both-near (answers a) e g = rw (← got-inj e, ← got-inj g) (a, refl)
both-near refuses e g = stop≢got e

-- ---- operators

ranged-both : (y z : ℤ) {v w : Value} → ranged y ≡ got v → ranged z ≡ got w → Alike v w
unfolding ranged
ranged-both y z e g =
    tested 9 (fits y) _ e λ c k.
    tested 9 (fits z) _ g λ d m.
    rw (← got-inj k, ← got-inj m) ints

truth-both : (y z : Bool) {v w : Value} → ◌≡◌ {A = Answer ℕ Value} (got (Truth y)) (got v) → ◌≡◌ {A = Answer ℕ Value} (got (Truth z)) (got w) → Alike v w
truth-both y z e g = rw (← got-inj e, ← got-inj g) truths

-- the kind of an operator's result is its own
made-both : (o : Operator) (a b c d : Value) {v w : Value} → made o a b ≡ got v → made o c d ≡ got w → Alike v w
unfolding made
made-both Plus a b c d e g = ranged-both _ _ e g
made-both Minus a b c d e g = ranged-both _ _ e g
made-both Times a b c d e g = ranged-both _ _ e g
made-both Below a b c d e g = truth-both _ _ e g
made-both AtMost a b c d e g = truth-both _ _ e g
made-both Equal a b c d e g = truth-both _ _ e g
made-both Unequal a b c d e g = truth-both _ _ e g
made-both AtLeast a b c d e g = truth-both _ _ e g
made-both Above a b c d e g = truth-both _ _ e g
made-both And a b c d e g = truth-both _ _ e g
made-both Or a b c d e g = truth-both _ _ e g
made-both Unknown a b c d e g = stop≢got e

apply-both : (o : Operator) (a b c d : Value) {v w : Value} → apply o a b ≡ got v → apply o c d ≡ got w → Alike v w
unfolding apply
apply-both o a b c d e g =
    tested 8 (takes o (kind_of a) (kind_of b)) _ e λ x k.
    tested 8 (takes o (kind_of c) (kind_of d)) _ g λ y m.
    made-both o a b c d k m

-- ---- expressions

module _ (S Z : Cells) (s : Same S Z) where
  module _ (go no : List ℤ → Res (Value × List ℤ)) (ih : (q : List ℤ) (x y : Value × List ℤ) → go q ≡ got x → no q ≡ got y → Near x y) where
    form-near : (p : List ℤ) (f : Form) (x y : Value × List ℤ) → evaluate_form go S p f ≡ got x → evaluate_form no Z p f ≡ got y → Near x y
    unfolding evaluate_form
    form-near p a_nil x y e g = rw (← got-inj e, ← got-inj g) (nils, refl)
    form-near p a_false x y e g = rw (← got-inj e, ← got-inj g) (truths, refl)
    form-near p a_true x y e g = rw (← got-inj e, ← got-inj g) (truths, refl)
    form-near p an_integer x y e g =
        step (reads (any_word (drop 1 p))) _ e λ q e1 k1.
        step (reads (any_word (drop 1 p))) _ g λ r g1 m1.
        rw (← got-inj k1, ← got-inj m1) (ints, got-inj (sym e1 ∙ g1))
    form-near p a_path x y e g = both-near (value-both S Z s (drop 1 p)) e g
    form-near p an_operation x y e g =
        step (reads (number 1 operators (drop 1 p))) _ e λ o e1 k1.
        step (go o.1) _ k1 λ a e2 k2.
        step (go a.1) _ k2 λ b e3 k3.
        step (at p (apply (op_of o.0) a.0 b.0)) _ k3 λ v e4 k4.
        step (reads (number 1 operators (drop 1 p))) _ g λ u g1 m1.
        step (no u.1) _ m1 λ c g2 m2.
        step (no c.1) _ m2 λ d g3 m3.
        step (at p (apply (op_of u.0) c.0 d.0)) _ m3 λ w g4 m4.
        let q : o ≡ u = got-inj (sym e1 ∙ g1) in
        let l = ih o.1 a c e2 (rw q g2) in
        let r = ih a.1 b d e3 (rw l.1 g3) in
        rw (← got-inj k4, ← got-inj m4)
        (apply-both (op_of o.0) a.0 b.0 c.0 d.0 (at-got p _ e4) (rw q (at-got p _ g4)), r.1)
    form-near p an_identity x y e g =
        step (value_at S (drop 1 p)) _ e λ a e1 k1.
        step (value_at S a.1) _ k1 λ b e2 k2.
        step (value_at Z (drop 1 p)) _ g λ c g1 m1.
        step (value_at Z c.1) _ m1 λ d g2 m2.
        let l = both-near (value-both S Z s (drop 1 p)) e1 g1 in
        let r = both-near {x = b} {y = d} (value-both S Z s a.1) e2 (rw l.1 g2) in
        rw (← got-inj k2, ← got-inj m2) (truths, r.1)
    form-near p no_form x y e g = stop≢got e

  -- an expression that has a value in both states has alike values
  pub evaluate-near : (d : ℕ) (p : List ℤ) (x y : Value × List ℤ) → evaluate d S p ≡ got x → evaluate d Z p ≡ got y → Near x y
  unfolding evaluate
  evaluate-near zero p x y e g = stop≢got e
  evaluate-near (suc d) p x y e g =
      form-near (λ q. evaluate d S q) (λ q. evaluate d Z q) (λ q u w i j. evaluate-near d q u w i j) p (form_of (number_at p 0)) x y e g
