-- L == L in the paper's own words: in fit tables it is true exactly where both sides hold one value. Assumes nothing.
use Rattle.std.specs.Prelude.{Some}
use mathlib.Core.Path.{◌≡◌, refl, sym, ap, ◌∙◌}
use mathlib.Core.Logic.{◌↔◌}
use mathlib.Core.Bool.{Bool, true, false}
use mathlib.Core.List.{List, ◌∷◌}
use Prim.Native.Nat.{ℕ, suc}
use native.Mathlib.Omega.{arith}
use lib.IntN.{ℤ, pos}
use Rattle.words.specs.Answer.{got}
use Rattle.words.proofs.AnswerLaws.{got-inj, step}
use Rattle.tables.specs.declared.Value.{Value}
use Rattle.tables.specs.declared.Value.TheVariants.{Nil, Bool as Truth, Int, Ref}
use Rattle.tables.specs.Values.{cell_of, Sound}
use Rattle.tables.specs.Cells.{Cells}
use Rattle.fit.specs.Fit.{Fit}
use Rattle.fit.proofs.FitLaws.{fit_count, fit-ref}
use Rattle.program.specs.declared.Form.TheVariants.{Identity as an_identity}
use Rattle.rules.specs.State.{slot_at}
use Rattle.rules.specs.Paths.{value_at}
use Rattle.rules.specs.Evaluation.{same, evaluate_form, evaluate}
use Rattle.rules.specs.Rules.Expressions.{Holds, holds, e_same, e_differ}
use Rattle.rules.specs.Steps.Evaluation.{OneValue, TwoValues}
use Rattle.rules.proofs.WordSteps.{apart}
use Rattle.rules.proofs.NameLaws.{holds-sound}
use Rattle.rules.proofs.OperatorLaws.{same_true, same_false, same-value}
use Rattle.rules.proofs.EvaluationLaws.{evaluate-opens, evaluate-complete}

module _ (S : Cells) (fit : Fit S) where
  -- what a cell of fit tables holds is a value that a cell can hold
  pub slot-sound : (l : ℕ) (v : Value) → slot_at S l ≡ Some v → Sound v
  unfolding slot_at
  slot-sound l Nil e = tt
  slot-sound l (Truth b) e = tt
  slot-sound l (Int n) e = tt
  slot-sound l (Ref r) e = omega (arith, fit-ref S fit l r e, fit_count S fit)

  pub held-sound : {p q : List ℤ} {v : Value} → Holds S p v q → Sound v
  held-sound (holds {w = w} {v = v} n e) = slot-sound w.cell v e

  module _ (d : ℕ) (p r : List ℤ) where
    abbrev Says : Bool → Type 0
    Says b = evaluate (suc d) S (pos 26 ∷ p) ≡ got (Truth b, r)

    -- both sides, from either answer
    parted {ℓ} : {X : Type ℓ} (b : Bool) → Says b → ((u v : Value) (q : List ℤ) → Holds S p u q → Holds S q v r → same u v ≡ b → X) → X
    unfolding evaluate_form
    parted b e k =
        step (value_at S p) _ (sym (evaluate-opens S d an_identity p (apart λ z. omega arith)) ∙ e) λ x e1 k1.
        step (value_at S x.1) _ k1 λ y e2 k2.
        let i : (Truth (same x.0 y.0), y.1) ≡ (Truth b, r) = got-inj k2 in
        let j : Truth (same x.0 y.0) ≡ Truth b = ap (λ (z : Value × List ℤ). z.0) i in
        let s : same x.0 y.0 ≡ b = cc in
        let t : y.1 ≡ r = ap (λ (z : Value × List ℤ). z.1) i in
        k x.0 y.0 x.1 (holds-sound S p x e1) (rw t at (holds-sound S x.1 y e2)) s

    -- E-IDENTITYTRUE
    pub identity-true : Says true ↔ OneValue S p r
    identity-true = (
      (λ e. parted true e λ u v q h k s.
          let i : u ≡ v = same-value u v (held-sound h) (held-sound k) (same_true u v s) in
          record { value = v; between = q; left = rw i at h; right = k }),
      (λ o. evaluate-complete (e_same o.left o.right refl)),
    )

    -- E-IDENTITYFALSE
    pub identity-false : Says false ↔ TwoValues S p r
    identity-false = (
      (λ e. parted false e λ u v q h k s.
          record { one = u; other = v; between = q; left = h; right = k; apart = λ i. same_false u v s (ap cell_of i) }),
      (λ o. evaluate-complete (e_differ o.left o.right
          (λ c. o.apart (same-value o.one o.other (held-sound o.left) (held-sound o.right) c)))),
    )
