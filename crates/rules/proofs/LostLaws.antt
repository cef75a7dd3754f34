-- Paths that lead nowhere: `way_at` and `value_at` stop with 7 exactly where the rules say so. Assumes nothing.
use Rattle.std.specs.Prelude.{None, Option, Some}
use mathlib.Core.Path.{◌≡◌, refl, sym, ◌∙◌}
use mathlib.Core.List.{List, ◌∷◌}
use Prim.Native.Nat.{◌-◌}
use native.Mathlib.Omega.{arith}
use lib.IntN.{ℤ, pos}
use Rattle.words.specs.Answer.{stop}
use Rattle.words.proofs.AnswerLaws.{stop≢got, either}
use Rattle.tables.specs.Sizes.{variables}
use Rattle.tables.specs.Cells.{Cells}
use Rattle.program.specs.Forms.{most_steps}
use Rattle.program.proofs.NumberLaws.{number-of}
use Rattle.rules.specs.State.{Fault, refused, refuse, or_refuse, slot_at, present}
use Rattle.rules.specs.Paths.{follow, way_at, value_at}
use Rattle.rules.specs.Rules.Expressions.{Astray, astray, Lost, nowhere, absent}
use Rattle.rules.proofs.NameLaws.{follow-sound, leads-complete, names-iff}
use Rattle.rules.proofs.StopLaws.{stops_then, stopped, missed, stopped-number}
use Rattle.tables.specs.declared.Value.{Value}

present-stop : {u : Unit {0}} (s : Option Value) → present s ≡ stop u → s ≡ None
present-stop (Some v) e = stop≢got (sym e)
present-stop None e = refl

module _ (S : Cells) where
  pub astray-sound : (p : List ℤ) (f : Fault) → way_at S p ≡ stop f → (f.number ≡ 2 → ⊥) → (refused 7 p ≡ f) × Astray S p
  unfolding way_at
  astray-sound p f e two =
      stopped-number 0 (variables - 1) p _ (omega arith) e two λ x q a b s k.
      stopped-number 0 most_steps q _ (omega arith) k two λ n r c d t j.
      stopped (or_refuse 7 p (follow S n x r)) _ j
      (λ e1. missed 7 p (follow S n x r) e1 λ u e2 i.
      (i, rw (s, t) (astray {x = x} (omega arith) d (λ to prefix l. stop≢got (sym e2 ∙ leads-complete S l)))))
      (λ y e1 k1. stop≢got (sym k1))

  pub astray-complete : {p : List ℤ} → Astray S p → way_at S p ≡ refuse 7 p
  unfolding way_at
  astray-complete (astray {x = x} {n = n} {p = p} a b never) =
      rw (number-of 0 (variables - 1) x (pos n ∷ p) (omega arith) (omega arith), number-of 0 most_steps n p (omega arith) b)
      (either (follow S n x p)
      (λ y e. absurd (never y.0 y.1 (follow-sound S n x p y e)))
      (λ u e. rw e))

  pub lost-sound : (p : List ℤ) (f : Fault) → value_at S p ≡ stop f → (f.number ≡ 2 → ⊥) → (refused 7 p ≡ f) × Lost S p
  unfolding value_at
  lost-sound p f e two =
      stopped (way_at S p) _ e
      (λ e1. let a = astray-sound p f e1 two in (a.0, nowhere a.1))
      (λ w e1 k1. stopped (or_refuse 7 p (present (slot_at S w.cell))) _ k1
      (λ e2. missed 7 p (present (slot_at S w.cell)) e2 λ u e3 i.
      (i, absent ((names-iff S p w).0 e1) (present-stop (slot_at S w.cell) e3)))
      (λ v e2 k2. stop≢got (sym k2)))

  pub lost-complete : {p : List ℤ} → Lost S p → value_at S p ≡ refuse 7 p
  unfolding value_at
  lost-complete (nowhere a) = stops_then _ (astray-complete a)
  lost-complete (absent {w = w} {p = p} n e) = rw ((names-iff S p w).1 n, e)
