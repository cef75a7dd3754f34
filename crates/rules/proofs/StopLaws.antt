-- Taking a refusal apart: where a `do` block that stopped did so, and with which refusal. Assumes nothing.
use mathlib.Core.Path.{◌≡◌, refl, sym, ap}
use mathlib.Core.Bool.{Bool, true, false}
use mathlib.Core.List.{List, ◌∷◌}
use Prim.Native.Nat.{ℕ, ◌<◌, ◌≤◌}
use lib.IntN.{ℤ, pos}
use Rattle.words.specs.Answer.{Answer, got, stop, ◌>>=◌, ◌>>◌, want}
use Rattle.words.proofs.AnswerLaws.{stop-inj, stop≢got}
use Rattle.program.specs.Reading.{Reading, number}
use Rattle.program.proofs.NumberLaws.{IsNumber, number_read, number_is}
use Rattle.rules.specs.State.{Fault, Res, refused, refuse, or_refuse, reads}
use Rattle.rules.specs.Evaluation.{at}
use Rattle.rules.proofs.WordSteps.{reads-got}

-- the number that a refusal has
pub refused-with : {A : Type 0} {f : Fault} (n : ℕ) (p : List ℤ) → ◌≡◌ {A = Res A} (refuse n p) (stop f) → f.number ≡ n
refused-with n p e = sym (ap (λ (g : Fault). g.number) (stop-inj e))

-- ---- a `do` block stops where its first step does

module _ {A B : Type 0} {f : Fault} where
  pub stops_then : {m : Res A} (g : A → Res B) → m ≡ stop f → (m >>= g) ≡ stop f
  stops_then g s = rw s

  pub stops-on : {m : Res A} (r : Res B) → m ≡ stop f → (m >> r) ≡ stop f
  stops-on r s = rw s

pub stops_at : {A : Type 0} {m : Answer ℕ A} {n : ℕ} (p : List ℤ) → m ≡ stop n → at p m ≡ refuse n p
stops_at p e = rw e

-- ---- where a `do` block stopped

module _ {ℓ} {A B : Type 0} {f : Fault} {X : Type ℓ} where
  -- its first step stopped, or the rest of it
  pub stopped : (m : Res A) (g : A → Res B) → (m >>= g) ≡ stop f → (m ≡ stop f → X) → ((a : A) → m ≡ got a → g a ≡ stop f → X) → X
  stopped (got a) g e x y = y a refl e
  stopped (stop h) g e x y = x (ap stop (stop-inj e))

  pub stopped-on : (m : Res A) (r : Res B) → (m >> r) ≡ stop f → (m ≡ stop f → X) → ((a : A) → m ≡ got a → r ≡ stop f → X) → X
  stopped-on (got a) r e x y = y a refl e
  stopped-on (stop h) r e x y = x (ap stop (stop-inj e))

module _ {ℓ} {B : Type 0} {f : Fault} {X : Type ℓ} where
  -- a test failed, or the rest stopped
  pub failed : (h : Fault) (c : Bool) (r : Res B) → (want h c >> r) ≡ stop f → (c ≡ false → h ≡ f → X) → (c ≡ true → r ≡ stop f → X) → X
  failed h true r e x y = y refl e
  failed h false r e x y = x refl (stop-inj e)

  -- what is missing
  pub missed : {E : Type 0} (n : ℕ) (p : List ℤ) (m : Answer E B) → or_refuse n p m ≡ stop f → ((e : E) → m ≡ stop e → refused n p ≡ f → X) → X
  missed n p (got a) e k = stop≢got (sym e)
  missed n p (stop u) e k = k u refl (stop-inj e)

  pub at-stop : (p : List ℤ) (m : Answer ℕ B) → at p m ≡ stop f → ((n : ℕ) → m ≡ stop n → refused n p ≡ f → X) → X
  at-stop p (got a) e k = stop≢got (sym e)
  at-stop p (stop n) e k = k n refl (stop-inj e)

-- a test at the end
pub failed-last {ℓ} : {f : Fault} {X : Type ℓ} (h : Fault) (c : Bool) → want h c ≡ stop f → (c ≡ false → h ≡ f → X) → X
failed-last h true e k = stop≢got (sym e)
failed-last h false e k = k refl (stop-inj e)

-- words that do not read stop with 2
pub unread : {A : Type 0} {f : Fault} (m : Reading A) → reads m ≡ stop f → f.number ≡ 2
unread (got a) e = stop≢got (sym e)
unread (stop q) e = sym (ap (λ (g : Fault). g.number) (stop-inj e))

-- a number was read, if not with 2, and the rest stopped
pub stopped-number {ℓ} : {B : Type 0} {f : Fault} {X : Type ℓ} (low high : ℕ) (p : List ℤ) (g : ℕ × List ℤ → Res B) → high < 2147483648
    → (reads (number low high p) >>= g) ≡ stop f → (f.number ≡ 2 → ⊥)
    → ((n : ℕ) (r : List ℤ) → low ≤ n → n ≤ high → p ≡ pos n ∷ r → g (n, r) ≡ stop f → X) → X
stopped-number low high p g h e two k =
    stopped (reads (number low high p)) g e
    (λ e1. absurd (two (unread (number low high p) e1)))
    (λ x e1 k1.
    let i : IsNumber low high p x.0 x.1 = number_read low high p (reads-got (number low high p) e1) in
    k x.0 x.1 i.least i.most (number_is h i) k1)
