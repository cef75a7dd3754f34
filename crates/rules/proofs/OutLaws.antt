-- Taking a run apart: what a piece that went on went through. Assumes nothing.
use mathlib.Core.Path.{◌≡◌, refl}
use Prim.Native.Nat.{ℕ}
use native.Mathlib.Omega.{arith}
use Rattle.rules.specs.Running.{Tally, Out, on, end, then_out}

pub end≢on {ℓ} : {X : Type ℓ} {n place : ℕ} {t u : Tally} → end n place t ≡ on u → X
end≢on e = absurd (let z : ◌≡◌ {A = ℕ} 0 1 = cc in omega arith)

pub on-inj : {t u : Tally} → on t ≡ on u → t ≡ u
on-inj e = cc

pub then-on {ℓ} : {X : Type ℓ} {t : Tally} (o : Out) (f : Tally → Out) → then_out o f ≡ on t → ((m : Tally) → o ≡ on m → f m ≡ on t → X) → X
then-on (on m) f e k = k m refl e
then-on (end n place m) f e k = end≢on e
