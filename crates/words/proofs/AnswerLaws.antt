-- Taking an answer apart: what a `do` block that answered went through. Assumes nothing.
use mathlib.Core.Path.{◌≡◌, refl}
use Prim.Native.Nat.{ℕ}
use native.Mathlib.Omega.{arith}
use mathlib.Core.Bool.{Bool, true, false}
use Rattle.words.specs.Answer.{Answer, got, stop, ◌>>=◌, ◌>>◌, want}

pub stop≢got {ℓ} : {E A : Type 0} {X : Type ℓ} {e : E} {a : A} → ◌≡◌ {A = Answer E A} (stop e) (got a) → X
stop≢got h = absurd (let z : ◌≡◌ {A = ℕ} 0 1 = cc in omega arith)

pub got-inj : {E A : Type 0} {a b : A} → ◌≡◌ {A = Answer E A} (got a) (got b) → a ≡ b
got-inj e = cc

pub stop-inj : {E A : Type 0} {a b : E} → ◌≡◌ {A = Answer E A} (stop a) (stop b) → a ≡ b
stop-inj e = cc

-- a `do` block that answered: its first step answered `a`, and the rest, from `a`, answered `b`
pub step {ℓ} : {E A B : Type 0} {b : B} {X : Type ℓ} (m : Answer E A) (f : A → Answer E B) → (m >>= f) ≡ got b → ((a : A) → m ≡ got a → f a ≡ got b → X) → X
step (got a) f e k = k a refl e
step (stop n) f e k = stop≢got e

-- the same where the first step's answer is not used
pub step-on {ℓ} : {E A B : Type 0} {b : B} {X : Type ℓ} (m : Answer E A) (r : Answer E B) → (m >> r) ≡ got b → ((a : A) → m ≡ got a → r ≡ got b → X) → X
step-on (got a) r e k = k a refl e
step-on (stop n) r e k = stop≢got e

-- the same after a test
pub tested {ℓ} : {E B : Type 0} {b : B} {X : Type ℓ} (n : E) (c : Bool) (r : Answer E B) → (want n c >> r) ≡ got b → (c ≡ true → r ≡ got b → X) → X
tested n true r e k = k refl e
tested n false r e k = stop≢got e

-- either way out of a step, with its equation
pub either {ℓ} : {E A : Type 0} {X : Type ℓ} (m : Answer E A) → ((a : A) → m ≡ got a → X) → ((e : E) → m ≡ stop e → X) → X
either (got a) f g = f a refl
either (stop e) f g = g e refl

-- the same step, and what follows agrees wherever it answers
pub bind-cong : {E A B : Type 0} (m : Answer E A) (f g : A → Answer E B) → ((a : A) → m ≡ got a → f a ≡ g a) → (m >>= f) ≡ (m >>= g)
bind-cong (got a) f g h = h a refl
bind-cong (stop n) f g h = refl
