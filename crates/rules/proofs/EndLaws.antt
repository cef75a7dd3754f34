-- Both ways out of a step at once: what holds of its answer, and what holds of the number of its refusal. Assumes nothing.
use mathlib.Core.Path.{◌≡◌, refl, sym}
use Prim.Native.Nat.{ℕ}
use mathlib.Core.Bool.{Bool, true, false}
use mathlib.Core.List.{List}
use lib.IntN.{ℤ}
use Rattle.words.specs.Answer.{Answer, got, stop, ◌>>=◌, ◌>>◌, want}
use Rattle.words.proofs.AnswerLaws.{got-inj, stop-inj, stop≢got}
use Rattle.program.specs.Reading.{Reading}
use Rattle.rules.specs.State.{Res, or_refuse, reads}
use Rattle.rules.specs.Evaluation.{at}

-- G of an answer, P of a refusal
pub record Ends {E A : Type 0} (G : A → Type 0) (P : E → Type 0) (m : Answer E A) : Type 0 where
  pub good : (a : A) → m ≡ got a → G a
  pub bad : (e : E) → m ≡ stop e → P e

module _ {E A : Type 0} {G : A → Type 0} {P : E → Type 0} where
  pub ends-got : {a : A} → G a → Ends G P (got a)
  ends-got g = record { good = λ b e. rw (← got-inj e) g; bad = λ f e. stop≢got (sym e) }

  pub ends-stop : {f : E} → P f → Ends G P (stop f)
  ends-stop s = record { good = λ b e. stop≢got e; bad = λ r e. rw (← stop-inj e) s }

  -- a `do`
  pub ends-then : {B : Type 0} {H : B → Type 0} (m : Answer E A) (f : A → Answer E B)
      → Ends G P m → ((a : A) → G a → Ends H P (f a)) → Ends H P (m >>= f)
  ends-then (got a) f c k = k a (c.good a refl)
  ends-then (stop q) f c k = record { good = λ b e. stop≢got e; bad = λ r e. rw (← stop-inj e) (c.bad q refl) }

  pub ends_on : {B : Type 0} {H : B → Type 0} (m : Answer E A) (r : Answer E B) → Ends G P m → Ends H P r → Ends H P (m >> r)
  ends_on (got a) r c k = k
  ends_on (stop q) r c k = record { good = λ b e. stop≢got e; bad = λ r e. rw (← stop-inj e) (c.bad q refl) }

-- a test
pub ends-want : {E B : Type 0} {H : B → Type 0} {P : E → Type 0} (f : E) (c : Bool) (r : Answer E B)
    → P f → (c ≡ true → Ends H P r) → Ends H P (want f c >> r)
ends-want f true r s g = g refl
ends-want f false r s g = ends-stop s

-- the same where the refusal is met only if the test can fail
pub ends-room : {E B : Type 0} {H : B → Type 0} {P : E → Type 0} (f : E) (c : Bool) (r : Answer E B)
    → (c ≡ false → P f) → Ends H P r → Ends H P (want f c >> r)
ends-room f true r s g = g
ends-room f false r s g = ends-stop (s refl)

pub ends-test : {E : Type 0} {P : E → Type 0} (f : E) (c : Bool) → P f → Ends (λ u. c ≡ true) P (want f c)
ends-test f true s = ends-got refl
ends-test f false s = ends-stop s

-- a refusal by its number alone
abbrev pub Fine : {A : Type 0} → (ℕ → Type 0) → (A → Type 0) → Res A → Type 0
Fine P G m = Ends G (λ f. P f.number) m

abbrev pub Any : {A : Type 0} → A → Type 0
Any a = Unit {0}

-- what comes from below, with the equation of its answer
module _ {A : Type 0} (P : ℕ → Type 0) where
  pub fine-refused : {E : Type 0} (n : ℕ) (p : List ℤ) (m : Answer E A) → P n → Fine P (λ a. m ≡ got a) (or_refuse n p m)
  fine-refused n p (got a) s = ends-got refl
  fine-refused n p (stop e) s = ends-stop s

  pub fine-reads : (m : Reading A) → P 2 → Fine P (λ a. m ≡ got a) (reads m)
  fine-reads (got a) s = ends-got refl
  fine-reads (stop e) s = ends-stop s

  pub fine-at : {G : A → Type 0} (p : List ℤ) (m : Answer ℕ A) → Ends G P m → Fine P G (at p m)
  fine-at p (got a) c = ends-got (c.good a refl)
  fine-at p (stop n) c = ends-stop (c.bad n refl)

pub ends-any : {E A : Type 0} {P : E → Type 0} {G : A → Type 0} {m : Answer E A} → Ends G P m → Ends Any P m
ends-any c = record { good = λ a e. tt; bad = c.bad }
