-- Both ways out of a reader at once: what holds where it answers, and what holds where it refuses. Assumes nothing.
use mathlib.Core.Path.{◌≡◌, refl, sym}
use mathlib.Core.Bool.{Bool, true, false}
use mathlib.Core.List.{List}
use lib.IntN.{ℤ}
use Rattle.words.specs.Answer.{Answer, got, stop, ◌>>=◌, ◌>>◌, want}
use Rattle.words.proofs.AnswerLaws.{got-inj, stop-inj, stop≢got}

-- G of an answer, S of the part at which m refuses
pub record Comes {A : Type 0} (G : A → Type 0) (S : List ℤ → Type 0) (m : Answer (List ℤ) A) : Type 0 where
  pub good : (a : A) → m ≡ got a → G a
  pub bad : (q : List ℤ) → m ≡ stop q → S q

module _ {A : Type 0} {G : A → Type 0} {S : List ℤ → Type 0} where
  pub comes-got : {a : A} → G a → Comes G S (got a)
  comes-got {a} g = record { good = λ b e. rw (← got-inj e) g; bad = λ q e. stop≢got (sym e) }

  pub comes-stop : {q : List ℤ} → S q → Comes G S (stop q)
  comes-stop {q} s = record { good = λ b e. stop≢got e; bad = λ r e. rw (← stop-inj e) s }

  -- a `do`
  pub comes-then : {B : Type 0} {H : B → Type 0} (m : Answer (List ℤ) A) (f : A → Answer (List ℤ) B)
      → Comes G S m → ((a : A) → G a → Comes H S (f a)) → Comes H S (m >>= f)
  comes-then (got a) f c k = k a (c.good a refl)
  comes-then (stop q) f c k = record { good = λ b e. stop≢got e; bad = λ r e. rw (← stop-inj e) (c.bad q refl) }

-- a test
pub comes-test : {B : Type 0} {H : B → Type 0} {S : List ℤ → Type 0} (p : List ℤ) (c : Bool) (r : Answer (List ℤ) B)
    → (c ≡ true → Comes H S r) → (c ≡ false → S p) → Comes H S (want p c >> r)
comes-test p true r g s = g refl
comes-test p false r g s = comes-stop (s refl)

-- what follows from both
pub comes-map : {A : Type 0} {G H : A → Type 0} {S T : List ℤ → Type 0} {m : Answer (List ℤ) A}
    → ((a : A) → G a → H a) → ((q : List ℤ) → S q → T q) → Comes G S m → Comes H T m
comes-map f g c = record { good = λ a e. f a (c.good a e); bad = λ q e. g q (c.bad q e) }
