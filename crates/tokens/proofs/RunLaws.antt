-- A text begins with a run of a class and goes on without it, in one way. Assumes nothing.
use mathlib.Core.Path.{◌≡◌, refl, sym, ap, subst, ◌∙◌}
use mathlib.Core.Bool.{Bool}
use mathlib.Core.List.{List, [], ◌∷◌, ◌++◌, append_assoc}
use Prim.Native.Nat.{ℕ, suc}
use borrow.Author.Tests.{eqb-true}
use lib.ListN.{length}
use Rattle.tokens.specs.Bytes.{run, is_named}
use Rattle.tokens.specs.Rules.{All, Over, Tail, is_question}
use Rattle.tokens.proofs.ByteLaws.{cases, run_none, run-here, run_on}

-- how long the run is
pub run_is : (p : ℕ → Bool) (s t : List ℕ) → All p s → Over p t → run p (s ++ t) ≡ length s
run_is p [] [] a o = run_none p
run_is p [] (b ∷ t) a (Over.other e) = run-here p b t e
run_is p (b ∷ s) t (All.more e a) o = run_on p b (s ++ t) e ∙ ap suc (run_is p s t a o)

-- the run of a text, and what follows it
pub record Split (p : ℕ → Bool) (s : List ℕ) : Type 0 where
  pub front : List ℕ
  pub back : List ℕ
  pub is : s ≡ front ++ back
  pub all : All p front
  pub over : Over p back

pub split : (p : ℕ → Bool) (s : List ℕ) → Split p s
split p [] = record { front = []; back = []; is = refl; all = All.none; over = Over.ended }
split p (b ∷ s) =
    cases (p b)
    (λ e. let r : Split p s = split p s in
    record { front = b ∷ r.front; back = r.back; is = ap (λ x. b ∷ x) r.is; all = All.more e r.all; over = r.over })
    (λ e. record { front = []; back = b ∷ s; is = refl; all = All.none; over = Over.other e })

-- ---- a name's bytes behind its first

pub record TailSplit (s : List ℕ) : Type 0 where
  pub front : List ℕ
  pub back : List ℕ
  pub is : s ≡ front ++ back
  pub tail : Tail front back

by-question : (a s : List ℕ) → All is_named a → Over is_named s → TailSplit (a ++ s)
by-question a [] all over = record { front = a; back = []; is = refl; tail = Tail.plain all over Over.ended }
by-question a (b ∷ s) all over =
    cases (is_question b)
    (λ e. let h : b ≡ 63 = eqb-true b 63 e in
    record { front = a ++ 63 ∷ []; back = s; is = rw h (sym (append_assoc a (63 ∷ []) s)); tail = Tail.asked all })
    (λ e. record { front = a; back = b ∷ s; is = refl; tail = Tail.plain all over (Over.other e) })

pub tail-split : (s : List ℕ) → TailSplit s
tail-split s = let r : Split is_named s = split is_named s in subst TailSplit (sym r.is) (by-question r.front r.back r.all r.over)
