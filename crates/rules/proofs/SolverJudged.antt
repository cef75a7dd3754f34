-- What each of the two slices comes to alone, and what both come to by it. Assumes nothing.
use mathlib.Core.Path.{◌≡◌, refl, sym, ap, ◌∙◌}
use mathlib.Core.Logic.{◌⊎◌, inl, inr}
use Prim.Native.Nat.{ℕ}
use native.Mathlib.Omega.{arith}
use mathlib.Core.List.{List, Memᴰ as OneOf}
use lib.IntN.{ℤ, pos}
use Rattle.words.specs.Words.{number_of}
use Rattle.words.proofs.AnswerLaws.{stop-inj, stop≢got, either}
use Rattle.rules.specs.State.{State, Fault}
use Rattle.rules.specs.Statements.{Left}
use Rattle.rules.specs.Solvers.{Given, alone, turns_down}
use Rattle.rules.specs.Rules.Statements.{Refused}
use Rattle.rules.specs.Rules.Answers.{Passes}
use Rattle.rules.specs.Rules.Solvers.{Named, Accepts, turning, TurnsDown, accepted, Tries, t_first, t_second, t_both, t_no_second, t_refused}
use Rattle.rules.specs.Claims.Solvers.{Alone, SolversAlone, SolversJudged}
use Rattle.rules.proofs.PlacedLaws.{refused-placed, placed-range}
use Rattle.rules.proofs.EntryRules.{passes-hold}
use Rattle.rules.proofs.SolverSteps.{named-stands, not-turning, Comes, own-always, turned-number, asks-comes}
use Rattle.rules.proofs.SolverRules.{Stops, accepts-comes, alone-accepts, alone-refuses, never-own, tries-rule, asked-tries}

-- 0 is none of the numbers that turn a proposal down
not-zero : {n : ℕ} → OneOf n turning → n ≡ 0 → ⊥
unfolding turns_down
not-zero o e = not-turning {n = 0} refl (rw e at o)

module _ (program : List ℤ) (word : ℤ) (S : State) (p : List ℤ) (pass : Passes program (pos 0) S) (n : Named program word p) where
  -- where it came to its proposal, a slice is accepted or turned down
  comes-judged : (ws : List ℤ) → Comes program S p → Alone program S p ws ⊎ ((f : Fault) × TurnsDown program S p ws f)
  comes-judged ws c = either (alone program (number_of word) S ws)
      (λ l e. inl (l, (alone-accepts program word S p pass n ws l).0 e))
      (λ f e. inr (f, turned ((alone-refuses program word S p pass n ws f).0 e)))
    where
      turned : {f : Fault} → Stops program S p ws f → TurnsDown program S p ws f
      turned (inl t) = t
      turned (inr x) = absurd (never-own program word S p pass n c x.0 x.1)

  never_both : {ws : List ℤ} {l : Left} {f : Fault} → Accepts program S p ws l → TurnsDown program S p ws f → ⊥
  never_both {ws} {l} {f} a t = stop≢got (sym ((alone-refuses program word S p pass n ws f).1 (inl t)) ∙ (alone-accepts program word S p pass n ws l).1 a)

  one_number : {ws : List ℤ} {f g : Fault} → TurnsDown program S p ws f → TurnsDown program S p ws g → f ≡ g
  one_number {ws} {f} {g} t u = stop-inj (sym ((alone-refuses program word S p pass n ws f).1 (inl t)) ∙ (alone-refuses program word S p pass n ws g).1 (inl u))

  refused-not-zero : {ws : List ℤ} {f : Fault} → Refused program S ws p f → f.number ≡ 0 → ⊥
  refused-not-zero r e =
      let x = placed-range (refused-placed program pass.1.0 S (passes-hold program (pos 0) S pass) (named-stands pass.1.0 n).here r) in
      omega (arith, x.0)

  -- ---- with both

  module _ (first second : List ℤ) {e : Given} (t : Tries program word first second S p e) where
    only : {x : Given} → Tries program word first second S p x → e ≡ x
    only {x} u = sym ((tries-rule program word S p pass n first second e).1 t) ∙ (tries-rule program word S p pass n first second x).1 u

    second-takes : (l : Left) → (Alone program S p first → ⊥) → Accepts program S p second l → e ≡ accepted word 2 second l.state
    second-takes l none a = go (comes-judged first (accepts-comes program word S p pass n a))
      where
        go : Alone program S p first ⊎ ((f : Fault) × TurnsDown program S p first f) → e ≡ accepted word 2 second l.state
        go (inl b) = absurd (none b)
        go (inr x) = only (t_second x.1 a)

    accepts : Alone program S p first ⊎ Alone program S p second → e.outcome ≡ 0
    accepts (inl a) = ap (λ x. x.outcome) (only (t_first a.1))
    accepts (inr a) = go (comes-judged first (accepts-comes program word S p pass n a.1))
      where
        go : Alone program S p first ⊎ ((f : Fault) × TurnsDown program S p first f) → e.outcome ≡ 0
        go (inl b) = ap (λ x. x.outcome) (only (t_first b.1))
        go (inr x) = ap (λ x. x.outcome) (only (t_second x.1 a.1))

  accepted-by : {first second : List ℤ} {e : Given} → Tries program word first second S p e → e.outcome ≡ 0 → Alone program S p first ⊎ Alone program S p second
  accepted-by (t_first {l = l} a) z = inl (l, a)
  accepted-by (t_second {l = l} t a) z = inr (l, a)
  accepted-by (t_both t u h) z = absurd (not-zero (turned-number u) z)
  accepted-by (t_no_second t h) z = absurd (not-zero (turned-number t) z)
  accepted-by (t_refused r h) z = absurd (refused-not-zero r z)

pub solvers-judged : SolversJudged
solvers-judged program word S p ws pass n = record {
  some = λ a. comes-judged program word S p pass n ws (asks-comes a);
  never_both = λ a t. never_both program word S p pass n a t;
  one_number = λ t u. one_number program word S p pass n t u;
  by_itself = own-always;
}

pub solvers-alone : SolversAlone
solvers-alone program word first second S p e pass n a =
    let t = asked-tries pass n a in
    record {
      either = (accepted-by program word S p pass n t, accepts program word S p pass n first second t);
      by_first = λ l b. only program word S p pass n first second t (t_first b);
      by_second = second-takes program word S p pass n first second t;
    }
