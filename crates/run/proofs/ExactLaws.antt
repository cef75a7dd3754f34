-- The numbers of every answer fit a word. Assumes nothing.
use mathlib.Core.Path.{◌≡◌, refl, sym}
use mathlib.Core.Bool.{true, false}
use mathlib.Core.List.{List, [], ◌∷◌, Memᴰ as OneOf}
use Prim.Native.Nat.{ℕ, ◌≤◌, ◌<◌}
use native.Mathlib.Omega.{arith}
use native.Mathlib.Decide.{dec_lt, ℕ_discrete}
use lib.IntN.{ℤ}
use lib.ListN.{length}
use Rattle.tables.specs.declared.Sort.{Sort}
use Rattle.tables.specs.declared.Sort.TheVariants.{Values, Identities}
use Rattle.program.specs.Where.{is_always, constraints_stand}
use Rattle.program.proofs.StandLaws.{always-is, stand-iff}
use Rattle.program.proofs.WhereLaws.{statement-past}
use Rattle.rules.specs.State.{State, positions}
use Rattle.rules.specs.Start.{Ended, run}
use Rattle.rules.specs.Rules.Proposals.{Each, none, more}
use Rattle.rules.specs.Rules.Kept.{in_order}
use Rattle.rules.specs.Rules.Answers.{TableFits, Unstarted, wrong, unreadable, unfit, broken, Passes, Answered, unstarted, finished, stopped}
use Rattle.rules.specs.Claims.Answers.{Answer}
use Rattle.rules.proofs.KeepLaws.{positions-iff}
use Rattle.rules.proofs.StandRules.{each_over, each-join}
use Rattle.rules.proofs.PlacedLaws.{first-each, inside-short, inner-or}
use Rattle.rules.proofs.RunFacts.{unread-places, answers}
use Rattle.rules.proofs.AnswerRules.{rules}

pub record Exact (e : Ended) : Type 0 where
  pub outcome : e.outcome < 2147483648
  pub place : e.place < 2147483648
  pub steps : e.steps < 2147483648
  pub accepted : e.accepted < 2147483648

-- ---- places of outcomes 1 to 4

inside_of : (program : List ℤ) (s : Sort) (k : ℕ) → is_always program s k ≡ true → k < length program
inside_of program s k e = go (dec_lt k (length program))
  where
    go : Dec (k < length program) → k < length program
    go (yes h) = h
    go (no h) = absurd (let z : false ≡ true = rw (always-is program s k, ← statement-past program k (omega arith)) at e in let y : ◌≡◌ {A = ℕ} 0 1 = cc in omega arith)

-- kept positions that stand are inside the program
positions-inside : (program : List ℤ) (S : State) (s : Sort) → constraints_stand program S.kept ≡ true → Each (λ k. k < length program) (positions S.kept s)
positions-inside program S s e = (positions-iff (λ k. k < length program) S.kept s).1 (λ i h. inside_of program s _ (((stand-iff program S.kept).0 e).1 s i h))

order-inside : (program : List ℤ) (S : State) → constraints_stand program S.kept ≡ true → Each (λ (x : Sort × ℕ). x.1 < length program) (in_order S.kept)
order-inside program S e = each-join (each_over _ (λ k h. h) (positions-inside program S Values e)) (each_over _ (λ k h. h) (positions-inside program S Identities e))

third : (program : List ℤ) (S : State) → Each (TableFits program S) (0 ∷ 1 ∷ 2 ∷ []) → constraints_stand program S.kept ≡ true
third program S (more a (more b (more c none))) = c

few : Each (λ k. k ≤ 2) (0 ∷ 1 ∷ 2 ∷ [])
few = more {x = 0} (omega arith) (more {x = 1} (omega arith) (more {x = 2} (omega arith) none))

pub early-small : {program : List ℤ} {budget : ℤ} {S : State} {n k : ℕ} → Unstarted program budget S n k → k < 2147483648
early-small (wrong x) = omega arith
early-small {program} {k = k} (unreadable x e) = omega (arith, (unread-places program k e).0)
early-small (unfit x p f) = omega (arith, first-each few f)
early-small {program} {S = S} (broken {k = k} x p t f) = let l : k < length program = first-each (order-inside program S (third program S t)) f in omega (arith, p.short)

-- ---- all numbers

module _ {program ws : List ℤ} {budget : ℤ} {S : State} {e : Ended} (a : Answer program ws budget S e) where
  placed : length program ≤ 4096 → Dec (4 < e.outcome) → Dec (e.outcome ≡ 0) → e.place < 2147483648
  placed b (yes h) d = go (inner-or e.outcome) (dec_lt e.place (length program))
    where
      go : Dec (OneOf e.outcome (7 ∷ 8 ∷ 9 ∷ 15 ∷ [])) → Dec (e.place < length program) → e.place < 2147483648
      go o (yes l) = omega arith
      go (yes o) (no l) = absurd (l (inside-short (a.inside o).1.1))
      go (no o) (no l) = absurd (a.at_statement h o (sym (statement-past program e.place (omega arith))))
  placed b (no h) (yes z) = omega (arith, a.finished z)
  placed b (no h) (no z) = early-small (a.early (omega arith) (omega arith)).0

passed : {program ws : List ℤ} {budget : ℤ} {S : State} {e : Ended} → Passes program budget S → Answer program ws budget S e → Exact e
passed {e = e} p a = record {
  outcome = omega (arith, a.known);
  place = placed a p.1.0.short (dec_lt 4 e.outcome) (ℕ_discrete e.outcome 0);
  steps = omega (arith, a.steps, p.0.few);
  accepted = omega (arith, a.steps, a.accepted, p.0.few);
}

exact-of : {program ws : List ℤ} {budget : ℤ} {S : State} {e : Ended} → Answered program ws budget S e → Answer program ws budget S e → Exact e
exact-of (unstarted {n = n} u) a = record { outcome = omega (arith, a.known); place = early-small u; steps = omega arith; accepted = omega arith }
exact-of (finished p r) a = passed p a
exact-of (stopped p r) a = passed p a

pub exact : (program ws : List ℤ) (budget : ℤ) (S : State) → Exact (run program ws budget S)
exact program ws budget S =
    let e = run program ws budget S in
    let a = (rules program ws budget S e).0 refl in
    exact-of a (answers program ws budget S e a)
