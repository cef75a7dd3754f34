-- What every answer of a list keeps to, and what holds wherever it stops. Assumes nothing.
use mathlib.Core.Path.{◌≡◌, refl, sym, ap, subst}
use Prim.Native.Nat.{ℕ, suc, ◌+◌, ◌≤◌}
use native.Mathlib.Omega.{arith}
use mathlib.Core.List.{List, [], ◌∷◌, Memᴰ as OneOf}
use lib.IntN.{ℤ, pos}
use Rattle.words.specs.Words.{number_of}
use Rattle.program.proofs.LengthLaws.{Part, part-refl, part-trans}
use Rattle.rules.specs.State.{State}
use Rattle.rules.specs.Statements.{Left}
use Rattle.rules.specs.Running.{Tally}
use Rattle.rules.specs.Start.{Ended}
use Rattle.rules.specs.Rules.Statements.{Steps}
use Rattle.rules.specs.Rules.Answers.{Unstarted, wrong, unreadable, unfit, broken}
use Rattle.rules.specs.Rules.Entries.{Sets, e_none, e_unfit, e_unpaid, e_refused, e_more, unstarted, started}
use Rattle.rules.specs.Claims.Entries.{Went, no_more, next, EntriesAnswers, EntriesStand}
use Rattle.rules.specs.Steps.Holds.{Holds}
use Rattle.rules.proofs.LeavesLaws.{formed-part}
use Rattle.rules.proofs.RunFacts.{unstarted-low}
use Rattle.rules.proofs.StandRules.{stands-iff}
use Rattle.rules.proofs.EntryRules.{entry-holds, passes-hold}
use Rattle.rules.proofs.EntrySteps.{entry-gave, numbers, there, entry-number}

-- the outcome of a list that began, by the steps after t: so many entries went through before it
pub record Ends (budget n outcome before steps : ℕ) : Type 0 where
  known : OneOf outcome numbers
  later : 1 ≤ outcome → 5 ≤ outcome
  counted : OneOf outcome (0 ∷ 5 ∷ 23 ∷ []) → steps ≡ before + n
  begins : 6 ≤ outcome → outcome ≤ 19 → steps ≡ suc (before + n)
  within : before ≤ budget → steps ≤ budget
  grown : before + n ≤ steps

pub record Facts (program : List ℤ) (budget i : ℕ) (p : List ℤ) (t : Tally) (e : Ended) : Type 0 where
  n : ℕ
  place : e.place ≡ i + n
  accepted : e.accepted ≡ t.accepted + n
  pub went : Went program n p t.state t.unread e.state e.unread
  ends : Ends budget n e.outcome t.steps e.steps
  part : Part t.unread e.unread
  holds : Holds program e.state

-- an accepted entry reads one proposal, whose words were the first
record One (program : List ℤ) (S : State) (ws : List ℤ) (l : Left) : Type 0 where
  accepted : l.accepted ≡ 1
  part : Part ws l.unread

one : {program : List ℤ} {S : State} {ws x : List ℤ} {l : Left} → Steps program S ws (pos 1 ∷ x) l → One program S ws l
one {ws = ws} s =
    let g = entry-gave s in
    record { accepted = ap (λ m. m.accepted) g.leaving; part = subst (λ (m : Left). Part ws m.unread) (sym g.leaving) (formed-part g.settles.formed) }

in_three : {n : ℕ} → OneOf n (0 ∷ 5 ∷ 23 ∷ []) → 6 ≤ n → n ≤ 19 → ⊥
in_three (OneOf.head e) a b = omega arith
in_three (OneOf.tail (OneOf.head e)) a b = omega arith
in_three (OneOf.tail (OneOf.tail (OneOf.head e))) a b = omega arith
in_three (OneOf.tail (OneOf.tail (OneOf.tail i))) a b = elim i [ ]

module _ (program : List ℤ) (budget : ℕ) where
  -- it ends here, before any entry
  ends-here : {i n steps : ℕ} (p : List ℤ) (t : Tally) → Holds program t.state → Ends budget 0 n t.steps steps
      → Facts program budget i p t (record { outcome = n; place = i; steps = steps; accepted = t.accepted; state = t.state; unread = t.unread; tests = t.tests })
  ends-here p t h e = record { n = 0; place = omega arith; accepted = omega arith; went = no_more; ends = e; part = part-refl t.unread; holds = h }

  pub facts : {i : ℕ} {p : List ℤ} {t : Tally} {e : Ended} → Sets program budget i p t e → Holds program t.state → Facts program budget i p t e
  facts (e_none {t = t}) h = ends-here [] t h (record {
    known = there 0 numbers (omega arith);
    later = λ a. absurd (omega arith);
    counted = λ o. omega arith;
    begins = λ a b. absurd (omega arith);
    within = λ a. a;
    grown = omega arith;
  })
  facts (e_unfit {w = w} {p = p} {t = t} n) h = ends-here (w ∷ p) t h (record {
    known = there 15 numbers (omega arith);
    later = λ a. omega arith;
    counted = λ o. omega arith;
    begins = λ a b. absurd (omega arith);
    within = λ a. a;
    grown = omega arith;
  })
  facts (e_unpaid {p = p} {t = t} x b) h = ends-here p t h (record {
    known = there 5 numbers (omega arith);
    later = λ a. omega arith;
    counted = λ o. omega arith;
    begins = λ a b. absurd (omega arith);
    within = λ a. a;
    grown = omega arith;
  })
  facts (e_refused {p = p} {t = t} x b r) h =
      let k = entry-number x.piece r in
      ends-here p t h (record {
        known = k.known;
        later = λ a. omega (arith, k.least);
        counted = λ o. absurd (in_three o k.least k.most);
        begins = λ a c. omega arith;
        within = λ a. b;
        grown = omega arith;
      })
  facts (e_more {t = t} {l = l} x b s r) h =
      let f = facts r (entry-holds program x.piece t.state t.unread h s) in
      let o = one s in
      record {
        n = suc f.n;
        place = omega (arith, f.place);
        accepted = omega (arith, f.accepted, o.accepted);
        went = next x s f.went;
        ends = record {
          known = f.ends.known;
          later = f.ends.later;
          counted = λ a. omega (arith, f.ends.counted a);
          begins = λ a c. omega (arith, f.ends.begins a c);
          within = λ a. f.ends.within b;
          grown = omega (arith, f.ends.grown);
        };
        part = part-trans o.part f.part;
        holds = f.holds;
      }

-- ---- the claims

early-known : {program : List ℤ} {budget : ℤ} {S : State} {n k : ℕ} → Unstarted program budget S n k → OneOf n numbers
early-known (wrong x) = there 1 numbers (omega arith)
early-known (unreadable x e) = there 2 numbers (omega arith)
early-known (unfit x y z) = there 3 numbers (omega arith)
early-known (broken x y z w) = there 4 numbers (omega arith)

pub entries-answers : EntriesAnswers
entries-answers program entries ws budget S e (unstarted u) =
    let low = unstarted-low u in
    record {
      known = early-known u;
      early = λ a b. (u, refl);
      went = λ k. absurd (let five = k low.0 in omega (arith, low.1));
      counted = λ o. refl;
      begun = λ a b. absurd (omega (arith, low.1));
      steps = omega arith;
      accepted = omega arith;
      unread = sym (part-refl ws).is;
    }
entries-answers program entries ws budget S e (started p r) =
    let f = facts program (number_of budget) r (passes-hold program budget S p) in
    let a : e.accepted ≡ f.n = omega (arith, f.accepted) in
    let b : e.place ≡ f.n = omega (arith, f.place) in
    record {
      known = f.ends.known;
      early = λ l h. absurd (let five = f.ends.later l in omega arith);
      went = λ k. (omega arith, rw (← b) at f.went);
      counted = λ o. omega (arith, f.ends.counted o);
      begun = λ l h. omega (arith, f.ends.begins l h);
      steps = f.ends.within (omega arith);
      accepted = omega (arith, f.ends.grown);
      unread = sym f.part.is;
    }

pub entries-stand : EntriesStand
entries-stand program entries ws budget S e later (unstarted u) = let low = unstarted-low u in absurd (let five = later low.0 in omega (arith, low.1))
entries-stand program entries ws budget S e later (started p r) = (stands-iff program e.state).0 (facts program (number_of budget) r (passes-hold program budget S p)).holds
