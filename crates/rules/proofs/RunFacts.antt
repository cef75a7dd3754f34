-- What every answer of a run keeps to. Assumes nothing.
use mathlib.Core.Path.{◌≡◌, refl, sym, ◌∙◌}
use Prim.Native.Nat.{ℕ, ◌≤◌, ◌<◌}
use native.Mathlib.Omega.{arith}
use native.Mathlib.Decide.{dec_lt}
use mathlib.Core.List.{List}
use lib.IntN.{ℤ}
use lib.ListN.{length}
use Rattle.std.specs.Prelude.{None}
use Rattle.words.specs.Words.{number_of}
use Rattle.words.specs.Answer.{stop}
use Rattle.words.proofs.AnswerLaws.{stop-inj}
use Rattle.program.specs.Forms.{most_words, block_depth}
use Rattle.program.specs.Reading.{read_program}
use Rattle.program.specs.Where.{statement_at}
use Rattle.program.proofs.LengthLaws.{part-refl}
use Rattle.program.proofs.JudgeLaws.{first-unfit, over-long}
use Rattle.rules.specs.State.{State}
use Rattle.rules.specs.Statements.{position_of}
use Rattle.rules.specs.Running.{Tally, on, end}
use Rattle.rules.specs.Start.{Ended}
use Rattle.rules.specs.Rules.Runs.{block, Runs}
use Rattle.rules.specs.Rules.Answers.{Unstarted, wrong, unreadable, unfit, broken, Passes, first_tally, given, Answered, unstarted, finished, stopped}
use Rattle.rules.specs.Claims.Answers.{Reached, at_first, Answer, Answers}
use Rattle.rules.specs.Steps.Holds.{Holds, StatementThere}
use Rattle.rules.specs.Steps.ByVerb.{ByVerb}
use Rattle.rules.proofs.SpotLaws.{at-nowhere}
use Rattle.rules.proofs.ProgramCode.{program-of, there-at}
use Rattle.rules.proofs.WalkLaws.{tally_of, program-keeps}
use Rattle.rules.proofs.CountLaws.{Counts, PaidCounts, counts-kept}
use Rattle.rules.proofs.ReachLaws.{Reaches, whole-reaches}
use Rattle.rules.proofs.Endings.{Ends, ends_there, ends-listed, runs-end}
use Rattle.rules.proofs.PlacedLaws.{inner-range, Placed, ends-placed, placed-range, placed-own, placed-inside, placed-found}
use Rattle.rules.proofs.RunLaws.{whole}
use Rattle.rules.proofs.StandRules.{stands-iff}
use Rattle.rules.proofs.AnswerRules.{whole-rule}

-- a statement stands at its word
not-nowhere : {program p : List ℤ} → StatementThere program p → statement_at program (position_of program p) ≡ None → ⊥
not-nowhere here z = at-nowhere (sym here.there ∙ z)

-- the place of a program that does not read
pub unread-places : (p : List ℤ) (k : ℕ) → read_program p ≡ stop k → (k ≤ most_words) × ((k ≤ length p) × (most_words < length p → k ≡ most_words))
unread-places p k e = go (dec_lt most_words (length p))
  where
    go : Dec (most_words < length p) → (k ≤ most_words) × ((k ≤ length p) × (most_words < length p → k ≡ most_words))
    go (yes l) =
        let q : most_words ≡ k = stop-inj (sym (over-long p l) ∙ e) in
        (omega arith, (omega arith, λ h. sym q))
    go (no n) =
        let w : k ≤ length p = (first-unfit p (omega arith) e).within in
        (omega arith, (w, λ h. absurd (n h)))

-- a refusal at the start has a number from 1 to 4; where it is 2, the place is the reader's
pub unstarted-low : {program : List ℤ} {budget : ℤ} {S : State} {n k : ℕ} → Unstarted program budget S n k → (1 ≤ n) × (n ≤ 4)
unstarted-low (wrong x) = (omega arith, omega arith)
unstarted-low (unreadable x e) = (omega arith, omega arith)
unstarted-low (unfit x y z) = (omega arith, omega arith)
unstarted-low (broken x y z w) = (omega arith, omega arith)

unstarted-two : {program : List ℤ} {budget : ℤ} {S : State} {n k : ℕ} → Unstarted program budget S n k → n ≡ 2 → read_program program ≡ stop k
unstarted-two (wrong x) q = absurd (omega arith)
unstarted-two (unreadable x e) q = e
unstarted-two (unfit x y z) q = absurd (omega arith)
unstarted-two (broken x y z w) q = absurd (omega arith)

module _ (program ws : List ℤ) (budget : ℤ) (S : State) where
  -- refused at the start
  early-facts : {n k : ℕ} → Unstarted program budget S n k → Answer program ws budget S (given n k (first_tally S ws))
  early-facts {n} {k} b =
      let low = unstarted-low b in
      record {
        known = omega (arith, low.1);
        finished = λ e. absurd (omega (arith, e, low.0));
        early = λ l h. (b, refl);
        unread_place = λ e. unread-places program k (unstarted-two b e);
        at_statement = λ l. absurd (omega (arith, l, low.1));
        inside = λ o. absurd (let r = inner-range o in omega (arith, r.0, low.1));
        steps = omega arith;
        accepted = omega arith;
        unread = sym (part-refl ws).is;
        reached = at_first;
      }

  -- finished
  end-facts : (t : Tally) → Counts ws (number_of budget) t → Reached program ws S t.state t.unread t.accepted → Answer program ws budget S (given 0 (length program) t)
  end-facts t c r = record {
    known = omega arith;
    finished = λ e. refl;
    early = λ l h. absurd (omega arith);
    unread_place = λ e. absurd (omega arith);
    at_statement = λ l. absurd (omega arith);
    inside = λ o. absurd (let r = inner-range o in omega (arith, r.0));
    steps = c.steps;
    accepted = c.accepted;
    unread = sym c.part.is;
    reached = r;
  }

  -- refused at a statement
  way-facts : {p : List ℤ} (n place : ℕ) (t : Tally) → StatementThere program p → Placed program t.state p n place
      → Counts ws (number_of budget) t → Reached program ws S t.state t.unread t.accepted → Answer program ws budget S (given n place t)
  way-facts {p} n place t here x c r =
      let k = placed-range x in
      record {
        known = k.1;
        finished = λ e. absurd (omega (arith, k.0));
        early = λ g h. absurd (omega (arith, k.0));
        unread_place = λ e. absurd (omega (arith, k.0));
        at_statement = λ h apart. rw (placed-own x apart) (not-nowhere here);
        inside = λ o. (p, (there-at here, placed-inside x o));
        steps = c.steps;
        accepted = c.accepted;
        unread = sym c.part.is;
        reached = r;
      }

  -- ---- a run that passed its start

  module _ (p : Passes program budget S) where
    holds : Holds program S
    holds = (stands-iff program S).1 p.1.1

    whole-counts : Counts ws (number_of budget) (tally_of (whole program ws budget S))
    whole-counts =
        program-keeps program (number_of budget) p.1.0.short (Counts ws (number_of budget)) (PaidCounts ws (number_of budget)) (counts-kept program ws (number_of budget)) p.1.0.yields
        (first_tally S ws) (record { part = part-refl ws; steps = omega arith; accepted = omega arith })

    pub whole-reached : Reaches program ws S (tally_of (whole program ws budget S))
    whole-reached = whole-reaches program ws budget S p.1.0 holds

    -- where it is refused
    module _ {n place : ℕ} {t : Tally} (r : Runs program (number_of budget) (block block_depth program) (first_tally S ws) (end n place t)) where
      comes-to : whole program ws budget S ≡ end n place t
      comes-to = (whole-rule program ws budget S (end n place t) p).1 r

      held : Holds program t.state
      held = rw comes-to at whole-reached.holds

      at-end : (q : List ℤ) × Ends program (number_of budget) t q n place
      at-end = runs-end program (number_of budget) r (program-of program p.1.0)

      at_place : Placed program t.state at-end.0 n place
      at_place = ends-placed p.1.0 held at-end.1

      end-answer : Answer program ws budget S (given n place t)
      end-answer = way-facts n place t (ends_there program (number_of budget) at-end.1) at_place (rw comes-to at whole-counts) (rw comes-to at whole-reached.reached)

-- every answer keeps to the claim
pub answers : Answers
answers program ws budget S e (unstarted u) = early-facts program ws budget S u
answers program ws budget S e (finished {u = t} p r) =
    let o : whole program ws budget S ≡ on t = (whole-rule program ws budget S (on t) p).1 r in
    end-facts program ws budget S t (rw o at (whole-counts program ws budget S p)) (rw o at (whole-reached program ws budget S p).reached)
answers program ws budget S e (stopped p r) = end-answer program ws budget S p r

-- where a run is refused at a statement, that is one of the refusals of its verb
pub by-verb : ByVerb
by-verb program ws budget S e (unstarted u) h = let low = unstarted-low u in absurd (omega (arith, low.1))
by-verb program ws budget S e (finished p r) h = absurd (omega arith)
by-verb program ws budget S e (stopped p r) h =
    let x = at-end program ws budget S p r in
    let y = at_place program ws budget S p r in
    record {
      part = x.0;
      at = there-at (ends_there program (number_of budget) x.1);
      verb = ends-listed program (number_of budget) (held program ws budget S p r) x.1;
      own = placed-own y;
      inner = placed-found y;
    }

-- a run that is finished passed its start and came to the end of its block
pub record Finished (program ws : List ℤ) (budget : ℤ) (S : State) (e : Ended) : Type 0 where
  pub tally : Tally
  pub passes : Passes program budget S
  pub comes : whole program ws budget S ≡ on tally
  pub gives : e ≡ given 0 (length program) tally

pub finished-so : (program ws : List ℤ) (budget : ℤ) (S : State) (e : Ended) → Answered program ws budget S e → e.outcome ≡ 0 → Finished program ws budget S e
finished-so program ws budget S e (unstarted u) z = let low = unstarted-low u in absurd (omega (arith, low.0))
finished-so program ws budget S e (finished {u = t} p r) z = record { tally = t; passes = p; comes = (whole-rule program ws budget S (on t) p).1 r; gives = refl }
finished-so program ws budget S e (stopped {n = n} {place = place} {u = t} p r) z =
    let l = placed-range (at_place program ws budget S p r) in absurd (omega (arith, l.0))
