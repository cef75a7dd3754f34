-- What a run hands back is the rules' answer, whole. Assumes nothing.
use mathlib.Core.Path.{◌≡◌, refl, sym, ap, ◌∙◌}
use mathlib.Core.List.{List, [], ◌∷◌}
use lib.IntN.{ℤ}
use lib.ListN.{length}
use Rattle.std.specs.Prelude.{Result, Ok, Err}
use Rattle.words.specs.Words.{word_of, last_of}
use Rattle.words.specs.Answer.{got, stop}
use Rattle.words.proofs.Laws.{word-is}
use Rattle.words.proofs.AnswerLaws.{either}
use Rattle.tables.specs.declared.Tables.{Tables}
use Rattle.rules.specs.State.{State}
use Rattle.rules.specs.Running.{Out, on, end}
use Rattle.rules.specs.Running.{Tally as Carries}
use Rattle.rules.specs.Start.{Ended, starts, run}
use Rattle.rules.specs.Rules.Answers.{first_tally, given as gives}
use Rattle.rules.proofs.RunLaws.{whole, run-early, run_on, run_end}
use Rattle.proposals.proofs.FormLaws.{unlike}
use Rattle.lent.specs.declared.Tally.{Tally}
use Rattle.lent.specs.Tallied.{carries, untold, untold_out, Runs}
use Rattle.lent.proofs.TallyLaws.{ends_by}
use Rattle.phases.specs.Told.{tables, state_in}
use Rattle.run.specs.declared.Early.{Early as Stopped}
use Rattle.run.specs.Told.{started_of, answer_of, Meets}
use Rattle.run.proofs.ExactLaws.{Exact, exact}

-- the four words of an answer tell its numbers
words_are : (e : Ended) → Exact e → word_of e.outcome ∷ word_of e.place ∷ word_of e.steps ∷ word_of e.accepted ∷ [] ≡ answer_of e
words_are e x = rw (word-is e.outcome x.outcome, word-is e.place x.place, word-is e.steps x.steps, word-is e.accepted x.accepted)

-- the answer e, by what is given for it
pub meets : {e : Ended} → Exact e → (given : Ended) → e ≡ given → {Z : State} {answer unread : List ℤ}
    → answer ≡ word_of given.outcome ∷ word_of given.place ∷ word_of given.steps ∷ word_of given.accepted ∷ [] → Z ≡ given.state → unread ≡ given.unread → Meets Z answer unread e
meets x given r a z u = rw r (record { answers = a ∙ words_are given (rw r at x); leaves = z; hands_back = u })

-- what the start said
module _ (program : List ℤ) (budget : ℤ) (S : State) {h : Result (Unit {0}) Stopped} (e : h ≡ started_of (starts program budget S)) where
  pub begins : h ≡ Ok tt → starts program budget S ≡ got tt
  begins h = either {X = starts program budget S ≡ got tt} (starts program budget S) (λ u x. x) (λ f x. unlike (let y = sym (rw x at e) ∙ h in cc))

  pub refuses : {f : Stopped} → h ≡ Err f → starts program budget S ≡ stop (record { number = f.number; place = f.place })
  refuses {f = k} h =
      either {X = starts program budget S ≡ stop (record { number = k.number; place = k.place })} (starts program budget S)
      (λ u x. unlike (let y = sym (rw x at e) ∙ h in cc))
      (λ f x.
      let y : Err (record { number = f.number; place = f.place }) ≡ Err k = sym (rw x at e) ∙ h in
      let y1 : f.number ≡ k.number = cc in
      let y2 : f.place ≡ k.place = cc in
      rw (← y1, ← y2) x)

module _ (program ws : List ℤ) (budget : ℤ) (S : State) where
  -- a run that did not begin
  pub meets-early : {h : Result (Unit {0}) Stopped} {f : Stopped} {answer : List ℤ} → h ≡ started_of (starts program budget S) → h ≡ Err f
      → answer ≡ word_of f.number ∷ word_of f.place ∷ word_of 0 ∷ word_of 0 ∷ [] → Meets S answer ws (run program ws budget S)
  meets-early {f = f} e h a =
      meets (exact program ws budget S) (gives f.number f.place (first_tally S ws)) (run-early program ws budget S (refuses program budget S e h)) a refl refl

  -- a run that began
  module _ (x : starts program budget S ≡ got tt) {Z : State} {t : Tally} (ran : Runs ws Z t (whole program ws budget S)) where
    pub meets_on : {answer : List ℤ} → t.outcome ≡ 0 → answer ≡ word_of 0 ∷ word_of (length program) ∷ word_of t.steps ∷ word_of t.accepted ∷ []
        → Meets Z answer (last_of t.unread ws) (run program ws budget S)
    meets_on {answer = answer} h a = by (whole program ws budget S) refl (rw h at ran.is)
      where
        by : (o : Out) → whole program ws budget S ≡ o → on (carries ws Z t) ≡ untold_out o → Meets Z answer (last_of t.unread ws) (run program ws budget S)
        by (on u) w e =
            let k : carries ws Z t ≡ untold u = cc in
            let y1 : Z ≡ u.state = ap (λ (c : Carries). c.state) k in
            let y2 : t.steps ≡ u.steps = ap (λ (c : Carries). c.steps) k in
            let y3 : t.accepted ≡ u.accepted = ap (λ (c : Carries). c.accepted) k in
            let y4 : last_of t.unread ws ≡ u.unread = ap (λ (c : Carries). c.unread) k in
            meets (exact program ws budget S) (gives 0 (length program) u) (run_on program ws budget S x w) (rw (← y2, ← y3) a) y1 y4
        by (end n place u) w e = unlike (cc)

    pub meets-end : {answer : List ℤ} → (t.outcome ≡ 0 → ⊥) → answer ≡ word_of t.outcome ∷ word_of t.place ∷ word_of t.steps ∷ word_of t.accepted ∷ []
        → Meets Z answer (last_of t.unread ws) (run program ws budget S)
    meets-end {answer = answer} h a = by (whole program ws budget S) refl (sym (ends_by t.outcome t.place (carries ws Z t) h) ∙ ran.is)
      where
        by : (o : Out) → whole program ws budget S ≡ o → end t.outcome t.place (carries ws Z t) ≡ untold_out o → Meets Z answer (last_of t.unread ws) (run program ws budget S)
        by (on u) w e = unlike (cc)
        by (end m place u) w e =
            let w6 : carries ws Z t ≡ untold u = cc in
            let y1 : Z ≡ u.state = ap (λ (c : Carries). c.state) w6 in
            let y2 : t.steps ≡ u.steps = ap (λ (c : Carries). c.steps) w6 in
            let y3 : t.accepted ≡ u.accepted = ap (λ (c : Carries). c.accepted) w6 in
            let y4 : last_of t.unread ws ≡ u.unread = ap (λ (c : Carries). c.unread) w6 in
            let y5 : t.outcome ≡ m = cc in
            let y6 : t.place ≡ place = cc in
            meets (exact program ws budget S) (gives m place u) (run_end program ws budget S x w) (rw (← y2, ← y3, ← y5, ← y6) a) y1 y4

-- the tables that were lent have what is lent of them
pub moved : (T : Tables) {e h k : List ℤ} → e ≡ T.environment.now → h ≡ T.heap.now → k ≡ T.constraints.now → {answer unread : List ℤ} {x : Ended} → Meets (state_in T) answer unread x
    → Meets (tables e h k) answer unread x
moved T a b c m = rw (a, b, c) m
