-- A list of entries gives exactly what the rules derive. Assumes nothing.
use mathlib.Core.Path.{◌≡◌, sym, ◌∙◌}
use mathlib.Core.Logic.{◌↔◌}
use Prim.Native.Nat.{ℕ, zero, suc, ◌-◌, ◌<◌, ◌≤◌}
use native.Mathlib.Omega.{arith}
use native.Mathlib.Decide.{dec_lt}
use mathlib.Core.List.{List, [], ◌∷◌}
use lib.IntN.{ℤ, pos}
use lib.ListN.{length}
use Rattle.words.specs.Words.{number_at, number_of}
use Rattle.words.specs.Answer.{got, stop}
use Rattle.words.proofs.AnswerLaws.{either}
use Rattle.program.specs.Forms.{verb_of}
use Rattle.program.specs.Grammar.{Takes}
use Rattle.rules.specs.State.{State, Fault}
use Rattle.rules.specs.Statements.{Left, place_of, do_assign, do_simple}
use Rattle.rules.specs.Running.{Tally, Out, on, end}
use Rattle.rules.specs.Start.{Ended, starts}
use Rattle.rules.specs.Entries.{read_entry, do_entry, onwards, next_entry, do_entries, assigns}
use Rattle.rules.specs.Rules.Statements.{Steps, Refused}
use Rattle.rules.specs.Rules.Runs.{begun, afterwards}
use Rattle.rules.specs.Rules.Answers.{Passes, first_tally, given}
use Rattle.rules.specs.Rules.Entries.{Entry, Sets, e_none, e_unfit, e_unpaid, e_refused, e_more, Listed, unstarted, started}
use Rattle.rules.specs.Claims.Entries.{EntriesRules}
use Rattle.rules.specs.Steps.Holds.{Holds}
use Rattle.rules.proofs.StepRules.{steps-rule}
use Rattle.rules.proofs.RefusedRules.{refused-rule}
use Rattle.rules.proofs.AssignHolds.{assign-holds}
use Rattle.rules.proofs.StatementClauses.{simple-assign}
use Rattle.rules.proofs.StandRules.{stands-iff}
use Rattle.rules.proofs.StartRules.{passes-iff, unstarted-iff}
use Rattle.rules.proofs.EntryWords.{entry-sound, entry-reads, entry-not, takes-shorter, assigning-is, entry-statement, entry-verb}
use Rattle.rules.proofs.EntryClauses.{Begins, nothing, unfit, reads, begins, entry-unpaid, entry-goes, entry-stops, onwards-on, onwards-end, next-none, next-unfit, next-got}
use Rattle.rules.proofs.EntryClauses.{entries_none, entries-open, assigns-early, assigns-go}

-- ---- the assignment that an entry is

module _ (program : List ℤ) {x : List ℤ} (e : Entry x) (S : State) (ws : List ℤ) where
  is-assign : do_simple program (pos 1 ∷ x) S ws (verb_of (number_at (pos 1 ∷ x) 0)) ≡ do_assign program (pos 1 ∷ x) S ws
  is-assign = rw (entry-verb e) (simple-assign program (pos 1 ∷ x) S ws)

  pub entry-steps : Holds program S → (l : Left) → (do_assign program (pos 1 ∷ x) S ws ≡ got l) ↔ Steps program S ws (pos 1 ∷ x) l
  entry-steps holds l =
      let r = steps-rule program (pos 1 ∷ x) S ws (entry-statement e) holds l in
      (λ h. r.0 (is-assign ∙ h), λ s. sym is-assign ∙ r.1 s)

  pub entry-refuses : Holds program S → (f : Fault) → (do_assign program (pos 1 ∷ x) S ws ≡ stop f) ↔ Refused program S ws (pos 1 ∷ x) f
  entry-refuses holds f =
      let r = refused-rule program (pos 1 ∷ x) S ws (entry-statement e) holds (rw (entry-verb e) (omega arith)) f in
      (λ h. r.0 (is-assign ∙ h), λ s. sym is-assign ∙ r.1 s)

  -- what is kept holds after it
  pub entry-holds : {l : Left} → Holds program S → Steps program S ws (pos 1 ∷ x) l → Holds program l.state
  entry-holds {l} holds s = assign-holds program (pos 1 ∷ x) S ws l holds ((entry-steps holds l).1 s)

module _ (program : List ℤ) (budget : ℕ) where
  -- ---- what the list comes to follows the rules

  module _ (more : List ℤ → Tally → Ended) (i : ℕ) (t : Tally) (holds : Holds program t.state) where
    -- an entry that reads
    reads-sound : {p q : List ℤ} (x : Takes Entry p q) → ((u : Tally) → Holds program u.state → Sets program budget (suc i) q u (more q u))
        → Sets program budget i p t (next_entry more program budget i p t)
    reads-sound {p} {q} x k = rw (next-got more program budget i t p q (omega (arith, takes-shorter x)) (entry-reads x), assigning-is x) (go (dec_lt t.steps budget))
      where
        s : List ℤ
        s = pos 1 ∷ x.words

        go : Dec (t.steps < budget) → Sets program budget i p t (onwards (λ u. more q u) i (do_entry program budget i s t))
        go (no l) = let h : budget ≤ t.steps = omega arith in rw (entry-unpaid program budget i s t h, onwards-end (λ u. more q u) i 5 i t) (e_unpaid x h)
        go (yes h) = either (do_assign program s t.state t.unread)
            (λ l e.
            let a = (entry-steps program x.piece t.state t.unread holds l).0 e in
            rw (entry-goes program budget i s t h e, onwards-on (λ u. more q u) i (afterwards l (begun t)))
            (e_more x h a (k (afterwards l (begun t)) (entry-holds program x.piece t.state t.unread holds a))))
            (λ f e.
            rw (entry-stops program budget i s t h e, onwards-end (λ u. more q u) i f.number (place_of program f) (begun t))
            (e_refused x h ((entry-refuses program x.piece t.state t.unread holds f).0 e)))

    next-sound : {p : List ℤ} → Begins p → ((q : List ℤ) (u : Tally) → length q < length p → Holds program u.state → Sets program budget (suc i) q u (more q u))
        → Sets program budget i p t (next_entry more program budget i p t)
    next-sound nothing k = rw (next-none more program budget i t) e_none
    next-sound (unfit {w = w} {p = p} e) k = rw (next-unfit more program budget i t (w ∷ p) (omega arith) e) (e_unfit (entry-not e))
    next-sound (reads {q = q} x) k = reads-sound x (λ u h. k q u (takes-shorter x) h)

  empty-sound : (i : ℕ) (p : List ℤ) (t : Tally) → length p ≤ 0 → Sets program budget i p t (given 0 i t)
  empty-sound i [] t l = e_none
  empty-sound i (w ∷ p) t l = absurd (omega arith)

  entries-sound : (fuel i : ℕ) (p : List ℤ) (t : Tally) → length p ≤ fuel → Holds program t.state → Sets program budget i p t (do_entries fuel program budget i p t)
  unfolding do_entries
  entries-sound zero i p t l h = empty-sound i p t l
  entries-sound (suc fuel) i p t l h =
      next-sound (λ q u. do_entries fuel program budget (suc i) q u) i t h (begins p) (λ q u s g. entries-sound fuel (suc i) q u (omega arith) g)

  -- ---- and what the rules say, the list comes to

  -- an entry that reads, for what its assignment comes to
  entries_next : {p q : List ℤ} (x : Takes Entry p q) (fuel i : ℕ) (t : Tally) (o : Out) → length p ≤ fuel → do_entry program budget i (pos 1 ∷ x.words) t ≡ o
      → do_entries fuel program budget i p t ≡ onwards (λ u. do_entries (fuel - 1) program budget (suc i) q u) i o
  entries_next {p} {q} x fuel i t o l e =
      let s = takes-shorter x in
      rw (
        entries-open program budget fuel i p t (omega arith),
        next-got (λ r u. do_entries (fuel - 1) program budget (suc i) r u) program budget i t p q (omega arith) (entry-reads x),
        assigning-is x,
        e,
      )

  entries-complete : {i : ℕ} {p : List ℤ} {t : Tally} {e : Ended} → Sets program budget i p t e → (fuel : ℕ) → length p ≤ fuel → Holds program t.state
      → do_entries fuel program budget i p t ≡ e
  entries-complete (e_none {i = i} {t = t}) fuel l h = entries_none program budget fuel i t
  entries-complete (e_unfit {i = i} {w = w} {p = p} {t = t} n) fuel l h =
      either (read_entry (w ∷ p)) (λ q e. absurd (n q (entry-sound (w ∷ p) q e)))
      (λ r e. entries-open program budget fuel i (w ∷ p) t (omega arith) ∙ next-unfit (λ q u. do_entries (fuel - 1) program budget (suc i) q u) program budget i t (w ∷ p) (omega arith) e)
  entries-complete (e_unpaid {i = i} {t = t} x b) fuel l h =
      entries_next x fuel i t (end 5 i t) l (entry-unpaid program budget i (pos 1 ∷ x.words) t b) ∙ onwards-end _ i 5 i t
  entries-complete (e_refused {i = i} {t = t} {f = f} x b r) fuel l h =
      entries_next x fuel i t (end f.number (place_of program f) (begun t)) l
      (entry-stops program budget i (pos 1 ∷ x.words) t b ((entry-refuses program x.piece t.state t.unread h f).1 r)) ∙ onwards-end _ i f.number (place_of program f) (begun t)
  entries-complete (e_more {i = i} {q = q} {t = t} {l = m} x b s r) fuel l h =
      entries_next x fuel i t (on (afterwards m (begun t))) l (entry-goes program budget i (pos 1 ∷ x.words) t b ((entry-steps program x.piece t.state t.unread h m).1 s))
      ∙ onwards-on _ i (afterwards m (begun t))
      ∙ entries-complete r (fuel - 1) (omega (arith, takes-shorter x)) (entry-holds program x.piece t.state t.unread h s)

-- ---- the call

pub passes-hold : (program : List ℤ) (budget : ℤ) (S : State) → Passes program budget S → Holds program S
passes-hold program budget S p = (stands-iff program S).1 p.1.1

module _ (program entries ws : List ℤ) (budget : ℤ) (S : State) where
  sound : Listed program entries ws budget S (assigns program entries ws budget S)
  sound = either (starts program budget S)
      (λ u e.
      let p = (passes-iff program budget S).0 e in
      rw (assigns-go program entries ws budget S e) (started p (entries-sound program (number_of budget) (length entries) 0 entries (first_tally S ws) (omega arith) (passes-hold program budget S p))))
      (λ f e. rw (assigns-early program entries ws budget S e) (unstarted ((unstarted-iff program budget S f).0 e)))

  complete : {e : Ended} → Listed program entries ws budget S e → assigns program entries ws budget S ≡ e
  complete (unstarted {n = n} {place = place} u) = assigns-early program entries ws budget S ((unstarted-iff program budget S (record { number = n; place = place })).1 u)
  complete (started p r) =
      assigns-go program entries ws budget S ((passes-iff program budget S).1 p)
      ∙ entries-complete program (number_of budget) r (length entries) (omega arith) (passes-hold program budget S p)

pub entries-rules : EntriesRules
entries-rules program entries ws budget S e = (λ h. rw h at (sound program entries ws budget S), complete program entries ws budget S)
