-- A statement that holds no block is refused with a number exactly where the rules say so, where what is kept holds. Assumes nothing.
use mathlib.Core.Path.{◌≡◌, refl, sym, subst, ◌∙◌}
use mathlib.Core.Logic.{◌↔◌}
use Prim.Native.Nat.{ℕ, ◌+◌, ◌-◌, ◌<◌}
use native.Mathlib.Omega.{arith}
use native.Mathlib.Decide.{ℕ_discrete}
use mathlib.Core.Bool.{true, false}
use mathlib.Core.List.{List, ◌∷◌, ◌++◌}
use Rattle.std.specs.Prelude.{None, Some}
use borrow.Author.Tests.{le-ltb}
use lib.IntN.{ℤ, pos}
use lib.ListN.{drop}
use Rattle.words.specs.Words.{number_at}
use Rattle.words.specs.Answer.{stop}
use Rattle.words.proofs.Laws.{number-first}
use Rattle.words.proofs.AnswerLaws.{stop-inj, stop≢got}
use Rattle.tables.specs.declared.Value.{Value}
use Rattle.tables.specs.declared.Sort.TheVariants.{Values, Identities}
use Rattle.tables.specs.Sizes.{variables, most_fields, most_records}
use Rattle.tables.specs.Cells.{Cells, Sized}
use Rattle.tables.specs.Records.{record_count}
use Rattle.program.specs.Forms.{expression_depth}
use Rattle.program.specs.Forms.{verb_of}
use Rattle.program.specs.declared.Verb.{Verb}
use Rattle.program.specs.declared.Verb.TheVariants.{Skip as skip, Assign as assign, New as new, Always as always, Once as once, AlwaysSame as always_same, OnceSame as once_same, If as branch, While as loop, Unknown as no_verb}
use Rattle.program.specs.Grammar.{statement_of, Yields}
use Rattle.program.proofs.FormLaws.{number_of_verb, verb-word}
use Rattle.program.proofs.NumberLaws.{number-of}
use Rattle.program.proofs.GrammarSound.{statement-sound}
use Rattle.rules.specs.State.{State, Fault, refused, positions}
use Rattle.rules.specs.Constraints.{kept_at}
use Rattle.rules.specs.Identities.{same_now, identity_phase}
use Rattle.rules.specs.Proposals.{settle}
use Rattle.rules.specs.Statements.{position_of, has_room, value_phase, do_assign, do_new, do_constraint, do_identity, do_simple}
use Rattle.rules.specs.Rules.Identities.{Phase}
use Rattle.rules.specs.Rules.Proposals.{Unsettled}
use Rattle.rules.specs.Rules.Statements.{asking, past_path}
use Rattle.rules.specs.Rules.Statements.{Refused, f_value, f_target, f_field, f_full, f_phase, f_given}
use Rattle.rules.specs.Rules.Statements.{f_always, f_once, f_identity, f_unkept}
use Rattle.rules.specs.Steps.Holds.{Holds, StatementReads}
use Rattle.rules.proofs.OperatorLaws.{agree}
use Rattle.rules.proofs.EvaluationLaws.{evaluate-iff}
use Rattle.rules.proofs.VerbLaws.{verb-in}
use Rattle.rules.proofs.KeptReading.{Listed, two-not-listed, ties-are-read, simple-reads}
use Rattle.rules.proofs.TieLaws.{same-iff}
use Rattle.rules.proofs.AddLaws.{fields-complete}
use Rattle.rules.proofs.StatementWords.{statement-verb, past-path}
use Rattle.rules.proofs.StopLaws.{refused-with, stops_then, stops-on, stopped, stopped-on, failed}
use Rattle.rules.proofs.LostLaws.{astray-complete}
use Rattle.rules.proofs.MeetLaws.{meets-complete}
use Rattle.rules.proofs.PartLaws.{constraint-reads-iff}
use Rattle.rules.proofs.FitReads.{constraint-take}
use Rattle.rules.proofs.ReadingLaws.{constraint-reads}
use Rattle.rules.proofs.HoldLaws.{each_map}
use Rattle.rules.proofs.PartMeetLaws.{Worded}
use Rattle.rules.proofs.SettleRules.{unsettled-sound, unsettled-complete}
use Rattle.rules.proofs.GivesRules.{gives-sized, gives-phase, gives-fails-sound, gives-fails-complete, gives_goes, Opens, gives, closed, assign-opens, new-opens}
use Rattle.rules.proofs.RefusedPieces.{fields-meet-complete, unsame-sound, unsame-complete, room-iff, full-iff}

-- a phase leaves the tables as long as they were
phase-sized : {program kept : List ℤ} {before now Z : Cells} {target : ℕ} {prefix : List ℕ} {v : Value} → Sized now → Phase program kept before now target prefix v Z → Sized Z
phase-sized s h = record { environment = h.update.environment_length ∙ s.environment; heap = h.update.heap_length ∙ s.heap }

module _ (program : List ℤ) (S : State) (ws : List ℤ) (holds : Holds program S) where
  -- ---- the value phase

  -- what is kept read before, so that its words read whatever the cells hold
  kept-worded : (Y : Cells) → Worded program Y (positions S.kept Values)
  unfolding kept_at
  kept-worded Y = each_map
      (λ k h f e.
      let t = constraint-take S.cells holds.fit ((constraint-reads-iff S.cells (drop (k + 1) program)).0 (h.parts, h.reads)) in
      (constraint-reads (λ n. n ≡ 2 → ⊥) (λ z. omega arith) (λ z. omega arith) Y t.1.piece t.0).bad f (rw t.1.split at e))
      (positions S.kept Values) holds.values

  module _ (p : List ℤ) (target : ℕ) (Y : Cells) (sized : Sized Y) where
    value-refused : (f : Fault) → value_phase program S.kept p target Y ws ≡ stop f → (f.number ≡ 2 → ⊥) → Unsettled program S.kept (asking None (Some target) true) p Y ws f
    unfolding value_phase
    value-refused f e two =
        stopped (settle program S.kept (asking None (Some target) true) p Y ws) _ e
        (λ e1. unsettled-sound program S.kept (asking None (Some target) true) p Y ws sized (kept-worded Y) f e1 two)
        (λ x e1 k1. stop≢got (sym k1))

    value-stops : {f : Fault} → Unsettled program S.kept (asking None (Some target) true) p Y ws f → value_phase program S.kept p target Y ws ≡ stop f
    unfolding value_phase
    value-stops u = stops_then _ (unsettled-complete program S.kept (asking None (Some target) true) p Y ws u)

  -- ---- what stops is refused by the rules

  gives-refused : {p : List ℤ} (f : Fault) → (f.number ≡ 2 → ⊥) → StatementReads p → Opens program S holds ws p
      → do_simple program p S ws (verb_of (number_at p 0)) ≡ stop f → Refused program S ws p f
  gives-refused f two here (closed h c r) e = let i : h ≡ f = stop-inj (sym c ∙ e) in rw i at r two
  gives-refused {p} f two here (gives {target = target} {prefix = prefix} {v = v} {N = N} g) e =
      stopped (identity_phase program S.kept S.cells N p target prefix v) _ (sym (gives_goes program S holds g here ws) ∙ e)
      (λ e1. gives-fails-sound program S holds g here f e1 λ n i x. rw (← i) (f_phase g x)) λ Y e1 k.
      let phase = (gives-phase program S holds g here Y).0 e1 in
      f_given g phase (value-refused p target Y (phase-sized (gives-sized program S holds g here) phase) f k two)

  -- p is the part after the statement's word

  module _ (p : List ℤ) (f : Fault) (two : f.number ≡ 2 → ⊥) where
    always-refused : do_constraint true program (pos 3 ∷ p) S ws ≡ stop f → Refused program S ws (pos 3 ∷ p) f
    unfolding do_constraint
    always-refused e =
        let room = has_room S.kept Values (position_of program (pos 3 ∷ p)) in
        stopped (settle program S.kept (asking (Some p) None room) (pos 3 ∷ p) S.cells ws) _ e
        (λ e1. f_always (room-iff S.kept Values (position_of program (pos 3 ∷ p)))
        (unsettled-sound program S.kept (asking (Some p) None room) (pos 3 ∷ p) S.cells ws holds.fit.sized (kept-worded S.cells) f e1 two))
        (λ x e1 k1. stop≢got (sym k1))

    once-refused : do_constraint false program (pos 4 ∷ p) S ws ≡ stop f → Refused program S ws (pos 4 ∷ p) f
    unfolding do_constraint
    once-refused e =
        stopped (settle program S.kept (asking (Some p) None true) (pos 4 ∷ p) S.cells ws) _ e
        (λ e1. f_once (unsettled-sound program S.kept (asking (Some p) None true) (pos 4 ∷ p) S.cells ws holds.fit.sized (kept-worded S.cells) f e1 two))
        (λ x e1 k1. stop≢got (sym k1))

    always-identity-refused : do_identity true program (pos 5 ∷ p) S ws ≡ stop f → Refused program S ws (pos 5 ∷ p) f
    unfolding do_identity
    always-identity-refused e =
        stopped-on (same_now S.cells (pos 5 ∷ p) p) _ e (λ e1. f_identity (omega arith) (omega arith) (unsame-sound S.cells (pos 5 ∷ p) p f e1 two)) λ u e1 k1.
        failed (refused 14 (pos 5 ∷ p)) (has_room S.kept Identities (position_of program (pos 5 ∷ p))) _ k1
        (λ c i. rw (← i) (f_unkept ((same-iff S.cells (pos 5 ∷ p) p).0 e1) ((full-iff S.kept Identities (position_of program (pos 5 ∷ p))).0 c)))
        (λ c k2. stop≢got (sym k2))

    once-identity-refused : do_identity false program (pos 6 ∷ p) S ws ≡ stop f → Refused program S ws (pos 6 ∷ p) f
    unfolding do_identity
    once-identity-refused e =
        stopped-on (same_now S.cells (pos 6 ∷ p) p) _ e (λ e1. f_identity (omega arith) (omega arith) (unsame-sound S.cells (pos 6 ∷ p) p f e1 two)) (λ u e1 k1. stop≢got (sym k1))

  module _ (p : List ℤ) (here : StatementReads p) (f : Fault) (two : f.number ≡ 2 → ⊥) where
    -- the statement's word and the part after it
    worded : (v : Verb) → verb_of (number_at p 0) ≡ v → number_of_verb v < 9
        → ((q : List ℤ) → do_simple program (pos (number_of_verb v) ∷ q) S ws v ≡ stop f → Refused program S ws (pos (number_of_verb v) ∷ q) f)
        → do_simple program p S ws v ≡ stop f → Refused program S ws p f
    worded v q h g = subst (λ (t : List ℤ). do_simple program t S ws v ≡ stop f → Refused program S ws t f) (sym (verb-word q h)) (g _)

    verb-refused : (v : Verb) → verb_of (number_at p 0) ≡ v → do_simple program p S ws v ≡ stop f → Refused program S ws p f
    unfolding do_simple
    verb-refused skip q = λ e. stop≢got (sym e)
    verb-refused assign q = λ e. gives-refused f two here (assign-opens program S holds ws p here q) (rw q e)
    verb-refused new q = λ e. gives-refused f two here (new-opens program S holds ws p here q) (rw q e)
    verb-refused always q = worded always q (omega arith) (λ r. always-refused r f two)
    verb-refused once q = worded once q (omega arith) (λ r. once-refused r f two)
    verb-refused always_same q = worded always_same q (omega arith) (λ r. always-identity-refused r f two)
    verb-refused once_same q = worded once_same q (omega arith) (λ r. once-identity-refused r f two)
    verb-refused branch q = λ e. absurd (two (refused-with 2 p e))
    verb-refused loop q = λ e. absurd (two (refused-with 2 p e))
    verb-refused no_verb q = λ e. absurd (two (refused-with 2 p e))

  -- ---- what the rules refuse stops

  refused-stops : {p : List ℤ} {f : Fault} → Refused program S ws p f → StatementReads p → do_simple program p S ws (verb_of (number_at p 0)) ≡ stop f
  unfolding do_simple do_assign do_new do_constraint do_identity
  refused-stops (f_value {p = p} m) here =
      rw (statement-verb (pos 1 ∷ p) here assign (number-first (pos 1) p), ← past-path p here) (stops_then _ (meets-complete m))
  refused-stops (f_target {v = v} {p = p} {r = r} e a) here =
      rw (statement-verb (pos 1 ∷ p) here assign (number-first (pos 1) p), ← past-path p here, (evaluate-iff expression_depth S.cells (past_path p) v r).1 e)
      (stops_then _ (astray-complete S.cells a))
  refused-stops (f_field {x = x} {m = m} {p = p} a b e) here =
      rw (
        statement-verb (pos 2 ∷ pos x ∷ pos m ∷ p) here new (number-first (pos 2) (pos x ∷ pos m ∷ p)),
        number-of 0 (variables - 1) x (pos m ∷ p) (omega arith) (omega arith),
        number-of 0 most_fields m p (omega arith) b,
      )
      (stops_then _ (fields-meet-complete e))
  refused-stops (f_full {x = x} {m = m} {p = p} a b e l) here =
      rw (
        statement-verb (pos 2 ∷ pos x ∷ pos m ∷ p) here new (number-first (pos 2) (pos x ∷ pos m ∷ p)),
        number-of 0 (variables - 1) x (pos m ∷ p) (omega arith) (omega arith),
        number-of 0 most_fields m p (omega arith) b,
        fields-complete e,
        le-ltb (record_count S.cells.heap) most_records l,
      )
  refused-stops (f_phase g fails) here = rw (gives_goes program S holds g here ws) (stops_then _ (gives-fails-complete program S holds g here fails))
  refused-stops (f_given {target = target} {Y = Y} {p = p} g phase u) here =
      rw (gives_goes program S holds g here ws, (gives-phase program S holds g here Y).1 phase)
      (value-stops p target Y (phase-sized (gives-sized program S holds g here) phase) u)
  refused-stops (f_always {b = b} {p = p} r u) here =
      rw (statement-verb (pos 3 ∷ p) here always (number-first (pos 3) p), agree (has_room S.kept Values (position_of program (pos 3 ∷ p))) b (room-iff S.kept Values (position_of program (pos 3 ∷ p))) r)
      (stops_then _ (unsettled-complete program S.kept (asking (Some p) None b) (pos 3 ∷ p) S.cells ws u))
  refused-stops (f_once {p = p} u) here =
      rw (statement-verb (pos 4 ∷ p) here once (number-first (pos 4) p))
      (stops_then _ (unsettled-complete program S.kept (asking (Some p) None true) (pos 4 ∷ p) S.cells ws u))
  refused-stops (f_identity {verb = verb} {f = f} {p = p} a b u) here = identity-stops (ℕ_discrete verb 5)
    where
      identity-stops : Dec (verb ≡ 5) → do_simple program (pos verb ∷ p) S ws (verb_of (number_at (pos verb ∷ p) 0)) ≡ stop f
      identity-stops (yes e) =
          rw (statement-verb (pos verb ∷ p) here always_same (rw e (number-first (pos 5) p))) (stops-on _ (unsame-complete S.cells (pos verb ∷ p) p u))
      identity-stops (no n) =
          let e : verb ≡ 6 = omega arith in
          rw (statement-verb (pos verb ∷ p) here once_same (rw e (number-first (pos 6) p))) (stops-on _ (unsame-complete S.cells (pos verb ∷ p) p u))
  refused-stops (f_unkept {p = p} s r) here =
      rw (
        statement-verb (pos 5 ∷ p) here always_same (number-first (pos 5) p),
        (same-iff S.cells (pos 5 ∷ p) p).1 s,
        (full-iff S.kept Identities (position_of program (pos 5 ∷ p))).1 r,
      )

  -- ---- the statement's words read, and so do those of every kept identity, so that it is refused with an outcome of its verb, and not with 2

  piece-reads : {d : ℕ} {s : List ℤ} (y : Yields (statement_of d) s) (q p : List ℤ) → p ≡ s ++ q → number_of_verb (verb_of (number_at p 0)) < 7
      → (f : Fault) → do_simple program p S ws (verb_of (number_at p 0)) ≡ stop f → Listed (verb_of (number_at p 0)) f.number
  piece-reads y q p is less f e =
      rw (is, verb-in y q) ((simple-reads program y q S ws (ties-are-read program S holds) (rw (is, verb-in y q) at less)).bad f (rw (is, verb-in y q) at e))

  pub stops-listed : (p : List ℤ) → StatementReads p → number_of_verb (verb_of (number_at p 0)) < 7 → (f : Fault) → do_simple program p S ws (verb_of (number_at p 0)) ≡ stop f
      → Listed (verb_of (number_at p 0)) f.number
  stops-listed p here less f e =
      let t = statement-sound here.nest p here.rest here.reads in
      piece-reads t.piece here.rest p t.split less f e

  not-two : (p : List ℤ) → StatementReads p → number_of_verb (verb_of (number_at p 0)) < 7 → (f : Fault) → do_simple program p S ws (verb_of (number_at p 0)) ≡ stop f → f.number ≡ 2 → ⊥
  not-two p here less f e two = two-not-listed (verb_of (number_at p 0)) (rw two at (stops-listed p here less f e))

-- a statement that holds no block is refused exactly where the rules say so
pub refused-rule : (program p : List ℤ) (S : State) (ws : List ℤ) → StatementReads p → Holds program S → number_of_verb (verb_of (number_at p 0)) < 7
    → (f : Fault) → (do_simple program p S ws (verb_of (number_at p 0)) ≡ stop f) ↔ Refused program S ws p f
refused-rule program p S ws here holds less f = (
  λ e. verb-refused program S ws holds p here f (not-two program S ws holds p here less f e) (verb_of (number_at p 0)) refl e,
  λ r. refused-stops program S ws holds r here,
)
