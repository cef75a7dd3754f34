-- A proposal that is not settled: the definition stops with the number of the rule, and there is no third way. Assumes nothing.
use mathlib.Core.Path.{◌≡◌, refl, sym, ap, ◌∙◌}
use mathlib.Core.Logic.{inl, inr}
use mathlib.Core.Bool.{true, not, ◌||◌, true≢false}
use mathlib.Core.List.{List, [], ◌∷◌}
use Prim.Native.Nat.{ℕ}
use native.Mathlib.Omega.{arith}
use lib.IntN.{ℤ}
use Rattle.words.specs.Answer.{got, stop, ◌>>=◌, ◌>>◌, want}
use Rattle.words.proofs.AnswerLaws.{got-inj, stop-inj, stop≢got, either}
use Rattle.tables.specs.declared.Sort.TheVariants.{Values}
use Rattle.tables.specs.Cells.{Cells, Sized}
use Rattle.rules.specs.State.{Fault, Res, refused, positions}
use Rattle.rules.specs.Evaluation.{at}
use Rattle.rules.specs.Constraints.{Part, counted, all_hold, required_hold}
use Rattle.rules.specs.Proposals.{Entry, entries_fit, proposal, applied, none?, Asked, settle}
use Rattle.rules.specs.Rules.Constraints.{CountedAre}
use Rattle.rules.specs.Rules.Proposals.{Settles, Fails, no_words, not_formed, not_allowed, not_needed, not_met, Unsettled, uncounted, no_room, turned-down}
use Rattle.rules.specs.Claims.Acceptance.{EveryJudged}
use Rattle.rules.proofs.ProposalClauses.{proposal-none}
use Rattle.rules.proofs.EntryLaws.{formed-iff, proposal-stop}
use Rattle.rules.proofs.EffectLaws.{formed-near}
use Rattle.rules.proofs.NearLaws.{counted-again}
use Rattle.rules.proofs.CountedLaws.{counted-iff}
use Rattle.rules.proofs.AcceptanceLaws.{fails, allowed-iff, needed-iff, puts-iff, met-iff}
use Rattle.rules.proofs.ProposalLaws.{settle-iff}
use Rattle.rules.proofs.StopLaws.{stops_then, stopped, failed}
use Rattle.rules.proofs.PartMeetLaws.{Worded, uncounted-sound, uncounted-complete}

module _ (program kept : List ℤ) (asked : Asked) (word : List ℤ) (S : Cells) (ws : List ℤ) where
  -- the judge after the proposal has read, and, before that, after the parts that count have
  abbrev judging : List Part → List Entry × List ℤ → Res (Cells × List ℤ)
  judging before x =
      want (refused 17 word) (entries_fit S asked.target x.0) >> (want (refused 18 word) (not (all_hold before) || none? x.0) >>
      (counted program kept asked.own (applied S x.0) >>= λ after. want (refused 19 word) (required_hold after) >> got (applied S x.0, x.1)))

  abbrev judge : List Part → Res (Cells × List ℤ)
  judge before = at word (proposal ws) >>= judging before

  -- turned down with a number, at the statement's word
  data Turned (before : List Part) : Fault → Type 0 where
    turned : {n : ℕ} → Fails program kept asked S before ws n → Turned before (refused n word)

  fails-sound : Sized S → (before : List Part) → counted program kept asked.own S ≡ got before → (f : Fault) → judge before ≡ stop f → Turned before f
  fails-sound sized before c f e = either (proposal ws)
      (λ x p. reads x.0 x.1 p (rw p at e))
      (λ k p. unread ws refl k p (stop-inj (rw p at e)))
    where
      unread : (us : List ℤ) → ws ≡ us → (k : ℕ) → proposal ws ≡ stop k → refused k word ≡ f → Turned before f
      unread [] q k p i = let z : 6 ≡ k = stop-inj (sym proposal-none ∙ rw q at p) in rw (← i, ← z) (turned (no_words q))
      unread (u ∷ us) q k p i =
          let n : ws ≡ [] → ⊥ = λ z. let y : ◌≡◌ {A = ℕ} 0 1 = cc in omega arith in
          rw (← i, proposal-stop ws k p n) (turned (not_formed n (λ es rest g. stop≢got (sym p ∙ (formed-iff ws es rest).1 g))))

      reads : (es : List Entry) (rest : List ℤ) → proposal ws ≡ got (es, rest) → judging before (es, rest) ≡ stop f → Turned before f
      reads es rest p e =
          let formed = (formed-iff ws es rest).0 p in
          failed (refused 17 word) (entries_fit S asked.target es) _ e
          (λ r i. rw (← i) (turned (not_allowed formed (λ a. true≢false (sym ((allowed-iff S asked.target es).1 a) ∙ r)))))
          (λ fits k1. let allowed = (allowed-iff S asked.target es).0 fits in
          failed (refused 18 word) (not (all_hold before) || none? es) _ k1
          (λ r i. rw (← i) (turned (not_needed formed allowed (λ n. true≢false (sym ((needed-iff before es).1 n) ∙ r)))))
          (λ need k2. let puts = (puts-iff S es (applied S es)).0 refl in
          let again = counted-again asked S (applied S es) (formed-near asked S sized formed allowed puts) program kept asked.own before c in
          failed (refused 19 word) (required_hold again.parts) _ (rw again.is at k2)
          (λ r i. rw (← i) (turned (not_met formed allowed ((needed-iff before es).0 need) puts ((counted-iff program (applied S es) kept asked.own again.parts).0 again.is)
          (λ m. true≢false (sym ((met-iff again.parts).1 m) ∙ r)))))
          (λ m k3. stop≢got (sym k3))))

  fails-complete : {before : List Part} {n : ℕ} → Fails program kept asked S before ws n → judge before ≡ stop (refused n word)
  fails-complete (no_words e) = rw (e, proposal-none)
  fails-complete (not_formed n f) = either (proposal ws)
      (λ x e. absurd (f x.0 x.1 ((formed-iff ws x.0 x.1).0 e)))
      (λ k e. rw (e, proposal-stop ws k e n))
  fails-complete (not_allowed {es} {rest} f a) = rw ((formed-iff ws es rest).1 f, fails (entries_fit S asked.target es) (λ t. a ((allowed-iff S asked.target es).0 t)))
  fails-complete {before} (not_needed {es} {rest} f a n) =
      rw ((formed-iff ws es rest).1 f, (allowed-iff S asked.target es).1 a, fails (not (all_hold before) || none? es) (λ t. n ((needed-iff before es).0 t)))
  fails-complete {before} (not_met {es} {rest} {Z} {after} f a n z r m) =
      rw (
        (formed-iff ws es rest).1 f,
        (allowed-iff S asked.target es).1 a,
        (needed-iff before es).1 n,
        (puts-iff S es Z).1 z,
        (counted-iff program Z kept asked.own after).1 r,
        fails (required_hold after) (λ t. m ((met-iff after).0 t)),
      )

  turned-unsettled : {before : List Part} {f : Fault} → CountedAre program kept S asked.own before → asked.room ≡ true → Turned before f → Unsettled program kept asked word S ws f
  turned-unsettled c r (turned a) = turned-down c r a

  pub unsettled-complete : {f : Fault} → Unsettled program kept asked word S ws f → settle program kept asked word S ws ≡ stop f
  unfolding settle
  unsettled-complete (uncounted u) = stops_then _ (uncounted-complete program S kept u)
  unsettled-complete (no_room {before = before} c r) = rw ((counted-iff program S kept asked.own before).1 c, r)
  unsettled-complete (turned-down {before = before} c r a) = rw ((counted-iff program S kept asked.own before).1 c, r) (fails-complete a)

  module _ (sized : Sized S) (worded : Worded program S (positions kept Values)) where
    pub unsettled-sound : (f : Fault) → settle program kept asked word S ws ≡ stop f → (f.number ≡ 2 → ⊥) → Unsettled program kept asked word S ws f
    unfolding settle
    unsettled-sound f e two =
        stopped (counted program kept asked.own S) _ e (λ e1. uncounted (uncounted-sound program S kept asked.own f worded e1 two)) λ before c k.
        let counts = (counted-iff program S kept asked.own before).0 c in
        failed (refused 14 word) asked.room _ k (λ r i. rw (← i) (no_room counts r)) (λ r k1. turned-unsettled counts r (fails-sound sized before c f k1))

-- there is no third way, and no two ways
pub every-judged : EveryJudged
unfolding settle
every-judged program kept asked word S before ws sized counts room = record {
  some = either (settle program kept asked word S ws)
      (λ x e. inl (x.0, (x.1, (settle-iff program kept asked word S ws x.0 x.1).0 e)))
      (λ f e. inr (f, turned-unsettled program kept asked word S ws counts room (fails-sound program kept asked word S ws sized before read f (rw (read, room) at e))));
  never_both = λ {f} {Z} {rest} a u. stop≢got (sym (stops u) ∙ accepts a);
  one_number = λ {f} {g} u v. stop-inj (sym (stops u) ∙ stops v);
  one_state = λ {Z} {Y} {rest} {left} a b. let e : ◌≡◌ {A = Cells × List ℤ} (Z, rest) (Y, left) = got-inj (sym (accepts a) ∙ accepts b) in
      (ap (λ (x : Cells × List ℤ). x.0) e, ap (λ (x : Cells × List ℤ). x.1) e);
}
  where
    read : counted program kept asked.own S ≡ got before
    read = (counted-iff program S kept asked.own before).1 counts

    accepts : {Z : Cells} {rest : List ℤ} → Settles program kept asked S ws Z rest → settle program kept asked word S ws ≡ got (Z, rest)
    accepts {Z} {rest} s = (settle-iff program kept asked word S ws Z rest).1 s

    stops : {f : Fault} → Unsettled program kept asked word S ws f → settle program kept asked word S ws ≡ stop f
    stops u = unsettled-complete program kept asked word S ws u
