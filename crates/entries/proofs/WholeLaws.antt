-- What a list hands back is the rules' answer, whole. Assumes nothing.
use mathlib.Core.Path.{◌≡◌, refl, sym, ◌∙◌}
use mathlib.Core.List.{List, [], ◌∷◌, Memᴰ as OneOf}
use Prim.Native.Nat.{ℕ, ◌≤◌, ◌<◌}
use native.Mathlib.Omega.{arith}
use native.Mathlib.Decide.{dec_lt}
use lib.IntN.{ℤ}
use lib.ListN.{length}
use Rattle.std.specs.Prelude.{Result, Err}
use Rattle.words.specs.Words.{number_of, word_of, last_of}
use Rattle.words.specs.Answer.{got}
use Rattle.rules.specs.State.{State}
use Rattle.rules.specs.Start.{Ended, starts, given_by, tally_from}
use Rattle.rules.specs.Entries.{do_entries, assigns}
use Rattle.rules.specs.Rules.Proposals.{Each, none, more}
use Rattle.rules.specs.Rules.Entries.{Listed, unstarted, started}
use Rattle.rules.specs.Claims.Entries.{Kept}
use Rattle.rules.proofs.EntryClauses.{assigns-early, assigns-go}
use Rattle.rules.proofs.EntryRules.{entries-rules}
use Rattle.rules.proofs.EntryFacts.{entries-answers}
use Rattle.rules.proofs.EntrySteps.{numbers}
use Rattle.lent.specs.declared.Tally.{Tally}
use Rattle.run.specs.declared.Early.{Early as Stopped}
use Rattle.run.specs.Told.{started_of, Meets}
use Rattle.run.proofs.ExactLaws.{Exact, early-small}
use Rattle.run.proofs.WholeLaws.{meets, refuses}
use Rattle.entries.specs.Told.{given_of}

-- ---- the numbers of every answer fit a word

few : Each (λ n. n ≤ 23) numbers
few =
    more {x = 0} (omega arith) (more {x = 1} (omega arith) (more {x = 2} (omega arith) (more {x = 3} (omega arith) (more {x = 4} (omega arith) (more {x = 5} (omega arith)
    (more {x = 6} (omega arith) (more {x = 7} (omega arith) (more {x = 12} (omega arith) (more {x = 13} (omega arith) (more {x = 15} (omega arith) (more {x = 16} (omega arith)
    (more {x = 17} (omega arith) (more {x = 18} (omega arith) (more {x = 19} (omega arith) (more {x = 23} (omega arith) none)))))))))))))))

among : {n : ℕ} {ns : List ℕ} → Each (λ k. k ≤ 23) ns → OneOf n ns → n ≤ 23
among none m = elim m [ ]
among (more h hs) (OneOf.head e) = rw e h
among (more h hs) (OneOf.tail m) = among hs m

module _ (program entries ws : List ℤ) (budget : ℤ) (S : State) where
  exact-of : {e : Ended} → Listed program entries ws budget S e → Kept program entries ws budget S e → Exact e
  exact-of (unstarted u) k = record { outcome = omega (arith, among few k.known); place = early-small u; steps = omega arith; accepted = omega arith }
  exact-of {e} (started p r) k =
      record {
        outcome = omega (arith, among few k.known);
        place = go (dec_lt 4 e.outcome) (dec_lt 0 e.outcome);
        steps = omega (arith, k.steps, p.0.few);
        accepted = omega (arith, k.steps, k.accepted, p.0.few);
      }
    where
      went : (1 ≤ e.outcome → 5 ≤ e.outcome) → e.place < 2147483648
      went h = omega (arith, (k.went h).0, k.steps, k.accepted, p.0.few)

      go : Dec (4 < e.outcome) → Dec (0 < e.outcome) → e.place < 2147483648
      go (yes a) b = went (λ c. a)
      go (no a) (no b) = went (λ c. absurd (b c))
      go (no a) (yes b) = early-small (k.early b (omega arith)).0

  exact : Exact (assigns program entries ws budget S)
  exact =
      let r = (entries-rules program entries ws budget S (assigns program entries ws budget S)).0 refl in
      exact-of r (entries-answers program entries ws budget S (assigns program entries ws budget S) r)

  -- ---- a list that did not begin, and one that did

  pub meets-early : {h : Result (Unit {0}) Stopped} {f : Stopped} {answer : List ℤ} → h ≡ started_of (starts program budget S) → h ≡ Err f
      → answer ≡ word_of f.number ∷ word_of f.place ∷ word_of 0 ∷ word_of 0 ∷ [] → Meets S answer ws (assigns program entries ws budget S)
  meets-early {f = f} e h a = meets exact (given_by f.number f.place (tally_from S ws)) (assigns-early program entries ws budget S (refuses program budget S e h)) a refl refl

  pub meets-listed : {Z : State} (r : Tally) {answer : List ℤ} → starts program budget S ≡ got tt
      → given_of ws Z r ≡ do_entries (length entries) program (number_of budget) 0 entries (tally_from S ws)
      → answer ≡ word_of r.outcome ∷ word_of r.place ∷ word_of r.steps ∷ word_of r.accepted ∷ [] → Meets Z answer (last_of r.unread ws) (assigns program entries ws budget S)
  meets-listed {Z} r x e a = meets exact (given_of ws Z r) (assigns-go program entries ws budget S x ∙ sym e) a refl refl
