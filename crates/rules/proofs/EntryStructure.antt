-- Two lists of the same entries that both go through leave one structure. Assumes nothing.
use mathlib.Core.Path.{◌≡◌, refl, sym, ◌∙◌}
use Prim.Native.Nat.{ℕ, suc, ◌<◌, ◌≤◌}
use native.Mathlib.Omega.{arith}
use mathlib.Core.List.{List, ◌∷◌}
use lib.IntN.{ℤ, pos}
use lib.ListN.{length}
use Rattle.words.specs.Words.{number_of}
use Rattle.words.proofs.AnswerLaws.{got-inj}
use Rattle.program.specs.declared.Verb.TheVariants.{Assign as assign}
use Rattle.program.specs.Grammar.{Takes}
use Rattle.rules.specs.State.{State}
use Rattle.rules.specs.Statements.{Left, do_simple}
use Rattle.rules.specs.Running.{Tally}
use Rattle.rules.specs.Start.{Ended}
use Rattle.rules.specs.Structure.{SameState}
use Rattle.rules.specs.Rules.Statements.{Steps}
use Rattle.rules.specs.Rules.Runs.{begun, afterwards}
use Rattle.rules.specs.Rules.Answers.{given}
use Rattle.rules.specs.Rules.Entries.{Entry, Sets, e_none, e_unfit, e_unpaid, e_refused, e_more, unstarted, started}
use Rattle.rules.specs.Claims.Entries.{EntriesStructure}
use Rattle.rules.specs.Steps.Holds.{Holds}
use Rattle.rules.proofs.Structure.{state-refl}
use Rattle.rules.proofs.SameStatements.{simple}
use Rattle.rules.proofs.RunFacts.{unstarted-low}
use Rattle.rules.proofs.EntryWords.{entry-reads, takes-shorter, assigning-is}
use Rattle.rules.proofs.EntryRules.{entry-steps, entry-holds, passes-hold}
use Rattle.rules.proofs.EntrySteps.{entry-number}

-- two readings of one entry
pub record SameEntry (a b q r : List ℤ) : Type 0 where
  pub words : a ≡ b
  pub rest : q ≡ r

pub same-entry : {p q r : List ℤ} (x : Takes Entry p q) (y : Takes Entry p r) → SameEntry x.words y.words q r
same-entry {p} {q} {r} x y =
    let e : q ≡ r = got-inj (sym (entry-reads x) ∙ entry-reads y) in
    let k = assigning-is x in
    let j = assigning-is y in
    record { words = cc; rest = e }

-- the first entry of a list that goes through, and the list after it
record Through (program : List ℤ) (budget i : ℕ) (p : List ℤ) (t : Tally) (e : Ended) : Type 0 where
  q : List ℤ
  first : Takes Entry p q
  left : Left
  steps : Steps program t.state t.unread (pos 1 ∷ first.words) left
  more : Sets program budget (suc i) q (afterwards left (begun t)) e

through : {program : List ℤ} {budget i : ℕ} {p : List ℤ} {t : Tally} {e : Ended} → Sets program budget i p t e → e.outcome ≡ 0 → 0 < length p → Through program budget i p t e
through e_none z h = absurd (omega arith)
through (e_unfit n) z h = absurd (omega arith)
through (e_unpaid x b) z h = absurd (omega arith)
through (e_refused x b r) z h = absurd (omega (arith, (entry-number x.piece r).least))
through (e_more {q = q} {l = l} x b s r) z h = record { q = q; first = x; left = l; steps = s; more = r }

-- no entry is left
no_entry : {program : List ℤ} {budget i : ℕ} {p : List ℤ} {t : Tally} {e : Ended} → Sets program budget i p t e → length p ≤ 0 → e ≡ given 0 i t
no_entry e_none h = refl
no_entry (e_unfit n) h = absurd (omega arith)
no_entry (e_unpaid x b) h = absurd (omega (arith, takes-shorter x))
no_entry (e_refused x b r) h = absurd (omega (arith, takes-shorter x))
no_entry (e_more x b s r) h = absurd (omega (arith, takes-shorter x))

module _ (program : List ℤ) (budget budget' : ℕ) where
  -- one entry in two lists
  one_same : {x : List ℤ} (S Z : State) (ws us : List ℤ) (l m : Left) → Entry x → Holds program S → Holds program Z → SameState S Z
      → Steps program S ws (pos 1 ∷ x) l → Steps program Z us (pos 1 ∷ x) m → SameState l.state m.state
  unfolding do_simple
  one_same {x} S Z ws us l m e h g same s r =
      (simple program (pos 1 ∷ x) assign).two S Z ws us l m same h.fit.sized g.fit.sized ((entry-steps program e S ws h l).1 s) ((entry-steps program e Z us g m).1 r)

  lists-same : {i : ℕ} {p : List ℤ} {t u : Tally} {a b : Ended} → Sets program budget i p t a → a.outcome ≡ 0 → Sets program budget' i p u b → b.outcome ≡ 0
      → Holds program t.state → Holds program u.state → SameState t.state u.state → SameState a.state b.state
  lists-same e_none z r y h g same = rw (no_entry r (omega arith)) same
  lists-same (e_unfit n) z r y h g same = absurd (omega arith)
  lists-same (e_unpaid x b) z r y h g same = absurd (omega arith)
  lists-same (e_refused x b f) z r y h g same = absurd (omega (arith, (entry-number x.piece f).least))
  lists-same {u = u} {b = c} (e_more {i = i} {q = q} {t = t} {l = l} x b s k) z r y h g same =
      let w = through r y (omega (arith, takes-shorter x)) in
      let e = same-entry x w.first in
      let m : Steps program u.state u.unread (pos 1 ∷ x.words) w.left = rw (← e.words) at w.steps in
      let n : Sets program budget' (suc i) q (afterwards w.left (begun u)) c = rw (← e.rest) at w.more in
      lists-same k z n y (entry-holds program x.piece t.state t.unread h s) (entry-holds program x.piece u.state u.unread g m)
      (one_same t.state u.state t.unread u.unread l w.left x.piece h g same s m)

pub entries-structure : EntriesStructure
entries-structure program entries ws us budget budget' S a b (unstarted u) y e f = let low = unstarted-low u in absurd (omega (arith, low.0))
entries-structure program entries ws us budget budget' S a b (started p r) (unstarted u) e f = let low = unstarted-low u in absurd (omega (arith, low.0))
entries-structure program entries ws us budget budget' S a b (started p r) (started p' r') e f =
    lists-same program (number_of budget) (number_of budget') r e r' f (passes-hold program budget S p) (passes-hold program budget' S p') (state-refl S)
