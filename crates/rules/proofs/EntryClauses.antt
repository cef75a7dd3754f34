-- A list of entries, clause by clause: the laws by which code and rules know it. Assumes nothing.
use mathlib.Core.Path.{◌≡◌, refl}
use Prim.Native.Nat.{ℕ, zero, suc, ◌-◌, ◌<◌, ◌≤◌}
use native.Mathlib.Omega.{arith}
use mathlib.Core.Bool.{false}
use mathlib.Core.List.{List, [], ◌∷◌}
use lib.IntN.{ℤ}
use lib.ListN.{length}
use Rattle.words.specs.Words.{number_at, number_of}
use Rattle.words.specs.Answer.{got, stop}
use Rattle.words.proofs.AnswerLaws.{either}
use Rattle.program.specs.Reading.{read_path, read_expression}
use Rattle.program.specs.Grammar.{Takes}
use Rattle.program.proofs.NumberLaws.{number-low, number-high, number_fits_lem}
use Rattle.rules.specs.State.{State, Fault}
use Rattle.rules.specs.Statements.{Left, place_of, do_assign}
use Rattle.rules.specs.Running.{Tally, on, end, one_more, leaves, taken}
use Rattle.rules.specs.Start.{Early, Ended, starts, given_by, tally_from}
use Rattle.rules.specs.Entries.{read_entry, assigning, do_entry, onwards, judged, next_entry, do_entries, assigns}
use Rattle.rules.specs.Rules.Entries.{Entry}
use Rattle.rules.proofs.RunningClauses.{paid-on, paid-ends}
use Rattle.rules.proofs.EntryWords.{entry-sound}

-- ---- the words of an entry

module _ (p : List ℤ) where
  pub entry-path : {r : List ℤ} → read_path p ≡ stop r → read_entry p ≡ stop r
  unfolding read_entry
  entry-path e = rw e

  module _ {q : List ℤ} (e : read_path p ≡ got q) where
    pub entry-low : number_at q 0 < 20 → read_entry p ≡ stop q
    unfolding read_entry
    entry-low h = rw (e, number-low 20 23 q h)

    pub entry-high : 23 < number_at q 0 → read_entry p ≡ stop q
    unfolding read_entry
    entry-high h = let k : 20 ≤ number_at q 0 = omega arith in rw (e, number-high 20 23 q k h)

    pub entry-literal : 20 ≤ number_at q 0 → number_at q 0 ≤ 23 → read_entry p ≡ read_expression 1 false q
    unfolding read_entry
    entry-literal h k = rw (e, number_fits_lem 20 23 q h k)

-- ---- what p begins with

pub data Begins : List ℤ → Type 0 where
  nothing : Begins []
  unfit : {w : ℤ} {p r : List ℤ} → read_entry (w ∷ p) ≡ stop r → Begins (w ∷ p)
  reads : {p q : List ℤ} → Takes Entry p q → Begins p

pub begins : (p : List ℤ) → Begins p
begins [] = nothing
begins (w ∷ p) = either (read_entry (w ∷ p)) (λ q e. reads (entry-sound (w ∷ p) q e)) (λ r e. unfit e)

-- ---- one entry

module _ (program : List ℤ) (budget i : ℕ) (s : List ℤ) (t : Tally) where
  pub entry-unpaid : budget ≤ t.steps → do_entry program budget i s t ≡ end 5 i t
  unfolding do_entry
  entry-unpaid h = rw (paid-ends budget i t h)

  pub entry-goes : {l : Left} → t.steps < budget → do_assign program s t.state t.unread ≡ got l → do_entry program budget i s t ≡ on (leaves l (one_more t))
  unfolding do_entry taken
  entry-goes h e = rw (paid-on budget i t h, e)

  pub entry-stops : {f : Fault} → t.steps < budget → do_assign program s t.state t.unread ≡ stop f → do_entry program budget i s t ≡ end f.number (place_of program f) (one_more t)
  unfolding do_entry taken
  entry-stops h e = rw (paid-on budget i t h, e)

-- ---- an entry and those after it

module _ (more : Tally → Ended) (i : ℕ) where
  pub onwards-on : (u : Tally) → onwards more i (on u) ≡ more u
  unfolding onwards
  onwards-on u = refl

  pub onwards-end : (n place : ℕ) (u : Tally) → onwards more i (end n place u) ≡ given_by n i u
  unfolding onwards
  onwards-end n place u = refl

module _ (more : List ℤ → Tally → Ended) (program : List ℤ) (budget i : ℕ) (t : Tally) where
  pub next-none : next_entry more program budget i [] t ≡ given_by 0 i t
  unfolding next_entry
  next-none = refl

  pub next-unfit : (p : List ℤ) {r : List ℤ} → 0 < length p → read_entry p ≡ stop r → next_entry more program budget i p t ≡ given_by 23 i t
  unfolding next_entry judged
  next-unfit [] h e = absurd (omega arith)
  next-unfit (w ∷ p) h e = rw e

  pub next-got : (p q : List ℤ) → 0 < length p → read_entry p ≡ got q → next_entry more program budget i p t ≡ onwards (λ u. more q u) i (do_entry program budget i (assigning p q) t)
  unfolding next_entry judged
  next-got [] q h e = absurd (omega arith)
  next-got (w ∷ p) q h e = rw e

-- ---- all of them

module _ (program : List ℤ) (budget : ℕ) where
  pub entries_none : (fuel i : ℕ) (t : Tally) → do_entries fuel program budget i [] t ≡ given_by 0 i t
  unfolding do_entries next_entry
  entries_none zero i t = refl
  entries_none (suc fuel) i t = refl

  pub entries-open : (fuel i : ℕ) (p : List ℤ) (t : Tally) → 0 < fuel
      → do_entries fuel program budget i p t ≡ next_entry (λ q u. do_entries (fuel - 1) program budget (suc i) q u) program budget i p t
  unfolding do_entries
  entries-open zero i p t h = absurd (omega arith)
  entries-open (suc fuel) i p t h = let k : suc fuel - 1 ≡ fuel = omega arith in rw k refl

-- ---- the call

module _ (program entries ws : List ℤ) (budget : ℤ) (S : State) where
  pub assigns-early : {e : Early} → starts program budget S ≡ stop e → assigns program entries ws budget S ≡ given_by e.number e.place (tally_from S ws)
  unfolding assigns
  assigns-early e = rw e

  pub assigns-go : starts program budget S ≡ got tt → assigns program entries ws budget S ≡ do_entries (length entries) program (number_of budget) 0 entries (tally_from S ws)
  unfolding assigns
  assigns-go e = rw e
