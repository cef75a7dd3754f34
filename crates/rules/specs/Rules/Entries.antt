-- A list of entries, by the rules (02, W3): each is the assignment of document 01 with its words. Assumes nothing: these are definitions.
use Rattle.std.specs.Prelude.{ℕ, suc, ◌<◌, ◌≤◌, List, [], ◌∷◌, ◌++◌, ℤ, pos}
use Rattle.words.specs.Words.{number_of}
use Rattle.tables.specs.declared.Value.{Value}
use Rattle.program.specs.Grammar.{Path, Takes}
use Rattle.rules.specs.State.{State, Fault}
use Rattle.rules.specs.Statements.{Left}
use Rattle.rules.specs.Running.{Tally}
use Rattle.rules.specs.Start.{Ended}
use Rattle.rules.specs.Rules.Expressions.{Literal}
use Rattle.rules.specs.Rules.Statements.{Steps, Refused}
use Rattle.rules.specs.Rules.Runs.{begun, afterwards}
use Rattle.rules.specs.Rules.Answers.{Unstarted, Passes, first_tally, given}

-- "each an L and one of 20 to 23"
pub data Entry : List ℤ → Type 0 where
  entry : {a e : List ℤ} {v : Value} → Path a → Literal e v [] → Entry (a ++ e)

-- the entries at p, the first of which has the index i, give this from the tally t
pub data Sets (program : List ℤ) (budget : ℕ) : ℕ → List ℤ → Tally → Ended → Type 0 where
  -- "their number when all go through"
  e_none : {i : ℕ} {t : Tally} → Sets program budget i [] t (given 0 i t)
  -- "23 for an entry whose words are no target and literal, found at its turn, before 5"
  e_unfit : {i : ℕ} {w : ℤ} {p : List ℤ} {t : Tally} → ((q : List ℤ) → Takes Entry (w ∷ p) q → ⊥) → Sets program budget i (w ∷ p) t (given 23 i t)
  -- "Each one begun costs a step": 5 "next step would pass the budget"
  e_unpaid : {i : ℕ} {p q : List ℤ} {t : Tally} → Takes Entry p q → budget ≤ t.steps → Sets program budget i p t (given 5 i t)
  -- "up to the first refusal, with the entry's index, from 0, as place"
  e_refused : {i : ℕ} {p q : List ℤ} {t : Tally} {f : Fault} → (x : Takes Entry p q) → t.steps < budget
      → Refused program t.state t.unread (pos 1 ∷ x.words) f → Sets program budget i p t (given f.number i (begun t))
  e_more : {i : ℕ} {p q : List ℤ} {t : Tally} {l : Left} {e : Ended} → (x : Takes Entry p q) → t.steps < budget
      → Steps program t.state t.unread (pos 1 ∷ x.words) l → Sets program budget (suc i) q (afterwards l (begun t)) e → Sets program budget i p t e

-- the call gives this: 1 to 4 as a run does, or what the entries give
pub data Listed (program entries ws : List ℤ) (budget : ℤ) (S : State) : Ended → Type 0 where
  unstarted : {n place : ℕ} → Unstarted program budget S n place → Listed program entries ws budget S (given n place (first_tally S ws))
  started : {e : Ended} → Passes program budget S → Sets program (number_of budget) 0 entries (first_tally S ws) e → Listed program entries ws budget S e
