-- What a host in C or Rust gets back. Assumes nothing: these are definitions.
use Rattle.std.specs.Prelude.{ℕ, ◌≡◌, List, ℤ, length, take}
use Rattle.rules.specs.State.{State}
use Rattle.rules.specs.Start.{Ended}
use Rattle.rules.specs.Solvers.{Given}
use Rattle.rules.specs.Claims.Solvers.{slice_of}
use Rattle.run.specs.Told.{answer_of}
use Rattle.solvers.specs.Told.{answer_of as answer_of_two}

-- "A host program in C or Rust calls the run on numbers and word tables, and there gets the unread part as a count."
pub record Answers (Z : State) (answer : List ℤ) (unread : ℕ) (e : Ended) : Type 0 where
  pub answers : answer ≡ answer_of e
  pub leaves : Z ≡ e.state
  pub counts : unread ≡ length e.unread

-- "The call hands back the accepted words as a part of whichever slice they came from" (02, W6): there as a count of that slice's first words.
pub record Hands (first second : List ℤ) (Z : State) (answer : List ℤ) (words : ℕ) (e : Given) : Type 0 where
  pub answers : answer ≡ answer_of_two e
  pub leaves : Z ≡ e.state
  pub counts : words ≡ length e.words
  pub start : e.words ≡ take words (slice_of e.solver first second)
