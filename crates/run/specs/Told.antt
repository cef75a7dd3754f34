-- What the code answers of a start and of a run. Assumes nothing: these are definitions.
use Rattle.std.specs.Prelude.{ℕ, ◌≡◌, List, [], ◌∷◌, ℤ, pos, Result, Ok, Err}
use Rattle.words.specs.Answer.{Answer, got, stop}
use Rattle.rules.specs.State.{State}
use Rattle.rules.specs.Start.{Early, Ended}
use Rattle.run.specs.declared.Early.{Early as Stopped}

-- all hold; or the position of the first that does not
abbrev pub held_of : Answer ℕ (Unit {0}) → Result (Unit {0}) ℕ
held_of (got u) = Ok tt
held_of (stop position) = Err position

-- a run may begin; or the refusal's number and place
abbrev pub started_of : Answer Early (Unit {0}) → Result (Unit {0}) Stopped
started_of (got u) = Ok tt
started_of (stop e) = Err (record { number = e.number; place = e.place })

-- "It gives outcome, place, steps, proposals accepted"
abbrev pub answer_of : Ended → List ℤ
answer_of e = pos e.outcome ∷ pos e.place ∷ pos e.steps ∷ pos e.accepted ∷ []

-- What a run leaves and hands back is the rules' answer, whole: the four words, the three tables, and the unread words of the proposals.
pub record Meets (Z : State) (answer unread : List ℤ) (e : Ended) : Type 0 where
  pub answers : answer ≡ answer_of e
  pub leaves : Z ≡ e.state
  pub hands_back : unread ≡ e.unread
