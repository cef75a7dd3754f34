-- The tally of a run in numbers, and what a piece of a program makes of it; how the tests came out is not told. Assumes nothing: these are definitions.
use Rattle.std.specs.Prelude.{ℕ, zero, suc, ◌+◌, ◌-◌, ◌≤◌, ◌≡◌, Bool, true, false, List, [], ltb, ℤ, length, Result, Ok, Err}
use Rattle.words.specs.Words.{last_of}
use Rattle.rules.specs.State.{State}
use Rattle.rules.specs.Running.{Out, on, end}
use Rattle.rules.specs.Running.{Tally as Carries}
use Rattle.program.specs.declared.Refusal.{Refusal}
use Rattle.phases.specs.declared.Done.{Done}
use Rattle.lent.specs.declared.Tally.{Tally}

-- the rules' tally, for the code's: these tables, and the last words of the proposals
abbrev pub carries : List ℤ → State → Tally → Carries
carries ws S t = record { state = S; unread = last_of t.unread ws; steps = t.steps; accepted = t.accepted; tests = [] }

-- a run goes on while the outcome is 0
abbrev pub out_by : ℕ → ℕ → Carries → Out
out_by zero place u = on u
out_by (suc n) place u = end (suc n) place u

abbrev pub out_of : List ℤ → State → Tally → Out
out_of ws S t = out_by t.outcome t.place (carries ws S t)

-- how the tests came out is not told
abbrev pub untold : Carries → Carries
untold t = record { state = t.state; unread = t.unread; steps = t.steps; accepted = t.accepted; tests = [] }

abbrev pub untold_out : Out → Out
untold_out (on t) = on (untold t)
untold_out (end n place t) = end n place (untold t)

-- a piece that answers r and leaves the tables Z comes to what the rules say; a tally that goes on has no place
pub record Runs (ws : List ℤ) (Z : State) (r : Tally) (o : Out) : Type 0 where
  pub is : out_of ws Z r ≡ untold_out o
  pub few : r.accepted ≤ r.steps
  pub inside : r.unread ≤ length ws
  pub nowhere : r.outcome ≡ 0 → r.place ≡ 0

-- a tally that a run carries, and that a piece may begin with
pub record Begins (ws : List ℤ) (t : Tally) : Type 0 where
  pub few : t.accepted ≤ t.steps
  pub inside : t.unread ≤ length ws
  pub going : t.outcome ≡ 0
  pub nowhere : t.place ≡ 0

-- a piece that begins with t; no step is given back
pub record Goes (ws : List ℤ) (t : Tally) (Z : State) (r : Tally) (o : Out) : Type 0 where
  pub runs : Runs ws Z r o
  pub grows : t.steps ≤ r.steps

-- ---- what becomes of a tally

abbrev pub ended_at : ℕ → ℕ → Tally → Tally
ended_at n place t = record { steps = t.steps; accepted = t.accepted; unread = t.unread; outcome = n; place = place }

-- one step more
abbrev pub paid_one : Tally → Tally
paid_one t = record { steps = t.steps + 1; accepted = t.accepted; unread = t.unread; outcome = t.outcome; place = t.place }

abbrev paid_where : Bool → ℕ → Tally → Tally
paid_where true place t = paid_one t
paid_where false place t = ended_at 5 place t

-- 5: "next step would pass the budget"
abbrev pub paid_by : ℕ → ℕ → Tally → Tally
paid_by budget place t = paid_where (ltb t.steps budget) place t

abbrev pub accepted_in : Result Done Refusal → ℕ
accepted_in (Ok d) = d.accepted
accepted_in (Err f) = 0

-- what a statement without blocks leaves of the tally, in a program of so many words; where it is refused, the place is that of the word at fault
abbrev pub done_by : ℕ → Tally → Result Done Refusal → Tally
done_by long t (Ok d) = record { steps = t.steps; accepted = t.accepted + d.accepted; unread = d.unread; outcome = 0; place = 0 }
done_by long t (Err f) = ended_at f.number (long - f.word) t
