-- What the code answers, and what it leaves of the tables, for what the rules answer of a statement. A part is told by how many words are left in it.
-- Assumes nothing: these are definitions.
use Rattle.std.specs.Prelude.{◌≡◌, List, ℤ, length, Result, Ok, Err}
use Rattle.words.specs.Answer.{got, stop}
use Rattle.tables.specs.declared.View.{View}
use Rattle.tables.specs.declared.Tables.{Tables}
use Rattle.tables.specs.declared.Moving.{Moving}
use Rattle.tables.specs.Cells.{cells}
use Rattle.program.specs.declared.Refusal.{Refusal}
use Rattle.rules.specs.State.{State, Res}
use Rattle.rules.specs.Statements.{Left}
use Rattle.phases.specs.declared.Done.{Done}

-- the three lent tables
abbrev pub tables : List ℤ → List ℤ → List ℤ → State
tables e h c = record { cells = cells e h; kept = c }

-- as they are lent to be read, to be changed, and with the cells alone to be changed
abbrev pub state_seen : View → State
state_seen v = tables v.environment.now v.heap.now v.constraints.now

abbrev pub state_in : Tables → State
state_in t = tables t.environment.now t.heap.now t.constraints.now

abbrev pub state_moved : Moving → State
state_moved m = tables m.environment.now m.heap.now m.constraints.now

abbrev pub done_of : Res Left → Result Done Refusal
done_of (got l) = Ok (record { unread = length l.unread; accepted = l.accepted })
done_of (stop f) = Err f

-- the tables after a statement; those before it, word for word, where it is refused
abbrev pub done_state : State → Res Left → State
done_state S (got l) = l.state
done_state S (stop f) = S

pub record Does (S Z : State) (r : Result Done Refusal) (m : Res Left) : Type 0 where
  pub is : r ≡ done_of m
  pub leaves : Z ≡ done_state S m
