-- The rules of blocks, if and while (000, 6.1.2, narrowed by document 01): to which tally a block leads, or where it is refused, with which number.
-- No rule knows a fuel; a step is paid where 01 says so. Assumes nothing: these are definitions.
use Rattle.std.specs.Prelude.{ℕ, suc, ◌+◌, ◌<◌, ◌≤◌, Bool, true, false, List, ◌∷◌, ℤ, pos}
use Rattle.tables.specs.declared.Value.TheVariants.{Bool as Truth}
use Rattle.program.specs.Forms.{expression_depth, most_statements}
use Rattle.program.specs.Grammar.{block_of, statement_of, Yields, Takes}
use Rattle.rules.specs.State.{Fault}
use Rattle.rules.specs.Statements.{Left, position_of, place_of}
use Rattle.rules.specs.Running.{Tally, Out, on, end}
use Rattle.rules.specs.Rules.Expressions.{Within, Untested}
use Rattle.rules.specs.Rules.Statements.{Steps, Refused}

-- what runs: a block, a statement whose step is paid, a while that is about to test the expression at p, n statements in a row; each with the nesting left
pub data Code : Type 0 where
  block statement turning : ℕ → List ℤ → Code
  statements : ℕ → ℕ → List ℤ → Code

-- "A statement begun costs a step .. each later test of a while costs one"
abbrev pub begun : Tally → Tally
begun t = record { state = t.state; unread = t.unread; steps = suc t.steps; accepted = t.accepted; tests = t.tests }

-- the tally after a statement that left l, and after a test
abbrev pub afterwards : Left → Tally → Tally
afterwards l t = record { state = l.state; unread = l.unread; steps = t.steps; accepted = t.accepted + l.accepted; tests = t.tests }

abbrev pub knowing : Bool → Tally → Tally
knowing b t = record { state = t.state; unread = t.unread; steps = t.steps; accepted = t.accepted; tests = b ∷ t.tests }

-- the code takes the tally t to an end: it goes on with a tally, or ends with a number, a place and the tally of the last accepted statement;
-- "every statement passes it up as the place" (02, W2): the word at fault
pub data Runs (program : List ℤ) (budget : ℕ) : Code → Tally → Out → Type 0 where
  r_block : {d n : ℕ} {p : List ℤ} {t : Tally} {o : Out} → n ≤ most_statements → Runs program budget (statements d n p) t o → Runs program budget (block (suc d) (pos n ∷ p)) t o
  -- S-SEQ; 5 "next step would pass the budget"
  r_none : {d : ℕ} {p : List ℤ} {t : Tally} → Runs program budget (statements d 0 p) t (on t)
  r_some : {d n : ℕ} {p q : List ℤ} {t u : Tally} {o : Out} → t.steps < budget → Runs program budget (statement d p) (begun t) (on u) → Takes (Yields (statement_of d)) p q
      → Runs program budget (statements d n q) u o → Runs program budget (statements d (suc n) p) t o
  r_unpaid : {d n : ℕ} {p : List ℤ} {t : Tally} → budget ≤ t.steps → Runs program budget (statements d (suc n) p) t (end 5 (position_of program p) t)
  r_ended : {d n k place : ℕ} {p : List ℤ} {t u : Tally}
      → t.steps < budget → Runs program budget (statement d p) (begun t) (end k place u) → Runs program budget (statements d (suc n) p) t (end k place u)
  r_simple : {d : ℕ} {p : List ℤ} {t : Tally} {l : Left} → Steps program t.state t.unread p l → Runs program budget (statement d p) t (on (afterwards l t))
  r_refused : {d : ℕ} {f : Fault} {p : List ℤ} {t : Tally} → Refused program t.state t.unread p f → Runs program budget (statement d p) t (end f.number (place_of program f) t)
  -- S-IFTHEN, S-IFELSE
  r_then : {d : ℕ} {p q : List ℤ} {t : Tally} {o : Out}
      → Within t.state.cells expression_depth p (Truth true) q → Runs program budget (block d q) (knowing true t) o → Runs program budget (statement d (pos 7 ∷ p)) t o
  r_else : {d : ℕ} {p q r : List ℤ} {t : Tally} {o : Out}
      → Within t.state.cells expression_depth p (Truth false) q → Takes (Yields (block_of d)) q r → Runs program budget (block d r) (knowing false t) o → Runs program budget (statement d (pos 7 ∷ p)) t o
  r_no_if : {d : ℕ} {f : Fault} {p : List ℤ} {t : Tally}
      → Untested t.state.cells false p p f → Runs program budget (statement d (pos 7 ∷ p)) t (end f.number (place_of program f) t)
  -- S-WHILESKIP, S-WHILEDO
  r_while : {d : ℕ} {p : List ℤ} {t : Tally} {o : Out} → Runs program budget (turning d p) t o → Runs program budget (statement d (pos 8 ∷ p)) t o
  r_stop : {d : ℕ} {p q : List ℤ} {t : Tally} → Within t.state.cells expression_depth p (Truth false) q → Runs program budget (turning d p) t (on (knowing false t))
  r_go : {d : ℕ} {p q : List ℤ} {t u : Tally} {o : Out}
      → Within t.state.cells expression_depth p (Truth true) q → Runs program budget (block d q) (knowing true t) (on u) → u.steps < budget → Runs program budget (turning d p) (begun u) o
      → Runs program budget (turning d p) t o
  r_no_turn : {d : ℕ} {p q : List ℤ} {t u : Tally}
      → Within t.state.cells expression_depth p (Truth true) q → Runs program budget (block d q) (knowing true t) (on u) → budget ≤ u.steps
      → Runs program budget (turning d p) t (end 5 (position_of program (pos 8 ∷ p)) u)
  r_broken : {d n place : ℕ} {p q : List ℤ} {t u : Tally}
      → Within t.state.cells expression_depth p (Truth true) q → Runs program budget (block d q) (knowing true t) (end n place u) → Runs program budget (turning d p) t (end n place u)
  r_no_while : {d : ℕ} {f : Fault} {p : List ℤ} {t : Tally} → Untested t.state.cells false p p f → Runs program budget (turning d p) t (end f.number (place_of program f) t)
