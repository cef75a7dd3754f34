-- Blocks, while, the budget and the tally (01, "What comes back"). Assumes nothing: these are definitions.
use Rattle.std.specs.Prelude.{ℕ, zero, suc, ◌+◌, Bool, true, false, List, ◌∷◌, ltb, ℤ, drop}
use Rattle.words.specs.Words.{number_at}
use Rattle.words.specs.Answer.{got, stop, ◌>>=◌, ◌>>◌, want}
use Rattle.tables.specs.Cells.{Cells}
use Rattle.program.specs.Forms.{expression_depth, most_statements}
use Rattle.program.specs.Forms.{verb_of}
use Rattle.program.specs.declared.Verb.{Verb}
use Rattle.program.specs.declared.Verb.TheVariants.{Skip as skip, Assign as assign, New as new, Always as always, Once as once, AlwaysSame as always_same, OnceSame as once_same, If as branch, While as loop, Unknown as no_verb}
use Rattle.program.specs.Reading.{number, read_expression, read_block, read_statement, after}
use Rattle.rules.specs.State.{State, Res, refused}
use Rattle.rules.specs.Evaluation.{a_bool, kind_of, bool_of, evaluate}
use Rattle.rules.specs.Statements.{Left, position_of, place_of, do_simple}

-- "One tally of steps, proposals and words read is carried through a run"; with the state, and how the tests of if and while came out, the last first
pub record Tally : Type 0 where
  pub state : State
  pub unread : List ℤ
  pub steps : ℕ
  pub accepted : ℕ
  pub tests : List Bool

-- what a piece comes to: it goes on, or ends with a refusal's number and place
pub data Out : Type 0 where
  on : Tally → Out
  end : ℕ → ℕ → Tally → Out

abbrev pub then_out : Out → (Tally → Out) → Out
then_out (on t) f = f t
then_out (end n place t) f = end n place t

-- "A statement begun costs a step .. each later test of a while costs one": 5 "next step would pass the budget"
abbrev pub one_more : Tally → Tally
one_more t = record { state = t.state; unread = t.unread; steps = suc t.steps; accepted = t.accepted; tests = t.tests }

unfoldable pub paid : ℕ → ℕ → Tally → Out
paid budget place t = elim (ltb t.steps budget) [ true ↦ on (one_more t) | false ↦ end 5 place t ]

abbrev pub leaves : Left → Tally → Tally
leaves l t = record { state = l.state; unread = l.unread; steps = t.steps; accepted = t.accepted + l.accepted; tests = t.tests }

-- "every statement passes it up as the place" (02, W2): the word at fault, which is the statement's own unless a path, an operator, a part, a side or a test is
unfoldable pub taken : List ℤ → Tally → Res Left → Out
taken program t (got l) = on (leaves l t)
taken program t (stop f) = end f.number (place_of program f) t

abbrev pub noted : Bool → Tally → Tally
noted b t = record { state = t.state; unread = t.unread; steps = t.steps; accepted = t.accepted; tests = b ∷ t.tests }

-- "If, while test a boolean"
unfoldable pub test : Cells → List ℤ → Res Bool
test S p = do
  (v, q) ← evaluate expression_depth S p
  want (refused 8 p) (a_bool (kind_of v))
  got (bool_of v)

unfoldable pub tested : List ℤ → Tally → Res Bool → (Tally → Out) → (Tally → Out) → Out
tested program t (got true) f g = f (noted true t)
tested program t (got false) f g = g (noted false t)
tested program t (stop e) f g = end e.number (place_of program e) t

-- a while at this place whose test is at p; the fuel is more than the budget allows turns, so that it never runs out
unfoldable pub turns : (Tally → Out) → List ℤ → ℕ → ℕ → List ℤ → ℕ → Tally → Out
turns body program budget place p zero t = end 5 place t
turns body program budget place p (suc fuel) t =
    tested program t (test t.state.cells p)
    (λ u. then_out (body u) λ w. then_out (paid budget place w) λ z. turns body program budget place p fuel z)
    (λ u. on u)

-- the part after the test of the if or while at p
abbrev pub past_test : List ℤ → List ℤ
past_test p = after (read_expression expression_depth false (drop 1 p))

-- the statement at p, whose step is paid; `block` runs a block that it holds, and `past` is the part after one
unfoldable pub do_verb : (List ℤ → Tally → Out) → (List ℤ → List ℤ) → List ℤ → ℕ → List ℤ → Verb → Tally → Out
do_verb block past program budget p skip t = taken program t (do_simple program p t.state t.unread skip)
do_verb block past program budget p assign t = taken program t (do_simple program p t.state t.unread assign)
do_verb block past program budget p new t = taken program t (do_simple program p t.state t.unread new)
do_verb block past program budget p always t = taken program t (do_simple program p t.state t.unread always)
do_verb block past program budget p once t = taken program t (do_simple program p t.state t.unread once)
do_verb block past program budget p always_same t = taken program t (do_simple program p t.state t.unread always_same)
do_verb block past program budget p once_same t = taken program t (do_simple program p t.state t.unread once_same)
do_verb block past program budget p branch t =
    tested program t (test t.state.cells (drop 1 p)) (λ u. block (past_test p) u) (λ u. block (past (past_test p)) u)
do_verb block past program budget p loop t =
    turns (λ u. block (past_test p) u) program budget (position_of program p) (drop 1 p) (suc budget) t
do_verb block past program budget p no_verb t = end 2 (position_of program p) t

unfoldable pub do_statement : (List ℤ → Tally → Out) → (List ℤ → List ℤ) → List ℤ → ℕ → List ℤ → Tally → Out
do_statement block past program budget p t =
    then_out (paid budget (position_of program p) t) λ u. do_verb block past program budget p (verb_of (number_at p 0)) u

unfoldable pub do_statements : (List ℤ → Tally → Out) → ℕ → List ℤ → ℕ → ℕ → List ℤ → Tally → Out
do_statements block d program budget zero p t = on t
do_statements block d program budget (suc n) p t =
    then_out (do_statement block (λ q. after (read_block d q)) program budget p t) λ u.
    do_statements block d program budget n (after (read_statement d p)) u

-- the block at p, nested at most d deep; one that does not read ends with 2 at its word, which in a program that reads does not come up
unfoldable pub do_block : ℕ → List ℤ → ℕ → List ℤ → Tally → Out
do_block zero program budget p t = end 2 (position_of program p) t
do_block (suc d) program budget p t =
    elim (number 0 most_statements p) [
      | got x ↦ do_statements (λ q u. do_block d program budget q u) d program budget x.0 x.1 t
      | stop q ↦ end 2 (position_of program q) t
    ]
