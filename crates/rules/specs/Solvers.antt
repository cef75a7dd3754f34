-- One statement with two proposals (02, W6), by the statement's own rule (Statements.do_simple). Assumes nothing: these are definitions.
use Rattle.std.specs.Prelude.{ℕ, ◌+◌, ◌*◌, Bool, false, not, cond, ◌&&◌, ◌||◌, List, [], ◌∷◌, eqb, ltb, leb, ℤ, pos, negsuc, length, drop, Option, Some, None}
use Rattle.words.specs.Words.{number_of, number_at}
use Rattle.words.specs.Answer.{Answer, got, stop, want}
use Rattle.fit.specs.Fit.{sized}
use Rattle.program.specs.Forms.{verb_of}
use Rattle.program.specs.Reading.{read_program}
use Rattle.program.specs.Where.{statement_at}
use Rattle.program.specs.declared.Spot.{Spot}
use Rattle.rules.specs.State.{State, Fault, Res}
use Rattle.rules.specs.Proposals.{none?}
use Rattle.rules.specs.Statements.{Left, place_of, do_simple}
use Rattle.rules.specs.Start.{Early, early, tables_at_start}

-- outcome and place, the solver whose proposal was accepted, 0 for none, the accepted words, and the tables
pub record Given : Type 0 where
  pub outcome : ℕ
  pub place : ℤ
  pub solver : ℕ
  pub words : List ℤ
  pub state : State

-- "named by its word, which is also the place of 0"; "hands back the accepted words as a part of whichever slice they came from"
abbrev pub accepting : ℤ → ℕ → List ℤ → State → Given
accepting word solver ws Z = record { outcome = 0; place = word; solver = solver; words = ws; state = Z }

-- "On every refusal the part handed back is the empty start of the first slice"; the tables stay as they are
abbrev pub refusing : State → ℕ → ℤ → Given
refusing S n place = record { outcome = n; place = place; solver = 0; words = []; state = S }

abbrev pub refused_by : List ℤ → State → Fault → Given
refused_by program S f = refusing S f.number (pos (place_of program f))

-- "one of statements 1 to 4"
abbrev pub one_to_four : Option Spot → Bool
one_to_four (Some spot) = leb 1 spot.verb && leb spot.verb 4
one_to_four None = false

unfoldable pub is_named : List ℤ → ℤ → Bool
is_named program word = one_to_four (statement_at program (number_of word))

-- "each one whole proposal": more words than n pairs take
unfoldable pub has_more : List ℤ → Bool
has_more ws = ltb (2 * number_at ws 0 + 1) (length ws)

-- "Words left after a proposal make it 16 here": such a slice is judged as one whose n is out of range
unfoldable pub whole : List ℤ → List ℤ
whole ws = cond (has_more ws) (negsuc 0 ∷ []) ws

-- the statement whose word is at this place, with one slice alone
unfoldable pub alone : List ℤ → ℕ → State → List ℤ → Res Left
alone program at S ws = do_simple program (drop at program) S (whole ws) (verb_of (number_at (drop at program) 0))

-- "refused by 6 or by 16 to 19"
unfoldable pub turns_down : ℕ → Bool
turns_down n = eqb n 6 || leb 16 n && leb n 19

-- what the second slice comes to
unfoldable pub then_second : List ℤ → ℤ → List ℤ → State → Res Left → Given
then_second program word second S (got l) = accepting word 2 second l.state
then_second program word second S (stop g) = refused_by program S g

-- "The first is tried; if it is refused by 6 or by 16 to 19 (later 31 too), the second."; an empty second is not tried:
-- "If both were tried in vain, the number is the second's, or the first's where the second slice is empty."
unfoldable pub tries : List ℤ → ℤ → List ℤ → List ℤ → State → Res Left → Given
tries program word first second S (got l) = accepting word 1 first l.state
tries program word first second S (stop f) =
    cond (turns_down f.number && not (none? second)) (then_second program word second S (alone program (number_of word) S second)) (refused_by program S f)

-- what is tried before the statement refuses it, or the call goes on
abbrev pub passing : Answer Early (Unit {0}) → State → Given → Given
passing (got u) S next = next
passing (stop e) S next = refusing S e.number (pos e.place)

-- 1; 2 for the program; "any other word is 2 there"; 3 and 4; then the statement
unfoldable pub ask : List ℤ → ℤ → List ℤ → List ℤ → State → Given
ask program word first second S =
    passing (early 1 (want 0 (sized S.cells.environment S.cells.heap S.kept))) S
    (passing (early 2 (read_program program)) S
    (cond (is_named program word)
    (passing (tables_at_start program S) S (tries program word first second S (alone program (number_of word) S first)))
    (refusing S 2 word)))
