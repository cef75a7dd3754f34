-- One statement with two proposals, clause by clause: the laws by which code knows it. Assumes nothing.
use mathlib.Core.Path.{◌≡◌, refl, ap}
use Prim.Native.Nat.{ℕ, ◌+◌, ◌*◌}
use mathlib.Core.Bool.{true, false, not, cond, ◌&&◌, ◌||◌}
use mathlib.Core.List.{List, [], ◌∷◌}
use lib.Dec.{eqb, ltb, leb}
use lib.IntN.{ℤ, negsuc}
use lib.ListN.{length, drop}
use Rattle.words.specs.Words.{number_of, number_at}
use Rattle.words.specs.Answer.{got, stop, want}
use Rattle.tables.proofs.SearchLaws.{and-false}
use Rattle.fit.specs.Fit.{sized}
use Rattle.program.specs.Forms.{verb_of}
use Rattle.program.specs.Reading.{read_program}
use Rattle.program.specs.Where.{statement_at}
use Rattle.rules.specs.State.{State, Fault}
use Rattle.rules.specs.Proposals.{none?}
use Rattle.rules.specs.Statements.{Left, do_simple}
use Rattle.rules.specs.Start.{early, tables_at_start}
use Rattle.rules.specs.Solvers.{accepting, refusing, refused_by, one_to_four, is_named, has_more, whole, alone, turns_down, then_second, tries, passing, ask}

pub named-is : (program : List ℤ) (word : ℤ) → is_named program word ≡ one_to_four (statement_at program (number_of word))
unfolding is_named
named-is program word = refl

pub more-is : (ws : List ℤ) → has_more ws ≡ ltb (2 * number_at ws 0 + 1) (length ws)
unfolding has_more
more-is ws = refl

pub whole-more : (ws : List ℤ) → has_more ws ≡ true → whole ws ≡ negsuc 0 ∷ []
unfolding whole
whole-more ws e = rw e

pub whole-all : (ws : List ℤ) → has_more ws ≡ false → whole ws ≡ ws
unfolding whole
whole-all ws e = rw e

pub alone-is : (program : List ℤ) (at : ℕ) (S : State) (ws : List ℤ)
    → alone program at S ws ≡ do_simple program (drop at program) S (whole ws) (verb_of (number_at (drop at program) 0))
unfolding alone
alone-is program at S ws = refl

pub turns-is : (n : ℕ) → turns_down n ≡ (eqb n 6 || leb 16 n && leb n 19)
unfolding turns_down
turns-is n = refl

module _ (program : List ℤ) (word : ℤ) (second : List ℤ) (S : State) where
  pub second-takes : (l : Left) → then_second program word second S (got l) ≡ accepting word 2 second l.state
  unfolding then_second
  second-takes l = refl

  pub second-stops : (g : Fault) → then_second program word second S (stop g) ≡ refused_by program S g
  unfolding then_second
  second-stops g = refl

  pub first-takes : (first : List ℤ) (l : Left) → tries program word first second S (got l) ≡ accepting word 1 first l.state
  unfolding tries
  first-takes first l = refl

  pub first-turned : (first : List ℤ) (f : Fault) → turns_down f.number ≡ true → none? second ≡ false
      → tries program word first second S (stop f) ≡ then_second program word second S (alone program (number_of word) S second)
  unfolding tries
  first-turned first f e h = rw (e, h)

  pub first_stops : (first : List ℤ) (f : Fault) → turns_down f.number ≡ false → tries program word first second S (stop f) ≡ refused_by program S f
  unfolding tries
  first_stops first f e = rw e

  pub no_second : (first : List ℤ) (f : Fault) → none? second ≡ true → tries program word first second S (stop f) ≡ refused_by program S f
  unfolding tries
  no_second first f e = rw (and-false (turns_down f.number) (not (none? second)) (ap not e))

pub ask-is : (program : List ℤ) (word : ℤ) (first second : List ℤ) (S : State)
    → ask program word first second S
    ≡ passing (early 1 (want 0 (sized S.cells.environment S.cells.heap S.kept))) S
    (passing (early 2 (read_program program)) S
    (cond (is_named program word) (passing (tables_at_start program S) S (tries program word first second S (alone program (number_of word) S first))) (refusing S 2 word)))
unfolding ask
ask-is program word first second S = refl
