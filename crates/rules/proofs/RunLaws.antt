-- What a whole run gives: refused at the start, finished, or refused at a statement. Assumes nothing.
use mathlib.Core.Path.{◌≡◌, refl}
use Prim.Native.Nat.{ℕ}
use mathlib.Core.List.{List}
use lib.IntN.{ℤ}
use lib.ListN.{length}
use Rattle.words.specs.Words.{number_of}
use Rattle.words.specs.Answer.{Answer, got, stop}
use Rattle.program.specs.Forms.{block_depth}
use Rattle.rules.specs.State.{State}
use Rattle.rules.specs.Running.{Tally, Out, on, end, do_block}
use Rattle.rules.specs.Start.{Early, starts, ended, run}
use Rattle.rules.specs.Rules.Answers.{first_tally, given}

module _ (program ws : List ℤ) (budget : ℤ) (S : State) where
  abbrev pub whole : Out
  whole = do_block block_depth program (number_of budget) program (first_tally S ws)

  pub run-early : {e : Early} → starts program budget S ≡ stop e → run program ws budget S ≡ given e.number e.place (first_tally S ws)
  unfolding run
  run-early e = rw (e, run)

  pub run_on : {t : Tally} → starts program budget S ≡ got tt → whole ≡ on t → run program ws budget S ≡ given 0 (length program) t
  unfolding run ended
  run_on e o = rw (e, run) (rw o)

  pub run_end : {n place : ℕ} {t : Tally} → starts program budget S ≡ got tt → whole ≡ end n place t → run program ws budget S ≡ given n place t
  unfolding run ended
  run_end e o = rw (e, run) (rw o)

  -- the three ways
  pub data Way : Type 0 where
    at-start : (e : Early) → starts program budget S ≡ stop e → run program ws budget S ≡ given e.number e.place (first_tally S ws) → Way
    to_end : (t : Tally) → starts program budget S ≡ got tt → whole ≡ on t → run program ws budget S ≡ given 0 (length program) t → Way
    on-way : (n place : ℕ) (t : Tally) → starts program budget S ≡ got tt → whole ≡ end n place t → run program ws budget S ≡ given n place t → Way

  pub way : Way
  way = go (starts program budget S) refl
    where
      block : (o : Out) → whole ≡ o → starts program budget S ≡ got tt → Way
      block (on t) o e = to_end t e o (run_on e o)
      block (end n place t) o e = on-way n place t e o (run_end e o)

      go : (m : Answer Early (Unit {0})) → starts program budget S ≡ m → Way
      go (got u) e = block whole refl e
      go (stop f) e = at-start f e (run-early e)
