-- A run gives an answer exactly where the rules say so: every outcome, with its place, counts, tables and unread words. Assumes nothing.
use mathlib.Core.Path.{◌≡◌}
use mathlib.Core.Logic.{◌↔◌}
use native.Mathlib.Omega.{arith}
use mathlib.Core.List.{List}
use lib.IntN.{ℤ}
use Rattle.words.specs.Words.{number_of}
use Rattle.program.specs.Forms.{block_depth}
use Rattle.rules.specs.State.{State}
use Rattle.rules.specs.Running.{Out, on, end}
use Rattle.rules.specs.Start.{Ended, run}
use Rattle.rules.specs.Rules.Runs.{block, Runs}
use Rattle.rules.specs.Rules.Answers.{Passes, first_tally, Answered, unstarted, finished, stopped}
use Rattle.rules.specs.Claims.Rules.{Rules}
use Rattle.rules.proofs.RunLaws.{whole, run-early, run_on, run_end, Way, at-start, to_end, on-way, way}
use Rattle.rules.proofs.StandRules.{stands-iff}
use Rattle.rules.proofs.StartRules.{passes-iff, unstarted-iff}
use Rattle.rules.proofs.ProgramCode.{program-of}
use Rattle.rules.proofs.RunRules.{block-rule}

module _ (program ws : List ℤ) (budget : ℤ) (S : State) where
  -- what the whole program comes to, once it started
  pub whole-rule : (o : Out) → Passes program budget S → (whole program ws budget S ≡ o) ↔ Runs program (number_of budget) (block block_depth program) (first_tally S ws) o
  whole-rule o p =
      block-rule program (number_of budget) block_depth program (first_tally S ws) o (program-of program p.1.0) ((stands-iff program S).1 p.1.1) (omega arith)

  sound : Way program ws budget S → Answered program ws budget S (run program ws budget S)
  sound (at-start e s r) = rw r (unstarted ((unstarted-iff program budget S e).0 s))
  sound (to_end t s o r) = let p = (passes-iff program budget S).0 s in rw r (finished p ((whole-rule (on t) p).0 o))
  sound (on-way n place t s o r) = let p = (passes-iff program budget S).0 s in rw r (stopped p ((whole-rule (end n place t) p).0 o))

  complete : {e : Ended} → Answered program ws budget S e → run program ws budget S ≡ e
  complete (unstarted {n = n} {place = place} u) = run-early program ws budget S ((unstarted-iff program budget S (record { number = n; place = place })).1 u)
  complete (finished {u = t} p r) = run_on program ws budget S ((passes-iff program budget S).1 p) ((whole-rule (on t) p).1 r)
  complete (stopped {n = n} {place = place} {u = t} p r) = run_end program ws budget S ((passes-iff program budget S).1 p) ((whole-rule (end n place t) p).1 r)

pub rules : Rules
rules program ws budget S e = (λ h. rw h at (sound program ws budget S (way program ws budget S)), complete program ws budget S)
