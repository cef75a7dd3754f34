-- Wherever a run stops, a chain of accepted statements of its program leads there, and what is kept holds. Assumes nothing.
use mathlib.Core.List.{List}
use lib.IntN.{ℤ}
use Rattle.words.specs.Words.{number_of}
use Rattle.program.specs.Grammar.{Program}
use Rattle.rules.specs.State.{State}
use Rattle.rules.specs.Running.{Tally}
use Rattle.rules.specs.Steps.Holds.{Holds}
use Rattle.rules.specs.Claims.Answers.{Reached, at_first, after_one}
use Rattle.rules.specs.Rules.Answers.{first_tally}
use Rattle.rules.proofs.WalkLaws.{tally_of, program-keeps}
use Rattle.rules.proofs.ProgramCode.{there-at}
use Rattle.rules.proofs.Holding.{statements-hold}
use Rattle.rules.proofs.RunLaws.{whole}
use Rattle.rules.proofs.StepRules.{steps-rule}

pub record Reaches (program ws : List ℤ) (S : State) (t : Tally) : Type 0 where
  pub holds : Holds program t.state
  pub reached : Reached program ws S t.state t.unread t.accepted

pub whole-reaches : (program ws : List ℤ) (budget : ℤ) (S : State) → Program program → Holds program S → Reaches program ws S (tally_of (whole program ws budget S))
whole-reaches program ws budget S reads holds =
    program-keeps program (number_of budget) reads.short (Reaches program ws S) (Reaches program ws S)
    (record {
      pays = λ t h l. record { holds = h.holds; reached = h.reached };
      frees = λ t h. h;
      notes = λ c t h. record { holds = h.holds; reached = h.reached };
      simple = λ p here t h l k.
          record {
            holds = statements-hold program p t.state t.unread l here h.holds k;
            reached = after_one h.reached (there-at here) ((steps-rule program p t.state t.unread here.statement h.holds l).0 k);
          };
    })
    reads.yields (first_tally S ws) (record { holds = holds; reached = at_first })
