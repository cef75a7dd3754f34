-- What is kept holds after each accepted statement. Assumes nothing.
use mathlib.Core.Path.{◌≡◌, refl, ◌∙◌}
use mathlib.Core.List.{List}
use native.Mathlib.Omega.{arith}
use borrow.Author.Tests.{eq-eqb}
use lib.IntN.{ℤ}
use Rattle.program.proofs.StandLaws.{always-is}
use Rattle.words.specs.Words.{number_at}
use Rattle.words.specs.Answer.{got}
use Rattle.words.proofs.AnswerLaws.{stop≢got, got-inj}
use Rattle.tables.specs.declared.Sort.{Sort}
use Rattle.tables.specs.declared.Sort.TheVariants.{Values, Identities}
use Rattle.program.specs.Forms.{verb_of}
use Rattle.program.specs.declared.Verb.{Verb}
use Rattle.program.specs.declared.Verb.TheVariants.{Skip as skip, Assign as assign, New as new, Always as always, Once as once, AlwaysSame as always_same, OnceSame as once_same, If as branch, While as loop, Unknown as no_verb}
use Rattle.program.specs.Where.{always_of}
use Rattle.program.proofs.FormLaws.{verb-number}
use Rattle.program.proofs.GrammarSound.{statement-sound}
use Rattle.rules.specs.State.{State}
use Rattle.rules.specs.Statements.{Left, position_of, do_simple}
use Rattle.rules.specs.Steps.Holds.{Holds, StatementThere}
use Rattle.rules.specs.Steps.Holding.{StatementsHold}
use Rattle.rules.proofs.ProgramCode.{there-part}
use Rattle.rules.proofs.HoldLaws.{Stands, once-holds, always-holds, once-same-holds, always-same-holds}
use Rattle.rules.proofs.AssignHolds.{assign-holds}
use Rattle.rules.proofs.NewHolds.{new-holds}

module _ (program p : List ℤ) (here : StatementThere program p) where
  -- the statement at p is an always-statement of its sort
  stands : (s : Sort) → number_at p 0 ≡ always_of s → Stands program p s
  stands s e = record {
    rest = there-part here;
    small = omega (arith, here.short);
    always = always-is program s (position_of program p) ∙ rw here.there (eq-eqb (number_at p 0) (always_of s) e);
  }

  verb-holds : (S : State) (ws : List ℤ) (l : Left) → Holds program S → (v : Verb) → verb_of (number_at p 0) ≡ v → do_simple program p S ws v ≡ got l → Holds program l.state
  unfolding do_simple
  verb-holds S ws l holds skip q e = rw (← got-inj e) holds
  verb-holds S ws l holds assign q e = assign-holds program p S ws l holds e
  verb-holds S ws l holds new q e =
      new-holds program p S ws l holds here.statement.nest here.statement.rest (statement-sound here.statement.nest p here.statement.rest here.statement.reads)
      (rw q at (verb-number (number_at p 0) (rw q (omega arith)))) e
  verb-holds S ws l holds always q e = always-holds program p S ws l holds (stands Values (rw q at (verb-number (number_at p 0) (rw q (omega arith))))) e
  verb-holds S ws l holds once q e = once-holds program p S ws l holds e
  verb-holds S ws l holds always_same q e = always-same-holds program p S ws l holds (stands Identities (rw q at (verb-number (number_at p 0) (rw q (omega arith))))) e
  verb-holds S ws l holds once_same q e = once-same-holds program p S ws l holds e
  verb-holds S ws l holds branch q e = stop≢got e
  verb-holds S ws l holds loop q e = stop≢got e
  verb-holds S ws l holds no_verb q e = stop≢got e

-- an accepted statement keeps what holds, whatever its proposal says
pub statements-hold : StatementsHold
statements-hold program p S ws l here holds e = verb-holds program p here S ws l holds (verb_of (number_at p 0)) refl e
