-- What one statement makes of the lent tally. Assumes nothing: these are definitions.
use Rattle.std.specs.Prelude.{ℕ, ◌≡◌, Bool, true, false, List, ℤ}
use Rattle.words.specs.Words.{number_at}
use Rattle.program.specs.Forms.{verb_of}
use Rattle.program.specs.declared.Verb.{Verb}
use Rattle.program.specs.declared.Verb.TheVariants.{Skip as skip, Assign as assign, New as new, Always as always, Once as once, AlwaysSame as always_same, OnceSame as once_same, If as branch, While as loop, Unknown as no_verb}
use Rattle.program.specs.Reading.{read_block, after}
use Rattle.rules.specs.State.{State}
use Rattle.rules.specs.Statements.{position_of}
use Rattle.rules.specs.Running.{Out, end, do_statement, do_block}
use Rattle.rules.specs.Running.{Tally as Carries}
use Rattle.lent.specs.declared.Tally.{Tally}
use Rattle.lent.specs.Tallied.{Begins, Goes}

abbrev pub holds_blocks : Verb → Bool
holds_blocks skip = false
holds_blocks assign = false
holds_blocks new = false
holds_blocks always = false
holds_blocks once = false
holds_blocks always_same = false
holds_blocks once_same = false
holds_blocks branch = true
holds_blocks loop = true
holds_blocks no_verb = false

abbrev pub unless_blocks : Bool → Out → Out → Out
unless_blocks true refused o = refused
unless_blocks false refused o = o

-- what a run comes to at the statement at p; one that holds blocks is not begun: 2
abbrev pub one_statement : List ℤ → ℕ → List ℤ → Carries → Out
one_statement program budget p u =
    unless_blocks (holds_blocks (verb_of (number_at p 0))) (end 2 (position_of program p) u)
    (do_statement (λ q v. do_block 0 program budget q v) (λ q. after (read_block 0 q)) program budget p u)

-- the tally t and the tables S are brought up to date by a statement that comes to o; a tally that no run carries stays, and the tables with it
pub record Steps (ws : List ℤ) (S Z : State) (t r : Tally) (o : Out) : Type 0 where
  pub goes : Begins ws t → Goes ws t Z r o
  pub stays : (Begins ws t → ⊥) → (r ≡ t) × (Z ≡ S)
