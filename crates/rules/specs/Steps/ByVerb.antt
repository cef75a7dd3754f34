-- Which refusals a statement may give, by its verb. Assumes nothing: these are statements.
use Rattle.std.specs.Prelude.{ℕ, ◌≤◌, ◌≡◌, ◌≢◌, Bool, true, ℤ}
use mathlib.Core.List.{List, [], ◌∷◌, Memᴰ as OneOf}
use Rattle.words.specs.Words.{number_at}
use Rattle.program.specs.Forms.{verb_of}
use Rattle.program.specs.declared.Verb.{Verb}
use Rattle.program.specs.declared.Verb.TheVariants.{Skip as skip, Assign as assign, New as new, Always as always, Once as once, AlwaysSame as always_same, OnceSame as once_same, If as branch, While as loop, Unknown as no_verb}
use Rattle.rules.specs.State.{State}
use Rattle.rules.specs.Identities.{member}
use Rattle.rules.specs.Start.{Ended}
use Rattle.rules.specs.Statements.{position_of}
use Rattle.rules.specs.Rules.Kept.{AtStatement}
use Rattle.rules.specs.Claims.Answers.{Found}
use Rattle.rules.specs.Rules.Answers.{Answered}

-- the outcomes with which a statement may be refused, besides 5, by its verb
abbrev pub refusals : Verb → List ℕ
refusals skip = []
refusals assign = 7 ∷ 8 ∷ 9 ∷ 13 ∷ 12 ∷ 15 ∷ 6 ∷ 16 ∷ 17 ∷ 18 ∷ 19 ∷ []
refusals new = 7 ∷ 8 ∷ 9 ∷ 10 ∷ 12 ∷ 15 ∷ 6 ∷ 16 ∷ 17 ∷ 18 ∷ 19 ∷ []
refusals always = 7 ∷ 8 ∷ 15 ∷ 14 ∷ 6 ∷ 16 ∷ 17 ∷ 18 ∷ 19 ∷ []
refusals once = 7 ∷ 8 ∷ 15 ∷ 6 ∷ 16 ∷ 17 ∷ 18 ∷ 19 ∷ []
refusals always_same = 7 ∷ 8 ∷ 11 ∷ 14 ∷ []
refusals once_same = 7 ∷ 8 ∷ 11 ∷ []
refusals branch = 7 ∷ 8 ∷ 9 ∷ []
refusals loop = 7 ∷ 8 ∷ 9 ∷ []
refusals no_verb = []

-- from 5 on, the outcome is one of those of a statement of the program, whose word is the place, or in which 7, 8 or 9 is found there
pub record Refusing (program : List ℤ) (e : Ended) : Type 0 where
  pub part : List ℤ
  pub at : AtStatement program part
  pub verb : member e.outcome (5 ∷ refusals (verb_of (number_at part 0))) ≡ true
  pub own : (OneOf e.outcome (7 ∷ 8 ∷ 9 ∷ 15 ∷ []) → ⊥) → e.place ≡ position_of program part
  pub inner : OneOf e.outcome (7 ∷ 8 ∷ 9 ∷ 15 ∷ []) → e.outcome ≢ 15 → (c : Bool) × Found program e.state.cells e.outcome e.place c part

abbrev pub ByVerb : Type 0
ByVerb = (program ws : List ℤ) (budget : ℤ) (S : State) (e : Ended) → Answered program ws budget S e → 5 ≤ e.outcome → Refusing program e
