-- What the code answers of tests and of constraints. Assumes nothing: these are definitions.
use Rattle.std.specs.Prelude.{ℕ, Bool, List, ℤ, length, Option, None, Some, Result, Ok, Err}
use Rattle.std.specs.Borrow.{Bor}
use Rattle.words.specs.Answer.{got, stop, ◌>>=◌}
use Rattle.tables.specs.declared.Value.{Value}
use Rattle.tables.specs.declared.Value.TheVariants.{Nil, Bool as Truth, Int, Ref}
use Rattle.program.specs.declared.Refusal.{Refusal}
use Rattle.rules.specs.State.{Res}
use Rattle.rules.specs.Constraints.{Part, all_hold, required_hold}
use Rattle.expressions.specs.declared.Rated.{Rated}
use Rattle.expressions.specs.declared.Weighed.{Weighed}

abbrev pub refusal : ℕ → ℕ → Refusal
refusal n word = record { number = n; word = word }

-- the test of an if or while
abbrev pub tested_of : Res Bool → Result Bool Refusal
tested_of (got b) = Ok b
tested_of (stop f) = Err f

-- ---- a part of C

-- its priority, whether it is satisfied, and the words left after it; or the refusal
abbrev pub rated_of : Res (Part × List ℤ) → Result Rated Refusal
rated_of (got x) = Ok (record { priority = x.0.priority; satisfied = x.0.satisfied; left = length x.1 })
rated_of (stop f) = Err f

-- a boolean; 8 at the word where it is none
abbrev pub truth_of : Value → ℕ → Result Bool Refusal
truth_of (Truth b) word = Ok b
truth_of Nil word = Err (refusal 8 word)
truth_of (Int n) word = Err (refusal 8 word)
truth_of (Ref r) word = Err (refusal 8 word)

-- ---- parts together

-- whether all hold, and whether the required ones hold; or the refusal
abbrev pub weighed_of : Res (List Part) → Result Weighed Refusal
weighed_of (got parts) = Ok (record { all = all_hold parts; required = required_hold parts })
weighed_of (stop f) = Err f

abbrev pub parts_only : Res (List Part × List ℤ) → Res (List Part)
parts_only m = m >>= λ x. got x.0

-- a statement's own C, if it has one
abbrev pub own_in : Option (Bor (List ℤ)) → Option (List ℤ)
own_in (Some p) = Some p.now
own_in None = None
