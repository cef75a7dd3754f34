-- What the code answers, for what the rules answer. A part is told by how many words are left in it.
-- Assumes nothing: these are definitions.
use Rattle.std.specs.Prelude.{ℕ, cond, eqb, List, ℤ, length, Option, Some, None, Result, Ok, Err}
use Rattle.words.specs.Answer.{Answer, got, stop}
use Rattle.tables.specs.declared.Kind.{Kind}
use Rattle.tables.specs.declared.Kind.TheVariants.{Nil as is_nil, Bool as is_bool, Int as is_int, Ref as is_ref}
use Rattle.tables.specs.declared.Value.{Value}
use Rattle.tables.specs.declared.Value.TheVariants.{Int}
use Rattle.program.specs.declared.Refusal.{Refusal}
use Rattle.rules.specs.State.{Res}
use Rattle.rules.specs.Paths.{Way}
use Rattle.expressions.specs.declared.Named.{Named}
use Rattle.expressions.specs.declared.Evaluated.{Evaluated}

-- the cell that an L names, and the words left after it; or the refusal
abbrev pub named_of : Res Way → Result Named Refusal
named_of (got w) = Ok (record { cell = w.cell; left = length w.rest })
named_of (stop f) = Err f

-- a value, and the words left after the expression; or the refusal
abbrev pub evaluated_of : Res (Value × List ℤ) → Result Evaluated Refusal
evaluated_of (got x) = Ok (record { value = x.0; left = length x.1 })
evaluated_of (stop f) = Err f

-- 01's numbers of the kinds
abbrev pub kind_number : Kind → ℕ
kind_number is_nil = 1
kind_number is_bool = 2
kind_number is_int = 3
kind_number is_ref = 4

abbrev pub kind_from : ℕ → Kind
kind_from n = cond (eqb n 1) is_nil (cond (eqb n 2) is_bool (cond (eqb n 3) is_int is_ref))

-- what an operator makes of two values, or the refusal's number
abbrev pub applied_of : Answer ℕ Value → Result Value ℕ
applied_of (got v) = Ok v
applied_of (stop n) = Err n

abbrev pub ranged_of : Option ℤ → Result Value ℕ
ranged_of (Some n) = Ok (Int n)
ranged_of None = Err 9
