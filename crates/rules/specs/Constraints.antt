-- Constraints and their parts (01, "The program's words": C; "Always C, once C"; "Proposal"). Assumes nothing: these are definitions.
use Rattle.std.specs.Prelude.{ℕ, zero, suc, ◌+◌, Bool, true, false, not, ◌&&◌, ◌||◌, List, [], ◌∷◌, ◌++◌, eqb, ℤ, drop, Option, None, Some}
use Rattle.words.specs.Answer.{got, stop, ◌>>=◌, ◌>>◌, want}
use Rattle.tables.specs.declared.Value.{Value}
use Rattle.tables.specs.declared.Sort.TheVariants.{Values}
use Rattle.tables.specs.Cells.{Cells}
use Rattle.program.specs.Forms.{expression_depth, most_parts, required}
use Rattle.program.specs.Reading.{number}
use Rattle.rules.specs.State.{Res, refused, reads, positions}
use Rattle.rules.specs.Evaluation.{a_bool, bool_of, evaluate, kind}

-- a part of a constraint: its priority, and whether it is satisfied
pub record Part : Type 0 where
  pub priority : ℕ
  pub satisfied : Bool

-- "A part whose arithmetic leaves 32 bits is unsatisfied, never a fault."
unfoldable pub satisfies : Res (Value × List ℤ) → Bool
satisfies (got x) = bool_of x.0
satisfies (stop f) = false

-- a part reads: "its paths exist, its operators get their kinds and each part is boolean"
unfoldable pub part_at : Cells → List ℤ → Res (Part × List ℤ)
part_at S p = do
  (priority, q) ← reads (number 1 required p)
  (k, r) ← kind expression_depth S q
  want (refused 8 p) (a_bool k)
  got (record { priority = priority; satisfied = satisfies (evaluate expression_depth S q) }, r)

unfoldable pub parts_at : ℕ → Cells → List ℤ → Res (List Part × List ℤ)
parts_at zero S p = got ([], p)
parts_at (suc m) S p = do
  (part, q) ← part_at S p
  (parts, r) ← parts_at m S q
  got (part ∷ parts, r)

-- "C: m (1 to 16), m times priority and e": its parts
unfoldable pub constraint_at : Cells → List ℤ → Res (List Part)
constraint_at S p = do
  (m, q) ← reads (number 1 most_parts p)
  (parts, r) ← parts_at m S q
  got parts

-- 15 "a kept value constraint no longer reads"; the word at fault stays
abbrev pub fifteen : {A : Type 0} → Res A → Res A
fifteen (got a) = got a
fifteen (stop f) = stop (record { number = 15; word = f.word })

-- the constraint of the always-statement at a position of the program
unfoldable pub kept_at : List ℤ → Cells → ℕ → Res (List Part)
kept_at program S position = constraint_at S (drop (position + 1) program)

unfoldable pub kept_parts : List ℤ → Cells → List ℕ → Res (List Part)
kept_parts program S [] = got []
kept_parts program S (position ∷ more) = do
  parts ← fifteen (kept_at program S position)
  others ← kept_parts program S more
  got (parts ++ others)

-- the parts that count for a statement: its own C, if it has one, and all kept value constraints
unfoldable pub own_parts : Cells → Option (List ℤ) → Res (List Part)
own_parts S None = got []
own_parts S (Some p) = constraint_at S p

unfoldable pub counted : List ℤ → List ℤ → Option (List ℤ) → Cells → Res (List Part)
counted program kept own S = do
  mine ← own_parts S own
  others ← kept_parts program S (positions kept Values)
  got (others ++ mine)

-- "every part, of any priority"
unfoldable pub all_hold : List Part → Bool
all_hold [] = true
all_hold (x ∷ xs) = x.satisfied && all_hold xs

-- "each required part must be true"
unfoldable pub required_hold : List Part → Bool
required_hold [] = true
required_hold (x ∷ xs) = (not (eqb x.priority required) || x.satisfied) && required_hold xs
