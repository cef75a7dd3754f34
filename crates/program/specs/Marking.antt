-- Marks on the words of a program at which statements begin, a bit for each. Assumes nothing: these are definitions.
use Rattle.std.specs.Prelude.{ℕ, ◌-◌, ◌*◌, ◌<◌, ◌≡◌, Bool, true, false, ◌&&◌, ◌||◌, List, ℤ, length, Option, Some, None}
use Rattle.words.specs.Bits.{marked}
use Rattle.program.specs.Forms.{block_depth}
use Rattle.tables.specs.declared.Sort.TheVariants.{Values, Identities}
use Rattle.program.specs.Where.{spot_block, positions_stand}
use Rattle.program.specs.declared.Spot.{Spot}

abbrev pub found : Option Spot → Bool
found (Some spot) = true
found None = false

-- of `total` words each keeps its mark, and those are marked too from which on `spot` finds a statement
pub record Marked (total : ℕ) (spot : ℕ → Option Spot) (before marks : List ℕ) : Type 0 where
  pub at : (i : ℕ) → i < total → i < 64 * length before → marked marks i ≡ (marked before i || found (spot (total - i)))

-- the marks are those of the program's statements
pub record MarksOf (program : List ℤ) (marks : List ℕ) : Type 0 where
  pub at : (i : ℕ) → i < length program → marked marks i ≡ found (spot_block block_depth (length program - i) program)

-- the kept positions of both sorts
abbrev pub both_stand : List ℤ → List ℤ → Bool
both_stand p c = positions_stand p c Values && positions_stand p c Identities
