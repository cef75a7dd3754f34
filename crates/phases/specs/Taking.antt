-- The cells of a class, told by marks, take one value, and can be undone. Assumes nothing: these are definitions.
use Rattle.std.specs.Prelude.{ℕ, ◌+◌, ◌*◌, ◌≡◌, List, [], ◌∷◌, ℤ}
use Rattle.words.specs.Bits.{marked_from}
use Rattle.tables.specs.declared.Value.{Value}
use Rattle.tables.specs.Sizes.{locations}
use Rattle.tables.specs.Cells.{Cells, put_cell, pair_at}
use Rattle.rules.specs.Identities.{put_all}

-- the marked cells, the least first
abbrev pub cells_of : List ℕ → List ℕ
cells_of class = marked_from class 0 locations

-- cells hold again what was laid by as number i, and as those after it
unfoldable pub held_again : List ℤ → List ℕ → ℕ → Cells → Cells
held_again saved [] i S = S
held_again saved (l ∷ ls) i S = held_again saved ls (i + 1) (put_cell S l (pair_at saved (2 * i)))

-- the marked cells take a value, and can be undone
pub record Gives (S Z : Cells) (class : List ℕ) (saved : List ℤ) (v : Value) : Type 0 where
  pub is : Z ≡ put_all S (cells_of class) v
  pub back : held_again saved (cells_of class) 0 Z ≡ S
