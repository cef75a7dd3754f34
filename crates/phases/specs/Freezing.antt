-- Frozen cells, met where paths are followed again: none that passes f holds anything but v. Assumes nothing: these are definitions.
use Rattle.std.specs.Prelude.{ℕ, zero, suc, Bool, true, not, ◌&&◌, ◌||◌, List, [], ◌∷◌, ℤ, drop}
use Rattle.words.specs.Words.{number_at}
use Rattle.tables.specs.declared.Value.{Value}
use Rattle.tables.specs.Cells.{Cells}
use Rattle.rules.specs.State.{slot_at}
use Rattle.rules.specs.Identities.{is}
use Rattle.expressions.specs.Following.{passed}

module _ (S : Cells) (f : ℕ → Bool) (v : Value) where
  unfoldable pub free_of : List ℕ → Bool
  free_of [] = true
  free_of (l ∷ ls) = (not (f l) || is (slot_at S l) v) && free_of ls

  -- the prefix cells of the L at p
  abbrev pub free_way : List ℤ → Bool
  free_way p = free_of (passed S (number_at p 1) (number_at p 0) (drop 2 p))

  -- those of both sides of the identity at p
  abbrev pub free_tie : List ℤ → Bool
  free_tie p = free_way p && free_way (drop (number_at p 1) (drop 2 p))

  -- those of n identities, from number i on
  unfoldable pub free_ties : (ℕ → List ℤ) → ℕ → ℕ → Bool
  free_ties at i zero = true
  free_ties at i (suc n) = free_tie (at i) && free_ties at (suc i) n
