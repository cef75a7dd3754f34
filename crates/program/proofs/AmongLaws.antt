-- Which numbers are among others, and which are not. Assumes nothing.
use mathlib.Core.Path.{◌≡◌, refl}
use mathlib.Core.Bool.{false, ◌||◌}
use mathlib.Core.List.{List, [], ◌∷◌}
use Prim.Native.Nat.{ℕ}
use lib.Dec.{eqb}
use Rattle.program.specs.Reading.{among}

pub among_none : (n : ℕ) → among n [] ≡ false
unfolding among
among_none n = refl

pub among-more : (n x : ℕ) (xs : List ℕ) → among n (x ∷ xs) ≡ eqb n x || among n xs
unfolding among
among-more n x xs = refl

pub among-on : (n x : ℕ) (xs : List ℕ) → eqb n x ≡ false → among n xs ≡ false → among n (x ∷ xs) ≡ false
among-on n x xs e f = rw (among-more n x xs, e, f)
