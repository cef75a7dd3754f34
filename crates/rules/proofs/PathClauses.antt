-- Paths, clause by clause: the laws by which code knows them. Assumes nothing.
use mathlib.Core.Path.{◌≡◌, refl}
use mathlib.Core.List.{List, [], ◌∷◌}
use Prim.Native.Nat.{ℕ, suc, ◌≤◌, ◌<◌}
use native.Mathlib.Omega.{arith}
use lib.IntN.{ℤ}
use lib.ListN.{drop}
use Rattle.words.specs.Words.{number_at}
use Rattle.words.specs.Answer.{got, ◌>>=◌}
use Rattle.tables.specs.Values.{slot_of}
use Rattle.tables.specs.Cells.{Cells, cell_at}
use Rattle.tables.specs.Records.{field_with}
use Rattle.program.proofs.NumberLaws.{number_fits_lem, number-high}
use Rattle.rules.specs.State.{refuse, or_refuse, slot_at, present}
use Rattle.rules.specs.Paths.{a_record, a_field, follow, way_at, value_at}

pub slot_is : (S : Cells) (l : ℕ) → slot_of (cell_at S l) ≡ slot_at S l
unfolding slot_at
slot_is S l = refl

pub follow-none : (S : Cells) (l : ℕ) (p : List ℤ) → follow S 0 l p ≡ got (l, [])
unfolding follow
follow-none S l p = refl

pub follow-more : (S : Cells) (n l : ℕ) (p : List ℤ)
    → follow S (suc n) l p ≡ (a_record (slot_at S l) >>= λ r. a_field (field_with S.heap r (number_at p 0)) >>= λ next. follow S n next (drop 1 p) >>= λ x. got (x.0, l ∷ x.1))
unfolding follow
follow-more S n l p = refl

-- an L: the words that do not read, the path that does not exist, and the cell that it names
module _ (S : Cells) (p : List ℤ) where
  pub way-variable : 64 ≤ number_at p 0 → way_at S p ≡ refuse 2 p
  unfolding way_at
  way-variable h = rw (number-high 0 63 p (omega arith) (omega arith))

  module _ (v : number_at p 0 < 64) where
    pub way-steps : 7 < number_at (drop 1 p) 0 → way_at S p ≡ refuse 2 (drop 1 p)
    unfolding way_at
    way-steps h = rw (number_fits_lem 0 63 p (omega arith) (omega arith), number-high 0 7 (drop 1 p) (omega arith) h)

    pub way-is : number_at (drop 1 p) 0 ≤ 7
        → way_at S p ≡ (or_refuse 7 p (follow S (number_at (drop 1 p) 0) (number_at p 0) (drop 1 (drop 1 p))) >>= λ x. got (record { cell = x.0; prefix = x.1; rest = drop (number_at (drop 1 p) 0) (drop 1 (drop 1 p)) }))
    unfolding way_at
    way-is h = rw (number_fits_lem 0 63 p (omega arith) (omega arith), number_fits_lem 0 7 (drop 1 p) (omega arith) h)

  pub value-is : value_at S p ≡ (way_at S p >>= λ w. or_refuse 7 p (present (slot_at S w.cell)) >>= λ v. got (v, w.rest))
  unfolding value_at
  value-is = refl
