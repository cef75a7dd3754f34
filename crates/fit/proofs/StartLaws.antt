-- What the tests of lengths and of whole tables say. Assumes nothing.
use mathlib.Core.Path.{◌≡◌}
use mathlib.Core.Bool.{true, ◌&&◌}
use mathlib.Core.List.{List}
use borrow.Author.Tests.{eq-eqb, eqb-true}
use lib.Dec.{eqb}
use lib.IntN.{ℤ}
use lib.ListN.{length}
use Rattle.words.specs.Words.{word_at}
use Rattle.tables.specs.Sizes.{environment_words, heap_words, constraints_words}
use Rattle.tables.specs.Cells.{Cells}
use Rattle.fit.specs.Fit.{sized, environment_fits, heap_fits, cells_fit}
use Rattle.tables.proofs.SearchLaws.{and_left, and_right, and-true}

-- tables that are sized have their lengths
pub sized-lengths : (e h c : List ℤ) → sized e h c ≡ true → (length e ≡ environment_words) × ((length h ≡ heap_words) × (length c ≡ constraints_words))
unfolding sized
sized-lengths e h c k =
    let both = and_left (eqb (length e) environment_words && eqb (length h) heap_words) (eqb (length c) constraints_words) k in (
      eqb-true (length e) environment_words (and_left (eqb (length e) environment_words) (eqb (length h) heap_words) both),
      (
        eqb-true (length h) heap_words (and_right (eqb (length e) environment_words) (eqb (length h) heap_words) both),
        eqb-true (length c) constraints_words (and_right (eqb (length e) environment_words && eqb (length h) heap_words) (eqb (length c) constraints_words) k),
      ),
    )

-- and tables that have them are sized
pub lengths-sized : (e h c : List ℤ) → length e ≡ environment_words → length h ≡ heap_words → length c ≡ constraints_words → sized e h c ≡ true
unfolding sized
lengths-sized e h c a b d = rw (eq-eqb (length e) environment_words a, eq-eqb (length h) heap_words b, eq-eqb (length c) constraints_words d)

-- a fit environment and a fit heap are fit together
pub tables-fit : (S : Cells) → environment_fits (word_at S.heap 0) S.environment ≡ true → heap_fits S.heap ≡ true → cells_fit S ≡ true
unfolding cells_fit
tables-fit S a b = and-true (environment_fits (word_at S.heap 0) S.environment) (heap_fits S.heap) a b
