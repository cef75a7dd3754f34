-- When the kept positions of a constraints table stand in a program. Assumes nothing.
use mathlib.Core.Path.{◌≡◌, refl, sym, ◌∙◌}
use mathlib.Core.Logic.{◌↔◌}
use mathlib.Core.Bool.{true, false, ◌&&◌}
use mathlib.Core.List.{List}
use Prim.Native.Nat.{ℕ, ◌+◌, ◌<◌, ◌≤◌}
use native.Mathlib.Omega.{arith}
use borrow.Author.Tests.{le-leb, lt-leb, leb-true}
use lib.Dec.{leb}
use lib.IntN.{ℤ}
use lib.ListN.{length}
use Rattle.tables.specs.declared.Sort.{Sort}
use Rattle.tables.specs.declared.Sort.TheVariants.{Values, Identities}
use Rattle.tables.specs.Kept.{kept_count, position_at}
use Rattle.fit.specs.Fit.{constraints_fit}
use Rattle.tables.proofs.SearchLaws.{and_left, and_right, and-true, every-at, every-all}
use Rattle.program.specs.Forms.{most_words}
use Rattle.program.specs.Marking.{both_stand}
use Rattle.program.specs.Where.{statement_at, always_of, has_verb, is_always, positions_stand, constraints_stand}

-- a word is that of an always-statement where the statement there has its number
pub always-is : (p : List ℤ) (s : Sort) (at : ℕ) → is_always p s at ≡ has_verb (always_of s) (statement_at p at)
unfolding is_always
always-is p s at = refl

-- each kept position of a sort
positions-stand : (p c : List ℤ) (s : Sort) → (positions_stand p c s ≡ true) ↔ ((i : ℕ) → i < kept_count c s → is_always p s (position_at c s i) ≡ true)
unfolding positions_stand
positions-stand p c s = (
  λ e. every-at (λ i. is_always p s (position_at c s i)) (kept_count c s) e,
  λ f. every-all (λ i. is_always p s (position_at c s i)) (kept_count c s) f,
)

-- no position of a sort is kept
none-stand : (p c : List ℤ) (s : Sort) → kept_count c s ≡ 0 → positions_stand p c s ≡ true
none-stand p c s e = (positions-stand p c s).1 (λ i h. let z : ⊥ = omega arith in absurd z)

pub none_kept : (p c : List ℤ) → kept_count c Values + kept_count c Identities ≡ 0 → true ≡ both_stand p c
none_kept p c e = rw (none-stand p c Values (omega arith), none-stand p c Identities (omega arith))

module _ (p c : List ℤ) where
  pub stand-long : most_words < length p → false ≡ constraints_stand p c
  unfolding constraints_stand
  stand-long l = rw (lt-leb (length p) most_words l)

  pub stand-unfit : length p ≤ most_words → constraints_fit c ≡ false → false ≡ constraints_stand p c
  unfolding constraints_stand
  stand-unfit l e = rw (le-leb (length p) most_words l, e)

  pub stand-both : length p ≤ most_words → constraints_fit c ≡ true → both_stand p c ≡ constraints_stand p c
  unfolding constraints_stand
  stand-both l e = rw (le-leb (length p) most_words l, e)

-- the constraints stand where the program is short enough, they fit and each kept position is that of an always-statement of its sort
pub stand-iff : (p c : List ℤ) → (constraints_stand p c ≡ true)
    ↔ (((length p ≤ most_words) × (constraints_fit c ≡ true)) × ((s : Sort) (i : ℕ) → i < kept_count c s → is_always p s (position_at c s i) ≡ true))
unfolding constraints_stand
stand-iff p c = (
  λ e. ((leb-true (length p) most_words (and_left (leb (length p) most_words) (constraints_fit c) (fits e)), and_right (leb (length p) most_words) (constraints_fit c) (fits e)), each e),
  λ x. sym (stand-both p c x.0.0 x.0.1) ∙ and-true (positions_stand p c Values) (positions_stand p c Identities)
      ((positions-stand p c Values).1 (x.1 Values)) ((positions-stand p c Identities).1 (x.1 Identities)),
)
  where
    both : constraints_stand p c ≡ true → leb (length p) most_words && constraints_fit c && positions_stand p c Values ≡ true
    both e = and_left (leb (length p) most_words && constraints_fit c && positions_stand p c Values) (positions_stand p c Identities) e

    fits : constraints_stand p c ≡ true → leb (length p) most_words && constraints_fit c ≡ true
    fits e = and_left (leb (length p) most_words && constraints_fit c) (positions_stand p c Values) (both e)

    each : constraints_stand p c ≡ true → (s : Sort) (i : ℕ) → i < kept_count c s → is_always p s (position_at c s i) ≡ true
    each e Values = (positions-stand p c Values).0 (and_right (leb (length p) most_words && constraints_fit c) (positions_stand p c Values) (both e))
    each e Identities = (positions-stand p c Identities).0 (and_right (leb (length p) most_words && constraints_fit c && positions_stand p c Values) (positions_stand p c Identities) e)
