-- The kept positions as a list, and what it is after a statement keeps its position.
-- Assumes nothing.
use mathlib.Core.Path.{◌≡◌, refl}
use mathlib.Core.Logic.{◌↔◌}
use mathlib.Core.Bool.{true, false}
use mathlib.Core.List.{List, ◌∷◌}
use Prim.Native.Nat.{ℕ, zero, suc, ◌+◌, ◌≤◌, ◌<◌}
use native.Mathlib.Omega.{arith}
use native.Mathlib.Decide.{dec_lt, ℕ_discrete}
use borrow.Author.Tests.{ltb-true}
use lib.Dec.{ltb}
use lib.IntN.{ℤ}
use lib.ListN.{length}
use Rattle.program.proofs.StandLaws.{stand-iff}
use Rattle.tables.specs.declared.Sort.{Sort}
use Rattle.tables.specs.declared.Sort.TheVariants.{Values, Identities}
use Rattle.tables.specs.Kept.{most_kept, kept_count, position_at, is_kept, with_position}
use Rattle.tables.proofs.SearchLaws.{cases}
use Rattle.tables.proofs.KeptLaws.{keep-length, keep-count, keep-old, keep-new, keep-count-other, keep-position-other}
use Rattle.fit.proofs.FitChanges.{keep-fit}
use Rattle.program.specs.Where.{is_always, constraints_stand}
use Rattle.rules.specs.State.{listed, positions}
use Rattle.rules.specs.Statements.{has_room, keep}
use Rattle.rules.specs.Rules.Proposals.{Each, none, more}

-- ---- what holds of each position

module _ {A : Type 0} {P : A → Type 0} where
  pub each-head : {x : A} {xs : List A} → Each P (x ∷ xs) → P x
  each-head (more p ps) = p

  pub each_tail : {x : A} {xs : List A} → Each P (x ∷ xs) → Each P xs
  each_tail (more p ps) = ps

module _ (P : ℕ → Type 0) (f : ℕ → ℕ) where
  listed-each : (i n : ℕ) → ((j : ℕ) → i ≤ j → j < i + n → P (f j)) → Each P (listed f i n)
  unfolding listed
  listed-each i zero h = none
  listed-each i (suc n) h = more (h i (omega arith) (omega arith)) (listed-each (suc i) n (λ j a b. h j (omega arith) (omega arith)))

  each-listed : (i n : ℕ) → Each P (listed f i n) → (j : ℕ) → i ≤ j → j < i + n → P (f j)
  unfolding listed
  each-listed i zero e j a b = let z : ⊥ = omega arith in absurd z
  each-listed i (suc n) e j a b = go (ℕ_discrete j i) (λ l. each-listed (suc i) n (each_tail e) j l (omega arith))
    where
      go : Dec (j ≡ i) → (suc i ≤ j → P (f j)) → P (f j)
      go (yes q) r = rw q (each-head e)
      go (no m) r = r (omega arith)

-- a property of each kept position of a sort, by their numbers
pub positions-iff : (P : ℕ → Type 0) (c : List ℤ) (s : Sort) → Each P (positions c s) ↔ ((i : ℕ) → i < kept_count c s → P (position_at c s i))
unfolding positions
positions-iff P c s = (
  λ e i h. each-listed P (position_at c s) 0 (kept_count c s) e i (omega arith) (omega arith),
  λ f. listed-each P (position_at c s) 0 (kept_count c s) (λ j a b. f j (omega arith)),
)

-- ---- a position more

pub same-sort : (t s : Sort) → Dec (t ≡ s)
same-sort Values Values = yes refl
same-sort Values Identities = no (λ q. let z : ◌≡◌ {A = ℕ} 0 1 = cc in omega arith)
same-sort Identities Values = no (λ q. let z : ◌≡◌ {A = ℕ} 0 1 = cc in omega arith)
same-sort Identities Identities = yes refl

module _ (c : List ℤ) (s : Sort) (p : ℕ) where
  pub kept-length : length (keep c s p) ≡ length c
  unfolding keep
  kept-length = cases (is_kept c s p) (λ e. rw e) (λ e. rw e (keep-length c s p))

  -- positions of another sort are as they were
  pub kept-other : (P : ℕ → Type 0) (t : Sort) → (t ≡ s → ⊥) → Each P (positions c t) → Each P (positions (keep c s p) t)
  unfolding keep
  kept-other P t n e = cases (is_kept c s p)
      (λ k. rw k e)
      (λ k. rw k ((positions-iff P (with_position c s p) t).1 (λ i h.
      rw (keep-position-other c s p t i n) ((positions-iff P c t).0 e i (rw (keep-count-other c s p t n) at h)))))

  module _ (long : length c ≡ 98) (room : has_room c s p ≡ true) (small : p < 2147483648) where
    -- where the position is not kept yet, there is room for it
    pub kept-room : is_kept c s p ≡ false → kept_count c s < most_kept s
    unfolding has_room
    kept-room e = let r : ltb (kept_count c s) (most_kept s) ≡ true = rw e at room in ltb-true (kept_count c s) (most_kept s) r

    -- a position of the sort is an old one or the new one
    with_each : (P : ℕ → Type 0) → is_kept c s p ≡ false → Each P (positions c s) → P p → (i : ℕ) → i < kept_count c s + 1 → P (position_at (with_position c s p) s i)
    with_each P k e q i h = go (dec_lt i (kept_count c s))
      where
        go : Dec (i < kept_count c s) → P (position_at (with_position c s p) s i)
        go (yes l) = rw (keep-old c s p i l) ((positions-iff P c s).0 e i l)
        go (no l) = let j : i ≡ kept_count c s = omega arith in rw (j, keep-new c s p long (kept-room k) small) q

    pub kept-each : (P : ℕ → Type 0) → Each P (positions c s) → P p → Each P (positions (keep c s p) s)
    unfolding keep
    kept-each P e q = cases (is_kept c s p)
        (λ k. rw k e)
        (λ k. rw k ((positions-iff P (with_position c s p) s).1 (λ i h. with_each P k e q i (rw (keep-count c s p long (kept-room k)) at h))))

    -- the kept positions are still those of always-statements of their sorts
    pub kept-stand : (program : List ℤ) → constraints_stand program c ≡ true → is_always program s p ≡ true → constraints_stand program (keep c s p) ≡ true
    unfolding keep
    kept-stand program e a = cases (is_kept c s p)
        (λ k. rw k e)
        (λ k. rw k ((stand-iff program (with_position c s p)).1 (
          (((stand-iff program c).0 e).0.0, keep-fit c s p long ((stand-iff program c).0 e).0.1 (kept-room k) k small),
          λ t i h. all t (same-sort t s) k i h,
        )))
      where
        old : (t : Sort) → Each (λ n. is_always program t n ≡ true) (positions c t)
        old t = (positions-iff (λ n. is_always program t n ≡ true) c t).1 (((stand-iff program c).0 e).1 t)

        all : (t : Sort) → Dec (t ≡ s) → is_kept c s p ≡ false → (i : ℕ) → i < kept_count (with_position c s p) t → is_always program t (position_at (with_position c s p) t i) ≡ true
        all t (yes q) k i h = rw q (with_each (λ n. is_always program s n ≡ true) k (old s) a i (rw (q, keep-count c s p long (kept-room k)) at h))
        all t (no n) k i h = rw (keep-position-other c s p t i n) ((positions-iff (λ n. is_always program t n ≡ true) c t).0 (old t) i (rw (keep-count-other c s p t n) at h))
