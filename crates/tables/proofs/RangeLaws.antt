-- What `all`, `any` and `position` come to over the numbers of a range. Assumes nothing.
use mathlib.Core.Path.{◌≡◌, sym, ◌∙◌}
use mathlib.Core.Bool.{Bool, true, false, true≢false}
use Prim.Native.Nat.{ℕ, ◌+◌, ◌≤◌, ◌<◌}
use native.Mathlib.Omega.{arith}
use native.Mathlib.Decide.{dec_lt}
use borrow.Author.Tests.{lt-ltb, le-ltb}
use denote.Param.Members.{Mut}
use lib.Dec.{ltb}
use lib.ListN.{length}
use Rattle.std.specs.Prelude.{List, Option, Some, None}
use Rattle.std.specs.Bool.{MatchBool}
use Rattle.std.specs.Fn.{Called}
use Rattle.std.specs.Iterator.{YieldsThen}
use Rattle.std.specs.Option.{MatchOption}
use Rattle.std.specs.List.{AllWithin, HoldsAt, FoldsTo, range_with_len}
use Rattle.std.proofs.lemmas.Iterator.{YieldsList, cases_from_all, cases_from_any, IsFirst-from_position}
use Rattle.std.proofs.lemmas.List.FromFn.{length-range_with_len, get_or-range_with_len}
use Rattle.tables.specs.Search.{every, first}
use Rattle.tables.proofs.SearchLaws.{every-all, every-stops, first_reach, first_passes, first-before}

every-cases : (t : ℕ → Bool) (n : ℕ) (r : Bool)
    → MatchBool r (AllWithin (λ i. t i ≡ true) (range_with_len 0 n) 0 (length (range_with_len 0 n))) ((k : ℕ) × (k < length (range_with_len 0 n)) × HoldsAt (λ i. t i ≡ false) (range_with_len 0 n) k)
    → r ≡ every t n
every-cases t n true h =
    sym (every-all t n (λ i l. let e = get_or-range_with_len 0 n i 0 l in let z : 0 + i ≡ i = omega arith in rw (e, z) at (h i 0 (omega arith) (omega (arith, length-range_with_len 0 n)))))
every-cases t n false (k, l, h) =
    let m : k < n = omega (arith, length-range_with_len 0 n) in
    let z : 0 + k ≡ k = omega arith in
    sym (every-stops t n k m (rw (get_or-range_with_len 0 n k 0 m, z) at (h 0)))

-- a closure that answers t of each number
pub all_range : {S F : Type 0} {steps : S → Option ℕ → S → Type 0} {g : Mut F (ℕ × Unit {0}) Bool} {s : S} (u : S) (f : F) (r : Bool) (t : ℕ → Bool) (n : ℕ)
    → (xs : List ℕ) × (o : Option ℕ) × (j : F) × YieldsThen steps s xs o u × FoldsTo (λ p x q. Called g p (x, tt) true q) f xs j × MatchOption o (r ≡ true) (λ x. (r ≡ false) × ((h : F) × Called g j (x, tt) false h))
    → YieldsList steps (λ x. x) s (range_with_len 0 n) → ((x : ℕ) (b : Bool) (q : F) → Called g f (x, tt) b q → (q ≡ f) × (t x ≡ b)) → r ≡ every t n
all_range u f r t n ran is each =
    every-cases t n r
    (cases_from_all u f r (λ i. t i ≡ true) (λ i. t i ≡ false) ran is
    (λ x q k. each x true q k) (λ x q k. (each x false q k).1))

-- ---- the first number that passes

module _ (t : ℕ → Bool) (n : ℕ) where
  first-below : (k : ℕ) → k < n → t k ≡ true → first t 0 n ≤ k
  first-below k l e = go (dec_lt k (first t 0 n))
    where
      go : Dec (k < first t 0 n) → first t 0 n ≤ k
      go (yes y) = absurd (true≢false (sym e ∙ first-before t 0 n k (omega arith) y))
      go (no x) = omega arith

  first-none : ((i : ℕ) → i < n → t i ≡ false) → first t 0 n ≡ n
  first-none f = go (dec_lt (first t 0 n) n)
    where
      go : Dec (first t 0 n < n) → first t 0 n ≡ n
      go (yes y) = absurd (true≢false (sym (first_passes t 0 n (omega arith)) ∙ f (first t 0 n) y))
      go (no x) = omega (arith, (first_reach t 0 n).1)

  first-at : (k : ℕ) → k < n → t k ≡ true → ((i : ℕ) → i < k → t i ≡ false) → first t 0 n ≡ k
  first-at k l e f = go (dec_lt (first t 0 n) k)
    where
      below : first t 0 n ≤ k
      below = first-below k l e

      go : Dec (first t 0 n < k) → first t 0 n ≡ k
      go (yes y) = absurd (true≢false (sym (first_passes t 0 n (omega arith)) ∙ f (first t 0 n) y))
      go (no x) = omega (arith, below)

any-cases : (t : ℕ → Bool) (n : ℕ) (r : Bool)
    → MatchBool r ((k : ℕ) × (k < length (range_with_len 0 n)) × HoldsAt (λ i. t i ≡ true) (range_with_len 0 n) k) (AllWithin (λ i. t i ≡ false) (range_with_len 0 n) 0 (length (range_with_len 0 n)))
    → r ≡ ltb (first t 0 n) n
any-cases t n true (k, l, h) =
    let m : k < n = omega (arith, length-range_with_len 0 n) in
    let z : 0 + k ≡ k = omega arith in
    let e : t k ≡ true = rw (get_or-range_with_len 0 n k 0 m, z) at (h 0) in
    sym (lt-ltb (first t 0 n) n (omega (arith, first-below t n k m e, m)))
any-cases t n false h =
    let e = first-none t n (λ i l. let z : 0 + i ≡ i = omega arith in rw (get_or-range_with_len 0 n i 0 l, z) at (h i 0 (omega arith) (omega (arith, length-range_with_len 0 n)))) in
    sym (le-ltb (first t 0 n) n (omega (arith, e)))

-- a closure that answers t of each number
pub any_range : {S F : Type 0} {steps : S → Option ℕ → S → Type 0} {g : Mut F (ℕ × Unit {0}) Bool} {s : S} (u : S) (f : F) (r : Bool) (t : ℕ → Bool) (n : ℕ)
    → (xs : List ℕ) × (o : Option ℕ) × (j : F) × YieldsThen steps s xs o u × FoldsTo (λ p x q. Called g p (x, tt) false q) f xs j × MatchOption o (r ≡ false) (λ x. (r ≡ true) × ((h : F) × Called g j (x, tt) true h))
    → YieldsList steps (λ x. x) s (range_with_len 0 n) → ((x : ℕ) (b : Bool) (q : F) → Called g f (x, tt) b q → (q ≡ f) × (t x ≡ b)) → r ≡ ltb (first t 0 n) n
any_range u f r t n ran is each =
    any-cases t n r
    (cases_from_any u f r (λ i. t i ≡ true) (λ i. t i ≡ false) ran is
    (λ x q k. (each x true q k).1) (λ x q k. each x false q k))

position-cases : (t : ℕ → Bool) (n : ℕ) (r : Option ℕ)
    → MatchOption r (AllWithin (λ i. t i ≡ false) (range_with_len 0 n) 0 (length (range_with_len 0 n))) (λ i. (i < length (range_with_len 0 n)) × HoldsAt (λ i. t i ≡ true) (range_with_len 0 n) i × AllWithin (λ i. t i ≡ false) (range_with_len 0 n) 0 i)
    → MatchOption r (first t 0 n ≡ n) (λ k. (k < n) × (first t 0 n ≡ k))
position-cases t n (Some k) (l, h, f) =
    let m : k < n = omega (arith, length-range_with_len 0 n) in
    let z : 0 + k ≡ k = omega arith in
    (m, first-at t n k m (rw (get_or-range_with_len 0 n k 0 m, z) at (h 0)) (λ i b. let y : 0 + i ≡ i = omega arith in let c : i < n = omega arith in rw (get_or-range_with_len 0 n i 0 c, y) at (f i 0 (omega arith) b)))
position-cases t n None h =
    first-none t n (λ i l. let z : 0 + i ≡ i = omega arith in rw (get_or-range_with_len 0 n i 0 l, z) at (h i 0 (omega arith) (omega (arith, length-range_with_len 0 n))))

pub position_range : {S F : Type 0} {steps : S → Option ℕ → S → Type 0} {g : Mut F (ℕ × Unit {0}) Bool} {s : S} (u : S) (f : F) (r : Option ℕ) (t : ℕ → Bool) (n : ℕ)
    → (xs : List ℕ) × (o : Option ℕ) × (j : F) × YieldsThen steps s xs o u × FoldsTo (λ p x q. Called g p (x, tt) false q) f xs j × MatchOption o (r ≡ None) (λ x. (r ≡ Some (length xs)) × ((h : F) × Called g j (x, tt) true h))
    → YieldsList steps (λ x. x) s (range_with_len 0 n) → ((x : ℕ) (b : Bool) (q : F) → Called g f (x, tt) b q → (q ≡ f) × (t x ≡ b)) → MatchOption r (first t 0 n ≡ n) (λ k. (k < n) × (first t 0 n ≡ k))
position_range u f r t n ran is each =
    position-cases t n r
    (IsFirst-from_position u f r (λ i. t i ≡ true) (λ i. t i ≡ false) ran is
    (λ x q k. (each x true q k).1) (λ x q k. each x false q k))
