-- A word more behind those that are written. Assumes nothing.
use mathlib.Core.Path.{◌≡◌, refl, ap}
use mathlib.Core.Bool.{Bool, ◌||◌}
use mathlib.Core.List.{List, [], ◌∷◌, ◌++◌}
use Prim.Native.Nat.{ℕ, zero, suc, ◌+◌, ◌-◌, ◌≤◌, ◌<◌}
use native.Mathlib.Omega.{arith}
use borrow.Author.Tests.{lt-ltb, eqb-true}
use lib.Dec.{eqb, ltb}
use lib.ListN.{length, set, take, drop, length-drop}
use lib.Seq.{take-set-le}
use Rattle.tables.proofs.SearchLaws.{cases}
use Rattle.text.specs.declared.Carried.{Carried}
use Rattle.text.specs.Told.{reader_of, reading_of}
use Rattle.text.proofs.ToldLaws.{follows-stopped}
use Rattle.text.specs.Written.{since, with1, wrote_one, Passes, Owes}

module _ {A : Type 0} where
  take_more : (ws : List A) (n : ℕ) (w : A) → n < length ws → take (suc n) (set ws n w) ≡ take n ws ++ w ∷ []
  take_more [] n w h = let z : ⊥ = omega arith in absurd z
  take_more (x ∷ ws) zero w h = refl
  take_more (x ∷ ws) (suc n) w h = ap (λ s. x ∷ s) (take_more ws n w (omega arith))

  pub drop-set : (ws : List A) (from n : ℕ) (w : A) → from ≤ n → drop from (set ws n w) ≡ set (drop from ws) (n - from) w
  drop-set ws zero n w h = let y : n - 0 ≡ n = omega arith in rw y
  drop-set [] (suc from) n w h = refl
  drop-set (x ∷ ws) (suc from) zero w h = let z : ⊥ = omega arith in absurd z
  drop-set (x ∷ ws) (suc from) (suc n) w h = let y : suc n - suc from ≡ n - from = omega arith in rw y (drop-set ws from n w (omega arith))

  -- what is written from a word on has it at its end
  pub since-more : (from : ℕ) (ws : List A) (r : Carried) (w : A) → from ≤ r.written → r.written < 4100 → r.written < length ws → since from (with1 ws r w) (wrote_one r) ≡ since from ws r ++ w ∷ []
  unfolding since with1 wrote_one
  since-more from ws r w a b c =
      let y : r.written + 1 - from ≡ suc (r.written - from) = omega arith in
      rw (lt-ltb r.written 4100 b, drop-set ws from r.written w a, y) (take_more (drop from ws) (r.written - from) w (rw (length-drop) (omega arith)))

  -- what was written before stays
  pub with-before : (k : ℕ) (ws : List A) (r : Carried) (w : A) → k ≤ r.written → take k (with1 ws r w) ≡ take k ws
  unfolding with1
  with-before k ws r w h = cases (ltb r.written 4100) (λ e. rw e (take-set-le k ws r.written w h)) (λ e. rw e)

pub passes : (b : Bool) (r : Carried) {s : Carried}
    → s ≡ record {
      number = r.number;
      place = r.place;
      at = r.at;
      last = r.last;
      certain = r.certain;
      owed = r.owed;
      passed = r.passed || b;
      variables = r.variables;
      labels = r.labels;
      named = r.named;
      written = r.written;
      depth = r.depth;
      code = r.code;
      start = r.start;
      end = r.end;
    }
    → Passes b r s
unfolding reading_of reader_of
passes b r e = record { reads = λ names. rw e (cases (eqb r.number 0) (λ f. rw f) (λ f. rw f)); written = rw e; depth = rw e }

pub owes_more : (k : ℕ) (r : Carried) {s : Carried} → s ≡ record r { owed = r.owed + k } → Owes k r s
unfolding reading_of reader_of
owes_more k r e = λ a b. record { reads = λ names. rw e (cases (eqb r.number 0) (λ f. rw f) (λ f. rw f)); written = rw e; depth = rw e }

pub owes-much : (k : ℕ) (r : Carried) → 4096 < r.owed → Owes k r r
owes-much k r h = λ a b. follows-stopped (λ e. omega (arith, a e))

pub owes-many : (k : ℕ) (r : Carried) → 4096 < k → Owes k r r
owes-many k r h = λ a b. let z : ⊥ = omega arith in absurd z

-- what is owed, where the sum is right if both are as few as they may be
pub owes-least : (k : ℕ) (r : Carried) {m : ℕ} → (r.owed ≤ 4096 → k ≤ 4096 → m ≡ r.owed + k) → Owes k r (record r { owed = m })
unfolding reading_of reader_of
owes-least k r is =
    λ a b. cases (eqb r.number 0)
    (λ e. record { reads = λ names. rw (e, is (a (eqb-true r.number 0 e)) b); written = refl; depth = refl })
    (λ e. record { reads = λ names. rw e; written = refl; depth = refl })
