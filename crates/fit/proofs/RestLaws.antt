-- Records and positions that fit, where the rest of their table is blank or is not. Assumes nothing.
use mathlib.Core.Path.{◌≡◌, sym, ◌∙◌}
use mathlib.Core.Bool.{true, false, true≢false}
use mathlib.Core.List.{List}
use Prim.Native.Nat.{ℕ, ◌+◌, ◌*◌, ◌≤◌, ◌<◌}
use native.Mathlib.Omega.{arith}
use native.Mathlib.Decide.{dec_lt}
use borrow.Author.Tests.{lt-ltb, le-ltb}
use lib.IntN.{ℤ, pos}
use lib.ListN.{length, get_or-eq_default}
use Rattle.words.specs.Words.{word_at}
use Rattle.tables.specs.Search.{every}
use Rattle.tables.specs.Cells.{pair_at, zeros}
use Rattle.tables.specs.Records.{blank_record, blank_from}
use Rattle.tables.specs.Kept.{most_kept, blank_position, blank_positions}
use Rattle.tables.specs.declared.Sort.{Sort}
use Rattle.tables.proofs.SearchLaws.{cases, every-at, every-all}
use Rattle.tables.proofs.RecordLaws.{zeros-at}
use Rattle.tables.proofs.ClearLaws.{agree, from_at, from_all, positions-at, positions-all}
use Rattle.fit.specs.Fit.{cell_fits, environment_fits, record_fits, number_fits, position_fits, room_fits}

-- variables that are all zero fit
pub clear-cells : (count : ℤ) (e : List ℤ) → zeros e 0 (length e) ≡ true → environment_fits count e ≡ true
unfolding environment_fits cell_fits
clear-cells count e z = every-all (λ x. cell_fits count (pair_at e (2 * x))) 64 (λ x l. rw (word (2 * x), word (2 * x + 1)))
  where
    by : (i : ℕ) → Dec (i < length e) → word_at e i ≡ pos 0
    by i (yes l) = let y : 0 + i ≡ i = omega arith in rw y at (zeros-at e 0 (length e) z i l)
    by i (no l) = get_or-eq_default e (pos 0) (omega arith)

    word : (i : ℕ) → word_at e i ≡ pos 0
    word i = by i (dec_lt i (length e))

-- a heap of n records that fit, whose other records are blank or not
module _ (h : List ℤ) (n : ℕ) where
  pub number-refused : (r : ℕ) → r < n → record_fits h r ≡ false → number_fits h n r ≡ false
  unfolding number_fits
  number-refused r l e = rw (lt-ltb r n l) e

  number-passed : every (number_fits h n) 64 ≡ true → (r : ℕ) → r < n → n ≤ 64 → record_fits h r ≡ true
  unfolding number_fits
  number-passed e r l m = rw (lt-ltb r n l) at (every-at (number_fits h n) 64 e r (omega arith))

  pub heap-refused : n ≤ 64 → every (record_fits h) n ≡ false → every (number_fits h n) 64 ≡ false
  heap-refused m e = cases (every (number_fits h n) 64)
      (λ a. absurd (true≢false (sym (every-all (record_fits h) n (λ r l. number-passed a r l m)) ∙ e)))
      (λ a. a)

  module _ (small : n ≤ 64) (fits : every (record_fits h) n ≡ true) where
    number-passes : blank_from h n ≡ true → (r : ℕ) → r < 64 → Dec (r < n) → number_fits h n r ≡ true
    unfolding number_fits
    number-passes e r a (yes l) = rw (lt-ltb r n l) (every-at (record_fits h) n fits r l)
    number-passes e r a (no l) = rw (le-ltb r n (omega arith)) (from_at h n e r (omega arith) a)

    number-blank : every (number_fits h n) 64 ≡ true → (r : ℕ) → n ≤ r → r < 64 → blank_record h r ≡ true
    unfolding number_fits
    number-blank e r l a = rw (le-ltb r n l) at (every-at (number_fits h n) 64 e r a)

    pub heap-rest : blank_from h n ≡ every (number_fits h n) 64
    heap-rest =
        agree (blank_from h n) (every (number_fits h n) 64)
        (λ e. every-all (number_fits h n) 64 (λ r a. number-passes e r a (dec_lt r n)))
        (λ e. from_all h n (number-blank e))

-- a sort of n positions that fit, whose other positions are blank or not
module _ (c : List ℤ) (s : Sort) (n : ℕ) where
  pub room-refused : (i : ℕ) → i < n → position_fits c s i ≡ false → room_fits c s n i ≡ false
  unfolding room_fits
  room-refused i l e = rw (lt-ltb i n l) e

  room-passed : every (room_fits c s n) (most_kept s) ≡ true → (i : ℕ) → i < n → n ≤ most_kept s → position_fits c s i ≡ true
  unfolding room_fits
  room-passed e i l m = rw (lt-ltb i n l) at (every-at (room_fits c s n) (most_kept s) e i (omega arith))

  pub sort-refused : n ≤ most_kept s → every (position_fits c s) n ≡ false → every (room_fits c s n) (most_kept s) ≡ false
  sort-refused m e = cases (every (room_fits c s n) (most_kept s))
      (λ a. absurd (true≢false (sym (every-all (position_fits c s) n (λ i l. room-passed a i l m)) ∙ e)))
      (λ a. a)

  module _ (small : n ≤ most_kept s) (fits : every (position_fits c s) n ≡ true) where
    room-passes : blank_positions c s n ≡ true → (i : ℕ) → i < most_kept s → Dec (i < n) → room_fits c s n i ≡ true
    unfolding room_fits
    room-passes e i a (yes l) = rw (lt-ltb i n l) (every-at (position_fits c s) n fits i l)
    room-passes e i a (no l) = rw (le-ltb i n (omega arith)) (positions-at c s n e i (omega arith) a)

    room-blank : every (room_fits c s n) (most_kept s) ≡ true → (i : ℕ) → n ≤ i → i < most_kept s → blank_position c s i ≡ true
    unfolding room_fits
    room-blank e i l a = rw (le-ltb i n l) at (every-at (room_fits c s n) (most_kept s) e i a)

    pub sort-rest : blank_positions c s n ≡ every (room_fits c s n) (most_kept s)
    sort-rest =
        agree (blank_positions c s n) (every (room_fits c s n) (most_kept s))
        (λ e. every-all (room_fits c s n) (most_kept s) (λ i a. room-passes e i a (dec_lt i n)))
        (λ e. positions-all c s n (room-blank e))
