-- A fit environment and heap stay fit, and so do fit constraints. Assumes nothing.
use mathlib.Core.Path.{◌≡◌, refl, sym, ap, ◌∙◌}
use mathlib.Core.Bool.{true, false, not}
use mathlib.Core.List.{List}
use Prim.Native.Nat.{ℕ, ◌+◌, ◌≤◌, ◌<◌}
use native.Mathlib.Omega.{arith}
use native.Mathlib.Decide.{dec_lt, ℕ_discrete}
use borrow.Author.Tests.{lt-ltb, le-ltb, le-leb, ltb-true, leb-true, ne_eqb, eqb-false, not-true}
use lib.Dec.{ltb, leb, eqb}
use lib.IntN.{ℤ, pos}
use lib.ListN.{length, get_or-replicate, length-replicate, get_or-eq_default}
use Rattle.words.specs.Words.{word_at, number_of}
use Rattle.tables.specs.Sizes.{environment_words, heap_words, constraints_words, field_location}
use Rattle.tables.specs.Search.{every}
use Rattle.tables.specs.Cells.{Cells, cells, Sized, cell_at, put_cell, fresh}
use Rattle.tables.specs.Records.{record_count, count_at, field_count, label_at, blank_place, new_cell, with_record}
use Rattle.tables.specs.Kept.{most_kept, kept_number, kept_count, position_at, blank_position, is_kept, with_position}
use Rattle.tables.specs.declared.Cell.{Cell}
use Rattle.tables.specs.declared.Sort.{Sort}
use Rattle.tables.specs.declared.Sort.TheVariants.{Values, Identities}
use Rattle.tables.proofs.SearchLaws.{and_left, and_right, and-true, every-at, every-all}
use Rattle.tables.proofs.FindLaws.{field_in, kept_in}
use Rattle.tables.proofs.CellLaws.{location-high, location-low, same_place, Among, the-place, no_place, among, no_cell, read_same, read-other, put-sized, put-records, put-count-word, put_count, put-fields, put-label}
use Rattle.tables.proofs.RecordLaws.{add-length, add-count-word, add-records, add-count, add-count-other, add-fields, add-fields-other, add-label, add-label-other, add-blank, add-cell, add-cell-other}
use Rattle.tables.proofs.KeptLaws.{kept-are, keep-number-other, keep-count-other, keep-blank, keep-blank-other, keep-old, keep-position-other, keep-written, keep-count, keep-new, kept-not, zero-kept, zero-position}
use Rattle.tables.proofs.ClearLaws.{put-blank}
use Rattle.tables.proofs.SameLaws.{zero-cell, zero-records, zero-count, zero-fields, zero-place}
use Rattle.fit.specs.Fit.{cell_fits, Fit, MayHold, in_variable, in_field, FieldsFit, position_fits, room_fits, sort_fits, constraints_fit}
use Rattle.fit.proofs.CellFits.{an-absent, shape-fits, fits_more}
use Rattle.fit.proofs.FitLaws.{fit-facts, facts-fit, fit-count-word, fit-unused}

-- ---- another cell at a location

module _ (S : Cells) (l : ℕ) (c : Cell) (fit : Fit S) (fits : cell_fits (word_at S.heap 0) c ≡ true) where
  put-fitting : (k : ℕ) → cell_fits (word_at S.heap 0) (cell_at (put_cell S l c) k) ≡ true
  put-fitting k = go (ℕ_discrete k l) (dec_lt k 576)
    where
      go : Dec (k ≡ l) → Dec (k < 576) → cell_fits (word_at S.heap 0) (cell_at (put_cell S l c) k) ≡ true
      go (yes e) (yes a) = rw (e, read_same S l c fit.sized (omega arith)) fits
      go (yes e) (no a) = rw (no_cell (put_cell S l c) k (omega arith)) (shape-fits (word_at S.heap 0) an-absent)
      go (no n) d = rw (read-other S l k c n) ((fit-facts S fit).fitting k)

  -- a field that may hold the cell was used, and the cell is not absent
  field-used : 64 ≤ l → MayHold S l c → (number_of (cell_at S l).kind ≡ 0 → ⊥) × (number_of c.kind ≡ 0 → ⊥)
  field-used a (in_variable b) = let z : ⊥ = omega arith in absurd z
  field-used a (in_field u v) = (u, v)

  put-used : MayHold S l c → (r f : ℕ) → f < field_count S.heap r → number_of (cell_at (put_cell S l c) (field_location r f)).kind ≡ 0 → ⊥
  put-used m r f b = go (ℕ_discrete (field_location r f) l)
    where
      go : Dec (field_location r f ≡ l) → number_of (cell_at (put_cell S l c) (field_location r f)).kind ≡ 0 → ⊥
      go (yes e) = let i = field_in S.heap r f b in rw (e, read_same S l c fit.sized (rw (← e) (location-low r f i.0 i.1))) (field-used (rw (← e) (location-high r f)) m).1
      go (no n) = rw (read-other S l (field_location r f) c n) ((fit-facts S fit).used r f b)

  put-unused : MayHold S l c → (r f : ℕ) → r < 64 → f < 8 → field_count S.heap r ≤ f → blank_place (put_cell S l c).heap r f ≡ true
  put-unused m r f a b g =
      put-blank S l c r f (λ e. (field-used (rw (← e) (location-high r f)) m).0 (rw e at (ap (λ d. number_of d.kind) (fit-unused S fit r f a b g))))
      ∙ (fit-facts S fit).blank r f a b g

  pub fit-put : MayHold S l c → Fit (put_cell S l c)
  fit-put m =
      let k = fit-facts S fit in
      facts-fit (put_cell S l c) (put-sized S l c fit.sized) (record {
        count = rw (put-records S l c) k.count;
        fitting = rw (put-count-word S l c) put-fitting;
        counted = λ r a. put_count S l c r ∙ k.counted r a ∙ sym (put-fields S l c r);
        beyond = λ r b. rw (put-fields S l c r) (k.beyond r (rw (put-records S l c) at b));
        small = λ r f b. rw (put-label S l c r f) (k.small r f (rw (put-fields S l c r) at b));
        differ = λ r g f a b. rw (put-label S l c r g, put-label S l c r f) (k.differ r g f a (rw (put-fields S l c r) at b));
        used = λ r f b. put-used m r f (rw (put-fields S l c r) at b);
        blank = λ r f a b g. put-unused m r f a b (rw (put-fields S l c r) at g);
      })

-- ---- a record more

module _ (S : Cells) (fs : List ℤ) (n : ℕ) (fit : Fit S) (room : record_count S.heap < 64) (few : n ≤ 8) (new : FieldsFit (word_at S.heap 0) fs n) where
  abbrev T : Cells
  T = cells S.environment (with_record S.heap fs n)

  long : length S.heap ≡ heap_words
  long = fit.sized.heap

  -- a cell that fits the old count fits the new one
  still-fits : (c : Cell) → cell_fits (word_at S.heap 0) c ≡ true → cell_fits (word_at T.heap 0) c ≡ true
  still-fits c e =
      rw (add-count-word S.heap fs n long room few) (fits_more (record_count S.heap) (record_count S.heap + 1) c (omega arith) (rw (fit-count-word S fit) at e))

  add-fitting : (l : ℕ) → cell_fits (word_at T.heap 0) (cell_at T l) ≡ true
  add-fitting l = go (among (record_count S.heap) n l)
    where
      go : Among (record_count S.heap) n l → cell_fits (word_at T.heap 0) (cell_at T l) ≡ true
      go (the-place f i e) = rw (e, add-cell S.heap fs n long room few S.environment f i) (still-fits (new_cell fs f) (new.fits f i))
      go (no_place d) = rw (add-cell-other S.heap fs n long room few S.environment l d) (still-fits (cell_at S l) ((fit-facts S fit).fitting l))

  -- a place of another record, or a place after the new fields, is as it was
  add-place-other : (r f : ℕ) → f < 8 → (r ≡ record_count S.heap → n ≤ f) → cell_at T (field_location r f) ≡ cell_at S (field_location r f)
  add-place-other r f b d = add-cell-other S.heap fs n long room few S.environment (field_location r f)
      (λ g i e. let q = same_place r (record_count S.heap) f g b (omega arith) e in omega (arith, d q.0, q.1))

  module _ (r : ℕ) where
    add-counted : Dec (r ≡ record_count S.heap) → r < 64 → count_at T.heap r ≡ field_count T.heap r
    add-counted (yes e) a = rw e (add-count S.heap fs n long room few ∙ sym (add-fields S.heap fs n long room few))
    add-counted (no m) a = add-count-other S.heap fs n long room few r m ∙ (fit-facts S fit).counted r a ∙ sym (add-fields-other S.heap fs n long room few r m)

    -- the fields of the new record, and of any other
    new-field : r ≡ record_count S.heap → field_count T.heap r ≡ n
    new-field e = rw e (add-fields S.heap fs n long room few)

    old-field : (r ≡ record_count S.heap → ⊥) → field_count T.heap r ≡ field_count S.heap r
    old-field m = add-fields-other S.heap fs n long room few r m

    add_small : Dec (r ≡ record_count S.heap) → (f : ℕ) → f < field_count T.heap r → label_at T.heap r f < 32
    add_small (yes e) f b = let i : f < n = rw (new-field e) at b in rw (e, add-label S.heap fs n long room few f i) (new.small f i)
    add_small (no m) f b = rw (add-label-other S.heap fs n long room few r f m) ((fit-facts S fit).small r f (rw (old-field m) at b))

    add-differ : Dec (r ≡ record_count S.heap) → (g f : ℕ) → g < f → f < field_count T.heap r → label_at T.heap r g ≡ label_at T.heap r f → ⊥
    add-differ (yes e) g f a b =
        let i : f < n = rw (new-field e) at b in
        rw (e, add-label S.heap fs n long room few f i, add-label S.heap fs n long room few g (omega arith)) (new.differ g f a i)
    add-differ (no m) g f a b =
        rw (add-label-other S.heap fs n long room few r f m, add-label-other S.heap fs n long room few r g m) ((fit-facts S fit).differ r g f a (rw (old-field m) at b))

    add-used : Dec (r ≡ record_count S.heap) → (f : ℕ) → f < field_count T.heap r → number_of (cell_at T (field_location r f)).kind ≡ 0 → ⊥
    add-used (yes e) f b = let i : f < n = rw (new-field e) at b in rw (e, add-cell S.heap fs n long room few S.environment f i) (new.used f i)
    add-used (no m) f b =
        let i = rw (old-field m) at b in
        rw (add-place-other r f (field_in S.heap r f i).1 (λ q. absurd (m q))) ((fit-facts S fit).used r f i)

    -- a place that is unused was unused
    was-unused : Dec (r ≡ record_count S.heap) → (f : ℕ) → field_count T.heap r ≤ f → (field_count S.heap r ≤ f) × (r ≡ record_count S.heap → n ≤ f)
    was-unused (yes e) f g = (rw ((fit-facts S fit).beyond r (omega arith)) (omega arith), λ q. rw (new-field e) at g)
    was-unused (no m) f g = (rw (old-field m) at g, λ q. absurd (m q))

    still-blank : Dec (r ≡ record_count S.heap) → (f : ℕ) → r < 64 → f < 8 → field_count T.heap r ≤ f → blank_place T.heap r f ≡ true
    still-blank d f a b g = let w = was-unused d f g in add-blank S.heap fs n long room few r f w.1 ∙ (fit-facts S fit).blank r f a b w.0

  pub fit-add : Fit (cells S.environment (with_record S.heap fs n))
  fit-add = facts-fit T (record { environment = fit.sized.environment; heap = add-length S.heap fs n ∙ long }) (record {
    count = rw (add-records S.heap fs n long room few) (omega arith);
    fitting = add-fitting;
    counted = λ r. add-counted r (ℕ_discrete r (record_count S.heap));
    beyond = λ r b.
        let l : record_count S.heap + 1 ≤ r = rw (add-records S.heap fs n long room few) at b in
        old-field r (λ e. omega arith) ∙ (fit-facts S fit).beyond r (omega arith);
    small = λ r. add_small r (ℕ_discrete r (record_count S.heap));
    differ = λ r. add-differ r (ℕ_discrete r (record_count S.heap));
    used = λ r. add-used r (ℕ_discrete r (record_count S.heap));
    blank = λ r f. still-blank r (ℕ_discrete r (record_count S.heap)) f;
  })

-- ---- a position more

-- all that fit constraints say of one sort, by what is read from them
pub record SortFacts (c : List ℤ) (s : Sort) : Type 0 where
  pub counted : kept_number c s ≡ kept_count c s
  pub small : (i : ℕ) → i < kept_count c s → position_at c s i < 2147483648
  pub differ : (j i : ℕ) → j < i → i < kept_count c s → position_at c s j ≡ position_at c s i → ⊥
  pub blank : (i : ℕ) → kept_count c s ≤ i → i < most_kept s → blank_position c s i ≡ true

module _ (c : List ℤ) (s : Sort) where
  module _ (fits : sort_fits c s ≡ true) where
    sort-small : kept_number c s ≤ most_kept s
    unfolding sort_fits
    sort-small = leb-true (kept_number c s) (most_kept s) (and_left (leb (kept_number c s) (most_kept s)) (every (room_fits c s (kept_number c s)) (most_kept s)) fits)

    room_fits_lem : (i : ℕ) → i < most_kept s → room_fits c s (kept_count c s) i ≡ true
    unfolding sort_fits
    room_fits_lem i h = rw (kept-are c s sort-small)
        (every-at (room_fits c s (kept_number c s)) (most_kept s) (and_right (leb (kept_number c s) (most_kept s)) (every (room_fits c s (kept_number c s)) (most_kept s)) fits) i h)

    position-fits : (i : ℕ) → i < kept_count c s → position_fits c s i ≡ true
    unfolding room_fits
    position-fits i h = rw (lt-ltb i (kept_count c s) h) at (room_fits_lem i (omega (arith, kept_in c s)))

    room-blank : (i : ℕ) → kept_count c s ≤ i → i < most_kept s → blank_position c s i ≡ true
    unfolding room_fits
    room-blank i h l = rw (le-ltb i (kept_count c s) h) at (room_fits_lem i l)

    position-small : (i : ℕ) → i < kept_count c s → position_at c s i < 2147483648
    unfolding position_fits
    position-small i h = ltb-true (position_at c s i) 2147483648 (and_left (ltb (position_at c s i) 2147483648) _ (position-fits i h))

    positions-differ : (j i : ℕ) → j < i → i < kept_count c s → position_at c s j ≡ position_at c s i → ⊥
    unfolding position_fits
    positions-differ j i l h = eqb-false (position_at c s j) (position_at c s i) (not-true (eqb (position_at c s j) (position_at c s i))
        (every-at (λ k. not (eqb (position_at c s k) (position_at c s i))) i (and_right (ltb (position_at c s i) 2147483648) _ (position-fits i h)) j l))

    sort-facts : SortFacts c s
    sort-facts = record {
      counted = sym (kept-are c s sort-small);
      small = position-small;
      differ = positions-differ;
      blank = room-blank;
    }

  module _ (facts : SortFacts c s) where
    position-passes : (i : ℕ) → i < kept_count c s → position_fits c s i ≡ true
    unfolding position_fits
    position-passes i h =
        and-true (ltb (position_at c s i) 2147483648) (every (λ k. not (eqb (position_at c s k) (position_at c s i))) i) (lt-ltb (position_at c s i) 2147483648 (facts.small i h))
        (every-all (λ k. not (eqb (position_at c s k) (position_at c s i))) i (λ j l. ap not (ne_eqb (position_at c s j) (position_at c s i) (facts.differ j i l h))))

    room-passes : (i : ℕ) → i < most_kept s → room_fits c s (kept_count c s) i ≡ true
    unfolding room_fits
    room-passes i l = go (dec_lt i (kept_count c s))
      where
        go : Dec (i < kept_count c s) → room_fits c s (kept_count c s) i ≡ true
        go (yes h) = rw (lt-ltb i (kept_count c s) h) (position-passes i h)
        go (no h) = rw (le-ltb i (kept_count c s) (omega arith)) (facts.blank i (omega arith) l)

    facts-sort : sort_fits c s ≡ true
    unfolding sort_fits
    facts-sort =
        rw facts.counted
        (and-true (leb (kept_count c s) (most_kept s)) (every (room_fits c s (kept_count c s)) (most_kept s))
        (le-leb (kept_count c s) (most_kept s) (kept_in c s)) (every-all (room_fits c s (kept_count c s)) (most_kept s) room-passes))

-- the constraints fit where both sorts do
constraints-sort : (c : List ℤ) → constraints_fit c ≡ true → (s : Sort) → sort_fits c s ≡ true
unfolding constraints_fit
constraints-sort c e Values = and_left (sort_fits c Values) (sort_fits c Identities) e
constraints-sort c e Identities = and_right (sort_fits c Values) (sort_fits c Identities) e

sorts-constraints : (c : List ℤ) → ((s : Sort) → sort_fits c s ≡ true) → constraints_fit c ≡ true
unfolding constraints_fit
sorts-constraints c f = and-true (sort_fits c Values) (sort_fits c Identities) (f Values) (f Identities)

pub fit-sort : (c : List ℤ) → constraints_fit c ≡ true → (s : Sort) → SortFacts c s
fit-sort c e s = sort-facts c s (constraints-sort c e s)

-- the premises of `keep-unkeep`
pub fit-unused-position : (c : List ℤ) (s : Sort) → constraints_fit c ≡ true → kept_count c s < most_kept s → (blank_position c s (kept_count c s) ≡ true) × (kept_number c s ≡ kept_count c s)
fit-unused-position c s e room = let k = fit-sort c e s in (k.blank (kept_count c s) (omega arith) room, k.counted)

sort-same : (t s : Sort) → Dec (t ≡ s)
sort-same Values Values = yes refl
sort-same Values Identities = no (λ e. let z : ◌≡◌ {A = ℕ} 0 1 = cc in omega arith)
sort-same Identities Values = no (λ e. let z : ◌≡◌ {A = ℕ} 0 1 = cc in omega arith)
sort-same Identities Identities = yes refl

module _ (c : List ℤ) (s : Sort) (p : ℕ) (long : length c ≡ constraints_words) (fits : constraints_fit c ≡ true) (room : kept_count c s < most_kept s) (new : is_kept c s p ≡ false) (word : p < 2147483648) where
  abbrev d : List ℤ
  d = with_position c s p

  -- a kept position is an old one or the new one
  kept_small : (i : ℕ) → i < kept_count c s + 1 → position_at d s i < 2147483648
  kept_small i h = go (dec_lt i (kept_count c s))
    where
      go : Dec (i < kept_count c s) → position_at d s i < 2147483648
      go (yes l) = rw (keep-old c s p i l) ((fit-sort c fits s).small i l)
      go (no l) = let e : i ≡ kept_count c s = omega arith in rw (e, keep-new c s p long room word) word

  kept-differ : (j i : ℕ) → j < i → i < kept_count c s + 1 → position_at d s j ≡ position_at d s i → ⊥
  kept-differ j i m h = go (dec_lt i (kept_count c s))
    where
      go : Dec (i < kept_count c s) → position_at d s j ≡ position_at d s i → ⊥
      go (yes l) = rw (keep-old c s p i l, keep-old c s p j (omega arith)) ((fit-sort c fits s).differ j i m l)
      go (no l) = let e : i ≡ kept_count c s = omega arith in rw (e, keep-new c s p long room word, keep-old c s p j (omega arith)) (kept-not c s p new j (omega arith))

  kept-facts : (t : Sort) → Dec (t ≡ s) → SortFacts d t
  kept-facts t (yes e) = rw e (record {
    counted = keep-written c s p long room ∙ sym (keep-count c s p long room);
    small = rw (keep-count c s p long room) kept_small;
    differ = rw (keep-count c s p long room) kept-differ;
    blank = λ i a b.
        let l : kept_count c s + 1 ≤ i = rw (keep-count c s p long room) at a in
        keep-blank c s p i (omega arith) ∙ (fit-sort c fits s).blank i (omega arith) b;
  })
  kept-facts t (no n) =
      let k = fit-sort c fits t in
      let q = keep-count-other c s p t n in
      record {
        counted = keep-number-other c s p t n ∙ k.counted ∙ sym q;
        small = λ i a. rw (keep-position-other c s p t i n) (k.small i (rw q at a));
        differ = λ j i m a. rw (keep-position-other c s p t j n, keep-position-other c s p t i n) (k.differ j i m (rw q at a));
        blank = λ i a b. keep-blank-other c s p t i n b ∙ k.blank i (rw q at a) b;
      }

  pub keep-fit : constraints_fit (with_position c s p) ≡ true
  keep-fit = sorts-constraints d (λ t. facts-sort d t (kept-facts t (sort-same t s)))

-- ---- fresh tables

module _ (S : Cells) (sized : Sized S) (blank-environment : (k : ℕ) → word_at S.environment k ≡ pos 0) (blank-heap : (k : ℕ) → word_at S.heap k ≡ pos 0) where
  no_field : {X : Type 0} (r f : ℕ) → f < field_count S.heap r → X
  no_field r f l = let e = zero-fields S sized blank-environment blank-heap r in let z : ⊥ = omega arith in absurd z

  pub blank-fit : Fit S
  blank-fit = facts-fit S sized (record {
    count = rw (zero-records S sized blank-environment blank-heap) (omega arith);
    fitting = λ l. rw (zero-cell S sized blank-environment blank-heap l) (shape-fits (word_at S.heap 0) an-absent);
    counted = λ r a. zero-count S sized blank-environment blank-heap r a ∙ sym (zero-fields S sized blank-environment blank-heap r);
    beyond = λ r b. zero-fields S sized blank-environment blank-heap r;
    small = λ r f l. no_field r f l;
    differ = λ r g f a l. no_field r f l;
    used = λ r f l. no_field r f l;
    blank = λ r f a b g. zero-place S sized blank-environment blank-heap r f a b;
  })

fresh-word : (n k : ℕ) → word_at (fresh n) k ≡ pos 0
fresh-word n k = go (dec_lt k n)
  where
    go : Dec (k < n) → word_at (fresh n) k ≡ pos 0
    go (yes h) = get_or-replicate n k (pos 0) (pos 0) h
    go (no h) = get_or-eq_default (fresh n) (pos 0) (rw (length-replicate n (pos 0)) (omega arith))

pub fresh-fit : Fit (cells (fresh environment_words) (fresh heap_words))
fresh-fit = blank-fit (cells (fresh environment_words) (fresh heap_words)) (record { environment = length-replicate environment_words (pos 0); heap = length-replicate heap_words (pos 0) }) (fresh-word environment_words) (fresh-word heap_words)

fresh-sort : (s : Sort) → sort_fits (fresh constraints_words) s ≡ true
unfolding sort_fits room_fits
fresh-sort s =
    rw (zero-kept (fresh constraints_words) s (fresh-word constraints_words) (length-replicate constraints_words (pos 0)), le-leb 0 (most_kept s) (omega arith))
    (every-all _ (most_kept s) (λ i l. rw (le-ltb i 0 (omega arith)) (zero-position (fresh constraints_words) s (fresh-word constraints_words) i)))

pub fresh-constraints-fit : constraints_fit (fresh constraints_words) ≡ true
unfolding constraints_fit
fresh-constraints-fit = rw (fresh-sort Values, fresh-sort Identities)
