-- Laws of a record more and a record less. Assumes nothing.
use mathlib.Core.Path.{◌≡◌, refl, sym, ap, ◌∙◌}
use mathlib.Core.Bool.{true, ◌&&◌}
use mathlib.Core.List.{List, []}
use Prim.Native.Nat.{ℕ, suc, ◌+◌, ◌-◌, ◌*◌, ◌≤◌, ◌<◌}
use native.Mathlib.Omega.{arith}
use native.Mathlib.Decide.{dec_lt, ℕ_discrete}
use borrow.Author.Tests.{lt-ltb, le-ltb, le-leb, ltb-true, leb-true}
use lib.Dec.{ltb, leb}
use lib.IntN.{ℤ, pos}
use lib.ListN.{length, set, drop, length-set}
use lib.Seq.{get_or-set_same, get_or-set_other, get_or-drop, ext_get_or}
use Rattle.words.specs.Words.{word_at, number_at, number_of, copied, cleared, eq_z}
use Rattle.words.proofs.Laws.{length-copied, copied-in, copied-out, eq_z-true, number_in}
use Rattle.tables.specs.Sizes.{heap_words, saved_words, field_location, field_word, count_word, label_word}
use Rattle.tables.specs.Cells.{cells, pair_at, cell_at, zeros}
use Rattle.tables.specs.declared.Cell.{Cell}
use Rattle.tables.specs.Records.{record_count, count_at, field_count, label_at, blank_place, blank_record, new_label, new_cell, field_then, with_record, without_record, laid_by, brought_back}
use Rattle.tables.proofs.SearchLaws.{cases, and_right, every-at, every-all, every-same}
use Rattle.tables.proofs.WordLaws.{word-of, number-of, number_same}
use Rattle.tables.proofs.CellLaws.{Located, a-variable, a-field, nowhere, located, variable-cell, field-cell, no_cell}

-- ---- zero words, and the count word

pub zeros-at : (s : List ℤ) (at n : ℕ) → zeros s at n ≡ true → (i : ℕ) → i < n → word_at s (at + i) ≡ pos 0
unfolding zeros
zeros-at s at n e i h = eq_z-true (word_at s (at + i)) (pos 0) (every-at (λ j. eq_z (word_at s (at + j)) (pos 0)) n e i h)

pub zeros-all : (s : List ℤ) (at n : ℕ) → ((i : ℕ) → i < n → word_at s (at + i) ≡ pos 0) → zeros s at n ≡ true
unfolding zeros
zeros-all s at n f = every-all (λ j. eq_z (word_at s (at + j)) (pos 0)) n (λ i h. rw (f i h))

pub zeros-same : (s t : List ℤ) (at n : ℕ) → ((i : ℕ) → i < n → word_at s (at + i) ≡ word_at t (at + i)) → zeros s at n ≡ zeros t at n
unfolding zeros
zeros-same s t at n f = every-same (λ j. eq_z (word_at s (at + j)) (pos 0)) (λ j. eq_z (word_at t (at + j)) (pos 0)) n (λ i h. rw (f i h))

pub count_word_lem : (h : List ℤ) → length h ≡ heap_words → record_count h < 2147483648 → word_at h 0 ≡ pos (record_count h)
unfolding record_count
count_word_lem h l b = word-of h 0 (number_at h 0) (omega arith) refl b

-- ---- the fields of a new record, one by one

module _ (label : ℤ) (c : Cell) (fs : List ℤ) where
  pub first-label : new_label (field_then label c fs) 0 ≡ label
  unfolding new_label
  first-label = refl

  pub first_cell : new_cell (field_then label c fs) 0 ≡ c
  unfolding new_cell
  first_cell = refl

  pub next-label : (f : ℕ) → new_label (field_then label c fs) (suc f) ≡ new_label fs f
  unfolding new_label
  next-label f = let e : 3 * suc f ≡ suc (suc (suc (3 * f))) = omega arith in rw e

  pub next-cell : (f : ℕ) → new_cell (field_then label c fs) (suc f) ≡ new_cell fs f
  unfolding new_cell
  next-cell f =
      let e : 3 * suc f + 1 ≡ suc (suc (suc (3 * f + 1))) = omega arith in
      let u : suc (suc (suc (3 * f + 1))) + 1 ≡ suc (suc (suc (3 * f + 1 + 1))) = omega arith in
      rw (e, u)

-- ---- lengths, and a full heap

pub add-length : (h fs : List ℤ) (n : ℕ) → length (with_record h fs n) ≡ length h
unfolding with_record
add-length h fs n = cases (ltb (record_count h) 64 && leb n 8) (λ e. rw e (simp (length-set, length-copied))) (λ e. rw e)

pub drop-length : (h : List ℤ) → length (without_record h) ≡ length h
unfolding without_record
drop-length h = cases (ltb 0 (record_count h) && leb (record_count h) 64) (λ e. rw e (simp (length-set, length-copied))) (λ e. rw e)

pub full : (h fs : List ℤ) (n : ℕ) → 64 ≤ record_count h → with_record h fs n ≡ h
unfolding with_record
full h fs n l = rw (le-ltb (record_count h) 64 l)

-- ---- a record more

module _ (h fs : List ℤ) (n : ℕ) (long : length h ≡ heap_words) (room : record_count h < 64) (few : n ≤ 8) where
  -- the heap with the fields, and then with the field count
  abbrev filled : List ℤ
  filled = copied fs (count_word (record_count h) + 1) (3 * n) h

  abbrev counted : List ℤ
  counted = set filled (count_word (record_count h)) (pos n)

  added_is : with_record h fs n ≡ set counted 0 (pos (record_count h + 1))
  unfolding with_record
  added_is = rw (lt-ltb (record_count h) 64 room, le-leb n 8 few)

  -- the four kinds of words of the longer heap
  pub add-count-word : word_at (with_record h fs n) 0 ≡ pos (record_count h + 1)
  add-count-word = rw added_is (get_or-set_same counted 0 (pos (record_count h + 1)) (pos 0)
      (simp (length-set, length-copied) (omega arith)))

  pub add-fields-word : word_at (with_record h fs n) (count_word (record_count h)) ≡ pos n
  unfolding count_word label_word field_word
  add-fields-word = rw added_is
      (get_or-set_other counted 0 (count_word (record_count h)) (pos (record_count h + 1)) (pos 0) (λ e. omega arith)
      ∙ get_or-set_same filled (count_word (record_count h)) (pos n) (pos 0) (simp length-copied (omega arith)))

  rest-word : (k : ℕ) → (k ≡ 0 → ⊥) → (k ≡ count_word (record_count h) → ⊥) → word_at (with_record h fs n) k ≡ word_at filled k
  rest-word k a b = rw added_is
      (get_or-set_other counted 0 k (pos (record_count h + 1)) (pos 0) a
      ∙ get_or-set_other filled (count_word (record_count h)) k (pos n) (pos 0) b)

  pub add-word : (i k : ℕ) → i < 3 * n → k ≡ count_word (record_count h) + 1 + i → word_at (with_record h fs n) k ≡ word_at fs i
  unfolding count_word label_word field_word
  add-word i k l e = rw e (rest-word (count_word (record_count h) + 1 + i) (λ q. omega arith) (λ q. omega arith) ∙ copied-in fs (count_word (record_count h) + 1) (3 * n) h i l (omega arith))

  pub add-word-other : (k : ℕ) → (k ≡ 0 → ⊥) → (k ≡ count_word (record_count h) → ⊥) → (count_word (record_count h) + 1 ≤ k → count_word (record_count h) + 1 + 3 * n ≤ k) → word_at (with_record h fs n) k ≡ word_at h k
  add-word-other k a b c = rest-word k a b ∙ copied-out fs (count_word (record_count h) + 1) (3 * n) h k c

  -- a word of another record
  pub add-record-other : (q o k : ℕ) → (q ≡ record_count h → ⊥) → o < 25 → k ≡ 25 * q + 1 + o → word_at (with_record h fs n) k ≡ word_at h k
  unfolding count_word label_word field_word
  add-record-other q o k d l e = go (dec_lt q (record_count h))
    where
      go : Dec (q < record_count h) → word_at (with_record h fs n) k ≡ word_at h k
      go (yes y) = add-word-other k (λ z. omega arith) (λ z. omega arith) (λ z. omega arith)
      go (no y) = let m : record_count h < q = omega arith in add-word-other k (λ z. omega arith) (λ z. omega arith) (λ z. omega arith)

  number-of-word : (k : ℕ) (z : ℤ) → k < 1601 → word_at (with_record h fs n) k ≡ z → number_at (with_record h fs n) k ≡ number_of z
  number-of-word k z l e = number-of (with_record h fs n) k z (rw (add-length h fs n) (omega arith)) e

  pub add-records : record_count (with_record h fs n) ≡ record_count h + 1
  unfolding record_count
  add-records = number-of-word 0 (pos (record_count h + 1)) (omega arith) add-count-word

  pub add-count : count_at (with_record h fs n) (record_count h) ≡ n
  unfolding count_at count_word
  add-count = rw (lt-ltb (record_count h) 64 room) (number-of-word (count_word (record_count h)) (pos n) (omega arith) add-fields-word)

  pub add-count-other : (q : ℕ) → (q ≡ record_count h → ⊥) → count_at (with_record h fs n) q ≡ count_at h q
  unfolding count_at count_word
  add-count-other q d = rw (number_same (with_record h fs n) h (count_word q) (add-length h fs n) (add-record-other q 0 (count_word q) d (omega arith) (omega arith)))

  pub add-fields : field_count (with_record h fs n) (record_count h) ≡ n
  unfolding field_count
  add-fields = rw (add-count, le-leb n 8 few)

  pub add-fields-other : (q : ℕ) → (q ≡ record_count h → ⊥) → field_count (with_record h fs n) q ≡ field_count h q
  unfolding field_count
  add-fields-other q d = rw (add-count-other q d)

  pub add-label : (f : ℕ) → f < n → label_at (with_record h fs n) (record_count h) f ≡ number_of (new_label fs f)
  unfolding label_at count_word label_word field_word new_label
  add-label f l =
      rw (lt-ltb (record_count h) 64 room, lt-ltb f 8 (omega arith))
      (number-of-word (label_word (record_count h) f) (word_at fs (3 * f)) (omega arith) (add-word (3 * f) (label_word (record_count h) f) (omega arith) (omega arith)))

  pub add-label-other : (q f : ℕ) → (q ≡ record_count h → ⊥) → label_at (with_record h fs n) q f ≡ label_at h q f
  unfolding label_at count_word label_word field_word
  add-label-other q f d = cases (ltb q 64 && ltb f 8)
      (λ e. let l : f < 8 = ltb-true f 8 (and_right (ltb q 64) (ltb f 8) e) in
      rw (e, number_same (with_record h fs n) h (label_word q f) (add-length h fs n) (add-record-other q (3 * f + 1) (label_word q f) d (omega arith) (omega arith))))
      (λ e. rw e)

  -- the label of a place after the new fields is as it was
  pub add-label-after : (f : ℕ) → n ≤ f → label_at (with_record h fs n) (record_count h) f ≡ label_at h (record_count h) f
  unfolding label_at label_word count_word
  add-label-after f a = cases (ltb f 8)
      (λ e. let l : f < 8 = ltb-true f 8 e in
      rw (lt-ltb (record_count h) 64 room, e)
      (number_same (with_record h fs n) h (label_word (record_count h) f) (add-length h fs n)
      (add-word-other (label_word (record_count h) f) (λ z. omega arith) (λ z. omega arith) (λ z. omega arith))))
      (λ e. rw (lt-ltb (record_count h) 64 room, e))

  -- a place of another record, or after the new fields, is as blank as it was
  pub add-blank : (r f : ℕ) → (r ≡ record_count h → n ≤ f) → blank_place (with_record h fs n) r f ≡ blank_place h r f
  unfolding blank_place label_word count_word
  add-blank r f d = cases (ltb r 64 && ltb f 8)
      (λ e. let l : f < 8 = ltb-true f 8 (and_right (ltb r 64) (ltb f 8) e) in
      rw e (zeros-same (with_record h fs n) h (label_word r f) 3 (λ i m. go l i m (ℕ_discrete r (record_count h)))))
      (λ e. rw e)
    where
      go : f < 8 → (i : ℕ) → i < 3 → Dec (r ≡ record_count h) → word_at (with_record h fs n) (label_word r f + i) ≡ word_at h (label_word r f + i)
      go l i m (yes e) = let k = d e in add-word-other (label_word r f + i) (λ z. omega arith) (λ z. omega arith) (λ z. omega arith)
      go l i m (no x) = add-record-other r (3 * f + 1 + i) (label_word r f + i) x (omega arith) (omega arith)

  pub add-cell : (e : List ℤ) (f : ℕ) → f < n → cell_at (cells e (with_record h fs n)) (field_location (record_count h) f) ≡ new_cell fs f
  unfolding count_word label_word field_word new_cell
  add-cell e f l =
      rw (
        field-cell (cells e (with_record h fs n)) (record_count h) f room (omega arith),
        add-word (3 * f + 1) (field_word (record_count h) f) (omega arith) (omega arith),
        add-word (3 * f + 1 + 1) (field_word (record_count h) f + 1) (omega arith) (omega arith),
      )

  -- the cell of a field place that is none of the new fields
  add-field-other : (q g : ℕ) → g < 8 → ((f : ℕ) → f < n → field_location q g ≡ field_location (record_count h) f → ⊥) → pair_at (with_record h fs n) (field_word q g) ≡ pair_at h (field_word q g)
  unfolding count_word label_word field_word
  add-field-other q g b d = go (ℕ_discrete q (record_count h)) (dec_lt g n)
    where
      go : Dec (q ≡ record_count h) → Dec (g < n) → pair_at (with_record h fs n) (field_word q g) ≡ pair_at h (field_word q g)
      go (yes e) (yes l) = absurd (d g l (ap (λ k. field_location k g) e))
      go (yes e) (no l) =
          rw (add-word-other (field_word q g) (λ z. omega arith) (λ z. omega arith) (λ z. omega arith), add-word-other (field_word q g + 1) (λ z. omega arith) (λ z. omega arith) (λ z. omega arith))
      go (no m) l =
          rw (add-record-other q (3 * g + 2) (field_word q g) m (omega arith) (omega arith), add-record-other q (3 * g + 3) (field_word q g + 1) m (omega arith) (omega arith))

  pub add-cell-other : (e : List ℤ) (l : ℕ) → ((f : ℕ) → f < n → l ≡ field_location (record_count h) f → ⊥) → cell_at (cells e (with_record h fs n)) l ≡ cell_at (cells e h) l
  add-cell-other e l d = go (located l) d
    where
      go : {k : ℕ} → Located k → ((f : ℕ) → f < n → k ≡ field_location (record_count h) f → ⊥) → cell_at (cells e (with_record h fs n)) k ≡ cell_at (cells e h) k
      go {k} (a-variable a) d = rw (variable-cell (cells e (with_record h fs n)) k a, variable-cell (cells e h) k a)
      go (a-field q g a b) d = rw (field-cell (cells e (with_record h fs n)) q g a b, field-cell (cells e h) q g a b) (add-field-other q g b d)
      go {k} (nowhere a) d = rw (no_cell (cells e (with_record h fs n)) k a, no_cell (cells e h) k a)

  -- ---- and a record less: the heap as it was

  abbrev emptied : List ℤ
  emptied = cleared (count_word (record_count h)) 25 (with_record h fs n)

  abbrev less : List ℤ
  less = set emptied 0 (pos (record_count h))

  dropped-is : without_record (with_record h fs n) ≡ less
  unfolding without_record
  dropped-is =
      let e : record_count h + 1 - 1 ≡ record_count h = omega arith in
      rw (add-records, lt-ltb 0 (record_count h + 1) (omega arith), le-leb (record_count h + 1) 64 (omega arith), e)

  pub add-drop : blank_record h (record_count h) ≡ true → without_record (with_record h fs n) ≡ h
  unfolding blank_record count_word
  add-drop z = ext_get_or (pos 0) (without_record (with_record h fs n)) h (drop-length (with_record h fs n) ∙ add-length h fs n) (λ i l. rw dropped-is (go i (ℕ_discrete i 0) (dec_lt i (count_word (record_count h))) (dec_lt i (25 * record_count h + 26))))
    where
      size : length emptied ≡ 1601
      size = length-copied [] (count_word (record_count h)) 25 (with_record h fs n) ∙ add-length h fs n ∙ long

      stays : (i : ℕ) → (i ≡ 0 → ⊥) → (count_word (record_count h) ≤ i → count_word (record_count h) + 25 ≤ i) → word_at less i ≡ word_at h i
      stays i a b =
          get_or-set_other emptied 0 i (pos (record_count h)) (pos 0) a
          ∙ copied-out [] (count_word (record_count h)) 25 (with_record h fs n) i b
          ∙ add-word-other i a (λ e. omega (arith, b (omega arith))) (λ e. omega (arith, b (omega arith)))

      go : (i : ℕ) → Dec (i ≡ 0) → Dec (i < count_word (record_count h)) → Dec (i < 25 * record_count h + 26) → word_at less i ≡ word_at h i
      go i (yes e) x y = rw e (get_or-set_same emptied 0 (pos (record_count h)) (pos 0) (rw size (omega arith)) ∙ sym (count_word_lem h long (omega arith)))
      go i (no m) (yes x) y = stays i m (λ e. omega arith)
      go i (no m) (no x) (no y) = stays i m (λ e. omega arith)
      go i (no m) (no x) (yes y) =
          let o : i - count_word (record_count h) < 25 = omega arith in
          let e : count_word (record_count h) + (i - count_word (record_count h)) ≡ i = omega arith in
          get_or-set_other emptied 0 i (pos (record_count h)) (pos 0) m
          ∙ rw e at (copied-in [] (count_word (record_count h)) 25 (with_record h fs n) (i - count_word (record_count h)) o (rw (add-length h fs n) (omega arith)))
          ∙ sym (rw e at (zeros-at h (count_word (record_count h)) 25 z (i - count_word (record_count h)) o))

-- ---- the words that a record more may change

copied-same : (t u : List ℤ) (at m : ℕ) (s : List ℤ) → ((i : ℕ) → i < m → word_at t i ≡ word_at u i) → copied t at m s ≡ copied u at m s
copied-same t u at m s e = ext_get_or (pos 0) (copied t at m s) (copied u at m s) (length-copied t at m s ∙ sym (length-copied u at m s)) (λ k l. go k (rw (length-copied t at m s) at l) (dec_lt k at) (dec_lt k (at + m)))
  where
    go : (k : ℕ) → k < length s → Dec (k < at) → Dec (k < at + m) → word_at (copied t at m s) k ≡ word_at (copied u at m s) k
    go k l (yes a) b = copied-out t at m s k (λ x. omega arith) ∙ sym (copied-out u at m s k (λ x. omega arith))
    go k l (no a) (no b) = copied-out t at m s k (λ x. omega arith) ∙ sym (copied-out u at m s k (λ x. omega arith))
    go k l (no a) (yes b) =
        let i : at + (k - at) ≡ k = omega arith in
        let in-t = rw i at (copied-in t at m s (k - at) (omega arith) (rw i l)) in
        let in-u = rw i at (copied-in u at m s (k - at) (omega arith) (rw i l)) in
        in-t ∙ e (k - at) (omega arith) ∙ sym in-u

-- only the first 3 * n words of the fields count
pub add_same : (h fs gs : List ℤ) (n : ℕ) → ((i : ℕ) → i < 3 * n → word_at fs i ≡ word_at gs i) → with_record h fs n ≡ with_record h gs n
unfolding with_record
add_same h fs gs n same = rw (copied-same fs gs (count_word (record_count h) + 1) (3 * n) h same)

-- a record more changes the count word and the words of the first record that is not used, and no other
add-elsewhere : (h fs : List ℤ) (n k : ℕ) → (k ≡ 0 → ⊥) → (count_word (record_count h) ≤ k → count_word (record_count h) + 25 ≤ k) → word_at (with_record h fs n) k ≡ word_at h k
unfolding with_record count_word label_word field_word
add-elsewhere h fs n k a b =
    cases (ltb (record_count h) 64 && leb n 8)
    (λ e.
    let few : n ≤ 8 = leb-true n 8 (and_right (ltb (record_count h) 64) (leb n 8) e) in
    rw e
    (get_or-set_other (set (copied fs (count_word (record_count h) + 1) (3 * n) h) (count_word (record_count h)) (pos n)) 0 k (pos (record_count h + 1)) (pos 0) a
    ∙ get_or-set_other (copied fs (count_word (record_count h) + 1) (3 * n) h) (count_word (record_count h)) k (pos n) (pos 0) (λ x. omega (arith, b (omega arith)))
    ∙ copied-out fs (count_word (record_count h) + 1) (3 * n) h k (λ x. omega (arith, b (omega arith)))))
    (λ e. rw e)

brought-length : (saved h : List ℤ) → length (brought_back saved h) ≡ length h
unfolding brought_back
brought-length saved h = cases (ltb (number_at saved 0) 64) (λ e. rw e (simp (length-set, length-copied))) (λ e. rw e (simp length-set))

module _ (h fs saved : List ℤ) (n : ℕ) (long : saved_words ≤ length saved) where
  abbrev counts : List ℤ
  counts = set saved 0 (word_at h 0)

  abbrev at_first : ℕ
  at_first = count_word (record_count h)

  laid-room : record_count h < 64 → laid_by h saved ≡ copied (drop at_first h) 1 25 counts
  unfolding laid_by
  laid-room r = rw (lt-ltb (record_count h) 64 r)

  laid-full : 64 ≤ record_count h → laid_by h saved ≡ counts
  unfolding laid_by
  laid-full r = rw (le-ltb (record_count h) 64 r)

  laid-length : length (laid_by h saved) ≡ length saved
  unfolding laid_by
  laid-length = cases (ltb (record_count h) 64) (λ e. rw e (simp (length-set, length-copied))) (λ e. rw e (simp length-set))

  laid-count : word_at (laid_by h saved) 0 ≡ word_at h 0
  unfolding laid_by
  laid-count =
      let is : word_at counts 0 ≡ word_at h 0 = get_or-set_same saved 0 (word_at h 0) (pos 0) (omega arith) in
      cases (ltb (record_count h) 64) (λ e. rw e (copied-out (drop at_first h) 1 25 counts 0 (λ x. omega arith) ∙ is)) (λ e. rw e is)

  laid-number : 0 < length h → number_at (laid_by h saved) 0 ≡ record_count h
  unfolding record_count
  laid-number l = number-of (laid_by h saved) 0 (word_at h 0) (rw laid-length (omega arith)) laid-count ∙ number_in h 0 (pos 0) l

  laid_word : record_count h < 64 → (i : ℕ) → i < 25 → word_at (drop 1 (laid_by h saved)) i ≡ word_at h (at_first + i)
  laid_word r i l =
      get_or-drop 1 (laid_by h saved) i (pos 0)
      ∙ rw (laid-room r) (copied-in (drop at_first h) 1 25 counts i l (rw (length-set saved 0 (word_at h 0)) (omega arith)))
      ∙ get_or-drop at_first h i (pos 0)

  brought-room : 0 < length h → record_count h < 64
      → brought_back (laid_by h saved) (with_record h fs n) ≡ copied (drop 1 (laid_by h saved)) at_first 25 (set (with_record h fs n) 0 (word_at h 0))
  unfolding brought_back
  brought-room l r = rw (laid-number l, lt-ltb (record_count h) 64 r, laid-count)

  brought-full : 0 < length h → 64 ≤ record_count h → brought_back (laid_by h saved) (with_record h fs n) ≡ set (with_record h fs n) 0 (word_at h 0)
  unfolding brought_back
  brought-full l r = rw (laid-number l, le-ltb (record_count h) 64 r, laid-count)

  pub add_back : brought_back (laid_by h saved) (with_record h fs n) ≡ h
  unfolding count_word label_word field_word
  add_back = ext_get_or (pos 0) (brought_back (laid_by h saved) (with_record h fs n)) h (brought-length (laid_by h saved) (with_record h fs n) ∙ add-length h fs n) (λ k l. go k (rw (brought-length (laid_by h saved) (with_record h fs n) ∙ add-length h fs n) at l) (dec_lt (record_count h) 64) (ℕ_discrete k 0) (dec_lt k at_first) (dec_lt k (at_first + 25)))
    where
      size : length (with_record h fs n) ≡ length h
      size = add-length h fs n

      first : 0 < length h → word_at (set (with_record h fs n) 0 (word_at h 0)) 0 ≡ word_at h 0
      first l = get_or-set_same (with_record h fs n) 0 (word_at h 0) (pos 0) (rw size l)

      later : (k : ℕ) → (k ≡ 0 → ⊥) → word_at (with_record h fs n) k ≡ word_at h k → word_at (set (with_record h fs n) 0 (word_at h 0)) k ≡ word_at h k
      later k m e = get_or-set_other (with_record h fs n) 0 k (word_at h 0) (pos 0) m ∙ e

      outside : (k : ℕ) → 0 < length h → record_count h < 64 → (at_first ≤ k → at_first + 25 ≤ k) → word_at (set (with_record h fs n) 0 (word_at h 0)) k ≡ word_at h k
          → word_at (brought_back (laid_by h saved) (with_record h fs n)) k ≡ word_at h k
      outside k l r b e = rw (brought-room l r) (copied-out (drop 1 (laid_by h saved)) at_first 25 (set (with_record h fs n) 0 (word_at h 0)) k b ∙ e)

      go : (k : ℕ) → k < length h → Dec (record_count h < 64) → Dec (k ≡ 0) → Dec (k < at_first) → Dec (k < at_first + 25) → word_at (brought_back (laid_by h saved) (with_record h fs n)) k ≡ word_at h k
      go k l (no r) (yes z) x y = rw (brought-full (omega arith) (omega arith), z) (first (omega arith))
      go k l (no r) (no z) x y = rw (brought-full (omega arith) (omega arith)) (later k z (rw (full h fs n (omega arith))))
      go k l (yes r) (yes z) x y = rw z (outside 0 (omega arith) r (λ e. omega arith) (first (omega arith)))
      go k l (yes r) (no z) (yes x) y = outside k (omega arith) r (λ e. omega arith) (later k z (add-elsewhere h fs n k z (λ e. omega arith)))
      go k l (yes r) (no z) (no x) (no y) = outside k (omega arith) r (λ e. omega arith) (later k z (add-elsewhere h fs n k z (λ e. omega arith)))
      go k l (yes r) (no z) (no x) (yes y) =
          let e : at_first + (k - at_first) ≡ k = omega arith in
          let there : word_at (copied (drop 1 (laid_by h saved)) at_first 25 (set (with_record h fs n) 0 (word_at h 0))) k ≡ word_at (drop 1 (laid_by h saved)) (k - at_first) =
          rw e at (copied-in (drop 1 (laid_by h saved)) at_first 25 (set (with_record h fs n) 0 (word_at h 0)) (k - at_first) (omega arith) (rw (e, length-set (with_record h fs n) 0 (word_at h 0), size) l)) in
          rw (brought-room (omega arith) r) (there ∙ rw e at (laid_word r (k - at_first) (omega arith)))
