-- Places told as words: the loop that tells them, words over those that were lent, and the names of a table. Assumes nothing.
use mathlib.Core.Path.{◌≡◌, refl, sym, ap, ◌∙◌}
use mathlib.Core.List.{List, [], ◌∷◌, ◌++◌}
use Prim.Native.Nat.{ℕ, zero, suc, ◌+◌, ◌-◌, ◌*◌, ◌≤◌, ◌<◌}
use native.Mathlib.Omega.{arith}
use native.Mathlib.Decide.{dec_lt}
use native.Mathlib.Numerals.{add-one}
use lib.IntN.{ℤ, pos}
use lib.ListN.{length, get_or, set, take, drop, length-append, length-drop, length-set, get_or-append}
use lib.Seq.{length-take-le, get_or-take, get_or-drop, get_or-append-add, get_or-set_same, get_or-set_other, ext_get_or}
use Rattle.words.specs.Words.{word_at, word_of, copied, cleared}
use Rattle.words.proofs.Laws.{length-copied, copied-in, copied-out}
use Rattle.text.specs.Reading.{Named}
use Rattle.text.specs.Told.{names_from}
use Rattle.text.specs.Whole.{place_words, name_words, over, told_from}

-- ---- the words that are told

module _ (places : List ℕ) (at : ℕ) where
  length-told : (n : ℕ) (out : List ℤ) → length (told_from places at n out) ≡ length out
  unfolding told_from
  length-told zero out = refl
  length-told (suc n) out = length-set (told_from places at n out) (at + n) (word_of (get_or places (at + n) 0)) ∙ length-told n out

  told_in : (n : ℕ) (out : List ℤ) (k : ℕ) → at ≤ k → k < at + n → k < length out → word_at (told_from places at n out) k ≡ word_of (get_or places k 0)
  unfolding told_from
  told_in zero out k a b l = let z : ⊥ = omega arith in absurd z
  told_in (suc n) out k a b l = go (dec_lt k (at + n)) (λ y. told_in n out k a y l)
    where
      go : Dec (k < at + n) → (k < at + n → word_at (told_from places at n out) k ≡ word_of (get_or places k 0)) → word_at (told_from places at (suc n) out) k ≡ word_of (get_or places k 0)
      go (yes y) r = get_or-set_other (told_from places at n out) (at + n) k (word_of (get_or places (at + n) 0)) (pos 0) (λ e. omega arith) ∙ r y
      go (no f) r = let e : k ≡ at + n = omega arith in rw e (get_or-set_same (told_from places at n out) (at + n) (word_of (get_or places (at + n) 0)) (pos 0) (rw length-told (omega arith)))

  told-out : (n : ℕ) (out : List ℤ) (k : ℕ) → (at ≤ k → at + n ≤ k) → word_at (told_from places at n out) k ≡ word_at out k
  unfolding told_from
  told-out zero out k h = refl
  told-out (suc n) out k h =
      get_or-set_other (told_from places at n out) (at + n) k (word_of (get_or places (at + n) 0)) (pos 0) (λ e. omega (arith, h (omega arith))) ∙ told-out n out k (λ l. omega (arith, h l))

-- ---- the loop that tells them: i are told

pub record Telling (before : List ℤ) (places : List ℕ) (at n : ℕ) (out : List ℤ) (i : ℕ) : Type 0 where
  pub inside : i ≤ n
  pub kept : length out ≡ length before
  pub done : out ≡ told_from places at i before

pub telling-starts : {before : List ℤ} {places : List ℕ} {at n : ℕ} → Telling before places at n before 0
unfolding told_from
telling-starts = record { inside = omega arith; kept = refl; done = refl }

module _ {before out : List ℤ} {places : List ℕ} {at n i : ℕ} (inv : Telling before places at n out i) where
  pub telling-goes-on : {after : List ℤ} {p : ℕ} {w : ℤ} → i < n → p ≡ get_or places (at + i) 0 → w ≡ word_of p → after ≡ set out (at + i) w
      → Telling before places at n after (i + 1)
  unfolding told_from
  telling-goes-on h p w e = record {
    inside = omega arith;
    kept = ap length e ∙ simp length-set inv.kept;
    done = rw (add-one i) (e ∙ rw (w, p, inv.done));
  }

  pub telling-ends : n ≤ i → out ≡ told_from places at n before
  telling-ends h = let e : n ≡ i = omega (arith, inv.inside) in rw e inv.done

-- ---- over the words that were lent

over-is : (ws before out : List ℤ) (n : ℕ) → length ws ≡ n → n ≤ length before → length out ≡ length before
    → ((k : ℕ) → k < n → word_at out k ≡ word_at ws k) → ((k : ℕ) → n ≤ k → word_at out k ≡ word_at before k) → out ≡ over ws before
over-is ws before out n e h l a b =
    ext_get_or (pos 0) out (over ws before)
    (l ∙ sym (length-append ws (drop (length ws) before) ∙ rw (length-drop, e) (omega arith)))
    (λ k x. go k (dec_lt k n))
  where
    go : (k : ℕ) → Dec (k < n) → word_at out k ≡ word_at (over ws before) k
    go k (yes y) = a k y ∙ sym (get_or-append ws (drop (length ws) before) (pos 0) k (rw e y))
    go k (no f) =
        let z : k ≡ length ws + (k - n) = rw e (omega arith) in
        b k (omega arith) ∙ sym (ap (λ j. word_at (over ws before) j) z ∙ get_or-append-add ws (drop (length ws) before) (k - n) (pos 0)
        ∙ get_or-drop (length ws) before (k - n) (pos 0) ∙ ap (λ j. word_at before j) (sym z))

pub copied-over : (row before : List ℤ) (n : ℕ) → n ≤ length row → n ≤ length before → copied row 0 n before ≡ over (take n row) before
copied-over row before n a b =
    over-is (take n row) before (copied row 0 n before) n (length-take-le n row a) b (length-copied row 0 n before)
    (λ k h. (let z : 0 + k ≡ k = omega arith in rw z at (copied-in row 0 n before k h (omega arith))) ∙ sym (get_or-take n row k (pos 0) h))
    (λ k h. copied-out row 0 n before k (λ x. omega arith))

length-places : (ps : List ℕ) → length (place_words ps) ≡ length ps
unfolding place_words
length-places [] = refl
length-places (p ∷ ps) = ap suc (length-places ps)

place-word : (ps : List ℕ) (k : ℕ) → k < length ps → word_at (place_words ps) k ≡ word_of (get_or ps k 0)
unfolding place_words
place-word [] k h = let z : ⊥ = omega arith in absurd z
place-word (p ∷ ps) zero h = refl
place-word (p ∷ ps) (suc k) h = place-word ps k (omega arith)

pub told_over : (places : List ℕ) (before : List ℤ) (n : ℕ) → n ≤ length places → n ≤ length before → told_from places 0 n before ≡ over (place_words (take n places)) before
told_over places before n a b =
    over-is (place_words (take n places)) before (told_from places 0 n before) n (length-places (take n places) ∙ length-take-le n places a) b (length-told places 0 n before)
    (λ k h. told_in places 0 n before k (omega arith) (omega arith) (omega arith)
    ∙ sym (place-word (take n places) k (rw (length-take-le n places a) h) ∙ ap word_of (get_or-take n places k 0 h)))
    (λ k h. told-out places 0 n before k (λ x. omega arith))

-- ---- the names

length-name-words : (n : ℕ) (ns : List Named) → length (name_words n ns) ≡ 2 * n
unfolding name_words
length-name-words zero ns = refl
length-name-words (suc n) [] = let z : length (name_words n []) ≡ 2 * n = length-name-words n [] in omega arith
length-name-words (suc n) (x ∷ ns) = let z : length (name_words n ns) ≡ 2 * n = length-name-words n ns in omega arith

-- the first m of n names are told, the rest is 0
name-word : (table : List ℕ) (n m i k : ℕ) → m ≤ n → k < 2 * m → word_at (name_words n (names_from table i m)) k ≡ word_of (get_or table (i + k) 0)
unfolding name_words names_from
name-word table n zero i k a h = let z : ⊥ = omega arith in absurd z
name-word table zero (suc m) i k a h = let z : ⊥ = omega arith in absurd z
name-word table (suc n) (suc m) i zero a h = let z : i + 0 ≡ i = omega arith in rw z
name-word table (suc n) (suc m) i (suc zero) a h = let z : i + 1 ≡ suc i = omega arith in rw z
name-word table (suc n) (suc m) i (suc (suc k)) a h =
    let z : i + suc (suc k) ≡ suc (suc i) + k = omega arith in rw z (name-word table n m (suc (suc i)) k (omega arith) (omega arith))

unused-word : (n k : ℕ) → word_at (name_words n []) k ≡ pos 0
unfolding name_words
unused-word zero k = refl
unused-word (suc n) zero = refl
unused-word (suc n) (suc zero) = refl
unused-word (suc n) (suc (suc k)) = unused-word n k

no_name : (table : List ℕ) (n m i k : ℕ) → 2 * m ≤ k → word_at (name_words n (names_from table i m)) k ≡ pos 0
unfolding name_words names_from
no_name table n zero i k h = unused-word n k
no_name table zero (suc m) i k h = refl
no_name table (suc n) (suc m) i zero h = let z : ⊥ = omega arith in absurd z
no_name table (suc n) (suc m) i (suc zero) h = let z : ⊥ = omega arith in absurd z
no_name table (suc n) (suc m) i (suc (suc k)) h = no_name table n m (suc (suc i)) k (omega arith)

module _ (table : List ℕ) (v l : ℕ) (before : List ℤ) (a : v ≤ 64) (b : l ≤ 32) (e : length before ≡ 192) where
  abbrev zeros : List ℤ
  zeros = cleared 0 192 before

  abbrev first : List ℤ
  first = told_from table 0 (2 * v) zeros

  abbrev all : List ℤ
  all = told_from table 128 (2 * l) first

  abbrev vs : List ℤ
  vs = name_words 64 (names_from table 0 v)

  abbrev ls : List ℤ
  ls = name_words 32 (names_from table 128 l)

  long-zeros : length zeros ≡ 192
  long-zeros = length-copied [] 0 192 before ∙ e

  long-first : length first ≡ 192
  long-first = length-told table 0 (2 * v) zeros ∙ long-zeros

  long : length all ≡ 192
  long = length-told table 128 (2 * l) first ∙ long-first

  zero_word : (k : ℕ) → k < 192 → word_at zeros k ≡ pos 0
  zero_word k h = let z : 0 + k ≡ k = omega arith in rw z at (copied-in [] 0 192 before k h (omega arith))

  variable-word : (k : ℕ) → k < 192 → Dec (k < 2 * v) → word_at first k ≡ word_at vs k
  variable-word k h (yes y) = told_in table 0 (2 * v) zeros k (omega arith) (omega arith) (rw long-zeros h) ∙ sym (let z : 0 + k ≡ k = omega arith in rw z at (name-word table 64 v 0 k a y))
  variable-word k h (no f) = told-out table 0 (2 * v) zeros k (λ x. omega arith) ∙ zero_word k h ∙ sym (no_name table 64 v 0 k (omega arith))

  label-word : (k : ℕ) → 128 + k < 192 → Dec (k < 2 * l) → word_at all (128 + k) ≡ word_at ls k
  label-word k h (yes y) = told_in table 128 (2 * l) first (128 + k) (omega arith) (omega arith) (rw long-first h) ∙ sym (name-word table 32 l 128 k b y)
  label-word k h (no f) =
      told-out table 128 (2 * l) first (128 + k) (λ x. omega arith) ∙ told-out table 0 (2 * v) zeros (128 + k) (λ x. omega arith)
      ∙ zero_word (128 + k) h ∙ sym (no_name table 32 l 128 k (omega arith))

  told-word : (k : ℕ) → k < 192 → Dec (k < 128) → word_at all k ≡ word_at (vs ++ ls) k
  told-word k h (yes y) =
      told-out table 128 (2 * l) first k (λ x. omega arith) ∙ variable-word k h (dec_lt k (2 * v))
      ∙ sym (get_or-append vs ls (pos 0) k (rw (length-name-words 64 (names_from table 0 v)) y))
  told-word k h (no f) =
      let z : 128 + (k - 128) ≡ k = omega arith in
      let y : length vs + (k - 128) ≡ k = rw (length-name-words 64 (names_from table 0 v)) (omega arith) in
      sym (ap (λ j. word_at all j) z) ∙ label-word (k - 128) (omega arith) (dec_lt (k - 128) (2 * l))
      ∙ sym (get_or-append-add vs ls (k - 128) (pos 0)) ∙ ap (λ j. word_at (vs ++ ls) j) y

  pub names-told : told_from table 128 (2 * l) (told_from table 0 (2 * v) (cleared 0 192 before)) ≡ name_words 64 (names_from table 0 v) ++ name_words 32 (names_from table 128 l)
  names-told =
      ext_get_or (pos 0) all (vs ++ ls)
      (long ∙ sym (length-append vs ls ∙ rw (length-name-words 64 (names_from table 0 v), length-name-words 32 (names_from table 128 l))))
      (λ k h. told-word k (rw long at h) (dec_lt k 128))
