-- The table of names: what the loop over it comes to, and the names that it has with one more. Assumes nothing.
use mathlib.Core.Path.{◌≡◌, refl, sym, ap, ◌∙◌}
use mathlib.Core.Bool.{Bool, true, false, cond}
use mathlib.Core.List.{List, [], ◌∷◌, ◌++◌}
use Prim.Native.Nat.{ℕ, min, zero, suc, ◌+◌, ◌-◌, ◌*◌, ◌≤◌, ◌<◌}
use native.Mathlib.Omega.{arith}
use borrow.Author.Tests.{eqb-true, eqb-false, ltb-true, ltb-false, lt-ltb, le-ltb, eq-eqb, ne_eqb}
use lib.Dec.{eqb, ltb}
use lib.ListN.{length, get_or, set, length-set}
use lib.Seq.{get_or-set_same, get_or-set_other}
use Rattle.std.specs.List.{list_any}
use Rattle.program.specs.Reading.{among}
use Rattle.program.proofs.AmongLaws.{among_none, among-more}
use Rattle.tables.proofs.SearchLaws.{cases}
use Rattle.tokens.specs.declared.Token.{Token}
use Rattle.tokens.specs.Bytes.{same_in}
use Rattle.text.specs.Reading.{Named, number_in, known, with_name, room_for}
use Rattle.text.specs.Told.{name_at, is_name, names_from, table_with, count_with, at_most}
use Rattle.text.proofs.NameLaws.{number-most}

pub most-small : (most n : ℕ) → at_most most n ≤ most
unfolding at_most
most-small most n = cases (ltb most n) (λ e. rw e (omega arith)) (λ e. rw e (ltb-false most n e))

-- the lesser of the two
pub most-least : (most n : ℕ) {k : ℕ} → k ≡ min n most → k ≡ at_most most n
unfolding at_most
most-least most n is =
    rw is (cases (ltb most n)
    (λ e. let h : most < n = ltb-true most n e in rw e (omega (arith, h)))
    (λ e. let h : n ≤ most = ltb-false most n e in rw e (omega (arith, h))))

pub most-is : (most n : ℕ) → n ≤ most → at_most most n ≡ n
unfolding at_most
most-is most n h = rw (le-ltb most n h)

pub length-names : (names : List ℕ) (i n : ℕ) → length (names_from names i n) ≡ n
unfolding names_from
length-names names i zero = refl
length-names names i (suc n) = ap suc (length-names names (suc (suc i)) n)

-- how many names there are with one of number n
pub count_most : (most count n : ℕ) → count ≤ most → n ≤ count → n < most → at_most most (count_with count n) ≡ count_with count n
unfolding count_with
count_most most count n a b c =
    cases (ltb n count) (λ e. rw e (most-is most count a)) (λ e. let l : count ≤ n = ltb-false n count e in rw e (most-is most (suc count) (omega arith)))

-- ---- room for a name

module _ (text : List ℕ) (ns : List Named) (t : Token) {n : ℕ} (is : n ≡ number_in text ns t) where
  pub is_known : known text ns t ≡ ltb n (length ns)
  unfolding known
  is_known = rw is

  pub room-full : {most : ℕ} → most ≤ n → length ns ≤ most → room_for text most ns t ≡ false
  unfolding room_for
  room-full {most = most} h l = rw (is_known, le-ltb n (length ns) (omega arith), le-ltb (length ns) most (omega (arith, is, number-most text ns t)))

  pub room-there : {most : ℕ} → n < most → room_for text most ns t ≡ true
  unfolding room_for
  room-there {most = most} h =
      cases (ltb n (length ns))
      (λ e. rw (is_known, e))
      (λ e. rw (is_known, e) (lt-ltb (length ns) most (omega (arith, is, number-most text ns t, ltb-false n (length ns) e))))

-- ---- one name

module _ (text names : List ℕ) (i : ℕ) (t : Token) {w d : ℕ} (e : w ≡ get_or names (i + 1) 0) (l : d ≡ t.end - t.place) where
  named-length : get_or names (suc i) 0 ≡ w
  named-length = let y : suc i ≡ i + 1 = omega arith in rw y (sym e)

  pub other_name : (w ≡ d → ⊥) → false ≡ is_name text (name_at names i) t
  unfolding is_name
  other_name h = rw (named-length, ← l, ne_eqb w d h)

  pub that-name : w ≡ d → {v : ℕ} {b : Bool} → v ≡ get_or names i 0 → b ≡ same_in text v t.place w → b ≡ is_name text (name_at names i) t
  unfolding is_name
  that-name h m n = rw (named-length, ← l, eq-eqb w d h, ← m) n

-- ---- the loop that looks for a name: i are seen

pub record Naming (text names : List ℕ) (from count : ℕ) (t : Token) (i : ℕ) : Type 0 where
  pub inside : i ≤ count
  pub rest : i + number_in text (names_from names (from + 2 * i) (count - i)) t ≡ number_in text (names_from names from count) t

pub naming-starts : {text names : List ℕ} {from count : ℕ} {t : Token} → Naming text names from count t 0
naming-starts {from = from} {count = count} =
    record {
      inside = omega arith;
      rest = let y : from + 2 * 0 ≡ from = omega arith in let z : count - 0 ≡ count = omega arith in rw (y, z) (omega arith);
    }

module _ {text names : List ℕ} {from count : ℕ} {t : Token} {i : ℕ} (inv : Naming text names from count t i) where
  naming-turn : i < count → i + cond (is_name text (name_at names (from + 2 * i)) t) 0 (suc (number_in text (names_from names (from + 2 * (i + 1)) (count - (i + 1))) t)) ≡ number_in text (names_from names from count) t
  unfolding names_from number_in is_name
  naming-turn h =
      let z : count - i ≡ suc (count - (i + 1)) = omega arith in
      let y : from + 2 * (i + 1) ≡ suc (suc (from + 2 * i)) = omega arith in
      rw y (rw z at inv.rest)

  pub naming-hits : i < count → is_name text (name_at names (from + 2 * i)) t ≡ true → i ≡ number_in text (names_from names from count) t
  naming-hits h e = let k : i + 0 ≡ number_in text (names_from names from count) t = rw e at (naming-turn h) in omega arith

  pub naming-goes-on : i < count → is_name text (name_at names (from + 2 * i)) t ≡ false → Naming text names from count t (i + 1)
  naming-goes-on h e =
      let k : i + suc (number_in text (names_from names (from + 2 * (i + 1)) (count - (i + 1))) t) ≡ number_in text (names_from names from count) t = rw e at (naming-turn h) in
      record { inside = omega arith; rest = omega arith }

  pub naming-ends : count ≤ i → i ≡ number_in text (names_from names from count) t
  unfolding names_from number_in
  naming-ends h =
      let z : count - i ≡ 0 = omega arith in
      let k : i + 0 ≡ number_in text (names_from names from count) t = rw z at inv.rest in
      omega arith

-- ---- a name more

names-set : (names : List ℕ) (j w i n : ℕ) → (i ≤ j → i + 2 * n ≤ j) → names_from (set names j w) i n ≡ names_from names i n
unfolding names_from
names-set names j w i zero h = refl
names-set names j w i (suc n) h =
    rw (get_or-set_other names j i w 0 (λ e. omega (arith, h (omega arith))), get_or-set_other names j (suc i) w 0 (λ e. omega (arith, h (omega arith))), names-set names j w (suc (suc i)) n (λ l. omega (arith, h (omega arith))))

names_more : (names : List ℕ) (i n : ℕ) → names_from names i (suc n) ≡ names_from names i n ++ name_at names (i + 2 * n) ∷ []
unfolding names_from
names_more names i zero = let y : i + 2 * 0 ≡ i = omega arith in rw y
names_more names i (suc n) =
    let y : i + 2 * suc n ≡ suc (suc i) + 2 * n = omega arith in
    rw y (ap (λ s. name_at names i ∷ s) (names_more names (suc (suc i)) n))

pub table-with : (names : List ℕ) (from count number : ℕ) (t : Token) {one two : List ℕ} {d : ℕ} → count ≤ number → one ≡ set names (from + 2 * count) t.place → d ≡ t.end - t.place
    → two ≡ set one (from + 2 * count + 1) d → two ≡ table_with names from count number t
unfolding table_with
table-with names from count number t h a b e =
    let y : suc (from + 2 * count) ≡ from + 2 * count + 1 = omega arith in
    rw (le-ltb number count h, y, ← a, ← b) e

-- names that the new one does not touch
pub other-names : (names : List ℕ) (from count number : ℕ) (t : Token) (i n : ℕ) → (count ≤ number → i ≤ suc (from + 2 * count) → i + 2 * n ≤ from + 2 * count) → names_from (table_with names from count number t) i n ≡ names_from names i n
unfolding table_with
other-names names from count number t i n h =
    cases (ltb number count)
    (λ e. rw e)
    (λ e. rw e (names-set (set names (from + 2 * count) t.place) (suc (from + 2 * count)) (t.end - t.place) i n (λ l. omega (arith, h (ltb-false number count e) (omega arith)))
    ∙ names-set names (from + 2 * count) t.place i n (λ l. omega (arith, h (ltb-false number count e) (omega arith)))))

module _ (names : List ℕ) (from count : ℕ) (t : Token) (room : suc (from + 2 * count) < length names) where
  abbrev at : ℕ
  at = from + 2 * count

  abbrev once : List ℕ
  once = set names at t.place

  abbrev twice : List ℕ
  twice = set once (suc at) (t.end - t.place)

  new-place : get_or twice at 0 ≡ t.place
  new-place = get_or-set_other once (suc at) at (t.end - t.place) 0 (λ e. omega arith) ∙ get_or-set_same names at t.place 0 (omega arith)

  new-length : get_or twice (suc at) 0 ≡ t.end - t.place
  new-length = get_or-set_same once (suc at) (t.end - t.place) 0 (simp length-set room)

  names-added : names_from twice from (suc count) ≡ names_from names from count ++ record { place = t.place; length = t.end - t.place } ∷ []
  names-added =
      let b : names_from twice from count ≡ names_from names from count = names-set once (suc at) (t.end - t.place) from count (λ l. omega arith) ∙ names-set names at t.place from count (λ l. omega arith) in
      names_more twice from count ∙ rw (b, new-place, new-length)

pub names-with : (text names : List ℕ) (from count number : ℕ) (t : Token) → (count ≤ number → suc (from + 2 * count) < length names) → number ≡ number_in text (names_from names from count) t
    → names_from (table_with names from count number t) from (count_with count number) ≡ with_name text (names_from names from count) t
unfolding table_with count_with with_name known
names-with text names from count number t room is =
    cases (ltb number count)
    (λ e. rw (← is, length-names names from count, e))
    (λ e. rw (← is, length-names names from count, e) (names-added names from count t (room (ltb-false number count e))))

-- ---- a number among those in a list

turned : (m n : ℕ) → eqb m n ≡ eqb n m
turned m n = cases (eqb m n) (λ e. rw e (sym (eq-eqb n m (sym (eqb-true m n e))))) (λ e. rw e (sym (ne_eqb n m (λ q. eqb-false m n e (sym q)))))

pub any-among : (n : ℕ) (s : List ℕ) → list_any (λ y. eqb y n) s ≡ among n s
any-among n [] = sym (among_none n)
any-among n (x ∷ s) = rw (turned x n, any-among n s) (sym (among-more n x s))
