-- What the code comes to for numbers at fault, by cases and in the words of the library. Assumes nothing.
use Prim.Native.Nat.{ℕ, zero, suc, ◌+◌, ◌-◌, ◌≤◌, ◌<◌}
use mathlib.Core.Path.{◌≡◌, refl, sym, ap, ◌∙◌}
use mathlib.Core.Bool.{true, false, cond, ◌&&◌}
use mathlib.Core.List.{List, [], ◌∷◌}
use native.Mathlib.Omega.{arith}
use native.Mathlib.Decide.{dec_lt}
use native.Mathlib.Numerals.{add-one}
use borrow.Author.Tests.{lt-ltb, le-ltb, le-leb, lt-leb, eq-eqb, ne_eqb}
use lib.Dec.{eqb, ltb, leb}
use lib.IntN.{ℤ}
use lib.ListN.{length, get_or, set, take, drop, drop_of_length-le, get_or-eq_default}
use lib.Seq.{drop-cons, take-nil}
use Rattle.std.specs.Prelude.{Option, Some, None}
use Rattle.std.specs.Option.{option_map}
use Rattle.std.specs.List.{fold, find, list_any, count_by, range_with_len}
use Rattle.tokens.specs.declared.Token.{Token}
use Rattle.tokens.specs.Bytes.{spelt}
use Rattle.tokens.specs.Tokens.{token_from}
use Rattle.tables.proofs.SearchLaws.{cases}
use Rattle.printing.specs.Naming.{Naming, rank, ranks, place_of, length_of, given_name, name_of, is_led, noted}
use Rattle.printing.specs.declared.names.Standing.{Standing}
use Rattle.printing.specs.declared.names.Standing.TheVariants.{Unused}
use Rattle.printing.specs.Faults.{is_name, is_part, is_fit, is_had, twin_from, has_twin, at_fault, fault_from, used_from, found}

-- ---- a name that is fit

module _ (s : List ℕ) {t : Token} (is : t ≡ token_from false s 0) where
  pub no_name : (t.code ≡ 1 → ⊥) → false ≡ is_name s
  unfolding is_name
  no_name h = rw (← is, ne_eqb t.code 1 h)

  pub name-behind : t.code ≡ 1 → (t.place ≡ 0 → ⊥) → false ≡ is_name s
  unfolding is_name
  name-behind h k = rw (← is, eq-eqb t.code 1 h, ne_eqb t.place 0 k)

  pub name-whole : t.code ≡ 1 → t.place ≡ 0 → eqb t.end (length s) ≡ is_name s
  unfolding is_name
  name-whole h k = rw (← is, eq-eqb t.code 1 h, eq-eqb t.place 0 k)

module _ (N : Naming) (i : ℕ) {p : ℕ} (is : p ≡ place_of N.names i) where
  pub no_place : p ≡ 2147483648 → false ≡ is_part N i
  unfolding is_part
  no_place h = rw (← is, eq-eqb p 2147483648 h)

  pub part-there : (p ≡ 2147483648 → ⊥) → {l : ℕ} {s : List ℕ} → l ≡ length_of N.names i → s ≡ drop p N.source → leb l (length s) ≡ is_part N i
  unfolding is_part
  part-there h e d = rw (← is, ne_eqb p 2147483648 h, e, d)

module _ (N : Naming) (i : ℕ) {l : ℕ} (is : l ≡ length_of N.names i) where
  pub fit-ungiven : l ≡ 0 → true ≡ is_fit N i
  unfolding is_fit
  fit-ungiven h = rw (← is, eq-eqb l 0 h)

  pub fit-no-part : (l ≡ 0 → ⊥) → is_part N i ≡ false → false ≡ is_fit N i
  unfolding is_fit
  fit-no-part h e = rw (← is, ne_eqb l 0 h, e)

  pub fit-part : (l ≡ 0 → ⊥) → is_part N i ≡ true → is_name (given_name N i) ≡ is_fit N i
  unfolding is_fit
  fit-part h e = rw (← is, ne_eqb l 0 h, e)

-- ---- a number that is given a name or used

module _ (names : List ℤ) (seen : List ℕ) (i : ℕ) {l : ℕ} (is : l ≡ length_of names i) where
  pub had-given : (l ≡ 0 → ⊥) → true ≡ is_had names seen i
  unfolding is_had
  had-given h = rw (← is, ne_eqb l 0 h)

  pub had-used : l ≡ 0 → {n : ℕ} → n ≡ get_or seen i 0 → ltb 0 n ≡ is_had names seen i
  unfolding is_had
  had-used h e = rw (← is, eq-eqb l 0 h, e)

-- ---- a twin of a number

module _ (N : Naming) (seen : List ℕ) (i : ℕ) where
  pub twin-unhad : is_had N.names seen i ≡ false → false ≡ has_twin N seen i
  unfolding has_twin
  twin-unhad e = rw e

  pub twin-variable : is_had N.names seen i ≡ true → i < 64 → twin_from N seen i 0 (i - 0) ≡ has_twin N seen i
  unfolding has_twin
  twin-variable e h = let z : i - 0 ≡ i = omega arith in rw (e, lt-ltb i 64 h, z)

  pub twin-label : is_had N.names seen i ≡ true → 64 ≤ i → twin_from N seen i 64 (i - 64) ≡ has_twin N seen i
  unfolding has_twin
  twin-label e h = rw (e, le-ltb i 64 h)

  -- ---- a number at fault

  pub fault-unfit : is_fit N i ≡ false → true ≡ at_fault N seen i
  unfolding at_fault
  fault-unfit e = rw e

  pub fault-early : is_fit N i ≡ true → get_or seen i 0 ≡ 2 → true ≡ at_fault N seen i
  unfolding at_fault
  fault-early e h = rw (e, eq-eqb (get_or seen i 0) 2 h)

  pub fault-twin : is_fit N i ≡ true → (get_or seen i 0 ≡ 2 → ⊥) → has_twin N seen i ≡ at_fault N seen i
  unfolding at_fault
  fault-twin e h = rw (e, ne_eqb (get_or seen i 0) 2 h)

-- ---- room for a text

module _ (room n : ℕ) where
  pub fits_not : room < n → false ≡ leb n room && leb n 65536
  fits_not h = rw (lt-leb n room h)

  pub fits-room : n ≤ room → leb n 65536 ≡ leb n room && leb n 65536
  fits-room h = rw (le-leb n room h)

-- ---- twins, the first number at fault, and how many are used, as the library says them

module _ (N : Naming) (seen : List ℕ) where
  pub twins-any : (i j n : ℕ) → twin_from N seen i j n ≡ list_any (λ k. is_had N.names seen k && spelt (name_of N i) (name_of N k)) (range_with_len j n)
  unfolding twin_from
  twins-any i j zero = refl
  twins-any i j (suc n) =
      cases (is_had N.names seen j && spelt (name_of N i) (name_of N j))
      (λ e. rw e)
      (λ e. rw (e, add-one j) (twins-any i (suc j) n))

  -- a number beyond the last is none that is found
  pub fault-found : (i n : ℕ) → i + n ≡ 96 → found (fault_from N seen i n) ≡ find (λ k. at_fault N seen k) (range_with_len i n)
  unfolding fault_from
  fault-found i zero h = rw (le-ltb i 96 (omega arith))
  fault-found i (suc n) h =
      cases (at_fault N seen i)
      (λ e. rw (e, lt-ltb i 96 (omega arith)))
      (λ e. rw (e, add-one i) (fault-found (suc i) n (omega arith)))

-- c and how many of these are used
abbrev count_on : ℕ → List Standing → ℕ
count_on c s = fold (λ a x. a + cond (ltb 0 (rank x)) 1 0) c s

-- the number of a standing; past the end it is not used
pub rank-at : (seen : List Standing) (i : ℕ) → rank (get_or seen i Unused) ≡ get_or (ranks seen) i 0
rank-at [] i = refl
rank-at (x ∷ s) zero = refl
rank-at (x ∷ s) (suc i) = rank-at s i

-- one number more, and those behind it
used-turn : (seen : List Standing) (c i n : ℕ) → ((d : ℕ) → count_on d (take n (drop (suc i) seen)) ≡ d + used_from (ranks seen) (suc i) n)
    → count_on c (take (suc n) (drop i seen)) ≡ c + cond (ltb 0 (get_or (ranks seen) i 0)) (suc (used_from (ranks seen) (suc i) n)) (used_from (ranks seen) (suc i) n)
used-turn seen c i n go = rw (← rank-at seen i) (elim (dec_lt i (length seen)) [ yes h ↦ inside h | no h ↦ past (omega arith) ])
  where
    inside : i < length seen → count_on c (take (suc n) (drop i seen)) ≡ c + cond (ltb 0 (rank (get_or seen i Unused))) (suc (used_from (ranks seen) (suc i) n)) (used_from (ranks seen) (suc i) n)
    inside h =
        rw (drop-cons seen i Unused h)
        (go (c + cond (ltb 0 (rank (get_or seen i Unused))) 1 0) ∙ cases (ltb 0 (rank (get_or seen i Unused))) (λ e. rw e (omega arith)) (λ e. rw e (omega arith)))

    past : length seen ≤ i → count_on c (take (suc n) (drop i seen)) ≡ c + cond (ltb 0 (rank (get_or seen i Unused))) (suc (used_from (ranks seen) (suc i) n)) (used_from (ranks seen) (suc i) n)
    past h =
        let l : length seen ≤ suc i = omega arith in
        rw (drop_of_length-le seen {i = i} h, get_or-eq_default seen Unused {n = i} h) (rw (drop_of_length-le seen {i = suc i} l, take-nil n) at (go c))

used-fold : (seen : List Standing) (c i n : ℕ) → count_on c (take n (drop i seen)) ≡ c + used_from (ranks seen) i n
unfolding used_from
used-fold seen c i zero = omega arith
used-fold seen c i (suc n) = used-turn seen c i n (λ d. used-fold seen d (suc i) n)

pub used-count : (seen : List Standing) (i n : ℕ) → used_from (ranks seen) i n ≡ count_by (λ x. ltb 0 (rank x)) (take n (drop i seen))
used-count seen i n = sym (used-fold seen 0 i n ∙ omega arith)

-- ---- a standing is set

ranks-set : (seen : List Standing) (i : ℕ) (x : Standing) → ranks (set seen i x) ≡ set (ranks seen) i (rank x)
ranks-set [] i x = refl
ranks-set (y ∷ s) zero x = refl
ranks-set (y ∷ s) (suc i) x = ap (λ t. rank y ∷ t) (ranks-set s i x)

pub noted-set : (seen : List Standing) (i : ℕ) (x : Standing) → ltb 0 (get_or (ranks seen) i 0) ≡ false → rank x ≡ cond (is_led (ranks seen) i) 1 2
    → ranks (set seen i x) ≡ noted (ranks seen) i
unfolding noted
noted-set seen i x e h = rw (e, ranks-set seen i x, h)

-- what `find` says of numbers themselves
pub same_found : (r : Option ℕ) → r ≡ option_map (λ x. x) r
same_found None = refl
same_found (Some x) = refl
