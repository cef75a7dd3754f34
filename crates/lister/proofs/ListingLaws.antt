-- What the code that writes the listing comes to. Assumes nothing.
use Rattle.std.specs.Prelude.{None, Option, Some}
use mathlib.Core.Path.{◌≡◌, refl, ◌∙◌}
use mathlib.Core.Bool.{Bool, true, false}
use mathlib.Core.List.{List, [], ◌∷◌}
use Prim.Native.Nat.{ℕ, ◌+◌, ◌≤◌, ◌<◌, ◌^◌}
use native.Mathlib.Omega.{arith}
use native.Mathlib.Numerals.{add-one}
use borrow.Author.Tests.{le-leb, lt-leb}
use lib.IntN.{ℤ}
use lib.Signed.{mag}
use lib.ListN.{length}
use mir.Syntax.{w32}
use mir.Val.{to_z, of_z}
use Rattle.words.proofs.Signed.{back32}
use Rattle.tables.specs.declared.Value.{Value}
use Rattle.tables.specs.declared.Value.TheVariants.{Nil, Bool as Truth, Int, Ref}
use Rattle.tables.specs.declared.Cell.{Cell}
use Rattle.tables.specs.Values.{slot_of}
use Rattle.tables.specs.Cells.{Cells, cell_at}
use Rattle.tables.specs.Records.{record_count, label_at, field_at}
use Rattle.lister.specs.Bytes.{Puts}
use Rattle.lister.specs.Numerals.{digits, numeral}
use Rattle.lister.specs.Listing.{value_text, given_text, each_below, variable_text, field_text, shown_records, Listed}
use Rattle.lister.proofs.BufferLaws.{then, puts_none, puts-start}

-- ---- a value

module _ {s e : List ℕ} {a r : ℕ} where
  pub put-nil : {v : Value} → v ≡ Nil → Puts s a (110 ∷ 105 ∷ 108 ∷ []) e r → Puts s a (value_text v) e r
  unfolding value_text
  put-nil h p = rw h p

  pub put-true : {v : Value} {b : Bool} → v ≡ Truth b → b ≡ true → Puts s a (98 ∷ 111 ∷ 111 ∷ 108 ∷ 32 ∷ 49 ∷ []) e r → Puts s a (value_text v) e r
  unfolding value_text
  put-true h k p = rw (h, k) p

  pub put-false : {v : Value} {b : Bool} → v ≡ Truth b → b ≡ false → Puts s a (98 ∷ 111 ∷ 111 ∷ 108 ∷ 32 ∷ 48 ∷ []) e r → Puts s a (value_text v) e r
  unfolding value_text
  put-false h k p = rw (h, k) p

  pub put-int : {v : Value} {w : ℤ} {m : List ℕ} {q : ℕ} → v ≡ Int w → mag w < 2 ^ 31
      → Puts s a (105 ∷ 110 ∷ 116 ∷ 32 ∷ []) m q → Puts m q (numeral (to_z w32 (of_z w32 w))) e r → Puts s a (value_text v) e r
  unfolding value_text
  put-int {w = w} h ok p k = rw h (then p (rw (back32 w (record { sfits = ok })) at k))

  pub put-ref : {v : Value} {n : ℕ} {m : List ℕ} {q : ℕ} → v ≡ Ref n → Puts s a (114 ∷ 101 ∷ 102 ∷ 32 ∷ []) m q → Puts m q (digits n) e r → Puts s a (value_text v) e r
  unfolding value_text
  put-ref h p k = rw h (then p k)

-- ---- cells

module _ (S : Cells) {s : List ℕ} {a : ℕ} where
  module _ (x : ℕ) {c : Cell} {slot : (Option Value)} (at : c ≡ cell_at S x) (is : slot ≡ slot_of c) where
    pub put-variable-absent : slot ≡ None → Puts s a (variable_text S x) s a
    unfolding variable_text
    put-variable-absent h = rw (← at, ← is, h) puts_none

    pub put-variable-present : {v : Value} {m k e : List ℕ} {q t r : ℕ} → slot ≡ Some v
        → Puts s a (118 ∷ []) m q → Puts m q (digits x) k t → Puts k t (given_text v) e r → Puts s a (variable_text S x) e r
    unfolding variable_text
    put-variable-present h i j l = rw (← at, ← is, h) (then (then i j) l)

module _ (h : List ℤ) (n f : ℕ) {s : List ℕ} {a : ℕ} {c : Cell} {slot : (Option Value)} (at : c ≡ field_at h n f) (is : slot ≡ slot_of c) where
  pub put-field-absent : slot ≡ None → Puts s a (field_text h n f) s a
  unfolding field_text
  put-field-absent e = rw (← at, ← is, e) puts_none

  pub put-field-present : {v : Value} {b d g i e : List ℕ} {t u w x label r : ℕ} → slot ≡ Some v
      → Puts s a (114 ∷ []) b t → Puts b t (digits n) d u → Puts d u (46 ∷ []) g w → label ≡ label_at h n f → Puts g w (digits label) i x
      → Puts i x (given_text v) e r → Puts s a (field_text h n f) e r
  unfolding field_text
  put-field-present q i j k l m o = rw (← at, ← is, q) (then (then (then (then i j) k) (rw l at m)) o)

-- ---- texts in a row: those of the first i numbers are written

pub record Each (f : ℕ → List ℕ) (n : ℕ) (out₀ : List ℕ) (at : ℕ) (out : List ℕ) (to i : ℕ) : Type 0 where
  pub inside : i ≤ n
  pub kept : length out ≡ length out₀
  pub done : Puts out₀ at (each_below f i) out to

pub each-starts : {f : ℕ → List ℕ} {n : ℕ} {out : List ℕ} {at : ℕ} → Each f n out at out at 0
unfolding each_below
each-starts = record { inside = omega arith; kept = refl; done = puts_none }

module _ {f : ℕ → List ℕ} {n : ℕ} {out₀ out : List ℕ} {at to i : ℕ} (inv : Each f n out₀ at out to i) where
  pub each-goes-on : {out' : List ℕ} {to' : ℕ} → i < n → Puts out to (f i) out' to' → length out' ≡ length out → Each f n out₀ at out' to' (i + 1)
  unfolding each_below
  each-goes-on h p l = record { inside = omega arith; kept = l ∙ inv.kept; done = rw (add-one i) (then inv.done p) }

  pub each-ends : n ≤ i → Puts out₀ at (each_below f n) out to
  each-ends h = let e : n ≡ i = omega (arith, inv.inside) in rw e inv.done

-- the lemma for the end of the loops
pub ruleset each = (each-ends)

-- ---- records

pub shown-few : (h : List ℤ) {n : ℕ} → n ≡ record_count h → n ≤ 64 → n ≡ shown_records h
unfolding shown_records
shown-few h e l = e ∙ rw (le-leb (record_count h) 64 (omega arith))

pub shown-many : (h : List ℤ) {n : ℕ} → n ≡ record_count h → 64 < n → 64 ≡ shown_records h
unfolding shown_records
shown-many h e l = rw (lt-leb (record_count h) 64 (omega arith))

-- ---- the whole text

pub listed : {text before after : List ℕ} {n : ℕ} → Puts before 0 text after n → Listed text before after n
listed p = record { stored = (puts-start p).0; counted = (puts-start p).1 }
