-- The cells that fit, and the values that they hold. Assumes nothing.
use Rattle.std.specs.Prelude.{None, Some}
use mathlib.Core.Path.{◌≡◌, refl, sym, ◌∙◌}
use mathlib.Core.Bool.{Bool, true, false, cond, ◌&&◌, ◌||◌}
use Prim.Native.Nat.{ℕ, ◌<◌, ◌≤◌}
use native.Mathlib.Omega.{arith}
use borrow.Author.Tests.{le-leb, lt-ltb, ltb-true, ltb-false, eqb-true}
use lib.Dec.{ltb, eqb}
use lib.IntN.{ℤ, pos, negsuc}
use lib.Signed.{lt_z, le_z}
use Rattle.words.specs.Words.{number_of, eq_z}
use Rattle.words.proofs.Laws.{word-is, word-greatest, eq_z-true}
use Rattle.tables.specs.Sizes.{no_number}
use Rattle.tables.specs.Values.{cell, absent, cell_of, slot_of}
use Rattle.tables.specs.declared.Cell.{Cell}
use Rattle.tables.specs.declared.Value.{Value}
use Rattle.tables.specs.declared.Value.TheVariants.{Nil, Bool as Truth, Int, Ref}
use Rattle.tables.proofs.SearchLaws.{cases}
use Rattle.tables.proofs.WordLaws.{word_number}
use Rattle.tables.proofs.ValueLaws.{slot-absent, slot-nil, slot-boolean, slot-integer, slot-reference, cell-nil, cell-truth, cell-integer, cell-reference}
use Rattle.fit.specs.Fit.{admits, cell_fits}

-- a reference from 0 on and below the count
pub admits-is : (count p : ℤ) → le_z (pos 0) p && lt_z p count ≡ admits count p
admits-is (pos n) (pos r) = rw (le-leb 0 r (omega arith))
admits-is (pos n) (negsuc r) = refl
admits-is (negsuc n) (pos r) = rw (le-leb 0 r (omega arith))
admits-is (negsuc n) (negsuc r) = refl

-- ---- the cells that fit

pub data Shape (count : ℤ) : Cell → Type 0 where
  an-absent : Shape count absent
  a_nil_lem : Shape count (cell (pos 1) (pos 0))
  a-truth : (b : Bool) → Shape count (cell (pos 2) (cond b (pos 1) (pos 0)))
  an-integer : (n : ℤ) → Shape count (cell (pos 3) n)
  a-reference : (r n : ℕ) → count ≡ pos n → r < n → Shape count (cell (pos 4) (pos r))

module _ (count : ℤ) where
  truth-shape : (p : ℤ) → eq_z p (pos 0) || eq_z p (pos 1) ≡ true → Shape count (cell (pos 2) p)
  truth-shape p h = cases (eq_z p (pos 0))
      (λ e. rw (eq_z-true p (pos 0) e) (a-truth false))
      (λ e. rw (eq_z-true p (pos 1) (rw e at h)) (a-truth true))

  reference-shape : (p : ℤ) → admits count p ≡ true → Shape count (cell (pos 4) p)
  reference-shape p h = go count p refl h
    where
      go : (z q : ℤ) → count ≡ z → admits z q ≡ true → Shape count (cell (pos 4) q)
      go (pos n) (pos r) e h = a-reference r n e (ltb-true r n h)
      go (pos n) (negsuc r) e h = let z : ◌≡◌ {A = ℕ} 0 1 = cc in let y : ⊥ = omega arith in absurd y
      go (negsuc n) q e h = let z : ◌≡◌ {A = ℕ} 0 1 = cc in let y : ⊥ = omega arith in absurd y

  -- a cell that fits is one of five
  pub fits-shape : (c : Cell) → cell_fits count c ≡ true → Shape count c
  unfolding cell_fits
  fits-shape c h = cases (eqb (number_of c.kind) 0)
      (λ e. rw (word_number c.kind 0 (eqb-true (number_of c.kind) 0 e) (omega arith), eq_z-true c.payload (pos 0) (rw e at h)) an-absent)
      (λ a. cases (eqb (number_of c.kind) 1)
      (λ e. rw (word_number c.kind 1 (eqb-true (number_of c.kind) 1 e) (omega arith), eq_z-true c.payload (pos 0) (rw (a, e) at h)) a_nil_lem)
      (λ b. cases (eqb (number_of c.kind) 2)
      (λ e. rw (word_number c.kind 2 (eqb-true (number_of c.kind) 2 e) (omega arith)) (truth-shape c.payload (rw (a, b, e) at h)))
      (λ d. cases (eqb (number_of c.kind) 3)
      (λ e. rw (word_number c.kind 3 (eqb-true (number_of c.kind) 3 e) (omega arith)) (an-integer c.payload))
      (λ f. cases (eqb (number_of c.kind) 4)
      (λ e. rw (word_number c.kind 4 (eqb-true (number_of c.kind) 4 e) (omega arith)) (reference-shape c.payload (rw (a, b, d, f, e) at h)))
      (λ e. let k : false ≡ true = rw (a, b, d, f, e) at h in let z : ◌≡◌ {A = ℕ} 0 1 = cc in let y : ⊥ = omega arith in absurd y)))))

  pub shape-fits : {c : Cell} → Shape count c → cell_fits count c ≡ true
  unfolding cell_fits
  shape-fits an-absent = refl
  shape-fits a_nil_lem = refl
  shape-fits (a-truth true) = refl
  shape-fits (a-truth false) = refl
  shape-fits (an-integer n) = refl
  shape-fits (a-reference r n e h) = rw e (lt-ltb r n h)

-- what a cell of each shape holds
slot-truth : (b : Bool) → slot_of (cell (pos 2) (cond b (pos 1) (pos 0))) ≡ Some (Truth b)
slot-truth true = slot-boolean (pos 1)
slot-truth false = slot-boolean (pos 0)

slot-ref : (r : ℕ) → slot_of (cell (pos 4) (pos r)) ≡ Some (Ref r)
slot-ref r = slot-reference (cell (pos 4) (pos r)) refl

-- what a cell that fits holds determines it; the count is one that a word can be
pub cell-of-slot : (count : ℤ) (c : Cell) (v : Value) → number_of count ≤ no_number → cell_fits count c ≡ true → slot_of c ≡ Some v → cell_of v ≡ c
cell-of-slot count c v m h e = go (fits-shape count c h) e
  where
    go : {c : Cell} → Shape count c → slot_of c ≡ Some v → cell_of v ≡ c
    go an-absent e = let k : None ≡ Some v = sym slot-absent ∙ e in absurd (let z : ◌≡◌ {A = ℕ} 0 1 = cc in omega arith)
    go a_nil_lem e = let k : Some Nil ≡ Some v = sym slot-nil ∙ e in let q : v ≡ Nil = cc in rw q cell-nil
    go (a-truth b) e = let k : Some (Truth b) ≡ Some v = sym (slot-truth b) ∙ e in let q : v ≡ Truth b = cc in rw q (cell-truth b)
    go (an-integer n) e = let k : Some (Int n) ≡ Some v = sym (slot-integer n) ∙ e in let q : v ≡ Int n = cc in rw q (cell-integer n)
    go (a-reference r n i l) e =
        let k : Some (Ref r) ≡ Some v = sym (slot-ref r) ∙ e in
        let q : v ≡ Ref r = cc in
        let b : n ≤ no_number = rw i at m in
        rw (q, cell-reference r, word-is r (omega arith))

pub absent-slot : (count : ℤ) (c : Cell) → cell_fits count c ≡ true → slot_of c ≡ None → c ≡ absent
absent-slot count c h e = go (fits-shape count c h) e
  where
    never : {X : Type 0} {v : Value} → Some v ≡ None → X
    never k = absurd (let z : ◌≡◌ {A = ℕ} 0 1 = cc in omega arith)

    go : {c : Cell} → Shape count c → slot_of c ≡ None → c ≡ absent
    go an-absent e = refl
    go a_nil_lem e = never (sym slot-nil ∙ e)
    go (a-truth b) e = never (sym (slot-truth b) ∙ e)
    go (an-integer n) e = never (sym (slot-integer n) ∙ e)
    go (a-reference r n k l) e = never (sym (slot-ref r) ∙ e)

-- a reference that fits is below the count
pub ref-below : (n : ℕ) (c : Cell) (r : ℕ) → cell_fits (pos n) c ≡ true → slot_of c ≡ Some (Ref r) → r < n
ref-below n c r h e = go (fits-shape (pos n) c h) e
  where
    never : ◌≡◌ {A = ℕ} 0 1 → r < n
    never z = omega arith

    go : {c : Cell} → Shape (pos n) c → slot_of c ≡ Some (Ref r) → r < n
    go an-absent e = let k : None ≡ Some (Ref r) = sym slot-absent ∙ e in never (cc)
    go a_nil_lem e = let k : Some Nil ≡ Some (Ref r) = sym slot-nil ∙ e in never (cc)
    go (a-truth b) e = let k : Some (Truth b) ≡ Some (Ref r) = sym (slot-truth b) ∙ e in never (cc)
    go (an-integer z) e = let k : Some (Int z) ≡ Some (Ref r) = sym (slot-integer z) ∙ e in never (cc)
    go (a-reference q m i l) e =
        let k : Some (Ref q) ≡ Some (Ref r) = sym (slot-ref q) ∙ e in
        let x : q ≡ r = cc in
        let y : n ≡ m = cc in
        omega arith

-- the cell of a value fits, where the value is no reference or one below the count
pub cell-fits : (n : ℕ) (v : Value) → ((r : ℕ) → v ≡ Ref r → r < n) → cell_fits (pos n) (cell_of v) ≡ true
unfolding cell_fits
cell-fits n Nil h = rw cell-nil
cell-fits n (Truth true) h = rw (cell-truth true)
cell-fits n (Truth false) h = rw (cell-truth false)
cell-fits n (Int z) h = rw (cell-integer z)
cell-fits n (Ref r) h = let l : r < n = h r refl in cases (ltb r 2147483648)
    (λ e. rw (cell-reference r, word-is r (ltb-true r 2147483648 e)) (lt-ltb r n l))
    (λ e. rw (cell-reference r, word-greatest r (ltb-false r 2147483648 e)) (lt-ltb 2147483647 n (omega (arith, ltb-false r 2147483648 e))))

pub fits_more : (n m : ℕ) (c : Cell) → n ≤ m → cell_fits (pos n) c ≡ true → cell_fits (pos m) c ≡ true
fits_more n m c l h = shape-fits (pos m) (go (fits-shape (pos n) c h))
  where
    go : {c : Cell} → Shape (pos n) c → Shape (pos m) c
    go an-absent = an-absent
    go a_nil_lem = a_nil_lem
    go (a-truth b) = a-truth b
    go (an-integer z) = an-integer z
    go (a-reference r k e i) = let x : n ≡ k = cc in a-reference r m refl (omega arith)
