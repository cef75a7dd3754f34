-- Laws of values and cells. Assumes nothing.
use Rattle.std.specs.Prelude.{None, Some}
use mathlib.Core.Path.{◌≡◌, refl}
use mathlib.Core.Bool.{Bool, true, false, cond}
use Prim.Native.Nat.{ℕ}
use native.Mathlib.Omega.{arith}
use lib.Dec.{eqb}
use lib.IntN.{ℤ, pos}
use Rattle.words.specs.Words.{number_of, word_of, eq_z}
use Rattle.words.proofs.Laws.{number_word}
use Rattle.tables.specs.Values.{cell, absent, cell_of, slot_of, Sound}
use Rattle.tables.specs.declared.Cell.{Cell}
use Rattle.tables.specs.declared.Value.{Value}
use Rattle.tables.specs.declared.Value.TheVariants.{Nil, Bool as Truth, Int, Ref}

pub slot-of-cell : (v : Value) → Sound v → slot_of (cell_of v) ≡ Some v
unfolding slot_of cell_of
slot-of-cell Nil h = refl
slot-of-cell (Truth true) h = refl
slot-of-cell (Truth false) h = refl
slot-of-cell (Int n) h = refl
slot-of-cell (Ref r) h = rw (number_word r h)

pub slot-absent : slot_of absent ≡ None
unfolding slot_of
slot-absent = refl

pub cell-used : (v : Value) → number_of (cell_of v).kind ≡ 0 → ⊥
unfolding cell_of
cell-used Nil e = omega arith
cell-used (Truth b) e = omega arith
cell-used (Int n) e = omega arith
cell-used (Ref r) e = omega arith

-- what a cell of kind 2 or 3 holds
pub slot-boolean : (p : ℤ) → slot_of (cell (pos 2) p) ≡ Some (Truth (eq_z p (pos 1)))
unfolding slot_of
slot-boolean p = refl

pub slot-integer : (p : ℤ) → slot_of (cell (pos 3) p) ≡ Some (Int p)
unfolding slot_of
slot-integer p = refl

-- a reference, by its kind; and what any other kind tells
pub slot-reference : (c : Cell) → number_of c.kind ≡ 4 → slot_of c ≡ Some (Ref (number_of c.payload))
unfolding slot_of
slot-reference c h = rw h

pub slot-other : (c : Cell) → eqb (number_of c.kind) 4 ≡ false
    → slot_of c
    ≡ cond (eqb (number_of c.kind) 1) (Some Nil) (cond (eqb (number_of c.kind) 2) (Some (Truth (eq_z c.payload (pos 1)))) (cond (eqb (number_of c.kind) 3) (Some (Int c.payload)) None))
unfolding slot_of
slot-other c h = rw h

pub slot-nil : slot_of (cell (pos 1) (pos 0)) ≡ Some Nil
unfolding slot_of
slot-nil = refl

-- the cell of each value
pub cell-nil : cell_of Nil ≡ cell (pos 1) (pos 0)
unfolding cell_of
cell-nil = refl

pub cell-truth : (b : Bool) → cell_of (Truth b) ≡ cell (pos 2) (cond b (pos 1) (pos 0))
unfolding cell_of
cell-truth b = refl

pub cell-reference : (r : ℕ) → cell_of (Ref r) ≡ cell (pos 4) (word_of r)
unfolding cell_of
cell-reference r = refl

pub cell-integer : (n : ℤ) → cell_of (Int n) ≡ cell (pos 3) n
unfolding cell_of
cell-integer n = refl
