-- One structure: an equivalence; what cells hold, and which field has a label, depend on it only.
-- Assumes nothing.
use Rattle.std.specs.Prelude.{None, Option, Some}
use mathlib.Core.Path.{◌≡◌, refl, sym, ◌∙◌}
use mathlib.Core.Bool.{Bool}
use Prim.Native.Nat.{ℕ, zero, suc, ◌+◌, ◌<◌}
use native.Mathlib.Omega.{arith}
use native.Mathlib.Decide.{dec_lt, ℕ_discrete}
use borrow.Author.Tests.{eqb-true}
use lib.Dec.{eqb}
use lib.IntN.{ℤ, pos}
use Rattle.words.specs.Words.{number_of}
use Rattle.tables.specs.declared.Cell.{Cell}
use Rattle.tables.specs.declared.Value.{Value}
use Rattle.tables.specs.declared.Value.TheVariants.{Nil, Bool as Truth, Int, Ref}
use Rattle.tables.specs.Values.{cell, cell_of, slot_of}
use Rattle.tables.specs.Cells.{Cells, cell_at, put_cell, Sized}
use Rattle.tables.specs.Records.{field_count, label_at, field_with}
use Rattle.tables.proofs.SearchLaws.{cases, Seeking, seeking-starts, seeking-goes-on}
use Rattle.tables.proofs.FindLaws.{field_in, find-hits, find-ends}
use Rattle.tables.proofs.WordLaws.{word_number}
use Rattle.tables.proofs.ValueLaws.{slot-boolean, slot-integer, cell-truth, cell-integer}
use Rattle.tables.proofs.CellLaws.{no_cell, read_same, read-other, put-records, put-fields, put-label}
use Rattle.rules.specs.State.{State}
use Rattle.rules.specs.Structure.{Same, SameState}

-- two values of one kind, and the same value unless they are booleans or integers
pub data Alike : Value → Value → Type 0 where
  nils : Alike Nil Nil
  truths : {a b : Bool} → Alike (Truth a) (Truth b)
  ints : {a b : ℤ} → Alike (Int a) (Int b)
  refs : {r : ℕ} → Alike (Ref r) (Ref r)

-- ---- one structure is an equivalence

pub same_refl : (S : Cells) → Same S S
same_refl S = record { kinds = λ l. refl; payloads = λ l m n. refl; labels = λ r f b. refl; fields = λ r. refl; records = refl }

pub same-sym : {S Z : Cells} → Same S Z → Same Z S
same-sym s = record {
  kinds = λ l. sym (s.kinds l);
  payloads = λ l m n. sym (s.payloads l (rw (s.kinds l) m) (rw (s.kinds l) n));
  labels = λ r f b. sym (s.labels r f b);
  fields = λ r. sym (s.fields r);
  records = sym s.records;
}

pub same-trans : {S Z W : Cells} → Same S Z → Same Z W → Same S W
same-trans s t = record {
  kinds = λ l. s.kinds l ∙ t.kinds l;
  payloads = λ l m n. s.payloads l m n ∙ t.payloads l (rw (s.kinds l) at m) (rw (s.kinds l) at n);
  labels = λ r f b. s.labels r f b ∙ t.labels r f b;
  fields = λ r. s.fields r ∙ t.fields r;
  records = s.records ∙ t.records;
}

pub state-refl : (S : State) → SameState S S
state-refl S = record { cells = same_refl S.cells; kept = refl }

pub state-sym : {S Z : State} → SameState S Z → SameState Z S
state-sym s = record { cells = same-sym s.cells; kept = sym s.kept }

pub state-trans : {S Z W : State} → SameState S Z → SameState Z W → SameState S W
state-trans s t = record { cells = same-trans s.cells t.cells; kept = s.kept ∙ t.kept }

-- ---- values in alike cells

-- two cells of one kind, and of one payload unless they are booleans or integers
pub record AlikeCell (a b : Cell) : Type 0 where
  pub kind : a.kind ≡ b.kind
  pub payload : (number_of a.kind ≡ 2 → ⊥) → (number_of a.kind ≡ 3 → ⊥) → a.payload ≡ b.payload

pub alike_at : {S Z : Cells} → Same S Z → (l : ℕ) → AlikeCell (cell_at S l) (cell_at Z l)
alike_at s l = record { kind = s.kinds l; payload = s.payloads l }

pub alike_refl : (c : Cell) → AlikeCell c c
alike_refl c = record { kind = refl; payload = λ m n. refl }

pub value-refl : (v : Value) → Alike v v
value-refl Nil = nils
value-refl (Truth b) = truths
value-refl (Int n) = ints
value-refl (Ref r) = refs

-- both absent, or alike values
pub data AlikeSlot : Option Value → Option Value → Type 0 where
  absents : AlikeSlot None None
  held : {v w : Value} → Alike v w → AlikeSlot (Some v) (Some w)

slot-refl : (x : Option Value) → AlikeSlot x x
slot-refl None = absents
slot-refl (Some v) = held (value-refl v)

same-cell : (a b : Cell) → a.kind ≡ b.kind → a.payload ≡ b.payload → a ≡ b
same-cell a b e f = rw (e, f)

-- alike cells hold alike values
pub slots-alike : (a b : Cell) → AlikeCell a b → AlikeSlot (slot_of a) (slot_of b)
slots-alike a b s = go (ℕ_discrete (number_of a.kind) 2) (ℕ_discrete (number_of a.kind) 3)
  where
    -- a cell whose kind is the number k
    of-kind : (c : Cell) (k : ℕ) → k < 2147483648 → number_of c.kind ≡ k → c ≡ cell (pos k) c.payload
    of-kind c k l e = same-cell c (cell (pos k) c.payload) (word_number c.kind k e l) refl

    go : Dec (number_of a.kind ≡ 2) → Dec (number_of a.kind ≡ 3) → AlikeSlot (slot_of a) (slot_of b)
    go (yes e) d =
        rw (of-kind a 2 (omega arith) e, of-kind b 2 (omega arith) (rw s.kind at e), slot-boolean a.payload, slot-boolean b.payload) (held truths)
    go (no m) (yes e) =
        rw (of-kind a 3 (omega arith) e, of-kind b 3 (omega arith) (rw s.kind at e), slot-integer a.payload, slot-integer b.payload) (held ints)
    go (no m) (no n) = rw (same-cell a b s.kind (s.payload m n)) (slot-refl (slot_of b))

-- alike values make alike cells
pub cells-alike : {v w : Value} → Alike v w → AlikeCell (cell_of v) (cell_of w)
cells-alike nils = alike_refl (cell_of Nil)
cells-alike (truths {a = a} {b = b}) = rw (cell-truth a, cell-truth b) (record { kind = refl; payload = λ m n. absurd (m refl) })
cells-alike (ints {a = a} {b = b}) = rw (cell-integer a, cell-integer b) (record { kind = refl; payload = λ m n. absurd (n refl) })
cells-alike (refs {r = r}) = alike_refl (cell_of (Ref r))

-- ---- the field with a label

module _ (S Z : Cells) (s : Same S Z) where
  -- looking for the label from field place i on, in both heaps at once
  look : (r label left i : ℕ) → i + left ≡ field_count S.heap r
      → Seeking (λ g. eqb (label_at S.heap r g) label) (field_count S.heap r) i → Seeking (λ g. eqb (label_at Z.heap r g) label) (field_count Z.heap r) i
      → field_with S.heap r label ≡ field_with Z.heap r label
  look r label zero i e a b = sym (find-ends S.heap r label i a (omega arith)) ∙ find-ends Z.heap r label i b (omega (arith, s.fields r))
  look r label (suc left) i e a b =
      let l : i < field_count S.heap r = omega arith in
      let k : i < field_count Z.heap r = omega (arith, s.fields r) in
      let h = field_in S.heap r i l in
      let q : label_at S.heap r i ≡ label_at Z.heap r i = s.labels r i h.1 in
      cases (eqb (label_at S.heap r i) label)
      (λ c. let d : label_at S.heap r i ≡ label = eqb-true (label_at S.heap r i) label c in
      sym (find-hits S.heap r label i a l d) ∙ find-hits Z.heap r label i b k (sym q ∙ d))
      (λ c. look r label left (i + 1) (omega arith) (seeking-goes-on a l c) (seeking-goes-on b k (rw q at c)))

  pub field-same : (r label : ℕ) → field_with S.heap r label ≡ field_with Z.heap r label
  field-same r label = look r label (field_count S.heap r) 0 (omega arith) seeking-starts seeking-starts

-- ---- another cell at a location

pub put_same : (S Z : Cells) → Same S Z → Sized S → Sized Z → (l : ℕ) (c d : Cell) → AlikeCell c d → Same (put_cell S l c) (put_cell Z l d)
put_same S Z s i j l c d a = record {
  kinds = λ k. (at k (ℕ_discrete k l) (dec_lt k 576)).kind;
  payloads = λ k. (at k (ℕ_discrete k l) (dec_lt k 576)).payload;
  labels = λ r f x. put-label S l c r f ∙ s.labels r f x ∙ sym (put-label Z l d r f);
  fields = λ r. put-fields S l c r ∙ s.fields r ∙ sym (put-fields Z l d r);
  records = put-records S l c ∙ s.records ∙ sym (put-records Z l d);
}
  where
    at : (k : ℕ) → Dec (k ≡ l) → Dec (k < 576) → AlikeCell (cell_at (put_cell S l c) k) (cell_at (put_cell Z l d) k)
    at k (yes e) (yes h) = rw (e, read_same S l c i (omega arith), read_same Z l d j (omega arith)) a
    at k (yes e) (no h) = rw (no_cell (put_cell S l c) k (omega arith), no_cell (put_cell Z l d) k (omega arith)) (alike_refl _)
    at k (no n) h = rw (read-other S l k c n, read-other Z l k d n) (alike_at s k)
