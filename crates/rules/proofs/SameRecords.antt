-- A record added to two heaps of one structure, with alike fields, leaves one structure.
-- Assumes nothing.
use mathlib.Core.Path.{◌≡◌, sym, ap, ◌∙◌}
use mathlib.Core.List.{List}
use Prim.Native.Nat.{ℕ, zero, suc, ◌+◌, ◌-◌, ◌<◌, ◌≤◌}
use native.Mathlib.Omega.{arith}
use native.Mathlib.Decide.{dec_lt, ℕ_discrete}
use lib.IntN.{ℤ, pos}
use Rattle.words.specs.Words.{number_of}
use Rattle.words.specs.Answer.{got}
use Rattle.words.proofs.AnswerLaws.{got-inj, step}
use Rattle.tables.specs.declared.Cell.{Cell}
use Rattle.tables.specs.Sizes.{labels, field_location}
use Rattle.tables.specs.Values.{cell_of}
use Rattle.tables.specs.Cells.{Cells, cells, Sized, cell_at}
use Rattle.tables.specs.Records.{record_count, field_count, label_at, new_label, new_cell, field_then, with_record}
use Rattle.tables.proofs.CellLaws.{Among, the-place, no_place, among}
use Rattle.tables.proofs.RecordLaws.{first-label, first_cell, next-label, next-cell, add-length, add-records, add-fields, add-fields-other, add-label, add-label-other, add-label-after, add-cell, add-cell-other}
use Rattle.program.specs.Forms.{expression_depth}
use Rattle.program.specs.Reading.{number}
use Rattle.rules.specs.State.{reads}
use Rattle.rules.specs.Evaluation.{evaluate}
use Rattle.rules.specs.Statements.{field_words}
use Rattle.rules.specs.Structure.{Same}
use Rattle.rules.proofs.Structure.{AlikeCell, alike_at, cells-alike}
use Rattle.rules.proofs.SameValues.{Near, evaluate-near}

-- the words of n fields: the same labels, and alike cells
pub record FieldsAlike (fs gs : List ℤ) (n : ℕ) : Type 0 where
  pub labels : (f : ℕ) → f < n → new_label fs f ≡ new_label gs f
  pub cells : (f : ℕ) → f < n → AlikeCell (new_cell fs f) (new_cell gs f)

-- one field more, in front
front-alike : (l : ℤ) (c d : Cell) (fs gs : List ℤ) (n : ℕ) → AlikeCell c d → FieldsAlike fs gs n → FieldsAlike (field_then l c fs) (field_then l d gs) (suc n)
front-alike l c d fs gs n a h = record { labels = label; cells = held }
  where
    label : (f : ℕ) → f < suc n → new_label (field_then l c fs) f ≡ new_label (field_then l d gs) f
    label zero b = first-label l c fs ∙ sym (first-label l d gs)
    label (suc f) b = next-label l c fs f ∙ h.labels f (omega arith) ∙ sym (next-label l d gs f)

    held : (f : ℕ) → f < suc n → AlikeCell (new_cell (field_then l c fs) f) (new_cell (field_then l d gs) f)
    held zero b = rw (first_cell l c fs, first_cell l d gs) a
    held (suc f) b = rw (next-cell l c fs f, next-cell l d gs f) (h.cells f (omega arith))

-- the fields of a new have the same labels and alike values
pub fields-alike : (S Z : Cells) → Same S Z → (n : ℕ) (p : List ℤ) (fs gs : List ℤ) → field_words n S p ≡ got fs → field_words n Z p ≡ got gs → FieldsAlike fs gs n
unfolding field_words
fields-alike S Z s zero p fs gs e g = record { labels = λ f h. absurd (omega arith); cells = λ f h. absurd (omega arith) }
fields-alike S Z s (suc n) p fs gs e g =
    step (reads (number 0 (labels - 1) p)) _ e λ l e1 k1.
    step (evaluate expression_depth S l.1) _ k1 λ v e2 k2.
    step (field_words n S v.1) _ k2 λ more e3 k3.
    step (reads (number 0 (labels - 1) p)) _ g λ l' g1 m1.
    step (evaluate expression_depth Z l'.1) _ m1 λ w g2 m2.
    step (field_words n Z w.1) _ m2 λ more' g3 m3.
    let q : l ≡ l' = got-inj (sym e1 ∙ g1) in
    let b : Near v w = evaluate-near S Z s expression_depth l.1 v w e2 (rw q g2) in
    rw (← got-inj k3, ← got-inj m3, ← q)
    (front-alike (pos l.0) (cell_of v.0) (cell_of w.0) more more' n (cells-alike b.0)
    (fields-alike S Z s n v.1 more more' e3 (rw b.1 g3)))

-- ---- the record

pub add-sized : (S : Cells) (fs : List ℤ) (n : ℕ) → Sized S → Sized (cells S.environment (with_record S.heap fs n))
add-sized S fs n z = record { environment = z.environment; heap = add-length S.heap fs n ∙ z.heap }

module _ (S Z : Cells) (s : Same S Z) (i : Sized S) (j : Sized Z) (fs gs : List ℤ) (n : ℕ) (room : record_count S.heap < 64) (few : n ≤ 8) (a : FieldsAlike fs gs n) where
  abbrev X : Cells
  X = cells S.environment (with_record S.heap fs n)

  abbrev Y : Cells
  Y = cells Z.environment (with_record Z.heap gs n)

  room' : record_count Z.heap < 64
  room' = rw s.records at room

  -- the new record has the same number in both
  new-cells : (l : ℕ) → AlikeCell (cell_at X l) (cell_at Y l)
  new-cells l = go (among (record_count S.heap) n l)
    where
      go : Among (record_count S.heap) n l → AlikeCell (cell_at X l) (cell_at Y l)
      go (no_place d) =
          rw (add-cell-other S.heap fs n i.heap room few S.environment l d, add-cell-other Z.heap gs n j.heap room' few Z.environment l (rw s.records at d)) (alike_at s l)
      go (the-place f b e) =
          let e' : l ≡ field_location (record_count Z.heap) f = rw s.records at e in
          let p : cell_at X l ≡ new_cell fs f = ap (λ k. cell_at X k) e ∙ add-cell S.heap fs n i.heap room few S.environment f b in
          let q : cell_at Y l ≡ new_cell gs f = ap (λ k. cell_at Y k) e' ∙ add-cell Z.heap gs n j.heap room' few Z.environment f b in
          rw (p, q) (a.cells f b)

  new-labels : (r f : ℕ) → Dec (r ≡ record_count S.heap) → Dec (f < n) → f < 8 → label_at X.heap r f ≡ label_at Y.heap r f
  new-labels r f (yes e) (yes l) y =
      rw e (add-label S.heap fs n i.heap room few f l ∙ ap number_of (a.labels f l) ∙ sym (rw s.records (add-label Z.heap gs n j.heap room' few f l)))
  new-labels r f (yes e) (no l) y =
      rw e (add-label-after S.heap fs n i.heap room few f (omega arith) ∙ s.labels (record_count S.heap) f y
      ∙ sym (rw s.records (add-label-after Z.heap gs n j.heap room' few f (omega arith))))
  new-labels r f (no m) d y =
      add-label-other S.heap fs n i.heap room few r f m ∙ s.labels r f y ∙ sym (add-label-other Z.heap gs n j.heap room' few r f (rw s.records at m))

  new-fields : (r : ℕ) → Dec (r ≡ record_count S.heap) → field_count X.heap r ≡ field_count Y.heap r
  new-fields r (yes e) = rw e (add-fields S.heap fs n i.heap room few ∙ sym (rw s.records (add-fields Z.heap gs n j.heap room' few)))
  new-fields r (no m) = add-fields-other S.heap fs n i.heap room few r m ∙ s.fields r ∙ sym (add-fields-other Z.heap gs n j.heap room' few r (rw s.records at m))

  -- a record more, with alike fields
  pub new-same : Same X Y
  new-same = record {
    kinds = λ l. (new-cells l).kind;
    payloads = λ l. (new-cells l).payload;
    labels = λ r f y. new-labels r f (ℕ_discrete r (record_count S.heap)) (dec_lt f n) y;
    fields = λ r. new-fields r (ℕ_discrete r (record_count S.heap));
    records = add-records S.heap fs n i.heap room few ∙ ap (λ k. k + 1) s.records ∙ sym (add-records Z.heap gs n j.heap room' few);
  }
