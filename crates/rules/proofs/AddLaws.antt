-- The record that a new adds, by the rules, is the one that the definition makes, and no other. Assumes nothing.
use mathlib.Core.Path.{◌≡◌, refl, sym, ap, ◌∙◌}
use mathlib.Core.Logic.{◌↔◌}
use mathlib.Core.List.{List, [], ◌∷◌}
use Prim.Native.Nat.{ℕ, zero, suc, ◌+◌, ◌-◌, ◌<◌, ◌≤◌}
use native.Mathlib.Omega.{arith}
use native.Mathlib.Decide.{dec_lt, ℕ_discrete}
use lib.IntN.{ℤ, pos}
use lib.ListN.{length}
use Rattle.words.specs.Words.{number_of}
use Rattle.words.specs.Answer.{got}
use Rattle.words.proofs.AnswerLaws.{got-inj, step}
use Rattle.tables.specs.declared.Value.{Value}
use Rattle.tables.specs.Sizes.{labels, most_fields, most_records, field_location}
use Rattle.tables.specs.Values.{cell_of}
use Rattle.tables.specs.Cells.{Cells, cells, cell_at, Sized}
use Rattle.tables.specs.Records.{record_count, count_at, label_at, new_label, new_cell, field_then, with_record}
use Rattle.tables.proofs.CellLaws.{Among, the-place, no_place, among}
use Rattle.tables.proofs.RecordLaws.{first-label, first_cell, next-label, next-cell, add-length, add-records, add-count, add-count-other}
use Rattle.tables.proofs.RecordLaws.{add-label, add-label-other, add-label-after, add-cell, add-cell-other}
use Rattle.tables.proofs.SameLaws.{Numbered, tables-same}
use Rattle.fit.specs.Fit.{Fit}
use Rattle.fit.proofs.FitLaws.{fit-numbered}
use Rattle.program.specs.Forms.{expression_depth}
use Rattle.program.proofs.NumberLaws.{number-of}
use Rattle.rules.specs.Evaluation.{evaluate}
use Rattle.rules.specs.Statements.{field_words}
use Rattle.rules.specs.Rules.Proposals.{Each, none, more}
use Rattle.rules.specs.Rules.Statements.{FieldsAre, no_field, field, Written, no_more, next, Adds}
use Rattle.rules.proofs.WordSteps.{by_number}
use Rattle.rules.proofs.EvaluationLaws.{evaluate-iff}

-- ---- the fields of a new, and their words

-- the tables with a record more, whose n fields have the words ws
abbrev pub made : Cells → List ℤ → ℕ → Cells
made S ws n = cells S.environment (with_record S.heap ws n)

abbrev pub words_of_fields : List (ℕ × Value) → List ℤ
words_of_fields [] = []
words_of_fields (x ∷ fs) = field_then (pos x.0) (cell_of x.1) (words_of_fields fs)

pub fields-sound : (S : Cells) (n : ℕ) (p ws : List ℤ) → field_words n S p ≡ got ws → (fs : List (ℕ × Value)) × (FieldsAre S n p fs × (words_of_fields fs ≡ ws))
unfolding field_words
fields-sound S zero p ws e = ([], (no_field, got-inj e))
fields-sound S (suc n) p ws e =
    by_number 0 (labels - 1) p _ (omega arith) e λ l q a b s k1.
    step (evaluate expression_depth S q) _ k1 λ x v k2.
    step (field_words n S x.1) _ k2 λ rest f k3.
    let w = fields-sound S n x.1 rest f in (
      (l, x.0) ∷ w.0,
      (
        rw s (field {label = l} (omega arith) ((evaluate-iff expression_depth S q x.0 x.1).0 v) w.1.0),
        ap (λ (t : List ℤ). field_then (pos l) (cell_of x.0) t) w.1.1 ∙ got-inj k3,
      ),
    )

pub fields-complete : {S : Cells} {n : ℕ} {p : List ℤ} {fs : List (ℕ × Value)} → FieldsAre S n p fs → field_words n S p ≡ got (words_of_fields fs)
unfolding field_words
fields-complete no_field = refl
fields-complete {S} (field {label = l} {v = v} {p = p} {q = q} h e f) =
    rw (number-of 0 (labels - 1) l p (omega arith) (omega arith), (evaluate-iff expression_depth S p v q).1 e, fields-complete f)

pub fields-length : {S : Cells} {n : ℕ} {p : List ℤ} {fs : List (ℕ × Value)} → FieldsAre S n p fs → length fs ≡ n
fields-length no_field = refl
fields-length (field h e f) = ap suc (fields-length f)

abbrev Labelled : ℕ × Value → Type 0
Labelled x = x.0 < labels

fields-labelled : {S : Cells} {n : ℕ} {p : List ℤ} {fs : List (ℕ × Value)} → FieldsAre S n p fs → Each Labelled fs
fields-labelled no_field = none
fields-labelled (field h e f) = more h (fields-labelled f)

-- ---- the fields that are written

module _ (A B : Cells) (r : ℕ) where
  -- two tables with the same fields have the same label and the same cell at each of their places
  written_same : {f : ℕ} {gs : List (ℕ × Value)} → Written A r f gs → Written B r f gs → (g k : ℕ) → g < length gs → k ≡ f + g
      → (label_at A.heap r k ≡ label_at B.heap r k) × (cell_at A (field_location r k) ≡ cell_at B (field_location r k))
  written_same no_more b g k h e = absurd (let z : ⊥ = omega arith in z)
  written_same {f} (next a c m) (next b d n) zero k h e = let q : k ≡ f = omega arith in rw q (a ∙ sym b, c ∙ sym d)
  written_same (next a c m) (next b d n) (suc g) k h e = written_same m n g k (omega arith) (omega arith)

  written_small : {f : ℕ} {gs : List (ℕ × Value)} → Written A r f gs → Each Labelled gs → (g k : ℕ) → g < length gs → k ≡ f + g → label_at A.heap r k < labels
  written_small no_more s g k h e = absurd (let z : ⊥ = omega arith in z)
  written_small {f} (next a c m) (more l s) zero k h e = let q : k ≡ f = omega arith in rw (q, a) l
  written_small (next a c m) (more l s) (suc g) k h e = written_small m s g k (omega arith) (omega arith)

module _ (S : Cells) (fit : Fit S) (room : record_count S.heap < most_records) (fs : List (ℕ × Value)) (few : length fs ≤ most_fields) where
  abbrev ws : List ℤ
  ws = words_of_fields fs

  abbrev count : ℕ
  count = record_count S.heap

  abbrev longer : Cells
  longer = made S ws (length fs)

  -- ---- the record that the definition makes

  -- from field place f on, gs are the fields
  record From (f : ℕ) (gs : List (ℕ × Value)) : Type 0 where
    label : (g : ℕ) → new_label ws (f + g) ≡ new_label (words_of_fields gs) g
    value : (g : ℕ) → new_cell ws (f + g) ≡ new_cell (words_of_fields gs) g
    long : f + length gs ≡ length fs

  from_next : {f : ℕ} {x : ℕ × Value} {gs : List (ℕ × Value)} → From f (x ∷ gs) → From (suc f) gs
  from_next {f} {x} {gs} h = record {
    label = λ g. let e : suc f + g ≡ f + suc g = omega arith in rw e (h.label (suc g) ∙ next-label (pos x.0) (cell_of x.1) (words_of_fields gs) g);
    value = λ g. let e : suc f + g ≡ f + suc g = omega arith in rw e (h.value (suc g) ∙ next-cell (pos x.0) (cell_of x.1) (words_of_fields gs) g);
    long = omega (arith, h.long);
  }

  made-written : (f : ℕ) (gs : List (ℕ × Value)) → From f gs → Written longer count f gs
  made-written f [] h = no_more
  made-written f (x ∷ gs) h =
      let e : f + 0 ≡ f = omega arith in
      let l : new_label ws f ≡ pos x.0 = rw e at (h.label 0) ∙ first-label (pos x.0) (cell_of x.1) (words_of_fields gs) in
      let c : new_cell ws f ≡ cell_of x.1 = rw e at (h.value 0) ∙ first_cell (pos x.0) (cell_of x.1) (words_of_fields gs) in
      let i : f < length fs = omega (arith, h.long) in
      next
      (add-label S.heap ws (length fs) fit.sized.heap room few f i ∙ ap number_of l)
      (add-cell S.heap ws (length fs) fit.sized.heap room few S.environment f i ∙ c)
      (made-written (suc f) gs (from_next h))

  made-adds : Adds S fs longer
  made-adds = record {
    records = let e : count + 1 ≡ suc count = omega arith in add-records S.heap ws (length fs) fit.sized.heap room few ∙ e;
    count = add-count S.heap ws (length fs) fit.sized.heap room few;
    fields = made-written 0 fs (record { label = λ g. ap (new_label ws) (omega arith); value = λ g. ap (new_cell ws) (omega arith); long = omega arith });
    counts = add-count-other S.heap ws (length fs) fit.sized.heap room few;
    labels = λ r f n. label r f n (ℕ_discrete r count);
    cells = add-cell-other S.heap ws (length fs) fit.sized.heap room few S.environment;
    environment_length = refl;
    heap_length = add-length S.heap ws (length fs);
  }
    where
      label : (r f : ℕ) → (r ≡ count → f < length fs → ⊥) → Dec (r ≡ count) → label_at longer.heap r f ≡ label_at S.heap r f
      label r f n (yes e) = rw e (add-label-after S.heap ws (length fs) fit.sized.heap room few f (let m = n e in omega (arith, m)))
      label r f n (no d) = add-label-other S.heap ws (length fs) fit.sized.heap room few r f d

  -- ---- there is one

  adds-sized : {Y : Cells} → Adds S fs Y → Sized Y
  adds-sized a = record { environment = a.environment_length ∙ fit.sized.environment; heap = a.heap_length ∙ fit.sized.heap }

  module _ (small : Each Labelled fs) where
    adds-numbered : {Y : Cells} → Adds S fs Y → Numbered Y.heap
    adds-numbered {Y} a = record {
      records = rw a.records (omega arith);
      counts = λ r h. counts r h (ℕ_discrete r count);
      labels = λ r f h g. label r f h g (ℕ_discrete r count) (dec_lt f (length fs));
    }
      where
        counts : (r : ℕ) → r < 64 → Dec (r ≡ count) → count_at Y.heap r < 2147483648
        counts r h (yes e) = rw (e, a.count) (omega arith)
        counts r h (no d) = rw (a.counts r d) ((fit-numbered S fit).counts r h)

        label : (r f : ℕ) → r < 64 → f < 8 → Dec (r ≡ count) → Dec (f < length fs) → label_at Y.heap r f < 2147483648
        label r f h g (yes e) (yes i) = rw e (omega (arith, written_small Y Y count a.fields small f f i (omega arith)))
        label r f h g (yes e) (no i) = rw (a.labels r f (λ q j. i j)) ((fit-numbered S fit).labels r f h g)
        label r f h g (no d) i = rw (a.labels r f (λ q j. d q)) ((fit-numbered S fit).labels r f h g)

    adds_one : (Y Z : Cells) → Adds S fs Y → Adds S fs Z → Y ≡ Z
    adds_one Y Z a b =
        tables-same Y Z (adds-sized a) (adds-sized b) (adds-numbered a) (adds-numbered b) (λ l. same-cell l (among count (length fs) l)) (a.records ∙ sym b.records)
        (λ r h. counts r (ℕ_discrete r count)) (λ r f h g. label r f (ℕ_discrete r count) (dec_lt f (length fs)))
      where
        same-cell : (l : ℕ) → Among count (length fs) l → cell_at Y l ≡ cell_at Z l
        same-cell l (the-place f i e) = rw e (written_same Y Z count a.fields b.fields f f i (omega arith)).1
        same-cell l (no_place n) = a.cells l n ∙ sym (b.cells l n)

        counts : (r : ℕ) → Dec (r ≡ count) → count_at Y.heap r ≡ count_at Z.heap r
        counts r (yes e) = rw e (a.count ∙ sym b.count)
        counts r (no d) = a.counts r d ∙ sym (b.counts r d)

        label : (r f : ℕ) → Dec (r ≡ count) → Dec (f < length fs) → label_at Y.heap r f ≡ label_at Z.heap r f
        label r f (yes e) (yes i) = rw e (written_same Y Z count a.fields b.fields f f i (omega arith)).0
        label r f (yes e) (no i) = a.labels r f (λ q j. i j) ∙ sym (b.labels r f (λ q j. i j))
        label r f (no d) i = a.labels r f (λ q j. d q) ∙ sym (b.labels r f (λ q j. d q))

    adds-here : (now : Cells) → Adds S fs now ↔ (now ≡ made S (words_of_fields fs) (length fs))
    adds-here now = (λ a. adds_one now longer a made-adds, λ e. rw e made-adds)

-- the record that is added is the one that the definition makes, and no other
pub adds-rule : (S : Cells) → Fit S → record_count S.heap < most_records → (n : ℕ) (p : List ℤ) (fs : List (ℕ × Value)) → FieldsAre S n p fs → n ≤ most_fields
    → (now : Cells) → Adds S fs now ↔ (now ≡ made S (words_of_fields fs) n)
adds-rule S fit room n p fs f few now =
    let e : length fs ≡ n = fields-length f in
    rw e at (adds-here S fit room fs (rw e few) (fields-labelled f) now)
