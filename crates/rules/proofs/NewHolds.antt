-- What is kept still holds after a new: the fields of a new that reads make a fit record.
-- Assumes nothing.
use mathlib.Core.Path.{◌≡◌, refl, sym, ap, subst, ◌∙◌}
use mathlib.Core.Bool.{Bool, true, false}
use mathlib.Core.List.{List, [], ◌∷◌, ◌++◌, append_assoc}
use Prim.Native.Nat.{ℕ, zero, suc, ◌+◌, ◌≤◌, ◌<◌}
use native.Mathlib.Omega.{arith}
use borrow.Author.Tests.{ltb-true}
use lib.Dec.{ltb}
use lib.IntN.{ℤ, pos}
use lib.ListN.{length, get_or, set, replicate, drop}
use lib.Seq.{get_or-set_same, get_or-set_other}
use Rattle.std.specs.Prelude.{is_ok}
use Rattle.words.specs.Words.{word_at, number_of, number_at}
use Rattle.words.specs.Answer.{got}
use Rattle.words.proofs.Laws.{number-first}
use Rattle.words.proofs.AnswerLaws.{got-inj, step, tested}
use Rattle.tables.specs.declared.Value.{Value}
use Rattle.tables.specs.declared.Value.TheVariants.{Ref}
use Rattle.tables.specs.Sizes.{variables, labels, most_fields}
use Rattle.tables.specs.Values.{cell_of}
use Rattle.tables.specs.Cells.{Cells, cells}
use Rattle.tables.specs.Records.{record_count, new_label, new_cell, field_then, with_record}
use Rattle.fit.specs.Fit.{cell_fits, Fit, FieldsFit}
use Rattle.tables.proofs.SearchLaws.{cases}
use Rattle.tables.proofs.ValueLaws.{cell-used}
use Rattle.tables.proofs.RecordLaws.{first-label, first_cell, next-label, next-cell, add-records}
use Rattle.fit.proofs.FitChanges.{fit-add}
use Rattle.program.specs.Forms.{expression_depth}
use Rattle.program.specs.Told.{told}
use Rattle.program.specs.Reading.{number, read_expression, read_fields}
use Rattle.program.specs.Grammar.{Fields, Piece, statement_of, Yields, Takes}
use Rattle.program.proofs.NumberLaws.{number-of}
use Rattle.program.proofs.LengthLaws.{Part, part-refl, part-trans, part-drop, after-got}
use Rattle.program.proofs.GrammarLaws.{expression-complete, fields-complete}
use Rattle.program.proofs.BlockLaws.{InFields, fields-start, label-twice, field-goes-on}
use Rattle.rules.specs.State.{State, refused}
use Rattle.rules.specs.Evaluation.{evaluate}
use Rattle.rules.specs.Identities.{identity_phase}
use Rattle.rules.specs.Steps.Phases.{by_variable, with-record}
use Rattle.rules.specs.Statements.{Left, field_words, do_new}
use Rattle.rules.specs.Steps.Holds.{Holds}
use Rattle.rules.proofs.EndLaws.{Any}
use Rattle.rules.proofs.ReadingLaws.{evaluate-reads}
use Rattle.rules.proofs.HoldLaws.{half_of}
use Rattle.rules.proofs.PhaseHolds.{phase-half}
use Rattle.rules.proofs.SpotLaws.{append-part}
use Rattle.rules.proofs.AssignHolds.{evaluate-there, there-fits, value-holds}

-- fields that fit, and none of whose labels is marked
record Rows (count : ℤ) (marks : List Bool) (fs : List ℤ) (n : ℕ) : Type 0 where
  fit : FieldsFit count fs n
  unmarked : (f : ℕ) → f < n → get_or marks (number_of (new_label fs f)) false ≡ false

-- no fields
no_rows : (count : ℤ) (marks : List Bool) (fs : List ℤ) → Rows count marks fs 0
no_rows count marks fs = record {
  fit = record {
    small = λ f h. absurd (never f h);
    differ = λ g f a h. absurd (never f h);
    fits = λ f h. absurd (never f h);
    used = λ f h. absurd (never f h);
  };
  unmarked = λ f h. absurd (never f h);
}
  where
    never : (f : ℕ) → f < 0 → ⊥
    never f h = omega arith

-- a field more, before the others, whose label was not marked and is marked for them
module _ (count : ℤ) (marks : List Bool) (long : length marks ≡ 32) (l : ℕ) (v : Value) (fs : List ℤ) (n : ℕ) (small : l < 32) (new : get_or marks l false ≡ false) (fits : cell_fits count (cell_of v) ≡ true) (rows : Rows count (set marks l true) fs n) where
  abbrev whole : List ℤ
  whole = field_then (pos l) (cell_of v) fs

  head : new_label whole 0 ≡ pos l
  head = first-label (pos l) (cell_of v) fs

  label : (g : ℕ) → new_label whole (suc g) ≡ new_label fs g
  label = next-label (pos l) (cell_of v) fs

  -- a later label is another
  apart : (f : ℕ) → f < n → number_of (new_label fs f) ≡ l → ⊥
  apart f h e =
      let t : get_or (set marks l true) l false ≡ true = get_or-set_same marks l true false (omega arith) in
      let u : get_or (set marks l true) l false ≡ false = rw e at (rows.unmarked f h) in
      let z : ◌≡◌ {A = ℕ} 0 1 = cc in omega arith

  more-small : (f : ℕ) → f < suc n → number_of (new_label whole f) < labels
  more-small zero h = rw head small
  more-small (suc g) h = rw (label g) (rows.fit.small g (omega arith))

  more-differ : (g f : ℕ) → g < f → f < suc n → number_of (new_label whole g) ≡ number_of (new_label whole f) → ⊥
  more-differ g zero a h = let z : ⊥ = omega arith in absurd z
  more-differ zero (suc f) a h = rw (head, label f) (λ e. apart f (omega arith) (sym e))
  more-differ (suc g) (suc f) a h = rw (label g, label f) (rows.fit.differ g f (omega arith) (omega arith))

  more-fits : (f : ℕ) → f < suc n → cell_fits count (new_cell whole f) ≡ true
  more-fits zero h = rw (first_cell (pos l) (cell_of v) fs) fits
  more-fits (suc g) h = rw (next-cell (pos l) (cell_of v) fs g) (rows.fit.fits g (omega arith))

  more-used : (f : ℕ) → f < suc n → number_of (new_cell whole f).kind ≡ 0 → ⊥
  more-used zero h = rw (first_cell (pos l) (cell_of v) fs) (cell-used v)
  more-used (suc g) h = rw (next-cell (pos l) (cell_of v) fs g) (rows.fit.used g (omega arith))

  more-unmarked : (f : ℕ) → f < suc n → get_or marks (number_of (new_label whole f)) false ≡ false
  more-unmarked zero h = rw head new
  more-unmarked (suc g) h = rw (label g)
      (sym (get_or-set_other marks l (number_of (new_label fs g)) true false (apart g (omega arith))) ∙ rows.unmarked g (omega arith))

  more_rows : Rows count marks whole (suc n)
  more_rows = record { fit = record { small = more-small; differ = more-differ; fits = more-fits; used = more-used }; unmarked = more-unmarked }

-- ---- the fields of a new that reads: N of them in the words p, with the rest q

module _ (S : Cells) (fit : Fit S) (N : ℕ) (p q : List ℤ) (reads : read_fields N [] p ≡ got q) where
  -- a label that is read was not there before
  unmarked : {i : ℕ} {u : List ℤ} {marks : List Bool} (inv : InFields N p i (length u) marks) → i < N → Part p u → number_at u 0 < 32 → get_or marks (number_at u 0) false ≡ false
  unmarked {u = u} {marks = marks} inv more part small = cases (get_or marks (number_at u 0) false)
      (λ e. let t = label-twice inv more (sym part.is) small e in
      let z : ◌≡◌ {A = Bool} false true = ap is_ok (t ∙ ap told reads) in
      let y : ◌≡◌ {A = ℕ} 0 1 = cc in absurd (let x : ⊥ = omega arith in x))
      (λ e. e)

  field-rows : {n : ℕ} {seen : List ℕ} {ws : List ℤ} → Fields n seen ws → (i : ℕ) (marks : List Bool) (fs : List ℤ) → i + n ≡ N → Part p (ws ++ q) → InFields N p i (length (ws ++ q)) marks
      → field_words n S (ws ++ q) ≡ got fs → Rows (word_at S.heap 0) marks fs n
  unfolding field_words
  field-rows Fields.none i marks fs m part inv e = no_rows (word_at S.heap 0) marks fs
  field-rows (Fields.one {n = n} {l = l} {e = x} {fs = ys} a b c d) i marks fs m part inv e =
      let o : (x ++ ys) ++ q ≡ x ++ (ys ++ q) = append_assoc x ys q in
      let k : field_words (suc n) S (pos l ∷ (x ++ (ys ++ q))) ≡ got fs = rw o at e in
      let part' : Part p (pos l ∷ (x ++ (ys ++ q))) = rw o at part in
      let inv' : InFields N p i (length (pos l ∷ (x ++ (ys ++ q)))) marks = subst (λ (z : List ℤ). InFields N p i (length (pos l ∷ z)) marks) o inv in
      let w : number_at (pos l ∷ (x ++ (ys ++ q))) 0 ≡ l = number-first (pos l) (x ++ (ys ++ q)) in
      let r : read_expression 16 false (x ++ (ys ++ q)) ≡ got (ys ++ q) = expression-complete c (ys ++ q) in
      let small : number_at (pos l ∷ (x ++ (ys ++ q))) 0 < 32 = rw w a in
      let fresh = unmarked inv' (omega arith) part' small in
      let next = field-goes-on inv' (omega arith) (sym part'.is) small fresh {k = length (ys ++ q)} (rw r) (rw (after-got r) (append-part x (ys ++ q))) in
      let here : number 0 31 (pos l ∷ (x ++ (ys ++ q))) ≡ got (l, x ++ (ys ++ q)) = number-of 0 31 l (x ++ (ys ++ q)) (omega arith) (omega arith) in
      step (evaluate expression_depth S (x ++ (ys ++ q))) _ (rw here at k) λ v e1 k1.
      step (field_words n S v.1) _ k1 λ more e2 k2.
      let t : v.1 ≡ ys ++ q = (evaluate-reads Any tt tt S tt c (ys ++ q)).good v e1 in
      rw (← got-inj k2) (more_rows (word_at S.heap 0) marks inv.long l v.0 more n a (rw w at fresh)
      (there-fits S fit v.0 (evaluate-there S fit expression_depth (x ++ (ys ++ q)) v e1))
      (field-rows d (i + 1) (set marks l true) more (omega arith) (part-trans part' (part-trans (part-drop 1 (pos l ∷ (x ++ (ys ++ q)))) (append-part x (ys ++ q)))) (rw w at next) (rw t at e2)))

-- so the tables with the record are fit
pub new-fit : (S : Cells) (n : ℕ) (ys q fs : List ℤ) → Fit S → record_count S.heap < 64 → n ≤ 8 → Fields n [] ys → field_words n S (ys ++ q) ≡ got fs
    → Fit (cells S.environment (with_record S.heap fs n))
new-fit S n ys q fs fit room few f e =
    fit-add S fs n fit room few
    (field-rows S fit n (ys ++ q) q (fields-complete f q) f 0 (replicate 32 false) fs (omega arith) (part-refl (ys ++ q)) fields-start e).fit

-- ---- the words of a new that reads

pub record NewWords (ws : List ℤ) : Type 0 where
  pub x : ℕ
  pub n : ℕ
  pub fs : List ℤ
  pub is : ws ≡ pos 2 ∷ pos x ∷ pos n ∷ fs
  pub small : x < variables
  pub few : n ≤ most_fields
  pub fields : Fields n [] fs

pub new-words : {d : ℕ} {ws : List ℤ} (q : List ℤ) → Yields (statement_of d) ws → number_at (ws ++ q) 0 ≡ 2 → NewWords ws
new-words {d} {ws} q y e = go y refl e
  where
    not : {ws : List ℤ} (k : ℕ) (r : List ℤ) → number_at (pos k ∷ r) 0 ≡ 2 → (k ≡ 2 → ⊥) → NewWords ws
    not k r e n = absurd (n (sym (number-first (pos k) r) ∙ e))

    go : {c : Piece} {ws : List ℤ} → Yields c ws → c ≡ statement_of d → number_at (ws ++ q) 0 ≡ 2 → NewWords ws
    go (Yields.block a b) i e = absurd (let z : ◌≡◌ {A = ℕ} 0 1 = cc in omega arith)
    go Yields.none i e = absurd (let z : ◌≡◌ {A = ℕ} 0 1 = cc in omega arith)
    go (Yields.one a b) i e = absurd (let z : ◌≡◌ {A = ℕ} 0 1 = cc in omega arith)
    go Yields.skip i e = not 0 _ e (λ z. omega arith)
    go (Yields.assign a b) i e = not 1 _ e (λ z. omega arith)
    go (Yields.new {x = x} {n = n} {fs = fs} a b f) i e = record { x = x; n = n; fs = fs; is = refl; small = a; few = b; fields = f }
    go (Yields.always a) i e = not 3 _ e (λ z. omega arith)
    go (Yields.once a) i e = not 4 _ e (λ z. omega arith)
    go (Yields.always_same a b) i e = not 5 _ e (λ z. omega arith)
    go (Yields.once_same a b) i e = not 6 _ e (λ z. omega arith)
    go (Yields.branch a b c) i e = not 7 _ e (λ z. omega arith)
    go (Yields.loop a b) i e = not 8 _ e (λ z. omega arith)

module _ (program p : List ℤ) (S : State) (ws : List ℤ) (l : Left) (holds : Holds program S) where
  new-here : (x n : ℕ) (ys q : List ℤ) → x < 64 → n ≤ 8 → Fields n [] ys → p ≡ pos 2 ∷ pos x ∷ pos n ∷ (ys ++ q) → do_new program p S ws ≡ got l → Holds program l.state
  unfolding do_new
  new-here x n ys q a b f is e =
      let r : drop 1 p ≡ pos x ∷ pos n ∷ (ys ++ q) = ap (drop 1) is in
      let i : number 0 63 (pos x ∷ pos n ∷ (ys ++ q)) ≡ got (x, pos n ∷ (ys ++ q)) = number-of 0 63 x (pos n ∷ (ys ++ q)) (omega arith) (omega arith) in
      let j : number 0 8 (pos n ∷ (ys ++ q)) ≡ got (n, ys ++ q) = number-of 0 8 n (ys ++ q) (omega arith) b in
      step (field_words n S.cells (ys ++ q)) _ (rw (r, i, j) at e) λ fs e1 k1.
      tested (refused 10 p) (ltb (record_count S.cells.heap) 64) _ k1 λ c k2.
      step (identity_phase program S.kept S.cells (cells S.cells.environment (with_record S.cells.heap fs n)) p x [] (Ref (record_count S.cells.heap))) _ k2 λ Z e3 k3.
      let room : record_count S.cells.heap < 64 = ltb-true (record_count S.cells.heap) 64 c in
      value-holds program p S ws l holds x Z
      (phase-half program S.kept S.cells (cells S.cells.environment (with_record S.cells.heap fs n)) p x [] (Ref (record_count S.cells.heap)) Z (half_of holds)
      (with-record fs n room b) (by_variable a) e3 (new-fit S.cells n ys q fs holds.fit room b f e1)
      (λ k z. let w : record_count S.cells.heap ≡ k = cc in rw (add-records S.cells.heap fs n holds.fit.sized.heap room b) (omega arith))) k3

  -- the statement at p reads, as a new
  pub new-holds : (d : ℕ) (q : List ℤ) → Takes (Yields (statement_of d)) p q → number_at p 0 ≡ 2 → do_new program p S ws ≡ got l → Holds program l.state
  new-holds d q t v e =
      let w = new-words q t.piece (rw t.split at v) in
      new-here w.x w.n w.fs q w.small w.few w.fields (t.split ∙ ap (λ (us : List ℤ). us ++ q) w.is) e
