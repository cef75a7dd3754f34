-- Laws of paths: what an L goes through, and that it leads to the same cell where its prefix cells are the same. Assumes nothing.
use Rattle.std.specs.Prelude.{None, Option, Some}
use mathlib.Core.Path.{◌≡◌, refl, sym, ap, ◌∙◌}
use mathlib.Core.Bool.{Bool}
use mathlib.Core.List.Memᴰ
use mathlib.Core.List.{List, [], ◌∷◌, Memᴰ as OneOf}
use mathlib.Core.Logic.{inl, inr}
use Prim.Native.Nat.{ℕ, zero, suc, ◌-◌, ◌≤◌, ◌<◌}
use native.Mathlib.Omega.{arith}
use native.Mathlib.Decide.{dec_lt}
use borrow.Author.Tests.{eqb-true}
use lib.Dec.{eqb}
use lib.IntN.{ℤ}
use lib.ListN.{drop}
use Rattle.words.specs.Words.{number_at}
use Rattle.words.specs.Answer.{Answer, got, stop}
use Rattle.words.proofs.AnswerLaws.{step, got-inj, stop≢got}
use Rattle.tables.specs.declared.Value.{Value}
use Rattle.tables.specs.declared.Value.TheVariants.{Nil, Bool as Truth, Int, Ref}
use Rattle.tables.specs.Sizes.{variables, field_location}
use Rattle.tables.specs.Search.{first}
use Rattle.tables.specs.Cells.{Cells}
use Rattle.tables.specs.Records.{field_count, label_at, field_with}
use Rattle.tables.proofs.SearchLaws.{Seeking, first-same, first_reach, first_passes, first-hit, first-end}
use Rattle.tables.proofs.FindLaws.{find-hits, find-ends, find-below}
use Rattle.program.specs.Forms.{most_steps}
use Rattle.program.specs.Reading.{Reading, number}
use Rattle.program.proofs.NumberLaws.{number_read}
use Rattle.rules.specs.State.{or_refuse, reads, slot_at}
use Rattle.rules.specs.Paths.{a_record, a_field, follow, Way, way_at}

pub one-of-cons {ℓ} : {A : Type 0} {X : Type ℓ} (x y : A) (ys : List A) → OneOf x (y ∷ ys) → (x ≡ y → X) → (OneOf x ys → X) → X
one-of-cons x y ys m f g = elim (Memᴰ.cases_cons m) [ inl e ↦ f e | inr n ↦ g n ]

-- ---- the field with a label

-- the first of n numbers that passes, as the loops over labels look for it
seeks : (t : ℕ → Bool) (n : ℕ) → Seeking t n (first t 0 n)
seeks t n = record { inside = omega (arith, (first_reach t 0 n).1); rest = go (dec_lt (first t 0 n) n) }
  where
    go : Dec (first t 0 n < n) → first t (first t 0 n) (n - first t 0 n) ≡ first t 0 n
    go (yes y) = first-hit t n (first t 0 n) y (first_passes t 0 n (omega arith))
    go (no f) = first-end t n (first t 0 n) (omega arith)

module _ (h : List ℤ) (r label : ℕ) where
  abbrev labelled : ℕ → Bool
  labelled g = eqb (label_at h r g) label

  abbrev pub place : ℕ
  place = first labelled 0 (field_count h r)

  named : place < field_count h r → label_at h r place ≡ label
  named y = eqb-true (label_at h r place) label (first_passes labelled 0 (field_count h r) (omega arith))

  found-hits : place < field_count h r → Some (field_location r place) ≡ field_with h r label
  found-hits y = find-hits h r label place (seeks labelled (field_count h r)) y (named y)

  found-ends : field_count h r ≤ place → None ≡ field_with h r label
  found-ends y = find-ends h r label place (seeks labelled (field_count h r)) y

-- the field that a label leads to: a used place of the record, which has the label
pub record FoundAt (h : List ℤ) (r label l : ℕ) : Type 0 where
  pub at_place : ℕ
  pub used : at_place < field_count h r
  pub is : l ≡ field_location r at_place
  pub has : label_at h r at_place ≡ label

pub found_at : (h : List ℤ) (r label l : ℕ) → field_with h r label ≡ Some l → FoundAt h r label l
found_at h r label l e = go (dec_lt (place h r label) (field_count h r))
  where
    never : ◌≡◌ {A = ℕ} 0 1 → FoundAt h r label l
    never z = absurd (let y : ⊥ = omega arith in y)

    go : Dec (place h r label < field_count h r) → FoundAt h r label l
    go (yes y) = let q = found-hits h r label y in record { at_place = place h r label; used = y; is = cc; has = named h r label y }
    go (no n) = let q = found-ends h r label (omega arith) in never (cc)

-- a record with the same fields in two heaps: a label leads to the same field
pub found-same : (h k : List ℤ) (r label : ℕ) → field_count k r ≡ field_count h r → ((f : ℕ) → label_at k r f ≡ label_at h r f) → field_with k r label ≡ field_with h r label
found-same h k r label c l = go (dec_lt (place h r label) (field_count h r))
  where
    same : place k r label ≡ place h r label
    same = rw c (first-same (labelled k r label) (labelled h r label) 0 (field_count h r) (λ j a b. rw (l j)))

    go : Dec (place h r label < field_count h r) → field_with k r label ≡ field_with h r label
    go (yes y) = sym (found-hits k r label (rw (same, c) y)) ∙ rw same (found-hits h r label y)
    go (no n) = sym (found-ends k r label (rw (same, c) (omega arith))) ∙ found-ends h r label (omega arith)

-- ---- following labels

pub record_is : (s : Option Value) (r : ℕ) → a_record s ≡ got r → s ≡ Some (Ref r)
record_is (Some Nil) r e = stop≢got e
record_is (Some (Truth b)) r e = stop≢got e
record_is (Some (Int n)) r e = stop≢got e
record_is (Some (Ref q)) r e = rw (got-inj e)
record_is None r e = stop≢got e

pub field_is : (f : Option ℕ) (l : ℕ) → a_field f ≡ got l → f ≡ Some l
field_is (Some k) l e = rw (got-inj e)
field_is None l e = stop≢got e

-- a path that leads somewhere: its first label leads from a reference to a used field, and the others lead on
module _ (S : Cells) where
  pub follow-step {ℓ} : {X : Type ℓ} (n l : ℕ) (p : List ℤ) (x : ℕ × List ℕ) → follow S (suc n) l p ≡ got x
      → ((r next : ℕ) (y : ℕ × List ℕ) → slot_at S l ≡ Some (Ref r) → field_with S.heap r (number_at p 0) ≡ Some next → follow S n next (drop 1 p) ≡ got y → x ≡ (y.0, l ∷ y.1) → X) → X
  unfolding follow
  follow-step n l p x e k =
      step (a_record (slot_at S l)) _ e λ r e1 k1.
      step (a_field (field_with S.heap r (number_at p 0))) _ k1 λ next e2 k2.
      step (follow S n next (drop 1 p)) _ k2 λ y e3 k3.
      k r next y (record_is (slot_at S l) r e1) (field_is (field_with S.heap r (number_at p 0)) next e2) e3 (sym (got-inj k3))

  pub follow-none : (l : ℕ) (p : List ℤ) (x : ℕ × List ℕ) → follow S zero l p ≡ got x → x ≡ (l, [])
  unfolding follow
  follow-none l p x e = sym (got-inj e)

  -- it leads to a location
  pub follow-below : (n l : ℕ) (p : List ℤ) (x : ℕ × List ℕ) → l < 576 → follow S n l p ≡ got x → x.0 < 576
  follow-below zero l p x h e = rw (follow-none l p x e) h
  follow-below (suc n) l p x h e = follow-step n l p x e λ r next y e1 e2 e3 q.
      rw q (follow-below n next (drop 1 p) y (find-below S.heap r (number_at p 0) next e2) e3)

-- where the prefix cells hold the same and records met have the same fields, labels lead to the same cell through the same cells
pub follow-same : (S Z : Cells) (n l : ℕ) (p : List ℤ) (x : ℕ × List ℕ) → ((k r label : ℕ) → slot_at S k ≡ Some (Ref r) → field_with Z.heap r label ≡ field_with S.heap r label) → follow S n l p ≡ got x → ((k : ℕ) → OneOf k x.1 → slot_at Z k ≡ slot_at S k) → follow Z n l p ≡ got x
unfolding follow
follow-same S Z zero l p x f e h = e
follow-same S Z (suc n) l p x f e h = follow-step S n l p x e λ r next y e1 e2 e3 q.
    let a : slot_at Z l ≡ Some (Ref r) = h l (rw q (OneOf.head refl)) ∙ e1 in
    let b : field_with Z.heap r (number_at p 0) ≡ Some next = f l r (number_at p 0) e1 ∙ e2 in
    rw (a, b, follow-same S Z n next (drop 1 p) y f e3 (λ k m. h k (rw q (OneOf.tail m))), q)

-- ---- an L

pub reads-is : {A : Type 0} (m : Reading A) (a : A) → reads m ≡ got a → m ≡ got a
reads-is (got b) a e = ap got (got-inj e)
reads-is (stop q) a e = stop≢got e

pub or-refuse-is : {E A : Type 0} (n : ℕ) (p : List ℤ) (m : Answer E A) (a : A) → or_refuse n p m ≡ got a → m ≡ got a
or-refuse-is n p (got b) a e = ap got (got-inj e)
or-refuse-is n p (stop q) a e = stop≢got e

-- an L that leads to a cell: its variable, how many labels it has, and where they lead
pub record WayOf (S : Cells) (p : List ℤ) (w : Way) : Type 0 where
  pub variable : ℕ
  pub steps : ℕ
  pub counted : List ℤ
  pub labels : List ℤ
  pub first_word : number 0 (variables - 1) p ≡ got (variable, counted)
  pub second_word : number 0 most_steps counted ≡ got (steps, labels)
  pub leads : follow S steps variable labels ≡ got (w.cell, w.prefix)
  pub after : w.rest ≡ drop steps labels

pub way_of : (S : Cells) (p : List ℤ) (w : Way) → way_at S p ≡ got w → WayOf S p w
unfolding way_at
way_of S p w e =
    step (reads (number 0 (variables - 1) p)) _ e λ x e1 k1.
    step (reads (number 0 most_steps x.1)) _ k1 λ y e2 k2.
    step (or_refuse 7 p (follow S y.0 x.0 y.1)) _ k2 λ z e3 k3.
    record {
      variable = x.0;
      steps = y.0;
      counted = x.1;
      labels = y.1;
      first_word = reads-is (number 0 (variables - 1) p) x e1;
      second_word = reads-is (number 0 most_steps x.1) y e2;
      leads = or-refuse-is 7 p (follow S y.0 x.0 y.1) z e3 ∙ ap (λ (u : Way). got (u.cell, u.prefix)) (got-inj k3);
      after = sym (ap (λ (u : Way). u.rest) (got-inj k3));
    }

pub way-from : (S : Cells) (p : List ℤ) (w : Way) → WayOf S p w → way_at S p ≡ got w
unfolding way_at
way-from S p w o = rw (o.first_word, o.second_word, o.leads, o.after)

module _ (S : Cells) (p : List ℤ) (w : Way) (e : way_at S p ≡ got w) where
  -- an L names a location
  pub way-below : w.cell < 576
  way-below =
      let o = way_of S p w e in
      let b = (number_read 0 63 p o.first_word).most in
      follow-below S o.steps o.variable o.labels (w.cell, w.prefix) (omega arith) o.leads

  -- it names the same cell in another table where its prefix cells hold the same, and the records have the same fields
  pub way_same : (Z : Cells) → ((k r label : ℕ) → slot_at S k ≡ Some (Ref r) → field_with Z.heap r label ≡ field_with S.heap r label) → ((k : ℕ) → OneOf k w.prefix → slot_at Z k ≡ slot_at S k) → way_at Z p ≡ got w
  way_same Z f h =
      let o = way_of S p w e in
      way-from Z p w (record {
        variable = o.variable;
        steps = o.steps;
        counted = o.counted;
        labels = o.labels;
        first_word = o.first_word;
        second_word = o.second_word;
        leads = follow-same S Z o.steps o.variable o.labels (w.cell, w.prefix) f o.leads h;
        after = o.after;
      })
