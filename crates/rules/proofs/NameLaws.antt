-- Paths: the definitions `follow`, `way_at` and `value_at` say the same as the rules `Leads`, `Names` and `Holds`. Assumes nothing.
use Rattle.std.specs.Prelude.{None, Option, Some}
use mathlib.Core.Path.{◌≡◌, refl, sym, ap, ◌∙◌}
use mathlib.Core.Logic.{◌≢◌, ◌↔◌}
use mathlib.Core.Bool.{Bool}
use mathlib.Core.List.{List, ◌∷◌}
use Prim.Native.Nat.{ℕ, zero, suc, ◌+◌, ◌-◌, ◌<◌, ◌≤◌}
use native.Mathlib.Omega.{arith}
use native.Mathlib.Decide.{ℕ_discrete}
use borrow.Author.Tests.{ne_eqb}
use lib.Dec.{eqb}
use lib.IntN.{ℤ, pos}
use lib.ListN.{drop}
use Rattle.words.specs.Words.{number_at}
use Rattle.words.specs.Answer.{got}
use Rattle.words.proofs.AnswerLaws.{got-inj, stop≢got, step}
use Rattle.tables.specs.declared.Value.{Value}
use Rattle.tables.specs.declared.Value.TheVariants.{Nil, Bool as Truth, Int, Ref}
use Rattle.tables.specs.Sizes.{variables, field_location}
use Rattle.tables.specs.Cells.{Cells}
use Rattle.tables.specs.Records.{field_count, label_at, field_with}
use Rattle.tables.proofs.SearchLaws.{Seeking, seeking-starts, seeking-goes-on}
use Rattle.tables.proofs.FindLaws.{find-hits, find-ends}
use Rattle.program.specs.Forms.{most_steps}
use Rattle.program.proofs.NumberLaws.{number-of}
use Rattle.rules.specs.State.{or_refuse, slot_at, present}
use Rattle.rules.specs.Paths.{a_record, a_field, follow, Way, way_at, value_at}
use Rattle.rules.specs.Rules.Expressions.{HasField, Leads, here, by, Names, names, Holds, holds}
use Rattle.rules.proofs.WordSteps.{or-got, present-got, by_number}

-- ---- the field with a label

module _ (heap : List ℤ) (r label : ℕ) where
  abbrev named : ℕ → Bool
  named f = eqb (label_at heap r f) label

  -- no place below f has the label, so that the search stands at f
  seeking-at : (f : ℕ) → f ≤ field_count heap r → ((g : ℕ) → g < f → label_at heap r g ≢ label) → Seeking named (field_count heap r) f
  seeking-at zero l h = seeking-starts
  seeking-at (suc f) l h =
      let e : f + 1 ≡ suc f = omega arith in
      rw e at (seeking-goes-on (seeking-at f (omega arith) (λ g m. h g (omega arith))) (omega arith) (ne_eqb (label_at heap r f) label (h f (omega arith))))

  pub field-complete : {l : ℕ} → HasField heap r label l → field_with heap r label ≡ Some l
  field-complete (HasField.field f used is first) = sym (find-hits heap r label f (seeking-at f (omega arith) first) used is)

  -- the search from f on, with `left` places to go
  search-sound : (left f : ℕ) {l : ℕ} → left + f ≡ field_count heap r → ((g : ℕ) → g < f → label_at heap r g ≢ label) → field_with heap r label ≡ Some l → HasField heap r label l
  search-sound zero f {l} s h e =
      let c : None ≡ Some l = find-ends heap r label f (seeking-at f (omega arith) h) (omega arith) ∙ e in
      absurd (let z : ◌≡◌ {A = ℕ} 0 1 = cc in omega arith)
  search-sound (suc left) f {l} s h e = go (ℕ_discrete (label_at heap r f) label) (λ k. search-sound left (suc f) (omega arith) k e)
    where
      go : Dec (label_at heap r f ≡ label) → (((g : ℕ) → g < suc f → label_at heap r g ≢ label) → HasField heap r label l) → HasField heap r label l
      go (yes y) ih =
          let c : Some (field_location r f) ≡ Some l = find-hits heap r label f (seeking-at f (omega arith) h) (omega arith) y ∙ e in
          let i : field_location r f ≡ l = cc in
          rw (← i) (HasField.field f (omega arith) y h)
      go (no n) ih = ih (λ g m q. last g m q (ℕ_discrete g f))
        where
          last : (g : ℕ) → g < suc f → label_at heap r g ≡ label → Dec (g ≡ f) → ⊥
          last g m q (yes i) = n (rw (← i) q)
          last g m q (no i) = h g (omega arith) q

  -- the field that is found is the first with the label
  pub field-iff : (l : ℕ) → (field_with heap r label ≡ Some l) ↔ HasField heap r label l
  field-iff l = (search-sound (field_count heap r) 0 (omega arith) (λ g m. absurd (omega arith)), field-complete)

-- ---- paths

a-record : {r : ℕ} (s : Option Value) → a_record s ≡ got r → s ≡ Some (Ref r)
a-record (Some (Ref r)) e = ap (λ (q : ℕ). Some (Ref q)) (got-inj e)
a-record (Some Nil) e = stop≢got e
a-record (Some (Truth b)) e = stop≢got e
a-record (Some (Int n)) e = stop≢got e
a-record None e = stop≢got e

a-field : {l : ℕ} (f : Option ℕ) → a_field f ≡ got l → f ≡ Some l
a-field (Some l) e = ap Some (got-inj e)
a-field None e = stop≢got e

module _ (S : Cells) where
  pub follow-sound : (n l : ℕ) (p : List ℤ) (x : ℕ × List ℕ) → follow S n l p ≡ got x → Leads S l n p x.0 x.1
  unfolding follow
  follow-sound zero l p x e = rw (← got-inj e) here
  follow-sound (suc n) l p x e =
      step (a_record (slot_at S l)) _ e λ r e1 k1.
      step (a_field (field_with S.heap r (number_at p 0))) _ k1 λ next e2 k2.
      step (follow S n next (drop 1 p)) _ k2 λ y e3 k3.
      rw (← got-inj k3)
      (by (a-record (slot_at S l) e1) ((field-iff S.heap r (number_at p 0) next).0 (a-field (field_with S.heap r (number_at p 0)) e2))
      (follow-sound n next (drop 1 p) y e3))

  pub leads-complete : {l n to : ℕ} {p : List ℤ} {prefix : List ℕ} → Leads S l n p to prefix → follow S n l p ≡ got (to, prefix)
  unfolding follow
  leads-complete here = refl
  leads-complete (by {r = r} {p = p} e h k) = rw (e, field-complete S.heap r (number_at p 0) h, leads-complete k)

  names-sound : (p : List ℤ) (w : Way) → way_at S p ≡ got w → Names S p w
  unfolding way_at
  names-sound p w e =
      by_number 0 (variables - 1) p _ (omega arith) e λ x q a b s k.
      by_number 0 most_steps q _ (omega arith) k λ n r c d t j.
      step (or_refuse 7 p (follow S n x r)) _ j λ y e1 k1.
      rw (s, t, ← got-inj k1) (names {x = x} (omega arith) d (follow-sound n x r y (or-got 7 p (follow S n x r) e1)))

  names-complete : {p : List ℤ} {w : Way} → Names S p w → way_at S p ≡ got w
  unfolding way_at
  names-complete (names {x = x} {n = n} {p = p} a b l) =
      rw (number-of 0 (variables - 1) x (pos n ∷ p) (omega arith) (omega arith), number-of 0 most_steps n p (omega arith) b, leads-complete l)

  -- an L names a cell by the definition exactly where it does by the rules
  pub names-iff : (p : List ℤ) (w : Way) → (way_at S p ≡ got w) ↔ Names S p w
  names-iff p w = (names-sound p w, names-complete)

  pub holds-sound : (p : List ℤ) (x : Value × List ℤ) → value_at S p ≡ got x → Holds S p x.0 x.1
  unfolding value_at
  holds-sound p x e =
      step (way_at S p) _ e λ w e1 k1.
      step (or_refuse 7 p (present (slot_at S w.cell))) _ k1 λ v e2 k2.
      rw (← got-inj k2) (holds (names-sound p w e1) (present-got (slot_at S w.cell) (or-got 7 p (present (slot_at S w.cell)) e2)))

  pub holds-complete : {p : List ℤ} {v : Value} {q : List ℤ} → Holds S p v q → value_at S p ≡ got (v, q)
  unfolding value_at
  holds-complete (holds n e) = rw (names-complete n, e)
