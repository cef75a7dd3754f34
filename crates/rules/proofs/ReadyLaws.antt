-- What paths and kept identities of the state before a statement reach is the same in the tables that the identity phase writes.
-- Assumes nothing.
use Rattle.std.specs.Prelude.{Some}
use mathlib.Core.Path.{◌≡◌, refl, sym, ap, ◌∙◌}
use mathlib.Core.List.Memᴰ
use mathlib.Core.List.{List, [], ◌∷◌, ◌++◌, Memᴰ as OneOf}
use mathlib.Core.Logic.{inl, inr}
use Prim.Native.Nat.{ℕ, zero, suc, ◌+◌, ◌<◌}
use native.Mathlib.Omega.{arith}
use lib.IntN.{ℤ}
use lib.ListN.{drop}
use Rattle.words.specs.Words.{number_at}
use Rattle.words.specs.Answer.{got}
use Rattle.words.proofs.AnswerLaws.{step, got-inj}
use Rattle.tables.specs.declared.Value.{Value}
use Rattle.tables.specs.declared.Value.TheVariants.{Ref}
use Rattle.tables.specs.declared.Sort.TheVariants.{Identities}
use Rattle.tables.specs.Sizes.{field_location}
use Rattle.tables.specs.Values.{slot_of, cell_of}
use Rattle.tables.specs.Cells.{Cells, cell_at, Sized}
use Rattle.tables.specs.Records.{record_count, field_with, with_record}
use Rattle.fit.specs.Fit.{Fit, MayHold, in_variable, in_field}
use Rattle.tables.proofs.ValueLaws.{cell-used}
use Rattle.tables.proofs.RecordLaws.{add-length, add-fields-other, add-label-other, add-cell-other}
use Rattle.tables.proofs.FindLaws.{field_in}
use Rattle.tables.proofs.CellLaws.{location-high, same_place}
use Rattle.fit.proofs.FitLaws.{fit-used, fit-ref}
use Rattle.program.proofs.NumberLaws.{number_read}
use Rattle.rules.specs.State.{slot_at, positions}
use Rattle.rules.specs.Paths.{follow, Way, way_at}
use Rattle.rules.specs.Identities.{Tie, tie_at, ties_of, ties}
use Rattle.rules.specs.Rules.Identities.{Tied, Frozen, of_target, of_side}
use Rattle.rules.specs.Steps.Phases.{Target, by_variable, by_path, Ready, as_before, with-record}
use Rattle.rules.proofs.ClassLaws.{tied-carries, EndsBelow}
use Rattle.rules.proofs.WayLaws.{one-of-cons, found_at, found-same, follow-step, follow-none, way_of, way-below}

-- ---- cells that are there: none of the record after the last

abbrev pub Inside : Cells → ℕ → Type 0
Inside S l = (f : ℕ) → f < 8 → l ≡ field_location (record_count S.heap) f → ⊥

module _ (S : Cells) where
  pub inside-variable : (l : ℕ) → l < 64 → Inside S l
  inside-variable l h f b e = omega (arith, location-high (record_count S.heap) f)

  module _ (fit : Fit S) where
    inside-field : (r g : ℕ) → r < record_count S.heap → g < 8 → Inside S (field_location r g)
    inside-field r g h a f b e = omega (arith, (same_place r (record_count S.heap) g f a b e).0)

    -- labels lead from a cell that is there to one that is there, through cells that are there
    follow-inside : (n l : ℕ) (p : List ℤ) (x : ℕ × List ℕ) → Inside S l → follow S n l p ≡ got x → Inside S x.0 × ((k : ℕ) → OneOf k x.1 → Inside S k)
    follow-inside zero l p x h e =
        rw (follow-none S l p x e) (h, λ k m. absurd (Memᴰ.not-nil m))
    follow-inside (suc n) l p x h e = follow-step S n l p x e λ r next y e1 e2 e3 q.
        let w = found_at S.heap r (number_at p 0) next e2 in
        let b = field_in S.heap r w.at_place w.used in
        let a : Inside S next = rw w.is (inside-field r w.at_place (fit-used S fit r w.at_place w.used).0 b.1) in
        let z = follow-inside n next (drop 1 p) y a e3 in
        rw q (z.0, λ k m. one-of-cons k l y.1 m (λ i. rw i h) (z.1 k))

    -- an L names a cell that is there
    pub way-inside : (p : List ℤ) (w : Way) → way_at S p ≡ got w → Inside S w.cell × ((k : ℕ) → OneOf k w.prefix → Inside S k)
    way-inside p w e =
        let o = way_of S p w e in
        let b = (number_read 0 63 p o.first_word).most in
        follow-inside o.steps o.variable o.labels (w.cell, w.prefix) (inside-variable o.variable (omega arith)) o.leads

    pub target-inside : {target : ℕ} {prefix : List ℕ} → Target S target prefix → Inside S target × ((k : ℕ) → OneOf k prefix → Inside S k)
    target-inside {target} (by_variable h) = (inside-variable target h, λ k m. absurd (Memᴰ.not-nil m))
    target-inside (by_path p w e) = way-inside p w e

    -- an L names a variable or a used field, which may hold any value
    follow-holds : (v : Value) (n l : ℕ) (p : List ℤ) (x : ℕ × List ℕ) → MayHold S l (cell_of v) → follow S n l p ≡ got x → MayHold S x.0 (cell_of v)
    follow-holds v zero l p x h e = rw (follow-none S l p x e) h
    follow-holds v (suc n) l p x h e = follow-step S n l p x e λ r next y e1 e2 e3 q.
        let w = found_at S.heap r (number_at p 0) next e2 in
        let a : MayHold S next (cell_of v) = rw w.is (in_field (fit-used S fit r w.at_place w.used).1 (cell-used v)) in
        rw q (follow-holds v n next (drop 1 p) y a e3)

    pub way-holds : (v : Value) (p : List ℤ) (w : Way) → way_at S p ≡ got w → MayHold S w.cell (cell_of v)
    way-holds v p w e =
        let o = way_of S p w e in
        let b = (number_read 0 63 p o.first_word).most in
        follow-holds v o.steps o.variable o.labels (w.cell, w.prefix) (in_variable (omega arith)) o.leads

    pub target-holds : (v : Value) {target : ℕ} {prefix : List ℕ} → Target S target prefix → MayHold S target (cell_of v)
    target-holds v (by_variable h) = in_variable h
    target-holds v (by_path p w e) = way-holds v p w e

  pub target_below : {target : ℕ} {prefix : List ℕ} → Target S target prefix → target < 576
  target_below (by_variable h) = omega arith
  target_below (by_path p w e) = way-below S p w e

-- ---- kept identities

-- a tie is what the two sides of its identity lead to
pub record TieOf (S : Cells) (p : List ℤ) (t : Tie) : Type 0 where
  pub left : Way
  pub right : Way
  pub left-way : way_at S p ≡ got left
  pub right-way : way_at S left.rest ≡ got right
  pub is : t ≡ record { one = left.cell; two = right.cell; prefix = left.prefix ++ right.prefix }

pub tie-of : (S : Cells) (p : List ℤ) (t : Tie) → tie_at S p ≡ got t → TieOf S p t
unfolding tie_at
tie-of S p t e =
    step (way_at S p) _ e λ a e1 k1.
    step (way_at S a.rest) _ k1 λ b e2 k2.
    record { left = a; right = b; left-way = e1; right-way = e2; is = sym (got-inj k2) }

pub tie-from : (S : Cells) (p : List ℤ) (t : Tie) → TieOf S p t → tie_at S p ≡ got t
unfolding tie_at
tie-from S p t o = rw (o.left-way, o.right-way, o.is)

-- each tie is that of a kept position
pub record TieAt (program : List ℤ) (S : Cells) (ps : List ℕ) (t : Tie) : Type 0 where
  pub position : ℕ
  pub kept : OneOf position ps
  pub tie : TieOf S (drop (position + 1) program) t

pub ties-at : (program : List ℤ) (S : Cells) (ps : List ℕ) (ts : List Tie) → ties_of program S ps ≡ got ts → (t : Tie) → OneOf t ts → TieAt program S ps t
unfolding ties_of
ties-at program S [] ts e t m = absurd (Memᴰ.not-nil (rw (sym (got-inj e)) at m))
ties-at program S (position ∷ ps) ts e t m =
    step (tie_at S (drop (position + 1) program)) _ e λ u e1 k1.
    step (ties_of program S ps) _ k1 λ us e2 k2.
    one-of-cons t u us (rw (sym (got-inj k2)) at m)
    (λ q. record { position = position; kept = OneOf.head refl; tie = rw q (tie-of S (drop (position + 1) program) u e1) })
    (λ n. let w = ties-at program S ps us e2 t n in record { position = w.position; kept = OneOf.tail w.kept; tie = w.tie })

module _ (program kept : List ℤ) (S : Cells) (ts : List Tie) (e : ties program kept S ≡ got ts) where
  pub tie-at : (t : Tie) → OneOf t ts → TieAt program S (positions kept Identities) t
  unfolding ties
  tie-at t m = ties-at program S (positions kept Identities) ts e t m

  -- both ends of a tie are locations
  pub ends-below : EndsBelow ts
  ends-below = record {
    one = λ t m. let o = (tie-at t m).tie in rw o.is (way-below S (drop ((tie-at t m).position + 1) program) o.left o.left-way);
    two = λ t m. let o = (tie-at t m).tie in rw o.is (way-below S o.left.rest o.right o.right-way);
  }

  module _ (fit : Fit S) where
    -- both ends of a tie, and the prefix cells of both sides, are there
    pub tie-inside : (t : Tie) → OneOf t ts → (Inside S t.one × Inside S t.two) × ((k : ℕ) → OneOf k t.prefix → Inside S k)
    tie-inside t m =
        let o = (tie-at t m).tie in
        let a = way-inside S fit (drop ((tie-at t m).position + 1) program) o.left o.left-way in
        let b = way-inside S fit o.left.rest o.right o.right-way in
        rw o.is ((a.0, b.0), λ k n. elim (Memᴰ.append_cases o.left.prefix n) [ inl i ↦ a.1 k i | inr j ↦ b.1 k j ])

    -- so every cell tied to one that may hold a value may hold it
    pub tied-holds : (v : Value) {a b : ℕ} → Tied ts a b → MayHold S a (cell_of v) → MayHold S b (cell_of v)
    tied-holds v r = (tied-carries (λ l. MayHold S l (cell_of v)) ts (λ t m.
        let o = (tie-at t m).tie in (
          λ x. rw o.is (way-holds S fit v o.left.rest o.right o.right-way),
          λ x. rw o.is (way-holds S fit v (drop ((tie-at t m).position + 1) program) o.left o.left-way),
        )) r).0

    pub tied-inside : {a b : ℕ} → Tied ts a b → Inside S a → Inside S b
    tied-inside r = (tied-carries (λ l. Inside S l) ts (λ t m. (λ x. (tie-inside t m).0.1, λ x. (tie-inside t m).0.0)) r).0

    pub frozen-inside : {target : ℕ} {prefix : List ℕ} → Target S target prefix → (l : ℕ) → Frozen prefix ts l → Inside S l
    frozen-inside h l (of_target m) = (target-inside S fit h).1 l m
    frozen-inside h l (of_side t m n) = (tie-inside t m).1 l n

-- ---- the tables that the phase writes

module _ (before : Cells) (fit : Fit before) where
  pub ready-sized : {now : Cells} → Ready before now → Sized now
  ready-sized as_before = fit.sized
  ready-sized (with-record fs n room few) = record { environment = fit.sized.environment; heap = add-length before.heap fs n ∙ fit.sized.heap }

  -- what was there is as it was
  pub ready-cell : {now : Cells} → Ready before now → (l : ℕ) → Inside before l → cell_at now l ≡ cell_at before l
  ready-cell as_before l h = refl
  ready-cell (with-record fs n room few) l h =
      add-cell-other before.heap fs n fit.sized.heap room few before.environment l (λ f b q. h f (omega arith) q)

  pub ready-slot : {now : Cells} → Ready before now → (l : ℕ) → Inside before l → slot_at now l ≡ slot_at before l
  unfolding slot_at
  ready-slot y l h = ap slot_of (ready-cell y l h)

  -- a record that a cell refers to has the same fields
  pub ready-found : {now : Cells} → Ready before now → (k r label : ℕ) → slot_at before k ≡ Some (Ref r) → field_with now.heap r label ≡ field_with before.heap r label
  unfolding slot_at
  ready-found as_before k r label e = refl
  ready-found (with-record fs n room few) k r label e =
      let b : r < record_count before.heap = fit-ref before fit k r e in
      found-same before.heap (with_record before.heap fs n) r label
      (add-fields-other before.heap fs n fit.sized.heap room few r (λ q. omega arith))
      (λ f. add-label-other before.heap fs n fit.sized.heap room few r f (λ q. omega arith))
