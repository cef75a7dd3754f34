-- The parts of a constraint: the definitions and the rules say the same. Assumes nothing.
use mathlib.Core.Path.{◌≡◌, refl}
use mathlib.Core.Logic.{◌↔◌}
use mathlib.Core.Bool.{true}
use mathlib.Core.List.{List, [], ◌∷◌}
use Prim.Native.Nat.{ℕ, zero, suc, ◌≤◌}
use native.Mathlib.Omega.{arith}
use lib.IntN.{ℤ, pos}
use Rattle.words.specs.Answer.{got}
use Rattle.words.proofs.AnswerLaws.{got-inj, step, tested}
use Rattle.tables.specs.declared.Value.TheVariants.{Bool as Truth}
use Rattle.tables.specs.declared.Kind.{Kind}
use Rattle.tables.specs.declared.Kind.TheVariants.{Nil as is_nil, Bool as is_bool, Int as is_int, Ref as is_ref}
use Rattle.tables.specs.Cells.{Cells}
use Rattle.tables.proofs.ClearLaws.{agree}
use Rattle.program.specs.Forms.{expression_depth, most_parts, required}
use Rattle.program.proofs.NumberLaws.{number-of}
use Rattle.rules.specs.State.{refused}
use Rattle.rules.specs.Evaluation.{a_bool, evaluate, kind}
use Rattle.rules.specs.Constraints.{Part, satisfies, part_at, parts_at, constraint_at}
use Rattle.rules.specs.Rules.Expressions.{Within}
use Rattle.rules.specs.Rules.Constraints.{PartIs, PartsAre, ConstraintIs}
use Rattle.rules.specs.Steps.Evaluation.{PartReads, PartsRead, ConstraintReads}
use Rattle.rules.proofs.WordSteps.{by_number}
use Rattle.rules.proofs.EvaluationLaws.{evaluate-iff}
use Rattle.rules.proofs.TypingLaws.{kind-iff}
use Rattle.rules.proofs.KindLaws.{satisfied-iff}

a-bool : (k : Kind) → a_bool k ≡ true → k ≡ is_bool
a-bool is_bool e = refl
a-bool is_nil e = cc
a-bool is_int e = cc
a-bool is_ref e = cc

-- ---- what the definitions answer, the rules derive

module _ (S : Cells) where
  -- a part is satisfied by the definition exactly where its value is true
  true-iff : (p q : List ℤ) → kind expression_depth S p ≡ got (is_bool, q) → (satisfies (evaluate expression_depth S p) ≡ true) ↔ Within S expression_depth p (Truth true) q
  true-iff p q e =
      let s = satisfied-iff expression_depth S p q e in
      let v = evaluate-iff expression_depth S p (Truth true) q in
      (λ c. v.0 (s.0 c), λ w. s.1 (v.1 w))

  part_sound : (p : List ℤ) (x : Part × List ℤ) → part_at S p ≡ got x → PartIs S p x.0 x.1
  unfolding part_at
  part_sound p x e =
      by_number 1 required p _ (omega arith) e λ n q a b s k.
      step (kind expression_depth S q) _ k λ y e1 k1.
      tested (refused 8 p) (a_bool y.0) _ k1 λ c k2.
      rw (s, ← got-inj k2) (whole n q a b y.1 (rw (a-bool y.0 c) at e1))
    where
      whole : (n : ℕ) (q : List ℤ) → 1 ≤ n → n ≤ required → (r : List ℤ) → kind expression_depth S q ≡ got (is_bool, r)
          → PartIs S (pos n ∷ q) (record { priority = n; satisfied = satisfies (evaluate expression_depth S q) }) r
      whole n q a b r e = PartIs.part a b ((kind-iff expression_depth S q is_bool r).0 e) (true-iff q r e)

  parts-sound : (m : ℕ) (p : List ℤ) (x : List Part × List ℤ) → parts_at m S p ≡ got x → PartsAre S m p x.0 x.1
  unfolding parts_at
  parts-sound zero p x e = rw (← got-inj e) PartsAre.none
  parts-sound (suc m) p x e =
      step (part_at S p) _ e λ y e1 k1.
      step (parts_at m S y.1) _ k1 λ z e2 k2.
      rw (← got-inj k2) (PartsAre.one (part_sound p y e1) (parts-sound m y.1 z e2))

  constraint-sound : (p : List ℤ) (xs : List Part) → constraint_at S p ≡ got xs → ConstraintIs S p xs
  unfolding constraint_at
  constraint-sound p xs e =
      by_number 1 most_parts p _ (omega arith) e λ m q a b s k.
      step (parts_at m S q) _ k λ y e1 k1.
      rw (s, ← got-inj k1) (ConstraintIs.constraint a b (parts-sound m q y e1))

  -- ---- what the rules derive, the definitions answer

  part-complete : {p q : List ℤ} {x : Part} → PartIs S p x q → part_at S p ≡ got (x, q)
  unfolding part_at
  part-complete (PartIs.part {priority = n} {b = c} {p = p} {q = q} a b t w) =
      let e : kind expression_depth S p ≡ got (is_bool, q) = (kind-iff expression_depth S p is_bool q).1 t in
      let s : satisfies (evaluate expression_depth S p) ≡ c = agree (satisfies (evaluate expression_depth S p)) c (λ y. w.1 ((true-iff p q e).0 y)) (λ y. (true-iff p q e).1 (w.0 y)) in
      rw (number-of 1 required n p a b, e, s)

  parts-complete : {m : ℕ} {p q : List ℤ} {xs : List Part} → PartsAre S m p xs q → parts_at m S p ≡ got (xs, q)
  unfolding parts_at
  parts-complete PartsAre.none = refl
  parts-complete (PartsAre.one x y) = rw (part-complete x, parts-complete y)

  constraint-complete : {p : List ℤ} {xs : List Part} → ConstraintIs S p xs → constraint_at S p ≡ got xs
  unfolding constraint_at
  constraint-complete (ConstraintIs.constraint {m = m} {p = p} a b x) = rw (number-of 1 most_parts m p a b, parts-complete x)

  -- the parts of a C, their priorities and which of them are satisfied, by the definition exactly as by the rules
  pub part-iff : (p : List ℤ) (x : Part) (q : List ℤ) → (part_at S p ≡ got (x, q)) ↔ PartIs S p x q
  part-iff p x q = (part_sound p (x, q), part-complete)

  pub constraint-iff : (p : List ℤ) (xs : List Part) → (constraint_at S p ≡ got xs) ↔ ConstraintIs S p xs
  constraint-iff p xs = (constraint-sound p xs, constraint-complete)

  -- ---- when a C reads

  part-reads : {p q : List ℤ} {x : Part} → PartIs S p x q → PartReads S p q
  part-reads (PartIs.part a b t w) = PartReads.part a b t

  parts-read : {m : ℕ} {p q : List ℤ} {xs : List Part} → PartsAre S m p xs q → PartsRead S m p q
  parts-read PartsAre.none = PartsRead.none
  parts-read (PartsAre.one x y) = PartsRead.one (part-reads x) (parts-read y)

  constraint-reads : {p : List ℤ} {xs : List Part} → ConstraintIs S p xs → ConstraintReads S p
  constraint-reads (ConstraintIs.constraint a b x) = ConstraintReads.constraint a b (parts-read x)

  reads-part : {p q : List ℤ} → PartReads S p q → (x : Part) × (part_at S p ≡ got (x, q))
  unfolding part_at
  reads-part (PartReads.part {priority = n} {p = p} {q = q} a b t) =
      let e : kind expression_depth S p ≡ got (is_bool, q) = (kind-iff expression_depth S p is_bool q).1 t in
      (record { priority = n; satisfied = satisfies (evaluate expression_depth S p) }, rw (number-of 1 required n p a b, e))

  reads-parts : {m : ℕ} {p q : List ℤ} → PartsRead S m p q → (xs : List Part) × (parts_at m S p ≡ got (xs, q))
  unfolding parts_at
  reads-parts PartsRead.none = ([], refl)
  reads-parts (PartsRead.one x y) = ((reads-part x).0 ∷ (reads-parts y).0, rw ((reads-part x).1, (reads-parts y).1))

  reads-constraint : {p : List ℤ} → ConstraintReads S p → (xs : List Part) × (constraint_at S p ≡ got xs)
  unfolding constraint_at
  reads-constraint (ConstraintReads.constraint {m = m} {p = p} a b x) = ((reads-parts x).0, rw (number-of 1 most_parts m p a b, (reads-parts x).1))

  -- "C must read, that is, its paths exist, its operators get their kinds and each part is boolean": by the definition exactly as by the rules
  pub constraint-reads-iff : (p : List ℤ) → ((xs : List Part) × (constraint_at S p ≡ got xs)) ↔ ConstraintReads S p
  constraint-reads-iff p = (λ x. constraint-reads (constraint-sound p x.0 x.1), reads-constraint)
