-- After the identity phase the same L leads to the same cell. Assumes nothing.
use Rattle.std.specs.Prelude.{Some}
use mathlib.Core.Path.{◌≡◌, refl, sym, ◌∙◌}
use mathlib.Core.List.Memᴰ
use mathlib.Core.List.{List, [], ◌∷◌, Memᴰ as OneOf}
use Prim.Native.Nat.{ℕ, ◌+◌}
use lib.IntN.{ℤ}
use lib.ListN.{drop}
use Rattle.words.specs.Answer.{got}
use Rattle.words.proofs.AnswerLaws.{step, got-inj}
use Rattle.tables.specs.declared.Value.{Value}
use Rattle.tables.specs.declared.Value.TheVariants.{Ref}
use Rattle.tables.specs.declared.Sort.TheVariants.{Identities}
use Rattle.tables.specs.Values.{Sound}
use Rattle.tables.specs.Cells.{Cells}
use Rattle.tables.specs.Records.{field_with}
use Rattle.fit.specs.Fit.{Fit}
use Rattle.rules.specs.State.{slot_at, positions}
use Rattle.rules.specs.Paths.{Way, way_at}
use Rattle.rules.specs.Identities.{Tie, tie_at, ties_of, ties, class_of, identity_phase}
use Rattle.rules.specs.Rules.Identities.{Frozen, of_target, of_side}
use Rattle.rules.specs.Steps.Phases.{Target, Ready}
use Rattle.rules.specs.Steps.PathsAfter.{PathsAfter, SamePaths}
use Rattle.rules.proofs.PutAllLaws.{put-all-found}
use Rattle.rules.proofs.WayLaws.{one-of-cons, way_same}
use Rattle.rules.proofs.ReadyLaws.{TieOf, tie-of, tie-from, ready-found}
use Rattle.rules.proofs.LeastChange.{phase-frozen, phase-written}

-- each kept position has its tie
pub tie-at-position : (program : List ℤ) (S : Cells) (ps : List ℕ) (ts : List Tie) → ties_of program S ps ≡ got ts → (position : ℕ) → OneOf position ps → (t : Tie) × (OneOf t ts × (tie_at S (drop (position + 1) program) ≡ got t))
unfolding ties_of
tie-at-position program S [] ts e position m = absurd (Memᴰ.not-nil m)
tie-at-position program S (k ∷ ps) ts e position m =
    step (tie_at S (drop (k + 1) program)) _ e λ u e1 k1.
    step (ties_of program S ps) _ k1 λ us e2 k2.
    one-of-cons position k ps m
    (λ q. (u, (rw (sym (got-inj k2)) (OneOf.head refl), rw q e1)))
    (λ n. let w = tie-at-position program S ps us e2 position n in (w.0, (rw (sym (got-inj k2)) (OneOf.tail w.1.0), w.1.1)))

-- the ties are the same where each is
ties-same : (program : List ℤ) (S Z : Cells) (ps : List ℕ) (ts : List Tie) → ties_of program S ps ≡ got ts → ((p : List ℤ) (t : Tie) → OneOf t ts → tie_at S p ≡ got t → tie_at Z p ≡ got t) → ties_of program Z ps ≡ got ts
unfolding ties_of
ties-same program S Z [] ts e h = e
ties-same program S Z (k ∷ ps) ts e h =
    step (tie_at S (drop (k + 1) program)) _ e λ u e1 k1.
    step (ties_of program S ps) _ k1 λ us e2 k2.
    let q : u ∷ us ≡ ts = got-inj k2 in
    rw (
      h (drop (k + 1) program) u (rw (sym q) (OneOf.head refl)) e1,
      ties-same program S Z ps us e2 (λ p t m. h p t (rw (sym q) (OneOf.tail m))),
      q,
    )

module _ (program kept : List ℤ) (before now : Cells) (word : List ℤ) (target : ℕ) (prefix : List ℕ) (v : Value) (ts : List Tie) (Z : Cells)
    (fit : Fit before) (ready : Ready before now) (reached : Target before target prefix) (sound : Sound v) (followed : ties program kept before ≡ got ts)
    (answered : identity_phase program kept before now word target prefix v ≡ got Z) where
  -- the records that were referred to have the same fields
  found : (k r label : ℕ) → slot_at before k ≡ Some (Ref r) → field_with Z.heap r label ≡ field_with before.heap r label
  found k r label e =
      rw (phase-written program kept before now word target prefix v ts fit ready reached sound followed Z answered)
      (put-all-found v now (class_of ts target) r label ∙ ready-found before fit ready k r label e)

  frozen : (p : List ℤ) (w : Way) → way_at before p ≡ got w → ((l : ℕ) → OneOf l w.prefix → Frozen prefix ts l) → way_at Z p ≡ got w
  frozen p w e h = way_same before p w e Z found
      (λ l m. phase-frozen program kept before now word target prefix v ts fit ready reached sound followed Z answered l (h l m))

  tie-left : (p : List ℤ) (t : Tie) → OneOf t ts → (o : TieOf before p t) → way_at Z p ≡ got o.left
  tie-left p t m o = frozen p o.left o.left-way (λ l n. of_side t m (rw o.is (Memᴰ.append_left o.right.prefix n)))

  tie-right : (p : List ℤ) (t : Tie) → OneOf t ts → (o : TieOf before p t) → way_at Z o.left.rest ≡ got o.right
  tie-right p t m o = frozen o.left.rest o.right o.right-way (λ l n. of_side t m (rw o.is (Memᴰ.append_right o.left.prefix n)))

  tie-stays : (p : List ℤ) (t : Tie) → OneOf t ts → tie_at before p ≡ got t → tie_at Z p ≡ got t
  tie-stays p t m e =
      let o = tie-of before p t e in
      tie-from Z p t (record { left = o.left; right = o.right; left-way = tie-left p t m o; right-way = tie-right p t m o; is = o.is })

  at_position : (position : ℕ) → OneOf position (positions kept Identities) → (t : Tie) × (OneOf t ts × (tie_at before (drop (position + 1) program) ≡ got t))
  unfolding ties
  at_position position m = tie-at-position program before (positions kept Identities) ts followed position m

  same-identities : ties program kept Z ≡ got ts
  unfolding ties
  same-identities = ties-same program before Z (positions kept Identities) ts followed tie-stays

  paths-here : PathsAfter program kept before prefix ts Z
  paths-here = record {
    frozen = frozen;
    target = λ p w e q. frozen p w e (λ l m. of_target (rw q at m));
    left = λ position m.
        let a = at_position position m in
        let o = tie-of before (drop (position + 1) program) a.0 a.1.1 in
        tie-left (drop (position + 1) program) a.0 a.1.0 o ∙ sym o.left-way;
    right = λ position w m e.
        let a = at_position position m in
        let o = tie-of before (drop (position + 1) program) a.0 a.1.1 in
        let q : o.left ≡ w = got-inj (sym o.left-way ∙ e) in
        rw q at (tie-right (drop (position + 1) program) a.0 a.1.0 o ∙ sym o.right-way);
    identities = same-identities;
  }

-- after the phase the same L leads to the same cell
pub same-paths : SamePaths
same-paths = paths-here
