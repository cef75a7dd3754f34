-- Kept identities hold after the identity phase. Assumes nothing.
use Rattle.std.specs.Prelude.{None, Option, Some}
use mathlib.Core.Path.{◌≡◌, refl, sym, ap, ◌∙◌}
use mathlib.Core.Logic.{◌⊎◌, inl, inr}
use mathlib.Core.Bool.{Bool, true, false}
use mathlib.Core.List.Memᴰ
use mathlib.Core.List.{List, [], ◌∷◌, ◌++◌, Memᴰ as OneOf}
use Prim.Native.Nat.{ℕ, ◌+◌}
use lib.IntN.{ℤ}
use lib.ListN.{drop}
use Rattle.words.specs.Answer.{got, want}
use Rattle.words.proofs.AnswerLaws.{step, tested, either, got-inj, stop≢got}
use Rattle.tables.specs.declared.Value.{Value}
use Rattle.tables.specs.declared.Sort.TheVariants.{Identities}
use Rattle.tables.specs.Values.{Sound}
use Rattle.tables.specs.Cells.{Cells}
use Rattle.fit.specs.Fit.{Fit}
use Rattle.rules.specs.State.{refused, or_refuse, slot_at, present, positions}
use Rattle.rules.specs.Paths.{Way, way_at, value_at}
use Rattle.rules.specs.Evaluation.{same}
use Rattle.rules.specs.Identities.{is_node, same_now, Tie, ties_of, ties, identity_phase}
use Rattle.rules.specs.Rules.Identities.{Tied, itself, by_tie, backwards, onwards, IsNamed}
use Rattle.rules.specs.Steps.Phases.{Relevant, Computed, Target, Ready}
use Rattle.rules.specs.Start.{identities_hold}
use Rattle.rules.specs.Steps.PathsAfter.{PathsAfter}
use Rattle.rules.specs.Steps.IdentitiesAfter.{IdentitiesAfter}
use Rattle.rules.proofs.WayLaws.{one-of-cons, or-refuse-is}
use Rattle.rules.proofs.PhaseLaws.{same_self, same-is, slot-sound, phase-iff}
use Rattle.rules.proofs.ReadyLaws.{tie-from, tie-inside, ready-slot}
use Rattle.rules.proofs.LeastChange.{class-slot, other-slot, decided}
use Rattle.rules.proofs.PathsAfter.{tie-at-position, same-paths}

-- ---- an identity that holds: both sides lead to cells that hold one reference, or nil

pub record HoldsAt (S : Cells) (p : List ℤ) : Type 0 where
  pub left : Way
  pub right : Way
  pub value : Value
  pub left-way : way_at S p ≡ got left
  pub right-way : way_at S left.rest ≡ got right
  pub left-has : slot_at S left.cell ≡ Some value
  pub right-has : slot_at S right.cell ≡ Some value
  pub node : is_node value ≡ true

present-is : (s : Option Value) (v : Value) → present s ≡ got v → s ≡ Some v
present-is (Some w) v e = ap Some (got-inj e)
present-is None v e = stop≢got e

-- the value of an L is what the cell that it names holds
pub value_of {ℓ} : {X : Type ℓ} (S : Cells) (p : List ℤ) (x : Value × List ℤ) → value_at S p ≡ got x → ((w : Way) → way_at S p ≡ got w → slot_at S w.cell ≡ Some x.0 → x.1 ≡ w.rest → X) → X
unfolding value_at
value_of S p x e k =
    step (way_at S p) _ e λ w e1 k1.
    step (or_refuse 7 p (present (slot_at S w.cell))) _ k1 λ v e2 k2.
    k w e1
    (present-is (slot_at S w.cell) v (or-refuse-is 7 p (present (slot_at S w.cell)) v e2) ∙ ap Some (ap (λ (y : Value × List ℤ). y.0) (got-inj k2)))
    (sym (ap (λ (y : Value × List ℤ). y.1) (got-inj k2)))

pub value-from : (S : Cells) (p : List ℤ) (w : Way) (v : Value) → way_at S p ≡ got w → slot_at S w.cell ≡ Some v → value_at S p ≡ got (v, w.rest)
unfolding value_at
value-from S p w v e h = rw (e, h)

pub holds_of : (S : Cells) (word p : List ℤ) → Fit S → same_now S word p ≡ got tt → HoldsAt S p
unfolding same_now
holds_of S word p fit e =
    step (value_at S p) _ e λ x e1 k1.
    step (value_at S x.1) _ k1 λ y e2 k2.
    tested (refused 8 p) (is_node x.0) _ k2 λ c3 k3.
    tested (refused 8 x.1) (is_node y.0) _ k3 λ c4 k4.
    value_of S p x e1 λ a w1 h1 r1.
    value_of S x.1 y e2 λ b w2 h2 r2.
    let q : x.0 ≡ y.0 = same-is x.0 y.0 (slot-sound S fit a.cell x.0 h1) (slot-sound S fit b.cell y.0 h2) (wanted (same x.0 y.0) k4) in
    record { left = a; right = b; value = x.0; left-way = w1; right-way = rw r1 at w2; left-has = h1; right-has = rw q h2; node = c3 }
  where
    wanted : (b : Bool) → want (refused 11 word) b ≡ got tt → b ≡ true
    wanted true e = refl
    wanted false e = stop≢got e

pub holds-from : (S : Cells) (word p : List ℤ) → HoldsAt S p → same_now S word p ≡ got tt
unfolding same_now
holds-from S word p h =
    rw (
      value-from S p h.left h.value h.left-way h.left-has,
      value-from S h.left.rest h.right h.value h.right-way h.right-has,
      h.node,
      same_self h.value,
    )

-- ---- all kept identities

pub all_hold_lem : (program : List ℤ) (S : Cells) (ps : List ℕ) → Fit S → identities_hold program S ps ≡ got tt → (position : ℕ) → OneOf position ps → HoldsAt S (drop (position + 1) program)
unfolding identities_hold
all_hold_lem program S [] fit e position m = absurd (Memᴰ.not-nil m)
all_hold_lem program S (k ∷ ps) fit e position m = either (same_now S (drop k program) (drop (k + 1) program))
    (λ u q. one-of-cons position k ps m (λ i. rw i (holds_of S (drop k program) (drop (k + 1) program) fit q)) (λ n. all_hold_lem program S ps fit (rw (q, identities_hold) at e) position n))
    (λ f q. stop≢got (rw (q, identities_hold) at e))

pub hold-all : (program : List ℤ) (S : Cells) (ps : List ℕ) → ((position : ℕ) → OneOf position ps → HoldsAt S (drop (position + 1) program)) → identities_hold program S ps ≡ got tt
unfolding identities_hold
hold-all program S [] h = refl
hold-all program S (k ∷ ps) h =
    rw (holds-from S (drop k program) (drop (k + 1) program) (h k (OneOf.head refl)), identities_hold) (hold-all program S ps (λ position m. h position (OneOf.tail m)))

-- where all kept identities hold, each has its tie, and both ends of every tie hold the same
held-ties : (program : List ℤ) (S : Cells) (ps : List ℕ) → ((position : ℕ) → OneOf position ps → HoldsAt S (drop (position + 1) program)) → (ts : List Tie) × (ties_of program S ps ≡ got ts)
unfolding ties_of
held-ties program S [] h = ([], refl)
held-ties program S (k ∷ ps) h =
    let a = h k (OneOf.head refl) in
    let t : Tie = record { one = a.left.cell; two = a.right.cell; prefix = a.left.prefix ++ a.right.prefix } in
    let e = tie-from S (drop (k + 1) program) t (record { left = a.left; right = a.right; left-way = a.left-way; right-way = a.right-way; is = refl }) in
    let w = held-ties program S ps (λ position m. h position (OneOf.tail m)) in
    (t ∷ w.0, rw (e, w.1))

pub ties-there : (program kept : List ℤ) (S : Cells) → Fit S → identities_hold program S (positions kept Identities) ≡ got tt → (ts : List Tie) × (ties program kept S ≡ got ts)
unfolding ties
ties-there program kept S fit e = held-ties program S (positions kept Identities) (all_hold_lem program S (positions kept Identities) fit e)

-- ---- after the phase

-- a cell that is tied to another is named by an identity, and so is the other
tied-named : {ts : List Tie} {a b : ℕ} → Tied ts a b → (a ≡ b) ⊎ (IsNamed ts a × IsNamed ts b)
tied-named itself = inl refl
tied-named (by_tie t m) = inr ((t, (m, inl refl)), (t, (m, inr refl)))
tied-named (backwards r) = elim (tied-named r) [ inl e ↦ inl (sym e) | inr w ↦ inr (w.1, w.0) ]
tied-named (onwards r s) = chain (tied-named r) (tied-named s)
  where
    chain : {ts : List Tie} {a b c : ℕ} → (a ≡ b) ⊎ (IsNamed ts a × IsNamed ts b) → (b ≡ c) ⊎ (IsNamed ts b × IsNamed ts c) → (a ≡ c) ⊎ (IsNamed ts a × IsNamed ts c)
    chain (inl e) (inl f) = inl (e ∙ f)
    chain (inl e) (inr w) = inr (rw e w.0, w.1)
    chain (inr w) (inl f) = inr (w.0, rw f at w.1)
    chain (inr w) (inr x) = inr (w.0, x.1)

-- an end of a tie is in the class, so an identity names the target
end-named : {ts : List Tie} (target l : ℕ) → Relevant ts target l → IsNamed ts l → IsNamed ts target
end-named target l r n = elim (tied-named r) [ inl e ↦ rw e n | inr w ↦ w.0 ]

module _ (program kept : List ℤ) (before now : Cells) (word : List ℤ) (target : ℕ) (prefix : List ℕ) (v : Value) (Z : Cells)
    (fit : Fit before) (ready : Ready before now) (reached : Target before target prefix) (sound : Sound v)
    (answered : identity_phase program kept before now word target prefix v ≡ got Z) where
  abbrev facts : Computed program kept before now target prefix v Z
  facts = (phase-iff program kept before now word target prefix v fit sound Z).0 answered

  paths : PathsAfter program kept before prefix facts.tied Z
  paths = same-paths program kept before now word target prefix v facts.tied Z fit ready reached sound facts.followed answered

  -- the tie of an identity that holds is one of the ties
  held-tie : (position : ℕ) → OneOf position (positions kept Identities) → (h : HoldsAt before (drop (position + 1) program)) → OneOf (record { one = h.left.cell; two = h.right.cell; prefix = h.left.prefix ++ h.right.prefix }) facts.tied
  unfolding ties
  held-tie position m h =
      let a = tie-at-position program before (positions kept Identities) facts.tied facts.followed position m in
      let t : Tie = record { one = h.left.cell; two = h.right.cell; prefix = h.left.prefix ++ h.right.prefix } in
      let e = tie-from before (drop (position + 1) program) t (record { left = h.left; right = h.right; left-way = h.left-way; right-way = h.right-way; is = refl }) in
      let q : a.0 ≡ t = got-inj (sym a.1.1 ∙ e) in
      rw q at a.1.0

  in_class : (l : ℕ) → Relevant facts.tied target l → slot_at Z l ≡ Some v
  in_class = class-slot program kept before now word target prefix v facts.tied fit ready reached sound facts.followed Z answered

  out-of-class : (l : ℕ) → (Relevant facts.tied target l → ⊥) → slot_at Z l ≡ slot_at now l
  out-of-class = other-slot program kept before now word target prefix v facts.tied fit ready reached sound facts.followed Z answered

  still-holds : (position : ℕ) → OneOf position (positions kept Identities) → HoldsAt before (drop (position + 1) program) → HoldsAt Z (drop (position + 1) program)
  still-holds position m h =
      let ts = facts.tied in
      let n = held-tie position m h in
      let t : Tie = record { one = h.left.cell; two = h.right.cell; prefix = h.left.prefix ++ h.right.prefix } in
      let i = tie-inside program kept before ts facts.followed fit t n in
      let to-left = paths.left position m ∙ h.left-way in
      let to-right = paths.right position h.left m h.left-way ∙ h.right-way in
      decided program kept before now word target prefix v ts fit ready reached sound facts.followed h.left.cell
      (λ r. record {
        left = h.left;
        right = h.right;
        value = v;
        left-way = to-left;
        right-way = to-right;
        left-has = in_class h.left.cell r;
        right-has = in_class h.right.cell (onwards r (by_tie t n));
        node = facts.node (end-named target h.left.cell r (t, (n, inl refl)));
      })
      (λ k. record {
        left = h.left;
        right = h.right;
        value = h.value;
        left-way = to-left;
        right-way = to-right;
        left-has = out-of-class h.left.cell k ∙ ready-slot before fit ready h.left.cell i.0.0 ∙ h.left-has;
        right-has = out-of-class h.right.cell (λ r. k (onwards r (backwards (by_tie t n)))) ∙ ready-slot before fit ready h.right.cell i.0.1 ∙ h.right-has;
        node = h.node;
      })

  identities-here : identities_hold program before (positions kept Identities) ≡ got tt → identities_hold program Z (positions kept Identities) ≡ got tt
  identities-here e = hold-all program Z (positions kept Identities) (λ position m. still-holds position m (all_hold_lem program before (positions kept Identities) fit e position m))

-- kept identities that hold before the phase hold after it
pub identities-after : IdentitiesAfter
identities-after program kept before now word target prefix v Z fit ready reached sound e answered = identities-here program kept before now word target prefix v Z fit ready reached sound answered e
