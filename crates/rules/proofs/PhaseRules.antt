-- The identity phase is the relevant update of the rules: it answers with it where there is one, and is refused where the rules say so. Assumes nothing.
use Rattle.std.specs.Prelude.{Some}
use mathlib.Core.Path.{◌≡◌, refl, sym, ap, ◌∙◌}
use mathlib.Core.Logic.{◌↔◌, ◌⊎◌, inl, inr}
use mathlib.Core.Bool.{Bool, true, false, not, ◌||◌}
use mathlib.Core.List.{List, ◌++◌}
use Prim.Native.Nat.{ℕ}
use lib.IntN.{ℤ}
use Rattle.words.specs.Answer.{got, stop, ◌>>◌, want}
use Rattle.words.proofs.AnswerLaws.{stop-inj, stop≢got}
use Rattle.tables.specs.declared.Value.{Value}
use Rattle.tables.specs.Values.{slot_of, Sound}
use Rattle.tables.specs.Cells.{Cells}
use Rattle.tables.proofs.ValueLaws.{slot-of-cell}
use Rattle.fit.specs.Fit.{Fit}
use Rattle.rules.specs.State.{Fault, Res, refused, refuse, slot_at}
use Rattle.rules.specs.Identities.{Tie, ties, is_node, frozen_by, class_of, names, clash_free, put_all, identity_phase}
use Rattle.rules.specs.Rules.Identities.{Frozen, Phase, PhaseFails, no_node, clash}
use Rattle.rules.specs.Steps.Phases.{Relevant, Target, Ready}
use Rattle.rules.proofs.PhaseLaws.{phase-iff}
use Rattle.rules.proofs.PhaseAnswers.{phase-refuses}
use Rattle.rules.proofs.LeastChange.{least-change}
use Rattle.rules.proofs.OneUpdate.{one-update}
use Rattle.rules.proofs.TieLaws.{node-is, node-not, ties-iff}

-- two tests that stop, stop with one of their faults
stops : (word : List ℤ) (a b : Bool) (Z : Cells) (f : Fault)
    → (want (refused 13 word) a >> (want (refused 12 word) b >> got Z)) ≡ stop f → (f ≡ refused 13 word) ⊎ (f ≡ refused 12 word)
stops word true true Z f e = stop≢got (sym e)
stops word true false Z f e = inr (sym (stop-inj e))
stops word false b Z f e = inl (sym (stop-inj e))

module _ (program kept : List ℤ) (before now : Cells) (word : List ℤ) (target : ℕ) (prefix : List ℕ) (v : Value)
    (fit : Fit before) (fit-now : Fit now) (ready : Ready before now) (reached : Target before target prefix) (sound : Sound v) where
  abbrev phase : Res Cells
  phase = identity_phase program kept before now word target prefix v

  rule-sound : (Z : Cells) → phase ≡ got Z → Phase program kept before now target prefix v Z
  rule-sound Z e =
      let c = (phase-iff program kept before now word target prefix v fit sound Z).0 e in
      let u = (least-change program kept before now word target prefix v c.tied fit ready reached sound c.followed).updates Z e in
      record {
        ties = c.tied;
        followed = (ties-iff program kept before c.tied).0 c.followed;
        node = λ n. (node-is v).0 (c.node n);
        update = u.update;
        frozen = u.frozen;
      }

  -- a frozen cell of the class holds the value in an update, so it held it before
  free : {Z : Cells} (h : Phase program kept before now target prefix v Z) (l : ℕ) → Relevant h.ties target l → Frozen prefix h.ties l → slot_at before l ≡ Some v
  unfolding slot_at
  free h l r f = sym (h.frozen l f) ∙ ap slot_of (h.update.class l r) ∙ slot-of-cell v sound

  rule-complete : (Z : Cells) → Phase program kept before now target prefix v Z → phase ≡ got Z
  rule-complete Z h =
      let ts = h.ties in
      let Y = put_all now (class_of ts target) v in
      let followed = (ties-iff program kept before ts).1 h.followed in
      let answered : phase ≡ got Y = (phase-iff program kept before now word target prefix v fit sound Y).1
      (record { tied = ts; followed = followed; node = λ n. (node-is v).1 (h.node n); free = free h; written = refl }) in
      let updates = (least-change program kept before now word target prefix v ts fit ready reached sound followed).updates Y answered in
      answered ∙ ap got (one-update ts target v now Y Z fit-now updates.update h.update)

  pub phase-rule : (Z : Cells) → (identity_phase program kept before now word target prefix v ≡ got Z) ↔ Phase program kept before now target prefix v Z
  phase-rule Z = (rule-sound Z, rule-complete Z)

  module _ (ts : List Tie) (followed : ties program kept before ≡ got ts) where
    phase-stops : (f : Fault) → phase ≡ stop f → (f ≡ refused 13 word) ⊎ (f ≡ refused 12 word)
    unfolding identity_phase
    phase-stops f e =
        stops word (not (names ts target) || is_node v) (clash_free before (prefix ++ frozen_by ts) v (class_of ts target)) (put_all now (class_of ts target) v) f (rw followed at e)

    pub phase-fails-sound {ℓ} : {X : Type ℓ} (f : Fault) → phase ≡ stop f → ((n : ℕ) → refused n word ≡ f → PhaseFails program kept before target prefix v n → X) → X
    phase-fails-sound {X = X} f e k = go (phase-stops f e)
      where
        go : (f ≡ refused 13 word) ⊎ (f ≡ refused 12 word) → X
        go (inl i) =
            let w = (phase-refuses program kept before now word target prefix v ts fit sound followed).thirteen.0 (e ∙ ap stop i) in
            k 13 (sym i) (no_node ((ties-iff program kept before ts).0 followed) w.0 ((node-not v).0 w.1))
        go (inr i) =
            let w = (phase-refuses program kept before now word target prefix v ts fit sound followed).twelve.0 (e ∙ ap stop i) in
            k 12 (sym i) (clash ((ties-iff program kept before ts).0 followed) (λ m. (node-is v).0 (w.0 m)) w.1.in_class w.1.frozen w.1.other)

  pub phase-fails-complete : {n : ℕ} → PhaseFails program kept before target prefix v n → identity_phase program kept before now word target prefix v ≡ refuse n word
  phase-fails-complete (no_node {ts = us} t m h) =
      (phase-refuses program kept before now word target prefix v us fit sound ((ties-iff program kept before us).1 t)).thirteen.1 (m, (node-not v).1 h)
  phase-fails-complete (clash {ts = us} {l = l} t m c f o) =
      (phase-refuses program kept before now word target prefix v us fit sound ((ties-iff program kept before us).1 t)).twelve.1
      ((λ k. (node-is v).1 (m k)), record { cell = l; in_class = c; frozen = f; other = o })
