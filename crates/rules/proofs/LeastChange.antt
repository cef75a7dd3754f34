-- The identity phase changes least. Assumes nothing.
use Rattle.std.specs.Prelude.{Some}
use mathlib.Core.Path.{◌≡◌, sym, ap, ◌∙◌}
use mathlib.Core.Bool.{Bool, true, false, not, ◌||◌}
use mathlib.Core.List.{List, ◌++◌}
use Prim.Native.Nat.{ℕ}
use native.Mathlib.Omega.{arith}
use lib.IntN.{ℤ}
use Rattle.words.specs.Answer.{got, ◌>>◌, want}
use Rattle.words.proofs.AnswerLaws.{got-inj, stop-inj, stop≢got}
use Rattle.tables.specs.declared.Value.{Value}
use Rattle.tables.specs.Values.{cell_of, Sound}
use Rattle.tables.specs.Cells.{Cells, cell_at}
use Rattle.fit.specs.Fit.{Fit}
use Rattle.tables.proofs.SearchLaws.{cases}
use Rattle.rules.specs.State.{Fault, Res, refused, refuse, slot_at}
use Rattle.rules.specs.Identities.{Tie, ties, is_node, member, frozen_by, class_of, names, clash_free, put_all, identity_phase}
use Rattle.rules.specs.Rules.Identities.{itself, by_tie, onwards, backwards, Frozen}
use Rattle.rules.specs.Steps.Phases.{Relevant, RelevantUpdate, Satisfies, Solves, Target, Ready}
use Rattle.rules.specs.Steps.LeastChange.{LeastChange, LeastChanges}
use Rattle.rules.proofs.ClassLaws.{tied-carries, tied_below, class-iff, class-not, false≢true}
use Rattle.rules.proofs.PutAllLaws.{put-all-other, put-all-same, put-all-slot, put-all-slot-other, put-all-records, put-all-counts, put-all-label, put-all-lengths}
use Rattle.rules.proofs.PhaseLaws.{phase-iff, frozen-iff, names-iff, clash-iff, is-has, node-iff}
use Rattle.rules.proofs.ReadyLaws.{target_below, ends-below, tie-inside, frozen-inside, ready-sized, ready-slot}

-- any table that satisfies the identities and has the value at the target has it at every cell of the class
pub forced : (ts : List Tie) (target : ℕ) (v : Value) (Y : Cells) → Satisfies Y ts → slot_at Y target ≡ Some v → (l : ℕ) → Relevant ts target l → slot_at Y l ≡ Some v
forced ts target v Y s h l r = (tied-carries (λ k. slot_at Y k ≡ Some v) ts (λ t m. (λ a. sym (s t m) ∙ a, λ b. s t m ∙ b)) r).0 h

module _ (program kept : List ℤ) (before now : Cells) (word : List ℤ) (target : ℕ) (prefix : List ℕ) (v : Value) (ts : List Tie)
    (fit : Fit before) (ready : Ready before now) (reached : Target before target prefix) (sound : Sound v) (followed : ties program kept before ≡ got ts) where
  abbrev phase : Res Cells
  phase = identity_phase program kept before now word target prefix v

  -- the phase, its ties being followed
  phase-is : phase ≡ (want (refused 13 word) (not (names ts target) || is_node v) >> (want (refused 12 word) (clash_free before (prefix ++ frozen_by ts) v (class_of ts target)) >> got (put_all now (class_of ts target) v)))
  unfolding identity_phase
  phase-is = rw followed

  -- the plain facts of an answer, with these ties
  record Facts (Z : Cells) : Type 0 where
    free : (l : ℕ) → Relevant ts target l → Frozen prefix ts l → slot_at before l ≡ Some v
    written : Z ≡ put_all now (class_of ts target) v

  facts : (Z : Cells) → phase ≡ got Z → Facts Z
  facts Z e =
      let h = (phase-iff program kept before now word target prefix v fit sound Z).0 e in
      let q : h.tied ≡ ts = got-inj (sym h.followed ∙ followed) in
      record { free = rw q at h.free; written = rw q at h.written }

  pub phase-written : (Z : Cells) → identity_phase program kept before now word target prefix v ≡ got Z → Z ≡ put_all now (class_of ts target) v
  phase-written Z e = (facts Z e).written

  -- where the phase answers: every cell, by whether it is in the class
  pub class-slot : (Z : Cells) → identity_phase program kept before now word target prefix v ≡ got Z → (l : ℕ) → Relevant ts target l → slot_at Z l ≡ Some v
  class-slot Z e l r = rw (facts Z e).written
      (put-all-slot v now (class_of ts target) l sound (ready-sized before fit ready) (tied_below ts (ends-below program kept before ts followed) r (target_below before reached)) ((class-iff ts target l).1 r))

  class-cell : (Z : Cells) → identity_phase program kept before now word target prefix v ≡ got Z → (l : ℕ) → Relevant ts target l → cell_at Z l ≡ cell_of v
  class-cell Z e l r = rw (facts Z e).written
      (put-all-same v now (class_of ts target) l (ready-sized before fit ready) (tied_below ts (ends-below program kept before ts followed) r (target_below before reached)) ((class-iff ts target l).1 r))

  pub other-slot : (Z : Cells) → identity_phase program kept before now word target prefix v ≡ got Z → (l : ℕ) → (Relevant ts target l → ⊥) → slot_at Z l ≡ slot_at now l
  other-slot Z e l n = rw (facts Z e).written (put-all-slot-other v now (class_of ts target) l (class-not ts target l n))

  -- a cell is in the class or not
  pub decided {ℓ} : {X : Type ℓ} (l : ℕ) → (Relevant ts target l → X) → ((Relevant ts target l → ⊥) → X) → X
  decided l f g = cases (member l (class_of ts target)) (λ e. f ((class-iff ts target l).0 e)) (λ e. g (λ r. false≢true (sym e ∙ (class-iff ts target l).1 r)))

  -- a frozen cell holds what it held
  pub phase-frozen : (Z : Cells) → identity_phase program kept before now word target prefix v ≡ got Z → (l : ℕ) → Frozen prefix ts l → slot_at Z l ≡ slot_at before l
  phase-frozen Z e l f = decided l
      (λ r. class-slot Z e l r ∙ sym ((facts Z e).free l r f))
      (λ n. other-slot Z e l n ∙ ready-slot before fit ready l (frozen-inside program kept before ts followed fit reached l f))

  updates : (Z : Cells) → phase ≡ got Z → RelevantUpdate prefix ts target v before now Z
  updates Z e =
      let w = (facts Z e).written in
      let c = class_of ts target in
      record {
        update = record {
          class = class-cell Z e;
          others = λ l n. rw w (put-all-other v now c l (class-not ts target l n));
          records = rw w (put-all-records v now c);
          counts = rw w (put-all-counts v now c);
          labels = rw w (put-all-label v now c);
          environment_length = rw w (put-all-lengths v now c).0;
          heap_length = rw w (put-all-lengths v now c).1;
        };
        frozen = phase-frozen Z e;
      }

  -- both ends of a tie are in the class, or none is
  satisfied : (Z : Cells) → phase ≡ got Z → Satisfies before ts → Satisfies Z ts
  satisfied Z e s t m = decided t.one
      (λ r. class-slot Z e t.one r ∙ sym (class-slot Z e t.two (onwards r (by_tie t m))))
      (λ n. other-slot Z e t.one n
      ∙ ready-slot before fit ready t.one (tie-inside program kept before ts followed fit t m).0.0
      ∙ s t m
      ∙ sym (ready-slot before fit ready t.two (tie-inside program kept before ts followed fit t m).0.1)
      ∙ sym (other-slot Z e t.two (λ r. n (onwards r (backwards (by_tie t m))))))

  -- a table that can be had shows that there is no clash
  no-clash : (Y : Cells) → Solves prefix ts target v before Y → clash_free before (prefix ++ frozen_by ts) v (class_of ts target) ≡ true
  no-clash Y h = (clash-iff before (prefix ++ frozen_by ts) v (class_of ts target)).1
      (λ l m f. (is-has before fit l v sound).1
      (sym (h.keeps l ((frozen-iff prefix ts l).0 f)) ∙ forced ts target v Y h.satisfies h.has l ((class-iff ts target l).0 m)))

  never-twelve : (b : Bool) (Z : Cells) → (want (refused 13 word) b >> got Z) ≡ refuse 12 word → ⊥
  never-twelve true Z e = stop≢got (sym e)
  never-twelve false Z e = let q : ◌≡◌ {A = ℕ} 13 12 = ap (λ (f : Fault). f.number) (stop-inj e) in omega arith

  least-change-here : LeastChange phase before now word target prefix v ts
  least-change-here = record {
    forced = λ Y h. forced ts target v Y h.satisfies h.has;
    impossible = λ c Y h. c.other (sym (h.keeps c.cell c.frozen) ∙ forced ts target v Y h.satisfies h.has c.cell c.in_class);
    refused = λ e Y h. never-twelve (not (names ts target) || is_node v) (put_all now (class_of ts target) v) (sym (phase-is ∙ rw (no-clash Y h)) ∙ e);
    answers = λ Y h n. (put_all now (class_of ts target) v, phase-is ∙ rw ((node-iff (names ts target) (is_node v)).1 (λ q. n ((names-iff ts target).0 q)), no-clash Y h));
    updates = updates;
    solves = λ Z e s. record { keeps = phase-frozen Z e; satisfies = satisfied Z e s; has = class-slot Z e target itself };
    least = λ Z Y e h l n. decided l
        (λ r. forced ts target v Y h.satisfies h.has l r ∙ sym (class-slot Z e l r))
        (λ m. absurd (n (other-slot Z e l m)));
  }

-- demand 3 (e)
pub least-change : LeastChanges
least-change = least-change-here
