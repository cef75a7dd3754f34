-- When the identity phase answers, and when it refuses the statement. Assumes nothing.
use mathlib.Core.Path.{◌≡◌, refl, sym, ap, ◌∙◌}
use mathlib.Core.Logic.{◌↔◌}
use mathlib.Core.Bool.{Bool, true, false, not, ◌||◌}
use mathlib.Core.List.{List, [], ◌∷◌, ◌++◌}
use Prim.Native.Nat.{ℕ}
use native.Mathlib.Omega.{arith}
use lib.IntN.{ℤ}
use Rattle.words.specs.Answer.{got, ◌>>◌, want}
use Rattle.words.proofs.AnswerLaws.{stop-inj, stop≢got}
use Rattle.tables.specs.declared.Value.{Value}
use Rattle.tables.specs.Values.{Sound}
use Rattle.tables.specs.Cells.{Cells}
use Rattle.fit.specs.Fit.{Fit}
use Rattle.tables.proofs.SearchLaws.{cases}
use Rattle.rules.specs.State.{Fault, Res, refused, refuse, slot_at}
use Rattle.rules.specs.Identities.{Tie, ties, is_node, member, frozen_by, class_of, names, is, clash_free, put_all, identity_phase}
use Rattle.rules.specs.Rules.Identities.{IsNamed}
use Rattle.rules.specs.Steps.PhaseAnswers.{PhaseAnswers, Refuses, PhaseRefuses}
use Rattle.rules.specs.Steps.Phases.{Clash}
use Rattle.rules.proofs.ClassLaws.{false≢true, member-head, member-tail, class-iff}
use Rattle.rules.proofs.PhaseLaws.{phase-iff, frozen-iff, names-iff, clash-iff, is-has, node-iff}

-- the phase answers exactly where neither 13 nor 12 refuses the statement
pub phase-answers : PhaseAnswers
phase-answers program kept before now word target prefix v fit sound Z = phase-iff program kept before now word target prefix v fit sound Z

-- ---- refusals

-- two tests, one after the other
tests : Bool → Bool → List ℤ → Cells → Res Cells
tests a b word Z = want (refused 13 word) a >> (want (refused 12 word) b >> got Z)

module _ (word : List ℤ) (Z : Cells) where
  apart {ℓ} : {X : Type ℓ} (m n : ℕ) → (m ≡ n → ⊥) → ◌≡◌ {A = Res Cells} (refuse m word) (refuse n word) → X
  apart m n d e = absurd (d (ap (λ (f : Fault). f.number) (stop-inj e)))

  first-fails : (a b : Bool) → (tests a b word Z ≡ refuse 13 word) ↔ (a ≡ false)
  unfolding tests
  first-fails true true = (λ e. stop≢got (sym e), λ e. false≢true (sym e))
  first-fails true false = (λ e. apart 12 13 (λ q. omega arith) e, λ e. false≢true (sym e))
  first-fails false b = (λ e. refl, λ e. refl)

  second-fails : (a b : Bool) → (tests a b word Z ≡ refuse 12 word) ↔ ((a ≡ true) × (b ≡ false))
  unfolding tests
  second-fails true true = (λ e. stop≢got (sym e), λ e. false≢true (sym e.1))
  second-fails true false = (λ e. (refl, refl), λ e. refl)
  second-fails false b = (λ e. apart 13 12 (λ q. omega arith) e, λ e. false≢true e.0)

-- a clash that was found: the cell, which is in the class, is frozen and holds something else
record ClashAt (S : Cells) (frozen : List ℕ) (v : Value) (ls : List ℕ) : Type 0 where
  cell : ℕ
  in_class : member cell ls ≡ true
  is-frozen : member cell frozen ≡ true
  other : is (slot_at S cell) v ≡ false

neither : (a b : Bool) → not a || b ≡ false → (a ≡ true) × (b ≡ false)
neither true b e = (refl, e)
neither false b e = false≢true (sym e)

clash-found : (S : Cells) (frozen : List ℕ) (v : Value) (ls : List ℕ) → clash_free S frozen v ls ≡ false → ClashAt S frozen v ls
unfolding clash_free
clash-found S frozen v [] e = false≢true (sym e)
clash-found S frozen v (l ∷ ls) e = cases (not (member l frozen) || is (slot_at S l) v)
    (λ q. let w = clash-found S frozen v ls (rw q at e) in record { cell = w.cell; in_class = member-tail w.cell l ls w.in_class; is-frozen = w.is-frozen; other = w.other })
    (λ q. let k = neither (member l frozen) (is (slot_at S l) v) q in record { cell = l; in_class = member-head l l ls refl; is-frozen = k.0; other = k.1 })

module _ (program kept : List ℤ) (before now : Cells) (word : List ℤ) (target : ℕ) (prefix : List ℕ) (v : Value) (ts : List Tie)
    (fit : Fit before) (sound : Sound v) (followed : ties program kept before ≡ got ts) where
  abbrev node : Bool
  node = not (names ts target) || is_node v

  abbrev free : Bool
  free = clash_free before (prefix ++ frozen_by ts) v (class_of ts target)

  phase-tests : identity_phase program kept before now word target prefix v ≡ tests node free word (put_all now (class_of ts target) v)
  unfolding identity_phase tests
  phase-tests = rw followed

  node-false : (node ≡ false) ↔ (IsNamed ts target × (is_node v ≡ false))
  node-false = (
    λ e. let k = neither (names ts target) (is_node v) e in ((names-iff ts target).0 k.0, k.1),
    λ w. rw ((names-iff ts target).1 w.0, w.1),
  )

  node-true : (node ≡ true) ↔ (IsNamed ts target → is_node v ≡ true)
  node-true = (
    λ e n. (node-iff (names ts target) (is_node v)).0 e ((names-iff ts target).1 n),
    λ f. (node-iff (names ts target) (is_node v)).1 (λ q. f ((names-iff ts target).0 q)),
  )

  free-false : (free ≡ false) ↔ Clash prefix ts target v before
  free-false = (
    λ e.
        let w = clash-found before (prefix ++ frozen_by ts) v (class_of ts target) e in
        record {
          cell = w.cell;
          in_class = (class-iff ts target w.cell).0 w.in_class;
          frozen = (frozen-iff prefix ts w.cell).0 w.is-frozen;
          other = λ h. false≢true (sym w.other ∙ (is-has before fit w.cell v sound).1 h);
        },
    λ c. cases free
        (λ e. absurd (c.other ((is-has before fit c.cell v sound).0
        ((clash-iff before (prefix ++ frozen_by ts) v (class_of ts target)).0 e c.cell ((class-iff ts target c.cell).1 c.in_class) ((frozen-iff prefix ts c.cell).1 c.frozen)))))
        (λ e. e),
  )

  refuses-here : Refuses (identity_phase program kept before now word target prefix v) before word target prefix v ts
  refuses-here =
      let Z = put_all now (class_of ts target) v in
      rw phase-tests (record {
        thirteen = (λ e. node-false.0 ((first-fails word Z node free).0 e), λ w. (first-fails word Z node free).1 (node-false.1 w));
        twelve = (
          λ e. let k = (second-fails word Z node free).0 e in (node-true.0 k.0, free-false.0 k.1),
          λ w. (second-fails word Z node free).1 (node-true.1 w.0, free-false.1 w.1),
        );
      })

-- 13 where an identity names the target and the value is neither a reference nor nil; else 12 where there is a clash
pub phase-refuses : PhaseRefuses
phase-refuses = refuses-here
