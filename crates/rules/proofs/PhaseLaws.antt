-- The identity phase by plain facts: what is frozen, what is named, when there is no clash, and what is left. Assumes nothing.
use Rattle.std.specs.Prelude.{None, Option, Some}
use mathlib.Core.Path.{◌≡◌, refl, sym, ap, ◌∙◌}
use mathlib.Core.Logic.{◌↔◌, inl, inr}
use mathlib.Core.Bool.{Bool, true, false, not, ◌||◌}
use mathlib.Core.List.{List, [], ◌∷◌, ◌++◌, Memᴰ as OneOf}
use Prim.Native.Nat.{ℕ, ◌≤◌, ◌<◌}
use native.Mathlib.Omega.{arith}
use borrow.Author.Tests.{eqb-true, eq-eqb}
use lib.Dec.{eqb}
use lib.IntN.{ℤ}
use Rattle.words.specs.Words.{eq_z}
use Rattle.words.specs.Answer.{got}
use Rattle.words.proofs.Laws.{eq_z-true, eq_z-refl}
use Rattle.words.proofs.AnswerLaws.{step, tested, got-inj}
use Rattle.tables.specs.declared.Cell.{Cell}
use Rattle.tables.specs.declared.Value.{Value}
use Rattle.tables.specs.declared.Value.TheVariants.{Nil, Bool as Truth, Int, Ref}
use Rattle.tables.specs.Values.{cell, cell_of, slot_of, Sound}
use Rattle.tables.specs.Cells.{Cells}
use Rattle.fit.specs.Fit.{Fit}
use Rattle.tables.proofs.SearchLaws.{cases, and_left, and_right, and-true}
use Rattle.tables.proofs.ValueLaws.{slot-of-cell}
use Rattle.fit.proofs.FitLaws.{fit-ref, fit_count}
use Rattle.rules.specs.State.{refused, slot_at}
use Rattle.rules.specs.Evaluation.{same}
use Rattle.rules.specs.Identities.{Tie, ties, is_node, member, frozen_by, class_of, names, is, clash_free, identity_phase}
use Rattle.rules.specs.Rules.Identities.{Frozen, of_target, of_side, IsNamed}
use Rattle.rules.specs.Steps.Phases.{Computed}
use Rattle.rules.proofs.ClassLaws.{or_left, or_right, or_cases, false≢true, member-head, member-tail, member-cons, member-none, member-in, in-member, class-iff}

-- ---- frozen cells

pub member-append : (l : ℕ) (a b : List ℕ) → (member l (a ++ b) ≡ true) ↔ (member l a || member l b ≡ true)
unfolding member
member-append l [] b = (λ e. e, λ e. e)
member-append l (x ∷ a) b = cases (eqb l x) (λ q. rw q (λ e. e, λ e. e)) (λ q. rw q (member-append l a b))

frozen-side : (l : ℕ) (ts : List Tie) → member l (frozen_by ts) ≡ true → (t : Tie) × (OneOf t ts × OneOf l t.prefix)
unfolding frozen_by
frozen-side l [] e = member-none l e
frozen-side l (t ∷ ts) e = or_cases (member l t.prefix) (member l (frozen_by ts)) ((member-append l t.prefix (frozen_by ts)).0 e)
    (λ a. (t, (OneOf.head refl, member-in l t.prefix a)))
    (λ b. let w = frozen-side l ts b in (w.0, (OneOf.tail w.1.0, w.1.1)))

side-frozen : (l : ℕ) (t : Tie) {ts : List Tie} → OneOf t ts → OneOf l t.prefix → member l (frozen_by ts) ≡ true
unfolding frozen_by
side-frozen l t (OneOf.head {x = u} {xs = ts} q) m =
    (member-append l u.prefix (frozen_by ts)).1 (or_left (member l u.prefix) (member l (frozen_by ts)) (rw q at (in-member l m)))
side-frozen l t (OneOf.tail {x = u} {xs = ts} n) m =
    (member-append l u.prefix (frozen_by ts)).1 (or_right (member l u.prefix) (member l (frozen_by ts)) (side-frozen l t n m))

pub frozen-iff : (prefix : List ℕ) (ts : List Tie) (l : ℕ) → (member l (prefix ++ frozen_by ts) ≡ true) ↔ Frozen prefix ts l
frozen-iff prefix ts l = (
  λ e. or_cases (member l prefix) (member l (frozen_by ts)) ((member-append l prefix (frozen_by ts)).0 e)
      (λ a. of_target (member-in l prefix a))
      (λ b. let w = frozen-side l ts b in of_side w.0 w.1.0 w.1.1),
  back_to,
)
  where
    back_to : Frozen prefix ts l → member l (prefix ++ frozen_by ts) ≡ true
    back_to (of_target m) = (member-append l prefix (frozen_by ts)).1 (or_left (member l prefix) (member l (frozen_by ts)) (in-member l m))
    back_to (of_side t n m) = (member-append l prefix (frozen_by ts)).1 (or_right (member l prefix) (member l (frozen_by ts)) (side-frozen l t n m))

-- ---- what an identity names

names-sound : (ts : List Tie) (l : ℕ) → names ts l ≡ true → IsNamed ts l
unfolding names
names-sound [] l e = false≢true e
names-sound (t ∷ ts) l e = or_cases (eqb t.one l || eqb t.two l) (names ts l) e
    (λ a. or_cases (eqb t.one l) (eqb t.two l) a (λ b. (t, (OneOf.head refl, inl (eqb-true t.one l b)))) (λ b. (t, (OneOf.head refl, inr (eqb-true t.two l b)))))
    (λ a. let n = names-sound ts l a in (n.0, (OneOf.tail n.1.0, n.1.1)))

names-here : (l : ℕ) (t : Tie) {ts : List Tie} → OneOf t ts → eqb t.one l || eqb t.two l ≡ true → names ts l ≡ true
unfolding names
names-here l t (OneOf.head {x = u} {xs = ts} q) e = or_left (eqb u.one l || eqb u.two l) (names ts l) (rw q at e)
names-here l t (OneOf.tail {x = u} {xs = ts} m) e = or_right (eqb u.one l || eqb u.two l) (names ts l) (names-here l t m e)

pub names-iff : (ts : List Tie) (l : ℕ) → (names ts l ≡ true) ↔ IsNamed ts l
names-iff ts l = (names-sound ts l, back_to)
  where
    back_to : IsNamed ts l → names ts l ≡ true
    back_to (t, (m, inl q)) = names-here l t m (or_left (eqb t.one l) (eqb t.two l) (eq-eqb t.one l q))
    back_to (t, (m, inr q)) = names-here l t m (or_right (eqb t.one l) (eqb t.two l) (eq-eqb t.two l q))

-- ---- no clash

pub clash-iff : (S : Cells) (frozen : List ℕ) (v : Value) (ls : List ℕ) → (clash_free S frozen v ls ≡ true) ↔ ((l : ℕ) → member l ls ≡ true → member l frozen ≡ true → is (slot_at S l) v ≡ true)
unfolding clash_free
clash-iff S frozen v [] = (λ e l m. member-none l m, λ f. refl)
clash-iff S frozen v (k ∷ ls) = (
  λ e l m n. member-cons l k ls m
      (λ q. holds k (and_left (not (member k frozen) || is (slot_at S k) v) (clash_free S frozen v ls) e) l q n)
      (λ a. (clash-iff S frozen v ls).0 (and_right (not (member k frozen) || is (slot_at S k) v) (clash_free S frozen v ls) e) l a n),
  λ f. and-true (not (member k frozen) || is (slot_at S k) v) (clash_free S frozen v ls)
      (cases (member k frozen) (λ q. rw q (f k (member-head k k ls refl) q)) (λ q. rw q refl))
      ((clash-iff S frozen v ls).1 (λ l m n. f l (member-tail l k ls m) n)),
)
  where
    holds : (k : ℕ) → not (member k frozen) || is (slot_at S k) v ≡ true → (l : ℕ) → l ≡ k → member l frozen ≡ true → is (slot_at S l) v ≡ true
    holds k e l q n = rw q (let a : member k frozen ≡ true = rw q at n in rw a at e)

-- ---- values that are the same

cell_same : (c d : Cell) → c.kind ≡ d.kind → c.payload ≡ d.payload → c ≡ d
cell_same c d k p = ap (λ x. cell x c.payload) k ∙ ap (λ x. cell d.kind x) p

pub same_self : (v : Value) → same v v ≡ true
unfolding same
same_self v = rw (eq_z-refl (cell_of v).kind, eq_z-refl (cell_of v).payload)

pub same-is : (v w : Value) → Sound v → Sound w → same v w ≡ true → v ≡ w
unfolding same
same-is v w a b e =
    let k : (cell_of v).kind ≡ (cell_of w).kind = eq_z-true (cell_of v).kind (cell_of w).kind (and_left (eq_z (cell_of v).kind (cell_of w).kind) (eq_z (cell_of v).payload (cell_of w).payload) e) in
    let p : (cell_of v).payload ≡ (cell_of w).payload = eq_z-true (cell_of v).payload (cell_of w).payload (and_right (eq_z (cell_of v).kind (cell_of w).kind) (eq_z (cell_of v).payload (cell_of w).payload) e) in
    let q = cell_same (cell_of v) (cell_of w) k p in
    let x : Some v ≡ Some w = sym (slot-of-cell v a) ∙ ap slot_of q ∙ slot-of-cell w b in
    cc

-- a value that is no reference, or one to a record that is there, is one that a cell can hold
pub small-sound : (v : Value) (n : ℕ) → n ≤ 64 → ((r : ℕ) → v ≡ Ref r → r < n) → Sound v
small-sound Nil n b h = tt
small-sound (Truth t) n b h = tt
small-sound (Int z) n b h = tt
small-sound (Ref r) n b h = omega (arith, h r refl)

-- what a fit table holds, a cell can hold
pub slot-sound : (S : Cells) → Fit S → (l : ℕ) (v : Value) → slot_at S l ≡ Some v → Sound v
unfolding slot_at
slot-sound S fit l Nil e = tt
slot-sound S fit l (Truth b) e = tt
slot-sound S fit l (Int n) e = tt
slot-sound S fit l (Ref r) e = omega (arith, fit-ref S fit l r e, fit_count S fit)

is-slot : (s : Option Value) (v : Value) → ((w : Value) → s ≡ Some w → Sound w) → Sound v → (is s v ≡ true) ↔ (s ≡ Some v)
is-slot (Some w) v h d = (λ e. ap Some (same-is w v (h w refl) d e), λ e. let q : w ≡ v = cc in rw q (same_self v))
is-slot None v h d = (λ e. false≢true e, λ e. cc)

pub is-has : (S : Cells) → Fit S → (l : ℕ) (v : Value) → Sound v → (is (slot_at S l) v ≡ true) ↔ (slot_at S l ≡ Some v)
is-has S fit l v d = is-slot (slot_at S l) v (slot-sound S fit l) d

-- ---- the phase

pub node-iff : (a b : Bool) → (not a || b ≡ true) ↔ (a ≡ true → b ≡ true)
node-iff true b = (λ e q. e, λ f. f refl)
node-iff false b = (λ e q. false≢true q, λ f. refl)

module _ (program kept : List ℤ) (before now : Cells) (word : List ℤ) (target : ℕ) (prefix : List ℕ) (v : Value) where
  module _ (fit : Fit before) (sound : Sound v) where
    -- the phase answers exactly where it may, and then with the class's update
    pub phase-iff : (Z : Cells) → (identity_phase program kept before now word target prefix v ≡ got Z) ↔ Computed program kept before now target prefix v Z
    unfolding identity_phase
    phase-iff Z = (
      λ e.
          step (ties program kept before) _ e λ ts e1 k1.
          tested (refused 13 word) (not (names ts target) || is_node v) _ k1 λ c2 k2.
          tested (refused 12 word) (clash_free before (prefix ++ frozen_by ts) v (class_of ts target)) _ k2 λ c3 k3.
          record {
            tied = ts;
            followed = e1;
            node = λ n. (node-iff (names ts target) (is_node v)).0 c2 ((names-iff ts target).1 n);
            free = λ l r f. (is-has before fit l v sound).0 ((clash-iff before (prefix ++ frozen_by ts) v (class_of ts target)).0 c3 l ((class-iff ts target l).1 r) ((frozen-iff prefix ts l).1 f));
            written = sym (got-inj k3);
          },
      λ h.
          let ts = h.tied in
          rw (
            h.followed,
            (node-iff (names ts target) (is_node v)).1 (λ e. h.node ((names-iff ts target).0 e)),
            (clash-iff before (prefix ++ frozen_by ts) v (class_of ts target)).1 (λ l m f. (is-has before fit l v sound).1 (h.free l ((class-iff ts target l).0 m) ((frozen-iff prefix ts l).0 f))),
            h.written,
          ),
    )
