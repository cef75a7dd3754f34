-- The conditions on a proposal: each test of the definition says its rule. Assumes nothing.
use mathlib.Core.Path.{◌≡◌, refl, sym, ap, ◌∙◌}
use mathlib.Core.Logic.{◌↔◌}
use mathlib.Core.Bool.{Bool, true, false, not, cond, ◌&&◌, ◌||◌, true≢false}
use mathlib.Core.List.{List, [], ◌∷◌}
use Rattle.std.specs.Prelude.{Option, None, Some}
use Prim.Native.Nat.{ℕ}
use native.Mathlib.Omega.{arith}
use borrow.Author.Tests.{eqb-true, eqb-false, eq-eqb, ne_eqb, not-true}
use lib.Dec.{eqb}
use lib.IntN.{ℤ, pos}
use Rattle.words.specs.Words.{number_of, eq_z}
use Rattle.words.proofs.Laws.{eq_z-true, eq_z-refl}
use Rattle.tables.specs.declared.Cell.{Cell}
use Rattle.tables.specs.Values.{cell}
use Rattle.tables.specs.Cells.{Cells, cell_at}
use Rattle.tables.proofs.SearchLaws.{cases, and_left, and_right, and-true}
use Rattle.tables.proofs.WordLaws.{word_number}
use Rattle.program.specs.Forms.{required}
use Rattle.rules.specs.Constraints.{Part, all_hold, required_hold}
use Rattle.rules.specs.Proposals.{Entry, may_take, is_target, entry_fits, entries_fit, put_entry, applied, none?}
use Rattle.rules.specs.Rules.Proposals.{Each, none as no-each, more as and-each, Puts, no_entry, entry, Allowed, Met, Needed}
use Rattle.rules.specs.Effects.{OfKind, a_boolean, an-integer}

pub fails : (b : Bool) → (b ≡ true → ⊥) → b ≡ false
fails true f = absurd (f refl)
fails false f = refl

-- a list whose test goes element by element
each_of : {A : Type 0} {P : A → Type 0} (t : A → Bool) (all : List A → Bool) → all [] ≡ true → ((x : A) (xs : List A) → all (x ∷ xs) ≡ (t x && all xs))
    → ((x : A) → (t x ≡ true) ↔ P x) → (xs : List A) → (all xs ≡ true) ↔ Each P xs
each_of {P = P} t all z s h xs = (go xs, back)
  where
    go : (xs : List _) → all xs ≡ true → Each P xs
    go [] e = no-each
    go (x ∷ xs) e = let k = rw (s x xs) at e in and-each ((h x).0 (and_left (t x) (all xs) k)) (go xs (and_right (t x) (all xs) k))

    back : {xs : List _} → Each P xs → all xs ≡ true
    back no-each = z
    back (and-each {x} {xs} p ps) = rw (s x xs) (and-true (t x) (all xs) ((h x).1 p) (back ps))

-- "every part, of any priority"
all-iff : (ps : List Part) → (all_hold ps ≡ true) ↔ Each (λ x. x.satisfied ≡ true) ps
unfolding all_hold
all-iff ps = each_of (λ x. x.satisfied) all_hold refl (λ x xs. refl) (λ x. (λ e. e, λ e. e)) ps

-- "each required part must be true"
pub met-iff : (ps : List Part) → (required_hold ps ≡ true) ↔ Each Met ps
unfolding required_hold
met-iff ps = each_of (λ x. not (eqb x.priority required) || x.satisfied) required_hold refl (λ x xs. refl) (λ x. (to x, from x)) ps
  where
    to : (x : Part) → (not (eqb x.priority required) || x.satisfied) ≡ true → Met x
    to x e q = rw (eq-eqb x.priority required q) at e

    from : (x : Part) → Met x → (not (eqb x.priority required) || x.satisfied) ≡ true
    from x m = cases (eqb x.priority required) (λ e. rw e (m (eqb-true x.priority required e))) (λ e. rw e)

-- ---- what an entry may be

truth-kind : (k p w : ℤ) → k ≡ pos 2 → eq_z w (pos 0) || eq_z w (pos 1) ≡ true → OfKind (cell k p) w
truth-kind k p w e h = rw e (cases (eq_z w (pos 0))
    (λ a. rw (eq_z-true w (pos 0) a) (a_boolean false))
    (λ a. rw (eq_z-true w (pos 1) (rw a at h)) (a_boolean true)))

-- a payload that a cell may take is one of its kind, and a different one
takes-kind : (c : Cell) (w : ℤ) → may_take c w ≡ true → OfKind c w
unfolding may_take
takes-kind c w h = cases (eqb (number_of c.kind) 2)
    (λ e. truth-kind c.kind c.payload w (word_number c.kind 2 (eqb-true (number_of c.kind) 2 e) (omega arith))
    (and_left (eq_z w (pos 0) || eq_z w (pos 1)) (not (eq_z w c.payload)) (rw e at h)))
    (λ e. let k : eqb (number_of c.kind) 3 ≡ true = and_left (eqb (number_of c.kind) 3) (not (eq_z w c.payload)) (rw e at h) in
    let q : c.kind ≡ pos 3 = word_number c.kind 3 (eqb-true (number_of c.kind) 3 k) (omega arith) in
    integer-kind c.kind c.payload q)
  where
    integer-kind : (k p : ℤ) → k ≡ pos 3 → OfKind (cell k p) w
    integer-kind k p e = rw e an-integer

takes-other : (c : Cell) (w : ℤ) → may_take c w ≡ true → w ≡ c.payload → ⊥
unfolding may_take
takes-other c w h e =
    let f : eq_z w c.payload ≡ false = not-true (eq_z w c.payload) (and_right (cond (eqb (number_of c.kind) 2) (eq_z w (pos 0) || eq_z w (pos 1)) (eqb (number_of c.kind) 3))
    (not (eq_z w c.payload)) h) in
    let t : eq_z w c.payload ≡ true = rw e (eq_z-refl c.payload) in
    true≢false (sym t ∙ f)

kind-takes : (c : Cell) (w : ℤ) → OfKind c w → (w ≡ c.payload → ⊥) → may_take c w ≡ true
unfolding may_take
kind-takes c w k n = go k n
  where
    differs : (a b : ℤ) → (a ≡ b → ⊥) → not (eq_z a b) ≡ true
    differs a b n = cases (eq_z a b) (λ e. absurd (n (eq_z-true a b e))) (λ e. rw e)

    go : {c : Cell} {w : ℤ} → OfKind c w → (w ≡ c.payload → ⊥) → may_take c w ≡ true
    go (a_boolean {p} true) n = differs (pos 1) p n
    go (a_boolean {p} false) n = differs (pos 0) p n
    go (an-integer {p} {n = w}) n = differs w p n

-- 17
pub allowed-iff : (S : Cells) (t : Option ℕ) (es : List Entry) → (entries_fit S t es ≡ true) ↔ Each (Allowed S t) es
unfolding entries_fit entry_fits
allowed-iff S t es = each_of (entry_fits S t) (entries_fit S t) refl (λ x xs. refl) (λ e. (to e, from e)) es
  where
    to : (e : Entry) → entry_fits S t e ≡ true → Allowed S t e
    to e h =
        let take = and_left (may_take (cell_at S e.location) e.payload) (not (is_target t e.location)) h in
        let free = not-true (is_target t e.location) (and_right (may_take (cell_at S e.location) e.payload) (not (is_target t e.location)) h) in
        record {
          kind = takes-kind (cell_at S e.location) e.payload take;
          different = takes-other (cell_at S e.location) e.payload take;
          other = λ q. let f : eqb e.location e.location ≡ false = rw q at free in eqb-false e.location e.location f refl;
        }

    from : (e : Entry) → Allowed S t e → entry_fits S t e ≡ true
    from e a =
        and-true (may_take (cell_at S e.location) e.payload) (not (is_target t e.location))
        (kind-takes (cell_at S e.location) e.payload a.kind a.different) (free t a.other)
      where
        free : (t : Option ℕ) → (t ≡ Some e.location → ⊥) → not (is_target t e.location) ≡ true
        free None n = refl
        free (Some l) n = ap not (ne_eqb e.location l (λ q. n (ap Some (sym q))))

-- 18
pub needed-iff : (before : List Part) (es : List Entry) → (not (all_hold before) || none? es ≡ true) ↔ Needed before es
needed-iff before es = (to es, from es)
  where
    to : (es : List Entry) → not (all_hold before) || none? es ≡ true → Needed before es
    to [] e a = refl
    to (x ∷ es) e a = let f : false ≡ true = rw ((all-iff before).1 a) at e in absurd (true≢false (sym f))

    from : (es : List Entry) → Needed before es → not (all_hold before) || none? es ≡ true
    from es n = cases (all_hold before) (λ e. rw (e, n ((all-iff before).0 e))) (λ e. rw e)

-- the entries put
pub puts-iff : (S : Cells) (es : List Entry) (Z : Cells) → (applied S es ≡ Z) ↔ Puts S es Z
unfolding applied put_entry
puts-iff S es Z = (λ e. rw (← e) (put S es), is)
  where
    put : (S : Cells) (es : List Entry) → Puts S es (applied S es)
    put S [] = no_entry
    put S (e ∷ es) = entry (put (put_entry S e) es)

    is : {S Z : Cells} {es : List Entry} → Puts S es Z → applied S es ≡ Z
    is no_entry = refl
    is (entry p) = is p
