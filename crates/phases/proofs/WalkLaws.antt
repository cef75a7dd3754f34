-- Walks over the ties, in their order or back, until no mark is new. Assumes nothing.
use Rattle.std.specs.Prelude.{Result, Ok, Err}
use mathlib.Core.Path.{◌≡◌, refl, sym, ◌∙◌}
use mathlib.Core.Bool.{Bool, true, false, not, cond, ◌&&◌, ◌||◌, beq}
use mathlib.Core.List.{List}
use Prim.Native.Nat.{ℕ, suc, ◌+◌, ◌-◌, ◌≤◌, ◌<◌}
use native.Mathlib.Omega.{arith}
use native.Mathlib.Decide.{dec_lt}
use lib.Dec.{eqb}
use lib.ListN.{length}
use Rattle.words.specs.Answer.{got, stop}
use Rattle.words.specs.Bits.{marked, with_mark}
use Rattle.tables.specs.Sizes.{locations}
use Rattle.tables.proofs.SearchLaws.{cases, and-true}
use Rattle.program.specs.declared.Refusal.{Refusal}
use Rattle.rules.specs.State.{Res}
use Rattle.rules.specs.Identities.{Tie}
use Rattle.rules.proofs.ClassLaws.{or_cases, false≢true}
use Rattle.phases.specs.declared.Ends.{Ends}
use Rattle.phases.specs.declared.Grown.{Grown}
use Rattle.phases.specs.declared.Passed.{Passed}
use Rattle.phases.specs.Sizes.{marks_words}
use Rattle.phases.specs.Tying.{tied_of, turn_of, joins, named_by, GrowsTie, Found, Even, joined, Grows, Walked, Passes, PassesOn}
use Rattle.phases.proofs.CountLaws.{many-least}
use Rattle.phases.proofs.MarkLaws.{joins-most, grows_none, grows_then, tie-one, tie-two, tie-more, tie-grows}

-- ---- tests

or-first : (a b : Bool) → a || b ≡ false → a ≡ false
or-first true b e = e
or-first false b e = refl

or-second : (a b : Bool) → a || b ≡ false → b ≡ false
or-second true b e = cc
or-second false b e = e

both-marked : (a b : Bool) → a ≡ b → not a && not b ≡ false → a && b ≡ true
both-marked true true e h = refl
both-marked true false e h = sym e
both-marked false true e h = e
both-marked false false e h = false≢true (sym h)

pub alike-tests : (a b : Bool) → beq a b ≡ true → a ≡ b
alike-tests true true e = refl
alike-tests true false e = sym e
alike-tests false true e = e
alike-tests false false e = refl

pub unlike-tests : (a b : Bool) → beq a b ≡ false → a ≡ b → ⊥
unlike-tests true true e q = cc
unlike-tests true false e q = cc
unlike-tests false true e q = cc
unlike-tests false false e q = cc

and_none {ℓ} : {X : Type ℓ} (a : Bool) → a && false ≡ true → X
and_none true w = false≢true w
and_none false w = false≢true w

-- ---- what is known of a tie that was followed

pub record Told (m : Res Tie) (x : Ends) : Type 0 where
  pub tie : Tie
  pub is : m ≡ got tie
  pub first : tie.one ≡ x.one
  pub second : tie.two ≡ x.two

pub tied-ends : (m : Res Tie) {x : Ends} → Ok x ≡ tied_of m → Told m x
tied-ends (got t) {x = x} e = let z : x ≡ record { one = t.one; two = t.two } = cc in record { tie = t; is = refl; first = rw z; second = rw z }
tied-ends (stop f) e = cc

pub tied-lost : (m : Res Tie) {f : Refusal} → Err f ≡ tied_of m → m ≡ stop f
tied-lost (got t) e = cc
tied-lost (stop g) e = cc

-- ---- a tie

pub tie-same : {one two : ℕ} {class : List ℕ} {a b : Bool} → a ≡ marked class one → b ≡ marked class two → a ≡ b → GrowsTie one two class class (record { new = false; apart = not a })
tie-same {a = a} {b = b} p q e = record {
  same = λ r. (refl, sym p ∙ e ∙ q);
  grows = λ r. false≢true r;
  apart = rw (← p, ← q, ← e) (twice a);
}
  where
    twice : (x : Bool) → not x ≡ (not x && not x)
    twice true = refl
    twice false = refl

pub tie-new : {one two : ℕ} {class between class' : List ℕ} {a b : Bool} → a ≡ marked class one → b ≡ marked class two → (a ≡ b → ⊥) → between ≡ with_mark class one → class' ≡ with_mark between two
    → GrowsTie one two class class' (record { new = true; apart = false })
tie-new {one = one} {two = two} {class = class} {a = a} {b = b} p q n e f = record {
  same = λ r. false≢true (sym r);
  grows = λ r. (f ∙ rw e, rw (← p, ← q) (unequal a b n));
  apart = rw (← p, ← q) (apart-not a b n);
}
  where
    unequal : (x y : Bool) → (x ≡ y → ⊥) → x ≡ not y
    unequal true true h = absurd (h refl)
    unequal true false h = refl
    unequal false true h = refl
    unequal false false h = absurd (h refl)

    apart-not : (x y : Bool) → (x ≡ y → ⊥) → false ≡ (not x && not y)
    apart-not true y h = refl
    apart-not false true h = refl
    apart-not false false h = absurd (h refl)

-- ---- which turn is whose

pub turn-back : (n i : ℕ) {a b : ℕ} {back : Bool} → back ≡ true → a ≡ n - i → b ≡ a - 1 → b ≡ turn_of n i back
turn-back n i e p q = rw (e, ← p) q

pub turn_on : (n i : ℕ) {back : Bool} → back ≡ false → i ≡ turn_of n i back
turn_on n i e = rw e

turn_in : (n i : ℕ) (back : Bool) → i < n → turn_of n i back < n
turn_in n i true h = omega arith
turn_in n i false h = h

turned : (n k : ℕ) (back : Bool) → k < n → (j : ℕ) × ((j < n) × (turn_of n j back ≡ k))
turned n k true h = (n - k - 1, (omega arith, omega arith))
turned n k false h = (k, (h, refl))

-- ---- the loop: i turns are taken

pub record Walking (T : ℕ → Res Tie) (n : ℕ) (back : Bool) (target : ℕ) (class₀ class : List ℕ) (names again apart : Bool) (i : ℕ) : Type 0 where
  pub inside : i ≤ n
  pub long : length class ≡ marks_words
  pub grows : Grows T n class₀ class
  pub found : (j : ℕ) → j < i → (t : Tie) × (T (turn_of n j back) ≡ got t)
  pub both : apart ≡ false → (j : ℕ) → j < i → joins class (T (turn_of n j back)) ≡ true
  pub even : again ≡ false → (j : ℕ) → j < i → (t : Tie) → T (turn_of n j back) ≡ got t → marked class t.one ≡ marked class t.two
  pub more : again ≡ true → joined T n class₀ < joined T n class
  pub named : names ≡ true → (k : ℕ) × ((k < n) × (named_by target (T k) ≡ true))
  pub unnamed : names ≡ false → (j : ℕ) → j < i → named_by target (T (turn_of n j back)) ≡ false

pub walking-starts : {T : ℕ → Res Tie} {n : ℕ} {back : Bool} {target : ℕ} {class : List ℕ} → length class ≡ marks_words → Walking T n back target class class false false false 0
walking-starts {class = class} long = record {
  inside = omega arith;
  long = long;
  grows = grows_none class;
  found = λ j h. let z : ⊥ = omega arith in absurd z;
  both = λ e j h. let z : ⊥ = omega arith in absurd z;
  even = λ e j h. let z : ⊥ = omega arith in absurd z;
  more = λ e. false≢true e;
  named = λ e. false≢true e;
  unnamed = λ e j h. let z : ⊥ = omega arith in absurd z;
}

-- what holds of i numbers and of the next
upto {ℓ} : (P : ℕ → Type ℓ) (i : ℕ) → ((j : ℕ) → j < i → P j) → P i → (j : ℕ) → j < i + 1 → P j
upto P i h p j l = go (dec_lt j i)
  where
    go : Dec (j < i) → P j
    go (yes y) = h j y
    go (no n) = let e : j ≡ i = omega arith in rw e p

module _ {T : ℕ → Res Tie} {n : ℕ} {back : Bool} {target : ℕ} {class₀ class : List ℕ} {names again apart : Bool} {i : ℕ}
    (inv : Walking T n back target class₀ class names again apart i) where
  module _ (turn : i < n) {r : Result Ends Refusal} (is : r ≡ tied_of (T (turn_of n i back))) where
    pub walking-lost : {class' : List ℕ} {f : Refusal} → r ≡ Err f → Passes T n back target class₀ class' (Err f)
    walking-lost {f = f} e = record {
      lost = λ g h. let u : f ≡ g = cc in rw (← u) (record {
        at = turn_of n i back;
        inside = turn_in n i back turn;
        is = tied-lost (T (turn_of n i back)) (sym e ∙ is);
        first = found-on;
      });
      over = λ x h. cc;
    }
      where
        found-on : back ≡ false → (j : ℕ) → j < turn_of n i back → (t : Tie) × (T j ≡ got t)
        found-on f j m = let z : j < i = rw f at m in rw f at (inv.found j z)

    module _ {x : Ends} (e : r ≡ Ok x) (low : (t : Tie) → T (turn_of n i back) ≡ got t → (t.one < locations) × (t.two < locations))
        {class' : List ℕ} {g : Grown} (y : GrowsTie x.one x.two class class' g) where
      abbrev told : Told (T (turn_of n i back)) x
      told = tied-ends (T (turn_of n i back)) (sym e ∙ is)

      abbrev t : Tie
      t = told.tie

      here : (u : Tie) → T (turn_of n i back) ≡ got u → u ≡ t
      here u q = let z : got u ≡ got t = sym q ∙ told.is in cc

      names-here : named_by target (T (turn_of n i back)) ≡ (eqb x.one target || eqb x.two target)
      names-here = rw (told.is, told.first, told.second)

      or-both : (a b c : Bool) → ((a || b) || c) ≡ (a || (b || c))
      or-both true b c = refl
      or-both false b c = refl

      next-named : ((names || eqb x.one target) || eqb x.two target) ≡ true → (k : ℕ) × ((k < n) × (named_by target (T k) ≡ true))
      next-named q = or_cases names (eqb x.one target || eqb x.two target) (sym (or-both names (eqb x.one target) (eqb x.two target)) ∙ q) inv.named (λ w. (turn_of n i back, (turn_in n i back turn, names-here ∙ w)))

      next-unnamed : ((names || eqb x.one target) || eqb x.two target) ≡ false → (j : ℕ) → j < i + 1 → named_by target (T (turn_of n j back)) ≡ false
      next-unnamed q =
          let w : names || (eqb x.one target || eqb x.two target) ≡ false = sym (or-both names (eqb x.one target) (eqb x.two target)) ∙ q in
          upto (λ j. named_by target (T (turn_of n j back)) ≡ false) i (inv.unnamed (or-first names (eqb x.one target || eqb x.two target) w)) (names-here ∙ or-second names (eqb x.one target || eqb x.two target) w)

      next-found : (j : ℕ) → j < i + 1 → (u : Tie) × (T (turn_of n j back) ≡ got u)
      next-found = upto (λ j. (u : Tie) × (T (turn_of n j back) ≡ got u)) i inv.found (t, told.is)

      -- no mark is new
      module _ (old : g.new ≡ false) where
        stays : class' ≡ class
        stays = (y.same old).0

        alike : marked class t.one ≡ marked class t.two
        alike = rw (told.first, told.second) (y.same old).1

        pub walking-stays : Walking T n back target class₀ class' ((names || eqb x.one target) || eqb x.two target) (again || (apart && g.new)) (apart || g.apart) (i + 1)
        walking-stays = rw (stays, old) (record {
          inside = omega arith;
          long = inv.long;
          grows = inv.grows;
          found = next-found;
          both = λ q. upto (λ j. joins class (T (turn_of n j back)) ≡ true) i (inv.both (or-first apart g.apart q))
              (rw told.is (both-marked (marked class t.one) (marked class t.two) alike (rw (told.first, told.second) (sym y.apart ∙ or-second apart g.apart q))));
          even = λ q. upto (λ j. (u : Tie) → T (turn_of n j back) ≡ got u → marked class u.one ≡ marked class u.two) i (inv.even (or-first again (apart && false) q)) (λ u w. rw (here u w) alike);
          more = λ q. or_cases again (apart && false) q inv.more (λ w. and_none apart w);
          named = next-named;
          unnamed = next-unnamed;
        })

      -- one mark is new
      module _ (new : g.new ≡ true) where
        odd : marked class t.one ≡ not (marked class t.two)
        odd = rw (told.first, told.second) (y.grows new).1

        grew : class' ≡ with_mark (with_mark class t.one) t.two
        grew = rw (told.first, told.second) (y.grows new).0

        ends : (t.one < locations) × (t.two < locations)
        ends = low t told.is

        abbrev both-now : List ℕ
        both-now = with_mark (with_mark class t.one) t.two

        one-now : marked both-now t.one ≡ true
        one-now = tie-one T n class inv.long (turn_in n i back turn) t told.is ends.0 ends.1 odd

        two-now : marked both-now t.two ≡ true
        two-now = tie-two T n class inv.long (turn_in n i back turn) t told.is ends.0 ends.1 odd

        step-grows : Grows T n class both-now
        step-grows = tie-grows T n class inv.long (turn_in n i back turn) t told.is ends.0 ends.1 odd

        step-more : joined T n class < joined T n both-now
        step-more = tie-more T n class inv.long (turn_in n i back turn) t told.is ends.0 ends.1 odd

        joins-on : (m : Res Tie) → joins class m ≡ true → joins both-now m ≡ true
        joins-on = joins-most class both-now step-grows.keeps

        joins-here : joins both-now (T (turn_of n i back)) ≡ true
        joins-here = rw told.is (and-true (marked both-now t.one) (marked both-now t.two) one-now two-now)

        joins-even : (m : Res Tie) (u : Tie) → m ≡ got u → joins both-now m ≡ true → marked both-now u.one ≡ marked both-now u.two
        joins-even m u w q = by (marked both-now u.one) (marked both-now u.two) (rw w at q)
          where
            by : (a b : Bool) → a && b ≡ true → a ≡ b
            by true true x = refl
            by true false x = sym x
            by false b x = false≢true x

        pub walking-grows : Walking T n back target class₀ class' ((names || eqb x.one target) || eqb x.two target) (again || (apart && g.new)) (apart || g.apart) (i + 1)
        walking-grows = rw (grew, new) (record {
          inside = omega arith;
          long = step-grows.long ∙ inv.long;
          grows = grows_then inv.grows step-grows;
          found = next-found;
          both = λ q. upto (λ j. joins both-now (T (turn_of n j back)) ≡ true) i (λ j m. joins-on (T (turn_of n j back)) (inv.both (or-first apart g.apart q) j m)) joins-here;
          even = λ q. upto (λ j. (u : Tie) → T (turn_of n j back) ≡ got u → marked both-now u.one ≡ marked both-now u.two) i
              (λ j m u w. joins-even (T (turn_of n j back)) u w (joins-on (T (turn_of n j back)) (inv.both (and_one apart (or-second again (apart && true) q)) j m)))
              (λ u w. joins-even (T (turn_of n i back)) u w joins-here);
          more = λ q. omega (arith, inv.grows.most, step-more);
          named = next-named;
          unnamed = next-unnamed;
        })
          where
            and_one : (a : Bool) → a && true ≡ false → a ≡ false
            and_one true w = w
            and_one false w = refl

      pub walking-goes-on : Walking T n back target class₀ class' ((names || eqb x.one target) || eqb x.two target) (again || (apart && g.new)) (apart || g.apart) (i + 1)
      walking-goes-on = cases g.new walking-grows walking-stays

  pub walking-ends : n ≤ i → Passes T n back target class₀ class (Ok (record { names = names; again = again }))
  walking-ends h = record {
    lost = λ f e. cc;
    over = λ x e. let u : x ≡ record { names = names; again = again } = cc in rw u walked;
  }
    where
      at : (X : ℕ → Type 0) → ((j : ℕ) → j < i → X (turn_of n j back)) → (k : ℕ) → k < n → X k
      at X f k m = let w = turned n k back m in rw w.1.1 at (f w.0 (omega (arith, w.1.0)))

      walked : Walked T n target class₀ class names again
      walked = record {
        found = at (λ k. (t : Tie) × (T k ≡ got t)) inv.found;
        grows = inv.grows;
        closed = λ e. at (λ k. (t : Tie) → T k ≡ got t → marked class t.one ≡ marked class t.two) (inv.even e);
        more = inv.more;
        named = inv.named;
        unnamed = λ e. at (λ k. named_by target (T k) ≡ false) (inv.unnamed e);
      }

-- each tie leads somewhere
pub never-lost {ℓ} : {X : Type ℓ} {T : ℕ → Res Tie} {n : ℕ} {back : Bool} {target : ℕ} {class class' : List ℕ} {r : Result Passed Refusal} {f : Refusal} → Passes T n back target class class' r → Found T n → r ≡ Err f → X
never-lost {f = f} p h e =
    let s = p.lost f e in
    let t = h s.at s.inside in
    let z : ◌≡◌ {A = Res Tie} (got t.0) (stop f) = sym t.1 ∙ s.is in cc

-- ---- walks in a row

pub record WalkingOn (T : ℕ → Res Tie) (n : ℕ) (again : Bool) (class₀ class : List ℕ) (due : Bool) : Type 0 where
  pub long : length class ≡ marks_words
  pub grows : Grows T n class₀ class
  pub closed : due ≡ false → (again ≡ false → Even T n (marked class₀)) → Even T n (marked class)

-- how many walks there can be
abbrev pub walks_left : (ℕ → Res Tie) → ℕ → Bool → List ℕ → ℕ
walks_left T n due class = cond due (suc n - joined T n class) 0

pub walking-on-starts : {T : ℕ → Res Tie} {n : ℕ} {again : Bool} {class : List ℕ} → length class ≡ marks_words → WalkingOn T n again class class again
walking-on-starts {class = class} long = record { long = long; grows = grows_none class; closed = λ e h. h e }

module _ {T : ℕ → Res Tie} {n : ℕ} {again : Bool} {class₀ class : List ℕ} {due : Bool} (inv : WalkingOn T n again class₀ class due) where
  module _ {back : Bool} {target : ℕ} {class' : List ℕ} {r : Result Passed Refusal} (p : Passes T n back target class class' r) where
    module _ {x : Passed} (e : r ≡ Ok x) where
      walked : Walked T n target class class' x.names x.again
      walked = p.over x e

      pub walking-on-goes-on : WalkingOn T n again class₀ class' x.again
      walking-on-goes-on = record { long = walked.grows.long ∙ inv.long; grows = grows_then inv.grows walked.grows; closed = λ q h. walked.closed q }

      pub walking-on-less : due ≡ true → walks_left T n x.again class' < walks_left T n due class
      walking-on-less d = rw d (cases x.again (λ q. rw q (omega (arith, walked.more q, many-least (λ k. joins class' (T k)) 0 n))) (λ q. rw q (omega (arith, many-least (λ k. joins class (T k)) 0 n))))

  pub walking-on-ends : due ≡ false → PassesOn T n again class₀ class
  walking-on-ends d = record { grows = inv.grows; closed = inv.closed d }
