-- The target's class is what is tied to the target. Assumes nothing.
use mathlib.Core.Path.{◌≡◌, refl, sym, ap, ◌∙◌}
use mathlib.Core.Logic.{◌↔◌}
use mathlib.Core.Bool.{Bool, true, false, cond, ◌&&◌, ◌||◌}
use mathlib.Core.List.{List, [], ◌∷◌, Memᴰ as OneOf}
use Prim.Native.Nat.{ℕ, ◌+◌, ◌≤◌, ◌<◌}
use native.Mathlib.Omega.{arith}
use native.Mathlib.Decide.{dec_lt}
use borrow.Author.Tests.{eqb-true, eq-eqb}
use lib.Dec.{eqb}
use lib.ListN.{length}
use Rattle.tables.proofs.SearchLaws.{cases, and_left, and_right, and-true}
use Rattle.rules.specs.Identities.{Tie, member, grown, grown_by, class_of}
use Rattle.rules.specs.Rules.Identities.{Tied, itself, by_tie, backwards, onwards}

-- ---- tests

pub or_left : (a b : Bool) → a ≡ true → a || b ≡ true
or_left true b e = refl
or_left false b e = cc

pub or_right : (a b : Bool) → b ≡ true → a || b ≡ true
or_right true b e = refl
or_right false b e = e

pub or_cases {ℓ} : {X : Type ℓ} (a b : Bool) → a || b ≡ true → (a ≡ true → X) → (b ≡ true → X) → X
or_cases true b e f g = f refl
or_cases false b e f g = g e

pub false≢true {ℓ} : {X : Type ℓ} → false ≡ true → X
false≢true e = absurd (let z : ◌≡◌ {A = ℕ} 0 1 = cc in omega arith)

-- ---- members

pub member-head : (x y : ℕ) (ys : List ℕ) → x ≡ y → member x (y ∷ ys) ≡ true
unfolding member
member-head x y ys e = or_left (eqb x y) (member x ys) (eq-eqb x y e)

pub member-tail : (x y : ℕ) (ys : List ℕ) → member x ys ≡ true → member x (y ∷ ys) ≡ true
unfolding member
member-tail x y ys e = or_right (eqb x y) (member x ys) e

pub member-cons {ℓ} : {X : Type ℓ} (x y : ℕ) (ys : List ℕ) → member x (y ∷ ys) ≡ true → (x ≡ y → X) → (member x ys ≡ true → X) → X
unfolding member
member-cons x y ys e f g = or_cases (eqb x y) (member x ys) e (λ h. f (eqb-true x y h)) g

pub member-none {ℓ} : {X : Type ℓ} (x : ℕ) → member x [] ≡ true → X
unfolding member
member-none x e = false≢true e

pub member-in : (x : ℕ) (ys : List ℕ) → member x ys ≡ true → OneOf x ys
member-in x [] e = member-none x e
member-in x (y ∷ ys) e = member-cons x y ys e (λ h. OneOf.head h) (λ h. OneOf.tail (member-in x ys h))

pub in-member : (x : ℕ) {ys : List ℕ} → OneOf x ys → member x ys ≡ true
in-member x (OneOf.head {x = y} {xs = ys} e) = member-head x y ys e
in-member x (OneOf.tail {x = y} {xs = ys} m) = member-tail x y ys (in-member x m)

-- ---- growing: what holds of the cells, and of both ends of a tie or of none, holds of all that is reached

abbrev pub Carries : (ℕ → Type 0) → List Tie → Type 0
Carries P ts = (t : Tie) → OneOf t ts → (P t.one → P t.two) × (P t.two → P t.one)

abbrev pub All : (ℕ → Type 0) → List ℕ → Type 0
All P c = (l : ℕ) → member l c ≡ true → P l

module _ (P : ℕ → Type 0) where
  pub all_more : (l : ℕ) (c : List ℕ) → P l → All P c → All P (l ∷ c)
  all_more l c p h k e = member-cons k l c e (λ q. rw q p) (h k)

  pub grown-all : (ts : List Tie) → Carries P ts → (c : List ℕ) → All P c → All P (grown ts c)
  unfolding grown
  grown-all [] k c h = h
  grown-all (t ∷ ts) k c h = cases (member t.one c || member t.two c)
      (λ e. rw e (grown-all ts more (t.one ∷ t.two ∷ c) (or_cases (member t.one c) (member t.two c) e
      (λ a. ends (h t.one a) ((k t (OneOf.head refl)).0 (h t.one a)))
      (λ b. ends ((k t (OneOf.head refl)).1 (h t.two b)) (h t.two b)))))
      (λ e. rw e (grown-all ts more c h))
    where
      more : Carries P ts
      more u m = k u (OneOf.tail m)

      ends : P t.one → P t.two → All P (t.one ∷ t.two ∷ c)
      ends a b = all_more t.one (t.two ∷ c) a (all_more t.two c b h)

  pub grown-by-all : (more ts : List Tie) → Carries P ts → (c : List ℕ) → All P c → All P (grown_by more ts c)
  unfolding grown_by
  grown-by-all [] ts k c h = h
  grown-by-all (t ∷ more) ts k c h = grown-by-all more ts k (grown ts c) (grown-all ts k c h)

  -- what holds of the target and is carried over by ties holds of the whole class
  pub class-all : (ts : List Tie) (target : ℕ) → Carries P ts → P target → All P (class_of ts target)
  unfolding class_of
  class-all ts target k p = grown-by-all ts ts k (target ∷ []) (all_more target [] p (λ l e. member-none l e))

-- ---- growing keeps what is there, and reaches both ends of a tie that has an end there

pub grown-keeps : (ts : List Tie) (c : List ℕ) (l : ℕ) → member l c ≡ true → member l (grown ts c) ≡ true
unfolding grown
grown-keeps [] c l e = e
grown-keeps (t ∷ ts) c l e = cases (member t.one c || member t.two c)
    (λ q. rw q (grown-keeps ts (t.one ∷ t.two ∷ c) l (member-tail l t.one (t.two ∷ c) (member-tail l t.two c e))))
    (λ q. rw q (grown-keeps ts c l e))

pub grown-by-keeps : (more ts : List Tie) (c : List ℕ) (l : ℕ) → member l c ≡ true → member l (grown_by more ts c) ≡ true
unfolding grown_by
grown-by-keeps [] ts c l e = e
grown-by-keeps (t ∷ more) ts c l e = grown-by-keeps more ts (grown ts c) l (grown-keeps ts c l e)

-- a tie with an end among the cells, and one with both
abbrev touches : List ℕ → Tie → Bool
touches c t = member t.one c || member t.two c

abbrev holds : List ℕ → Tie → Bool
holds c t = member t.one c && member t.two c

touches-more : (c d : List ℕ) → ((l : ℕ) → member l c ≡ true → member l d ≡ true) → (t : Tie) → touches c t ≡ true → touches d t ≡ true
touches-more c d h t e = or_cases (member t.one c) (member t.two c) e
    (λ a. or_left (member t.one d) (member t.two d) (h t.one a))
    (λ b. or_right (member t.one d) (member t.two d) (h t.two b))

grown-reaches : (t : Tie) {ts : List Tie} (c : List ℕ) → OneOf t ts → touches c t ≡ true → holds (grown ts c) t ≡ true
unfolding grown
grown-reaches t c (OneOf.head {x = u} {xs = ts} q) e =
    let d = u.one ∷ u.two ∷ c in
    rw (sym (ap (touches c) q) ∙ e) (and-true (member t.one (grown ts d)) (member t.two (grown ts d))
    (grown-keeps ts d t.one (member-head t.one u.one (u.two ∷ c) (ap (λ x. x.one) q)))
    (grown-keeps ts d t.two (member-tail t.two u.one (u.two ∷ c) (member-head t.two u.two c (ap (λ x. x.two) q)))))
grown-reaches t c (OneOf.tail {x = u} {xs = ts} m) e = cases (member u.one c || member u.two c)
    (λ q. rw q (grown-reaches t (u.one ∷ u.two ∷ c) m (touches-more c (u.one ∷ u.two ∷ c)
    (λ l h. member-tail l u.one (u.two ∷ c) (member-tail l u.two c h)) t e)))
    (λ q. rw q (grown-reaches t c m e))

-- ---- counting ties

counted : (Tie → Bool) → List Tie → ℕ
counted f [] = 0
counted f (t ∷ ts) = cond (f t) 1 0 + counted f ts

counted-all : (ts : List Tie) → counted (λ t. true) ts ≡ length ts
unfolding counted
counted-all [] = refl
counted-all (t ∷ ts) = omega (arith, counted-all ts)

module _ (f g : Tie → Bool) where
  abbrev Follows : List Tie → Type 0
  Follows ts = (t : Tie) → OneOf t ts → f t ≡ true → g t ≡ true

  counted-most : (ts : List Tie) → Follows ts → counted f ts ≤ counted g ts
  unfolding counted
  counted-most [] h = omega arith
  counted-most (t ∷ ts) h = cases (f t)
      (λ e. rw (e, h t (OneOf.head refl) e) (omega (arith, counted-most ts (λ u m. h u (OneOf.tail m)))))
      (λ e. rw e (omega (arith, counted-most ts (λ u m. h u (OneOf.tail m)))))

  -- no more of the second sort, so there are none but those of the first
  counted-equal : (t : Tie) {ts : List Tie} → Follows ts → counted g ts ≤ counted f ts → OneOf t ts → g t ≡ true → f t ≡ true
  unfolding counted
  counted-equal t h l (OneOf.head {x = u} {xs = ts} q) e = cases (f u)
      (λ a. rw q a)
      (λ a. let z : 1 + counted g ts ≤ 0 + counted f ts = rw (a, sym (ap g q) ∙ e) at l in
      let y : ⊥ = omega (arith, counted-most ts (λ w m. h w (OneOf.tail m))) in absurd y)
  counted-equal t h l (OneOf.tail {x = u} {xs = ts} m) e =
      counted-equal t (λ w n. h w (OneOf.tail n)) (smaller (λ a. h u (OneOf.head refl) a)) m e
    where
      smaller : (f u ≡ true → g u ≡ true) → counted g ts ≤ counted f ts
      smaller k = cases (f u)
          (λ a. let z : 1 + counted g ts ≤ 1 + counted f ts = rw (a, k a) at l in omega arith)
          (λ a. let z : cond (g u) 1 0 + counted g ts ≤ 0 + counted f ts = rw a at l in omega arith)

-- ---- growing as often as there are ties reaches everything

-- the cells have both ends of each tie that has an end among them
abbrev Closed : List Tie → List ℕ → Type 0
Closed ts c = (t : Tie) → OneOf t ts → touches c t ≡ true → holds c t ≡ true

module _ (ts : List Tie) where
  closed-carries : (c : List ℕ) → Closed ts c → Carries (λ l. member l c ≡ true) ts
  closed-carries c h t m = (
    λ a. and_right (member t.one c) (member t.two c) (h t m (or_left (member t.one c) (member t.two c) a)),
    λ b. and_left (member t.one c) (member t.two c) (h t m (or_right (member t.one c) (member t.two c) b)),
  )

  -- closed cells stay as they are
  closed-grown : (more : List Tie) (c : List ℕ) → Closed ts c → Closed ts (grown_by more ts c)
  closed-grown more c h t m e =
      let d = grown_by more ts c in
      let k = closed-carries c h in
      let same : (l : ℕ) → member l d ≡ true → member l c ≡ true = grown-by-all (λ l. member l c ≡ true) more ts k c (λ l q. q) in
      let w = h t m (touches-more d c same t e) in
      and-true (member t.one d) (member t.two d)
      (grown-by-keeps more ts c t.one (and_left (member t.one c) (member t.two c) w))
      (grown-by-keeps more ts c t.two (and_right (member t.one c) (member t.two c) w))

  holds-touches : (c : List ℕ) (t : Tie) → holds c t ≡ true → touches c t ≡ true
  holds-touches c t e = or_left (member t.one c) (member t.two c) (and_left (member t.one c) (member t.two c) e)

  -- each round that does not find the cells closed finds a tie more with both ends among them
  closed_after : (more : List Tie) (c : List ℕ) → length ts ≤ length more + counted (holds c) ts → Closed ts (grown_by more ts c)
  unfolding grown_by
  closed_after [] c l = λ t m e.
      counted-equal (holds c) (λ u. true) t (λ u n q. refl) (rw (counted-all ts) (omega arith)) m refl
  closed_after (u ∷ more) c l = go (dec_lt (counted (holds c) ts) (counted (touches c) ts)) (λ d h. closed_after more d h)
    where
      go : Dec (counted (holds c) ts < counted (touches c) ts) → ((d : List ℕ) → length ts ≤ length more + counted (holds d) ts → Closed ts (grown_by more ts d)) → Closed ts (grown_by more ts (grown ts c))
      go (yes y) r = r (grown ts c) (omega (arith, counted-most (touches c) (holds (grown ts c)) ts (λ t m e. grown-reaches t c m e)))
      go (no n) r = closed-grown (u ∷ more) c (λ t m e. counted-equal (holds c) (touches c) t (λ v i q. holds-touches c v q) (omega arith) m e)

  class-closed : (target : ℕ) → Carries (λ l. member l (class_of ts target) ≡ true) ts
  unfolding class_of
  class-closed target = closed-carries (class_of ts target) (closed_after ts (target ∷ []) (omega arith))

-- what ties carry over holds of two tied cells alike
pub tied-carries : (P : ℕ → Type 0) (ts : List Tie) → Carries P ts → {a b : ℕ} → Tied ts a b → (P a → P b) × (P b → P a)
tied-carries P ts k itself = (λ p. p, λ p. p)
tied-carries P ts k (by_tie t m) = k t m
tied-carries P ts k (backwards r) = let w = tied-carries P ts k r in (w.1, w.0)
tied-carries P ts k (onwards r s) = let w = tied-carries P ts k r in let x = tied-carries P ts k s in (λ p. x.0 (w.0 p), λ p. w.1 (x.1 p))

-- the class is "the target and every cell tied to it through kept identities"
pub class-target : (ts : List Tie) (target : ℕ) → member target (class_of ts target) ≡ true
unfolding class_of
class-target ts target = grown-by-keeps ts ts (target ∷ []) target (member-head target target [] refl)

pub class-iff : (ts : List Tie) (target l : ℕ) → (member l (class_of ts target) ≡ true) ↔ Tied ts target l
class-iff ts target l = (
  class-all (λ k. Tied ts target k) ts target (λ t m. (λ p. onwards p (by_tie t m), λ p. onwards p (backwards (by_tie t m)))) itself l,
  λ r. (tied-carries (λ k. member k (class_of ts target) ≡ true) ts (class-closed ts target) r).0 (class-target ts target),
)

-- no cell but the tied ones is in the class
pub class-not : (ts : List Tie) (target l : ℕ) → (Tied ts target l → ⊥) → member l (class_of ts target) ≡ false
class-not ts target l n = cases (member l (class_of ts target)) (λ e. absurd (n ((class-iff ts target l).0 e))) (λ e. e)

-- the cells of the class are locations where the target and all ends of ties are
pub record EndsBelow (ts : List Tie) : Type 0 where
  pub one : (t : Tie) → OneOf t ts → t.one < 576
  pub two : (t : Tie) → OneOf t ts → t.two < 576

pub tied_below : (ts : List Tie) → EndsBelow ts → {a b : ℕ} → Tied ts a b → a < 576 → b < 576
tied_below ts h r p = (tied-carries (λ l. l < 576) ts (λ t m. (λ q. h.two t m, λ q. h.one t m)) r).0 p
