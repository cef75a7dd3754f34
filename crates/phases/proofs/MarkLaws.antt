-- Marks of cells, and how they grow with the ties. Assumes nothing.
use mathlib.Core.Path.{◌≡◌, refl, sym, ◌∙◌}
use mathlib.Core.Bool.{Bool, true, false, not, cond, ◌||◌}
use mathlib.Core.List.{List, ◌∷◌}
use Prim.Native.Nat.{ℕ, zero, suc, ◌+◌, ◌≤◌, ◌<◌}
use native.Mathlib.Omega.{arith}
use native.Mathlib.Decide.{dec_lt, ℕ_discrete}
use borrow.Author.Tests.{eqb-true, eq-eqb, ne_eqb}
use lib.Dec.{eqb}
use lib.ListN.{length}
use Rattle.words.specs.Answer.{got, stop}
use Rattle.words.specs.Bits.{marked, with_mark, marked_from}
use Rattle.words.proofs.BitLaws.{mark-length, mark-is, marked-past, from_zero, from_suc}
use Rattle.tables.specs.Sizes.{locations}
use Rattle.tables.proofs.SearchLaws.{cases, and_left, and_right, and-true}
use Rattle.rules.specs.State.{Res}
use Rattle.rules.specs.Identities.{Tie, member}
use Rattle.rules.proofs.IdentityClauses.{not-member, member-more}
use Rattle.rules.proofs.ClassLaws.{or_left, or_right, or_cases, false≢true}
use Rattle.phases.specs.Sizes.{marks_words}
use Rattle.phases.specs.Taking.{cells_of}
use Rattle.phases.specs.Tying.{how_many, size, joins, Even, joined, Grows}
use Rattle.phases.proofs.CountLaws.{many-strict, many-one, many-none}

pub both_ways : (a b : Bool) → (a ≡ true → b ≡ true) → (b ≡ true → a ≡ true) → a ≡ b
both_ways true b f g = sym (f refl)
both_ways false true f g = g refl
both_ways false false f g = refl

-- ---- marks of all locations

module _ (s : List ℕ) (long : length s ≡ marks_words) where
  pub mark-in : (l k : ℕ) → k < locations → marked (with_mark s l) k ≡ (eqb k l || marked s k)
  mark-in l k h = mark-is s l k (omega (arith, long))

  pub none-past : (k : ℕ) → locations ≤ k → marked s k ≡ false
  none-past k h = marked-past s k (omega (arith, long))

  pub marked-low : (k : ℕ) → marked s k ≡ true → k < locations
  marked-low k e = go (dec_lt k locations)
    where
      go : Dec (k < locations) → k < locations
      go (yes y) = y
      go (no n) = false≢true (sym (none-past k (omega arith)) ∙ e)

  pub mark-long : (l : ℕ) → length (with_mark s l) ≡ marks_words
  mark-long l = mark-length s l ∙ long

  mark-here : (l : ℕ) → l < locations → marked (with_mark s l) l ≡ true
  mark-here l h = mark-in l l h ∙ or_left (eqb l l) (marked s l) (eq-eqb l l refl)

  mark-keeps : (l k : ℕ) → marked s k ≡ true → marked (with_mark s l) k ≡ true
  mark-keeps l k e = mark-in l k (marked-low k e) ∙ or_right (eqb k l) (marked s k) e

-- what is marked was marked, or is marked now
mark-from {ℓ} : {X : Type ℓ} (s : List ℕ) → length s ≡ marks_words → (l k : ℕ) → marked (with_mark s l) k ≡ true → (k ≡ l → X) → (marked s k ≡ true → X) → X
mark-from s long l k e f g =
    or_cases (eqb k l) (marked s k) (sym (mark-in s long l k (marked-low (with_mark s l) (mark-long s long l) k e)) ∙ e) (λ q. f (eqb-true k l q)) g

-- ---- how many are marked

from-size : (s : List ℕ) (i n : ℕ) → length (marked_from s i n) ≡ how_many (marked s) i n
unfolding how_many
from-size s i zero = rw (from_zero s i)
from-size s i (suc n) =
    let one : suc (length (marked_from s (suc i) n)) ≡ 1 + how_many (marked s) (suc i) n = omega (arith, from-size s (suc i) n) in
    let none : length (marked_from s (suc i) n) ≡ 0 + how_many (marked s) (suc i) n = omega (arith, from-size s (suc i) n) in
    rw (from_suc s i n) (cases (marked s i) (λ e. rw e one) (λ e. rw e none))

pub cells-size : (class : List ℕ) → length (cells_of class) ≡ size class
cells-size class = from-size class 0 locations

from-below : (s : List ℕ) (l i n : ℕ) → l < i → member l (marked_from s i n) ≡ false
from-below s l i zero h = rw (from_zero s i) (not-member l)
from-below s l i (suc n) h = rw (from_suc s i n) (cases (marked s i)
    (λ e. rw (e, member-more l i (marked_from s (suc i) n), ne_eqb l i (λ q. omega arith)) (from-below s l (suc i) n (omega arith)))
    (λ e. rw e (from-below s l (suc i) n (omega arith))))

from_member : (s : List ℕ) (l i n : ℕ) → i ≤ l → l < i + n → member l (marked_from s i n) ≡ marked s l
from_member s l i zero a b = let z : ⊥ = omega arith in absurd z
from_member s l i (suc n) a b = rw (from_suc s i n) (go (ℕ_discrete l i) (λ m. from_member s l (suc i) n m (omega arith)))
  where
    go : Dec (l ≡ i) → (suc i ≤ l → member l (marked_from s (suc i) n) ≡ marked s l) → member l (cond (marked s i) (i ∷ marked_from s (suc i) n) (marked_from s (suc i) n)) ≡ marked s l
    go (yes e) r = rw e (cases (marked s i) (λ q. rw (q, member-more i i (marked_from s (suc i) n), eq-eqb i i refl)) (λ q. rw q (from-below s i (suc i) n (omega arith))))
    go (no e) r = cases (marked s i)
        (λ q. rw (q, member-more l i (marked_from s (suc i) n), ne_eqb l i e) (r (omega arith)))
        (λ q. rw q (r (omega arith)))

from_past : (s : List ℕ) (l i n : ℕ) → i + n ≤ l → member l (marked_from s i n) ≡ false
from_past s l i zero h = rw (from_zero s i) (not-member l)
from_past s l i (suc n) h = rw (from_suc s i n) (cases (marked s i)
    (λ e. rw (e, member-more l i (marked_from s (suc i) n), ne_eqb l i (λ q. omega arith)) (from_past s l (suc i) n (omega arith)))
    (λ e. rw e (from_past s l (suc i) n (omega arith))))

pub cells-member : (class : List ℕ) → length class ≡ marks_words → (l : ℕ) → member l (cells_of class) ≡ marked class l
cells-member class long l = go (dec_lt l locations)
  where
    go : Dec (l < locations) → member l (cells_of class) ≡ marked class l
    go (yes y) = from_member class l 0 locations (omega arith) (omega arith)
    go (no n) = from_past class l 0 locations (omega arith) ∙ sym (none-past class long l (omega arith))

-- ---- one mark alone

module _ (s : List ℕ) (long : length s ≡ marks_words) (none : (l : ℕ) → marked s l ≡ false) (target : ℕ) where
  pub first-only : (l : ℕ) → marked (with_mark s target) l ≡ true → l ≡ target
  first-only l e = mark-from s long target l e (λ q. q) (λ q. false≢true (sym (none l) ∙ q))

  pub first-there : target < locations → marked (with_mark s target) target ≡ true
  first-there h = mark-here s long target h

  pub first-size : size (with_mark s target) ≤ 1
  first-size = omega (arith, many-one (λ (l : ℕ). false) (marked (with_mark s target)) target (λ l n e. absurd (n (first-only l e))) 0 locations, many-none (λ (l : ℕ). false) (λ l. refl) 0 locations)

-- ---- growing

pub joins-most : (a b : List ℕ) → ((l : ℕ) → marked a l ≡ true → marked b l ≡ true) → (m : Res Tie) → joins a m ≡ true → joins b m ≡ true
joins-most a b h (got t) e = and-true (marked b t.one) (marked b t.two) (h t.one (and_left (marked a t.one) (marked a t.two) e)) (h t.two (and_right (marked a t.one) (marked a t.two) e))
joins-most a b h (stop f) e = e

module _ {T : ℕ → Res Tie} {n : ℕ} where
  pub grows_none : (class : List ℕ) → Grows T n class class
  grows_none class = record { long = refl; keeps = λ l e. e; within = λ f h k. k; few = omega arith; most = omega arith }

  pub grows_then : {a b c : List ℕ} → Grows T n a b → Grows T n b c → Grows T n a c
  grows_then g h = record {
    long = h.long ∙ g.long;
    keeps = λ l e. h.keeps l (g.keeps l e);
    within = λ f k m. h.within f k (g.within f k m);
    few = omega (arith, g.few, h.few);
    most = omega (arith, g.most, h.most);
  }

module _ (T : ℕ → Res Tie) (n : ℕ) where
  -- ---- a tie with one end marked

  module _ (class : List ℕ) (long : length class ≡ marks_words) {k : ℕ} (inside : k < n) (t : Tie) (is : T k ≡ got t)
      (low-one : t.one < locations) (low-two : t.two < locations) (odd : marked class t.one ≡ not (marked class t.two)) where
    abbrev first : List ℕ
    first = with_mark class t.one

    abbrev both : List ℕ
    both = with_mark first t.two

    first-long : length first ≡ marks_words
    first-long = mark-long class long t.one

    tie-keeps : (l : ℕ) → marked class l ≡ true → marked both l ≡ true
    tie-keeps l e = mark-keeps first first-long t.two l (mark-keeps class long t.one l e)

    tie-from {ℓ} : {X : Type ℓ} (l : ℕ) → marked both l ≡ true → (l ≡ t.one → X) → (l ≡ t.two → X) → (marked class l ≡ true → X) → X
    tie-from l e f g h = mark-from first first-long t.two l e g (λ q. mark-from class long t.one l q f h)

    pub tie-one : marked both t.one ≡ true
    tie-one = mark-keeps first first-long t.two t.one (mark-here class long t.one low-one)

    pub tie-two : marked both t.two ≡ true
    tie-two = mark-here first first-long t.two low-two

    tie-within : (f : ℕ → Bool) → Even T n f → ((l : ℕ) → marked class l ≡ true → f l ≡ true) → (l : ℕ) → marked both l ≡ true → f l ≡ true
    tie-within f h m l e =
        let both-pass : (f t.one ≡ true) × (f t.two ≡ true) = cases (marked class t.two)
        (λ q. (h k inside t is ∙ m t.two q, m t.two q))
        (λ q. let p : marked class t.one ≡ true = odd ∙ rw q in (m t.one p, sym (h k inside t is) ∙ m t.one p)) in
        tie-from l e (λ q. rw q both-pass.0) (λ q. rw q both-pass.1) (m l)

    tie-size : size both ≤ suc (size class)
    tie-size = cases (marked class t.two)
        (λ q. many-one (marked class) (marked both) t.one (λ l d e. tie-from l e (λ x. absurd (d x)) (λ x. rw x q) (λ x. x)) 0 locations)
        (λ q. many-one (marked class) (marked both) t.two (λ l d e. tie-from l e (λ x. rw x (odd ∙ rw q)) (λ x. absurd (d x)) (λ x. x)) 0 locations)

    not-joined : joins class (T k) ≡ false
    not-joined = rw is (cases (marked class t.two) (λ q. rw (odd, q)) (λ q. rw (odd, q)))

    now-joined : joins both (T k) ≡ true
    now-joined = rw is (and-true (marked both t.one) (marked both t.two) tie-one tie-two)

    pub tie-more : joined T n class < joined T n both
    tie-more = many-strict (λ j. joins class (T j)) (λ j. joins both (T j)) (λ j. joins-most class both tie-keeps (T j)) k not-joined now-joined 0 n (omega arith) (omega arith)

    pub tie-grows : Grows T n class both
    tie-grows = record {
      long = mark-length first t.two ∙ mark-length class t.one;
      keeps = tie-keeps;
      within = tie-within;
      few = omega (arith, tie-size, tie-more);
      most = omega (arith, tie-more);
    }
