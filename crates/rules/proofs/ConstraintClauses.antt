-- Constraints, their parts, and the test of an if or while, clause by clause: the laws by which code knows them. Assumes nothing.
use mathlib.Core.Path.{◌≡◌, refl}
use mathlib.Core.Bool.{Bool, true, false, not, ◌&&◌, ◌||◌}
use mathlib.Core.List.{List, [], ◌∷◌, ◌++◌}
use Rattle.std.specs.Prelude.{Option, None, Some}
use Prim.Native.Nat.{ℕ, suc, ◌+◌}
use lib.Dec.{eqb}
use lib.IntN.{ℤ}
use lib.ListN.{drop}
use Rattle.words.specs.Answer.{got, stop, ◌>>=◌, ◌>>◌, want}
use Rattle.words.proofs.AnswerLaws.{step, tested, got-inj}
use Rattle.tables.specs.declared.Value.{Value}
use Rattle.tables.specs.declared.Sort.{Sort}
use Rattle.tables.specs.declared.Sort.TheVariants.{Values}
use Rattle.tables.specs.Cells.{Cells}
use Rattle.tables.specs.Kept.{kept_count, position_at}
use Rattle.program.specs.Reading.{number}
use Rattle.program.proofs.NumberLaws.{number_read}
use Rattle.program.proofs.LengthLaws.{part-drop, part-trans}
use Rattle.program.proofs.LengthLaws.{Part as IsPart}
use Rattle.rules.specs.State.{Fault, refused, reads, listed, positions}
use Rattle.rules.specs.Evaluation.{kind_of, a_bool, bool_of, evaluate, kind}
use Rattle.rules.specs.Constraints.{Part, satisfies, part_at, parts_at, constraint_at, fifteen, kept_at, kept_parts, own_parts, counted, all_hold, required_hold}
use Rattle.rules.specs.Running.{test}
use Rattle.rules.proofs.WordSteps.{reads-got}
use Rattle.rules.proofs.KindClauses.{kind-part}

-- ---- if and while

pub test-is : (S : Cells) (p : List ℤ) → test S p ≡ (evaluate 16 S p >>= λ x. want (refused 8 p) (a_bool (kind_of x.0)) >> got (bool_of x.0))
unfolding test
test-is S p = refl

-- ---- a part

pub satisfies-got : (x : Value × List ℤ) → satisfies (got x) ≡ bool_of x.0
unfolding satisfies
satisfies-got x = refl

pub satisfies-stop : (f : Fault) → satisfies (stop f) ≡ false
unfolding satisfies
satisfies-stop f = refl

module _ (S : Cells) (p : List ℤ) where
  pub part-is : part_at S p
      ≡ (reads (number 1 3 p) >>= λ x. kind 16 S x.1 >>= λ y. want (refused 8 p) (a_bool y.0) >> got (record { priority = x.0; satisfied = satisfies (evaluate 16 S x.1) }, y.1))
  unfolding part_at
  part-is = refl

  pub part-part : (x : Part × List ℤ) → part_at S p ≡ got x → IsPart p x.1
  unfolding part_at
  part-part x e =
      step (reads (number 1 3 p)) _ e λ y e1 k1.
      step (kind 16 S y.1) _ k1 λ z e2 k2.
      tested (refused 8 p) (a_bool z.0) _ k2 λ c k3.
      let n = number_read 1 3 p (reads-got (number 1 3 p) e1) in
      let l : IsPart p y.1 = rw n.rest (part-drop 1 p) in
      rw (← got-inj k3) (part-trans l (kind-part S 16 y.1 z e2))

  -- ---- a C

  pub parts_none : parts_at 0 S p ≡ got ([], p)
  unfolding parts_at
  parts_none = refl

  pub parts_more : (m : ℕ) → parts_at (suc m) S p ≡ (part_at S p >>= λ x. parts_at m S x.1 >>= λ y. got (x.0 ∷ y.0, y.1))
  unfolding parts_at
  parts_more m = refl

  pub constraint-is : constraint_at S p ≡ (reads (number 1 16 p) >>= λ x. parts_at x.0 S x.1 >>= λ y. got y.0)
  unfolding constraint_at
  constraint-is = refl

-- ---- which parts hold

pub all_none : all_hold [] ≡ true
unfolding all_hold
all_none = refl

pub all_more : (x : Part) (xs : List Part) → all_hold (x ∷ xs) ≡ (x.satisfied && all_hold xs)
unfolding all_hold
all_more x xs = refl

pub required-none : required_hold [] ≡ true
unfolding required_hold
required-none = refl

pub required-more : (x : Part) (xs : List Part) → required_hold (x ∷ xs) ≡ ((not (eqb x.priority 3) || x.satisfied) && required_hold xs)
unfolding required_hold
required-more x xs = refl

pub both-once : (a b c : Bool) → (a && (b && c)) ≡ ((a && b) && c)
both-once true b c = refl
both-once false b c = refl

pub all_both : (xs ys : List Part) → all_hold (xs ++ ys) ≡ (all_hold xs && all_hold ys)
unfolding all_hold
all_both [] ys = refl
all_both (x ∷ xs) ys = rw (all_both xs ys) (both-once x.satisfied (all_hold xs) (all_hold ys))

pub required-both : (xs ys : List Part) → required_hold (xs ++ ys) ≡ (required_hold xs && required_hold ys)
unfolding required_hold
required-both [] ys = refl
required-both (x ∷ xs) ys = rw (required-both xs ys) (both-once (not (eqb x.priority 3) || x.satisfied) (required_hold xs) (required_hold ys))

-- ---- the kept value constraints, and a statement's own C

pub positions-are : (c : List ℤ) (s : Sort) → positions c s ≡ listed (position_at c s) 0 (kept_count c s)
unfolding positions
positions-are c s = refl

pub listed-none : {A : Type 0} (f : ℕ → A) (i : ℕ) → listed f i 0 ≡ []
unfolding listed
listed-none f i = refl

pub listed_more : {A : Type 0} (f : ℕ → A) (i n : ℕ) → listed f i (suc n) ≡ (f i ∷ listed f (suc i) n)
unfolding listed
listed_more f i n = refl

pub own-none : (S : Cells) → own_parts S None ≡ got []
unfolding own_parts
own-none S = refl

pub own-some : (S : Cells) (p : List ℤ) → own_parts S (Some p) ≡ constraint_at S p
unfolding own_parts
own-some S p = refl

module _ (program : List ℤ) (S : Cells) where
  pub kept-is : (position : ℕ) → kept_at program S position ≡ constraint_at S (drop (position + 1) program)
  unfolding kept_at
  kept-is position = refl

  pub kept-none : kept_parts program S [] ≡ got []
  unfolding kept_parts
  kept-none = refl

  pub kept_more : (position : ℕ) (more : List ℕ)
      → kept_parts program S (position ∷ more) ≡ (fifteen (kept_at program S position) >>= λ xs. kept_parts program S more >>= λ ys. got (xs ++ ys))
  unfolding kept_parts
  kept_more position more = refl

  pub counted_is : (kept : List ℤ) (own : Option (List ℤ))
      → counted program kept own S ≡ (own_parts S own >>= λ mine. kept_parts program S (positions kept Values) >>= λ others. got (others ++ mine))
  unfolding counted
  counted_is kept own = refl
