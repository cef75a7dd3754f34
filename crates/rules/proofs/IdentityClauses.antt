-- Kept identities and the identity phase, clause by clause: the laws by which code knows them. Assumes nothing.
use mathlib.Core.Path.{◌≡◌, refl}
use mathlib.Core.Bool.{Bool, true, false, not, ◌||◌}
use mathlib.Core.List.{List, [], ◌∷◌, ◌++◌}
use Prim.Native.Nat.{ℕ, ◌+◌}
use lib.Dec.{eqb}
use lib.IntN.{ℤ}
use lib.ListN.{drop}
use Rattle.words.specs.Answer.{got, ◌>>=◌, ◌>>◌, want}
use Rattle.tables.specs.declared.Value.{Value}
use Rattle.tables.specs.declared.Value.TheVariants.{Nil, Bool as Truth, Int, Ref}
use Rattle.tables.specs.declared.Sort.TheVariants.{Identities}
use Rattle.tables.specs.Values.{cell_of}
use Rattle.tables.specs.Cells.{Cells, put_cell}
use Rattle.rules.specs.State.{refused, positions}
use Rattle.rules.specs.Paths.{way_at, value_at}
use Rattle.rules.specs.Evaluation.{same}
use Rattle.rules.specs.Identities.{is_node, same_now, Tie, tie_at, ties_of, ties, member, frozen_by, class_of, names, clash_free, put_all, identity_phase}

pub node-nil : is_node Nil ≡ true
unfolding is_node
node-nil = refl

pub node-bool : (b : Bool) → is_node (Truth b) ≡ false
unfolding is_node
node-bool b = refl

pub node-int : (n : ℤ) → is_node (Int n) ≡ false
unfolding is_node
node-int n = refl

pub node-ref : (r : ℕ) → is_node (Ref r) ≡ true
unfolding is_node
node-ref r = refl

pub same-now-is : (S : Cells) (word p : List ℤ)
    → same_now S word p
    ≡ (value_at S p >>= λ a. value_at S a.1 >>= λ b. want (refused 8 p) (is_node a.0) >> (want (refused 8 a.1) (is_node b.0) >> want (refused 11 word) (same a.0 b.0)))
unfolding same_now
same-now-is S word p = refl

-- ---- ties

pub tie-is : (S : Cells) (p : List ℤ)
    → tie_at S p ≡ (way_at S p >>= λ a. way_at S a.rest >>= λ b. got (record { one = a.cell; two = b.cell; prefix = a.prefix ++ b.prefix }))
unfolding tie_at
tie-is S p = refl

module _ (program : List ℤ) (S : Cells) where
  pub ties-none : ties_of program S [] ≡ got []
  unfolding ties_of
  ties-none = refl

  pub ties-more : (position : ℕ) (more : List ℕ)
      → ties_of program S (position ∷ more) ≡ (tie_at S (drop (position + 1) program) >>= λ t. ties_of program S more >>= λ ts. got (t ∷ ts))
  unfolding ties_of
  ties-more position more = refl

  pub ties-are : (kept : List ℤ) → ties program kept S ≡ ties_of program S (positions kept Identities)
  unfolding ties
  ties-are kept = refl

pub frozen-none : frozen_by [] ≡ []
unfolding frozen_by
frozen-none = refl

pub frozen-more : (t : Tie) (ts : List Tie) → frozen_by (t ∷ ts) ≡ (t.prefix ++ frozen_by ts)
unfolding frozen_by
frozen-more t ts = refl

-- ---- the class

pub not-member : (x : ℕ) → member x [] ≡ false
unfolding member
not-member x = refl

pub member-more : (x y : ℕ) (ys : List ℕ) → member x (y ∷ ys) ≡ (eqb x y || member x ys)
unfolding member
member-more x y ys = refl

-- ---- the phase

pub put-all-none : (S : Cells) (v : Value) → put_all S [] v ≡ S
unfolding put_all
put-all-none S v = refl

pub put-all-more : (S : Cells) (l : ℕ) (ls : List ℕ) (v : Value) → put_all S (l ∷ ls) v ≡ put_all (put_cell S l (cell_of v)) ls v
unfolding put_all
put-all-more S l ls v = refl

pub phase-is : (program kept : List ℤ) (before now : Cells) (word : List ℤ) (target : ℕ) (prefix : List ℕ) (v : Value)
    → identity_phase program kept before now word target prefix v
    ≡ (ties program kept before >>= λ ts. want (refused 13 word) (not (names ts target) || is_node v) >> (want (refused 12 word) (clash_free before (prefix ++ frozen_by ts) v (class_of ts target)) >> got (put_all now (class_of ts target) v)))
unfolding identity_phase
phase-is program kept before now word target prefix v = refl
