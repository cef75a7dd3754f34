-- What is kept holds by the definitions exactly where it stands by the rules. Assumes nothing.
use mathlib.Core.Logic.{◌↔◌}
use mathlib.Core.List.{List, [], ◌∷◌, ◌++◌, map}
use Prim.Native.Nat.{ℕ, ◌+◌}
use lib.IntN.{ℤ}
use lib.ListN.{drop}
use Rattle.tables.specs.declared.Sort.{Sort}
use Rattle.tables.specs.declared.Sort.TheVariants.{Values, Identities}
use Rattle.tables.specs.Cells.{Cells}
use Rattle.rules.specs.State.{State, positions}
use Rattle.rules.specs.Constraints.{kept_at}
use Rattle.rules.specs.Rules.Proposals.{Each, none, more}
use Rattle.rules.specs.Rules.Kept.{KeptStands, Stands}
use Rattle.rules.specs.Steps.Holds.{ValueHolds, IdentityHolds, Holds}
use Rattle.rules.proofs.PartLaws.{constraint-iff}
use Rattle.rules.proofs.HoldLaws.{each_left, each_right}
use Rattle.rules.proofs.TieLaws.{same-iff}

-- one that is kept, by the definitions
abbrev pub KeptHolds : List ℤ → Cells → Sort → ℕ → Type 0
KeptHolds program S Values position = ValueHolds program S position
KeptHolds program S Identities position = IdentityHolds program S position

pub kept-iff : (program : List ℤ) (S : Cells) (s : Sort) (position : ℕ) → KeptHolds program S s position ↔ KeptStands program S (s, position)
unfolding kept_at
kept-iff program S Values position = (
  λ h. (h.parts, ((constraint-iff S (drop (position + 1) program) h.parts).0 h.reads, h.met)),
  λ h. record { parts = h.0; reads = (constraint-iff S (drop (position + 1) program) h.0).1 h.1.0; met = h.1.1 },
)
kept-iff program S Identities position = same-iff S (drop position program) (drop (position + 1) program)

module _ {A B : Type 0} {P : A → Type 0} {Q : B → Type 0} (f : A → B) where
  pub each_over : ((x : A) → P x → Q (f x)) → {xs : List A} → Each P xs → Each Q (map f xs)
  each_over g none = none
  each_over g (more {x = x} a e) = more (g x a) (each_over g e)

  each-under : ((x : A) → Q (f x) → P x) → (xs : List A) → Each Q (map f xs) → Each P xs
  each-under g [] none = none
  each-under g (x ∷ xs) (more a e) = more (g x a) (each-under g xs e)

pub each-join : {A : Type 0} {P : A → Type 0} {xs ys : List A} → Each P xs → Each P ys → Each P (xs ++ ys)
each-join none e = e
each-join (more a d) e = more a (each-join d e)

-- a state holds what it keeps by the definitions exactly as by the rules
pub stands-iff : (program : List ℤ) (S : State) → Holds program S ↔ Stands program S
stands-iff program S = (
  λ h. record {
    fit = h.fit;
    long = h.long;
    positions-stand = h.stands;
    constraints = each-join (each_over _ (λ n. (kept-iff program S.cells Values n).0) h.values) (each_over _ (λ n. (kept-iff program S.cells Identities n).0) h.identities);
  },
  λ h. record {
    fit = h.fit;
    long = h.long;
    stands = h.positions-stand;
    values = each-under _ (λ n. (kept-iff program S.cells Values n).1) (positions S.kept Values) (each_left _ _ h.constraints);
    identities = each-under _ (λ n. (kept-iff program S.cells Identities n).1) (positions S.kept Identities)
        (each_right (map (λ k. (Values, k)) (positions S.kept Values)) _ h.constraints);
  },
)
