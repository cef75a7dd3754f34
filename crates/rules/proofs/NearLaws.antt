-- A proposal leaves paths and kinds: what reads before it reads after it.
-- Assumes nothing.
use mathlib.Core.Path.{◌≡◌, refl, sym, ap}
use mathlib.Core.List.{List, [], ◌∷◌, ◌++◌}
use Rattle.std.specs.Prelude.{Option, None, Some}
use Prim.Native.Nat.{ℕ, zero, suc, ◌+◌}
use lib.IntN.{ℤ}
use lib.ListN.{drop}
use Rattle.words.specs.Answer.{got, stop}
use Rattle.words.proofs.AnswerLaws.{stop≢got, got-inj, step, tested}
use Rattle.tables.specs.declared.Sort.TheVariants.{Values}
use Rattle.tables.specs.Cells.{Cells}
use Rattle.program.specs.Forms.{most_parts, required, expression_depth}
use Rattle.program.specs.Reading.{number}
use Rattle.rules.specs.State.{Res, reads, refused, positions}
use Rattle.rules.specs.Evaluation.{a_bool, evaluate, kind}
use Rattle.rules.specs.Constraints.{Part, satisfies, part_at, parts_at, constraint_at, fifteen, kept_at, kept_parts, own_parts, counted}
use Rattle.rules.specs.Proposals.{Asked}
use Rattle.rules.proofs.EffectLaws.{Near, effect-same}
use Rattle.rules.proofs.SamePaths.{kind-same}

-- an answer, with this part after it
pub record Again {A : Type 0} (m : Res (A × List ℤ)) (rest : List ℤ) : Type 0 where
  pub one : A
  pub is : m ≡ got (one, rest)

pub record Reads (m : Res (List Part)) : Type 0 where
  pub parts : List Part
  pub is : m ≡ got parts

pub fifteen-got : (m : Res (List Part)) (ps : List Part) → fifteen m ≡ got ps → m ≡ got ps
fifteen-got (got x) ps e = ap got (got-inj e)
fifteen-got (stop f) ps e = stop≢got e

module _ (asked : Asked) (S Z : Cells) (near : Near asked S Z) where
  -- an expression has the same kind
  kind-stays : (d : ℕ) (p : List ℤ) → kind d Z p ≡ kind d S p
  kind-stays d p = sym (kind-same S Z (effect-same near.effect) d p)

  part-again : (p : List ℤ) (x : Part × List ℤ) → part_at S p ≡ got x → Again (part_at Z p) x.1
  unfolding part_at
  part-again p x e =
      step (reads (number 1 required p)) _ e λ n e1 k1.
      step (kind expression_depth S n.1) _ k1 λ k e2 k2.
      tested (refused 8 p) (a_bool k.0) _ k2 λ c k3.
      record {
        one = record { priority = n.0; satisfied = satisfies (evaluate expression_depth Z n.1) };
        is = rw (← got-inj k3, e1, kind-stays expression_depth n.1, e2, c);
      }

  parts_again : (m : ℕ) (p : List ℤ) (x : List Part × List ℤ) → parts_at m S p ≡ got x → Again (parts_at m Z p) x.1
  unfolding parts_at
  parts_again zero p x e = record { one = []; is = rw (← got-inj e) }
  parts_again (suc m) p x e =
      step (part_at S p) _ e λ y e1 k1.
      step (parts_at m S y.1) _ k1 λ z e2 k2.
      let a = part-again p y e1 in
      let b = parts_again m y.1 z e2 in
      record { one = a.one ∷ b.one; is = rw (← got-inj k2, a.is, b.is) }

  constraint-again : (p : List ℤ) (ps : List Part) → constraint_at S p ≡ got ps → Reads (constraint_at Z p)
  unfolding constraint_at
  constraint-again p ps e =
      step (reads (number 1 most_parts p)) _ e λ m e1 k1.
      step (parts_at m.0 S m.1) _ k1 λ x e2 k2.
      let a = parts_again m.0 m.1 x e2 in
      record { parts = a.one; is = rw (e1, a.is) }

  kept_again : (program : List ℤ) (ns : List ℕ) (ps : List Part) → kept_parts program S ns ≡ got ps → Reads (kept_parts program Z ns)
  unfolding kept_parts kept_at
  kept_again program [] ps e = record { parts = []; is = refl }
  kept_again program (n ∷ ns) ps e =
      step (fifteen (kept_at program S n)) _ e λ x e1 k1.
      step (kept_parts program S ns) _ k1 λ y e2 k2.
      let a = constraint-again (drop (n + 1) program) x (fifteen-got (kept_at program S n) x e1) in
      let b = kept_again program ns y e2 in
      record { parts = a.parts ++ b.parts; is = rw (a.is, b.is) }

  own-again : (own : Option (List ℤ)) (ps : List Part) → own_parts S own ≡ got ps → Reads (own_parts Z own)
  unfolding own_parts
  own-again None ps e = record { parts = []; is = refl }
  own-again (Some p) ps e = constraint-again p ps e

  -- the constraints that count read after the proposal as before it
  pub counted-again : (program kept : List ℤ) (own : Option (List ℤ)) (ps : List Part) → counted program kept own S ≡ got ps → Reads (counted program kept own Z)
  unfolding counted
  counted-again program kept own ps e =
      step (own_parts S own) _ e λ x e1 k1.
      step (kept_parts program S (positions kept Values)) _ k1 λ y e2 k2.
      let a = own-again own x e1 in
      let b = kept_again program (positions kept Values) y e2 in
      record { parts = b.parts ++ a.parts; is = rw (a.is, b.is) }
