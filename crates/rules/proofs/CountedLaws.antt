-- The parts that count for a statement: the definitions and the rules say the same. Assumes nothing.
use mathlib.Core.Path.{◌≡◌, refl}
use mathlib.Core.Logic.{◌↔◌}
use mathlib.Core.List.{List, [], ◌∷◌, append-nil}
use Rattle.std.specs.Prelude.{Option, None, Some}
use Prim.Native.Nat.{ℕ, ◌+◌}
use lib.IntN.{ℤ}
use lib.ListN.{drop}
use Rattle.words.specs.Answer.{got}
use Rattle.words.proofs.AnswerLaws.{got-inj, step}
use Rattle.tables.specs.declared.Sort.TheVariants.{Values}
use Rattle.tables.specs.Cells.{Cells}
use Rattle.rules.specs.State.{positions}
use Rattle.rules.specs.Constraints.{Part, constraint_at, fifteen, kept_at, kept_parts, own_parts, counted}
use Rattle.rules.specs.Rules.Constraints.{KeptAre, CountedAre, kept_only, with_own}
use Rattle.rules.proofs.PartLaws.{constraint-iff}
use Rattle.rules.proofs.NearLaws.{fifteen-got}

module _ (program : List ℤ) (S : Cells) where
  kept-sound : (ps : List ℕ) (xs : List Part) → kept_parts program S ps ≡ got xs → KeptAre program S ps xs
  unfolding kept_parts kept_at
  kept-sound [] xs e = rw (← got-inj e) KeptAre.none
  kept-sound (n ∷ ps) xs e =
      step (fifteen (kept_at program S n)) _ e λ ys e1 k1.
      step (kept_parts program S ps) _ k1 λ zs e2 k2.
      rw (← got-inj k2) (KeptAre.one ((constraint-iff S (drop (n + 1) program) ys).0 (fifteen-got (constraint_at S (drop (n + 1) program)) ys e1)) (kept-sound ps zs e2))

  kept-complete : {ps : List ℕ} {xs : List Part} → KeptAre program S ps xs → kept_parts program S ps ≡ got xs
  unfolding kept_parts kept_at
  kept-complete KeptAre.none = refl
  kept-complete (KeptAre.one {position = n} {xs = xs} c k) = rw ((constraint-iff S (drop (n + 1) program) xs).1 c, kept-complete k)

  pub kept-iff : (ps : List ℕ) (xs : List Part) → (kept_parts program S ps ≡ got xs) ↔ KeptAre program S ps xs
  kept-iff ps xs = (kept-sound ps xs, kept-complete)

  counted-sound : (kept : List ℤ) (own : Option (List ℤ)) (xs : List Part) → counted program kept own S ≡ got xs → CountedAre program kept S own xs
  unfolding counted own_parts
  counted-sound kept None xs e =
      step (kept_parts program S (positions kept Values)) _ e λ ys e1 k1.
      rw (← got-inj k1, append-nil ys) (kept_only (kept-sound (positions kept Values) ys e1))
  counted-sound kept (Some p) xs e =
      step (constraint_at S p) _ e λ zs e1 k1.
      step (kept_parts program S (positions kept Values)) _ k1 λ ys e2 k2.
      rw (← got-inj k2) (with_own (kept-sound (positions kept Values) ys e2) ((constraint-iff S p zs).0 e1))

  counted-complete : (kept : List ℤ) {own : Option (List ℤ)} {xs : List Part} → CountedAre program kept S own xs → counted program kept own S ≡ got xs
  unfolding counted own_parts
  counted-complete kept (kept_only {xs = xs} k) = rw (kept-complete k, append-nil xs)
  counted-complete kept (with_own {p = p} {ys = ys} k c) = rw ((constraint-iff S p ys).1 c, kept-complete k)

  -- these are the parts that count by the definition exactly where they are by the rules
  pub counted-iff : (kept : List ℤ) (own : Option (List ℤ)) (xs : List Part) → (counted program kept own S ≡ got xs) ↔ CountedAre program kept S own xs
  counted-iff kept own xs = (counted-sound kept own xs, counted-complete kept)
