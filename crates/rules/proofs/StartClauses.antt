-- The start and the whole run, clause by clause: the laws by which code knows them. Assumes nothing.
use mathlib.Core.Path.{◌≡◌, refl}
use mathlib.Core.Bool.{◌&&◌}
use mathlib.Core.List.{List, [], ◌∷◌}
use Prim.Native.Nat.{ℕ, ◌+◌}
use lib.Dec.{leb}
use lib.IntN.{ℤ}
use lib.ListN.{drop}
use Rattle.words.specs.Words.{word_at, number_of}
use Rattle.words.specs.Answer.{got, stop, ◌>>◌, want}
use Rattle.tables.specs.declared.Sort.TheVariants.{Values, Identities}
use Rattle.tables.specs.Cells.{Cells}
use Rattle.fit.specs.Fit.{sized, environment_fits, heap_fits}
use Rattle.program.specs.Reading.{read_program}
use Rattle.program.specs.Where.{constraints_stand}
use Rattle.rules.specs.State.{State, Fault, positions}
use Rattle.rules.specs.Constraints.{Part, kept_at, required_hold}
use Rattle.rules.specs.Identities.{same_now}
use Rattle.rules.specs.Start.{budget_fits, values_hold, identities_hold, early, starts}

pub budget-is : (b : ℤ) → budget_fits b ≡ leb (number_of b) 1000000
unfolding budget_fits
budget-is b = refl

module _ (program : List ℤ) (S : Cells) where
  pub values-none : values_hold program S [] ≡ got tt
  unfolding values_hold
  values-none = refl

  pub values-read : (position : ℕ) (more : List ℕ) (parts : List Part) → kept_at program S position ≡ got parts
      → values_hold program S (position ∷ more) ≡ (want position (required_hold parts) >> values_hold program S more)
  unfolding values_hold
  values-read position more parts e = rw (e, values_hold)

  pub values-stop : (position : ℕ) (more : List ℕ) (f : Fault) → kept_at program S position ≡ stop f → values_hold program S (position ∷ more) ≡ stop position
  unfolding values_hold
  values-stop position more f e = rw (e, values_hold)

  pub identities-none : identities_hold program S [] ≡ got tt
  unfolding identities_hold
  identities-none = refl

  pub identities-hold : (position : ℕ) (more : List ℕ) (u : Unit {0}) → same_now S (drop position program) (drop (position + 1) program) ≡ got u
      → identities_hold program S (position ∷ more) ≡ identities_hold program S more
  unfolding identities_hold
  identities-hold position more u e = rw (e, identities_hold)

  pub identities-stop : (position : ℕ) (more : List ℕ) (f : Fault) → same_now S (drop position program) (drop (position + 1) program) ≡ stop f
      → identities_hold program S (position ∷ more) ≡ stop position
  unfolding identities_hold
  identities-stop position more f e = rw (e, identities_hold)

pub early-got : (n : ℕ) (u : Unit {0}) → early n (got u) ≡ got tt
unfolding early
early-got n u = refl

pub early-stop : (n place : ℕ) → early n (stop place) ≡ stop (record { number = n; place = place })
unfolding early
early-stop n place = refl

pub starts_is : (program : List ℤ) (budget : ℤ) (S : State)
    → starts program budget S
    ≡ (early 1 (want 0 (sized S.cells.environment S.cells.heap S.kept && budget_fits budget)) >> (early 2 (read_program program) >> (early 3 (want 0 (environment_fits (word_at S.cells.heap 0) S.cells.environment)) >> (early 3 (want 1 (heap_fits S.cells.heap)) >> (early 3 (want 2 (constraints_stand program S.kept)) >> (early 4 (values_hold program S.cells (positions S.kept Values)) >> early 4 (identities_hold program S.cells (positions S.kept Identities))))))))
unfolding starts
starts_is program budget S = refl
