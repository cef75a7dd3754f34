-- What is kept still holds after the identity phase: the tables are fit, and every kept identity holds. Assumes nothing.
use mathlib.Core.Path.{◌≡◌, refl}
use mathlib.Core.Logic.{◌↔◌}
use mathlib.Core.List.{List, [], ◌∷◌}
use Prim.Native.Nat.{ℕ, ◌+◌, ◌<◌}
use lib.IntN.{ℤ}
use lib.ListN.{drop}
use Rattle.words.specs.Answer.{got}
use Rattle.words.proofs.AnswerLaws.{stop≢got, either}
use Rattle.tables.specs.declared.Value.{Value}
use Rattle.tables.specs.declared.Value.TheVariants.{Ref}
use Rattle.tables.specs.declared.Sort.TheVariants.{Identities}
use Rattle.tables.specs.Values.{Sound}
use Rattle.tables.specs.Cells.{Cells}
use Rattle.tables.specs.Records.{record_count}
use Rattle.fit.specs.Fit.{Fit}
use Rattle.fit.proofs.FitLaws.{fit_count}
use Rattle.rules.specs.State.{positions}
use Rattle.rules.specs.Identities.{same_now, identity_phase}
use Rattle.rules.specs.Steps.Phases.{Target, Ready, Computed}
use Rattle.rules.specs.Start.{identities_hold}
use Rattle.rules.specs.Rules.Proposals.{Each, none, more}
use Rattle.rules.specs.Steps.Holds.{IdentityHolds}
use Rattle.rules.proofs.PhaseLaws.{small-sound, phase-iff}
use Rattle.rules.proofs.PhaseFit.{phase-fit}
use Rattle.rules.proofs.IdentitiesAfter.{identities-after}
use Rattle.rules.proofs.HoldLaws.{Half}

-- the identities at these positions hold, each by itself
pub identities-iff : (program : List ℤ) (S : Cells) (ns : List ℕ) → (identities_hold program S ns ≡ got tt) ↔ Each (IdentityHolds program S) ns
unfolding identities_hold
identities-iff program S ns = (to ns, from)
  where
    to : (ns : List ℕ) → identities_hold program S ns ≡ got tt → Each (IdentityHolds program S) ns
    to [] e = none
    to (n ∷ ns) e = either (same_now S (drop n program) (drop (n + 1) program))
        (λ u c. more c (to ns (rw (c, identities_hold) at e)))
        (λ f c. stop≢got (rw (c, identities_hold) at e))

    from : {ns : List ℕ} → Each (IdentityHolds program S) ns → identities_hold program S ns ≡ got tt
    from none = refl
    from (more c e) = rw (c, identities_hold) (from e)

module _ (program kept : List ℤ) (before now : Cells) (word : List ℤ) (target : ℕ) (prefix : List ℕ) (v : Value) (Z : Cells)
    (half : Half program kept before) (ready : Ready before now) (reached : Target before target prefix)
    (answered : identity_phase program kept before now word target prefix v ≡ got Z) where
  -- the phase leaves fit tables in which every kept identity holds
  pub phase-half : Fit now → ((r : ℕ) → v ≡ Ref r → r < record_count now.heap) → Half program kept Z
  phase-half fit-now small =
      let sound : Sound v = small-sound v (record_count now.heap) (fit_count now fit-now) small in
      let phase : Computed program kept before now target prefix v Z = (phase-iff program kept before now word target prefix v half.fit sound Z).0 answered in
      record {
        fit = phase-fit program kept before now word target prefix v phase.tied Z half.fit fit-now ready reached small phase.followed answered;
        identities = (identities-iff program Z (positions kept Identities)).0
            (identities-after program kept before now word target prefix v Z half.fit ready reached sound ((identities-iff program before (positions kept Identities)).1 half.identities) answered);
      }
