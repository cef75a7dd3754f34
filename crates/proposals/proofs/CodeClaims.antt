-- The claims of specs/Claims.antt. Assumes nothing.
use mathlib.Core.Path.{◌≡◌, sym, ◌∙◌}
use mathlib.Core.List.{List}
use Prim.Native.Nat.{ℕ}
use lib.IntN.{ℤ}
use lib.ListN.{length}
use Rattle.std.specs.Prelude.{Result, Ok, Err}
use Rattle.words.specs.Answer.{got, stop}
use Rattle.words.proofs.AnswerLaws.{either}
use Rattle.tables.specs.Cells.{Cells}
use Rattle.program.specs.declared.Refusal.{Refusal}
use Rattle.rules.specs.State.{Res}
use Rattle.rules.specs.Proposals.{settle}
use Rattle.rules.proofs.EffectLaws.{settles-near}
use Rattle.rules.proofs.ProposalLaws.{settle-iff}
use Rattle.proposals.specs.Told.{settled_of, settled_cells, Settles}
use Rattle.proposals.specs.Claims.{TakenMoves, RefusedStays, TakenExactly}
use Rattle.proposals.proofs.FormLaws.{unlike}

-- a proposal that is taken: the rules take it, with the same tables and unread words
module _ {S Z : Cells} {r : Result ℕ Refusal} (m : Res (Cells × List ℤ)) (s : Settles S Z r m) where
  pub taken_is {ℓ} : {X : Type ℓ} {left : ℕ} → r ≡ Ok left → ((rest : List ℤ) → m ≡ got (Z, rest) → length rest ≡ left → X) → X
  taken_is {X = X} {left = left} h k = by m s.is s.leaves (λ rest e l. k rest e l)
    where
      by : (y : Res (Cells × List ℤ)) → r ≡ settled_of y → Z ≡ settled_cells S y → ((rest : List ℤ) → y ≡ got (Z, rest) → length rest ≡ left → X) → X
      by (got x) i z k = k x.1 (rw z) (let q = sym i ∙ h in cc)
      by (stop f) i z k = unlike (let q : ◌≡◌ {A = Result ℕ Refusal} (Err f) (Ok left) = sym i ∙ h in cc)

  pub stays : {k : Refusal} → r ≡ Err k → Z ≡ S
  stays h =
      either m
      (λ x e. unlike (let y = sym (rw e at s.is) ∙ h in cc))
      (λ f e. rw e at s.leaves)

pub taken-moves : TakenMoves
taken-moves program kept asked word S Z ws r left sized s h =
    taken_is (settle program kept asked word S ws) s h λ rest e l. (settles-near sized ((settle-iff program kept asked word S ws Z rest).0 e)).effect

pub refused-stays : RefusedStays
refused-stays program kept asked word S Z ws r f s h = stays (settle program kept asked word S ws) s h

pub taken-exactly : TakenExactly
taken-exactly program kept asked word S Z ws r left s = (
  λ h. taken_is (settle program kept asked word S ws) s h λ rest e l. (rest, ((settle-iff program kept asked word S ws Z rest).0 e, l)),
  λ x. let e = (settle-iff program kept asked word S ws Z x.0).1 x.1.0 in rw e at s.is ∙ rw x.1.1,
)
