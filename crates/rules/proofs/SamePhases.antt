-- The identity phase of two states of one structure leaves one structure, and a proposal keeps it.
-- Assumes nothing.
use mathlib.Core.Path.{◌≡◌, sym, ◌∙◌}
use mathlib.Core.Bool.{not, ◌||◌}
use mathlib.Core.List.{List, [], ◌∷◌, ◌++◌}
use Prim.Native.Nat.{ℕ}
use lib.IntN.{ℤ}
use Rattle.words.specs.Answer.{got}
use Rattle.words.proofs.AnswerLaws.{got-inj, step, tested}
use Rattle.tables.specs.declared.Value.{Value}
use Rattle.tables.specs.Values.{cell_of}
use Rattle.tables.specs.Cells.{Cells, put_cell, Sized}
use Rattle.tables.proofs.CellLaws.{put-sized}
use Rattle.rules.specs.State.{refused}
use Rattle.rules.specs.Identities.{is_node, ties, frozen_by, class_of, names, clash_free, put_all, identity_phase}
use Rattle.rules.specs.Proposals.{Asked, settle}
use Rattle.rules.specs.Structure.{Same}
use Rattle.rules.proofs.Structure.{Alike, cells-alike, put_same}
use Rattle.rules.proofs.SamePaths.{ties-same}
use Rattle.rules.proofs.PutAllLaws.{put-all-sized}
use Rattle.rules.proofs.EffectLaws.{settles-near, effect-same}
use Rattle.rules.proofs.ProposalLaws.{settle-iff}

-- ---- the identity phase

pub phase-sized : (program kept : List ℤ) (before now : Cells) (word : List ℤ) (target : ℕ) (prefix : List ℕ) (v : Value) {X : Cells}
    → Sized now → identity_phase program kept before now word target prefix v ≡ got X → Sized X
unfolding identity_phase
phase-sized program kept before now word target prefix v z e =
    step (ties program kept before) _ e λ ts e1 k1.
    tested (refused 13 word) (not (names ts target) || is_node v) _ k1 λ c2 k2.
    tested (refused 12 word) (clash_free before (prefix ++ frozen_by ts) v (class_of ts target)) _ k2 λ c3 k3.
    rw (← got-inj k3) (put-all-sized v now (class_of ts target) z)

module _ (v w : Value) (a : Alike v w) where
  -- the cells of a class take alike values
  pub all_same : (ls : List ℕ) (S Z : Cells) → Same S Z → Sized S → Sized Z → Same (put_all S ls v) (put_all Z ls w)
  unfolding put_all
  all_same [] S Z s i j = s
  all_same (l ∷ ls) S Z s i j =
      all_same ls (put_cell S l (cell_of v)) (put_cell Z l (cell_of w)) (put_same S Z s i j l (cell_of v) (cell_of w) (cells-alike a))
      (put-sized S l (cell_of v) i) (put-sized Z l (cell_of w) j)

  -- paths are followed in S and Z, of one structure, and X and Y, of one structure, take alike values: one structure is left
  pub phase-same : (S Z : Cells) → Same S Z → (X Y : Cells) → Same X Y → Sized X → Sized Y
      → (program kept word : List ℤ) (target : ℕ) (prefix prefix' : List ℕ) (X' Y' : Cells)
      → identity_phase program kept S X word target prefix v ≡ got X' → identity_phase program kept Z Y word target prefix' w ≡ got Y' → Same X' Y'
  unfolding identity_phase
  phase-same S Z s X Y t i j program kept word target prefix prefix' X' Y' e g =
      step (ties program kept S) _ e λ ts e1 k1.
      tested (refused 13 word) (not (names ts target) || is_node v) _ k1 λ c2 k2.
      tested (refused 12 word) (clash_free S (prefix ++ frozen_by ts) v (class_of ts target)) _ k2 λ c3 k3.
      step (ties program kept Z) _ g λ us g1 m1.
      tested (refused 13 word) (not (names us target) || is_node w) _ m1 λ d2 m2.
      tested (refused 12 word) (clash_free Z (prefix' ++ frozen_by us) w (class_of us target)) _ m2 λ d3 m3.
      let q : ts ≡ us = got-inj (sym e1 ∙ ties-same S Z s program kept ∙ g1) in
      rw (← got-inj k3, ← got-inj m3, ← q) (all_same (class_of ts target) X Y t i j)

-- ---- a proposal

-- what an accepted proposal leaves
pub record Settled (S Z : Cells) : Type 0 where
  pub same : Same S Z
  pub sized : Sized Z

-- an accepted proposal keeps the structure
pub settle-same : (program kept : List ℤ) (asked : Asked) (word : List ℤ) (S : Cells) (ws : List ℤ) {x : Cells × List ℤ} → Sized S → settle program kept asked word S ws ≡ got x → Settled S x.0
settle-same program kept asked word S ws {x} z e =
    let n = settles-near z ((settle-iff program kept asked word S ws x.0 x.1).0 e) in
    record { same = effect-same n.effect; sized = n.sized }
