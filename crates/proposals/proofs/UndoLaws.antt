-- Payloads put in a row, and put back in the other order. Assumes nothing.
use mathlib.Core.Path.{◌≡◌, refl, sym, ap, ◌∙◌}
use mathlib.Core.List.{List}
use Prim.Native.Nat.{ℕ, zero, suc, ◌+◌, ◌-◌, ◌*◌, ◌≤◌, ◌<◌}
use native.Mathlib.Omega.{arith}
use native.Mathlib.Numerals.{add-one}
use lib.IntN.{ℤ, pos}
use lib.ListN.{length, set}
use lib.Seq.{get_or-set_same, get_or-set_other}
use Rattle.words.specs.Words.{word_at, number_at}
use Rattle.tables.specs.Values.{cell}
use Rattle.tables.specs.Cells.{Cells, cell_at}
use Rattle.tables.proofs.CellLaws.{read-kind, put_back}
use Rattle.proposals.specs.Undoing.{with_payload, undone, Swaps}

-- ---- putting back

module _ (pairs saved : List ℤ) where
  pub undone-none : (S : Cells) → undone pairs saved 0 S ≡ S
  unfolding undone
  undone-none S = refl

  pub undone-more : (n : ℕ) (S : Cells) → undone pairs saved (n + 1) S ≡ undone pairs saved n (with_payload S (number_at pairs (2 * n)) (word_at saved n))
  unfolding undone
  undone-more n S = rw (add-one n)

-- a payload that is laid by later changes nothing that is put back before it
undone-before : (pairs saved : List ℤ) (k : ℕ) (w : ℤ) (n : ℕ) (S : Cells) → n ≤ k → undone pairs (set saved k w) n S ≡ undone pairs saved n S
unfolding undone
undone-before pairs saved k w zero S h = refl
undone-before pairs saved k w (suc n) S h =
    rw (get_or-set_other saved k n w (pos 0) (λ e. omega arith)) (undone-before pairs saved k w n (with_payload S (number_at pairs (2 * n)) (word_at saved n)) (omega arith))

-- a cell that takes a payload and then the one that it had is as it was
put-again : (S : Cells) (l : ℕ) (w : ℤ) → with_payload (with_payload S l w) l (cell_at S l).payload ≡ S
put-again S l w = rw (read-kind S l w) (put_back S l (cell (cell_at S l).kind w))

-- one more payload is put and laid by, and is put back first
pub laid-back : (pairs before : List ℤ) {S Z : Cells} {after : List ℤ} {l : ℕ} {new old : ℤ} {i : ℕ}
    → Swaps S Z l new old → after ≡ set before i old → l ≡ number_at pairs (2 * i) → i < length before → undone pairs after (i + 1) Z ≡ undone pairs before i S
laid-back pairs before {S = S} {Z = Z} {after = after} {l = l} {new = new} {old = old} {i = i} y s e h =
    let w : word_at after i ≡ (cell_at S l).payload = ap (λ t. word_at t i) s ∙ (get_or-set_same before i old (pos 0) h ∙ y.was) in
    let p : with_payload Z l (word_at after i) ≡ S = rw (w, y.puts) (put-again S l new) in
    undone-more pairs after i Z ∙ (rw (← e, p, s) (undone-before pairs before i old i S (omega arith)))

-- ---- the loop that puts back: i payloads are left to put back

pub record PuttingBack (S Z : Cells) (pairs saved : List ℤ) (n i : ℕ) : Type 0 where
  pub inside : i ≤ n
  pub rest : undone pairs saved i Z ≡ undone pairs saved n S

pub putting-back-starts : {S : Cells} {pairs saved : List ℤ} {n : ℕ} → PuttingBack S S pairs saved n n
putting-back-starts = record { inside = omega arith; rest = refl }

module _ {S Z : Cells} {pairs saved : List ℤ} {n i : ℕ} (inv : PuttingBack S Z pairs saved n i) where
  pub putting-back-goes-on : {Y : Cells} {l : ℕ} {w old : ℤ} → 0 < i → l ≡ number_at pairs (2 * (i - 1)) → w ≡ word_at saved (i - 1) → Swaps Z Y l w old → PuttingBack S Y pairs saved n (i - 1)
  putting-back-goes-on h l w y =
      let z : i - 1 + 1 ≡ i = omega arith in
      record {
        inside = omega (arith, inv.inside);
        rest = rw (y.puts, l, w) (sym (rw z at (undone-more pairs saved (i - 1) Z)) ∙ inv.rest);
      }

  pub putting-back-ends : i ≤ 0 → Z ≡ undone pairs saved n S
  putting-back-ends h = let z : i ≡ 0 = omega arith in sym (undone-none pairs saved Z) ∙ (rw z at inv.rest)
