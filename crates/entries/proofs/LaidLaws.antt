-- The words of an entry laid behind a 1. Assumes nothing.
use mathlib.Core.Path.{◌≡◌, sym, ap, ◌∙◌}
use mathlib.Core.List.{List, ◌∷◌}
use Prim.Native.Nat.{ℕ, zero, suc, ◌+◌, ◌≤◌, ◌<◌}
use native.Mathlib.Omega.{arith}
use lib.IntN.{ℤ, pos}
use lib.ListN.{length, take, set, get_or, length-set}
use lib.Seq.{ext_get_or, get_or-take, get_or-set_same, length-take-le}
use Rattle.words.specs.Words.{copied}
use Rattle.words.proofs.Laws.{length-copied, copied-in, copied-out}

module _ (p : List ℤ) (n : ℕ) (s : List ℤ) (h : n ≤ length p) (k : n < length s) where
  abbrev row : List ℤ
  row = copied p 1 n (set s 0 (pos 1))

  long : length row ≡ length s
  long = length-copied p 1 n (set s 0 (pos 1)) ∙ length-set s 0 (pos 1)

  word : (i : ℕ) → i < suc n → get_or (take (suc n) row) i (pos 0) ≡ get_or (pos 1 ∷ take n p) i (pos 0)
  word zero l =
      get_or-take (suc n) row 0 (pos 0) l
      ∙ copied-out p 1 n (set s 0 (pos 1)) 0 (λ a. absurd (omega arith))
      ∙ get_or-set_same s 0 (pos 1) (pos 0) (omega arith)
  word (suc i) l =
      let e : 1 + i ≡ suc i = omega arith in
      let m : 1 + i < length (set s 0 (pos 1)) = omega (arith, length-set s 0 (pos 1)) in
      get_or-take (suc n) row (suc i) (pos 0) l
      ∙ (rw e at (copied-in p 1 n (set s 0 (pos 1)) i (omega arith) m))
      ∙ sym (get_or-take n p i (pos 0) (omega arith))

  pub laid : take (n + 1) row ≡ pos 1 ∷ take n p
  laid =
      let e : n + 1 ≡ suc n = omega arith in
      let a : length (take (suc n) row) ≡ suc n = length-take-le (suc n) row (omega (arith, long)) in
      let b : length (take n p) ≡ n = length-take-le n p h in
      rw e (ext_get_or (pos 0) (take (suc n) row) (pos 1 ∷ take n p) (a ∙ ap suc (sym b)) (λ i l. word i (omega (arith, l, a))))

-- the same by what the stores leave: s1 the row with the 1, s2 with the words, a the words that are used of it
pub laid_from : (p : List ℤ) (n : ℕ) (s : List ℤ) {s1 s2 a : List ℤ} → n ≤ length p → n < length s → s1 ≡ set s 0 (pos 1) → s2 ≡ copied p 1 n s1 → a ≡ take (n + 1) s2 → a ≡ pos 1 ∷ take n p
laid_from p n s h k e f g = g ∙ ap (λ y. take (n + 1) y) (f ∙ ap (λ y. copied p 1 n y) e) ∙ laid p n s h k
