-- Pieces in a row, as the loops read them: the parts of C, and the statements of a block. Assumes nothing.
use mathlib.Core.Path.{◌≡◌, refl, ap, ◌∙◌}
use Rattle.std.specs.Prelude.{Ok, Err}
use mathlib.Core.List.{List, [], ◌∷◌}
use Prim.Native.Nat.{ℕ, zero, suc, ◌+◌, ◌-◌, ◌≤◌, ◌<◌}
use native.Mathlib.Omega.{arith}
use lib.IntN.{ℤ}
use lib.ListN.{length, drop, length-drop}
use Rattle.words.specs.Words.{last_of}
use Rattle.words.specs.Answer.{got, ◌>>=◌}
use Rattle.words.proofs.AnswerLaws.{bind-cong}
use Rattle.program.specs.Told.{told}
use Rattle.program.specs.Reading.{Reading, read_part, read_parts, read_with, read_statements, after}
use Rattle.program.proofs.LengthLaws.{Part, part-trans, part-drop}
use Rattle.program.proofs.ReadLaws.{halted, onward, told-left}

-- n pieces in a row
pub many : (List ℤ → Reading (List ℤ)) → ℕ → List ℤ → Reading (List ℤ)
many one zero p = got p
many one (suc n) p = do
  q ← one p
  many one n q

pub parts-many : (m : ℕ) (p : List ℤ) → many read_part m p ≡ read_parts m p
unfolding read_parts many
parts-many zero p = refl
parts-many (suc m) p = bind-cong (read_part p) _ _ λ q e. parts-many m q

pub statements-many : (block : List ℤ → Reading (List ℤ)) (n : ℕ) (p : List ℤ) → many (read_with block) n p ≡ read_statements block n p
unfolding read_statements many
statements-many block zero p = refl
statements-many block (suc n) p = bind-cong (read_with block p) _ _ λ q e. statements-many block n q

-- the last words of a part
pub last-part : (left : ℕ) (p : List ℤ) → Part p (last_of left p)
last-part left p = part-drop (length p - left) p

pub last-length : (left : ℕ) (p : List ℤ) → left ≤ length p → length (last_of left p) ≡ left
last-length left p h = length-drop (length p - left) p ∙ omega arith

pub last-all : (p : List ℤ) → last_of (length p) p ≡ p
last-all p = let e : length p - length p ≡ 0 = omega arith in rw e

pub last-but-one : (p : List ℤ) → last_of (length p - 1) p ≡ drop 1 p
last-but-one [] = refl
last-but-one (w ∷ p) = let e : suc (length p) - (suc (length p) - 1) ≡ 1 = omega arith in rw e

-- the loop over n pieces has read i of them, and `left` words of p are left; the rest gives the whole's answer
pub record InRow (one : List ℤ → Reading (List ℤ)) (n : ℕ) (p : List ℤ) (whole : Reading (List ℤ)) (i left : ℕ) : Type 0 where
  pub inside : i ≤ n
  pub short : left ≤ length p
  pub rest : many one (n - i) (last_of left p) ≡ whole

pub row-starts : {one : List ℤ → Reading (List ℤ)} {n : ℕ} {p : List ℤ} {whole : Reading (List ℤ)} {left : ℕ}
    → left ≤ length p → many one n (last_of left p) ≡ whole → InRow one n p whole 0 left
row-starts {n = n} h e = let z : n - 0 ≡ n = omega arith in record { inside = omega arith; short = h; rest = rw z e }

module _ {one : List ℤ → Reading (List ℤ)} {n : ℕ} {p : List ℤ} {whole : Reading (List ℤ)} {i left : ℕ} (inv : InRow one n p whole i left) where
  turn : i < n → (one (last_of left p) >>= λ q. many one (n - (i + 1)) q) ≡ whole
  unfolding many
  turn h = let z : n - i ≡ suc (n - (i + 1)) = omega arith in rw z at inv.rest

  pub row-stops : {k : ℕ} {q : List ℤ} → i < n → q ≡ last_of left p → Err k ≡ told (one q) → Err k ≡ told whole
  row-stops h l e = halted (one (last_of left p)) _ (rw l at e) ∙ ap told (turn h)

  pub row-goes-on : {k : ℕ} {q : List ℤ} → i < n → q ≡ last_of left p → Ok k ≡ told (one q) → Part q (after (one q)) → InRow one n p whole (i + 1) k
  row-goes-on {k} h l e w =
      let b : Part p (after (one (last_of left p))) = part-trans (last-part left p) (rw l at w) in
      let z : k ≡ length (after (one (last_of left p))) = told-left (one (last_of left p)) (rw l at e) in
      let g : one (last_of left p) ≡ got (last_of k p) = onward (one (last_of left p)) b (rw l at e) refl in
      record { inside = omega arith; short = omega (arith, b.short); rest = rw g at (turn h) }

  pub row_ends : n ≤ i → Ok left ≡ told whole
  unfolding many
  row_ends h =
      let z : n - i ≡ 0 = omega arith in
      let e : got (last_of left p) ≡ whole = rw z at inv.rest in
      rw (last-length left p inv.short) at (ap told e)
