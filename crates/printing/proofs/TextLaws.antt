-- The bytes that the code adds by their number: operators, priorities, what stands between pieces, new lines, and words in decimal. Assumes nothing.
use mathlib.Core.Path.{◌≡◌, refl, ap, ◌∙◌}
use mathlib.Core.List.{List, [], ◌∷◌}
use Prim.Native.Nat.{ℕ, zero, suc, ◌+◌, ◌-◌, ◌*◌, ◌≤◌, ◌<◌}
use native.Mathlib.Omega.{arith}
use lib.IntN.{ℤ, pos, negsuc}
use lib.Signed.{mag}
use lib.ListN.{length, get_or, take, get_or-eq_default}
use mir.Syntax.{w32}
use mir.Val.{SFits, to_z, of_z}
use Rattle.words.specs.Words.{number_of}
use Rattle.words.proofs.Signed.{back32}
use Rattle.program.proofs.ReadLaws.{past}
use Rattle.lister.specs.Bytes.{Puts}
use Rattle.lister.specs.Numerals.{numeral}
use Rattle.lister.proofs.SizeLaws.{numeral-length}
use Rattle.printing.specs.Signs.{Sign, blank, fixed, integer, variable, label, indent, line_bytes}
use Rattle.printing.specs.Signs.{operator_signs, around, operator_text, operator_bytes, priority_signs, before, priority_text, priority_bytes, between_bytes, plain}
use Rattle.printing.specs.Naming.{Naming, bytes_of, numbers_of}
use Rattle.printing.proofs.NameLaws.{put_whole}

-- ---- numbers that are no operator's, and no priority's

pub no-operator : (k : ℕ) → (k ≡ 1 → ⊥) → (k ≡ 2 → ⊥) → (k ≡ 3 → ⊥) → (k ≡ 4 → ⊥) → (k ≡ 5 → ⊥) → (k ≡ 6 → ⊥) → (k ≡ 7 → ⊥) → (k ≡ 8 → ⊥) → (k ≡ 9 → ⊥) → (k ≡ 10 → ⊥)
    → (k ≡ 11 → ⊥) → operator_bytes k ≡ []
unfolding operator_text
no-operator zero a b c d e f g h i j l = refl
no-operator (suc n) a b c d e f g h i j l =
    let z : 12 ≤ suc n = past (past (past (past (past (past (past (past (past (past (past (omega arith) a) b) c) d) e) f) g) h) i) j) l in
    rw (get_or-eq_default operator_signs (blank []) {n = suc n} z)

pub no-priority : (k : ℕ) → (k ≡ 1 → ⊥) → (k ≡ 2 → ⊥) → (k ≡ 3 → ⊥) → priority_bytes k ≡ []
unfolding priority_text
no-priority zero a b c = refl
no-priority (suc n) a b c = let z : 4 ≤ suc n = past (past (past (omega arith) a) b) c in rw (get_or-eq_default priority_signs (blank []) {n = suc n} z)

-- ---- operators and priorities are signs that use no number

around-plain : (N : Naming) (s : Sign) → (plain (around s) ≡ bytes_of N (around s)) × (numbers_of (around s) ≡ [])
around-plain N (blank s) = (refl, refl)
around-plain N (fixed c s) = (refl, refl)
around-plain N (integer z) = (refl, refl)
around-plain N (variable x) = (refl, refl)
around-plain N (label l) = (refl, refl)

before-plain : (N : Naming) (s : Sign) → (plain (before s) ≡ bytes_of N (before s)) × (numbers_of (before s) ≡ [])
before-plain N (blank s) = (refl, refl)
before-plain N (fixed c s) = (refl, refl)
before-plain N (integer z) = (refl, refl)
before-plain N (variable x) = (refl, refl)
before-plain N (label l) = (refl, refl)

pub operator-plain : (N : Naming) (k : ℕ) → (operator_bytes k ≡ bytes_of N (operator_text k)) × (numbers_of (operator_text k) ≡ [])
unfolding operator_text
operator-plain N k = around-plain N (get_or operator_signs k (blank []))

pub priority-plain : (N : Naming) (k : ℕ) → (priority_bytes k ≡ bytes_of N (priority_text k)) × (numbers_of (priority_text k) ≡ [])
unfolding priority_text
priority-plain N k = before-plain N (get_or priority_signs k (blank []))

-- ---- between pieces

pub between-some : (i : ℕ) (s : List ℕ) → (i ≡ 0 → ⊥) → between_bytes i s ≡ s
between-some zero s h = absurd (h refl)
between-some (suc i) s h = refl

-- ---- a new line

-- the newline and the spaces of the deepest block
abbrev pub longest : List ℕ
longest = 10 ∷ 32 ∷ 32 ∷ 32 ∷ 32 ∷ 32 ∷ 32 ∷ 32 ∷ 32 ∷ 32 ∷ 32 ∷ 32 ∷ 32 ∷ 32 ∷ 32 ∷ []

line-to : (k : ℕ) → k ≤ 7 → take (1 + 2 * k) longest ≡ 10 ∷ indent k
unfolding indent
line-to zero h = refl
line-to (suc zero) h = refl
line-to (suc (suc zero)) h = refl
line-to (suc (suc (suc zero))) h = refl
line-to (suc (suc (suc (suc zero)))) h = refl
line-to (suc (suc (suc (suc (suc zero))))) h = refl
line-to (suc (suc (suc (suc (suc (suc zero)))))) h = refl
line-to (suc (suc (suc (suc (suc (suc (suc zero))))))) h = refl
line-to (suc (suc (suc (suc (suc (suc (suc (suc k)))))))) h = let z : ⊥ = omega arith in absurd z

pub line-is : (d : ℕ) {n : ℕ} → n ≡ 7 - d → take (1 + 2 * n) longest ≡ line_bytes d
unfolding line_bytes
line-is d e = rw e (line-to (7 - d) (omega arith))

-- ---- words

-- a word in decimal, put into 24 bytes
pub number_put : (w : ℤ) {s e : List ℕ} {n : ℕ} → SFits w32 w → Puts s 0 (numeral (to_z w32 (of_z w32 w))) e n → length s ≡ 24 → take n e ≡ numeral w
number_put w f p l = (put_whole {t = numeral w} (rw (back32 w f) at p) (omega (arith, numeral-length w, l))).0

most : (w : ℤ) → mag w < 2147483648 → number_of w ≤ 2147483648
most (pos n) h = omega arith
most (negsuc n) h = omega arith

-- a word is at most 2147483648 as a number
pub number-most : (w : ℤ) {n : ℕ} → mag w < 2147483648 → n ≡ number_of (to_z w32 (of_z w32 w)) → n ≤ 2147483648
number-most w h e = omega (arith, most w h, e ∙ ap number_of (back32 w (record { sfits = h })))
