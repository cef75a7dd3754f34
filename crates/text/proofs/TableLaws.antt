-- What the table of names that is told holds of each number. Assumes nothing.
use mathlib.Core.Path.{◌≡◌, refl, ◌∙◌}
use mathlib.Core.List.{List, [], ◌∷◌}
use Prim.Native.Nat.{ℕ, zero, suc, ◌+◌, ◌*◌, ◌≤◌, ◌<◌}
use native.Mathlib.Omega.{arith}
use lib.IntN.{pos}
use lib.ListN.{length, get_or}
use Rattle.words.specs.Words.{word_of}
use Rattle.text.specs.Reading.{Named}
use Rattle.text.specs.Names.{named}
use Rattle.text.specs.Whole.{name_words}

pub table-length : (n : ℕ) (ns : List Named) → length (name_words n ns) ≡ 2 * n
unfolding name_words
table-length zero ns = refl
table-length (suc n) [] = let h : length (name_words n []) ≡ 2 * n = table-length n [] in omega arith
table-length (suc n) (x ∷ ns) = let h : length (name_words n ns) ≡ 2 * n = table-length n ns in omega arith

-- the words of number i, in a table that begins with those of number 0
twice : {A : Type 0} (a b : A) (s : List A) (i k : ℕ) (z : A) → get_or (a ∷ b ∷ s) (2 * suc i + k) z ≡ get_or s (2 * i + k) z
twice a b s i k z = let e : 2 * suc i + k ≡ suc (suc (2 * i + k)) = omega arith in rw e

pub table-place : (n : ℕ) (ns : List Named) (i : ℕ) → i < n → i < length ns → get_or (name_words n ns) (2 * i + 0) (pos 0) ≡ word_of (named ns i).place
unfolding name_words
table-place zero ns i h l = let z : ⊥ = omega arith in absurd z
table-place (suc n) [] i h l = let z : ⊥ = omega arith in absurd z
table-place (suc n) (x ∷ ns) zero h l = refl
table-place (suc n) (x ∷ ns) (suc i) h l = twice (word_of x.place) (word_of x.length) (name_words n ns) i 0 (pos 0) ∙ table-place n ns i (omega arith) (omega arith)

pub table-long : (n : ℕ) (ns : List Named) (i : ℕ) → i < n → i < length ns → get_or (name_words n ns) (2 * i + 1) (pos 0) ≡ word_of (named ns i).length
unfolding name_words
table-long zero ns i h l = let z : ⊥ = omega arith in absurd z
table-long (suc n) [] i h l = let z : ⊥ = omega arith in absurd z
table-long (suc n) (x ∷ ns) zero h l = refl
table-long (suc n) (x ∷ ns) (suc i) h l = twice (word_of x.place) (word_of x.length) (name_words n ns) i 1 (pos 0) ∙ table-long n ns i (omega arith) (omega arith)

-- "unused ones are 0"
pub table_none : (n : ℕ) (ns : List Named) (i : ℕ) → i < n → length ns ≤ i → get_or (name_words n ns) (2 * i + 1) (pos 0) ≡ pos 0
unfolding name_words
table_none zero ns i h l = let z : ⊥ = omega arith in absurd z
table_none (suc n) [] zero h l = refl
table_none (suc n) [] (suc i) h l = twice (pos 0) (pos 0) (name_words n []) i 1 (pos 0) ∙ table_none n [] i (omega arith) (omega arith)
table_none (suc n) (x ∷ ns) zero h l = let z : ⊥ = omega arith in absurd z
table_none (suc n) (x ∷ ns) (suc i) h l = twice (word_of x.place) (word_of x.length) (name_words n ns) i 1 (pos 0) ∙ table_none n ns i (omega arith) (omega arith)
