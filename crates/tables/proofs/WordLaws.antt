-- Laws of words of a table as numbers. Assumes nothing.
use mathlib.Core.Path.{◌≡◌, sym, ap, ◌∙◌}
use mathlib.Core.List.{List}
use Prim.Native.Nat.{ℕ, ◌<◌}
use native.Mathlib.Omega.{arith}
use native.Mathlib.Decide.{dec_lt}
use lib.IntN.{ℤ, pos, negsuc}
use lib.ListN.{length}
use Rattle.words.specs.Words.{word_at, number_at, number_of}
use Rattle.words.proofs.Laws.{number_in, number_past}

-- a word that is a number
pub word_number : (z : ℤ) (n : ℕ) → number_of z ≡ n → n < 2147483648 → z ≡ pos n
word_number (pos m) n e h = ap pos e
word_number (negsuc m) n e h = let z : ⊥ = omega arith in absurd z

pub number-of : (s : List ℤ) (k : ℕ) (z : ℤ) → k < length s → word_at s k ≡ z → number_at s k ≡ number_of z
number-of s k z l e = sym (number_in s k (pos 0) l) ∙ ap number_of e

pub word-of : (s : List ℤ) (k n : ℕ) → k < length s → number_at s k ≡ n → n < 2147483648 → word_at s k ≡ pos n
word-of s k n l e h = word_number (word_at s k) n (number_in s k (pos 0) l ∙ e) h

-- two tables of one length with one word have one number there
pub number_same : (s t : List ℤ) (k : ℕ) → length s ≡ length t → word_at s k ≡ word_at t k → number_at s k ≡ number_at t k
number_same s t k l e = go (dec_lt k (length s))
  where
    go : Dec (k < length s) → number_at s k ≡ number_at t k
    go (yes h) = number-of s k (word_at t k) h e ∙ number_in t k (pos 0) (omega arith)
    go (no h) = sym (number_past s k (omega arith)) ∙ number_past t k (omega arith)
