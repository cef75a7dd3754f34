-- What the code that finds a token comes to. Assumes nothing.
use mathlib.Core.Path.{◌≡◌, refl, sym, ◌∙◌}
use mathlib.Core.Bool.{Bool, true, false}
use mathlib.Core.List.{List, [], ◌∷◌}
use Prim.Native.Nat.{ℕ, suc, ◌+◌, ◌-◌, ◌≤◌, ◌<◌}
use native.Mathlib.Omega.{arith}
use native.Mathlib.Numerals.{add-one}
use borrow.Author.Tests.{eq-eqb, ne_eqb, lt-ltb, le-ltb, ltb-true, ltb-false}
use lib.Dec.{ltb}
use lib.ListN.{length, get_or, take, drop, length-drop, get_or-eq_default}
use Rattle.tokens.specs.declared.Piece.{Piece}
use Rattle.tokens.specs.Bytes.{is_lower, is_digit, is_named, run, trimmed}
use Rattle.tokens.specs.Codes.{end_code, name_code, number_code, no_token, too_long}
use Rattle.tokens.specs.Spelling.{code_of, keywords, pairs}
use Rattle.tokens.specs.Tokens.{piece, token, most_bytes, asked_from, name_length, name_at, single_at, mark_at, signs, token_at, limited, rest_from, token_from}
use Rattle.tokens.proofs.ByteLaws.{cases, run_length}

-- ---- a name

pub inside : (s : List ℕ) (n : ℕ) → get_or s n 0 ≡ 63 → n < length s
inside s n e =
    cases (ltb n (length s)) (λ t. ltb-true n (length s) t)
    (λ t. let z : 0 ≡ 63 = sym (get_or-eq_default s 0 {n = n} (ltb-false n (length s) t)) ∙ e in absurd (omega arith))

module _ (s : List ℕ) {n : ℕ} (e : n ≡ run is_named s) where
  pub name-asked : get_or s n 0 ≡ 63 → n + 1 ≡ name_length s
  unfolding name_length asked_from
  name-asked h = rw (← e, eq-eqb (get_or s n 0) 63 h) (add-one n)

  pub name-plain : (get_or s n 0 ≡ 63 → ⊥) → n ≡ name_length s
  unfolding name_length asked_from
  name-plain h = rw (← e, ne_eqb (get_or s n 0) 63 h)

pub name-told : (s : List ℕ) {n c : ℕ} {q : List ℕ} → n ≡ name_length s → q ≡ take n s → c ≡ code_of name_code keywords q → piece c n ≡ name_at s
unfolding name_at
name-told s e k h = rw (h, k, e)

-- ---- a mark

pub mark-last : (s : List ℕ) → length s < 2 → single_at (get_or s 0 0) ≡ mark_at (get_or s 0 0) (drop 1 s)
unfolding mark_at
mark-last [] h = refl
mark-last (b ∷ []) h = refl
mark-last (b ∷ c ∷ s) h = let z : ⊥ = omega arith in absurd z

pub mark-single : (s : List ℕ) → 2 ≤ length s → code_of no_token pairs (get_or s 0 0 ∷ get_or s 1 0 ∷ []) ≡ 3 → single_at (get_or s 0 0) ≡ mark_at (get_or s 0 0) (drop 1 s)
unfolding mark_at
mark-single [] h e = let z : ⊥ = omega arith in absurd z
mark-single (b ∷ []) h e = let z : ⊥ = omega arith in absurd z
mark-single (b ∷ c ∷ s) h e = rw (eq-eqb (code_of no_token pairs (b ∷ c ∷ [])) 3 e)

pub mark-pair : (s : List ℕ) → 2 ≤ length s → (code_of no_token pairs (get_or s 0 0 ∷ get_or s 1 0 ∷ []) ≡ 3 → ⊥)
    → piece (code_of no_token pairs (get_or s 0 0 ∷ get_or s 1 0 ∷ [])) 2 ≡ mark_at (get_or s 0 0) (drop 1 s)
unfolding mark_at
mark-pair [] h e = let z : ⊥ = omega arith in absurd z
mark-pair (b ∷ []) h e = let z : ⊥ = omega arith in absurd z
mark-pair (b ∷ c ∷ s) h e = rw (ne_eqb (code_of no_token pairs (b ∷ c ∷ [])) 3 e)

-- ---- the token

pub first-end : (due : Bool) (s : List ℕ) → length s ≡ 0 → piece end_code 0 ≡ token_at due s
unfolding token_at
first-end due [] h = refl
first-end due (b ∷ s) h = let z : ⊥ = omega arith in absurd z

pub first-name : (due : Bool) (s : List ℕ) → (length s ≡ 0 → ⊥) → is_lower (get_or s 0 0) ≡ true → name_at s ≡ token_at due s
unfolding token_at
first-name due [] h e = absurd (h refl)
first-name due (b ∷ s) h e = rw e

pub first-number : (due : Bool) (s : List ℕ) → (length s ≡ 0 → ⊥) → is_lower (get_or s 0 0) ≡ false → is_digit (get_or s 0 0) ≡ true → piece number_code (run is_digit s) ≡ token_at due s
unfolding token_at
first-number due [] h e d = absurd (h refl)
first-number due (b ∷ s) h e d = rw (e, d)

pub first_signed : (due : Bool) (s : List ℕ) → (length s ≡ 0 → ⊥) → is_lower (get_or s 0 0) ≡ false → is_digit (get_or s 0 0) ≡ false → signs due s ≡ true
    → piece number_code (suc (run is_digit (drop 1 s))) ≡ token_at due s
unfolding token_at
first_signed due [] h e d g = absurd (h refl)
first_signed due (b ∷ s) h e d g = rw (e, d, g)

pub first-mark : (due : Bool) (s : List ℕ) → (length s ≡ 0 → ⊥) → is_lower (get_or s 0 0) ≡ false → is_digit (get_or s 0 0) ≡ false → signs due s ≡ false
    → mark_at (get_or s 0 0) (drop 1 s) ≡ token_at due s
unfolding token_at
first-mark due [] h e d g = absurd (h refl)
first-mark due (b ∷ s) h e d g = rw (e, d, g)

-- ---- in the whole text

pub rest-inside : (text : List ℕ) (at : ℕ) → length (rest_from text at) ≤ length text
unfolding rest_from trimmed
rest-inside text at = simp length-drop (omega arith)

pub limited-past : (p : Piece) (place : ℕ) → 65536 < place + p.length → token too_long most_bytes most_bytes ≡ limited p place
unfolding limited
limited-past p place h = rw (lt-ltb 65536 (place + p.length) h)

pub limited-in : (p : Piece) (place : ℕ) → place + p.length ≤ 65536 → token p.code place (place + p.length) ≡ limited p place
unfolding limited
limited-in p place h = rw (le-ltb 65536 (place + p.length) h)

-- the same as the code has it
pub signed-told : (due : Bool) (s : List ℕ) → (length s ≡ 0 → ⊥) → is_lower (get_or s 0 0) ≡ false → is_digit (get_or s 0 0) ≡ false → signs due s ≡ true
    → {k : ℕ} → k ≡ run is_digit (drop 1 s) → piece number_code (1 + k) ≡ token_at due s
signed-told due s h e d g {k = k} q = let z : 1 + k ≡ suc (run is_digit (drop 1 s)) = omega arith in rw z (first_signed due s h e d g)

module _ (due : Bool) (text : List ℕ) (at : ℕ) {x : List ℕ} (e : x ≡ rest_from text at) where
  pub rest-shorter : length x ≤ length text
  rest-shorter = rw e (rest-inside text at)

  module _ {p : Piece} (q : p ≡ token_at due x) where
    told : limited p (length text - length x) ≡ token_from due text at
    unfolding token_from
    told = rw (q, e)

    pub token-past : 65536 < length text - length x + p.length → token too_long most_bytes most_bytes ≡ token_from due text at
    token-past h = limited-past p (length text - length x) h ∙ told

    pub token-in : length text - length x + p.length ≤ 65536 → token p.code (length text - length x) (length text - length x + p.length) ≡ token_from due text at
    token-in h = limited-in p (length text - length x) h ∙ told

-- the lemmas for `mark`, and for `first`
pub ruleset marks = (mark-last, mark-single, mark-pair)

pub ruleset firsts = (first-end, first-name, first-number, signed-told, first-mark, run_length)
