-- What keeps tokens apart: classes of bytes that exclude each other, and bytes that no row of keywords or marks has in a place. Assumes nothing.
use mathlib.Core.Path.{◌≡◌, refl, sym, ◌∙◌}
use mathlib.Core.Bool.{Bool, true, false, not, cond, ◌&&◌, ◌||◌}
use mathlib.Core.List.{List, [], ◌∷◌}
use Prim.Native.Nat.{ℕ, ◌≤◌, ◌<◌}
use native.Mathlib.Omega.{arith}
use borrow.Author.Tests.{eqb-true, ne_eqb, le-ltb, le-leb, lt-leb, not-true}
use lib.Dec.{eqb, ltb, leb}
use lib.ListN.{get_or, drop}
use Rattle.tokens.specs.Bytes.{between, is_white, is_digit, is_named}
use Rattle.tokens.specs.Spelling.{Row, row, keywords, later_keywords, pairs, singles}
use Rattle.tokens.specs.Rules.{All, In}
use Rattle.tokens.proofs.ByteLaws.{cases, true≢false, and_first, and_second, between-low, between-most}
use Rattle.tokens.proofs.SpellingLaws.{every, in-every}

-- ---- classes of bytes

pub between_in : (low high b : ℕ) → low ≤ b → b ≤ high → between low high b ≡ true
unfolding between
between_in low high b l h = rw (le-ltb b low l, le-leb b high h)

pub between-high : (low high b : ℕ) → high < b → between low high b ≡ false
unfolding between
between-high low high b h = cases (ltb b low) (λ e. rw e) (λ e. rw (e, lt-leb b high h))

pub white-space : is_white 32 ≡ true
unfolding is_white
white-space = refl

pub white-line : is_white 10 ≡ true
unfolding is_white
white-line = refl

pub minus-no-white : is_white 45 ≡ false
unfolding is_white
minus-no-white = refl

-- white space is below every letter and digit
pub white_low : (b : ℕ) → is_white b ≡ true → b ≤ 32
unfolding is_white
white_low b e =
    cases (eqb b 32) (λ x. omega (arith, eqb-true b 32 x))
    (λ x. cases (eqb b 9) (λ y. omega (arith, eqb-true b 9 y))
    (λ y. cases (eqb b 10) (λ z. omega (arith, eqb-true b 10 z))
    (λ z. omega (arith, eqb-true b 13 (rw (x, y, z) at e)))))

pub high-no-white : (b : ℕ) → 32 < b → is_white b ≡ false
high-no-white b h = cases (is_white b) (λ e. let z : ⊥ = omega (arith, white_low b e) in absurd z) (λ e. e)

pub white-no-digit : (b : ℕ) → is_white b ≡ true → is_digit b ≡ false
white-no-digit b e = between-low 48 57 b (omega (arith, white_low b e))

pub white-unnamed : (b : ℕ) → is_white b ≡ true → is_named b ≡ false
unfolding is_named
white-unnamed b e =
    let h : b ≤ 32 = white_low b e in
    rw (between-low 97 122 b (omega arith), between-low 65 90 b (omega arith), between-low 48 57 b (omega arith), ne_eqb b 95 (λ z. omega arith))

pub digit-named : (b : ℕ) → is_digit b ≡ true → is_named b ≡ true
unfolding is_named
digit-named b e =
    let h : b ≤ 57 = between-most 48 57 b e in
    rw (between-low 97 122 b (omega arith), between-low 65 90 b (omega arith), e)

pub unnamed-no-digit : (b : ℕ) → is_named b ≡ false → is_digit b ≡ false
unnamed-no-digit b e = cases (is_digit b) (λ d. true≢false (sym (digit-named b d) ∙ e)) (λ d. d)

-- marks that may follow a name directly
pub unnamed-41 : is_named 41 ≡ false
unfolding is_named between
unnamed-41 = refl

pub unnamed-44 : is_named 44 ≡ false
unfolding is_named between
unnamed-44 = refl

pub unnamed-46 : is_named 46 ≡ false
unfolding is_named between
unnamed-46 = refl

pub unnamed-58 : is_named 58 ≡ false
unfolding is_named between
unnamed-58 = refl

pub unnamed-59 : is_named 59 ≡ false
unfolding is_named between
unnamed-59 = refl

pub unnamed-125 : is_named 125 ≡ false
unfolding is_named between
unnamed-125 = refl

-- ---- rows

-- no keyword has a digit behind its first letter
abbrev second : Row → Bool
second r = not (is_digit (get_or r.spelling 1 0))

keywords-second : every second keywords ≡ true
unfolding keywords later_keywords between
keywords-second = refl

pub keyword-second : {s : List ℕ} {n : ℕ} → In (row s n) keywords → is_digit (get_or s 1 0) ≡ false
keyword-second {s} {n} i = not-true (is_digit (get_or s 1 0)) (in-every second (row s n) keywords keywords-second i)

-- and all of its bytes behind the first are of a name
abbrev all_named : List ℕ → Bool
all_named [] = true
all_named (b ∷ s) = is_named b && all_named s

all_named_lem : (s : List ℕ) → all_named s ≡ true → All is_named s
all_named_lem [] e = All.none
all_named_lem (b ∷ s) e = All.more (and_first (is_named b) (all_named s) e) (all_named_lem s (and_second (is_named b) (all_named s) e))

abbrev tail-named : Row → Bool
tail-named r = all_named (drop 1 r.spelling)

keywords-named : every tail-named keywords ≡ true
unfolding keywords later_keywords is_named between
keywords-named = refl

pub keyword-tail : {b n : ℕ} {s : List ℕ} → In (row (b ∷ s) n) keywords → All is_named s
keyword-tail {b} {n} {s} i = all_named_lem s (in-every tail-named (row (b ∷ s) n) keywords keywords-named i)

-- no mark begins with white space, or has it behind its first byte
abbrev dark : Row → Bool
dark r = not (is_white (get_or r.spelling 0 0))

pairs-dark : every dark pairs ≡ true
unfolding pairs is_white
pairs-dark = refl

singles-dark : every dark singles ≡ true
unfolding singles is_white
singles-dark = refl

pub pair-no-white : {s : List ℕ} {n : ℕ} → In (row s n) pairs → is_white (get_or s 0 0) ≡ false
pair-no-white {s} {n} i = not-true (is_white (get_or s 0 0)) (in-every dark (row s n) pairs pairs-dark i)

pub single-no-white : {s : List ℕ} {n : ℕ} → In (row s n) singles → is_white (get_or s 0 0) ≡ false
single-no-white {s} {n} i = not-true (is_white (get_or s 0 0)) (in-every dark (row s n) singles singles-dark i)

abbrev dark-behind : Row → Bool
dark-behind r = not (is_white (get_or r.spelling 1 0))

pairs-dark-behind : every dark-behind pairs ≡ true
unfolding pairs is_white
pairs-dark-behind = refl

pub pair-second : {b c n : ℕ} → In (row (b ∷ c ∷ []) n) pairs → is_white c ≡ false
pair-second {b} {c} {n} i = not-true (is_white c) (in-every dark-behind (row (b ∷ c ∷ []) n) pairs pairs-dark-behind i)

-- `, . ; { } ( )`, whose codes run from 32 to 38, begin no mark of two bytes, and are no `-`
abbrev joins : ℕ → Bool
joins b = eqb b 58 || eqb b 61 || eqb b 60 || eqb b 33 || eqb b 62 || eqb b 47

abbrev joining : Row → Bool
joining r = joins (get_or r.spelling 0 0)

pairs-joining : every joining pairs ≡ true
unfolding pairs
pairs-joining = refl

abbrev lonely : Row → Bool
lonely r = cond (leb 32 r.code && leb r.code 38) (not (joins (get_or r.spelling 0 0)) && not (eqb (get_or r.spelling 0 0) 45)) true

singles-lonely : every lonely singles ≡ true
unfolding singles
singles-lonely = refl

module _ {b c : ℕ} (i : In (row (b ∷ []) c) singles) (l : 32 ≤ c) (h : c ≤ 38) where
  alone-both : (not (joins b) && not (eqb b 45)) ≡ true
  alone-both = rw (le-leb 32 c l, le-leb c 38 h) at (in-every lonely (row (b ∷ []) c) singles singles-lonely i)

  pub alone-lone : (d n : ℕ) → In (row (b ∷ d ∷ []) n) pairs → ⊥
  alone-lone d n j =
      true≢false (sym (in-every joining (row (b ∷ d ∷ []) n) pairs pairs-joining j) ∙ not-true (joins b) (and_first (not (joins b)) (not (eqb b 45)) alone-both))

  pub alone-no-sign : b ≡ 45 → ⊥
  alone-no-sign e = true≢false (sym (and_second (not (joins b)) (not (eqb b 45)) alone-both) ∙ rw e)
