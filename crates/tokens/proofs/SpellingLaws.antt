-- Laws of the codes of spellings: the code of a row that is there, and of a spelling that no row has. Assumes nothing.
use mathlib.Core.Path.{◌≡◌, refl, sym, ap, ◌∙◌}
use mathlib.Core.Bool.{Bool, true, false, not, ◌&&◌}
use mathlib.Core.List.{List, [], ◌∷◌}
use Prim.Native.Nat.{ℕ, zero, suc, ◌<◌}
use borrow.Author.Tests.{eqb-true, ne_eqb, ltb-true, not-true}
use lib.Dec.{eqb, ltb}
use lib.ListN.{get_or, drop}
use Rattle.tokens.specs.Bytes.{between, is_lower, is_digit, spelt}
use Rattle.tokens.specs.Codes.{name_code, no_token}
use Rattle.tokens.specs.Spelling.{Row, row, code_of, keywords, later_keywords, pairs, singles}
use Rattle.tokens.specs.Rules.{In}
use Rattle.tokens.proofs.ByteLaws.{cases, true≢false, and_first, and_second, and-false, spelt-self, spelt-same}

-- ---- a row after the other

module _ (none : ℕ) (w : List ℕ) (n : ℕ) (rs : List Row) (s : List ℕ) where
  pub hit : spelt w s ≡ true → n ≡ code_of none (row w n ∷ rs) s
  unfolding code_of
  hit e = rw e

  pub miss : spelt w s ≡ false → code_of none rs s ≡ code_of none (row w n ∷ rs) s
  unfolding code_of
  miss e = rw e

pub code-none : (none : ℕ) (s : List ℕ) → none ≡ code_of none [] s
unfolding code_of
code-none none s = refl

-- ---- after some rows

-- the first k rows are spelt otherwise
abbrev pub Passed : ℕ → List Row → List ℕ → Type 0
Passed zero rs s = Unit {0}
Passed (suc k) [] s = Unit {0}
Passed (suc k) (r ∷ rs) s = (spelt r.spelling s ≡ false) × Passed k rs s

pub passed : (none k : ℕ) (rs : List Row) (s : List ℕ) → Passed k rs s → code_of none (drop k rs) s ≡ code_of none rs s
passed none zero rs s p = refl
passed none (suc k) [] s p = refl
passed none (suc k) (r ∷ rs) s p = passed none k rs s p.1 ∙ miss none r.spelling r.code rs s p.0

pub row_at : (none k : ℕ) (rs : List Row) (s : List ℕ) → Passed k rs s → {r : Row} {more : List Row} → drop k rs ≡ r ∷ more → spelt r.spelling s ≡ true → r.code ≡ code_of none rs s
row_at none k rs s p {r = r} {more = more} e h = hit none r.spelling r.code more s h ∙ ap (λ x. code_of none x s) (sym e) ∙ passed none k rs s p

-- ---- a row that is there, and none

not_first : (r : Row) (rs : List Row) (s : List ℕ) → spelt r.spelling s ≡ false → ((n : ℕ) → In (row s n) rs → ⊥) → (n : ℕ) → In (row s n) (r ∷ rs) → ⊥
not_first r rs s e bar n In.here = true≢false (sym (spelt-self s) ∙ e)
not_first r rs s e bar n (In.later i) = bar n i

pub by_code {ℓ} : {X : Type ℓ} (none : ℕ) (rs : List Row) (s : List ℕ) → ((n : ℕ) → In (row s n) rs → code_of none rs s ≡ n → X)
    → (((n : ℕ) → In (row s n) rs → ⊥) → code_of none rs s ≡ none → X) → X
by_code none [] s f g = g (λ n i. elim (i) [ ]) (sym (code-none none s))
by_code none (r ∷ rs) s f g =
    cases (spelt r.spelling s)
    (λ e. f r.code (rw (spelt-same r.spelling s e) In.here) (sym (hit none r.spelling r.code rs s e)))
    (λ e. let on = miss none r.spelling r.code rs s e in
    by_code none rs s (λ n i k. f n (In.later i) (sym on ∙ k)) (λ bar k. g (not_first r rs s e bar) (sym on ∙ k)))

pub in-none : (none : ℕ) (rs : List Row) (s : List ℕ) → ((n : ℕ) → In (row s n) rs → ⊥) → code_of none rs s ≡ none
in-none none rs s bar = by_code none rs s (λ n i k. absurd (bar n i)) (λ _ k. k)

-- ---- tests of every row

abbrev pub every : (Row → Bool) → List Row → Bool
every t [] = true
every t (r ∷ rs) = t r && every t rs

pub in-every : (t : Row → Bool) (r : Row) (rs : List Row) → every t rs ≡ true → In r rs → t r ≡ true
in-every t r [] e i = elim i [ ]
in-every t r (q ∷ rs) e In.here = and_first (t r) (every t rs) e
in-every t r (q ∷ rs) e (In.later i) = in-every t r rs (and_second (t q) (every t rs) e) i

-- its code is found by its spelling
abbrev own : ℕ → List Row → Row → Bool
own none rs r = eqb (code_of none rs r.spelling) r.code

abbrev first : Row → ℕ
first r = get_or r.spelling 0 0

abbrev lower : Row → Bool
lower r = is_lower (first r)

-- it begins with neither a letter nor a digit
abbrev apart : Row → Bool
apart r = not (is_lower (first r)) && not (is_digit (first r))

abbrev plain : Row → Bool
plain r = not (eqb (first r) 45)

-- its code is none of those that no spelling has
abbrev great : Row → Bool
great r = ltb 9 r.code

keywords-great : every great keywords ≡ true
unfolding keywords later_keywords
keywords-great = refl

pairs-great : every great pairs ≡ true
unfolding pairs
pairs-great = refl

singles-great : every great singles ≡ true
unfolding singles
singles-great = refl

keywords-own : every (own name_code keywords) keywords ≡ true
unfolding keywords later_keywords code_of spelt
keywords-own = refl

keywords-lower : every lower keywords ≡ true
unfolding keywords later_keywords between
keywords-lower = refl

pairs-own : every (own no_token pairs) pairs ≡ true
unfolding pairs code_of spelt
pairs-own = refl

pairs-apart : every apart pairs ≡ true
unfolding pairs between
pairs-apart = refl

pairs-plain : every plain pairs ≡ true
unfolding pairs
pairs-plain = refl

singles-own : every (own no_token singles) singles ≡ true
unfolding singles code_of spelt
singles-own = refl

singles-apart : every apart singles ≡ true
unfolding singles between
singles-apart = refl

module _ {s : List ℕ} {n : ℕ} (i : In (row s n) keywords) where
  pub keyword-code : code_of name_code keywords s ≡ n
  keyword-code = eqb-true (code_of name_code keywords s) n (in-every (own name_code keywords) (row s n) keywords keywords-own i)

  pub keyword-great : 9 < n
  keyword-great = ltb-true 9 n (in-every great (row s n) keywords keywords-great i)

  pub keyword-lower : is_lower (get_or s 0 0) ≡ true
  keyword-lower = in-every lower (row s n) keywords keywords-lower i

module _ {s : List ℕ} {n : ℕ} (i : In (row s n) pairs) where
  pub pair_code : code_of no_token pairs s ≡ n
  pair_code = eqb-true (code_of no_token pairs s) n (in-every (own no_token pairs) (row s n) pairs pairs-own i)

  pub pair-great : 9 < n
  pair-great = ltb-true 9 n (in-every great (row s n) pairs pairs-great i)

  pub pair-no-letter : is_lower (get_or s 0 0) ≡ false
  pair-no-letter = not-true (is_lower (get_or s 0 0)) (and_first (not (is_lower (get_or s 0 0))) (not (is_digit (get_or s 0 0))) (in-every apart (row s n) pairs pairs-apart i))

  pub pair-no-digit : is_digit (get_or s 0 0) ≡ false
  pair-no-digit = not-true (is_digit (get_or s 0 0)) (and_second (not (is_lower (get_or s 0 0))) (not (is_digit (get_or s 0 0))) (in-every apart (row s n) pairs pairs-apart i))

  pub pair-no-sign : eqb (get_or s 0 0) 45 ≡ false
  pair-no-sign = not-true (eqb (get_or s 0 0) 45) (in-every plain (row s n) pairs pairs-plain i)

module _ {s : List ℕ} {n : ℕ} (i : In (row s n) singles) where
  pub single-code : code_of no_token singles s ≡ n
  single-code = eqb-true (code_of no_token singles s) n (in-every (own no_token singles) (row s n) singles singles-own i)

  pub single-great : 9 < n
  single-great = ltb-true 9 n (in-every great (row s n) singles singles-great i)

  pub single-no-letter : is_lower (get_or s 0 0) ≡ false
  single-no-letter = not-true (is_lower (get_or s 0 0)) (and_first (not (is_lower (get_or s 0 0))) (not (is_digit (get_or s 0 0))) (in-every apart (row s n) singles singles-apart i))

  pub single-no-digit : is_digit (get_or s 0 0) ≡ false
  single-no-digit = not-true (is_digit (get_or s 0 0)) (and_second (not (is_lower (get_or s 0 0))) (not (is_digit (get_or s 0 0))) (in-every apart (row s n) singles singles-apart i))

-- `-` is a mark
pub minus-there : In (row (45 ∷ []) 42) singles
unfolding singles
minus-there = In.later (In.later (In.later (In.later (In.later (In.later (In.later (In.later (In.later In.here))))))))

-- ---- two bytes that are no mark

and-not : (a b : Bool) → (a ≡ true → b ≡ false) → (a && b) ≡ false
and-not true b f = f refl
and-not false b f = refl

pub pair-other : (b c : ℕ) → (c ≡ 61 → ⊥) → (b ≡ 47 → c ≡ 92 → ⊥) → 3 ≡ code_of no_token pairs (b ∷ c ∷ [])
unfolding pairs code_of spelt
pair-other b c h k =
    rw (
      ne_eqb c 61 h,
      and-false (eqb b 58) false refl,
      and-false (eqb b 61) false refl,
      and-false (eqb b 60) false refl,
      and-false (eqb b 33) false refl,
      and-false (eqb b 62) false refl,
      and-not (eqb b 47) (eqb c 92 && true) (λ e. rw (ne_eqb c 92 (k (eqb-true b 47 e)))),
    )
