-- Bytes begin with exactly the token that is found. Assumes nothing.
use mathlib.Core.Path.{◌≡◌, refl, sym, ap, subst, ◌∙◌}
use mathlib.Core.Bool.{Bool, true, false}
use mathlib.Core.List.{List, [], ◌∷◌, ◌++◌, append_assoc}
use Prim.Native.Nat.{ℕ, suc, ◌+◌, ◌-◌, ◌≤◌, ◌<◌}
use native.Mathlib.Omega.{arith}
use borrow.Author.Tests.{eqb-true, eqb-false}
use lib.Dec.{eqb}
use lib.ListN.{length, get_or, take, length-append}
use lib.Seq.{take-append_seam}
use Rattle.tokens.specs.declared.Piece.{Piece}
use Rattle.tokens.specs.Bytes.{between, is_lower, is_digit, is_named}
use Rattle.tokens.specs.Codes.{name_code, number_code, no_token}
use Rattle.tokens.specs.Spelling.{row, code_of, keywords, pairs, singles}
use Rattle.tokens.specs.Tokens.{piece, name_length, asked_from, name_at, single_at, mark_at, signs, token_at, rest_from}
use Rattle.tokens.specs.Rules.{All, Over, In, Tail, Sign, Lone, TokenIs, is_question}
use Rattle.tokens.specs.Claims.{Begins}
use Rattle.tokens.proofs.ByteLaws.{cases, true≢false, and_first, and_second, between-low, between-most}
use Rattle.tokens.proofs.SpellingLaws.{by_code, in-none, keyword-code, keyword-great, keyword-lower, pair_code, pair-great, pair-no-letter, pair-no-digit, pair-no-sign, single-code, single-great, single-no-letter, single-no-digit, minus-there}
use Rattle.tokens.proofs.TokenLaws.{mark-last, mark-single, mark-pair, first-end, first-name, first-number, first_signed, first-mark, rest-shorter, token-past, token-in}
use Rattle.tokens.proofs.RunLaws.{run_is, Split, split, TailSplit, tail-split}

-- ---- a name

lower-named : (b : ℕ) → is_lower b ≡ true → is_named b ≡ true
unfolding is_named
lower-named b e = rw e

digit-no-letter : (b : ℕ) → is_digit b ≡ true → is_lower b ≡ false
digit-no-letter b e = between-low 97 122 b (let h : b ≤ 57 = between-most 48 57 b e in omega arith)

named-question : is_named 63 ≡ false
unfolding is_named between
named-question = refl

minus-no-letter : is_lower 45 ≡ false
unfolding between
minus-no-letter = refl

minus-no-digit : is_digit 45 ≡ false
unfolding between
minus-no-digit = refl

-- the byte behind a run of n bytes decides
asked-off : (s : List ℕ) (n : ℕ) → eqb (get_or s n 0) 63 ≡ false → asked_from s n ≡ n
unfolding asked_from
asked-off s n e = rw e

asked-on : (s : List ℕ) (n : ℕ) → eqb (get_or s n 0) 63 ≡ true → asked_from s n ≡ suc n
unfolding asked_from
asked-on s n e = rw e

over_first : (t : List ℕ) → Over is_question t → eqb (get_or t 0 0) 63 ≡ false
over_first [] o = refl
over_first (b ∷ t) (Over.other e) = e

append-first : (s t : List ℕ) → get_or (s ++ t) (length s) 0 ≡ get_or t 0 0
append-first [] t = refl
append-first (b ∷ s) t = append-first s t

tail-length : (b : ℕ) (s t : List ℕ) → is_lower b ≡ true → Tail s t → name_length (b ∷ s ++ t) ≡ suc (length s)
unfolding name_length
tail-length b s t l (Tail.plain a o q) =
    ap (λ n. asked_from (b ∷ s ++ t) n) (run_is is_named (b ∷ s) t (All.more (lower-named b l) a) o)
    ∙ asked-off (b ∷ s ++ t) (suc (length s)) (rw (append-first s t) (over_first t q))
tail-length b _ t l (Tail.asked {s = s} a) =
    rw (append_assoc s (63 ∷ []) t, length-append s (63 ∷ []))
    (ap (λ n. asked_from (b ∷ s ++ 63 ∷ t) n) (run_is is_named (b ∷ s) (63 ∷ t) (All.more (lower-named b l) a) (Over.other named-question))
    ∙ asked-on (b ∷ s ++ 63 ∷ t) (suc (length s)) (rw (append-first s (63 ∷ t)))
    ∙ (let z : suc (suc (length s)) ≡ suc (length s + 1) = omega arith in z))

name-is : (b : ℕ) (s t : List ℕ) → is_lower b ≡ true → Tail s t → name_at (b ∷ s ++ t) ≡ piece (code_of name_code keywords (b ∷ s)) (suc (length s))
unfolding name_at
name-is b s t l tl =
    ap (λ n. piece (code_of name_code keywords (take n (b ∷ s ++ t))) n) (tail-length b s t l tl)
    ∙ ap (λ q. piece (code_of name_code keywords q) (suc (length s))) (take-append_seam (b ∷ s) t)

-- ---- a sign

sign-told : (due : Bool) (s : List ℕ) → Sign due s → signs due s ≡ true
unfolding signs
sign-told _ _ (Sign.sign e) = e

sign-there : (due : Bool) (s : List ℕ) → signs due s ≡ true → Sign due s
unfolding signs between
sign-there false s e = true≢false (sym e)
sign-there true [] e = true≢false (sym e)
sign-there true (b ∷ []) e = true≢false (sym (and_second (eqb b 45) false e))
sign-there true (b ∷ d ∷ t) e =
    let h : b ≡ 45 = eqb-true b 45 (and_first (eqb b 45) (is_digit d) e) in
    rw h (Sign.sign (and_second (eqb b 45) (is_digit d) e))

unsigned : (due : Bool) (s : List ℕ) → (Sign due s → ⊥) → signs due s ≡ false
unsigned due s bar = cases (signs due s) (λ e. absurd (bar (sign-there due s e))) (λ e. e)

sign-minus : {due : Bool} {b : ℕ} {t : List ℕ} → Sign due (b ∷ t) → b ≡ 45
sign-minus (Sign.sign e) = refl

-- ---- what begins with a token is found as it

lone-single : (b : ℕ) (t : List ℕ) → Lone b t → mark_at b t ≡ single_at b
lone-single b _ Lone.last = sym (mark-last (b ∷ []) (omega arith))
lone-single b _ (Lone.before {c = c} {t = t} bar) = sym (mark-single (b ∷ c ∷ t) (omega arith) (in-none no_token pairs (b ∷ c ∷ []) bar))

single-is : (b n : ℕ) → code_of no_token singles (b ∷ []) ≡ n → single_at b ≡ piece n 1
unfolding single_at
single-is b n e = ap (λ c. piece c 1) e

some_bytes : (b : ℕ) (s : List ℕ) → length (b ∷ s) ≡ 0 → ⊥
some_bytes b s e = omega arith

-- a mark, where nothing else begins
marked : (due : Bool) (b n : ℕ) (t : List ℕ) → is_lower b ≡ false → is_digit b ≡ false → (Sign due (b ∷ t) → ⊥) → Lone b t → code_of no_token singles (b ∷ []) ≡ n → token_at due (b ∷ t) ≡ piece n 1
marked due b n t l d bar o e = sym (first-mark due (b ∷ t) (some_bytes b t) l d (unsigned due (b ∷ t) bar)) ∙ lone-single b t o ∙ single-is b n e

pub complete : (due : Bool) (s : List ℕ) (c n : ℕ) → TokenIs due s c n → token_at due s ≡ piece c n
complete due _ _ _ TokenIs.ended = sym (first-end due [] refl)
complete due _ _ _ (TokenIs.name {b = b} {s = s} {t = t} l tl bar) =
    sym (first-name due (b ∷ s ++ t) (some_bytes b (s ++ t)) l) ∙ name-is b s t l tl ∙ ap (λ c. piece c (suc (length s))) (in-none name_code keywords (b ∷ s) bar)
complete due _ _ _ (TokenIs.keyword {b = b} {n = n} {s = s} {t = t} tl i) =
    sym (first-name due (b ∷ s ++ t) (some_bytes b (s ++ t)) (keyword-lower i)) ∙ name-is b s t (keyword-lower i) tl ∙ ap (λ c. piece c (suc (length s))) (keyword-code i)
complete due _ _ _ (TokenIs.number {b = b} {s = s} {t = t} d a o) =
    sym (first-number due (b ∷ s ++ t) (some_bytes b (s ++ t)) (digit-no-letter b d) d) ∙ ap (λ k. piece number_code k) (run_is is_digit (b ∷ s) t (All.more d a) o)
complete due _ _ _ (TokenIs.signed {b = b} {s = s} {t = t} e d a o) =
    sym (first_signed due (45 ∷ b ∷ s ++ t) (some_bytes 45 (b ∷ s ++ t)) minus-no-letter minus-no-digit (sign-told due (45 ∷ b ∷ s ++ t) (rw e (Sign.sign d))))
    ∙ ap (λ k. piece number_code (suc k)) (run_is is_digit (b ∷ s) t (All.more d a) o)
complete due _ _ _ (TokenIs.pair {b = b} {c = c} {n = n} {t = t} i) =
    sym (first-mark due (b ∷ c ∷ t) (some_bytes b (c ∷ t)) (pair-no-letter i) (pair-no-digit i) (unsigned due (b ∷ c ∷ t) (λ g. eqb-false b 45 (pair-no-sign i) (sign-minus g))))
    ∙ sym (mark-pair (b ∷ c ∷ t) (omega arith) (λ z. omega (arith, pair-great i, sym (pair_code i) ∙ z)))
    ∙ ap (λ k. piece k 2) (pair_code i)
complete due _ _ _ (TokenIs.single {b = b} {n = n} {t = t} i bar o) = marked due b n t (single-no-letter i) (single-no-digit i) bar o (single-code i)
complete due _ _ _ (TokenIs.unfit {b = b} {t = t} l d o bar) =
    marked due b no_token t l d (λ g. bar 42 (subst (λ x. In (row (x ∷ []) 42) singles) (sym (sign-minus g)) minus-there)) o (in-none no_token singles (b ∷ []) bar)

-- ---- all bytes begin with a token

pub record Some (due : Bool) (s : List ℕ) : Type 0 where
  pub code : ℕ
  pub long : ℕ
  pub rule : TokenIs due s code long

some_of : {due : Bool} {s : List ℕ} {c n : ℕ} → TokenIs due s c n → Some due s
some_of {c = c} {n = n} t = record { code = c; long = n; rule = t }

some-name : (due : Bool) (b : ℕ) (s : List ℕ) → is_lower b ≡ true → Some due (b ∷ s)
some-name due b s l =
    let r : TailSplit s = tail-split s in
    subst (λ x. Some due (b ∷ x)) (sym r.is)
    (by_code name_code keywords (b ∷ r.front) (λ n i k. some_of (TokenIs.keyword r.tail i)) (λ bar k. some_of (TokenIs.name l r.tail bar)))

some_number : (due : Bool) (b : ℕ) (s : List ℕ) → is_digit b ≡ true → Some due (b ∷ s)
some_number due b s d =
    let r : Split is_digit s = split is_digit s in
    subst (λ x. Some due (b ∷ x)) (sym r.is) (some_of (TokenIs.number d r.all r.over))

some-signed : (due : Bool) (s : List ℕ) → Sign due s → Some due s
some-signed _ _ (Sign.sign {d = d} {t = t} e) =
    let r : Split is_digit t = split is_digit t in
    subst (λ x. Some true (45 ∷ d ∷ x)) (sym r.is) (some_of (TokenIs.signed refl e r.all r.over))

module _ (due : Bool) (b : ℕ) (l : is_lower b ≡ false) (d : is_digit b ≡ false) where
  some-single : (t : List ℕ) → (Sign due (b ∷ t) → ⊥) → Lone b t → Some due (b ∷ t)
  some-single t bar o = by_code no_token singles (b ∷ []) (λ n i k. some_of (TokenIs.single i bar o)) (λ none k. some_of (TokenIs.unfit l d o none))

  some-mark : (t : List ℕ) → (Sign due (b ∷ t) → ⊥) → Some due (b ∷ t)
  some-mark [] bar = some-single [] bar Lone.last
  some-mark (c ∷ t) bar = by_code no_token pairs (b ∷ c ∷ []) (λ n i k. some_of (TokenIs.pair i)) (λ none k. some-single (c ∷ t) bar (Lone.before none))

pub some : (due : Bool) (s : List ℕ) → Some due s
some due [] = some_of TokenIs.ended
some due (b ∷ s) =
    cases (is_lower b) (λ l. some-name due b s l)
    (λ l. cases (is_digit b) (λ d. some_number due b s d)
    (λ d. cases (signs due (b ∷ s)) (λ g. some-signed due (b ∷ s) (sign-there due (b ∷ s) g))
    (λ g. some-mark due b l d s (λ h. true≢false (sym (sign-told due (b ∷ s) h) ∙ g)))))

pub found : (due : Bool) (s : List ℕ) → TokenIs due s (token_at due s).code (token_at due s).length
found due s =
    let r : Some due s = some due s in
    subst (λ (p : Piece). TokenIs due s p.code p.length) (sym (complete due s r.code r.long r.rule)) r.rule

pub begins : Begins
begins due s c n = (λ e. subst (λ (p : Piece). TokenIs due s p.code p.length) e (found due s), complete due s c n)

-- so a token is one
pub one_token : (due : Bool) (s : List ℕ) {c n d m : ℕ} → TokenIs due s c n → TokenIs due s d m → piece c n ≡ piece d m
one_token due s {c = c} {n = n} {d = d} {m = m} t u = sym (complete due s c n t) ∙ complete due s d m u

-- ---- how many bytes it takes

pub by_length {ℓ} : {X : Type ℓ} {due : Bool} {s : List ℕ} {c n : ℕ} → TokenIs due s c n → (s ≡ [] → c ≡ 0 → n ≡ 0 → X)
    → ((c ≡ 0 → ⊥) → (c ≡ 4 → ⊥) → 0 < n → n ≤ length s → X) → X
by_length TokenIs.ended f g = f refl refl refl
by_length (TokenIs.name {s = s} {t = t} l tl bar) f g = g (λ z. omega arith) (λ z. omega arith) (omega arith) (omega (arith, length-append s t))
by_length (TokenIs.keyword {s = s} {t = t} tl i) f g = let k = keyword-great i in g (λ z. omega arith) (λ z. omega arith) (omega arith) (omega (arith, length-append s t))
by_length (TokenIs.number {s = s} {t = t} d a o) f g = g (λ z. omega arith) (λ z. omega arith) (omega arith) (omega (arith, length-append s t))
by_length (TokenIs.signed {s = s} {t = t} e d a o) f g = g (λ z. omega arith) (λ z. omega arith) (omega arith) (omega (arith, length-append s t))
by_length (TokenIs.pair i) f g = let k = pair-great i in g (λ z. omega arith) (λ z. omega arith) (omega arith) (omega arith)
by_length (TokenIs.single i bar o) f g = let k = single-great i in g (λ z. omega arith) (λ z. omega arith) (omega arith) (omega arith)
by_length (TokenIs.unfit l d o bar) f g = g (λ z. omega arith) (λ z. omega arith) (omega arith) (omega arith)

pub token-inside : (due : Bool) (s : List ℕ) → (token_at due s).length ≤ length s
token-inside due s = by_length (found due s) (λ e k h. omega (arith, h)) (λ a b h k. k)

pub end-inside : (due : Bool) (text : List ℕ) (at : ℕ) {x : List ℕ} → x ≡ rest_from text at → {p : Piece} → p ≡ token_at due x → length text - length x + p.length ≤ length text
end-inside due text at {x = x} e q = let h : length x ≤ length text = rest-shorter due text at e in rw q (omega (arith, token-inside due x))

-- the lemmas for `token`
pub ruleset in_text = (rest-shorter, token-past, token-in, end-inside)
