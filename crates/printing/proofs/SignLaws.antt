-- Each sign begins the token that it stands for, with what may follow it. Assumes nothing.
use mathlib.Core.Path.{◌≡◌, refl, sym, ap, subst, ◌∙◌}
use mathlib.Core.Bool.{Bool, true, false, true≢false, ◌&&◌}
use mathlib.Core.List.{List, [], ◌∷◌, ◌++◌, append-nil}
use Prim.Native.Nat.{ℕ, suc, ◌+◌, ◌≤◌, ◌<◌}
use native.Mathlib.Omega.{arith}
use borrow.Author.Tests.{eqb-true, ne_eqb, ltb-true}
use lib.Dec.{eqb}
use lib.IntN.{ℤ, pos, negsuc}
use lib.ListN.{length, length-append}
use Rattle.words.specs.Range.{fits}
use Rattle.tables.proofs.SearchLaws.{and_left, and_right}
use Rattle.tokens.specs.declared.Token.{Token}
use Rattle.tokens.specs.Bytes.{is_white, is_lower, is_digit, is_named}
use Rattle.tokens.specs.Codes.{name_code, number_code}
use Rattle.tokens.specs.Spelling.{row, keywords, pairs, singles}
use Rattle.tokens.specs.Tokens.{token_from}
use Rattle.tokens.specs.Rules.{All, Over, In, Tail, Sign as Signed, Lone, TokenIs, TokenFrom, is_question}
use Rattle.tokens.proofs.ByteLaws.{between-least}
use Rattle.tokens.proofs.SpellingLaws.{keyword-great, keyword-lower, pair-great, single-great}
use Rattle.tokens.proofs.TextRules.{follows-found}
use Rattle.tokens.proofs.ApartLaws.{between_in, white_low, high-no-white, white-no-digit, white-unnamed, unnamed-no-digit, minus-no-white, keyword-tail, pair-no-white, single-no-white, pair-second, alone-lone, alone-no-sign}
use Rattle.lister.specs.Numerals.{numeral}
use Rattle.lister.specs.Grammar.{Digits, Numeral}
use Rattle.lister.proofs.NumeralGrammar.{numeral-written}
use Rattle.printing.specs.Signs.{Sign}
use Rattle.printing.specs.Naming.{Naming, bytes_of}
use Rattle.printing.specs.Faults.{is_name}
use Rattle.printing.specs.Spaced.{Opened, Ends, Alone, Fixed}

-- bytes that begin with a token of this code, which takes so many of them, and with no white space
pub record Begins (due : Bool) (s rest : List ℕ) (c : ℕ) : Type 0 where
  pub token : TokenIs due (s ++ rest) c (length s)
  pub dark : Over is_white (s ++ rest)
  pub some : 0 < length s

-- ---- what follows

opened-bytes {ℓ} : {X : Type ℓ} (N : Naming) {ss : List Sign} → Opened ss → ((b : ℕ) (t : List ℕ) → is_white b ≡ true → bytes_of N ss ≡ b ∷ t → X) → X
opened-bytes N (Opened.opened {b = b} {s = s} {ss = ss} w a) k = k b (s ++ bytes_of N ss) w refl

pub ends_named : (N : Naming) {ss : List Sign} → Ends ss → Over is_named (bytes_of N ss)
ends_named N Ends.over = Over.ended
ends_named N (Ends.spaced o) = opened-bytes N o λ b t w e. rw e (Over.other (white-unnamed b w))
ends_named N (Ends.marked a q) = Over.other a

pub ends-question : (N : Naming) {ss : List Sign} → Ends ss → Over is_question (bytes_of N ss)
ends-question N Ends.over = Over.ended
ends-question N (Ends.spaced o) = opened-bytes N o λ b t w e. rw e (Over.other (ne_eqb b 63 (λ z. omega (arith, white_low b w))))
ends-question N (Ends.marked a q) = Over.other q

digits-over : {t : List ℕ} → Over is_named t → Over is_digit t
digits-over Over.ended = Over.ended
digits-over (Over.other {b = b} e) = Over.other (unnamed-no-digit b e)

-- ---- names

-- a first letter, and what stands behind it, before anything that ends a name
record Name (s : List ℕ) : Type 0 where
  first : ℕ
  others : List ℕ
  is : s ≡ first ∷ others
  lower : is_lower first ≡ true
  tail : (t : List ℕ) → Over is_named t → Over is_question t → Tail others t
  bar : (n : ℕ) → In (row (first ∷ others) n) keywords → ⊥

tail-on : {s t : List ℕ} → Tail s t → (u : List ℕ) → Over is_named u → Over is_question u → Tail s u
tail-on (Tail.plain a o q) u p r = Tail.plain a p r
tail-on (Tail.asked a) u p r = Tail.asked a

nothing-behind : (s t : List ℕ) → suc (length s) ≡ length (s ++ t) + 1 → t ≡ []
nothing-behind s [] e = refl
nothing-behind s (b ∷ t) e = let z : ⊥ = omega (arith, length-append s (b ∷ t)) in absurd z

name-whole : {due : Bool} {s : List ℕ} {c n : ℕ} → TokenIs due s c n → c ≡ name_code → n ≡ length s → Name s
name-whole TokenIs.ended e k = let z : ⊥ = omega arith in absurd z
name-whole (TokenIs.name {b = b} {s = s} {t = t} l tl bar) e k =
    let z : t ≡ [] = nothing-behind s t (omega arith) in
    record { first = b; others = s; is = rw (z, append-nil s); lower = l; tail = λ u o q. tail-on tl u o q; bar = bar }
name-whole (TokenIs.keyword tl i) e k = let z : ⊥ = omega (arith, keyword-great i) in absurd z
name-whole (TokenIs.number d a o) e k = let z : ⊥ = omega arith in absurd z
name-whole (TokenIs.signed u d a o) e k = let z : ⊥ = omega arith in absurd z
name-whole (TokenIs.pair i) e k = let z : ⊥ = omega (arith, pair-great i) in absurd z
name-whole (TokenIs.single i bar o) e k = let z : ⊥ = omega (arith, single-great i) in absurd z
name-whole (TokenIs.unfit l d o bar) e k = let z : ⊥ = omega arith in absurd z

no_bytes : (w : List ℕ) → length w ≡ 0 → w ≡ []
no_bytes [] e = refl
no_bytes (b ∷ w) e = let z : ⊥ = omega arith in absurd z

name-from : {s : List ℕ} {t : Token} → TokenFrom false s 0 t → t.code ≡ name_code → t.place ≡ 0 → t.end ≡ length s → Name s
name-from {s} (TokenFrom.within {w = w} {r = r} {n = n} is a o t l) e p k =
    let z : w ≡ [] = no_bytes w (omega arith) in
    let q : s ≡ r = is ∙ rw z in
    let m : n ≡ length r = rw q at (let j : n ≡ length s = omega arith in j) in
    rw q (name-whole t e m)
name-from (TokenFrom.beyond is a o t l) e p k = let z : ⊥ = omega arith in absurd z

is_name_lem : (s : List ℕ) → is_name s ≡ true → Name s
unfolding is_name
is_name_lem s e =
    let t : Token = token_from false s 0 in
    let a : (eqb t.code name_code && eqb t.place 0) ≡ true = and_left (eqb t.code name_code && eqb t.place 0) (eqb t.end (length s)) e in
    name-from (follows-found false s 0 (omega arith))
    (eqb-true t.code name_code (and_left (eqb t.code name_code) (eqb t.place 0) a))
    (eqb-true t.place 0 (and_right (eqb t.code name_code) (eqb t.place 0) a))
    (eqb-true t.end (length s) (and_right (eqb t.code name_code && eqb t.place 0) (eqb t.end (length s)) e))

lower-dark : (b : ℕ) → is_lower b ≡ true → is_white b ≡ false
lower-dark b e = let l : 97 ≤ b = between-least 97 122 b e in high-no-white b (omega arith)

pub name-begins : (due : Bool) (N : Naming) (s : List ℕ) {ss : List Sign} → is_name s ≡ true → Ends ss → Begins due s (bytes_of N ss) name_code
name-begins due N s {ss} e k =
    let n : Name s = is_name_lem s e in
    subst (λ (x : List ℕ). Begins due x (bytes_of N ss) name_code) (sym n.is)
    (record {
      token = TokenIs.name n.lower (n.tail (bytes_of N ss) (ends_named N k) (ends-question N k)) n.bar;
      dark = Over.other (lower-dark n.first n.lower);
      some = omega arith;
    })

-- ---- numbers

-- a digit, and digits behind it
pub record Counts (s : List ℕ) : Type 0 where
  pub first : ℕ
  pub others : List ℕ
  pub is : s ≡ first ∷ others
  pub digit : is_digit first ≡ true
  pub all : All is_digit others

all_end : {p : ℕ → Bool} {s : List ℕ} {b : ℕ} → All p s → p b ≡ true → All p (s ++ b ∷ [])
all_end All.none e = All.more e All.none
all_end (All.more x a) e = All.more x (all_end a e)

digit-is : (d : ℕ) → d < 10 → is_digit (48 + d) ≡ true
digit-is d h = between_in 48 57 (48 + d) (omega arith) (omega arith)

digits-count : {s : List ℕ} {n : ℕ} → Digits s n → Counts s
digits-count (Digits.first {d = d} l h) = record { first = 48 + d; others = []; is = refl; digit = digit-is d h; all = All.none }
digits-count (Digits.next {s = s} {d = d} k h) =
    let c : Counts s = digits-count k in
    record { first = c.first; others = c.others ++ (48 + d) ∷ []; is = ap (λ (x : List ℕ). x ++ (48 + d) ∷ []) c.is; digit = c.digit; all = all_end c.all (digit-is d h) }

digit-dark : (b : ℕ) → is_digit b ≡ true → is_white b ≡ false
digit-dark b e = let l : 48 ≤ b = between-least 48 57 b e in high-no-white b (omega arith)

counted : (due : Bool) (t : List ℕ) {s : List ℕ} → Counts s → Over is_named t → Begins due s t number_code
counted due t c o =
    subst (λ (x : List ℕ). Begins due x t number_code) (sym c.is)
    (record { token = TokenIs.number c.digit c.all (digits-over o); dark = Over.other (digit-dark c.first c.digit); some = omega arith })

signed : (t : List ℕ) {s : List ℕ} → Counts s → Over is_named t → Begins true (45 ∷ s) t number_code
signed t c o =
    subst (λ (x : List ℕ). Begins true (45 ∷ x) t number_code) (sym c.is)
    (record { token = TokenIs.signed refl c.digit c.all (digits-over o); dark = Over.other minus-no-white; some = omega arith })

nought : Counts (48 ∷ [])
nought = record { first = 48; others = []; is = refl; digit = digit-is 0 (omega arith); all = All.none }

-- the digits of a number that is not below 0
positive-counts : {s : List ℕ} {z : ℤ} (n : ℕ) → z ≡ pos n → Numeral s z → Counts s
positive-counts n e Numeral.nought = nought
positive-counts n e (Numeral.positive d h) = digits-count d
positive-counts n e (Numeral.negative d h) = let z : ◌≡◌ {A = ℕ} 0 1 = cc in let y : ⊥ = omega arith in absurd y

numeral-begins : (t : List ℕ) {s : List ℕ} {z : ℤ} → Numeral s z → Over is_named t → Begins true s t number_code
numeral-begins t Numeral.nought o = counted true t nought o
numeral-begins t (Numeral.positive d h) o = counted true t (digits-count d) o
numeral-begins t (Numeral.negative d h) o = signed t (digits-count d) o

pub numeral-is : (z : ℤ) → fits z ≡ true → Numeral (numeral z) z
numeral-is (pos n) e = numeral-written (pos n) (ltb-true n 2147483648 e)
numeral-is (negsuc n) e = numeral-written (negsuc n) (ltb-true n 2147483648 e)

pub numeral-counts : (n : ℕ) → n < 2147483648 → Counts (numeral (pos n))
numeral-counts n h = positive-counts n refl (numeral-written (pos n) h)

pub integer-begins : (N : Naming) (z : ℤ) {ss : List Sign} → fits z ≡ true → Ends ss → Begins true (numeral z) (bytes_of N ss) number_code
integer-begins N z {ss} e k = numeral-begins (bytes_of N ss) (numeral-is z e) (ends_named N k)

-- ---- keywords and marks

alone-codes : {c : ℕ} → Alone c → (32 ≤ c) × (c ≤ 38)
alone-codes Alone.comma = (omega arith, omega arith)
alone-codes Alone.dot = (omega arith, omega arith)
alone-codes Alone.semicolon = (omega arith, omega arith)
alone-codes Alone.open_brace = (omega arith, omega arith)
alone-codes Alone.close_brace = (omega arith, omega arith)
alone-codes Alone.open_bracket = (omega arith, omega arith)
alone-codes Alone.close_bracket = (omega arith, omega arith)

lone : (b : ℕ) (t : List ℕ) → ((d n : ℕ) → In (row (b ∷ d ∷ []) n) pairs → ⊥) → Lone b t
lone b [] bar = Lone.last
lone b (d ∷ t) bar = Lone.before (λ n. bar d n)

sign-byte : {due : Bool} {b : ℕ} {t : List ℕ} → Signed due (b ∷ t) → b ≡ 45
sign-byte (Signed.sign e) = refl

sign-next : {due : Bool} {b c : ℕ} {t : List ℕ} → Signed due (b ∷ c ∷ t) → is_digit c ≡ true
sign-next (Signed.sign e) = e

single-before-white : {due : Bool} {b c w : ℕ} {t : List ℕ} → In (row (b ∷ []) c) singles → is_white w ≡ true → TokenIs due (b ∷ w ∷ t) c 1
single-before-white {b = b} {w = w} i e =
    TokenIs.single i (λ g. true≢false (sym (sign-next g) ∙ white-no-digit w e)) (Lone.before (λ n j. true≢false (sym e ∙ pair-second j)))

pub fixed-begins : (due : Bool) (N : Naming) {ss : List Sign} {c : ℕ} {s : List ℕ} → Fixed ss c s → Begins due s (bytes_of N ss) c
fixed-begins due N (Fixed.keyword {b = b} i k) =
    record { token = TokenIs.keyword (Tail.plain (keyword-tail i) (ends_named N k) (ends-question N k)) i; dark = Over.other (lower-dark b (keyword-lower i)); some = omega arith }
fixed-begins due N (Fixed.pair i) = record { token = TokenIs.pair i; dark = Over.other (pair-no-white i); some = omega arith }
fixed-begins due N {ss = ss} (Fixed.alone {b = b} i a) =
    let h = alone-codes a in
    record {
      token = TokenIs.single i (λ g. alone-no-sign i h.0 h.1 (sign-byte g)) (lone b (bytes_of N ss) (alone-lone i h.0 h.1));
      dark = Over.other (single-no-white i);
      some = omega arith;
    }
fixed-begins due N {ss = ss} {c = c} (Fixed.single {b = b} i o) =
    opened-bytes N o λ w t e q.
    subst (λ (x : List ℕ). Begins due (b ∷ []) x c) (sym q) (record { token = single-before-white i e; dark = Over.other (single-no-white i); some = omega arith })
