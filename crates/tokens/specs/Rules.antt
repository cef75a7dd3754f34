-- The tokens as rules, in the words of docs/DECISIONS.md 74 to 79 and 92, apart from how they are found. Assumes nothing: these are definitions.
use Rattle.std.specs.Prelude.{ℕ, suc, ◌+◌, ◌*◌, ◌≤◌, ◌<◌, ◌≡◌, Bool, true, false, List, [], ◌∷◌, ◌++◌, eqb, ℤ, pos, neg_ℤ, length, take, drop}
use Rattle.tokens.specs.declared.Token.{Token}
use Rattle.tokens.specs.Bytes.{is_white, is_lower, is_digit, is_named}
use Rattle.tokens.specs.Codes.{end_code, name_code, number_code, no_token, too_long}
use Rattle.tokens.specs.Spelling.{Row, row, keywords, pairs, singles}
use Rattle.tokens.specs.Tokens.{token, most_bytes}

-- ---- runs

-- every byte is of a class
pub data All (p : ℕ → Bool) : List ℕ → Type 0 where
  none : All p []
  more : {b : ℕ} {s : List ℕ} → p b ≡ true → All p s → All p (b ∷ s)

-- the class goes on no further: the bytes are over, or begin with another byte
pub data Over (p : ℕ → Bool) : List ℕ → Type 0 where
  ended : Over p []
  other : {b : ℕ} {t : List ℕ} → p b ≡ false → Over p (b ∷ t)

pub data In (r : Row) : List Row → Type 0 where
  here : {rs : List Row} → In r (r ∷ rs)
  later : {q : Row} {rs : List Row} → In r rs → In r (q ∷ rs)

-- ---- the forms

abbrev pub is_question : ℕ → Bool
is_question b = eqb b 63

-- "then letters, digits and `_`, then at most one `?`. The longest run counts": s, where t follows
pub data Tail : List ℕ → List ℕ → Type 0 where
  plain : {s t : List ℕ} → All is_named s → Over is_named t → Over is_question t → Tail s t
  asked : {s t : List ℕ} → All is_named s → Tail (s ++ 63 ∷ []) t

-- "`-` directly before a digit, where an operand is due"
pub data Sign : Bool → List ℕ → Type 0 where
  sign : {d : ℕ} {t : List ℕ} → is_digit d ≡ true → Sign true (45 ∷ d ∷ t)

-- b begins no mark of two bytes, where t follows
pub data Lone (b : ℕ) : List ℕ → Type 0 where
  last : Lone b []
  before : {c : ℕ} {t : List ℕ} → ((n : ℕ) → In (row (b ∷ c ∷ []) n) pairs → ⊥) → Lone b (c ∷ t)

-- the code of the token that bytes begin with, and how many of them it takes
pub data TokenIs (due : Bool) : List ℕ → ℕ → ℕ → Type 0 where
  ended : TokenIs due [] end_code 0
  name : {b : ℕ} {s t : List ℕ} → is_lower b ≡ true → Tail s t → ((n : ℕ) → In (row (b ∷ s) n) keywords → ⊥) → TokenIs due (b ∷ s ++ t) name_code (suc (length s))
  keyword : {b n : ℕ} {s t : List ℕ} → Tail s t → In (row (b ∷ s) n) keywords → TokenIs due (b ∷ s ++ t) n (suc (length s))
  number : {b : ℕ} {s t : List ℕ} → is_digit b ≡ true → All is_digit s → Over is_digit t → TokenIs due (b ∷ s ++ t) number_code (suc (length s))
  signed : {b : ℕ} {s t : List ℕ} → due ≡ true → is_digit b ≡ true → All is_digit s → Over is_digit t → TokenIs due (45 ∷ b ∷ s ++ t) number_code (suc (suc (length s)))
  pair : {b c n : ℕ} {t : List ℕ} → In (row (b ∷ c ∷ []) n) pairs → TokenIs due (b ∷ c ∷ t) n 2
  single : {b n : ℕ} {t : List ℕ} → In (row (b ∷ []) n) singles → (Sign due (b ∷ t) → ⊥) → Lone b t → TokenIs due (b ∷ t) n 1
  unfit : {b : ℕ} {t : List ℕ} → is_lower b ≡ false → is_digit b ≡ false → Lone b t → ((n : ℕ) → In (row (b ∷ []) n) singles → ⊥) → TokenIs due (b ∷ t) no_token 1

-- the first token from a byte on: white space, and the token behind it
pub data TokenFrom (due : Bool) (text : List ℕ) (at : ℕ) : Token → Type 0 where
  within : {w r : List ℕ} {c n : ℕ} → drop at text ≡ w ++ r → All is_white w → Over is_white r → TokenIs due r c n
      → at + length w + n ≤ most_bytes → TokenFrom due text at (token c (at + length w) (at + length w + n))
  beyond : {w r : List ℕ} {c n : ℕ} → drop at text ≡ w ++ r → All is_white w → Over is_white r → TokenIs due r c n
      → most_bytes < at + length w + n → TokenFrom due text at (token too_long most_bytes most_bytes)

-- ---- what a number says

-- "a run of digits; leading zeros are allowed", and the number that they are
pub data Digits : List ℕ → ℕ → Type 0 where
  none : Digits [] 0
  next : {s : List ℕ} {n d : ℕ} → Digits s n → d < 10 → Digits (s ++ (48 + d) ∷ []) (10 * n + d)

-- "its sign counts"
pub data Says : List ℕ → ℤ → Type 0 where
  plain : {s : List ℕ} {n : ℕ} → Digits s n → Says s (pos n)
  negative : {s : List ℕ} {n : ℕ} → Digits s n → Says (45 ∷ s) (neg_ℤ (pos n))

-- ---- the same name

-- n bytes are there from a on, and from b on the same
pub record Shared (text : List ℕ) (a b n : ℕ) : Type 0 where
  pub there : n ≤ length (drop a text)
  pub same : take n (drop a text) ≡ take n (drop b text)
