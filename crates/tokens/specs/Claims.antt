-- What is claimed of the tokens that are found, of numbers and of names. Assumes nothing: these are definitions.
use Rattle.std.specs.Prelude.{ℕ, ◌≤◌, ◌<◌, ◌≡◌, ◌↔◌, Bool, true, List, ℤ, length}
use Rattle.words.specs.Range.{ranged}
use Rattle.tokens.specs.declared.Token.{Token}
use Rattle.tokens.specs.Bytes.{is_digit, same_in}
use Rattle.tokens.specs.Codes.{end_code, too_long}
use Rattle.tokens.specs.Tokens.{piece, token, most_bytes, token_at, token_from}
use Rattle.tokens.specs.Numbers.{value_of}
use Rattle.tokens.specs.Rules.{All, TokenIs, TokenFrom, Digits, Says, Shared}

-- bytes begin with exactly the token that is found
abbrev pub Begins : Type 0
Begins = (due : Bool) (s : List ℕ) (c n : ℕ) → (token_at due s ≡ piece c n) ↔ TokenIs due s c n

-- a text's first token from a byte on is exactly the one that is found
abbrev pub Follows : Type 0
Follows = (due : Bool) (text : List ℕ) (at : ℕ) → at ≤ length text → (t : Token) → (token_from due text at ≡ t) ↔ TokenFrom due text at t

-- tokens and white space make up the text: a token ends inside it, behind its place but for the end's, and only a longer text is too long
pub data Makes (text : List ℕ) (at : ℕ) (t : Token) : Type 0 where
  whole : (t.code ≡ end_code → ⊥) → (t.code ≡ too_long → ⊥) → at ≤ t.place → t.place < t.end → t.end ≤ length text → t.end ≤ most_bytes → Makes text at t
  end : at ≤ length text → t ≡ token end_code (length text) (length text) → length text ≤ most_bytes → Makes text at t
  longer : most_bytes < length text → t ≡ token too_long most_bytes most_bytes → Makes text at t

abbrev pub MakesUp : Type 0
MakesUp = (due : Bool) (text : List ℕ) (at : ℕ) → at ≤ length text → Makes text at (token_from due text at)

-- a number is exactly what its bytes say, if that fits 32 bits
abbrev pub Values : Type 0
Values = (s : List ℕ) (z : ℤ) → Says s z → value_of s ≡ ranged z

-- all digits are a number
pub record Counted (s : List ℕ) : Type 0 where
  pub number : ℕ
  pub digits : Digits s number

abbrev pub Counts : Type 0
Counts = (s : List ℕ) → All is_digit s → Counted s

-- names are the same exactly where their bytes are
abbrev pub Shares : Type 0
Shares = (text : List ℕ) (a b n : ℕ) → (same_in text a b n ≡ true) ↔ Shared text a b n
