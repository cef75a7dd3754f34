-- What is claimed of the words and the names of an accepted text. Assumes nothing: these are statements.
use Rattle.std.specs.Prelude.{ℕ, ◌-◌, ◌<◌, ◌≡◌, List, [], ◌∷◌, ◌++◌, length, get_or}
use Rattle.words.specs.Answer.{got}
use Rattle.program.specs.Reading.{read_program}
use Rattle.tokens.specs.declared.Token.{Token}
use Rattle.tokens.specs.Rules.{Shared}
use Rattle.text.specs.Reading.{Named, Reader, Form, number_in, text_at}
use Rattle.text.specs.Claims.{Reads}

-- a token as a name, and the name of number i
abbrev pub name_of : Token → Named
name_of t = record { place = t.place; length = t.end - t.place }

abbrev pub named : List Named → ℕ → Named
named ns i = get_or ns i (record { place = 0; length = 0 })

-- two names are spelt the same: as many bytes, and the same ones
abbrev pub Alike : List ℕ → Named → Named → Type 0
Alike text a b = (a.length ≡ b.length) × Shared text a.place b.place a.length

-- each of these tokens is so
pub data Each (P : Token → Type 0) : List Token → Type 0 where
  none : Each P []
  more : {t : Token} {ts : List Token} → P t → Each P ts → Each P (t ∷ ts)

-- a name is the first of these tokens that is spelt so
pub record First (text : List ℕ) (ts : List Token) (n : Named) : Type 0 where
  pub before : List Token
  pub token : Token
  pub behind : List Token
  pub split : ts ≡ before ++ token ∷ behind
  pub there : n ≡ name_of token
  pub earlier : Each (λ t. Alike text (name_of t) n → ⊥) before

-- "numbered each by first appearance", "equal names one number": different numbers have different names, each from the first token that is spelt so, in the order of their places,
-- and a token's number is that of the name that is spelt like it
pub record Numbered (text : List ℕ) (ts : List Token) (ns : List Named) : Type 0 where
  pub apart : (i j : ℕ) → i < length ns → j < length ns → Alike text (named ns i) (named ns j) → i ≡ j
  pub first : (i : ℕ) → i < length ns → First text ts (named ns i)
  pub order : (i j : ℕ) → i < j → j < length ns → (named ns i).place < (named ns j).place
  pub numbers : Each (λ t. (number_in text ns t < length ns) × Alike text (named ns (number_in text ns t)) (name_of t)) ts

-- the names of an accepted text are numbered so
pub record Names (text : List ℕ) (f : Form) (r : Reader) : Type 0 where
  pub reads : Reads text f.words f.origins r.variables r.labels
  pub variables : Numbered text reads.variable_tokens r.variables
  pub labels : Numbered text reads.label_tokens r.labels

abbrev pub NumberedByAppearance : Type 0
NumberedByAppearance = (text : List ℕ) (f : Form) (r : Reader) → text_at text ≡ got (f, r) → Names text f r

-- and its words are a program
abbrev pub AlwaysReads : Type 0
AlwaysReads = (text : List ℕ) (f : Form) (r : Reader) → text_at text ≡ got (f, r) → read_program f.words ≡ got tt
