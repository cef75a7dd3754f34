-- What is claimed of a text: it is accepted exactly when the grammar yields it within document 01's limits, with the words of that reading. Assumes nothing: these are statements.
use Rattle.std.specs.Prelude.{ℕ, ◌≤◌, ◌≡◌, ◌↔◌, true, List, [], ◌∷◌, ◌++◌, ℤ, length}
use Rattle.words.specs.Answer.{got}
use Rattle.words.specs.Range.{fits}
use Rattle.tables.specs.Sizes.{variables, labels}
use Rattle.program.specs.Grammar.{Program}
use Rattle.tokens.specs.declared.Token.{Token}
use Rattle.tokens.specs.Codes.{end_code, name_code, number_code, dot_code, colon_code, semicolon_code}
use Rattle.tokens.specs.Bytes.{part}
use Rattle.tokens.specs.Tokens.{token_from}
use Rattle.tokens.specs.Numbers.{integer_of}
use Rattle.text.specs.Grammar.{Meaning, Text}
use Rattle.text.specs.Reading.{Named, Reader, Form, due_after, number_in, with_name, text_at}

-- the tokens of a text behind a byte and a token of this code, up to another byte and the last of them
pub data TokensOf (text : List ℕ) : ℕ → ℕ → List Token → ℕ → ℕ → Type 0 where
  none : {at last : ℕ} → TokensOf text at last [] at last
  more : {at last to end : ℕ} {t : Token} {ts : List Token} → token_from (due_after last) text at ≡ t → TokensOf text t.end t.code ts to end → TokensOf text at last (t ∷ ts) to end

-- "variables and labels numbered each by first appearance": the names of these tokens, in their order
pub data NamesAre (text : List ℕ) : List Named → List Token → List Named → Type 0 where
  none : {ns : List Named} → NamesAre text ns [] ns
  more : {ns ms : List Named} {t : Token} {ts : List Token} → NamesAre text (with_name text ns t) ts ms → NamesAre text ns (t ∷ ts) ms

-- a name is a label behind `.` and before `:`, and a variable elsewhere; `last` is the code of the token before
pub data Sorted : ℕ → List Token → List Token → List Token → Type 0 where
  none : {last : ℕ} → Sorted last [] [] []
  other : {last : ℕ} {t : Token} {ts vs ls : List Token} → (t.code ≡ name_code → ⊥) → Sorted t.code ts vs ls → Sorted last (t ∷ ts) vs ls
  behind_dot : {t : Token} {ts vs ls : List Token} → t.code ≡ name_code → Sorted name_code ts vs ls → Sorted dot_code (t ∷ ts) vs (t ∷ ls)
  before_colon : {last : ℕ} {t c : Token} {ts vs ls : List Token}
      → (last ≡ dot_code → ⊥) → t.code ≡ name_code → c.code ≡ colon_code → Sorted name_code (c ∷ ts) vs ls → Sorted last (t ∷ c ∷ ts) vs (t ∷ ls)
  variable : {last : ℕ} {t c : Token} {ts vs ls : List Token}
      → (last ≡ dot_code → ⊥) → t.code ≡ name_code → (c.code ≡ colon_code → ⊥) → Sorted name_code (c ∷ ts) vs ls → Sorted last (t ∷ c ∷ ts) (t ∷ vs) ls

-- every number of these tokens fits 32 bits
pub data NumbersFit (text : List ℕ) : List Token → Type 0 where
  none : NumbersFit text []
  more : {t : Token} {ts : List Token} → (t.code ≡ number_code → fits (integer_of (part text t.place t.end)) ≡ true) → NumbersFit text ts → NumbersFit text (t ∷ ts)

abbrev pub meaning : List ℕ → List Named → List Named → Meaning
meaning text vs ls = record { variable = number_in text vs; label = number_in text ls; integer = λ t. integer_of (part text t.place t.end) }

-- the text reads to these words, origins and names, within the limits
pub record Reads (text : List ℕ) (words : List ℤ) (origins : List ℕ) (vs ls : List Named) : Type 0 where
  pub tokens : List Token
  pub to : ℕ
  pub last : ℕ
  pub spelt : TokensOf text 0 semicolon_code tokens to last
  pub ends : (token_from (due_after last) text to).code ≡ end_code
  pub yields : Text (meaning text vs ls) tokens words origins
  pub variable_tokens : List Token
  pub label_tokens : List Token
  pub sorted : Sorted semicolon_code (tokens ++ token_from (due_after last) text to ∷ []) variable_tokens label_tokens
  pub variable_names : NamesAre text [] variable_tokens vs
  pub label_names : NamesAre text [] label_tokens ls
  pub few_variables : length vs ≤ variables
  pub few_labels : length ls ≤ labels
  pub numbers : NumbersFit text tokens
  pub limits : Program words

-- accepted exactly then
abbrev pub AcceptedExactly : Type 0
AcceptedExactly = (text : List ℕ) (words : List ℤ) (origins : List ℕ) (vs ls : List Named)
    → ((f : Form) × ((r : Reader) × ((text_at text ≡ got (f, r)) × ((f.words ≡ words) × ((f.origins ≡ origins) × ((r.variables ≡ vs) × (r.labels ≡ ls)))))))
    ↔ Reads text words origins vs ls

-- "the words are those of its one reading": the grammar yields tokens in one way at most, whatever the limits and whatever names and numbers stand for
abbrev pub Unambiguous : Type 0
Unambiguous = (M : Meaning) (ts : List Token) (ws vs : List ℤ) (os us : List ℕ) → Text M ts ws os → Text M ts vs us → (ws ≡ vs) × (os ≡ us)

-- and a text is read in one way at most
abbrev pub OneReading : Type 0
OneReading = (text : List ℕ) (words words' : List ℤ) (origins origins' : List ℕ) (vs vs' ls ls' : List Named)
    → Reads text words origins vs ls → Reads text words' origins' vs' ls' → (words ≡ words') × ((origins ≡ origins') × ((vs ≡ vs') × (ls ≡ ls')))
