-- Tokens that are taken one after the other, with their names and numbers. Assumes nothing.
use mathlib.Core.Path.{◌≡◌}
use mathlib.Core.Bool.{Bool, not, ◌&&◌}
use mathlib.Core.List.{List, [], ◌∷◌, ◌++◌, append_assoc, append-nil}
use Prim.Native.Nat.{ℕ, ◌+◌, ◌≤◌, ◌<◌}
use lib.Dec.{eqb, leb}
use lib.ListN.{length}
use Rattle.tables.specs.Sizes.{variables, labels}
use Rattle.tokens.specs.declared.Token.{Token}
use Rattle.tokens.specs.Codes.{colon_code, dot_code}
use Rattle.text.specs.Reading.{Named, Reader}
use Rattle.text.specs.Claims.{TokensOf, NamesAre, Sorted, NumbersFit}
use Rattle.text.proofs.NameLaws.{Extends, names-extend, extends-on, extends-same}

-- where a reader stands: all of it but the words
pub record Spot : Type 0 where
  pub at : ℕ
  pub last : ℕ
  pub variables : List Named
  pub labels : List Named

abbrev pub spot : Reader → Spot
spot r = record { at = r.at; last = r.last; variables = r.variables; labels = r.labels }

-- the words that are certain, and those that the next token makes so
abbrev pub total : Reader → ℕ
total r = r.certain + r.owed

pub record Fine (text : List ℕ) (p : Spot) : Type 0 where
  pub inside : p.at ≤ length text
  pub few_variables : length p.variables ≤ variables
  pub few_labels : length p.labels ≤ labels
  pub no-dot : p.last ≡ dot_code → ⊥

-- the first token is no colon
pub data Opens : List Token → Type 0 where
  none : Opens []
  first : {t : Token} {ts : List Token} → (t.code ≡ colon_code → ⊥) → Opens (t ∷ ts)

pub record Took (text : List ℕ) (p q : Spot) (ts : List Token) : Type 0 where
  pub spelt : TokensOf text p.at p.last ts q.at q.last
  pub numbers : NumbersFit text ts
  pub variable_tokens : List Token
  pub label_tokens : List Token
  pub variable_names : NamesAre text p.variables variable_tokens q.variables
  pub label_names : NamesAre text p.labels label_tokens q.labels
  pub opens : Opens ts
  pub sorted : (u : Token) (us vs ls : List Token) → (u.code ≡ colon_code → ⊥) → Sorted q.last (u ∷ us) vs ls
      → Sorted p.last (ts ++ u ∷ us) (variable_tokens ++ vs) (label_tokens ++ ls)
  pub fine : Fine text q

-- ---- one after the other

tokens-on : {text : List ℕ} {a l b m c n : ℕ} {ts us : List Token} → TokensOf text a l ts b m → TokensOf text b m us c n → TokensOf text a l (ts ++ us) c n
tokens-on TokensOf.none k = k
tokens-on (TokensOf.more e j) k = TokensOf.more e (tokens-on j k)

numbers_on : {text : List ℕ} {ts us : List Token} → NumbersFit text ts → NumbersFit text us → NumbersFit text (ts ++ us)
numbers_on NumbersFit.none k = k
numbers_on (NumbersFit.more e j) k = NumbersFit.more e (numbers_on j k)

names-on : {text : List ℕ} {a b c : List Named} {ts us : List Token} → NamesAre text a ts b → NamesAre text b us c → NamesAre text a (ts ++ us) c
names-on NamesAre.none k = k
names-on (NamesAre.more j) k = NamesAre.more (names-on j k)

opens-on : {ts us : List Token} → Opens ts → Opens us → Opens (ts ++ us)
opens-on Opens.none k = k
opens-on (Opens.first h) k = Opens.first h

module _ {text : List ℕ} where
  pub took-none : {p : Spot} → Fine text p → Took text p p []
  took-none f = record {
    spelt = TokensOf.none;
    numbers = NumbersFit.none;
    variable_tokens = [];
    label_tokens = [];
    variable_names = NamesAre.none;
    label_names = NamesAre.none;
    opens = Opens.none;
    sorted = λ u us vs ls h s. s;
    fine = f;
  }

  pub took-on : {p q o : Spot} {ts us : List Token} → Took text p q ts → Took text q o us → Took text p o (ts ++ us)
  took-on {p} {q} {o} {ts} {us} a b = record {
    spelt = tokens-on a.spelt b.spelt;
    numbers = numbers_on a.numbers b.numbers;
    variable_tokens = a.variable_tokens ++ b.variable_tokens;
    label_tokens = a.label_tokens ++ b.label_tokens;
    variable_names = names-on a.variable_names b.variable_names;
    label_names = names-on a.label_names b.label_names;
    opens = opens-on a.opens b.opens;
    sorted = λ u us' vs ls h s. both u us' vs ls h b.opens (b.sorted u us' vs ls h s);
    fine = b.fine;
  }
    where
      both : (u : Token) (us' vs ls : List Token) → (u.code ≡ colon_code → ⊥) → {ws : List Token} → Opens ws
          → Sorted q.last (ws ++ u ∷ us') (b.variable_tokens ++ vs) (b.label_tokens ++ ls)
          → Sorted p.last ((ts ++ ws) ++ u ∷ us') ((a.variable_tokens ++ b.variable_tokens) ++ vs) ((a.label_tokens ++ b.label_tokens) ++ ls)
      both u us' vs ls h Opens.none s =
          rw (append-nil ts, append_assoc a.variable_tokens b.variable_tokens vs, append_assoc a.label_tokens b.label_tokens ls)
          (a.sorted u us' (b.variable_tokens ++ vs) (b.label_tokens ++ ls) h s)
      both u us' vs ls h (Opens.first {t = t} {ts = rest} g) s =
          rw (append_assoc ts (t ∷ rest) (u ∷ us'), append_assoc a.variable_tokens b.variable_tokens vs, append_assoc a.label_tokens b.label_tokens ls)
          (a.sorted t (rest ++ u ∷ us') (b.variable_tokens ++ vs) (b.label_tokens ++ ls) g s)

-- these lists hold the names of this place
pub record Later (p : Spot) (vs ls : List Named) : Type 0 where
  pub variables : Extends p.variables vs
  pub labels : Extends p.labels ls

pub later_same : (p : Spot) → Later p p.variables p.labels
later_same p = record { variables = extends-same p.variables; labels = extends-same p.labels }

pub before : {text : List ℕ} {p q : Spot} {ts : List Token} {vs ls : List Named} → Took text p q ts → Later q vs ls → Later p vs ls
before {text} a l = record { variables = extends-on (names-extend text a.variable_names) l.variables; labels = extends-on (names-extend text a.label_names) l.labels }

-- numbers below n
pub data Below (n : ℕ) : List ℕ → Type 0 where
  none : Below n []
  more : {m : ℕ} {ms : List ℕ} → m < n → Below n ms → Below n (m ∷ ms)

-- tokens that are neither names nor numbers nor `:` nor `.`
abbrev pub ordinary : ℕ → Bool
ordinary c = leb 10 c && (not (eqb c colon_code) && not (eqb c dot_code))
