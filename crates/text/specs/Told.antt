-- How the code's reader and its table of names are read as the definitions' reader. Assumes nothing: these are definitions.
use Rattle.std.specs.Prelude.{◌≡◌, ℕ, zero, suc, ◌+◌, ◌-◌, ◌*◌, ◌≤◌, Bool, false, not, cond, ◌&&◌, List, [], ◌∷◌, eqb, ltb, leb, length, get_or, set}
use Rattle.words.specs.Answer.{Answer, got, stop, ◌>>=◌}
use Rattle.program.specs.Forms.{most_words}
use Rattle.tokens.specs.declared.Token.{Token}
use Rattle.tokens.specs.Bytes.{same_in}
use Rattle.tokens.specs.Codes.{too_long}
use Rattle.tokens.specs.Tokens.{token_from}
use Rattle.text.specs.declared.Carried.{Carried}
use Rattle.text.specs.Reading.{Fault, fault, Named, Reader, due_after, peek}

-- the token to be judged
abbrev pub next_of : Carried → Token
next_of r = record { code = r.code; place = r.start; end = r.end }

-- ---- the table of names

-- the name whose place and length begin at a word
abbrev pub name_at : List ℕ → ℕ → Named
name_at names i = record { place = get_or names i 0; length = get_or names (suc i) 0 }

-- whether a token is a name that was met before
unfoldable pub is_name : List ℕ → Named → Token → Bool
is_name text n t = eqb n.length (t.end - t.place) && same_in text n.place t.place n.length

-- the first n names from a word on
unfoldable pub names_from : List ℕ → ℕ → ℕ → List Named
names_from names i zero = []
names_from names i (suc n) = name_at names i ∷ names_from names (suc (suc i)) n

-- the table with a token's name behind the first `count`, unless it has a number below
unfoldable pub table_with : List ℕ → ℕ → ℕ → ℕ → Token → List ℕ
table_with names from count number t = cond (ltb number count) names (set (set names (from + 2 * count) t.place) (suc (from + 2 * count)) (t.end - t.place))

-- how many names there are with it
unfoldable pub count_with : ℕ → ℕ → ℕ
count_with count number = cond (ltb number count) count (suc count)

unfoldable pub at_most : ℕ → ℕ → ℕ
at_most most n = cond (ltb most n) most n

-- ---- the reader

unfoldable pub reader_of : List ℕ → Carried → Reader
reader_of names r = record {
  at = r.at;
  last = r.last;
  certain = r.certain;
  owed = r.owed;
  passed = r.passed;
  variables = names_from names 0 (at_most 64 r.variables);
  labels = names_from names 128 (at_most 32 r.labels);
}

-- what follows, or the refusal that the reader carries
abbrev pub unless_stopped : {A : Type 0} → Carried → A → Answer Fault A
unless_stopped r a = cond (eqb r.number 0) (got a) (stop (fault r.number r.place))

unfoldable pub reading_of : List ℕ → Carried → Answer Fault Reader
reading_of names r = unless_stopped r (reader_of names r)

-- with the number of the name read last
unfoldable pub numbered_of : List ℕ → Carried → Answer Fault (ℕ × Reader)
numbered_of names r = unless_stopped r (r.named, reader_of names r)

-- the same reader, stopped
abbrev pub refused_at : ℕ → ℕ → Carried → Carried
refused_at n p r = record r { number = n; place = p }

unfoldable pub refused_by : Token → Carried → Carried
refused_by t r = cond (eqb t.code too_long) (refused_at 22 t.place r) (refused_at 20 t.place r)

-- "Words are counted as soon as they are certain": there is room for k more, with those that are owed
unfoldable pub room_with : ℕ → Carried → Bool
room_with k r = not r.passed && leb (r.certain + r.owed + k) most_words

-- the same reader behind a token, with k words more
abbrev pub behind : Token → ℕ → Carried → Carried
behind t k r = record r { at = t.end; last = t.code; certain = r.certain + r.owed + k; owed = 0; passed = false }

unfoldable pub taken_by : Token → ℕ → Carried → Carried
taken_by t k r = cond (room_with k r) (behind t k r) (refused_at 22 t.place r)

-- the same reader with so many variables or labels, of which the one of number n was read last
abbrev pub named_variable : ℕ → ℕ → Carried → Carried
named_variable count n r = record r { variables = count; named = n }

abbrev pub named_label : ℕ → ℕ → Carried → Carried
named_label count n r = record r { labels = count; named = n }

-- the same reader, with the token that stands there
abbrev pub looked_by : List ℕ → Carried → Carried
looked_by text r = record r { code = (token_from (due_after r.last) text r.at).code; start = (token_from (due_after r.last) text r.at).place; end = (token_from (due_after r.last) text r.at).end }

-- the token is taken, and the next one looked at
unfoldable pub took_by : List ℕ → ℕ → Carried → Carried
took_by text k r = cond (room_with k r) (looked_by text (behind (next_of r) k r)) (refused_at 22 r.start r)

-- ---- what the functions promise

-- the token to be judged, whatever the names
abbrev pub Peeks : List ℕ → Carried → Token → Type 0
Peeks text r t = (names : List ℕ) → t ≡ peek text (reader_of names r)

-- the reader has it
abbrev pub Ahead : List ℕ → Carried → Type 0
Ahead text r = Peeks text r (next_of r)

-- s is r after a step that leaves the names, and the words that are written
pub record Follows (r : Carried) (step : Reader → Answer Fault Reader) (s : Carried) : Type 0 where
  pub reads : (names : List ℕ) → reading_of names s ≡ (reading_of names r >>= step)
  pub written : s.written ≡ r.written
  pub depth : s.depth ≡ r.depth

-- the same of a step that reads a name, with the table of names before and after it, which has its 192 words
pub record Numbers (before : List ℕ) (r : Carried) (step : Reader → Answer Fault (ℕ × Reader)) (after : List ℕ) (s : Carried) : Type 0 where
  pub reads : 192 ≤ length before → numbered_of after s ≡ (reading_of before r >>= step)
  pub written : s.written ≡ r.written
  pub depth : s.depth ≡ r.depth
