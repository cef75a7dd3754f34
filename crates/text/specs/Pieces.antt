-- What the code has written of a piece, with the rows of words and places that it writes to, and what a step promises of both. Assumes nothing: these are definitions.
use Rattle.std.specs.Prelude.{◌≡◌, ℕ, suc, ◌+◌, ◌-◌, ◌≤◌, Bool, true, false, not, cond, List, [], ◌∷◌, ◌++◌, ltb, ℤ, pos, length, take, drop}
use Rattle.words.specs.Answer.{Answer, got, ◌>>=◌}
use Rattle.words.specs.Range.{fits}
use Rattle.tables.specs.Sizes.{most_fields}
use Rattle.program.specs.Forms.{most_words, most_statements}
use Rattle.tokens.specs.declared.Token.{Token}
use Rattle.tokens.specs.Bytes.{part}
use Rattle.tokens.specs.Codes.{semicolon_code, close_brace_code}
use Rattle.tokens.specs.Numbers.{integer_of}
use Rattle.tokens.specs.Tokens.{token_from}
use Rattle.text.specs.Reading.{Fault, Reader, Form, form, word_then, and_then, everywhere, passing, due_after, level_of, enough, peek, need, opened, over, climb, stated, field_at, fields_on, fields_at, row_at, block_at, text_at}
use Rattle.text.specs.Reading.{take as take_by}
use Rattle.text.specs.declared.Carried.{Carried}
use Rattle.text.specs.declared.Lent.{Lent}
use Rattle.text.specs.Told.{reader_of, reading_of, numbered_of, unless_stopped}
use Rattle.text.specs.Written.{since, row}

-- the table of names, and the two rows that are written to
abbrev pub lent : List ℕ → List ℤ → List ℕ → Lent
lent names words origins = record { names = names; words = words; origins = origins }

-- what is written from a word on; its depth is the reader's where it is an expression, and else 1
unfoldable pub form_of : Bool → ℕ → Lent → Carried → Form
form_of deep from a r = record { words = since from a.words r; origins = since from a.origins r; depth = cond deep r.depth 1 }

-- with the reader behind it, or the refusal
unfoldable pub piece_of : Bool → ℕ → Lent → Carried → Answer Fault (Form × Reader)
piece_of deep from a r = unless_stopped r (form_of deep from a r, reader_of a.names r)

-- The rows are long enough, and what is written from a word on begins there. While nothing is refused all words that are certain or owed are written but for `lacking`, and no more than
-- `most` are owed.
pub record Fit (most lacking from : ℕ) (a : Lent) (r : Carried) : Type 0 where
  pub names : 192 ≤ length a.names
  pub words : row ≤ length a.words
  pub origins : row ≤ length a.origins
  pub begins : from ≤ r.written
  pub counts : r.number ≡ 0 → r.written + lacking ≡ r.certain + r.owed
  pub certain : r.number ≡ 0 → r.certain ≤ most_words
  pub owed : r.number ≡ 0 → r.owed ≤ most

-- A step from a and r to b and s does `prog` to what is written from a word on and to the reader, and leaves what was written before.
pub record Does (deep : Bool) (most lacking most' lacking' from : ℕ) (a : Lent) (r : Carried) (prog : Form → Reader → Answer Fault (Form × Reader)) (b : Lent) (s : Carried) : Type 0 where
  pub reads : Fit most lacking from a r → piece_of deep from b s ≡ (piece_of deep from a r >>= λ x. prog x.0 x.1)
  pub fit : Fit most lacking from a r → Fit most' lacking' from b s
  pub words_before : Fit most lacking from a r → take from b.words ≡ take from a.words
  pub origins_before : Fit most lacking from a r → take from b.origins ≡ take from a.origins

-- a whole piece, behind what is written; at most so many words are owed before it and after it
abbrev pub Piece : ℕ → ℕ → Lent → Carried → (Reader → Answer Fault (Form × Reader)) → Lent → Carried → Type 0
Piece most most' a r step b s = Does false most 0 most' 0 r.written a r (λ f q. step q) b s

-- the same of an expression, which has its depth
abbrev pub Expression : ℕ → ℕ → Lent → Carried → (Reader → Answer Fault (Form × Reader)) → Lent → Carried → Type 0
Expression most most' a r step b s = Does true most 0 most' 0 r.written a r (λ f q. step q) b s

-- what goes on from a piece that is written from a word on
abbrev pub Onward : Bool → ℕ → ℕ → ℕ → Lent → Carried → (Form → Reader → Answer Fault (Form × Reader)) → Lent → Carried → Type 0
Onward deep most most' from a r prog b s = Does deep most 0 most' 0 from a r prog b s

-- the words of a gap before those of a piece
abbrev pub inserted : List ℤ → ℕ → Form → Form
inserted gap p f = record { words = gap ++ f.words; origins = everywhere p gap ++ f.origins; depth = f.depth }

abbrev pub Inserts : ℕ → List ℤ → ℕ → List ℤ → List ℕ → Carried → List ℤ → List ℕ → Carried → Type 0
Inserts from gap p ws os r vs us s =
    (names : List ℕ) (deep : Bool) (most lacking : ℕ) → most ≤ 3 → Does deep most (length gap + lacking) most lacking from (lent names ws os) r (λ f q. got (inserted gap p f, q)) (lent names vs us) s

-- a piece without its first word, which is written when it is known
unfoldable pub behind_first : Form → Form
behind_first f = form (drop 1 f.words) (drop 1 f.origins)

-- the code's reader before the first token, for which no word is written yet
abbrev pub first_carried : Carried
first_carried = record {
  number = 0;
  place = 0;
  at = 0;
  last = semicolon_code;
  certain = 1;
  owed = 0;
  passed = false;
  variables = 0;
  labels = 0;
  named = 0;
  written = 0;
  depth = 1;
  code = 0;
  start = 0;
  end = 0;
}

module _ (text : List ℕ) where
  -- the code of the token to be judged
  abbrev pub next_code : Carried → ℕ
  next_code r = (token_from (due_after r.last) text r.at).code

  -- brackets that open: how many is the number that was read last
  pub record Opens (r : Carried) (s : Carried) : Type 0 where
    pub reads : (names : List ℕ) → numbered_of names s ≡ (reading_of names r >>= λ q. opened text (enough text) 0 q)
    pub written : s.written ≡ r.written
    pub counts : s.number ≡ 0 → s.certain + s.owed ≡ r.certain + r.owed
    pub certain : s.number ≡ 0 → r.certain ≤ most_words → s.certain ≤ most_words
    pub owed : s.number ≡ 0 → s.owed ≤ r.owed

  -- the two words of a number, and the one of another literal
  abbrev pub number_by : Reader → Answer Fault (Form × Reader)
  number_by q =
      take_by text 2 (passing (not (fits (integer_of (part text (peek text q).place (peek text q).end)))) q) >>= λ s.
      got (form (pos 23 ∷ integer_of (part text (peek text q).place (peek text q).end) ∷ []) ((peek text q).place ∷ (peek text q).place ∷ []), s)

  abbrev pub constant_by : ℤ → Reader → Answer Fault (Form × Reader)
  constant_by w q = take_by text 1 q >>= λ s. got (form (w ∷ []) ((peek text q).place ∷ []), s)

  -- the operator t behind the operand e, and its right operand
  abbrev pub joined_by : ℕ → Bool → Token → Form → Reader → Answer Fault (Form × Reader)
  joined_by left in_c t e q = take_by text 2 (passing (ltb left e.depth) q) >>= λ s. climb text left in_c (suc (level_of (t.code - 40))) s >>= λ f. got (over text t e f.0, f.1)

  -- `always` (3) or `once` (4), with what follows
  abbrev pub stated_from : ℕ → Reader → Answer Fault (Form × Reader)
  stated_from verb q = take_by text 1 q >>= λ s. stated text verb (peek text q).place s

  -- fields up to `}` behind f, and their number before it, which comes from p
  abbrev pub fields_by : ℕ → Form → Reader → Answer Fault (Form × Reader)
  fields_by p f q =
      field_at text [] q >>= λ x. fields_on text (most_fields - 1) (x.0 ∷ []) x.1.1 >>= λ g. need text close_brace_code 0 g.1.1 >>= λ u.
      got (word_then (pos (suc g.0)) p (and_then f (and_then x.1.0 g.1.0)), u)

  abbrev pub fields_at_by : Form → Reader → Answer Fault (Form × Reader)
  fields_at_by f q = fields_at text q >>= λ g. got (word_then (pos g.0) (peek text q).place (and_then f g.1.0), g.1.1)

  -- a row of statements behind f, and their number before it, which comes from p
  abbrev pub row_by : ℕ → ℕ → Form → Reader → Answer Fault (Form × Reader)
  row_by d p f q = row_at text (λ v. block_at text d v) (most_statements - 1) q >>= λ g. got (word_then (pos g.0) p (and_then f g.1.0), g.1.1)

  -- the whole text, with rows that are long enough
  abbrev pub Whole : Lent → Lent → Carried → Type 0
  Whole a b s = 192 ≤ length a.names → row ≤ length a.words → row ≤ length a.origins → piece_of false 0 b s ≡ text_at text
