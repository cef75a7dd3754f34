-- How a text is read (docs/DECISIONS.md 74 to 97): tokens are judged from left to right, 20 before 21 before 22 at each. The grammar stands apart, in Grammar.
-- Assumes nothing: these are definitions.
use Rattle.std.specs.Prelude.{ℕ, zero, suc, ◌+◌, ◌-◌, Bool, true, false, not, cond, ◌&&◌, ◌||◌, List, [], ◌∷◌, ◌++◌, eqb, ltb, leb, ℤ, pos, length}
use Rattle.words.specs.Answer.{Answer, got, stop, ◌>>=◌, ◌>>◌, want}
use Rattle.words.specs.Range.{fits}
use Rattle.tables.specs.Sizes.{variables, labels, most_fields}
use Rattle.program.specs.Forms.{most_words, most_statements, block_depth, expression_depth, most_steps, most_parts, required}
use Rattle.program.specs.Reading.{among}
use Rattle.tokens.specs.declared.Token.{Token}
use Rattle.tokens.specs.Codes.{end_code, name_code, number_code, too_long, new_code, skip_code, always_code, once_code, weak_code, if_code, then_code, else_code, while_code, do_code, true_code, false_code, nil_code}
use Rattle.tokens.specs.Codes.{becomes_code, colon_code, comma_code, dot_code, semicolon_code, open_brace_code, close_brace_code, open_bracket_code, close_bracket_code, identical_code, beside_code}
use Rattle.tokens.specs.Bytes.{part, same_in}
use Rattle.tokens.specs.Tokens.{token_from}
use Rattle.tokens.specs.Numbers.{integer_of}

-- a refusal: its number and its place
pub record Fault : Type 0 where
  pub number : ℕ
  pub place : ℕ

abbrev pub fault : ℕ → ℕ → Fault
fault n p = record { number = n; place = p }

-- where a name appears first
pub record Named : Type 0 where
  pub place : ℕ
  pub length : ℕ

-- how far a text is read: the byte behind the last token taken and its code, the words that are certain, those that the next token makes so, whether it passes a limit,
-- and the names so far
pub record Reader : Type 0 where
  pub at : ℕ
  pub last : ℕ
  pub certain : ℕ
  pub owed : ℕ
  pub passed : Bool
  pub variables : List Named
  pub labels : List Named

abbrev pub owing : ℕ → Reader → Reader
owing k r = record r { owed = r.owed + k }

abbrev pub passing : Bool → Reader → Reader
passing b r = record r { passed = r.passed || b }

-- a piece that was read: its words, the place that each comes from, and for an expression how deep it nests
pub record Form : Type 0 where
  pub words : List ℤ
  pub origins : List ℕ
  pub depth : ℕ

abbrev pub form : List ℤ → List ℕ → Form
form ws os = record { words = ws; origins = os; depth = 1 }

-- a word before a piece, and a piece before a piece
abbrev pub word_then : ℤ → ℕ → Form → Form
word_then w p f = form (w ∷ f.words) (p ∷ f.origins)

abbrev pub and_then : Form → Form → Form
and_then a b = form (a.words ++ b.words) (a.origins ++ b.origins)

abbrev pub empty : Form
empty = form [] []

-- the same place for each word
abbrev pub everywhere : ℕ → List ℤ → List ℕ
everywhere p [] = []
everywhere p (w ∷ ws) = p ∷ everywhere p ws

-- "an operand is due": behind `:=`, `:`, `(`, `/\`, an operator, always, once, a priority, if and while
unfoldable pub due_after : ℕ → Bool
due_after c = (leb 40 c && leb c 51) || eqb c becomes_code || eqb c colon_code || eqb c open_bracket_code || (leb always_code c && leb c if_code) || eqb c while_code

-- how tightly an operator binds, by its number in document 01
unfoldable pub level_of : ℕ → ℕ
level_of k = cond (eqb k 3) 5 (cond (leb k 2) 4 (cond (leb k 9) 3 (cond (leb k 10) 2 1)))

abbrev pub is_operator : ℕ → Bool
is_operator c = leb 41 c && leb c 51

module _ (text : List ℕ) where
  -- the token to be judged
  unfoldable pub peek : Reader → Token
  peek r = token_from (due_after r.last) text r.at

  abbrev pub is : Reader → ℕ → Bool
  is r c = eqb (peek r).code c

  -- "20: the token may not stand there in the grammar, or begins no token"; 22 where the text is too long for it to be judged
  unfoldable pub refusal : Token → Fault
  refusal t = cond (eqb t.code too_long) (fault 22 t.place) (fault 20 t.place)

  -- "Words are counted as soon as they are certain": takes the token, with k words and those that are owed
  unfoldable pub take : ℕ → Reader → Answer Fault Reader
  take k r = do
    want (fault 22 (peek r).place) (not r.passed && leb (r.certain + r.owed + k) most_words)
    got (record { at = (peek r).end; last = (peek r).code; certain = r.certain + r.owed + k; owed = 0; passed = false; variables = r.variables; labels = r.labels })

  unfoldable pub need : ℕ → ℕ → Reader → Answer Fault Reader
  need c k r = want (refusal (peek r)) (is r c) >> take k r

  -- ---- names

  -- "equal names one number": the number of the token's name among those before, or how many these are
  unfoldable pub number_in : List Named → Token → ℕ
  number_in [] t = 0
  number_in (n ∷ ns) t = cond (eqb n.length (t.end - t.place) && same_in text n.place t.place n.length) 0 (suc (number_in ns t))

  unfoldable pub known : List Named → Token → Bool
  known ns t = ltb (number_in ns t) (length ns)

  unfoldable pub with_name : List Named → Token → List Named
  with_name ns t = cond (known ns t) ns (ns ++ record { place = t.place; length = t.end - t.place } ∷ [])

  -- "21: a name that is the 65th variable or the 33rd label, at the name"
  unfoldable pub room_for : ℕ → List Named → Token → Bool
  room_for most ns t = known ns t || ltb (length ns) most

  unfoldable pub variable : ℕ → Reader → Answer Fault (ℕ × Reader)
  variable k r = do
    want (refusal (peek r)) (is r name_code)
    want (fault 21 (peek r).place) (room_for variables r.variables (peek r))
    s ← take k r
    got (number_in r.variables (peek r), record { at = s.at; last = s.last; certain = s.certain; owed = 0; passed = false; variables = with_name r.variables (peek r); labels = s.labels })

  -- a label; 20 where it is one of those in `seen`
  unfoldable pub label : List ℕ → Reader → Answer Fault (ℕ × Reader)
  label seen r = do
    want (refusal (peek r)) (is r name_code && not (known r.labels (peek r) && among (number_in r.labels (peek r)) seen))
    want (fault 21 (peek r).place) (room_for labels r.labels (peek r))
    s ← take 1 r
    got (number_in r.labels (peek r), record { at = s.at; last = s.last; certain = s.certain; owed = 0; passed = false; variables = s.variables; labels = with_name r.labels (peek r) })

  -- ---- paths

  -- `.` and a label; n of them may follow, and "the 8th label of a path" is 22
  unfoldable pub steps : ℕ → Reader → Answer Fault (Form × Reader)
  steps zero r = cond (is r dot_code) (take 0 r >>= λ s. label [] (passing true s) >>= λ x. got (empty, x.1)) (got (empty, r))
  steps (suc n) r =
      cond (is r dot_code)
      (take 0 r >>= λ s. label [] s >>= λ x. steps n x.1 >>= λ f. got (word_then (pos x.0) (peek s).place f.0, f.1))
      (got (empty, r))

  -- an L, whose variable makes k words certain
  unfoldable pub path : ℕ → Reader → Answer Fault (Form × Reader)
  path k r = do
    (x, s) ← variable k r
    (f, u) ← steps most_steps s
    got (word_then (pos x) (peek r).place (word_then (pos (length f.words)) (peek r).place f), u)

  -- ---- expressions

  -- the words of a literal, where the token is one
  unfoldable pub literal : Token → Answer (Unit {0}) (List ℤ)
  literal t =
      cond (eqb t.code nil_code) (got (pos 20 ∷ []))
      (cond (eqb t.code false_code) (got (pos 21 ∷ []))
      (cond (eqb t.code true_code) (got (pos 22 ∷ []))
      (cond (eqb t.code number_code) (got (pos 23 ∷ integer_of (part text t.place t.end) ∷ []))
      (stop tt))))

  -- "a number outside 32 bits (its sign counts)"
  unfoldable pub outside : Token → Bool
  outside t = eqb t.code number_code && not (fits (integer_of (part text t.place t.end)))

  unfoldable pub literal_at : Reader → Answer (Unit {0}) (List ℤ) → Answer Fault (Form × Reader)
  literal_at r (got ws) = take (length ws) (passing (outside (peek r)) r) >>= λ s. got (form ws (everywhere (peek r).place ws), s)
  literal_at r (stop u) = stop (refusal (peek r))

  -- a path with its 24; outside C, two with `==` between them
  unfoldable pub path_or_same : Bool → Reader → Answer Fault (Form × Reader)
  path_or_same in_c r =
      path 3 r >>= λ f.
      cond (not in_c && is f.1 identical_code)
      (take 0 f.1 >>= λ s. path 2 s >>= λ g. got (word_then (pos 26) (peek f.1).place (and_then f.0 g.0), g.1))
      (got (word_then (pos 24) (peek r).place f.0, f.1))

  unfoldable pub operand : Bool → Reader → Answer Fault (Form × Reader)
  operand in_c r = cond (is r name_code) (path_or_same in_c r) (literal_at r (literal (peek r)))

  -- more tokens than a text has
  abbrev pub enough : ℕ
  enough = suc (length text)

  -- how many brackets open, one after the other
  unfoldable pub opened : ℕ → ℕ → Reader → Answer Fault (ℕ × Reader)
  opened zero b r = got (b, r)
  opened (suc fuel) b r = cond (is r open_bracket_code) (take 0 r >>= λ s. opened fuel (suc b) s) (got (b, r))

  -- an operator over its operands
  abbrev pub over : Token → Form → Form → Form
  over o a b = record {
    words = pos 25 ∷ pos (o.code - 40) ∷ a.words ++ b.words;
    origins = o.place ∷ o.place ∷ a.origins ++ b.origins;
    depth = suc (cond (ltb a.depth b.depth) b.depth a.depth);
  }

  -- the operator binds as tightly as `low` or more
  abbrev pub joins : ℕ → Token → Bool
  joins low t = is_operator t.code && leb low (level_of (t.code - 40))

  -- Operators behind the operand e, each with its right operand, which `go` reads: those that bind as tightly as `low` or more, and inside the b brackets that are open all.
  -- "an operator with which an operand would stand on level 17": `left` levels are left under it, and its left operand has its whole depth.
  unfoldable pub onwards : (ℕ → Reader → Answer Fault (Form × Reader)) → ℕ → ℕ → ℕ → ℕ → Form → Reader → Answer Fault (Form × Reader)
  onwards go zero left low b e r = stop (refusal (peek r))
  onwards go (suc fuel) left low b e r =
      cond (is r close_bracket_code && ltb 0 b) (take 0 r >>= λ s. onwards go fuel left low (b - 1) e s)
      (cond (joins (cond (ltb 0 b) 1 low) (peek r))
      (take 2 (passing (ltb left e.depth) r) >>= λ s. go (suc (level_of ((peek r).code - 40))) s >>= λ f. onwards go fuel left low b (over (peek r) e f.0) f.1)
      (cond (ltb 0 b) (stop (refusal (peek r))) (got (e, r))))

  -- operands joined by such operators, nested at most so deep; "Brackets make no level"
  unfoldable pub climb : ℕ → Bool → ℕ → Reader → Answer Fault (Form × Reader)
  climb zero in_c low r = stop (refusal (peek r))
  climb (suc left) in_c low r =
      opened enough 0 r >>= λ x. operand in_c x.1 >>= λ e. onwards (λ l v. climb left in_c l v) enough left low x.0 e.0 e.1

  unfoldable pub expression : Bool → Reader → Answer Fault (Form × Reader)
  expression in_c r = climb expression_depth in_c 1 r

  -- an expression whose first operand has been read
  unfoldable pub expression_on : Bool → Form → Reader → Answer Fault (Form × Reader)
  expression_on in_c e r = onwards (λ l v. climb (expression_depth - 1) in_c l v) enough (expression_depth - 1) 1 0 e r

  -- ---- constraints

  -- the priority that a token writes; weak, medium and required have one code after the other
  unfoldable pub priority : Token → ℕ
  priority t = cond (leb weak_code t.code && leb t.code (weak_code + 2)) (suc (t.code - weak_code)) 0

  -- "A priority: its keyword; if none is written, the part's first token", with which it is certain
  unfoldable pub part_at : Reader → Answer Fault (Form × Reader)
  part_at r =
      cond (ltb 0 (priority (peek r)))
      (take 1 r >>= λ s. expression true s >>= λ f. got (word_then (pos (priority (peek r))) (peek r).place f.0, f.1))
      (expression true (owing 1 r) >>= λ f. got (word_then (pos required) (peek r).place f.0, f.1))

  -- the parts behind the first one, of which n may follow: "the first token .. of the 17th part" is 22
  unfoldable pub parts_on : ℕ → Reader → Answer Fault (ℕ × (Form × Reader))
  parts_on zero r = cond (is r beside_code) (take 0 r >>= λ s. part_at (passing true s) >>= λ f. got (0, f)) (got (0, (empty, r)))
  parts_on (suc n) r =
      cond (is r beside_code)
      (take 0 r >>= λ s. part_at s >>= λ f. parts_on n f.1 >>= λ g. got (suc g.0, (and_then f.0 g.1.0, g.1.1)))
      (got (0, (empty, r)))

  -- "C's m: C's first token", at p; the first part has been read
  unfoldable pub constraint_on : ℕ → Form → Reader → Answer Fault (Form × Reader)
  constraint_on p first r = parts_on (most_parts - 1) r >>= λ g. got (word_then (pos (suc g.0)) p (and_then first g.1.0), g.1.1)

  -- a path behind `always` or `once`, which the token behind it shows to be a side of an identity or not; then "m, priority and 24 are added at the token after the path"
  unfoldable pub stated_on : ℕ → ℕ → ℕ → Form → Reader → Answer Fault (Form × Reader)
  stated_on verb p q f r =
      cond (is r identical_code)
      (take 0 r >>= λ s. path 2 s >>= λ g. got (word_then (pos (verb + 2)) p (and_then f g.0), g.1))
      (expression_on true (word_then (pos 24) q f) (owing 3 r) >>= λ e. constraint_on q (word_then (pos required) q e.0) e.1 >>= λ c. got (word_then (pos verb) p c.0, c.1))

  -- what follows `always` (3) or `once` (4), which stands at p
  unfoldable pub stated : ℕ → ℕ → Reader → Answer Fault (Form × Reader)
  stated verb p r =
      cond (is r name_code)
      (path 2 r >>= λ f. stated_on verb p (peek r).place f.0 f.1)
      (part_at (owing 1 r) >>= λ f. constraint_on (peek r).place f.0 f.1 >>= λ c. got (word_then (pos verb) p c.0, c.1))

  -- ---- assignments and new

  unfoldable pub field_at : List ℕ → Reader → Answer Fault (ℕ × (Form × Reader))
  field_at seen r =
      label seen r >>= λ l. need colon_code 0 l.1 >>= λ s. expression false s >>= λ f. got (l.0, (word_then (pos l.0) (peek r).place f.0, f.1))

  -- the fields behind a first one, of which n may follow: "the label of the 9th field" is 22
  unfoldable pub fields_on : ℕ → List ℕ → Reader → Answer Fault (ℕ × (Form × Reader))
  fields_on zero seen r = cond (is r comma_code) (take 0 r >>= λ s. field_at seen (passing true s) >>= λ f. got (0, f.1)) (got (0, (empty, r)))
  fields_on (suc n) seen r =
      cond (is r comma_code)
      (take 0 r >>= λ s. field_at seen s >>= λ f. fields_on n (f.0 ∷ seen) f.1.1 >>= λ g. got (suc g.0, (and_then f.1.0 g.1.0, g.1.1)))
      (got (0, (empty, r)))

  -- `{`, fields or nothing, `}`: how many, and their words
  unfoldable pub fields_at : Reader → Answer Fault (ℕ × (Form × Reader))
  fields_at r =
      need open_brace_code 0 r >>= λ s.
      cond (is s close_brace_code)
      (take 0 s >>= λ u. got (0, (empty, u)))
      (field_at [] s >>= λ f. fields_on (most_fields - 1) (f.0 ∷ []) f.1.1 >>= λ g. need close_brace_code 0 g.1.1 >>= λ u. got (suc g.0, (and_then f.1.0 g.1.0, u)))

  -- "A statement that begins with a name has three words at the name (its own, the variable, an n that is the path's or `new`'s)"
  unfoldable pub assignment : Reader → Answer Fault (Form × Reader)
  assignment r =
      path 2 (owing 1 r) >>= λ f. need becomes_code 0 f.1 >>= λ s.
      cond (is s new_code && eqb (length f.0.words) 2)
      (take 0 s >>= λ u. fields_at u >>= λ g.
      got (word_then (pos 2) (peek r).place (word_then (pos (number_in (with_name r.variables (peek r)) (peek r))) (peek r).place (word_then (pos g.0) (peek u).place g.1.0)), g.1.1))
      (expression false s >>= λ e. got (word_then (pos 1) (peek r).place (and_then f.0 e.0), e.1))

  -- ---- statements and blocks; `block` reads a block that a statement holds

  unfoldable pub statement_at : (Reader → Answer Fault (Form × Reader)) → Reader → Answer Fault (Form × Reader)
  statement_at block r =
      cond (is r name_code) (assignment r)
      (cond (is r skip_code) (take 1 r >>= λ s. got (form (pos 0 ∷ []) ((peek r).place ∷ []), s))
      (cond (is r always_code) (take 1 r >>= λ s. stated 3 (peek r).place s)
      (cond (is r once_code) (take 1 r >>= λ s. stated 4 (peek r).place s)
      (cond (is r if_code)
      (take 1 r >>= λ s. expression false s >>= λ e. need then_code 0 e.1 >>= λ u. block u >>= λ a. need else_code 0 a.1 >>= λ v. block v >>= λ b.
      got (word_then (pos 7) (peek r).place (and_then e.0 (and_then a.0 b.0)), b.1))
      (cond (is r while_code)
      (take 1 r >>= λ s. expression false s >>= λ e. need do_code 0 e.1 >>= λ u. block u >>= λ a. got (word_then (pos 8) (peek r).place (and_then e.0 a.0), a.1))
      (stop (refusal (peek r))))))))

  -- a statement and those behind it, of which n may follow: "the first token of the 256th statement of a block" is 22
  unfoldable pub row_at : (Reader → Answer Fault (Form × Reader)) → ℕ → Reader → Answer Fault (ℕ × (Form × Reader))
  row_at block zero r = statement_at block r >>= λ f. cond (is f.1 semicolon_code) (take 0 f.1 >>= λ s. statement_at block (passing true s) >>= λ g. got (1, g)) (got (1, f))
  row_at block (suc n) r =
      statement_at block r >>= λ f.
      cond (is f.1 semicolon_code)
      (take 0 f.1 >>= λ s. row_at block n s >>= λ g. got (suc g.0, (and_then f.0 g.1.0, g.1.1)))
      (got (1, f))

  -- a block in its braces, in which blocks may nest so deep: "the `{` of a block on depth 9" is 22
  unfoldable pub block_at : ℕ → Reader → Answer Fault (Form × Reader)
  block_at zero r = need open_brace_code 1 (passing true r) >>= λ s. got (empty, s)
  block_at (suc d) r =
      need open_brace_code 1 r >>= λ s.
      cond (is s close_brace_code)
      (take 0 s >>= λ u. got (form (pos 0 ∷ []) ((peek r).place ∷ []), u))
      (row_at (λ v. block_at d v) (most_statements - 1) s >>= λ g. need close_brace_code 0 g.1.1 >>= λ u. got (word_then (pos g.0) (peek r).place g.1.0, u))

  -- ---- the whole text

  abbrev pub first_reader : Reader
  first_reader = record { at = 0; last = semicolon_code; certain = 1; owed = 0; passed = false; variables = []; labels = [] }

  -- "An empty text gives the program `0`."
  unfoldable pub text_at : Answer Fault (Form × Reader)
  text_at =
      cond (is first_reader end_code) (got (form (pos 0 ∷ []) (0 ∷ []), first_reader))
      (row_at (λ v. block_at (block_depth - 1) v) (most_statements - 1) first_reader >>= λ g. need end_code 0 g.1.1 >>= λ u. got (word_then (pos g.0) 0 g.1.0, u))
