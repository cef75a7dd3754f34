-- What a token may be where it stands, judged from the tokens before it (docs/DECISIONS.md 80 to 92): what is awaited is kept, and no piece is read. Reading stands apart.
-- Assumes nothing: these are definitions.
use Rattle.std.specs.Prelude.{ℕ, zero, suc, ◌+◌, ◌-◌, ◌≡◌, ◌↔◌, Bool, true, false, not, cond, ◌&&◌, ◌||◌, List, [], ◌∷◌, eqb, ltb, leb, length}
use Rattle.words.specs.Answer.{Answer, got, stop, ◌>>◌, want}
use Rattle.words.specs.Range.{fits}
use Rattle.tables.specs.Sizes.{variables, labels, most_fields}
use Rattle.program.specs.Forms.{most_words, most_statements, block_depth, expression_depth, most_steps, most_parts}
use Rattle.program.specs.Reading.{among}
use Rattle.tokens.specs.declared.Token.{Token}
use Rattle.tokens.specs.Codes.{end_code, name_code, number_code, too_long, new_code, skip_code, always_code, once_code, weak_code, if_code, then_code, else_code, while_code, do_code, true_code, false_code, nil_code}
use Rattle.tokens.specs.Codes.{becomes_code, colon_code, comma_code, dot_code, semicolon_code, open_brace_code, close_brace_code, open_bracket_code, close_bracket_code, identical_code, beside_code}
use Rattle.tokens.specs.Bytes.{part as bytes}
use Rattle.tokens.specs.Tokens.{token_from}
use Rattle.tokens.specs.Numbers.{integer_of}
use Rattle.text.specs.Reading.{Fault, fault, Reader, Form, owing, passing, due_after, level_of, is_operator, number_in, known, with_name, first_reader, text_at}

-- what a token names
pub data Sort : Type 0 where
  other : Sort
  variable : Sort
  label : Sort

-- what an operand stands under: a bracket, or an operator with how tightly it binds and how deep its left operand nests
pub data Open : Type 0 where
  bracket : Open
  operator : ℕ → ℕ → Open

-- what is awaited, with all that is awaited behind it
pub data Awaited : Type 0 where
  nothing : Awaited
  -- a token of this code, with what it names and how many words it has
  token : ℕ → Sort → ℕ → Awaited → Awaited
  -- the same and then the first, or else the second
  either : ℕ → Sort → ℕ → Awaited → Awaited → Awaited
  -- the next token passes a limit, or has so many words more
  beyond : Awaited → Awaited
  owed : ℕ → Awaited → Awaited
  -- `.` and a label, so many times at most: "the 8th label of a path" is 22
  steps : ℕ → Awaited → Awaited
  -- an operand under these, inside C or not; and what may stand behind one that nests so deep
  operand : Bool → List Open → Awaited → Awaited
  behind : Bool → ℕ → List Open → Awaited → Awaited
  -- a part of C, and `/\` with another one, so many times at most: "the first token .. of the 17th part" is 22
  part : Awaited → Awaited
  parts : ℕ → Awaited → Awaited
  -- a field whose label is none of these, behind which so many may follow, and `,` with another one: "the label of the 9th field" is 22
  field : ℕ → List ℕ → Awaited → Awaited
  fields : ℕ → List ℕ → Awaited → Awaited
  -- a statement in which blocks may nest so deep, and `;` with another one, so many times at most: "the first token of the 256th statement of a block" is 22
  statement : ℕ → Awaited → Awaited
  row : ℕ → ℕ → Awaited → Awaited

-- ---- what is awaited of each form

abbrev pub only : ℕ → Awaited → Awaited
only c a = Awaited.token c Sort.other 0 a

abbrev pub a_label : Awaited → Awaited
a_label a = Awaited.token name_code Sort.label 1 a

-- an L that is a side of `==`
abbrev pub side : Awaited → Awaited
side a = Awaited.token name_code Sort.variable 2 (Awaited.steps most_steps a)

-- `==` behind a path, which is none inside C; "26 in place of the 24 adds none"
abbrev pub same : Bool → Awaited → Awaited
same true a = a
same false a = Awaited.either identical_code Sort.other 0 (side a) a

abbrev pub expression : Bool → Awaited → Awaited
expression in_c a = Awaited.operand in_c [] a

-- behind `always` and `once`: a path and `==`, or a C; "m, priority and 24 are added at the token after the path, if that is not `==`"
abbrev pub path_stated : Awaited → Awaited
path_stated a = Awaited.either identical_code Sort.other 0 (side a) (Awaited.owed 3 (Awaited.behind true 1 [] (Awaited.parts (most_parts - 1) a)))

abbrev pub stated : Awaited → Awaited
stated a = Awaited.either name_code Sort.variable 2 (Awaited.steps most_steps (path_stated a)) (Awaited.owed 1 (Awaited.part (Awaited.parts (most_parts - 1) a)))

-- behind `new`: braces with fields or nothing
abbrev pub braces : Awaited → Awaited
braces a = only open_brace_code (Awaited.either close_brace_code Sort.other 0 a (Awaited.field (most_fields - 1) [] (only close_brace_code a)))

-- behind the name that begins a statement: `new` may come where the path has no label
abbrev pub assigned : Awaited → Awaited
assigned a =
    Awaited.either becomes_code Sort.other 0 (Awaited.either new_code Sort.other 0 (braces a) (expression false a))
    (Awaited.steps most_steps (only becomes_code (expression false a)))

-- statements up to a token of code c, or it alone
abbrev pub up_to : ℕ → ℕ → Awaited → Awaited
up_to c d a = Awaited.either c Sort.other 0 a (Awaited.statement d (Awaited.row d (most_statements - 1) (only c a)))

-- "the `{` of a block on depth 9" is 22
abbrev pub block : ℕ → Awaited → Awaited
block zero a = Awaited.beyond (Awaited.token open_brace_code Sort.other 1 a)
block (suc d) a = Awaited.token open_brace_code Sort.other 1 (up_to close_brace_code d a)

-- "A text is nothing, or one or more statements", and its end
abbrev pub awaited_first : Awaited
awaited_first = up_to end_code (block_depth - 1) Awaited.nothing

-- ---- operators and brackets

abbrev pub deeper : ℕ → ℕ → ℕ
deeper a b = suc (cond (ltb a b) b a)

-- an operand that nests d deep, and those under it that are whole before an operator of this level: "each level grouping left"
unfoldable pub grouped : ℕ → ℕ → List Open → ℕ × List Open
grouped l d [] = (d, [])
grouped l d (bracket ∷ os) = (d, bracket ∷ os)
grouped l d (operator k a ∷ os) = cond (leb l k) (grouped l (deeper a d) os) (d, operator k a ∷ os)

-- the same before `)`: how deep what stands in the brackets nests, and what they stand under
unfoldable pub closed : ℕ → List Open → ℕ × List Open
closed d [] = (d, [])
closed d (bracket ∷ os) = (d, os)
closed d (operator k a ∷ os) = closed (deeper a d) os

unfoldable pub bracketed : List Open → Bool
bracketed [] = false
bracketed (bracket ∷ os) = true
bracketed (operator k a ∷ os) = bracketed os

-- on how many levels operators are open
unfoldable pub levels : List Open → ℕ
levels [] = 0
levels (bracket ∷ os) = levels os
levels (operator k a ∷ os) = suc (levels os)

module _ (text : List ℕ) where
  -- ---- one token

  -- a token may stand here or not, by the number of the refusal; where it may, what is awaited after it, and how far the text is judged
  abbrev pub May : Type 0
  May = Answer ℕ (Awaited × Reader)

  -- "20: the token may not stand there"; 22 where the text is too long for it to be judged
  unfoldable pub unfit : Token → May
  unfit t = cond (eqb t.code too_long) (stop 22) (stop 20)

  -- "the 65th variable or the 33rd label"
  unfoldable pub room : Sort → Reader → Token → Bool
  room other r t = true
  room variable r t = known text r.variables t || ltb (length r.variables) variables
  room label r t = known text r.labels t || ltb (length r.labels) labels

  unfoldable pub after : Sort → ℕ → Reader → Token → Reader
  after other n r t = record { at = t.end; last = t.code; certain = n; owed = 0; passed = false; variables = r.variables; labels = r.labels }
  after variable n r t = record { at = t.end; last = t.code; certain = n; owed = 0; passed = false; variables = with_name text r.variables t; labels = r.labels }
  after label n r t = record { at = t.end; last = t.code; certain = n; owed = 0; passed = false; variables = r.variables; labels = with_name text r.labels t }

  -- the token may stand there in the grammar: 21 and 22 are left, in this order
  unfoldable pub stands : Sort → ℕ → Awaited → Reader → Token → May
  stands s k a r t = do
    want 21 (room s r t)
    want 22 (not r.passed && leb (r.certain + r.owed + k) most_words)
    got (a, after s (r.certain + r.owed + k) r t)

  -- "a number outside 32 bits (its sign counts)"
  unfoldable pub too_great : Token → Bool
  too_great t = not (fits (integer_of (bytes text t.place t.end)))

  unfoldable pub may_operand : Bool → List Open → Awaited → Reader → Token → May
  may_operand in_c os a r t =
      cond (eqb t.code open_bracket_code) (stands Sort.other 0 (Awaited.operand in_c (bracket ∷ os) a) r t)
      (cond (eqb t.code name_code) (stands Sort.variable 3 (Awaited.steps most_steps (same in_c (Awaited.behind in_c 1 os a))) r t)
      (cond (eqb t.code nil_code || eqb t.code false_code || eqb t.code true_code) (stands Sort.other 1 (Awaited.behind in_c 1 os a) r t)
      (cond (eqb t.code number_code) (stands Sort.other 2 (Awaited.behind in_c 1 os a) (passing (too_great t) r) t)
      (unfit t))))

  -- "an operator with which an operand would stand on level 17": x has how deep its left operand nests, and what the operator stands under
  unfoldable pub may_operator : Bool → ℕ × List Open → Awaited → Reader → Token → May
  may_operator in_c x a r t =
      stands Sort.other 2 (Awaited.operand in_c (operator (level_of (t.code - 40)) x.0 ∷ x.1) a) (passing (ltb expression_depth (levels x.1 + 1 + x.0)) r) t

  -- a priority, or the first token of an operand that has it
  unfoldable pub may_part : Awaited → Reader → Token → May
  may_part a r t = cond (leb weak_code t.code && leb t.code (weak_code + 2)) (stands Sort.other 1 (expression true a) r t) (may_operand true [] a (owing 1 r) t)

  unfoldable pub may_field : ℕ → List ℕ → Awaited → Reader → Token → May
  may_field n seen a r t =
      cond (eqb t.code name_code && not (known text r.labels t && among (number_in text r.labels t) seen))
      (stands Sort.label 1 (only colon_code (expression false (Awaited.fields n (number_in text r.labels t ∷ seen) a))) r t)
      (unfit t)

  unfoldable pub may_statement : ℕ → Awaited → Reader → Token → May
  may_statement d a r t =
      cond (eqb t.code name_code) (stands Sort.variable 3 (assigned a) r t)
      (cond (eqb t.code skip_code) (stands Sort.other 1 a r t)
      (cond (eqb t.code always_code || eqb t.code once_code) (stands Sort.other 1 (stated a) r t)
      (cond (eqb t.code if_code) (stands Sort.other 1 (expression false (only then_code (block d (only else_code (block d a))))) r t)
      (cond (eqb t.code while_code) (stands Sort.other 1 (expression false (only do_code (block d a))) r t)
      (unfit t)))))

  -- `,` `/\` `;` `.` and then the next one, where n more may follow
  abbrev pub again : ℕ → (ℕ → Awaited) → Awaited → Awaited
  again zero next last = Awaited.beyond last
  again (suc n) next last = next n

  -- the token t, where this is awaited; where the token does not belong to it, what is awaited behind it. Where nothing is awaited no token is judged.
  unfoldable pub may : Awaited → Reader → Token → May
  may nothing r t = got (nothing, r)
  may (token c s k a) r t = cond (eqb t.code c) (stands s k a r t) (unfit t)
  may (either c s k a b) r t = cond (eqb t.code c) (stands s k a r t) (may b r t)
  may (beyond a) r t = may a (passing true r) t
  may (owed k a) r t = may a (owing k r) t
  may (steps n a) r t = cond (eqb t.code dot_code) (stands Sort.other 0 (again n (λ m. a_label (Awaited.steps m a)) (a_label a)) r t) (may a r t)
  may (operand in_c os a) r t = may_operand in_c os a r t
  may (behind in_c d os a) r t =
      cond (bracketed os && eqb t.code close_bracket_code) (stands Sort.other 0 (Awaited.behind in_c (closed d os).0 (closed d os).1 a) r t)
      (cond (is_operator t.code) (may_operator in_c (grouped (level_of (t.code - 40)) d os) a r t)
      (cond (bracketed os) (unfit t) (may a r t)))
  may (part a) r t = may_part a r t
  may (parts n a) r t = cond (eqb t.code beside_code) (stands Sort.other 0 (again n (λ m. Awaited.part (Awaited.parts m a)) (Awaited.part a)) r t) (may a r t)
  may (field n seen a) r t = may_field n seen a r t
  may (fields n seen a) r t = cond (eqb t.code comma_code) (stands Sort.other 0 (again n (λ m. Awaited.field m seen a) (Awaited.field 0 seen a)) r t) (may a r t)
  may (statement d a) r t = may_statement d a r t
  may (row d n a) r t = cond (eqb t.code semicolon_code) (stands Sort.other 0 (again n (λ m. Awaited.statement d (Awaited.row d m a)) (Awaited.statement d a)) r t) (may a r t)

  -- ---- a text

  -- the token to be judged
  abbrev pub there : Reader → Token
  there r = token_from (due_after r.last) text r.at

  -- Tokens are judged in order: each may stand where it stands, until one may not, or nothing is awaited any more.
  pub data Judged : Awaited → Reader → Answer Fault (Unit {0}) → Type 0 where
    whole : {r : Reader} → Judged Awaited.nothing r (got tt)
    refused : {a : Awaited} {r : Reader} {n : ℕ} → may a r (there r) ≡ stop n → Judged a r (stop (fault n (there r).place))
    next : {a b : Awaited} {r s : Reader} {o : Answer Fault (Unit {0})} → may a r (there r) ≡ got (b, s) → Judged b s o → Judged a r o

  -- the same by computing, for so many tokens: a refusal, or what is awaited after them
  unfoldable pub judge : ℕ → Awaited → Reader → Answer Fault (Awaited × Reader)
  judge zero a r = got (a, r)
  judge (suc n) a r = elim (may a r (there r)) [ got x ↦ judge n x.0 x.1 | stop k ↦ stop (fault k (there r).place) ]

  abbrev pub JudgedText : Answer Fault (Unit {0}) → Type 0
  JudgedText o = Judged awaited_first (first_reader text) o

  -- a text has no more tokens than bytes, and its end
  abbrev pub judge_text : Answer Fault (Awaited × Reader)
  judge_text = judge (suc (length text)) awaited_first (first_reader text)

-- ---- what is claimed

-- a refusal's number and place are the judge's, and a text is accepted exactly where all its tokens may stand
abbrev pub RefusedExactly : Type 0
RefusedExactly = (text : List ℕ) (n place : ℕ) → (text_at text ≡ stop (fault n place)) ↔ JudgedText text (stop (fault n place))

abbrev pub StandsExactly : Type 0
StandsExactly = (text : List ℕ) → ((x : Form × Reader) × (text_at text ≡ got x)) ↔ JudgedText text (got tt)
