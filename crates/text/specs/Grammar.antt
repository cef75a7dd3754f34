-- The papers' notation as a grammar of tokens (docs/DECISIONS.md 80 to 83), with the words that each form yields and, for each word, the place of the token that it
-- comes from (96). No limit stands here: they are document 01's, and hold of the words. Assumes nothing: these are definitions.
use Rattle.std.specs.Prelude.{ℕ, suc, ◌+◌, ◌≤◌, ◌≡◌, Bool, true, false, List, [], ◌∷◌, ◌++◌, ℤ, pos}
use Rattle.tokens.specs.declared.Token.{Token}
use Rattle.tokens.specs.Codes.{name_code, number_code, new_code, skip_code, always_code, once_code, weak_code, if_code, then_code, else_code, while_code, do_code, true_code, false_code, nil_code}
use Rattle.tokens.specs.Codes.{becomes_code, colon_code, comma_code, dot_code, semicolon_code, open_brace_code, close_brace_code, open_bracket_code, close_bracket_code, identical_code, beside_code}

-- what names and numbers stand for: the number of a variable, that of a label, and the integer
pub record Meaning : Type 0 where
  pub variable : Token → ℕ
  pub label : Token → ℕ
  pub integer : Token → ℤ

-- "L: variable, then `.` label any number of times"
pub data Labels (M : Meaning) : ℕ → List Token → List ℤ → List ℕ → Type 0 where
  none : Labels M 0 [] [] []
  one : {n : ℕ} (d l : Token) {ts : List Token} {ws : List ℤ} {os : List ℕ}
      → d.code ≡ dot_code → l.code ≡ name_code → Labels M n ts ws os → Labels M (suc n) (d ∷ l ∷ ts) (pos (M.label l) ∷ ws) (l.place ∷ os)

pub data Path (M : Meaning) : List Token → List ℤ → List ℕ → Type 0 where
  path : {n : ℕ} (x : Token) {ts : List Token} {ws : List ℤ} {os : List ℕ}
      → x.code ≡ name_code → Labels M n ts ws os → Path M (x ∷ ts) (pos (M.variable x) ∷ pos n ∷ ws) (x.place ∷ x.place ∷ os)

-- "`*` above `+ -` above comparisons above `and` above `or`", by the operators' numbers in document 01
pub data Level : ℕ → ℕ → Type 0 where
  times : Level 3 5
  sums : {k : ℕ} → 1 ≤ k → k ≤ 2 → Level k 4
  comparisons : {k : ℕ} → 4 ≤ k → k ≤ 9 → Level k 3
  both : Level 10 2
  either : Level 11 1

-- "e: operands joined by the operators", each level grouping left; 6 is the level of an operand. in_c: inside C
pub data Expression (M : Meaning) (in_c : Bool) : ℕ → List Token → List ℤ → List ℕ → Type 0 where
  nil : (t : Token) → t.code ≡ nil_code → Expression M in_c 6 (t ∷ []) (pos 20 ∷ []) (t.place ∷ [])
  no : (t : Token) → t.code ≡ false_code → Expression M in_c 6 (t ∷ []) (pos 21 ∷ []) (t.place ∷ [])
  yes : (t : Token) → t.code ≡ true_code → Expression M in_c 6 (t ∷ []) (pos 22 ∷ []) (t.place ∷ [])
  number : (t : Token) → t.code ≡ number_code → Expression M in_c 6 (t ∷ []) (pos 23 ∷ M.integer t ∷ []) (t.place ∷ t.place ∷ [])
  at : (t : Token) {ts : List Token} {ws : List ℤ} {os : List ℕ} → Path M (t ∷ ts) ws os → Expression M in_c 6 (t ∷ ts) (pos 24 ∷ ws) (t.place ∷ os)
  identity : {a b : List Token} (e : Token) {va vb : List ℤ} {oa ob : List ℕ} → in_c ≡ false → Path M a va oa → e.code ≡ identical_code → Path M b vb ob
      → Expression M in_c 6 (a ++ e ∷ b) (pos 26 ∷ va ++ vb) (e.place ∷ oa ++ ob)
  brackets : {ts : List Token} (o c : Token) {ws : List ℤ} {os : List ℕ}
      → o.code ≡ open_bracket_code → Expression M in_c 1 ts ws os → c.code ≡ close_bracket_code → Expression M in_c 6 (o ∷ ts ++ c ∷ []) ws os
  tighter : {l : ℕ} {ts : List Token} {ws : List ℤ} {os : List ℕ} → 1 ≤ l → Expression M in_c (suc l) ts ws os → Expression M in_c l ts ws os
  operation : {k l : ℕ} {a b : List Token} (o : Token) {va vb : List ℤ} {oa ob : List ℕ}
      → Expression M in_c l a va oa → o.code ≡ 40 + k → Level k l → Expression M in_c (suc l) b vb ob
      → Expression M in_c l (a ++ o ∷ b) (pos 25 ∷ pos k ∷ va ++ vb) (o.place ∷ o.place ∷ oa ++ ob)

-- "a part is a priority or none, and an e without `==` in it"; "a part without priority required"
pub data Part (M : Meaning) : List Token → List ℤ → List ℕ → Type 0 where
  said : {k : ℕ} (t : Token) {ts : List Token} {ws : List ℤ} {os : List ℕ}
      → 1 ≤ k → k ≤ 3 → t.code + 1 ≡ weak_code + k → Expression M true 1 ts ws os → Part M (t ∷ ts) (pos k ∷ ws) (t.place ∷ os)
  unsaid : (t : Token) {ts : List Token} {ws : List ℤ} {os : List ℕ} → Expression M true 1 (t ∷ ts) ws os → Part M (t ∷ ts) (pos 3 ∷ ws) (t.place ∷ os)

-- "C: parts joined by `/\`"
pub data Parts (M : Meaning) : ℕ → List Token → List ℤ → List ℕ → Type 0 where
  one : {ts : List Token} {ws : List ℤ} {os : List ℕ} → Part M ts ws os → Parts M 1 ts ws os
  more : {n : ℕ} {a b : List Token} (j : Token) {va vb : List ℤ} {oa ob : List ℕ}
      → Part M a va oa → j.code ≡ beside_code → Parts M n b vb ob → Parts M (suc n) (a ++ j ∷ b) (va ++ vb) (oa ++ ob)

pub data Constraint (M : Meaning) : List Token → List ℤ → List ℕ → Type 0 where
  constraint : {n : ℕ} (t : Token) {ts : List Token} {ws : List ℤ} {os : List ℕ} → Parts M n (t ∷ ts) ws os → Constraint M (t ∷ ts) (pos n ∷ ws) (t.place ∷ os)

-- "Fields: label `:` e, parted by `,`, none at the end"; or nothing
pub data Fields (M : Meaning) : ℕ → List Token → List ℤ → List ℕ → Type 0 where
  one : (l c : Token) {ts : List Token} {ws : List ℤ} {os : List ℕ}
      → l.code ≡ name_code → c.code ≡ colon_code → Expression M false 1 ts ws os → Fields M 1 (l ∷ c ∷ ts) (pos (M.label l) ∷ ws) (l.place ∷ os)
  more : {n : ℕ} (l c j : Token) {a b : List Token} {va vb : List ℤ} {oa ob : List ℕ}
      → l.code ≡ name_code → c.code ≡ colon_code → Expression M false 1 a va oa → j.code ≡ comma_code → Fields M n b vb ob
      → Fields M (suc n) (l ∷ c ∷ a ++ j ∷ b) (pos (M.label l) ∷ va ++ vb) (l.place ∷ oa ++ ob)

-- the pieces that hold one another: a statement, n statements in a row, and a block in its braces
pub data Piece : Type 0 where
  statement : Piece
  row : ℕ → Piece
  block : Piece

pub data Yields (M : Meaning) : Piece → List Token → List ℤ → List ℕ → Type 0 where
  skip : (t : Token) → t.code ≡ skip_code → Yields M statement (t ∷ []) (pos 0 ∷ []) (t.place ∷ [])
  assign : (x b : Token) {a ts : List Token} {va ws : List ℤ} {oa os : List ℕ}
      → Path M (x ∷ a) va oa → b.code ≡ becomes_code → Expression M false 1 ts ws os → Yields M statement ((x ∷ a) ++ b ∷ ts) (pos 1 ∷ va ++ ws) (x.place ∷ oa ++ os)
  new_empty : (x b w o c : Token)
      → x.code ≡ name_code → b.code ≡ becomes_code → w.code ≡ new_code → o.code ≡ open_brace_code → c.code ≡ close_brace_code
      → Yields M statement (x ∷ b ∷ w ∷ o ∷ c ∷ []) (pos 2 ∷ pos (M.variable x) ∷ pos 0 ∷ []) (x.place ∷ x.place ∷ o.place ∷ [])
  new : {n : ℕ} (x b w o c : Token) {ts : List Token} {ws : List ℤ} {os : List ℕ}
      → x.code ≡ name_code → b.code ≡ becomes_code → w.code ≡ new_code → o.code ≡ open_brace_code → Fields M n ts ws os → c.code ≡ close_brace_code
      → Yields M statement (x ∷ b ∷ w ∷ o ∷ ts ++ c ∷ []) (pos 2 ∷ pos (M.variable x) ∷ pos n ∷ ws) (x.place ∷ x.place ∷ o.place ∷ os)
  always : (t : Token) {ts : List Token} {ws : List ℤ} {os : List ℕ} → t.code ≡ always_code → Constraint M ts ws os → Yields M statement (t ∷ ts) (pos 3 ∷ ws) (t.place ∷ os)
  once : (t : Token) {ts : List Token} {ws : List ℤ} {os : List ℕ} → t.code ≡ once_code → Constraint M ts ws os → Yields M statement (t ∷ ts) (pos 4 ∷ ws) (t.place ∷ os)
  always-same : (t e : Token) {a b : List Token} {va vb : List ℤ} {oa ob : List ℕ}
      → t.code ≡ always_code → Path M a va oa → e.code ≡ identical_code → Path M b vb ob → Yields M statement (t ∷ a ++ e ∷ b) (pos 5 ∷ va ++ vb) (t.place ∷ oa ++ ob)
  once-same : (t e : Token) {a b : List Token} {va vb : List ℤ} {oa ob : List ℕ}
      → t.code ≡ once_code → Path M a va oa → e.code ≡ identical_code → Path M b vb ob → Yields M statement (t ∷ a ++ e ∷ b) (pos 6 ∷ va ++ vb) (t.place ∷ oa ++ ob)
  branch : (i h s : Token) {a b c : List Token} {va vb vc : List ℤ} {oa ob oc : List ℕ}
      → i.code ≡ if_code → Expression M false 1 a va oa → h.code ≡ then_code → Yields M block b vb ob → s.code ≡ else_code → Yields M block c vc oc
      → Yields M statement (i ∷ a ++ h ∷ b ++ s ∷ c) (pos 7 ∷ va ++ (vb ++ vc)) (i.place ∷ oa ++ (ob ++ oc))
  loop : (w d : Token) {a b : List Token} {va vb : List ℤ} {oa ob : List ℕ}
      → w.code ≡ while_code → Expression M false 1 a va oa → d.code ≡ do_code → Yields M block b vb ob → Yields M statement (w ∷ a ++ d ∷ b) (pos 8 ∷ va ++ vb) (w.place ∷ oa ++ ob)
  -- "statements: one or more, parted by `;`, none at the end. Braces hold statements or nothing."
  last : {ts : List Token} {ws : List ℤ} {os : List ℕ} → Yields M statement ts ws os → Yields M (row 1) ts ws os
  more : {n : ℕ} {a b : List Token} (s : Token) {va vb : List ℤ} {oa ob : List ℕ}
      → Yields M statement a va oa → s.code ≡ semicolon_code → Yields M (row n) b vb ob → Yields M (row (suc n)) (a ++ s ∷ b) (va ++ vb) (oa ++ ob)
  empty : (o c : Token) → o.code ≡ open_brace_code → c.code ≡ close_brace_code → Yields M block (o ∷ c ∷ []) (pos 0 ∷ []) (o.place ∷ [])
  braces : {n : ℕ} (o c : Token) {ts : List Token} {ws : List ℤ} {os : List ℕ}
      → o.code ≡ open_brace_code → Yields M (row n) ts ws os → c.code ≡ close_brace_code → Yields M block (o ∷ ts ++ c ∷ []) (pos n ∷ ws) (o.place ∷ os)

-- "text: statements or nothing"; the outermost n comes from byte 0
pub data Text (M : Meaning) : List Token → List ℤ → List ℕ → Type 0 where
  nothing : Text M [] (pos 0 ∷ []) (0 ∷ [])
  some : {n : ℕ} {ts : List Token} {ws : List ℤ} {os : List ℕ} → Yields M (row n) ts ws os → Text M ts (pos n ∷ ws) (0 ∷ os)
