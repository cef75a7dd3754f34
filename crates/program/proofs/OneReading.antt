-- One list of words has at most one reading: the tree of a derivation is that which a reader finds. Assumes nothing.
use mathlib.Core.Path.{◌≡◌, refl, sym, ap, ◌∙◌}
use mathlib.Core.Bool.{Bool}
use mathlib.Core.List.{List, [], ◌∷◌, ◌++◌, append-nil, append_assoc, append_cancel_right}
use Prim.Native.Nat.{ℕ, zero, suc, ◌-◌}
use native.Mathlib.Omega.{arith}
use lib.IntN.{ℤ, pos}
use lib.ListN.{length, take, drop, length-append}
use lib.Seq.{take_at}
use Rattle.words.specs.Words.{number_of, number_at}
use Rattle.words.specs.Answer.{got, stop, ◌>>=◌}
use Rattle.words.proofs.AnswerLaws.{got-inj}
use Rattle.words.proofs.Laws.{number-first, number-drop}
use Rattle.program.specs.Forms.{block_depth, expression_depth}
use Rattle.program.specs.Forms.{form_of}
use Rattle.program.specs.declared.Form.{Form}
use Rattle.program.specs.declared.Form.TheVariants.{Nil as a_nil, False as a_false, True as a_true, Integer as an_integer, Path as a_path, Operation as an_operation, Identity as an_identity, Unknown as no_form}
use Rattle.program.specs.Forms.{verb_of}
use Rattle.program.specs.declared.Verb.{Verb}
use Rattle.program.specs.declared.Verb.TheVariants.{Skip as skip, Assign as assign, New as new, Always as always, Once as once, AlwaysSame as always_same, OnceSame as once_same, If as branch, While as loop, Unknown as no_verb}
use Rattle.program.specs.Reading.{Reading, read_path}
use Rattle.program.specs.Grammar.{Path, Expression, Parts, Constraint, Fields, Piece, block_of, statements_of, statement_of, Yields}
use Rattle.program.proofs.GrammarLaws.{path-complete}

-- ---- trees

infixr 67 ◌&◌
-- a piece: its own words, and the pieces in it
mutual
  pub data Tree : Type 0 where
    node : List ℤ → Trees → Tree

  pub data Trees : Type 0 where
    none : Trees
    ◌&◌ : Tree → Trees → Trees

abbrev pub tree_of_path : {ws : List ℤ} → Path ws → Tree
tree_of_path {ws} x = node ws none

abbrev pub tree_of_expression : {in_c : Bool} {d : ℕ} {ws : List ℤ} → Expression in_c d ws → Tree
tree_of_expression Expression.nil = node (pos 20 ∷ []) none
tree_of_expression Expression.no = node (pos 21 ∷ []) none
tree_of_expression Expression.yes = node (pos 22 ∷ []) none
tree_of_expression (Expression.integer {w = w}) = node (pos 23 ∷ w ∷ []) none
tree_of_expression (Expression.at x) = node (pos 24 ∷ []) (tree_of_path x & none)
tree_of_expression (Expression.operation {o = o} h k x y) = node (pos 25 ∷ pos o ∷ []) (tree_of_expression x & tree_of_expression y & none)
tree_of_expression (Expression.identity c x y) = node (pos 26 ∷ []) (tree_of_path x & tree_of_path y & none)

abbrev pub trees_of_parts : {m : ℕ} {ws : List ℤ} → Parts m ws → Trees
trees_of_parts Parts.none = none
trees_of_parts (Parts.one {k = k} h l x y) = node (pos k ∷ []) (tree_of_expression x & none) & trees_of_parts y

abbrev pub tree_of_constraint : {ws : List ℤ} → Constraint ws → Tree
tree_of_constraint (Constraint.constraint {m = m} h l x) = node (pos m ∷ []) (trees_of_parts x)

abbrev pub trees_of_fields : {n : ℕ} {seen : List ℕ} {ws : List ℤ} → Fields n seen ws → Trees
trees_of_fields Fields.none = none
trees_of_fields (Fields.one {l = l} h s x y) = node (pos l ∷ []) (tree_of_expression x & none) & trees_of_fields y

-- a block and a statement are a tree, statements in a row are as many
abbrev pub Shape : Piece → Type 0
Shape (block_of d) = Tree
Shape (statements_of d n) = Trees
Shape (statement_of d) = Tree

abbrev pub tree_of : {c : Piece} {ws : List ℤ} → Yields c ws → Shape c
tree_of (Yields.block {n = n} h x) = node (pos n ∷ []) (tree_of x)
tree_of Yields.none = none
tree_of (Yields.one x y) = tree_of x & tree_of y
tree_of Yields.skip = node (pos 0 ∷ []) none
tree_of (Yields.assign x y) = node (pos 1 ∷ []) (tree_of_path x & tree_of_expression y & none)
tree_of (Yields.new {x = x} {n = n} h k f) = node (pos 2 ∷ pos x ∷ pos n ∷ []) (trees_of_fields f)
tree_of (Yields.always x) = node (pos 3 ∷ []) (tree_of_constraint x & none)
tree_of (Yields.once x) = node (pos 4 ∷ []) (tree_of_constraint x & none)
tree_of (Yields.always_same x y) = node (pos 5 ∷ []) (tree_of_path x & tree_of_path y & none)
tree_of (Yields.once_same x y) = node (pos 6 ∷ []) (tree_of_path x & tree_of_path y & none)
tree_of (Yields.branch x y z) = node (pos 7 ∷ []) (tree_of_expression x & tree_of y & tree_of z & none)
tree_of (Yields.loop x y) = node (pos 8 ∷ []) (tree_of_expression x & tree_of y & none)

-- ---- the words of a tree are those that were read

abbrev mutual
  pub words_of : Tree → List ℤ
  words_of (node ws ts) = ws ++ all_words ts

  pub all_words : Trees → List ℤ
  all_words none = []
  all_words (t & ts) = words_of t ++ all_words ts

expression-words : {in_c : Bool} {d : ℕ} {ws : List ℤ} (x : Expression in_c d ws) → words_of (tree_of_expression x) ≡ ws
expression-words Expression.nil = refl
expression-words Expression.no = refl
expression-words Expression.yes = refl
expression-words Expression.integer = refl
expression-words (Expression.at x) = simp append-nil
expression-words (Expression.operation h k x y) = simp (expression-words x, expression-words y, append-nil)
expression-words (Expression.identity c x y) = simp append-nil

parts-words : {m : ℕ} {ws : List ℤ} (x : Parts m ws) → all_words (trees_of_parts x) ≡ ws
parts-words Parts.none = refl
parts-words (Parts.one h l x y) = simp (expression-words x, parts-words y, append-nil)

fields-words : {n : ℕ} {seen : List ℕ} {ws : List ℤ} (x : Fields n seen ws) → all_words (trees_of_fields x) ≡ ws
fields-words Fields.none = refl
fields-words (Fields.one h s x y) = simp (expression-words x, fields-words y, append-nil)

constraint-words : {ws : List ℤ} (x : Constraint ws) → words_of (tree_of_constraint x) ≡ ws
constraint-words (Constraint.constraint {m = m} h l x) = ap (λ ps. pos m ∷ ps) (parts-words x)

abbrev pub shape_words : (c : Piece) → Shape c → List ℤ
shape_words (block_of d) t = words_of t
shape_words (statements_of d n) ts = all_words ts
shape_words (statement_of d) t = words_of t

-- the tree of a block, of statements and of a statement holds its words, in their order
pub tree-words : {c : Piece} {ws : List ℤ} (x : Yields c ws) → shape_words c (tree_of x) ≡ ws
tree-words (Yields.block {n = n} h x) = ap (λ ss. pos n ∷ ss) (tree-words x)
tree-words Yields.none = refl
tree-words (Yields.one x y) = rw (tree-words x, tree-words y)
tree-words Yields.skip = refl
tree-words (Yields.assign x y) = simp (expression-words y, append-nil)
tree-words (Yields.new h k f) = rw (fields-words f)
tree-words (Yields.always x) = simp (constraint-words x, append-nil)
tree-words (Yields.once x) = simp (constraint-words x, append-nil)
tree-words (Yields.always_same x y) = simp append-nil
tree-words (Yields.once_same x y) = simp append-nil
tree-words (Yields.branch x y z) = simp (expression-words x, tree-words y, tree-words z, append-nil)
tree-words (Yields.loop x y) = simp (expression-words x, tree-words y, append-nil)

-- ---- a reader that answers the tree: each piece with its tree and the part after it

abbrev Parsing : Type 0 → Type 0
Parsing T = Reading (T × List ℤ)

unfoldable parse_path : List ℤ → Parsing Tree
parse_path p = do
  q ← read_path p
  got (node (take (length p - length q) p) none, q)

unfoldable parse_paths : List ℤ → List ℤ → Parsing Tree
parse_paths ws p = do
  (a, q) ← parse_path p
  (b, r) ← parse_path q
  got (node ws (a & b & none), r)

unfoldable parse_form : (List ℤ → Parsing Tree) → List ℤ → Form → Parsing Tree
parse_form go p a_nil = got (node (take 1 p) none, drop 1 p)
parse_form go p a_false = got (node (take 1 p) none, drop 1 p)
parse_form go p a_true = got (node (take 1 p) none, drop 1 p)
parse_form go p an_integer = got (node (take 2 p) none, drop 2 p)
parse_form go p a_path = do
  (a, q) ← parse_path (drop 1 p)
  got (node (take 1 p) (a & none), q)
parse_form go p an_operation = do
  (a, q) ← go (drop 2 p)
  (b, r) ← go q
  got (node (take 2 p) (a & b & none), r)
parse_form go p an_identity = parse_paths (take 1 p) (drop 1 p)
parse_form go p no_form = stop p

unfoldable parse_expression : ℕ → List ℤ → Parsing Tree
parse_expression zero p = stop p
parse_expression (suc d) p = parse_form (λ q. parse_expression d q) p (form_of (number_at p 0))

-- n times one word and an expression: the parts of C, the fields of new
unfoldable parse_many : ℕ → List ℤ → Parsing Trees
parse_many zero p = got (none, p)
parse_many (suc n) p = do
  (a, q) ← parse_expression expression_depth (drop 1 p)
  (ts, r) ← parse_many n q
  got (node (take 1 p) (a & none) & ts, r)

unfoldable parse_constraint : List ℤ → Parsing Tree
parse_constraint p = do
  (ts, q) ← parse_many (number_at p 0) (drop 1 p)
  got (node (take 1 p) ts, q)

unfoldable parse_verb : (List ℤ → Parsing Tree) → List ℤ → Verb → Parsing Tree
parse_verb block p skip = got (node (take 1 p) none, drop 1 p)
parse_verb block p assign = do
  (a, q) ← parse_path (drop 1 p)
  (b, r) ← parse_expression expression_depth q
  got (node (take 1 p) (a & b & none), r)
parse_verb block p new = do
  (ts, q) ← parse_many (number_at p 2) (drop 3 p)
  got (node (take 3 p) ts, q)
parse_verb block p always = do
  (a, q) ← parse_constraint (drop 1 p)
  got (node (take 1 p) (a & none), q)
parse_verb block p once = do
  (a, q) ← parse_constraint (drop 1 p)
  got (node (take 1 p) (a & none), q)
parse_verb block p always_same = parse_paths (take 1 p) (drop 1 p)
parse_verb block p once_same = parse_paths (take 1 p) (drop 1 p)
parse_verb block p branch = do
  (a, q) ← parse_expression expression_depth (drop 1 p)
  (b, r) ← block q
  (c, s) ← block r
  got (node (take 1 p) (a & b & c & none), s)
parse_verb block p loop = do
  (a, q) ← parse_expression expression_depth (drop 1 p)
  (b, r) ← block q
  got (node (take 1 p) (a & b & none), r)
parse_verb block p no_verb = stop p

unfoldable parse_statements : (List ℤ → Parsing Tree) → ℕ → List ℤ → Parsing Trees
parse_statements block zero p = got (none, p)
parse_statements block (suc n) p = do
  (a, q) ← parse_verb block p (verb_of (number_at p 0))
  (ts, r) ← parse_statements block n q
  got (a & ts, r)

unfoldable parse_block : ℕ → List ℤ → Parsing Tree
parse_block zero p = stop p
parse_block (suc d) p = do
  (ts, q) ← parse_statements (λ r. parse_block d r) (number_at p 0) (drop 1 p)
  got (node (take 1 p) ts, q)

-- ---- it finds the tree of every derivation

words_back : (ws q : List ℤ) → take (length (ws ++ q) - length q) (ws ++ q) ≡ ws
words_back ws q = take_at ws q (length (ws ++ q) - length q) (simp length-append (omega arith))

path-parsed : {ws : List ℤ} (x : Path ws) (q : List ℤ) → parse_path (ws ++ q) ≡ got (tree_of_path x, q)
unfolding parse_path
path-parsed {ws} x q = rw (path-complete x q, words_back ws q)

paths-parsed : {a b : List ℤ} (ws : List ℤ) (x : Path a) (y : Path b) (q : List ℤ)
    → parse_paths ws ((a ++ b) ++ q) ≡ got (node ws (tree_of_path x & tree_of_path y & none), q)
unfolding parse_paths
paths-parsed {a} {b} ws x y q = rw (append_assoc a b q, path-parsed x (b ++ q), path-parsed y q)

expression-parsed : {in_c : Bool} {d : ℕ} {ws : List ℤ} (x : Expression in_c d ws) (q : List ℤ) → parse_expression d (ws ++ q) ≡ got (tree_of_expression x, q)
unfolding parse_expression parse_form form_of
expression-parsed Expression.nil q = rw number-first
expression-parsed Expression.no q = rw number-first
expression-parsed Expression.yes q = rw number-first
expression-parsed Expression.integer q = rw number-first
expression-parsed (Expression.at x) q = rw (number-first, path-parsed x q)
expression-parsed (Expression.operation {a = a} {b = b} h k x y) q =
    rw (number-first, append_assoc a b q, expression-parsed x (b ++ q), expression-parsed y q)
expression-parsed (Expression.identity c x y) q = rw number-first (paths-parsed (pos 26 ∷ []) x y q)

parts-parsed : {m : ℕ} {ws : List ℤ} (x : Parts m ws) (q : List ℤ) → parse_many m (ws ++ q) ≡ got (trees_of_parts x, q)
unfolding parse_many
parts-parsed Parts.none q = refl
parts-parsed (Parts.one {e = e} {ps = ps} h l x y) q = rw (append_assoc e ps q, expression-parsed x (ps ++ q), parts-parsed y q)

constraint-parsed : {ws : List ℤ} (x : Constraint ws) (q : List ℤ) → parse_constraint (ws ++ q) ≡ got (tree_of_constraint x, q)
unfolding parse_constraint
constraint-parsed (Constraint.constraint h l x) q = rw (number-first, parts-parsed x q)

fields-parsed : {n : ℕ} {seen : List ℕ} {ws : List ℤ} (x : Fields n seen ws) (q : List ℤ) → parse_many n (ws ++ q) ≡ got (trees_of_fields x, q)
unfolding parse_many
fields-parsed Fields.none q = refl
fields-parsed (Fields.one {e = e} {fs = fs} h s x y) q = rw (append_assoc e fs q, expression-parsed x (fs ++ q), fields-parsed y q)

third : (u v w : ℤ) (q : List ℤ) → number_at (u ∷ v ∷ w ∷ q) 2 ≡ number_of w
third u v w q = sym (number-drop (u ∷ v ∷ w ∷ q) 2 0) ∙ number-first w q

abbrev parse : (c : Piece) → List ℤ → Parsing (Shape c)
parse (block_of d) p = parse_block d p
parse (statements_of d n) p = parse_statements (λ r. parse_block d r) n p
parse (statement_of d) p = parse_verb (λ r. parse_block d r) p (verb_of (number_at p 0))

yields-parsed : {c : Piece} {ws : List ℤ} (x : Yields c ws) (q : List ℤ) → parse c (ws ++ q) ≡ got (tree_of x, q)
unfolding parse_block parse_statements parse_verb verb_of
yields-parsed (Yields.block h x) q = rw (number-first, yields-parsed x q)
yields-parsed Yields.none q = refl
yields-parsed (Yields.one {s = s} {ss = ss} x y) q = rw (append_assoc s ss q, yields-parsed x (ss ++ q), yields-parsed y q)
yields-parsed Yields.skip q = rw number-first
yields-parsed (Yields.assign {a = a} {e = e} x y) q = rw (number-first, append_assoc a e q, path-parsed x (e ++ q), expression-parsed y q)
yields-parsed (Yields.new {x = x} {n = n} {fs = fs} h k f) q = rw (number-first, third (pos 2) (pos x) (pos n) (fs ++ q), fields-parsed f q)
yields-parsed (Yields.always x) q = rw (number-first, constraint-parsed x q)
yields-parsed (Yields.once x) q = rw (number-first, constraint-parsed x q)
yields-parsed (Yields.always_same x y) q = rw number-first (paths-parsed (pos 5 ∷ []) x y q)
yields-parsed (Yields.once_same x y) q = rw number-first (paths-parsed (pos 6 ∷ []) x y q)
yields-parsed (Yields.branch {e = e} {a = a} {b = b} x y z) q =
    rw (number-first, append_assoc e (a ++ b) q, expression-parsed x ((a ++ b) ++ q), append_assoc a b q, yields-parsed y (b ++ q), yields-parsed z q)
yields-parsed (Yields.loop {e = e} {a = a} x y) q = rw (number-first, append_assoc e a q, expression-parsed x (a ++ q), yields-parsed y q)

-- ---- one reading

-- two readings of one kind of piece off the front of one list are the same: in words, in what is left, in their trees
pub record OneReading {T : Type 0} (a b p q : List ℤ) (t u : T) : Type 0 where
  pub words : a ≡ b
  pub rest : p ≡ q
  pub tree : t ≡ u

one : {T : Type 0} (f : List ℤ → Parsing T) {a b p q : List ℤ} {t u : T}
    → f (a ++ p) ≡ got (t, p) → f (b ++ q) ≡ got (u, q) → a ++ p ≡ b ++ q → OneReading a b p q t u
one {T} f {a} {b} {p} {q} {t} {u} x y e = go (got-inj (sym x ∙ ap f e ∙ y))
  where
    go : ◌≡◌ {A = T × List ℤ} (t, p) (u, q) → OneReading a b p q t u
    go i = let r : p ≡ q = ap (λ z. z.1) i in record { words = append_cancel_right a b q (rw r at e); rest = r; tree = ap (λ z. z.0) i }

module _ {a b p q : List ℤ} (e : a ++ p ≡ b ++ q) where
  pub one-path : (x : Path a) (y : Path b) → OneReading a b p q (tree_of_path x) (tree_of_path y)
  one-path x y = one parse_path (path-parsed x p) (path-parsed y q) e

  pub one-expression : {c k : Bool} {d : ℕ} (x : Expression c d a) (y : Expression k d b) → OneReading a b p q (tree_of_expression x) (tree_of_expression y)
  one-expression {d = d} x y = one (parse_expression d) (expression-parsed x p) (expression-parsed y q) e

  pub one-parts : {m : ℕ} (x : Parts m a) (y : Parts m b) → OneReading a b p q (trees_of_parts x) (trees_of_parts y)
  one-parts {m} x y = one (parse_many m) (parts-parsed x p) (parts-parsed y q) e

  pub one-constraint : (x : Constraint a) (y : Constraint b) → OneReading a b p q (tree_of_constraint x) (tree_of_constraint y)
  one-constraint x y = one parse_constraint (constraint-parsed x p) (constraint-parsed y q) e

  pub one-fields : {n : ℕ} {s t : List ℕ} (x : Fields n s a) (y : Fields n t b) → OneReading a b p q (trees_of_fields x) (trees_of_fields y)
  one-fields {n} x y = one (parse_many n) (fields-parsed x p) (fields-parsed y q) e

  -- a block, statements in a row, a statement
  pub one_piece : {c : Piece} (x : Yields c a) (y : Yields c b) → OneReading a b p q (tree_of x) (tree_of y)
  one_piece {c} x y = one (parse c) (yields-parsed x p) (yields-parsed y q) e

-- a program has one reading
pub one-program : {ws : List ℤ} (x y : Yields (block_of block_depth) ws) → tree_of x ≡ tree_of y
one-program x y = (one_piece {p = []} refl x y).tree
