-- The grammar of a program's words, in the order of document 01, "The program's words". Assumes nothing: these are definitions.
use Rattle.std.specs.Prelude.{ℕ, suc, ◌<◌, ◌≤◌, ◌≡◌, Bool, true, false, List, [], ◌∷◌, ◌++◌, ℤ, pos, length}
use Rattle.tables.specs.Sizes.{variables, labels, most_fields}
use Rattle.program.specs.Forms.{most_words, most_statements, block_depth, expression_depth, most_steps, most_parts, required, operators}
use Rattle.program.specs.Reading.{among}

-- "L: variable, n (0 to 7), n labels."
pub data Labels : ℕ → List ℤ → Type 0 where
  none : Labels 0 []
  one : {n l : ℕ} {ls : List ℤ} → l < labels → Labels n ls → Labels (suc n) (pos l ∷ ls)

pub data Path : List ℤ → Type 0 where
  path : {x n : ℕ} {ls : List ℤ} → x < variables → n ≤ most_steps → Labels n ls → Path (pos x ∷ pos n ∷ ls)

-- "e: 20 nil; 21 false; 22 true; 23 integer; 24 L; 25 operator e e; 26 L == L, not allowed inside C. Expressions nest to depth 16, a leaf being 1."
-- Here nested at most as deep as the number says; in_c: inside C.
pub data Expression (in_c : Bool) : ℕ → List ℤ → Type 0 where
  nil : {d : ℕ} → Expression in_c (suc d) (pos 20 ∷ [])
  no : {d : ℕ} → Expression in_c (suc d) (pos 21 ∷ [])
  yes : {d : ℕ} → Expression in_c (suc d) (pos 22 ∷ [])
  integer : {d : ℕ} {w : ℤ} → Expression in_c (suc d) (pos 23 ∷ w ∷ [])
  at : {d : ℕ} {a : List ℤ} → Path a → Expression in_c (suc d) (pos 24 ∷ a)
  operation : {d o : ℕ} {a b : List ℤ}
      → 1 ≤ o → o ≤ operators → Expression in_c d a → Expression in_c d b → Expression in_c (suc d) (pos 25 ∷ pos o ∷ a ++ b)
  identity : {d : ℕ} {a b : List ℤ} → in_c ≡ false → Path a → Path b → Expression in_c (suc d) (pos 26 ∷ a ++ b)

-- "C: m (1 to 16), m times priority (1 weak, 2 medium, 3 required) and e."
pub data Parts : ℕ → List ℤ → Type 0 where
  none : Parts 0 []
  one : {m k : ℕ} {e ps : List ℤ}
      → 1 ≤ k → k ≤ required → Expression true expression_depth e → Parts m ps → Parts (suc m) (pos k ∷ e ++ ps)

pub data Constraint : List ℤ → Type 0 where
  constraint : {m : ℕ} {ps : List ℤ} → 1 ≤ m → m ≤ most_parts → Parts m ps → Constraint (pos m ∷ ps)

-- "n times label e, labels different"; the labels that came before are in the list
pub data Fields : ℕ → List ℕ → List ℤ → Type 0 where
  none : {seen : List ℕ} → Fields 0 seen []
  one : {n l : ℕ} {seen : List ℕ} {e fs : List ℤ}
      → l < labels → among l seen ≡ false → Expression false expression_depth e → Fields n (l ∷ seen) fs → Fields (suc n) seen (pos l ∷ e ++ fs)

-- the pieces that hold one another: a block, n statements in a row, and a statement, each with the nesting left
pub data Piece : Type 0 where
  block_of : ℕ → Piece
  statements_of : ℕ → ℕ → Piece
  statement_of : ℕ → Piece

pub data Yields : Piece → List ℤ → Type 0 where
  -- "Block: n (0 to 255), n statements. Blocks nest to depth 8, the outermost being 1."
  block : {d n : ℕ} {ss : List ℤ} → n ≤ most_statements → Yields (statements_of d n) ss → Yields (block_of (suc d)) (pos n ∷ ss)
  none : {d : ℕ} → Yields (statements_of d 0) []
  one : {d n : ℕ} {s ss : List ℤ} → Yields (statement_of d) s → Yields (statements_of d n) ss → Yields (statements_of d (suc n)) (s ++ ss)
  -- "0 skip; 1 assign L e; 2 new: variable, n (0 to 8), n times label e, labels different; 3 always C; 4 once C; 5 always L == L; 6 once L == L;
  -- 7 if e block block; 8 while e block."
  skip : {d : ℕ} → Yields (statement_of d) (pos 0 ∷ [])
  assign : {d : ℕ} {a e : List ℤ} → Path a → Expression false expression_depth e → Yields (statement_of d) (pos 1 ∷ a ++ e)
  new : {d x n : ℕ} {fs : List ℤ} → x < variables → n ≤ most_fields → Fields n [] fs → Yields (statement_of d) (pos 2 ∷ pos x ∷ pos n ∷ fs)
  always : {d : ℕ} {c : List ℤ} → Constraint c → Yields (statement_of d) (pos 3 ∷ c)
  once : {d : ℕ} {c : List ℤ} → Constraint c → Yields (statement_of d) (pos 4 ∷ c)
  always_same : {d : ℕ} {a b : List ℤ} → Path a → Path b → Yields (statement_of d) (pos 5 ∷ a ++ b)
  once_same : {d : ℕ} {a b : List ℤ} → Path a → Path b → Yields (statement_of d) (pos 6 ∷ a ++ b)
  branch : {d : ℕ} {e a b : List ℤ}
      → Expression false expression_depth e → Yields (block_of d) a → Yields (block_of d) b → Yields (statement_of d) (pos 7 ∷ e ++ (a ++ b))
  loop : {d : ℕ} {e a : List ℤ} → Expression false expression_depth e → Yields (block_of d) a → Yields (statement_of d) (pos 8 ∷ e ++ a)

-- "A program is one block, filling at most 4,096 words."
pub record Program (p : List ℤ) : Type 0 where
  pub yields : Yields (block_of block_depth) p
  pub short : length p ≤ most_words

-- the piece's words, taken off the front of p, leave q
pub record Takes (P : List ℤ → Type 0) (p q : List ℤ) : Type 0 where
  pub words : List ℤ
  pub piece : P words
  pub split : p ≡ words ++ q
