-- Does a program read (01, "The program's words")? "Each piece is read as the part of the program that begins at its first word."
-- The answer is the part after the piece, or the part that begins at the first unfit word, which is empty where words run out.
-- Assumes nothing: these are definitions.
use Rattle.std.specs.Prelude.{ℕ, zero, suc, ◌-◌, Bool, true, false, not, cond, ◌&&◌, ◌||◌, List, [], ◌∷◌, eqb, ltb, leb, ℤ, length, drop}
use Rattle.words.specs.Words.{number_at}
use Rattle.words.specs.Answer.{Answer, got, stop, ◌>>=◌, ◌>>◌, want}
use Rattle.tables.specs.Sizes.{variables, labels, most_fields}
use Rattle.program.specs.Forms.{most_words, most_statements, block_depth, expression_depth, most_steps, most_parts, required, operators}
use Rattle.program.specs.Forms.{form_of}
use Rattle.program.specs.declared.Form.{Form}
use Rattle.program.specs.declared.Form.TheVariants.{Nil as a_nil, False as a_false, True as a_true, Integer as an_integer, Path as a_path, Operation as an_operation, Identity as an_identity, Unknown as no_form}
use Rattle.program.specs.Forms.{verb_of}
use Rattle.program.specs.declared.Verb.{Verb}
use Rattle.program.specs.declared.Verb.TheVariants.{Skip as skip, Assign as assign, New as new, Always as always, Once as once, AlwaysSame as always_same, OnceSame as once_same, If as branch, While as loop, Unknown as no_verb}

abbrev pub Reading : Type 0 → Type 0
Reading A = Answer (List ℤ) A

-- a word from low to high as a number, and the part after it
unfoldable pub number : ℕ → ℕ → List ℤ → Reading (ℕ × List ℤ)
number low high p = do
  want p (leb low (number_at p 0) && leb (number_at p 0) high)
  got (number_at p 0, drop 1 p)

-- any word
unfoldable pub any_word : List ℤ → Reading (List ℤ)
any_word p = want p (ltb 0 (length p)) >> got (drop 1 p)

unfoldable pub read_labels : ℕ → List ℤ → Reading (List ℤ)
read_labels zero p = got p
read_labels (suc n) p = do
  (l, q) ← number 0 (labels - 1) p
  read_labels n q

-- "L: variable, n (0 to 7), n labels."
unfoldable pub read_path : List ℤ → Reading (List ℤ)
read_path p = do
  (x, q) ← number 0 (variables - 1) p
  (n, r) ← number 0 most_steps q
  read_labels n r

-- L == L, which has no word of its own between the two
unfoldable pub read_paths : List ℤ → Reading (List ℤ)
read_paths p = do
  q ← read_path p
  read_path q

-- an expression whose first word, at p, is of this form; `go` reads one nested a level deeper, and in_c says that it stands inside C
unfoldable pub read_form : (List ℤ → Reading (List ℤ)) → Bool → List ℤ → Form → Reading (List ℤ)
read_form go in_c p a_nil = got (drop 1 p)
read_form go in_c p a_false = got (drop 1 p)
read_form go in_c p a_true = got (drop 1 p)
read_form go in_c p an_integer = any_word (drop 1 p)
read_form go in_c p a_path = read_path (drop 1 p)
read_form go in_c p an_operation = do
  (o, q) ← number 1 operators (drop 1 p)
  r ← go q
  go r
read_form go in_c p an_identity = want p (not in_c) >> read_paths (drop 1 p)
read_form go in_c p no_form = stop p

-- e, nested at most d deep
unfoldable pub read_expression : ℕ → Bool → List ℤ → Reading (List ℤ)
read_expression zero in_c p = stop p
read_expression (suc d) in_c p = read_form (λ q. read_expression d in_c q) in_c p (form_of (number_at p 0))

-- "C: m (1 to 16), m times priority (1 weak, 2 medium, 3 required) and e."
unfoldable pub read_part : List ℤ → Reading (List ℤ)
read_part p = do
  (k, q) ← number 1 required p
  read_expression expression_depth true q

unfoldable pub read_parts : ℕ → List ℤ → Reading (List ℤ)
read_parts zero p = got p
read_parts (suc m) p = do
  q ← read_part p
  read_parts m q

unfoldable pub read_constraint : List ℤ → Reading (List ℤ)
read_constraint p = do
  (m, q) ← number 1 most_parts p
  read_parts m q

unfoldable pub among : ℕ → List ℕ → Bool
among n [] = false
among n (x ∷ xs) = eqb n x || among n xs

-- "n times label e, labels different"; the labels that came before are in `seen`
unfoldable pub read_fields : ℕ → List ℕ → List ℤ → Reading (List ℤ)
read_fields zero seen p = got p
read_fields (suc n) seen p = do
  (l, q) ← number 0 (labels - 1) p
  want p (not (among l seen))
  r ← read_expression expression_depth false q
  read_fields n (l ∷ seen) r

-- "2 new: variable, n (0 to 8), n times label e"
unfoldable pub read_new : List ℤ → Reading (List ℤ)
read_new p = do
  (x, q) ← number 0 (variables - 1) p
  (n, r) ← number 0 most_fields q
  read_fields n [] r

-- "1 assign L e"
unfoldable pub read_assign : List ℤ → Reading (List ℤ)
read_assign p = do
  q ← read_path p
  read_expression expression_depth false q

-- a statement whose first word, at p, is this verb; `block` reads a block that it holds
unfoldable pub read_verb : (List ℤ → Reading (List ℤ)) → List ℤ → Verb → Reading (List ℤ)
read_verb block p skip = got (drop 1 p)
read_verb block p assign = read_assign (drop 1 p)
read_verb block p new = read_new (drop 1 p)
read_verb block p always = read_constraint (drop 1 p)
read_verb block p once = read_constraint (drop 1 p)
read_verb block p always_same = read_paths (drop 1 p)
read_verb block p once_same = read_paths (drop 1 p)
read_verb block p branch = do
  q ← read_expression expression_depth false (drop 1 p)
  r ← block q
  block r
read_verb block p loop = do
  q ← read_expression expression_depth false (drop 1 p)
  block q
read_verb block p no_verb = stop p

unfoldable pub read_with : (List ℤ → Reading (List ℤ)) → List ℤ → Reading (List ℤ)
read_with block p = read_verb block p (verb_of (number_at p 0))

unfoldable pub read_statements : (List ℤ → Reading (List ℤ)) → ℕ → List ℤ → Reading (List ℤ)
read_statements block zero p = got p
read_statements block (suc n) p = do
  q ← read_with block p
  read_statements block n q

-- a block, nested at most d deep
unfoldable pub read_block : ℕ → List ℤ → Reading (List ℤ)
read_block zero p = stop p
read_block (suc d) p = do
  (n, q) ← number 0 most_statements p
  read_statements (λ r. read_block d r) n q

-- a statement whose blocks nest at most d deep
unfoldable pub read_statement : ℕ → List ℤ → Reading (List ℤ)
read_statement d p = read_with (λ r. read_block d r) p

-- no word is left: "for extra words, the first"
unfoldable pub ends : List ℤ → Reading (Unit {0})
ends p = want p (eqb (length p) 0)

-- outcome 2 with its place: "the first unfit word, or the length if words run out; over 4,096 words: always 4096"
unfoldable pub place_in : List ℤ → Reading (Unit {0}) → Answer ℕ (Unit {0})
place_in p (got u) = got tt
place_in p (stop q) = stop (length p - length q)

unfoldable pub read_program : List ℤ → Answer ℕ (Unit {0})
read_program p = cond (leb (length p) most_words) (place_in p (read_block block_depth p >>= λ q. ends q)) (stop most_words)

-- the part after a piece; the part at the unfit word where it does not read
unfoldable pub after : Reading (List ℤ) → List ℤ
after (got q) = q
after (stop q) = q
