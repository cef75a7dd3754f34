-- What the grammar yields, the definition reads, and takes exactly its words; and the two together. Assumes nothing.
use mathlib.Core.Path.{◌≡◌, refl, ◌∙◌}
use mathlib.Core.Logic.{◌↔◌}
use mathlib.Core.Bool.{Bool, false}
use mathlib.Core.List.{List, [], ◌∷◌, ◌++◌, append-nil, append_assoc}
use Prim.Native.Nat.{ℕ, suc, ◌-◌, ◌≤◌, ◌<◌}
use native.Mathlib.Omega.{arith}
use borrow.Author.Tests.{leb-true, le-leb, ne_eqb}
use lib.Dec.{leb}
use lib.IntN.{ℤ, pos}
use lib.ListN.{length}
use Rattle.words.proofs.Laws.{number-first}
use Rattle.words.specs.Answer.{got, stop, ◌>>=◌}
use Rattle.words.proofs.AnswerLaws.{stop≢got, step}
use Rattle.tables.specs.Sizes.{variables, labels, most_fields}
use Rattle.tables.proofs.SearchLaws.{cases}
use Rattle.program.specs.Forms.{most_words, most_statements, block_depth, expression_depth, most_steps, most_parts, required, operators}
use Rattle.program.specs.Forms.{form_of, verb_of}
use Rattle.program.specs.Reading.{Reading, ends, place_in, read_program}
use Rattle.program.specs.Reading.{read_labels, read_path, read_paths, read_form, read_expression, read_part, read_parts, read_constraint, read_fields, read_new}
use Rattle.program.specs.Reading.{read_assign, read_verb, read_with, read_statements, read_block, read_statement}
use Rattle.program.specs.Grammar.{Labels, Path, Expression, Parts, Constraint, Fields, Piece, block_of, statements_of, statement_of, Yields, Takes, Program}
use Rattle.program.proofs.NumberLaws.{number-of, any-fits}
use Rattle.program.proofs.GrammarSound.{block-sound}

-- ---- what the grammar yields is read

pub labels-complete : {n : ℕ} {ws : List ℤ} → Labels n ws → (q : List ℤ) → read_labels n (ws ++ q) ≡ got q
unfolding read_labels
labels-complete Labels.none q = refl
labels-complete (Labels.one {l = l} {ls = ls} h r) q = rw (number-of 0 (labels - 1) l (ls ++ q) (omega arith) (omega arith)) (labels-complete r q)

pub path-complete : {ws : List ℤ} → Path ws → (q : List ℤ) → read_path (ws ++ q) ≡ got q
unfolding read_path
path-complete (Path.path {x = x} {n = n} {ls = ls} h k l) q =
    rw (number-of 0 (variables - 1) x (pos n ∷ (ls ++ q)) (omega arith) (omega arith), number-of 0 most_steps n (ls ++ q) (omega arith) k)
    (labels-complete l q)

pub paths-complete : {a b : List ℤ} → Path a → Path b → (q : List ℤ) → read_paths ((a ++ b) ++ q) ≡ got q
unfolding read_paths
paths-complete {a} {b} x y q = rw (append_assoc a b q, path-complete x (b ++ q)) (path-complete y q)

-- e
pub expression-complete : {in_c : Bool} {d : ℕ} {ws : List ℤ} → Expression in_c d ws → (q : List ℤ) → read_expression d in_c (ws ++ q) ≡ got q
unfolding read_expression read_form form_of
expression-complete Expression.nil q = rw number-first
expression-complete Expression.no q = rw number-first
expression-complete Expression.yes q = rw number-first
expression-complete (Expression.integer {w = w}) q = rw number-first (any-fits (w ∷ q) (omega arith))
expression-complete (Expression.at x) q = rw number-first (path-complete x q)
expression-complete (Expression.operation {o = o} {a = a} {b = b} h k x y) q =
    rw (number-first, number-of 1 operators o ((a ++ b) ++ q) h k, append_assoc a b q, expression-complete x (b ++ q)) (expression-complete y q)
expression-complete (Expression.identity c x y) q = rw (number-first, c) (paths-complete x y q)

pub parts-complete : {m : ℕ} {ws : List ℤ} → Parts m ws → (q : List ℤ) → read_parts m (ws ++ q) ≡ got q
unfolding read_parts read_part
parts-complete Parts.none q = refl
parts-complete (Parts.one {k = k} {e = e} {ps = ps} h l x y) q =
    rw (number-of 1 required k ((e ++ ps) ++ q) h l, append_assoc e ps q, expression-complete x (ps ++ q)) (parts-complete y q)

pub constraint-complete : {ws : List ℤ} → Constraint ws → (q : List ℤ) → read_constraint (ws ++ q) ≡ got q
unfolding read_constraint
constraint-complete (Constraint.constraint {m = m} {ps = ps} h l x) q = rw (number-of 1 most_parts m (ps ++ q) h l) (parts-complete x q)

pub fields-complete : {n : ℕ} {seen : List ℕ} {ws : List ℤ} → Fields n seen ws → (q : List ℤ) → read_fields n seen (ws ++ q) ≡ got q
unfolding read_fields
fields-complete Fields.none q = refl
fields-complete (Fields.one {l = l} {e = e} {fs = fs} h s x y) q =
    rw (number-of 0 (labels - 1) l ((e ++ fs) ++ q) (omega arith) (omega arith), s, append_assoc e fs q, expression-complete x (fs ++ q))
    (fields-complete y q)

pub new-complete : {x n : ℕ} {fs : List ℤ} → x < variables → n ≤ most_fields → Fields n [] fs
    → (q : List ℤ) → read_new ((pos x ∷ pos n ∷ fs) ++ q) ≡ got q
unfolding read_new
new-complete {x} {n} {fs} h k f q =
    rw (number-of 0 (variables - 1) x (pos n ∷ (fs ++ q)) (omega arith) (omega arith), number-of 0 most_fields n (fs ++ q) (omega arith) k)
    (fields-complete f q)

pub assign-complete : {a e : List ℤ} → Path a → Expression false expression_depth e → (q : List ℤ) → read_assign ((a ++ e) ++ q) ≡ got q
unfolding read_assign
assign-complete {a} {e} x y q = rw (append_assoc a e q, path-complete x (e ++ q)) (expression-complete y q)

-- how each piece is read
abbrev pub Reads : Piece → List ℤ → List ℤ → Type 0
Reads (block_of d) p q = read_block d p ≡ got q
Reads (statements_of d n) p q = read_statements (λ r. read_block d r) n p ≡ got q
Reads (statement_of d) p q = read_statement d p ≡ got q

-- a block, statements in a row and a statement, with any words after them
pub yields-complete : {c : Piece} {ws : List ℤ} → Yields c ws → (q : List ℤ) → Reads c (ws ++ q) q
unfolding read_block read_statements read_statement read_with read_verb verb_of
yields-complete (Yields.block {n = n} {ss = ss} h x) q = rw (number-of 0 most_statements n (ss ++ q) (omega arith) h) (yields-complete x q)
yields-complete Yields.none q = refl
yields-complete (Yields.one {s = s} {ss = ss} x y) q = rw (append_assoc s ss q, yields-complete x (ss ++ q)) (yields-complete y q)
yields-complete Yields.skip q = rw number-first
yields-complete (Yields.assign x y) q = rw number-first (assign-complete x y q)
yields-complete (Yields.new h k f) q = rw number-first (new-complete h k f q)
yields-complete (Yields.always c) q = rw number-first (constraint-complete c q)
yields-complete (Yields.once c) q = rw number-first (constraint-complete c q)
yields-complete (Yields.always_same x y) q = rw number-first (paths-complete x y q)
yields-complete (Yields.once_same x y) q = rw number-first (paths-complete x y q)
yields-complete (Yields.branch {e = e} {a = a} {b = b} x y z) q =
    rw (number-first, append_assoc e (a ++ b) q, expression-complete x ((a ++ b) ++ q), append_assoc a b q, yields-complete y (b ++ q))
    (yields-complete z q)
yields-complete (Yields.loop {e = e} {a = a} x y) q = rw (number-first, append_assoc e a q, expression-complete x (a ++ q)) (yields-complete y q)

-- ---- a program

pub place-got : (p : List ℤ) (m : Reading (Unit {0})) → place_in p m ≡ got tt → m ≡ got tt
unfolding place_in
place-got p (got u) e = refl
place-got p (stop q) e = stop≢got e

ended : (q : List ℤ) → ends q ≡ got tt → q ≡ []
unfolding ends
ended [] e = refl
ended (w ∷ q) e = stop≢got (rw (ne_eqb (suc (length q)) 0 (λ z. omega arith)) at e)

-- a program reads only if it is one
pub program-sound : (p : List ℤ) → read_program p ≡ got tt → Program p
unfolding read_program
program-sound p e =
    cases (leb (length p) most_words)
    (λ c. step (read_block block_depth p) _ (place-got p (read_block block_depth p >>= λ q. ends q) (rw (c, read_program) at e)) λ q e1 k1.
    whole (leb-true (length p) most_words c) (rw (ended q k1) at (block-sound block_depth p q e1)))
    (λ c. stop≢got (rw (c, read_program) at e))
  where
    whole : length p ≤ most_words → Takes (Yields (block_of block_depth)) p [] → Program p
    whole l t = record { yields = rw (t.split ∙ append-nil t.words) t.piece; short = l }

-- a program reads
pub program-complete : (p : List ℤ) → Program p → read_program p ≡ got tt
unfolding read_program place_in ends
program-complete p g = rw (le-leb (length p) most_words g.short, rw (append-nil p) at (yields-complete g.yields []))

-- the definition accepts exactly the programs of the grammar
pub program-iff : (p : List ℤ) → (read_program p ≡ got tt) ↔ Program p
program-iff p = (program-sound p, program-complete p)
