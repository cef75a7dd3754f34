-- Parts and lengths: what is left after a piece is a part of what was there, and a piece takes at least one word. Assumes nothing.
use mathlib.Core.Path.{◌≡◌, refl, sym, ap, ◌∙◌}
use mathlib.Core.Bool.{Bool, true, false, not, ◌&&◌}
use mathlib.Core.List.{List, [], ◌∷◌}
use Prim.Native.Nat.{ℕ, zero, suc, ◌+◌, ◌-◌, ◌≤◌, ◌<◌}
use native.Mathlib.Omega.{arith}
use native.Mathlib.Decide.{dec_lt}
use borrow.Author.Tests.{ltb-true, leb-true}
use lib.Dec.{leb, ltb}
use lib.IntN.{ℤ}
use lib.ListN.{length, drop, length-drop, drop_of_length-le}
use lib.Seq.{drop-drop, drop-length}
use Rattle.words.specs.Words.{number_at}
use Rattle.words.specs.Answer.{got, stop, ◌>>=◌}
use Rattle.words.proofs.AnswerLaws.{stop≢got, step, tested}
use Rattle.words.proofs.Laws.{number-there}
use Rattle.tables.proofs.SearchLaws.{and_right}
use Rattle.tables.specs.Sizes.{variables, labels, most_fields}
use Rattle.program.specs.Forms.{most_statements, expression_depth, most_steps, most_parts, required, operators}
use Rattle.program.specs.Forms.{form_of}
use Rattle.program.specs.declared.Form.{Form}
use Rattle.program.specs.declared.Form.TheVariants.{Nil as a_nil, False as a_false, True as a_true, Integer as an_integer, Path as a_path, Operation as an_operation, Identity as an_identity, Unknown as no_form}
use Rattle.program.specs.Forms.{verb_of}
use Rattle.program.specs.declared.Verb.{Verb}
use Rattle.program.specs.declared.Verb.TheVariants.{Skip as skip, Assign as assign, New as new, Always as always, Once as once, AlwaysSame as always_same, OnceSame as once_same, If as branch, While as loop, Unknown as no_verb}
use Rattle.program.specs.Reading.{Reading, number, any_word, among, after}
use Rattle.program.specs.Reading.{read_labels, read_path, read_paths, read_form, read_expression, read_part, read_parts, read_constraint, read_fields, read_new}
use Rattle.program.specs.Reading.{read_assign, read_verb, read_with, read_statements, read_block, read_statement}
use Rattle.program.proofs.FormLaws.{number_of_form, number_of_verb, form-word, verb-word}
use Rattle.program.proofs.Comes.{Comes, comes-got, comes-stop, comes-then, comes-test, comes-map}

-- ---- parts

-- q is the last words of p
pub record Part (p q : List ℤ) : Type 0 where
  pub short : length q ≤ length p
  pub is : drop (length p - length q) p ≡ q

pub part-refl : (p : List ℤ) → Part p p
part-refl p = record { short = omega arith; is = let e : length p - length p ≡ 0 = omega arith in rw e }

pub part-drop : (k : ℕ) (p : List ℤ) → Part p (drop k p)
part-drop k p = record { short = simp length-drop (omega arith); is = simp length-drop (go (dec_lt (length p) k)) }
  where
    go : Dec (length p < k) → drop (length p - (length p - k)) p ≡ drop k p
    go (yes y) = let e : length p - (length p - k) ≡ length p = omega arith in rw e (drop-length p ∙ sym (drop_of_length-le p {i = k} (omega arith)))
    go (no n) = let e : length p - (length p - k) ≡ k = omega arith in rw e

pub part-trans : {p q r : List ℤ} → Part p q → Part q r → Part p r
part-trans {p} {q} {r} a b = record {
  short = omega (arith, a.short, b.short);
  is = let e : length p - length r ≡ (length p - length q) + (length q - length r) = omega (arith, a.short, b.short) in
      rw e (sym (drop-drop (length q - length r) (length p - length q) p) ∙ ap (drop (length q - length r)) a.is ∙ b.is);
}

-- the part after at least one word
pub record Later (p q : List ℤ) : Type 0 where
  pub part : Part p q
  pub less : length q < length p

pub later-part : {p q r : List ℤ} → Later p q → Part q r → Later p r
later-part a b = record { part = part-trans a.part b; less = omega (arith, a.less, b.short) }

later-drop : (p : List ℤ) → 0 < length p → Later p (drop 1 p)
later-drop p h = record { part = part-drop 1 p; less = simp length-drop (omega arith) }

-- either way out of a reader is a part; with `Uses`, the part after a piece is a later one
abbrev pub Keeps : List ℤ → Reading (List ℤ) → Type 0
Keeps p m = Comes (λ q. Part p q) (λ q. Part p q) m

abbrev pub Uses : List ℤ → Reading (List ℤ) → Type 0
Uses p m = Comes (λ q. Later p q) (λ q. Part p q) m

pub uses-keeps : {p : List ℤ} {m : Reading (List ℤ)} → Uses p m → Keeps p m
uses-keeps c = comes-map (λ q l. l.part) (λ q s. s) c

module _ {p q : List ℤ} {m : Reading (List ℤ)} where
  keeps_on : Part p q → Keeps q m → Keeps p m
  keeps_on a c = comes-map (λ r l. part-trans a l) (λ r l. part-trans a l) c

  uses-on : Later p q → Keeps q m → Uses p m
  uses-on a c = comes-map (λ r l. later-part a l) (λ r l. part-trans a.part l) c

-- ---- the readers

-- the word of a form, of a verb
form-later : (p : List ℤ) {f : Form} → form_of (number_at p 0) ≡ f → number_of_form f < 27 → Later p (drop 1 p)
form-later p e h = later-drop p (let l = ap length (form-word e h) in omega arith)

verb-later : (p : List ℤ) {v : Verb} → verb_of (number_at p 0) ≡ v → number_of_verb v < 9 → Later p (drop 1 p)
verb-later p e h = later-drop p (let l = ap length (verb-word e h) in omega arith)

module _ (low high : ℕ) (p : List ℤ) (f : ℕ × List ℤ → Reading (List ℤ)) (h : high < 2147483648) where
  -- a number, and what is read after it
  number-uses : ((x : ℕ × List ℤ) → Later p x.1 → Uses p (f x)) → Uses p (number low high p >>= f)
  unfolding number
  number-uses k =
      comes-then (number low high p) f
      (comes-test p (leb low (number_at p 0) && leb (number_at p 0) high) _ (λ c. comes-got (there c)) (λ c. part-refl p)) k
    where
      there : (leb low (number_at p 0) && leb (number_at p 0) high) ≡ true → Later p (drop 1 p)
      there c =
          let l : number_at p 0 ≤ high = leb-true (number_at p 0) high (and_right (leb low (number_at p 0)) (leb (number_at p 0) high) c) in
          later-drop p (number-there p 0 (omega arith))

  number-then : ((x : ℕ × List ℤ) → Keeps x.1 (f x)) → Uses p (number low high p >>= f)
  number-then k = number-uses (λ x l. uses-on l (k x))

module _ {p : List ℤ} (m : Reading (List ℤ)) (f : List ℤ → Reading (List ℤ)) (k : (q : List ℤ) → Keeps q (f q)) where
  -- a piece, and what is read after it
  uses-then : Uses p m → Uses p (m >>= f)
  uses-then c = comes-then m f c (λ q l. uses-on l (k q))

  keeps_then : Keeps p m → Keeps p (m >>= f)
  keeps_then c = comes-then m f c (λ q l. keeps_on l (k q))

pub any-uses : (p : List ℤ) → Uses p (any_word p)
unfolding any_word
any-uses p = comes-test p (ltb 0 (length p)) _ (λ c. comes-got (later-drop p (ltb-true 0 (length p) c))) (λ c. part-refl p)

pub labels-keep : (n : ℕ) (p : List ℤ) → Keeps p (read_labels n p)
unfolding read_labels
labels-keep zero p = comes-got (part-refl p)
labels-keep (suc n) p = uses-keeps (number-then 0 (labels - 1) p _ (omega arith) λ x. labels-keep n x.1)

pub path-uses : (p : List ℤ) → Uses p (read_path p)
unfolding read_path
path-uses p =
    number-then 0 (variables - 1) p _ (omega arith) λ x.
    uses-keeps (number-then 0 most_steps x.1 _ (omega arith) λ y. labels-keep y.0 y.1)

pub paths-use : (p : List ℤ) → Uses p (read_paths p)
unfolding read_paths
paths-use p = uses-then (read_path p) _ (λ q. uses-keeps (path-uses q)) (path-uses p)

form-uses : (go : List ℤ → Reading (List ℤ)) (in_c : Bool) (p : List ℤ) (f : Form)
    → ((q : List ℤ) → Keeps q (go q)) → form_of (number_at p 0) ≡ f → Uses p (read_form go in_c p f)
unfolding read_form
form-uses go in_c p a_nil h e = comes-got (form-later p e (omega arith))
form-uses go in_c p a_false h e = comes-got (form-later p e (omega arith))
form-uses go in_c p a_true h e = comes-got (form-later p e (omega arith))
form-uses go in_c p an_integer h e = uses-on (form-later p e (omega arith)) (uses-keeps (any-uses (drop 1 p)))
form-uses go in_c p a_path h e = uses-on (form-later p e (omega arith)) (uses-keeps (path-uses (drop 1 p)))
form-uses go in_c p an_operation h e =
    uses-on (form-later p e (omega arith))
    (uses-keeps (number-then 1 operators (drop 1 p) _ (omega arith) λ x. keeps_then (go x.1) _ (λ q. h q) (h x.1)))
form-uses go in_c p an_identity h e =
    comes-test p (not in_c) _ (λ c. uses-on (form-later p e (omega arith)) (uses-keeps (paths-use (drop 1 p)))) (λ c. part-refl p)
form-uses go in_c p no_form h e = comes-stop (part-refl p)

-- an expression ends in a later part of the words, or is refused in a part of them
pub expression-uses : (d : ℕ) (in_c : Bool) (p : List ℤ) → Uses p (read_expression d in_c p)
unfolding read_expression
expression-uses zero in_c p = comes-stop (part-refl p)
expression-uses (suc d) in_c p = form-uses (λ q. read_expression d in_c q) in_c p (form_of (number_at p 0)) (λ q. uses-keeps (expression-uses d in_c q)) refl

-- an expression, and what is read after it
expression-then : (d : ℕ) (in_c : Bool) (p : List ℤ) (f : List ℤ → Reading (List ℤ)) → ((q : List ℤ) → Keeps q (f q)) → Uses p (read_expression d in_c p >>= f)
expression-then d in_c p f k = uses-then (read_expression d in_c p) f k (expression-uses d in_c p)

pub part-uses : (p : List ℤ) → Uses p (read_part p)
unfolding read_part
part-uses p = number-then 1 required p _ (omega arith) λ x. uses-keeps (expression-uses expression_depth true x.1)

pub parts-keep : (m : ℕ) (p : List ℤ) → Keeps p (read_parts m p)
unfolding read_parts
parts-keep zero p = comes-got (part-refl p)
parts-keep (suc m) p = uses-keeps (uses-then (read_part p) _ (λ q. parts-keep m q) (part-uses p))

pub constraint-uses : (p : List ℤ) → Uses p (read_constraint p)
unfolding read_constraint
constraint-uses p = number-then 1 most_parts p _ (omega arith) λ x. parts-keep x.0 x.1

pub fields_keep : (n : ℕ) (seen : List ℕ) (p : List ℤ) → Keeps p (read_fields n seen p)
unfolding read_fields
fields_keep zero seen p = comes-got (part-refl p)
fields_keep (suc n) seen p =
    uses-keeps (number-uses 0 (labels - 1) p _ (omega arith) λ x l.
    comes-test p (not (among x.0 seen)) _
    (λ c. uses-on l (uses-keeps (expression-then expression_depth false x.1 _ λ q. fields_keep n (x.0 ∷ seen) q)))
    (λ c. part-refl p))

pub new-uses : (p : List ℤ) → Uses p (read_new p)
unfolding read_new
new-uses p =
    number-then 0 (variables - 1) p _ (omega arith) λ x.
    uses-keeps (number-then 0 most_fields x.1 _ (omega arith) λ y. fields_keep y.0 [] y.1)

pub assign-uses : (p : List ℤ) → Uses p (read_assign p)
unfolding read_assign
assign-uses p = uses-then (read_path p) _ (λ q. uses-keeps (expression-uses expression_depth false q)) (path-uses p)

module _ (block : List ℤ → Reading (List ℤ)) (h : (q : List ℤ) → Keeps q (block q)) where
  verb-uses : (p : List ℤ) (v : Verb) → verb_of (number_at p 0) ≡ v → Uses p (read_verb block p v)
  unfolding read_verb
  verb-uses p skip e = comes-got (verb-later p e (omega arith))
  verb-uses p assign e = uses-on (verb-later p e (omega arith)) (uses-keeps (assign-uses (drop 1 p)))
  verb-uses p new e = uses-on (verb-later p e (omega arith)) (uses-keeps (new-uses (drop 1 p)))
  verb-uses p always e = uses-on (verb-later p e (omega arith)) (uses-keeps (constraint-uses (drop 1 p)))
  verb-uses p once e = uses-on (verb-later p e (omega arith)) (uses-keeps (constraint-uses (drop 1 p)))
  verb-uses p always_same e = uses-on (verb-later p e (omega arith)) (uses-keeps (paths-use (drop 1 p)))
  verb-uses p once_same e = uses-on (verb-later p e (omega arith)) (uses-keeps (paths-use (drop 1 p)))
  verb-uses p branch e =
      uses-on (verb-later p e (omega arith))
      (uses-keeps (expression-then expression_depth false (drop 1 p) _ λ q. keeps_then (block q) _ (λ r. h r) (h q)))
  verb-uses p loop e = uses-on (verb-later p e (omega arith)) (uses-keeps (expression-then expression_depth false (drop 1 p) _ λ q. h q))
  verb-uses p no_verb e = comes-stop (part-refl p)

  pub with-uses : (p : List ℤ) → Uses p (read_with block p)
  unfolding read_with
  with-uses p = verb-uses p (verb_of (number_at p 0)) refl

  pub statements-keep : (n : ℕ) (p : List ℤ) → Keeps p (read_statements block n p)
  unfolding read_statements
  statements-keep zero p = comes-got (part-refl p)
  statements-keep (suc n) p = uses-keeps (uses-then (read_with block p) _ (λ q. statements-keep n q) (with-uses p))

-- so does a block, and a statement
pub block-uses : (d : ℕ) (p : List ℤ) → Uses p (read_block d p)
unfolding read_block
block-uses zero p = comes-stop (part-refl p)
block-uses (suc d) p =
    number-then 0 most_statements p _ (omega arith) λ x.
    statements-keep (λ r. read_block d r) (λ q. uses-keeps (block-uses d q)) x.0 x.1

pub statement-uses : (d : ℕ) (p : List ℤ) → Uses p (read_statement d p)
unfolding read_statement
statement-uses d p = with-uses (λ r. read_block d r) (λ q. uses-keeps (block-uses d q)) p

-- the part after a piece, or at its unfit word
pub after-part : {p : List ℤ} (m : Reading (List ℤ)) → Keeps p m → Part p (after m)
unfolding after
after-part (got q) c = c.good q refl
after-part (stop q) c = c.bad q refl

-- the same where it reads
pub after-got : {m : Reading (List ℤ)} {q : List ℤ} → m ≡ got q → after m ≡ q
unfolding after
after-got e = rw e

-- ---- deeper: what reads at a nesting reads the same at a longer one, and what reads inside C reads the same outside

module _ (go to : List ℤ → Reading (List ℤ)) (h : (q r : List ℤ) → go q ≡ got r → to q ≡ got r) where
  form-deeper : (in_c : Bool) (p q : List ℤ) (f : Form) → read_form go in_c p f ≡ got q → read_form to false p f ≡ got q
  unfolding read_form
  form-deeper in_c p q a_nil e = e
  form-deeper in_c p q a_false e = e
  form-deeper in_c p q a_true e = e
  form-deeper in_c p q an_integer e = e
  form-deeper in_c p q a_path e = e
  form-deeper in_c p q an_operation e =
      step (number 1 operators (drop 1 p)) _ e λ x e1 k1.
      step (go x.1) _ k1 λ r e2 k2.
      rw (e1, h x.1 r e2) (h r q k2)
  form-deeper in_c p q an_identity e = tested p (not in_c) _ e λ c k. k
  form-deeper in_c p q no_form e = stop≢got e

  verb-deeper : (p q : List ℤ) (v : Verb) → read_verb go p v ≡ got q → read_verb to p v ≡ got q
  unfolding read_verb
  verb-deeper p q skip e = e
  verb-deeper p q assign e = e
  verb-deeper p q new e = e
  verb-deeper p q always e = e
  verb-deeper p q once e = e
  verb-deeper p q always_same e = e
  verb-deeper p q once_same e = e
  verb-deeper p q branch e =
      step (read_expression expression_depth false (drop 1 p)) _ e λ r e1 k1.
      step (go r) _ k1 λ s e2 k2.
      rw (e1, h r s e2) (h s q k2)
  verb-deeper p q loop e =
      step (read_expression expression_depth false (drop 1 p)) _ e λ r e1 k1.
      rw e1 (h r q k1)
  verb-deeper p q no_verb e = stop≢got e

  with-deeper : (p q : List ℤ) → read_with go p ≡ got q → read_with to p ≡ got q
  unfolding read_with
  with-deeper p q e = verb-deeper p q (verb_of (number_at p 0)) e

  statements-deeper : (n : ℕ) (p q : List ℤ) → read_statements go n p ≡ got q → read_statements to n p ≡ got q
  unfolding read_statements
  statements-deeper zero p q e = e
  statements-deeper (suc n) p q e = step (read_with go p) _ e λ r e1 k1. rw (with-deeper p r e1) (statements-deeper n r q k1)

-- an expression
pub expression-deeper : (d e : ℕ) (in_c : Bool) (p q : List ℤ) → d ≤ e → read_expression d in_c p ≡ got q → read_expression e false p ≡ got q
unfolding read_expression
expression-deeper zero e in_c p q l h = stop≢got h
expression-deeper (suc d) zero in_c p q l h = absurd (omega arith)
expression-deeper (suc d) (suc e) in_c p q l h =
    form-deeper (λ r. read_expression d in_c r) (λ r. read_expression e false r) (λ r s k. expression-deeper d e in_c r s (omega arith) k)
    in_c p q (form_of (number_at p 0)) h

-- a block, and a statement
pub block-deeper : (d e : ℕ) (p q : List ℤ) → d ≤ e → read_block d p ≡ got q → read_block e p ≡ got q
unfolding read_block
block-deeper zero e p q l h = stop≢got h
block-deeper (suc d) zero p q l h = absurd (omega arith)
block-deeper (suc d) (suc e) p q l h =
    step (number 0 most_statements p) _ h λ x e1 k1.
    rw e1 (statements-deeper (λ r. read_block d r) (λ r. read_block e r) (λ r s k. block-deeper d e r s (omega arith) k) x.0 x.1 q k1)

pub statement-deeper : (d e : ℕ) (p q : List ℤ) → d ≤ e → read_statement d p ≡ got q → read_statement e p ≡ got q
unfolding read_statement
statement-deeper d e p q l h = with-deeper (λ r. read_block d r) (λ r. read_block e r) (λ r s k. block-deeper d e r s l k) p q h
