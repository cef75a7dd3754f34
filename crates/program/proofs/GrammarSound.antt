-- What the definition reads, the grammar yields: a piece that reads takes the words of a derivation off the front. Assumes nothing.
use mathlib.Core.Path.{◌≡◌, refl, sym, ap, ◌∙◌}
use mathlib.Core.Bool.{Bool, true, false, not}
use mathlib.Core.List.{List, [], ◌∷◌, ◌++◌, append_assoc}
use Prim.Native.Nat.{ℕ, zero, suc, ◌-◌, ◌≤◌, ◌<◌}
use native.Mathlib.Omega.{arith}
use borrow.Author.Tests.{not-true}
use lib.IntN.{ℤ, pos}
use lib.ListN.{length, drop}
use Rattle.words.specs.Words.{number_at}
use Rattle.words.specs.Answer.{got, ◌>>=◌}
use Rattle.words.proofs.AnswerLaws.{got-inj, stop≢got, step, tested}
use Rattle.tables.specs.Sizes.{variables, labels, most_fields}
use Rattle.program.specs.Forms.{most_statements, expression_depth, most_steps, most_parts, required, operators}
use Rattle.program.specs.Forms.{form_of}
use Rattle.program.specs.declared.Form.{Form}
use Rattle.program.specs.declared.Form.TheVariants.{Nil as a_nil, False as a_false, True as a_true, Integer as an_integer, Path as a_path, Operation as an_operation, Identity as an_identity, Unknown as no_form}
use Rattle.program.specs.Forms.{verb_of}
use Rattle.program.specs.declared.Verb.{Verb}
use Rattle.program.specs.declared.Verb.TheVariants.{Skip as skip, Assign as assign, New as new, Always as always, Once as once, AlwaysSame as always_same, OnceSame as once_same, If as branch, While as loop, Unknown as no_verb}
use Rattle.program.specs.Reading.{Reading, number, among}
use Rattle.program.specs.Reading.{read_labels, read_path, read_paths, read_form, read_expression, read_part, read_parts, read_constraint, read_fields, read_new}
use Rattle.program.specs.Reading.{read_assign, read_verb, read_with, read_statements, read_block, read_statement}
use Rattle.program.specs.Grammar.{Labels, Path, Expression, Parts, Constraint, Fields, block_of, statements_of, statement_of, Yields, Takes}
use Rattle.program.proofs.NumberLaws.{IsNumber, number_read, number_is, any-read}
use Rattle.program.proofs.FormLaws.{form-word, verb-word}

-- ---- words taken off the front

module _ {Q : List ℤ → Type 0} where
  pub takes_none : {p q : List ℤ} → p ≡ q → Q [] → Takes Q p q
  takes_none e d = record { words = []; piece = d; split = e }

  pub takes-word : {w : ℤ} {p r q : List ℤ} → p ≡ w ∷ r → Takes (λ ws. Q (w ∷ ws)) r q → Takes Q p q
  takes-word {w} e t = record { words = w ∷ t.words; piece = t.piece; split = e ∙ ap (λ ws. w ∷ ws) t.split }

  pub takes-as : {P : List ℤ → Type 0} {p q : List ℤ} → Takes P p q → ((a : List ℤ) → P a → Q a) → Takes Q p q
  takes-as t f = record { words = t.words; piece = f t.words t.piece; split = t.split }

  pub takes_two : {A B : List ℤ → Type 0} {p r q : List ℤ} → Takes A p r → Takes B r q → ((a b : List ℤ) → A a → B b → Q (a ++ b)) → Takes Q p q
  takes_two {q = q} s t f = record {
    words = s.words ++ t.words;
    piece = f s.words t.words s.piece t.piece;
    split = s.split ∙ ap (λ ws. s.words ++ ws) t.split ∙ sym (append_assoc s.words t.words q);
  }

-- a number was read, and then the rest
by_number {ℓ} : {X : Type ℓ} {q : List ℤ} (low high : ℕ) (p : List ℤ) (f : ℕ × List ℤ → Reading (List ℤ)) → high < 2147483648
    → (number low high p >>= f) ≡ got q → ((n : ℕ) (r : List ℤ) → low ≤ n → n ≤ high → p ≡ pos n ∷ r → f (n, r) ≡ got q → X) → X
by_number low high p f h e k =
    step (number low high p) f e λ x e1 k1.
    let i : IsNumber low high p x.0 x.1 = number_read low high p e1 in
    k x.0 x.1 i.least i.most (number_is h i) k1

-- ---- paths

pub labels-sound : (n : ℕ) (p q : List ℤ) → read_labels n p ≡ got q → Takes (Labels n) p q
unfolding read_labels
labels-sound zero p q e = takes_none (got-inj e) Labels.none
labels-sound (suc n) p q e =
    by_number 0 (labels - 1) p _ (omega arith) e λ l r a b s k.
    takes-word s (takes-as (labels-sound n r q k) λ ls d. Labels.one (omega arith) d)

-- L
pub path-sound : (p q : List ℤ) → read_path p ≡ got q → Takes Path p q
unfolding read_path
path-sound p q e =
    by_number 0 (variables - 1) p _ (omega arith) e λ x r a b s k.
    by_number 0 most_steps r _ (omega arith) k λ n t c d u j.
    takes-word s (takes-word u (takes-as (labels-sound n t q j) λ ls z. Path.path (omega arith) d z))

pub paths-sound : {Q : List ℤ → Type 0} (p q : List ℤ) → read_paths p ≡ got q → ((a b : List ℤ) → Path a → Path b → Q (a ++ b)) → Takes Q p q
unfolding read_paths
paths-sound p q e f = step (read_path p) _ e λ r e1 k1. takes_two (path-sound p r e1) (path-sound r q k1) f

-- ---- expressions

form-sound : (d : ℕ) (go : List ℤ → Reading (List ℤ)) (in_c : Bool) (p q : List ℤ) (f : Form)
    → ((r s : List ℤ) → go r ≡ got s → Takes (Expression in_c d) r s)
    → form_of (number_at p 0) ≡ f → read_form go in_c p f ≡ got q → Takes (Expression in_c (suc d)) p q
unfolding read_form
form-sound d go in_c p q a_nil ih w e = takes-word (form-word w (omega arith)) (takes_none (got-inj e) Expression.nil)
form-sound d go in_c p q a_false ih w e = takes-word (form-word w (omega arith)) (takes_none (got-inj e) Expression.no)
form-sound d go in_c p q a_true ih w e = takes-word (form-word w (omega arith)) (takes_none (got-inj e) Expression.yes)
form-sound d go in_c p q an_integer ih w e = takes-word (form-word w (omega arith)) (literal (drop 1 p) (any-read (drop 1 p) q e))
  where
    literal : (r : List ℤ) → (0 < length r) × (q ≡ drop 1 r) → Takes (λ ws. Expression in_c (suc d) (pos 23 ∷ ws)) r q
    literal [] h = absurd (omega arith)
    literal (w ∷ r) h = takes-word refl (takes_none (sym h.1) Expression.integer)
form-sound d go in_c p q a_path ih w e = takes-word (form-word w (omega arith)) (takes-as (path-sound (drop 1 p) q e) λ a x. Expression.at x)
form-sound d go in_c p q an_operation ih w e =
    by_number 1 operators (drop 1 p) _ (omega arith) e λ o r a b s k.
    step (go r) _ k λ t e1 k1.
    takes-word (form-word w (omega arith)) (takes-word s (takes_two (ih r t e1) (ih t q k1) λ x y f g. Expression.operation a b f g))
form-sound d go in_c p q an_identity ih w e =
    tested p (not in_c) _ e λ c k.
    takes-word (form-word w (omega arith)) (paths-sound (drop 1 p) q k λ a b x y. Expression.identity (not-true in_c c) x y)
form-sound d go in_c p q no_form ih w e = stop≢got e

-- e
pub expression-sound : (d : ℕ) (in_c : Bool) (p q : List ℤ) → read_expression d in_c p ≡ got q → Takes (Expression in_c d) p q
unfolding read_expression
expression-sound zero in_c p q e = stop≢got e
expression-sound (suc d) in_c p q e =
    form-sound d (λ r. read_expression d in_c r) in_c p q (form_of (number_at p 0)) (λ r s k. expression-sound d in_c r s k) refl e

-- ---- constraints and fields

pub parts-sound : (m : ℕ) (p q : List ℤ) → read_parts m p ≡ got q → Takes (Parts m) p q
unfolding read_parts read_part
parts-sound zero p q e = takes_none (got-inj e) Parts.none
parts-sound (suc m) p q e =
    step (read_part p) _ e λ r e1 k1.
    by_number 1 required p _ (omega arith) e1 λ k s a b u j.
    takes-word u (takes_two (expression-sound expression_depth true s r j) (parts-sound m r q k1) λ x y f g. Parts.one a b f g)

-- C
pub constraint-sound : (p q : List ℤ) → read_constraint p ≡ got q → Takes Constraint p q
unfolding read_constraint
constraint-sound p q e =
    by_number 1 most_parts p _ (omega arith) e λ m r a b s k.
    takes-word s (takes-as (parts-sound m r q k) λ ps d. Constraint.constraint a b d)

pub fields-sound : (n : ℕ) (seen : List ℕ) (p q : List ℤ) → read_fields n seen p ≡ got q → Takes (Fields n seen) p q
unfolding read_fields
fields-sound zero seen p q e = takes_none (got-inj e) Fields.none
fields-sound (suc n) seen p q e =
    by_number 0 (labels - 1) p _ (omega arith) e λ l r a b s k.
    tested p (not (among l seen)) _ k λ c j.
    step (read_expression expression_depth false r) _ j λ t e1 k1.
    takes-word s
    (takes_two (expression-sound expression_depth false r t e1) (fields-sound n (l ∷ seen) t q k1)
    λ x y f g. Fields.one (omega arith) (not-true (among l seen) c) f g)

-- ---- statements and blocks

pub new-sound : (d : ℕ) (p q : List ℤ) → read_new p ≡ got q → Takes (λ ws. Yields (statement_of d) (pos 2 ∷ ws)) p q
unfolding read_new
new-sound d p q e =
    by_number 0 (variables - 1) p _ (omega arith) e λ x r a b s k.
    by_number 0 most_fields r _ (omega arith) k λ n t c f u j.
    takes-word s (takes-word u (takes-as (fields-sound n [] t q j) λ fs g. Yields.new (omega arith) f g))

pub assign-sound : (d : ℕ) (p q : List ℤ) → read_assign p ≡ got q → Takes (λ ws. Yields (statement_of d) (pos 1 ∷ ws)) p q
unfolding read_assign
assign-sound d p q e =
    step (read_path p) _ e λ r e1 k1.
    takes_two (path-sound p r e1) (expression-sound expression_depth false r q k1) λ a b x y. Yields.assign x y

-- one piece and another
data Both (A B : List ℤ → Type 0) : List ℤ → Type 0 where
  both : {a b : List ℤ} → A a → B b → Both A B (a ++ b)

blocks : {d : ℕ} {e ws : List ℤ} → Expression false expression_depth e → Both (Yields (block_of d)) (Yields (block_of d)) ws
    → Yields (statement_of d) (pos 7 ∷ e ++ ws)
blocks e (both a b) = Yields.branch e a b

module _ (d : ℕ) (block : List ℤ → Reading (List ℤ)) (ih : (p q : List ℤ) → block p ≡ got q → Takes (Yields (block_of d)) p q) where
  verb-sound : (p q : List ℤ) (v : Verb) → verb_of (number_at p 0) ≡ v → read_verb block p v ≡ got q → Takes (Yields (statement_of d)) p q
  unfolding read_verb
  verb-sound p q skip w e = takes-word (verb-word w (omega arith)) (takes_none (got-inj e) Yields.skip)
  verb-sound p q assign w e = takes-word (verb-word w (omega arith)) (assign-sound d (drop 1 p) q e)
  verb-sound p q new w e = takes-word (verb-word w (omega arith)) (new-sound d (drop 1 p) q e)
  verb-sound p q always w e = takes-word (verb-word w (omega arith)) (takes-as (constraint-sound (drop 1 p) q e) λ c x. Yields.always x)
  verb-sound p q once w e = takes-word (verb-word w (omega arith)) (takes-as (constraint-sound (drop 1 p) q e) λ c x. Yields.once x)
  verb-sound p q always_same w e = takes-word (verb-word w (omega arith)) (paths-sound (drop 1 p) q e λ a b x y. Yields.always_same x y)
  verb-sound p q once_same w e = takes-word (verb-word w (omega arith)) (paths-sound (drop 1 p) q e λ a b x y. Yields.once_same x y)
  verb-sound p q branch w e =
      step (read_expression expression_depth false (drop 1 p)) _ e λ r e1 k1.
      step (block r) _ k1 λ s e2 k2.
      takes-word (verb-word w (omega arith))
      (takes_two (expression-sound expression_depth false (drop 1 p) r e1) (takes_two (ih r s e2) (ih s q k2) λ a b x y. both x y) λ a b x y. blocks x y)
  verb-sound p q loop w e =
      step (read_expression expression_depth false (drop 1 p)) _ e λ r e1 k1.
      takes-word (verb-word w (omega arith)) (takes_two (expression-sound expression_depth false (drop 1 p) r e1) (ih r q k1) λ a b x y. Yields.loop x y)
  verb-sound p q no_verb w e = stop≢got e

  with-sound : (p q : List ℤ) → read_with block p ≡ got q → Takes (Yields (statement_of d)) p q
  unfolding read_with
  with-sound p q e = verb-sound p q (verb_of (number_at p 0)) refl e

  run_sound : (n : ℕ) (p q : List ℤ) → read_statements block n p ≡ got q → Takes (Yields (statements_of d n)) p q
  unfolding read_statements
  run_sound zero p q e = takes_none (got-inj e) Yields.none
  run_sound (suc n) p q e = step (read_with block p) _ e λ r e1 k1. takes_two (with-sound p r e1) (run_sound n r q k1) λ a b x y. Yields.one x y

-- a block that reads takes the words of a block of the grammar
pub block-sound : (d : ℕ) (p q : List ℤ) → read_block d p ≡ got q → Takes (Yields (block_of d)) p q
unfolding read_block
block-sound zero p q e = stop≢got e
block-sound (suc d) p q e =
    by_number 0 most_statements p _ (omega arith) e λ n r a b s k.
    takes-word s (takes-as (run_sound d (λ t. read_block d t) (λ t u j. block-sound d t u j) n r q k) λ ss x. Yields.block b x)

pub statement-sound : (d : ℕ) (p q : List ℤ) → read_statement d p ≡ got q → Takes (Yields (statement_of d)) p q
unfolding read_statement
statement-sound d p q e = with-sound d (λ r. read_block d r) (λ r s k. block-sound d r s k) p q e

pub statements-sound : (d n : ℕ) (p q : List ℤ) → read_statements (λ r. read_block d r) n p ≡ got q → Takes (Yields (statements_of d n)) p q
statements-sound d n p q e = run_sound d (λ r. read_block d r) (λ r s k. block-sound d r s k) n p q e
