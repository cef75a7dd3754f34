-- Each reader goes as the word-by-word definition goes: where it answers, and where it refuses. Assumes nothing.
use mathlib.Core.Path.{◌≡◌, refl, sym, ap, ◌∙◌}
use mathlib.Core.Bool.{Bool, true, false, not, ◌&&◌}
use mathlib.Core.List.{List, [], ◌∷◌, ◌++◌}
use Prim.Native.Nat.{ℕ, zero, suc, ◌-◌, ◌≤◌, ◌<◌}
use native.Mathlib.Omega.{arith}
use borrow.Author.Tests.{leb-true, ltb-true, ltb-false}
use lib.Dec.{leb, ltb}
use lib.IntN.{ℤ}
use lib.ListN.{length, drop, replicate}
use Rattle.words.specs.Words.{number_at}
use Rattle.words.specs.Answer.{got, stop, ◌>>=◌, ◌>>◌, want}
use Rattle.words.proofs.AnswerLaws.{got-inj, stop-inj, stop≢got}
use Rattle.words.proofs.Laws.{number-there, number-first}
use Rattle.tables.specs.Sizes.{variables, labels, most_fields}
use Rattle.tables.proofs.SearchLaws.{and_right, cases}
use Rattle.program.specs.Forms.{most_statements, expression_depth, most_steps, most_parts, required, operators}
use Rattle.program.specs.Forms.{form_of}
use Rattle.program.specs.declared.Form.{Form}
use Rattle.program.specs.declared.Form.TheVariants.{Nil as a_nil, False as a_false, True as a_true, Integer as an_integer, Path as a_path, Operation as an_operation, Identity as an_identity, Unknown as no_form}
use Rattle.program.specs.Forms.{verb_of}
use Rattle.program.specs.declared.Verb.{Verb}
use Rattle.program.specs.declared.Verb.TheVariants.{Skip as skip, Assign as assign, New as new, Always as always, Once as once, AlwaysSame as always_same, OnceSame as once_same, If as branch, While as loop, Unknown as no_verb}
use Rattle.program.specs.Reading.{Reading, number, any_word, among}
use Rattle.program.specs.Reading.{read_labels, read_path, read_paths, read_form, read_expression, read_part, read_parts, read_constraint, read_fields, read_new}
use Rattle.program.specs.Reading.{read_assign, read_verb, read_with, read_statements, read_block, read_statement}
use Rattle.program.specs.Judge.{Awaited, fields_more, may_form, may_verb, between, may, judge}
use Rattle.program.proofs.NumberLaws.{any-fits, any-short}
use Rattle.program.proofs.FormLaws.{number_of_form, number_of_verb, form-word, verb-word}

-- while st is awaited at p: where m answers, the judging goes on with `more` from there; where m refuses, the judging refuses the same word
pub record Judges (st more : List Awaited) (p : List ℤ) (m : Reading (List ℤ)) : Type 0 where
  pub good : (q : List ℤ) → m ≡ got q → judge st p ≡ judge more q
  pub bad : (q : List ℤ) → m ≡ stop q → judge st p ≡ stop q

-- whatever more is awaited after them, a reader goes as these awaited items
abbrev pub Follows : (List ℤ → Reading (List ℤ)) → List Awaited → Type 0
Follows R items = (more : List Awaited) (p : List ℤ) → Judges (items ++ more) more p (R p)

module _ {st more : List Awaited} {p : List ℤ} where
  judges-got : {q : List ℤ} → judge st p ≡ judge more q → Judges st more p (got q)
  judges-got h = record { good = λ r e. rw (← got-inj e) h; bad = λ r e. stop≢got (sym e) }

  judges-stop : {q : List ℤ} → judge st p ≡ stop q → Judges st more p (stop q)
  judges-stop h = record { good = λ r e. stop≢got e; bad = λ r e. rw (← stop-inj e) h }

  -- after words that may stand
  judges-on : {mid : List Awaited} {q : List ℤ} {m : Reading (List ℤ)} → judge st p ≡ judge mid q → Judges mid more q m → Judges st more p m
  judges-on h c = record { good = λ r e. h ∙ c.good r e; bad = λ r e. h ∙ c.bad r e }

  -- a `do` of two readers
  judges-then : {mid : List Awaited} (m : Reading (List ℤ)) (f : List ℤ → Reading (List ℤ))
      → Judges st mid p m → ((q : List ℤ) → Judges mid more q (f q)) → Judges st more p (m >>= f)
  judges-then (got q) f c k = judges-on (c.good q refl) (k q)
  judges-then (stop q) f c k = judges-stop (c.bad q refl)

-- ---- one word

module _ (a : Awaited) (more : List Awaited) where
  pub judge-got : (p : List ℤ) (then : List Awaited) → 0 < length p → may a (number_at p 0) ≡ got then
      → judge (a ∷ more) p ≡ judge (then ++ more) (drop 1 p)
  unfolding judge
  judge-got [] then l e = absurd (omega arith)
  judge-got (w ∷ p) then l e = rw (rw number-first at e, judge)

  pub judge-stop : (p : List ℤ) → may a (number_at p 0) ≡ stop tt → judge (a ∷ more) p ≡ stop p
  unfolding judge
  judge-stop [] e = refl
  judge-stop (w ∷ p) e = rw (rw number-first at e, judge)

  judge-none : judge (a ∷ more) [] ≡ stop []
  unfolding judge
  judge-none = refl

module _ (a : Awaited) (low high : ℕ) (then : ℕ → List Awaited) (p : List ℤ) (more rest : List Awaited) (f : ℕ × List ℤ → Reading (List ℤ)) where
  -- a number, and what is awaited after it
  number-judged : high < 2147483648 → may a (number_at p 0) ≡ between low high (number_at p 0) (then (number_at p 0))
      → ((x : ℕ × List ℤ) → x.0 ≡ number_at p 0 → Judges (then x.0 ++ more) rest x.1 (f x)) → Judges (a ∷ more) rest p (number low high p >>= f)
  unfolding number between
  number-judged h e k =
      cases (leb low (number_at p 0) && leb (number_at p 0) high)
      (λ c. rw c (judges-on (judge-got a more p (then (number_at p 0)) (there c) (e ∙ rw c)) (k (number_at p 0, drop 1 p) refl)))
      (λ c. rw c (judges-stop (judge-stop a more p (e ∙ rw c))))
    where
      there : (leb low (number_at p 0) && leb (number_at p 0) high) ≡ true → 0 < length p
      there c = number-there p 0 (omega (arith, leb-true (number_at p 0) high (and_right (leb low (number_at p 0)) (leb (number_at p 0) high) c)))

-- ---- paths

pub labels-follow : (n : ℕ) → Follows (λ p. read_labels n p) (replicate n Awaited.label)
unfolding read_labels may
labels-follow zero more p = judges-got refl
labels-follow (suc n) more p = number-judged Awaited.label 0 (labels - 1) (λ l. []) p _ more _ (omega arith) refl λ x e. labels-follow n more x.1

pub path-follows : Follows (λ p. read_path p) (Awaited.path ∷ [])
unfolding read_path may
path-follows more p =
    number-judged Awaited.path 0 (variables - 1) (λ x. Awaited.step_count ∷ []) p more more _ (omega arith) refl λ x e.
    number-judged Awaited.step_count 0 most_steps (λ n. replicate n Awaited.label) x.1 more more _ (omega arith) refl λ y d.
    labels-follow y.0 more y.1

pub paths-follow : Follows (λ p. read_paths p) (Awaited.path ∷ Awaited.path ∷ [])
unfolding read_paths
paths-follow more p = judges-then (read_path p) _ (path-follows (Awaited.path ∷ more) p) (λ q. path-follows more q)

-- ---- expressions

pub literal-follows : Follows (λ p. any_word p) (Awaited.literal ∷ [])
unfolding may
literal-follows more p =
    cases (ltb 0 (length p))
    (λ c. rw (any-fits p (ltb-true 0 (length p) c)) (judges-got (judge-got Awaited.literal more p [] (ltb-true 0 (length p) c) refl)))
    (λ c. rw (any-short p (ltb-false 0 (length p) c)) (judges-stop (none p (ltb-false 0 (length p) c))))
  where
    none : (q : List ℤ) → length q ≤ 0 → judge (Awaited.literal ∷ more) q ≡ stop q
    none [] l = judge-none Awaited.literal more
    none (w ∷ q) l = absurd (omega arith)

module _ (d : ℕ) (in_c : Bool) (go : List ℤ → Reading (List ℤ)) (ih : Follows go (Awaited.expression d in_c ∷ [])) (more : List Awaited) (p : List ℤ) where
  -- the word of a form, and what is awaited after it
  form-judged : (f : Form) (then : List Awaited) {m : Reading (List ℤ)} → form_of (number_at p 0) ≡ f → number_of_form f < 27 → may_form d in_c f ≡ got then
      → Judges (then ++ more) more (drop 1 p) m → Judges (Awaited.expression (suc d) in_c ∷ more) more p m
  unfolding may
  form-judged f then e l h c =
      judges-on (judge-got (Awaited.expression (suc d) in_c) more p then (let z = ap length (form-word {p = p} e l) in omega arith) (rw e h)) c

  form-follows : (f : Form) → form_of (number_at p 0) ≡ f → Judges (Awaited.expression (suc d) in_c ∷ more) more p (read_form go in_c p f)
  unfolding read_form may_form may
  form-follows a_nil e = form-judged a_nil [] e (omega arith) refl (judges-got refl)
  form-follows a_false e = form-judged a_false [] e (omega arith) refl (judges-got refl)
  form-follows a_true e = form-judged a_true [] e (omega arith) refl (judges-got refl)
  form-follows an_integer e = form-judged an_integer (Awaited.literal ∷ []) e (omega arith) refl (literal-follows more (drop 1 p))
  form-follows a_path e = form-judged a_path (Awaited.path ∷ []) e (omega arith) refl (path-follows more (drop 1 p))
  form-follows an_operation e =
      form-judged an_operation (Awaited.operator d in_c ∷ []) e (omega arith) refl
      (number-judged (Awaited.operator d in_c) 1 operators (λ o. Awaited.expression d in_c ∷ Awaited.expression d in_c ∷ []) (drop 1 p) more more _
      (omega arith) refl λ x i.
      judges-then (go x.1) _ (ih (Awaited.expression d in_c ∷ more) x.1) (λ q. ih more q))
  form-follows an_identity e = identity in_c refl
    where
      identity : (b : Bool) → in_c ≡ b → Judges (Awaited.expression (suc d) in_c ∷ more) more p (want p (not b) >> read_paths (drop 1 p))
      identity true c = judges-stop (judge-stop (Awaited.expression (suc d) in_c) more p (rw (e, c)))
      identity false c = form-judged an_identity (Awaited.path ∷ Awaited.path ∷ []) e (omega arith) (rw c) (paths-follow more (drop 1 p))
  form-follows no_form e = judges-stop (judge-stop (Awaited.expression (suc d) in_c) more p (rw e))

-- e
pub expression-follows : (d : ℕ) (in_c : Bool) → Follows (λ p. read_expression d in_c p) (Awaited.expression d in_c ∷ [])
unfolding read_expression may
expression-follows zero in_c more p = judges-stop (judge-stop (Awaited.expression zero in_c) more p refl)
expression-follows (suc d) in_c more p =
    form-follows d in_c (λ q. read_expression d in_c q) (λ m q. expression-follows d in_c m q) more p (form_of (number_at p 0)) refl

-- an expression, and what is awaited after it
expression-then : (in_c : Bool) (mid more : List Awaited) (p : List ℤ) (f : List ℤ → Reading (List ℤ)) → ((q : List ℤ) → Judges mid more q (f q))
    → Judges (Awaited.expression expression_depth in_c ∷ mid) more p (read_expression expression_depth in_c p >>= f)
expression-then in_c mid more p f k = judges-then (read_expression expression_depth in_c p) f (expression-follows expression_depth in_c mid p) k

-- ---- constraints and fields

pub part-follows : Follows (λ p. read_part p) (Awaited.part ∷ [])
unfolding read_part may
part-follows more p =
    number-judged Awaited.part 1 required (λ k. Awaited.expression expression_depth true ∷ []) p more more _ (omega arith) refl λ x e.
    expression-follows expression_depth true more x.1

pub parts-follow : (m : ℕ) → Follows (λ p. read_parts m p) (replicate m Awaited.part)
unfolding read_parts
parts-follow zero more p = judges-got refl
parts-follow (suc m) more p = judges-then (read_part p) _ (part-follows (replicate m Awaited.part ++ more) p) (λ q. parts-follow m more q)

pub constraint-follows : Follows (λ p. read_constraint p) (Awaited.constraint ∷ [])
unfolding read_constraint may
constraint-follows more p =
    number-judged Awaited.constraint 1 most_parts (λ m. replicate m Awaited.part) p more more _ (omega arith) refl λ x e.
    parts-follow x.0 more x.1

pub fields-follow : (n : ℕ) (seen : List ℕ) → Follows (λ p. read_fields n seen p) (fields_more n seen)
unfolding read_fields may number
fields-follow zero seen more p = judges-got refl
fields-follow (suc n) seen more p = go (λ l q. fields-follow n (l ∷ seen) more q) (among (number_at p 0) seen) refl
  where
    go : ((l : ℕ) (q : List ℤ) → Judges (fields_more n (l ∷ seen) ++ more) more q (read_fields n (l ∷ seen) q))
        → (b : Bool) → among (number_at p 0) seen ≡ b → Judges (Awaited.field n seen ∷ more) more p (read_fields (suc n) seen p)
    go ih true c =
        cases (leb 0 (number_at p 0) && leb (number_at p 0) (labels - 1))
        (λ t. rw (t, c) (judges-stop (judge-stop (Awaited.field n seen) more p (rw c))))
        (λ t. rw t (judges-stop (judge-stop (Awaited.field n seen) more p (rw c))))
    go ih false c =
        number-judged (Awaited.field n seen) 0 (labels - 1) (λ l. Awaited.expression expression_depth false ∷ fields_more n (l ∷ seen)) p more more _
        (omega arith) (rw c) λ x e.
        let i : among x.0 seen ≡ false = rw e c in
        rw i (expression-then false (fields_more n (x.0 ∷ seen) ++ more) more x.1 _ λ q. ih x.0 q)

pub new-follows : Follows (λ p. read_new p) (Awaited.target ∷ [])
unfolding read_new may
new-follows more p =
    number-judged Awaited.target 0 (variables - 1) (λ x. Awaited.field_count ∷ []) p more more _ (omega arith) refl λ x e.
    number-judged Awaited.field_count 0 most_fields (λ n. fields_more n []) x.1 more more _ (omega arith) refl λ y d.
    fields-follow y.0 [] more y.1

-- ---- statements and blocks

pub assign-follows : Follows (λ p. read_assign p) (Awaited.path ∷ Awaited.expression expression_depth false ∷ [])
unfolding read_assign
assign-follows more p =
    judges-then (read_path p) _ (path-follows (Awaited.expression expression_depth false ∷ more) p) λ q.
    expression-follows expression_depth false more q

module _ (d : ℕ) (block : List ℤ → Reading (List ℤ)) (ih : Follows block (Awaited.block d ∷ [])) where
  -- the word of a verb, and what is awaited after it
  verb-judged : (more : List Awaited) (p : List ℤ) (v : Verb) (then : List Awaited) {m : Reading (List ℤ)}
      → verb_of (number_at p 0) ≡ v → number_of_verb v < 9 → may_verb d v ≡ got then → Judges (then ++ more) more (drop 1 p) m → Judges (Awaited.statement d ∷ more) more p m
  unfolding may
  verb-judged more p v then e l h c =
      judges-on (judge-got (Awaited.statement d) more p then (let z = ap length (verb-word {p = p} e l) in omega arith) (rw e h)) c

  verb-follows : (more : List Awaited) (p : List ℤ) (v : Verb) → verb_of (number_at p 0) ≡ v
      → Judges (Awaited.statement d ∷ more) more p (read_verb block p v)
  unfolding read_verb may_verb may
  verb-follows more p skip e = verb-judged more p skip _ e (omega arith) refl (judges-got refl)
  verb-follows more p assign e = verb-judged more p assign _ e (omega arith) refl (assign-follows more (drop 1 p))
  verb-follows more p new e = verb-judged more p new _ e (omega arith) refl (new-follows more (drop 1 p))
  verb-follows more p always e = verb-judged more p always _ e (omega arith) refl (constraint-follows more (drop 1 p))
  verb-follows more p once e = verb-judged more p once _ e (omega arith) refl (constraint-follows more (drop 1 p))
  verb-follows more p always_same e = verb-judged more p always_same _ e (omega arith) refl (paths-follow more (drop 1 p))
  verb-follows more p once_same e = verb-judged more p once_same _ e (omega arith) refl (paths-follow more (drop 1 p))
  verb-follows more p branch e =
      verb-judged more p branch _ e (omega arith) refl
      (expression-then false (Awaited.block d ∷ Awaited.block d ∷ more) more (drop 1 p) _ λ q.
      judges-then (block q) _ (ih (Awaited.block d ∷ more) q) (λ r. ih more r))
  verb-follows more p loop e =
      verb-judged more p loop _ e (omega arith) refl (expression-then false (Awaited.block d ∷ more) more (drop 1 p) _ λ q. ih more q)
  verb-follows more p no_verb e = judges-stop (judge-stop (Awaited.statement d) more p (rw e))

  with-follows : Follows (λ p. read_with block p) (Awaited.statement d ∷ [])
  unfolding read_with
  with-follows more p = verb-follows more p (verb_of (number_at p 0)) refl

  run-follows : (n : ℕ) → Follows (λ p. read_statements block n p) (replicate n (Awaited.statement d))
  unfolding read_statements
  run-follows zero more p = judges-got refl
  run-follows (suc n) more p = judges-then (read_with block p) _ (with-follows (replicate n (Awaited.statement d) ++ more) p) (λ q. run-follows n more q)

-- a block, whatever is awaited after it
pub block-follows : (d : ℕ) → Follows (λ p. read_block d p) (Awaited.block d ∷ [])
unfolding read_block may
block-follows zero more p = judges-stop (judge-stop (Awaited.block zero) more p refl)
block-follows (suc d) more p =
    number-judged (Awaited.block (suc d)) 0 most_statements (λ n. replicate n (Awaited.statement d)) p more more _ (omega arith) refl λ x e.
    run-follows d (λ q. read_block d q) (λ m q. block-follows d m q) x.0 more x.1

pub statement-follows : (d : ℕ) → Follows (λ p. read_statement d p) (Awaited.statement d ∷ [])
unfolding read_statement
statement-follows d more p = with-follows d (λ q. read_block d q) (λ m q. block-follows d m q) more p

pub statements-follow : (d n : ℕ) → Follows (λ p. read_statements (λ r. read_block d r) n p) (replicate n (Awaited.statement d))
statements-follow d n more p = run-follows d (λ q. read_block d q) (λ m q. block-follows d m q) n more p
