-- What a piece that reads may refuse with: never 2, the number of words that do not read. P is any property that the numbers met have. Assumes nothing.
use mathlib.Core.Path.{◌≡◌, refl, sym, ap, ◌∙◌}
use Prim.Native.Nat.{ℕ, zero, suc, ◌+◌, ◌-◌, ◌≤◌, ◌<◌}
use native.Mathlib.Omega.{arith}
use native.Mathlib.Decide.{dec_lt}
use mathlib.Core.Bool.{Bool, true, false, true≢false}
use mathlib.Core.List.{List, ◌∷◌, ◌++◌, append_assoc}
use lib.IntN.{ℤ, pos}
use lib.ListN.{drop, get_or}
use Rattle.words.specs.Words.{number_at}
use Rattle.words.specs.Answer.{got, want}
use Rattle.words.proofs.AnswerLaws.{got-inj, step}
use Rattle.words.proofs.Laws.{number-first}
use Rattle.tables.specs.declared.Value.{Value}
use Rattle.tables.specs.Sizes.{variables, labels}
use Rattle.tables.specs.Cells.{Cells}
use Rattle.program.specs.Forms.{expression_depth, most_steps, most_parts, required, operators}
use Rattle.program.specs.Forms.{forms, form_of}
use Rattle.program.specs.declared.Form.{Form}
use Rattle.program.specs.declared.Form.TheVariants.{Nil as a_nil, False as a_false, True as a_true, Integer as an_integer, Path as a_path, Operation as an_operation, Identity as an_identity, Unknown as no_form}
use Rattle.program.specs.Grammar.{Labels, Path, Expression, Parts, Constraint, Fields}
use Rattle.program.specs.Reading.{number}
use Rattle.program.specs.Told.{told}
use Rattle.program.proofs.FormLaws.{number_of_form, form-number}
use Rattle.program.proofs.NumberLaws.{number-of, any-fits}
use Rattle.program.proofs.GrammarLaws.{expression-complete}
use Rattle.program.proofs.ReadLaws.{expression-none}
use Rattle.rules.specs.State.{refused, reads, or_refuse, slot_at, present, listed}
use Rattle.rules.specs.Paths.{Way, follow, way_at, value_at}
use Rattle.rules.specs.Evaluation.{op_of, kind_of, takes, a_bool, same, apply, at, evaluate_form, evaluate, kind_form, kind}
use Rattle.rules.specs.Constraints.{part_at, parts_at, constraint_at}
use Rattle.rules.specs.Identities.{is_node, same_now, tie_at, ties_of}
use Rattle.rules.specs.Statements.{field_words}
use Rattle.rules.specs.Running.{test}
use Rattle.rules.proofs.WordSteps.{reads-got}
use Rattle.rules.proofs.EndLaws.{ends-got, ends-then, ends_on, ends-want, ends-test, ends-any, Fine, Any, fine-refused, fine-at}
use Rattle.rules.proofs.FineLaws.{apply-fine}
use Rattle.rules.proofs.VerbLaws.{told-apart}

-- ---- a path that reads, whatever the state is

pub record PathAt (p q : List ℤ) : Type 0 where
  pub variable : ℕ
  pub steps : ℕ
  pub middle : List ℤ
  pub labels : List ℤ
  pub first : number 0 (variables - 1) p ≡ got (variable, middle)
  pub second : number 0 most_steps middle ≡ got (steps, labels)
  pub rest : drop steps labels ≡ q

labels-drop : {n : ℕ} {ls : List ℤ} → Labels n ls → (q : List ℤ) → drop n (ls ++ q) ≡ q
labels-drop Labels.none q = refl
labels-drop (Labels.one h l) q = labels-drop l q

pub path-at : {a : List ℤ} → Path a → (q : List ℤ) → PathAt (a ++ q) q
path-at (Path.path {x = x} {n = n} {ls = ls} h k l) q = record {
  variable = x;
  steps = n;
  middle = pos n ∷ (ls ++ q);
  labels = ls ++ q;
  first = number-of 0 (variables - 1) x (pos n ∷ (ls ++ q)) (omega arith) (omega arith);
  second = number-of 0 most_steps n (ls ++ q) (omega arith) k;
  rest = labels-drop l q;
}

module _ (P : ℕ → Type 0) (seven : P 7) (S : Cells) where
  pub way-reads : {p q : List ℤ} → PathAt p q → Fine P (λ w. w.rest ≡ q) (way_at S p)
  unfolding way_at
  way-reads {p} {q} r =
      rw (r.first, r.second)
      (ends-then (or_refuse 7 p (follow S r.steps r.variable r.labels)) _
      (fine-refused P 7 p (follow S r.steps r.variable r.labels) seven) λ y u. ends-got r.rest)

  pub value-reads : {p q : List ℤ} → PathAt p q → Fine P (λ v. v.1 ≡ q) (value_at S p)
  unfolding value_at
  value-reads {p} {q} r =
      ends-then (way_at S p) _ (way-reads r) λ w e.
      ends-then (or_refuse 7 p (present (slot_at S w.cell))) _ (fine-refused P 7 p (present (slot_at S w.cell)) seven) λ v u. ends-got e

module _ (S : Cells) where
  -- a path whose value was found reads
  value-was : (p : List ℤ) {v : Value × List ℤ} → value_at S p ≡ got v → PathAt p v.1
  unfolding value_at way_at
  value-was p e =
      step (way_at S p) _ e λ w e1 k1.
      step (or_refuse 7 p (present (slot_at S w.cell))) _ k1 λ y e2 k2.
      step (reads (number 0 (variables - 1) p)) _ e1 λ x a k3.
      step (reads (number 0 most_steps x.1)) _ k3 λ n b k4.
      step (or_refuse 7 p (follow S n.0 x.0 n.1)) _ k4 λ z c k5.
      record {
        variable = x.0;
        steps = n.0;
        middle = x.1;
        labels = n.1;
        first = reads-got (number 0 (variables - 1) p) a;
        second = reads-got (number 0 most_steps x.1) b;
        rest = ap (λ (u : Way). u.rest) (got-inj k5) ∙ ap (λ (u : Value × List ℤ). u.1) (got-inj k2);
      }

-- ---- two paths

pub record TieAt (p : List ℤ) : Type 0 where
  pub middle : List ℤ
  pub last : List ℤ
  pub one : PathAt p middle
  pub two : PathAt middle last

pub tie-at : {a b : List ℤ} → Path a → Path b → (q : List ℤ) → TieAt ((a ++ b) ++ q)
tie-at {a} {b} x y q = record { middle = b ++ q; last = q; one = rw (append_assoc a b q) (path-at x (b ++ q)); two = path-at y q }

-- an identity that held reads
pub same-was : (S : Cells) (word p : List ℤ) {u : Unit {0}} → same_now S word p ≡ got u → TieAt p
unfolding same_now
same-was S word p e =
    step (value_at S p) _ e λ v e1 k1.
    step (value_at S v.1) _ k1 λ w e2 k2.
    record { middle = v.1; last = w.1; one = value-was S p e1; two = value-was S v.1 e2 }

module _ (P : ℕ → Type 0) (seven : P 7) (S : Cells) where
  pub same_reads : P 8 → P 11 → (word : List ℤ) {p : List ℤ} → TieAt p → Fine P Any (same_now S word p)
  unfolding same_now
  same_reads eight eleven word {p} r =
      ends-then (value_at S p) _ (value-reads P seven S r.one) λ v e.
      ends-then (value_at S v.1) _ (value-reads P seven S (rw (sym e) at r.two)) λ w f.
      ends-want (refused 8 p) (is_node v.0) _ eight λ c.
      ends-want (refused 8 v.1) (is_node w.0) _ eight λ c1.
      ends-any (ends-test (refused 11 word) (same v.0 w.0) eleven)

  tie-reads : {p : List ℤ} → TieAt p → Fine P Any (tie_at S p)
  unfolding tie_at
  tie-reads {p} r =
      ends-then (way_at S p) _ (way-reads P seven S r.one) λ a e.
      ends-then (way_at S a.rest) _ (way-reads P seven S (rw (sym e) at r.two)) λ b f. ends-got tt

  pub ties-read : (program : List ℤ) (f : ℕ → ℕ) (i n : ℕ) → ((j : ℕ) → j < i + n → TieAt (drop (f j + 1) program)) → Fine P Any (ties_of program S (listed f i n))
  unfolding ties_of listed
  ties-read program f i zero h = ends-got tt
  ties-read program f i (suc n) h =
      ends-then (tie_at S (drop (f i + 1) program)) _ (tie-reads (h i (omega arith))) λ t u.
      ends-then (ties_of program S (listed f (suc i) n)) _ (ties-read program f (suc i) n (λ j l. h j (omega arith))) λ ts v. ends-got tt

-- ---- the form of an expression

form-back : (f : Form) → get_or forms (number_of_form f - 20) no_form ≡ f
form-back a_nil = refl
form-back a_false = refl
form-back a_true = refl
form-back an_integer = refl
form-back a_path = refl
form-back an_operation = refl
form-back an_identity = refl
form-back no_form = refl

form-none : (f : Form) → (number_of_form f < 27 → ⊥) → f ≡ no_form
form-none a_nil h = absurd (h (omega arith))
form-none a_false h = absurd (h (omega arith))
form-none a_true h = absurd (h (omega arith))
form-none an_integer h = absurd (h (omega arith))
form-none a_path h = absurd (h (omega arith))
form-none an_operation h = absurd (h (omega arith))
form-none an_identity h = absurd (h (omega arith))
form-none no_form h = refl

module _ {in_c : Bool} where
  some-depth : {d : ℕ} {e : List ℤ} → Expression in_c d e → d ≡ 0 → ⊥
  some-depth Expression.nil z = omega arith
  some-depth Expression.no z = omega arith
  some-depth Expression.yes z = omega arith
  some-depth Expression.integer z = omega arith
  some-depth (Expression.at a) z = omega arith
  some-depth (Expression.operation h k l r) z = omega arith
  some-depth (Expression.identity i a b) z = omega arith

  -- an expression's first word stands for its form
  form_in : {d : ℕ} {e : List ℤ} (x : Expression in_c d e) (q : List ℤ) (f : Form) → number_at (e ++ q) 0 ≡ number_of_form f → form_of (number_at (e ++ q) 0) ≡ f
  form_in {d} {e} x q f i = go (dec_lt (number_of_form (form_of (number_at (e ++ q) 0))) 27)
    where
      go : Dec (number_of_form (form_of (number_at (e ++ q) 0)) < 27) → form_of (number_at (e ++ q) 0) ≡ f
      go (yes l) =
          sym (form-back (form_of (number_at (e ++ q) 0)))
          ∙ ap (λ n. get_or forms (n - 20) no_form) (sym (form-number (number_at (e ++ q) 0) l) ∙ i) ∙ form-back f
      go (no n) = absurd (told-apart (e ++ q) q
          (expression-none d in_c (e ++ q) (some-depth x) (form-none (form_of (number_at (e ++ q) 0)) n) ∙ ap told (expression-complete x q)))

-- ---- expressions

module _ (P : ℕ → Type 0) (seven : P 7) (eight : P 8) (S : Cells) where
  pub evaluate-reads : P 9 → {in_c : Bool} {d : ℕ} {e : List ℤ} → Expression in_c d e → (q : List ℤ) → Fine P (λ v. v.1 ≡ q) (evaluate d S (e ++ q))
  unfolding evaluate evaluate_form
  evaluate-reads nine {in_c} (Expression.nil {d = d}) q = rw (form_in {in_c = in_c} (Expression.nil {d = d}) q a_nil (number-first _ _)) (ends-got refl)
  evaluate-reads nine {in_c} (Expression.no {d = d}) q = rw (form_in {in_c = in_c} (Expression.no {d = d}) q a_false (number-first _ _)) (ends-got refl)
  evaluate-reads nine {in_c} (Expression.yes {d = d}) q = rw (form_in {in_c = in_c} (Expression.yes {d = d}) q a_true (number-first _ _)) (ends-got refl)
  evaluate-reads nine {in_c} (Expression.integer {d = d} {w = w}) q =
      rw (form_in {in_c = in_c} (Expression.integer {d = d} {w = w}) q an_integer (number-first _ _), any-fits (w ∷ q) (omega arith)) (ends-got refl)
  evaluate-reads nine {in_c} (Expression.at {d = d} a) q = rw (form_in {in_c = in_c} (Expression.at {d = d} a) q a_path (number-first _ _)) (value-reads P seven S (path-at a q))
  evaluate-reads nine (Expression.operation {d = d} {o = o} {a = a} {b = b} h k l r) q =
      rw (form_in (Expression.operation h k l r) q an_operation (number-first _ _), number-of 1 operators o ((a ++ b) ++ q) h k, append_assoc a b q)
      (ends-then (evaluate d S (a ++ (b ++ q))) _ (evaluate-reads nine l (b ++ q)) λ v e.
      ends-then {G = λ w. w.1 ≡ q} (evaluate d S v.1) _ (rw e (evaluate-reads nine r q)) λ w f.
      ends-then (at (pos 25 ∷ pos o ∷ a ++ (b ++ q)) (apply (op_of o) v.0 w.0)) _ (fine-at P (pos 25 ∷ pos o ∷ a ++ (b ++ q)) _ (apply-fine P eight nine (op_of o) v.0 w.0)) λ x u. ends-got f)
  evaluate-reads nine (Expression.identity {d = d} {a = a} {b = b} i x y) q =
      rw (form_in (Expression.identity {d = d} i x y) q an_identity (number-first _ _), append_assoc a b q)
      (ends-then (value_at S (a ++ (b ++ q))) _ (value-reads P seven S (path-at x (b ++ q))) λ v e.
      ends-then (value_at S v.1) _ (value-reads P seven S (rw (sym e) at (path-at y q))) λ w f. ends-got f)

  pub test-reads : P 9 → {e : List ℤ} → Expression false expression_depth e → (q : List ℤ) → Fine P Any (test S (e ++ q))
  unfolding test
  test-reads nine {e} x q =
      ends-then (evaluate expression_depth S (e ++ q)) _ (evaluate-reads nine x q) λ v u.
      ends-want (refused 8 (e ++ q)) (a_bool (kind_of v.0)) _ eight λ c. ends-got tt

  kind-reads : {d : ℕ} {e : List ℤ} → Expression true d e → (q : List ℤ) → Fine P (λ k. k.1 ≡ q) (kind d S (e ++ q))
  unfolding kind kind_form
  kind-reads (Expression.nil {d = d}) q = rw (form_in {in_c = true} (Expression.nil {d = d}) q a_nil (number-first _ _)) (ends-got refl)
  kind-reads (Expression.no {d = d}) q = rw (form_in {in_c = true} (Expression.no {d = d}) q a_false (number-first _ _)) (ends-got refl)
  kind-reads (Expression.yes {d = d}) q = rw (form_in {in_c = true} (Expression.yes {d = d}) q a_true (number-first _ _)) (ends-got refl)
  kind-reads (Expression.integer {d = d} {w = w}) q =
      rw (form_in {in_c = true} (Expression.integer {d = d} {w = w}) q an_integer (number-first _ _), any-fits (w ∷ q) (omega arith)) (ends-got refl)
  kind-reads (Expression.at {d = d} {a = a} x) q =
      rw (form_in {in_c = true} (Expression.at {d = d} x) q a_path (number-first _ _)) (ends-then (value_at S (a ++ q)) _ (value-reads P seven S (path-at x q)) λ v e. ends-got e)
  kind-reads (Expression.operation {d = d} {o = o} {a = a} {b = b} h k l r) q =
      rw (form_in (Expression.operation h k l r) q an_operation (number-first _ _), number-of 1 operators o ((a ++ b) ++ q) h k, append_assoc a b q)
      (ends-then (kind d S (a ++ (b ++ q))) _ (kind-reads l (b ++ q)) λ v e.
      ends-then {G = λ w. w.1 ≡ q} (kind d S v.1) _ (rw e (kind-reads r q)) λ w f.
      ends_on (at (pos 25 ∷ pos o ∷ (a ++ (b ++ q))) (want 8 (takes (op_of o) v.0 w.0))) _
      (fine-at P (pos 25 ∷ pos o ∷ (a ++ (b ++ q))) (want 8 (takes (op_of o) v.0 w.0)) (ends-test 8 (takes (op_of o) v.0 w.0) eight)) (ends-got f))
  kind-reads (Expression.identity i x y) q = absurd (true≢false i)

  -- ---- constraints and fields

  part-reads : {k : ℕ} {e : List ℤ} → 1 ≤ k → k ≤ required → Expression true expression_depth e → (r : List ℤ) → Fine P (λ z. z.1 ≡ r) (part_at S (pos k ∷ (e ++ r)))
  unfolding part_at
  part-reads {k} {e} h l x r =
      rw (number-of 1 required k (e ++ r) h l)
      (ends-then (kind expression_depth S (e ++ r)) _ (kind-reads x r) λ z f.
      ends-want (refused 8 (pos k ∷ (e ++ r))) (a_bool z.0) _ eight λ c. ends-got f)

  parts-read : {m : ℕ} {ps : List ℤ} → Parts m ps → (q : List ℤ) → Fine P Any (parts_at m S (ps ++ q))
  unfolding parts_at
  parts-read Parts.none q = ends-got tt
  parts-read (Parts.one {m = m} {k = k} {e = e} {ps = ps} h l x y) q =
      rw (append_assoc e ps q)
      (ends-then (part_at S (pos k ∷ (e ++ (ps ++ q)))) _ (part-reads h l x (ps ++ q)) λ z f.
      ends-then {G = Any} (parts_at m S z.1) _ (rw f (parts-read y q)) λ w u. ends-got tt)

  pub constraint-reads : {c : List ℤ} → Constraint c → (q : List ℤ) → Fine P Any (constraint_at S (c ++ q))
  unfolding constraint_at
  constraint-reads (Constraint.constraint {m = m} {ps = ps} h l x) q =
      rw (number-of 1 most_parts m (ps ++ q) h l) (ends-then (parts_at m S (ps ++ q)) _ (parts-read x q) λ z u. ends-got tt)

  pub fields_read : P 9 → {n : ℕ} {seen : List ℕ} {fs : List ℤ} → Fields n seen fs → (q : List ℤ) → Fine P Any (field_words n S (fs ++ q))
  unfolding field_words
  fields_read nine Fields.none q = ends-got tt
  fields_read nine (Fields.one {n = n} {l = l} {e = e} {fs = fs} h s x y) q =
      rw (number-of 0 (labels - 1) l ((e ++ fs) ++ q) (omega arith) (omega arith), append_assoc e fs q)
      (ends-then (evaluate expression_depth S (e ++ (fs ++ q))) _ (evaluate-reads nine x (fs ++ q)) λ v f.
      ends-then {G = Any} (field_words n S v.1) _ (rw f (fields_read nine y q)) λ w u. ends-got tt)
