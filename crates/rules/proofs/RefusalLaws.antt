-- The numbers with which expressions, constraints, identities and proposals refuse: 2, or from 5 to 19. Assumes nothing.
use mathlib.Core.Path.{◌≡◌, refl}
use Prim.Native.Nat.{ℕ, zero, suc, ◌+◌, ◌-◌, ◌≤◌}
use native.Mathlib.Omega.{arith}
use mathlib.Core.Bool.{true, false}
use mathlib.Core.List.{List, [], ◌∷◌}
use lib.IntN.{ℤ}
use lib.ListN.{drop}
use Rattle.words.specs.Words.{number_at}
use Rattle.words.specs.Answer.{want}
use Rattle.tables.specs.declared.Value.{Value}
use Rattle.tables.specs.declared.Kind.{Kind}
use Rattle.tables.specs.Sizes.{variables, labels, most_fields}
use Rattle.tables.specs.Cells.{Cells}
use Rattle.program.specs.Forms.{expression_depth, most_steps, most_parts, required, operators}
use Rattle.program.specs.Forms.{form_of}
use Rattle.program.specs.declared.Form.{Form}
use Rattle.program.specs.declared.Form.TheVariants.{Nil as a_nil, False as a_false, True as a_true, Integer as an_integer, Path as a_path, Operation as an_operation, Identity as an_identity, Unknown as no_form}
use Rattle.program.specs.declared.Verb.{Verb}
use Rattle.program.specs.declared.Verb.TheVariants.{Skip as skip, Assign as assign, New as new, Always as always, Once as once, AlwaysSame as always_same, OnceSame as once_same, If as branch, While as loop, Unknown as no_verb}
use Rattle.program.specs.Reading.{number, any_word}
use Rattle.rules.specs.State.{State, Res, refused, reads, or_refuse, slot_at, present}
use Rattle.rules.specs.Paths.{follow, way_at, value_at}
use Rattle.rules.specs.Evaluation.{op_of, kind_of, takes, a_bool, same, apply, at}
use Rattle.rules.specs.Evaluation.{evaluate_form, evaluate, kind_form, kind}
use Rattle.rules.specs.Constraints.{part_at, parts_at, constraint_at}
use Rattle.rules.specs.Identities.{is_node, same_now, tie_at, ties_of, ties}
use Rattle.rules.specs.Statements.{field_words, do_simple}
use Rattle.rules.specs.Running.{test}
use Rattle.rules.proofs.FineLaws.{Judged, apply-fine, assign-fine, new-fine, constraint-fine, identity-fine}
use Rattle.rules.proofs.EndLaws.{ends-got, ends-stop, ends-then, ends_on, ends-want, ends-test, Fine, Any, ends-any, fine-refused, fine-reads, fine-at}

-- a number that a statement may refuse with; 2 only where words do not read
pub data Refusal (n : ℕ) : Type 0 where
  told : 5 ≤ n → n ≤ 19 → Refusal n
  unread : n ≡ 2 → Refusal n

pub refusal-least : {n : ℕ} → Refusal n → 2 ≤ n
refusal-least (told a b) = omega arith
refusal-least (unread e) = omega arith

-- a step that refuses with one of these
abbrev pub Refuses : {A : Type 0} → Res A → Type 0
Refuses m = Fine Refusal Any m

two : Refusal 2
two = unread refl

seven : Refusal 7
seven = told (omega arith) (omega arith)

eight : Refusal 8
eight = told (omega arith) (omega arith)

nine : Refusal 9
nine = told (omega arith) (omega arith)

judged : Judged Refusal
judged = record {
  six = told (omega arith) (omega arith);
  fifteen = told (omega arith) (omega arith);
  sixteen = told (omega arith) (omega arith);
  seventeen = told (omega arith) (omega arith);
  eighteen = told (omega arith) (omega arith);
  nineteen = told (omega arith) (omega arith);
}

-- ---- paths and expressions

module _ (S : Cells) where
  pub way-refuses : (p : List ℤ) → Refuses (way_at S p)
  unfolding way_at
  way-refuses p =
      ends-then (reads (number 0 (variables - 1) p)) _ (fine-reads Refusal (number 0 (variables - 1) p) two) λ x u.
      ends-then (reads (number 0 most_steps x.1)) _ (fine-reads Refusal (number 0 most_steps x.1) two) λ n v.
      ends-then (or_refuse 7 p (follow S n.0 x.0 n.1)) _ (fine-refused Refusal 7 p (follow S n.0 x.0 n.1) seven) λ y w.
      ends-got tt

  pub value-refuses : (p : List ℤ) → Refuses (value_at S p)
  unfolding value_at
  value-refuses p =
      ends-then (way_at S p) _ (way-refuses p) λ w u.
      ends-then (or_refuse 7 p (present (slot_at S w.cell))) _ (fine-refused Refusal 7 p (present (slot_at S w.cell)) seven) λ v x.
      ends-got tt

  form-refuses : (go : List ℤ → Res (Value × List ℤ)) → ((q : List ℤ) → Refuses (go q)) → (p : List ℤ) (f : Form) → Refuses (evaluate_form go S p f)
  unfolding evaluate_form
  form-refuses go h p a_nil = ends-got tt
  form-refuses go h p a_false = ends-got tt
  form-refuses go h p a_true = ends-got tt
  form-refuses go h p an_integer = ends-then (reads (any_word (drop 1 p))) _ (fine-reads Refusal (any_word (drop 1 p)) two) λ q u. ends-got tt
  form-refuses go h p a_path = value-refuses (drop 1 p)
  form-refuses go h p an_operation =
      ends-then (reads (number 1 operators (drop 1 p))) _ (fine-reads Refusal (number 1 operators (drop 1 p)) two) λ o u.
      ends-then (go o.1) _ (h o.1) λ a v.
      ends-then (go a.1) _ (h a.1) λ b w.
      ends-then (at p (apply (op_of o.0) a.0 b.0)) _ (fine-at Refusal p _ (apply-fine Refusal eight nine (op_of o.0) a.0 b.0)) λ x y. ends-got tt
  form-refuses go h p an_identity =
      ends-then (value_at S (drop 1 p)) _ (value-refuses (drop 1 p)) λ a u.
      ends-then (value_at S a.1) _ (value-refuses a.1) λ b v. ends-got tt
  form-refuses go h p no_form = ends-stop two

  pub evaluate-refuses : (d : ℕ) (p : List ℤ) → Refuses (evaluate d S p)
  unfolding evaluate
  evaluate-refuses zero p = ends-stop two
  evaluate-refuses (suc d) p = form-refuses (λ q. evaluate d S q) (λ q. evaluate-refuses d q) p (form_of (number_at p 0))

  kind-form-refuses : (go : List ℤ → Res (Kind × List ℤ)) → ((q : List ℤ) → Refuses (go q)) → (p : List ℤ) (f : Form) → Refuses (kind_form go S p f)
  unfolding kind_form
  kind-form-refuses go h p a_nil = ends-got tt
  kind-form-refuses go h p a_false = ends-got tt
  kind-form-refuses go h p a_true = ends-got tt
  kind-form-refuses go h p an_integer = ends-then (reads (any_word (drop 1 p))) _ (fine-reads Refusal (any_word (drop 1 p)) two) λ q u. ends-got tt
  kind-form-refuses go h p a_path = ends-then (value_at S (drop 1 p)) _ (value-refuses (drop 1 p)) λ a u. ends-got tt
  kind-form-refuses go h p an_operation =
      ends-then (reads (number 1 operators (drop 1 p))) _ (fine-reads Refusal (number 1 operators (drop 1 p)) two) λ o u.
      ends-then (go o.1) _ (h o.1) λ a v.
      ends-then (go a.1) _ (h a.1) λ b w.
      ends_on (at p (want 8 (takes (op_of o.0) a.0 b.0))) _ (fine-at Refusal p _ (ends-test 8 (takes (op_of o.0) a.0 b.0) eight)) (ends-got tt)
  kind-form-refuses go h p an_identity = ends-stop two
  kind-form-refuses go h p no_form = ends-stop two

  pub kind-refuses : (d : ℕ) (p : List ℤ) → Refuses (kind d S p)
  unfolding kind
  kind-refuses zero p = ends-stop two
  kind-refuses (suc d) p = kind-form-refuses (λ q. kind d S q) (λ q. kind-refuses d q) p (form_of (number_at p 0))

  -- ---- constraints

  part-refuses : (p : List ℤ) → Refuses (part_at S p)
  unfolding part_at
  part-refuses p =
      ends-then (reads (number 1 required p)) _ (fine-reads Refusal (number 1 required p) two) λ x u.
      ends-then (kind expression_depth S x.1) _ (kind-refuses expression_depth x.1) λ k v.
      ends-want (refused 8 p) (a_bool k.0) _ eight λ c. ends-got tt

  parts-refuse : (m : ℕ) (p : List ℤ) → Refuses (parts_at m S p)
  unfolding parts_at
  parts-refuse zero p = ends-got tt
  parts-refuse (suc m) p =
      ends-then (part_at S p) _ (part-refuses p) λ x u.
      ends-then (parts_at m S x.1) _ (parts-refuse m x.1) λ y v. ends-got tt

  pub constraint-refuses : (p : List ℤ) → Refuses (constraint_at S p)
  unfolding constraint_at
  constraint-refuses p =
      ends-then (reads (number 1 most_parts p)) _ (fine-reads Refusal (number 1 most_parts p) two) λ x u.
      ends-then (parts_at x.0 S x.1) _ (parts-refuse x.0 x.1) λ y v. ends-got tt

  -- ---- identities

  pub same-refuses : (word p : List ℤ) → Refuses (same_now S word p)
  unfolding same_now
  same-refuses word p =
      ends-then (value_at S p) _ (value-refuses p) λ v u.
      ends-then (value_at S v.1) _ (value-refuses v.1) λ w x.
      ends-want (refused 8 p) (is_node v.0) _ eight λ c.
      ends-want (refused 8 v.1) (is_node w.0) _ eight λ k.
      ends-any (ends-test (refused 11 word) (same v.0 w.0) (told (omega arith) (omega arith)))

  tie-refuses : (p : List ℤ) → Refuses (tie_at S p)
  unfolding tie_at
  tie-refuses p =
      ends-then (way_at S p) _ (way-refuses p) λ a u.
      ends-then (way_at S a.rest) _ (way-refuses a.rest) λ b v. ends-got tt

  ties-refuse : (program : List ℤ) (ps : List ℕ) → Refuses (ties_of program S ps)
  unfolding ties_of
  ties-refuse program [] = ends-got tt
  ties-refuse program (p ∷ ps) =
      ends-then (tie_at S (drop (p + 1) program)) _ (tie-refuses (drop (p + 1) program)) λ t u.
      ends-then (ties_of program S ps) _ (ties-refuse program ps) λ ts v. ends-got tt

  -- ---- statements

  fields-refuse : (n : ℕ) (p : List ℤ) → Refuses (field_words n S p)
  unfolding field_words
  fields-refuse zero p = ends-got tt
  fields-refuse (suc n) p =
      ends-then (reads (number 0 (labels - 1) p)) _ (fine-reads Refusal (number 0 (labels - 1) p) two) λ l u.
      ends-then (evaluate expression_depth S l.1) _ (evaluate-refuses expression_depth l.1) λ v x.
      ends-then (field_words n S v.1) _ (fields-refuse n v.1) λ more y. ends-got tt

  pub test-refuses : (p : List ℤ) → Refuses (test S p)
  unfolding test
  test-refuses p =
      ends-then (evaluate expression_depth S p) _ (evaluate-refuses expression_depth p) λ v u.
      ends-want (refused 8 p) (a_bool (kind_of v.0)) _ eight λ c. ends-got tt

-- a statement that holds no block refuses with 2, or from 5 to 19
pub simple-refuses : (program p : List ℤ) (S : State) (ws : List ℤ) (verb : Verb) → Refuses (do_simple program p S ws verb)
unfolding do_simple ties
simple-refuses program p S ws skip = ends-got tt
simple-refuses program p S ws assign =
    assign-fine Refusal judged program p S ws (told (omega arith) (omega arith)) (told (omega arith) (omega arith)) (evaluate-refuses S.cells expression_depth _) (way-refuses S.cells (drop 1 p)) (ties-refuse S.cells program _)
simple-refuses program p S ws new =
    new-fine Refusal judged program p S ws (told (omega arith) (omega arith)) (told (omega arith) (omega arith)) (ends-any (fine-reads Refusal (number 0 (variables - 1) (drop 1 p)) two))
    (λ x e. ends-any (fine-reads Refusal (number 0 most_fields x.1) two)) (λ x e n f. fields-refuse S.cells n.0 n.1) (ties-refuse S.cells program _)
simple-refuses program p S ws always = constraint-fine Refusal judged program p S ws (λ Z. constraint-refuses Z (drop 1 p)) true (λ e. told (omega arith) (omega arith))
simple-refuses program p S ws once = constraint-fine Refusal judged program p S ws (λ Z. constraint-refuses Z (drop 1 p)) false (λ e. told (omega arith) (omega arith))
simple-refuses program p S ws always_same = identity-fine Refusal program p S ws (same-refuses S.cells p (drop 1 p)) true (λ e. told (omega arith) (omega arith))
simple-refuses program p S ws once_same = identity-fine Refusal program p S ws (same-refuses S.cells p (drop 1 p)) false (λ e. told (omega arith) (omega arith))
simple-refuses program p S ws branch = ends-stop two
simple-refuses program p S ws loop = ends-stop two
simple-refuses program p S ws no_verb = ends-stop two
