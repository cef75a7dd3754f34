-- Where 7, 8 and 9 stand: at a word of the piece that is refused, before its end, and what the number says is there. Assumes nothing.
use mathlib.Core.Path.{◌≡◌, refl, sym, ◌∙◌}
use mathlib.Core.Bool.{Bool, true, false}
use mathlib.Core.List.{List, ◌∷◌}
use Prim.Native.Nat.{ℕ, suc, ◌≤◌, ◌<◌}
use native.Mathlib.Omega.{arith}
use lib.IntN.{ℤ, pos}
use lib.ListN.{length}
use Rattle.words.specs.Answer.{got}
use Rattle.words.proofs.AnswerLaws.{got-inj, step}
use Rattle.tables.specs.declared.Value.{Value}
use Rattle.tables.specs.declared.Kind.{Kind}
use Rattle.tables.specs.Cells.{Cells}
use Rattle.fit.specs.Fit.{Fit}
use Rattle.program.specs.Forms.{expression_depth}
use Rattle.program.specs.Reading.{read_path, read_paths, read_expression, read_parts, read_constraint, read_fields}
use Rattle.program.proofs.LengthLaws.{Part, part-refl, part-drop, part-trans, path-uses, expression-uses, parts-keep, fields_keep}
use Rattle.program.proofs.OpenLaws.{path-opens, operation-opens, paths-open, identity-opens, parts-open, constraint-opens, fields_open}
use Rattle.rules.specs.State.{Fault, refused}
use Rattle.rules.specs.Rules.Expressions.{Holds, holds, Lost, Comes, typed, valued, Meets, m_path, m_left, m_right, m_here, m_one, m_other, Untested, meets, no_boolean}
use Rattle.rules.specs.Rules.Constraints.{PartIs, PartMeets, PartsMeet, ConstraintMeets}
use Rattle.rules.specs.Rules.Identities.{Unsame}
use Rattle.rules.specs.Rules.Statements.{FieldsMeet}
use Rattle.rules.specs.Claims.Answers.{Wrong, path, operator, test, part, side}
use Rattle.rules.proofs.NameLaws.{names-iff}
use Rattle.rules.proofs.EvaluationLaws.{evaluate-complete}
use Rattle.rules.proofs.TypingLaws.{kind-complete}
use Rattle.rules.proofs.FitReads.{way-reads, evaluate-reads, kind-reads}

-- the refusal stands at a word of p, before q, inside C or outside it
pub record Inner (S : Cells) (c : Bool) (p q : List ℤ) (f : Fault) : Type 0 where
  pub at : List ℤ
  pub within : Part p at
  pub before : length q < length at
  pub word : f.word ≡ length at
  pub wrong : Wrong S c f.number at

pub inner-on : {S : Cells} {c : Bool} {r p q t : List ℤ} {f : Fault} → Part r p → length t ≤ length q → Inner S c p q f → Inner S c r t f
inner-on w l x = record { at = x.at; within = part-trans w x.within; before = omega (arith, x.before); word = x.word; wrong = x.wrong }

module _ (S : Cells) (fit : Fit S) where
  -- ---- paths and expressions

  pub lost-inner : {c : Bool} {p q : List ℤ} → Lost S p → read_path p ≡ got q → Inner S c p q (refused 7 p)
  lost-inner {c} {p} {q} l e = record { at = p; within = part-refl p; before = ((path-uses p).good q e).less; word = refl; wrong = path l }

  holds_read : {v : Value} {p q : List ℤ} → Holds S p v q → read_path p ≡ got q
  holds_read (holds {w = w} {p = p} n e) = way-reads S fit p w ((names-iff S p w).1 n)

  comes-read : {c : Bool} {d : ℕ} {k : Kind} {p q : List ℤ} → Comes S c d p k q → read_expression d c p ≡ got q
  comes-read (typed {d = d} {k = k} {p = p} {q = q} w) = kind-reads S fit d p k q (kind-complete w)
  comes-read (valued {d = d} {v = v} {p = p} {q = q} w) = evaluate-reads S fit d p v q (evaluate-complete w)

  pub meets-inner : {c : Bool} {d : ℕ} {p q : List ℤ} {f : Fault} → Meets S c d p f → read_expression d c p ≡ got q → Inner S c p q f
  meets-inner (m_path {c = c} {d = d} {p = p} l) e = inner-on (part-drop 1 (pos 24 ∷ p)) (omega arith) (lost-inner l (sym (path-opens c d p) ∙ e))
  meets-inner {q = q} (m_left {c = c} {d = d} {o = o} {p = p} a b m) e =
      step (read_expression d c p) _ (sym (operation-opens c d o p a b) ∙ e) λ r e1 e2.
      inner-on (part-drop 2 (pos 25 ∷ pos o ∷ p)) ((expression-uses d c r).good q e2).part.short (meets-inner m e1)
  meets-inner {q = q} (m_right {c = c} {d = d} {o = o} {p = p} {q = s} a b x m) e =
      step (read_expression d c p) _ (sym (operation-opens c d o p a b) ∙ e) λ r e1 e2.
      let i : r ≡ s = got-inj (sym e1 ∙ comes-read x) in
      inner-on (part-trans (part-drop 2 (pos 25 ∷ pos o ∷ p)) (rw i at ((expression-uses d c p).good r e1).part)) (omega arith) (meets-inner m (rw i at e2))
  meets-inner {q = q} (m_here {c = c} {d = d} {p = p} u) e = record {
    at = pos 25 ∷ p;
    within = part-refl (pos 25 ∷ p);
    before = ((expression-uses (suc d) c (pos 25 ∷ p)).good q e).less;
    word = refl;
    wrong = operator u;
  }
  meets-inner {q = q} (m_one {d = d} {p = p} l) e =
      step (read_path p) _ (sym (identity-opens d p ∙ paths-open p) ∙ e) λ r e1 e2.
      inner-on (part-drop 1 (pos 26 ∷ p)) ((path-uses r).good q e2).part.short (lost-inner l e1)
  meets-inner {q = q} (m_other {d = d} {p = p} {q = s} h l) e =
      step (read_path p) _ (sym (identity-opens d p ∙ paths-open p) ∙ e) λ r e1 e2.
      let i : r ≡ s = got-inj (sym e1 ∙ holds_read h) in
      inner-on (part-trans (part-drop 1 (pos 26 ∷ p)) (rw i at ((path-uses p).good r e1).part)) (omega arith) (lost-inner l (rw i at e2))

  pub test-inner : {p q : List ℤ} {f : Fault} → Untested S false p p f → read_expression expression_depth false p ≡ got q → Inner S false p q f
  test-inner (meets m) e = meets-inner m e
  test-inner {p} {q} (no_boolean x h) e =
      record { at = p; within = part-refl p; before = ((expression-uses expression_depth false p).good q e).less; word = refl; wrong = test x h }

  -- ---- the parts of C

  part-inner : {p q : List ℤ} {f : Fault} (k : ℕ) → Untested S true (pos k ∷ p) p f → read_expression expression_depth true p ≡ got q → Inner S true (pos k ∷ p) q f
  part-inner {p} k (meets m) e = inner-on (part-drop 1 (pos k ∷ p)) (omega arith) (meets-inner m e)
  part-inner {p} {q} k (no_boolean x h) e =
      record { at = pos k ∷ p; within = part-refl (pos k ∷ p); before = omega (arith, ((expression-uses expression_depth true p).good q e).less); word = refl; wrong = part x h }

  parts-inner : {m : ℕ} {p q : List ℤ} {f : Fault} → PartsMeet S m p f → read_parts m p ≡ got q → Inner S true p q f
  parts-inner {q = q} (PartsMeet.first {m = m} (PartMeets.part {priority = k} {p = p} a b u)) e =
      step (read_expression expression_depth true p) _ (sym (parts-open m k p a b) ∙ e) λ r e1 e2.
      inner-on (part-refl (pos k ∷ p)) ((parts-keep m r).good q e2).short (part-inner k u e1)
  parts-inner {q = q} (PartsMeet.later {m = m} (PartIs.part {priority = k} {p = p} {q = s} a b w t) x) e =
      step (read_expression expression_depth true p) _ (sym (parts-open m k p a b) ∙ e) λ r e1 e2.
      let i : r ≡ s = got-inj (sym e1 ∙ comes-read (typed w)) in
      inner-on (part-trans (part-drop 1 (pos k ∷ p)) (rw i at ((expression-uses expression_depth true p).good r e1).part)) (omega arith) (parts-inner x (rw i at e2))

  pub constraint-inner : {p q : List ℤ} {f : Fault} → ConstraintMeets S p f → read_constraint p ≡ got q → Inner S true p q f
  constraint-inner (ConstraintMeets.constraint {m = m} {p = p} a b x) e = inner-on (part-drop 1 (pos m ∷ p)) (omega arith) (parts-inner x (sym (constraint-opens m p a b) ∙ e))

  -- ---- the fields of a new record

  pub fields-inner : {n : ℕ} (seen : List ℕ) {p q : List ℤ} {f : Fault} → FieldsMeet S n p f → read_fields n seen p ≡ got q → Inner S false p q f
  fields-inner seen {q = q} (FieldsMeet.first {m = m} {label = l} {p = p} h x) e =
      fields_open m l seen p q h e λ k.
      step (read_expression expression_depth false p) _ k λ r e1 e2.
      inner-on (part-drop 1 (pos l ∷ p)) ((fields_keep m (l ∷ seen) r).good q e2).short (meets-inner x e1)
  fields-inner seen {q = q} (FieldsMeet.later {m = m} {label = l} {p = p} {q = s} h w x) e =
      fields_open m l seen p q h e λ k.
      step (read_expression expression_depth false p) _ k λ r e1 e2.
      let i : r ≡ s = got-inj (sym e1 ∙ comes-read (valued w)) in
      inner-on (part-trans (part-drop 1 (pos l ∷ p)) (rw i at ((expression-uses expression_depth false p).good r e1).part)) (omega arith)
      (fields-inner (l ∷ seen) x (rw i at e2))

  -- ---- the sides of an identity

  -- it stands at a side, or both sides differ, which is told at the statement's word
  pub data Sided (word p q : List ℤ) : Fault → Type 0 where
    at_side : {f : Fault} → Inner S false p q f → Sided word p q f
    both-differ : Sided word p q (refused 11 word)

  pub unsame-sided : {word p q : List ℤ} {f : Fault} → Unsame S word p f → read_paths p ≡ got q → Sided word p q f
  unsame-sided {p = p} {q = q} u e = step (read_path p) _ (sym (paths-open p) ∙ e) λ r e1 e2. go u r e1 e2
    where
      go : {word p q : List ℤ} {f : Fault} → Unsame S word p f → (r : List ℤ) → read_path p ≡ got r → read_path r ≡ got q → Sided word p q f
      go {q = q} (Unsame.one_lost {p = p} l) r e1 e2 = at_side (inner-on (part-refl p) ((path-uses r).good q e2).part.short (lost-inner l e1))
      go (Unsame.other_lost {p = p} {q = s} h l) r e1 e2 =
          let i : r ≡ s = got-inj (sym e1 ∙ holds_read h) in
          at_side (inner-on (rw i at ((path-uses p).good r e1).part) (omega arith) (lost-inner l (rw i at e2)))
      go {q = q} (Unsame.one_plain {p = p} h k n) r e1 e2 =
          at_side (record { at = p; within = part-refl p; before = omega (arith, ((path-uses p).good r e1).less, ((path-uses r).good q e2).less); word = refl; wrong = side h n })
      go {q = q} (Unsame.other_plain {p = p} {q = s} h k m n) r e1 e2 =
          let i : r ≡ s = got-inj (sym e1 ∙ holds_read h) in
          at_side (record { at = s; within = rw i at ((path-uses p).good r e1).part; before = ((path-uses s).good q (rw i at e2)).less; word = refl; wrong = side k n })
      go (Unsame.differ h k m n d) r e1 e2 = both-differ
