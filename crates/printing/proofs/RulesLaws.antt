-- Each piece of a program is written as a rule says: the signs that a rule has for its words, and the words behind it are left. Assumes nothing.
use mathlib.Core.Path.{◌≡◌, refl, sym, ap, ◌∙◌}
use mathlib.Core.Bool.{Bool}
use mathlib.Core.List.{List, [], ◌∷◌, ◌++◌, append-nil, append_assoc}
use Prim.Native.Nat.{ℕ, zero, suc, ◌≤◌, ◌<◌}
use native.Mathlib.Omega.{arith}
use native.Mathlib.Decide.{dec_le}
use borrow.Author.Tests.{le-leb, lt-leb}
use lib.IntN.{ℤ, pos}
use lib.ListN.{drop}
use Rattle.words.specs.Words.{number_of, number_at}
use Rattle.words.proofs.Laws.{number-first, number-drop}
use Rattle.program.specs.Forms.{expression_depth}
use Rattle.program.specs.declared.Form.{Form}
use Rattle.program.specs.declared.Form.TheVariants.{Nil as a_nil, False as a_false, True as a_true, Integer as an_integer, Path as a_path, Operation as an_operation, Identity as an_identity}
use Rattle.program.specs.Grammar as Grammar
use Rattle.program.proofs.FormLaws.{number_of_form, form-is}
use Rattle.text.specs.Reading.{level_of}
use Rattle.text.proofs.LevelLaws.{level-is}
use Rattle.printing.specs.Signs.{Sign, variable, label, integer, space, operator_text, priority_text}
use Rattle.printing.specs.Signs.{true_sign, false_sign, nil_sign}
use Rattle.printing.specs.Signs.{colon_sign, comma_sign, dot_sign, open_bracket_sign, close_bracket_sign, identical_sign, beside_sign}
use Rattle.printing.specs.Printing.{Printed, row_text, labels_text, path_text, sides_text, operands_text, operation_text, form_text, expression_text, part_text, field_text}
use Rattle.printing.specs.Rules as Rules

-- a piece: its signs, their rule, and that the definition writes them whatever words follow
pub record Said (Rule : List Sign → Type 0) (text : List ℤ → Printed) (ws : List ℤ) : Type 0 where
  pub signs : List Sign
  pub rule : Rule signs
  pub says : (r : List ℤ) → text (ws ++ r) ≡ (signs, r)

pub number-second : (u v : ℤ) (q : List ℤ) → number_at (u ∷ v ∷ q) 1 ≡ number_of v
number-second u v q = sym (number-drop (u ∷ v ∷ q) 1 0) ∙ number-first v q

-- ---- paths

pub labels-write : {n : ℕ} {ws : List ℤ} {ss : List Sign} → Rules.Labels n ws ss → (r : List ℤ) → (labels_text n (ws ++ r) ≡ ss) × (drop n (ws ++ r) ≡ r)
unfolding labels_text
labels-write Rules.Labels.none r = (refl, refl)
labels-write (Rules.Labels.one l) r = (rw (number-first, (labels-write l r).0), (labels-write l r).1)

pub path-writes : {ws : List ℤ} {ss : List Sign} → Rules.Path ws ss → (r : List ℤ) → path_text (ws ++ r) ≡ (ss, r)
unfolding path_text
path-writes (Rules.Path.path {x = x} {n = n} {ws = ws} l) r =
    rw (number-first, number-second (pos x) (pos n) (ws ++ r), (labels-write l r).0, (labels-write l r).1)

pub sides-write : {a b : List ℤ} {sa sb : List Sign} → Rules.Path a sa → Rules.Path b sb
    → (r : List ℤ) → sides_text ((a ++ b) ++ r) ≡ (sa ++ space ∷ identical_sign ∷ space ∷ sb, r)
unfolding sides_text
sides-write {a} {b} x y r = rw (append_assoc a b r, path-writes x (b ++ r), path-writes y r)

labels-rule : {n : ℕ} {ws : List ℤ} → Grammar.Labels n ws → (ss : List Sign) × Rules.Labels n ws ss
labels-rule Grammar.Labels.none = ([], Rules.Labels.none)
labels-rule (Grammar.Labels.one {l = l} h x) = (dot_sign ∷ label l ∷ (labels-rule x).0, Rules.Labels.one (labels-rule x).1)

pub path-rule : {ws : List ℤ} → Grammar.Path ws → (ss : List Sign) × Rules.Path ws ss
path-rule (Grammar.Path.path {x = x} h k l) = (variable x ∷ (labels-rule l).0, Rules.Path.path (labels-rule l).1)

-- ---- expressions

pub form-text : (d low : ℕ) (f : Form) (q : List ℤ) → number_of_form f < 27
    → expression_text (suc d) low (pos (number_of_form f) ∷ q) ≡ form_text (λ l p. expression_text d l p) low (pos (number_of_form f) ∷ q) f
unfolding expression_text
form-text d low f q h = rw (number-first, form-is f h)

pub operands-write : (d k l : ℕ) (a b : List ℤ) {sa sb : List Sign}
    → ((r : List ℤ) → expression_text d l (a ++ r) ≡ (sa, r)) → ((r : List ℤ) → expression_text d (suc l) (b ++ r) ≡ (sb, r))
    → (r : List ℤ) → operands_text (λ m p. expression_text d m p) k l ((a ++ b) ++ r) ≡ (sa ++ operator_text k ++ sb, r)
unfolding operands_text
operands-write d k l a b {sa} {sb} x y r = rw (append_assoc a b r, x (b ++ r), y r, append_assoc sa (operator_text k) sb)

pub operation-text : (d low o : ℕ) (q : List ℤ) → expression_text (suc d) low (pos 25 ∷ pos o ∷ q) ≡ operation_text (λ m p. expression_text d m p) low (pos o ∷ q)
unfolding form_text
operation-text d low o q = form-text d low an_operation (pos o ∷ q) (omega arith)

module _ (d low o l : ℕ) (a b : List ℤ) (e : level_of o ≡ l) {sa sb : List Sign}
    (x : (r : List ℤ) → expression_text d l (a ++ r) ≡ (sa, r)) (y : (r : List ℤ) → expression_text d (suc l) (b ++ r) ≡ (sb, r)) where
  pub operation-writes : low ≤ l → (r : List ℤ) → expression_text (suc d) low ((pos 25 ∷ pos o ∷ a ++ b) ++ r) ≡ (sa ++ operator_text o ++ sb, r)
  unfolding operation_text
  operation-writes h r = operation-text d low o ((a ++ b) ++ r) ∙ rw (number-first, e, le-leb low l h, operands-write d o l a b x y r)

  pub brackets-write : l < low
      → (r : List ℤ) → expression_text (suc d) low ((pos 25 ∷ pos o ∷ a ++ b) ++ r) ≡ (open_bracket_sign ∷ (sa ++ operator_text o ++ sb) ++ close_bracket_sign ∷ [], r)
  unfolding operation_text
  brackets-write h r = operation-text d low o ((a ++ b) ++ r) ∙ rw (number-first, e, lt-leb low l h, operands-write d o l a b x y r)

abbrev pub ExpressionSaid : Bool → ℕ → ℕ → List ℤ → Type 0
ExpressionSaid in_c d low ws = Said (Rules.Expression in_c low ws) (λ p. expression_text d low p) ws

operation-said : {in_c : Bool} {o : ℕ} {a b : List ℤ} (d low : ℕ) → 1 ≤ o → o ≤ 11 → ExpressionSaid in_c d (level_of o) a → ExpressionSaid in_c d (suc (level_of o)) b
    → ExpressionSaid in_c (suc d) low (pos 25 ∷ pos o ∷ a ++ b)
operation-said {in_c} {o} {a} {b} d low h k x y =
    elim (dec_le low (level_of o)) [
      | yes c ↦ record {
        signs = x.signs ++ operator_text o ++ y.signs;
        rule = Rules.Expression.operation h k (level-is o h k) c x.rule y.rule;
        says = operation-writes d low o (level_of o) a b refl x.says y.says c;
      }
      | no c ↦ let m : level_of o < low = omega arith in record {
        signs = open_bracket_sign ∷ (x.signs ++ operator_text o ++ y.signs) ++ close_bracket_sign ∷ [];
        rule = Rules.Expression.brackets h k (level-is o h k) m x.rule y.rule;
        says = brackets-write d low o (level_of o) a b refl x.says y.says m;
      }
    ]

pub expression-said : {in_c : Bool} {d : ℕ} {ws : List ℤ} → Grammar.Expression in_c d ws → (low : ℕ) → ExpressionSaid in_c d low ws
unfolding form_text
expression-said (Grammar.Expression.nil {d = d}) low =
    record { signs = nil_sign ∷ []; rule = Rules.Expression.nil; says = λ r. form-text d low a_nil r (omega arith) }
expression-said (Grammar.Expression.no {d = d}) low =
    record { signs = false_sign ∷ []; rule = Rules.Expression.no; says = λ r. form-text d low a_false r (omega arith) }
expression-said (Grammar.Expression.yes {d = d}) low =
    record { signs = true_sign ∷ []; rule = Rules.Expression.yes; says = λ r. form-text d low a_true r (omega arith) }
expression-said (Grammar.Expression.integer {d = d} {w = w}) low =
    record { signs = integer w ∷ []; rule = Rules.Expression.number; says = λ r. form-text d low an_integer (w ∷ r) (omega arith) }
expression-said (Grammar.Expression.at {d = d} {a = a} x) low =
    let i = path-rule x in
    record { signs = i.0; rule = Rules.Expression.at i.1; says = λ r. form-text d low a_path (a ++ r) (omega arith) ∙ path-writes i.1 r }
expression-said (Grammar.Expression.operation {d = d} {o = o} h k x y) low = operation-said d low h k (expression-said x (level_of o)) (expression-said y (suc (level_of o)))
expression-said (Grammar.Expression.identity {d = d} {a = a} {b = b} c x y) low =
    let i = path-rule x in
    let j = path-rule y in
    record {
      signs = i.0 ++ space ∷ identical_sign ∷ space ∷ j.0;
      rule = Rules.Expression.identity c i.1 j.1;
      says = λ r. form-text d low an_identity ((a ++ b) ++ r) (omega arith) ∙ sides-write i.1 j.1 r;
    }

-- ---- rows

-- n pieces in a row: the same, with any signs before the first
pub record RowSaid (Rule : List Sign → Type 0) (sep : List Sign) (one : List ℤ → Printed) (n : ℕ) (ws : List ℤ) : Type 0 where
  pub signs : List Sign
  pub rule : Rule signs
  pub says : (lead : List Sign) (r : List ℤ) → row_text lead sep one n (ws ++ r) ≡ (lead ++ signs, r)

pub row_last : (lead sep : List Sign) (one : List ℤ → Printed) (ws : List ℤ) {ss : List Sign}
    → ((r : List ℤ) → one (ws ++ r) ≡ (ss, r)) → (r : List ℤ) → row_text lead sep one 1 (ws ++ r) ≡ (lead ++ ss, r)
unfolding row_text
row_last lead sep one ws {ss} x r = rw (x r, append-nil ss)

pub row_more : (lead sep : List Sign) (one : List ℤ → Printed) (n : ℕ) (ws vs : List ℤ) (st : List Sign) {ss : List Sign}
    → ((r : List ℤ) → one (ws ++ r) ≡ (ss, r)) → ((r : List ℤ) → row_text sep sep one n (vs ++ r) ≡ (sep ++ st, r))
    → (r : List ℤ) → row_text lead sep one (suc n) ((ws ++ vs) ++ r) ≡ (lead ++ (ss ++ (sep ++ st)), r)
unfolding row_text
row_more lead sep one n ws vs st {ss} x y r = rw (append_assoc ws vs r, x (vs ++ r)) (ap (λ (a : Printed). (lead ++ (ss ++ a.0), a.1)) (y r))

-- ---- constraints and fields

part-writes : (k : ℕ) (e : List ℤ) {se : List Sign} → ((r : List ℤ) → expression_text expression_depth 1 (e ++ r) ≡ (se, r))
    → (r : List ℤ) → part_text ((pos k ∷ e) ++ r) ≡ (priority_text k ++ se, r)
unfolding part_text
part-writes k e x r = rw (number-first, x r)

pub parts_said : (m : ℕ) {ws : List ℤ} → Grammar.Parts (suc m) ws → RowSaid (Rules.Parts (suc m) ws) (space ∷ beside_sign ∷ space ∷ []) part_text (suc m) ws
parts_said zero (Grammar.Parts.one {k = k} {e = e} h l x Grammar.Parts.none) =
    let i = expression-said x 1 in
    rw (append-nil e) record {
      signs = priority_text k ++ i.signs;
      rule = Rules.Parts.one h l i.rule;
      says = λ lead r. row_last lead (space ∷ beside_sign ∷ space ∷ []) part_text (pos k ∷ e) (part-writes k e i.says) r;
    }
parts_said (suc m) (Grammar.Parts.one {k = k} {e = e} {ps = ps} h l x y) =
    let i = expression-said x 1 in
    let j = parts_said m y in
    record {
      signs = (priority_text k ++ i.signs) ++ space ∷ beside_sign ∷ space ∷ j.signs;
      rule = Rules.Parts.more h l i.rule j.rule;
      says =
          λ lead r. row_more lead (space ∷ beside_sign ∷ space ∷ []) part_text (suc m) (pos k ∷ e) ps j.signs (part-writes k e i.says) (j.says (space ∷ beside_sign ∷ space ∷ [])) r;
    }

field-writes : (l : ℕ) (e : List ℤ) {se : List Sign} → ((r : List ℤ) → expression_text expression_depth 1 (e ++ r) ≡ (se, r))
    → (r : List ℤ) → field_text ((pos l ∷ e) ++ r) ≡ (label l ∷ colon_sign ∷ space ∷ se, r)
unfolding field_text
field-writes l e x r = rw (number-first, x r)

pub fields-said : (n : ℕ) {seen : List ℕ} {ws : List ℤ} → Grammar.Fields (suc n) seen ws → RowSaid (Rules.Fields (suc n) ws) (comma_sign ∷ space ∷ []) field_text (suc n) ws
fields-said zero (Grammar.Fields.one {l = l} {e = e} h s x Grammar.Fields.none) =
    let i = expression-said x 1 in
    rw (append-nil e) record {
      signs = label l ∷ colon_sign ∷ space ∷ i.signs;
      rule = Rules.Fields.one i.rule;
      says = λ lead r. row_last lead (comma_sign ∷ space ∷ []) field_text (pos l ∷ e) (field-writes l e i.says) r;
    }
fields-said (suc n) (Grammar.Fields.one {l = l} {e = e} {fs = fs} h s x y) =
    let i = expression-said x 1 in
    let j = fields-said n y in
    record {
      signs = (label l ∷ colon_sign ∷ space ∷ i.signs) ++ comma_sign ∷ space ∷ j.signs;
      rule = Rules.Fields.more i.rule j.rule;
      says = λ lead r. row_more lead (comma_sign ∷ space ∷ []) field_text (suc n) (pos l ∷ e) fs j.signs (field-writes l e i.says) (j.says (comma_sign ∷ space ∷ [])) r;
    }
