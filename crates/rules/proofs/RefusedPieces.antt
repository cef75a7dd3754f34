-- Fields, identities, tests of if and while, and room for a position: by the definitions exactly as by the rules. Assumes nothing.
use mathlib.Core.Path.{◌≡◌, refl, sym, ap, ◌∙◌}
use mathlib.Core.Logic.{◌↔◌}
use mathlib.Core.Bool.{Bool, true, false, true≢false}
use mathlib.Core.List.{List}
use Prim.Native.Nat.{ℕ, zero, suc, ◌-◌}
use native.Mathlib.Omega.{arith}
use borrow.Author.Tests.{lt-ltb, ltb-true}
use lib.Dec.{ltb}
use lib.IntN.{ℤ}
use Rattle.words.specs.Answer.{got, stop}
use Rattle.words.proofs.AnswerLaws.{got-inj, stop≢got, step, tested}
use Rattle.tables.specs.declared.Value.{Value}
use Rattle.tables.specs.declared.Value.TheVariants.{Nil, Bool as Truth, Int, Ref}
use Rattle.tables.specs.declared.Sort.{Sort}
use Rattle.tables.specs.Sizes.{labels}
use Rattle.tables.specs.Cells.{Cells}
use Rattle.tables.specs.Kept.{most_kept, kept_count, is_kept}
use Rattle.tables.proofs.SearchLaws.{cases}
use Rattle.program.specs.Forms.{expression_depth}
use Rattle.program.proofs.NumberLaws.{number-of}
use Rattle.rules.specs.State.{Fault, refused}
use Rattle.rules.specs.Paths.{value_at}
use Rattle.rules.specs.Evaluation.{kind_of, a_bool, bool_of, same, evaluate}
use Rattle.rules.specs.Identities.{is_node, same_now}
use Rattle.rules.specs.Statements.{has_room, keep, field_words}
use Rattle.rules.specs.Running.{test}
use Rattle.rules.specs.Rules.Expressions.{Within, valued, Untested, meets, no_boolean}
use Rattle.rules.specs.Rules.Identities.{Unsame}
use Rattle.rules.specs.Rules.Statements.{FieldsMeet, first, later, Keeps, again, added}
use Rattle.rules.proofs.AcceptanceLaws.{fails}
use Rattle.rules.proofs.NameLaws.{holds-sound, holds-complete}
use Rattle.rules.proofs.OperatorLaws.{same_false, cell-differs}
use Rattle.rules.proofs.EvaluationLaws.{evaluate-sound, evaluate-complete}
use Rattle.rules.proofs.TieLaws.{node-is, node-not}
use Rattle.rules.proofs.StopLaws.{stops_then, stopped, failed, failed-last, stopped-number}
use Rattle.rules.proofs.PartMeetLaws.{no_bool}
use Rattle.rules.proofs.LostLaws.{lost-sound, lost-complete}
use Rattle.rules.proofs.MeetLaws.{meets-sound, meets-complete}

-- ---- the fields of a new record

pub fields-meet-sound : (S : Cells) (n : ℕ) (p : List ℤ) (f : Fault) → field_words n S p ≡ stop f → (f.number ≡ 2 → ⊥) → FieldsMeet S n p f
unfolding field_words
fields-meet-sound S zero p f e two = stop≢got (sym e)
fields-meet-sound S (suc n) p f e two =
    stopped-number 0 (labels - 1) p _ (omega arith) e two λ l q a b s k.
    rw s
    (stopped (evaluate expression_depth S q) _ k (λ e1. first {label = l} (omega arith) (meets-sound S expression_depth q f e1 two)) λ x e1 k1.
    stopped (field_words n S x.1) _ k1
    (λ e2. later {label = l} (omega arith) (evaluate-sound S expression_depth q x e1) (fields-meet-sound S n x.1 f e2 two))
    (λ more e2 k2. stop≢got (sym k2)))

pub fields-meet-complete : {S : Cells} {n : ℕ} {p : List ℤ} {f : Fault} → FieldsMeet S n p f → field_words n S p ≡ stop f
unfolding field_words
fields-meet-complete (first {label = l} {p = p} h m) = rw (number-of 0 (labels - 1) l p (omega arith) (omega arith)) (stops_then _ (meets-complete m))
fields-meet-complete (later {label = l} {p = p} h w m) =
    rw (number-of 0 (labels - 1) l p (omega arith) (omega arith), evaluate-complete w) (stops_then _ (fields-meet-complete m))

-- ---- an identity

module _ (S : Cells) (word p : List ℤ) where
  pub unsame-sound : (f : Fault) → same_now S word p ≡ stop f → (f.number ≡ 2 → ⊥) → Unsame S word p f
  unfolding same_now
  unsame-sound f e two =
      stopped (value_at S p) _ e (λ e1. let l = lost-sound S p f e1 two in rw (← l.0) (Unsame.one_lost l.1)) λ v e1 k1.
      stopped (value_at S v.1) _ k1 (λ e2. let l = lost-sound S v.1 f e2 two in rw (← l.0) (Unsame.other_lost (holds-sound S p v e1) l.1)) λ w e2 k2.
      failed (refused 8 p) (is_node v.0) _ k2
      (λ c i. rw (← i) (Unsame.one_plain (holds-sound S p v e1) (holds-sound S v.1 w e2) ((node-not v.0).0 c))) λ c k3.
      failed (refused 8 v.1) (is_node w.0) _ k3
      (λ d i. rw (← i) (Unsame.other_plain (holds-sound S p v e1) (holds-sound S v.1 w e2) ((node-is v.0).0 c) ((node-not w.0).0 d))) λ d k4.
      failed-last (refused 11 word) (same v.0 w.0) k4
      (λ s i. rw (← i) (Unsame.differ (holds-sound S p v e1) (holds-sound S v.1 w e2) ((node-is v.0).0 c) ((node-is w.0).0 d) (same_false v.0 w.0 s)))

  pub unsame-complete : {f : Fault} → Unsame S word p f → same_now S word p ≡ stop f
  unfolding same_now
  unsame-complete (Unsame.one_lost l) = stops_then _ (lost-complete S l)
  unsame-complete (Unsame.other_lost h l) = rw (holds-complete S h) (stops_then _ (lost-complete S l))
  unsame-complete (Unsame.one_plain {v = v} a b c) = rw (holds-complete S a, holds-complete S b, (node-not v).1 c)
  unsame-complete (Unsame.other_plain {v = v} {w = w} a b c d) = rw (holds-complete S a, holds-complete S b, (node-is v).1 c, (node-not w).1 d)
  unsame-complete (Unsame.differ {v = v} {w = w} a b c d e) =
      rw (holds-complete S a, holds-complete S b, (node-is v).1 c, (node-is w).1 d, cell-differs v w e)

-- ---- the test of an if or a while

a-truth : (v : Value) → a_bool (kind_of v) ≡ true → v ≡ Truth (bool_of v)
a-truth Nil e = absurd (true≢false (sym e))
a-truth (Truth b) e = refl
a-truth (Int n) e = absurd (true≢false (sym e))
a-truth (Ref r) e = absurd (true≢false (sym e))

module _ (S : Cells) (p : List ℤ) where
  pub test-rule : (b : Bool) → (test S p ≡ got b) ↔ ((q : List ℤ) × Within S expression_depth p (Truth b) q)
  unfolding test
  test-rule b = (to, λ x. rw (evaluate-complete x.1))
    where
      to : test S p ≡ got b → (q : List ℤ) × Within S expression_depth p (Truth b) q
      to e =
          step (evaluate expression_depth S p) _ e λ x e1 k1.
          tested (refused 8 p) (a_bool (kind_of x.0)) _ k1 λ c k2.
          (x.1, rw (← got-inj k2, ← a-truth x.0 c) (evaluate-sound S expression_depth p x e1))

  pub untested-sound : (f : Fault) → test S p ≡ stop f → (f.number ≡ 2 → ⊥) → Untested S false p p f
  unfolding test
  untested-sound f e two =
      stopped (evaluate expression_depth S p) _ e (λ e1. meets (meets-sound S expression_depth p f e1 two)) λ x e1 k1.
      failed (refused 8 p) (a_bool (kind_of x.0)) _ k1
      (λ c i. rw (← i) (no_boolean (valued (evaluate-sound S expression_depth p x e1)) (λ q. true≢false (sym (ap a_bool q) ∙ c))))
      (λ c k2. stop≢got (sym k2))

  pub untested-complete : {f : Fault} → Untested S false p p f → test S p ≡ stop f
  unfolding test
  untested-complete (meets m) = stops_then _ (meets-complete m)
  untested-complete (no_boolean (valued {v = v} w) h) = rw (evaluate-complete w, no_bool (kind_of v) h)

-- ---- a position that is kept

module _ (kept : List ℤ) (s : Sort) (position : ℕ) where
  pub keeps-sound : has_room kept s position ≡ true → Keeps kept s position (keep kept s position)
  unfolding has_room keep
  keeps-sound e = cases (is_kept kept s position)
      (λ c. rw c (again c))
      (λ c. let r : ltb (kept_count kept s) (most_kept s) ≡ true = rw c at e in rw c (added c (ltb-true (kept_count kept s) (most_kept s) r)))

  pub keeps-room : {c : List ℤ} → Keeps kept s position c → has_room kept s position ≡ true
  unfolding has_room
  keeps-room (again e) = rw e
  keeps-room (added e l) = rw (e, lt-ltb (kept_count kept s) (most_kept s) l)

  pub keeps-is : {c : List ℤ} → Keeps kept s position c → keep kept s position ≡ c
  unfolding keep
  keeps-is (again e) = rw e
  keeps-is (added e l) = rw e

  -- there is room where it can be kept
  pub room-iff : (has_room kept s position ≡ true) ↔ ((after : List ℤ) × Keeps kept s position after)
  room-iff = (λ e. (keep kept s position, keeps-sound e), λ x. keeps-room x.1)

  pub full-iff : (has_room kept s position ≡ false) ↔ ((after : List ℤ) → Keeps kept s position after → ⊥)
  full-iff = (λ e c k. true≢false (sym (keeps-room k) ∙ e), λ never. fails (has_room kept s position) (λ t. never _ (keeps-sound t)))
