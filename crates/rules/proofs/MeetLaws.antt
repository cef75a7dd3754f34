-- Expressions that are refused: `evaluate` stops with 7, 8 or 9 exactly where the rules say so. Assumes nothing.
use mathlib.Core.Path.{◌≡◌, sym, ◌∙◌}
use mathlib.Core.Bool.{false, true≢false}
use mathlib.Core.List.{List, ◌∷◌}
use Prim.Native.Nat.{ℕ, zero, suc, ◌≤◌}
use native.Mathlib.Omega.{arith}
use lib.IntN.{ℤ, pos}
use lib.ListN.{drop}
use Rattle.words.specs.Words.{number_at}
use Rattle.words.specs.Answer.{got, stop}
use Rattle.words.proofs.AnswerLaws.{stop-inj, stop≢got, either}
use Rattle.tables.specs.declared.Value.{Value}
use Rattle.tables.specs.declared.Kind.{Kind}
use Rattle.tables.specs.Cells.{Cells}
use Rattle.tables.proofs.SearchLaws.{cases}
use Rattle.program.specs.Forms.{operators, form_of}
use Rattle.program.specs.declared.Form.{Form}
use Rattle.program.specs.declared.Form.TheVariants.{Nil as a_nil, False as a_false, True as a_true, Integer as an_integer, Path as a_path, Operation as an_operation, Identity as an_identity, Unknown as no_form}
use Rattle.program.specs.Reading.{any_word}
use Rattle.program.proofs.NumberLaws.{number-of}
use Rattle.program.proofs.FormLaws.{number_of_form}
use Rattle.rules.specs.State.{Fault, Res, reads}
use Rattle.rules.specs.Paths.{value_at}
use Rattle.rules.specs.Evaluation.{kind_of, op_of, takes, apply, at, evaluate_form, evaluate}
use Rattle.rules.specs.Rules.Operators.{Gives, Makes}
use Rattle.rules.specs.Rules.Expressions.{Within, valued, Meets, m_path, m_left, m_right, m_here, m_one, m_other, kinds, range}
use Rattle.rules.proofs.WordSteps.{form-words, apart}
use Rattle.rules.proofs.NameLaws.{holds-sound, holds-complete}
use Rattle.rules.proofs.OperatorLaws.{gives-sound, gives-operator, gives-complete, makes-sound, makes-complete}
use Rattle.rules.proofs.EvaluationLaws.{evaluate-sound, evaluate-opens, evaluate-complete}
use Rattle.rules.proofs.KindLaws.{apply-nine}
use Rattle.rules.proofs.StopLaws.{refused-with, stops_then, stops_at, stopped, at-stop, unread, stopped-number}
use Rattle.rules.proofs.LostLaws.{lost-sound, lost-complete}

-- ---- an operator refuses with 8 exactly where it does not take the kinds, and else with 9 exactly where it makes no value

module _ (o : ℕ) (a b : Value) (least : 1 ≤ o) (most : o ≤ operators) where
  pub apply-stop {ℓ} : {X : Type ℓ} {n : ℕ} → apply (op_of o) a b ≡ stop n
      → (8 ≡ n → ((k : Kind) → Gives o (kind_of a) (kind_of b) k → ⊥) → X)
      → (9 ≡ n → (k : Kind) → Gives o (kind_of a) (kind_of b) k → ((v : Value) → Makes o a b v → ⊥) → X) → X
  unfolding apply
  apply-stop {n = n} e eight nine = cases (takes (op_of o) (kind_of a) (kind_of b))
      (λ c. nine (sym (apply-nine (op_of o) a b c n e)) _ (gives-sound (kind_of a) (kind_of b) o least most c) (λ v m. stop≢got (sym e ∙ makes-complete m)))
      (λ c. eight (stop-inj (rw c at e)) (λ k g. true≢false (sym (gives-complete g).0 ∙ c)))

  pub no-kind-stops : ((k : Kind) → Gives o (kind_of a) (kind_of b) k → ⊥) → apply (op_of o) a b ≡ stop 8
  unfolding apply
  no-kind-stops never = cases (takes (op_of o) (kind_of a) (kind_of b))
      (λ c. absurd (never _ (gives-sound (kind_of a) (kind_of b) o least most c)))
      (λ c. rw c)

  pub no-value-stops : {k : Kind} → Gives o (kind_of a) (kind_of b) k → ((v : Value) → Makes o a b v → ⊥) → apply (op_of o) a b ≡ stop 9
  no-value-stops g never = either (apply (op_of o) a b)
      (λ v e. absurd (never v (makes-sound v a b o least most e)))
      (λ n e. let q : n ≡ 9 = apply-nine (op_of o) a b (gives-complete g).0 n e in rw (← q) e)

-- ---- where the definition stops, the rules refuse

module _ (S : Cells) (d : ℕ) (go : List ℤ → Res (Value × List ℤ)) (good : (q : List ℤ) (x : Value × List ℤ) → go q ≡ got x → Within S d q x.0 x.1)
    (bad : (q : List ℤ) (f : Fault) → go q ≡ stop f → (f.number ≡ 2 → ⊥) → Meets S false d q f) where
  form-meets : (r : Form) (p : List ℤ) (f : Fault) → evaluate_form go S (pos (number_of_form r) ∷ p) r ≡ stop f → (f.number ≡ 2 → ⊥)
      → Meets S false (suc d) (pos (number_of_form r) ∷ p) f
  unfolding evaluate_form
  form-meets a_nil p f e two = stop≢got (sym e)
  form-meets a_false p f e two = stop≢got (sym e)
  form-meets a_true p f e two = stop≢got (sym e)
  form-meets an_integer p f e two = stopped (reads (any_word p)) _ e (λ e1. absurd (two (unread (any_word p) e1))) (λ q e1 k1. stop≢got (sym k1))
  form-meets a_path p f e two = let l = lost-sound S p f e two in rw (← l.0) (m_path l.1)
  form-meets an_operation p f e two =
      stopped-number 1 operators p _ (omega arith) e two λ o q a b s k.
      rw s
      (stopped (go q) _ k (λ e1. m_left a b (bad q f e1 two)) λ y e1 k1.
      stopped (go y.1) _ k1 (λ e2. m_right a b (valued (good q y e1)) (bad y.1 f e2 two)) λ z e2 k2.
      stopped (at (pos 25 ∷ p) (apply (op_of o) y.0 z.0)) _ k2
      (λ e3. at-stop (pos 25 ∷ p) (apply (op_of o) y.0 z.0) e3 λ n e4 w.
      apply-stop o y.0 z.0 a b e4
      (λ i never. rw (← w, ← i, s) (m_here (kinds a b (valued (good q y e1)) (valued (good y.1 z e2)) never)))
      (λ i c g never. rw (← w, ← i, s) (m_here (range (good q y e1) (good y.1 z e2) g never))))
      (λ v e3 k3. stop≢got (sym k3)))
  form-meets an_identity p f e two =
      stopped (value_at S p) _ e (λ e1. let l = lost-sound S p f e1 two in rw (← l.0) (m_one l.1)) λ y e1 k1.
      stopped (value_at S y.1) _ k1
      (λ e2. let l = lost-sound S y.1 f e2 two in rw (← l.0) (m_other (holds-sound S p y e1) l.1))
      (λ z e2 k2. stop≢got (sym k2))
  form-meets no_form p f e two = absurd (two (refused-with 2 (pos 27 ∷ p) e))

  words-meet : (p p' : List ℤ) (r : Form) (f : Fault) → p ≡ pos (number_of_form r) ∷ p' → evaluate_form go S p r ≡ stop f → (f.number ≡ 2 → ⊥) → Meets S false (suc d) p f
  words-meet p p' r f w e two = rw w (form-meets r p' f (rw w at e) two)

pub meets-sound : (S : Cells) (d : ℕ) (p : List ℤ) (f : Fault) → evaluate d S p ≡ stop f → (f.number ≡ 2 → ⊥) → Meets S false d p f
unfolding evaluate evaluate_form
meets-sound S zero p f e two = absurd (two (refused-with 2 p e))
meets-sound S (suc d) p f e two =
    words-meet S d (λ q. evaluate d S q) (λ q x h. evaluate-sound S d q x h) (λ q g h t. meets-sound S d q g h t) p (drop 1 p) (form_of (number_at p 0)) f
    (form-words p (λ q. absurd (two (refused-with 2 p (rw q at e))))) e two

-- ---- where the rules refuse, the definition stops

pub meets-complete : {S : Cells} {d : ℕ} {p : List ℤ} {f : Fault} → Meets S false d p f → evaluate d S p ≡ stop f
unfolding evaluate_form
meets-complete {S} (m_path {d = d} {p = p} l) = rw (evaluate-opens S d a_path p (apart λ z. omega arith)) (lost-complete S l)
meets-complete {S} (m_left {d = d} {o = o} {p = p} a b m) =
    rw (evaluate-opens S d an_operation (pos o ∷ p) (apart λ z. omega arith), number-of 1 operators o p a b) (stops_then _ (meets-complete m))
meets-complete {S} (m_right {d = d} {o = o} {p = p} a b (valued l) m) =
    rw (evaluate-opens S d an_operation (pos o ∷ p) (apart λ z. omega arith), number-of 1 operators o p a b, evaluate-complete l) (stops_then _ (meets-complete m))
meets-complete {S} (m_here (kinds {d = d} {o = o} {p = p} a b (valued {v = x} l) (valued {v = y} r) never)) =
    rw (evaluate-opens S d an_operation (pos o ∷ p) (apart λ z. omega arith), number-of 1 operators o p a b, evaluate-complete l, evaluate-complete r)
    (stops_then _ (stops_at (pos 25 ∷ pos o ∷ p) (no-kind-stops o x y a b never)))
meets-complete {S} (m_here (range {d = d} {o = o} {a = x} {b = y} {p = p} l r g never)) =
    rw (evaluate-opens S d an_operation (pos o ∷ p) (apart λ z. omega arith), number-of 1 operators o p (gives-operator g).0 (gives-operator g).1, evaluate-complete l, evaluate-complete r)
    (stops_then _ (stops_at (pos 25 ∷ pos o ∷ p) (no-value-stops o x y (gives-operator g).0 (gives-operator g).1 g never)))
meets-complete {S} (m_one {d = d} {p = p} l) = rw (evaluate-opens S d an_identity p (apart λ z. omega arith)) (stops_then _ (lost-complete S l))
meets-complete {S} (m_other {d = d} {p = p} h l) = rw (evaluate-opens S d an_identity p (apart λ z. omega arith), holds-complete S h) (stops_then _ (lost-complete S l))
