-- Expressions inside C that are refused: `kind` stops with 7 or 8 exactly where the rules say so. Assumes nothing.
use mathlib.Core.Path.{◌≡◌, sym, ◌∙◌}
use mathlib.Core.Bool.{true, true≢false}
use mathlib.Core.List.{List, ◌∷◌}
use Prim.Native.Nat.{ℕ, zero, suc, ◌≤◌}
use native.Mathlib.Omega.{arith}
use lib.IntN.{ℤ, pos}
use lib.ListN.{drop}
use Rattle.words.specs.Words.{number_at}
use Rattle.words.specs.Answer.{got, stop, want}
use Rattle.words.proofs.AnswerLaws.{stop-inj, stop≢got}
use Rattle.tables.specs.Cells.{Cells}
use Rattle.tables.specs.declared.Kind.{Kind}
use Rattle.tables.proofs.SearchLaws.{cases}
use Rattle.program.specs.Forms.{operators, form_of}
use Rattle.program.specs.declared.Form.{Form}
use Rattle.program.specs.declared.Form.TheVariants.{Nil as a_nil, False as a_false, True as a_true, Integer as an_integer, Path as a_path, Operation as an_operation, Identity as an_identity, Unknown as no_form}
use Rattle.program.specs.Reading.{any_word}
use Rattle.program.proofs.NumberLaws.{number-of}
use Rattle.program.proofs.FormLaws.{number_of_form}
use Rattle.rules.specs.State.{Fault, Res, reads}
use Rattle.rules.specs.Paths.{value_at}
use Rattle.rules.specs.Evaluation.{op_of, takes, at, kind_form, kind}
use Rattle.rules.specs.Rules.Operators.{Gives}
use Rattle.rules.specs.Rules.Expressions.{KindWithin, typed, Meets, m_path, m_left, m_right, m_here, kinds}
use Rattle.rules.proofs.WordSteps.{form-words, apart}
use Rattle.rules.proofs.OperatorLaws.{gives-sound, gives-complete}
use Rattle.rules.proofs.TypingLaws.{kind-sound, kind-opens, kind-complete}
use Rattle.rules.proofs.StopLaws.{refused-with, stops_then, stops-on, stops_at, stopped, stopped-on, at-stop, unread, stopped-number}
use Rattle.rules.proofs.LostLaws.{lost-sound, lost-complete}

-- ---- an operator refuses with 8 exactly where it does not take the kinds

module _ (o : ℕ) (a b : Kind) where
  takes-stop {ℓ} : {X : Type ℓ} {n : ℕ} → want 8 (takes (op_of o) a b) ≡ stop n → (8 ≡ n → ((k : Kind) → Gives o a b k → ⊥) → X) → X
  takes-stop e eight = cases (takes (op_of o) a b)
      (λ c. stop≢got (sym (rw c at e)))
      (λ c. eight (stop-inj (rw c at e)) (λ k g. true≢false (sym (gives-complete g).0 ∙ c)))

  untaken-stops : 1 ≤ o → o ≤ operators → ((k : Kind) → Gives o a b k → ⊥) → want {E = ℕ} 8 (takes (op_of o) a b) ≡ stop 8
  untaken-stops least most never = cases (takes (op_of o) a b)
      (λ c. absurd (never _ (gives-sound a b o least most c)))
      (λ c. rw c)

-- ---- where the definition stops, the rules refuse

module _ (S : Cells) (d : ℕ) (go : List ℤ → Res (Kind × List ℤ)) (good : (q : List ℤ) (x : Kind × List ℤ) → go q ≡ got x → KindWithin S d q x.0 x.1)
    (bad : (q : List ℤ) (f : Fault) → go q ≡ stop f → (f.number ≡ 2 → ⊥) → Meets S true d q f) where
  form-meets : (r : Form) (p : List ℤ) (f : Fault) → kind_form go S (pos (number_of_form r) ∷ p) r ≡ stop f → (f.number ≡ 2 → ⊥)
      → Meets S true (suc d) (pos (number_of_form r) ∷ p) f
  unfolding kind_form
  form-meets a_nil p f e two = stop≢got (sym e)
  form-meets a_false p f e two = stop≢got (sym e)
  form-meets a_true p f e two = stop≢got (sym e)
  form-meets an_integer p f e two = stopped (reads (any_word p)) _ e (λ e1. absurd (two (unread (any_word p) e1))) (λ q e1 k1. stop≢got (sym k1))
  form-meets a_path p f e two =
      stopped (value_at S p) _ e (λ e1. let l = lost-sound S p f e1 two in rw (← l.0) (m_path l.1)) (λ y e1 k1. stop≢got (sym k1))
  form-meets an_operation p f e two =
      stopped-number 1 operators p _ (omega arith) e two λ o q a b s k.
      rw s
      (stopped (go q) _ k (λ e1. m_left a b (bad q f e1 two)) λ y e1 k1.
      stopped (go y.1) _ k1 (λ e2. m_right a b (typed (good q y e1)) (bad y.1 f e2 two)) λ z e2 k2.
      stopped-on (at (pos 25 ∷ p) (want 8 (takes (op_of o) y.0 z.0))) _ k2
      (λ e3. at-stop (pos 25 ∷ p) (want 8 (takes (op_of o) y.0 z.0)) e3 λ n e4 w.
      takes-stop o y.0 z.0 e4 λ i never. rw (← w, ← i, s) (m_here (kinds a b (typed (good q y e1)) (typed (good y.1 z e2)) never)))
      (λ v e3 k3. stop≢got (sym k3)))
  form-meets an_identity p f e two = absurd (two (refused-with 2 (pos 26 ∷ p) e))
  form-meets no_form p f e two = absurd (two (refused-with 2 (pos 27 ∷ p) e))

  words-meet : (p p' : List ℤ) (r : Form) (f : Fault) → p ≡ pos (number_of_form r) ∷ p' → kind_form go S p r ≡ stop f → (f.number ≡ 2 → ⊥) → Meets S true (suc d) p f
  words-meet p p' r f w e two = rw w (form-meets r p' f (rw w at e) two)

pub kind-meets-sound : (S : Cells) (d : ℕ) (p : List ℤ) (f : Fault) → kind d S p ≡ stop f → (f.number ≡ 2 → ⊥) → Meets S true d p f
unfolding kind kind_form
kind-meets-sound S zero p f e two = absurd (two (refused-with 2 p e))
kind-meets-sound S (suc d) p f e two =
    words-meet S d (λ q. kind d S q) (λ q x h. kind-sound S d q x h) (λ q g h t. kind-meets-sound S d q g h t) p (drop 1 p) (form_of (number_at p 0)) f
    (form-words p (λ q. absurd (two (refused-with 2 p (rw q at e))))) e two

-- ---- where the rules refuse, the definition stops

pub kind-meets-complete : {S : Cells} {d : ℕ} {p : List ℤ} {f : Fault} → Meets S true d p f → kind d S p ≡ stop f
unfolding kind_form
kind-meets-complete {S} (m_path {d = d} {p = p} l) = rw (kind-opens S d a_path p (apart λ z. omega arith)) (stops_then _ (lost-complete S l))
kind-meets-complete {S} (m_left {d = d} {o = o} {p = p} a b m) =
    rw (kind-opens S d an_operation (pos o ∷ p) (apart λ z. omega arith), number-of 1 operators o p a b) (stops_then _ (kind-meets-complete m))
kind-meets-complete {S} (m_right {d = d} {o = o} {p = p} a b (typed l) m) =
    rw (kind-opens S d an_operation (pos o ∷ p) (apart λ z. omega arith), number-of 1 operators o p a b, kind-complete l) (stops_then _ (kind-meets-complete m))
kind-meets-complete {S} (m_here (kinds {d = d} {o = o} {a = x} {b = y} {p = p} a b (typed l) (typed r) never)) =
    rw (kind-opens S d an_operation (pos o ∷ p) (apart λ z. omega arith), number-of 1 operators o p a b, kind-complete l, kind-complete r)
    (stops-on _ (stops_at (pos 25 ∷ pos o ∷ p) (untaken-stops o x y a b never)))
