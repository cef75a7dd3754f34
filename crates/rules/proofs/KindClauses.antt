-- Kinds, clause by clause, and the part that is left: the laws by which code knows them. Assumes nothing.
use mathlib.Core.Path.{◌≡◌, refl, ap, ◌∙◌}
use mathlib.Core.List.{List}
use Prim.Native.Nat.{ℕ, zero, suc, ◌-◌, ◌≤◌, ◌<◌}
use native.Mathlib.Omega.{arith}
use native.Mathlib.Numerals.{sub-one}
use lib.IntN.{ℤ}
use lib.ListN.{drop}
use Rattle.words.specs.Words.{word_at, number_at}
use Rattle.words.specs.Answer.{got, stop, ◌>>=◌, ◌>>◌, want}
use Rattle.words.proofs.AnswerLaws.{step, step-on, got-inj, stop≢got}
use Rattle.tables.specs.declared.Value.{Value}
use Rattle.tables.specs.declared.Value.TheVariants.{Int}
use Rattle.tables.specs.declared.Kind.{Kind}
use Rattle.tables.specs.declared.Kind.TheVariants.{Bool as is_bool, Int as is_int}
use Rattle.tables.specs.Cells.{Cells}
use Rattle.program.specs.Forms.{form_of}
use Rattle.program.specs.declared.Form.{Form}
use Rattle.program.specs.declared.Form.TheVariants.{Nil as a_nil, False as a_false, True as a_true, Integer as an_integer, Path as a_path, Operation as an_operation, Identity as an_identity, Unknown as no_form}
use Rattle.program.specs.Reading.{Reading, number, any_word}
use Rattle.program.proofs.NumberLaws.{number_read, any-read}
use Rattle.program.proofs.FormLaws.{number_of_form, form-number}
use Rattle.program.proofs.LengthLaws.{Part, part-drop, part-trans}
use Rattle.rules.specs.State.{Res, refuse, reads}
use Rattle.rules.specs.Paths.{value_at}
use Rattle.rules.specs.Evaluation.{kind_of, op_of, takes, gives, at, evaluate_form, evaluate, kind_form, kind}
use Rattle.rules.proofs.WordSteps.{reads-got, form-is, apart}
use Rattle.rules.proofs.EvaluateClauses.{value-part}

-- ---- the kind that an operator gives

pub gives-int : (o : ℕ) → 1 ≤ o → o ≤ 3 → gives (op_of o) ≡ is_int
unfolding gives op_of
gives-int zero h l = absurd (omega arith)
gives-int (suc zero) h l = refl
gives-int (suc (suc zero)) h l = refl
gives-int (suc (suc (suc zero))) h l = refl
gives-int (suc (suc (suc (suc o)))) h l = absurd (omega arith)

pub gives-bool : (o : ℕ) → 4 ≤ o → o ≤ 11 → gives (op_of o) ≡ is_bool
unfolding gives op_of
gives-bool zero h l = absurd (omega arith)
gives-bool (suc zero) h l = absurd (omega arith)
gives-bool (suc (suc zero)) h l = absurd (omega arith)
gives-bool (suc (suc (suc zero))) h l = absurd (omega arith)
gives-bool (suc (suc (suc (suc zero)))) h l = refl
gives-bool (suc (suc (suc (suc (suc zero))))) h l = refl
gives-bool (suc (suc (suc (suc (suc (suc zero)))))) h l = refl
gives-bool (suc (suc (suc (suc (suc (suc (suc zero))))))) h l = refl
gives-bool (suc (suc (suc (suc (suc (suc (suc (suc zero)))))))) h l = refl
gives-bool (suc (suc (suc (suc (suc (suc (suc (suc (suc zero))))))))) h l = refl
gives-bool (suc (suc (suc (suc (suc (suc (suc (suc (suc (suc zero)))))))))) h l = refl
gives-bool (suc (suc (suc (suc (suc (suc (suc (suc (suc (suc (suc zero))))))))))) h l = refl
gives-bool (suc (suc (suc (suc (suc (suc (suc (suc (suc (suc (suc (suc o)))))))))))) h l = absurd (omega arith)

-- ---- what is left is a part of what was there

module _ (S : Cells) (go : List ℤ → Res (Kind × List ℤ)) (ih : (p : List ℤ) (x : Kind × List ℤ) → go p ≡ got x → Part p x.1) where
  form-part : (p : List ℤ) (f : Form) (x : Kind × List ℤ) → kind_form go S p f ≡ got x → Part p x.1
  unfolding kind_form
  form-part p a_nil x e = rw (← got-inj e) (part-drop 1 p)
  form-part p a_false x e = rw (← got-inj e) (part-drop 1 p)
  form-part p a_true x e = rw (← got-inj e) (part-drop 1 p)
  form-part p an_integer x e =
      step (reads (any_word (drop 1 p))) _ e λ q e1 k1.
      let a = any-read (drop 1 p) q (reads-got (any_word (drop 1 p)) e1) in
      rw (← got-inj k1) (part-trans (part-drop 1 p) (rw a.1 (part-drop 1 (drop 1 p))))
  form-part p a_path x e =
      step (value_at S (drop 1 p)) _ e λ y e1 k1.
      rw (← got-inj k1) (part-trans (part-drop 1 p) (value-part S (drop 1 p) y e1))
  form-part p an_operation x e =
      step (reads (number 1 11 (drop 1 p))) _ e λ o e1 k1.
      step (go o.1) _ k1 λ a e2 k2.
      step (go a.1) _ k2 λ b e3 k3.
      step-on (at p (want 8 (takes (op_of o.0) a.0 b.0))) _ k3 λ u e4 k4.
      let n = number_read 1 11 (drop 1 p) (reads-got (number 1 11 (drop 1 p)) e1) in
      let l : Part (drop 1 p) o.1 = rw n.rest (part-drop 1 (drop 1 p)) in
      rw (← got-inj k4) (part-trans (part-drop 1 p) (part-trans l (part-trans (ih o.1 a e2) (ih a.1 b e3))))
  form-part p an_identity x e = stop≢got e
  form-part p no_form x e = stop≢got e

pub kind-part : (S : Cells) (d : ℕ) (p : List ℤ) (x : Kind × List ℤ) → kind d S p ≡ got x → Part p x.1
unfolding kind
kind-part S zero p x e = stop≢got e
kind-part S (suc d) p x e = form-part S (λ q. kind d S q) (λ q y h. kind-part S d q y h) p (form_of (number_at p 0)) x e

-- ---- the clauses

-- the kind of a value that is there
abbrev pub kind_first : Res (Value × List ℤ) → Res (Kind × List ℤ)
kind_first m = m >>= λ x. got (kind_of x.0, x.1)

module _ (S : Cells) (go : List ℤ → Res (Value × List ℤ)) (ko : List ℤ → Res (Kind × List ℤ)) (p : List ℤ) where
  form-leaf : (f : Form) → (f ≡ an_operation → ⊥) → (f ≡ an_identity → ⊥) → kind_form ko S p f ≡ kind_first (evaluate_form go S p f)
  unfolding kind_form evaluate_form
  form-leaf a_nil a b = refl
  form-leaf a_false a b = refl
  form-leaf a_true a b = refl
  form-leaf an_integer a b = by (Int (word_at (drop 1 p) 0)) (any_word (drop 1 p))
    where
      by : (v : Value) (m : Reading (List ℤ)) → (reads m >>= λ q. got (kind_of v, q)) ≡ kind_first (reads m >>= λ q. got (v, q))
      by v (got q) = refl
      by v (stop q) = refl
  form-leaf a_path a b = refl
  form-leaf an_operation a b = absurd (a refl)
  form-leaf an_identity a b = absurd (b refl)
  form-leaf no_form a b = refl

module _ (S : Cells) (d : ℕ) (p : List ℤ) where
  pub kind-deep : d ≡ 0 → kind d S p ≡ refuse 2 p
  unfolding kind
  kind-deep e = rw e

  opened : (e : ℕ) → (e ≡ 0 → ⊥) → kind_form (λ q. kind (e - 1) S q) S p (form_of (number_at p 0)) ≡ kind e S p
  unfolding kind
  opened zero ne = absurd (ne refl)
  opened (suc e) ne = rw (sub-one (suc e))

  module _ (ne : d ≡ 0 → ⊥) where
    by_form : (f : Form) → (f ≡ no_form → ⊥) → number_at p 0 ≡ number_of_form f → kind_form (λ q. kind (d - 1) S q) S p f ≡ kind d S p
    by_form f n e = rw (e, form-is f n) at (opened d ne)

    pub kind-operation : number_at p 0 ≡ 25
        → (reads (number 1 11 (drop 1 p)) >>= λ o. kind (d - 1) S o.1 >>= λ a. kind (d - 1) S a.1 >>= λ b. at p (want 8 (takes (op_of o.0) a.0 b.0)) >> got (gives (op_of o.0), b.1)) ≡ kind d S p
    unfolding kind_form
    kind-operation e = by_form an_operation (apart (omega arith)) e

    pub kind-identity : number_at p 0 ≡ 26 → refuse 2 p ≡ kind d S p
    unfolding kind_form
    kind-identity e = by_form an_identity (apart (omega arith)) e

  -- any other expression has the kind of its value, and is refused where it is refused
  pub kind-leaf : (number_at p 0 ≡ 25 → ⊥) → (number_at p 0 ≡ 26 → ⊥) → kind d S p ≡ kind_first (evaluate d S p)
  unfolding kind evaluate
  kind-leaf a b = go d
    where
      other : (f : Form) → number_of_form f < 27 → (number_at p 0 ≡ number_of_form f → ⊥) → form_of (number_at p 0) ≡ f → ⊥
      other f l n e = n (form-number (number_at p 0) (rw e l) ∙ ap number_of_form e)

      go : (d : ℕ) → kind d S p ≡ kind_first (evaluate d S p)
      go zero = refl
      go (suc d) = form-leaf S (λ q. evaluate d S q) (λ q. kind d S q) p (form_of (number_at p 0)) (other an_operation (omega arith) a) (other an_identity (omega arith) b)
