-- Kinds are sound (T-OP): an expression that has a kind has a value of that kind, or its arithmetic leaves 32 bits (9). Assumes nothing.
use mathlib.Core.Path.{◌≡◌, refl, sym, ap}
use mathlib.Core.Logic.{◌↔◌}
use mathlib.Core.Bool.{true, false}
use mathlib.Core.List.{List}
use Prim.Native.Nat.{ℕ, zero, suc}
use native.Mathlib.Omega.{arith}
use lib.IntN.{ℤ, ◌+ℤ◌, ◌-ℤ◌, ◌*ℤ◌}
use lib.ListN.{drop}
use Rattle.words.specs.Words.{number_at}
use Rattle.words.specs.Range.{fits}
use Rattle.words.specs.Answer.{got, stop, want}
use Rattle.words.proofs.AnswerLaws.{got-inj, stop≢got, step, step-on, tested}
use Rattle.tables.specs.declared.Value.{Value}
use Rattle.tables.specs.declared.Value.TheVariants.{Nil, Bool as Truth, Int, Ref}
use Rattle.tables.specs.declared.Kind.{Kind}
use Rattle.tables.specs.declared.Kind.TheVariants.{Bool as is_bool, Int as is_int}
use Rattle.tables.specs.Cells.{Cells}
use Rattle.program.specs.Forms.{operators}
use Rattle.program.specs.Forms.{form_of}
use Rattle.program.specs.declared.Form.{Form}
use Rattle.program.specs.declared.Form.TheVariants.{Nil as a_nil, False as a_false, True as a_true, Integer as an_integer, Path as a_path, Operation as an_operation, Identity as an_identity, Unknown as no_form}
use Rattle.program.specs.Reading.{number, any_word}
use Rattle.program.specs.declared.Operator.{Operator}
use Rattle.program.specs.declared.Operator.TheVariants.{Plus, Minus, Times, Below, AtMost, Equal, Unequal, AtLeast, Above, And, Or, Unknown}
use Rattle.rules.specs.State.{Res, reads}
use Rattle.rules.specs.Paths.{value_at}
use Rattle.rules.specs.Evaluation.{kind_of, bool_of, int_of, op_of}
use Rattle.rules.specs.Evaluation.{takes, gives, at, ranged, made, apply, evaluate_form, evaluate, kind_form, kind}
use Rattle.rules.specs.Constraints.{satisfies}
use Rattle.rules.specs.Steps.Evaluation.{ComesTo, value, range}
use Rattle.rules.proofs.WordSteps.{at-got}
use Rattle.rules.proofs.EndLaws.{ends-got, ends-then, Fine, fine-at}
use Rattle.rules.proofs.TypingLaws.{wanted}
use Rattle.rules.proofs.FineLaws.{made-fine}

-- ---- operators

ranged-kind : (z : ℤ) {v : Value} → ranged z ≡ got v → kind_of v ≡ is_int
unfolding ranged
ranged-kind z e = tested 9 (fits z) _ e λ c k. ap kind_of (sym (got-inj k))

-- a value that an operator makes is of the kind that it gives
made-kind : (o : Operator) (a b : Value) {v : Value} → made o a b ≡ got v → kind_of v ≡ gives o
unfolding made gives
made-kind Plus a b e = ranged-kind (int_of a +ℤ int_of b) e
made-kind Minus a b e = ranged-kind (int_of a -ℤ int_of b) e
made-kind Times a b e = ranged-kind (int_of a *ℤ int_of b) e
made-kind Below a b e = ap kind_of (sym (got-inj e))
made-kind AtMost a b e = ap kind_of (sym (got-inj e))
made-kind Equal a b e = ap kind_of (sym (got-inj e))
made-kind Unequal a b e = ap kind_of (sym (got-inj e))
made-kind AtLeast a b e = ap kind_of (sym (got-inj e))
made-kind Above a b e = ap kind_of (sym (got-inj e))
made-kind And a b e = ap kind_of (sym (got-inj e))
made-kind Or a b e = ap kind_of (sym (got-inj e))
made-kind Unknown a b e = stop≢got e

some-op : (o : Operator) (a b : Kind) → takes o a b ≡ true → o ≡ Unknown → ◌≡◌ {A = ℕ} 8 9
unfolding takes
some-op o a b t q =
    let c : false ≡ true = rw q at t in
    let z : ◌≡◌ {A = ℕ} 0 1 = cc in
    omega arith

module _ (o : Operator) (a b : Value) (t : takes o (kind_of a) (kind_of b) ≡ true) where
  apply-kind : {v : Value} → apply o a b ≡ got v → kind_of v ≡ gives o
  unfolding apply
  apply-kind e = made-kind o a b (rw t at e)

  pub apply-nine : (n : ℕ) → apply o a b ≡ stop n → n ≡ 9
  unfolding apply
  apply-nine n e = (made-fine (λ m. m ≡ 9) o (some-op o (kind_of a) (kind_of b) t) refl a b).bad n (rw t at e)

-- ---- expressions

-- a value of the kind k with q after it, or refusal 9
abbrev pub OfKind : Kind → List ℤ → Res (Value × List ℤ) → Type 0
OfKind k q m = Fine (λ n. n ≡ 9) (λ (y : Value × List ℤ). (kind_of y.0 ≡ k) × (y.1 ≡ q)) m

module _ (S : Cells) (go : List ℤ → Res (Value × List ℤ)) (ko : List ℤ → Res (Kind × List ℤ))
    (ih : (q : List ℤ) (x : Kind × List ℤ) → ko q ≡ got x → OfKind x.0 x.1 (go q)) where
  form-kinds : (f : Form) (p : List ℤ) (x : Kind × List ℤ) → kind_form ko S p f ≡ got x → OfKind x.0 x.1 (evaluate_form go S p f)
  unfolding kind_form evaluate_form
  form-kinds a_nil p x e = rw (← got-inj e) (ends-got (refl, refl))
  form-kinds a_false p x e = rw (← got-inj e) (ends-got (refl, refl))
  form-kinds a_true p x e = rw (← got-inj e) (ends-got (refl, refl))
  form-kinds an_integer p x e = step (reads (any_word (drop 1 p))) _ e λ q e1 k1. rw (e1, ← got-inj k1) (ends-got (refl, refl))
  form-kinds a_path p x e = step (value_at S (drop 1 p)) _ e λ y e1 k1. rw (e1, ← got-inj k1) (ends-got (refl, refl))
  form-kinds an_operation p x e =
      step (reads (number 1 operators (drop 1 p))) _ e λ o e1 k1.
      step (ko o.1) _ k1 λ a e2 k2.
      step (ko a.1) _ k2 λ b e3 k3.
      step-on (at p (want 8 (takes (op_of o.0) a.0 b.0))) _ k3 λ u e4 k4.
      rw (e1, ← got-inj k4)
      (ends-then (go o.1) _ (ih o.1 a e2) λ y i.
      rw i.1
      (ends-then (go a.1) _ (ih a.1 b e3) λ z j.
      let t : takes (op_of o.0) (kind_of y.0) (kind_of z.0) ≡ true = rw (i.0, j.0) (wanted (takes (op_of o.0) a.0 b.0) (at-got p (want 8 (takes (op_of o.0) a.0 b.0)) e4)) in
      ends-then (at p (apply (op_of o.0) y.0 z.0)) _ (fine-at (λ n. n ≡ 9) p (apply (op_of o.0) y.0 z.0) (record { good = λ a e. e; bad = apply-nine (op_of o.0) y.0 z.0 t })) λ v l.
      ends-got (apply-kind (op_of o.0) y.0 z.0 t l, j.1)))
  form-kinds an_identity p x e = stop≢got e
  form-kinds no_form p x e = stop≢got e

-- an expression that has a kind is evaluated to a value of that kind, or refused with 9: never with 7 or 8
pub kind-value : (d : ℕ) (S : Cells) (p : List ℤ) (x : Kind × List ℤ) → kind d S p ≡ got x → OfKind x.0 x.1 (evaluate d S p)
unfolding kind evaluate
kind-value zero S p x e = stop≢got e
kind-value (suc d) S p x e = form-kinds S (λ q. evaluate d S q) (λ q. kind d S q) (λ q y h. kind-value d S q y h) (form_of (number_at p 0)) p x e

come : {k : Kind} {q : List ℤ} (m : Res (Value × List ℤ)) → OfKind k q m → ComesTo k q m
come (got y) c = let i : (kind_of y.0 ≡ _) × (y.1 ≡ _) = c.good y refl in rw (← i.1) (value i.0)
come (stop f) c = range (c.bad f refl)

pub kind-comes : (d : ℕ) (S : Cells) (p : List ℤ) (k : Kind) (q : List ℤ) → kind d S p ≡ got (k, q) → ComesTo k q (evaluate d S p)
kind-comes d S p k q e = come (evaluate d S p) (kind-value d S p (k, q) e)

-- ---- satisfied: the value is true

a-truth : (v : Value) → bool_of v ≡ true → v ≡ Truth true
a-truth Nil e = cc
a-truth (Truth b) e = ap Truth e
a-truth (Int n) e = cc
a-truth (Ref r) e = cc

module _ {q : List ℤ} (m : Res (Value × List ℤ)) where
  satisfies-true : OfKind is_bool q m → satisfies m ≡ true → m ≡ got (Truth true, q)
  unfolding satisfies
  satisfies-true c e = go m c e
    where
      go : (m : Res (Value × List ℤ)) → OfKind is_bool q m → satisfies m ≡ true → m ≡ got (Truth true, q)
      go (got y) c e = let i : y.1 ≡ q = (c.good y refl).1 in let t : y.0 ≡ Truth true = a-truth y.0 e in rw (← i, ← t)
      go (stop f) c e = cc

  true-satisfies : m ≡ got (Truth true, q) → satisfies m ≡ true
  unfolding satisfies
  true-satisfies e = rw e

-- a part that reads is satisfied exactly where its value is true
pub satisfied-iff : (d : ℕ) (S : Cells) (p q : List ℤ) → kind d S p ≡ got (is_bool, q) → (satisfies (evaluate d S p) ≡ true) ↔ (evaluate d S p ≡ got (Truth true, q))
satisfied-iff d S p q e = (satisfies-true (evaluate d S p) (kind-value d S p (is_bool, q) e), true-satisfies (evaluate d S p))
