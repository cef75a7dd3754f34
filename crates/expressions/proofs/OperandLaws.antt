-- What the code of an operator and its two operands comes to. Assumes nothing.
use mathlib.Core.Path.{◌≡◌, refl, sym, ap, ◌∙◌}
use mathlib.Core.Bool.{Bool, true, false, cond, ◌&&◌}
use mathlib.Core.List.{List}
use Prim.Native.Nat.{ℕ, ◌-◌, ◌≤◌, ◌<◌}
use native.Mathlib.Omega.{arith}
use lib.IntN.{ℤ}
use lib.ListN.{length, drop}
use Rattle.std.specs.Prelude.{Option, Some, None, Result, Ok, Err, is_ok}
use Rattle.words.specs.Words.{number_at, last_of}
use Rattle.words.specs.Answer.{Answer, got, stop, ◌>>=◌, ◌>>◌, want}
use Rattle.words.proofs.AnswerLaws.{either}
use Rattle.tables.specs.declared.Value.{Value}
use Rattle.tables.specs.declared.Kind.{Kind}
use Rattle.tables.specs.declared.Kind.TheVariants.{Nil as is_nil, Bool as is_bool, Int as is_int, Ref as is_ref}
use Rattle.tables.specs.Cells.{Cells}
use Rattle.program.specs.declared.Refusal.{Refusal}
use Rattle.program.specs.declared.Operator.{Operator as Op}
use Rattle.program.proofs.NumberLaws.{number_fits_lem, number-low, number-high}
use Rattle.program.proofs.LengthLaws.{Part, part-trans}
use Rattle.rules.specs.State.{Fault, Res, refuse}
use Rattle.rules.specs.Evaluation.{kind_of, op_of, takes, gives, made, apply, at, evaluate, kind}
use Rattle.rules.proofs.OperatorClauses.{apply-is}
use Rattle.rules.proofs.EvaluateClauses.{evaluate-part, evaluate-deep, evaluate-operation}
use Rattle.rules.proofs.KindClauses.{kind-part, kind-deep, kind-operation}
use Rattle.rules.proofs.KindLaws.{kind-value}
use Rattle.expressions.specs.declared.Valued.{Valued}
use Rattle.expressions.specs.declared.Row.{Row}
use Rattle.expressions.specs.Judging.{refusal}
use Rattle.expressions.specs.Told.{applied_of}
use Rattle.expressions.specs.Valuing.{known, unknown, stand_in, judged_of, value_only, valued_at, made_by, settled_by, Rows}

pub stands-kind : (k : Kind) → kind_of (stand_in k) ≡ k
stands-kind is_nil = refl
stands-kind is_bool = refl
stands-kind is_int = refl
stands-kind is_ref = refl

-- ---- an expression too deep, and an operator that is none

pub valued-deep : (inside : Bool) (S : Cells) (d : ℕ) (p : List ℤ) → d ≡ 0 → Err (refusal 2 (length p)) ≡ valued_at inside d S p
unfolding valued_at
valued-deep true S d p e = rw (kind-deep S d p e)
valued-deep false S d p e = rw (evaluate-deep S d p e)

module _ (S : Cells) (d : ℕ) (p : List ℤ) (ne : d ≡ 0 → ⊥) (is : number_at p 0 ≡ 25) where
  pub operator-none : (inside : Bool) → number_at (drop 1 p) 0 ≡ 0 → Err (refusal 2 (length (drop 1 p))) ≡ valued_at inside d S p
  unfolding valued_at
  operator-none true h =
      let k : refuse 2 (drop 1 p) ≡ kind d S p = rw (number-low 1 11 (drop 1 p) (omega arith)) at (kind-operation S d p ne is) in
      rw (← k)
  operator-none false h =
      let k : refuse 2 (drop 1 p) ≡ evaluate d S p = rw (number-low 1 11 (drop 1 p) (omega arith)) at (evaluate-operation S d p ne is) in
      rw (← k)

  pub operator-high : (inside : Bool) → 11 < number_at (drop 1 p) 0 → Err (refusal 2 (length (drop 1 p))) ≡ valued_at inside d S p
  unfolding valued_at
  operator-high true h =
      let k : refuse 2 (drop 1 p) ≡ kind d S p = rw (number-high 1 11 (drop 1 p) (omega arith) h) at (kind-operation S d p ne is) in
      rw (← k)
  operator-high false h =
      let k : refuse 2 (drop 1 p) ≡ evaluate d S p = rw (number-high 1 11 (drop 1 p) (omega arith) h) at (evaluate-operation S d p ne is) in
      rw (← k)

-- ---- an operand that reads: its value or what stands in for it, whether it is exact, and the part after it

pub record Overflows (S : Cells) (d : ℕ) (p : List ℤ) : Type 0 where
  pub fault : Fault
  pub is : evaluate d S p ≡ stop fault

-- outside C it is exact
abbrev pub Exactly : Bool → Bool → Cells → ℕ → List ℤ → Value → List ℤ → Type 0
Exactly inside true S d p v q = evaluate d S p ≡ got (v, q)
Exactly true false S d p v q = Overflows S d p
Exactly false false S d p v q = ⊥

pub record Reads (inside : Bool) (S : Cells) (d : ℕ) (p : List ℤ) (v : Value) (exact : Bool) (q : List ℤ) : Type 0 where
  pub kinds : inside ≡ true → kind d S p ≡ got (kind_of v, q)
  pub value : Exactly inside exact S d p v q

module _ (S : Cells) (d : ℕ) (p : List ℤ) {whole : List ℤ} (w : Part whole p) where
  inside-reads : {a : Valued} {q : List ℤ} → Ok a ≡ judged_of (kind d S p) (evaluate d S p) → q ≡ last_of a.left whole → Reads true S d p a.value a.exact q
  inside-reads {a} {q} e l = either (kind d S p) there (λ f k. absurd (let z : Ok a ≡ Err f = rw k at e in cc))
    where
      there : (x : Kind × List ℤ) → kind d S p ≡ got x → Reads true S d p a.value a.exact q
      there x k = either (evaluate d S p)
          (λ y m.
          let j : a ≡ known y.0 (length x.1) = (let i : Ok a ≡ Ok (known y.0 (length x.1)) = rw (k, m) at e in cc) in
          let t : q ≡ x.1 = l ∙ (rw j (part-trans w (kind-part S d p x k)).is) in
          let o = (kind-value d S p x k).good y m in
          let v : a.value ≡ y.0 = ap (λ (j : Valued). j.value) j in
          let b : a.exact ≡ true = ap (λ (j : Valued). j.exact) j in
          let z : x ≡ (kind_of a.value, q) = rw (v, o.0, t) in
          let u : y ≡ (a.value, q) = rw (v, t, ← o.1) in
          record { kinds = λ _. k ∙ ap got z; value = rw b (m ∙ ap got u) })
          (λ f m.
          let j : a ≡ unknown x.0 (length x.1) = (let i : Ok a ≡ Ok (unknown x.0 (length x.1)) = rw (k, m) at e in cc) in
          let t : q ≡ x.1 = l ∙ (rw j (part-trans w (kind-part S d p x k)).is) in
          let v : a.value ≡ stand_in x.0 = ap (λ (j : Valued). j.value) j in
          let b : a.exact ≡ false = ap (λ (j : Valued). j.exact) j in
          let z : x ≡ (kind_of a.value, q) = rw (v, stands-kind x.0, t) in
          record { kinds = λ _. k ∙ ap got z; value = rw b (record { fault = f; is = m }) })

  outside-reads : {a : Valued} {q : List ℤ} → Ok a ≡ value_only (evaluate d S p) → q ≡ last_of a.left whole → Reads false S d p a.value a.exact q
  outside-reads {a} {q} e l = either (evaluate d S p) there (λ f k. absurd (let z : Ok a ≡ Err f = rw k at e in cc))
    where
      there : (y : Value × List ℤ) → evaluate d S p ≡ got y → Reads false S d p a.value a.exact q
      there y k =
          let j : a ≡ known y.0 (length y.1) = (let i : Ok a ≡ Ok (known y.0 (length y.1)) = rw k at e in cc) in
          let v : a.value ≡ y.0 = ap (λ (j : Valued). j.value) j in
          let b : a.exact ≡ true = ap (λ (j : Valued). j.exact) j in
          let t : q ≡ y.1 = l ∙ (rw j (part-trans w (evaluate-part S d p y k)).is) in
          let u : y ≡ (a.value, q) = rw (v, t) in
          record { kinds = λ i. absurd (let z : ◌≡◌ {A = ℕ} 0 1 = cc in omega arith); value = rw b (k ∙ ap got u) }

  pub operand-reads : (inside : Bool) {a : Valued} {q : List ℤ} → Ok a ≡ valued_at inside d S p → q ≡ last_of a.left whole → Reads inside S d p a.value a.exact q
  unfolding valued_at
  operand-reads true e l = inside-reads e l
  operand-reads false e l = outside-reads e l

-- ---- the operator

-- what has a kind is not refused inside C
never-refused : (x : Kind × List ℤ) (m : Res (Value × List ℤ)) {g : Refusal} → Err g ≡ judged_of (got x) m → ⊥
never-refused x (got y) e = cc
never-refused x (stop f) e = cc

module _ (S : Cells) (d : ℕ) (p : List ℤ) (ne : d ≡ 0 → ⊥) (is : number_at p 0 ≡ 25) (one : number_at (drop 1 p) 0 ≡ 0 → ⊥) (most : number_at (drop 1 p) 0 ≤ 11) where
  abbrev o : Op
  o = op_of (number_at (drop 1 p) 0)

  abbrev first : List ℤ
  first = drop 1 (drop 1 p)

  kinds-of : (kind (d - 1) S first >>= λ a. kind (d - 1) S a.1 >>= λ b. at p (want 8 (takes o a.0 b.0)) >> got (gives o, b.1)) ≡ kind d S p
  kinds-of = rw (number_fits_lem 1 11 (drop 1 p) (omega (arith, one)) most) at (kind-operation S d p ne is)

  values_of : (evaluate (d - 1) S first >>= λ a. evaluate (d - 1) S a.1 >>= λ b. at p (apply o a.0 b.0) >>= λ v. got (v, b.1)) ≡ evaluate d S p
  values_of = rw (number_fits_lem 1 11 (drop 1 p) (omega (arith, one)) most) at (evaluate-operation S d p ne is)

  -- an operand that is refused ends the whole; f is what is done with one that reads
  inside-refused : (q : List ℤ) (f : Kind × List ℤ → Res (Kind × List ℤ)) {g : Refusal} → (kind (d - 1) S q >>= f) ≡ kind d S p → Err g ≡ judged_of (kind (d - 1) S q) (evaluate (d - 1) S q)
      → Err g ≡ judged_of (kind d S p) (evaluate d S p)
  inside-refused q f {g} whole e =
      either (kind (d - 1) S q)
      (λ x k. absurd (never-refused x (evaluate (d - 1) S q) (rw k at e)))
      (λ h k.
      let s : stop h ≡ kind d S p = rw k at whole in
      let j : Err g ≡ Err h = rw k at e in
      rw (← s) j)

  outside-refused : (q : List ℤ) (f : Value × List ℤ → Res (Value × List ℤ)) {g : Refusal} → (evaluate (d - 1) S q >>= f) ≡ evaluate d S p → Err g ≡ value_only (evaluate (d - 1) S q)
      → Err g ≡ value_only (evaluate d S p)
  outside-refused q f {g} whole e =
      either (evaluate (d - 1) S q)
      (λ x k. absurd (let z : Err g ≡ Ok (known x.0 (length x.1)) = rw k at e in cc))
      (λ h k.
      let s : stop h ≡ evaluate d S p = rw k at whole in
      let j : Err g ≡ Err h = rw k at e in
      rw (← s) j)

  pub left-refused : (inside : Bool) {g : Refusal} → Err g ≡ valued_at inside (d - 1) S first → Err g ≡ valued_at inside d S p
  unfolding valued_at
  left-refused true e = inside-refused first _ kinds-of e
  left-refused false e = outside-refused first _ values_of e

  pub right-refused : (inside exact : Bool) {x : Value} {t : List ℤ} {g : Refusal} → Reads inside S (d - 1) first x exact t → Err g ≡ valued_at inside (d - 1) S t → Err g ≡ valued_at inside d S p
  unfolding valued_at
  right-refused true exact {t = t} l e = inside-refused t _ (rw (l.kinds refl) at kinds-of) e
  right-refused false true {t = t} l e = outside-refused t _ (rw l.value at values_of) e
  right-refused false false l e = absurd l.value

  never : (u : List ℤ) (m : Answer ℕ Value) → made_by true o m false (length u) (length p) ≡ Ok (unknown (gives o) (length u))
  never u (got v) = refl
  never u (stop n) = refl

  made_inside : (u : List ℤ) (m : Answer ℕ Value) → made_by true o m true (length u) (length p) ≡ judged_of (got (gives o, u)) (at p m >>= λ v. got (v, u))
  made_inside u (got v) = refl
  made_inside u (stop n) = refl

  made-outside : (u : List ℤ) (m : Answer ℕ Value) → made_by false o m true (length u) (length p) ≡ value_only (at p m >>= λ v. got (v, u))
  made-outside u (got v) = refl
  made-outside u (stop n) = refl

  module _ {x y : Value} {t u : List ℤ} where
    -- kinds that fit: inside C
    inside-made : (ea eb : Bool) → Reads true S (d - 1) first x ea t → Reads true S (d - 1) t y eb u → takes o (kind_of x) (kind_of y) ≡ true
        → made_by true o (made o x y) (ea && eb) (length u) (length p) ≡ judged_of (got (gives o, u)) (evaluate d S p)
    inside-made true true l r k =
        let e : (at p (made o x y) >>= λ v. got (v, u)) ≡ evaluate d S p = rw (l.value, r.value, apply-is x y o, k) at values_of in
        rw (← e) (made_inside u (made o x y))
    inside-made true false l r k =
        let e : stop r.value.fault ≡ evaluate d S p = rw (l.value, r.value.is) at values_of in
        rw (← e) (never u (made o x y))
    inside-made false eb l r k =
        let e : stop l.value.fault ≡ evaluate d S p = rw l.value.is at values_of in
        rw (← e) (never u (made o x y))

    inside-settled : (ea eb c : Bool) → Reads true S (d - 1) first x ea t → Reads true S (d - 1) t y eb u → takes o (kind_of x) (kind_of y) ≡ c
        → cond c (made_by true o (made o x y) (ea && eb) (length u) (length p)) (Err (refusal 8 (length p))) ≡ judged_of (kind d S p) (evaluate d S p)
    inside-settled ea eb true l r k =
        let e : got (gives o, u) ≡ kind d S p = rw (l.kinds refl, r.kinds refl, k) at kinds-of in
        rw (← e) (inside-made ea eb l r k)
    inside-settled ea eb false l r k =
        let e : refuse 8 p ≡ kind d S p = rw (l.kinds refl, r.kinds refl, k) at kinds-of in
        rw (← e)

    outside-settled : (ea eb c : Bool) → Reads false S (d - 1) first x ea t → Reads false S (d - 1) t y eb u → takes o (kind_of x) (kind_of y) ≡ c
        → cond c (made_by false o (made o x y) (ea && eb) (length u) (length p)) (Err (refusal 8 (length p))) ≡ value_only (evaluate d S p)
    outside-settled true true true l r k =
        let e : (at p (made o x y) >>= λ v. got (v, u)) ≡ evaluate d S p = rw (l.value, r.value, apply-is x y o, k) at values_of in
        rw (← e) (made-outside u (made o x y))
    outside-settled true true false l r k =
        let e : refuse 8 p ≡ evaluate d S p = rw (l.value, r.value, apply-is x y o, k) at values_of in
        rw (← e)
    outside-settled true false c l r k = absurd r.value
    outside-settled false eb c l r k = absurd l.value

  pub both-settled : (inside : Bool) (a b : Valued) {t u : List ℤ} → Reads inside S (d - 1) first a.value a.exact t → Reads inside S (d - 1) t b.value b.exact u → b.left ≡ length u
      → settled_by inside o a b (length p) ≡ valued_at inside d S p
  unfolding valued_at
  both-settled true a b l r e = rw e (inside-settled a.exact b.exact (takes o (kind_of a.value) (kind_of b.value)) l r refl)
  both-settled false a b l r e = rw e (outside-settled a.exact b.exact (takes o (kind_of a.value) (kind_of b.value)) l r refl)

-- what the code answers where the kinds fit, by what the operator made
abbrev pub number_told : Result Value ℕ → ℕ
number_told (Ok v) = 0
number_told (Err n) = n

module _ (inside : Bool) (o : Op) (a b : Valued) (word : ℕ) {m : Result Value ℕ} (e : m ≡ applied_of (made o a.value b.value)) (k : takes o (kind_of a.value) (kind_of b.value) ≡ true) where
  pub settled-gives : {v : Value} → (a.exact && b.exact) ≡ true → m ≡ Ok v → Ok (known v b.left) ≡ settled_by inside o a b word
  settled-gives x h = rw (k, x) (by (made o a.value b.value) (sym e ∙ h))
    where
      by : {v : Value} (r : Answer ℕ Value) → applied_of r ≡ Ok v → Ok (known v b.left) ≡ made_by inside o r true b.left word
      by (got v) i = cc
      by (stop n) i = cc

  module _ (h : ((a.exact && b.exact) && is_ok m) ≡ false) where
    pub settled-stands : inside ≡ true → Ok (unknown (gives o) b.left) ≡ settled_by inside o a b word
    settled-stands i = rw (k, i) (by (made o a.value b.value) (a.exact && b.exact) (rw e at h))
      where
        by : (r : Answer ℕ Value) (x : Bool) → (x && is_ok (applied_of r)) ≡ false → Ok (unknown (gives o) b.left) ≡ made_by true o r x b.left word
        by (got v) true h = absurd (let z : ◌≡◌ {A = ℕ} 0 1 = cc in omega arith)
        by (got v) false h = refl
        by (stop n) true h = refl
        by (stop n) false h = refl

    pub settled-refuses : inside ≡ false → Err (refusal (number_told m) word) ≡ settled_by inside o a b word
    settled-refuses i = rw (k, i, e) (by (made o a.value b.value) (a.exact && b.exact) (rw e at h))
      where
        by : (r : Answer ℕ Value) (x : Bool) → (x && is_ok (applied_of r)) ≡ false → Err (refusal (number_told (applied_of r)) word) ≡ made_by false o r x b.left word
        by (got v) true h = absurd (let z : ◌≡◌ {A = ℕ} 0 1 = cc in omega arith)
        by (got v) false h = refl
        by (stop n) true h = refl
        by (stop n) false h = refl

-- ---- the operands of an expression

abbrev pub row_of : Option Op → ℕ → ℕ → Row
row_of operator left depth = record { operator = operator; left = left; depth = depth }

refused-row : (d : ℕ) (p : List ℤ) (f : Refusal) → ((inside : Bool) (S : Cells) → Err f ≡ valued_at inside d S p) → Rows d p (Err f)
refused-row d p f h = record { refuses = λ g e inside S. (let i : f ≡ g = cc in rw (← i) (h inside S)); alone = λ r e. absurd cc; two = λ r o e. absurd cc }

module _ (d : ℕ) (p : List ℤ) where
  pub row-deep : d ≡ 0 → Rows d p (Err (refusal 2 (length p)))
  row-deep e = refused-row d p _ (λ inside S. valued-deep inside S d p e)

  module _ (ne : d ≡ 0 → ⊥) where
    pub row-alone : (number_at p 0 ≡ 25 → ⊥) → Rows d p (Ok (row_of None (length p) d))
    row-alone h = record {
      refuses = λ f e. absurd cc;
      alone = λ r e n. (let i : row_of None (length p) d ≡ r = cc in rw (← i) (record { deep = ne; none = h; start = refl; nest = refl }));
      two = λ r o e i. absurd (let j : row_of None (length p) d ≡ r = cc in let k : None ≡ Some o = rw (← j) at i in cc);
    }

    module _ (is : number_at p 0 ≡ 25) where
      pub row-none : number_at (drop 1 p) 0 ≡ 0 → Rows d p (Err (refusal 2 (length (drop 1 p))))
      row-none h = refused-row d p _ (λ inside S. operator-none S d p ne is inside h)

      pub row-high : 11 < number_at (drop 1 p) 0 → Rows d p (Err (refusal 2 (length (drop 1 p))))
      row-high h = refused-row d p _ (λ inside S. operator-high S d p ne is inside h)

      pub row-two : (number_at (drop 1 p) 0 ≡ 0 → ⊥) → number_at (drop 1 p) 0 ≤ 11 → Rows d p (Ok (row_of (Some (op_of (number_at (drop 1 p) 0))) (length (drop 1 (drop 1 p))) (d - 1)))
      row-two one most = record {
        refuses = λ f e. absurd cc;
        alone = λ r e n. absurd (
            let j : row_of (Some (op_of (number_at (drop 1 p) 0))) (length (drop 1 (drop 1 p))) (d - 1) ≡ r = cc in
            let k : Some (op_of (number_at (drop 1 p) 0)) ≡ None = rw (← j) at n in
            cc);
        two = λ r o e i.
            (let j : row_of (Some (op_of (number_at (drop 1 p) 0))) (length (drop 1 (drop 1 p))) (d - 1) ≡ r = cc in
            let k : Some (op_of (number_at (drop 1 p) 0)) ≡ Some o = rw (← j) at i in
            let l : op_of (number_at (drop 1 p) 0) ≡ o = cc in
            rw (← j, ← l) (record { deep = ne; is = is; operator = refl; least = one; most = most; start = refl; nest = refl }));
      }
