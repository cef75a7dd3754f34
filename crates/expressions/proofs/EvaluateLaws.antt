-- The loop over the operands of an expression. Assumes nothing.
use mathlib.Core.Path.{◌≡◌, refl, sym, ◌∙◌}
use mathlib.Core.Bool.{Bool, true, false, cond}
use mathlib.Core.List.{List}
use Prim.Native.Nat.{ℕ, ◌+◌, ◌-◌, ◌≤◌, ◌<◌}
use native.Mathlib.Omega.{arith}
use borrow.Author.Tests.{ne_eqb}
use lib.Dec.{eqb}
use lib.IntN.{ℤ}
use lib.ListN.{length, drop}
use Rattle.std.specs.Prelude.{Option, Some, None, Result, Ok, Err}
use Rattle.words.specs.Words.{number_at, last_of}
use Rattle.words.specs.Answer.{got, stop}
use Rattle.words.proofs.AnswerLaws.{either}
use Rattle.tables.specs.declared.Value.{Value}
use Rattle.tables.specs.declared.Kind.{Kind}
use Rattle.tables.specs.Cells.{Cells}
use Rattle.tables.proofs.SearchLaws.{cases}
use Rattle.program.specs.declared.Refusal.{Refusal}
use Rattle.program.specs.declared.Operator.{Operator as Op}
use Rattle.program.proofs.LengthLaws.{Part, part-drop, part-trans}
use Rattle.program.proofs.RowLaws.{last-part, last-all, last-length}
use Rattle.rules.specs.State.{Res}
use Rattle.rules.specs.Evaluation.{evaluate, kind}
use Rattle.rules.proofs.EvaluateClauses.{evaluate-part}
use Rattle.rules.proofs.KindClauses.{kind-part}
use Rattle.expressions.specs.declared.Valued.{Valued}
use Rattle.expressions.specs.declared.Row.{Row}
use Rattle.expressions.specs.Told.{evaluated_of}
use Rattle.expressions.specs.Valuing.{known, unknown, judged_of, value_only, valued_at, settled_by, Rows}
use Rattle.expressions.proofs.OperandLaws.{Reads, operand-reads, left-refused, right-refused, both-settled}

-- an operand that reads leaves no more words than there are
judged-size : (S : Cells) (d : ℕ) (p : List ℤ) {a : Valued} → Ok a ≡ judged_of (kind d S p) (evaluate d S p) → a.left ≤ length p
judged-size S d p {a} e = either (kind d S p)
    (λ x k. by x (kind-part S d p x k).short (evaluate d S p) (rw k at e))
    (λ f k. absurd (let z : Ok a ≡ Err f = rw k at e in cc))
  where
    by : (x : Kind × List ℤ) → length x.1 ≤ length p → (m : Res (Value × List ℤ)) → Ok a ≡ judged_of (got x) m → a.left ≤ length p
    by x l (got y) i = let j : a ≡ known y.0 (length x.1) = cc in rw j l
    by x l (stop f) i = let j : a ≡ unknown x.0 (length x.1) = cc in rw j l

value-size : (S : Cells) (d : ℕ) (p : List ℤ) {a : Valued} → Ok a ≡ value_only (evaluate d S p) → a.left ≤ length p
value-size S d p {a} e = either (evaluate d S p)
    (λ y k. let i : Ok a ≡ Ok (known y.0 (length y.1)) = rw k at e in let j : a ≡ known y.0 (length y.1) = cc in rw j (evaluate-part S d p y k).short)
    (λ f k. absurd (let z : Ok a ≡ Err f = rw k at e in cc))

valued-size : (inside : Bool) (S : Cells) (d : ℕ) (p : List ℤ) {a : Valued} → Ok a ≡ valued_at inside d S p → a.left ≤ length p
unfolding valued_at
valued-size true S d p e = judged-size S d p e
valued-size false S d p e = value-size S d p e

-- ---- the loop: no operand is seen yet, or the left one is

pub record Left (inside : Bool) (S : Cells) (p : List ℤ) (row : Row) (left : ℕ) (a : Valued) : Type 0 where
  pub operator : row.operator ≡ None → ⊥
  pub reads : Reads inside S row.depth (drop 1 (drop 1 p)) a.value a.exact (last_of left p)

pub record Walking (inside : Bool) (S : Cells) (p : List ℤ) (row : Row) (left : ℕ) (first : Option Valued) : Type 0 where
  pub start : first ≡ None → left ≡ row.left
  pub then : (a : Valued) → first ≡ Some a → Left inside S p row left a

-- one operand is to come after the first
abbrev pub to_come : Option Valued → ℕ
to_come None = 1
to_come (Some a) = 0

-- either there is none, or there is one
option : {A B : Type 0} (x : Option A) → (x ≡ None → B) → ((a : A) → x ≡ Some a → B) → B
option None f g = f refl
option (Some a) f g = g a refl

pub walking-starts : {inside : Bool} {S : Cells} {p : List ℤ} {row : Row} → Walking inside S p row row.left None
walking-starts = record { start = λ _. refl; then = λ a e. absurd cc }

module _ {d : ℕ} {p : List ℤ} {m : Result Row Refusal} {row : Row} (rows : Rows d p m) (fine : m ≡ Ok row) where
  -- an only operand is the expression itself
  only : {inside : Bool} {S : Cells} {left : ℕ} {first : Option Valued} → Walking inside S p row left first → row.operator ≡ None → {q : List ℤ} → q ≡ last_of left p → q ≡ p
  only {left = left} {first = first} w o {q = q} e = option first
      (λ s.
      let l : left ≡ length p = w.start s ∙ (rows.alone row fine o).start in
      e ∙ ((rw l) ∙ last-all p))
      (λ a s. absurd ((w.then a s).operator o))

  -- the left one begins after the operator
  left_one : {inside : Bool} {S : Cells} {left : ℕ} {first : Option Valued} → Walking inside S p row left first → first ≡ None → {o : Op} → row.operator ≡ Some o → {q : List ℤ} → q ≡ last_of left p → q ≡ drop 1 (drop 1 p)
  left_one {left = left} w s {o = o} h e =
      let l : left ≡ length (drop 1 (drop 1 p)) = w.start s ∙ (rows.two row o fine h).start in
      e ∙ ((rw l) ∙ (part-trans (part-drop 1 p) (part-drop 1 (drop 1 p))).is)

  module _ {inside : Bool} {S : Cells} {left : ℕ} {first : Option Valued} (w : Walking inside S p row left first) {q : List ℤ} (l : q ≡ last_of left p) where
    -- where the operand has operands of its own, it is a level deeper
    pub operand-falls : cond (eqb (number_at q 0) 25) (row.depth + row.depth + 2) 0 < d + d + 1
    operand-falls = option row.operator
        (λ o.
        let n : number_at q 0 ≡ 25 → ⊥ = rw (only w o l) (rows.alone row fine o).none in
        rw (ne_eqb (number_at q 0) 25 n) (omega arith))
        (λ o h.
        let t = rows.two row o fine h in
        let n : row.depth + row.depth + 2 < d + d + 1 = rw t.nest (omega (arith, t.deep)) in
        cases (eqb (number_at q 0) 25) (λ k. rw k n) (λ k. rw k (omega arith)))

    pub ends-alone : {j : Valued} → row.operator ≡ None → Ok j ≡ valued_at inside row.depth S q → Ok j ≡ valued_at inside d S p
    ends-alone o e = rw (only w o l, (rows.alone row fine o).nest) at e

    pub ends-refused : {f : Refusal} → Err f ≡ valued_at inside row.depth S q → Err f ≡ valued_at inside d S p
    ends-refused {f = f} e = option row.operator
        (λ o. rw (only w o l, (rows.alone row fine o).nest) at e)
        (λ o h.
        let t = rows.two row o fine h in
        option first
        (λ s. left-refused S d p t.deep t.is t.least t.most inside (rw (left_one w s h l, t.nest) at e))
        (λ a s.
        let r : Reads inside S (d - 1) (drop 1 (drop 1 p)) a.value a.exact q = rw (l, ← t.nest) (w.then a s).reads in
        right-refused S d p t.deep t.is t.least t.most inside a.exact r (rw t.nest at e)))

    module _ {o : Op} (h : row.operator ≡ Some o) {j : Valued} (e : Ok j ≡ valued_at inside row.depth S q) where
      pub ends-settled : {a : Valued} → first ≡ Some a → settled_by inside o a j (length p) ≡ valued_at inside d S p
      ends-settled {a = a} s =
          let t = rows.two row o fine h in
          let r : Reads inside S (d - 1) (drop 1 (drop 1 p)) a.value a.exact q = rw (l, ← t.nest) (w.then a s).reads in
          let i : Part p q = rw l (last-part left p) in
          let y : Reads inside S (d - 1) q j.value j.exact (last_of j.left p) = rw (← t.nest) (operand-reads S row.depth q i inside e refl) in
          let m : j.left ≤ length p = (let k = valued-size inside S row.depth q e in omega (arith, k, i.short)) in
          rw t.operator (both-settled S d p t.deep t.is t.least t.most inside a j r y (sym (last-length j.left p m)))

      pub walking-goes-on : first ≡ None → Walking inside S p row j.left (Some j)
      walking-goes-on s =
          let f : q ≡ drop 1 (drop 1 p) = left_one w s h l in
          let i : Part p (drop 1 (drop 1 p)) = part-trans (part-drop 1 p) (part-drop 1 (drop 1 p)) in
          record {
            start = λ z. absurd cc;
            then = λ a z.
                (let k : j ≡ a = cc in
                rw (← k) (record { operator = λ n. absurd (let y : Some o ≡ None = sym h ∙ n in cc); reads = operand-reads S row.depth (drop 1 (drop 1 p)) i inside (rw f at e) refl }));
          }

-- ---- outside C

module _ (S : Cells) (d : ℕ) (p : List ℤ) {r : Result Valued Refusal} (e : r ≡ valued_at false d S p) where
  pub value-fails : {f : Refusal} → r ≡ Err f → Err f ≡ evaluated_of (evaluate d S p)
  unfolding valued_at
  value-fails h = by (evaluate d S p) (sym e ∙ h)
    where
      by : {f : Refusal} (m : Res (Value × List ℤ)) → value_only m ≡ Err f → Err f ≡ evaluated_of m
      by (got x) i = cc
      by (stop f) i = cc

  pub value-comes : {j : Valued} → r ≡ Ok j → Ok (record { value = j.value; left = j.left }) ≡ evaluated_of (evaluate d S p)
  unfolding valued_at
  value-comes h = by (evaluate d S p) (sym e ∙ h)
    where
      by : {j : Valued} (m : Res (Value × List ℤ)) → value_only m ≡ Ok j → Ok (record { value = j.value; left = j.left }) ≡ evaluated_of m
      by {j = j} (got x) i = let k : j ≡ known x.0 (length x.1) = cc in rw k
      by (stop f) i = cc
