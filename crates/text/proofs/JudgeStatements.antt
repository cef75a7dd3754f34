-- Statements and blocks are read as they are judged. Assumes that tokens and white space make up a text.
use Prim.Native.Nat.{ℕ, zero, suc, ◌+◌, ◌-◌, ◌≤◌}
use mathlib.Core.Path.{◌≡◌, refl, sym, ◌∙◌}
use mathlib.Core.Bool.{Bool, true, false, cond, ◌&&◌}
use mathlib.Core.List.{List, []}
use native.Mathlib.Omega.{arith}
use lib.Dec.{eqb}
use lib.ListN.{length}
use borrow.Author.Tests.{eqb-true, eqb-false, eq-eqb, ne_eqb}
use Rattle.words.specs.Answer.{Answer}
use Rattle.tables.proofs.SearchLaws.{cases}
use Rattle.program.specs.Forms.{most_steps, most_statements}
use Rattle.tokens.specs.Codes.{name_code, new_code, skip_code, always_code, once_code, if_code, then_code, else_code, while_code, do_code, becomes_code, dot_code, semicolon_code, open_brace_code, close_brace_code}
use Rattle.tokens.specs.Claims.{MakesUp}
use Rattle.text.specs.Reading.{Fault, Reader, Form, owing, passing, peek, is, take, need, variable, label, steps, path, expression, fields_at, assignment, statement_at, row_at, block_at}
use Rattle.text.specs.Judge.{Sort, Awaited, only, a_label, braces, assigned, up_to, block, stated as awaited_stated, room, after, stands, may_statement, may, there}
use Rattle.text.proofs.Leads.{pass, Leads, leads-here, leads-then, leads-on, leads-as, take-leads, need-leads, unfit-leads, variable-leads, any-label-leads}
use Rattle.text.proofs.JudgePaths.{steps-leads}
use Rattle.text.proofs.JudgeExpressions.{expression-leads}
use Rattle.text.proofs.JudgeConstraints.{stated-leads, braces-leads}

-- behind `:=`: `new` may come where the path has no label
abbrev new_or : Bool → Awaited → Awaited
new_or true a = Awaited.either new_code Sort.other 0 (braces a) (Awaited.operand false [] a)
new_or false a = Awaited.operand false [] a

two-more : (n : ℕ) → eqb n 0 ≡ eqb (suc (suc n)) 2
two-more n =
    cases (eqb n 0)
    (λ e. e ∙ sym (eq-eqb (suc (suc n)) 2 (let z = eqb-true n 0 e in omega (arith, z))))
    (λ e. e ∙ sym (ne_eqb (suc (suc n)) 2 (λ z. eqb-false n 0 e (omega (arith, z)))))

module _ (text : List ℕ) (makes-up : MakesUp) where
  -- ---- assignments and new

  assigned-steps : (a : Awaited) (r : Reader) → Leads text (assigned a) r (λ f. (only becomes_code (new_or (eqb (length f.0.words) 0) a), f.1)) (steps text most_steps r)
  unfolding steps may peek
  assigned-steps a r =
      cases (is text r dot_code)
      (λ e. rw e
      (let rest : Awaited = Awaited.steps (most_steps - 1) (only becomes_code (Awaited.operand false [] a)) in
      leads-as text {b = Awaited.token dot_code Sort.other 0 (a_label rest)} {s = r} refl refl
      (let c : eqb (there text r).code becomes_code ≡ false = rw (eqb-true (there text r).code dot_code e) in rw (c, e))
      (leads-then text (take text 0 r) _ (take-leads text makes-up dot_code 0 (a_label rest) r e refl) λ s i.
      leads-then text (label text [] s) _ (any-label-leads text makes-up rest s) λ x j.
      leads-then text (steps text (most_steps - 1) x.1) _ (steps-leads text makes-up (most_steps - 1) (only becomes_code (Awaited.operand false [] a)) x.1) λ f k.
      leads-here text refl (λ o z. rw (ne_eqb (suc (length f.0.words)) 0 (λ n. omega (arith, n))) at z))))
      (λ e. rw e
      (leads-here text refl (λ o z. pass text refl
      (cases (eqb (there text r).code becomes_code) (λ c. rw c) (λ c. rw (c, e)))
      z)))

  assigned-path : (k : ℕ) (a : Awaited) (r : Reader)
      → Leads text (Awaited.token name_code Sort.variable k (assigned a)) r (λ f. (only becomes_code (new_or (eqb (length f.0.words) 2) a), f.1)) (path text k r)
  unfolding path
  assigned-path k a r =
      leads-then text (variable text k r) _ (variable-leads text makes-up k (assigned a) r) λ x i.
      leads-then text (steps text most_steps x.1) _ (assigned-steps a x.1) λ f j.
      leads-here text refl (λ o z. rw (two-more (length f.0.words)) z)

  value-leads : (b : Bool) (a : Awaited) (r : Reader) {A : Type 0} (k : A → Awaited × Reader) (m n : Answer Fault A)
      → (is text r new_code ≡ true → b ≡ true → Leads text (only new_code (braces a)) r k m) → Leads text (Awaited.operand false [] a) r k n
      → Leads text (new_or b a) r k (cond (is text r new_code && b) m n)
  unfolding may peek
  value-leads true a r k m n f g =
      cases (is text r new_code)
      (λ e. rw e (leads-as text {b = only new_code (braces a)} {s = r} refl refl (rw e) (f e refl)))
      (λ e. rw e (leads-as text {b = Awaited.operand false [] a} {s = r} refl refl (rw e) g))
  value-leads false a r k m n f g = cases (is text r new_code) (λ e. rw e g) (λ e. rw e g)

  -- "three words at the name"
  three : (a : Awaited) (r : Reader) → stands text Sort.variable 3 a r (there text r) ≡ stands text Sort.variable 2 a (owing 1 r) (there text r)
  unfolding stands room after
  three a r = let e : r.certain + (r.owed + 1) + 2 ≡ r.certain + r.owed + 3 = omega arith in rw e

  assignment-leads : (d : ℕ) (a : Awaited) (r : Reader) → r.at ≤ length text → is text r name_code ≡ true → Leads text (Awaited.statement d a) r (λ x. (a, x.1)) (assignment text r)
  unfolding assignment may may_statement peek
  assignment-leads d a r l e =
      leads-as text {b = Awaited.token name_code Sort.variable 2 (assigned a)} {s = owing 1 r} refl refl (rw (e, three (assigned a) r))
      (leads-on text (path text 2 (owing 1 r)) _ l (assigned-path 2 a (owing 1 r)) λ f i m.
      leads-on text (need text becomes_code 0 f.1) _ m (need-leads text makes-up becomes_code 0 (new_or (eqb (length f.0.words) 2) a) f.1 refl) λ s j p.
      value-leads (eqb (length f.0.words) 2) a s (λ x. (a, x.1)) _ _
      (λ n b.
      leads-on text (take text 0 s) _ p (take-leads text makes-up new_code 0 (braces a) s n refl) λ u k q.
      leads-then text (fields_at text u) _ (braces-leads text makes-up a u q) λ g h.
      leads-here text refl (λ o z. z))
      (leads-then text (expression text false s) _ (expression-leads text makes-up false a s p) λ x k.
      leads-here text refl (λ o z. z)))

  -- ---- statements

  module _ (d : ℕ) (inner : Reader → Answer Fault (Form × Reader))
      (inner-leads : (a : Awaited) (r : Reader) → r.at ≤ length text → Leads text (block d a) r (λ x. (a, x.1)) (inner r)) where
    statement-leads : (a : Awaited) (r : Reader) → r.at ≤ length text → Leads text (Awaited.statement d a) r (λ x. (a, x.1)) (statement_at text inner r)
    unfolding statement_at may may_statement peek
    statement-leads a r l =
        cases (is text r name_code)
        (λ n. rw n (assignment-leads d a r l n))
        (λ n. rw n
        (cases (is text r skip_code)
        (λ s. rw s
        (leads-as text {b = Awaited.token skip_code Sort.other 1 a} {s = r} refl refl (rw (n, s))
        (leads-then text (take text 1 r) _ (take-leads text makes-up skip_code 1 a r s refl) λ v i. leads-here text refl (λ o z. z))))
        (λ s. rw s
        (cases (is text r always_code)
        (λ w. rw w
        (leads-as text {b = Awaited.token always_code Sort.other 1 (awaited_stated a)} {s = r} refl refl (rw (n, s, w))
        (leads-on text (take text 1 r) _ l (take-leads text makes-up always_code 1 (awaited_stated a) r w refl) λ v i m. stated-leads text makes-up 3 (peek text r).place a v m)))
        (λ w. rw w
        (cases (is text r once_code)
        (λ c. rw c
        (leads-as text {b = Awaited.token once_code Sort.other 1 (awaited_stated a)} {s = r} refl refl (rw (n, s, w, c))
        (leads-on text (take text 1 r) _ l (take-leads text makes-up once_code 1 (awaited_stated a) r c refl) λ v i m. stated-leads text makes-up 4 (peek text r).place a v m)))
        (λ c. rw c
        (cases (is text r if_code)
        (λ f. rw f
        (let rest : Awaited = only else_code (block d a) in
        leads-as text {b = Awaited.token if_code Sort.other 1 (Awaited.operand false [] (only then_code (block d rest)))} {s = r} refl refl (rw (n, s, w, c, f))
        (leads-on text (take text 1 r) _ l (take-leads text makes-up if_code 1 (Awaited.operand false [] (only then_code (block d rest))) r f refl) λ v i m.
        leads-on text (expression text false v) _ m (expression-leads text makes-up false (only then_code (block d rest)) v m) λ e j p.
        leads-on text (need text then_code 0 e.1) _ p (need-leads text makes-up then_code 0 (block d rest) e.1 refl) λ u k q.
        leads-on text (inner u) _ q (inner-leads rest u q) λ x h g.
        leads-on text (need text else_code 0 x.1) _ g (need-leads text makes-up else_code 0 (block d a) x.1 refl) λ y t z.
        leads-then text (inner y) _ (inner-leads a y z) λ b t.
        leads-here text refl (λ o z. z))))
        (λ f. rw f
        (cases (is text r while_code)
        (λ b. rw b
        (leads-as text {b = Awaited.token while_code Sort.other 1 (Awaited.operand false [] (only do_code (block d a)))} {s = r} refl refl (rw (n, s, w, c, f, b))
        (leads-on text (take text 1 r) _ l (take-leads text makes-up while_code 1 (Awaited.operand false [] (only do_code (block d a))) r b refl) λ v i m.
        leads-on text (expression text false v) _ m (expression-leads text makes-up false (only do_code (block d a)) v m) λ e j p.
        leads-on text (need text do_code 0 e.1) _ p (need-leads text makes-up do_code 0 (block d a) e.1 refl) λ u k q.
        leads-then text (inner u) _ (inner-leads a u q) λ x h.
        leads-here text refl (λ o z. z))))
        (λ b. rw b (unfit-leads text makes-up (Awaited.statement d a) r (rw (n, s, w, c, f, b))))))))))))))

    abbrev Rows : ℕ → Awaited → Reader → Type 0
    Rows n a r = Leads text (Awaited.statement d (Awaited.row d n a)) r (λ x. (a, x.1.1)) (row_at text inner n r)

    row_last : (a : Awaited) (r : Reader) → r.at ≤ length text → Rows 0 a r
    unfolding row_at may peek
    row_last a r l =
        leads-on text (statement_at text inner r) _ l (statement-leads (Awaited.row d 0 a) r l) λ f i m.
        cases (is text f.1 semicolon_code)
        (λ e. rw e
        (leads-as text {b = only semicolon_code (Awaited.beyond (Awaited.statement d a))} {s = f.1} refl refl (rw e)
        (leads-on text (take text 0 f.1) _ m (take-leads text makes-up semicolon_code 0 (Awaited.beyond (Awaited.statement d a)) f.1 e refl) λ s j p.
        leads-as text {b = Awaited.statement d a} {s = passing true s} refl refl refl
        (leads-then text (statement_at text inner (passing true s)) _ (statement-leads a (passing true s) p) λ g k.
        leads-here text refl (λ o z. z)))))
        (λ e. rw e (leads-here text refl (λ o z. pass text refl (rw e) z)))

    row_more : (n : ℕ) (a : Awaited) → ((s : Reader) → s.at ≤ length text → Rows n a s) → (r : Reader) → r.at ≤ length text → Rows (suc n) a r
    unfolding row_at may peek
    row_more n a ih r l =
        leads-on text (statement_at text inner r) _ l (statement-leads (Awaited.row d (suc n) a) r l) λ f i m.
        cases (is text f.1 semicolon_code)
        (λ e. rw e
        (leads-as text {b = only semicolon_code (Awaited.statement d (Awaited.row d n a))} {s = f.1} refl refl (rw e)
        (leads-on text (take text 0 f.1) _ m (take-leads text makes-up semicolon_code 0 (Awaited.statement d (Awaited.row d n a)) f.1 e refl) λ s j p.
        leads-then text (row_at text inner n s) _ (ih s p) λ g k.
        leads-here text refl (λ o z. z))))
        (λ e. rw e (leads-here text refl (λ o z. pass text refl (rw e) z)))

    pub row-leads : (n : ℕ) (a : Awaited) (r : Reader) → r.at ≤ length text → Rows n a r
    row-leads zero a r l = row_last a r l
    row-leads (suc n) a r l = row_more n a (λ s p. row-leads n a s p) r l

  pub block-leads : (d : ℕ) (a : Awaited) (r : Reader) → r.at ≤ length text → Leads text (block d a) r (λ x. (a, x.1)) (block_at text d r)
  unfolding block_at may peek
  block-leads zero a r l =
      leads-as text {b = Awaited.token open_brace_code Sort.other 1 a} {s = passing true r} refl refl refl
      (leads-then text (need text open_brace_code 1 (passing true r)) _ (need-leads text makes-up open_brace_code 1 a (passing true r) refl) λ s i. leads-here text refl (λ o z. z))
  block-leads (suc d) a r l =
      leads-on text (need text open_brace_code 1 r) _ l (need-leads text makes-up open_brace_code 1 (up_to close_brace_code d a) r refl) λ s i m.
      cases (is text s close_brace_code)
      (λ e. rw e
      (leads-as text {b = only close_brace_code a} {s = s} refl refl (rw e)
      (leads-then text (take text 0 s) _ (take-leads text makes-up close_brace_code 0 a s e refl) λ u j.
      leads-here text refl (λ o z. z))))
      (λ e. rw e
      (leads-as text {b = Awaited.statement d (Awaited.row d (most_statements - 1) (only close_brace_code a))} {s = s} refl refl (rw e)
      (leads-then text (row_at text (λ v. block_at text d v) (most_statements - 1) s) _
      (row-leads d (λ v. block_at text d v) (λ b v. block-leads d b v) (most_statements - 1) (only close_brace_code a) s m) λ g j.
      leads-then text (need text close_brace_code 0 g.1.1) _ (need-leads text makes-up close_brace_code 0 a g.1.1 refl) λ u k.
      leads-here text refl (λ o z. z))))
