-- Constraints and fields are read as they are judged. Assumes that tokens and white space make up a text.
use Prim.Native.Nat.{ℕ, zero, suc, ◌+◌, ◌-◌, ◌≤◌}
use mathlib.Core.Path.{◌≡◌, refl}
use mathlib.Core.Bool.{true, false, ◌&&◌}
use mathlib.Core.List.{List, [], ◌∷◌}
use native.Mathlib.Omega.{arith}
use lib.Dec.{eqb, ltb, leb}
use lib.ListN.{length}
use lib.IntN.{pos}
use borrow.Author.Tests.{leb-true, lt-ltb, eq-eqb, ne_eqb}
use Rattle.tables.specs.Sizes.{most_fields}
use Rattle.tables.proofs.SearchLaws.{cases, and_left}
use Rattle.program.specs.Forms.{most_parts, most_steps, required}
use Rattle.tokens.specs.Codes.{name_code, too_long, weak_code, colon_code, comma_code, identical_code, beside_code, open_brace_code, close_brace_code}
use Rattle.tokens.specs.Claims.{MakesUp}
use Rattle.text.specs.Reading.{Reader, Form, word_then, owing, passing, peek, is, take, need, label, path, expression, expression_on}
use Rattle.text.specs.Reading.{priority, part_at, parts_on, constraint_on, stated_on, stated, field_at, fields_on, fields_at}
use Rattle.text.specs.Judge.{Sort, Awaited, only, side, path_stated, stated as awaited_stated, braces, may_part, may_field, may, there}
use Rattle.text.proofs.Leads.{pass, Leads, leads-here, leads-then, leads-on, leads-as, take-leads, need-leads, label-leads}
use Rattle.text.proofs.JudgePaths.{path-leads}
use Rattle.text.proofs.AnswerSteps.{passing-one, field-never}
use Rattle.text.proofs.JudgeExpressions.{expression-leads, expression-on-leads}

module _ (text : List ℕ) (makes-up : MakesUp) where
  pub part-leads : (a : Awaited) (r : Reader) → r.at ≤ length text → Leads text (Awaited.part a) r (λ x. (a, x.1)) (part_at text r)
  unfolding part_at priority may may_part peek
  part-leads a r l =
      let code = (there text r).code in
      let some : ltb 0 (suc (code - weak_code)) ≡ true = lt-ltb 0 (suc (code - weak_code)) (omega arith) in
      let here : eqb code code ≡ true = eq-eqb code code refl in
      cases (leb weak_code code && leb code (weak_code + 2))
      (λ c. rw (c, some)
      (leads-as text {b = Awaited.token code Sort.other 1 (Awaited.operand true [] a)} {s = r} refl refl (rw (c, here))
      (leads-on text (take text 1 r) _ l
      (take-leads text makes-up code 1 (Awaited.operand true [] a) r here (ne_eqb code too_long (λ z. let w = leb-true weak_code code (and_left _ _ c) in omega (arith, z, w)))) λ s i m.
      leads-then text (expression text true s) _ (expression-leads text makes-up true a s m) λ f j.
      leads-here text refl (λ o z. z))))
      (λ c. rw c
      (leads-as text {b = Awaited.operand true [] a} {s = owing 1 r} refl refl (rw c)
      (leads-then text (expression text true (owing 1 r)) _ (expression-leads text makes-up true a (owing 1 r) l) λ f j.
      leads-here text refl (λ o z. z))))

  pub parts-leads : (n : ℕ) (a : Awaited) (r : Reader) → r.at ≤ length text → Leads text (Awaited.parts n a) r (λ x. (a, x.1.1)) (parts_on text n r)
  unfolding parts_on may peek
  parts-leads zero a r l =
      cases (is text r beside_code)
      (λ e. rw e
      (leads-as text {b = Awaited.token beside_code Sort.other 0 (Awaited.beyond (Awaited.part a))} {s = r} refl refl (rw e)
      (leads-on text (take text 0 r) _ l (take-leads text makes-up beside_code 0 (Awaited.beyond (Awaited.part a)) r e refl) λ s i m.
      leads-as text {b = Awaited.part a} {s = passing true s} refl refl refl
      (leads-then text (part_at text (passing true s)) _ (part-leads a (passing true s) m) λ f j.
      leads-here text refl (λ o z. z)))))
      (λ e. rw e (leads-here text refl (λ o z. pass text refl (rw e) z)))
  parts-leads (suc n) a r l =
      cases (is text r beside_code)
      (λ e. rw e
      (leads-as text {b = Awaited.token beside_code Sort.other 0 (Awaited.part (Awaited.parts n a))} {s = r} refl refl (rw e)
      (leads-on text (take text 0 r) _ l (take-leads text makes-up beside_code 0 (Awaited.part (Awaited.parts n a)) r e refl) λ s i m.
      leads-on text (part_at text s) _ m (part-leads (Awaited.parts n a) s m) λ f j p.
      leads-then text (parts_on text n f.1) _ (parts-leads n a f.1 p) λ g k.
      leads-here text refl (λ o z. z))))
      (λ e. rw e (leads-here text refl (λ o z. pass text refl (rw e) z)))

  constraint-leads : (a : Awaited) (p : ℕ) (f : Form) (r : Reader) → r.at ≤ length text → Leads text (Awaited.parts (most_parts - 1) a) r (λ x. (a, x.1)) (constraint_on text p f r)
  unfolding constraint_on
  constraint-leads a p f r l = leads-then text (parts_on text (most_parts - 1) r) _ (parts-leads (most_parts - 1) a r l) λ g k. leads-here text refl (λ o z. z)

  -- ---- behind `always` and `once`

  stated-on-leads : (verb p q : ℕ) (a : Awaited) (f : Form) (r : Reader) → r.at ≤ length text → Leads text (path_stated a) r (λ x. (a, x.1)) (stated_on text verb p q f r)
  unfolding stated_on may peek
  stated-on-leads verb p q a f r l =
      cases (is text r identical_code)
      (λ e. rw e
      (leads-as text {b = Awaited.token identical_code Sort.other 0 (side a)} {s = r} refl refl (rw e)
      (leads-then text (take text 0 r) _ (take-leads text makes-up identical_code 0 (side a) r e refl) λ s i.
      leads-then text (path text 2 s) _ (path-leads text makes-up 2 a s) λ g j.
      leads-here text refl (λ o z. z))))
      (λ e. rw e
      (leads-as text {b = Awaited.behind true 1 [] (Awaited.parts (most_parts - 1) a)} {s = owing 3 r} refl refl (rw e)
      (leads-on text (expression_on text true (word_then (pos 24) q f) (owing 3 r)) _ l
      (expression-on-leads text makes-up true (Awaited.parts (most_parts - 1) a) (word_then (pos 24) q f) (owing 3 r) (omega arith) l) λ g i m.
      leads-then text (constraint_on text q (word_then (pos required) q g.0) g.1) _ (constraint-leads a q (word_then (pos required) q g.0) g.1 m) λ c j.
      leads-here text refl (λ o z. z))))

  pub stated-leads : (verb p : ℕ) (a : Awaited) (r : Reader) → r.at ≤ length text → Leads text (awaited_stated a) r (λ x. (a, x.1)) (stated text verb p r)
  unfolding stated may peek
  stated-leads verb p a r l =
      cases (is text r name_code)
      (λ e. rw e
      (leads-as text {b = Awaited.token name_code Sort.variable 2 (Awaited.steps most_steps (path_stated a))} {s = r} refl refl (rw e)
      (leads-on text (path text 2 r) _ l (path-leads text makes-up 2 (path_stated a) r) λ f i m.
      stated-on-leads verb p (peek text r).place a f.0 f.1 m)))
      (λ e. rw e
      (leads-as text {b = Awaited.part (Awaited.parts (most_parts - 1) a)} {s = owing 1 r} refl refl (rw e)
      (leads-on text (part_at text (owing 1 r)) _ l (part-leads (Awaited.parts (most_parts - 1) a) (owing 1 r) l) λ f i m.
      leads-then text (constraint_on text (peek text r).place f.0 f.1) _ (constraint-leads a (peek text r).place f.0 f.1 m) λ c j.
      leads-here text refl (λ o z. z))))

  -- ---- fields

  field-leads : (n : ℕ) (seen : List ℕ) (a : Awaited) (r : Reader) → r.at ≤ length text
      → Leads text (Awaited.field n seen a) r (λ x. (Awaited.fields n (x.0 ∷ seen) a, x.1.1)) (field_at text seen r)
  unfolding field_at may may_field peek
  field-leads n seen a r l =
      leads-on text (label text seen r) _ l
      (label-leads text makes-up (Awaited.field n seen a) (λ m. only colon_code (Awaited.operand false [] (Awaited.fields n (m ∷ seen) a))) seen r refl) λ x i m.
      leads-on text (need text colon_code 0 x.1) _ m (need-leads text makes-up colon_code 0 (Awaited.operand false [] (Awaited.fields n (x.0 ∷ seen) a)) x.1 refl) λ s j p.
      leads-then text (expression text false s) _ (expression-leads text makes-up false (Awaited.fields n (x.0 ∷ seen) a) s p) λ f k.
      leads-here text refl (λ o z. z)

  fields-leads : (n : ℕ) (seen : List ℕ) (a : Awaited) (r : Reader) → r.at ≤ length text → Leads text (Awaited.fields n seen a) r (λ x. (a, x.1.1)) (fields_on text n seen r)
  unfolding fields_on may peek
  fields-leads zero seen a r l =
      cases (is text r comma_code)
      (λ e. rw e
      (leads-as text {b = Awaited.token comma_code Sort.other 0 (Awaited.beyond (Awaited.field 0 seen a))} {s = r} refl refl (rw e)
      (leads-on text (take text 0 r) _ l (take-leads text makes-up comma_code 0 (Awaited.beyond (Awaited.field 0 seen a)) r e refl) λ s i m.
      leads-as text {b = Awaited.field 0 seen a} {s = passing true s} refl refl refl
      (leads-then text (field_at text seen (passing true s)) _ (field-leads 0 seen a (passing true s) m) λ f j. field-never text seen (passing true s) f (passing-one s) j))))
      (λ e. rw e (leads-here text refl (λ o z. pass text refl (rw e) z)))
  fields-leads (suc n) seen a r l =
      cases (is text r comma_code)
      (λ e. rw e
      (leads-as text {b = Awaited.token comma_code Sort.other 0 (Awaited.field n seen a)} {s = r} refl refl (rw e)
      (leads-on text (take text 0 r) _ l (take-leads text makes-up comma_code 0 (Awaited.field n seen a) r e refl) λ s i m.
      leads-on text (field_at text seen s) _ m (field-leads n seen a s m) λ f j p.
      leads-then text (fields_on text n (f.0 ∷ seen) f.1.1) _ (fields-leads n (f.0 ∷ seen) a f.1.1 p) λ g k.
      leads-here text refl (λ o z. z))))
      (λ e. rw e (leads-here text refl (λ o z. pass text refl (rw e) z)))

  pub braces-leads : (a : Awaited) (r : Reader) → r.at ≤ length text → Leads text (braces a) r (λ x. (a, x.1.1)) (fields_at text r)
  unfolding fields_at may peek
  braces-leads a r l =
      leads-on text (need text open_brace_code 0 r) _ l
      (need-leads text makes-up open_brace_code 0 (Awaited.either close_brace_code Sort.other 0 a (Awaited.field (most_fields - 1) [] (only close_brace_code a))) r refl) λ s i m.
      cases (is text s close_brace_code)
      (λ e. rw e
      (leads-as text {b = only close_brace_code a} {s = s} refl refl (rw e)
      (leads-then text (take text 0 s) _ (take-leads text makes-up close_brace_code 0 a s e refl) λ u j.
      leads-here text refl (λ o z. z))))
      (λ e. rw e
      (leads-as text {b = Awaited.field (most_fields - 1) [] (only close_brace_code a)} {s = s} refl refl (rw e)
      (leads-on text (field_at text [] s) _ m (field-leads (most_fields - 1) [] (only close_brace_code a) s m) λ f j p.
      leads-then text (fields_on text (most_fields - 1) (f.0 ∷ []) f.1.1) _ (fields-leads (most_fields - 1) (f.0 ∷ []) (only close_brace_code a) f.1.1 p) λ g k.
      leads-then text (need text close_brace_code 0 g.1.1) _ (need-leads text makes-up close_brace_code 0 a g.1.1 refl) λ u q.
      leads-here text refl (λ o z. z))))
