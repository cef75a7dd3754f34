-- Expressions are read as they are judged: an operator groups what it does not bind tighter than. Assumes that tokens and white space make up a text.
use Prim.Native.Nat.{ℕ, zero, suc, ◌+◌, ◌-◌, ◌≤◌, ◌<◌}
use mathlib.Core.Path.{◌≡◌, refl, sym, ap, ◌∙◌}
use mathlib.Core.Bool.{Bool, true, false, not, cond, ◌&&◌}
use mathlib.Core.List.{List, [], ◌∷◌}
use native.Mathlib.Omega.{arith}
use lib.Dec.{eqb, ltb, leb}
use lib.ListN.{length}
use borrow.Author.Tests.{ltb-true, ltb-false, leb-true, leb-false, lt-ltb, le-ltb, le-leb, lt-leb, eq-eqb, ne_eqb}
use Rattle.words.specs.Answer.{Answer, got, ◌>>=◌}
use Rattle.words.proofs.AnswerLaws.{got-inj, stop≢got, step, tested}
use Rattle.tables.proofs.SearchLaws.{cases, and_left, and_right, and-false}
use Rattle.program.specs.Forms.{most_words, expression_depth}
use Rattle.tokens.specs.Codes.{end_code, too_long, open_bracket_code, close_bracket_code}
use Rattle.tokens.specs.Claims.{MakesUp}
use Rattle.text.specs.Reading.{Fault, fault, Reader, Form, passing, level_of, is_operator, peek, is, take, operand, enough, opened, over, joins, onwards, climb, expression, expression_on}
use Rattle.text.specs.Judge.{Sort, Open, Awaited, deeper, grouped, closed, bracketed, levels, may_operand, may_operator, may, there}
use Rattle.text.proofs.AnswerSteps.{take_within}
use Rattle.text.proofs.ExpressionLaws.{level-some}
use Rattle.text.proofs.Leads.{pass, Leads, leads-here, leads-then, leads-as, leads-to, onward, strictly, take-leads, unfit-leads}
use Rattle.text.proofs.JudgePaths.{operand-leads, operand-one}

-- b brackets, opened one after the other
abbrev brackets : ℕ → List Open → List Open
brackets zero os = os
brackets (suc b) os = Open.bracket ∷ brackets b os

levels-brackets : (b : ℕ) (os : List Open) → levels (brackets b os) ≡ levels os
unfolding levels
levels-brackets zero os = refl
levels-brackets (suc b) os = levels-brackets b os

-- an operator of this level binds tighter than the one that it stands under
abbrev Under : ℕ → List Open → Type 0
Under l [] = Unit {0}
Under l (Open.bracket ∷ os) = Unit {0}
Under l (Open.operator k d ∷ os) = k < l

under_more : {l m : ℕ} (os : List Open) → l ≤ m → Under l os → Under m os
under_more [] h u = tt
under_more (Open.bracket ∷ os) h u = tt
under_more (Open.operator k d ∷ os) h u = omega (arith, h, u)

grouped-none : (l d : ℕ) (os : List Open) → Under l os → grouped l d os ≡ (d, os)
unfolding grouped
grouped-none l d [] u = refl
grouped-none l d (Open.bracket ∷ os) u = refl
grouped-none l d (Open.operator k e ∷ os) u = rw (lt-leb l k u)

with-true : (a b : Bool) → b ≡ true → (a && b) ≡ false → a ≡ false
with-true true b c e = sym c ∙ e
with-true false b c e = refl

module _ (text : List ℕ) (makes-up : MakesUp) where
  took : (k : ℕ) (r s : Reader) → take text k r ≡ got s → s.at ≡ (peek text r).end
  unfolding take peek
  took k r s e = tested (fault 22 (peek text r).place) (not r.passed && leb (r.certain + r.owed + k) most_words) _ e λ c j. ap (λ z. z.at) (sym (got-inj j))

  module _ (in_c : Bool) (os : List Open) (a : Awaited) where
    opened-leads : (fuel b : ℕ) (r : Reader) → Leads text (Awaited.operand in_c (brackets b os) a) r (λ x. (Awaited.operand in_c (brackets x.0 os) a, x.1)) (opened text fuel b r)
    unfolding opened may may_operand peek
    opened-leads zero b r = leads-here text refl (λ o z. z)
    opened-leads (suc fuel) b r =
        cases (is text r open_bracket_code)
        (λ e. rw e
        (leads-as text {b = Awaited.token open_bracket_code Sort.other 0 (Awaited.operand in_c (brackets (suc b) os) a)} {s = r} refl refl (rw e)
        (leads-then text (take text 0 r) _ (take-leads text makes-up open_bracket_code 0 (Awaited.operand in_c (brackets (suc b) os) a) r e refl) λ s i.
        opened-leads fuel (suc b) s)))
        (λ e. rw e (leads-here text refl (λ o z. z)))

  opened-ends : (fuel b : ℕ) (r : Reader) (x : ℕ × Reader) → r.at ≤ length text → length text < fuel + r.at → opened text fuel b r ≡ got x → is text x.1 open_bracket_code ≡ false
  unfolding opened
  opened-ends zero b r x l m e = absurd (omega (arith, l, m))
  opened-ends (suc fuel) b r x l m e =
      cases (is text r open_bracket_code)
      (λ c. step (take text 0 r) _ (rw c at e) λ s i j.
      let p = took 0 r s i in
      opened-ends fuel (suc b) s x (omega (arith, p, (onward text makes-up r open_bracket_code c refl l).1)) (omega (arith, m, p, strictly text makes-up r open_bracket_code c refl refl l)) j)
      (λ c. rw (ap (λ z. is text z.1 open_bracket_code) (sym (got-inj (rw c at e)))) c)

  -- the right operand is whole where the token behind it does not bind tighter than the operator
  whole_again : (in_c : Bool) (l d e : ℕ) (os : List Open) (a : Awaited) (r : Reader) → joins text (suc l) (peek text r) ≡ false
      → may text (Awaited.behind in_c e (Open.operator l d ∷ os) a) r (there text r) ≡ may text (Awaited.behind in_c (deeper d e) os a) r (there text r)
  unfolding may bracketed closed grouped peek
  whole_again in_c l d e os a r h =
      cases (is_operator (there text r).code)
      (λ c.
      let i : leb (level_of ((there text r).code - 40)) l ≡ true = le-leb (level_of ((there text r).code - 40)) l (let z = leb-false (suc l) (level_of ((there text r).code - 40)) (rw c at h) in omega (arith, z)) in
      rw (c, i))
      (λ c. rw c)

  module _ (go : ℕ → Reader → Answer Fault (Form × Reader)) (left low : ℕ) where
    onwards-ends : (fuel b : ℕ) (e : Form) (r : Reader) (x : Form × Reader) → onwards text go fuel left low b e r ≡ got x → joins text low (peek text x.1) ≡ false
    unfolding onwards
    onwards-ends zero b e r x h = stop≢got h
    onwards-ends (suc fuel) b e r x h =
        cases (is text r close_bracket_code && ltb 0 b)
        (λ c. step (take text 0 r) _ (rw c at h) λ s i j. onwards-ends fuel (b - 1) e s x j)
        (λ c. cases (joins text (cond (ltb 0 b) 1 low) (peek text r))
        (λ d. step (take text 2 (passing (ltb left e.depth) r)) _ (rw (c, d) at h) λ s i j. step (go _ s) _ j λ f k l. onwards-ends fuel b _ f.1 x l)
        (λ d. cases (ltb 0 b)
        (λ f. stop≢got (rw (f) at (rw (c, d) at h)))
        (λ f. rw (ap (λ z. joins text low (peek text z.1)) (sym (got-inj (rw f at (rw (c, d) at h))))) (rw f at d))))

  module _ (in_c : Bool) (os : List Open) (a : Awaited) (go : ℕ → Reader → Answer Fault (Form × Reader)) (left low : ℕ) (deep : levels os + suc left ≡ expression_depth) (under : Under low os)
      (go-leads : 1 ≤ left → (l d b : ℕ) (v : Reader) → v.at ≤ length text
      → Leads text (Awaited.operand in_c (Open.operator l d ∷ brackets b os) a) v (λ x. (Awaited.behind in_c x.0.depth (Open.operator l d ∷ brackets b os) a, x.1)) (go (suc l) v))
      (go-ends : (l : ℕ) (v : Reader) (x : Form × Reader) → go (suc l) v ≡ got x → joins text (suc l) (peek text x.1) ≡ false) where
    abbrev Onwards : ℕ → ℕ → Form → Reader → Type 0
    Onwards fuel b e r = Leads text (Awaited.behind in_c e.depth (brackets b os) a) r (λ x. (Awaited.behind in_c x.0.depth os a, x.1)) (onwards text go fuel left low b e r)

    -- "an operator with which an operand would stand on level 17"
    same-limit : (b d : ℕ) → ltb expression_depth (levels (brackets b os) + 1 + d) ≡ ltb left d
    same-limit b d =
        let i = levels-brackets b os in
        cases (ltb left d)
        (λ c. rw c (lt-ltb expression_depth (levels (brackets b os) + 1 + d) (let z = ltb-true left d c in omega (arith, i, deep, z))))
        (λ c. rw c (le-ltb expression_depth (levels (brackets b os) + 1 + d) (let z = ltb-false left d c in omega (arith, i, deep, z))))

    operator-leads : (fuel b : ℕ) (e : Form) (r : Reader) → 1 ≤ e.depth → r.at ≤ length text → length text < suc fuel + r.at
        → is_operator (peek text r).code ≡ true → Under (level_of ((peek text r).code - 40)) (brackets b os)
        → ((f : Form) (v : Reader) → 1 ≤ f.depth → v.at ≤ length text → length text < fuel + v.at → Onwards fuel b f v)
        → Leads text (Awaited.behind in_c e.depth (brackets b os) a) r (λ x. (Awaited.behind in_c x.0.depth os a, x.1))
        (take text 2 (passing (ltb left e.depth) r) >>= λ s. go (suc (level_of ((peek text r).code - 40))) s >>= λ f.
        onwards text go fuel left low b (over text (peek text r) e f.0) f.1)
    unfolding may may_operator peek
    operator-leads fuel b e r d l m c u ih =
        let code = (there text r).code in
        let lv = level_of ((there text r).code - 40) in
        let least : 41 ≤ code = leb-true 41 code (and_left _ _ c) in
        let here : eqb code code ≡ true = eq-eqb code code refl in
        let whole : eqb code too_long ≡ false = ne_eqb code too_long (λ z. omega (arith, least, z)) in
        let ended : eqb code end_code ≡ false = ne_eqb code end_code (λ z. omega (arith, least, z)) in
        let close : (bracketed (brackets b os) && eqb code close_bracket_code) ≡ false =
        and-false (bracketed (brackets b os)) (eqb code close_bracket_code) (ne_eqb code close_bracket_code (λ z. omega (arith, least, z))) in
        let s = passing (ltb left e.depth) r in
        let then : Awaited = Awaited.operand in_c (Open.operator lv e.depth ∷ brackets b os) a in
        leads-as text {b = Awaited.token code Sort.other 2 then} {s = s} refl refl (rw (close, c, grouped-none lv e.depth (brackets b os) u, same-limit b e.depth, here))
        (leads-then text (take text 2 s) _ (take-leads text makes-up code 2 then s here whole) λ v i.
        let p = took 2 s v i in
        let w : v.at ≤ length text = omega (arith, p, (onward text makes-up r code here whole l).1) in
        let some : 1 ≤ left = (let z = ltb-false left e.depth (take_within text 2 (ltb left e.depth) r v i) in omega (arith, z, d)) in
        leads-then text (go (suc lv) v) _ (go-leads some lv e.depth b v w) λ f j.
        let q = (go-leads some lv e.depth b v w).forth f j w in
        leads-as text {b = Awaited.behind in_c (deeper e.depth f.0.depth) (brackets b os) a} {s = f.1} refl refl
        (whole_again in_c lv e.depth f.0.depth (brackets b os) a f.1 (go-ends lv v f j))
        (ih (over text (there text r) e f.0) f.1 (omega arith) q.1 (omega (arith, m, p, q.0, strictly text makes-up r code here whole ended l))))

    onwards-leads : (fuel b : ℕ) (e : Form) (r : Reader) → 1 ≤ e.depth → r.at ≤ length text → length text < fuel + r.at → Onwards fuel b e r
    unfolding onwards may bracketed closed peek
    onwards-leads zero b e r d l m = absurd (omega (arith, l, m))
    onwards-leads (suc fuel) zero e r d l m =
        rw (and-false (is text r close_bracket_code) (ltb 0 0) refl)
        (cases (joins text low (peek text r))
        (λ c. rw c
        (operator-leads fuel 0 e r d l m (and_left _ _ c) (under_more os (leb-true low (level_of ((peek text r).code - 40)) (and_right (is_operator (peek text r).code) _ c)) under)
        (λ f v. onwards-leads fuel 0 f v)))
        (λ c. rw c (leads-here text refl (λ o z. z))))
    onwards-leads (suc fuel) (suc b) e r d l m =
        let some : ltb 0 (suc b) ≡ true = lt-ltb 0 (suc b) (omega arith) in
        let less : suc b - 1 ≡ b = omega arith in
        cases (is text r close_bracket_code)
        (λ c. rw (c, some, less)
        (leads-as text {b = Awaited.token close_bracket_code Sort.other 0 (Awaited.behind in_c e.depth (brackets b os) a)} {s = r} refl refl (rw c)
        (leads-then text (take text 0 r) _ (take-leads text makes-up close_bracket_code 0 (Awaited.behind in_c e.depth (brackets b os) a) r c refl) λ s i.
        let p = took 0 r s i in
        onwards-leads fuel b e s d (omega (arith, p, (onward text makes-up r close_bracket_code c refl l).1)) (omega (arith, m, p, strictly text makes-up r close_bracket_code c refl refl l)))))
        (λ c. rw (c, some)
        (cases (joins text 1 (peek text r))
        (λ j. rw j (operator-leads fuel (suc b) e r d l m (and_left _ _ j) tt (λ f v. onwards-leads fuel (suc b) f v)))
        (λ j. rw j
        (unfit-leads text makes-up (Awaited.behind in_c e.depth (brackets (suc b) os) a) r
        (rw (c, with-true (is_operator (peek text r).code) _ (level-some ((peek text r).code - 40)) j))))))

  climb-ends : (left : ℕ) (in_c : Bool) (low : ℕ) (r : Reader) (x : Form × Reader) → climb text left in_c low r ≡ got x → joins text low (peek text x.1) ≡ false
  unfolding climb
  climb-ends zero in_c low r x e = stop≢got e
  climb-ends (suc left) in_c low r x e =
      step (opened text (enough text) 0 r) _ e λ y i j. step (operand text in_c y.1) _ j λ f k l.
      onwards-ends (λ z v. climb text left in_c z v) left low (enough text) y.0 f.0 f.1 x l

  climb-leads : (left : ℕ) (in_c : Bool) (os : List Open) (a : Awaited) (low : ℕ) (r : Reader) → 1 ≤ left → levels os + left ≡ expression_depth → Under low os → r.at ≤ length text
      → Leads text (Awaited.operand in_c os a) r (λ x. (Awaited.behind in_c x.0.depth os a, x.1)) (climb text left in_c low r)
  unfolding climb levels peek
  climb-leads zero in_c os a low r h d u l = absurd (omega (arith, h))
  climb-leads (suc left) in_c os a low r h d u l =
      leads-then text (opened text (enough text) 0 r) _ (opened-leads in_c os a (enough text) 0 r) λ y i.
      let p = (opened-leads in_c os a (enough text) 0 r).forth y i l in
      let n : is text y.1 open_bracket_code ≡ false = opened-ends (enough text) 0 r y l (omega arith) i in
      leads-then text (operand text in_c y.1) _ (operand-leads text makes-up in_c (brackets y.0 os) a y.1 n) λ e j.
      let q = (operand-leads text makes-up in_c (brackets y.0 os) a y.1 n).forth e j p.1 in
      let one = operand-one text makes-up in_c y.1 e j in
      leads-as text {b = Awaited.behind in_c e.0.depth (brackets y.0 os) a} {s = e.1} refl refl (rw one)
      (onwards-leads in_c os a (λ z v. climb text left in_c z v) left low d u
      (λ s k w b v m. climb-leads left in_c (Open.operator k w ∷ brackets b os) a (suc k) v s (let g = levels-brackets b os in omega (arith, g, d)) (omega arith) m)
      (λ k v x g. climb-ends left in_c (suc k) v x g)
      (enough text) y.0 e.0 e.1 (omega (arith, one)) q.1 (omega arith))

  -- an expression is whole where no operator follows
  behind-over : (in_c : Bool) (d : ℕ) (a : Awaited) (r : Reader) → joins text 1 (peek text r) ≡ false
      → may text (Awaited.behind in_c d [] a) r (there text r) ≡ may text a r (there text r)
  unfolding may bracketed peek
  behind-over in_c d a r j = rw (with-true (is_operator (there text r).code) _ (level-some ((there text r).code - 40)) j)

  pub expression-leads : (in_c : Bool) (a : Awaited) (r : Reader) → r.at ≤ length text → Leads text (Awaited.operand in_c [] a) r (λ x. (a, x.1)) (expression text in_c r)
  unfolding expression levels
  expression-leads in_c a r l =
      leads-to text (climb-leads expression_depth in_c [] a 1 r (omega arith) refl tt l) (λ x e. refl)
      (λ x e o z. pass text refl (behind-over in_c x.0.depth a x.1 (climb-ends expression_depth in_c 1 r x e)) z)

  pub expression-on-leads : (in_c : Bool) (a : Awaited) (e : Form) (r : Reader) → 1 ≤ e.depth → r.at ≤ length text
      → Leads text (Awaited.behind in_c e.depth [] a) r (λ x. (a, x.1)) (expression_on text in_c e r)
  unfolding expression_on levels
  expression-on-leads in_c a e r d l =
      leads-to text
      (onwards-leads in_c [] a (λ z v. climb text (expression_depth - 1) in_c z v) (expression_depth - 1) 1 refl tt
      (λ s k w b v m. climb-leads (expression_depth - 1) in_c (Open.operator k w ∷ brackets b []) a (suc k) v s (let g = levels-brackets b [] in omega (arith, g)) (omega arith) m)
      (λ k v x g. climb-ends (expression_depth - 1) in_c (suc k) v x g)
      (enough text) 0 e r d l (omega arith))
      (λ x i. refl)
      (λ x i o z. pass text refl (behind-over in_c x.0.depth a x.1 (onwards-ends (λ z v. climb text (expression_depth - 1) in_c z v) (expression_depth - 1) 1 (enough text) 0 e r x i)) z)
