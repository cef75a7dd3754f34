-- Paths and operands are read as they are judged. Assumes that tokens and white space make up a text.
use Prim.Native.Nat.{ℕ, zero, suc}
use mathlib.Core.Path.{◌≡◌, refl, sym, ap}
use mathlib.Core.Bool.{Bool, true, false, not, ◌&&◌}
use mathlib.Core.List.{List, []}
use lib.Dec.{eqb}
use lib.ListN.{length}
use lib.IntN.{ℤ}
use borrow.Author.Tests.{eqb-true}
use Rattle.words.specs.Answer.{Answer, got, stop, ◌>>=◌}
use Rattle.words.proofs.AnswerLaws.{got-inj, stop≢got, step}
use Rattle.tables.proofs.SearchLaws.{cases}
use Rattle.program.specs.Forms.{most_steps}
use Rattle.tokens.specs.Codes.{too_long, name_code, number_code, true_code, false_code, nil_code, dot_code, identical_code, open_bracket_code}
use Rattle.tokens.specs.Claims.{MakesUp}
use Rattle.text.specs.Reading.{Reader, Form, passing, peek, is, take, variable, label, steps, path, literal, outside, literal_at, path_or_same, operand}
use Rattle.text.specs.Judge.{Sort, Open, Awaited, a_label, side, same, too_great, may_operand, may, there}
use Rattle.text.proofs.AnswerSteps.{passing-none}
use Rattle.text.proofs.Leads.{pass, Leads, leads-here, leads-then, leads-as, take-leads, unfit-leads, variable-leads, any-label-leads}

module _ (text : List ℕ) (makes-up : MakesUp) where
  pub steps-leads : (n : ℕ) (a : Awaited) (r : Reader) → Leads text (Awaited.steps n a) r (λ x. (a, x.1)) (steps text n r)
  unfolding steps may peek
  steps-leads zero a r =
      cases (is text r dot_code)
      (λ e. rw e
      (leads-as text {b = Awaited.token dot_code Sort.other 0 (Awaited.beyond (a_label a))} {s = r} refl refl (rw e)
      (leads-then text (take text 0 r) _ (take-leads text makes-up dot_code 0 (Awaited.beyond (a_label a)) r e refl) λ s i.
      leads-as text {b = a_label a} {s = passing true s} refl refl refl
      (leads-then text (label text [] (passing true s)) _ (any-label-leads text makes-up a (passing true s)) λ x j.
      leads-here text refl (λ o z. z)))))
      (λ e. rw e (leads-here text refl (λ o z. pass text refl (rw e) z)))
  steps-leads (suc n) a r =
      cases (is text r dot_code)
      (λ e. rw e
      (leads-as text {b = Awaited.token dot_code Sort.other 0 (a_label (Awaited.steps n a))} {s = r} refl refl (rw e)
      (leads-then text (take text 0 r) _ (take-leads text makes-up dot_code 0 (a_label (Awaited.steps n a)) r e refl) λ s i.
      leads-then text (label text [] s) _ (any-label-leads text makes-up (Awaited.steps n a) s) λ x j.
      leads-then text (steps text n x.1) _ (steps-leads n a x.1) λ f k.
      leads-here text refl (λ o z. z))))
      (λ e. rw e (leads-here text refl (λ o z. pass text refl (rw e) z)))

  pub path-leads : (k : ℕ) (a : Awaited) (r : Reader) → Leads text (Awaited.token name_code Sort.variable k (Awaited.steps most_steps a)) r (λ x. (a, x.1)) (path text k r)
  unfolding path
  path-leads k a r =
      leads-then text (variable text k r) _ (variable-leads text makes-up k (Awaited.steps most_steps a) r) λ x i.
      leads-then text (steps text most_steps x.1) _ (steps-leads most_steps a x.1) λ f j.
      leads-here text refl (λ o z. z)

  -- ---- operands

  same-leads : (in_c : Bool) (a : Awaited) (r : Reader) → Leads text (Awaited.token name_code Sort.variable 3 (Awaited.steps most_steps (same in_c a))) r (λ x. (a, x.1)) (path_or_same text in_c r)
  unfolding path_or_same may peek
  same-leads true a r = leads-then text (path text 3 r) _ (path-leads 3 a r) λ f i. leads-here text refl (λ o z. z)
  same-leads false a r =
      leads-then text (path text 3 r) _ (path-leads 3 (same false a) r) λ f i.
      cases (is text f.1 identical_code)
      (λ e. rw e
      (leads-as text {b = Awaited.token identical_code Sort.other 0 (side a)} {s = f.1} refl refl (rw e)
      (leads-then text (take text 0 f.1) _ (take-leads text makes-up identical_code 0 (side a) f.1 e refl) λ s j.
      leads-then text (path text 2 s) _ (path-leads 2 a s) λ g k.
      leads-here text refl (λ o z. z))))
      (λ e. rw e (leads-here text refl (λ o z. pass text refl (rw e) z)))

  -- a literal of one word
  word-leads : (c : ℕ) (a : Awaited) (r : Reader) (f : Form) → is text r c ≡ true → eqb c number_code ≡ false → eqb c too_long ≡ false
      → Leads text (Awaited.token c Sort.other 1 a) r {A = Form × Reader} (λ x. (a, x.1)) (take text 1 (passing (outside text (peek text r)) r) >>= λ s. got (f, s))
  unfolding outside
  word-leads c a r f e n h =
      rw (eqb-true (peek text r).code c e, n, passing-none r)
      (leads-then text (take text 1 r) _ (take-leads text makes-up c 1 a r e h) λ s i. leads-here text refl (λ o z. z))

  number-leads : (a : Awaited) (r : Reader) (f : Form) → is text r number_code ≡ true
      → Leads text (Awaited.token number_code Sort.other 2 a) (passing (too_great text (there text r)) r) {A = Form × Reader} (λ x. (a, x.1))
      (take text 2 (passing (outside text (peek text r)) r) >>= λ s. got (f, s))
  unfolding outside too_great peek
  number-leads a r f e =
      rw e
      (leads-then text (take text 2 (passing (too_great text (there text r)) r)) _
      (take-leads text makes-up number_code 2 a (passing (too_great text (there text r)) r) e refl) λ s i. leads-here text refl (λ o z. z))

  module _ (in_c : Bool) (os : List Open) (a : Awaited) (r : Reader) (no-bracket : is text r open_bracket_code ≡ false) where
    literal-leads : is text r name_code ≡ false → Leads text (Awaited.operand in_c os a) r (λ x. (Awaited.behind in_c 1 os a, x.1)) (literal_at text r (literal text (peek text r)))
    unfolding literal literal_at may may_operand too_great outside peek
    literal-leads n =
        cases (is text r nil_code)
        (λ e. rw e
        (leads-as text {b = Awaited.token nil_code Sort.other 1 (Awaited.behind in_c 1 os a)} {s = r} refl refl (rw (no-bracket, n, e))
        (word-leads nil_code (Awaited.behind in_c 1 os a) r _ e refl refl)))
        (λ d. rw d
        (cases (is text r false_code)
        (λ e. rw e
        (leads-as text {b = Awaited.token false_code Sort.other 1 (Awaited.behind in_c 1 os a)} {s = r} refl refl (rw (no-bracket, n, d, e))
        (word-leads false_code (Awaited.behind in_c 1 os a) r _ e refl refl)))
        (λ c. rw c
        (cases (is text r true_code)
        (λ e. rw e
        (leads-as text {b = Awaited.token true_code Sort.other 1 (Awaited.behind in_c 1 os a)} {s = r} refl refl (rw (no-bracket, n, d, c, e))
        (word-leads true_code (Awaited.behind in_c 1 os a) r _ e refl refl)))
        (λ b. rw b
        (cases (is text r number_code)
        (λ e. rw e
        (leads-as text {b = Awaited.token number_code Sort.other 2 (Awaited.behind in_c 1 os a)} {s = passing (too_great text (there text r)) r} refl refl (rw (no-bracket, n, d, c, b, e))
        (number-leads (Awaited.behind in_c 1 os a) r _ e)))
        (λ e. rw e (unfit-leads text makes-up (Awaited.operand in_c os a) r (rw (no-bracket, n, d, c, b, e))))))))))

    pub operand-leads : Leads text (Awaited.operand in_c os a) r (λ x. (Awaited.behind in_c 1 os a, x.1)) (operand text in_c r)
    unfolding operand may may_operand peek
    operand-leads =
        cases (is text r name_code)
        (λ e. rw e
        (leads-as text {b = Awaited.token name_code Sort.variable 3 (Awaited.steps most_steps (same in_c (Awaited.behind in_c 1 os a)))} {s = r} refl refl (rw (no-bracket, e))
        (same-leads in_c (Awaited.behind in_c 1 os a) r)))
        (λ e. rw e (literal-leads e))

  -- an operand nests 1 deep
  literal-one : (r : Reader) (m : Answer (Unit {0}) (List ℤ)) (x : Form × Reader) → literal_at text r m ≡ got x → x.0.depth ≡ 1
  unfolding literal_at
  literal-one r (got ws) x e = step (take text (length ws) (passing (outside text (peek text r)) r)) _ e λ s i j. ap (λ z. z.0.depth) (sym (got-inj j))
  literal-one r (stop u) x e = stop≢got e

  same-one : (in_c : Bool) (r : Reader) (x : Form × Reader) → path_or_same text in_c r ≡ got x → x.0.depth ≡ 1
  unfolding path_or_same
  same-one in_c r x e =
      step (path text 3 r) _ e λ f i j.
      cases (not in_c && is text f.1 identical_code)
      (λ c. step (take text 0 f.1) _ (rw c at j) λ s k l. step (path text 2 s) _ l λ g p q. ap (λ z. z.0.depth) (sym (got-inj q)))
      (λ c. ap (λ z. z.0.depth) (sym (got-inj (rw c at j))))

  pub operand-one : (in_c : Bool) (r : Reader) (x : Form × Reader) → operand text in_c r ≡ got x → x.0.depth ≡ 1
  unfolding operand
  operand-one in_c r x e =
      cases (is text r name_code)
      (λ c. same-one in_c r x (rw c at e))
      (λ c. literal-one r (literal text (peek text r)) x (rw c at e))
