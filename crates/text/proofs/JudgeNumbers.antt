-- A refusal is 20, 21 or 22, at a byte of the text or at its length. Assumes that tokens and white space make up a text.
use Prim.Native.Nat.{ℕ, ◌+◌, ◌≤◌}
use mathlib.Core.Path.{◌≡◌, refl, sym, ap}
use mathlib.Core.Bool.{Bool, true, false, not, cond, ◌&&◌, ◌||◌}
use mathlib.Core.List.{List, []}
use native.Mathlib.Omega.{arith}
use lib.Dec.{eqb, leb}
use lib.ListN.{length}
use Rattle.words.specs.Answer.{Answer, got, stop, ◌>>◌, want}
use Rattle.words.proofs.AnswerLaws.{got-inj, stop-inj, stop≢got}
use Rattle.program.specs.Forms.{most_words}
use Rattle.tokens.specs.declared.Token.{Token}
use Rattle.program.specs.Reading.{among}
use Rattle.tokens.specs.Codes.{name_code, number_code, too_long, skip_code, always_code, once_code, weak_code, if_code, while_code, true_code, false_code, nil_code}
use Rattle.tokens.specs.Codes.{comma_code, dot_code, semicolon_code, open_bracket_code, close_bracket_code, beside_code}
use Rattle.tokens.specs.Claims.{Makes, MakesUp}
use Rattle.text.specs.Reading.{Fault, fault, Reader, due_after, owing, passing, is_operator, known, number_in, text_at}
use Rattle.text.specs.Judge.{Sort, Open, Awaited, nothing, token, either, beyond, owed, steps, operand, behind, part, parts, field, fields, statement, row, bracketed}
use Rattle.text.specs.Judge.{May, unfit, room, after, stands, may_operand, may_operator, may_part, may_field, may_statement, may, there, Judged}
use Rattle.text.proofs.Leads.{after-at}
use Rattle.text.proofs.JudgeLaws.{judged}

module _ (text : List ℕ) where
  -- a refusal by one of the numbers, or a token behind which the text is judged
  record Fine (m : May text) : Type 0 where
    on : (x : Awaited × Reader) → m ≡ got x → x.1.at ≤ length text
    by : (n : ℕ) → m ≡ stop n → (20 ≤ n) × (n ≤ 22)

  fine-got : {x : Awaited × Reader} → x.1.at ≤ length text → Fine (got x)
  fine-got l = record { on = λ y e. rw (← got-inj e) l; by = λ n e. stop≢got (sym e) }

  fine-stop : {n : ℕ} → 20 ≤ n → n ≤ 22 → Fine (stop n)
  fine-stop p q = record { on = λ y e. stop≢got e; by = λ n e. rw (← stop-inj e) (p, q) }

  cond-fine : (b : Bool) {x y : May text} → Fine x → Fine y → Fine (cond b x y)
  cond-fine true p q = p
  cond-fine false p q = q

  module _ (t : Token) (l : t.end ≤ length text) where
    unfit-fine : Fine (unfit text t)
    unfolding unfit
    unfit-fine = cond-fine (eqb t.code too_long) (fine-stop (omega arith) (omega arith)) (fine-stop (omega arith) (omega arith))

    stands-fine : (s : Sort) (k : ℕ) (a : Awaited) (r : Reader) → Fine (stands text s k a r t)
    unfolding stands
    stands-fine s k a r = go (room text s r t) (not r.passed && leb (r.certain + r.owed + k) most_words)
      where
        go : (b c : Bool) → Fine (want 21 b >> (want 22 c >> got (a, after text s (r.certain + r.owed + k) r t)))
        go true true = fine-got (rw (after-at text s (r.certain + r.owed + k) r t) l)
        go true false = fine-stop (omega arith) (omega arith)
        go false c = fine-stop (omega arith) (omega arith)

    operand-fine : (in_c : Bool) (os : List Open) (a : Awaited) (r : Reader) → Fine (may_operand text in_c os a r t)
    unfolding may_operand
    operand-fine in_c os a r =
        cond-fine (eqb t.code open_bracket_code) (stands-fine Sort.other 0 _ r)
        (cond-fine (eqb t.code name_code) (stands-fine Sort.variable 3 _ r)
        (cond-fine (eqb t.code nil_code || eqb t.code false_code || eqb t.code true_code) (stands-fine Sort.other 1 _ r)
        (cond-fine (eqb t.code number_code) (stands-fine Sort.other 2 _ _) unfit-fine)))

    operator-fine : (in_c : Bool) (x : ℕ × List Open) (a : Awaited) (r : Reader) → Fine (may_operator text in_c x a r t)
    unfolding may_operator
    operator-fine in_c x a r = stands-fine Sort.other 2 _ _

    part-fine : (a : Awaited) (r : Reader) → Fine (may_part text a r t)
    unfolding may_part
    part-fine a r = cond-fine (leb weak_code t.code && leb t.code (weak_code + 2)) (stands-fine Sort.other 1 _ r) (operand-fine true [] a (owing 1 r))

    field-fine : (n : ℕ) (seen : List ℕ) (a : Awaited) (r : Reader) → Fine (may_field text n seen a r t)
    unfolding may_field
    field-fine n seen a r =
        cond-fine (eqb t.code name_code && not (known text r.labels t && among (number_in text r.labels t) seen)) (stands-fine Sort.label 1 _ r) unfit-fine

    statement-fine : (d : ℕ) (a : Awaited) (r : Reader) → Fine (may_statement text d a r t)
    unfolding may_statement
    statement-fine d a r =
        cond-fine (eqb t.code name_code) (stands-fine Sort.variable 3 _ r)
        (cond-fine (eqb t.code skip_code) (stands-fine Sort.other 1 _ r)
        (cond-fine (eqb t.code always_code || eqb t.code once_code) (stands-fine Sort.other 1 _ r)
        (cond-fine (eqb t.code if_code) (stands-fine Sort.other 1 _ r)
        (cond-fine (eqb t.code while_code) (stands-fine Sort.other 1 _ r) unfit-fine))))

    -- a token in its place, or what stands behind it
    or-behind : (c : ℕ) (a : Awaited) (r : Reader) (m : May text) → Fine m → Fine (cond (eqb t.code c) (stands text Sort.other 0 a r t) m)
    or-behind c a r m f = cond-fine (eqb t.code c) (stands-fine Sort.other 0 a r) f

    may-fine : (a : Awaited) (r : Reader) → r.at ≤ length text → Fine (may text a r t)
    unfolding may
    may-fine nothing r h = fine-got h
    may-fine (token c s k a) r h = cond-fine (eqb t.code c) (stands-fine s k a r) unfit-fine
    may-fine (either c s k a b) r h = cond-fine (eqb t.code c) (stands-fine s k a r) (may-fine b r h)
    may-fine (beyond a) r h = may-fine a (passing true r) h
    may-fine (owed k a) r h = may-fine a (owing k r) h
    may-fine (steps n a) r h = or-behind dot_code _ r _ (may-fine a r h)
    may-fine (operand in_c os a) r h = operand-fine in_c os a r
    may-fine (behind in_c d os a) r h =
        cond-fine (bracketed os && eqb t.code close_bracket_code) (stands-fine Sort.other 0 _ r)
        (cond-fine (is_operator t.code) (operator-fine in_c _ a r) (cond-fine (bracketed os) unfit-fine (may-fine a r h)))
    may-fine (part a) r h = part-fine a r
    may-fine (parts n a) r h = or-behind beside_code _ r _ (may-fine a r h)
    may-fine (field n seen a) r h = field-fine n seen a r
    may-fine (fields n seen a) r h = or-behind comma_code _ r _ (may-fine a r h)
    may-fine (statement d a) r h = statement-fine d a r
    may-fine (row d n a) r h = or-behind semicolon_code _ r _ (may-fine a r h)

  module _ (makes-up : MakesUp) where
    -- a token lies within the text
    token-within : (r : Reader) → r.at ≤ length text → ((there text r).place ≤ length text) × ((there text r).end ≤ length text)
    token-within r l = go (makes-up (due_after r.last) text r.at l)
      where
        go : Makes text r.at (there text r) → ((there text r).place ≤ length text) × ((there text r).end ≤ length text)
        go (Makes.whole not_end not-long p q u v) = (omega (arith, q, u), u)
        go (Makes.end p q u) = (omega (arith, ap (λ z. z.place) q), omega (arith, ap (λ z. z.end) q))
        go (Makes.longer p q) = (omega (arith, p, ap (λ z. z.place) q), omega (arith, p, ap (λ z. z.end) q))

    judged-within : {a : Awaited} {r : Reader} {o : Answer Fault (Unit {0})} (f : Fault) → r.at ≤ length text → o ≡ stop f → Judged text a r o
        → ((20 ≤ f.number) × (f.number ≤ 22)) × (f.place ≤ length text)
    judged-within f l h Judged.whole = stop≢got (sym h)
    judged-within {a = a} {r = r} f l h (Judged.refused {n = n} i) =
        rw (← stop-inj h) ((may-fine (there text r) (token-within r l).1 a r l).by n i, (token-within r l).0)
    judged-within {a = a} {r = r} f l h (Judged.next {b = b} {s = s} i j) = judged-within f ((may-fine (there text r) (token-within r l).1 a r l).on (b, s) i) h j

    -- every refusal is 20, 21 or 22, and its place is within the text or at its end
    pub refusal-within : (n place : ℕ) → text_at text ≡ stop (fault n place) → ((20 ≤ n) × (n ≤ 22)) × (place ≤ length text)
    refusal-within n place e = judged-within (fault n place) (omega arith) refl ((judged text makes-up n place).0 e)
