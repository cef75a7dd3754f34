-- A text has no more tokens than bytes and its end: judging so many of them finds the outcome. Assumes that tokens and white space make up a text.
use Prim.Native.Nat.{ℕ, zero, suc, ◌+◌, ◌≤◌, ◌<◌}
use mathlib.Core.Path.{◌≡◌, refl, ap}
use mathlib.Core.Logic.{◌↔◌}
use mathlib.Core.Bool.{Bool, true, false, not, cond, ◌&&◌, ◌||◌}
use mathlib.Core.List.{List, []}
use native.Mathlib.Omega.{arith}
use lib.Dec.{eqb, leb}
use lib.ListN.{length}
use borrow.Author.Tests.{eqb-true, eqb-false, leb-true, ne_eqb}
use Rattle.words.specs.Answer.{Answer, got, stop, ◌>>◌, want}
use Rattle.words.proofs.AnswerLaws.{got-inj, stop≢got}
use Rattle.tables.proofs.SearchLaws.{cases, and_left, and_right}
use Rattle.program.specs.Forms.{most_words}
use Rattle.program.specs.Reading.{among}
use Rattle.tokens.specs.declared.Token.{Token}
use Rattle.tokens.specs.Codes.{end_code, name_code, number_code, too_long, skip_code, always_code, once_code, weak_code, if_code, while_code, true_code, false_code, nil_code}
use Rattle.tokens.specs.Codes.{comma_code, dot_code, semicolon_code, open_bracket_code, close_bracket_code, beside_code}
use Rattle.tokens.specs.Claims.{Makes, MakesUp}
use Rattle.text.specs.Reading.{Fault, fault, Reader, Form, due_after, owing, passing, is_operator, known, number_in, first_reader, text_at}
use Rattle.text.specs.Judge.{Sort, Open, Awaited, nothing, token, either, beyond, owed, steps, operand, behind, part, parts, field, fields, statement, row}
use Rattle.text.specs.Judge.{same, stated, block, bracketed}
use Rattle.text.specs.Judge.{May, unfit, room, after, stands, may_operand, may_operator, may_part, may_field, may_statement, again, may, there, Judged, judge, awaited_first, judge_text}
use Rattle.text.proofs.Leads.{after-at}
use Rattle.text.proofs.JudgeLaws.{nothing-whole, computed-stop, computed-got, judged, all-stand}

-- behind the end of the text nothing is awaited, and nowhere what is too long
abbrev Ends : Awaited → Type 0
Ends nothing = Unit {0}
Ends (token c s k a) = cond (eqb c too_long) ⊥ (cond (eqb c end_code) (a ≡ nothing) (Ends a))
Ends (either c s k a b) = cond (eqb c too_long) ⊥ (cond (eqb c end_code) (a ≡ nothing) (Ends a)) × Ends b
Ends (beyond a) = Ends a
Ends (owed k a) = Ends a
Ends (steps n a) = Ends a
Ends (operand in_c os a) = Ends a
Ends (behind in_c d os a) = Ends a
Ends (part a) = Ends a
Ends (parts n a) = Ends a
Ends (field n seen a) = Ends a
Ends (fields n seen a) = Ends a
Ends (statement d a) = Ends a
Ends (row d n a) = Ends a

ends-block : (d : ℕ) (a : Awaited) → Ends a → Ends (block d a)
ends-block zero a h = h
ends-block (suc d) a h = (h, h)

module _ (text : List ℕ) where
  again-ends : (n : ℕ) (f : ℕ → Awaited) (l : Awaited) → ((m : ℕ) → Ends (f m)) → Ends l → Ends (again text n f l)
  again-ends zero f l g h = h
  again-ends (suc n) f l g h = g n

  module _ (t : Token) where
    -- nothing is awaited any more, or a token was taken that is not the end
    data Went (x : Awaited × Reader) : Type 0 where
      over : x.0 ≡ nothing → Went x
      on : eqb t.code end_code ≡ false → eqb t.code too_long ≡ false → x.1.at ≡ t.end → Ends x.0 → Went x

    record Goes (m : May text) : Type 0 where
      goes : (x : Awaited × Reader) → m ≡ got x → Went x

    goes-got : {x : Awaited × Reader} → Went x → Goes (got x)
    goes-got w = record { goes = λ y e. rw (← got-inj e) w }

    goes-stop : {n : ℕ} → Goes (stop n)
    goes-stop = record { goes = λ y e. stop≢got e }

    goes-if : (b : Bool) {x y : May text} → (b ≡ true → Goes x) → Goes y → Goes (cond b x y)
    goes-if true p q = p refl
    goes-if false p q = q

    unfit-goes : Goes (unfit text t)
    unfolding unfit
    unfit-goes = goes-if (eqb t.code too_long) (λ e. goes-stop) goes-stop

    stands-goes : (s : Sort) (k : ℕ) (a : Awaited) (r : Reader) → ((q : Reader) → q.at ≡ t.end → Went (a, q)) → Goes (stands text s k a r t)
    unfolding stands
    stands-goes s k a r w = go (room text s r t) (not r.passed && leb (r.certain + r.owed + k) most_words)
      where
        go : (b c : Bool) → Goes (want 21 b >> (want 22 c >> got (a, after text s (r.certain + r.owed + k) r t)))
        go true true = goes-got (w (after text s (r.certain + r.owed + k) r t) (after-at text s (r.certain + r.owed + k) r t))
        go true false = goes-stop
        go false c = goes-stop

    -- a token of a code that is neither
    taken : (c : ℕ) (s : Sort) (k : ℕ) (a : Awaited) (r : Reader) → eqb c end_code ≡ false → eqb c too_long ≡ false → eqb t.code c ≡ true → Ends a → Goes (stands text s k a r t)
    taken c s k a r p q e h = stands-goes s k a r (λ v i. Went.on (rw (eqb-true t.code c e) p) (rw (eqb-true t.code c e) q) i h)

    awaited-taken : (c : ℕ) (s : Sort) (k : ℕ) (a : Awaited) (r : Reader) → cond (eqb c too_long) ⊥ (cond (eqb c end_code) (a ≡ nothing) (Ends a))
        → eqb t.code c ≡ true → Goes (stands text s k a r t)
    awaited-taken c s k a r h e =
        cases (eqb c too_long)
        (λ p. absurd (rw p at h))
        (λ p. cases (eqb c end_code)
        (λ q. stands-goes s k a r (λ v i. Went.over (rw (p, q) at h)))
        (λ q. taken c s k a r q p e (rw (p, q) at h)))

    operand-goes : (in_c : Bool) (os : List Open) (a : Awaited) (r : Reader) → Ends a → Goes (may_operand text in_c os a r t)
    unfolding may_operand
    operand-goes in_c os a r h =
        goes-if (eqb t.code open_bracket_code) (λ e. taken open_bracket_code Sort.other 0 _ r refl refl e h)
        (goes-if (eqb t.code name_code) (λ e. taken name_code Sort.variable 3 _ r refl refl e (path in_c))
        (goes-if (eqb t.code nil_code || eqb t.code false_code || eqb t.code true_code) (λ e. literal (eqb t.code nil_code) (eqb t.code false_code) refl refl e)
        (goes-if (eqb t.code number_code) (λ e. taken number_code Sort.other 2 _ _ refl refl e h) unfit-goes)))
      where
        path : (b : Bool) → Ends (same b (Awaited.behind in_c 1 os a))
        path true = h
        path false = (h, h)

        literal : (b c : Bool) → eqb t.code nil_code ≡ b → eqb t.code false_code ≡ c → (b || c || eqb t.code true_code) ≡ true
            → Goes (stands text Sort.other 1 (Awaited.behind in_c 1 os a) r t)
        literal true c p q e = taken nil_code Sort.other 1 _ r refl refl p h
        literal false true p q e = taken false_code Sort.other 1 _ r refl refl q h
        literal false false p q e = taken true_code Sort.other 1 _ r refl refl e h

    -- a code that is great enough
    greater : (c : ℕ) (s : Sort) (k : ℕ) (a : Awaited) (r : Reader) → 4 < c → t.code ≡ c → Ends a → Goes (stands text s k a r t)
    greater c s k a r l e h =
        stands-goes s k a r (λ v i. Went.on (ne_eqb t.code end_code (λ z. omega (arith, l, e, z))) (ne_eqb t.code too_long (λ z. omega (arith, l, e, z))) i h)

    operator-goes : (in_c : Bool) (x : ℕ × List Open) (a : Awaited) (r : Reader) → is_operator t.code ≡ true → Ends a → Goes (may_operator text in_c x a r t)
    unfolding may_operator
    operator-goes in_c x a r e h = greater t.code Sort.other 2 _ _ (let z = leb-true 41 t.code (and_left _ _ e) in omega (arith, z)) refl h

    part-goes : (a : Awaited) (r : Reader) → Ends a → Goes (may_part text a r t)
    unfolding may_part
    part-goes a r h =
        goes-if (leb weak_code t.code && leb t.code (weak_code + 2))
        (λ e. greater t.code Sort.other 1 _ r (let z = leb-true weak_code t.code (and_left _ _ e) in omega (arith, z)) refl h)
        (operand-goes true [] a (owing 1 r) h)

    field-goes : (n : ℕ) (seen : List ℕ) (a : Awaited) (r : Reader) → Ends a → Goes (may_field text n seen a r t)
    unfolding may_field
    field-goes n seen a r h =
        goes-if (eqb t.code name_code && not (known text r.labels t && among (number_in text r.labels t) seen))
        (λ e. taken name_code Sort.label 1 _ r refl refl (and_left _ _ e) h) unfit-goes

    statement-goes : (d : ℕ) (a : Awaited) (r : Reader) → Ends a → Goes (may_statement text d a r t)
    unfolding may_statement
    statement-goes d a r h =
        goes-if (eqb t.code name_code) (λ e. taken name_code Sort.variable 3 _ r refl refl e ((((h, h), h), h)))
        (goes-if (eqb t.code skip_code) (λ e. taken skip_code Sort.other 1 _ r refl refl e h)
        (goes-if (eqb t.code always_code || eqb t.code once_code) (λ e. verb (eqb t.code always_code) refl e)
        (goes-if (eqb t.code if_code) (λ e. taken if_code Sort.other 1 _ r refl refl e (ends-block d _ (ends-block d a h)))
        (goes-if (eqb t.code while_code) (λ e. taken while_code Sort.other 1 _ r refl refl e (ends-block d a h)) unfit-goes))))
      where
        verb : (b : Bool) → eqb t.code always_code ≡ b → (b || eqb t.code once_code) ≡ true → Goes (stands text Sort.other 1 (stated a) r t)
        verb true p e = taken always_code Sort.other 1 _ r refl refl p (((h, h), h))
        verb false p e = taken once_code Sort.other 1 _ r refl refl e (((h, h), h))

    may-goes : (a : Awaited) (r : Reader) → Ends a → Goes (may text a r t)
    unfolding may
    may-goes nothing r h = goes-got (Went.over refl)
    may-goes (token c s k a) r h = goes-if (eqb t.code c) (λ e. awaited-taken c s k a r h e) unfit-goes
    may-goes (either c s k a b) r h = goes-if (eqb t.code c) (λ e. awaited-taken c s k a r h.0 e) (may-goes b r h.1)
    may-goes (beyond a) r h = may-goes a (passing true r) h
    may-goes (owed k a) r h = may-goes a (owing k r) h
    may-goes (steps n a) r h = goes-if (eqb t.code dot_code) (λ e. taken dot_code Sort.other 0 _ r refl refl e (again-ends n _ _ (λ m. h) h)) (may-goes a r h)
    may-goes (operand in_c os a) r h = operand-goes in_c os a r h
    may-goes (behind in_c d os a) r h =
        goes-if (bracketed os && eqb t.code close_bracket_code) (λ e. taken close_bracket_code Sort.other 0 _ r refl refl (and_right (bracketed os) _ e) h)
        (goes-if (is_operator t.code) (λ e. operator-goes in_c _ a r e h) (goes-if (bracketed os) (λ e. unfit-goes) (may-goes a r h)))
    may-goes (part a) r h = part-goes a r h
    may-goes (parts n a) r h = goes-if (eqb t.code beside_code) (λ e. taken beside_code Sort.other 0 _ r refl refl e (again-ends n _ _ (λ m. h) h)) (may-goes a r h)
    may-goes (field n seen a) r h = field-goes n seen a r h
    may-goes (fields n seen a) r h = goes-if (eqb t.code comma_code) (λ e. taken comma_code Sort.other 0 _ r refl refl e (again-ends n _ _ (λ m. h) h)) (may-goes a r h)
    may-goes (statement d a) r h = statement-goes d a r h
    may-goes (row d n a) r h = goes-if (eqb t.code semicolon_code) (λ e. taken semicolon_code Sort.other 0 _ r refl refl e (again-ends n _ _ (λ m. h) h)) (may-goes a r h)

  -- ---- so many tokens

  went {ℓ} : {X : Type ℓ} {t : Token} {x : Awaited × Reader} → Went t x
      → (x.0 ≡ nothing → X) → (eqb t.code end_code ≡ false → eqb t.code too_long ≡ false → x.1.at ≡ t.end → Ends x.0 → X) → X
  went (Went.over p) f g = f p
  went (Went.on p q e h) f g = g p q e h

  judge-nothing : (n : ℕ) (r : Reader) → judge text n nothing r ≡ got (nothing, r)
  unfolding judge may
  judge-nothing zero r = refl
  judge-nothing (suc n) r = judge-nothing n r

  judge-next : (n : ℕ) (a b : Awaited) (r s : Reader) → may text a r (there text r) ≡ got (b, s) → judge text (suc n) a r ≡ judge text n b s
  unfolding judge
  judge-next n a b r s i = rw (i, judge)

  judge-refused : (n : ℕ) (a : Awaited) (r : Reader) (k : ℕ) → may text a r (there text r) ≡ stop k → judge text (suc n) a r ≡ stop (fault k (there text r).place)
  unfolding judge
  judge-refused n a r k i = rw (i, judge)

  -- an outcome as it is computed
  abbrev Found : Answer Fault (Unit {0}) → Answer Fault (Awaited × Reader) → Type 0
  Found (got u) m = (s : Reader) × (m ≡ got (nothing, s))
  Found (stop f) m = m ≡ stop f

  module _ (makes-up : MakesUp) where
    further : (r : Reader) → r.at ≤ length text → eqb (there text r).code end_code ≡ false → eqb (there text r).code too_long ≡ false
        → (r.at < (there text r).end) × ((there text r).end ≤ length text)
    further r l p q = go (makes-up (due_after r.last) text r.at l)
      where
        go : Makes text r.at (there text r) → (r.at < (there text r).end) × ((there text r).end ≤ length text)
        go (Makes.whole not_end not-long u v w x) = (omega (arith, u, v), w)
        go (Makes.end u v w) = absurd (eqb-false (there text r).code end_code p (ap (λ z. z.code) v))
        go (Makes.longer u v) = absurd (eqb-false (there text r).code too_long q (ap (λ z. z.code) v))

    enough-tokens : (n : ℕ) {a : Awaited} {r : Reader} {o : Answer Fault (Unit {0})} → Ends a → r.at ≤ length text → length text < n + r.at → Judged text a r o
        → Found o (judge text n a r)
    enough-tokens zero h l m j = absurd (omega (arith, l, m))
    enough-tokens (suc n) {r = r} h l m Judged.whole = (r, judge-nothing (suc n) r)
    enough-tokens (suc n) {a = a} {r = r} h l m (Judged.refused {n = k} i) = judge-refused n a r k i
    enough-tokens (suc n) {a = a} {r = r} h l m (Judged.next {b = b} {s = s} i j) =
        rw (judge-next n a b r s i)
        (went ((may-goes (there text r) a r h).goes (b, s) i)
        (λ p. rw (nothing-whole text p j, p) (s, judge-nothing n s))
        (λ p q e f. let z = further r l p q in enough-tokens n f (omega (arith, e, z.1)) (omega (arith, m, e, z.0)) j))

    -- the judge computes the refusal of every text that is refused
    pub judge-refuses : (f : Fault) → (text_at text ≡ stop f) ↔ (judge_text text ≡ stop f)
    judge-refuses f = (
      λ e. enough-tokens (suc (length text)) (refl, refl) (omega arith) (omega arith) ((judged text makes-up f.number f.place).0 e),
      λ e. (judged text makes-up f.number f.place).1 (computed-stop text (suc (length text)) awaited_first (first_reader text) f e),
    )

    -- and accepts every text that is accepted: nothing is awaited behind its tokens
    pub judge-accepts : ((x : Form × Reader) × (text_at text ≡ got x)) ↔ ((s : Reader) × (judge_text text ≡ got (nothing, s)))
    judge-accepts = (
      λ x. enough-tokens (suc (length text)) (refl, refl) (omega arith) (omega arith) ((all-stand text makes-up).0 x),
      λ x. (all-stand text makes-up).1 (computed-got text (suc (length text)) awaited_first (first_reader text) x.0 x.1),
    )
