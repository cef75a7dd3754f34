-- A piece's reader does what the judge of tokens does: where it answers the judging goes on behind the piece, where it refuses the judging refuses.
-- Assumes that tokens and white space make up a text.
use Prim.Native.Nat.{ℕ, ◌+◌, ◌≤◌, ◌<◌}
use mathlib.Core.Path.{◌≡◌, refl, sym, ap, ◌∙◌}
use mathlib.Core.Bool.{Bool, true, false, not, cond, ◌&&◌}
use mathlib.Core.List.{List, []}
use native.Mathlib.Omega.{arith}
use lib.Dec.{eqb, leb}
use lib.ListN.{length}
use borrow.Author.Tests.{eqb-true, eqb-false}
use Rattle.words.specs.Answer.{Answer, got, stop, ◌>>=◌}
use Rattle.words.proofs.AnswerLaws.{got-inj, stop-inj, stop≢got}
use Rattle.tables.specs.Sizes.{variables, labels}
use Rattle.tables.proofs.SearchLaws.{cases, and_left}
use Rattle.program.specs.Forms.{most_words}
use Rattle.program.specs.Reading.{among}
use Rattle.program.proofs.AmongLaws.{among_none}
use Rattle.tokens.specs.declared.Token.{Token}
use Rattle.tokens.specs.Codes.{end_code, name_code, too_long}
use Rattle.tokens.specs.Claims.{Makes, MakesUp}
use Rattle.text.specs.Reading.{Fault, Reader, due_after, peek, is, refusal, take, need, known, number_in, room_for, variable, label}
use Rattle.text.specs.Judge.{Sort, other, variable as a_variable, label as a_label, Awaited, unfit, room, after, stands, may, there, Judged}

module _ (text : List ℕ) where
  -- the token to be judged is judged in the same way where b is awaited
  pub pass : {a b : Awaited} {r s : Reader} {o : Answer Fault (Unit {0})} → there text r ≡ there text s → may text a r (there text r) ≡ may text b s (there text s)
      → Judged text b s o → Judged text a r o
  unfolding may
  pass h e Judged.whole = Judged.next e Judged.whole
  pass h e (Judged.refused {n = n} i) = rw (← h) (Judged.refused (e ∙ i))
  pass h e (Judged.next i j) = Judged.next (e ∙ i) j

  -- m reads the piece that is awaited first in a; k x is what is awaited behind it, and the reader there
  pub record Leads (a : Awaited) (r : Reader) {A : Type 0} (k : A → Awaited × Reader) (m : Answer Fault A) : Type 0 where
    pub good : (x : A) → m ≡ got x → (o : Answer Fault (Unit {0})) → Judged text (k x).0 (k x).1 o → Judged text a r o
    pub bad : (f : Fault) → m ≡ stop f → Judged text a r (stop f)
    pub forth : (x : A) → m ≡ got x → r.at ≤ length text → (r.at ≤ (k x).1.at) × ((k x).1.at ≤ length text)

  module _ {a : Awaited} {r : Reader} where
    pub leads-stop : {A : Type 0} {k : A → Awaited × Reader} {f : Fault} → Judged text a r (stop f) → Leads a r k (stop f)
    leads-stop j = record { good = λ x e. stop≢got e; bad = λ g e. rw (← stop-inj e) j; forth = λ x e. stop≢got e }

    -- nothing is read
    pub leads-here : {A : Type 0} {k : A → Awaited × Reader} {x : A} → (k x).1.at ≡ r.at → ((o : Answer Fault (Unit {0})) → Judged text (k x).0 (k x).1 o → Judged text a r o)
        → Leads a r k (got x)
    leads-here {k = k} h j =
        record {
          good = λ y e o. rw (← got-inj e) (j o);
          bad = λ g e. stop≢got (sym e);
          forth = λ y e l. let i = ap (λ z. (k z).1.at) (got-inj e) in (omega (arith, h, i), omega (arith, h, i, l));
        }

    -- a token is taken
    pub leads-took : {A : Type 0} {k : A → Awaited × Reader} {x : A} → may text a r (there text r) ≡ got ((k x).0, (k x).1)
        → (r.at ≤ length text → (r.at ≤ (k x).1.at) × ((k x).1.at ≤ length text)) → Leads a r k (got x)
    leads-took {k = k} {x = x} h f =
        record { good = λ y e. rw (← got-inj e) (λ o j. Judged.next {s = (k x).1} h j); bad = λ g e. stop≢got (sym e); forth = λ y e. rw (← got-inj e) f }

    -- a `do`
    pub leads-then : {A B : Type 0} {k : A → Awaited × Reader} {j : B → Awaited × Reader} (m : Answer Fault A) (f : A → Answer Fault B)
        → Leads a r k m → ((x : A) → m ≡ got x → Leads (k x).0 (k x).1 j (f x)) → Leads a r j (m >>= f)
    leads-then (got x) f c g =
        let d = g x refl in
        record {
          good = λ y e o i. c.good x refl o (d.good y e o i);
          bad = λ y e. c.good x refl (stop y) (d.bad y e);
          forth = λ y e l. let p = c.forth x refl l in let q = d.forth y e p.1 in (omega (arith, p.0, q.0), q.1);
        }
    leads-then (stop x) f c g = leads-stop (c.bad x refl)

    -- the same, where what follows has to begin within the text
    pub leads-on : {A B : Type 0} {k : A → Awaited × Reader} {j : B → Awaited × Reader} (m : Answer Fault A) (f : A → Answer Fault B) → r.at ≤ length text
        → Leads a r k m → ((x : A) → m ≡ got x → (k x).1.at ≤ length text → Leads (k x).0 (k x).1 j (f x)) → Leads a r j (m >>= f)
    leads-on m f l c g = leads-then m f c (λ x e. g x e (c.forth x e l).1)

    -- what is awaited behind the piece may be said otherwise
    pub leads-to : {A : Type 0} {k j : A → Awaited × Reader} {m : Answer Fault A} → Leads a r k m
        → ((x : A) → m ≡ got x → (k x).1.at ≡ (j x).1.at) → ((x : A) → m ≡ got x → (o : Answer Fault (Unit {0})) → Judged text (j x).0 (j x).1 o → Judged text (k x).0 (k x).1 o)
        → Leads a r j m
    leads-to c h g =
        record { good = λ x e o i. c.good x e o (g x e o i); bad = c.bad; forth = λ x e l. let z = c.forth x e l in (omega (arith, z.0, h x e), omega (arith, z.1, h x e)) }

    -- the same piece, awaited otherwise
    pub leads-as : {A : Type 0} {k : A → Awaited × Reader} {b : Awaited} {s : Reader} {m : Answer Fault A}
        → there text r ≡ there text s → s.at ≡ r.at → may text a r (there text r) ≡ may text b s (there text s) → Leads b s k m → Leads a r k m
    leads-as h i e c =
        record {
          good = λ x d o j. pass h e (c.good x d o j);
          bad = λ g d. pass h e (c.bad g d);
          forth = λ x d l. let z = c.forth x d (omega (arith, i, l)) in (omega (arith, i, z.0), z.1);
        }

  -- ---- one token

  pub after-at : (s : Sort) (n : ℕ) (r : Reader) (t : Token) → (after text s n r t).at ≡ t.end
  unfolding after
  after-at other n r t = refl
  after-at a_variable n r t = refl
  after-at a_label n r t = refl

  module _ (makes-up : MakesUp) where
    -- a token that was taken ends behind the byte that it was looked for at, unless it is the text's end
    pub onward : (r : Reader) (c : ℕ) → is text r c ≡ true → eqb c too_long ≡ false → r.at ≤ length text → (r.at ≤ (peek text r).end) × ((peek text r).end ≤ length text)
    unfolding peek
    onward r c e h l = go (makes-up (due_after r.last) text r.at l)
      where
        go : Makes text r.at (there text r) → (r.at ≤ (there text r).end) × ((there text r).end ≤ length text)
        go (Makes.whole not_end not-long p q u v) = (omega (arith, p, q), u)
        go (Makes.end p q u) = (omega (arith, p, ap (λ z. z.end) q), omega (arith, ap (λ z. z.end) q))
        go (Makes.longer p q) = absurd (eqb-false c too_long h (sym (eqb-true _ c e) ∙ ap (λ z. z.code) q))

    pub strictly : (r : Reader) (c : ℕ) → is text r c ≡ true → eqb c too_long ≡ false → eqb c end_code ≡ false → r.at ≤ length text → r.at < (peek text r).end
    unfolding peek
    strictly r c e h i l = go (makes-up (due_after r.last) text r.at l)
      where
        go : Makes text r.at (there text r) → r.at < (there text r).end
        go (Makes.whole not_end not-long p q u v) = omega (arith, p, q)
        go (Makes.end p q u) = absurd (eqb-false c end_code i (sym (eqb-true _ c e) ∙ ap (λ z. z.code) q))
        go (Makes.longer p q) = absurd (eqb-false c too_long h (sym (eqb-true _ c e) ∙ ap (λ z. z.code) q))

    pub take-leads : (c k : ℕ) (b : Awaited) (r : Reader) → is text r c ≡ true → eqb c too_long ≡ false → Leads (Awaited.token c Sort.other k b) r (λ s. (b, s)) (take text k r)
    unfolding take may stands room after peek
    take-leads c k b r e h =
        cases (not r.passed && leb (r.certain + r.owed + k) most_words)
        (λ p. rw p (leads-took (rw (e, p)) (onward r c e h)))
        (λ p. rw p (leads-stop (Judged.refused (rw (e, p)))))

    -- a token that may not stand
    pub unfit-leads : {A : Type 0} {k : A → Awaited × Reader} (a : Awaited) (r : Reader)
        → may text a r (there text r) ≡ unfit text (there text r) → Leads a r k (stop (refusal text (peek text r)))
    unfolding refusal unfit peek
    unfit-leads a r e =
        cases (eqb (there text r).code too_long)
        (λ p. rw p (leads-stop (Judged.refused (e ∙ rw p))))
        (λ p. rw p (leads-stop (Judged.refused (e ∙ rw p))))

    pub need-leads : (c k : ℕ) (b : Awaited) (r : Reader) → eqb c too_long ≡ false → Leads (Awaited.token c Sort.other k b) r (λ s. (b, s)) (need text c k r)
    unfolding need may peek
    need-leads c k b r h =
        cases (is text r c)
        (λ e. rw e (take-leads c k b r e h))
        (λ e. rw e (unfit-leads (Awaited.token c Sort.other k b) r (rw e)))

    pub variable-leads : (k : ℕ) (b : Awaited) (r : Reader) → Leads (Awaited.token name_code Sort.variable k b) r (λ x. (b, x.1)) (variable text k r)
    unfolding variable take may stands room room_for after peek
    variable-leads k b r =
        cases (is text r name_code)
        (λ e. rw e
        (cases (room_for text variables r.variables (peek text r))
        (λ c. rw c
        (cases (not r.passed && leb (r.certain + r.owed + k) most_words)
        (λ p. rw p (leads-took (rw (e, c, p)) (onward r name_code e refl)))
        (λ p. rw p (leads-stop (Judged.refused (rw (e, c, p)))))))
        (λ c. rw c (leads-stop (Judged.refused (rw (e, c)))))))
        (λ e. rw e (unfit-leads (Awaited.token name_code Sort.variable k b) r (rw e)))

    -- a label that is none of these; what is awaited behind it may speak of its number
    pub label-leads : (a : Awaited) (b : ℕ → Awaited) (seen : List ℕ) (r : Reader)
        → may text a r (there text r)
        ≡ cond (is text r name_code && not (known text r.labels (there text r) && among (number_in text r.labels (there text r)) seen))
        (stands text Sort.label 1 (b (number_in text r.labels (there text r))) r (there text r)) (unfit text (there text r))
        → Leads a r (λ x. (b x.0, x.1)) (label text seen r)
    unfolding label take stands room room_for after peek
    label-leads a b seen r h =
        cases (is text r name_code && not (known text r.labels (peek text r) && among (number_in text r.labels (peek text r)) seen))
        (λ e. rw e
        (cases (room_for text labels r.labels (peek text r))
        (λ c. rw c
        (cases (not r.passed && leb (r.certain + r.owed + 1) most_words)
        (λ p. rw p (leads-took (h ∙ rw (e, c, p)) (onward r name_code (and_left _ _ e) refl)))
        (λ p. rw p (leads-stop (Judged.refused (h ∙ rw (e, c, p)))))))
        (λ c. rw c (leads-stop (Judged.refused (h ∙ rw (e, c)))))))
        (λ e. rw e (unfit-leads a r (h ∙ rw e)))

    pub any-label-leads : (b : Awaited) (r : Reader) → Leads (Awaited.token name_code Sort.label 1 b) r (λ x. (b, x.1)) (label text [] r)
    unfolding may peek
    any-label-leads b r =
        label-leads (Awaited.token name_code Sort.label 1 b) (λ n. b) [] r (rw (go (is text r name_code) (known text r.labels (there text r)) (number_in text r.labels (there text r))))
      where
        go : (c k : Bool) (n : ℕ) → (c && not (k && among n [])) ≡ c
        go true true n = rw (among_none n)
        go true false n = refl
        go false k n = refl
