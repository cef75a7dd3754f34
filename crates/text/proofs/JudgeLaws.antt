-- A refusal's number and place are those of the judge of tokens, and a text is accepted exactly where every token may stand. Assumes that tokens and white space make up a text.
use Prim.Native.Nat.{ℕ, zero, suc, ◌-◌}
use mathlib.Core.Path.{◌≡◌, refl, sym, ap, ◌∙◌}
use mathlib.Core.Logic.{◌↔◌}
use mathlib.Core.Bool.{true}
use mathlib.Core.List.{List}
use native.Mathlib.Omega.{arith}
use Rattle.words.specs.Answer.{Answer, got, stop}
use Rattle.words.proofs.AnswerLaws.{got-inj, stop-inj, stop≢got, either}
use Rattle.tables.proofs.SearchLaws.{cases}
use Rattle.program.specs.Forms.{block_depth, most_statements}
use Rattle.tokens.specs.Codes.{end_code}
use Rattle.tokens.specs.Claims.{MakesUp}
use Rattle.text.specs.Reading.{Fault, fault, Reader, Form, peek, is, need, row_at, block_at, first_reader, text_at}
use Rattle.text.specs.Judge.{Sort, Awaited, May, only, room, after, stands, may, there, Judged, judge, awaited_first, JudgedText, RefusedExactly, StandsExactly}
use Rattle.text.proofs.Leads.{Leads, leads-here, leads-then, leads-as, need-leads}
use Rattle.text.proofs.JudgeStatements.{row-leads, block-leads}

module _ (text : List ℕ) where
  -- ---- the judging has one outcome

  pub nothing-whole : {a : Awaited} {r : Reader} {o : Answer Fault (Unit {0})} → a ≡ Awaited.nothing → Judged text a r o → o ≡ got tt
  unfolding may
  nothing-whole h Judged.whole = refl
  nothing-whole {r = r} h (Judged.refused i) = stop≢got (sym i ∙ ap (λ a. may text a r (there text r)) h)
  nothing-whole {r = r} h (Judged.next i j) = nothing-whole (ap (λ z. z.0) (got-inj (sym i ∙ ap (λ a. may text a r (there text r)) h))) j

  pub one-outcome : {a : Awaited} {r : Reader} {o p : Answer Fault (Unit {0})} → Judged text a r o → Judged text a r p → o ≡ p
  one-outcome Judged.whole d = sym (nothing-whole refl d)
  one-outcome (Judged.refused i) Judged.whole = nothing-whole refl (Judged.refused i)
  one-outcome {r = r} (Judged.refused i) (Judged.refused j) = ap (λ n. stop (fault n (there text r).place)) (stop-inj (sym i ∙ j))
  one-outcome (Judged.refused i) (Judged.next j d) = stop≢got (sym i ∙ j)
  one-outcome (Judged.next i c) Judged.whole = nothing-whole refl (Judged.next i c)
  one-outcome (Judged.next i c) (Judged.refused j) = stop≢got (sym j ∙ i)
  one-outcome {p = p} (Judged.next i c) (Judged.next j d) = let e = got-inj (sym i ∙ j) in one-outcome c (rw (ap (λ z. z.0) (sym e), ap (λ z. z.1) (sym e)) at d)

  -- ---- the judging by computing

  -- the outcome o by the number of tokens n, where m is what is said of the first of them
  abbrev Computes : ℕ → Awaited → Reader → May text → Answer Fault (Awaited × Reader)
  Computes n a r m = elim m [ got x ↦ judge text n x.0 x.1 | stop k ↦ stop (fault k (there text r).place) ]

  pub computed-stop : (n : ℕ) (a : Awaited) (r : Reader) (f : Fault) → judge text n a r ≡ stop f → Judged text a r (stop f)
  unfolding judge
  computed-stop zero a r f e = stop≢got (sym e)
  computed-stop (suc n) a r f e = go (may text a r (there text r)) refl (λ x. computed-stop n x.0 x.1 f) e
    where
      go : (m : May text) → may text a r (there text r) ≡ m → ((x : Awaited × Reader) → judge text n x.0 x.1 ≡ stop f → Judged text x.0 x.1 (stop f))
          → Computes n a r m ≡ stop f → Judged text a r (stop f)
      go (got x) i ih j = Judged.next {s = x.1} i (ih x j)
      go (stop k) i ih j = rw (← stop-inj j) (Judged.refused i)

  pub computed-got : (n : ℕ) (a : Awaited) (r s : Reader) → judge text n a r ≡ got (Awaited.nothing, s) → Judged text a r (got tt)
  unfolding judge
  computed-got zero a r s e = rw (ap (λ z. z.0) (got-inj e)) Judged.whole
  computed-got (suc n) a r s e = go (may text a r (there text r)) refl (λ x. computed-got n x.0 x.1 s) e
    where
      go : (m : May text) → may text a r (there text r) ≡ m → ((x : Awaited × Reader) → judge text n x.0 x.1 ≡ got (Awaited.nothing, s) → Judged text x.0 x.1 (got tt))
          → Computes n a r m ≡ got (Awaited.nothing, s) → Judged text a r (got tt)
      go (got x) i ih j = Judged.next {s = x.1} i (ih x j)
      go (stop k) i ih j = stop≢got j

  -- ---- whole texts

  module _ (makes-up : MakesUp) where
    empty-whole : is text (first_reader text) end_code ≡ true → JudgedText text (got tt)
    unfolding may stands room peek
    empty-whole e =
        Judged.next {a = awaited_first} {b = Awaited.nothing} {r = first_reader text} {s = after text Sort.other 1 (first_reader text) (there text (first_reader text))} (rw e) Judged.whole

    text-leads : Leads text awaited_first (first_reader text) (λ x. (Awaited.nothing, x.1)) (text_at text)
    unfolding text_at may peek
    text-leads =
        cases (is text (first_reader text) end_code)
        (λ e. rw e (leads-here text refl (λ o z. rw (nothing-whole refl z) (empty-whole e))))
        (λ e. rw e
        (leads-as text {b = Awaited.statement (block_depth - 1) (Awaited.row (block_depth - 1) (most_statements - 1) (only end_code Awaited.nothing))} {s = first_reader text} refl refl (rw e)
        (leads-then text (row_at text (λ v. block_at text (block_depth - 1) v) (most_statements - 1) (first_reader text)) _
        (row-leads text makes-up (block_depth - 1) (λ v. block_at text (block_depth - 1) v) (λ b v. block-leads text makes-up (block_depth - 1) b v) (most_statements - 1)
        (only end_code Awaited.nothing) (first_reader text) (omega arith)) λ g j.
        leads-then text (need text end_code 0 g.1.1) _ (need-leads text makes-up end_code 0 Awaited.nothing g.1.1 refl) λ u k.
        leads-here text refl (λ o z. z))))

    accepted-whole : (x : Form × Reader) → text_at text ≡ got x → JudgedText text (got tt)
    accepted-whole x e = text-leads.good x e (got tt) Judged.whole

    -- each token before the place may stand where it stands, the one there may not, by this number first
    pub judged : (n place : ℕ) → (text_at text ≡ stop (fault n place)) ↔ JudgedText text (stop (fault n place))
    judged n place = (
      λ e. text-leads.bad (fault n place) e,
      λ j. either (text_at text)
          (λ x e. stop≢got (sym (one-outcome (accepted-whole x e) j)))
          (λ f e. e ∙ ap stop (stop-inj (one-outcome (text-leads.bad f e) j))),
    )

    -- a text is accepted exactly where every token may stand, and nothing is awaited at its end
    pub all-stand : ((x : Form × Reader) × (text_at text ≡ got x)) ↔ JudgedText text (got tt)
    all-stand = (
      λ x. accepted-whole x.0 x.1,
      λ j. either (text_at text)
          (λ x e. (x, e))
          (λ f e. stop≢got (one-outcome (text-leads.bad f e) j)),
    )

pub refused-exactly : MakesUp → RefusedExactly
refused-exactly makes-up text n place = judged text makes-up n place

pub stands-exactly : MakesUp → StandsExactly
stands-exactly makes-up text = all-stand text makes-up
