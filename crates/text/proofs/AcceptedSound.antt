-- What is accepted, the grammar yields within the limits. Assumes the two laws of tokens that `TokenLaws` names.
use mathlib.Core.Path.{◌≡◌, refl}
use mathlib.Core.Bool.{true, false}
use mathlib.Core.List.{List, [], ◌∷◌, ◌++◌, append-nil}
use Prim.Native.Nat.{ℕ, zero, suc, ◌-◌, ◌≤◌}
use native.Mathlib.Omega.{arith}
use borrow.Author.Tests.{eqb-true}
use lib.IntN.{ℤ}
use lib.ListN.{length-append}
use Rattle.words.specs.Answer.{Answer, got}
use Rattle.words.proofs.AnswerLaws.{got-inj, stop≢got, step, tested}
use Rattle.program.specs.Forms.{most_statements, block_depth}
use Rattle.program.specs.Grammar as Limits
use Rattle.tokens.specs.declared.Token.{Token}
use Rattle.tokens.specs.Codes.{end_code, name_code, skip_code, always_code, once_code, if_code, then_code, else_code, while_code, do_code, semicolon_code, open_brace_code, close_brace_code}
use Rattle.tokens.proofs.TextRules.{makes-up}
use Rattle.tokens.proofs.SameLaws.{same-itself}
use Rattle.text.specs.Grammar.{Meaning, statement, row, block, Yields, Text}
use Rattle.text.specs.Reading.{Fault, Reader, Form, passing, peek, refusal, take, need, is, expression, statement_at, row_at, block_at, first_reader, text_at}
use Rattle.text.specs.Claims.{TokensOf, NamesAre, Sorted, NumbersFit, Reads}
use Rattle.text.proofs.TookLaws.{spot, Fine, Took, took-on, Later, later_same, before}
use Rattle.text.proofs.TakenLaws.{TokenLaws, One, take-one, need-one, by-take}
use Rattle.text.proofs.PieceLaws.{either_way, never, Piece}
use Rattle.text.proofs.ExpressionLaws.{ExpressionIs, expression-sound}
use Rattle.text.proofs.ConstraintLaws.{Stated, StatedWithin, StatedIs, stated-sound}
use Rattle.text.proofs.FieldLaws.{StatementIs, assignment-sound}

always-is : {M : Meaning} {ts : List Token} {ws : List ℤ} {os : List ℕ} → Stated M 3 always_code ts ws os → Yields M statement ts ws os
always-is (Stated.value t i c) = Yields.always t i c
always-is (Stated.same t e i p j q) = Yields.always-same t e i p j q

once_is : {M : Meaning} {ts : List Token} {ws : List ℤ} {os : List ℕ} → Stated M 4 once_code ts ws os → Yields M statement ts ws os
once_is (Stated.value t i c) = Yields.once t i c
once_is (Stated.same t e i p j q) = Yields.once-same t e i p j q

always-within : {d : ℕ} {ws : List ℤ} → StatedWithin 3 ws → Limits.Yields (Limits.statement_of d) ws
always-within (StatedWithin.value c) = Limits.Yields.always c
always-within (StatedWithin.same p q) = Limits.Yields.always_same p q

once-within : {d : ℕ} {ws : List ℤ} → StatedWithin 4 ws → Limits.Yields (Limits.statement_of d) ws
once-within (StatedWithin.value c) = Limits.Yields.once c
once-within (StatedWithin.same p q) = Limits.Yields.once_same p q

module _ (text : List ℕ) where
  abbrev pub BlockIs : ℕ → Reader → Reader → Form → Type 0
  BlockIs d r s f = Piece text (λ M. Yields M block) (λ g. Limits.Yields (Limits.block_of d) g.words) r s 0 f

  abbrev pub RowIs : ℕ → Reader → ℕ × (Form × Reader) → Type 0
  RowIs d r x = Piece text (λ M. Yields M (row x.0)) (λ g. Limits.Yields (Limits.statements_of d x.0) g.words) r x.1.1 0 x.1.0

module _ {text : List ℕ} (L : TokenLaws text) where
  module _ (d : ℕ) (blocks : Reader → Answer Fault (Form × Reader)) (ih : (r : Reader) (x : Form × Reader) → Fine text (spot r) → blocks r ≡ got x → BlockIs text d r x.1 x.0) where
    pub statement-sound : (r : Reader) (x : Form × Reader) → Fine text (spot r) → statement_at text blocks r ≡ got x → StatementIs text d r x.1 x.0
    unfolding statement_at
    statement-sound r x f e =
        either_way (is text r name_code) _ _ e (λ t e1. assignment-sound L d r x f e1)
        (λ _ e. either_way (is text r skip_code) _ _ e
        (λ t e1.
        step (take text 1 r) _ e1 λ s e2 e3.
        let i : (peek text r).code ≡ skip_code = eqb-true (peek text r).code skip_code t in
        let o : One text 1 r s = take-one L 1 r s skip_code f i refl e2 in
        rw (← got-inj e3) (record {
          rest = [];
          took = o.took;
          yields = λ vs ls l. Yields.skip (peek text r) i;
          limits = Limits.Yields.skip;
          sum = omega (arith, o.sum);
          unpassed = o.unpassed;
        }))
        (λ _ e. either_way (is text r always_code) _ _ e
        (λ t e1.
        step (take text 1 r) _ e1 λ s e2 e3.
        let i : (peek text r).code ≡ always_code = eqb-true (peek text r).code always_code t in
        let o : One text 1 r s = take-one L 1 r s always_code f i refl e2 in
        let z : StatedIs text 3 always_code r x.1 x.0 = stated-sound L 3 always_code r s x i o e3 in
        record { rest = z.rest; took = z.took; yields = λ vs ls l. always-is (z.yields vs ls l); limits = always-within z.limits; sum = z.sum; unpassed = z.unpassed })
        (λ _ e. either_way (is text r once_code) _ _ e
        (λ t e1.
        step (take text 1 r) _ e1 λ s e2 e3.
        let i : (peek text r).code ≡ once_code = eqb-true (peek text r).code once_code t in
        let o : One text 1 r s = take-one L 1 r s once_code f i refl e2 in
        let z : StatedIs text 4 once_code r x.1 x.0 = stated-sound L 4 once_code r s x i o e3 in
        record { rest = z.rest; took = z.took; yields = λ vs ls l. once_is (z.yields vs ls l); limits = once-within z.limits; sum = z.sum; unpassed = z.unpassed })
        (λ _ e. either_way (is text r if_code) _ _ e
        (λ t e1.
        step (take text 1 r) _ e1 λ s e2 e3.
        step (expression text false s) _ e3 λ g e4 e5.
        step (need text then_code 0 g.1) _ e5 λ u e6 e7.
        step (blocks u) _ e7 λ a e8 e9.
        step (need text else_code 0 a.1) _ e9 λ v f1 f2.
        step (blocks v) _ f2 λ b f3 f4.
        let i : (peek text r).code ≡ if_code = eqb-true (peek text r).code if_code t in
        let o : One text 1 r s = take-one L 1 r s if_code f i refl e2 in
        let z : ExpressionIs text false s g.1 0 g.0 = expression-sound L false s g o.took.fine e4 in
        let h : ((peek text g.1).code ≡ then_code) × One text 0 g.1 u = need-one L then_code 0 g.1 u z.took.fine refl e6 in
        let p : BlockIs text d u a.1 a.0 = ih u a h.1.took.fine e8 in
        let k : ((peek text a.1).code ≡ else_code) × One text 0 a.1 v = need-one L else_code 0 a.1 v p.took.fine refl f1 in
        let q : BlockIs text d v b.1 b.0 = ih v b k.1.took.fine f3 in
        rw (← got-inj f4) (record {
          rest = peek text s ∷ z.rest ++ peek text g.1 ∷ peek text u ∷ p.rest ++ peek text a.1 ∷ peek text v ∷ q.rest;
          took = took-on (took-on (took-on o.took z.took) (took-on h.1.took p.took)) (took-on k.1.took q.took);
          yields = λ vs ls l.
              let m : Later (spot a.1) vs ls = before k.1.took (before q.took l) in
              let n : Later (spot g.1) vs ls = before h.1.took (before p.took m) in
              Yields.branch (peek text r) (peek text g.1) (peek text a.1) i (z.yields vs ls n) h.0 (p.yields vs ls m) k.0 (q.yields vs ls l);
          limits = Limits.Yields.branch z.limits p.limits q.limits;
          sum = rw (length-append g.0.words (a.0.words ++ b.0.words), length-append a.0.words b.0.words)
              (omega (arith, o.sum, z.sum, h.1.sum, p.sum, k.1.sum, q.sum));
          unpassed = o.unpassed;
        }))
        (λ _ e. either_way (is text r while_code) _ _ e
        (λ t e1.
        step (take text 1 r) _ e1 λ s e2 e3.
        step (expression text false s) _ e3 λ g e4 e5.
        step (need text do_code 0 g.1) _ e5 λ u e6 e7.
        step (blocks u) _ e7 λ a e8 e9.
        let i : (peek text r).code ≡ while_code = eqb-true (peek text r).code while_code t in
        let o : One text 1 r s = take-one L 1 r s while_code f i refl e2 in
        let z : ExpressionIs text false s g.1 0 g.0 = expression-sound L false s g o.took.fine e4 in
        let h : ((peek text g.1).code ≡ do_code) × One text 0 g.1 u = need-one L do_code 0 g.1 u z.took.fine refl e6 in
        let p : BlockIs text d u a.1 a.0 = ih u a h.1.took.fine e8 in
        rw (← got-inj e9) (record {
          rest = (peek text s ∷ z.rest) ++ peek text g.1 ∷ peek text u ∷ p.rest;
          took = took-on o.took (took-on z.took (took-on h.1.took p.took));
          yields = λ vs ls l. Yields.loop (peek text r) (peek text g.1) i (z.yields vs ls (before h.1.took (before p.took l))) h.0 (p.yields vs ls l);
          limits = Limits.Yields.loop z.limits p.limits;
          sum = rw (length-append g.0.words a.0.words) (omega (arith, o.sum, z.sum, h.1.sum, p.sum));
          unpassed = o.unpassed;
        }))
        (λ _ e. stop≢got e))))))

    last : (r : Reader) (f : Form × Reader) → StatementIs text d r f.1 f.0 → RowIs text d r (1, f)
    last r f z = record {
      rest = z.rest;
      took = z.took;
      yields = λ vs ls l. Yields.last (z.yields vs ls l);
      limits = rw append-nil at (Limits.Yields.one z.limits Limits.Yields.none);
      sum = z.sum;
      unpassed = z.unpassed;
    }

    pub row-sound : (n : ℕ) (r : Reader) (x : ℕ × (Form × Reader)) → Fine text (spot r) → row_at text blocks n r ≡ got x → RowIs text d r x × (x.0 ≤ suc n)
    unfolding row_at
    row-sound zero r x f e =
        step (statement_at text blocks r) _ e λ g e1 e2.
        let z : StatementIs text d r g.1 g.0 = statement-sound r g f e1 in
        either_way (is text g.1 semicolon_code) _ _ e2
        (λ t e3.
        step (take text 0 g.1) _ e3 λ s e4 e5.
        step (statement_at text blocks (passing true s)) _ e5 λ h e6 e7.
        let i : (peek text g.1).code ≡ semicolon_code = eqb-true (peek text g.1).code semicolon_code t in
        let o : One text 0 g.1 s = take-one L 0 g.1 s semicolon_code z.took.fine i refl e4 in
        never s.passed (statement-sound (passing true s) h o.took.fine e6).unpassed)
        (λ t e3. rw (← got-inj e3) (last r g z, omega arith))
    row-sound (suc n) r x f e =
        step (statement_at text blocks r) _ e λ g e1 e2.
        let z : StatementIs text d r g.1 g.0 = statement-sound r g f e1 in
        either_way (is text g.1 semicolon_code) _ _ e2
        (λ t e3.
        step (take text 0 g.1) _ e3 λ s e4 e5.
        step (row_at text blocks n s) _ e5 λ h e6 e7.
        let i : (peek text g.1).code ≡ semicolon_code = eqb-true (peek text g.1).code semicolon_code t in
        let o : One text 0 g.1 s = take-one L 0 g.1 s semicolon_code z.took.fine i refl e4 in
        let p : RowIs text d s h × (h.0 ≤ suc n) = row-sound n s h o.took.fine e6 in
        rw (← got-inj e7) (
          record {
            rest = z.rest ++ peek text g.1 ∷ peek text s ∷ p.0.rest;
            took = took-on z.took (took-on o.took p.0.took);
            yields = λ vs ls l. Yields.more (peek text g.1) (z.yields vs ls (before o.took (before p.0.took l))) i (p.0.yields vs ls l);
            limits = Limits.Yields.one z.limits p.0.limits;
            sum = rw (length-append g.0.words h.1.0.words) (omega (arith, z.sum, o.sum, p.0.sum));
            unpassed = z.unpassed;
          },
          omega (arith, p.1),
        ))
        (λ t e3. rw (← got-inj e3) (last r g z, omega arith))

  pub block-sound : (d : ℕ) (r : Reader) (x : Form × Reader) → Fine text (spot r) → block_at text d r ≡ got x → BlockIs text d r x.1 x.0
  unfolding block_at
  block-sound zero r x f e =
      step (need text open_brace_code 1 (passing true r)) _ e λ s e1 e2.
      never r.passed (need-one L open_brace_code 1 (passing true r) s f refl e1).1.unpassed
  block-sound (suc d) r x f e =
      step (need text open_brace_code 1 r) _ e λ s e1 e2.
      let o : ((peek text r).code ≡ open_brace_code) × One text 1 r s = need-one L open_brace_code 1 r s f refl e1 in
      either_way (is text s close_brace_code) _ _ e2
      (λ t e3.
      step (take text 0 s) _ e3 λ u e4 e5.
      let i : (peek text s).code ≡ close_brace_code = eqb-true (peek text s).code close_brace_code t in
      let c : One text 0 s u = take-one L 0 s u close_brace_code o.1.took.fine i refl e4 in
      rw (← got-inj e5) (record {
        rest = peek text s ∷ [];
        took = took-on o.1.took c.took;
        yields = λ vs ls l. Yields.empty (peek text r) (peek text s) o.0 i;
        limits = Limits.Yields.block {n = 0} (omega arith) Limits.Yields.none;
        sum = omega (arith, o.1.sum, c.sum);
        unpassed = o.1.unpassed;
      }))
      (λ t e3.
      step (row_at text (λ v. block_at text d v) (most_statements - 1) s) _ e3 λ g e4 e5.
      step (need text close_brace_code 0 g.1.1) _ e5 λ u e6 e7.
      let z : RowIs text d s g × (g.0 ≤ 255) = row-sound d (λ v. block_at text d v) (λ v y h k. block-sound d v y h k) 254 s g o.1.took.fine e4 in
      let c : ((peek text g.1.1).code ≡ close_brace_code) × One text 0 g.1.1 u = need-one L close_brace_code 0 g.1.1 u z.0.took.fine refl e6 in
      rw (← got-inj e7) (record {
        rest = (peek text s ∷ z.0.rest) ++ peek text g.1.1 ∷ [];
        took = took-on o.1.took (took-on z.0.took c.1.took);
        yields = λ vs ls l. Yields.braces (peek text r) (peek text g.1.1) o.0 (z.0.yields vs ls (before c.1.took l)) c.0;
        limits = Limits.Yields.block z.1 z.0.limits;
        sum = omega (arith, o.1.sum, z.0.sum, c.1.sum);
        unpassed = o.1.unpassed;
      }))

  first_fine : Fine text (spot (first_reader text))
  first_fine = record { inside = omega arith; few_variables = omega arith; few_labels = omega arith; no-dot = λ e. omega arith }

  ended : (c : ℕ) (t : Token) → t.code ≡ end_code → Sorted c (t ∷ []) [] []
  ended c t i = Sorted.other {t = t} (λ n. absurd (omega arith)) Sorted.none

  pub text-sound : (f : Form) (r : Reader) → text_at text ≡ got (f, r) → Reads text f.words f.origins r.variables r.labels
  unfolding text_at need peek
  text-sound f r e =
      either_way (is text (first_reader text) end_code) _ _ e
      (λ t e1.
      let i : (peek text (first_reader text)).code ≡ end_code = eqb-true (peek text (first_reader text)).code end_code t in
      whole (got-inj e1) (record {
        tokens = [];
        to = 0;
        last = semicolon_code;
        spelt = TokensOf.none;
        ends = i;
        yields = Text.nothing;
        variable_tokens = [];
        label_tokens = [];
        sorted = ended semicolon_code (peek text (first_reader text)) i;
        variable_names = NamesAre.none;
        label_names = NamesAre.none;
        few_variables = omega arith;
        few_labels = omega arith;
        numbers = NumbersFit.none;
        limits = record { yields = Limits.Yields.block {n = 0} (omega arith) Limits.Yields.none; short = omega arith };
      }))
      (λ t e1.
      step (row_at text (λ v. block_at text (block_depth - 1) v) (most_statements - 1) (first_reader text)) _ e1 λ g e2 e3.
      step (need text end_code 0 g.1.1) _ e3 λ u e4 e5.
      let z : RowIs text 7 (first_reader text) g × (g.0 ≤ 255) = row-sound 7 (λ v. block_at text 7 v) (λ v y h k. block-sound 7 v y h k) 254 (first_reader text) g first_fine e2 in
      tested (refusal text (peek text g.1.1)) (is text g.1.1 end_code) _ e4 λ c e6.
      let i : (peek text g.1.1).code ≡ end_code = eqb-true (peek text g.1.1).code end_code c in
      by-take text 0 g.1.1 u e6 λ p h j.
      let k : Took text (spot (first_reader text)) (spot g.1.1) (peek text (first_reader text) ∷ z.0.rest) = z.0.took in
      whole (got-inj e5) (rw (← j) (record {
        tokens = peek text (first_reader text) ∷ z.0.rest;
        to = g.1.1.at;
        last = g.1.1.last;
        spelt = k.spelt;
        ends = i;
        yields = Text.some (z.0.yields g.1.1.variables g.1.1.labels (later_same (spot g.1.1)));
        variable_tokens = k.variable_tokens ++ [];
        label_tokens = k.label_tokens ++ [];
        sorted = k.sorted (peek text g.1.1) [] [] [] (λ n. absurd (omega arith)) (ended g.1.1.last (peek text g.1.1) i);
        variable_names = rw append-nil k.variable_names;
        label_names = rw append-nil k.label_names;
        few_variables = k.fine.few_variables;
        few_labels = k.fine.few_labels;
        numbers = k.numbers;
        limits = record { yields = Limits.Yields.block z.1 z.0.limits; short = omega (arith, z.0.sum) };
      })))
    where
      whole : {x : Form × Reader} → x ≡ (f, r) → Reads text x.0.words x.0.origins x.1.variables x.1.labels → Reads text f.words f.origins r.variables r.labels
      whole q d = rw q at d

-- accepted, then of the grammar and within the limits
pub accepted-sound : (text : List ℕ) (f : Form) (r : Reader) → text_at text ≡ got (f, r) → Reads text f.words f.origins r.variables r.labels
accepted-sound text f r e = text-sound (record { makes-up = λ due at h. makes-up due text at h; same-itself = same-itself text }) f r e
