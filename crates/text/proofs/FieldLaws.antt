-- Assignments and fields that are read are the grammar's, within the limits. Assumes the two laws of tokens that `TokenLaws` names.
use mathlib.Core.Path.{◌≡◌, refl, sym, ◌∙◌}
use mathlib.Core.Bool.{true, false, ◌&&◌}
use mathlib.Core.List.{List, [], ◌∷◌, ◌++◌, append-nil}
use Prim.Native.Nat.{ℕ, zero, suc, ◌+◌, ◌-◌, ◌≤◌, ◌<◌}
use native.Mathlib.Omega.{arith}
use borrow.Author.Tests.{eqb-true}
use lib.Dec.{eqb}
use lib.IntN.{ℤ, pos}
use lib.ListN.{length, length-append}
use Rattle.words.specs.Answer.{Answer, got}
use Rattle.words.proofs.AnswerLaws.{got-inj, step}
use Rattle.tables.specs.Sizes.{variables, labels, most_fields}
use Rattle.tables.proofs.SearchLaws.{cases, and_left, and_right}
use Rattle.program.specs.Forms.{expression_depth}
use Rattle.program.specs.Reading.{among}
use Rattle.program.specs.Grammar as Limits
use Rattle.tokens.specs.declared.Token.{Token}
use Rattle.tokens.specs.Codes.{name_code, colon_code, comma_code, new_code, becomes_code, open_brace_code, close_brace_code}
use Rattle.tokens.specs.Bytes.{same_in}
use Rattle.text.specs.Grammar.{Meaning, Labels, Path, Expression, Fields, statement, Yields}
use Rattle.text.specs.Reading.{Fault, Named, Reader, Form, form, owing, passing, peek, take, need, is, number_in, with_name}
use Rattle.text.specs.Reading.{label, path, expression, field_at, fields_on, fields_at, assignment}
use Rattle.text.specs.Claims.{meaning}
use Rattle.text.proofs.NameLaws.{Extends, extends-on, extends-same, names-extend, number-stays, number-within}
use Rattle.text.proofs.TookLaws.{Spot, spot, total, Fine, Took, took-none, took-on, Later, later_same, before, Below}
use Rattle.text.proofs.TakenLaws.{TokenLaws, One, take-one, need-one, Field, field-one, name-same}
use Rattle.text.proofs.AnswerSteps.{label-never}
use Rattle.text.proofs.PieceLaws.{either_way, never, Piece, PathIs, path-sound, path_names}
use Rattle.text.proofs.ExpressionLaws.{ExpressionIs, expression-sound}

-- ---- one field

pub data FieldOf (M : Meaning) : List Token → List ℤ → List ℕ → Type 0 where
  written : (l c : Token) {ts : List Token} {ws : List ℤ} {os : List ℕ}
      → l.code ≡ name_code → c.code ≡ colon_code → Expression M false 1 ts ws os → FieldOf M (l ∷ c ∷ ts) (pos (M.label l) ∷ ws) (l.place ∷ os)

field_is : {M : Meaning} {n : ℕ} (l c : Token) {ts : List Token} {ws : List ℤ} {os : List ℕ}
    → l.code ≡ name_code → c.code ≡ colon_code → M.label l ≡ n → Expression M false 1 ts ws os → FieldOf M (l ∷ c ∷ ts) (pos n ∷ ws) (l.place ∷ os)
field_is l c a b e k = rw (← e) (FieldOf.written l c a b k)

fields-one : {M : Meaning} {ts : List Token} {ws : List ℤ} {os : List ℕ} → FieldOf M ts ws os → Fields M 1 ts ws os
fields-one (FieldOf.written l c a b k) = Fields.one l c a b k

fields-more : {M : Meaning} {n : ℕ} {a b : List Token} (j : Token) {va vb : List ℤ} {oa ob : List ℕ}
    → FieldOf M a va oa → j.code ≡ comma_code → Fields M n b vb ob → Fields M (suc n) (a ++ j ∷ b) (va ++ vb) (oa ++ ob)
fields-more j (FieldOf.written l c a b k) i f = Fields.more l c j a b k i f

pub data FieldWithin (n : ℕ) (seen : List ℕ) : List ℤ → Type 0 where
  fit : {e : List ℤ} → n < labels → among n seen ≡ false → Limits.Expression false expression_depth e → FieldWithin n seen (pos n ∷ e)

field-on : {m n : ℕ} {seen : List ℕ} {a fs : List ℤ} → FieldWithin n seen a → Limits.Fields m (n ∷ seen) fs → Limits.Fields (suc m) seen (a ++ fs)
field-on (FieldWithin.fit h k e) f = Limits.Fields.one h k e f

below_on : {n m : ℕ} {seen : List ℕ} → n ≤ m → Below n seen → Below m seen
below_on h Below.none = Below.none
below_on h (Below.more {m = m} k b) = Below.more {m = m} (omega arith) (below_on h b)

-- ---- `{`, fields, `}`

pub data Braced (M : Meaning) : ℕ → List Token → List ℤ → List ℕ → Type 0 where
  empty : (o c : Token) → o.code ≡ open_brace_code → c.code ≡ close_brace_code → Braced M 0 (o ∷ c ∷ []) [] []
  some : {n : ℕ} (o c : Token) {ts : List Token} {ws : List ℤ} {os : List ℕ}
      → o.code ≡ open_brace_code → Fields M n ts ws os → c.code ≡ close_brace_code → Braced M n (o ∷ ts ++ c ∷ []) ws os

new_is : {M : Meaning} {n k : ℕ} (x b w o : Token) {ts : List Token} {ws : List ℤ} {os : List ℕ} → x.code ≡ name_code → b.code ≡ becomes_code → w.code ≡ new_code → M.variable x ≡ k
    → Braced M n (o ∷ ts) ws os → Yields M statement (x ∷ b ∷ w ∷ o ∷ ts) (pos 2 ∷ pos k ∷ pos n ∷ ws) (x.place ∷ x.place ∷ o.place ∷ os)
new_is x b w o h i j e (Braced.empty _ c k l) = rw (← e) (Yields.new_empty x b w o c h i j k l)
new_is x b w o h i j e (Braced.some _ c k f l) = rw (← e) (Yields.new x b w o c h i j k f l)

bare : {M : Meaning} {x : Token} {ts : List Token} {ws : List ℤ} {os : List ℕ} → Path M (x ∷ ts) ws os → length ws ≡ 2 → (ts ≡ []) × (x.code ≡ name_code)
bare (Path.path x i Labels.none) e = (refl, i)
bare (Path.path x i (Labels.one d l a b k)) e = absurd (omega arith)

module _ (text : List ℕ) where
  abbrev pub StatementIs : ℕ → Reader → Reader → Form → Type 0
  StatementIs d r s f = Piece text (λ M. Yields M statement) (λ g. Limits.Yields (Limits.statement_of d) g.words) r s 0 f

module _ {text : List ℕ} (L : TokenLaws text) where
  more-labels : {p q : Spot} {ts : List Token} → Took text p q ts → length p.labels ≤ length q.labels
  more-labels {p} k = let x : Extends p.labels _ = names-extend text k.label_names in rw (x.split, length-append) (omega arith)

  record FieldAt (seen : List ℕ) (r : Reader) (x : ℕ × (Form × Reader)) : Type 0 where
    piece : Piece text (λ M. FieldOf M) (λ g. FieldWithin x.0 seen g.words) r x.1.1 0 x.1.0
    below : Below (length x.1.1.labels) (x.0 ∷ seen)

  field-sound : (seen : List ℕ) (r : Reader) (x : ℕ × (Form × Reader)) → Fine text (spot r) → Below (length r.labels) seen → field_at text seen r ≡ got x → FieldAt seen r x
  unfolding field_at
  field-sound seen r x f b e =
      step (label text seen r) _ e λ y e1 e2.
      step (need text colon_code 0 y.1) _ e2 λ s e3 e4.
      step (expression text false s) _ e4 λ g e5 e6.
      let l : Field text seen r y s = field-one L seen r y s f e1 e3 in
      let z : ExpressionIs text false s g.1 0 g.0 = expression-sound L false s g l.took.fine e5 in
      let k : Took text (spot r) (spot g.1) (peek text r ∷ peek text y.1 ∷ peek text s ∷ z.rest) = took-on l.took z.took in
      let low : length s.labels ≤ length g.1.labels = more-labels z.took in
      let n : y.0 < length s.labels = l.label.below in
      rw (← got-inj e6) (record {
        piece = record {
          rest = peek text y.1 ∷ peek text s ∷ z.rest;
          took = k;
          yields = λ vs ls t. field_is (peek text r) (peek text y.1) l.label.name l.colon (l.label.number ls (before z.took t).labels) (z.yields vs ls t);
          limits = FieldWithin.fit l.label.within (l.label.apart b) z.limits;
          sum = omega (arith, l.sum, z.sum);
          unpassed = cases r.passed (λ p. label-never text seen r y p e1) (λ p. p);
        };
        below = Below.more {m = y.0} (omega arith) (below_on (more-labels k) b);
      })

  -- the fields behind one that has been read
  record FieldsOn (n : ℕ) (seen : List ℕ) (r : Reader) (x : ℕ × (Form × Reader)) : Type 0 where
    tokens : List Token
    took : Took text (spot r) (spot x.1.1) tokens
    yields : (vs ls : List Named) → Later (spot x.1.1) vs ls → (a : List Token) (va : List ℤ) (oa : List ℕ) → FieldOf (meaning text vs ls) a va oa
        → Fields (meaning text vs ls) (suc x.0) (a ++ tokens) (va ++ x.1.0.words) (oa ++ x.1.0.origins)
    limits : Limits.Fields x.0 seen x.1.0.words
    few : x.0 ≤ n
    sum : total x.1.1 ≡ total r + length x.1.0.words

  no_fields : (n : ℕ) (seen : List ℕ) (r : Reader) (x : ℕ × (Form × Reader)) → Fine text (spot r)
      → ◌≡◌ {A = Answer Fault (ℕ × (Form × Reader))} (got (0, (form [] [], r))) (got x) → FieldsOn n seen r x
  no_fields n seen r x f e =
      rw (← got-inj e) (record {
        tokens = [];
        took = took-none f;
        yields = λ vs ls l a va oa p. rw (append-nil a, append-nil va, append-nil oa) (fields-one p);
        limits = Limits.Fields.none;
        few = omega arith;
        sum = omega arith;
      })

  fields-sound : (n : ℕ) (seen : List ℕ) (r : Reader) (x : ℕ × (Form × Reader)) → Fine text (spot r) → Below (length r.labels) seen
      → fields_on text n seen r ≡ got x → FieldsOn n seen r x
  unfolding fields_on
  fields-sound zero seen r x f b e =
      either_way (is text r comma_code) _ _ e
      (λ t e1.
      step (take text 0 r) _ e1 λ s e2 e3.
      step (field_at text seen (passing true s)) _ e3 λ g e4 e5.
      let i : (peek text r).code ≡ comma_code = eqb-true (peek text r).code comma_code t in
      let o : One text 0 r s = take-one L 0 r s comma_code f i refl e2 in
      never s.passed (field-sound seen (passing true s) g o.took.fine (below_on (more-labels o.took) b) e4).piece.unpassed)
      (λ t e1. no_fields zero seen r x f e1)
  fields-sound (suc n) seen r x f b e =
      either_way (is text r comma_code) _ _ e
      (λ t e1.
      step (take text 0 r) _ e1 λ s e2 e3.
      step (field_at text seen s) _ e3 λ g e4 e5.
      step (fields_on text n (g.0 ∷ seen) g.1.1) _ e5 λ h e6 e7.
      let i : (peek text r).code ≡ comma_code = eqb-true (peek text r).code comma_code t in
      let o : One text 0 r s = take-one L 0 r s comma_code f i refl e2 in
      let a : FieldAt seen s g = field-sound seen s g o.took.fine (below_on (more-labels o.took) b) e4 in
      let p : Piece text (λ M. FieldOf M) (λ k. FieldWithin g.0 seen k.words) s g.1.1 0 g.1.0 = a.piece in
      let z : FieldsOn n (g.0 ∷ seen) g.1.1 h = fields-sound n (g.0 ∷ seen) g.1.1 h p.took.fine a.below e6 in
      rw (← got-inj e7) (record {
        tokens = peek text r ∷ peek text s ∷ p.rest ++ z.tokens;
        took = took-on o.took (took-on p.took z.took);
        yields = λ vs ls l a va oa q.
            fields-more (peek text r) q i (z.yields vs ls l (peek text s ∷ p.rest) g.1.0.words g.1.0.origins (p.yields vs ls (before z.took l)));
        limits = field-on p.limits z.limits;
        few = omega (arith, z.few);
        sum = rw (length-append g.1.0.words h.1.0.words) (omega (arith, o.sum, p.sum, z.sum));
      }))
      (λ t e1. no_fields (suc n) seen r x f e1)

  braced-sound : (r : Reader) (x : ℕ × (Form × Reader)) → Fine text (spot r) → fields_at text r ≡ got x
      → Piece text (λ M. Braced M x.0) (λ g. Limits.Fields x.0 [] g.words × (x.0 ≤ most_fields)) r x.1.1 0 x.1.0
  unfolding fields_at
  braced-sound r x f e =
      step (need text open_brace_code 0 r) _ e λ s e1 e2.
      let o : ((peek text r).code ≡ open_brace_code) × One text 0 r s = need-one L open_brace_code 0 r s f refl e1 in
      either_way (is text s close_brace_code) _ _ e2
      (λ t e3.
      step (take text 0 s) _ e3 λ u e4 e5.
      let i : (peek text s).code ≡ close_brace_code = eqb-true (peek text s).code close_brace_code t in
      let c : One text 0 s u = take-one L 0 s u close_brace_code o.1.took.fine i refl e4 in
      rw (← got-inj e5) (record {
        rest = peek text s ∷ [];
        took = took-on o.1.took c.took;
        yields = λ vs ls l. Braced.empty (peek text r) (peek text s) o.0 i;
        limits = (Limits.Fields.none, omega arith);
        sum = omega (arith, o.1.sum, c.sum);
        unpassed = o.1.unpassed;
      }))
      (λ t e3.
      step (field_at text [] s) _ e3 λ g e4 e5.
      step (fields_on text (most_fields - 1) (g.0 ∷ []) g.1.1) _ e5 λ h e6 e7.
      step (need text close_brace_code 0 h.1.1) _ e7 λ u e8 e9.
      let a : FieldAt [] s g = field-sound [] s g o.1.took.fine Below.none e4 in
      let p : Piece text (λ M. FieldOf M) (λ k. FieldWithin g.0 [] k.words) s g.1.1 0 g.1.0 = a.piece in
      let z : FieldsOn 7 (g.0 ∷ []) g.1.1 h = fields-sound 7 (g.0 ∷ []) g.1.1 h p.took.fine a.below e6 in
      let c : ((peek text h.1.1).code ≡ close_brace_code) × One text 0 h.1.1 u = need-one L close_brace_code 0 h.1.1 u z.took.fine refl e8 in
      rw (← got-inj e9) (record {
        rest = ((peek text s ∷ p.rest) ++ z.tokens) ++ peek text h.1.1 ∷ [];
        took = took-on o.1.took (took-on (took-on p.took z.took) c.1.took);
        yields = λ vs ls l.
            let y : Later (spot h.1.1) vs ls = before c.1.took l in
            let q : FieldOf (meaning text vs ls) (peek text s ∷ p.rest) g.1.0.words g.1.0.origins = p.yields vs ls (before z.took y) in
            Braced.some (peek text r) (peek text h.1.1) o.0 (z.yields vs ls y (peek text s ∷ p.rest) g.1.0.words g.1.0.origins q) c.0;
        limits = (field-on p.limits z.limits, omega (arith, z.few));
        sum = rw (length-append g.1.0.words h.1.0.words) (omega (arith, o.1.sum, p.sum, z.sum, c.1.sum));
        unpassed = o.1.unpassed;
      }))

  -- ---- assignments and new

  record Numbered (r s : Reader) (n : ℕ) : Type 0 where
    within : n < variables
    number : (vs : List Named) → Extends s.variables vs → number_in text vs (peek text r) ≡ n

  numbered : (r s : Reader) → Fine text (spot r) → Fine text (spot s) → (peek text r).code ≡ name_code → Extends (with_name text r.variables (peek text r)) s.variables
      → Numbered r s (number_in text (with_name text r.variables (peek text r)) (peek text r))
  numbered r s f g i x =
      let same : same_in text (peek text r).place (peek text r).place ((peek text r).end - (peek text r).place) ≡ true = name-same L r f.inside i in
      let stays : number_in text (with_name text r.variables (peek text r)) (peek text r) ≡ number_in text r.variables (peek text r)
      = number-stays text r.variables (peek text r) (with_name text r.variables (peek text r)) same (extends-same (with_name text r.variables (peek text r))) in
      let low : number_in text r.variables (peek text r) < length (with_name text r.variables (peek text r)) = number-within text r.variables (peek text r) in
      let most : length (with_name text r.variables (peek text r)) + length x.behind ≤ variables
      = rw (x.split, length-append (with_name text r.variables (peek text r)) x.behind) at g.few_variables in
      record {
        within = omega arith;
        number = λ vs y. number-stays text r.variables (peek text r) vs same (extends-on x y) ∙ sym stays;
      }

  pub assignment-sound : (d : ℕ) (r : Reader) (x : Form × Reader) → Fine text (spot r) → assignment text r ≡ got x → StatementIs text d r x.1 x.0
  unfolding assignment peek
  assignment-sound d r x f e =
      step (path text 2 (owing 1 r)) _ e λ g e1 e2.
      step (need text becomes_code 0 g.1) _ e2 λ s e3 e4.
      let p : PathIs text (owing 1 r) g.1 0 g.0 = path-sound L 2 0 (owing 1 r) g refl f e1 in
      let b : ((peek text g.1).code ≡ becomes_code) × One text 0 g.1 s = need-one L becomes_code 0 g.1 s p.took.fine refl e3 in
      either_way (is text s new_code && eqb (length g.0.words) 2) _ _ e4
      (λ t e5.
      step (take text 0 s) _ e5 λ u e6 e7.
      step (fields_at text u) _ e7 λ h e8 e9.
      let i : (peek text s).code ≡ new_code = eqb-true (peek text s).code new_code (and_left (is text s new_code) _ t) in
      let two : length g.0.words ≡ 2 = eqb-true (length g.0.words) 2 (and_right (is text s new_code) _ t) in
      let w : One text 0 s u = take-one L 0 s u new_code b.1.took.fine i refl e6 in
      let z : Piece text (λ M. Braced M h.0) (λ g. Limits.Fields h.0 [] g.words × (h.0 ≤ most_fields)) u h.1.1 0 h.1.0 = braced-sound u h w.took.fine e8 in
      let only : (p.rest ≡ []) × ((peek text r).code ≡ name_code) = bare (p.yields g.1.variables g.1.labels (later_same (spot g.1))) two in
      let first : Took text (spot r) (spot g.1) (peek text r ∷ []) = rw only.0 at p.took in
      let n : Numbered r g.1 (number_in text (with_name text r.variables (peek text r)) (peek text r))
      = numbered r g.1 f p.took.fine only.1 (path_names L 2 (owing 1 r) g f e1) in
      rw (← got-inj e9) (record {
        rest = peek text g.1 ∷ peek text s ∷ peek text u ∷ z.rest;
        took = took-on first (took-on b.1.took (took-on w.took z.took));
        yields = λ vs ls l.
            let m : Later (spot g.1) vs ls = before b.1.took (before w.took (before z.took l)) in
            new_is (peek text r) (peek text g.1) (peek text s) (peek text u) only.1 b.0 i (n.number vs m.variables) (z.yields vs ls l);
        limits = Limits.Yields.new n.within z.limits.1 z.limits.0;
        sum = omega (arith, p.sum, b.1.sum, w.sum, z.sum);
        unpassed = p.unpassed;
      }))
      (λ t e5.
      step (expression text false s) _ e5 λ h e6 e7.
      let z : ExpressionIs text false s h.1 0 h.0 = expression-sound L false s h b.1.took.fine e6 in
      rw (← got-inj e7) (record {
        rest = p.rest ++ peek text g.1 ∷ peek text s ∷ z.rest;
        took = took-on p.took (took-on b.1.took z.took);
        yields = λ vs ls l. Yields.assign (peek text r) (peek text g.1) (p.yields vs ls (before b.1.took (before z.took l))) b.0 (z.yields vs ls l);
        limits = Limits.Yields.assign p.limits z.limits;
        sum = rw (length-append g.0.words h.0.words) (omega (arith, p.sum, b.1.sum, z.sum));
        unpassed = p.unpassed;
      }))
