-- Constraints that are read are the grammar's, within the limits. Assumes the two laws of tokens that `TokenLaws` names.
use mathlib.Core.Path.{◌≡◌, refl}
use mathlib.Core.Bool.{true, ◌&&◌}
use mathlib.Core.List.{List, [], ◌∷◌, ◌++◌, append-nil}
use Prim.Native.Nat.{ℕ, zero, suc, ◌+◌, ◌-◌, ◌≤◌, ◌<◌}
use native.Mathlib.Omega.{arith}
use borrow.Author.Tests.{leb-true, ltb-true, eqb-true, le-leb, ne_eqb}
use lib.Dec.{ltb, leb}
use lib.IntN.{ℤ, pos}
use lib.ListN.{length, length-append}
use Rattle.words.specs.Answer.{Answer, got}
use Rattle.words.proofs.AnswerLaws.{got-inj, step}
use Rattle.tables.proofs.SearchLaws.{cases, and_left, and_right}
use Rattle.program.specs.Forms.{expression_depth, most_parts, required}
use Rattle.program.specs.Grammar as Limits
use Rattle.tokens.specs.declared.Token.{Token}
use Rattle.tokens.specs.Codes.{name_code, colon_code, dot_code, weak_code, beside_code, identical_code}
use Rattle.text.specs.Grammar.{Meaning, Path, Expression, Part, Parts, Constraint}
use Rattle.text.specs.Reading.{Fault, Named, Reader, Form, form, word_then, owing, passing, peek, take, is}
use Rattle.text.specs.Reading.{path, expression, expression_on, priority, part_at, parts_on, constraint_on, stated_on, stated}
use Rattle.text.specs.Claims.{meaning}
use Rattle.text.proofs.TookLaws.{spot, total, Fine, Took, took-none, took-on, Later, before, ordinary}
use Rattle.text.proofs.TakenLaws.{TokenLaws, One, take-one}
use Rattle.text.proofs.PieceLaws.{either_way, never, Piece, PathIs, Operand, path-sound, leaf}
use Rattle.text.proofs.ExpressionLaws.{ExpressionIs, expression-sound, expression-on-sound}

pub data PartWithin : List ℤ → Type 0 where
  part : {k : ℕ} {e : List ℤ} → 1 ≤ k → k ≤ required → Limits.Expression true expression_depth e → PartWithin (pos k ∷ e)

part-on : {m : ℕ} {a ps : List ℤ} → PartWithin a → Limits.Parts m ps → Limits.Parts (suc m) (a ++ ps)
part-on (PartWithin.part h k e) p = Limits.Parts.one h k e p

-- what the token of the code c, which writes `verb`, states
pub data Stated (M : Meaning) (verb c : ℕ) : List Token → List ℤ → List ℕ → Type 0 where
  value : (t : Token) {ts : List Token} {ws : List ℤ} {os : List ℕ} → t.code ≡ c → Constraint M ts ws os → Stated M verb c (t ∷ ts) (pos verb ∷ ws) (t.place ∷ os)
  same : (t e : Token) {a b : List Token} {va vb : List ℤ} {oa ob : List ℕ}
      → t.code ≡ c → Path M a va oa → e.code ≡ identical_code → Path M b vb ob → Stated M verb c (t ∷ a ++ e ∷ b) (pos (verb + 2) ∷ va ++ vb) (t.place ∷ oa ++ ob)

pub data StatedWithin (verb : ℕ) : List ℤ → Type 0 where
  value : {c : List ℤ} → Limits.Constraint c → StatedWithin verb (pos verb ∷ c)
  same : {a b : List ℤ} → Limits.Path a → Limits.Path b → StatedWithin verb (pos (verb + 2) ∷ a ++ b)

-- a priority that is written
record Said (text : List ℕ) (t : Token) : Type 0 where
  least : 1 ≤ priority text t
  most : priority text t ≤ required
  code : t.code + 1 ≡ weak_code + priority text t
  plain : ordinary t.code ≡ true

said : (text : List ℕ) (t : Token) → 0 < priority text t → Said text t
unfolding priority
said text t h =
    cases (leb weak_code t.code && leb t.code (weak_code + 2))
    (λ y. let a : weak_code ≤ t.code = leb-true weak_code t.code (and_left (leb weak_code t.code) _ y) in
    let b : t.code ≤ weak_code + 2 = leb-true t.code (weak_code + 2) (and_right (leb weak_code t.code) _ y) in
    let k : priority text t ≡ suc (t.code - weak_code) = rw y in
    record {
      least = omega arith;
      most = omega arith;
      code = omega arith;
      plain = rw (le-leb 10 t.code (omega arith), ne_eqb t.code colon_code (λ e. omega arith), ne_eqb t.code dot_code (λ e. omega arith));
    })
    (λ y. absurd (let z : 0 < 0 = rw y at h in omega arith))

module _ (text : List ℕ) where
  abbrev pub PartIs : Reader → Reader → ℕ → Form → Type 0
  PartIs r s k f = Piece text (λ M. Part M) (λ g. PartWithin g.words) r s k f

  abbrev pub ConstraintIs : Reader → Reader → ℕ → Form → Type 0
  ConstraintIs r s k f = Piece text (λ M. Constraint M) (λ g. Limits.Constraint g.words) r s k f

  abbrev pub StatedIs : ℕ → ℕ → Reader → Reader → Form → Type 0
  StatedIs verb c r s f = Piece text (λ M. Stated M verb c) (λ g. StatedWithin verb g.words) r s 0 f

module _ {text : List ℕ} (L : TokenLaws text) where
  pub part_sound : (r : Reader) (x : Form × Reader) → Fine text (spot r) → part_at text r ≡ got x → PartIs text r x.1 0 x.0
  unfolding part_at peek
  part_sound r x f e =
      either_way (ltb 0 (priority text (peek text r))) _ _ e
      (λ t e1.
      step (take text 1 r) _ e1 λ s e2 e3.
      step (expression text true s) _ e3 λ g e4 e5.
      let h : Said text (peek text r) = said text (peek text r) (ltb-true 0 (priority text (peek text r)) t) in
      let o : One text 1 r s = take-one L 1 r s (peek text r).code f refl h.plain e2 in
      let z : ExpressionIs text true s g.1 0 g.0 = expression-sound L true s g o.took.fine e4 in
      rw (← got-inj e5) (record {
        rest = peek text s ∷ z.rest;
        took = took-on o.took z.took;
        yields = λ vs ls l. Part.said (peek text r) h.least h.most h.code (z.yields vs ls l);
        limits = PartWithin.part h.least h.most z.limits;
        sum = omega (arith, o.sum, z.sum);
        unpassed = o.unpassed;
      }))
      (λ t e1.
      step (expression text true (owing 1 r)) _ e1 λ g e2 e3.
      let z : ExpressionIs text true (owing 1 r) g.1 0 g.0 = expression-sound L true (owing 1 r) g f e2 in
      rw (← got-inj e3) (record {
        rest = z.rest;
        took = z.took;
        yields = λ vs ls l. Part.unsaid (peek text r) (z.yields vs ls l);
        limits = PartWithin.part {k = required} (omega arith) (omega arith) z.limits;
        sum = omega (arith, z.sum);
        unpassed = z.unpassed;
      }))

  -- the parts behind one that has been read
  record PartsOn (n : ℕ) (r : Reader) (x : ℕ × (Form × Reader)) : Type 0 where
    tokens : List Token
    took : Took text (spot r) (spot x.1.1) tokens
    yields : (vs ls : List Named) → Later (spot x.1.1) vs ls → (a : List Token) (va : List ℤ) (oa : List ℕ) → Part (meaning text vs ls) a va oa
        → Parts (meaning text vs ls) (suc x.0) (a ++ tokens) (va ++ x.1.0.words) (oa ++ x.1.0.origins)
    limits : Limits.Parts x.0 x.1.0.words
    few : x.0 ≤ n
    sum : total x.1.1 ≡ total r + length x.1.0.words

  no-parts : (n : ℕ) (r : Reader) (x : ℕ × (Form × Reader)) → Fine text (spot r) → ◌≡◌ {A = Answer Fault (ℕ × (Form × Reader))} (got (0, (form [] [], r))) (got x) → PartsOn n r x
  no-parts n r x f e =
      rw (← got-inj e) (record {
        tokens = [];
        took = took-none f;
        yields = λ vs ls l a va oa p. rw (append-nil a, append-nil va, append-nil oa) (Parts.one p);
        limits = Limits.Parts.none;
        few = omega arith;
        sum = omega arith;
      })

  parts-sound : (n : ℕ) (r : Reader) (x : ℕ × (Form × Reader)) → Fine text (spot r) → parts_on text n r ≡ got x → PartsOn n r x
  unfolding parts_on
  parts-sound zero r x f e =
      either_way (is text r beside_code) _ _ e
      (λ t e1.
      step (take text 0 r) _ e1 λ s e2 e3.
      step (part_at text (passing true s)) _ e3 λ g e4 e5.
      let i : (peek text r).code ≡ beside_code = eqb-true (peek text r).code beside_code t in
      let o : One text 0 r s = take-one L 0 r s beside_code f i refl e2 in
      never s.passed (part_sound (passing true s) g o.took.fine e4).unpassed)
      (λ t e1. no-parts zero r x f e1)
  parts-sound (suc n) r x f e =
      either_way (is text r beside_code) _ _ e
      (λ t e1.
      step (take text 0 r) _ e1 λ s e2 e3.
      step (part_at text s) _ e3 λ g e4 e5.
      step (parts_on text n g.1) _ e5 λ h e6 e7.
      let i : (peek text r).code ≡ beside_code = eqb-true (peek text r).code beside_code t in
      let o : One text 0 r s = take-one L 0 r s beside_code f i refl e2 in
      let p : PartIs text s g.1 0 g.0 = part_sound s g o.took.fine e4 in
      let z : PartsOn n g.1 h = parts-sound n g.1 h p.took.fine e6 in
      rw (← got-inj e7) (record {
        tokens = peek text r ∷ peek text s ∷ p.rest ++ z.tokens;
        took = took-on o.took (took-on p.took z.took);
        yields = λ vs ls l a va oa q.
            Parts.more (peek text r) q i (z.yields vs ls l (peek text s ∷ p.rest) g.0.words g.0.origins (p.yields vs ls (before z.took l)));
        limits = part-on p.limits z.limits;
        few = omega (arith, z.few);
        sum = rw (length-append g.0.words h.1.0.words) (omega (arith, o.sum, p.sum, z.sum));
      }))
      (λ t e1. no-parts (suc n) r x f e1)

  -- its first part has been read, from r to s, and one word more is counted for m
  pub constraint-sound : (k : ℕ) (first : Form) (r s : Reader) (x : Form × Reader) → PartIs text r s (suc k) first → constraint_on text (peek text r).place first s ≡ got x
      → ConstraintIs text r x.1 k x.0
  unfolding constraint_on
  constraint-sound k first r s x p e =
      step (parts_on text (most_parts - 1) s) _ e λ g e1 e2.
      let z : PartsOn 15 s g = parts-sound 15 s g p.took.fine e1 in
      rw (← got-inj e2) (record {
        rest = p.rest ++ z.tokens;
        took = took-on p.took z.took;
        yields = λ vs ls l. Constraint.constraint (peek text r) (z.yields vs ls l (peek text r ∷ p.rest) first.words first.origins (p.yields vs ls (before z.took l)));
        limits = Limits.Constraint.constraint {m = suc g.0} (omega arith) (omega (arith, z.few)) (part-on p.limits z.limits);
        sum = rw (length-append first.words g.1.0.words) (omega (arith, p.sum, z.sum));
        unpassed = p.unpassed;
      })

  -- `always` or `once`, which has been taken from r to s, with what follows
  pub stated-sound : (verb c : ℕ) (r s : Reader) (x : Form × Reader) → (peek text r).code ≡ c → One text 1 r s → stated text verb (peek text r).place s ≡ got x
      → StatedIs text verb c r x.1 x.0
  unfolding stated stated_on peek
  stated-sound verb c r s x i o e =
      either_way (is text s name_code) _ _ e
      (λ t e1.
      step (path text 2 s) _ e1 λ f e2 e3.
      let p : PathIs text s f.1 0 f.0 = path-sound L 2 0 s f refl o.took.fine e2 in
      either_way (is text f.1 identical_code) _ _ e3
      (λ u e4.
      step (take text 0 f.1) _ e4 λ v e5 e6.
      step (path text 2 v) _ e6 λ g e7 e8.
      let j : (peek text f.1).code ≡ identical_code = eqb-true (peek text f.1).code identical_code u in
      let w : One text 0 f.1 v = take-one L 0 f.1 v identical_code p.took.fine j refl e5 in
      let q : PathIs text v g.1 0 g.0 = path-sound L 2 0 v g refl w.took.fine e7 in
      rw (← got-inj e8) (record {
        rest = (peek text s ∷ p.rest) ++ peek text f.1 ∷ peek text v ∷ q.rest;
        took = took-on o.took (took-on p.took (took-on w.took q.took));
        yields = λ vs ls l. Stated.same (peek text r) (peek text f.1) i (p.yields vs ls (before w.took (before q.took l))) j (q.yields vs ls l);
        limits = StatedWithin.same p.limits q.limits;
        sum = rw (length-append f.0.words g.0.words) (omega (arith, o.sum, p.sum, w.sum, q.sum));
        unpassed = o.unpassed;
      }))
      (λ u e4.
      step (expression_on text true (word_then (pos 24) (peek text s).place f.0) (owing 3 f.1)) _ e4 λ g e5 e6.
      step (constraint_on text (peek text s).place (word_then (pos required) (peek text s).place g.0) g.1) _ e6 λ h e7 e8.
      let first : Operand text true s (owing 3 f.1) 2 (word_then (pos 24) (peek text s).place f.0) = record {
        rest = p.rest;
        took = p.took;
        yields = λ vs ls l. Expression.at (peek text s) (p.yields vs ls l);
        limits = ((λ d k. leaf (λ d. Limits.Expression.at p.limits) d k), refl);
        sum = omega (arith, p.sum);
        unpassed = p.unpassed;
      } in
      let z : ExpressionIs text true s g.1 2 g.0 = expression-on-sound L true _ s (owing 3 f.1) 2 g first e5 in
      let k : PartIs text s g.1 1 (word_then (pos required) (peek text s).place g.0) = record {
        rest = z.rest;
        took = z.took;
        yields = λ vs ls l. Part.unsaid (peek text s) (z.yields vs ls l);
        limits = PartWithin.part {k = required} (omega arith) (omega arith) z.limits;
        sum = omega (arith, z.sum);
        unpassed = z.unpassed;
      } in
      value s h.1 h.0 x o (constraint-sound 0 _ s g.1 h k e7) (got-inj e8)))
      (λ t e1.
      step (part_at text (owing 1 s)) _ e1 λ f e2 e3.
      step (constraint_on text (peek text s).place f.0 f.1) _ e3 λ h e4 e5.
      let p : PartIs text (owing 1 s) f.1 0 f.0 = part_sound (owing 1 s) f o.took.fine e2 in
      let k : PartIs text s f.1 1 f.0 = record { rest = p.rest; took = p.took; yields = p.yields; limits = p.limits; sum = omega (arith, p.sum); unpassed = p.unpassed } in
      value s h.1 h.0 x o (constraint-sound 0 f.0 s f.1 h k e4) (got-inj e5))
    where
      value : (s u : Reader) (f : Form) (x : Form × Reader) → One text 1 r s → ConstraintIs text s u 0 f → (word_then (pos verb) (peek text r).place f, u) ≡ x
          → StatedIs text verb c r x.1 x.0
      value s u f x o z e = rw (← e) (record {
        rest = peek text s ∷ z.rest;
        took = took-on o.took z.took;
        yields = λ vs ls l. Stated.value (peek text r) i (z.yields vs ls l);
        limits = StatedWithin.value z.limits;
        sum = omega (arith, o.sum, z.sum);
        unpassed = o.unpassed;
      })
