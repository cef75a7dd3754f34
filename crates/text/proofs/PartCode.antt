-- What the code reads and writes of a part, and of the parts behind a first one, is what the definitions give. Assumes nothing.
use mathlib.Core.Path.{◌≡◌, refl, ◌∙◌}
use mathlib.Core.Bool.{Bool, true, false, cond, ◌&&◌}
use mathlib.Core.List.{List, [], append_assoc, append-nil}
use Prim.Native.Nat.{ℕ, zero, suc, ◌+◌, ◌-◌, ◌≤◌, ◌<◌}
use native.Mathlib.Omega.{arith}
use borrow.Author.Tests.{lt-ltb, le-ltb, lt-leb, le-leb, leb-true, ltb-true, ltb-false, eq-eqb, ne_eqb}
use lib.Dec.{eqb, ltb, leb}
use lib.IntN.{ℤ, pos}
use lib.ListN.{length, set}
use Rattle.words.specs.Answer.{Answer, got, stop, ◌>>=◌}
use Rattle.words.specs.Words.{word_of}
use Rattle.words.proofs.AnswerLaws.{stop≢got, step, either, bind-cong, got-inj}
use Rattle.words.proofs.Laws.{word-is}
use Rattle.tables.proofs.SearchLaws.{cases, and_right}
use Rattle.tokens.specs.declared.Token.{Token}
use Rattle.tokens.specs.Codes.{beside_code, open_bracket_code, name_code}
use Rattle.text.specs.Reading.{Fault, Reader, Form, word_then, and_then, empty, owing, passing, is, peek, take, variable, path}
use Rattle.text.specs.Reading.{path_or_same, literal, literal_at, outside, operand, enough, opened, climb, expression, priority, part_at, parts_on, constraint_on}
use Rattle.text.specs.declared.Carried.{Carried}
use Rattle.text.specs.Told.{reader_of, Peeks, Follows}
use Rattle.text.specs.Written.{with1, wrote_one, Passes, Owes}
use Rattle.text.specs.declared.Lent.{Lent}
use Rattle.text.specs.Pieces.{lent, form_of, Fit, Does, Piece, Expression, Onward, behind_first}
use Rattle.text.proofs.PieceLaws.{either_way}
use Rattle.text.proofs.RowsLaws.{fit-from}
use Rattle.text.proofs.AnswerSteps.{beside, flat, following, worded, behind-first, passing-none, passing-one, take-never, variable-never}
use Rattle.text.proofs.DoesLaws.{ended, does-then, does-as, does-wider, does-nothing, does-stopped, does-take, does-pass, does-owe, does-word, does-first, does-piece}
use Rattle.text.proofs.DoesLaws.{expression-piece, form-none, form-length}
use Rattle.text.proofs.StepLaws.{does-given}

-- ---- a part

-- a word, and a piece behind it, where nothing is written before
word-then : (f : Form) (w : ℤ) (p : ℕ) (m : Answer Fault (Form × Reader)) → f.words ≡ [] → f.origins ≡ [] → following (ended f w p) (flat m) ≡ worded w p m
word-then f w p (got x) a b = rw (a, b)
word-then f w p (stop e) a b = refl

taken_then : (f : Form) (w : ℤ) (p : ℕ) (m : Answer Fault Reader) (e : Reader → Answer Fault (Form × Reader)) → f.words ≡ [] → f.origins ≡ []
    → (beside f m >>= λ x. following (ended x.0 w p) (flat (e x.1))) ≡ (m >>= λ s. worded w p (e s))
taken_then f w p (got v) e a b = word-then f w p (e v) a b
taken_then f w p (stop n) e a b = refl

priority-small : (text : List ℕ) (t : Token) → priority text t ≤ 3
unfolding priority
priority-small text t =
    cases (leb 14 t.code && leb t.code 16)
    (λ e. let h : t.code ≤ 16 = leb-true t.code 16 (and_right (leb 14 t.code) _ e) in rw e (omega arith))
    (λ e. rw e (omega arith))

module _ (text : List ℕ) (q : Reader) (t : Token) (e : t ≡ peek text q) where
  is_said : 0 < priority text t → (take text 1 q >>= λ s. worded (pos (priority text t)) t.place (expression text true s)) ≡ part_at text q
  unfolding part_at
  is_said h = rw (← e, lt-ltb 0 (priority text t) h)

  is-unsaid : priority text t ≤ 0 → worded (pos 3) t.place (expression text true (owing 1 q)) ≡ part_at text q
  unfolding part_at
  is-unsaid h = rw (← e, le-ltb 0 (priority text t) h)

module _ (text : List ℕ) {names after : List ℕ} {ws vs xs : List ℤ} {os us ys : List ℕ} {r u s e : Carried} {t : Token} {p : ℕ}
    (peeks : Peeks text r t) (prior : (l : List ℕ) → p ≡ priority l t) where
  pub part-said : {w : ℤ} → 0 < p → Follows r (λ q. take text 1 q) u → w ≡ word_of p → vs ≡ with1 ws u w → us ≡ with1 os u t.place → s ≡ wrote_one u
      → Expression 2 0 (lent names vs us) s (λ q. expression text true q) (lent after xs ys) e
      → Piece 1 0 (lent names ws os) r (λ q. part_at text q) (lent after xs ys) e
  part-said {w = w} h f k a b c d =
      let g : w ≡ pos (priority text t) = rw (k, ← prior text) (word-is p (omega (arith, prior text, priority-small text t))) in
      let y : Piece 0 0 (lent names vs us) s (λ q. flat (expression text true q)) (lent after xs ys) e =
      does-wider (omega arith) (omega arith) (expression-piece d) in
      does-as
      (does-then (does-take text 1 f) (does-then (does-word w t.place (omega arith) a b c) (does-piece y)))
      (λ fit z.
      taken_then (form_of false r.written (lent names ws os) r) w t.place (take text 1 (reader_of names r)) (λ v. expression text true v)
      (form-none false (lent names ws os) r).0 (form-none false (lent names ws os) r).1
      ∙ rw g (is_said text (reader_of names r) t (peeks names) (omega (arith, prior text))))

  pub part-unsaid : p ≤ 0 → Owes 1 r u → vs ≡ with1 ws u (pos 3) → us ≡ with1 os u t.place → s ≡ wrote_one u
      → Expression 2 0 (lent names vs us) s (λ q. expression text true q) (lent after xs ys) e
      → Piece 1 0 (lent names ws os) r (λ q. part_at text q) (lent after xs ys) e
  part-unsaid h f a b c d =
      let y : Piece 2 0 (lent names vs us) s (λ q. flat (expression text true q)) (lent after xs ys) e = expression-piece d in
      does-as
      (does-then (does-owe text 1 (omega arith) (omega arith) f) (does-then (does-word (pos 3) t.place (omega arith) a b c) (does-piece y)))
      (λ fit z.
      word-then (form_of false r.written (lent names ws os) r) (pos 3) t.place (expression text true (owing 1 (reader_of names r)))
      (form-none false (lent names ws os) r).0 (form-none false (lent names ws os) r).1
      ∙ is-unsaid text (reader_of names r) t (peeks names) (omega (arith, prior text)))

-- ---- where a limit is passed no part is read

module _ (text : List ℕ) where
  path-never {ℓ} : {X : Type ℓ} (q : Reader) (x : Form × Reader) → q.passed ≡ true → path_or_same text true q ≡ got x → X
  unfolding path_or_same path
  path-never q x h e = step (path text 3 q) _ e λ f e1 e2. step (variable text 3 q) _ e1 λ y e3 e4. variable-never text 3 q y h e3

  literal-never {ℓ} : {X : Type ℓ} (q : Reader) (l : Answer (Unit {0}) (List ℤ)) (x : Form × Reader) → q.passed ≡ true → literal_at text q l ≡ got x → X
  unfolding literal_at
  literal-never q (got ws) x h e = step (take text (length ws) (passing (outside text (peek text q)) q)) _ e λ s e1 e2. take-never text (length ws) (passing (outside text (peek text q)) q) s (rw h) e1
  literal-never q (stop u) x h e = stop≢got e

  operand-never {ℓ} : {X : Type ℓ} (q : Reader) (x : Form × Reader) → q.passed ≡ true → operand text true q ≡ got x → X
  unfolding operand
  operand-never q x h e = either_way (is text q name_code) _ _ e (λ t f. path-never q x h f) (λ t f. literal-never q (literal text (peek text q)) x h f)

  expression-never {ℓ} : {X : Type ℓ} (q : Reader) (x : Form × Reader) → q.passed ≡ true → expression text true q ≡ got x → X
  unfolding expression climb opened
  expression-never q x h e =
      step (opened text (enough text) 0 q) _ e λ y e1 e2.
      step (operand text true y.1) _ e2 λ o e3 e4.
      either_way (is text q open_bracket_code) _ _ e1
      (λ t f. step (take text 0 q) _ f λ s f1 f2. take-never text 0 q s h f1)
      (λ t f. let g : (0, q) ≡ y = got-inj f in operand-never y.1 o (rw (← g) h) e3)

  part-never {ℓ} : {X : Type ℓ} (q : Reader) (x : Form × Reader) → q.passed ≡ true → part_at text q ≡ got x → X
  unfolding part_at
  part-never q x h e =
      either_way (ltb 0 (priority text (peek text q))) _ _ e
      (λ t f. step (take text 1 q) _ f λ s f1 f2. take-never text 1 q s h f1)
      (λ t f. step (expression text true (owing 1 q)) _ f λ y f1 f2. expression-never (owing 1 q) y h f1)

-- ---- the parts behind a first one

-- m and the parts more that are read behind the form f, whose first word it is; one part more before them
abbrev pub counting : ℕ → ℕ → Form → Answer Fault (ℕ × (Form × Reader)) → Answer Fault (Form × Reader)
counting m p f a = a >>= λ g. got (word_then (pos (m + g.0)) p (and_then (behind_first f) g.1.0), g.1.1)

abbrev one_part : Form → Answer Fault (ℕ × (Form × Reader)) → Answer Fault (ℕ × (Form × Reader))
one_part y a = a >>= λ g. got (suc g.0, (and_then y g.1.0, g.1.1))

-- the parts behind those that have been read, which are m, and their number before them all, which comes from p; behind the 17th there is none
abbrev pub rest_of : List ℕ → ℕ → ℕ → Form → Reader → Answer Fault (Form × Reader)
rest_of text p m f q = cond (leb m 16) (counting m p f (parts_on text (16 - m) q)) (got (f, q))

-- what is promised of the parts behind a first one, with their number at the word from, which comes from p
abbrev pub Constrains : List ℕ → ℕ → ℕ → Lent → Carried → Lent → Carried → Type 0
Constrains text from p a r b s = (most : ℕ) → most ≤ 3 → (r.number ≡ 0 → from < r.written) → Onward false most most from a r (λ f q. constraint_on text p (behind_first f) q) b s

-- one part is read at each turn
pub record Parted (text : List ℕ) (from p : ℕ) (a : Lent) (r : Carried) (m : ℕ) (b : Lent) (s : Carried) : Type 0 where
  pub begun : {most : ℕ} → most ≤ 3 → (r.number ≡ 0 → from < r.written) → Fit most 0 from a r → (s.number ≡ 0 → from < s.written) × Fit most 0 from b s
  pub rest : {most : ℕ} {c : Lent} {u : Carried} → most ≤ 3 → (r.number ≡ 0 → from < r.written)
      → Does false most 0 most 0 from b s (λ f q. rest_of text p m f q) c u → Does false most 0 most 0 from a r (λ f q. constraint_on text p (behind_first f) q) c u

pub parted-starts : {text : List ℕ} {from p : ℕ} {a : Lent} {r : Carried} → Parted text from p a r 1 a r
unfolding constraint_on
parted-starts {text = text} {from = from} {p = p} {a = a} {r = r} =
    record {
      begun = λ h l f. (l, f);
      rest = λ h l d. does-as d (λ fit z. bind-cong (parts_on text 15 (reader_of a.names r)) _ _ (λ g e. let y : 1 + g.0 ≡ suc g.0 = omega arith in rw y));
    }

module _ (p m : ℕ) (f : Form) (h : 0 < length f.words) (k : 0 < length f.origins) where
  turn-counts : (y : Form) (a : Answer Fault (ℕ × (Form × Reader))) → counting (m + 1) p (and_then f y) a ≡ counting m p f (one_part y a)
  turn-counts y (got g) =
      let e : m + 1 + g.0 ≡ m + suc g.0 = omega arith in
      rw (e, behind-first f y h k, append_assoc (behind_first f).words y.words g.1.0.words, append_assoc (behind_first f).origins y.origins g.1.0.origins)
  turn-counts y (stop e) = refl

  turn-parts : (a : Answer Fault (Form × Reader)) (on : Reader → Answer Fault (ℕ × (Form × Reader)))
      → (following f a >>= λ x. counting (m + 1) p x.0 (on x.1)) ≡ counting m p f (a >>= λ y. one_part y.0 (on y.1))
  turn-parts (got y) on = turn-counts y.0 (on y.1)
  turn-parts (stop e) on = refl

  turn-takes : (t : Answer Fault Reader) (part : Reader → Answer Fault (Form × Reader)) (on : Reader → Answer Fault (ℕ × (Form × Reader)))
      → ((beside f t >>= λ x. following x.0 (part (passing false x.1))) >>= λ x. counting (m + 1) p x.0 (on x.1))
      ≡ counting m p f (t >>= λ s. part s >>= λ y. one_part y.0 (on y.1))
  turn-takes (got v) part on = rw (passing-none v) (turn-parts (part v) on)
  turn-takes (stop e) part on = refl

module _ (text : List ℕ) (p : ℕ) where
  abbrev numbered : Answer Fault (Form × Reader) → Answer Fault (ℕ × (Form × Reader))
  numbered a = a >>= λ y. got (0, y)

  abbrev again : Answer Fault (Form × Reader) → Answer Fault (Form × Reader)
  again a = a >>= λ x. got (x.0, x.1)

  turn-full : (f : Form) (t : Answer Fault Reader)
      → again (beside f t >>= λ x. following x.0 (part_at text (passing true x.1))) ≡ counting 16 p f (t >>= λ s. numbered (part_at text (passing true s)))
  turn-full f (got v) = either (part_at text (passing true v)) (λ y e. part-never text (passing true v) y (passing-one v) e) (λ n e. rw e)
  turn-full f (stop e) = refl

  turn : (m : ℕ) (f : Form) (q : Reader) → m ≤ 16 → is text q beside_code ≡ true → 0 < length f.words → 0 < length f.origins
      → ((beside f (take text 0 q) >>= λ x. following x.0 (part_at text (passing (eqb m 16) x.1))) >>= λ x. rest_of text p (m + 1) x.0 x.1) ≡ rest_of text p m f q
  unfolding parts_on
  turn m f q k e h l =
      cases (ltb m 16)
      (λ b. let u : m < 16 = ltb-true m 16 b in
      let e1 : 16 - m ≡ suc (15 - m) = omega arith in
      let e2 : 16 - (m + 1) ≡ 15 - m = omega arith in
      rw (ne_eqb m 16 (λ z. omega arith), le-leb m 16 k, le-leb (m + 1) 16 (omega arith), e1, e2, e) (turn-takes p m f h l (take text 0 q) (λ v. part_at text v) (λ v. parts_on text (15 - m) v)))
      (λ b. let u : 16 ≤ m = ltb-false m 16 b in
      let e1 : m ≡ 16 = omega arith in
      rw (e1, e) (turn-full f (take text 0 q)))

  none-on : (n : ℕ) (q : Reader) → is text q beside_code ≡ false → parts_on text n q ≡ got (0, (empty, q))
  unfolding parts_on
  none-on zero q e = rw e
  none-on (suc n) q e = rw e

  turn_last : (m : ℕ) (f : Form) (q : Reader) → m ≤ 16 → is text q beside_code ≡ false → got (word_then (pos m) p (behind_first f), q) ≡ rest_of text p m f q
  turn_last m f q k e =
      let y : m + 0 ≡ m = omega arith in
      rw (le-leb m 16 k, none-on (16 - m) q e, y, append-nil (behind_first f).words, append-nil (behind_first f).origins)

module _ {text : List ℕ} {from p m : ℕ} {a : Lent} {r s : Carried} {names : List ℕ} {ws : List ℤ} {os : List ℕ} (inv : Parted text from p a r m (lent names ws os) s) where
  pub parted-stopped : (s.number ≡ 0 → ⊥) → Constrains text from p a r (lent names ws os) s
  parted-stopped z = λ most h l. inv.rest h l (does-stopped z)

  pub parted-full : 16 < m → Constrains text from p a r (lent names ws os) s
  parted-full k = λ most h l. inv.rest h l (does-as does-nothing (λ fit z. rw (lt-leb m 16 k)))

  module _ {t : Token} (k : m ≤ 16) (z : s.number ≡ 0) (peeks : Peeks text s t) where
    pub parted-last : {w : ℤ} {vs : List ℤ} {us : List ℕ} → (t.code ≡ 40 → ⊥) → w ≡ word_of m → vs ≡ set ws from w → us ≡ set os from p
        → Constrains text from p a r (lent names vs us) s
    parted-last {w = w} c e d g = λ most h l.
        let i : w ≡ pos m = e ∙ word-is m (omega arith) in
        does-given (λ fit0.
        inv.rest h l
        (does-as
        (does-first w p h ((inv.begun h l fit0).0 z) d g)
        (λ fit y. rw i (turn_last text p m (form_of false from (lent names ws os) s) (reader_of names s) k (rw (← peeks names) (ne_eqb t.code 40 c))))))

    module _ {v u e : Carried} {b : Bool} {after : List ℕ} {xs : List ℤ} {ys : List ℕ}
        (code : t.code ≡ 40) (takes : Follows s (λ q. take text 0 q) v) (pass : Passes b v u) (last : b ≡ eqb m 16)
        (part : Piece 1 0 (lent names ws os) u (λ q. part_at text q) (lent after xs ys) e) where
      parts : {most to : ℕ}
          → Does false most 0 most 0 to (lent names ws os) s
          (λ f q. beside f (take text 0 q) >>= λ x. following x.0 (part_at text (passing b x.1)))
          (lent after xs ys) e
      parts {most = most} {to = to} =
          let one : Piece 0 0 (lent names ws os) u (λ q. part_at text q) (lent after xs ys) e = does-wider (omega arith) (omega arith) part in
          let d : Does false most 0 0 0 to (lent names ws os) s
          (λ f q. beside f (take text 0 q) >>= λ x. following x.0 (part_at text (passing b x.1)))
          (lent after xs ys) e = does-then (does-take text 0 takes) (does-then (does-pass text b pass) (does-piece one)) in
          does-wider (omega arith) (omega arith) d

      pub parted-on : Parted text from p a r (m + 1) (lent after xs ys) e
      parted-on =
          record {
            begun = λ h l f. ((λ y. ((parts {to = suc from}).fit (fit-from (suc from) ((inv.begun h l f).0 z) (inv.begun h l f).1)).begins), parts.fit (inv.begun h l f).1);
            rest = λ h l d.
                does-given (λ fit0.
                inv.rest h l
                (does-as
                (does-then parts d)
                (λ fit y.
                let i : from < s.written = (inv.begun h l fit0).0 z in
                let j : (from + length (form_of false from (lent names ws os) s).words ≡ s.written) × (from + length (form_of false from (lent names ws os) s).origins ≡ s.written) =
                form-length false fit h z in
                rw last
                (turn text p m (form_of false from (lent names ws os) s) (reader_of names s) k (rw (← peeks names) (eq-eqb t.code 40 code)) (omega (arith, j.0)) (omega (arith, j.1))))));
          }
