-- An operator and its right operand behind an operand that is written, and a whole expression: what the code does is what the definition says. Assumes nothing.
use mathlib.Core.Path.{◌≡◌, refl, sym, ap, subst, ◌∙◌}
use mathlib.Core.Bool.{Bool, true, false, cond}
use mathlib.Core.List.{List, [], ◌∷◌, ◌++◌}
use Prim.Native.Nat.{ℕ, suc, ◌+◌, ◌-◌, ◌≤◌}
use native.Mathlib.Omega.{arith}
use borrow.Author.Tests.{leb-true, ltb-false, eq-eqb}
use lib.Dec.{eqb, ltb, leb}
use lib.IntN.{ℤ, pos}
use Rattle.words.specs.Answer.{Answer, got, stop, ◌>>=◌}
use Rattle.words.specs.Words.{word_of}
use Rattle.words.proofs.AnswerLaws.{got-inj}
use Rattle.words.proofs.Laws.{word-is}
use Rattle.tables.proofs.SearchLaws.{cases, and_right}
use Rattle.tokens.specs.declared.Token.{Token}
use Rattle.text.specs.Reading.{Fault, fault, Reader, Form, and_then, passing, level_of, is_operator, opened, operand, enough, over, onwards, climb}
use Rattle.text.specs.Reading.{take as take_by}
use Rattle.text.specs.declared.Carried.{Carried}
use Rattle.text.specs.Told.{reader_of, reading_of, numbered_of, refused_by, Peeks, Follows}
use Rattle.text.specs.Written.{since, deep_by, Passes}
use Rattle.text.specs.declared.Lent.{Lent}
use Rattle.text.specs.Pieces.{lent, form_of, piece_of, Fit, Does, Piece, Expression, Onward, Inserts, Opens, inserted, joined_by}
use Rattle.text.proofs.ExpressionLaws.{deeper}
use Rattle.text.proofs.RowsLaws.{bind_assoc, going, piece-goes, piece-stopped, fit-here, follows-got}
use Rattle.text.proofs.AnswerSteps.{beside, flat, following, bind-pair, take_within}
use Rattle.text.proofs.DoesLaws.{Program, does-then, does-as, does-wider, does-stopped, does-refused, does-take, does-pass, does-open}
use Rattle.text.proofs.DoesLaws.{does-piece, expression-piece, piece-expression, does-got}
use Rattle.text.proofs.StepLaws.{does-went, does-halted}

-- ---- pieces with a depth

-- a piece behind a piece, and how deep the latter is
abbrev pub behind_of : Form → Form → Form
behind_of f g = record { words = f.words ++ g.words; origins = f.origins ++ g.origins; depth = g.depth }

abbrev pub deepened : ℕ → Form → Form
deepened d f = record { words = f.words; origins = f.origins; depth = d }

pub does-deepen : {m k from d : ℕ} {a : Lent} {r s : Carried} → s ≡ deep_by d r → Does true m k m k from a r (λ f q. got (deepened d f, q)) a s
unfolding piece_of form_of since reader_of
does-deepen {d = d} {r = r} is =
    rw is
    (record {
      reads = λ fit. cases (eqb r.number 0) (λ e. rw e) (λ e. rw e);
      fit = λ fit. record { names = fit.names; words = fit.words; origins = fit.origins; begins = fit.begins; counts = fit.counts; certain = fit.certain; owed = fit.owed };
      words_before = λ fit. refl;
      origins_before = λ fit. refl;
    })

-- an expression behind a piece
abbrev pub followed : (Reader → Answer Fault (Form × Reader)) → Program
followed step f q = step q >>= λ y. got (behind_of f y.0, y.1)

abbrev BehindReads : ℕ → Lent → Carried → (Reader → Answer Fault (Form × Reader)) → Lent → Carried → Type 0
BehindReads from a r step b s = piece_of true from b s ≡ (piece_of true from a r >>= λ x. followed step x.0 x.1)

module _ {m m1 : ℕ} {a b : Lent} {r s : Carried} {step : Reader → Answer Fault (Form × Reader)} (e : Expression m m1 a r step b s) (from : ℕ) where
  behind-flat : Does false m 0 m1 0 from a r (λ f q. following f (flat (step q))) b s
  behind-flat = does-piece (expression-piece e)

  module _ (fit : Fit m 0 from a r) where
    at-end : Fit m 0 r.written a r
    at-end = fit-here fit

    behind-got : r.number ≡ 0 → s.number ≡ 0 → BehindReads from a r step b s
    unfolding form_of
    behind-got z y =
        let g : step (reader_of a.names r) ≡ got (form_of true r.written b s, reader_of b.names s) = does-got e at-end z y in
        let h : ◌≡◌ {A = Form × Reader} (and_then (form_of false from a r) (form_of true r.written b s), reader_of b.names s) (form_of false from b s, reader_of b.names s) =
        got-inj (rw g at (does-got behind-flat fit z y)) in
        let w : since from a.words r ++ since r.written b.words s ≡ since from b.words s = ap (λ x. x.0.words) h in
        let o : since from a.origins r ++ since r.written b.origins s ≡ since from b.origins s = ap (λ x. x.0.origins) h in
        rw (piece-goes true from b s y, piece-goes true from a r z, g, w, o)

    behind-stop : r.number ≡ 0 → (s.number ≡ 0 → ⊥) → BehindReads from a r step b s
    behind-stop z h =
        rw (piece-stopped true from b s h, piece-goes true from a r z, does-halted e at-end z h)

    behind-stopped : (r.number ≡ 0 → ⊥) → BehindReads from a r step b s
    behind-stopped h =
        let n : s.number ≡ 0 → ⊥ = λ z. h (does-went e at-end z) in
        let g : piece_of true r.written b s ≡ stop (fault r.number r.place) = rw (piece-stopped true r.written a r h) at (e.reads at-end) in
        rw (piece-stopped true from a r h) (piece-stopped true from b s n ∙ sym (piece-stopped true r.written b s n) ∙ g)

    behind-reads : BehindReads from a r step b s
    behind-reads =
        going r (λ z. going s (λ y. behind-got z y) (λ n. behind-stop z n)) (λ n. behind-stopped n)

  -- an expression behind what is written from a word on
  pub does-behind : Does true m 0 m1 0 from a r (followed step) b s
  does-behind = record { reads = λ fit. behind-reads fit; fit = λ fit. behind-flat.fit fit; words_before = λ fit. behind-flat.words_before fit; origins_before = λ fit. behind-flat.origins_before fit }

-- ---- an operator and its right operand

module _ (text : List ℕ) {b : Bool} {r p s : Carried} (passes : Passes b r p) (takes : Follows p (λ q. take_by text 2 q) s) where
  -- a token is taken only where no limit is passed
  taken-within : s.number ≡ 0 → b ≡ false
  taken-within z =
      let t : (p.number ≡ 0) × (take_by text 2 (reader_of [] p) ≡ got (reader_of [] s)) = follows-got [] takes z in
      let e : passing b (reader_of [] r) ≡ reader_of [] p = got-inj (follows-got [] passes t.0).1 in
      take_within text 2 b (reader_of [] r) (reader_of [] s) (rw e t.1)

  operator-taken : {m from : ℕ} {a : Lent} → Does true m 0 0 2 from a r (λ f q. take_by text 2 (passing b q) >>= λ v. got (f, v)) a s
  operator-taken = does-then (does-pass text b passes) (does-take text 2 takes)

pub taken-shallow : (text : List ℕ) {left : ℕ} {r p s : Carried} → Passes (ltb left r.depth) r p → Follows p (λ q. take_by text 2 q) s → s.number ≡ 0 → r.depth ≤ left
taken-shallow text {left = left} {r = r} passes takes z = ltb-false left r.depth (taken-within text passes takes z)

-- the words of an operator before those of its left operand, and one level over both operands
abbrev opening : ℤ → Token → Program
opening w t f q = got (inserted (pos 25 ∷ w ∷ []) t.place f, q)

abbrev raising : ℕ → Program
raising d f q = got (deepened (suc (cond (ltb d f.depth) f.depth d)) f, q)

-- the right operand of an operator, and the operator over both
abbrev pub right_by : List ℕ → ℕ → Bool → Token → Reader → Answer Fault (Form × Reader)
right_by text left in_c t q = climb text left in_c (suc (level_of (t.code - 40))) q

abbrev over_all : List ℕ → Token → Form → Answer Fault (Form × Reader) → Answer Fault (Form × Reader)
over_all text t f m = m >>= λ y. got (over text t f y.0, y.1)

abbrev first_parts : ℤ → Token → (Reader → Answer Fault (Form × Reader)) → Program
first_parts w t k f q = opening w t f q >>= λ x. followed k x.0 x.1

abbrev all_parts : ℤ → Token → (Reader → Answer Fault (Form × Reader)) → ℕ → Program
all_parts w t k d f q = first_parts w t k f q >>= λ x. raising d x.0 x.1

module _ (text : List ℕ) (t : Token) (w : ℤ) (is : w ≡ pos (t.code - 40)) (f : Form) where
  operator-over : (k : Reader → Answer Fault (Form × Reader)) (q : Reader) (m : Answer Fault (Form × Reader)) → k q ≡ m → all_parts w t k f.depth f q ≡ over_all text t f m
  operator-over k q (got y) e = rw (e, is)
  operator-over k q (stop n) e = rw e

  operator-said : (m : Answer Fault Reader) (k : Reader → Answer Fault (Form × Reader)) → (beside f m >>= λ x. all_parts w t k f.depth x.0 x.1) ≡ (m >>= λ s. over_all text t f (k s))
  operator-said (got s) k = operator-over k s (k s) refl
  operator-said (stop e) k = refl

module _ (text : List ℕ) (left : ℕ) (in_c : Bool) (t : Token) {names : List ℕ} {ws : List ℤ} {os : List ℕ} {r p s : Carried}
    (passes : Passes (ltb left r.depth) r p) (takes : Follows p (λ q. take_by text 2 q) s) (from most : ℕ) where
  pub joined-untaken : (s.number ≡ 0 → ⊥) → Onward true most most from (lent names ws os) r (λ f q. joined_by text left in_c t f q) (lent names ws os) s
  unfolding form_of
  joined-untaken h =
      does-as (does-then (operator-taken text passes takes) (does-stopped {p = λ f q. over_all text t f (right_by text left in_c t q)} h))
      (λ fit z.
      bind-pair (take_by text 2 (passing (ltb left r.depth) (reader_of names r))) (form_of true from (lent names ws os) r) (λ x. over_all text t x.0 (right_by text left in_c t x.1)))

  module _ {low : ℕ} {vs : List ℤ} {us : List ℕ} {u v : Carried} {b : Lent} {w : ℤ} (is : w ≡ pos (t.code - 40)) (inserts : Inserts from (pos 25 ∷ w ∷ []) t.place ws os s vs us u)
      (tightly : low ≡ suc (level_of (t.code - 40))) (climbs : Expression 2 0 (lent names vs us) u (λ q. climb text left in_c low q) b v) where
    parts-done : {x : Carried} → Does true 0 0 0 0 from b v (λ f q. raising r.depth f q) b x → Does true most 0 most 0 from (lent names ws os) r (λ f q. joined_by text left in_c t f q) b x
    unfolding form_of
    parts-done last =
        does-as
        (does-wider {m = most} {m1 = 0} (omega arith) (omega arith)
        (does-then (operator-taken text passes takes)
        (does-then (does-then (inserts names true 0 0 (omega arith)) (does-wider {m = 2} {m1 = 0} (omega arith) (omega arith) (does-behind climbs from))) last)))
        (λ fit z.
        rw tightly
        (operator-said text t w is (form_of true from (lent names ws os) r) (take_by text 2 (passing (ltb left r.depth) (reader_of names r))) (λ q. right_by text left in_c t q)))

    pub joined-stopped : (v.number ≡ 0 → ⊥) → Onward true most most from (lent names ws os) r (λ f q. joined_by text left in_c t f q) b v
    joined-stopped h = parts-done (does-stopped h)

    pub joined-deep : {d : ℕ} {x : Carried} → d ≡ suc (cond (ltb r.depth v.depth) v.depth r.depth) → x ≡ deep_by d v
        → Onward true most most from (lent names ws os) r (λ f q. joined_by text left in_c t f q) b x
    unfolding form_of
    joined-deep e k = parts-done (does-as (does-deepen k) (λ fit z. rw e))

-- ---- a whole expression

module _ (text : List ℕ) (left : ℕ) (in_c : Bool) (low : ℕ) {a : Lent} {r : Carried} where
  pub climb-none : {t : Token} {s : Carried} → r.number ≡ 0 → left ≡ 0 → Peeks text r t → s ≡ refused_by t r → Expression 2 0 a r (λ q. climb text left in_c low q) a s
  unfolding climb
  climb-none z e p is = does-as (does-refused text z p is) (λ fit y. rw e)

  module _ {s e u : Carried} {b : Lent} (opens : Opens text r s) (reads : Piece 2 0 a s (λ q. operand text in_c q) b e) (level : u ≡ deep_by 1 e) where
    -- brackets and the first operand
    begins : Piece 2 0 a r (λ q. opened text (enough text) 0 q >>= λ x. operand text in_c x.1) b e
    begins =
        does-as (does-then (does-open text opens) (subst (λ n. Does false 2 0 0 0 n a s (λ f q. operand text in_c q) b e) opens.written reads))
        (λ fit z. bind_assoc (opened text (enough text) 0 (reader_of a.names r)) _ _)

    -- as many brackets are open as were counted
    goes_on : {left' : ℕ} → left ≡ suc left' → r.number ≡ 0
        → ((opened text (enough text) 0 (reader_of a.names r) >>= λ x. operand text in_c x.1) >>= λ y.
        onwards text (λ l v. climb text left' in_c l v) (enough text) left' low s.named y.0 y.1)
        ≡ climb text left in_c low (reader_of a.names r)
    unfolding climb numbered_of reading_of
    goes_on is z =
        let h = rw (eq-eqb r.number 0 z) at (opens.reads a.names) in
        cases (eqb s.number 0) (λ k. rw (is, ← h, k)) (λ k. rw (is, ← h, k))

    pub climb-on : {c : Lent} {v : Carried} → (left ≡ 0 → ⊥)
        → ((most : ℕ) → most ≤ 3 → Onward true most most r.written b u (λ f q. onwards text (λ l w. climb text (left - 1) in_c l w) (enough text) (left - 1) low s.named f q) c v)
        → Expression 2 0 a r (λ q. climb text left in_c low q) c v
    climb-on h on = does-as (does-then (piece-expression begins level) (on 0 (omega arith))) (λ fit z. goes_on {left' = left - 1} (omega arith) z)

-- ---- depths and numbers

pub level-small : (k : ℕ) → level_of k ≤ 5
unfolding level_of
level-small k =
    cases (eqb k 3) (λ e. rw e (omega arith))
    (λ e. cases (leb k 2) (λ f. rw (e, f) (omega arith))
    (λ f. cases (leb k 9) (λ g. rw (e, f, g) (omega arith))
    (λ g. cases (leb k 10) (λ h. rw (e, f, g, h) (omega arith)) (λ h. rw (e, f, g, h) (omega arith)))))

-- the number of an operator is a word
pub operator-word : (code k : ℕ) {w : ℤ} → is_operator code ≡ true → k ≡ code - 40 → w ≡ word_of k → w ≡ pos (code - 40)
operator-word code k h e f = rw (f, e) (word-is (code - 40) (let g : code ≤ 51 = leb-true code 51 (and_right (leb 41 code) (leb code 51) h) in omega arith))

-- its right operand binds more tightly
pub operator-level : (code : ℕ) {k l : ℕ} → k ≡ code - 40 → l ≡ level_of k → l + 1 ≡ suc (level_of (code - 40))
operator-level code {k = k} e f = let g : level_of k ≡ level_of (code - 40) = ap level_of e in omega arith

pub joined-shallow : {left d e f : ℕ} → f ≡ suc (cond (ltb d e) e d) → d ≤ left → e ≤ left → f ≤ suc left
joined-shallow {left = left} {d = d} {e = e} is a b = rw is (deeper left d e a b)
