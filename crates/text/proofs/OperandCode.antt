-- How a path with its 24, an identity of two, and an operand are written. Assumes nothing.
use mathlib.Core.Path.{◌≡◌, refl, sym, ap, ◌∙◌}
use mathlib.Core.Bool.{Bool, true, false}
use mathlib.Core.List.{List}
use Prim.Native.Nat.{ℕ, ◌+◌, ◌<◌}
use native.Mathlib.Omega.{arith}
use borrow.Author.Tests.{eq-eqb, ne_eqb}
use lib.IntN.{ℤ, pos}
use lib.ListN.{set}
use Rattle.words.specs.Answer.{Answer, got, stop, ◌>>=◌}
use Rattle.words.proofs.AnswerLaws.{stop≢got, got-inj, stop-inj, either}
use Rattle.tokens.specs.declared.Token.{Token}
use Rattle.text.specs.Reading.{Fault, fault, Reader, Form, word_then, peek, variable, owing, path, path_or_same, literal, literal_at, operand}
use Rattle.text.specs.Reading.{take as take_by}
use Rattle.text.specs.declared.Carried.{Carried}
use Rattle.text.specs.Told.{reader_of, Peeks, Follows}
use Rattle.text.specs.Written.{with1, wrote_one, Owes}
use Rattle.text.specs.declared.Lent.{Lent}
use Rattle.text.specs.Pieces.{lent, Fit, Does, Piece, behind_first}
use Rattle.text.proofs.RowsLaws.{fit-room, wrote-more}
use Rattle.text.proofs.AnswerSteps.{beside, following, worded}
use Rattle.text.proofs.DoesLaws.{ended, does-then, does-as, does-wider, does-take, does-owe, does-word, does-first, does-piece, does-got}
use Rattle.text.proofs.StepLaws.{does-given, does-went, does-halted, form-empty, piece-grows}

module _ (text : List ℕ) where
  -- a word that is owed is as good as one that the variable makes certain
  path-owing : (q : Reader) → path text 2 (owing 1 q) ≡ path text 3 q
  unfolding path variable take_by peek
  path-owing q = let e : q.certain + (q.owed + 1) + 2 ≡ q.certain + q.owed + 3 = omega arith in rw e

  -- a path with its 24
  abbrev coded : Reader → Answer Fault (Form × Reader)
  coded q = worded (pos 24) (peek text q).place (path text 3 q)

  -- with another one behind it, and 26, which comes from o
  abbrev doubled : ℕ → Reader → Answer Fault (Form × Reader)
  doubled o q = coded q >>= λ x. beside (word_then (pos 26) o (behind_first x.0)) (take_by text 0 x.1) >>= λ y. following y.0 (path text 2 y.1)

  -- ---- a path with its 24

  same_in_lem : (q : Reader) → coded q ≡ path_or_same text true q
  unfolding path_or_same
  same_in_lem q = refl

  same-stops : (b : Bool) (q : Reader) (e : Fault) → coded q ≡ stop e → stop e ≡ path_or_same text b q
  unfolding path_or_same
  same-stops b q e h = either (path text 3 q) (λ x g. stop≢got (sym (rw g at h))) (λ f g. rw g (ap stop (stop-inj (sym (rw g at h)))))

  module _ (o : Token) (q : Reader) (h : (x : Form × Reader) → path text 3 q ≡ got x → peek text x.1 ≡ o) where
    alone : (o.code ≡ 39 → ⊥) → coded q ≡ path_or_same text false q
    unfolding path_or_same
    alone other = either (path text 3 q) (λ x g. rw (g, h x g, ne_eqb o.code 39 other)) (λ f g. rw g)

    both : o.code ≡ 39 → doubled o.place q ≡ path_or_same text false q
    unfolding path_or_same behind_first
    both same =
        either (path text 3 q)
        (λ x g. rw (g, h x g, eq-eqb o.code 39 same) (either (take_by text 0 x.1) (λ s i. rw i (either (path text 2 s) (λ y j. rw j) (λ e j. rw j))) (λ e i. rw i)))
        (λ f g. rw g)

  module _ (ws : List ℤ) (os : List ℕ) {before next : List ℕ} {xs ys : List ℤ} {ps qs : List ℕ} {r s u v : Carried} {t : Token}
      (pk : Peeks text r t) (owes : Owes 1 r s) (is : xs ≡ with1 ws s (pos 24)) (also : ps ≡ with1 os s t.place) (wrote : u ≡ wrote_one s)
      (first : Piece 3 0 (lent before xs ps) u (λ q. path text 2 q) (lent next ys qs) v) where
    owed-one : Does false 2 0 3 1 r.written (lent before ws os) r (λ f q. got (f, owing 1 q)) (lent before ws os) s
    owed-one = does-owe text 1 (omega arith) (omega arith) owes

    its-code : {from : ℕ} → Does false 3 1 3 0 from (lent before ws os) s (λ f q. got (ended f (pos 24) t.place, q)) (lent before xs ps) u
    its-code = does-word (pos 24) t.place (omega arith) is also wrote

    with_code : Piece 2 0 (lent before ws os) r (λ q. coded q) (lent next ys qs) v
    with_code =
        does-as (does-then owed-one (does-then its-code (does-piece first))) λ fit z.
        rw (form-empty (lent before ws os) r, path-owing (reader_of before r), ← pk before)

    pub path-in : {b : Bool} → b ≡ true → Piece 2 0 (lent before ws os) r (λ q. path_or_same text b q) (lent next ys qs) v
    path-in e = rw e (does-as with_code λ fit z. same_in_lem (reader_of before r))

    pub path-refused : (b : Bool) → (v.number ≡ 0 → ⊥) → Piece 2 0 (lent before ws os) r (λ q. path_or_same text b q) (lent next ys qs) v
    path-refused b h =
        does-as with_code λ fit z.
        let e : coded (reader_of before r) ≡ stop (fault v.number v.place) = does-halted with_code fit z h in
        e ∙ same-stops b (reader_of before r) (fault v.number v.place) e

    -- ---- two with `==` between them

    module _ {b : Bool} (out : b ≡ false) (goes : v.number ≡ 0) {o : Token} (pl : Peeks text v o) where
      token-is : Fit 2 0 r.written (lent before ws os) r → r.number ≡ 0 → (x : Form × Reader) → path text 3 (reader_of before r) ≡ got x → peek text x.1 ≡ o
      token-is fit z x g = let y : x.1 ≡ reader_of next v = ap (λ f. f.1) (got-inj (rw g at (does-got with_code fit z goes))) in rw (y, ← pl next)

      pub path-alone : (o.code ≡ 39 → ⊥) → Piece 2 0 (lent before ws os) r (λ q. path_or_same text b q) (lent next ys qs) v
      path-alone other = rw out (does-as with_code λ fit z. alone o (reader_of before r) (token-is fit z) other)

      pub path-same : {zs : List ℤ} {rs : List ℕ} {w end : Carried} {c : Lent} → o.code ≡ 39 → zs ≡ set ys r.written (pos 26) → rs ≡ set qs r.written o.place
          → Follows v (λ q. take_by text 0 q) w → Piece 3 0 (lent next zs rs) w (λ q. path text 2 q) c end → Piece 2 0 (lent before ws os) r (λ q. path_or_same text b q) c end
      path-same same put placed took second =
          rw out (does-given λ fit.
          let f1 : Fit 3 1 r.written (lent before ws os) s = owed-one.fit fit in
          let f2 : Fit 3 0 r.written (lent before xs ps) u = its-code.fit f1 in
          let zu : u.number ≡ 0 = does-went (does-piece first) f2 goes in
          let zv : s.number ≡ 0 = does-went its-code f1 zu in
          let e : u.written ≡ s.written + 1 = wrote-more s wrote (omega (arith, fit-room (omega arith) f1 zv)) in
          let far : r.written < v.written = omega (arith, piece-grows first f2, f1.begins, e) in
          does-as
          (does-then with_code (does-then (does-first (pos 26) o.place (omega arith) far put placed) (does-then (does-take text 0 took) (does-piece (does-wider (omega arith) (omega arith) second)))))
          λ g z. both o (reader_of before r) (token-is fit z) same)

  -- ---- an operand

  pub operand-named : (b : Bool) {a c : Lent} {r s : Carried} {t : Token} → Peeks text r t → t.code ≡ 1
      → Piece 2 0 a r (λ q. path_or_same text b q) c s → Piece 2 0 a r (λ q. operand text b q) c s
  unfolding operand
  operand-named b {a = a} {t = t} pk name d = does-as d λ fit z. rw (← pk a.names, eq-eqb t.code 1 name)

  pub operand-other : (b : Bool) {a c : Lent} {r s : Carried} {t : Token} → Peeks text r t → (t.code ≡ 1 → ⊥)
      → Piece 3 0 a r (λ q. literal_at text q (literal text (peek text q))) c s → Piece 2 0 a r (λ q. operand text b q) c s
  unfolding operand
  operand-other b {a = a} {t = t} pk other d = does-as (does-wider (omega arith) (omega arith) d) λ fit z. rw (← pk a.names, ne_eqb t.code 1 other)
