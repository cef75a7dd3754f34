-- What the code reads and writes of what follows `always` and `once` is what the definitions give. Assumes nothing.
use mathlib.Core.Path.{◌≡◌, refl, sym, ap, ◌∙◌}
use mathlib.Core.Bool.{true, false}
use mathlib.Core.List.{List, [], ◌∷◌}
use Prim.Native.Nat.{ℕ, ◌+◌, ◌≤◌, ◌<◌}
use native.Mathlib.Omega.{arith}
use borrow.Author.Tests.{eq-eqb, ne_eqb}
use lib.IntN.{ℤ, pos}
use lib.ListN.{length, set}
use Rattle.words.specs.Answer.{Answer, got, stop, ◌>>=◌}
use Rattle.words.specs.Words.{word_of}
use Rattle.words.proofs.Laws.{word-is}
use Rattle.tokens.specs.declared.Token.{Token}
use Rattle.text.specs.Reading.{Fault, Reader, Form, form, word_then, and_then, owing, peek, take, path, enough, onwards, climb, expression_on, part_at, constraint_on, stated_on, stated}
use Rattle.text.specs.declared.Carried.{Carried}
use Rattle.text.specs.Told.{reader_of, Peeks, Follows}
use Rattle.text.specs.Written.{with1, wrote_one, deep_by, Owes}
use Rattle.text.specs.declared.Lent.{Lent}
use Rattle.text.specs.Pieces.{lent, form_of, Fit, Does, Piece, Onward, inserted, Inserts, behind_first, stated_from}
use Rattle.text.proofs.RowsLaws.{fit-room, fit-from, wrote-reader, wrote-more}
use Rattle.text.proofs.AnswerSteps.{flat, following, worded, bind-pair}
use Rattle.text.proofs.DoesLaws.{ended, first_of, later_of, does-then, does-as, does-wider, does-take, does-owe}
use Rattle.text.proofs.DoesLaws.{does-word, does-first, does-piece, does-later, does-flat, does-depth, form-none, form-length}
use Rattle.text.proofs.StepLaws.{does-given, does-full, does-went, does-answered}
use Rattle.text.proofs.PartCode.{Constrains}

-- ---- behind a path

-- the word w before f, and a piece behind it
abbrev around : ℤ → ℕ → Form → Answer Fault (Form × Reader) → Answer Fault (Form × Reader)
around w p f m = m >>= λ g. got (word_then w p (and_then f g.0), g.1)

-- the words of the gap are read again, but for the statement's
gap-then : (w : ℤ) (p q : ℕ) (m : Answer Fault (Form × Reader)) (on : Form → Reader → Answer Fault (Form × Reader))
    → (following (form (w ∷ pos 0 ∷ pos 3 ∷ []) (p ∷ q ∷ q ∷ [])) (flat m) >>= λ x. following (first_of 1 x.0) (on (behind_first (later_of 1 x.0)) x.1))
    ≡ (m >>= λ e. worded w p (on (word_then (pos 3) q e.0) e.1))
unfolding behind_first
gap-then w p q (got e) on = refl
gap-then w p q (stop n) on = refl

-- the operators behind an operand of a part
abbrev operators : List ℕ → Form → Reader → Answer Fault (Form × Reader)
operators text f q = onwards text (λ l v. climb text 15 true l v) (enough text) 15 1 0 f q

module _ (text : List ℕ) (verb p at : ℕ) (f : Form) (q : Reader) (t : Token) (e : t ≡ peek text q) where
  is_same_lem : t.code ≡ 39 → (take text 0 q >>= λ s. around (pos (verb + 2)) p f (path text 2 s)) ≡ stated_on text verb p at f q
  unfolding stated_on
  is_same_lem h = rw (← e, eq-eqb t.code 39 h)

  is-expression : (t.code ≡ 39 → ⊥)
      → (operators text (word_then (pos 24) at f) (owing 3 q) >>= λ e. worded (pos verb) p (constraint_on text at (word_then (pos 3) at e.0) e.1))
      ≡ stated_on text verb p at f q
  unfolding stated_on expression_on
  is-expression h = rw (← e, ne_eqb t.code 39 h)

abbrev gap : List ℤ
gap = pos 0 ∷ pos 3 ∷ pos 24 ∷ []

module _ (text : List ℕ) (from verb p at : ℕ) {names : List ℕ} {ws vs : List ℤ} {os us : List ℕ} {r : Carried} {t : Token} {w : ℤ}
    (small : verb < 4096) (peeks : Peeks text r t) (l : from < r.written) (a : vs ≡ set ws from w) (b : us ≡ set os from p) where
  pub on_same : {after : List ℕ} {xs : List ℤ} {ys : List ℕ} {v s : Carried} → w ≡ word_of (verb + 2) → t.code ≡ 39 → Follows r (λ q. take text 0 q) v
      → Piece 3 0 (lent names vs us) v (λ q. path text 2 q) (lent after xs ys) s
      → Onward false 0 3 from (lent names ws os) r (λ f q. stated_on text verb p at (behind_first f) q) (lent after xs ys) s
  on_same {after = after} {xs = xs} {ys = ys} {v = v} {s = s} i c f d =
      let j : w ≡ pos (verb + 2) = i ∙ word-is (verb + 2) (omega arith) in
      let y : Piece 0 3 (lent names vs us) v (λ q. path text 2 q) (lent after xs ys) s = does-wider (omega arith) (omega arith) d in
      does-as
      (does-then (does-first w p (omega arith) l a b) (does-then (does-take text 0 f) (does-piece y)))
      (λ fit z.
      bind-pair (take text 0 (reader_of names r)) (word_then w p (behind_first (form_of false from (lent names ws os) r))) (λ x. following x.0 (path text 2 x.1))
      ∙ rw j (is_same_lem text verb p at (behind_first (form_of false from (lent names ws os) r)) (reader_of names r) t (peeks names) c))

  module _ {after last : List ℕ} {xs ms zs : List ℤ} {ys ns qs : List ℕ} {u v d e s : Carried}
      (i : w ≡ word_of verb) (c : t.code ≡ 39 → ⊥) (z : r.number ≡ 0) (o : Owes 3 r u) (ins : Inserts (from + 1) gap at vs us u xs ys v) (n : d ≡ deep_by 1 v)
      (go : (most : ℕ) → most ≤ 3 → Onward true most most (from + 3) (lent names xs ys) d (λ f q. operators text f q) (lent after ms ns) e)
      (on : Constrains text (from + 1) at (lent after ms ns) e (lent last zs qs) s) where
    module _ (fit0 : Fit 0 0 from (lent names ws os) r) where
      verb-does : Does false 0 0 0 0 from (lent names ws os) r (λ f q. got (word_then w p (behind_first f), q)) (lent names vs us) r
      verb-does = does-first w p (omega arith) l a b

      owe-does : {to : ℕ} → Does false 0 0 3 3 to (lent names vs us) r (λ f q. got (f, owing 3 q)) (lent names vs us) u
      owe-does = does-owe text 3 (omega arith) (omega arith) o

      owe-from : Fit 0 0 (from + 1) (lent names vs us) r
      owe-from = fit-from (from + 1) (omega arith) (verb-does.fit fit0)

      gap_from : Fit 3 3 (from + 1) (lent names vs us) u
      gap_from = owe-does.fit owe-from

      gap-does : Does false 3 3 3 0 (from + 1) (lent names vs us) u (λ f q. got (inserted gap at f, q)) (lent names xs ys) v
      gap-does = ins names false 3 0 (omega arith)

      gap-fit : Fit 3 0 (from + 1) (lent names xs ys) v
      gap-fit = gap-does.fit gap_from

      gap_is : (v.number ≡ 0) × (form_of false (from + 1) (lent names xs ys) v ≡ inserted gap at (form_of false (from + 1) (lent names vs us) u))
      gap_is = let g = does-answered gap-does gap_from (does-answered owe-does owe-from z refl).0 refl in (g.0, sym (ap (λ x. x.0) g.1))

      gap-long : from + 4 ≤ v.written
      gap-long =
          let k : from + 1 + length (inserted gap at (form_of false (from + 1) (lent names vs us) u)).words ≡ v.written =
          rw gap_is.1 at (form-length false gap-fit (omega arith) gap_is.0).0 in
          omega arith

      deep-does : {to : ℕ} → Does false 3 0 3 0 to (lent names xs ys) v (λ f q. got (f, q)) (lent names xs ys) d
      deep-does = does-depth n

      deep_long : from + 4 ≤ d.written
      deep_long = rw n gap-long

      onwards-does : Does false 3 0 3 0 (from + 3) (lent names xs ys) d (λ f q. flat (operators text f q)) (lent after ms ns) e
      onwards-does = does-flat (rw n) (go 3 (omega arith))

      onwards-long : from + 3 ≤ e.written
      onwards-long = (onwards-does.fit (fit-from (from + 3) (omega (arith, deep_long)) (deep-does.fit gap-fit))).begins

      parts-does : Does false 3 0 3 0 (from + 1) (lent after ms ns) e (λ f q. constraint_on text at (behind_first f) q) (lent last zs qs) s
      parts-does = on 3 (omega arith) (λ y. omega (arith, onwards-long))

      expression-does : Onward false 0 3 from (lent names ws os) r (λ f q. stated_on text verb p at (behind_first f) q) (lent last zs qs) s
      expression-does =
          does-as
          (does-then
          verb-does
          (does-then
          owe-does
          (does-then
          (does-later 1 gap_from.begins gap-does)
          (does-then deep-does (does-then (does-later 3 (omega (arith, deep_long)) onwards-does) (does-later 1 (omega (arith, onwards-long)) parts-does))))))
          (λ fit y.
          gap-then w p at
          (operators text (word_then (pos 24) at (behind_first (form_of false from (lent names ws os) r))) (owing 3 (reader_of names r)))
          (λ f q. constraint_on text at f q)
          ∙ rw (i ∙ word-is verb (omega arith)) (is-expression text verb p at (behind_first (form_of false from (lent names ws os) r)) (reader_of names r) t (peeks names) c))

    pub on-expression : Onward false 0 3 from (lent names ws os) r (λ f q. stated_on text verb p at (behind_first f) q) (lent last zs qs) s
    on-expression = does-given expression-does

-- ---- the whole statement

module _ (text : List ℕ) (verb p at : ℕ) (f : Form) (w : ℤ) (a : f.words ≡ []) (b : f.origins ≡ []) where
  path-then : (m : Answer Fault (Form × Reader)) → (following (ended f w p) m >>= λ x. stated_on text verb p at (behind_first x.0) x.1) ≡ (m >>= λ x. stated_on text verb p at x.0 x.1)
  unfolding behind_first stated_on
  path-then (got x) = rw (a, b)
  path-then (stop n) = refl

  part_then : (m : Answer Fault (Form × Reader))
      → (following (ended (ended f w p) (pos 0) at) m >>= λ x. following (first_of 1 x.0) (constraint_on text at (behind_first (later_of 1 x.0)) x.1))
      ≡ (m >>= λ x. worded w p (constraint_on text at x.0 x.1))
  unfolding behind_first constraint_on
  part_then (got x) = rw (a, b)
  part_then (stop n) = refl

module _ (text : List ℕ) (verb p : ℕ) (q : Reader) (t : Token) (e : t ≡ peek text q) where
  is-path : t.code ≡ 1 → (path text 2 q >>= λ x. stated_on text verb p t.place x.0 x.1) ≡ stated text verb p q
  unfolding stated
  is-path h = rw (← e, eq-eqb t.code 1 h)

  is-part : (t.code ≡ 1 → ⊥) → (part_at text (owing 1 q) >>= λ x. worded (pos verb) p (constraint_on text t.place x.0 x.1)) ≡ stated text verb p q
  unfolding stated
  is-part h = rw (← e, ne_eqb t.code 1 h)

-- where the rows are full a refusal came before
pub stated-full : (text : List ℕ) (verb : ℕ) {a : Lent} {r : Carried} → 4100 ≤ r.written → Piece 0 3 a r (λ q. stated_from text verb q) a r
stated-full text verb h = does-full (omega arith) (omega arith)

module _ (text : List ℕ) (verb : ℕ) (names : List ℕ) (ws : List ℤ) (os : List ℕ) {vs : List ℤ} {us : List ℕ} {r v s : Carried} {t first : Token} {w : ℤ}
    (room : r.written < 4100) (small : verb < 4096) (peeks : Peeks text r t) (takes : Follows r (λ q. take text 1 q) v) (i : w ≡ word_of verb)
    (a : vs ≡ with1 ws v w) (b : us ≡ with1 os v t.place) (c : s ≡ wrote_one v) (second : Peeks text s first) where
  one_written : s.written ≡ r.written + 1
  one_written = wrote-more v c (omega (arith, takes.written)) ∙ ap (λ (k : ℕ). k + 1) takes.written

  seen : first ≡ peek text (reader_of names v)
  seen = second names ∙ rw (c, wrote-reader v names)

  none_before : ((form_of false r.written (lent names ws os) v).words ≡ []) × ((form_of false r.written (lent names ws os) v).origins ≡ [])
  none_before = rw (← takes.written) (form-none false (lent names ws os) v)

  verb-is : w ≡ pos verb
  verb-is = i ∙ word-is verb (omega arith)

  stated-does : Does false 0 1 0 0 r.written (lent names ws os) v (λ f q. got (ended f w t.place, q)) (lent names vs us) s
  stated-does = does-word w t.place (omega arith) a b c

  begins-with : {l : Lent} {z : Carried} → Does false 0 1 3 0 r.written (lent names ws os) v (λ f q. stated text verb t.place q) l z
      → Piece 0 3 (lent names ws os) r (λ q. stated_from text verb q) l z
  begins-with d =
      does-as
      (does-then (does-take text 1 takes) d)
      (λ fit z. rw (← peeks names) (bind-pair (take text 1 (reader_of names r)) (form_of false r.written (lent names ws os) r) (λ x. stated text verb t.place x.1)))

  pub stated-path : {l : Lent} {after : List ℕ} {xs : List ℤ} {ys : List ℕ} {u z : Carried} → first.code ≡ 1 → Piece 3 0 (lent names vs us) s (λ q. path text 2 q) (lent after xs ys) u
      → (r.written < u.written → Onward false 0 3 r.written (lent after xs ys) u (λ f q. stated_on text verb t.place first.place (behind_first f) q) l z)
      → Piece 0 3 (lent names ws os) r (λ q. stated_from text verb q) l z
  stated-path {after = after} {xs = xs} {ys = ys} {u = u} h d on =
      begins-with (does-given (λ fit.
      let k : Piece 0 0 (lent names vs us) s (λ q. path text 2 q) (lent after xs ys) u = does-wider (omega arith) (omega arith) d in
      let g : r.written + 1 ≤ u.written = ((does-piece k).fit (fit-from (r.written + 1) (omega (arith, one_written)) (stated-does.fit fit))).begins in
      does-as
      (does-then stated-does (does-then (does-piece k) (on (omega arith))))
      (λ fit z.
      path-then text verb t.place first.place (form_of false r.written (lent names ws os) v) w none_before.0 none_before.1 (path text 2 (reader_of names v))
      ∙ is-path text verb t.place (reader_of names v) first seen h)))

  module _ {l : Lent} {after : List ℕ} {xs ms : List ℤ} {ys ns : List ℕ} {u e o z : Carried}
      (h : first.code ≡ 1 → ⊥) (own : Owes 1 s o) (a1 : xs ≡ with1 vs o (pos 0)) (b1 : ys ≡ with1 us o first.place) (c1 : u ≡ wrote_one o)
      (part : Piece 1 0 (lent names xs ys) u (λ q. part_at text q) (lent after ms ns) e)
      (on : Constrains text s.written first.place (lent after ms ns) e l z) where
    module _ (fit : Fit 0 1 r.written (lent names ws os) v) where
      m-owes : {to : ℕ} → Does false 0 0 1 1 to (lent names vs us) s (λ f q. got (f, owing 1 q)) (lent names vs us) o
      m-owes = does-owe text 1 (omega arith) (omega arith) own

      m-does : {to : ℕ} → Does false 1 1 1 0 to (lent names vs us) o (λ f q. got (ended f (pos 0) first.place, q)) (lent names xs ys) u
      m-does = does-word (pos 0) first.place (omega arith) a1 b1 c1

      part-does : {to : ℕ} → Does false 1 0 0 0 to (lent names xs ys) u (λ f q. following f (part_at text q)) (lent after ms ns) e
      part-does = does-piece part

      s-fit : Fit 0 0 (r.written + 1) (lent names vs us) s
      s-fit = fit-from (r.written + 1) (omega (arith, one_written)) (stated-does.fit fit)

      o-fit : Fit 1 1 (r.written + 1) (lent names vs us) o
      o-fit = m-owes.fit s-fit

      u-fit : Fit 1 0 (r.written + 1) (lent names xs ys) u
      u-fit = m-does.fit o-fit

      e-long : r.written + 1 ≤ e.written
      e-long = (part-does.fit u-fit).begins

      e-longer : e.number ≡ 0 → s.written < e.written
      e-longer x =
          let uz : u.number ≡ 0 = does-went (part-does {to = r.written + 1}) u-fit x in
          let oz : o.number ≡ 0 = does-went (m-does {to = r.written + 1}) o-fit uz in
          let sz : s.number ≡ 0 = does-went (m-owes {to = r.written + 1}) s-fit oz in
          let ow : o.written ≡ s.written = (own (λ k. omega (arith, s-fit.owed k)) (omega arith)).written in
          let uw : u.written ≡ o.written + 1 = wrote-more o c1 (omega (arith, fit-room (omega arith) s-fit sz)) in
          let ew : r.written + 2 ≤ e.written = ((part-does {to = r.written + 2}).fit (fit-from (r.written + 2) (omega (arith, one_written)) u-fit)).begins in
          omega (arith, one_written)

      parts-on : Does false 0 0 0 0 (r.written + 1) (lent after ms ns) e (λ f q. constraint_on text first.place (behind_first f) q) l z
      parts-on = rw one_written at (on 0 (omega arith) e-longer)

      statement-does : Does false 0 1 3 0 r.written (lent names ws os) v (λ f q. stated text verb t.place q) l z
      statement-does =
          does-wider (omega arith) (omega arith)
          (does-as
          (does-then stated-does (does-then m-owes (does-then m-does (does-then part-does (does-later 1 e-long parts-on)))))
          (λ fit z.
          part_then text verb t.place first.place (form_of false r.written (lent names ws os) v) w none_before.0 none_before.1 (part_at text (owing 1 (reader_of names v)))
          ∙ rw verb-is (is-part text verb t.place (reader_of names v) first seen h)))

    pub stated-part : Piece 0 3 (lent names ws os) r (λ q. stated_from text verb q) l z
    stated-part = begins-with (does-given statement-does)
