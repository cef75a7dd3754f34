-- How labels and a path are written. Assumes nothing.
use mathlib.Core.Path.{◌≡◌, sym, ap, ◌∙◌}
use mathlib.Core.Bool.{Bool, true, false}
use mathlib.Core.List.{List, []}
use Prim.Native.Nat.{ℕ, zero, suc, ◌+◌, ◌-◌, ◌≤◌, ◌<◌}
use native.Mathlib.Omega.{arith}
use borrow.Author.Tests.{eqb-true, eqb-false, eq-eqb, ne_eqb}
use lib.Dec.{eqb}
use lib.IntN.{ℤ, pos}
use lib.ListN.{length, set}
use Rattle.words.specs.Answer.{got, stop, ◌>>=◌}
use Rattle.words.specs.Words.{word_of}
use Rattle.words.proofs.AnswerLaws.{stop≢got, got-inj, stop-inj, either}
use Rattle.words.proofs.Laws.{word-is}
use Rattle.tables.proofs.SearchLaws.{cases}
use Rattle.tokens.specs.declared.Token.{Token}
use Rattle.text.specs.Reading.{Fault, fault, Reader, Form, form, word_then, and_then, peek, is, passing, variable, label, steps, path}
use Rattle.text.specs.Reading.{take as take_by}
use Rattle.text.specs.declared.Carried.{Carried}
use Rattle.text.specs.Told.{reader_of, reading_of, numbered_of, Peeks, Follows, Numbers}
use Rattle.text.specs.Written.{with1, wrote_one, Passes}
use Rattle.text.specs.declared.Lent.{Lent}
use Rattle.text.specs.Pieces.{lent, form_of, Fit, Does, Piece, behind_first}
use Rattle.text.proofs.ToldLaws.{goes_on}
use Rattle.text.proofs.RowsLaws.{fit-room, wrote-more}
use Rattle.text.proofs.AnswerSteps.{beside, following, passing-none, passing-one, label-never}
use Rattle.text.proofs.DoesLaws.{Program, ended, first_of, later_of, does-then, does-as, does-nothing, does-take, does-pass, does-variable, does-label, does-word, does-first}
use Rattle.text.proofs.DoesLaws.{does-piece, does-later, form-length}
use Rattle.text.proofs.StepLaws.{does-given, does-went, does-answered, does-halts, put-stopped, form-empty, piece-grows}

-- ---- what is read

reading-is : (r : Carried) {q : Reader} (names : List ℕ) → reading_of names r ≡ got q → reader_of names r ≡ q
unfolding reading_of
reading-is r names h = cases (eqb r.number 0) (λ e. got-inj (rw e at h)) (λ e. stop≢got (rw e at h))

numbered-stop : (r : Carried) {e : Fault} (names : List ℕ) → numbered_of names r ≡ stop e → (r.number ≡ 0 → ⊥) × (e ≡ fault r.number r.place)
unfolding numbered_of
numbered-stop r names h =
    cases (eqb r.number 0) (λ e. stop≢got (sym (rw e at h))) (λ e. (eqb-false r.number 0 e, stop-inj (sym (rw e at h))))

-- ---- the steps of a path

abbrev label_then : List ℕ → ℕ → Program
label_then text o f q = label text [] q >>= λ x. got (ended f (pos x.0) o, x.1)

abbrev variable_then : List ℕ → ℕ → Program
variable_then text o f q = variable text 2 q >>= λ x. got (ended f (pos x.0) o, x.1)

-- a variable, a word for the number of its labels, and these
abbrev its_words : List ℕ → ℕ → Program
its_words text o f q = variable_then text o f q >>= λ x. following (ended x.0 (pos 0) o) (steps text 7 x.1)

abbrev second_put : ℤ → ℕ → Program
second_put w o f q = got (and_then (first_of 1 f) (word_then w o (behind_first (later_of 1 f))), q)

-- ---- labels

module _ (text : List ℕ) where
  -- no label behind the last
  steps-none : (n : ℕ) (q : Reader) → eqb (peek text q).code 33 ≡ false → steps text n q ≡ got (form [] [], q)
  unfolding steps
  steps-none zero q h = rw h
  steps-none (suc n) q h = rw h

  pub steps-over : (n : ℕ) {a : Lent} {r : Carried} {t : Token} → Peeks text r t → (t.code ≡ 33 → ⊥) → Piece 0 0 a r (λ q. steps text n q) a r
  steps-over n {a} {r} {t} pk h =
      does-as does-nothing λ fit z.
      rw (form-empty a r) (sym (steps-none n (reader_of a.names r) (rw (← pk a.names) (ne_eqb t.code 33 h))))

  -- one label too many
  steps-far : (q : Reader) (e : Fault) → eqb (peek text q).code 33 ≡ true → (take_by text 0 q >>= λ v. label text [] (passing true v)) ≡ stop e → steps text 0 q ≡ stop e
  unfolding steps
  steps-far q e dot h =
      rw dot (either (take_by text 0 q)
      (λ v g. either (label text [] (passing true v)) (λ x i. label-never text [] (passing true v) x (passing-one v) i) (λ f i. rw (g, i) (ap stop (stop-inj (rw (g, i) at h)))))
      (λ f g. rw g (ap stop (stop-inj (rw g at h)))))

  far-stops : {X : Type 0} (q : Reader) → ((e : Fault) → (take_by text 0 q >>= λ v. label text [] (passing true v)) ≡ stop e → X) → X
  far-stops q k =
      either (take_by text 0 q)
      (λ v g. either (label text [] (passing true v)) (λ x i. label-never text [] (passing true v) x (passing-one v) i) (λ f i. k f (rw (g, i))))
      (λ f g. k f (rw g))

  module _ {before after : List ℕ} {b : Bool} {r s v u : Carried} {t : Token} (z : r.number ≡ 0) (pk : Peeks text r t) (dot : t.code ≡ 33)
      (took : Follows r (λ q. take_by text 0 q) s) (passed : Passes b s v) (kept : length after ≡ length before) (num : Numbers before v (λ q. label text [] q) after u) where
    -- what is read behind the dot
    behind_dot : reading_of before v ≡ (take_by text 0 (reader_of before r) >>= λ q. got (passing b q))
    behind_dot = passed.reads before ∙ rw (took.reads before, goes_on r z before)

    is-dot : eqb (peek text (reader_of before r)).code 33 ≡ true
    is-dot = rw (← pk before) (eq-eqb t.code 33 dot)

    pub steps-last : (n : ℕ) {ws : List ℤ} {os : List ℕ} → b ≡ true → n ≡ 0 → Piece 0 0 (lent before ws os) r (λ q. steps text n q) (lent after ws os) u
    steps-last n bt none =
        rw none (does-halts z kept (num.written ∙ (passed.written ∙ took.written)) λ long.
        far-stops (reader_of before r) λ e h.
        let y : numbered_of after u ≡ stop e = num.reads long ∙ rw (behind_dot, bt) (either (take_by text 0 (reader_of before r)) (λ q g. rw g (rw g at h)) (λ f g. rw g (rw g at h))) in
        ((numbered-stop u after y).0, λ f. rw (← (numbered-stop u after y).1) (steps-far (reader_of before r) e is-dot h)))

    place_is : {o : Token} → b ≡ false → Peeks text v o → (q : Reader) → take_by text 0 (reader_of before r) ≡ got q → o.place ≡ (peek text q).place
    place_is bf pl q h = rw (pl before, reading-is v {q = q} before (behind_dot ∙ rw (h, bf, passing-none q)))

    -- a label, and those behind it
    one_more_lem : {o : Token} → b ≡ false → Peeks text v o → (m : ℕ)
        → (beside (form [] []) (take_by text 0 (reader_of before r)) >>= λ x. label_then text o.place x.0 (passing b x.1) >>= λ y. following y.0 (steps text m y.1))
        ≡ steps text (suc m) (reader_of before r)
    unfolding steps
    one_more_lem bf pl m =
        rw (is-dot, bf) (either (take_by text 0 (reader_of before r))
        (λ q h. rw (h, passing-none q, place_is bf pl q h) (either (label text [] q) (λ x i. rw i) (λ e i. rw i)))
        (λ e h. rw h))

    pub steps-more : (n m : ℕ) {ws vs : List ℤ} {os us : List ℕ} {w end : Carried} {o : Token} {c : Lent} → b ≡ false → Peeks text v o
        → vs ≡ with1 ws u (word_of u.named) → us ≡ with1 os u o.place → w ≡ wrote_one u
        → n ≡ suc m → Piece 0 0 (lent after vs us) w (λ q. steps text m q) c end → Piece 0 0 (lent before ws os) r (λ q. steps text n q) c end
    steps-more n m {ws = ws} {os = os} {o = o} bf pl is also wrote more rest =
        rw more (does-as
        (does-then (does-take text 0 took) (does-then (does-pass text b passed) (does-then (does-label text [] o.place kept num is also wrote) (does-piece rest))))
        λ fit y. rw (form-empty (lent before ws os) r) (one_more_lem bf pl m))

-- ---- a path

-- the second word is known at last
second-put : {m k from : ℕ} {names : List ℕ} {ws vs : List ℤ} {os us : List ℕ} {r : Carried} (i : ℕ) (w : ℤ) (o : ℕ)
    → m ≤ 3 → from ≤ i → (r.number ≡ 0 → (i ≡ from + 1) × (i < r.written)) → vs ≡ set ws i w → us ≡ set os i o
    → Does false m k m k from (lent names ws os) r (second_put w o) (lent names vs us) r
second-put {from = from} {r = r} i w o few far second is also =
    cases (eqb r.number 0)
    (λ e. let z : r.number ≡ 0 = eqb-true r.number 0 e in
    does-later {p = λ f q. got (word_then w o (behind_first f), q)} 1 (omega (arith, (second z).0, (second z).1))
    (does-first w o few (omega (arith, (second z).0, (second z).1)) (rw (← (second z).0) is) (rw (← (second z).0) also)))
    (λ e. put-stopped i w o (eqb-false r.number 0 e) far is also)

module _ (text : List ℕ) where
  path-is : (q : Reader) (o : ℕ) (w : ℤ) → (peek text q).place ≡ o
      → ((x : ℕ × Reader) (y : Form × Reader) → variable text 2 q ≡ got x → steps text 7 x.1 ≡ got y → w ≡ pos (length y.0.words))
      → (its_words text o (form [] []) q >>= λ x. second_put w o x.0 x.1) ≡ path text 2 q
  unfolding path behind_first
  path-is q o w place counted =
      either (variable text 2 q) (λ x e. rw e (either (steps text 7 x.1) (λ y g. rw (g, counted x y e g, place)) (λ f g. rw g))) (λ f e. rw e)

  module _ (ws : List ℤ) (os : List ℕ) {before after next : List ℕ} {xs ys zs : List ℤ} {ps qs rs : List ℕ} {r s u v end : Carried} {t : Token}
      (pk : Peeks text r t) (kept : length after ≡ length before) (num : Numbers before r (λ q. variable text 2 q) after s)
      (is : xs ≡ with1 ws s (word_of s.named)) (also : ps ≡ with1 os s t.place) (wrote : u ≡ wrote_one s)
      (is2 : ys ≡ with1 xs u (pos 0)) (also2 : qs ≡ with1 ps u t.place) (wrote2 : v ≡ wrote_one u)
      (rest : Piece 0 0 (lent after ys qs) v (λ q. steps text 7 q) (lent next zs rs) end) where
    first_word : Does false 3 0 0 1 r.written (lent before ws os) r (variable_then text t.place) (lent after xs ps) u
    first_word = does-variable text 1 t.place kept num is also wrote

    -- its place for their number
    second_word : {from : ℕ} → Does false 0 1 0 0 from (lent after xs ps) u (λ f q. got (ended f (pos 0) t.place, q)) (lent after ys qs) v
    second_word = does-word (pos 0) t.place (omega arith) is2 also2 wrote2

    its-words : Does false 3 0 0 0 r.written (lent before ws os) r (its_words text t.place) (lent next zs rs) end
    its-words = does-then first_word (does-then second_word (does-piece rest))

    module _ (fit : Fit 3 0 r.written (lent before ws os) r) where
      its-fit : Fit 0 0 r.written (lent next zs rs) end
      its-fit = its-words.fit fit

      written_is : end.number ≡ 0 → (u.written ≡ r.written + 1) × ((v.written ≡ r.written + 2) × (v.written ≤ end.written))
      written_is z =
          let f1 : Fit 0 1 r.written (lent after xs ps) u = first_word.fit fit in
          let f2 : Fit 0 0 r.written (lent after ys qs) v = second_word.fit f1 in
          let zv : v.number ≡ 0 = does-went (does-piece rest) f2 z in
          let zu : u.number ≡ 0 = does-went second_word f1 zv in
          let zr : r.number ≡ 0 = does-went first_word fit zu in
          let e1 : u.written ≡ s.written + 1 = wrote-more s wrote (omega (arith, num.written, fit-room (omega arith) fit zr)) in
          let e2 : v.written ≡ u.written + 1 = wrote-more u wrote2 (omega (arith, fit-room (omega arith) f1 zu)) in
          let g : v.written ≤ end.written = piece-grows rest f2 in
          (omega (arith, num.written, e1), (omega (arith, num.written, e1, e2), g))

      -- their number is the one that is stored
      number_is : {n : ℕ} {w : ℤ} → n ≡ end.written - v.written → w ≡ word_of n → r.number ≡ 0
          → (x : ℕ × Reader) (y : Form × Reader) → variable text 2 (reader_of before r) ≡ got x → steps text 7 x.1 ≡ got y → w ≡ pos (length y.0.words)
      number_is {n} {w} less word z x y hx hy =
          let made : (end.number ≡ 0) ×
          (◌≡◌ {A = Form × Reader} (and_then (ended (ended (form [] []) (pos x.0) t.place) (pos 0) t.place) y.0, y.1)
          (form_of false r.written (lent next zs rs) end, reader_of next end)) =
          does-answered its-words fit z (rw (form-empty (lent before ws os) r, hx, hy)) in
          let l : suc (suc (length y.0.words)) ≡ length (form_of false r.written (lent next zs rs) end).words = ap (λ h. length h.0.words) made.1 in
          let e : r.written + length (form_of false r.written (lent next zs rs) end).words ≡ end.written = (form-length false its-fit (omega arith) made.0).0 in
          let k : n ≡ length y.0.words = omega (arith, (written_is made.0).1.0) in
          let b : n < 2147483648 = omega (arith, its-fit.counts made.0, its-fit.certain made.0, its-fit.owed made.0) in
          word ∙ (word-is n b ∙ ap pos k)

    pub path-written : {n : ℕ} {w : ℤ} {vs : List ℤ} {us : List ℕ} → n ≡ end.written - v.written → w ≡ word_of n
        → vs ≡ set zs u.written w → us ≡ set rs u.written t.place
        → Piece 3 0 (lent before ws os) r (λ q. path text 2 q) (lent next vs us) end
    path-written {w = w} less word put placed =
        does-given λ fit.
        does-as
        (does-then its-words
        (second-put u.written w t.place (omega arith) (first_word.fit fit).begins
        (λ z. let y : (u.written ≡ r.written + 1) × ((v.written ≡ r.written + 2) × (v.written ≤ end.written)) = written_is fit z in (y.0, omega arith)) put placed))
        λ f z. rw (form-empty (lent before ws os) r) (path-is (reader_of before r) t.place w (rw (← pk before)) (number_is fit less word z))
