-- How steps follow one another: what they do to the piece that is written from a word on, and to the reader. Assumes nothing.
use mathlib.Core.Path.{◌≡◌, refl, sym, ap, ◌∙◌}
use mathlib.Core.Bool.{Bool, true, false}
use mathlib.Core.List.{List, [], ◌∷◌, ◌++◌}
use Prim.Native.Nat.{ℕ, suc, ◌+◌, ◌≤◌, ◌<◌}
use native.Mathlib.Omega.{arith}
use lib.IntN.{ℤ, pos}
use lib.ListN.{length, set, take, drop, length-set}
use lib.Seq.{take-set-le}
use Rattle.words.specs.Answer.{Answer, got, stop, ◌>>=◌}
use Rattle.words.proofs.Laws.{word-is}
use Rattle.words.proofs.AnswerLaws.{stop≢got, got-inj}
use Rattle.words.specs.Words.{word_of}
use Rattle.tokens.specs.declared.Token.{Token}
use Rattle.text.specs.Reading.{Fault, Reader, Form, form, word_then, and_then, peek, refusal, need, variable, label, opened, enough, passing, owing}
use Rattle.text.specs.Reading.{take as take_by}
use Rattle.text.specs.declared.Carried.{Carried}
use Rattle.text.specs.Told.{reader_of, refused_by, Peeks, Follows, Numbers}
use Rattle.text.specs.Written.{since, with1, wrote_one, deep_by, Passes, Owes}
use Rattle.text.specs.declared.Lent.{Lent}
use Rattle.text.specs.Pieces.{lent, form_of, piece_of, Fit, Does, Piece, Expression, behind_first, Opens}
use Rattle.text.proofs.WrittenLaws.{with-before}
use Rattle.text.proofs.RowsLaws.{bind_assoc, bind-got, going, piece-goes, piece-stopped, fit-wider, fit-by, fit-room, fit-stops, form-same, flat-same, follows-piece, follows-got}
use Rattle.text.proofs.RowsLaws.{numbered-got, numbered-stopped, numbered-piece, Counted, take_counted, need-counted, fit-counted, fit-names, refused-follows}
use Rattle.text.proofs.RowsLaws.{variable-counted, label-counted, few_variables, few_labels, written-piece, written-fit, since_none, since-length, since-set, before-less}
use Rattle.text.proofs.RowsLaws.{piece-other, form-behind, form-first, form-later, fit-from, fit-here}

abbrev pub Program : Type 0
Program = Form → Reader → Answer Fault (Form × Reader)

-- a piece with a word more at its end; its first j words, and those behind them
abbrev pub ended : Form → ℤ → ℕ → Form
ended f w p = record { words = f.words ++ w ∷ []; origins = f.origins ++ p ∷ []; depth = f.depth }

abbrev pub first_of : ℕ → Form → Form
first_of j f = form (take j f.words) (take j f.origins)

abbrev pub later_of : ℕ → Form → Form
later_of j f = form (drop j f.words) (drop j f.origins)

-- the same where the names are told apart from the rows, before a step and after it
pub does-from : {deep : Bool} {m k m1 k1 from : ℕ} {a b : Lent} {r s : Carried} {p : Program} {names : List ℕ}
    → a.names ≡ names → Does deep m k m1 k1 from a r p b s → Does deep m k m1 k1 from (lent names a.words a.origins) r p b s
does-from e d = rw (← e) d

pub does-to : {deep : Bool} {m k m1 k1 from : ℕ} {a b : Lent} {r s : Carried} {p : Program} {names : List ℕ}
    → b.names ≡ names → Does deep m k m1 k1 from a r p (lent names b.words b.origins) s → Does deep m k m1 k1 from a r p b s
does-to e d = rw (← e) at d

-- ---- one after the other

pub does-then : {deep : Bool} {m k m1 k1 m2 k2 from : ℕ} {a b c : Lent} {r s u : Carried} {p q : Program}
    → Does deep m k m1 k1 from a r p b s → Does deep m1 k1 m2 k2 from b s q c u → Does deep m k m2 k2 from a r (λ f v. p f v >>= λ x. q x.0 x.1) c u
does-then {deep = deep} {from = from} {a = a} {r = r} {p = p} {q = q} x y =
    record {
      reads = λ f. y.reads (x.fit f) ∙ rw (x.reads f) (bind_assoc (piece_of deep from a r) (λ v. p v.0 v.1) (λ v. q v.0 v.1));
      fit = λ f. y.fit (x.fit f);
      words_before = λ f. y.words_before (x.fit f) ∙ x.words_before f;
      origins_before = λ f. y.origins_before (x.fit f) ∙ x.origins_before f;
    }

-- the same by another program, which is told the piece and the reader that it begins with
pub does-as : {deep : Bool} {m k m1 k1 from : ℕ} {a b : Lent} {r s : Carried} {p q : Program}
    → Does deep m k m1 k1 from a r p b s
    → (Fit m k from a r → r.number ≡ 0 → p (form_of deep from a r) (reader_of a.names r) ≡ q (form_of deep from a r) (reader_of a.names r))
    → Does deep m k m1 k1 from a r q b s
does-as {deep = deep} {from = from} {a = a} {r = r} x e =
    record {
      reads = λ f. x.reads f ∙ going r (λ z. rw (piece-goes deep from a r z) (e f z)) (λ n. rw (piece-stopped deep from a r n));
      fit = x.fit;
      words_before = x.words_before;
      origins_before = x.origins_before;
    }

pub does-wider : {deep : Bool} {m n k m1 n1 k1 from : ℕ} {a b : Lent} {r s : Carried} {p : Program}
    → n ≤ m → m1 ≤ n1 → Does deep m k m1 k1 from a r p b s → Does deep n k n1 k1 from a r p b s
does-wider h g x =
    record {
      reads = λ f. x.reads (fit-wider h f);
      fit = λ f. fit-wider g (x.fit (fit-wider h f));
      words_before = λ f. x.words_before (fit-wider h f);
      origins_before = λ f. x.origins_before (fit-wider h f);
    }

-- no step
pub does-nothing : {deep : Bool} {m k from : ℕ} {a : Lent} {r : Carried} → Does deep m k m k from a r (λ f q. got (f, q)) a r
does-nothing {deep = deep} {from = from} {a = a} {r = r} = record { reads = λ f. bind-got (piece_of deep from a r); fit = λ f. f; words_before = λ f. refl; origins_before = λ f. refl }

-- a reader that is stopped stays
pub does-stopped : {deep : Bool} {m k m1 k1 from : ℕ} {a : Lent} {r : Carried} {p : Program} → (r.number ≡ 0 → ⊥) → Does deep m k m1 k1 from a r p a r
does-stopped {deep = deep} {from = from} {a = a} {r = r} n =
    record { reads = λ f. rw (piece-stopped deep from a r n); fit = λ f. fit-stops refl n f; words_before = λ f. refl; origins_before = λ f. refl }

-- a step that always stops may lack anything: what is written matters no more
pub does-stops : {deep : Bool} {m k m1 k1 m2 k2 from : ℕ} {a b : Lent} {r s : Carried} {p : Program}
    → Does deep m k m1 k1 from a r p b s → (Fit m k from a r → s.number ≡ 0 → ⊥) → Does deep m k m2 k2 from a r p b s
does-stops x n = record { reads = x.reads; fit = λ f. fit-stops refl (n f) (x.fit f); words_before = x.words_before; origins_before = x.origins_before }

pub does-refused : {deep : Bool} {m k m1 k1 from : ℕ} {a : Lent} {r s : Carried} (text : List ℕ) {t : Token}
    → r.number ≡ 0 → Peeks text r t → s ≡ refused_by t r → Does deep m k m1 k1 from a r (λ f q. stop (refusal text (peek text q))) a s
does-refused {deep = deep} {from = from} {a = a} {r = r} {s = s} text {t = t} z p is =
    let f : Follows r (λ q. stop (refusal text (peek text q))) s = refused-follows text z p is in
    record { reads = λ g. follows-piece deep from a f; fit = λ g. fit-stops f.written (λ y. stop≢got (follows-got a.names f y).1) g; words_before = λ g. refl; origins_before = λ g. refl }

-- ---- words

pub does-word : {deep : Bool} {m l from : ℕ} {names : List ℕ} {ws vs : List ℤ} {os us : List ℕ} {r s : Carried} (w : ℤ) (p : ℕ)
    → m ≤ 3 → vs ≡ with1 ws r w → us ≡ with1 os r p → s ≡ wrote_one r
    → Does deep m (suc l) m l from (lent names ws os) r (λ f q. got (ended f w p, q)) (lent names vs us) s
does-word {deep = deep} {from = from} {names = names} {ws = ws} {vs = vs} {os = os} {us = us} {r = r} {s = s} w p few v u e =
    record {
      reads = λ f. written-piece from names ws vs os us r s w p v u e few f deep;
      fit = λ f. written-fit from names ws vs os us r s w p v u e few f;
      words_before = λ f. rw v (with-before from ws r w f.begins);
      origins_before = λ f. rw u (with-before from os r p f.begins);
    }

-- the first word is known at last
pub does-first : {m l from : ℕ} {names : List ℕ} {ws vs : List ℤ} {os us : List ℕ} {r : Carried} (w : ℤ) (p : ℕ)
    → m ≤ 3 → from < r.written → vs ≡ set ws from w → us ≡ set os from p
    → Does false m l m l from (lent names ws os) r (λ f q. got (word_then w p (behind_first f), q)) (lent names vs us) r
unfolding form_of behind_first
does-first {from = from} {names = names} {ws = ws} {vs = vs} {os = os} {us = us} {r = r} w p few h v u =
    record {
      reads = λ f. going r
          (λ z.
          let room : from < 4100 = omega (arith, fit-room few f z) in
          let c : from < length ws = omega (arith, f.words) in
          let d : from < length os = omega (arith, f.origins) in
          rw (piece-goes false from (lent names vs us) r z, piece-goes false from (lent names ws os) r z, v, u, since-set from ws r w h c, since-set from os r p h d))
          (λ n. rw (piece-stopped false from (lent names vs us) r n, piece-stopped false from (lent names ws os) r n));
      fit = λ f.
          record {
            names = f.names;
            words = rw v (omega (arith, length-set ws from w, f.words));
            origins = rw u (omega (arith, length-set os from p, f.origins));
            begins = f.begins;
            counts = f.counts;
            certain = f.certain;
            owed = f.owed;
          };
      words_before = λ f. rw v (take-set-le from ws from w (omega arith));
      origins_before = λ f. rw u (take-set-le from os from p (omega arith));
    }

-- ---- names and their numbers

module _ {l from : ℕ} {before after : List ℕ} {r s : Carried} (by : Reader → Answer Fault (ℕ × Reader)) (k : ℕ) (same : length after ≡ length before) (named : Numbers before r by after s)
    (counted : (v : Reader) (n : ℕ) → by (reader_of before r) ≡ got (n, v) → Counted (suc k) (reader_of before r) v × (n < 2147483648)) where
  number_read : (deep : Bool) (m : ℕ) (ws : List ℤ) (os : List ℕ)
      → Does deep m l 0 (suc (l + k)) from (lent before ws os) r (λ f q. by q >>= λ x. got (f, x.1)) (lent after ws os) s
  unfolding form_of
  number_read deep m ws os =
      let y : suc (l + k) ≡ l + suc k = omega arith in
      record {
        reads = λ g. numbered-piece before after r s by (named.reads g.names) deep from ws os (form-same deep from (lent before ws os) r s named.written named.depth);
        fit = λ g. rw y (fit-names same (fit-counted before after (suc k) named.written (λ z.
            let h : (r.number ≡ 0) × (by (reader_of before r) ≡ got (s.named, reader_of after s)) = numbered-got before after r s by (named.reads g.names) z in
            (h.0, (counted (reader_of after s) s.named h.1).0)) g));
        words_before = λ g. refl;
        origins_before = λ g. refl;
      }

  number-written : (deep : Bool) (m p : ℕ) {ws vs : List ℤ} {os us : List ℕ} {u : Carried}
      → vs ≡ with1 ws s (word_of s.named) → us ≡ with1 os s p → u ≡ wrote_one s
      → Does deep m l 0 (l + k) from (lent before ws os) r (λ f q. by q >>= λ x. got (ended f (pos x.0) p, x.1)) (lent after vs us) u
  number-written deep m p {ws = ws} {os = os} v u e =
      does-as (does-then (number_read deep m ws os) (does-word (word_of s.named) p (omega arith) v u e)) (λ g z. going s
      (λ y. let h : by (reader_of before r) ≡ got (s.named, reader_of after s) = (numbered-got before after r s by (named.reads g.names) y).1 in
      rw (h, word-is s.named (counted (reader_of after s) s.named h).1))
      (λ n. rw (numbered-stopped before after r s by (named.reads g.names) n z)))

-- ---- tokens

module _ (text : List ℕ) where
  pub does-take : {deep : Bool} {m l from : ℕ} {a : Lent} {r s : Carried} (k : ℕ)
      → Follows r (λ q. take_by text k q) s → Does deep m l 0 (l + k) from a r (λ f q. take_by text k q >>= λ v. got (f, v)) a s
  does-take {deep = deep} {from = from} {a = a} {r = r} {s = s} k f =
      record {
        reads = λ g. follows-piece deep from a f;
        fit = λ g. fit-counted a.names a.names k f.written (λ z. let h = follows-got a.names f z in (h.0, take_counted text k _ _ h.1)) g;
        words_before = λ g. refl;
        origins_before = λ g. refl;
      }

  pub does-need : {deep : Bool} {m l from : ℕ} {a : Lent} {r s : Carried} (c k : ℕ)
      → Follows r (λ q. need text c k q) s → Does deep m l 0 (l + k) from a r (λ f q. need text c k q >>= λ v. got (f, v)) a s
  does-need {deep = deep} {from = from} {a = a} {r = r} {s = s} c k f =
      record {
        reads = λ g. follows-piece deep from a f;
        fit = λ g. fit-counted a.names a.names k f.written (λ z. let h = follows-got a.names f z in (h.0, need-counted text c k _ _ h.1)) g;
        words_before = λ g. refl;
        origins_before = λ g. refl;
      }

  pub does-pass : {deep : Bool} {m l from : ℕ} {a : Lent} {r s : Carried} (b : Bool) → Passes b r s → Does deep m l m l from a r (λ f q. got (f, passing b q)) a s
  unfolding reader_of
  does-pass {deep = deep} {from = from} {a = a} {r = r} {s = s} b f =
      record {
        reads = λ g. follows-piece deep from a f;
        fit = λ g. fit-by f.written (λ z.
            let h : (r.number ≡ 0) × (◌≡◌ {A = Answer Fault Reader} (got (passing b (reader_of a.names r))) (got (reader_of a.names s))) = follows-got a.names f z in
            let c : r.certain ≡ s.certain = ap (λ v. v.certain) (got-inj h.1) in
            let o : r.owed ≡ s.owed = ap (λ v. v.owed) (got-inj h.1) in
            (omega (arith, f.written, g.counts h.0), (omega (arith, g.certain h.0), omega (arith, g.owed h.0)))) g;
        words_before = λ g. refl;
        origins_before = λ g. refl;
      }

  pub does-owe : {deep : Bool} {m l from : ℕ} {a : Lent} {r s : Carried} (k : ℕ) → m ≤ 3 → k ≤ 3 → Owes k r s → Does deep m l (m + k) (l + k) from a r (λ f q. got (f, owing k q)) a s
  unfolding reader_of
  does-owe {deep = deep} {from = from} {a = a} {r = r} {s = s} k some few owes =
      record {
        reads = λ g. follows-piece deep from a (owes (λ z. omega (arith, g.owed z)) (omega arith));
        fit = λ g.
            let f : Follows r (λ q. got (owing k q)) s = owes (λ z. omega (arith, g.owed z)) (omega arith) in
            fit-by f.written (λ z.
            let h : (r.number ≡ 0) × (◌≡◌ {A = Answer Fault Reader} (got (owing k (reader_of a.names r))) (got (reader_of a.names s))) = follows-got a.names f z in
            let c : r.certain ≡ s.certain = ap (λ v. v.certain) (got-inj h.1) in
            let o : r.owed + k ≡ s.owed = ap (λ v. v.owed) (got-inj h.1) in
            (omega (arith, f.written, g.counts h.0), (omega (arith, g.certain h.0), omega (arith, g.owed h.0)))) g;
        words_before = λ g. refl;
        origins_before = λ g. refl;
      }

  -- a name, and its number as a word behind what is written; k words more are lacking
  pub does-variable : {deep : Bool} {m l from : ℕ} {before after : List ℕ} {ws vs : List ℤ} {os us : List ℕ} {r s u : Carried} (k p : ℕ)
      → length after ≡ length before
      → Numbers before r (λ q. variable text (suc k) q) after s
      → vs ≡ with1 ws s (word_of s.named) → us ≡ with1 os s p → u ≡ wrote_one s
      → Does deep m l 0 (l + k) from (lent before ws os) r (λ f q. variable text (suc k) q >>= λ x. got (ended f (pos x.0) p, x.1)) (lent after vs us) u
  does-variable {deep = deep} {m = m} {before = before} {r = r} k p same named v u e =
      number-written (λ q. variable text (suc k) q) k same named (λ q n h. let c = variable-counted text _ q n (suc k) h (few_variables before r) in (c.0, omega (arith, c.1))) deep m p v u e

  pub does-label : {deep : Bool} {m l from : ℕ} {before after : List ℕ} {ws vs : List ℤ} {os us : List ℕ} {r s u : Carried} (seen : List ℕ) (p : ℕ)
      → length after ≡ length before
      → Numbers before r (λ q. label text seen q) after s
      → vs ≡ with1 ws s (word_of s.named) → us ≡ with1 os s p → u ≡ wrote_one s
      → Does deep m l 0 l from (lent before ws os) r (λ f q. label text seen q >>= λ x. got (ended f (pos x.0) p, x.1)) (lent after vs us) u
  does-label {deep = deep} {m = m} {l = l} {from = from} {before = before} {r = r} seen p same named v u e =
      let y : l + 0 ≡ l = omega arith in
      rw y at (number-written {l = l} {from = from} (λ q. label text seen q) 0 same named
      (λ q n h. let c = label-counted text _ q n seen h (few_labels before r) in (c.0, omega (arith, c.1))) deep m p v u e)

  -- where a name is read, its number is the one that the reader has, and below 64 or 32
  pub label_is : {before after : List ℕ} {r s : Carried} (seen : List ℕ)
      → 192 ≤ length before → Numbers before r (λ q. label text seen q) after s → s.number ≡ 0
      → (r.number ≡ 0) × ((label text seen (reader_of before r) ≡ got (s.named, reader_of after s)) × (s.named < 32))
  label_is {before = before} {after = after} {r = r} {s = s} seen long n z =
      let h : (r.number ≡ 0) × (label text seen (reader_of before r) ≡ got (s.named, reader_of after s)) = numbered-got before after r s _ (n.reads long) z in
      (h.0, (h.1, (label-counted text _ _ _ seen h.1 (few_labels before r)).1))

  -- brackets that open
  pub does-open : {m from : ℕ} {a : Lent} {r s : Carried} → Opens text r s → Does false m 0 m 0 from a r (λ f q. opened text (enough text) 0 q >>= λ x. got (f, x.1)) a s
  does-open {from = from} {a = a} {r = r} {s = s} f =
      record {
        reads = λ g. numbered-piece a.names a.names r s _ (f.reads a.names) false from a.words a.origins (flat-same from a r s f.written);
        fit = λ g. fit-by f.written (λ z.
            let h = numbered-got a.names a.names r s _ (f.reads a.names) z in
            (omega (arith, f.written, f.counts z, g.counts h.0), (f.certain z (g.certain h.0), omega (arith, f.owed z, g.owed h.0)))) g;
        words_before = λ g. refl;
        origins_before = λ g. refl;
      }

-- ---- pieces of a piece

-- a piece behind what is written from a word on
pub does-piece : {m m1 from : ℕ} {a b : Lent} {r s : Carried} {step : Reader → Answer Fault (Form × Reader)}
    → Piece m m1 a r step b s → Does false m 0 m1 0 from a r (λ f q. step q >>= λ x. got (and_then f x.0, x.1)) b s
does-piece {m = m} {from = from} {a = a} {b = b} {r = r} {s = s} {step = by} x =
    let here : Fit m 0 from a r → Fit m 0 r.written a r = λ f. fit-here f in
    record {
      reads = λ f.
          piece-other false false from r.written b s (λ g. and_then (form_of false from a r) g)
          (λ z. form-behind from a b r s f.begins (x.fit (here f)).begins (x.words_before (here f)) (x.origins_before (here f)))
          ∙ rw (x.reads (here f)) (going r
          (λ z. rw (piece-goes false r.written a r z, piece-goes false from a r z))
          (λ n. rw (piece-stopped false r.written a r n, piece-stopped false from a r n)));
      fit = λ f. fit-from from (omega (arith, f.begins, (x.fit (here f)).begins)) (x.fit (here f));
      words_before = λ f. before-less from r.written a.words b.words f.begins (x.words_before (here f));
      origins_before = λ f. before-less from r.written a.origins b.origins f.begins (x.origins_before (here f));
    }

-- what is done from a later word on
pub does-later : {m k m1 k1 from : ℕ} {a b : Lent} {r s : Carried} {p : Program} (j : ℕ)
    → from + j ≤ r.written → Does false m k m1 k1 (from + j) a r p b s
    → Does false m k m1 k1 from a r (λ f q. p (later_of j f) q >>= λ x. got (and_then (first_of j f) x.0, x.1)) b s
does-later {m = m} {k = k} {from = from} {a = a} {b = b} {r = r} {s = s} j h x =
    let here : Fit m k from a r → Fit m k (from + j) a r = λ f. fit-from (from + j) h f in
    record {
      reads = λ f.
          piece-other false false from (from + j) b s (λ g. and_then (first_of j (form_of false from a r)) g)
          (λ z. form-first from a b r s j h (x.fit (here f)).begins (x.words_before (here f)) (x.origins_before (here f)))
          ∙ rw (x.reads (here f)) (going r
          (λ z. rw (piece-goes false (from + j) a r z, piece-goes false from a r z, form-later from j a r h))
          (λ n. rw (piece-stopped false (from + j) a r n, piece-stopped false from a r n)));
      fit = λ f. fit-from from (omega (arith, (x.fit (here f)).begins)) (x.fit (here f));
      words_before = λ f. before-less from (from + j) a.words b.words (omega arith) (x.words_before (here f));
      origins_before = λ f. before-less from (from + j) a.origins b.origins (omega arith) (x.origins_before (here f));
    }

-- an expression as a piece, and a piece as an expression that is one level deep
pub expression-piece : {m m1 : ℕ} {a b : Lent} {r s : Carried} {step : Reader → Answer Fault (Form × Reader)}
    → Expression m m1 a r step b s → Piece m m1 a r (λ q. step q >>= λ x. got (form x.0.words x.0.origins, x.1)) b s
unfolding form_of
expression-piece {a = a} {b = b} {r = r} {s = s} x =
    record {
      reads = λ f.
          piece-other false true r.written r.written b s (λ g. form g.words g.origins) (λ z. refl)
          ∙ rw (x.reads f) (going r
          (λ z. rw (piece-goes true r.written a r z, piece-goes false r.written a r z))
          (λ n. rw (piece-stopped true r.written a r n, piece-stopped false r.written a r n)));
      fit = x.fit;
      words_before = x.words_before;
      origins_before = x.origins_before;
    }

pub piece-expression : {m m1 : ℕ} {a b : Lent} {r s u : Carried} {step : Reader → Answer Fault (Form × Reader)}
    → Piece m m1 a r step b s → u ≡ deep_by 1 s → Expression m m1 a r step b u
unfolding form_of since piece_of reader_of
piece-expression {a = a} {r = r} {s = s} x e =
    record {
      reads = λ f. rw e (x.reads f ∙ going r
          (λ z. rw (piece-goes false r.written a r z, piece-goes true r.written a r z))
          (λ n. rw (piece-stopped false r.written a r n, piece-stopped true r.written a r n)));
      fit = λ f. rw e (fit-by refl (λ z. ((x.fit f).counts z, ((x.fit f).certain z, (x.fit f).owed z))) (x.fit f));
      words_before = x.words_before;
      origins_before = x.origins_before;
    }

pub does-flat : {m k m1 k1 from : ℕ} {a b : Lent} {r s : Carried} {p : Program}
    → r.depth ≡ 1 → Does true m k m1 k1 from a r p b s → Does false m k m1 k1 from a r (λ f q. p f q >>= λ x. got (form x.0.words x.0.origins, x.1)) b s
unfolding form_of
does-flat {from = from} {a = a} {b = b} {r = r} {s = s} d x =
    record {
      reads = λ f.
          piece-other false true from from b s (λ g. form g.words g.origins) (λ z. refl)
          ∙ rw (x.reads f) (going r
          (λ z. rw (piece-goes true from a r z, piece-goes false from a r z, d))
          (λ n. rw (piece-stopped true from a r n, piece-stopped false from a r n)));
      fit = x.fit;
      words_before = x.words_before;
      origins_before = x.origins_before;
    }

-- the depth of a reader is nothing to a piece that has none
pub does-depth : {m k from d : ℕ} {a : Lent} {r s : Carried} → s ≡ deep_by d r → Does false m k m k from a r (λ f q. got (f, q)) a s
unfolding form_of since piece_of reader_of
does-depth {from = from} {a = a} {r = r} e =
    record {
      reads = λ f. rw e (bind-got (piece_of false from a r));
      fit = λ f. rw e (fit-by refl (λ z. (f.counts z, (f.certain z, f.owed z))) f);
      words_before = λ f. refl;
      origins_before = λ f. refl;
    }

-- what a refusal and an acceptance say of the program
pub does-got : {deep : Bool} {m k m1 k1 from : ℕ} {a b : Lent} {r s : Carried} {p : Program}
    → Does deep m k m1 k1 from a r p b s → Fit m k from a r → r.number ≡ 0 → s.number ≡ 0
    → p (form_of deep from a r) (reader_of a.names r) ≡ got (form_of deep from b s, reader_of b.names s)
does-got {deep = deep} {from = from} {a = a} {b = b} {r = r} {s = s} {p = p} x f z y =
    let e : piece_of deep from b s ≡ (piece_of deep from a r >>= λ x. p x.0 x.1) = x.reads f in sym (rw (piece-goes deep from b s y, piece-goes deep from a r z) at e)

-- a piece before which nothing is written has no words
pub form-none : (deep : Bool) (a : Lent) (r : Carried) → ((form_of deep r.written a r).words ≡ []) × ((form_of deep r.written a r).origins ≡ [])
unfolding form_of
form-none deep a r = (since_none a.words r, since_none a.origins r)

-- a piece has as many words as are written from there on, if the rows hold them
pub form-length : {m k from : ℕ} {a : Lent} {r : Carried} (deep : Bool)
    → Fit m k from a r → m ≤ 3 → r.number ≡ 0 → (from + length (form_of deep from a r).words ≡ r.written) × (from + length (form_of deep from a r).origins ≡ r.written)
unfolding form_of
form-length {from = from} {a = a} {r = r} deep f few z =
    let room : r.written ≤ 4100 = omega (arith, fit-room few f z) in
    (since-length from a.words r f.begins (omega (arith, f.words)), since-length from a.origins r f.begins (omega (arith, f.origins)))
