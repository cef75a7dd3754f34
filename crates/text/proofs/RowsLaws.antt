-- Rows of words and the reader beside them: what is written from a word on, and what an answer says of the reader. Assumes nothing.
use mathlib.Core.Path.{◌≡◌, refl, sym, ap, ◌∙◌}
use mathlib.Core.Bool.{Bool, true, false, not, cond, ◌&&◌}
use mathlib.Core.List.{List, [], ◌∷◌, ◌++◌}
use Prim.Native.Nat.{ℕ, zero, suc, ◌+◌, ◌-◌, ◌≤◌, ◌<◌}
use native.Mathlib.Omega.{arith}
use native.Mathlib.Decide.{ℕ_discrete, dec_lt}
use borrow.Author.Tests.{eq-eqb, ne_eqb, leb-true, lt-ltb}
use lib.Dec.{ltb, leb}
use lib.IntN.{ℤ}
use lib.ListN.{length, set, take, drop, length-set, length-drop}
use lib.Seq.{take-nil, take-add, take-take, drop-drop, drop-cons, length-take-le}
use Rattle.words.specs.Answer.{Answer, got, stop, ◌>>=◌}
use Rattle.words.proofs.AnswerLaws.{stop≢got, got-inj, step, tested}
use Rattle.tables.proofs.SearchLaws.{and_right, cases}
use Rattle.tables.specs.Sizes.{variables, labels}
use Rattle.program.specs.Forms.{most_words}
use Rattle.program.specs.Reading.{among}
use Rattle.tokens.specs.declared.Token.{Token}
use Rattle.tokens.specs.Codes.{name_code}
use Rattle.text.specs.Reading.{Fault, fault, Reader, Form, form, and_then, Named, peek, is, refusal, need, room_for, known, number_in, variable, label}
use Rattle.text.specs.Reading.{take as take_by}
use Rattle.text.specs.declared.Carried.{Carried}
use Rattle.text.specs.Told.{at_most, reader_of, reading_of, numbered_of, refused_by, Peeks, Follows}
use Rattle.text.specs.Written.{since, with1, wrote_one}
use Rattle.text.specs.declared.Lent.{Lent}
use Rattle.text.specs.Pieces.{lent, form_of, piece_of, Fit}
use Rattle.text.proofs.NamingLaws.{most-small, length-names, room-full}
use Rattle.text.proofs.ToldLaws.{goes_on, refused-written, refused-depth, refused-reads}
use Rattle.text.proofs.WrittenLaws.{drop-set, since-more}

-- ---- answers

pub bind_assoc : {E A B C : Type 0} (m : Answer E A) (f : A → Answer E B) (g : B → Answer E C) → (m >>= f >>= g) ≡ (m >>= λ x. f x >>= g)
bind_assoc (got a) f g = refl
bind_assoc (stop e) f g = refl

pub bind-got : {E A : Type 0} (m : Answer E A) → m ≡ (m >>= λ x. got x)
bind-got (got a) = refl
bind-got (stop e) = refl

-- a step beside a piece that it leaves
bind-beside : {A B C : Type 0} (m : Answer Fault A) (f : A → Answer Fault C) (g : C → A) (b : B)
    → ◌≡◌ {A = Answer Fault (B × A)} (m >>= f >>= λ v. got (b, g v)) (◌>>=◌ {B = B × A} (◌>>=◌ {B = B × A} m λ q. got (b, q)) λ x. f x.1 >>= λ v. got (x.0, g v))
bind-beside (got a) f g b = refl
bind-beside (stop e) f g b = refl

-- ---- a reader goes on, or is stopped

pub going {ℓ} : {X : Type ℓ} (r : Carried) → (r.number ≡ 0 → X) → ((r.number ≡ 0 → ⊥) → X) → X
going {X = X} r f g = go (ℕ_discrete r.number 0)
  where
    go : Dec (r.number ≡ 0) → X
    go (yes e) = f e
    go (no n) = g n

module _ (deep : Bool) (from : ℕ) (a : Lent) (r : Carried) where
  pub piece-goes : r.number ≡ 0 → piece_of deep from a r ≡ got (form_of deep from a r, reader_of a.names r)
  unfolding piece_of
  piece-goes z = rw (eq-eqb r.number 0 z)

  pub piece-stopped : (r.number ≡ 0 → ⊥) → piece_of deep from a r ≡ stop (fault r.number r.place)
  unfolding piece_of
  piece-stopped n = rw (ne_eqb r.number 0 n)

  piece-reads : piece_of deep from a r ≡ (reading_of a.names r >>= λ q. got (form_of deep from a r, q))
  unfolding piece_of reading_of
  piece-reads = going r (λ z. rw (eq-eqb r.number 0 z)) (λ n. rw (ne_eqb r.number 0 n))

  piece-numbered : piece_of deep from a r ≡ (numbered_of a.names r >>= λ y. got (form_of deep from a r, y.1))
  unfolding piece_of numbered_of
  piece-numbered = going r (λ z. rw (eq-eqb r.number 0 z)) (λ n. rw (ne_eqb r.number 0 n))

-- ---- rows that fit

pub fit-wider : {m n k from : ℕ} {a : Lent} {r : Carried} → n ≤ m → Fit n k from a r → Fit m k from a r
fit-wider h f =
    record {
      names = f.names;
      words = f.words;
      origins = f.origins;
      begins = f.begins;
      counts = f.counts;
      certain = f.certain;
      owed = λ z. omega (arith, f.owed z);
    }

-- the same rows, with another reader behind the same words
pub fit-by : {m l m1 l1 from : ℕ} {a : Lent} {r s : Carried} → s.written ≡ r.written
    → (s.number ≡ 0 → (s.written + l1 ≡ s.certain + s.owed) × ((s.certain ≤ most_words) × (s.owed ≤ m1))) → Fit m l from a r → Fit m1 l1 from a s
fit-by w h f =
    record {
      names = f.names;
      words = f.words;
      origins = f.origins;
      begins = omega (arith, f.begins, w);
      counts = λ z. (h z).0;
      certain = λ z. (h z).1.0;
      owed = λ z. (h z).1.1;
    }

-- there is room for the words that are lacking
pub fit-room : {m l from : ℕ} {a : Lent} {r : Carried} → m ≤ 3 → Fit m l from a r → r.number ≡ 0 → r.written + l < 4100
fit-room h f z = omega (arith, f.counts z, f.certain z, f.owed z)

pub fit-stops : {m l m1 l1 from : ℕ} {a : Lent} {r s : Carried} → s.written ≡ r.written → (s.number ≡ 0 → ⊥) → Fit m l from a r → Fit m1 l1 from a s
fit-stops w n f = fit-by w (λ z. absurd (n z)) f

-- ---- a step that leaves what is written

pub form-same : (deep : Bool) (from : ℕ) (a : Lent) (r s : Carried) → s.written ≡ r.written → s.depth ≡ r.depth → form_of deep from a s ≡ form_of deep from a r
unfolding form_of since
form-same deep from a r s e d = rw (e, d)

pub flat-same : (from : ℕ) (a : Lent) (r s : Carried) → s.written ≡ r.written → form_of false from a s ≡ form_of false from a r
unfolding form_of since
flat-same from a r s e = rw e

pub follows-piece : {step : Reader → Answer Fault Reader} (deep : Bool) (from : ℕ) (a : Lent) {r s : Carried} → Follows r step s
    → piece_of deep from a s ≡ (piece_of deep from a r >>= λ x. step x.1 >>= λ v. got (x.0, v))
follows-piece {step = by} deep from a {r = r} {s = s} f =
    rw (piece-reads deep from a s, piece-reads deep from a r, form-same deep from a r s f.written f.depth, f.reads a.names)
    (bind-beside (reading_of a.names r) by (λ v. v) (form_of deep from a r))

-- where the reader goes on behind a step, the step answered it
pub follows-got : {step : Reader → Answer Fault Reader} (names : List ℕ) {r s : Carried} → Follows r step s → s.number ≡ 0
    → (r.number ≡ 0) × (step (reader_of names r) ≡ got (reader_of names s))
unfolding reading_of
follows-got {step = by} names {r = r} {s = s} f z =
    let e : (reading_of names r >>= by) ≡ got (reader_of names s) = sym (f.reads names) ∙ rw (eq-eqb s.number 0 z) in
    going r (λ y. (y, rw (eq-eqb r.number 0 y) at e)) (λ n. stop≢got {a = reader_of names s} (rw (ne_eqb r.number 0 n) at e))

-- the same of a step that reads a number
module _ (before after : List ℕ) (r s : Carried) (by : Reader → Answer Fault (ℕ × Reader)) (e : numbered_of after s ≡ (reading_of before r >>= by)) where
  pub numbered-got : s.number ≡ 0 → (r.number ≡ 0) × (by (reader_of before r) ≡ got (s.named, reader_of after s))
  unfolding reading_of numbered_of
  numbered-got z =
      let d : (reading_of before r >>= by) ≡ got (s.named, reader_of after s) = sym e ∙ rw (eq-eqb s.number 0 z) in
      going r (λ y. (y, rw (eq-eqb r.number 0 y) at d)) (λ n. stop≢got (rw (ne_eqb r.number 0 n) at d))

  pub numbered-stopped : (s.number ≡ 0 → ⊥) → r.number ≡ 0 → by (reader_of before r) ≡ stop (fault s.number s.place)
  unfolding reading_of numbered_of
  numbered-stopped n z = let d : (reading_of before r >>= by) ≡ stop (fault s.number s.place) = sym e ∙ rw (ne_eqb s.number 0 n) in rw (eq-eqb r.number 0 z) at d

  pub numbered-piece : (deep : Bool) (from : ℕ) (ws : List ℤ) (os : List ℕ) → form_of deep from (lent after ws os) s ≡ form_of deep from (lent before ws os) r
      → piece_of deep from (lent after ws os) s ≡ (piece_of deep from (lent before ws os) r >>= λ x. by x.1 >>= λ y. got (x.0, y.1))
  numbered-piece deep from ws os f =
      rw (piece-numbered deep from (lent after ws os) s, e, f, piece-reads deep from (lent before ws os) r)
      (bind-beside (reading_of before r) by (λ y. y.1) (form_of deep from (lent before ws os) r))

-- ---- words that a token makes certain

pub record Counted (k : ℕ) (q v : Reader) : Type 0 where
  pub certain : v.certain ≡ q.certain + q.owed + k
  pub few : v.certain ≤ most_words
  pub owed : v.owed ≡ 0

counted-by : {k : ℕ} {q v w : Reader} → w ≡ v → Counted k q w → Counted k q v
counted-by e c = rw (← e) c

-- whatever its names are
counted-names : {k : ℕ} {q v : Reader} {at last : ℕ} {passed : Bool} {variables labels : List Named} → Counted k q v
    → Counted k q (record { at = at; last = last; certain = v.certain; owed = 0; passed = passed; variables = variables; labels = labels })
counted-names c = record { certain = c.certain; few = c.few; owed = refl }

module _ (text : List ℕ) where
  pub take_counted : (k : ℕ) (q v : Reader) → take_by text k q ≡ got v → Counted k q v
  unfolding take_by
  take_counted k q v e =
      tested (fault 22 (peek text q).place) (not q.passed && leb (q.certain + q.owed + k) most_words) _ e λ room one.
      counted-by (got-inj one) (record { certain = refl; few = leb-true (q.certain + q.owed + k) 4096 (and_right (not q.passed) _ room); owed = refl })

  pub need-counted : (c k : ℕ) (q v : Reader) → need text c k q ≡ got v → Counted k q v
  unfolding need
  need-counted c k q v e = tested (refusal text (peek text q)) (is text q c) (take_by text k q) e λ there one. take_counted k q v one

pub fit-counted : {m l from : ℕ} {a : Lent} {r s : Carried} (before after : List ℕ) (k : ℕ) → s.written ≡ r.written
    → (s.number ≡ 0 → (r.number ≡ 0) × Counted k (reader_of before r) (reader_of after s)) → Fit m l from a r → Fit 0 (l + k) from a s
unfolding reader_of
fit-counted before after k w h f = fit-by w (λ z. (omega (arith, w, f.counts (h z).0, (h z).1.certain, (h z).1.owed), ((h z).1.few, omega (arith, (h z).1.owed)))) f

pub fit-names : {m l from : ℕ} {before after : List ℕ} {ws : List ℤ} {os : List ℕ} {r : Carried} → length after ≡ length before
    → Fit m l from (lent before ws os) r → Fit m l from (lent after ws os) r
fit-names e f =
    record {
      names = omega (arith, e, f.names);
      words = f.words;
      origins = f.origins;
      begins = f.begins;
      counts = f.counts;
      certain = f.certain;
      owed = f.owed;
    }

pub refused-follows : (text : List ℕ) {t : Token} {r s : Carried} → r.number ≡ 0 → Peeks text r t → s ≡ refused_by t r → Follows r (λ q. stop (refusal text (peek text q))) s
refused-follows text {t = t} {r = r} z p is =
    record { reads = λ names. rw (is, goes_on r z names, ← p names) (refused-reads text names t r); written = rw is (refused-written t r); depth = rw is (refused-depth t r) }

-- ---- names

-- the number of a name for which there is room
number_small : (text : List ℕ) (most : ℕ) (ns : List Named) (t : Token) → room_for text most ns t ≡ true → length ns ≤ most → number_in text ns t < most
number_small text most ns t room h = go (dec_lt (number_in text ns t) most)
  where
    go : Dec (number_in text ns t < most) → number_in text ns t < most
    go (yes l) = l
    go (no n) = let e : ◌≡◌ {A = Bool} true false = sym room ∙ room-full text ns t refl {most = most} (omega arith) h in let y : ◌≡◌ {A = ℕ} 1 0 = ap (λ b. cond b 1 0) e in absurd (omega arith)

module _ (text : List ℕ) (q v : Reader) (n : ℕ) where
  pub variable-counted : (k : ℕ) → variable text k q ≡ got (n, v) → length q.variables ≤ 64 → Counted k q v × (n < 64)
  unfolding variable
  variable-counted k e few =
      tested (refusal text (peek text q)) (is text q name_code) _ e λ there one.
      tested (fault 21 (peek text q).place) (room_for text variables q.variables (peek text q)) _ one λ room two.
      step (take_by text k q) _ two λ s took three.
      let a : number_in text q.variables (peek text q) ≡ n = ap (λ x. x.0) (got-inj three) in
      (counted-by (ap (λ x. x.1) (got-inj three)) (counted-names (take_counted text k q s took)), omega (arith, a, number_small text 64 q.variables (peek text q) room few))

  pub label-counted : (seen : List ℕ) → label text seen q ≡ got (n, v) → length q.labels ≤ 32 → Counted 1 q v × (n < 32)
  unfolding label
  label-counted seen e few =
      tested (refusal text (peek text q)) (is text q name_code && not (known text q.labels (peek text q) && among (number_in text q.labels (peek text q)) seen)) _ e λ there one.
      tested (fault 21 (peek text q).place) (room_for text labels q.labels (peek text q)) _ one λ room two.
      step (take_by text 1 q) _ two λ s took three.
      let a : number_in text q.labels (peek text q) ≡ n = ap (λ x. x.0) (got-inj three) in
      (counted-by (ap (λ x. x.1) (got-inj three)) (counted-names (take_counted text 1 q s took)), omega (arith, a, number_small text 32 q.labels (peek text q) room few))

pub few_variables : (names : List ℕ) (r : Carried) → length (reader_of names r).variables ≤ 64
unfolding reader_of
few_variables names r = omega (arith, length-names names 0 (at_most 64 r.variables), most-small 64 r.variables)

pub few_labels : (names : List ℕ) (r : Carried) → length (reader_of names r).labels ≤ 32
unfolding reader_of
few_labels names r = omega (arith, length-names names 128 (at_most 32 r.labels), most-small 32 r.labels)

-- ---- a word more

module _ (r : Carried) where
  pub wrote-number : (wrote_one r).number ≡ r.number
  unfolding wrote_one
  wrote-number = cases (ltb r.written 4100) (λ e. rw e) (λ e. rw e)

  wrote-place : (wrote_one r).place ≡ r.place
  unfolding wrote_one
  wrote-place = cases (ltb r.written 4100) (λ e. rw e) (λ e. rw e)

  wrote-depth : (wrote_one r).depth ≡ r.depth
  unfolding wrote_one
  wrote-depth = cases (ltb r.written 4100) (λ e. rw e) (λ e. rw e)

  pub wrote-reader : (names : List ℕ) → reader_of names (wrote_one r) ≡ reader_of names r
  unfolding wrote_one reader_of
  wrote-reader names = cases (ltb r.written 4100) (λ e. rw e) (λ e. rw e)

  pub wrote-begins : r.written ≤ (wrote_one r).written
  unfolding wrote_one
  wrote-begins = cases (ltb r.written 4100) (λ e. rw e (omega arith)) (λ e. rw e (omega arith))

  pub wrote-more : {s : Carried} → s ≡ wrote_one r → r.written < 4100 → s.written ≡ r.written + 1
  unfolding wrote_one
  wrote-more e h = rw (e, lt-ltb r.written 4100 h)

length-with : {A : Type 0} (ws : List A) (r : Carried) (w : A) → length (with1 ws r w) ≡ length ws
unfolding with1
length-with ws r w = cases (ltb r.written 4100) (λ e. rw e (length-set ws r.written w)) (λ e. rw e)

module _ (from : ℕ) (names : List ℕ) (ws vs : List ℤ) (os us : List ℕ) (r s : Carried) (w : ℤ) (p : ℕ) (v : vs ≡ with1 ws r w) (u : us ≡ with1 os r p) (e : s ≡ wrote_one r) where
  number_is : s.number ≡ r.number
  number_is = rw e (wrote-number r)

  reader-is : reader_of names s ≡ reader_of names r
  reader-is = rw e (wrote-reader r names)

  written-form : (deep : Bool) → from ≤ r.written → r.written < 4100 → 4100 ≤ length ws → 4100 ≤ length os
      → form_of deep from (lent names vs us) s ≡ record {
        words = (form_of deep from (lent names ws os) r).words ++ w ∷ [];
        origins = (form_of deep from (lent names ws os) r).origins ++ p ∷ [];
        depth = (form_of deep from (lent names ws os) r).depth;
      }
  unfolding form_of
  written-form deep h room a b = rw (v, u, e, since-more from ws r w h room (omega arith), since-more from os r p h room (omega arith), wrote-depth r)

  module _ {m l : ℕ} (few : m ≤ 3) (f : Fit m (suc l) from (lent names ws os) r) where
    pub written-piece : (deep : Bool) → piece_of deep from (lent names vs us) s
        ≡ (piece_of deep from (lent names ws os) r >>= λ x. got (record { words = x.0.words ++ w ∷ []; origins = x.0.origins ++ p ∷ []; depth = x.0.depth }, x.1))
    written-piece deep =
        going r
        (λ z. rw (
          piece-goes deep from (lent names vs us) s (number_is ∙ z),
          piece-goes deep from (lent names ws os) r z,
          written-form deep f.begins (omega (arith, fit-room few f z)) f.words f.origins,
          reader-is,
        ))
        (λ n. rw (piece-stopped deep from (lent names vs us) s (λ z. n (sym number_is ∙ z)), piece-stopped deep from (lent names ws os) r n, e, wrote-number r, wrote-place r))

    pub written-fit : Fit m l from (lent names vs us) s
    unfolding reader_of
    written-fit =
        let c : (wrote_one r).certain ≡ r.certain = ap (λ q. q.certain) (wrote-reader r names) in
        let o : (wrote_one r).owed ≡ r.owed = ap (λ q. q.owed) (wrote-reader r names) in
        let n : (wrote_one r).number ≡ r.number = wrote-number r in
        rw e (record {
          names = f.names;
          words = rw v (omega (arith, length-with ws r w, f.words));
          origins = rw u (omega (arith, length-with os r p, f.origins));
          begins = omega (arith, f.begins, wrote-begins r);
          counts = λ z. omega (arith, wrote-more r refl (omega (arith, fit-room few f (sym n ∙ z))), f.counts (sym n ∙ z));
          certain = λ z. omega (arith, f.certain (sym n ∙ z));
          owed = λ z. omega (arith, f.owed (sym n ∙ z));
        })

-- ---- what is written from a word on, and from a later one

module _ {A : Type 0} where
  drop-take : (from k : ℕ) (ws : List A) → from ≤ k → drop from (take k ws) ≡ take (k - from) (drop from ws)
  drop-take zero k ws h = let y : k - 0 ≡ k = omega arith in rw y
  drop-take (suc from) k [] h = rw (take-nil {A = A} k, take-nil {A = A} (k - suc from))
  drop-take (suc from) zero (w ∷ ws) h = let z : ⊥ = omega arith in absurd z
  drop-take (suc from) (suc k) (w ∷ ws) h = let y : suc k - suc from ≡ k - from = omega arith in rw y (drop-take from k ws (omega arith))

  pub since-behind : (from k : ℕ) (ws vs : List A) (s : Carried) → from ≤ k → k ≤ s.written → take k vs ≡ take k ws → since from vs s ≡ take (k - from) (drop from ws) ++ since k vs s
  unfolding since
  since-behind from k ws vs s h g e =
      let n : s.written - from ≡ (k - from) + (s.written - k) = omega arith in
      let y : from + (k - from) ≡ k = omega arith in
      let d : take (k - from) (drop from vs) ≡ take (k - from) (drop from ws) = sym (drop-take from k vs h) ∙ rw e (drop-take from k ws h) in
      rw (n, take-add (k - from) (s.written - k) (drop from vs), drop-drop (k - from) from vs, y, d)

  pub since-later : (from j : ℕ) (ws : List A) (r : Carried) → from + j ≤ r.written → since (from + j) ws r ≡ drop j (since from ws r)
  unfolding since
  since-later from j ws r h =
      let y : r.written - (from + j) ≡ r.written - from - j = omega arith in
      rw (drop-take j (r.written - from) (drop from ws) (omega arith), drop-drop j from ws, y)

  pub since-first : (from j : ℕ) (ws : List A) (r : Carried) → from + j ≤ r.written → take (from + j - from) (drop from ws) ≡ take j (since from ws r)
  unfolding since
  since-first from j ws r h = let y : from + j - from ≡ j = omega arith in rw (y, take-take j (r.written - from) (drop from ws) (omega arith))

  pub since_none : (ws : List A) (r : Carried) → since r.written ws r ≡ []
  unfolding since
  since_none ws r = let y : r.written - r.written ≡ 0 = omega arith in rw y

  pub since-length : (from : ℕ) (ws : List A) (r : Carried) → from ≤ r.written → r.written ≤ length ws → from + length (since from ws r) ≡ r.written
  unfolding since
  since-length from ws r h g = omega (arith, length-take-le (r.written - from) (drop from ws) (rw length-drop (omega arith)))

  pub since-set : (from : ℕ) (ws : List A) (r : Carried) (w : A) → from < r.written → from < length ws → since from (set ws from w) r ≡ w ∷ drop 1 (since from ws r)
  unfolding since
  since-set from ws r w h g =
      let y : r.written - from ≡ suc (r.written - suc from) = omega arith in
      let z : from - from ≡ 0 = omega arith in
      rw (y, drop-set ws from from w (omega arith), z, drop-cons ws from w g)

  pub before-less : (from k : ℕ) (ws vs : List A) → from ≤ k → take k vs ≡ take k ws → take from vs ≡ take from ws
  before-less from k ws vs h e = sym (take-take from k vs h) ∙ rw e (take-take from k ws h)

-- the same reader behind another piece
pub piece-other : (deep deep' : Bool) (from from' : ℕ) (a : Lent) (s : Carried) (by : Form → Form) → (s.number ≡ 0 → form_of deep from a s ≡ by (form_of deep' from' a s))
    → piece_of deep from a s ≡ (piece_of deep' from' a s >>= λ x. got (by x.0, x.1))
piece-other deep deep' from from' a s by e =
    going s (λ z. rw (piece-goes deep from a s z, piece-goes deep' from' a s z, e z)) (λ n. rw (piece-stopped deep from a s n, piece-stopped deep' from' a s n))

module _ (from : ℕ) (a b : Lent) (r s : Carried) where
  pub form-behind : from ≤ r.written → r.written ≤ s.written → take r.written b.words ≡ take r.written a.words → take r.written b.origins ≡ take r.written a.origins
      → form_of false from b s ≡ and_then (form_of false from a r) (form_of false r.written b s)
  unfolding form_of since
  form-behind h g e d = rw (since-behind from r.written a.words b.words s h g e, since-behind from r.written a.origins b.origins s h g d)

  pub form-first : (j : ℕ) → from + j ≤ r.written → from + j ≤ s.written → take (from + j) b.words ≡ take (from + j) a.words → take (from + j) b.origins ≡ take (from + j) a.origins
      → form_of false from b s ≡ and_then (form (take j (form_of false from a r).words) (take j (form_of false from a r).origins)) (form_of false (from + j) b s)
  unfolding form_of
  form-first j h g e d =
      rw (
        since-behind from (from + j) a.words b.words s (omega arith) g e,
        since-behind from (from + j) a.origins b.origins s (omega arith) g d,
        since-first from j a.words r h,
        since-first from j a.origins r h,
      )

pub form-later : (from j : ℕ) (a : Lent) (r : Carried) → from + j ≤ r.written
    → form_of false (from + j) a r ≡ form (drop j (form_of false from a r).words) (drop j (form_of false from a r).origins)
unfolding form_of
form-later from j a r h = rw (since-later from j a.words r h, since-later from j a.origins r h)

-- rows that fit from a word on fit from another, which is written
pub fit-from : {m l from : ℕ} {a : Lent} {r : Carried} (k : ℕ) → k ≤ r.written → Fit m l from a r → Fit m l k a r
fit-from k h f =
    record {
      names = f.names;
      words = f.words;
      origins = f.origins;
      begins = h;
      counts = f.counts;
      certain = f.certain;
      owed = f.owed;
    }

pub fit-here : {m l from : ℕ} {a : Lent} {r : Carried} → Fit m l from a r → Fit m l r.written a r
fit-here {r = r} f = fit-from r.written (omega arith) f
