-- The call on a text leaves what the definitions say. Assumes nothing.
use mathlib.Core.Path.{◌≡◌, refl, sym, ap, ◌∙◌}
use mathlib.Core.Bool.{true, false, ◌&&◌}
use mathlib.Core.List.{List, [], ◌∷◌, ◌++◌}
use Prim.Native.Nat.{ℕ, ◌-◌, ◌*◌, ◌≤◌, ◌<◌}
use native.Mathlib.Omega.{arith}
use native.Mathlib.Decide.{dec_lt}
use borrow.Author.Tests.{eq-eqb, ne_eqb, eqb-true}
use lib.Dec.{eqb}
use lib.IntN.{ℤ}
use lib.ListN.{length, take, drop}
use lib.Seq.{length-take-le, take_all}
use Rattle.words.specs.Answer.{got, stop}
use Rattle.words.specs.Words.{word_of, copied, cleared}
use Rattle.tables.proofs.SearchLaws.{and_left, and_right}
use Rattle.text.specs.Reading.{fault, text_at}
use Rattle.text.specs.declared.Carried.{Carried}
use Rattle.text.specs.Told.{at_most, reader_of}
use Rattle.text.specs.Written.{since}
use Rattle.text.specs.declared.Lent.{Lent}
use Rattle.text.specs.Pieces.{lent, form_of, piece_of}
use Rattle.text.specs.Whole.{answered, sized, read, told_from}
use Rattle.text.proofs.AcceptedSound.{accepted-sound}
use Rattle.text.proofs.NamingLaws.{most-small, most-is, length-names}
use Rattle.text.proofs.ToldNames.{copied-over, told_over, names-told}

pub most-of : (most x : ℕ) {n : ℕ} → n ≡ at_most most x → n ≤ most
most-of most x e = rw e (most-small most x)

-- what is written from the first word on
module _ {A : Type 0} (ws : List A) (s : Carried) where
  since-first : {n : ℕ} → n ≡ s.written → since 0 ws s ≡ take n ws
  unfolding since
  since-first e = let y : s.written - 0 ≡ s.written = omega arith in rw (y, e)

  since-short : 4096 < length ws → length (since 0 ws s) ≤ 4096 → s.written ≤ 4096
  since-short h l = let e : length (take s.written ws) ≤ 4096 = rw (since-first refl) at l in go e (dec_lt (length ws) s.written)
    where
      go : length (take s.written ws) ≤ 4096 → Dec (length ws < s.written) → s.written ≤ 4096
      go e (yes y) = let z : length (take s.written ws) ≡ length ws = ap length (take_all s.written ws (omega arith)) in absurd (let q : ⊥ = omega arith in q)
      go e (no f) = let z : length (take s.written ws) ≡ s.written = length-take-le s.written ws (omega arith) in omega arith

module _ (text : List ℕ) (program origins names : List ℤ) where
  pub unsized : {answer : List ℤ} → sized program origins names ≡ false → answer ≡ word_of 1 ∷ word_of 0 ∷ word_of 0 ∷ word_of 0 ∷ []
      → answered program origins names answer 0 ≡ read text program origins names
  unfolding read
  unsized z a = rw (z, a)

  module _ (fits : sized program origins names ≡ true) where
    pub stops : (b : Lent) (s : Carried) {answer : List ℤ} → piece_of false 0 b s ≡ text_at text → (s.number ≡ 0 → ⊥)
        → answer ≡ word_of s.number ∷ word_of s.place ∷ word_of 0 ∷ word_of 0 ∷ []
        → answered program origins names answer 0 ≡ read text program origins names
    unfolding read piece_of
    stops b s e h a = let z : stop (fault s.number s.place) ≡ text_at text = rw (ne_eqb s.number 0 h) at e in rw (fits, ← z, a)

    module _ (table places : List ℕ) (row : List ℤ) (s : Carried) (e : piece_of false 0 (lent table row places) s ≡ text_at text) (on : s.number ≡ 0) (long : length row ≡ 4100) where
      whole : got (form_of false 0 (lent table row places) s, reader_of table s) ≡ text_at text
      unfolding piece_of
      whole = rw (eq-eqb s.number 0 on) at e

      few : s.written ≤ 4096
      unfolding form_of reader_of
      few = since-short row s (rw long (omega arith)) (accepted-sound text (form_of false 0 (lent table row places) s) (reader_of table s) (sym whole)).limits.short

      pub accepts : {n v l : ℕ} {words told named answer : List ℤ}
          → length places ≡ 4100
          → n ≡ at_most 4096 s.written → v ≡ at_most 64 s.variables → l ≡ at_most 32 s.labels
          → words ≡ copied row 0 n program → told ≡ told_from places 0 n origins → named ≡ told_from table 128 (2 * l) (told_from table 0 (2 * v) (cleared 0 192 names))
          → answer ≡ word_of 0 ∷ word_of (length text) ∷ word_of v ∷ word_of l ∷ []
          → answered words told named answer n ≡ read text program origins names
      unfolding read sized form_of reader_of
      accepts {n = n} {v = v} {l = l} long-places n-is v-is l-is w t m a =
          let n-written : n ≡ s.written = n-is ∙ most-is 4096 s.written few in
          let sizes : eqb (length program) 4096 && eqb (length origins) 4096 ≡ true = and_left (eqb (length program) 4096 && eqb (length origins) 4096) (eqb (length names) 192) fits in
          let p : length program ≡ 4096 = eqb-true (length program) 4096 (and_left (eqb (length program) 4096) (eqb (length origins) 4096) sizes) in
          let o : length origins ≡ 4096 = eqb-true (length origins) 4096 (and_right (eqb (length program) 4096) (eqb (length origins) 4096) sizes) in
          let k : length names ≡ 192 = eqb-true (length names) 192 (and_right (eqb (length program) 4096 && eqb (length origins) 4096) (eqb (length names) 192) fits) in
          let in_row : n ≤ length row = omega (arith, few) in
          let v-few : v ≤ 64 = rw v-is (most-small 64 s.variables) in
          let l-few : l ≤ 32 = rw l-is (most-small 32 s.labels) in
          let words_are : copied row 0 n program ≡ take n row ++ drop n program =
          copied-over row program n in_row (omega (arith, few)) ∙ ap (λ j. take n row ++ drop j program) (length-take-le n row in_row) in
          let places-are = told_over places origins n (omega (arith, few)) (omega (arith, few)) in
          rw (fits, ← whole, since-first row s n-written, since-first places s n-written, ← v-is, ← l-is, length-names table 0 v, length-names table 128 l, length-take-le n row in_row)
          (rw (w ∙ words_are, t ∙ places-are, m ∙ names-told table v l names v-few l-few k, a))
