-- A text that is measured has its length, one that is written where it fits stands whole, and what the call answers follows. Assumes nothing.
use mathlib.Core.Path.{◌≡◌, refl, sym, ap, ◌∙◌}
use mathlib.Core.Bool.{Bool, true, false, cond, ◌&&◌}
use mathlib.Core.List.{List, [], ◌∷◌, ◌++◌, append_assoc}
use Prim.Native.Nat.{ℕ, suc, ◌+◌, ◌≤◌, ◌<◌}
use native.Mathlib.Omega.{arith}
use borrow.Author.Tests.{eq-eqb, ne_eqb, lt-ltb, le-ltb, ltb-true, ltb-false, lt-leb, leb-true}
use lib.Dec.{ltb, leb}
use lib.IntN.{ℤ}
use lib.ListN.{length, drop, set, replicate, length-append}
use lib.Seq.{set-append_seam}
use Rattle.std.specs.Prelude.{Option, Some, None, Ok, Err}
use Rattle.words.specs.Answer.{Answer, got, stop}
use Rattle.words.specs.Words.{word_of}
use Rattle.words.proofs.Laws.{word-is, word-greatest}
use Rattle.tables.proofs.SearchLaws.{cases, and_left, and_right}
use Rattle.program.specs.Told.{verdict_of}
use Rattle.program.specs.Reading.{read_program}
use Rattle.tokens.specs.Tokens.{most_bytes}
use Rattle.printing.specs.Printing.{statements_text, program_text}
use Rattle.printing.specs.Naming.{Naming, naming, naming_of, ranks, bytes_of, numbers_of, noted_all}
use Rattle.printing.specs.Faults.{fault_from, used_from, found}
use Rattle.printing.specs.Page.{Ink, ink, far, byte_on, onto, Wrote}
use Rattle.printing.specs.declared.page.Page.{Page}
use Rattle.printing.specs.Whole.{answered, text_of, standings, first_fault, fits_in, refused, accepted, printed, write}
use Rattle.printing.proofs.StandingLaws.{all-length}

-- the length that is told
abbrev pub counted : ℕ → ℕ
counted n = cond (ltb far n) far n

-- ---- the count

next-most : (n : ℕ) → n ≤ far → cond (ltb n far) (suc n) n ≤ far
next-most n h = cases (ltb n far) (λ e. rw e (omega (arith, ltb-true n far e))) (λ e. rw e h)

counted_next : (n k : ℕ) → counted (cond (ltb n far) (suc n) n + k) ≡ counted (n + suc k)
counted_next n k =
    cases (ltb n far)
    (λ e. let z : suc n + k ≡ n + suc k = omega arith in rw (e, z))
    (λ e. let h : far ≤ n = ltb-false n far e in rw e (last h (ltb far (n + k)) refl))
  where
    last : far ≤ n → (b : Bool) → ltb far (n + k) ≡ b → cond (ltb far (n + k)) far (n + k) ≡ cond (ltb far (n + suc k)) far (n + suc k)
    last h true e = rw (e, lt-ltb far (n + suc k) (omega arith))
    last h false e = let q : n + k ≡ far = omega (arith, ltb-false far (n + k) e) in rw (e, lt-ltb far (n + suc k) (omega arith)) q

pub measured : (t s : List ℕ) (n : ℕ) → n ≤ far → (onto (ink s n) t).at ≡ counted (n + length t)
unfolding onto byte_on
measured [] s n h = let z : n + 0 ≡ n = omega arith in rw (z, le-ltb far n h)
measured (b ∷ t) s n h = measured t (set s n b) (cond (ltb n far) (suc n) n) (next-most n h) ∙ counted_next n (length t)

-- ---- the bytes

byte-behind : (a s : List ℕ) (y b : ℕ) → length a < far → byte_on (ink (a ++ y ∷ s) (length a)) b ≡ ink ((a ++ b ∷ []) ++ s) (length (a ++ b ∷ []))
unfolding byte_on
byte-behind a s y b h =
    let one : length (a ++ b ∷ []) ≡ suc (length a) = length-append a (b ∷ []) ∙ (let z : length a + 1 ≡ suc (length a) = omega arith in z) in
    rw (lt-ltb (length a) far h, set-append_seam a y s b, one, append_assoc a (b ∷ []) s)

behind : (a t s : List ℕ) → length t ≤ length s → length a + length t ≤ far → (onto (ink (a ++ s) (length a)) t).bytes ≡ a ++ (t ++ drop (length t) s)
unfolding onto
behind a [] s h l = refl
behind a (b ∷ t) [] h l = let z : ⊥ = omega arith in absurd z
behind a (b ∷ t) (y ∷ s) h l =
    let k : length (a ++ b ∷ []) + length t ≤ far = rw (length-append a (b ∷ [])) (omega arith) in
    ap (λ (x : Ink). (onto x t).bytes) (byte-behind a s y b (omega arith))
    ∙ behind (a ++ b ∷ []) t s (omega arith) k
    ∙ append_assoc a (b ∷ []) (t ++ drop (length t) s)

pub stands-whole : (t s : List ℕ) → length t ≤ length s → length t ≤ far → (onto (ink s 0) t).bytes ≡ t ++ drop (length t) s
stands-whole t s h l = behind [] t s h (omega arith)

-- ---- what is told of the length

pub counted-small : (n : ℕ) → n ≤ far → counted n ≡ n
counted-small n h = rw (le-ltb far n h)

pub counted-word : (n : ℕ) → word_of (counted n) ≡ word_of n
counted-word n =
    cases (ltb far n)
    (λ e. let h : 2147483648 ≤ n = omega (arith, ltb-true far n e) in rw e (word-is far (omega arith) ∙ sym (word-greatest n h)))
    (λ e. rw e)

and_no : (b : Bool) → (b && false) ≡ false
and_no true = refl
and_no false = refl

pub counted-fits : (room n : ℕ) → fits_in room (counted n) ≡ fits_in room n
counted-fits room n =
    cases (ltb far n)
    (λ e. let h : far < n = ltb-true far n e in rw (e, lt-leb far most_bytes (omega arith), lt-leb n most_bytes (omega arith)) (and_no (leb far room) ∙ sym (and_no (leb n room))))
    (λ e. rw e)

pub fits-small : (room n : ℕ) → fits_in room n ≡ true → (n ≤ room) × (n ≤ most_bytes)
fits-small room n e = (leb-true n room (and_left (leb n room) (leb n most_bytes) e), leb-true n most_bytes (and_right (leb n room) (leb n most_bytes) e))

-- ---- a number that is found, and none

found-some : (i : ℕ) {f : ℕ} → found i ≡ Some f → (i ≡ f) × (f < 96)
found-some i e = cases (ltb i 96) (λ a. let z = rw a at e in let y : i ≡ _ = cc in (y, rw y at (ltb-true i 96 a))) (λ a. let z = rw a at e in absurd cc)

found-none : (i : ℕ) → found i ≡ None → 96 ≤ i
found-none i e = cases (ltb i 96) (λ a. let z = rw a at e in absurd cc) (λ a. ltb-false i 96 a)

-- ---- what the call answers

module _ {start page : Page} {N : Naming} (p : List ℤ) (of : naming_of start.names ≡ N) (none : start.at ≡ 0) (unused : ranks start.seen ≡ replicate 96 0) (w : Wrote start (statements_text 7 p).0 page) where
  pub seen-is : ranks page.seen ≡ standings p
  unfolding standings program_text
  seen-is = w.seen ∙ ap (λ (s : List ℕ). noted_all s (numbers_of (statements_text 7 p).0)) unused

  pub seen-length : 96 ≡ length (ranks page.seen)
  seen-length = sym (ap length (w.seen ∙ ap (λ (s : List ℕ). noted_all s (numbers_of (statements_text 7 p).0)) unused) ∙ all-length (replicate 96 0) (numbers_of (statements_text 7 p).0))

  pub count-is : page.at ≡ counted (length (text_of N p))
  unfolding text_of program_text
  count-is =
      let t = bytes_of N (statements_text 7 p).0 in
      let z : 0 + length t ≡ length t = omega arith in
      ap (λ (i : Ink). i.at) (rw (of, none) at w.ink) ∙ measured t start.out.now 0 (omega arith) ∙ rw z

  module _ (text : List ℕ) {o : Option ℕ} (e : o ≡ found (fault_from N (ranks page.seen) 0 96)) where
    fault-is : o ≡ found (first_fault N p)
    unfolding first_fault
    fault-is = e ∙ ap (λ (s : List ℕ). found (fault_from N s 0 96)) seen-is

    pub fault-answers : {f : ℕ} {answer : List ℤ} → o ≡ Some f → answer ≡ word_of 24 ∷ word_of f ∷ word_of 0 ∷ word_of 0 ∷ [] → answered text answer 0 ≡ printed N p text
    unfolding printed
    fault-answers h a =
        let z = found-some (first_fault N p) (sym fault-is ∙ h) in
        rw (z.0, lt-ltb _ 96 z.1, a)

    -- where no number is at fault the length decides
    chosen-long : o ≡ None → fits_in (length text) (length (text_of N p)) ≡ false → printed N p text ≡ refused text 25 (length (text_of N p))
    unfolding printed
    chosen-long g q = rw (le-ltb _ 96 (found-none (first_fault N p) (sym fault-is ∙ g)), q)

    chosen-whole : o ≡ None → fits_in (length text) (length (text_of N p)) ≡ true → printed N p text ≡ accepted (text_of N p) p text
    unfolding printed
    chosen-whole g q = rw (le-ltb _ 96 (found-none (first_fault N p) (sym fault-is ∙ g)), q)

    text-stands : length (text_of N p) ≤ length text → length (text_of N p) ≤ most_bytes → (onto (ink text 0) (text_of N p)).bytes ≡ text_of N p ++ drop (length (text_of N p)) text
    text-stands h l = stands-whole (text_of N p) text h (omega arith)

    after_is : {before after : Page} → naming_of before.names ≡ N → before.at ≡ 0 → before.out.now ≡ text → Wrote before (statements_text 7 p).0 after → after.out.now ≡ (onto (ink text 0) (text_of N p)).bytes
    unfolding text_of program_text
    after_is m z t v = ap (λ (i : Ink). i.bytes) (rw (m, z, t) at v.ink)

    module _ (g : o ≡ None) {n : ℕ} (k : n ≡ counted (length (text_of N p))) where
      pub long-answers : {answer : List ℤ} → fits_in (length text) n ≡ false → answer ≡ word_of 25 ∷ word_of n ∷ word_of 0 ∷ word_of 0 ∷ [] → answered text answer 0 ≡ printed N p text
      long-answers h a =
          let q : fits_in (length text) (length (text_of N p)) ≡ false = sym (counted-fits (length text) (length (text_of N p))) ∙ rw k at h in
          rw (chosen-long g q, a, k, counted-word (length (text_of N p)))

      pub whole-answers : {answer : List ℤ} {before after : Page} {variables labels : ℕ} → fits_in (length text) n ≡ true → naming_of before.names ≡ N → before.at ≡ 0 → before.out.now ≡ text
          → Wrote before (statements_text 7 p).0 after → variables ≡ used_from (ranks page.seen) 0 64 → labels ≡ used_from (ranks page.seen) 64 32
          → answer ≡ word_of 0 ∷ word_of (length p) ∷ word_of variables ∷ word_of labels ∷ [] → answered after.out.now answer n ≡ printed N p text
      whole-answers h m' z t v x y a =
          let q : fits_in (length text) (length (text_of N p)) ≡ true = sym (counted-fits (length text) (length (text_of N p))) ∙ rw k at h in
          let b = fits-small (length text) (length (text_of N p)) q in
          let m : n ≡ length (text_of N p) = k ∙ counted-small (length (text_of N p)) (omega (arith, b.1)) in
          rw (chosen-whole g q, after_is m' z t v, text-stands b.0 b.1, a, x, y, m, seen-is)

unfit-is : (r : Answer ℕ (Unit {0})) {place : ℕ} → Err place ≡ verdict_of r → r ≡ stop place
unfit-is (got u) e = let z : ◌≡◌ {A = ℕ} 0 1 = cc in let y : ⊥ = omega arith in absurd y
unfit-is (stop q) e = cc

reads-is : (r : Answer ℕ (Unit {0})) → Ok tt ≡ verdict_of r → r ≡ got tt
reads-is (got u) e = refl
reads-is (stop q) e = let z : ◌≡◌ {A = ℕ} 0 1 = cc in let y : ⊥ = omega arith in absurd y

module _ (p : List ℤ) (source : List ℕ) (names : List ℤ) (text : List ℕ) where
  pub write-sized : {answer : List ℤ} → (length names ≡ 192 → ⊥) → answer ≡ word_of 1 ∷ word_of 0 ∷ word_of 0 ∷ word_of 0 ∷ [] → answered text answer 0 ≡ write p source names text
  unfolding write
  write-sized h a = rw (ne_eqb (length names) 192 h, a)

  module _ (l : length names ≡ 192) where
    pub write-unfit : {answer : List ℤ} {place : ℕ} → Err place ≡ verdict_of (read_program p) → answer ≡ word_of 2 ∷ word_of place ∷ word_of 0 ∷ word_of 0 ∷ []
        → answered text answer 0 ≡ write p source names text
    unfolding write
    write-unfit {place = place} v a = rw (eq-eqb (length names) 192 l, a, unfit-is (read_program p) v)

    pub write-printed : {answer : List ℤ} {after : List ℕ} {n : ℕ} → Ok tt ≡ verdict_of (read_program p) → answered after answer n ≡ printed (naming source names) p text
        → answered after answer n ≡ write p source names text
    unfolding write
    write-printed v e = rw (eq-eqb (length names) 192 l, reads-is (read_program p) v) e
