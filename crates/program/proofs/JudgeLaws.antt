-- The place of a refusal is the first unfit word, by the word-by-word definition. Assumes nothing.
use mathlib.Core.Path.{◌≡◌, refl, sym, ap, ◌∙◌}
use mathlib.Core.Logic.{◌↔◌}
use mathlib.Core.List.{List, [], ◌∷◌, ◌++◌, append-nil, append_assoc}
use Prim.Native.Nat.{ℕ, suc, ◌-◌, ◌≤◌, ◌<◌}
use native.Mathlib.Omega.{arith}
use borrow.Author.Tests.{le-leb, lt-leb, ne_eqb}
use lib.IntN.{ℤ}
use lib.ListN.{length, drop, length-append, take-append-drop, length-drop}
use lib.Seq.{take_at, drop_at}
use Rattle.words.specs.Words.{number_of}
use Rattle.words.specs.Answer.{got, stop, ◌>>=◌}
use Rattle.words.proofs.AnswerLaws.{stop-inj, stop≢got, either}
use Rattle.program.specs.Forms.{most_words, block_depth}
use Rattle.program.specs.Reading.{Reading, read_block, ends, place_in, read_program}
use Rattle.program.specs.Judge.{Awaited, May, may, judge, Awaits, Unfit, FirstUnfit}
use Rattle.program.proofs.GrammarLaws.{place-got, program-sound}
use Rattle.program.proofs.JudgeSteps.{block-follows}

-- nothing more is awaited
judge-ends : (q : List ℤ) → judge [] q ≡ ends q
unfolding judge ends
judge-ends [] = refl
judge-ends (w ∷ q) = rw (ne_eqb (suc (length q)) 0 (λ z. omega arith))

-- a program reads as it is judged word by word
pub judge-program : (p : List ℤ) → judge (Awaited.block block_depth ∷ []) p ≡ (read_block block_depth p >>= λ q. ends q)
judge-program p =
    either (read_block block_depth p)
    (λ q e. (block-follows block_depth [] p).good q e ∙ rw e (judge-ends q))
    (λ q e. (block-follows block_depth [] p).bad q e ∙ rw e)

pub program-judged : (p : List ℤ) → length p ≤ most_words → read_program p ≡ place_in p (judge (Awaited.block block_depth ∷ []) p)
unfolding read_program
program-judged p l = rw (le-leb (length p) most_words l, judge-program p)

-- ---- from a judging to the words before

one_more_lem : (ws : List ℤ) (w : ℤ) (p : List ℤ) → (ws ++ (w ∷ [])) ++ p ≡ ws ++ (w ∷ p)
one_more_lem ws w p = append_assoc ws (w ∷ []) p

-- the words before an unfit one, each of which may stand
record Before (p q : List ℤ) : Type 0 where
  words : List ℤ
  awaited : List Awaited
  before : Awaits words awaited
  there : Unfit awaited q
  split : p ≡ words ++ q

judged-stop : (st : List Awaited) (ws p q : List ℤ) → Awaits ws st → judge st p ≡ stop q → Before (ws ++ p) q
unfolding judge
judged-stop [] ws [] q d e = stop≢got (sym e)
judged-stop [] ws (w ∷ p) q d e = rw (← stop-inj e) (record { words = ws; awaited = []; before = d; there = Unfit.extra; split = refl })
judged-stop (a ∷ more) ws [] q d e = rw (← stop-inj e) (record { words = ws; awaited = a ∷ more; before = d; there = Unfit.short; split = refl })
judged-stop (a ∷ more) ws (w ∷ p) q d e =
    go (may a (number_of w)) refl (λ then i k. judged-stop (then ++ more) (ws ++ (w ∷ [])) p q (Awaits.next w d i) k)
  where
    go : (m : May) → may a (number_of w) ≡ m
        → ((then : List Awaited) → may a (number_of w) ≡ got then → judge (then ++ more) p ≡ stop q → Before ((ws ++ (w ∷ [])) ++ p) q)
        → Before (ws ++ (w ∷ p)) q
    go (got then) i ih = rw (one_more_lem ws w p) at (ih then i (rw (i, judge) at e))
    go (stop u) i ih = let j : stop (w ∷ p) ≡ stop q = rw (i, judge) at e in
        rw (← stop-inj j) (record { words = ws; awaited = a ∷ more; before = d; there = Unfit.wrong i; split = refl })

judged-got : (st : List Awaited) (ws p : List ℤ) → Awaits ws st → judge st p ≡ got tt → Awaits (ws ++ p) []
unfolding judge
judged-got [] ws [] d e = rw (append-nil ws) d
judged-got [] ws (w ∷ p) d e = stop≢got e
judged-got (a ∷ more) ws [] d e = stop≢got e
judged-got (a ∷ more) ws (w ∷ p) d e =
    go (may a (number_of w)) refl (λ then i k. judged-got (then ++ more) (ws ++ (w ∷ [])) p (Awaits.next w d i) k)
  where
    go : (m : May) → may a (number_of w) ≡ m
        → ((then : List Awaited) → may a (number_of w) ≡ got then → judge (then ++ more) p ≡ got tt → Awaits ((ws ++ (w ∷ [])) ++ p) [])
        → Awaits (ws ++ (w ∷ p)) []
    go (got then) i ih = rw (one_more_lem ws w p) at (ih then i (rw (i, judge) at e))
    go (stop u) i ih = stop≢got (rw (i, judge) at e)

-- ---- the place

module _ (p : List ℤ) where
  place-stop {ℓ} : {X : Type ℓ} {k : ℕ} (m : Reading (Unit {0})) → place_in p m ≡ stop k → ((q : List ℤ) → m ≡ stop q → length p - length q ≡ k → X) → X
  unfolding place_in
  place-stop (got u) e f = stop≢got (sym e)
  place-stop (stop q) e f = f q refl (stop-inj e)

  -- a program that does not read is refused at its first unfit word
  pub first-unfit : {k : ℕ} → length p ≤ most_words → read_program p ≡ stop k → FirstUnfit p k
  first-unfit {k} l e =
      place-stop (judge (Awaited.block block_depth ∷ []) p) (sym (program-judged p l) ∙ e) λ q j i.
      found q i (judged-stop (Awaited.block block_depth ∷ []) [] p q Awaits.begin j)
    where
      found : (q : List ℤ) → length p - length q ≡ k → Before p q → FirstUnfit p k
      found q i b =
          let n : length b.words ≡ k = omega (arith, i, simp length-append at (ap length b.split)) in
          record {
            within = omega (arith, n, simp length-append at (ap length b.split));
            awaited = b.awaited;
            before = rw (b.split, take_at b.words q k n) b.before;
            there = rw (b.split, drop_at b.words q k n) b.there;
          }

  -- over 4,096 words: always 4096
  pub over-long : most_words < length p → read_program p ≡ stop most_words
  unfolding read_program
  over-long l = rw (lt-leb (length p) most_words l)

  -- in a program that reads every word may stand where it stands, and nothing is awaited at the end
  pub all_fit : read_program p ≡ got tt → Awaits p []
  all_fit e =
      judged-got (Awaited.block block_depth ∷ []) [] p Awaits.begin
      (place-got p (judge (Awaited.block block_depth ∷ []) p) (sym (program-judged p (program-sound p e).short) ∙ e))

-- ---- the other way

-- words that may stand are judged fit, and the judging goes on
pub awaits-judged : {ws : List ℤ} {st : List Awaited} → Awaits ws st → (q : List ℤ) → judge (Awaited.block block_depth ∷ []) (ws ++ q) ≡ judge st q
unfolding judge
awaits-judged Awaits.begin q = refl
awaits-judged (Awaits.next {ws = ws} {a = a} {more = more} w d i) q = rw (one_more_lem ws w q) (awaits-judged d (w ∷ q) ∙ rw (i, judge))

unfit-stops : {st : List Awaited} {q : List ℤ} → Unfit st q → judge st q ≡ stop q
unfolding judge
unfit-stops (Unfit.wrong i) = rw (i, judge)
unfit-stops Unfit.extra = refl
unfit-stops Unfit.short = refl

unfit-judged : (p : List ℤ) {k : ℕ} → FirstUnfit p k → judge (Awaited.block block_depth ∷ []) p ≡ stop (drop k p)
unfit-judged p {k} u = rw (take-append-drop k p) at (awaits-judged u.before (drop k p)) ∙ unfit-stops u.there

-- there is at most one first unfit word
pub one_place : (p : List ℤ) {k j : ℕ} → FirstUnfit p k → FirstUnfit p j → k ≡ j
one_place p {k} {j} u v =
    let e : drop k p ≡ drop j p = stop-inj (sym (unfit-judged p u) ∙ unfit-judged p v) in
    omega (arith, u.within, v.within, simp length-drop at (ap length e))

-- the place of a refusal is the first unfit word, and the only one
pub first-unfit-iff : (p : List ℤ) (k : ℕ) → length p ≤ most_words → (read_program p ≡ stop k) ↔ FirstUnfit p k
unfolding place_in
first-unfit-iff p k l = (first-unfit p l, λ u. program-judged p l ∙ rw (unfit-judged p u) (ap stop (simp length-drop (omega (arith, u.within)))))

-- a program reads exactly where every word may stand and nothing is awaited at the end
pub all-fit-iff : (p : List ℤ) → length p ≤ most_words → (read_program p ≡ got tt) ↔ Awaits p []
unfolding place_in judge
all-fit-iff p l = (all_fit p, λ d. program-judged p l ∙ rw (rw (append-nil p) at (awaits-judged d [])))
