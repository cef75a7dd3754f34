-- The words of a proposal read as entries exactly where they are well formed, and else with 6 or 16. Assumes nothing.
use mathlib.Core.Path.{◌≡◌, refl, sym, ap, ◌∙◌}
use mathlib.Core.Logic.{◌↔◌}
use mathlib.Core.Bool.{◌&&◌}
use mathlib.Core.List.{List, [], ◌∷◌}
use Prim.Native.Nat.{ℕ, zero, suc, ◌+◌, ◌≤◌, ◌<◌}
use native.Mathlib.Omega.{arith}
use borrow.Author.Tests.{lt-ltb, le-leb, leb-true, ltb-true}
use lib.Dec.{ltb, leb}
use lib.IntN.{ℤ, pos}
use Rattle.words.specs.Words.{number_of}
use Rattle.words.specs.Answer.{got, stop}
use Rattle.words.proofs.AnswerLaws.{stop≢got, got-inj, stop-inj, step, tested, either}
use Rattle.tables.proofs.SearchLaws.{cases, and_left, and_right}
use Rattle.tables.proofs.WordLaws.{word_number}
use Rattle.rules.specs.Proposals.{Entry, entries, proposal}
use Rattle.rules.specs.Rules.Proposals.{EntriesAre, no_more, next, Formed, formed}

entries-sound : (n low : ℕ) (ws : List ℤ) {x : List Entry × List ℤ} → entries n low ws ≡ got x → EntriesAre low n ws x.0 x.1
unfolding entries
entries-sound zero low ws e = rw (← got-inj e) no_more
entries-sound (suc n) low [] e = stop≢got e
entries-sound (suc n) low (l ∷ []) e = stop≢got e
entries-sound (suc n) low (l ∷ v ∷ ws) e =
    tested 16 (leb low (number_of l) && ltb (number_of l) 576) _ e λ c k.
    step (entries n (suc (number_of l)) ws) _ k λ y e1 k1.
    let a : low ≤ number_of l = leb-true low (number_of l) (and_left (leb low (number_of l)) (ltb (number_of l) 576) c) in
    let b : number_of l < 576 = ltb-true (number_of l) 576 (and_right (leb low (number_of l)) (ltb (number_of l) 576) c) in
    rw (← got-inj k1) (first l (number_of l) (word_number l (number_of l) refl (omega arith)) a b (entries-sound n (suc (number_of l)) ws e1))
  where
    first : (w : ℤ) (l : ℕ) → w ≡ pos l → low ≤ l → l < 576 → {es : List Entry} {rest : List ℤ} → EntriesAre (suc l) n ws es rest
        → EntriesAre low (suc n) (w ∷ v ∷ ws) (record { location = l; payload = v } ∷ es) rest
    first w l e a b others = rw e (next a b others)

entries-complete : {low n : ℕ} {ws rest : List ℤ} {es : List Entry} → EntriesAre low n ws es rest → entries n low ws ≡ got (es, rest)
unfolding entries
entries-complete no_more = refl
entries-complete (next {low = low} {l = l} a b others) = rw (le-leb low l a, lt-ltb l 576 b, entries-complete others)

-- "so n is 0 to 576"
pub entries-few : {low n : ℕ} {ws rest : List ℤ} {es : List Entry} → EntriesAre low n ws es rest → low ≤ 576 → n + low ≤ 576
entries-few no_more h = omega arith
entries-few (next a b others) h = let k = entries-few others (omega arith) in omega arith

-- 16
pub formed-iff : (ws : List ℤ) (es : List Entry) (rest : List ℤ) → (proposal ws ≡ got (es, rest)) ↔ Formed ws es rest
unfolding proposal
formed-iff ws es rest = (to ws, from)
  where
    after-count : (w : ℤ) (n : ℕ) (ws : List ℤ) → w ≡ pos n → EntriesAre 0 n ws es rest → Formed (w ∷ ws) es rest
    after-count w n ws e is = rw e (formed is)

    to : (ws : List ℤ) → proposal ws ≡ got (es, rest) → Formed ws es rest
    to [] e = stop≢got e
    to (w ∷ ws) e =
        tested 16 (leb (number_of w) 576) _ e λ c k.
        let b : number_of w ≤ 576 = leb-true (number_of w) 576 c in
        after-count w (number_of w) ws (word_number w (number_of w) refl (omega arith)) (entries-sound (number_of w) 0 ws k)

    from : {ws : List ℤ} → Formed ws es rest → proposal ws ≡ got (es, rest)
    from (formed {n = n} is) = let b : n ≤ 576 = omega (arith, entries-few is (omega arith)) in rw (le-leb n 576 b) (entries-complete is)

-- where it does not read: 6 if there is no word at all, else 16
pub entries-stop : (n low : ℕ) (ws : List ℤ) (k : ℕ) → entries n low ws ≡ stop k → k ≡ 16
unfolding entries
entries-stop zero low ws k e = stop≢got (sym e)
entries-stop (suc n) low [] k e = sym (stop-inj e)
entries-stop (suc n) low (l ∷ []) k e = sym (stop-inj e)
entries-stop (suc n) low (l ∷ v ∷ ws) k e = cases (leb low (number_of l) && ltb (number_of l) 576)
    (λ c. either (entries n (suc (number_of l)) ws)
    (λ y e1. stop≢got (sym (rw (c, e1) at e)))
    (λ j e1. entries-stop n (suc (number_of l)) ws k (e1 ∙ ap stop (stop-inj (rw (c, e1) at e)))))
    (λ c. sym (stop-inj (rw c at e)))

pub proposal-stop : (ws : List ℤ) (k : ℕ) → proposal ws ≡ stop k → (ws ≡ [] → ⊥) → k ≡ 16
unfolding proposal
proposal-stop [] k e n = absurd (n refl)
proposal-stop (w ∷ ws) k e n = cases (leb (number_of w) 576)
    (λ c. entries-stop (number_of w) 0 ws k (rw c at e))
    (λ c. sym (stop-inj (rw c at e)))
