-- Laws of runs and parts of bytes, and what the code that finds them comes to. Assumes nothing.
use mathlib.Core.Path.{◌≡◌, refl, sym, ap, ◌∙◌}
use mathlib.Core.Bool.{Bool, true, false, ◌&&◌, not}
use Rattle.std.specs.Option.{unwrap_or}
use Rattle.std.specs.List.{position, position_or_len}
use Rattle.std.proofs.lemmas.List.Recursion.{is_position_or_len}
use mathlib.Core.List.{List, [], ◌∷◌}
use Prim.Native.Nat.{ℕ, suc, ◌+◌, ◌≤◌, ◌<◌}
use native.Mathlib.Omega.{arith}
use borrow.Author.Tests.{eq-eqb, ltb-true, ne_eqb, lt-ltb, le-ltb, ltb-false, leb-true, eqb-true}
use lib.Dec.{ltb, eqb}
use lib.Pointwise.{pointwise}
use lib.ListN.{length, get_or, take, drop, drop_of_length-le}
use lib.Seq.{length-take-le, take_all}
use Rattle.words.proofs.Laws.{drop-next}
use Rattle.tokens.specs.Bytes.{between, run, spelt, same_in}
use Rattle.tokens.specs.Rules.{Shared}
use Rattle.tokens.specs.Claims.{Shares}

-- the two values of a test, each with its equation
pub cases {ℓ} : {X : Type ℓ} (b : Bool) → (b ≡ true → X) → (b ≡ false → X) → X
cases true f g = f refl
cases false f g = g refl

pub true≢false {ℓ} : {X : Type ℓ} → true ≡ false → X
true≢false e = absurd (let z : ◌≡◌ {A = ℕ} 0 1 = cc in omega arith)

pub and-true : {a b : Bool} → a ≡ true → b ≡ true → (a && b) ≡ true
and-true {a = true} e f = f
and-true {a = false} e f = e

pub and_first : (a b : Bool) → (a && b) ≡ true → a ≡ true
and_first true b e = refl
and_first false b e = e

pub and_second : (a b : Bool) → (a && b) ≡ true → b ≡ true
and_second true b e = e
and_second false b e = true≢false (sym e)

pub and-false : (a b : Bool) → b ≡ false → (a && b) ≡ false
and-false true b e = e
and-false false b e = refl

-- ---- a range of bytes

module _ (low high b : ℕ) where
  pub between-low : b < low → between low high b ≡ false
  unfolding between
  between-low h = rw (lt-ltb b low h)

  pub between-least : between low high b ≡ true → low ≤ b
  unfolding between
  between-least e = cases (ltb b low) (λ t. true≢false (sym e ∙ rw t)) (λ t. ltb-false b low t)

  pub between-most : between low high b ≡ true → b ≤ high
  unfolding between
  between-most e = cases (ltb b low) (λ t. true≢false (sym e ∙ rw t)) (λ t. leb-true b high (rw t at e))

-- ---- runs

module _ (p : ℕ → Bool) where
  pub run_none : run p [] ≡ 0
  unfolding run
  run_none = refl

  pub run-here : (b : ℕ) (s : List ℕ) → p b ≡ false → run p (b ∷ s) ≡ 0
  unfolding run
  run-here b s e = rw e

  pub run_on : (b : ℕ) (s : List ℕ) → p b ≡ true → run p (b ∷ s) ≡ suc (run p s)
  unfolding run
  run_on b s e = rw e

  pub run_length : (s : List ℕ) → run p s ≤ length s
  run_length [] = rw run_none (omega arith)
  run_length (b ∷ s) = cases (p b) (λ e. rw (run_on b s e) (omega (arith, run_length s))) (λ e. rw (run-here b s e) (omega arith))

  -- it ends at the first byte that is not of the class
  pub run-first : (s : List ℕ) → run p s ≡ position_or_len (λ b. not (p b)) s
  run-first s = is_position_or_len (run p) (λ b. not (p b)) run_none (λ b t. cases (p b) (λ e. rw (run_on b t e, e) (omega arith)) (λ e. rw (run-here b t e, e))) s

  pub run_position : (s : List ℕ) → unwrap_or (position (λ b. not (p b)) s) (length s) ≡ run p s
  run_position s =
      let n : run p s ≡ position_or_len (λ b. not (p b)) s = run-first s in
      let l : position_or_len (λ b. not (p b)) s ≤ length s = rw n at (run_length s) in
      rw n (cases (ltb (position_or_len (λ b. not (p b)) s) (length s)) (λ e. rw e) (λ e. rw e (omega (arith, ltb-false (position_or_len (λ b. not (p b)) s) (length s) e))))

-- ---- the same bytes

pub spelt-self : (s : List ℕ) → spelt s s ≡ true
unfolding spelt
spelt-self [] = refl
spelt-self (b ∷ s) = and-true (eq-eqb b b refl) (spelt-self s)

pub spelt-same : (w s : List ℕ) → spelt w s ≡ true → w ≡ s
unfolding spelt
spelt-same [] [] e = refl
spelt-same [] (b ∷ s) e = true≢false (sym e)
spelt-same (x ∷ w) [] e = true≢false (sym e)
spelt-same (x ∷ w) (b ∷ s) e =
    let h : b ≡ x = eqb-true b x (and_first (eqb b x) (spelt w s) e) in
    rw (h, spelt-same w s (and_second (eqb b x) (spelt w s) e))

pub spelt-other : (w s : List ℕ) → (w ≡ s → ⊥) → spelt w s ≡ false
spelt-other w s n = cases (spelt w s) (λ e. absurd (n (spelt-same w s e))) (λ e. e)

pub spelt-length : (w s : List ℕ) → (length s ≡ length w → ⊥) → false ≡ spelt w s
spelt-length w s n = sym (spelt-other w s (λ e. n (ap length (sym e))))

pub spelt-more : (x b : ℕ) (w s : List ℕ) → spelt (x ∷ w) (b ∷ s) ≡ (eqb b x && spelt w s)
unfolding spelt
spelt-more x b w s = refl

-- the library's equality
pub spelt_pointwise : (w s : List ℕ) → pointwise eqb s w ≡ spelt w s
unfolding spelt
spelt_pointwise [] [] = refl
spelt_pointwise [] (b ∷ s) = refl
spelt_pointwise (x ∷ w) [] = refl
spelt_pointwise (x ∷ w) (b ∷ s) = rw (← spelt_pointwise w s)

-- ---- two texts of a length, byte by byte

pub record Spelling (w s : List ℕ) (i : ℕ) : Type 0 where
  pub inside : i ≤ length w
  pub long : length s ≡ length w
  pub rest : spelt (drop i w) (drop i s) ≡ spelt w s

pub spelling-starts : {w s : List ℕ} → length s ≡ length w → Spelling w s 0
spelling-starts e = record { inside = omega arith; long = e; rest = refl }

module _ {w s : List ℕ} {i : ℕ} (inv : Spelling w s i) where
  module _ (h : i < length w) where
    turn : (eqb (get_or s i 0) (get_or w i 0) && spelt (drop (i + 1) w) (drop (i + 1) s)) ≡ spelt w s
    turn = rw (drop-next w i h, drop-next s i (omega (arith, inv.long)), spelt-more) at inv.rest

    pub spelling-differs : (get_or s i 0 ≡ get_or w i 0 → ⊥) → false ≡ spelt w s
    spelling-differs n = rw (ne_eqb (get_or s i 0) (get_or w i 0) n) at turn

    pub spelling-goes-on : get_or s i 0 ≡ get_or w i 0 → Spelling w s (i + 1)
    spelling-goes-on e = record { inside = omega arith; long = inv.long; rest = rw (eq-eqb (get_or s i 0) (get_or w i 0) e) at turn }

  pub spelling-ends : length w ≤ i → true ≡ spelt w s
  spelling-ends h = sym (spelt-self []) ∙ rw (drop_of_length-le w {i = i} h, drop_of_length-le s {i = i} (omega (arith, inv.long))) at inv.rest

-- ---- two parts of a text

module _ (text : List ℕ) (a b n : ℕ) {x : List ℕ} (e : x ≡ take n (drop a text)) where
  pub same-short : length x < n → false ≡ same_in text a b n
  unfolding same_in
  same-short h = rw (← e, lt-ltb (length x) n h)

  pub same_whole : n ≤ length x → {y : List ℕ} → y ≡ take n (drop b text) → {r : Bool} → r ≡ spelt x y → r ≡ same_in text a b n
  unfolding same_in
  same_whole h k q = rw (← e, ← k, le-ltb (length x) n h) q

-- n bytes of x are there
long : (n : ℕ) (x : List ℕ) → n ≤ length (take n x) → n ≤ length x
long n x h =
    cases (ltb (length x) n)
    (λ e. let k : take n x ≡ x = take_all n x (omega (arith, ltb-true (length x) n e)) in rw k at h)
    (λ e. ltb-false (length x) n e)

pub shares : Shares
shares text a b n = (there, back)
  where
    there : same_in text a b n ≡ true → Shared text a b n
    there e =
        cases (ltb (length (take n (drop a text))) n)
        (λ t. true≢false (sym e ∙ sym (same-short text a b n refl (ltb-true (length (take n (drop a text))) n t))))
        (λ t. let h : n ≤ length (take n (drop a text)) = ltb-false (length (take n (drop a text))) n t in
        record { there = long n (drop a text) h; same = spelt-same (take n (drop a text)) (take n (drop b text)) (same_whole text a b n refl h refl refl ∙ e) })

    back : Shared text a b n → same_in text a b n ≡ true
    back s =
        let h : length (take n (drop a text)) ≡ n = length-take-le n (drop a text) s.there in
        sym (same_whole text a b n refl (omega arith) refl refl) ∙ rw (← s.same) (spelt-self (take n (drop a text)))
