-- Laws of the parts of a text, and what the code that finds them comes to. Assumes nothing.
use mathlib.Core.Path.{◌≡◌, refl, sym, ap, ◌∙◌}
use mathlib.Core.Bool.{true, false, ◌&&◌}
use mathlib.Core.List.{List, [], ◌∷◌, ◌++◌}
use Prim.Native.Nat.{ℕ, suc, ◌+◌, ◌≤◌, ◌<◌}
use native.Mathlib.Omega.{arith}
use borrow.Author.Tests.{eqb-true, eqb-false, eq-eqb, ne_eqb, ltb-true, ltb-false}
use lib.Dec.{ltb, eqb}
use lib.Pointwise.{pointwise}
use Rattle.std.specs.Option.{unwrap_or}
use Rattle.std.specs.List.{position, position_or_len, slice_split}
use Rattle.std.proofs.lemmas.List.Recursion.{is_position_or_len}
use lib.ListN.{length, take, drop, drop_of_length-le}
use Rattle.tables.proofs.SearchLaws.{cases}
use Rattle.lister.specs.Bytes.{up_to, past, on_first, pieces, begins}

-- ---- the bytes before and after the first b

module _ (b x : ℕ) (s : List ℕ) where
  pub up-to-here : x ≡ b → up_to b (x ∷ s) ≡ []
  unfolding up_to
  up-to-here e = rw (eq-eqb x b e)

  pub up-to-on : (x ≡ b → ⊥) → up_to b (x ∷ s) ≡ x ∷ up_to b s
  unfolding up_to
  up-to-on e = rw (ne_eqb x b e)

  pub past-here : x ≡ b → past b (x ∷ s) ≡ s
  unfolding past
  past-here e = rw (eq-eqb x b e)

  pub past-on : (x ≡ b → ⊥) → past b (x ∷ s) ≡ past b s
  unfolding past
  past-on e = rw (ne_eqb x b e)

  pub pieces-here : x ≡ b → pieces b (x ∷ s) ≡ [] ∷ pieces b s
  unfolding pieces
  pieces-here e = rw (eq-eqb x b e)

  pub pieces-on : (x ≡ b → ⊥) → pieces b (x ∷ s) ≡ on_first x (pieces b s)
  unfolding pieces
  pieces-on e = rw (ne_eqb x b e)

  -- either way of a byte
  byte {ℓ} : {X : Type ℓ} → (x ≡ b → X) → ((x ≡ b → ⊥) → X) → X
  byte f g = cases (eqb x b) (λ e. f (eqb-true x b e)) (λ e. g (eqb-false x b e))

pub up-to-none : (b : ℕ) → up_to b [] ≡ []
unfolding up_to
up-to-none b = refl

pub past-none : (b : ℕ) → past b [] ≡ []
unfolding past
past-none b = refl

pub pieces_none : (b : ℕ) → pieces b [] ≡ [] ∷ []
unfolding pieces
pieces_none b = refl

pub up-to-length : (b : ℕ) (s : List ℕ) → length (up_to b s) ≤ length s
up-to-length b [] = rw (up-to-none b) (omega arith)
up-to-length b (x ∷ s) = byte b x s (λ e. rw (up-to-here b x s e) (omega arith)) (λ n. rw (up-to-on b x s n) (omega (arith, up-to-length b s)))

pub up-to-part : (b : ℕ) (s : List ℕ) → take (length (up_to b s)) s ≡ up_to b s
up-to-part b [] = rw (up-to-none b)
up-to-part b (x ∷ s) = byte b x s (λ e. rw (up-to-here b x s e)) (λ n. rw (up-to-on b x s n) (ap (λ r. x ∷ r) (up-to-part b s)))

-- there is a b
pub split : (b : ℕ) (s : List ℕ) → length (up_to b s) < length s → s ≡ up_to b s ++ b ∷ past b s
split b [] h = let z : ⊥ = omega arith in absurd z
split b (x ∷ s) h =
    byte b x s (λ e. rw (up-to-here b x s e, past-here b x s e) (ap (λ y. y ∷ s) e))
    (λ n. rw (up-to-on b x s n, past-on b x s n) (ap (λ r. x ∷ r) (split b s (let k : suc (length (up_to b s)) < suc (length s) = rw (up-to-on b x s n) at h in omega arith))))

pub past-part : (b : ℕ) (s : List ℕ) → length (up_to b s) < length s → drop (length (up_to b s) + 1) s ≡ past b s
past-part b [] h = let z : ⊥ = omega arith in absurd z
past-part b (x ∷ s) h =
    byte b x s (λ e. rw (up-to-here b x s e, past-here b x s e))
    (λ n. let k : suc (length (up_to b s)) < suc (length s) = rw (up-to-on b x s n) at h in
    let z : suc (length (up_to b s)) + 1 ≡ suc (length (up_to b s) + 1) = omega arith in
    rw (up-to-on b x s n, past-on b x s n, z) (past-part b s (omega arith)))

pub pieces_more : (b : ℕ) (s : List ℕ) → length (up_to b s) < length s → pieces b s ≡ up_to b s ∷ pieces b (past b s)
pieces_more b [] h = let z : ⊥ = omega arith in absurd z
pieces_more b (x ∷ s) h =
    byte b x s (λ e. rw (up-to-here b x s e, past-here b x s e, pieces-here b x s e))
    (λ n. let k : suc (length (up_to b s)) < suc (length s) = rw (up-to-on b x s n) at h in
    rw (up-to-on b x s n, past-on b x s n, pieces-on b x s n, pieces_more b s (omega arith)))

-- there is none
pub past_end : (b : ℕ) (s : List ℕ) → length s ≤ length (up_to b s) → past b s ≡ []
past_end b [] h = past-none b
past_end b (x ∷ s) h =
    byte b x s (λ e. let k : suc (length s) ≤ 0 = rw (up-to-here b x s e) at h in absurd (omega arith))
    (λ n. let k : suc (length s) ≤ suc (length (up_to b s)) = rw (up-to-on b x s n) at h in rw (past-on b x s n) (past_end b s (omega arith)))

pub whole : (b : ℕ) (s : List ℕ) → length s ≤ length (up_to b s) → s ≡ up_to b s
whole b [] h = sym (up-to-none b)
whole b (x ∷ s) h =
    byte b x s (λ e. let k : suc (length s) ≤ 0 = rw (up-to-here b x s e) at h in absurd (omega arith))
    (λ n. let k : suc (length s) ≤ suc (length (up_to b s)) = rw (up-to-on b x s n) at h in rw (up-to-on b x s n) (ap (λ r. x ∷ r) (whole b s (omega arith))))

pub pieces-last : (b : ℕ) (s : List ℕ) → length s ≤ length (up_to b s) → pieces b s ≡ up_to b s ∷ []
pieces-last b [] h = rw (up-to-none b, pieces_none b)
pieces-last b (x ∷ s) h =
    byte b x s (λ e. let k : suc (length s) ≤ 0 = rw (up-to-here b x s e) at h in absurd (omega arith))
    (λ n. let k : suc (length s) ≤ suc (length (up_to b s)) = rw (up-to-on b x s n) at h in rw (up-to-on b x s n, pieces-on b x s n, pieces-last b s (omega arith)))

-- the place of the first b, as the library finds it
pub first_place : (b : ℕ) (s : List ℕ) → unwrap_or (position (λ x. eqb x b) s) (length s) ≡ length (up_to b s)
first_place b s =
    let n : length (up_to b s) ≡ position_or_len (λ x. eqb x b) s =
    is_position_or_len (λ t. length (up_to b t)) (λ x. eqb x b) (ap length (up-to-none b))
    (λ x t. byte b x t (λ e. rw (up-to-here b x t e, eq-eqb x b e)) (λ k. rw (up-to-on b x t k, ne_eqb x b k) (omega arith))) s in
    let l : position_or_len (λ x. eqb x b) s ≤ length s = rw n at (up-to-length b s) in
    rw n (cases (ltb (position_or_len (λ x. eqb x b) s) (length s)) (λ e. rw e) (λ e. rw e (omega (arith, ltb-false (position_or_len (λ x. eqb x b) s) (length s) e))))

-- what is behind it
pub past-is : (b : ℕ) (s : List ℕ) → drop (length (up_to b s) + 1) s ≡ past b s
past-is b s =
    cases (ltb (length (up_to b s)) (length s))
    (λ e. past-part b s (ltb-true (length (up_to b s)) (length s) e))
    (λ e. let h : length s ≤ length (up_to b s) = ltb-false (length (up_to b s)) (length s) e in
    drop_of_length-le s {i = length (up_to b s) + 1} (omega arith) ∙ sym (past_end b s h))

-- what the two parts are where k bytes stand before the first b
module _ (b : ℕ) (s : List ℕ) {k : ℕ} (e : k ≡ length (up_to b s)) where
  pub up-to-taken : take k s ≡ up_to b s
  up-to-taken = rw e (up-to-part b s)

  pub past-dropped : k < length s → drop (k + 1) s ≡ past b s
  past-dropped h = rw e (past-part b s (omega arith))

  pub past-dropped-none : length s ≤ k → drop k s ≡ past b s
  past-dropped-none h = drop_of_length-le s {i = k} h ∙ sym (past_end b s (omega arith))

-- the lemmas for `up_to` and `after`
pub ruleset up_to_part = (up-to-part)

pub ruleset after_first = (up-to-length, past-is)

-- the pieces, as the library cuts them
pub pieces-split : (b : ℕ) (s : List ℕ) → slice_split (λ x. eqb x b) s ≡ pieces b s
unfolding pieces
pieces-split b [] = refl
pieces-split b (x ∷ s) = rw (pieces-split b s)

-- ---- a name at the start of a text

pub begins-none : (s : List ℕ) → begins [] s ≡ true
unfolding begins
begins-none s = refl

pub begins-short : (x : ℕ) (name : List ℕ) → begins (x ∷ name) [] ≡ false
unfolding begins
begins-short x name = refl

pub begins-more : (x y : ℕ) (name s : List ℕ) → begins (x ∷ name) (y ∷ s) ≡ (eqb y x && begins name s)
unfolding begins
begins-more x y name s = refl

-- as the library compares them, and as it takes the name off
pub begins_strip : (name s : List ℕ) → pointwise eqb (take (length name) s) name ≡ begins name s
begins_strip [] s = sym (begins-none s)
begins_strip (x ∷ name) [] = sym (begins-short x name)
begins_strip (x ∷ name) (y ∷ s) = rw (begins-more x y name s, ← begins_strip name s)

pub begins_pointwise : (name s : List ℕ) → pointwise eqb name (take (length name) s) ≡ begins name s
begins_pointwise [] s = sym (begins-none s)
begins_pointwise (x ∷ name) [] = sym (begins-short x name)
begins_pointwise (x ∷ name) (y ∷ s) =
    rw (begins-more x y name s, ← begins_pointwise name s)
    (cases (eqb y x) (λ e. rw (e, eq-eqb x y (sym (eqb-true y x e)))) (λ e. rw (e, ne_eqb x y (λ k. eqb-false y x e (sym k)))))
