-- Prefix cells, met where paths are followed again, are the rules' frozen cells. Assumes nothing.
use Rattle.std.specs.Prelude.{Option, Some, None}
use mathlib.Core.Path.{◌≡◌, refl, sym, ap, ◌∙◌}
use mathlib.Core.Bool.{Bool, true, false, not, ◌&&◌, ◌||◌}
use mathlib.Core.List.{List, [], ◌∷◌, ◌++◌}
use Prim.Native.Nat.{ℕ, suc, ◌+◌, ◌-◌, ◌≤◌, ◌<◌}
use native.Mathlib.Omega.{arith}
use native.Mathlib.Numerals.{add-one}
use lib.IntN.{ℤ}
use lib.ListN.{drop}
use lib.Seq.{drop-drop}
use Rattle.words.specs.Words.{number_at}
use Rattle.words.specs.Answer.{got}
use Rattle.words.proofs.Laws.{number-drop}
use Rattle.tables.specs.declared.Value.{Value}
use Rattle.tables.specs.declared.Sort.TheVariants.{Identities}
use Rattle.tables.specs.Cells.{Cells}
use Rattle.tables.specs.Kept.{kept_count}
use Rattle.tables.proofs.SearchLaws.{cases, and_left, and_right, and-true}
use Rattle.rules.specs.State.{slot_at}
use Rattle.rules.specs.Paths.{Way, way_at}
use Rattle.rules.specs.Identities.{Tie, tie_at, ties, member, frozen_by, is, clash_free}
use Rattle.rules.proofs.ClassLaws.{member-head, member-tail, member-cons, member-none}
use Rattle.rules.proofs.PhaseLaws.{clash-iff}
use Rattle.expressions.specs.Following.{step_to, passed}
use Rattle.expressions.proofs.TraceLaws.{passed_none, passed-lost, passed-more, way-prefix, way-rest}
use Rattle.phases.specs.Tying.{identity_at}
use Rattle.phases.specs.Freezing.{free_of, free_way, free_tie, free_ties}
use Rattle.phases.proofs.MarkLaws.{both_ways}
use Rattle.phases.proofs.TieLaws.{tie-sides, ties-row, row-frozen}

and_both : (a b c : Bool) → ((a && b) && c) ≡ (a && (b && c))
and_both true b c = refl
and_both false b c = refl

-- one label leads through one cell, wherever it leads
passed-one : (S : Cells) (l : ℕ) (p : List ℤ) → passed S 1 l p ≡ l ∷ []
passed-one S l p = go (step_to S l (number_at p 0)) refl
  where
    go : (s : Option ℕ) → step_to S l (number_at p 0) ≡ s → passed S 1 l p ≡ l ∷ []
    go (Some next) e = passed-more S 0 l next p e ∙ ap (λ ls. l ∷ ls) (passed_none S next (drop 1 p))
    go None e = passed-lost S 0 l p e

module _ (S : Cells) (f : ℕ → Bool) (v : Value) where
  abbrev F : List ℕ → Bool
  F = free_of S f v

  abbrev may : ℕ → Bool
  may l = not (f l) || is (slot_at S l) v

  pub free-none : F [] ≡ true
  unfolding free_of
  free-none = refl

  pub free_more : (l : ℕ) (ls : List ℕ) → F (l ∷ ls) ≡ (may l && F ls)
  unfolding free_of
  free_more l ls = refl

  pub free-both : (a b : List ℕ) → F (a ++ b) ≡ (F a && F b)
  unfolding free_of
  free-both [] b = refl
  free-both (l ∷ a) b = rw (free-both a b) (sym (and_both (may l) (F a) (F b)))

  free-iff-on : (ls : List ℕ) → F ls ≡ true → (l : ℕ) → member l ls ≡ true → f l ≡ true → is (slot_at S l) v ≡ true
  free-iff-on [] e l m p = member-none l m
  free-iff-on (k ∷ ls) e l m p =
      let w : may k && F ls ≡ true = sym (free_more k ls) ∙ e in
      member-cons l k ls m
      (λ q. rw q (holds k (rw q at p) (and_left (may k) (F ls) w)))
      (λ o. free-iff-on ls (and_right (may k) (F ls) w) l o p)
    where
      holds : (j : ℕ) → f j ≡ true → may j ≡ true → is (slot_at S j) v ≡ true
      holds j q w = rw q at w

  free-iff-back : (ls : List ℕ) → ((l : ℕ) → member l ls ≡ true → f l ≡ true → is (slot_at S l) v ≡ true) → F ls ≡ true
  free-iff-back [] h = free-none
  free-iff-back (k ∷ ls) h = free_more k ls ∙ and-true (may k) (F ls)
      (cases (f k) (λ q. rw q (h k (member-head k k ls refl) q)) (λ q. rw q))
      (free-iff-back ls (λ l m p. h l (member-tail l k ls m) p))

  -- where the cells that pass are those of a class
  pub free-clash : (c : List ℕ) → ((l : ℕ) → f l ≡ member l c) → (ls : List ℕ) → F ls ≡ clash_free S ls v c
  free-clash c h ls = both_ways (F ls) (clash_free S ls v c)
      (λ e. (clash-iff S ls v c).1 (λ l m n. free-iff-on ls e l n (h l ∙ m)))
      (λ e. free-iff-back ls (λ l m p. (clash-iff S ls v c).0 e l (sym (h l) ∙ p) m))

  -- ---- an L, an identity, and all that are kept

  pub way-free : (p : List ℤ) (w : Way) → way_at S p ≡ got w → free_way S f v p ≡ F w.prefix
  way-free p w e = rw (way-prefix S p w e)

  pub tie-free : (p : List ℤ) (t : Tie) → tie_at S p ≡ got t → free_tie S f v p ≡ F t.prefix
  tie-free p t e =
      let s = tie-sides S p t e in
      rw (s.made, free-both s.one.prefix s.two.prefix, ← (way-free p s.one s.is_one), ← (way-free s.one.rest s.two s.is-two), way-rest S p s.one s.is_one)

  pub ties-free : (program kept : List ℤ) (ts : List Tie) → ties program kept S ≡ got ts → free_ties S f v (identity_at program kept) 0 (kept_count kept Identities) ≡ F (frozen_by ts)
  unfolding free_ties
  ties-free program kept ts e =
      row-frozen program kept S (free_ties S f v (identity_at program kept)) F (λ i. refl) free-none free-both
      (λ i m t q. ap (λ b. b && free_ties S f v (identity_at program kept) (suc i) m) (tie-free (identity_at program kept i) t q))
      0 (kept_count kept Identities) ts (sym (ties-row program kept S) ∙ e)

  pub ties-none-free : (at : ℕ → List ℤ) (i : ℕ) → free_ties S f v at i 0 ≡ true
  unfolding free_ties
  ties-none-free at i = refl

  -- ---- the loop over the labels: i are followed, the cell reached is `at`, and the rest gives the whole's answer

  pub record Freeing (p : List ℤ) (i at : ℕ) : Type 0 where
    pub inside : i ≤ number_at p 1
    pub rest : F (passed S (number_at p 1 - i) at (drop i (drop 2 p))) ≡ free_way S f v p

  pub freeing-starts : {p : List ℤ} {at : ℕ} → at ≡ number_at p 0 → Freeing p 0 at
  freeing-starts {p = p} e = let z : number_at p 1 - 0 ≡ number_at p 1 = omega arith in record { inside = omega arith; rest = rw (z, e) }

  module _ {p : List ℤ} {i at : ℕ} (inv : Freeing p i at) where
    module _ (turn : i < number_at p 1) {r : Bool} (e : r ≡ may at) where
      abbrev labels : List ℤ
      labels = drop i (drop 2 p)

      more : suc (number_at p 1 - (i + 1)) ≡ number_at p 1 - i
      more = omega arith

      label : number_at labels 0 ≡ number_at (drop 2 p) i
      label = number-drop (drop 2 p) i 0 ∙ (let y : i + 0 ≡ i = omega arith in rw y)

      pub freeing-fails : r ≡ false → false ≡ free_way S f v p
      freeing-fails q = sym (clash (step_to S at (number_at labels 0)) refl) ∙ inv.rest
        where
          clash : (s : Option ℕ) → step_to S at (number_at labels 0) ≡ s → F (passed S (number_at p 1 - i) at labels) ≡ false
          clash (Some next) w = rw (← more, passed-more S (number_at p 1 - (i + 1)) at next labels w, free_more at (passed S (number_at p 1 - (i + 1)) next (drop 1 labels)), ← e, q)
          clash None w = rw (← more, passed-lost S (number_at p 1 - (i + 1)) at labels w, free_more at [], ← e, q)

      -- the last prefix cell is looked at
      pub freeing-last : r ≡ true → i + 1 ≡ number_at p 1 → true ≡ free_way S f v p
      freeing-last q z =
          let one : number_at p 1 - i ≡ 1 = omega arith in
          let w : F (passed S (number_at p 1 - i) at labels) ≡ true = rw (one, passed-one S at labels, free_more at [], ← e, q, free-none) in
          sym w ∙ inv.rest

      module _ (ok : r ≡ true) {s : Option ℕ} {k : ℕ} {l : List ℤ} (part : l ≡ drop 2 p) (which : k ≡ number_at l i) (stepped : s ≡ step_to S at k) where
        there : step_to S at (number_at labels 0) ≡ s
        there = rw (label, ← part, ← which) (sym stepped)

        pub freeing-lost : s ≡ None → true ≡ free_way S f v p
        freeing-lost q =
            let w : F (passed S (number_at p 1 - i) at labels) ≡ true = rw (← more, passed-lost S (number_at p 1 - (i + 1)) at labels (there ∙ q), free_more at [], ← e, ok, free-none) in
            sym w ∙ inv.rest

        pub freeing-goes-on : {next : ℕ} → s ≡ Some next → Freeing p (i + 1) next
        freeing-goes-on {next = next} q =
            let w : F (passed S (number_at p 1 - i) at labels) ≡ F (passed S (number_at p 1 - (i + 1)) next (drop 1 labels))
            = rw (← more, passed-more S (number_at p 1 - (i + 1)) at next labels (there ∙ q), free_more at (passed S (number_at p 1 - (i + 1)) next (drop 1 labels)), ← e, ok) in
            record { inside = omega arith; rest = rw (← (drop-drop 1 i (drop 2 p))) (sym w ∙ inv.rest) }

    pub freeing-ends : number_at p 1 ≤ i → true ≡ free_way S f v p
    freeing-ends h = let z : number_at p 1 - i ≡ 0 = omega arith in rw (z, passed_none S at (drop i (drop 2 p)), free-none) at inv.rest

  -- ---- the loop over n identities: i are walked

  module _ (at : ℕ → List ℤ) (n : ℕ) where
    pub record FreeingTies (i : ℕ) : Type 0 where
      pub inside : i ≤ n
      pub rest : free_ties S f v at i (n - i) ≡ free_ties S f v at 0 n

    pub freeing-ties-starts : FreeingTies 0
    freeing-ties-starts = let z : n - 0 ≡ n = omega arith in record { inside = omega arith; rest = rw z }

    module _ {i : ℕ} (inv : FreeingTies i) where
      module _ (turn : i < n) {p : List ℤ} {r : Bool} (is : p ≡ at i) (e : r ≡ free_tie S f v p) where
        step : (r && free_ties S f v at (i + 1) (n - (i + 1))) ≡ free_ties S f v at 0 n
        unfolding free_ties
        step =
            let z : n - i ≡ suc (n - (i + 1)) = omega arith in
            let y : suc i ≡ i + 1 = sym (add-one i) in
            let w : (free_tie S f v (at i) && free_ties S f v at (suc i) (n - (i + 1))) ≡ free_ties S f v at 0 n = rw z at inv.rest in
            rw (e, is) (rw y at w)

        pub freeing-ties-fails : r ≡ false → false ≡ free_ties S f v at 0 n
        freeing-ties-fails q = rw q at step

        pub freeing-ties-goes-on : r ≡ true → FreeingTies (i + 1)
        freeing-ties-goes-on q = record { inside = omega arith; rest = rw q at step }

      pub freeing-ties-ends : n ≤ i → true ≡ free_ties S f v at 0 n
      unfolding free_ties
      freeing-ties-ends h = let z : n - i ≡ 0 = omega arith in rw z at inv.rest
