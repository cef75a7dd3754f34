-- What the code of constraints and their parts comes to. Assumes nothing.
use mathlib.Core.Path.{◌≡◌, refl, sym, ◌∙◌}
use mathlib.Core.Bool.{Bool, true, false, not, ◌&&◌, ◌||◌}
use mathlib.Core.List.{List, [], ◌∷◌, ◌++◌}
use Prim.Native.Nat.{ℕ, suc, ◌+◌, ◌-◌, ◌≤◌, ◌<◌}
use native.Mathlib.Omega.{arith}
use native.Mathlib.Numerals.{add-one}
use lib.Dec.{eqb}
use lib.IntN.{ℤ}
use lib.ListN.{length, drop}
use lib.Seq.{drop-drop}
use Rattle.std.specs.Prelude.{Option, Some, None, Result, Ok, Err}
use Rattle.words.specs.Words.{number_at, last_of}
use Rattle.words.specs.Answer.{got, stop, ◌>>=◌, ◌>>◌, want}
use Rattle.words.proofs.AnswerLaws.{either}
use Rattle.tables.specs.declared.Value.{Value}
use Rattle.tables.specs.declared.Value.TheVariants.{Nil, Bool as Truth, Int, Ref}
use Rattle.tables.specs.declared.Sort.TheVariants.{Values}
use Rattle.tables.specs.Cells.{Cells}
use Rattle.tables.specs.Kept.{kept_count, position_at}
use Rattle.program.specs.declared.Refusal.{Refusal}
use Rattle.program.proofs.NumberLaws.{number_fits_lem, number-low, number-high}
use Rattle.program.proofs.LengthLaws.{part-trans}
use Rattle.program.proofs.RowLaws.{last-part, last-all}
use Rattle.rules.specs.State.{Res, refused, listed, positions}
use Rattle.rules.specs.Evaluation.{kind_of, a_bool, bool_of, evaluate, kind}
use Rattle.tables.specs.declared.Kind.{Kind}
use Rattle.tables.specs.declared.Kind.TheVariants.{Nil as is_nil, Bool as is_bool, Int as is_int, Ref as is_ref}
use Rattle.rules.specs.Constraints.{Part, satisfies, part_at, parts_at, constraint_at, fifteen, kept_parts, own_parts, counted, all_hold, required_hold}
use Rattle.rules.proofs.KindLaws.{OfKind, kind-value}
use Rattle.rules.proofs.ConstraintClauses.{satisfies-got, satisfies-stop, part-is, part-part, parts_none, parts_more, constraint-is}
use Rattle.rules.proofs.ConstraintClauses.{all_none, all_more, all_both, required-none, required-more, required-both, both-once}
use Rattle.rules.proofs.ConstraintClauses.{positions-are, listed-none, listed_more, kept-is, kept-none, kept_more, own-none, own-some, counted_is}
use Rattle.expressions.specs.declared.Valued.{Valued}
use Rattle.expressions.specs.declared.Rated.{Rated}
use Rattle.expressions.specs.declared.Weighed.{Weighed}
use Rattle.expressions.specs.Valuing.{stand_in, judged_of, valued_at}
use Rattle.expressions.specs.Judging.{refusal, rated_of, truth_of, weighed_of, parts_only}

-- ---- a part

-- of this priority, whose expression is judged: 8 where it is no boolean, and arithmetic that leaves 32 bits is unsatisfied
abbrev pub rated_with : ℕ → ℕ → Result Bool Refusal → Result Rated Refusal
rated_with n left (Ok b) = Ok (record { priority = n; satisfied = b; left = left })
rated_with n left (Err f) = Err f

abbrev pub rated_by : ℕ → Result Valued Refusal → ℕ → Result Rated Refusal
rated_by n (Ok j) word = rated_with n j.left (truth_of j.value word)
rated_by n (Err f) word = Err f

module _ (S : Cells) (p : List ℤ) where
  pub part_low : number_at p 0 ≡ 0 → Err (refusal 2 (length p)) ≡ rated_of (part_at S p)
  part_low h = rw (part-is S p, number-low 1 3 p (omega arith))

  module _ (one : number_at p 0 ≡ 0 → ⊥) where
    pub part-high : 3 < number_at p 0 → Err (refusal 2 (length p)) ≡ rated_of (part_at S p)
    part-high h = rw (part-is S p, number-high 1 3 p (omega (arith, one)) h)

    pub part-rated : number_at p 0 ≤ 3 → {r : Result Valued Refusal} → r ≡ valued_at true 16 S (drop 1 p) → rated_by (number_at p 0) r (length p) ≡ rated_of (part_at S p)
    unfolding valued_at
    part-rated h e =
        rw (e, part-is S p, number_fits_lem 1 3 p (omega (arith, one)) h)
        (by (kind 16 S (drop 1 p)) (evaluate 16 S (drop 1 p)) (λ x k. kind-value 16 S (drop 1 p) x k))
      where
        last : (n : ℕ) (v : Value) (r : List ℤ) → rated_with n (length r) (truth_of v (length p)) ≡ rated_of (want (refused 8 p) (a_bool (kind_of v)) >> got (record { priority = n; satisfied = bool_of v }, r))
        last n Nil r = refl
        last n (Truth b) r = refl
        last n (Int i) r = refl
        last n (Ref i) r = refl

        lost : (n : ℕ) (k : Kind) (r : List ℤ) → rated_with n (length r) (truth_of (stand_in k) (length p)) ≡ rated_of (want (refused 8 p) (a_bool k) >> got (record { priority = n; satisfied = false }, r))
        lost n is_nil r = refl
        lost n is_bool r = refl
        lost n is_int r = refl
        lost n is_ref r = refl

        by : (k : Res (Kind × List ℤ)) (m : Res (Value × List ℤ)) → ((x : Kind × List ℤ) → k ≡ got x → OfKind x.0 x.1 m)
            → rated_by (number_at p 0) (judged_of k m) (length p)
            ≡ rated_of (k >>= λ y. want (refused 8 p) (a_bool y.0) >> got (record { priority = number_at p 0; satisfied = satisfies m }, y.1))
        by (got x) (got y) c =
            let o : kind_of y.0 ≡ x.0 = ((c x refl).good y refl).0 in
            rw (satisfies-got y, ← o) (last (number_at p 0) y.0 x.1)
        by (got x) (stop f) c = rw (satisfies-stop f) (lost (number_at p 0) x.0 x.1)
        by (stop f) m c = refl

-- ---- parts together: what was met before, and the rest

abbrev pub reading : Bool → Bool → Weighed
reading a r = record { all = a; required = r }

abbrev pub weighed_from : Bool → Bool → Result Weighed Refusal → Result Weighed Refusal
weighed_from a r (Ok w) = Ok (reading (a && w.all) (r && w.required))
weighed_from a r (Err f) = Err f

from-none : (m : Result Weighed Refusal) → weighed_from true true m ≡ m
from-none (Ok w) = refl
from-none (Err f) = refl

and_last : (a : Bool) → (a && true) ≡ a
and_last true = refl
and_last false = refl

from_end : (a r : Bool) → weighed_from a r (weighed_of (got [])) ≡ Ok (reading a r)
from_end a r = rw (all_none, required-none, and_last a, and_last r)

-- one part before others
from-part : (a r : Bool) (x : Part) (m : Res (List Part × List ℤ))
    → weighed_from (a && x.satisfied) (r && (not (eqb x.priority 3) || x.satisfied)) (weighed_of (parts_only m)) ≡ weighed_from a r (weighed_of (parts_only (m >>= λ y. got (x ∷ y.0, y.1))))
from-part a r x (got y) =
    rw (all_more x y.0, required-more x y.0, both-once a x.satisfied (all_hold y.0), both-once r (not (eqb x.priority 3) || x.satisfied) (required_hold y.0))
from-part a r x (stop f) = refl

-- parts before others
from_parts : (a r : Bool) (xs : List Part) (m : Res (List Part))
    → weighed_from (a && all_hold xs) (r && required_hold xs) (weighed_of m) ≡ weighed_from a r (weighed_of (m >>= λ ys. got (xs ++ ys)))
from_parts a r xs (got ys) = rw (all_both xs ys, required-both xs ys, both-once a (all_hold xs) (all_hold ys), both-once r (required_hold xs) (required_hold ys))
from_parts a r xs (stop f) = refl

-- ---- the loop over m parts at p: i are walked, `left` words are left, and the rest gives the whole's answer

pub record PartsLeft (S : Cells) (m : ℕ) (p : List ℤ) (i left : ℕ) (a r : Bool) : Type 0 where
  pub inside : i ≤ m
  pub rest : weighed_from a r (weighed_of (parts_only (parts_at (m - i) S (last_of left p)))) ≡ weighed_of (parts_only (parts_at m S p))

pub parts-start : {S : Cells} {m : ℕ} {p : List ℤ} → PartsLeft S m p 0 (length p) true true
parts-start {S = S} {m = m} {p = p} =
    let z : m - 0 ≡ m = omega arith in
    record { inside = omega arith; rest = rw (z, last-all p) (from-none (weighed_of (parts_only (parts_at m S p)))) }

module _ {S : Cells} {m : ℕ} {p : List ℤ} {i left : ℕ} {a r : Bool} (inv : PartsLeft S m p i left a r) where
  module _ (more : i < m) {g : Result Rated Refusal} {q : List ℤ} (l : q ≡ last_of left p) (e : g ≡ rated_of (part_at S q)) where
    parts-turn : weighed_from a r (weighed_of (parts_only (part_at S q >>= λ x. parts_at (m - (i + 1)) S x.1 >>= λ y. got (x.0 ∷ y.0, y.1)))) ≡ weighed_of (parts_only (parts_at m S p))
    parts-turn = let z : m - i ≡ suc (m - (i + 1)) = omega arith in rw (z, ← l, parts_more S q (m - (i + 1))) at inv.rest

    pub parts-stop : {f : Refusal} → g ≡ Err f → Err f ≡ weighed_of (parts_only (parts_at m S p))
    parts-stop h = by (part_at S q) _ (sym e ∙ h) ∙ parts-turn
      where
        by : {f : Refusal} (k : Res (Part × List ℤ)) (next : Part × List ℤ → Res (List Part × List ℤ)) → rated_of k ≡ Err f → Err f ≡ weighed_from a r (weighed_of (parts_only (k >>= next)))
        by (got x) next e = cc
        by (stop x) next e = cc

    pub parts-go-on : {x : Rated} → g ≡ Ok x → PartsLeft S m p (i + 1) x.left (a && x.satisfied) (r && (not (eqb x.priority 3) || x.satisfied))
    parts-go-on {x = x} h = either (part_at S q) there (λ f k. absurd (let y : Err f ≡ Ok x = sym (rw k at e) ∙ h in cc))
      where
        there : (y : Part × List ℤ) → part_at S q ≡ got y → PartsLeft S m p (i + 1) x.left (a && x.satisfied) (r && (not (eqb x.priority 3) || x.satisfied))
        there y k =
            let z : Ok (record { priority = y.0.priority; satisfied = y.0.satisfied; left = length y.1 }) ≡ Ok x = sym (rw k at e) ∙ h in
            let o : x ≡ record { priority = y.0.priority; satisfied = y.0.satisfied; left = length y.1 } = cc in
            let w : last_of (length y.1) p ≡ y.1 = (part-trans (last-part left p) (rw l at (part-part S q y k))).is in
            rw o (record { inside = omega arith; rest = rw w (from-part a r y.0 (parts_at (m - (i + 1)) S y.1) ∙ (rw k at parts-turn)) })

  pub parts-end : m ≤ i → Ok (reading a r) ≡ weighed_of (parts_only (parts_at m S p))
  parts-end h = let z : m - i ≡ 0 = omega arith in sym (from_end a r) ∙ (rw (z, parts_none S (last_of left p)) at inv.rest)

-- ---- a C

module _ (S : Cells) (p : List ℤ) where
  pub constraint-low : number_at p 0 ≡ 0 → Err (refusal 2 (length p)) ≡ weighed_of (constraint_at S p)
  constraint-low h = rw (constraint-is S p, number-low 1 16 p (omega arith))

  module _ (one : number_at p 0 ≡ 0 → ⊥) where
    pub constraint-high : 16 < number_at p 0 → Err (refusal 2 (length p)) ≡ weighed_of (constraint_at S p)
    constraint-high h = rw (constraint-is S p, number-high 1 16 p (omega (arith, one)) h)

    pub constraint-parts : number_at p 0 ≤ 16 → weighed_of (parts_only (parts_at (number_at p 0) S (drop 1 p))) ≡ weighed_of (constraint_at S p)
    constraint-parts h = rw (constraint-is S p, number_fits_lem 1 16 p (omega (arith, one)) h)

-- ---- the loop over the n kept value constraints: i are walked, and the rest gives the whole's answer

pub record KeptLeft (program : List ℤ) (S : Cells) (c : List ℤ) (n i : ℕ) (a r : Bool) : Type 0 where
  pub inside : i ≤ n
  pub rest : weighed_from a r (weighed_of (kept_parts program S (listed (position_at c Values) i (n - i)))) ≡ weighed_of (kept_parts program S (positions c Values))

pub kept-start : {program : List ℤ} {S : Cells} {c : List ℤ} {n : ℕ} → n ≡ kept_count c Values → KeptLeft program S c n 0 true true
kept-start {program = program} {S = S} {c = c} {n = n} e =
    let z : n - 0 ≡ n = omega arith in
    record { inside = omega arith; rest = rw (z, positions-are c Values, e) (from-none (weighed_of (kept_parts program S (listed (position_at c Values) 0 (kept_count c Values))))) }

module _ {program : List ℤ} {S : Cells} {c : List ℤ} {n i : ℕ} {a r : Bool} (inv : KeptLeft program S c n i a r) where
  module _ (more : i < n) {g : Result Weighed Refusal} {q : List ℤ} (l : q ≡ drop 1 (drop (position_at c Values i) program)) (e : g ≡ weighed_of (constraint_at S q)) where
    kept-turn : weighed_from a r (weighed_of (fifteen (constraint_at S q) >>= λ xs. kept_parts program S (listed (position_at c Values) (i + 1) (n - (i + 1))) >>= λ ys. got (xs ++ ys)))
        ≡ weighed_of (kept_parts program S (positions c Values))
    kept-turn =
        let z : n - i ≡ suc (n - (i + 1)) = omega arith in
        let k : drop (position_at c Values i + 1) program ≡ q = sym (l ∙ drop-drop 1 (position_at c Values i) program) in
        let y : suc i ≡ i + 1 = sym (add-one i) in
        rw (z, listed_more (position_at c Values) i (n - (i + 1)), kept_more program S (position_at c Values i) (listed (position_at c Values) (suc i) (n - (i + 1))), kept-is program S (position_at c Values i), k, y) at inv.rest

    pub kept-stop : {f : Refusal} → g ≡ Err f → Err (refusal 15 f.word) ≡ weighed_of (kept_parts program S (positions c Values))
    kept-stop h = by (constraint_at S q) _ (sym e ∙ h) ∙ kept-turn
      where
        by : {f : Refusal} (m : Res (List Part)) (next : List Part → Res (List Part)) → weighed_of m ≡ Err f → Err (refusal 15 f.word) ≡ weighed_from a r (weighed_of (fifteen m >>= next))
        by (got x) next e = cc
        by {f = f} (stop x) next e = let y : x ≡ f = cc in rw y

    pub kept-go-on : {w : Weighed} → g ≡ Ok w → KeptLeft program S c n (i + 1) (a && w.all) (r && w.required)
    kept-go-on h = record { inside = omega arith; rest = by (constraint_at S q) (kept_parts program S (listed (position_at c Values) (i + 1) (n - (i + 1)))) (sym e ∙ h) ∙ kept-turn }
      where
        by : {w : Weighed} (k m : Res (List Part)) → weighed_of k ≡ Ok w
            → weighed_from (a && w.all) (r && w.required) (weighed_of m) ≡ weighed_from a r (weighed_of (fifteen k >>= λ xs. m >>= λ ys. got (xs ++ ys)))
        by {w = w} (got xs) m e = let y : w ≡ reading (all_hold xs) (required_hold xs) = cc in rw y (from_parts a r xs m)
        by (stop f) m e = absurd cc

  pub kept-end : n ≤ i → Ok (reading a r) ≡ weighed_of (kept_parts program S (positions c Values))
  kept-end h = let z : n - i ≡ 0 = omega arith in sym (from_end a r) ∙ (rw (z, listed-none (position_at c Values) i, kept-none program S) at inv.rest)

-- ---- a statement's own C, and the kept ones

pub own-absent : (S : Cells) → Ok (reading true true) ≡ weighed_of (own_parts S None)
own-absent S = rw (own-none S, all_none, required-none)

pub own-there : (S : Cells) (p : List ℤ) → weighed_of (constraint_at S p) ≡ weighed_of (own_parts S (Some p))
own-there S p = rw (own-some S p)

module _ (program : List ℤ) (S : Cells) (kept : List ℤ) (own : Option (List ℤ)) {g : Result Weighed Refusal} (e : g ≡ weighed_of (own_parts S own)) where
  pub counted-own : {f : Refusal} → g ≡ Err f → Err f ≡ weighed_of (counted program kept own S)
  counted-own h = rw (counted_is program S kept own) (by (own_parts S own) _ (sym e ∙ h))
    where
      by : {f : Refusal} (m : Res (List Part)) (next : List Part → Res (List Part)) → weighed_of m ≡ Err f → Err f ≡ weighed_of (m >>= next)
      by (got x) next e = cc
      by (stop x) next e = cc

  module _ {x : Weighed} (there : g ≡ Ok x) {v : Result Weighed Refusal} (k : v ≡ weighed_of (kept_parts program S (positions kept Values))) where
    pub counted-kept : {f : Refusal} → v ≡ Err f → Err f ≡ weighed_of (counted program kept own S)
    counted-kept h = rw (counted_is program S kept own) (by (own_parts S own) (kept_parts program S (positions kept Values)) (sym e ∙ there) (sym k ∙ h))
      where
        by : {f : Refusal} (m o : Res (List Part)) → weighed_of m ≡ Ok x → weighed_of o ≡ Err f → Err f ≡ weighed_of (m >>= λ mine. o >>= λ others. got (others ++ mine))
        by (got y) (got z) e h = cc
        by (got y) (stop f) e h = cc
        by (stop f) o e h = absurd cc

    pub counted-both : {y : Weighed} → v ≡ Ok y → Ok (reading (y.all && x.all) (y.required && x.required)) ≡ weighed_of (counted program kept own S)
    counted-both h = rw (counted_is program S kept own) (by (own_parts S own) (kept_parts program S (positions kept Values)) (sym e ∙ there) (sym k ∙ h))
      where
        by : {y : Weighed} (m o : Res (List Part)) → weighed_of m ≡ Ok x → weighed_of o ≡ Ok y
            → Ok (reading (y.all && x.all) (y.required && x.required)) ≡ weighed_of (m >>= λ mine. o >>= λ others. got (others ++ mine))
        by {y = y} (got xs) (got ys) e h =
            let a : x ≡ reading (all_hold xs) (required_hold xs) = cc in
            let b : y ≡ reading (all_hold ys) (required_hold ys) = cc in
            rw (a, b, all_both ys xs, required-both ys xs)
        by (got xs) (stop f) e h = absurd cc
        by (stop f) o e h = absurd cc
