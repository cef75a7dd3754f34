-- What the code of expressions without an operator comes to. Assumes nothing.
use Rattle.std.specs.Prelude.{None, Option, Some, Result, Ok, Err}
use mathlib.Core.Path.{◌≡◌, refl, sym, ap, ◌∙◌}
use mathlib.Core.Bool.{Bool, true, false}
use mathlib.Core.List.{List}
use Prim.Native.Nat.{ℕ, ◌-◌, ◌≤◌, ◌<◌}
use native.Mathlib.Omega.{arith}
use lib.IntN.{ℤ}
use lib.ListN.{length, drop, length-drop}
use Rattle.words.specs.Words.{word_at, number_at, last_of}
use Rattle.words.specs.Answer.{Answer, got, stop, ◌>>=◌}
use Rattle.tables.specs.declared.Value.{Value}
use Rattle.tables.specs.declared.Value.TheVariants.{Bool as Truth, Int}
use Rattle.tables.specs.Cells.{Cells}
use Rattle.program.proofs.NumberLaws.{any-fits, any-short}
use Rattle.program.proofs.LengthLaws.{Part}
use Rattle.rules.specs.State.{Res, or_refuse, slot_at, present}
use Rattle.rules.specs.Paths.{Way, follow, value_at}
use Rattle.rules.specs.Evaluation.{same, evaluate}
use Rattle.rules.proofs.PathClauses.{way-variable, way-steps, way-is, value-is}
use Rattle.rules.proofs.KindClauses.{kind_first, kind-identity, kind-leaf}
use Rattle.expressions.specs.declared.Evaluated.{Evaluated}
use Rattle.expressions.specs.declared.Valued.{Valued}
use Rattle.program.specs.declared.Refusal.{Refusal}
use Rattle.expressions.specs.Judging.{refusal}
use Rattle.expressions.specs.Told.{evaluated_of}
use Rattle.expressions.specs.Following.{landed, slot_in}
use Rattle.expressions.specs.Valuing.{known, judged_of, value_only, valued_at, literal_of, identity_of}
use Rattle.expressions.proofs.PathLaws.{cell_only, land-follow}

-- ---- a literal

pub literal-short : (q : List ℤ) → length q ≡ 0 → Err (refusal 2 0) ≡ value_only (literal_of q)
literal-short q h = rw (any-short q (omega arith), h)

pub literal-there : (q : List ℤ) → (length q ≡ 0 → ⊥) → Ok (known (Int (word_at q 0)) (length q - 1)) ≡ value_only (literal_of q)
literal-there q h = rw (any-fits q (omega (arith, h)), length-drop 1 q)

-- ---- a path

-- what the code answers where a path led to a value or to nothing
abbrev pub path_by : ℕ → ℕ → Option Value → Result Valued Refusal
path_by word left (Some v) = Ok (known v left)
path_by word left None = Err (refusal 7 word)

module _ (S : Cells) (q : List ℤ) where
  pub path-variable : 64 ≤ number_at q 0 → Err (refusal 2 (length q)) ≡ value_only (value_at S q)
  path-variable h = rw (value-is S q, way-variable S q h)

  module _ (v : number_at q 0 < 64) where
    pub path-steps : 7 < number_at (drop 1 q) 0 → Err (refusal 2 (length (drop 1 q))) ≡ value_only (value_at S q)
    path-steps h = rw (value-is S q, way-steps S q v h)

    pub path-is : number_at (drop 1 q) 0 ≤ 7 → {s : (Option Value)} → s ≡ slot_in S (landed S (number_at (drop 1 q) 0) (number_at q 0) (drop 1 (drop 1 q)))
        → path_by (length q) (length (drop 1 (drop 1 q)) - number_at (drop 1 q) 0) s ≡ value_only (value_at S q)
    path-is few e =
        rw (value-is S q, way-is S q v few)
        (by (follow S (number_at (drop 1 q) 0) (number_at q 0) (drop 1 (drop 1 q))) (e ∙ ap (slot_in S) (land-follow S (number_at (drop 1 q) 0) (number_at q 0) (drop 1 (drop 1 q)))))
      where
        there : (s : Option Value) → path_by (length q) (length (drop 1 (drop 1 q)) - number_at (drop 1 q) 0) s ≡ value_only (or_refuse 7 q (present s) >>= λ v. got (v, drop (number_at (drop 1 q) 0) (drop 1 (drop 1 q))))
        there (Some v) = rw (length-drop (number_at (drop 1 q) 0) (drop 1 (drop 1 q)))
        there None = refl

        by : {s : (Option Value)} (m : Answer (Unit {0}) (ℕ × List ℕ)) → s ≡ slot_in S (cell_only m)
            → path_by (length q) (length (drop 1 (drop 1 q)) - number_at (drop 1 q) 0) s
            ≡ value_only (◌>>=◌ {A = Way} (or_refuse 7 q m >>= λ x. got (record { cell = x.0; prefix = x.1; rest = drop (number_at (drop 1 q) 0) (drop 1 (drop 1 q)) })) (λ w. or_refuse 7 q (present (slot_at S w.cell)) >>= λ v. got (v, w.rest)))
        by (got x) e = rw e (there (slot_at S x.0))
        by (stop u) e = rw e

-- ---- L == L

-- a piece that is refused ends the whole
fails-on : {r : Result Evaluated Refusal} {e : Refusal} (m : Res (Value × List ℤ)) (f : Value × List ℤ → Res (Value × List ℤ)) → r ≡ evaluated_of m → r ≡ Err e → Err e ≡ value_only (m >>= f)
fails-on (got x) f i h = cc
fails-on (stop x) f i h = cc

-- a piece that answers leaves the part that the number of words left tells
pub got-on : {r : Result Evaluated Refusal} {a : Evaluated} {p q : List ℤ} (m : Res (Value × List ℤ)) → ((x : Value × List ℤ) → m ≡ got x → Part p x.1)
    → r ≡ evaluated_of m → r ≡ Ok a → q ≡ last_of a.left p → m ≡ got (a.value, q)
got-on {a = a} {p = p} {q = q} (got x) w e h l =
    let i : a ≡ record { value = x.0; left = length x.1 } = cc in
    let v : a.value ≡ x.0 = ap (λ (y : Evaluated). y.value) i in
    let n : a.left ≡ length x.1 = ap (λ (y : Evaluated). y.left) i in
    let c : q ≡ x.1 = l ∙ (rw n (w x refl).is) in
    let y : x ≡ (a.value, q) = rw (v, c) in
    ap got y
got-on (stop x) w e h l = cc

module _ (S : Cells) (q : List ℤ) where
  pub identity-left : {r : Result Evaluated Refusal} {e : Refusal} → r ≡ evaluated_of (value_at S q) → r ≡ Err e → Err e ≡ value_only (identity_of S q)
  identity-left i h = fails-on (value_at S q) _ i h

  module _ {a : Value} {t : List ℤ} (l : value_at S q ≡ got (a, t)) where
    pub identity-right : {r : Result Evaluated Refusal} {e : Refusal} → r ≡ evaluated_of (value_at S t) → r ≡ Err e → Err e ≡ value_only (identity_of S q)
    identity-right i h = rw l (fails-on (value_at S t) _ i h)

    pub identity-both : {r : Result Evaluated Refusal} {b : Evaluated} → r ≡ evaluated_of (value_at S t) → r ≡ Ok b → Ok (known (Truth (same a b.value)) b.left) ≡ value_only (identity_of S q)
    identity-both e h = rw l (by (value_at S t) (sym e ∙ h))
      where
        by : {b : Evaluated} (m : Res (Value × List ℤ)) → evaluated_of m ≡ Ok b → Ok (known (Truth (same a b.value)) b.left) ≡ value_only (m >>= λ b. got (Truth (same a b.0), b.1))
        by {b = b} (got x) e = let c : b ≡ record { value = x.0; left = length x.1 } = cc in rw c
        by (stop x) e = cc

-- ---- any of them

module _ (S : Cells) (p : List ℤ) (d : ℕ) where
  -- its kind is that of its value, so that it comes to the same inside C and outside
  pub leaf-valued : (inside : Bool) → (number_at p 0 ≡ 25 → ⊥) → (number_at p 0 ≡ 26 → ⊥) → value_only (evaluate d S p) ≡ valued_at inside d S p
  unfolding valued_at
  leaf-valued true a b = rw (kind-leaf S d p a b) (by (evaluate d S p))
    where
      by : (m : Res (Value × List ℤ)) → value_only m ≡ judged_of (kind_first m) m
      by (got x) = refl
      by (stop f) = refl
  leaf-valued false a b = refl

  -- so what the code answers from its value is right
  pub leaf-is : (inside : Bool) {m : Res (Value × List ℤ)} {r : Result Valued Refusal} → (number_at p 0 ≡ 25 → ⊥) → (number_at p 0 ≡ 26 → ⊥) → r ≡ value_only m → m ≡ evaluate d S p → r ≡ valued_at inside d S p
  leaf-is inside a b h e = h ∙ (ap value_only e ∙ leaf-valued inside a b)

  pub identity-inside : (inside : Bool) → inside ≡ true → (d ≡ 0 → ⊥) → number_at p 0 ≡ 26 → Err (refusal 2 (length p)) ≡ valued_at inside d S p
  unfolding valued_at
  identity-inside inside i ne e = rw (i, ← kind-identity S d p ne e)

  pub identity-outside : (inside : Bool) → inside ≡ false → value_only (evaluate d S p) ≡ valued_at inside d S p
  unfolding valued_at
  identity-outside inside i = rw i
