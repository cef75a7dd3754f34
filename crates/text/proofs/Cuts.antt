-- The words of a piece are cut off a list in one way only, whether the papers' notation or document 01 says what they are; so limits that hold of the whole hold of each part. Assumes nothing.
use mathlib.Core.Path.{◌≡◌, refl, sym, ap, ◌∙◌}
use mathlib.Core.Bool.{Bool}
use mathlib.Core.List.{List, [], ◌∷◌, ◌++◌, append-nil, append_assoc}
use Prim.Native.Nat.{ℕ, suc, ◌+◌, ◌≤◌}
use native.Mathlib.Omega.{arith}
use lib.IntN.{ℤ, pos}
use lib.ListN.{length}
use Rattle.program.specs.Forms.{most_steps}
use Rattle.program.specs.Grammar.{Labels as LabelsOf, Path as PathOf, Expression as Of}
use Rattle.tokens.specs.declared.Token.{Token}
use Rattle.text.specs.Grammar.{Meaning, Labels, Path, Expression}

pub heads : {a b : ℕ} {s t : List ℤ} → pos a ∷ s ≡ pos b ∷ t → a ≡ b
heads e = cc

pub tails : {A : Type 0} {a b : A} {s t : List A} → a ∷ s ≡ b ∷ t → s ≡ t
tails e = cc

-- ---- paths

labels-of-length : {n : ℕ} {p : List ℤ} → LabelsOf n p → length p ≡ n
labels-of-length LabelsOf.none = refl
labels-of-length (LabelsOf.one h l) = ap suc (labels-of-length l)

-- "n (0 to 7)"
pub path-of-length : {p : List ℤ} → PathOf p → length p ≤ most_steps + 2
path-of-length (PathOf.path h k l) = omega (arith, labels-of-length l)

labels-cut : {M : Meaning} {n m : ℕ} {ts : List Token} {ws p x y : List ℤ} {os : List ℕ} → Labels M n ts ws os → LabelsOf m p → n ≡ m → ws ++ x ≡ p ++ y → (ws ≡ p) × (x ≡ y)
labels-cut Labels.none LabelsOf.none e q = (refl, q)
labels-cut Labels.none (LabelsOf.one h l) e q = absurd (omega arith)
labels-cut (Labels.one a b c d f) LabelsOf.none e q = absurd (omega arith)
labels-cut (Labels.one a b c d f) (LabelsOf.one h l) e q = let i = labels-cut f l (omega arith) (tails q) in (cc (i.0, q), i.1)

pub path-cut : {M : Meaning} {ts : List Token} {ws p x y : List ℤ} {os : List ℕ} → Path M ts ws os → PathOf p → ws ++ x ≡ p ++ y → (ws ≡ p) × (x ≡ y)
path-cut (Path.path x a f) (PathOf.path h k l) q = let i = labels-cut f l (heads (tails q)) (tails (tails q)) in (cc (i.0, q), i.1)

-- ---- the forms of an expression by their first word

module _ {in_c : Bool} where
  pub as-nil : {d : ℕ} {p x y : List ℤ} → Of in_c d p → pos 20 ∷ x ≡ p ++ y → (p ≡ pos 20 ∷ []) × (x ≡ y)
  as-nil Of.nil q = (refl, tails q)
  as-nil Of.no q = absurd (omega (arith, heads q))
  as-nil Of.yes q = absurd (omega (arith, heads q))
  as-nil Of.integer q = absurd (omega (arith, heads q))
  as-nil (Of.at x) q = absurd (omega (arith, heads q))
  as-nil (Of.operation m n x y) q = absurd (omega (arith, heads q))
  as-nil (Of.identity z x y) q = absurd (omega (arith, heads q))

  pub as-no : {d : ℕ} {p x y : List ℤ} → Of in_c d p → pos 21 ∷ x ≡ p ++ y → (p ≡ pos 21 ∷ []) × (x ≡ y)
  as-no Of.nil q = absurd (omega (arith, heads q))
  as-no Of.no q = (refl, tails q)
  as-no Of.yes q = absurd (omega (arith, heads q))
  as-no Of.integer q = absurd (omega (arith, heads q))
  as-no (Of.at x) q = absurd (omega (arith, heads q))
  as-no (Of.operation m n x y) q = absurd (omega (arith, heads q))
  as-no (Of.identity z x y) q = absurd (omega (arith, heads q))

  pub as-yes : {d : ℕ} {p x y : List ℤ} → Of in_c d p → pos 22 ∷ x ≡ p ++ y → (p ≡ pos 22 ∷ []) × (x ≡ y)
  as-yes Of.nil q = absurd (omega (arith, heads q))
  as-yes Of.no q = absurd (omega (arith, heads q))
  as-yes Of.yes q = (refl, tails q)
  as-yes Of.integer q = absurd (omega (arith, heads q))
  as-yes (Of.at x) q = absurd (omega (arith, heads q))
  as-yes (Of.operation m n x y) q = absurd (omega (arith, heads q))
  as-yes (Of.identity z x y) q = absurd (omega (arith, heads q))

  pub as-integer : {d : ℕ} {p x y : List ℤ} {w : ℤ} → Of in_c d p → pos 23 ∷ w ∷ x ≡ p ++ y → (p ≡ pos 23 ∷ w ∷ []) × (x ≡ y)
  as-integer Of.nil q = absurd (omega (arith, heads q))
  as-integer Of.no q = absurd (omega (arith, heads q))
  as-integer Of.yes q = absurd (omega (arith, heads q))
  as-integer Of.integer q = (cc, tails (tails q))
  as-integer (Of.at x) q = absurd (omega (arith, heads q))
  as-integer (Of.operation m n x y) q = absurd (omega (arith, heads q))
  as-integer (Of.identity z x y) q = absurd (omega (arith, heads q))

  pub as-path : {d : ℕ} {p x y : List ℤ} → Of in_c d p → pos 24 ∷ x ≡ p ++ y → (a : List ℤ) × ((p ≡ pos 24 ∷ a) × (PathOf a × (x ≡ a ++ y)))
  as-path Of.nil q = absurd (omega (arith, heads q))
  as-path Of.no q = absurd (omega (arith, heads q))
  as-path Of.yes q = absurd (omega (arith, heads q))
  as-path Of.integer q = absurd (omega (arith, heads q))
  as-path (Of.at {a = a} z) q = (a, (refl, (z, tails q)))
  as-path (Of.operation m n x y) q = absurd (omega (arith, heads q))
  as-path (Of.identity z x y) q = absurd (omega (arith, heads q))

  pub as-operation : {d : ℕ} {p x y : List ℤ} {k : ℕ} → Of in_c d p → pos 25 ∷ pos k ∷ x ≡ p ++ y → (e : ℕ) × ((d ≡ suc e) × ((a : List ℤ) × ((b : List ℤ) × ((p ≡ pos 25 ∷ pos k ∷ a ++ b) × (Of in_c e a × (Of in_c e b × (x ≡ a ++ (b ++ y))))))))
  as-operation Of.nil q = absurd (omega (arith, heads q))
  as-operation Of.no q = absurd (omega (arith, heads q))
  as-operation Of.yes q = absurd (omega (arith, heads q))
  as-operation Of.integer q = absurd (omega (arith, heads q))
  as-operation (Of.at x) q = absurd (omega (arith, heads q))
  as-operation {y = y} (Of.operation {d = e} {a = a} {b = b} m n f g) q = (e, (refl, (a, (b, (cc, (f, (g, tails (tails q) ∙ append_assoc a b y)))))))
  as-operation (Of.identity z x y) q = absurd (omega (arith, heads q))

  pub as-identity : {d : ℕ} {p x y : List ℤ} → Of in_c d p → pos 26 ∷ x ≡ p ++ y → (a : List ℤ) × ((b : List ℤ) × ((p ≡ pos 26 ∷ a ++ b) × (PathOf a × (PathOf b × (x ≡ a ++ (b ++ y))))))
  as-identity Of.nil q = absurd (omega (arith, heads q))
  as-identity Of.no q = absurd (omega (arith, heads q))
  as-identity Of.yes q = absurd (omega (arith, heads q))
  as-identity Of.integer q = absurd (omega (arith, heads q))
  as-identity (Of.at x) q = absurd (omega (arith, heads q))
  as-identity (Of.operation m n x y) q = absurd (omega (arith, heads q))
  as-identity {y = y} (Of.identity {a = a} {b = b} z f g) q = (a, (b, (refl, (f, (g, tails q ∙ append_assoc a b y)))))

-- ---- expressions

pub expression-cut : {M : Meaning} {in_c : Bool} {l d : ℕ} {ts : List Token} {ws p x y : List ℤ} {os : List ℕ}
    → Expression M in_c l ts ws os → Of in_c d p → ws ++ x ≡ p ++ y → (ws ≡ p) × (x ≡ y)
expression-cut (Expression.nil t e) f q = let i = as-nil f q in (sym i.0, i.1)
expression-cut (Expression.no t e) f q = let i = as-no f q in (sym i.0, i.1)
expression-cut (Expression.yes t e) f q = let i = as-yes f q in (sym i.0, i.1)
expression-cut (Expression.number t e) f q = let i = as-integer f q in (sym i.0, i.1)
expression-cut (Expression.at t z) f q =
    let i = as-path f q in let j = path-cut z i.1.1.0 i.1.1.1 in
    (ap (λ ws. pos 24 ∷ ws) j.0 ∙ sym i.1.0, j.1)
expression-cut {x = x} (Expression.identity e {va = va} {vb = vb} n z c w) f q =
    let i = as-identity f q in
    let j = path-cut z i.1.1.1.0 (sym (append_assoc va vb x) ∙ i.1.1.1.1.1) in
    let k = path-cut w i.1.1.1.1.0 j.1 in
    (cc (j.0, k.0, i.1.1.0), k.1)
expression-cut (Expression.brackets o c a z b) f q = expression-cut z f q
expression-cut (Expression.tighter h z) f q = expression-cut z f q
expression-cut {x = x} (Expression.operation o {va = va} {vb = vb} z c h w) f q =
    let i = as-operation f q in
    let j = expression-cut z i.1.1.1.1.1.0 (sym (append_assoc va vb x) ∙ i.1.1.1.1.1.1.1) in
    let k = expression-cut w i.1.1.1.1.1.1.0 j.1 in
    (cc (j.0, k.0, i.1.1.1.1.0), k.1)

pub path-part : {in_c : Bool} {d : ℕ} {ws : List ℤ} → Of in_c d (pos 24 ∷ ws) → PathOf ws
path-part {ws = ws} f = let i = as-path f (sym (append-nil (pos 24 ∷ ws))) in rw (tails i.1.0) i.1.1.0

pub identity-parts : {M : Meaning} {in_c : Bool} {d : ℕ} {ts : List Token} {va vb : List ℤ} {os : List ℕ} → Path M ts va os → Of in_c d (pos 26 ∷ va ++ vb) → PathOf va × PathOf vb
identity-parts {va = va} {vb = vb} z f =
    let i = as-identity f (sym (append-nil (pos 26 ∷ va ++ vb))) in
    let j = path-cut z i.1.1.1.0 i.1.1.1.1.1 in
    (rw j.0 i.1.1.1.0, rw (j.1 ∙ append-nil i.1.0) i.1.1.1.1.0)

pub operation-parts : {M : Meaning} {in_c : Bool} {l d k : ℕ} {ts : List Token} {va vb : List ℤ} {os : List ℕ}
    → Expression M in_c l ts va os → Of in_c d (pos 25 ∷ pos k ∷ va ++ vb) → (e : ℕ) × ((d ≡ suc e) × (Of in_c e va × Of in_c e vb))
operation-parts {in_c = in_c} {d = d} {k = k} {va = va} {vb = vb} z f = by (as-operation f (sym (append-nil (pos 25 ∷ pos k ∷ va ++ vb))))
  where
    to : {e : ℕ} (a b : List ℤ) → d ≡ suc e → Of in_c e a → Of in_c e b → va ≡ a → vb ≡ b → (e : ℕ) × ((d ≡ suc e) × (Of in_c e va × Of in_c e vb))
    to {e} a b q x y m n = (e, (q, (rw m x, rw n y)))

    by : (e : ℕ) × ((d ≡ suc e) × ((a : List ℤ) × ((b : List ℤ) × ((pos 25 ∷ pos k ∷ va ++ vb ≡ pos 25 ∷ pos k ∷ a ++ b) × (Of in_c e a × (Of in_c e b × (va ++ vb ≡ a ++ (b ++ []))))))))
        → (e : ℕ) × ((d ≡ suc e) × (Of in_c e va × Of in_c e vb))
    by (e, (q, (a, (b, (h, (x, (y, c))))))) = let j = expression-cut z x c in to a b q x y j.0 (j.1 ∙ append-nil b)
