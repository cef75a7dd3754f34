-- The grammar yields the parts of a constraint and the fields of a record in one way. Assumes nothing.
use mathlib.Core.Path.{◌≡◌, refl, sym, ap, ◌∙◌}
use mathlib.Core.Bool.{Bool, true, false}
use mathlib.Core.List.{List, ◌∷◌, ◌++◌, append_assoc}
use Prim.Native.Nat.{ℕ, suc, ◌+◌, ◌≤◌}
use native.Mathlib.Omega.{arith}
use lib.IntN.{ℤ}
use Rattle.tokens.specs.declared.Token.{Token}
use Rattle.tokens.specs.Codes.{new_code, weak_code}
use Rattle.tokens.specs.Codes.{colon_code, comma_code, dot_code, identical_code, beside_code}
use Rattle.text.specs.Reading.{is_operator}
use Rattle.text.specs.Grammar.{Meaning, Path, Expression, Part, Parts, Constraint, Fields}
use Rattle.text.proofs.Cuts.{tails}
use Rattle.text.proofs.OperatorsRead.{stops-by}
use Rattle.text.proofs.OneExpression.{first, codes, Same, Not, Stopped, stopped-at, expression-one}

-- ---- how an expression begins

-- not with a priority, and not with `new`
pub record Begins (t : Token) : Type 0 where
  pub unsaid : {k : ℕ} → 1 ≤ k → k ≤ 3 → t.code + 1 ≡ weak_code + k → ⊥
  pub unmade : t.code ≡ new_code → ⊥

begins-path : {M : Meaning} {a : List Token} (r : List Token) {ws : List ℤ} {os : List ℕ} (t : Token) (us : List Token) → Path M a ws os → a ++ r ≡ t ∷ us → Begins t
begins-path r t us (Path.path x n f) q = let c = codes q in record { unsaid = λ h k e. omega arith; unmade = λ e. omega arith }

pub begins : {M : Meaning} {in_c : Bool} {l : ℕ} {a : List Token} (r : List Token) {ws : List ℤ} {os : List ℕ} (t : Token) (us : List Token) → Expression M in_c l a ws os
    → a ++ r ≡ t ∷ us → Begins t
begins r t us (Expression.nil x n) q = let c = codes q in record { unsaid = λ h k e. omega arith; unmade = λ e. omega arith }
begins r t us (Expression.no x n) q = let c = codes q in record { unsaid = λ h k e. omega arith; unmade = λ e. omega arith }
begins r t us (Expression.yes x n) q = let c = codes q in record { unsaid = λ h k e. omega arith; unmade = λ e. omega arith }
begins r t us (Expression.number x n) q = let c = codes q in record { unsaid = λ h k e. omega arith; unmade = λ e. omega arith }
begins r t us (Expression.at x p) q = begins-path r t us p q
begins r t us (Expression.identity {a = a} {b = b} e h p n w) q = begins-path (e ∷ (b ++ r)) t us p (sym (append_assoc a (e ∷ b) r) ∙ q)
begins r t us (Expression.brackets o c n p w) q = let c = codes q in record { unsaid = λ h k e. omega arith; unmade = λ e. omega arith }
begins r t us (Expression.tighter h p) q = begins r t us p q
begins r t us (Expression.operation {a = a} {b = b} o p n v w) q = begins (o ∷ (b ++ r)) t us p (sym (append_assoc a (o ∷ b) r) ∙ q)

-- what follows an expression where it ends by a token of such a code
pub ends_by : {in_c : Bool} (c : ℕ) {t : Token} {us : List Token} → t.code ≡ c → (c ≡ dot_code → ⊥) → (c ≡ colon_code → ⊥) → (c ≡ identical_code → ⊥) → is_operator c ≡ false
    → Stopped in_c 0 (t ∷ us)
ends_by c {t} e d f g h = stopped-at (stops-by c t e d f g h)

module _ (M : Meaning) where
  -- ---- constraints

  part-one : {a b : List Token} (r s : List Token) {ws vs : List ℤ} {os us : List ℕ} → Part M a ws os → Part M b vs us → a ++ r ≡ b ++ s → Stopped true 0 r → Stopped true 0 s
      → Same r s ws vs os us
  part-one r s (Part.said {k = k} t h m n x) (Part.said {k = l} u h' m' n' y) q f g =
      let i = expression-one M true r s x y (tails q) f g in
      let e : k ≡ l = omega (arith, codes q) in
      record { rest = i.rest; words = cc (e, i.words); origins = cc (first q, i.origins) }
  part-one r s (Part.said t {ts = ts} h m n x) (Part.unsaid u y) q f g = absurd ((begins s t (ts ++ r) y (sym q)).unsaid h m n)
  part-one r s (Part.unsaid u y) (Part.said t {ts = ts} h m n x) q f g = absurd ((begins r t (ts ++ s) y q).unsaid h m n)
  part-one r s (Part.unsaid t x) (Part.unsaid u y) q f g =
      let i = expression-one M true r s x y q f g in
      record { rest = i.rest; words = cc i.words; origins = cc (first q, i.origins) }

  joined : {t : Token} {us : List Token} → t.code ≡ beside_code → Stopped true 0 (t ∷ us)
  joined e = ends_by beside_code e (λ z. omega arith) (λ z. omega arith) (λ z. omega arith) refl

  parts-one : {n m : ℕ} {a b : List Token} (r s : List Token) {ws vs : List ℤ} {os us : List ℕ} → Parts M n a ws os → Parts M m b vs us → a ++ r ≡ b ++ s
      → Stopped true 0 r → Stopped true 0 s → Not beside_code r → Not beside_code s → (n ≡ m) × Same r s ws vs os us
  parts-one r s (Parts.one x) (Parts.one y) q f g h k = (refl, part-one r s x y q f g)
  parts-one r s (Parts.one x) (Parts.more {a = a} {b = b} j y n z) q f g h k =
      let i = part-one r (j ∷ (b ++ s)) x y (q ∙ append_assoc a (j ∷ b) s) f (joined n) in absurd (h j (b ++ s) i.rest n)
  parts-one r s (Parts.more {a = a} {b = b} j y n z) (Parts.one x) q f g h k =
      let i = part-one (j ∷ (b ++ r)) s y x (sym (append_assoc a (j ∷ b) r) ∙ q) (joined n) g in absurd (k j (b ++ r) (sym i.rest) n)
  parts-one r s (Parts.more {a = a} {b = b} j x n y) (Parts.more {a = a'} {b = b'} j' x' n' y') q f g h k =
      let i = part-one (j ∷ (b ++ r)) (j' ∷ (b' ++ s)) x x' (sym (append_assoc a (j ∷ b) r) ∙ q ∙ append_assoc a' (j' ∷ b') s) (joined n) (joined n') in
      let l = parts-one r s y y' (tails i.rest) f g h k in
      (ap suc l.0, record { rest = l.1.rest; words = cc (i.words, l.1.words); origins = cc (i.origins, l.1.origins) })

  pub constraint-one : {a b : List Token} (r s : List Token) {ws vs : List ℤ} {os us : List ℕ} → Constraint M a ws os → Constraint M b vs us → a ++ r ≡ b ++ s
      → Stopped true 0 r → Stopped true 0 s → Not beside_code r → Not beside_code s → Same r s ws vs os us
  constraint-one r s (Constraint.constraint t x) (Constraint.constraint u y) q f g h k =
      let i = parts-one r s x y q f g h k in
      record { rest = i.1.rest; words = cc (i.0, i.1.words); origins = cc (first q, i.1.origins) }

  -- ---- fields

  parted : {t : Token} {us : List Token} → t.code ≡ comma_code → Stopped false 0 (t ∷ us)
  parted e = ends_by comma_code e (λ z. omega arith) (λ z. omega arith) (λ z. omega arith) refl

  pub fields-one : {n m : ℕ} {a b : List Token} (r s : List Token) {ws vs : List ℤ} {os us : List ℕ} → Fields M n a ws os → Fields M m b vs us → a ++ r ≡ b ++ s
      → Stopped false 0 r → Stopped false 0 s → Not comma_code r → Not comma_code s → (n ≡ m) × Same r s ws vs os us
  fields-one r s (Fields.one l c n m x) (Fields.one l' c' n' m' y) q f g h k =
      let i = expression-one M false r s x y (tails (tails q)) f g in
      (refl, record { rest = i.rest; words = cc (first q, i.words); origins = cc (first q, i.origins) })
  fields-one r s (Fields.one l c n m x) (Fields.more l' c' j {a = a} {b = b} n' m' y p z) q f g h k =
      let i = expression-one M false r (j ∷ (b ++ s)) x y (tails (tails q) ∙ append_assoc a (j ∷ b) s) f (parted p) in absurd (h j (b ++ s) i.rest p)
  fields-one r s (Fields.more l c j {a = a} {b = b} n m x p z) (Fields.one l' c' n' m' y) q f g h k =
      let i = expression-one M false (j ∷ (b ++ r)) s x y (sym (append_assoc a (j ∷ b) r) ∙ tails (tails q)) (parted p) g in absurd (k j (b ++ r) (sym i.rest) p)
  fields-one r s (Fields.more l c j {a = a} {b = b} n m x p z) (Fields.more l' c' j' {a = a'} {b = b'} n' m' x' p' z') q f g h k =
      let i = expression-one M false (j ∷ (b ++ r)) (j' ∷ (b' ++ s)) x x' (sym (append_assoc a (j ∷ b) r) ∙ tails (tails q) ∙ append_assoc a' (j' ∷ b') s) (parted p) (parted p')
      in
      let v = fields-one r s z z' (tails i.rest) f g h k in
      (ap suc v.0, record { rest = v.1.rest; words = cc (first q, i.words, v.1.words); origins = cc (first q, i.origins, v.1.origins) })
