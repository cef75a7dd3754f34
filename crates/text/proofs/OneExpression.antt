-- The grammar yields an expression in one way: what stands before a token that does not go on with it has one list of words. Assumes nothing.
use mathlib.Core.Path.{◌≡◌, refl, sym, ap, ◌∙◌}
use mathlib.Core.Bool.{Bool, false, cond}
use mathlib.Core.List.{List, [], ◌∷◌, ◌++◌, append-nil, append_assoc}
use Prim.Native.Nat.{ℕ, zero, suc, ◌+◌, ◌≤◌, ◌<◌}
use native.Mathlib.Omega.{arith}
use lib.Dec.{eqb}
use lib.IntN.{ℤ, pos}
use lib.ListN.{length, length-append}
use Rattle.tokens.specs.declared.Token.{Token}
use Rattle.tokens.specs.Codes.{name_code, number_code, true_code, false_code, nil_code, dot_code, open_bracket_code, close_bracket_code, identical_code}
use Rattle.text.specs.Grammar.{Meaning, Labels, Path, Level, Expression}
use Rattle.text.proofs.Cuts.{tails}
use Rattle.text.proofs.OperatorsRead.{is-operator, Stops, stops-looser, stops-by, stops-operator}

pub first : {a b : Token} {s t : List Token} → a ∷ s ≡ b ∷ t → a ≡ b
first e = cc

pub codes : {a b : Token} {s t : List Token} → a ∷ s ≡ b ∷ t → a.code ≡ b.code
codes e = ap (λ (t : Token). t.code) (first e)

-- two readings leave the same tokens, and have the same words and origins
pub record Same (r s : List Token) (ws vs : List ℤ) (os us : List ℕ) : Type 0 where
  pub rest : r ≡ s
  pub words : ws ≡ vs
  pub origins : os ≡ us

-- what follows does not begin with a token of this code
abbrev pub Not : ℕ → List Token → Type 0
Not c r = (t : Token) (us : List Token) → r ≡ t ∷ us → t.code ≡ c → ⊥

pub not_at : (c : ℕ) {t : Token} {us : List Token} → (t.code ≡ c → ⊥) → Not c (t ∷ us)
not_at c h u vs e z = h (codes e ∙ z)

-- ---- paths

module _ (M : Meaning) where
  labels-one : {n m : ℕ} {a b : List Token} (r s : List Token) {ws vs : List ℤ} {os us : List ℕ} → Labels M n a ws os → Labels M m b vs us
      → a ++ r ≡ b ++ s → Not dot_code r → Not dot_code s → (n ≡ m) × Same r s ws vs os us
  labels-one r s Labels.none Labels.none q h k = (refl, record { rest = q; words = refl; origins = refl })
  labels-one r s Labels.none (Labels.one d l {ts = ts} c e f) q h k = absurd (h d (l ∷ (ts ++ s)) q c)
  labels-one r s (Labels.one d l {ts = ts} c e f) Labels.none q h k = absurd (k d (l ∷ (ts ++ r)) (sym q) c)
  labels-one r s (Labels.one d l c e f) (Labels.one d' l' c' e' f') q h k =
      let i = labels-one r s f f' (tails (tails q)) h k in
      let p : l ≡ l' = first (tails q) in
      (ap suc i.0, record { rest = i.1.rest; words = cc (p, i.1.words); origins = cc (p, i.1.origins) })

  pub path-one : {a b : List Token} (r s : List Token) {ws vs : List ℤ} {os us : List ℕ} → Path M a ws os → Path M b vs us
      → a ++ r ≡ b ++ s → Not dot_code r → Not dot_code s → Same r s ws vs os us
  path-one r s (Path.path x n f) (Path.path y m g) q h k =
      let i = labels-one r s f g (tails q) h k in
      let p : x ≡ y = first q in
      record { rest = i.1.rest; words = cc (p, i.0, i.1.words); origins = cc (p, i.1.origins) }

-- ---- levels

-- nothing that follows goes on with an expression of the level above l
abbrev pub Stopped : Bool → ℕ → List Token → Type 0
Stopped in_c l r = (t : Token) (us : List Token) → r ≡ t ∷ us → Stops in_c l t

pub stopped-at : {in_c : Bool} {l : ℕ} {t : Token} {us : List Token} → Stops in_c l t → Stopped in_c l (t ∷ us)
stopped-at s u vs e = rw (first e) at s

undotted : {in_c : Bool} {l : ℕ} {r : List Token} → Stopped in_c l r → Not dot_code r
undotted h t us e = (h t us e).undotted

level-most : {k l : ℕ} → Level k l → l ≤ 5
level-most Level.times = omega arith
level-most (Level.sums a b) = omega arith
level-most (Level.comparisons a b) = omega arith
level-most Level.both = omega arith
level-most Level.either = omega arith

module _ (M : Meaning) (in_c : Bool) where
  none_above : {l : ℕ} {ts : List Token} {ws : List ℤ} {os : List ℕ} → Expression M in_c l ts ws os → l ≤ 6
  none_above (Expression.nil t n) = omega arith
  none_above (Expression.no t n) = omega arith
  none_above (Expression.yes t n) = omega arith
  none_above (Expression.number t n) = omega arith
  none_above (Expression.at t p) = omega arith
  none_above (Expression.identity e h p n q) = omega arith
  none_above (Expression.brackets o c m p n) = omega arith
  none_above (Expression.tighter h p) = omega (arith, none_above p)
  none_above (Expression.operation o p n v q) = omega (arith, level-most v)

  -- ---- operands

  literal : Token → List ℤ
  literal t = cond (eqb t.code nil_code) (pos 20 ∷ []) (cond (eqb t.code false_code) (pos 21 ∷ []) (cond (eqb t.code true_code) (pos 22 ∷ []) (pos 23 ∷ M.integer t ∷ [])))

  places : Token → List ℕ
  places t = cond (eqb t.code number_code) (t.place ∷ t.place ∷ []) (t.place ∷ [])

  -- the forms of an operand, literals as one
  data Operand : List Token → List ℤ → List ℕ → Type 0 where
    word : (t : Token) {ws : List ℤ} {os : List ℕ} → (t.code ≡ name_code → ⊥) → (t.code ≡ open_bracket_code → ⊥) → ws ≡ literal t → os ≡ places t → Operand (t ∷ []) ws os
    path : (t : Token) {ts : List Token} {ws : List ℤ} {os : List ℕ} → Path M (t ∷ ts) ws os → Operand (t ∷ ts) (pos 24 ∷ ws) (t.place ∷ os)
    same : {a b : List Token} (e : Token) {va vb : List ℤ} {oa ob : List ℕ} → in_c ≡ false → Path M a va oa → e.code ≡ identical_code → Path M b vb ob
        → Operand (a ++ e ∷ b) (pos 26 ∷ va ++ vb) (e.place ∷ oa ++ ob)
    brackets : {ts : List Token} (o c : Token) {ws : List ℤ} {os : List ℕ}
        → o.code ≡ open_bracket_code → Expression M in_c 1 ts ws os → c.code ≡ close_bracket_code → Operand (o ∷ ts ++ c ∷ []) ws os

  operand-of : {l : ℕ} {ts : List Token} {ws : List ℤ} {os : List ℕ} → Expression M in_c l ts ws os → 6 ≤ l → Operand ts ws os
  unfolding literal places
  operand-of (Expression.nil t n) h = Operand.word t {ws = pos 20 ∷ []} {os = t.place ∷ []} (λ z. omega arith) (λ z. omega arith) (rw n refl) (rw n refl)
  operand-of (Expression.no t n) h = Operand.word t {ws = pos 21 ∷ []} {os = t.place ∷ []} (λ z. omega arith) (λ z. omega arith) (rw n refl) (rw n refl)
  operand-of (Expression.yes t n) h = Operand.word t {ws = pos 22 ∷ []} {os = t.place ∷ []} (λ z. omega arith) (λ z. omega arith) (rw n refl) (rw n refl)
  operand-of (Expression.number t n) h = Operand.word t {ws = pos 23 ∷ M.integer t ∷ []} {os = t.place ∷ t.place ∷ []} (λ z. omega arith) (λ z. omega arith) (rw n refl)
      (rw n refl)
  operand-of (Expression.at t p) h = Operand.path t p
  operand-of (Expression.identity e m p n q) h = Operand.same e m p n q
  operand-of (Expression.brackets o c m p n) h = Operand.brackets o c m p n
  operand-of (Expression.tighter m p) h = absurd (omega (arith, none_above p))
  operand-of (Expression.operation o p n v q) h = absurd (omega (arith, level-most v))

  -- readings of level suc l of fewer than n tokens are the same
  abbrev One : ℕ → ℕ → Type 0
  One l n =
      (a b r s : List Token) (ws vs : List ℤ) (os us : List ℕ) → Expression M in_c (suc l) a ws os → Expression M in_c (suc l) b vs us → length a < n
      → a ++ r ≡ b ++ s → Stopped in_c l r → Stopped in_c l s → Same r s ws vs os us

  closes : {c : Token} {us : List Token} → c.code ≡ close_bracket_code → Stopped in_c 0 (c ∷ us)
  closes {c} n = stopped-at (stops-by close_bracket_code c n (λ z. omega arith) (λ z. omega arith) (λ z. omega arith) refl)

  operands-one : (n : ℕ) → One 0 n → {a b : List Token} (r s : List Token) {ws vs : List ℤ} {os us : List ℕ} → Operand a ws os → Operand b vs us → length a ≤ n
      → a ++ r ≡ b ++ s → Stopped in_c 5 r → Stopped in_c 5 s → Same r s ws vs os us
  operands-one n ih r s (Operand.word t x y e f) (Operand.word u x' y' e' f') l q h k =
      record { rest = tails q; words = e ∙ ap literal (first q) ∙ sym e'; origins = f ∙ ap places (first q) ∙ sym f' }
  operands-one n ih r s (Operand.word t x y e f) (Operand.path u (Path.path v m g)) l q h k = absurd (x (codes q ∙ m))
  operands-one n ih r s (Operand.word t x y e f) (Operand.same i w (Path.path v m g) j p) l q h k = absurd (x (codes q ∙ m))
  operands-one n ih r s (Operand.word t x y e f) (Operand.brackets o c m p w) l q h k = absurd (y (codes q ∙ m))
  operands-one n ih r s (Operand.path u (Path.path v m g)) (Operand.word t x y e f) l q h k = absurd (x (sym (codes q) ∙ m))
  operands-one n ih r s (Operand.path t p) (Operand.path u w) l q h k =
      let i = path-one M r s p w q (undotted h) (undotted k) in
      record { rest = i.rest; words = cc i.words; origins = cc (i.origins, first q) }
  operands-one n ih r s (Operand.path t p) (Operand.same {a = a} {b = b} e z w m v) l q h k =
      let i = path-one M r (e ∷ (b ++ s)) p w (q ∙ append_assoc a (e ∷ b) s) (undotted h) (not_at dot_code (λ z. omega arith)) in
      absurd ((h e (b ++ s) i.rest).unlike z m)
  operands-one n ih r s (Operand.path t (Path.path v m g)) (Operand.brackets o c x p w) l q h k = absurd (omega (arith, codes q))
  operands-one n ih r s (Operand.same i w (Path.path v m g) j p) (Operand.word t x y e f) l q h k = absurd (x (sym (codes q) ∙ m))
  operands-one n ih r s (Operand.same {a = a} {b = b} e z w m v) (Operand.path t p) l q h k =
      let i = path-one M (e ∷ (b ++ r)) s w p (sym (append_assoc a (e ∷ b) r) ∙ q) (not_at dot_code (λ z. omega arith)) (undotted k) in
      absurd ((k e (b ++ r) (sym i.rest)).unlike z m)
  operands-one n ih r s (Operand.same {a = a} {b = b} e z w m v) (Operand.same {a = a'} {b = b'} e' z' w' m' v') l q h k =
      let i = path-one M (e ∷ (b ++ r)) (e' ∷ (b' ++ s)) w w' (sym (append_assoc a (e ∷ b) r) ∙ q ∙ append_assoc a' (e' ∷ b') s) (not_at dot_code (λ z. omega arith))
      (not_at dot_code (λ z. omega arith)) in
      let j = path-one M r s v v' (tails i.rest) (undotted h) (undotted k) in
      record { rest = j.rest; words = cc (i.words, j.words); origins = cc (first i.rest, i.origins, j.origins) }
  operands-one n ih r s (Operand.same e z (Path.path v m g) j p) (Operand.brackets o c x y w) l q h k = absurd (omega (arith, codes q))
  operands-one n ih r s (Operand.brackets o c m p w) (Operand.word t x y e f) l q h k = absurd (y (sym (codes q) ∙ m))
  operands-one n ih r s (Operand.brackets o c x p w) (Operand.path t (Path.path v m g)) l q h k = absurd (omega (arith, codes q))
  operands-one n ih r s (Operand.brackets o c x y w) (Operand.same e z (Path.path v m g) j p) l q h k = absurd (omega (arith, codes q))
  operands-one n ih r s (Operand.brackets {ts = a} o c {ws = ws} {os = os} m p w) (Operand.brackets {ts = b} o' c' {ws = vs} {os = us} m' p' w') l q h k =
      let e : a ++ c ∷ r ≡ b ++ c' ∷ s = sym (append_assoc a (c ∷ []) r) ∙ tails q ∙ append_assoc b (c' ∷ []) s in
      let i = ih a b (c ∷ r) (c' ∷ s) ws vs os us p p' (omega (arith, length-append a (c ∷ []))) e (closes w) (closes w') in
      record { rest = tails i.rest; words = i.words; origins = i.origins }

  -- ---- operators of one level

  -- operators of level l, each with its right operand, behind an operand of these words
  data Chain (l : ℕ) : List ℤ → List ℕ → List Token → List ℤ → List ℕ → Type 0 where
    done : {ws : List ℤ} {os : List ℕ} → Chain l ws os [] ws os
    more : {k : ℕ} {b ts : List Token} (o : Token) {va vb ws : List ℤ} {oa ob os : List ℕ} → o.code ≡ 40 + k → Level k l → Expression M in_c (suc l) b vb ob
        → Chain l (pos 25 ∷ pos k ∷ va ++ vb) (o.place ∷ o.place ∷ oa ++ ob) ts ws os → Chain l va oa (o ∷ b ++ ts) ws os

  -- one more at its end
  chained : {l k : ℕ} {ts b : List Token} (o : Token) {va vb ws : List ℤ} {oa ob os : List ℕ} → Chain l va oa ts ws os → o.code ≡ 40 + k → Level k l
      → Expression M in_c (suc l) b vb ob
      → Chain l va oa (ts ++ o ∷ b) (pos 25 ∷ pos k ∷ ws ++ vb) (o.place ∷ o.place ∷ os ++ ob)
  chained {l} {k} {b = b} o {vb = vb} {ob = ob} (Chain.done {ws = ws} {os = os}) n v p =
      let c : Chain l ws os (o ∷ b ++ []) (pos 25 ∷ pos k ∷ ws ++ vb) (o.place ∷ o.place ∷ os ++ ob) = Chain.more o n v p Chain.done in
      rw (append-nil b) at c
  chained {b = b} o (Chain.more {b = a} {ts = ts} u m w q c) n v p = rw (append_assoc a ts (o ∷ b)) (Chain.more u m w q (chained o c n v p))

  record Split (l : ℕ) (ts : List Token) (ws : List ℤ) (os : List ℕ) : Type 0 where
    head : List Token
    tail : List Token
    left : List ℤ
    places-left : List ℕ
    is : ts ≡ head ++ tail
    first_of : Expression M in_c (suc l) head left places-left
    chain : Chain l left places-left tail ws os

  split : {l : ℕ} {ts : List Token} {ws : List ℤ} {os : List ℕ} → Expression M in_c l ts ws os → l ≤ 5 → Split l ts ws os
  split (Expression.nil t n) h = absurd (omega arith)
  split (Expression.no t n) h = absurd (omega arith)
  split (Expression.yes t n) h = absurd (omega arith)
  split (Expression.number t n) h = absurd (omega arith)
  split (Expression.at t p) h = absurd (omega arith)
  split (Expression.identity e m p n q) h = absurd (omega arith)
  split (Expression.brackets o c m p n) h = absurd (omega arith)
  split (Expression.tighter {ts = ts} {ws = ws} {os = os} m p) h =
      record { head = ts; tail = []; left = ws; places-left = os; is = sym (append-nil ts); first_of = p; chain = Chain.done }
  split (Expression.operation {b = b} o p n v q) h =
      let i = split p h in
      record {
        head = i.head;
        tail = i.tail ++ o ∷ b;
        left = i.left;
        places-left = i.places-left;
        is = ap (λ (x : List Token). x ++ o ∷ b) i.is ∙ append_assoc i.head i.tail (o ∷ b);
        first_of = i.first_of;
        chain = chained o i.chain n v q;
      }

  -- what follows an operand in a chain does not go on with it
  chain-stops : {l : ℕ} {ts r : List Token} {va ws : List ℤ} {oa os : List ℕ} → Chain (suc l) va oa ts ws os → Stopped in_c l r → Stopped in_c (suc l) (ts ++ r)
  chain-stops {l} Chain.done h t us e = stops-looser (omega arith) (h t us e)
  chain-stops (Chain.more o n v p c) h t us e = stopped-at (stops-operator n v) t us e

  -- an operator of level suc l stops nothing of that level
  goes_on : {l k : ℕ} (o : Token) → o.code ≡ 40 + k → Level k (suc l) → Stops in_c l o → ⊥
  goes_on {l} o n v s = let i = is-operator o n v in omega (arith, s.looser i.0, i.1.0)

  chain-one : (l n : ℕ) → One (suc l) n → {a b : List Token} (r s : List Token) {va wa ws vs : List ℤ} {oa pa os us : List ℕ} → Chain (suc l) va oa a ws os
      → Chain (suc l) wa pa b vs us
      → va ≡ wa → oa ≡ pa → length a ≤ n → a ++ r ≡ b ++ s → Stopped in_c l r → Stopped in_c l s → Same r s ws vs os us
  chain-one l n ih r s Chain.done Chain.done e f z q h k = record { rest = q; words = e; origins = f }
  chain-one l n ih r s Chain.done (Chain.more {b = b} {ts = ts} o m v p c) e f z q h k = absurd (goes_on o m v (h o ((b ++ ts) ++ s) q))
  chain-one l n ih r s (Chain.more {b = b} {ts = ts} o m v p c) Chain.done e f z q h k = absurd (goes_on o m v (k o ((b ++ ts) ++ r) (sym q)))
  chain-one l n ih r s (Chain.more {k = x} {b = a} {ts = ts} o {vb = va} {ob = oa} m v p c) (Chain.more {k = y} {b = b} {ts = us} u {vb = vb} {ob = ob} m' v' p' c') e f z q h k =
      let g : a ++ (ts ++ r) ≡ b ++ (us ++ s) = sym (append_assoc a ts r) ∙ tails q ∙ append_assoc b us s in
      let i = ih a b (ts ++ r) (us ++ s) va vb oa ob p p' (omega (arith, length-append a ts)) g (chain-stops c h) (chain-stops c' k) in
      let w : x ≡ y = omega (arith, codes q) in
      chain-one l n ih r s c c' (cc (w, e, i.words)) (cc (first q, f, i.origins)) (omega (arith, length-append a ts)) i.rest h k

  -- ---- expressions

  -- of every level, where it is so inside brackets
  level-one : (n d l : ℕ) → l + d ≡ 5 → One 0 n → One l (suc n)
  level-one n zero l e ih a b r s ws vs os us x y z q h k =
      let f : l ≡ 5 = omega arith in
      operands-one n ih r s (operand-of x (omega arith)) (operand-of y (omega arith)) (omega arith) q (rw f at h) (rw f at k)
  level-one n (suc d) l e ih a b r s ws vs os us x y z q h k =
      let i = split x (omega arith) in
      let j = split y (omega arith) in
      let lower = level-one n d (suc l) (omega arith) ih in
      let g : i.head ++ (i.tail ++ r) ≡ j.head ++ (j.tail ++ s) =
      sym (append_assoc i.head i.tail r) ∙ ap (λ (x : List Token). x ++ r) (sym i.is) ∙ q ∙ ap (λ (x : List Token). x ++ s) j.is ∙ append_assoc j.head j.tail
      s in
      let c : length a ≡ length i.head + length i.tail = ap length i.is ∙ length-append i.head i.tail in
      let m = lower i.head j.head (i.tail ++ r) (j.tail ++ s) i.left j.left i.places-left j.places-left i.first_of j.first_of (omega arith) g
      (chain-stops i.chain h) (chain-stops j.chain k) in
      chain-one l (suc n) lower r s i.chain j.chain m.words m.origins (omega arith) m.rest h k

  ones : (n : ℕ) → One 0 n
  ones zero a b r s ws vs os us x y z q h k = absurd (omega arith)
  ones (suc n) a b r s ws vs os us x y z q h k = level-one n 5 0 refl (ones n) a b r s ws vs os us x y z q h k

  -- an expression before tokens that do not go on with it
  pub expression-one : {a b : List Token} (r s : List Token) {ws vs : List ℤ} {os us : List ℕ} → Expression M in_c 1 a ws os → Expression M in_c 1 b vs us
      → a ++ r ≡ b ++ s → Stopped in_c 0 r → Stopped in_c 0 s → Same r s ws vs os us
  expression-one {a} {b} r s {ws} {vs} {os} {us} x y q h k = ones (suc (length a)) a b r s ws vs os us x y (omega arith) q h k
