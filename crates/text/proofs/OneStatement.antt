-- The grammar yields statements, blocks and texts in one way. Assumes nothing.
use mathlib.Core.Path.{◌≡◌, refl, sym, ap, ◌∙◌}
use mathlib.Core.Bool.{Bool, true, false, cond, ◌||◌}
use mathlib.Core.List.{List, [], ◌∷◌, ◌++◌, append_assoc}
use Prim.Native.Nat.{ℕ, zero, suc, ◌+◌, ◌≤◌, ◌<◌}
use native.Mathlib.Omega.{arith}
use borrow.Author.Tests.{lt-leb}
use lib.Dec.{eqb}
use lib.IntN.{ℤ, pos}
use lib.ListN.{length, length-append}
use Rattle.tokens.specs.declared.Token.{Token}
use Rattle.tokens.specs.Codes.{name_code, new_code, skip_code, always_code, once_code, if_code, then_code, else_code, do_code}
use Rattle.tokens.specs.Codes.{becomes_code, dot_code, comma_code, semicolon_code, close_brace_code, identical_code, beside_code}
use Rattle.tokens.proofs.ByteLaws.{true≢false}
use Rattle.text.specs.Grammar.{Meaning, Labels, Path, Expression, Part, Parts, Constraint, Fields, statement, row, block, Yields, Text}
use Rattle.text.specs.Names.{Each}
use Rattle.text.proofs.Cuts.{tails}
use Rattle.text.proofs.BlocksRead.{row_first}
use Rattle.text.proofs.OneExpression.{first, codes, Same, Not, not_at, path-one, Stopped, expression-one}
use Rattle.text.proofs.OnePart.{begins, ends_by, constraint-one, fields-one}

-- ---- no `==` stands in a constraint

abbrev Unlike : Token → Type 0
Unlike t = t.code ≡ identical_code → ⊥

abbrev Low : Token → Type 0
Low t = t.code < semicolon_code

each_append : {P : Token → Type 0} {a b : List Token} → Each P a → Each P b → Each P (a ++ b)
each_append Each.none y = y
each_append (Each.more h x) y = Each.more h (each_append x y)

low : (t : Token) {ts : List Token} → t.code < semicolon_code → Each Low ts → Each Low (t ∷ ts)
low t h x = Each.more h x

other : (t : Token) {ts : List Token} → (t.code ≡ identical_code → ⊥) → Each Unlike ts → Each Unlike (t ∷ ts)
other t h x = Each.more h x

labels-low : {M : Meaning} {n : ℕ} {ts : List Token} {ws : List ℤ} {os : List ℕ} → Labels M n ts ws os → Each Low ts
labels-low Labels.none = Each.none
labels-low (Labels.one d l m n f) = low d (omega arith) (low l (omega arith) (labels-low f))

path-low : {M : Meaning} {ts : List Token} {ws : List ℤ} {os : List ℕ} → Path M ts ws os → Each Low ts
path-low (Path.path x n f) = low x (omega arith) (labels-low f)

low-unlike : {ts : List Token} → Each Low ts → Each Unlike ts
low-unlike Each.none = Each.none
low-unlike (Each.more {t = t} h x) = other t (λ z. omega (arith, h)) (low-unlike x)

one : (t : Token) → (t.code ≡ identical_code → ⊥) → Each Unlike (t ∷ [])
one t h = Each.more h Each.none

expression-unlike : {M : Meaning} {in_c : Bool} {l : ℕ} {ts : List Token} {ws : List ℤ} {os : List ℕ} → in_c ≡ true → Expression M in_c l ts ws os → Each Unlike ts
expression-unlike i (Expression.nil t n) = one t (λ z. omega arith)
expression-unlike i (Expression.no t n) = one t (λ z. omega arith)
expression-unlike i (Expression.yes t n) = one t (λ z. omega arith)
expression-unlike i (Expression.number t n) = one t (λ z. omega arith)
expression-unlike i (Expression.at t p) = low-unlike (path-low p)
expression-unlike i (Expression.identity e h p n q) = true≢false (sym i ∙ h)
expression-unlike i (Expression.brackets o c m p n) = other o (λ z. omega arith) (each_append (expression-unlike i p) (one c (λ z. omega arith)))
expression-unlike i (Expression.tighter h p) = expression-unlike i p
expression-unlike i (Expression.operation o p n v q) = each_append (expression-unlike i p) (other o (λ z. omega arith) (expression-unlike i q))

part-unlike : {M : Meaning} {ts : List Token} {ws : List ℤ} {os : List ℕ} → Part M ts ws os → Each Unlike ts
part-unlike (Part.said t h k n x) = other t (λ z. omega arith) (expression-unlike refl x)
part-unlike (Part.unsaid t x) = expression-unlike refl x

parts-unlike : {M : Meaning} {n : ℕ} {ts : List Token} {ws : List ℤ} {os : List ℕ} → Parts M n ts ws os → Each Unlike ts
parts-unlike (Parts.one x) = part-unlike x
parts-unlike (Parts.more j x n y) = each_append (part-unlike x) (other j (λ z. omega arith) (parts-unlike y))

constraint-unlike : {M : Meaning} {ts : List Token} {ws : List ℤ} {os : List ℕ} → Constraint M ts ws os → Each Unlike ts
constraint-unlike (Constraint.constraint t x) = parts-unlike x

-- ---- what follows a statement

-- `;` or a brace, or nothing
abbrev Ended : List Token → Type 0
Ended r = (t : Token) (us : List Token) → r ≡ t ∷ us → (semicolon_code ≤ t.code) × (t.code ≤ close_brace_code)

ended_at_lem : {t : Token} {us : List Token} → semicolon_code ≤ t.code → t.code ≤ close_brace_code → Ended (t ∷ us)
ended_at_lem h k u vs e = let c = codes e in (omega arith, omega arith)

stopped : {in_c : Bool} {r : List Token} → Ended r → Stopped in_c 0 r
stopped h t us e =
    let i = (h t us e).0 in
    let j = (h t us e).1 in
    record {
      undotted = λ z. omega arith;
      uncoloned = λ z. omega arith;
      unlike = λ x z. omega arith;
      looser = λ z. true≢false (sym z ∙ rw (lt-leb 41 t.code (omega arith)) refl);
    }

unjoined : {r : List Token} → Ended r → Not beside_code r
unjoined h t us e z = let i = (h t us e).1 in omega arith

-- a constraint does not go as far as the `==` behind a path
apart : (e : Token) {ts a : List Token} (r s : List Token) → Each Unlike ts → Each Low a → ts ++ r ≡ a ++ e ∷ s → e.code ≡ identical_code → Ended r → ⊥
apart e r s Each.none Each.none q n h = let i = (h e s q).1 in omega arith
apart e r s Each.none (Each.more {t = x} {ts = a} k y) q n h = let i = (h x (a ++ e ∷ s) q).0 in omega arith
apart e r s (Each.more k x) Each.none q n h = k (codes q ∙ n)
apart e r s (Each.more k x) (Each.more l y) q n h = apart e r s x y (tails q) n h

-- ---- statements by their first token

data Head : Type 0 where
  skips : Head
  names : Head
  states : Head
  branches : Head
  repeats : Head

head_of : ℕ → Head
head_of c =
    cond (eqb c skip_code) Head.skips
    (cond (eqb c name_code) Head.names
    (cond (eqb c always_code || eqb c once_code) Head.states
    (cond (eqb c if_code) Head.branches Head.repeats)))

module _ (M : Meaning) where
  -- a statement from its first token and the tails, `always` and `once` as one
  data Begun : Head → Token → List Token → List ℤ → List ℕ → Type 0 where
    skip : (t : Token) → Begun Head.skips t [] (pos 0 ∷ []) (t.place ∷ [])
    assign : (x b : Token) {a ts : List Token} {va ws : List ℤ} {oa os : List ℕ}
        → Path M (x ∷ a) va oa → b.code ≡ becomes_code → Expression M false 1 ts ws os → Begun Head.names x (a ++ b ∷ ts) (pos 1 ∷ va ++ ws) (x.place ∷ oa ++ os)
    new_empty : (x b w o c : Token) → x.code ≡ name_code → b.code ≡ becomes_code → w.code ≡ new_code → c.code ≡ close_brace_code
        → Begun Head.names x (b ∷ w ∷ o ∷ c ∷ []) (pos 2 ∷ pos (M.variable x) ∷ pos 0 ∷ []) (x.place ∷ x.place ∷ o.place ∷ [])
    new : {n : ℕ} (x b w o c : Token) {ts : List Token} {ws : List ℤ} {os : List ℕ} → x.code ≡ name_code → b.code ≡ becomes_code → w.code ≡ new_code → Fields M n ts ws os
        → c.code ≡ close_brace_code
        → Begun Head.names x (b ∷ w ∷ o ∷ ts ++ c ∷ []) (pos 2 ∷ pos (M.variable x) ∷ pos n ∷ ws) (x.place ∷ x.place ∷ o.place ∷ os)
    stated : {k : ℕ} (t : Token) {ts : List Token} {ws : List ℤ} {os : List ℕ} → t.code ≡ 9 + k → Constraint M ts ws os → Begun Head.states t ts (pos k ∷ ws) (t.place ∷ os)
    same : {k : ℕ} (t e : Token) {a b : List Token} {va vb : List ℤ} {oa ob : List ℕ}
        → t.code + 2 ≡ 9 + k → Path M a va oa → e.code ≡ identical_code → Path M b vb ob → Begun Head.states t (a ++ e ∷ b) (pos k ∷ va ++ vb) (t.place ∷ oa ++ ob)
    branch : (i h s : Token) {a b c : List Token} {va vb vc : List ℤ} {oa ob oc : List ℕ}
        → Expression M false 1 a va oa → h.code ≡ then_code → Yields M block b vb ob → s.code ≡ else_code → Yields M block c vc oc
        → Begun Head.branches i (a ++ h ∷ (b ++ s ∷ c)) (pos 7 ∷ va ++ (vb ++ vc)) (i.place ∷ oa ++ (ob ++ oc))
    loop : (w d : Token) {a b : List Token} {va vb : List ℤ} {oa ob : List ℕ}
        → Expression M false 1 a va oa → d.code ≡ do_code → Yields M block b vb ob → Begun Head.repeats w (a ++ d ∷ b) (pos 8 ∷ va ++ vb) (w.place ∷ oa ++ ob)

  record Opened (ts : List Token) (ws : List ℤ) (os : List ℕ) : Type 0 where
    head : Head
    token : Token
    behind : List Token
    is : ts ≡ token ∷ behind
    class : head_of token.code ≡ head
    form : Begun head token behind ws os

  opened : {ts : List Token} {ws : List ℤ} {os : List ℕ} → Yields M statement ts ws os → Opened ts ws os
  unfolding head_of
  opened (Yields.skip t n) = record { head = Head.skips; token = t; behind = []; is = refl; class = rw n refl; form = Begun.skip t }
  opened (Yields.assign x b {a = a} {ts = ts} (Path.path v n g) k m) = record
      { head = Head.names; token = x; behind = a ++ b ∷ ts; is = refl; class = rw n refl; form = Begun.assign x b (Path.path v n g) k m }
  opened (Yields.new_empty x b w o c p q r s t) = record
      { head = Head.names; token = x; behind = b ∷ w ∷ o ∷ c ∷ []; is = refl; class = rw p refl; form = Begun.new_empty x b w o c p q r t }
  opened (Yields.new x b w o c {ts = ts} p q r s f t) = record
      { head = Head.names; token = x; behind = b ∷ w ∷ o ∷ ts ++ c ∷ []; is = refl; class = rw p refl; form = Begun.new x b w o c p q r f t }
  opened (Yields.always t {ts = ts} n c) = record { head = Head.states; token = t; behind = ts; is = refl; class = rw n refl; form = Begun.stated t n c }
  opened (Yields.once t {ts = ts} n c) = record { head = Head.states; token = t; behind = ts; is = refl; class = rw n refl; form = Begun.stated t n c }
  opened (Yields.always-same t e {a = a} {b = b} n p q r) = record
      { head = Head.states; token = t; behind = a ++ e ∷ b; is = refl; class = rw n refl; form = Begun.same {k = 5} t e (omega arith) p q r }
  opened (Yields.once-same t e {a = a} {b = b} n p q r) = record
      { head = Head.states; token = t; behind = a ++ e ∷ b; is = refl; class = rw n refl; form = Begun.same {k = 6} t e (omega arith) p q r }
  opened (Yields.branch i h s {a = a} {b = b} {c = c} n p q r k l) =
      record {
        head = Head.branches;
        token = i;
        behind = a ++ h ∷ (b ++ s ∷ c);
        is = ap (λ (x : List Token). i ∷ x) (append_assoc a (h ∷ b) (s ∷ c));
        class = rw n refl;
        form
            = Begun.branch i h s p q r k l;
      }
  opened (Yields.loop w d {a = a} {b = b} n p q r) = record { head = Head.repeats; token = w; behind = a ++ d ∷ b; is = refl; class = rw n refl; form = Begun.loop w d p q r }

  -- ---- pieces

  -- readings of a block of fewer than n tokens are the same
  abbrev Blocks : ℕ → Type 0
  Blocks n = (a b r s : List Token) (ws vs : List ℤ) (os us : List ℕ) → Yields M block a ws os → Yields M block b vs us → length a < n → a ++ r ≡ b ++ s → Same r s ws vs os us

  fields-first : {n : ℕ} {ts : List Token} {ws : List ℤ} {os : List ℕ} (z : List Token) (t : Token) (u : List Token) → Fields M n ts ws os → ts ++ z ≡ t ∷ u → t.code ≡ name_code
  fields-first z t u (Fields.one l c n m x) q = sym (codes q) ∙ n
  fields-first z t u (Fields.more l c j n m x p y) q = sym (codes q) ∙ n

  -- `new` and an assignment part behind `:=`
  made : (x b y c w : Token) {a ts : List Token} (r s : List Token) {va ws : List ℤ} {oa os : List ℕ} → Path M (x ∷ a) va oa → b.code ≡ becomes_code → Expression M false 1 ts ws os
      → y.code ≡ name_code → c.code ≡ becomes_code → w.code ≡ new_code → x ≡ y → (a ++ b ∷ ts) ++ r ≡ c ∷ w ∷ s → ⊥
  made x b y c w {a} {ts} r s p n z m o v e q =
      let g : a ++ b ∷ (ts ++ r) ≡ c ∷ w ∷ s = sym (append_assoc a (b ∷ ts) r) ∙ q in
      let f : x ∷ (a ++ b ∷ (ts ++ r)) ≡ y ∷ c ∷ w ∷ s = cc (e, g) in
      let k : Path M (y ∷ []) (pos (M.variable y) ∷ pos 0 ∷ []) (y.place ∷ y.place ∷ []) = Path.path y m Labels.none in
      let i = path-one M (b ∷ (ts ++ r)) (c ∷ w ∷ s) p k f (not_at dot_code (λ z. omega arith)) (not_at dot_code (λ z. omega arith)) in
      (begins r w s z (tails i.rest)).unmade v

  braced : {t : Token} {us : List Token} → t.code ≡ close_brace_code → Ended (t ∷ us)
  braced e = ended_at_lem (omega arith) (omega arith)

  -- two statements of one first token
  begun-one : (n : ℕ) → Blocks n → {h : Head} {t u : Token} {a b : List Token} (r s : List Token) {ws vs : List ℤ} {os us : List ℕ} → Begun h t a ws os → Begun h u b vs us
      → t ≡ u → length a < n → a ++ r ≡ b ++ s → Ended r → Ended s → Same r s ws vs os us
  begun-one n ih r s (Begun.skip t) (Begun.skip u) e l q f g = record { rest = q; words = refl; origins = cc e }
  begun-one n ih r s (Begun.assign x b {a = a} {ts = ts} p m z) (Begun.assign y c {a = a'} {ts = ts'} p' m' z') e l q f g =
      let d : a ++ b ∷ (ts ++ r) ≡ a' ++ c ∷ (ts' ++ s) = sym (append_assoc a (b ∷ ts) r) ∙ q ∙ append_assoc a' (c ∷ ts') s in
      let v : x ∷ (a ++ b ∷ (ts ++ r)) ≡ y ∷ (a' ++ c ∷ (ts' ++ s)) = cc (e, d) in
      let i = path-one M (b ∷ (ts ++ r)) (c ∷ (ts' ++ s)) p p' v (not_at dot_code (λ z. omega arith)) (not_at dot_code (λ z. omega arith)) in
      let j = expression-one M false r s z z' (tails i.rest) (stopped f) (stopped g) in
      record { rest = j.rest; words = cc (i.words, j.words); origins = cc (e, i.origins, j.origins) }
  begun-one n ih r s (Begun.assign x b p m z) (Begun.new_empty y c w o k d h v t) e l q f g = absurd (made x b y c w r (o ∷ k ∷ s) p m z d h v e q)
  begun-one n ih r s (Begun.assign x b p m z) (Begun.new y c w o k {ts = ts} d h v i t) e l q f g = absurd (made x b y c w r (o ∷ ((ts ++ k ∷ []) ++ s)) p m z d h v e q)
  begun-one n ih r s (Begun.new_empty y c w o k d h v t) (Begun.assign x b p m z) e l q f g = absurd (made x b y c w s (o ∷ k ∷ r) p m z d h v (sym e) (sym q))
  begun-one n ih r s (Begun.new_empty x b w o c d h v t) (Begun.new_empty x' b' w' o' c' d' h' v' t') e l q f g =
      record { rest = tails (tails (tails (tails q))); words = cc e; origins = cc (e, first (tails (tails q))) }
  begun-one n ih r s (Begun.new_empty x b w o c d h v t) (Begun.new x' b' w' o' c' {ts = ts} d' h' v' i t') e l q f g =
      let k : (ts ++ c' ∷ []) ++ s ≡ c ∷ r = sym (tails (tails (tails q))) in
      absurd (omega (arith, fields-first (c' ∷ s) c r i (sym (append_assoc ts (c' ∷ []) s) ∙ k)))
  begun-one n ih r s (Begun.new y c w o k {ts = ts} d h v i t) (Begun.assign x b p m z) e l q f g = absurd
      (made x b y c w s (o ∷ ((ts ++ k ∷ []) ++ r)) p m z d h v (sym e) (sym q))
  begun-one n ih r s (Begun.new x b w o c {ts = ts} d h v i t) (Begun.new_empty x' b' w' o' c' d' h' v' t') e l q f g =
      let k : (ts ++ c ∷ []) ++ r ≡ c' ∷ s = tails (tails (tails q)) in
      absurd (omega (arith, fields-first (c ∷ r) c' s i (sym (append_assoc ts (c ∷ []) r) ∙ k)))
  begun-one n ih r s (Begun.new x b w o c {ts = ts} d h v i t) (Begun.new x' b' w' o' c' {ts = ts'} d' h' v' i' t') e l q f g =
      let k : ts ++ c ∷ r ≡ ts' ++ c' ∷ s = sym (append_assoc ts (c ∷ []) r) ∙ tails (tails (tails q)) ∙ append_assoc ts' (c' ∷ []) s in
      let j = fields-one M (c ∷ r) (c' ∷ s) i i' k (stopped (braced t)) (stopped (braced t')) (not_at comma_code (λ z. omega arith)) (not_at comma_code (λ z. omega arith)) in
      record { rest = tails j.1.rest; words = cc (e, j.0, j.1.words); origins = cc (e, first (tails (tails q)), j.1.origins) }
  begun-one n ih r s (Begun.stated {k = x} t m c) (Begun.stated {k = y} u m' c') e l q f g =
      let i = constraint-one M r s c c' q (stopped f) (stopped g) (unjoined f) (unjoined g) in
      let w : x ≡ y = omega (arith, ap (λ (t : Token). t.code) e) in
      record { rest = i.rest; words = cc (w, i.words); origins = cc (e, i.origins) }
  begun-one n ih r s (Begun.stated t m c) (Begun.same u d {a = a} {b = b} m' p k v) e l q f g = absurd
      (apart d r (b ++ s) (constraint-unlike c) (path-low p) (q ∙ append_assoc a (d ∷ b) s) k f)
  begun-one n ih r s (Begun.same u d {a = a} {b = b} m' p k v) (Begun.stated t m c) e l q f g = absurd
      (apart d s (b ++ r) (constraint-unlike c) (path-low p) (sym q ∙ append_assoc a (d ∷ b) r) k g)
  begun-one n ih r s (Begun.same {k = x} t d {a = a} {b = b} m p k v) (Begun.same {k = y} u d' {a = a'} {b = b'} m' p' k' v') e l q f g =
      let i = path-one M (d ∷ (b ++ r)) (d' ∷ (b' ++ s)) p p' (sym (append_assoc a (d ∷ b) r) ∙ q ∙ append_assoc a' (d' ∷ b') s) (not_at dot_code (λ z. omega arith))
      (not_at dot_code (λ z. omega arith)) in
      let j = path-one M r s v v' (tails i.rest) (λ t us z. (stopped {in_c = true} f t us z).undotted) (λ t us z. (stopped {in_c = true} g t us z).undotted) in
      let w : x ≡ y = omega (arith, ap (λ (t : Token). t.code) e) in
      record { rest = j.rest; words = cc (w, i.words, j.words); origins = cc (e, i.origins, j.origins) }
  begun-one n ih r s (Begun.branch t h k {a = a} {b = b} {c = c} {vb = wb} {vc = wc} {ob = pb} {oc = pc} x m y o z)
      (Begun.branch u h' k' {a = a'} {b = b'} {c = c'} {vb = wb'} {vc = wc'} {ob = pb'} {oc = pc'} x' m' y' o' z') e l q f g =
      let d : a ++ h ∷ (b ++ k ∷ (c ++ r)) ≡ a' ++ h' ∷ (b' ++ k' ∷ (c' ++ s)) =
      rw (← append_assoc b (k ∷ c) r, ← append_assoc b' (k' ∷ c') s) (sym (append_assoc a (h ∷ (b ++ k ∷ c)) r) ∙ q ∙ append_assoc a' (h' ∷ (b' ++ k' ∷ c')) s) in
      let i = expression-one M false (h ∷ (b ++ k ∷ (c ++ r))) (h' ∷ (b' ++ k' ∷ (c' ++ s))) x x' d (behind-then m) (behind-then m') in
      let v : length (a ++ h ∷ (b ++ k ∷ c)) ≡ length a + (suc (length b + suc (length c))) = length-append a (h ∷ (b ++ k ∷ c)) ∙ ap (λ (w : ℕ). length a + suc w)
      (length-append b (k ∷ c)) in
      let j = ih b b' (k ∷ (c ++ r)) (k' ∷ (c' ++ s)) wb wb' pb pb' y y' (omega arith) (tails i.rest) in
      let p = ih c c' r s wc wc' pc pc' z z' (omega arith) (tails j.rest) in
      record { rest = p.rest; words = cc (i.words, j.words, p.words); origins = cc (e, i.origins, j.origins, p.origins) }
    where
      behind-then : {t : Token} {us : List Token} → t.code ≡ then_code → Stopped false 0 (t ∷ us)
      behind-then e = ends_by then_code e (λ z. omega arith) (λ z. omega arith) (λ z. omega arith) refl
  begun-one n ih r s (Begun.loop t h {a = a} {b = b} {vb = wb} {ob = pb} x m y) (Begun.loop u h' {a = a'} {b = b'} {vb = wb'} {ob = pb'} x' m' y') e l q f g =
      let i = expression-one M false (h ∷ (b ++ r)) (h' ∷ (b' ++ s)) x x' (sym (append_assoc a (h ∷ b) r) ∙ q ∙ append_assoc a' (h' ∷ b') s) (behind-do m) (behind-do m') in
      let j = ih b b' r s wb wb' pb pb' y y' (omega (arith, length-append a (h ∷ b))) (tails i.rest) in
      record { rest = j.rest; words = cc (i.words, j.words); origins = cc (e, i.origins, j.origins) }
    where
      behind-do : {t : Token} {us : List Token} → t.code ≡ do_code → Stopped false 0 (t ∷ us)
      behind-do e = ends_by do_code e (λ z. omega arith) (λ z. omega arith) (λ z. omega arith) refl

  statement-one : (n : ℕ) → Blocks n → {a b : List Token} (r s : List Token) {ws vs : List ℤ} {os us : List ℕ} → Yields M statement a ws os → Yields M statement b vs us
      → length a ≤ n → a ++ r ≡ b ++ s → Ended r → Ended s → Same r s ws vs os us
  statement-one n ih {a} {b} r s {vs = vs} {us = us} x y l q f g =
      let i = opened x in
      let j = opened y in
      let d : i.token ∷ (i.behind ++ r) ≡ j.token ∷ (j.behind ++ s) = ap (λ (x : List Token). x ++ r) (sym i.is) ∙ q ∙ ap (λ (x : List Token). x ++ s) j.is in
      let h : j.head ≡ i.head = sym j.class ∙ ap head_of (sym (codes d)) ∙ i.class in
      let k : Begun i.head j.token j.behind vs us = rw h at j.form in
      begun-one n ih r s i.form k (first d) (omega (arith, ap length i.is)) (tails d) f g

  rows-one : (n : ℕ) → Blocks n → {m k : ℕ} {a b : List Token} (r s : List Token) {ws vs : List ℤ} {os us : List ℕ} → Yields M (row m) a ws os → Yields M (row k) b vs us
      → length a ≤ n → a ++ r ≡ b ++ s → Ended r → Ended s → Not semicolon_code r → Not semicolon_code s → (m ≡ k) × Same r s ws vs os us
  rows-one n ih r s (Yields.last x) (Yields.last y) l q f g h k = (refl, statement-one n ih r s x y l q f g)
  rows-one n ih r s (Yields.last x) (Yields.more {a = a} {b = b} j y m z) l q f g h k =
      let i = statement-one n ih r (j ∷ (b ++ s)) x y l (q ∙ append_assoc a (j ∷ b) s) f (ended_at_lem (omega arith) (omega arith)) in absurd (h j (b ++ s) i.rest m)
  rows-one n ih r s (Yields.more {a = a} {b = b} j y m z) (Yields.last x) l q f g h k =
      let i = statement-one n ih (j ∷ (b ++ r)) s y x (omega (arith, length-append a (j ∷ b))) (sym (append_assoc a (j ∷ b) r) ∙ q) (ended_at_lem (omega arith) (omega arith)) g in
      absurd (k j (b ++ r) (sym i.rest) m)
  rows-one n ih r s (Yields.more {a = a} {b = b} j x m y) (Yields.more {a = a'} {b = b'} j' x' m' y') l q f g h k =
      let i = statement-one n ih (j ∷ (b ++ r)) (j' ∷ (b' ++ s)) x x' (omega (arith, length-append a (j ∷ b))) (sym (append_assoc a (j ∷ b) r) ∙ q ∙ append_assoc a' (j' ∷ b') s)
      (ended_at_lem (omega arith) (omega arith)) (ended_at_lem (omega arith) (omega arith)) in
      let v = rows-one n ih r s y y' (omega (arith, length-append a (j ∷ b))) (tails i.rest) f g h k in
      (ap suc v.0, record { rest = v.1.rest; words = cc (i.words, v.1.words); origins = cc (i.origins, v.1.origins) })

  -- a row does not begin with a brace
  unbraced : {n : ℕ} {ts : List Token} {ws : List ℤ} {os : List ℕ} (c d : Token) (r s : List Token) → Yields M (row n) ts ws os → c.code ≡ close_brace_code
      → c ∷ r ≡ (ts ++ d ∷ []) ++ s → ⊥
  unbraced c d r s x e q =
      let i = row_first x in
      let a = i.1.1.1.1 in
      let z : c ∷ r ≡ i.0 ∷ ((i.1.0 ++ d ∷ []) ++ s) = q ∙ ap (λ (y : List Token). (y ++ d ∷ []) ++ s) i.1.1.0 in
      omega (arith, codes z)

  block_one : (n : ℕ) → Blocks n → Blocks (suc n)
  block_one n ih a b r s ws vs os us (Yields.empty o c m k) (Yields.empty o' c' m' k') l q = record { rest = tails (tails q); words = refl; origins = cc (first q) }
  block_one n ih a b r s ws vs os us (Yields.empty o c m k) (Yields.braces o' c' m' x k') l q = absurd (unbraced c c' r s x k (tails q))
  block_one n ih a b r s ws vs os us (Yields.braces o' c' m' x k') (Yields.empty o c m k) l q = absurd (unbraced c c' s r x k (sym (tails q)))
  block_one n ih a b r s ws vs os us (Yields.braces o c {ts = ts} m x k) (Yields.braces o' c' {ts = ts'} m' x' k') l q =
      let e : ts ++ c ∷ r ≡ ts' ++ c' ∷ s = sym (append_assoc ts (c ∷ []) r) ∙ tails q ∙ append_assoc ts' (c' ∷ []) s in
      let i = rows-one n ih (c ∷ r) (c' ∷ s) x x' (omega (arith, length-append ts (c ∷ []))) e (braced k) (braced k') (not_at semicolon_code (λ z. omega arith))
      (not_at semicolon_code (λ z. omega arith)) in
      record { rest = tails i.1.rest; words = cc (i.0, i.1.words); origins = cc (first q, i.1.origins) }

  blocks : (n : ℕ) → Blocks n
  blocks zero a b r s ws vs os us x y l q = absurd (omega arith)
  blocks (suc n) a b r s ws vs os us x y l q = block_one n (blocks n) a b r s ws vs os us x y l q

  -- ---- texts

  nothing-follows : {A : Type 0} {t : Token} {us : List Token} → [] ≡ t ∷ us → A
  nothing-follows {us = us} e = let z : 0 ≡ suc (length us) = ap length e in absurd (omega arith)

  pub text-one : {ts : List Token} {ws vs : List ℤ} {os us : List ℕ} → Text M ts ws os → Text M ts vs us → (ws ≡ vs) × (os ≡ us)
  text-one Text.nothing Text.nothing = (refl, refl)
  text-one Text.nothing (Text.some x) = nothing-follows (row_first x).1.1.0
  text-one (Text.some x) Text.nothing = nothing-follows (row_first x).1.1.0
  text-one {ts} (Text.some x) (Text.some y) =
      let i = rows-one (length ts) (blocks (length ts)) [] [] x y (omega arith) refl (λ t us e. nothing-follows e) (λ t us e. nothing-follows e) (λ t us e z. nothing-follows e)
      (λ t us e z. nothing-follows e) in
      (cc (i.0, i.1.words), cc i.1.origins)
