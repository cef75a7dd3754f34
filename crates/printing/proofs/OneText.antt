-- The rules have one list of signs for the words of a piece, and the words show where it ends. Assumes nothing.
use mathlib.Core.Path.{◌≡◌, refl, sym, ap, ◌∙◌}
use mathlib.Core.Bool.{Bool}
use mathlib.Core.List.{List, [], ◌∷◌, ◌++◌, append_assoc}
use Prim.Native.Nat.{ℕ, zero, suc, ◌+◌, ◌≤◌, ◌<◌}
use native.Mathlib.Omega.{arith}
use lib.IntN.{ℤ, pos}
use Rattle.program.specs.declared.Form.TheVariants.{Nil as a_nil, False as a_false, True as a_true, Integer as an_integer, Path as a_path, Identity as an_identity}
use Rattle.text.proofs.OperatorsRead.{level-of}
use Rattle.printing.specs.Signs.{Sign, space, line, if_sign, then_sign, else_sign, while_sign, do_sign, semicolon_sign, open_brace_sign, close_brace_sign}
use Rattle.printing.specs.Printing.{Printed, path_text, form_text, expression_text}
use Rattle.printing.specs.Rules.{Path, Expression, Parts, Fields, statement, row, block, Prints, Text}
use Rattle.printing.specs.Claims.{brackets_in}
use Rattle.printing.proofs.RulesLaws.{path-writes, sides-write, form-text, operation-writes, brackets-write}
use Rattle.printing.proofs.BracketsIn.{in-joined}

-- ---- paths and expressions: the definition writes them, if it may go deep enough

-- two readings leave the same words, and have the same signs
pub record One (p q : List ℤ) (sa sb : List Sign) : Type 0 where
  pub rest : p ≡ q
  pub signs : sa ≡ sb

written : (f : List ℤ → Printed) {u v p q : List ℤ} {sa sb : List Sign} → f u ≡ (sa, p) → f v ≡ (sb, q) → u ≡ v → One p q sa sb
written f {p = p} {q = q} {sa = sa} {sb = sb} x y e = go (sym x ∙ ap f e ∙ y)
  where
    go : ◌≡◌ {A = Printed} (sa, p) (sb, q) → One p q sa sb
    go i = record { rest = ap (λ (z : Printed). z.1) i; signs = ap (λ (z : Printed). z.0) i }

pub one-path : {a b p q : List ℤ} {sa sb : List Sign} → Path a sa → Path b sb → a ++ p ≡ b ++ q → One p q sa sb
one-path {p = p} {q = q} x y e = written (λ r. path_text r) (path-writes x p) (path-writes y q) e

abbrev pub height : {in_c : Bool} {low : ℕ} {ws : List ℤ} {ss : List Sign} → Expression in_c low ws ss → ℕ
height Expression.nil = 0
height Expression.no = 0
height Expression.yes = 0
height Expression.number = 0
height (Expression.at a) = 0
height (Expression.identity c a b) = 0
height (Expression.operation h k v m x y) = suc (height x + height y)
height (Expression.brackets h k v m x y) = suc (height x + height y)

pub expression-writes : {in_c : Bool} {low : ℕ} {ws : List ℤ} {ss : List Sign} (x : Expression in_c low ws ss) (d : ℕ) → height x ≤ d
    → (r : List ℤ) → expression_text (suc d) low (ws ++ r) ≡ (ss, r)
unfolding form_text
expression-writes (Expression.nil {low = low}) d h r = form-text d low a_nil r (omega arith)
expression-writes (Expression.no {low = low}) d h r = form-text d low a_false r (omega arith)
expression-writes (Expression.yes {low = low}) d h r = form-text d low a_true r (omega arith)
expression-writes (Expression.number {low = low} {w = w}) d h r = form-text d low an_integer (w ∷ r) (omega arith)
expression-writes (Expression.at {low = low} {a = a} x) d h r = form-text d low a_path (a ++ r) (omega arith) ∙ path-writes x r
expression-writes (Expression.identity {low = low} {a = a} {b = b} c x y) d h r = form-text d low an_identity ((a ++ b) ++ r) (omega arith) ∙ sides-write x y r
expression-writes (Expression.operation h k v m x y) zero n r = let z : ⊥ = omega arith in absurd z
expression-writes (Expression.operation {low = low} {o = o} {l = l} {a = a} {b = b} h k v m x y) (suc d) n r =
    operation-writes (suc d) low o l a b (level-of v).0 (λ s. expression-writes x d (omega arith) s) (λ s. expression-writes y d (omega arith) s) m r
expression-writes (Expression.brackets h k v m x y) zero n r = let z : ⊥ = omega arith in absurd z
expression-writes (Expression.brackets {low = low} {o = o} {l = l} {a = a} {b = b} h k v m x y) (suc d) n r =
    brackets-write (suc d) low o l a b (level-of v).0 (λ s. expression-writes x d (omega arith) s) (λ s. expression-writes y d (omega arith) s) m r

pub one-expression : {c k : Bool} {low : ℕ} {a b p q : List ℤ} {sa sb : List Sign} → Expression c low a sa → Expression k low b sb → a ++ p ≡ b ++ q → One p q sa sb
one-expression {low = low} {p = p} {q = q} x y e =
    written (λ r. expression_text (suc (height x + height y)) low r) (expression-writes x (height x + height y) (omega arith) p)
    (expression-writes y (height x + height y) (omega arith) q)
    e

-- ---- constraints and fields

tail : {v w : ℤ} {p q : List ℤ} → v ∷ p ≡ w ∷ q → p ≡ q
tail e = cc

number : {k n : ℕ} {p q : List ℤ} → pos k ∷ p ≡ pos n ∷ q → k ≡ n
number e = cc

parts-some : {m : ℕ} {ws : List ℤ} {ss : List Sign} → Parts m ws ss → 0 < m
parts-some (Parts.one h k x) = omega arith
parts-some (Parts.more h k x y) = omega arith

-- the pieces behind the first ones, which are alike
behind : (a b p c d q : List ℤ) → (a ++ b) ++ p ≡ (c ++ d) ++ q → a ++ (b ++ p) ≡ c ++ (d ++ q)
behind a b p c d q e = sym (append_assoc a b p) ∙ e ∙ append_assoc c d q

pub one-parts : {n m : ℕ} {a b p q : List ℤ} {sa sb : List Sign} → Parts n a sa → Parts m b sb → n ≡ m → a ++ p ≡ b ++ q → One p q sa sb
one-parts (Parts.one h k x) (Parts.one h' k' x') z e =
    let i = one-expression x x' (tail e) in
    record { rest = i.rest; signs = rw (number e, i.signs) }
one-parts (Parts.one h k x) (Parts.more h' k' x' y') z e = absurd (omega (arith, parts-some y'))
one-parts (Parts.more h k x y) (Parts.one h' k' x') z e = absurd (omega (arith, parts-some y))
one-parts {p = p} {q = q} (Parts.more {e = a} {ps = b} h k x y) (Parts.more {e = c} {ps = d} h' k' x' y') z e =
    let i = one-expression x x' (behind a b p c d q (tail e)) in
    let j = one-parts y y' (omega arith) i.rest in
    record { rest = j.rest; signs = rw (number e, i.signs, j.signs) }

fields-some : {n : ℕ} {ws : List ℤ} {ss : List Sign} → Fields n ws ss → 0 < n
fields-some (Fields.one x) = omega arith
fields-some (Fields.more x y) = omega arith

pub one-fields : {n m : ℕ} {a b p q : List ℤ} {sa sb : List Sign} → Fields n a sa → Fields m b sb → n ≡ m → a ++ p ≡ b ++ q → One p q sa sb
one-fields (Fields.one x) (Fields.one x') z e =
    let i = one-expression x x' (tail e) in
    record { rest = i.rest; signs = rw (number e, i.signs) }
one-fields (Fields.one x) (Fields.more x' y') z e = absurd (omega (arith, fields-some y'))
one-fields (Fields.more x y) (Fields.one x') z e = absurd (omega (arith, fields-some y))
one-fields {p = p} {q = q} (Fields.more {e = a} {fs = b} x y) (Fields.more {e = c} {fs = d} x' y') z e =
    let i = one-expression x x' (behind a b p c d q (tail e)) in
    let j = one-fields y y' (omega arith) i.rest in
    record { rest = j.rest; signs = rw (number e, i.signs, j.signs) }

-- ---- statements, rows and blocks

-- two readings leave the same words and have as many brackets, and the same signs if they may nest as deep
pub record Alike (d e : ℕ) (p q : List ℤ) (sa sb : List Sign) : Type 0 where
  pub rest : p ≡ q
  pub signs : d ≡ e → sa ≡ sb
  pub brackets : brackets_in sa ≡ brackets_in sb

alike : {d e : ℕ} {p q : List ℤ} {sa sb : List Sign} → p ≡ q → sa ≡ sb → Alike d e p q sa sb
alike i j = record { rest = i; signs = λ z. j; brackets = ap brackets_in j }

pub branch-brackets : (se sa sb : List Sign)
    → brackets_in (if_sign ∷ space ∷ se ++ space ∷ then_sign ∷ space ∷ sa ++ space ∷ else_sign ∷ space ∷ sb) ≡ brackets_in se + brackets_in sa + brackets_in sb
branch-brackets se sa sb =
    omega (arith, in-joined (se ++ space ∷ then_sign ∷ space ∷ sa) (space ∷ else_sign ∷ space ∷ []) sb refl, in-joined se (space ∷ then_sign ∷ space ∷ []) sa refl)

pub loop-brackets : (se sa : List Sign) → brackets_in (while_sign ∷ space ∷ se ++ space ∷ do_sign ∷ space ∷ sa) ≡ brackets_in se + brackets_in sa
loop-brackets se sa = omega (arith, in-joined se (space ∷ do_sign ∷ space ∷ []) sa refl)

pub row-brackets : (d : ℕ) (ss st : List Sign) → brackets_in (ss ++ semicolon_sign ∷ line d ∷ st) ≡ brackets_in ss + brackets_in st
row-brackets d ss st = in-joined ss (semicolon_sign ∷ line d ∷ []) st refl

pub block-brackets : (d : ℕ) (ss : List Sign) → brackets_in (open_brace_sign ∷ line d ∷ ss ++ line (suc d) ∷ close_brace_sign ∷ []) ≡ brackets_in ss
block-brackets d ss = omega (arith, in-joined ss (line (suc d) ∷ close_brace_sign ∷ []) [] refl)

abbrev BlockOne : ℕ → ℕ → Type 0
BlockOne d e = (a b p q : List ℤ) (sa sb : List Sign) → Prints (block d) a sa → Prints (block e) b sb → a ++ p ≡ b ++ q → Alike d e p q sa sb

abbrev StatementOne : ℕ → ℕ → Type 0
StatementOne d e = (a b p q : List ℤ) (sa sb : List Sign) → Prints (statement d) a sa → Prints (statement e) b sb → a ++ p ≡ b ++ q → Alike d e p q sa sb

verb-one : {d e : ℕ} → BlockOne d e → (n : ℕ) (u v p q : List ℤ) {sa sb : List Sign}
    → Prints (statement d) (pos n ∷ u) sa → Prints (statement e) (pos n ∷ v) sb → u ++ p ≡ v ++ q → Alike d e p q sa sb
verb-one ih n u v p q Prints.skip Prints.skip i = alike i refl
verb-one ih n u v p q (Prints.assign {a = a} {e = b} x y) (Prints.assign {a = c} {e = d} x' y') i =
    let j = one-path x x' (behind a b p c d q i) in
    let k = one-expression y y' j.rest in
    alike k.rest (rw (j.signs, k.signs))
verb-one ih n u v p q Prints.new_empty Prints.new_empty i = alike (tail (tail i)) (rw (number i))
verb-one ih n u v p q Prints.new_empty (Prints.new f') i = absurd (omega (arith, fields-some f', number (tail i)))
verb-one ih n u v p q (Prints.new f) Prints.new_empty i = absurd (omega (arith, fields-some f, number (tail i)))
verb-one ih n u v p q (Prints.new f) (Prints.new f') i =
    let j = one-fields f f' (number (tail i)) (tail (tail i)) in
    alike j.rest (rw (number i, j.signs))
verb-one ih n u v p q (Prints.always x) (Prints.always x') i = let j = one-parts x x' (number i) (tail i) in alike j.rest (rw j.signs)
verb-one ih n u v p q (Prints.once x) (Prints.once x') i = let j = one-parts x x' (number i) (tail i) in alike j.rest (rw j.signs)
verb-one ih n u v p q (Prints.always-same {a = a} {b = b} x y) (Prints.always-same {a = c} {b = d} x' y') i =
    let j = one-path x x' (behind a b p c d q i) in
    let k = one-path y y' j.rest in
    alike k.rest (rw (j.signs, k.signs))
verb-one ih n u v p q (Prints.once-same {a = a} {b = b} x y) (Prints.once-same {a = c} {b = d} x' y') i =
    let j = one-path x x' (behind a b p c d q i) in
    let k = one-path y y' j.rest in
    alike k.rest (rw (j.signs, k.signs))
verb-one ih n u v p q (Prints.branch {e = t} {a = a} {b = b} {se = se} {sa = sa} {sb = sb} x y z) (Prints.branch {e = s} {a = c} {b = d} {se = sf} {sa = sc} {sb = sd} x' y' z') i =
    let j = one-expression x x' (behind t (a ++ b) p s (c ++ d) q i) in
    let k = ih a c (b ++ p) (d ++ q) sa sc y y' (behind a b p c d q j.rest) in
    let l = ih b d p q sb sd z z' k.rest in
    record {
      rest = l.rest;
      signs = λ w. rw (j.signs, k.signs w, l.signs w);
      brackets = omega (arith, branch-brackets se sa sb, branch-brackets sf sc sd, ap brackets_in j.signs, k.brackets, l.brackets);
    }
verb-one ih n u v p q (Prints.loop {e = t} {a = a} {se = se} {sa = sa} x y) (Prints.loop {e = s} {a = c} {se = sf} {sa = sc} x' y') i =
    let j = one-expression x x' (behind t a p s c q i) in
    let k = ih a c p q sa sc y y' j.rest in
    record { rest = k.rest; signs = λ w. rw (j.signs, k.signs w); brackets = omega (arith, loop-brackets se sa, loop-brackets sf sc, ap brackets_in j.signs, k.brackets) }

begins : {d : ℕ} {ws : List ℤ} {ss : List Sign} → Prints (statement d) ws ss → (n : ℕ) × (v : List ℤ) × (ws ≡ pos n ∷ v)
begins Prints.skip = (0, [], refl)
begins (Prints.assign {a = a} {e = e} x y) = (1, a ++ e, refl)
begins (Prints.new_empty {x = x}) = (2, pos x ∷ pos 0 ∷ [], refl)
begins (Prints.new {x = x} {n = n} {fs = fs} f) = (2, pos x ∷ pos n ∷ fs, refl)
begins (Prints.always {m = m} {ps = ps} x) = (3, pos m ∷ ps, refl)
begins (Prints.once {m = m} {ps = ps} x) = (4, pos m ∷ ps, refl)
begins (Prints.always-same {a = a} {b = b} x y) = (5, a ++ b, refl)
begins (Prints.once-same {a = a} {b = b} x y) = (6, a ++ b, refl)
begins (Prints.branch {e = e} {a = a} {b = b} x y z) = (7, e ++ (a ++ b), refl)
begins (Prints.loop {e = e} {a = a} x y) = (8, e ++ a, refl)

statement-one : {d e : ℕ} → BlockOne d e → StatementOne d e
statement-one {d} {e} ih a b p q sa sb x y i = go (begins x).0 (begins x).1 (begins x).2 (begins y).0 (begins y).1 (begins y).2
  where
    go : (n : ℕ) (u : List ℤ) → a ≡ pos n ∷ u → (m : ℕ) (v : List ℤ) → b ≡ pos m ∷ v → Alike d e p q sa sb
    go n u j m v k =
        let h : pos n ∷ (u ++ p) ≡ pos m ∷ (v ++ q) = rw (j, k) at i in
        verb-one ih n u v p q (rw j at x) (rw (k, ← number h) at y) (tail h)

row-some : {d n : ℕ} {ws : List ℤ} {ss : List Sign} → Prints (row d n) ws ss → 0 < n
row-some (Prints.last x) = omega arith
row-some (Prints.more x y) = omega arith

row_one : {d e n m : ℕ} {a b p q : List ℤ} {sa sb : List Sign}
    → StatementOne d e → Prints (row d n) a sa → Prints (row e m) b sb → n ≡ m → a ++ p ≡ b ++ q → Alike d e p q sa sb
row_one {a = a} {b = b} {p = p} {q = q} {sa = sa} {sb = sb} ih (Prints.last x) (Prints.last x') z i = ih a b p q sa sb x x' i
row_one ih (Prints.last x) (Prints.more x' y') z i = absurd (omega (arith, row-some y'))
row_one ih (Prints.more x y) (Prints.last x') z i = absurd (omega (arith, row-some y))
row_one {d = m} {e = n} {p = p} {q = q} ih (Prints.more {s = a} {t = b} {ss = sa} {st = sb} x y) (Prints.more {s = c} {t = d} {ss = sc} {st = sd} x' y') z i =
    let j = ih a c (b ++ p) (d ++ q) sa sc x x' (behind a b p c d q i) in
    let k = row_one ih y y' (omega arith) j.rest in
    record { rest = k.rest; signs = λ w. rw (j.signs w, k.signs w, w); brackets = omega (arith, row-brackets m sa sb, row-brackets n sc sd, j.brackets, k.brackets) }

block_one : (d e : ℕ) → BlockOne d e
block_one zero e a b p q sa sb Prints.empty Prints.empty i = alike (tail i) refl
block_one zero e a b p q sa sb Prints.empty (Prints.braces y) i = absurd (omega (arith, row-some y, number i))
block_one (suc d) e a b p q sa sb Prints.empty Prints.empty i = alike (tail i) refl
block_one (suc d) e a b p q sa sb Prints.empty (Prints.braces y) i = absurd (omega (arith, row-some y, number i))
block_one (suc d) e a b p q sa sb (Prints.braces x) Prints.empty i = absurd (omega (arith, row-some x, number i))
block_one (suc d) (suc e) a b p q sa sb (Prints.braces {ss = ss} x) (Prints.braces {ss = st} y) i =
    let j = row_one (statement-one (block_one d e)) x y (number i) (tail i) in
    record { rest = j.rest; signs = λ w. let v : d ≡ e = omega arith in rw (j.signs v, v); brackets = omega (arith, block-brackets d ss, block-brackets e st, j.brackets) }

-- ---- texts

pub one-row : (d e : ℕ) {n : ℕ} {ws : List ℤ} {ss st : List Sign} → Prints (row d n) ws ss → Prints (row e n) ws st → Alike d e [] [] ss st
one-row d e x y = row_one (statement-one (block_one d e)) x y refl refl

pub one-text : {p : List ℤ} {ss st : List Sign} → Text p ss → Text p st → ss ≡ st
one-text Text.nothing Text.nothing = refl
one-text Text.nothing (Text.some y) = absurd (omega (arith, row-some y))
one-text (Text.some x) Text.nothing = absurd (omega (arith, row-some x))
one-text (Text.some x) (Text.some y) = (one-row 7 7 x y).signs refl

-- a text, and the same words in a row that may nest otherwise
pub text-brackets : (e : ℕ) {n : ℕ} {ws : List ℤ} {ss st : List Sign} → Text (pos n ∷ ws) ss → Prints (row e n) ws st → brackets_in ss ≡ brackets_in st
text-brackets e Text.nothing y = absurd (omega (arith, row-some y))
text-brackets e (Text.some x) y = (one-row 7 e x y).brackets
