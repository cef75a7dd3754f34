-- What the rules write is in the notation's grammar, with the same words. Assumes nothing.
use mathlib.Core.Path.{◌≡◌, ap, ◌∙◌}
use Prim.Native.Nat.{ℕ, zero, suc, ◌+◌, ◌≤◌, ◌<◌}
use mathlib.Core.Bool.{Bool, true, false}
use mathlib.Core.List.{List, [], ◌∷◌, ◌++◌}
use native.Mathlib.Omega.{arith}
use native.Mathlib.Nat.{le_trans}
use borrow.Author.Tests.{leb-true, leb-false}
use lib.Dec.{leb}
use lib.IntN.{ℤ, pos}
use Rattle.tables.proofs.SearchLaws.{cases}
use Rattle.tokens.specs.declared.Token.{Token}
use Rattle.tokens.specs.Codes.{becomes_code, open_bracket_code, close_bracket_code}
use Rattle.text.specs.Grammar as Grammar
use Rattle.text.specs.Grammar.{Meaning, Level}
use Rattle.text.proofs.LevelLaws.{level-bounds}
use Rattle.printing.specs.Signs.{Sign, space, operator_text, priority_text, then_sign}
use Rattle.printing.specs.Rules as Rules
use Rattle.printing.specs.Spaced.{Tells}
use Rattle.printing.proofs.OperatorLaws.{operator-is, operands-are, priority-is}

-- ---- the tokens of signs that stand one behind the other

pub parted {ℓ} : {M : Meaning} (X : List Token → Type ℓ) {ts : List Token} (sa : List Sign) {sb : List Sign}
    → Tells M (sa ++ sb) ts → ((ta tb : List Token) → Tells M sa ta → Tells M sb tb → X (ta ++ tb)) → X ts
parted X {ts} [] h f = f [] ts Tells.none h
parted X (Sign.blank s ∷ sa) (Tells.blank h) f = parted X sa h (λ ta tb a b. f ta tb (Tells.blank a) b)
parted X (Sign.fixed c s ∷ sa) (Tells.fixed {t = t} e h) f = parted (λ ts. X (t ∷ ts)) sa h (λ ta tb a b. f (t ∷ ta) tb (Tells.fixed e a) b)
parted X (Sign.integer z ∷ sa) (Tells.integer {t = t} e i h) f = parted (λ ts. X (t ∷ ts)) sa h (λ ta tb a b. f (t ∷ ta) tb (Tells.integer e i a) b)
parted X (Sign.variable x ∷ sa) (Tells.variable {t = t} e i h) f = parted (λ ts. X (t ∷ ts)) sa h (λ ta tb a b. f (t ∷ ta) tb (Tells.variable e i a) b)
parted X (Sign.label l ∷ sa) (Tells.label {t = t} e i h) f = parted (λ ts. X (t ∷ ts)) sa h (λ ta tb a b. f (t ∷ ta) tb (Tells.label e i a) b)

unspaced : {M : Meaning} {s : List ℕ} {ss : List Sign} {ts : List Token} → Tells M (Sign.blank s ∷ ss) ts → Tells M ss ts
unspaced (Tells.blank h) = h

first {ℓ} : {M : Meaning} (X : List Token → Type ℓ) {ts : List Token} {c : ℕ} {s : List ℕ} {ss : List Sign}
    → Tells M (Sign.fixed c s ∷ ss) ts → ((t : Token) (tb : List Token) → t.code ≡ c → Tells M ss tb → X (t ∷ tb)) → X ts
first X (Tells.fixed {t = t} {ts = tb} e h) f = f t tb e h

only {ℓ} : {M : Meaning} (X : List Token → Type ℓ) {ts : List Token} {c : ℕ} {s : List ℕ} → Tells M (Sign.fixed c s ∷ []) ts → ((t : Token) → t.code ≡ c → X (t ∷ [])) → X ts
only X (Tells.fixed {t = t} e Tells.none) f = f t e

-- tokens of a form, with these words, from some places
abbrev pub Yielded : (List Token → List ℤ → List ℕ → Type 0) → List Token → List ℤ → Type 0
Yielded P ts ws = (os : List ℕ) × P ts ws os

-- a word or a mark with its spaces between two pieces
between : {M : Meaning} (P : List Token → List ℤ → List ℕ → Type 0) (ws : List ℤ) {ts : List Token} (sa : List Sign) {c : ℕ} (s : List ℕ) {sb : List Sign}
    → Tells M (sa ++ space ∷ Sign.fixed c s ∷ space ∷ sb) ts
    → ((ta : List Token) (t : Token) (tb : List Token) → Tells M sa ta → t.code ≡ c → Tells M sb tb → Yielded P (ta ++ t ∷ tb) ws) → Yielded P ts ws
between P ws sa s h f =
    parted (λ ts. Yielded P ts ws) sa h (λ ta tb a b. first (λ ts. Yielded P (ta ++ ts) ws) (unspaced b) (λ t tc e r. f ta t tc a e (unspaced r)))

-- one that follows a piece directly, and white space behind it
behind : {M : Meaning} (P : List Token → List ℤ → List ℕ → Type 0) (ws : List ℤ) {ts : List Token} (sa : List Sign) {c : ℕ} (s b : List ℕ) {sb : List Sign}
    → Tells M (sa ++ Sign.fixed c s ∷ Sign.blank b ∷ sb) ts
    → ((ta : List Token) (t : Token) (tb : List Token) → Tells M sa ta → t.code ≡ c → Tells M sb tb → Yielded P (ta ++ t ∷ tb) ws) → Yielded P ts ws
behind P ws sa s b h f = parted (λ ts. Yielded P ts ws) sa h (λ ta tb a r. first (λ ts. Yielded P (ta ++ ts) ws) r (λ t tc e q. f ta t tc a e (unspaced q)))

-- one that closes
closing : {M : Meaning} (P : List Token → List ℤ → List ℕ → Type 0) (ws : List ℤ) {ts : List Token} (sa : List Sign) {c : ℕ} (s : List ℕ)
    → Tells M (sa ++ Sign.fixed c s ∷ []) ts → ((ta : List Token) (t : Token) → Tells M sa ta → t.code ≡ c → Yielded P (ta ++ t ∷ []) ws) → Yielded P ts ws
closing P ws sa s h f = parted (λ ts. Yielded P ts ws) sa h (λ ta tb a b. only (λ ts. Yielded P (ta ++ ts) ws) b (λ t e. f ta t a e))

-- ---- paths

labels-yield : {M : Meaning} {n : ℕ} {ws : List ℤ} {ss : List Sign} {ts : List Token} → Rules.Labels n ws ss → Tells M ss ts → Yielded (Grammar.Labels M n) ts ws
labels-yield Rules.Labels.none Tells.none = ([], Grammar.Labels.none)
labels-yield (Rules.Labels.one ls) (Tells.fixed {t = d} a (Tells.label {t = l} b e h)) =
    let y = labels-yield ls h in
    rw (← e) (_, Grammar.Labels.one d l a b y.1)

pub path-yields : {M : Meaning} {ws : List ℤ} {ss : List Sign} {ts : List Token} → Rules.Path ws ss → Tells M ss ts → Yielded (Grammar.Path M) ts ws
path-yields (Rules.Path.path ls) (Tells.variable {t = x} a e h) =
    let y = labels-yield ls h in
    rw (← e) (_, Grammar.Path.path x a y.1)

-- ---- expressions

-- what binds tighter binds as tightly as is asked for
pub looser : {M : Meaning} {in_c : Bool} {low : ℕ} {ts : List Token} {ws : List ℤ} {os : List ℕ} (l : ℕ)
    → 1 ≤ low → low ≤ l → Grammar.Expression M in_c l ts ws os → Grammar.Expression M in_c low ts ws os
looser zero a b e = absurd (omega arith)
looser {low = low} (suc l) a b e =
    cases (leb low l) (λ c. looser l a (leb-true low l c) (Grammar.Expression.tighter (le_trans a (leb-true low l c)) e))
    (λ c. let d : l < low = leb-false low l c in let s : low ≡ suc l = omega arith in rw s e)

lowered : {M : Meaning} {in_c : Bool} {low : ℕ} {ts : List Token} {ws : List ℤ} (l : ℕ)
    → 1 ≤ low → low ≤ l → Yielded (Grammar.Expression M in_c l) ts ws → Yielded (Grammar.Expression M in_c low) ts ws
lowered l a b y = (y.0, looser l a b y.1)

at_path : {M : Meaning} {in_c : Bool} {ts : List Token} {ws : List ℤ} {os : List ℕ} → Grammar.Path M ts ws os → Yielded (Grammar.Expression M in_c 6) ts (pos 24 ∷ ws)
at_path (Grammar.Path.path x a ls) = (_, Grammar.Expression.at x (Grammar.Path.path x a ls))

bracketed : {M : Meaning} {in_c : Bool} {ts : List Token} {ws : List ℤ} (o c : Token)
    → o.code ≡ open_bracket_code → Yielded (Grammar.Expression M in_c 1) ts ws → c.code ≡ close_bracket_code → Yielded (Grammar.Expression M in_c 6) (o ∷ ts ++ c ∷ []) ws
bracketed o c a y b = (y.0, Grammar.Expression.brackets o c a y.1 b)

-- an operator between its operands
operands-yield : {M : Meaning} {in_c : Bool} {o l : ℕ} {a b : List ℤ} {sa sb : List Sign} {ts : List Token}
    → 1 ≤ o → o ≤ 11 → Level o l → (1 ≤ l → l ≤ 6 → (ta : List Token) → Tells M sa ta → Yielded (Grammar.Expression M in_c l) ta a)
    → (1 ≤ suc l → suc l ≤ 6 → (tb : List Token) → Tells M sb tb → Yielded (Grammar.Expression M in_c (suc l)) tb b) → Tells M (sa ++ operator_text o ++ sb) ts
    → Yielded (Grammar.Expression M in_c l) ts (pos 25 ∷ pos o ∷ a ++ b)
operands-yield {M} {in_c} {o} {l} {sa = sa} {sb = sb} x y v p q h =
    let k = operator-is o x y in
    let s = level-bounds v in
    between (Grammar.Expression M in_c l) _ sa k.spelling
    (rw (← operands-are k sa sb) h)
    (λ ta t tb c e d. (_, Grammar.Expression.operation t (p s.0 (omega arith) ta c).1 e v (q (omega arith) (omega arith) tb d).1))

pub expression-yields : {M : Meaning} {in_c : Bool} {low : ℕ} {ws : List ℤ} {ss : List Sign} {ts : List Token}
    → Rules.Expression in_c low ws ss → 1 ≤ low → low ≤ 6 → Tells M ss ts → Yielded (Grammar.Expression M in_c low) ts ws
expression-yields Rules.Expression.nil a b (Tells.fixed {t = t} c Tells.none) = (_, looser 6 a b (Grammar.Expression.nil t c))
expression-yields Rules.Expression.no a b (Tells.fixed {t = t} c Tells.none) = (_, looser 6 a b (Grammar.Expression.no t c))
expression-yields Rules.Expression.yes a b (Tells.fixed {t = t} c Tells.none) = (_, looser 6 a b (Grammar.Expression.yes t c))
expression-yields Rules.Expression.number a b (Tells.integer {t = t} c e Tells.none) = rw (← e) (_, looser 6 a b (Grammar.Expression.number t c))
expression-yields (Rules.Expression.at p) a b h = lowered 6 a b (at_path (path-yields p h).1)
expression-yields {M} {in_c} {low} (Rules.Expression.identity {sa = sa} n p q) a b h =
    between (Grammar.Expression M in_c low) _ sa _ h (λ ta t tb x e y. (_, looser 6 a b (Grammar.Expression.identity t n (path-yields p x).1 e (path-yields q y).1)))
expression-yields (Rules.Expression.operation {l = l} x y v m p q) a b h =
    lowered l a m (operands-yield x y v (λ c d ta i. expression-yields p c d i) (λ c d tb i. expression-yields q c d i) h)
expression-yields {M} {in_c} {low} (Rules.Expression.brackets {o = o} {l = l} {sa = sa} {sb = sb} x y v m p q) a b (Tells.fixed {t = i} f h) =
    closing (λ ts. Grammar.Expression M in_c low (i ∷ ts)) _ (sa ++ operator_text o ++ sb) _ h
    (λ ta t r e.
    lowered 6 a b
    (bracketed i t f
    (lowered l (omega arith) (level-bounds v).0 (operands-yield x y v (λ c d ta i. expression-yields p c d i) (λ c d tb i. expression-yields q c d i) r))
    e))

-- ---- constraints and fields

-- a part with its priority
part-yields : {M : Meaning} {k : ℕ} {e : List ℤ} {se : List Sign} {ts : List Token}
    → 1 ≤ k → k ≤ 3 → Rules.Expression true 1 e se → Tells M (priority_text k ++ se) ts → Yielded (Grammar.Part M) ts (pos k ∷ e)
part-yields {M} {k} {e} {se} a b p h =
    let i = priority-is k a b in
    first (λ ts. Yielded (Grammar.Part M) ts (pos k ∷ e)) (rw i.text at h)
    (λ t tb c r. (_, Grammar.Part.said t a b (ap (λ n. n + 1) c ∙ i.numbered) (expression-yields p (omega arith) (omega arith) (unspaced r)).1))

pub parts-yield : {M : Meaning} {n : ℕ} {ws : List ℤ} {ss : List Sign} {ts : List Token} → Rules.Parts n ws ss → Tells M ss ts → Yielded (Grammar.Parts M n) ts ws
parts-yield (Rules.Parts.one a b p) h = (_, Grammar.Parts.one (part-yields a b p h).1)
parts-yield {M} (Rules.Parts.more {m = m} {k = k} {se = se} a b p ps) h =
    between (Grammar.Parts M (suc m)) _ (priority_text k ++ se) _ h
    (λ ta t tb x e y. (_, Grammar.Parts.more t (part-yields a b p x).1 e (parts-yield ps y).1))

constrained : {M : Meaning} {n : ℕ} {ws : List ℤ} {os : List ℕ} {ts : List Token} → Grammar.Parts M n ts ws os → Yielded (Grammar.Constraint M) ts (pos n ∷ ws)
constrained (Grammar.Parts.one (Grammar.Part.said t a b c e)) = (_, Grammar.Constraint.constraint t (Grammar.Parts.one (Grammar.Part.said t a b c e)))
constrained (Grammar.Parts.one (Grammar.Part.unsaid t e)) = (_, Grammar.Constraint.constraint t (Grammar.Parts.one (Grammar.Part.unsaid t e)))
constrained (Grammar.Parts.more j (Grammar.Part.said t a b c e) d ps) = (_, Grammar.Constraint.constraint t (Grammar.Parts.more j (Grammar.Part.said t a b c e) d ps))
constrained (Grammar.Parts.more j (Grammar.Part.unsaid t e) d ps) = (_, Grammar.Constraint.constraint t (Grammar.Parts.more j (Grammar.Part.unsaid t e) d ps))

pub fields-yield : {M : Meaning} {n : ℕ} {ws : List ℤ} {ss : List Sign} {ts : List Token} → Rules.Fields n ws ss → Tells M ss ts → Yielded (Grammar.Fields M n) ts ws
fields-yield (Rules.Fields.one p) (Tells.label {t = l} a e (Tells.fixed {t = c} b (Tells.blank h))) =
    rw (← e) (_, Grammar.Fields.one l c a b (expression-yields p (omega arith) (omega arith) h).1)
fields-yield {M} (Rules.Fields.more {n = n} {se = se} p fs) (Tells.label {t = l} a e (Tells.fixed {t = c} b (Tells.blank h))) =
    behind (λ ts. Grammar.Fields M (suc n) (l ∷ c ∷ ts)) _ se _ _ h
    (λ ta j tb x d y. rw (← e) (_, Grammar.Fields.more l c j a b (expression-yields p (omega arith) (omega arith) x).1 d (fields-yield fs y).1))

-- ---- statements and blocks

abbrev pub piece_of : Rules.Piece → Grammar.Piece
piece_of (Rules.Piece.statement d) = Grammar.Piece.statement
piece_of (Rules.Piece.row d n) = Grammar.Piece.row n
piece_of (Rules.Piece.block d) = Grammar.Piece.block

assigned : {M : Meaning} {a ts : List Token} {va ws : List ℤ} {oa os : List ℕ} (b : Token)
    → Grammar.Path M a va oa → b.code ≡ becomes_code → Grammar.Expression M false 1 ts ws os
    → Yielded (Grammar.Yields M Grammar.Piece.statement) (a ++ b ∷ ts) (pos 1 ∷ va ++ ws)
assigned b (Grammar.Path.path x a ls) c e = (_, Grammar.Yields.assign x b (Grammar.Path.path x a ls) c e)

pub prints-yield : {M : Meaning} {p : Rules.Piece} {ws : List ℤ} {ss : List Sign} {ts : List Token}
    → Rules.Prints p ws ss → Tells M ss ts → Yielded (Grammar.Yields M (piece_of p)) ts ws
prints-yield Rules.Prints.skip (Tells.fixed {t = t} c Tells.none) = (_, Grammar.Yields.skip t c)
prints-yield {M} (Rules.Prints.assign {sa = sa} p e) h =
    between (Grammar.Yields M Grammar.Piece.statement) _ sa _ h
    (λ ta t tb x c y. assigned t (path-yields p x).1 c (expression-yields e (omega arith) (omega arith) y).1)
prints-yield Rules.Prints.new_empty (Tells.variable {t = x} a i (Tells.blank (Tells.fixed {t = b} c (Tells.blank (Tells.fixed {t = w} d (Tells.blank (Tells.fixed {t = o} f (Tells.fixed {t = s} g Tells.none)))))))) =
    rw (← i) (_, Grammar.Yields.new_empty x b w o s a c d f g)
prints-yield {M} (Rules.Prints.new {ss = ss} fs) (Tells.variable {t = x} a i (Tells.blank (Tells.fixed {t = b} c (Tells.blank (Tells.fixed {t = w} d (Tells.blank (Tells.fixed {t = o} f h))))))) =
    closing (λ ts. Grammar.Yields M Grammar.Piece.statement (x ∷ b ∷ w ∷ o ∷ ts)) _ ss _ h
    (λ ta t r e. rw (← i) (_, Grammar.Yields.new x b w o t a c d f (fields-yield fs r).1 e))
prints-yield (Rules.Prints.always ps) (Tells.fixed {t = t} c (Tells.blank h)) = (_, Grammar.Yields.always t c (constrained (parts-yield ps h).1).1)
prints-yield (Rules.Prints.once ps) (Tells.fixed {t = t} c (Tells.blank h)) = (_, Grammar.Yields.once t c (constrained (parts-yield ps h).1).1)
prints-yield {M} (Rules.Prints.always-same {sa = sa} p q) (Tells.fixed {t = t} c (Tells.blank h)) =
    between (λ ts. Grammar.Yields M Grammar.Piece.statement (t ∷ ts)) _ sa _ h
    (λ ta s tb x e y. (_, Grammar.Yields.always-same t s c (path-yields p x).1 e (path-yields q y).1))
prints-yield {M} (Rules.Prints.once-same {sa = sa} p q) (Tells.fixed {t = t} c (Tells.blank h)) =
    between (λ ts. Grammar.Yields M Grammar.Piece.statement (t ∷ ts)) _ sa _ h
    (λ ta s tb x e y. (_, Grammar.Yields.once-same t s c (path-yields p x).1 e (path-yields q y).1))
prints-yield {M} (Rules.Prints.branch {se = se} {sa = sa} e p q) (Tells.fixed {t = i} c (Tells.blank h)) =
    between (λ ts. Grammar.Yields M Grammar.Piece.statement (i ∷ ts)) _ (se ++ space ∷ then_sign ∷ space ∷ sa) _ h
    (λ tl s tc x f z.
    between (λ ts. Grammar.Yields M Grammar.Piece.statement (i ∷ ts ++ s ∷ tc)) _ se _ x
    (λ ta t tb w d y. (_, Grammar.Yields.branch i t s c (expression-yields e (omega arith) (omega arith) w).1 d (prints-yield p y).1 f (prints-yield q z).1)))
prints-yield {M} (Rules.Prints.loop {se = se} e p) (Tells.fixed {t = w} c (Tells.blank h)) =
    between (λ ts. Grammar.Yields M Grammar.Piece.statement (w ∷ ts)) _ se _ h
    (λ ta t tb x d y. (_, Grammar.Yields.loop w t c (expression-yields e (omega arith) (omega arith) x).1 d (prints-yield p y).1))
prints-yield (Rules.Prints.last p) h = (_, Grammar.Yields.last (prints-yield p h).1)
prints-yield {M} (Rules.Prints.more {n = n} {ss = ss} p q) h =
    behind (Grammar.Yields M (Grammar.Piece.row (suc n))) _ ss _ _ h
    (λ ta t tb x e y. (_, Grammar.Yields.more t (prints-yield p x).1 e (prints-yield q y).1))
prints-yield Rules.Prints.empty (Tells.fixed {t = o} a (Tells.fixed {t = c} b Tells.none)) = (_, Grammar.Yields.empty o c a b)
prints-yield {M} (Rules.Prints.braces {n = n} {ws = ws} {ss = ss} p) (Tells.fixed {t = o} a (Tells.blank h)) =
    parted (λ ts. Yielded (Grammar.Yields M Grammar.Piece.block) (o ∷ ts) (pos n ∷ ws)) ss h
    (λ ta tb x y. only (λ ts. Yielded (Grammar.Yields M Grammar.Piece.block) (o ∷ ta ++ ts) (pos n ∷ ws)) (unspaced y)
    (λ t e. (_, Grammar.Yields.braces o t a (prints-yield p x).1 e)))

pub text-yields : (M : Meaning) (ts : List Token) {p : List ℤ} {ss : List Sign} → Rules.Text p ss → Tells M ss ts → Yielded (Grammar.Text M) ts p
text-yields M _ Rules.Text.nothing Tells.none = (_, Grammar.Text.nothing)
text-yields M ts (Rules.Text.some p) h = (_, Grammar.Text.some (prints-yield p h).1)
