-- The definitions of the operators and the operators' table say the same (T-OP, E-OP). Assumes nothing.
use Rattle.std.specs.Prelude.{Some}
use mathlib.Core.Path.{◌≡◌, refl, sym, ap, ◌∙◌}
use mathlib.Core.Logic.{◌≢◌, ◌↔◌}
use mathlib.Core.Bool.{Bool, true, false, not, ◌&&◌, ◌||◌, true≢false}
use Prim.Native.Nat.{ℕ, zero, suc, ◌≤◌}
use native.Mathlib.Omega.{arith}
use native.Mathlib.Decide.{ℕ_discrete}
use lib.IntN.{ℤ, ◌+ℤ◌, ◌-ℤ◌, ◌*ℤ◌}
use lib.Signed.{lt_z, le_z}
use Rattle.words.specs.Words.{eq_z}
use Rattle.words.specs.Range.{fits}
use Rattle.words.specs.Answer.{Answer, got, ◌>>◌, want}
use Rattle.words.proofs.AnswerLaws.{got-inj, stop≢got, tested}
use Rattle.words.proofs.Laws.{eq_z-refl, eq_z-true}
use Rattle.tables.specs.declared.Value.{Value}
use Rattle.tables.specs.declared.Value.TheVariants.{Nil, Bool as Truth, Int, Ref}
use Rattle.tables.specs.declared.Kind.{Kind}
use Rattle.tables.specs.declared.Kind.TheVariants.{Nil as is_nil, Bool as is_bool, Int as is_int, Ref as is_ref}
use Rattle.tables.specs.Values.{cell, cell_of, slot_of, Sound}
use Rattle.tables.proofs.SearchLaws.{cases, and_left, and_right, and-true}
use Rattle.tables.proofs.ValueLaws.{slot-of-cell}
use Rattle.program.specs.Forms.{operators}
use Rattle.rules.specs.Evaluation.{kind_of, op_of, an_int, a_bool, comparable, takes, gives, same, int_of, bool_of, ranged, made, apply}
use Rattle.rules.specs.Rules.Operators.{Gives, Makes}

-- ---- kind and payload

module _ (a b : Value) where
  pub same_true : same a b ≡ true → cell_of a ≡ cell_of b
  unfolding same
  same_true e =
      let k : (cell_of a).kind ≡ (cell_of b).kind = eq_z-true _ _ (and_left (eq_z (cell_of a).kind (cell_of b).kind) _ e) in
      let v : (cell_of a).payload ≡ (cell_of b).payload = eq_z-true _ _ (and_right (eq_z (cell_of a).kind (cell_of b).kind) _ e) in
      let c : cell (cell_of a).kind (cell_of a).payload ≡ cell (cell_of b).kind (cell_of b).payload = cc in
      c

  pub cell_same : cell_of a ≡ cell_of b → same a b ≡ true
  unfolding same
  cell_same e =
      rw e (and-true (eq_z (cell_of b).kind (cell_of b).kind) (eq_z (cell_of b).payload (cell_of b).payload) (eq_z-refl (cell_of b).kind) (eq_z-refl (cell_of b).payload))

  pub same_false : same a b ≡ false → cell_of a ≢ cell_of b
  same_false e q =
      let c : true ≡ false = sym (cell_same q) ∙ e in
      let z : ◌≡◌ {A = ℕ} 0 1 = cc in
      omega arith

  pub cell-differs : cell_of a ≢ cell_of b → same a b ≡ false
  cell-differs h = cases (same a b) (λ e. absurd (h (same_true e))) (λ e. e)

  -- of values that a cell can hold: kind and payload are the same exactly where the value is
  pub same-value : Sound a → Sound b → cell_of a ≡ cell_of b → a ≡ b
  same-value x y e =
      let q : Some a ≡ Some b = sym (slot-of-cell a x) ∙ ap slot_of e ∙ slot-of-cell b y in
      cc

-- a value that is no reference
plain-sound : (a : Value) → kind_of a ≢ is_ref → Sound a
plain-sound Nil h = tt
plain-sound (Truth b) h = tt
plain-sound (Int n) h = tt
plain-sound (Ref r) h = absurd (h refl)

-- ---- which kinds an operator takes

-- what is asked of two kinds holds of these
ints : (P : Kind → Kind → Type 0) (a b : Kind) → (an_int a && an_int b) ≡ true → P is_int is_int → P a b
ints P is_int is_int e k = k
ints P is_int is_nil e k = absurd (true≢false (sym e))
ints P is_int is_bool e k = absurd (true≢false (sym e))
ints P is_int is_ref e k = absurd (true≢false (sym e))
ints P is_nil b e k = absurd (true≢false (sym e))
ints P is_bool b e k = absurd (true≢false (sym e))
ints P is_ref b e k = absurd (true≢false (sym e))

bools : (P : Kind → Kind → Type 0) (a b : Kind) → (a_bool a && a_bool b) ≡ true → P is_bool is_bool → P a b
bools P is_bool is_bool e k = k
bools P is_bool is_nil e k = absurd (true≢false (sym e))
bools P is_bool is_int e k = absurd (true≢false (sym e))
bools P is_bool is_ref e k = absurd (true≢false (sym e))
bools P is_nil b e k = absurd (true≢false (sym e))
bools P is_int b e k = absurd (true≢false (sym e))
bools P is_ref b e k = absurd (true≢false (sym e))

-- two integers, two booleans or two nils are of one kind, and no references
one-kind : (P : Kind → Kind → Type 0) (a b : Kind) → comparable a b ≡ true → ((k : Kind) → k ≢ is_ref → P k k) → P a b
unfolding comparable
one-kind P is_nil is_nil e f = f is_nil (λ q. true≢false cc)
one-kind P is_bool is_bool e f = f is_bool (λ q. true≢false cc)
one-kind P is_int is_int e f = f is_int (λ q. true≢false cc)
one-kind P is_nil is_bool e f = absurd (true≢false (sym e))
one-kind P is_nil is_int e f = absurd (true≢false (sym e))
one-kind P is_nil is_ref e f = absurd (true≢false (sym e))
one-kind P is_bool is_nil e f = absurd (true≢false (sym e))
one-kind P is_bool is_int e f = absurd (true≢false (sym e))
one-kind P is_bool is_ref e f = absurd (true≢false (sym e))
one-kind P is_int is_nil e f = absurd (true≢false (sym e))
one-kind P is_int is_bool e f = absurd (true≢false (sym e))
one-kind P is_int is_ref e f = absurd (true≢false (sym e))
one-kind P is_ref b e f = absurd (true≢false (sym e))

compared : (k : Kind) → k ≢ is_ref → comparable k k ≡ true
unfolding comparable
compared is_nil h = refl
compared is_bool h = refl
compared is_int h = refl
compared is_ref h = absurd (h refl)

module _ (a b : Kind) where
  pub gives-sound : (o : ℕ) → 1 ≤ o → o ≤ operators → takes (op_of o) a b ≡ true → Gives o a b (gives (op_of o))
  unfolding takes gives op_of
  gives-sound zero h l e = absurd (omega arith)
  gives-sound (suc zero) h l e = ints (λ x y. Gives 1 x y is_int) a b e (Gives.number (omega arith) (omega arith))
  gives-sound (suc (suc zero)) h l e = ints (λ x y. Gives 2 x y is_int) a b e (Gives.number (omega arith) (omega arith))
  gives-sound (suc (suc (suc zero))) h l e = ints (λ x y. Gives 3 x y is_int) a b e (Gives.number (omega arith) (omega arith))
  gives-sound (suc (suc (suc (suc zero)))) h l e = ints (λ x y. Gives 4 x y is_bool) a b e (Gives.order (omega arith) (omega arith))
  gives-sound (suc (suc (suc (suc (suc zero))))) h l e = ints (λ x y. Gives 5 x y is_bool) a b e (Gives.order (omega arith) (omega arith))
  gives-sound (suc (suc (suc (suc (suc (suc zero)))))) h l e = one-kind (λ x y. Gives 6 x y is_bool) a b e λ k. Gives.equality (omega arith) (omega arith)
  gives-sound (suc (suc (suc (suc (suc (suc (suc zero))))))) h l e = one-kind (λ x y. Gives 7 x y is_bool) a b e λ k. Gives.equality (omega arith) (omega arith)
  gives-sound (suc (suc (suc (suc (suc (suc (suc (suc zero)))))))) h l e = ints (λ x y. Gives 8 x y is_bool) a b e (Gives.reverse (omega arith) (omega arith))
  gives-sound (suc (suc (suc (suc (suc (suc (suc (suc (suc zero))))))))) h l e = ints (λ x y. Gives 9 x y is_bool) a b e (Gives.reverse (omega arith) (omega arith))
  gives-sound (suc (suc (suc (suc (suc (suc (suc (suc (suc (suc zero)))))))))) h l e = bools (λ x y. Gives 10 x y is_bool) a b e (Gives.logic (omega arith) (omega arith))
  gives-sound (suc (suc (suc (suc (suc (suc (suc (suc (suc (suc (suc zero))))))))))) h l e = bools (λ x y. Gives 11 x y is_bool) a b e (Gives.logic (omega arith) (omega arith))
  gives-sound (suc (suc (suc (suc (suc (suc (suc (suc (suc (suc (suc (suc o)))))))))))) h l e = absurd (omega arith)

pub gives-operator : {o : ℕ} {a b k : Kind} → Gives o a b k → (1 ≤ o) × (o ≤ operators)
gives-operator (Gives.number h l) = (omega arith, omega arith)
gives-operator (Gives.order h l) = (omega arith, omega arith)
gives-operator (Gives.equality h l x) = (omega arith, omega arith)
gives-operator (Gives.reverse h l) = (omega arith, omega arith)
gives-operator (Gives.logic h l) = (omega arith, omega arith)

-- a number from n on is n, or is above it
from : (P : ℕ → Type 0) (n : ℕ) {o : ℕ} → n ≤ o → P n → (suc n ≤ o → P o) → P o
from P n {o} h x y = go (ℕ_discrete n o)
  where
    go : Dec (n ≡ o) → P o
    go (yes e) = rw (← e) x
    go (no d) = y (omega arith)

-- what the operator o takes, and what it then gives
abbrev pub Given : Kind → Kind → Kind → ℕ → Type 0
Given a b k o = (takes (op_of o) a b ≡ true) × (gives (op_of o) ≡ k)

pub gives-complete : {o : ℕ} {a b k : Kind} → Gives o a b k → Given a b k o
unfolding takes gives op_of
gives-complete (Gives.number h l) =
    from (Given is_int is_int is_int) 1 h (refl, refl) λ i. from (Given is_int is_int is_int) 2 i (refl, refl) λ j. from (Given is_int is_int is_int) 3 j (refl, refl) λ k. absurd (omega arith)
gives-complete (Gives.order h l) = from (Given is_int is_int is_bool) 4 h (refl, refl) λ i. from (Given is_int is_int is_bool) 5 i (refl, refl) λ j. absurd (omega arith)
gives-complete (Gives.equality {k = a} h l x) =
    from (Given a a is_bool) 6 h (compared a x, refl) λ i. from (Given a a is_bool) 7 i (compared a x, refl) λ j. absurd (omega arith)
gives-complete (Gives.reverse h l) = from (Given is_int is_int is_bool) 8 h (refl, refl) λ i. from (Given is_int is_int is_bool) 9 i (refl, refl) λ j. absurd (omega arith)
gives-complete (Gives.logic h l) = from (Given is_bool is_bool is_bool) 10 h (refl, refl) λ i. from (Given is_bool is_bool is_bool) 11 i (refl, refl) λ j. absurd (omega arith)

-- ---- what an operator makes

range {ℓ} : {X : Type ℓ} {v : Value} (z : ℤ) → ranged z ≡ got v → (fits z ≡ true → Int z ≡ v → X) → X
unfolding ranged
range z e k = tested 9 (fits z) _ e λ c h. k c (got-inj h)

-- the operands are integers, or booleans, where those are asked for
int-made : (P : Value → Value → Type 0) (f : ℤ → ℤ → Answer ℕ Value) (v a b : Value) → (want 8 (an_int (kind_of a) && an_int (kind_of b)) >> f (int_of a) (int_of b)) ≡ got v
    → ((m n : ℤ) → f m n ≡ got v → P (Int m) (Int n)) → P a b
int-made P f v (Int m) (Int n) e k = k m n e
int-made P f v (Int m) Nil e k = stop≢got e
int-made P f v (Int m) (Truth y) e k = stop≢got e
int-made P f v (Int m) (Ref s) e k = stop≢got e
int-made P f v Nil b e k = stop≢got e
int-made P f v (Truth x) b e k = stop≢got e
int-made P f v (Ref r) b e k = stop≢got e

bool-made : (P : Value → Value → Type 0) (f : Bool → Bool → Bool) (v a b : Value)
    → (want {E = ℕ} 8 (a_bool (kind_of a) && a_bool (kind_of b)) >> got (Truth (f (bool_of a) (bool_of b)))) ≡ got v
    → ((m n : Bool) → Truth (f m n) ≡ v → P (Truth m) (Truth n)) → P a b
bool-made P f v (Truth m) (Truth n) e k = k m n (got-inj e)
bool-made P f v (Truth m) Nil e k = stop≢got e
bool-made P f v (Truth m) (Int y) e k = stop≢got e
bool-made P f v (Truth m) (Ref s) e k = stop≢got e
bool-made P f v Nil b e k = stop≢got e
bool-made P f v (Int x) b e k = stop≢got e
bool-made P f v (Ref r) b e k = stop≢got e

-- two booleans that are true in the same case
pub agree : {P : Type 0} (s t : Bool) → (s ≡ true) ↔ P → (t ≡ true) ↔ P → s ≡ t
agree true t x y = sym (y.1 (x.0 refl))
agree false true x y = x.1 (y.0 refl)
agree false false x y = refl

-- kind and payload of plain values of one kind
module _ (a b : Value) (k : kind_of a ≡ kind_of b) (x : kind_of a ≢ is_ref) where
  by-cell : cell_of a ≡ cell_of b → a ≡ b
  by-cell = same-value a b (plain-sound a x) (plain-sound b (λ q. x (k ∙ q)))

  alike : (same a b ≡ true) ↔ (a ≡ b)
  alike = (λ s. by-cell (same_true a b s), λ q. cell_same a b (ap cell_of q))

  apart : (not (same a b) ≡ true) ↔ (a ≢ b)
  apart = (λ s q. true≢false (sym s ∙ rw (alike.1 q)), λ n. rw (cell-differs a b (λ q. n (by-cell q))))

  both-compared : comparable (kind_of a) (kind_of b) ≡ true
  both-compared = rw (← k) (compared (kind_of a) x)

module _ (v a b : Value) where
  -- = and ≠: two plain values of one kind are one, or are apart
  like-made : {X : Type 0} (f : Bool → Bool) → (want {E = ℕ} 8 (comparable (kind_of a) (kind_of b)) >> got (Truth (f (same a b)))) ≡ got v
      → (kind_of a ≡ kind_of b → kind_of a ≢ is_ref → Truth (f (same a b)) ≡ v → X) → X
  like-made {X} f e h =
      tested 8 (comparable (kind_of a) (kind_of b)) _ e λ c k. one-kind (λ m n. (m ≡ n → m ≢ is_ref → X) → X) (kind_of a) (kind_of b) c (λ m x g. g refl x) (λ q x. h q x (got-inj k))

  pub makes-sound : (o : ℕ) → 1 ≤ o → o ≤ operators → apply (op_of o) a b ≡ got v → Makes o a b v
  unfolding apply made takes op_of
  makes-sound zero h l e = absurd (omega arith)
  makes-sound (suc zero) h l e = int-made (λ x y. Makes 1 x y v) (λ m n. ranged (m +ℤ n)) v a b e λ m n k. range (m +ℤ n) k λ c q. rw (← q) (Makes.plus c)
  makes-sound (suc (suc zero)) h l e = int-made (λ x y. Makes 2 x y v) (λ m n. ranged (m -ℤ n)) v a b e λ m n k. range (m -ℤ n) k λ c q. rw (← q) (Makes.minus c)
  makes-sound (suc (suc (suc zero))) h l e = int-made (λ x y. Makes 3 x y v) (λ m n. ranged (m *ℤ n)) v a b e λ m n k. range (m *ℤ n) k λ c q. rw (← q) (Makes.times c)
  makes-sound (suc (suc (suc (suc zero)))) h l e = int-made (λ x y. Makes 4 x y v) (λ m n. got (Truth (lt_z m n))) v a b e λ m n k. rw (← got-inj k) Makes.less
  makes-sound (suc (suc (suc (suc (suc zero))))) h l e = int-made (λ x y. Makes 5 x y v) (λ m n. got (Truth (le_z m n))) v a b e λ m n k. rw (← got-inj k) Makes.at_most
  makes-sound (suc (suc (suc (suc (suc (suc zero)))))) h l e =
      like-made (λ t. t) e λ x y q. rw (← q) (Makes.equal x y (alike a b x y))
  makes-sound (suc (suc (suc (suc (suc (suc (suc zero))))))) h l e =
      like-made (λ t. not t) e λ x y q. rw (← q) (Makes.unequal x y (apart a b x y))
  makes-sound (suc (suc (suc (suc (suc (suc (suc (suc zero)))))))) h l e = int-made (λ x y. Makes 8 x y v) (λ m n. got (Truth (le_z n m))) v a b e λ m n k. rw (← got-inj k) Makes.at_least
  makes-sound (suc (suc (suc (suc (suc (suc (suc (suc (suc zero))))))))) h l e = int-made (λ x y. Makes 9 x y v) (λ m n. got (Truth (lt_z n m))) v a b e λ m n k. rw (← got-inj k) Makes.more
  makes-sound (suc (suc (suc (suc (suc (suc (suc (suc (suc (suc zero)))))))))) h l e = bool-made (λ x y. Makes 10 x y v) (λ m n. m && n) v a b e λ m n q. rw (← q) Makes.both
  makes-sound (suc (suc (suc (suc (suc (suc (suc (suc (suc (suc (suc zero))))))))))) h l e = bool-made (λ x y. Makes 11 x y v) (λ m n. m || n) v a b e λ m n q. rw (← q) Makes.either
  makes-sound (suc (suc (suc (suc (suc (suc (suc (suc (suc (suc (suc (suc o)))))))))))) h l e = absurd (omega arith)

pub makes-operator : {o : ℕ} {a b v : Value} → Makes o a b v → (1 ≤ o) × (o ≤ operators)
makes-operator (Makes.plus c) = (omega arith, omega arith)
makes-operator (Makes.minus c) = (omega arith, omega arith)
makes-operator (Makes.times c) = (omega arith, omega arith)
makes-operator Makes.less = (omega arith, omega arith)
makes-operator Makes.at_most = (omega arith, omega arith)
makes-operator (Makes.equal x y q) = (omega arith, omega arith)
makes-operator (Makes.unequal x y q) = (omega arith, omega arith)
makes-operator Makes.at_least = (omega arith, omega arith)
makes-operator Makes.more = (omega arith, omega arith)
makes-operator Makes.both = (omega arith, omega arith)
makes-operator Makes.either = (omega arith, omega arith)

pub makes-complete : {o : ℕ} {a b v : Value} → Makes o a b v → apply (op_of o) a b ≡ got v
unfolding apply made takes op_of ranged
makes-complete (Makes.plus c) = rw c
makes-complete (Makes.minus c) = rw c
makes-complete (Makes.times c) = rw c
makes-complete Makes.less = refl
makes-complete Makes.at_most = refl
makes-complete (Makes.equal {a = a} {b = b} {t = t} x y q) = rw (both-compared a b x y, agree (same a b) t (alike a b x y) q)
makes-complete (Makes.unequal {a = a} {b = b} {t = t} x y q) = rw (both-compared a b x y, agree (not (same a b)) t (apart a b x y) q)
makes-complete Makes.at_least = refl
makes-complete Makes.more = refl
makes-complete Makes.both = refl
makes-complete Makes.either = refl
