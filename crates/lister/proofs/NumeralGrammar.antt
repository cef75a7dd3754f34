-- The definition reads exactly the numerals of the grammar, each as its number. Assumes nothing.
use Rattle.std.specs.Prelude.{None, Some}
use mathlib.Core.Path.{◌≡◌, refl, sym, ap, ◌∙◌}
use mathlib.Core.List.{List, [], ◌∷◌, ◌++◌, append_assoc, append-nil}
use Prim.Native.Nat.{ℕ, zero, suc, ◌+◌, ◌-◌, ◌*◌, ◌/◌, ◌%◌, ◌≤◌, ◌<◌}
use native.Mathlib.Omega.{arith}
use borrow.Author.Tests.{lt-ltb, ne_eqb, ltb-true, ltb-false, eqb-true, eqb-false}
use lib.Dec.{ltb, eqb}
use lib.IntN.{ℤ, pos, negsuc}
use lib.Signed.{mag}
use Rattle.tables.proofs.SearchLaws.{cases}
use Rattle.lister.specs.Numerals.{no_number, digit_of, value_from, natural_in, positive_of, negative_of, numeral_in, digits_by, digits, numeral}
use Rattle.lister.specs.Grammar.{Digits, Numeral}
use Rattle.lister.proofs.NumeralLaws.{digit_low, digit-high, digit-is, value_none, value-no-digit, value-too-great, value-more}

-- ---- a digit

-- a byte that is a digit, and one that is none
by-digit {ℓ} : {X : Type ℓ} (b : ℕ) → (digit_of b ≡ 10 → X) → ((d : ℕ) → d < 10 → b ≡ 48 + d → digit_of b ≡ d → X) → X
by-digit b f g =
    cases (ltb b 48) (λ e. f (digit_low b (ltb-true b 48 e)))
    (λ e. cases (ltb 57 b) (λ k. f (digit-high b (ltb-true 57 b k)))
    (λ k. let l : 48 ≤ b = ltb-false b 48 e in
    let h : b ≤ 57 = ltb-false 57 b k in
    g (b - 48) (omega arith) (omega arith) (digit-is b l h)))

digit-of : (d : ℕ) → d < 10 → digit_of (48 + d) ≡ d
digit-of d h = digit-is (48 + d) (omega arith) (omega arith) ∙ (let z : 48 + d - 48 ≡ d = omega arith in z)

-- one digit more at n: within the range it is read on, and else there is no number
more : (n d : ℕ) (s : List ℕ) → d < 10 → 10 * n + d ≤ 2147483648 → value_from n ((48 + d) ∷ s) ≡ value_from (10 * n + d) s
more n d s h l =
    let e : digit_of (48 + d) ≡ d = digit-of d h in
    rw e at (value-more n (48 + d) s (λ k. omega (arith, e)) (omega (arith, e)))

-- ---- digits are read as their number

snoc : (k n d : ℕ) (s : List ℕ) → d < 10 → 10 * n + d ≤ 2147483648 → value_from k s ≡ n → value_from k (s ++ ((48 + d) ∷ [])) ≡ 10 * n + d
snoc k n d [] h l e =
    let q : k ≡ n = sym (value_none k) ∙ e in
    rw q (more n d [] h l ∙ value_none (10 * n + d))
snoc k n d (b ∷ s) h l e =
    by-digit b (λ x. let z : no_number ≡ n = sym (value-no-digit k b s x) ∙ e in absurd (omega arith))
    (λ c i j x. cases (ltb 2147483648 (10 * k + c))
    (λ y. let g : 2147483648 < 10 * k + c = ltb-true 2147483648 (10 * k + c) y in
    let z : no_number ≡ n = sym (value-too-great k b s (λ v. omega arith) (omega arith)) ∙ e in absurd (omega arith))
    (λ y. let g : 10 * k + c ≤ 2147483648 = ltb-false 2147483648 (10 * k + c) y in
    let one : value_from k (b ∷ s) ≡ value_from (10 * k + c) s = rw x at (value-more k b s (λ v. omega arith) (omega arith)) in
    let two : value_from k (b ∷ (s ++ ((48 + d) ∷ []))) ≡ value_from (10 * k + c) (s ++ ((48 + d) ∷ [])) = rw x at (value-more k b (s ++ ((48 + d) ∷ [])) (λ v. omega arith) (omega arith)) in
    two ∙ snoc (10 * k + c) n d s h l (sym one ∙ e)))

pub digits_value : {s : List ℕ} {n : ℕ} → Digits s n → n ≤ 2147483648 → value_from 0 s ≡ n
digits_value (Digits.first {d = d} a b) h =
    let z : 10 * 0 + d ≡ d = omega arith in
    rw z at (more 0 d [] b (omega arith) ∙ value_none (10 * 0 + d))
digits_value (Digits.next {s = s} {n = n} {d = d} k b) h = snoc 0 n d s b h (digits_value k (omega arith))

-- the first digit is not 0, and it stands first
pub record Leads (s : List ℕ) : Type 0 where
  pub byte : ℕ
  pub others : List ℕ
  pub is : s ≡ byte ∷ others
  pub least : 49 ≤ byte
  pub most : byte ≤ 57

pub digits-lead : {s : List ℕ} {n : ℕ} → Digits s n → Leads s
digits-lead (Digits.first {d = d} a b) = record { byte = 48 + d; others = []; is = refl; least = omega arith; most = omega arith }
digits-lead (Digits.next {s = s} {d = d} k b) =
    let l : Leads s = digits-lead k in
    record { byte = l.byte; others = l.others ++ ((48 + d) ∷ []); is = ap (λ r. r ++ ((48 + d) ∷ [])) l.is; least = l.least; most = l.most }

natural-leads : (b : ℕ) (s : List ℕ) → 49 ≤ b → b ≤ 57 → natural_in (b ∷ s) ≡ value_from 0 (b ∷ s)
unfolding natural_in
natural-leads b [] h k = refl
natural-leads b (c ∷ s) h k = let e : digit_of b ≡ b - 48 = digit-is b (omega arith) k in rw (ne_eqb (digit_of b) 0 (λ z. omega arith))

pub digits-natural : {s : List ℕ} {n : ℕ} → Digits s n → n ≤ 2147483648 → natural_in s ≡ n
digits-natural {s = s} d h =
    let l : Leads s = digits-lead d in
    ap natural_in l.is ∙ natural-leads l.byte l.others l.least l.most ∙ sym (ap (λ r. value_from 0 r) l.is) ∙ digits_value d h

-- ---- what is read as a number is digits

value-digits : (p s : List ℕ) (n m : ℕ) → Digits p n → value_from n s ≡ m → m ≤ 2147483648 → Digits (p ++ s) m
value-digits p [] n m d e h =
    let q : n ≡ m = sym (value_none n) ∙ e in
    rw (append-nil p, ← q) d
value-digits p (b ∷ s) n m d e h =
    by-digit b (λ x. let z : no_number ≡ m = sym (value-no-digit n b s x) ∙ e in absurd (omega arith))
    (λ c i j x. cases (ltb 2147483648 (10 * n + c))
    (λ y. let g : 2147483648 < 10 * n + c = ltb-true 2147483648 (10 * n + c) y in
    let z : no_number ≡ m = sym (value-too-great n b s (λ v. omega arith) (omega arith)) ∙ e in absurd (omega arith))
    (λ y. let g : 10 * n + c ≤ 2147483648 = ltb-false 2147483648 (10 * n + c) y in
    let one : value_from n (b ∷ s) ≡ value_from (10 * n + c) s = rw x at (value-more n b s (λ v. omega arith) (omega arith)) in
    rw (j, ← append_assoc p ((48 + c) ∷ []) s) (value-digits (p ++ ((48 + c) ∷ [])) s (10 * n + c) m (Digits.next d i) (sym one ∙ e) h)))

-- the text of a number that begins with a digit but 0
leading : (b : ℕ) (s : List ℕ) (m : ℕ) → (digit_of b ≡ 0 → ⊥) → value_from 0 (b ∷ s) ≡ m → m ≤ 2147483648 → Digits (b ∷ s) m
leading b s m not e h =
    by-digit b (λ x. let z : no_number ≡ m = sym (value-no-digit 0 b s x) ∙ e in absurd (omega arith))
    (λ c i j x.
    let some : c ≡ 0 → ⊥ = λ z. not (x ∙ z) in
    let z : 10 * 0 + c ≡ c = omega arith in
    let one : value_from 0 (b ∷ s) ≡ value_from c s = rw (x, z) at (value-more 0 b s (λ v. omega arith) (omega arith)) in
    rw j (value-digits ((48 + c) ∷ []) s c m (Digits.first (omega (arith, some)) i) (sym one ∙ e) h))

by-natural : {X : Type 0} (s : List ℕ) (m : ℕ) → natural_in s ≡ m → m ≤ 2147483648 → (s ≡ 48 ∷ [] → m ≡ 0 → X) → (Digits s m → X) → X
unfolding natural_in
by-natural [] m e h f g = absurd (omega arith)
by-natural (b ∷ []) m e h f g =
    cases (eqb (digit_of b) 0)
    (λ y. let z : digit_of b ≡ 0 = eqb-true (digit_of b) 0 y in
    let one : value_from 0 (b ∷ []) ≡ value_from (10 * 0 + 0) [] = rw z at (value-more 0 b [] (λ v. omega arith) (omega arith)) in
    by-digit b (λ x. absurd (omega arith)) (λ c i j x. let w : c ≡ 0 = sym x ∙ z in
    f (ap (λ y. y ∷ []) (let q : b ≡ 48 = omega arith in q)) (sym e ∙ one ∙ value_none (10 * 0 + 0) ∙ (let q : 10 * 0 + 0 ≡ 0 = omega arith in q))))
    (λ y. g (leading b [] m (eqb-false (digit_of b) 0 y) e h))
by-natural (b ∷ c ∷ s) m e h f g =
    cases (eqb (digit_of b) 0)
    (λ y. let z : no_number ≡ m = rw y at e in absurd (omega arith))
    (λ y. g (leading b (c ∷ s) m (eqb-false (digit_of b) 0 y) (rw y at e) h))

-- ---- with its sign

unfit-number {ℓ} : {X : Type ℓ} {w : ℤ} → None ≡ Some w → X
unfit-number e = absurd (let z : ◌≡◌ {A = ℕ} 0 1 = cc in omega arith)

positive-inverts : {X : Type 0} (n : ℕ) (w : ℤ) → positive_of n ≡ Some w → (n < 2147483648 → pos n ≡ w → X) → X
unfolding positive_of
positive-inverts n w e k = cases (ltb n 2147483648) (λ y. k (ltb-true n 2147483648 y) (let q : Some (pos n) ≡ Some w = rw y at e in cc)) (λ y. unfit-number (rw y at e))

negative-inverts : {X : Type 0} (n : ℕ) (w : ℤ) → negative_of n ≡ Some w → ((m : ℕ) → n ≡ suc m → m < 2147483648 → negsuc m ≡ w → X) → X
unfolding negative_of
negative-inverts zero w e k = unfit-number e
negative-inverts (suc n) w e k =
    cases (ltb n 2147483648) (λ y. k n refl (ltb-true n 2147483648 y) (let q : Some (negsuc n) ≡ Some w = rw y at e in cc)) (λ y. unfit-number (rw y at e))

pub numeral-sound : (s : List ℕ) (w : ℤ) → numeral_in s ≡ Some w → Numeral s w
unfolding numeral_in
numeral-sound [] w e = unfit-number e
numeral-sound (b ∷ s) w e =
    cases (eqb b 45)
    (λ y. negative-inverts (natural_in s) w (rw y at e) λ m n l v.
    rw (eqb-true b 45 y, ← v) (by-natural s (suc m) n (omega arith) (λ x z. absurd (omega arith)) (λ d. Numeral.negative d l)))
    (λ y. positive-inverts (natural_in (b ∷ s)) w (rw y at e) λ l v.
    rw (← v) (by-natural (b ∷ s) (natural_in (b ∷ s)) refl (omega arith) (λ x z. rw (z, x) Numeral.nought) (λ d. Numeral.positive d l)))

pub numeral-complete : {s : List ℕ} {w : ℤ} → Numeral s w → numeral_in s ≡ Some w
unfolding numeral_in natural_in value_from digit_of positive_of negative_of
numeral-complete Numeral.nought = refl
numeral-complete (Numeral.positive {s = s} {n = n} d h) =
    let l : Leads s = digits-lead d in
    go l.byte l.others l.least (sym (ap natural_in l.is) ∙ digits-natural d (omega arith)) l.is
  where
    go : (b : ℕ) (r : List ℕ) → 49 ≤ b → natural_in (b ∷ r) ≡ n → s ≡ b ∷ r → numeral_in s ≡ Some (pos n)
    go b r k e i = rw (i, ne_eqb b 45 (λ z. omega arith), e, lt-ltb n 2147483648 h)
numeral-complete (Numeral.negative {s = s} {n = n} d h) = rw (digits-natural d (omega arith), lt-ltb n 2147483648 h)

-- ---- a written number reads back

abbrev pub ten_to : ℕ → ℕ
ten_to zero = 1
ten_to (suc k) = 10 * ten_to k

pub digits-written : (k n : ℕ) → 1 ≤ n → n < ten_to k → Digits (digits_by k n) n
unfolding digits_by
digits-written zero n a h = absurd (omega arith)
digits-written (suc k) n a h =
    cases (ltb n 10) (λ y. rw y (Digits.first a (ltb-true n 10 y)))
    (λ y. let l : 10 ≤ n = ltb-false n 10 y in
    let q : 10 * (n / 10) + n % 10 ≡ n = omega arith in
    let d : Digits (digits_by k (n / 10)) (n / 10) = digits-written k (n / 10) (omega arith) (omega arith) in
    rw y (rw q at (Digits.next d (let m : n % 10 < 10 = omega arith in m))))

pub numeral-written : (w : ℤ) → mag w < 2147483648 → Numeral (numeral w) w
unfolding numeral digits digits_by
numeral-written (pos zero) h = Numeral.nought
numeral-written (pos (suc n)) h = Numeral.positive (digits-written 20 (suc n) (omega arith) (omega arith)) h
numeral-written (negsuc n) h = Numeral.negative (digits-written 20 (suc n) (omega arith) (omega arith)) h

pub numeral-read-back : (w : ℤ) → mag w < 2147483648 → numeral_in (numeral w) ≡ Some w
numeral-read-back w h = numeral-complete (numeral-written w h)
