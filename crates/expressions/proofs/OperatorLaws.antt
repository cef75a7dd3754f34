-- What the code of the operators comes to. Assumes nothing.
use Rattle.std.specs.Prelude.{Some, None, Err}
use mathlib.Core.Path.{◌≡◌, refl}
use mathlib.Core.Bool.{Bool, true, false, cond, ◌&&◌, ◌||◌}
use Prim.Native.Nat.{ℕ, zero, suc, ◌≤◌, ◌<◌}
use native.Mathlib.Omega.{arith}
use lib.Dec.{eqb, ltb}
use borrow.Author.Tests.{eqb-true, ne_eqb, lt-ltb, le-ltb}
use lib.IntN.{ℤ}
use Rattle.words.specs.Range.{fits, ranged}
use Rattle.words.specs.Answer.{got, ◌>>◌, want}
use Rattle.words.proofs.Laws.{ranged-is}
use Rattle.tables.specs.declared.Kind.{Kind}
use Rattle.tables.specs.declared.Kind.TheVariants.{Nil as is_nil, Bool as is_bool, Int as is_int, Ref as is_ref}
use Rattle.tables.specs.declared.Value.{Value}
use Rattle.tables.specs.declared.Value.TheVariants.{Int}
use Rattle.tables.proofs.SearchLaws.{cases}
use Rattle.rules.specs.Evaluation.{an_int, a_bool, the_nil, op_of, made}
use Rattle.rules.specs.Evaluation.{ranged as in_range}
use Rattle.rules.proofs.OperatorClauses.{ranged-is as in-range-is, made-0, made_none}
use Rattle.expressions.specs.Told.{kind_number, kind_from, applied_of, ranged_of}

-- kinds by their numbers
pub nil-number : (n : ℕ) → eqb n 1 ≡ the_nil (kind_from n)
nil-number n = cases (eqb n 1) (λ e. rw e) (λ e. cases (eqb n 2) (λ f. rw (e, f)) (λ f. cases (eqb n 3) (λ g. rw (e, f, g)) (λ g. rw (e, f, g))))

pub bool-number : (n : ℕ) → eqb n 2 ≡ a_bool (kind_from n)
bool-number n = cases (eqb n 1)
    (λ e. rw (e, eqb-true n 1 e))
    (λ e. cases (eqb n 2) (λ f. rw (e, f)) (λ f. cases (eqb n 3) (λ g. rw (e, f, g)) (λ g. rw (e, f, g))))

pub int_number : (n : ℕ) → eqb n 3 ≡ an_int (kind_from n)
int_number n = cases (eqb n 1)
    (λ e. rw (e, eqb-true n 1 e))
    (λ e. cases (eqb n 2) (λ f. rw (e, f, eqb-true n 2 f)) (λ f. cases (eqb n 3) (λ g. rw (e, f, g)) (λ g. rw (e, f, g))))

-- two numbers of one kind, no reference's
pub one_number : (a b : ℕ) → ((ltb 0 a && ltb a 4) && eqb b a) ≡ ((eqb a 3 && eqb b 3) || (eqb a 2 && eqb b 2) || (eqb a 1 && eqb b 1))
one_number zero b = refl
one_number (suc zero) b = refl
one_number (suc (suc zero)) b = cases (eqb b 2) (λ e. rw e) (λ e. rw e)
one_number (suc (suc (suc zero))) b = cases (eqb b 3) (λ e. rw e) (λ e. rw e)
one_number (suc (suc (suc (suc n)))) b =
    let m = suc (suc (suc (suc n))) in
    rw (le-ltb m 4 (omega arith), ne_eqb m 3 (λ e. omega (arith, e)), ne_eqb m 2 (λ e. omega (arith, e)), ne_eqb m 1 (λ e. omega (arith, e)), lt-ltb 0 m (omega arith))

pub kind-back : (k : Kind) → kind_from (kind_number k) ≡ k
kind-back is_nil = refl
kind-back is_bool = refl
kind-back is_int = refl
kind-back is_ref = refl

-- a result in its range, or 9
pub range-is : (z : ℤ) → ranged_of (ranged z) ≡ applied_of (in_range z)
range-is z = rw (ranged-is z, in-range-is z) (by (fits z))
  where
    by : (b : Bool) → ranged_of (cond b (Some z) None) ≡ applied_of (want 9 b >> got (Int z))
    by true = refl
    by false = refl

-- a number that is none of the operators
pub made_other : (o : ℕ) (a b : Value) → (1 ≤ o → 11 < o) → Err 8 ≡ applied_of (made (op_of o) a b)
made_other zero a b h = rw (made-0 a b)
made_other (suc o) a b h = rw (made_none a b (suc o) (h (omega arith)))
