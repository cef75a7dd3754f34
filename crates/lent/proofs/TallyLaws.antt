-- What is known of a run's tally: one that goes on, one that has ended, and a step that is paid. Assumes nothing.
use mathlib.Core.Path.{◌≡◌, refl, sym, ap, ◌∙◌}
use mathlib.Core.List.{List}
use Prim.Native.Nat.{ℕ, zero, suc, ◌≤◌, ◌<◌}
use native.Mathlib.Omega.{arith}
use native.Mathlib.Numerals.{add-one}
use native.Mathlib.Decide.{dec_lt}
use borrow.Author.Tests.{lt-ltb, le-ltb}
use lib.IntN.{ℤ}
use Rattle.rules.specs.State.{State}
use Rattle.rules.specs.Running.{Out, on, end, then_out, paid}
use Rattle.rules.specs.Running.{Tally as Carries}
use Rattle.rules.proofs.RunningClauses.{paid-on, paid-ends}
use Rattle.lent.specs.declared.Tally.{Tally}
use Rattle.lent.specs.Tallied.{carries, out_by, out_of, untold_out, Begins, Goes, ended_at, paid_one, paid_by}

-- ---- a tally that has ended

pub ends_by : (n place : ℕ) (u : Carries) → (n ≡ 0 → ⊥) → out_by n place u ≡ end n place u
ends_by zero place u h = absurd (h refl)
ends_by (suc n) place u h = refl

out-untold : (ws : List ℤ) (Z : State) (r : Tally) → untold_out (out_of ws Z r) ≡ out_of ws Z r
out-untold ws Z r = by r.outcome
  where
    by : (n : ℕ) → untold_out (out_by n r.place (carries ws Z r)) ≡ out_by n r.place (carries ws Z r)
    by zero = refl
    by (suc n) = refl

-- nothing comes after a piece that ended
pub halted : (ws : List ℤ) (Z : State) (r : Tally) (f : Carries → Out) → (r.outcome ≡ 0 → ⊥) → untold_out (then_out (out_of ws Z r) f) ≡ out_of ws Z r
halted ws Z r f h = rw (ends_by r.outcome r.place (carries ws Z r) h)

-- ---- a piece that goes on, and one that ends

module _ {ws : List ℤ} {Z : State} {o : Out} where
  pub goes-from : {t u r : Tally} {o' : Out} → Goes ws u Z r o' → t.steps ≤ u.steps → out_of ws Z r ≡ untold_out o → Goes ws t Z r o
  goes-from g h e =
      record {
        runs = record { is = e; few = g.runs.few; inside = g.runs.inside; nowhere = g.runs.nowhere };
        grows = omega (arith, g.grows);
      }

  pub goes_on : {t u : Tally} → Begins ws u → t.steps ≤ u.steps → on (carries ws Z u) ≡ untold_out o → Goes ws t Z u o
  goes_on b h e =
      record { runs = record { is = rw b.going e; few = b.few; inside = b.inside; nowhere = λ _. b.nowhere }; grows = h }

  pub goes-ends : {t u r : Tally} {n place : ℕ} → Begins ws u → t.steps ≤ u.steps → (n ≡ 0 → ⊥) → r ≡ ended_at n place u → end n place (carries ws Z u) ≡ untold_out o
      → Goes ws t Z r o
  goes-ends {u = u} {n = n} {place = place} b h z k e =
      rw k
      (record {
        runs = record { is = ends_by n place (carries ws Z u) z ∙ e; few = b.few; inside = b.inside; nowhere = λ y. absurd (z y) };
        grows = h;
      })

  -- the tally that it leaves
  pub went_on : {t r : Tally} → Goes ws t Z r o → r.outcome ≡ 0 → Begins ws r
  went_on g e = record { few = g.runs.few; inside = g.runs.inside; going = e; nowhere = g.runs.nowhere e }

-- ---- a step that is paid

pub begins-one : {ws : List ℤ} {t : Tally} → Begins ws t → Begins ws (paid_one t)
begins-one b = record { few = omega (arith, b.few); inside = b.inside; going = b.going; nowhere = b.nowhere }

module _ (budget place : ℕ) {t r : Tally} (k : r ≡ paid_by budget place t) where
  either_way {ℓ} : {A : Type ℓ} → (t.steps < budget → r ≡ paid_one t → A) → (budget ≤ t.steps → r ≡ ended_at 5 place t → A) → A
  either_way {A = A} f g = go (dec_lt t.steps budget)
    where
      go : Dec (t.steps < budget) → A
      go (yes y) = f y (rw (lt-ltb t.steps budget y) at k)
      go (no n) = g (omega arith) (rw (le-ltb t.steps budget (omega arith)) at k)

  pub pay-one : r.outcome ≡ 0 → (t.steps < budget) × (r ≡ paid_one t)
  pay-one e = either_way (λ y h. (y, h)) (λ n h. let z : 0 ≡ 5 = sym e ∙ ap (λ (u : Tally). u.outcome) h in absurd (omega arith))

  module _ {ws : List ℤ} (S : State) (b : Begins ws t) where
    pub pay-is : out_of ws S r ≡ paid budget place (carries ws S t)
    pay-is =
        either_way
        (λ y h. rw (h, b.going, paid-on budget place (carries ws S t) y, add-one t.steps))
        (λ n h. rw (h, paid-ends budget place (carries ws S t) n))

    pub pay-goes : Goes ws t S r (paid budget place (carries ws S t))
    pay-goes =
        let is : out_of ws S r ≡ untold_out (paid budget place (carries ws S t)) = sym (out-untold ws S r) ∙ ap untold_out pay-is in
        either_way
        (λ y h. goes-from {u = t} (goes_on {o = on (carries ws S r)} (rw h (begins-one b)) (rw h (omega arith)) refl) (omega arith) is)
        (λ n h. goes-from {u = t} (goes-ends {o = end 5 place (carries ws S t)} b (omega arith) (λ z. omega arith) h refl) (omega arith) is)
