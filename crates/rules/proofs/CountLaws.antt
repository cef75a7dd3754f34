-- The counts of a run: steps within the budget, no more proposals than steps, and the unread words a part of those lent. Assumes nothing.
use Prim.Native.Nat.{ℕ, ◌≤◌, ◌<◌}
use native.Mathlib.Omega.{arith}
use mathlib.Core.List.{List}
use lib.IntN.{ℤ}
use Rattle.program.proofs.LengthLaws.{Part, part-trans}
use Rattle.rules.specs.Running.{Tally}
use Rattle.rules.proofs.WalkLaws.{Kept}
use Rattle.rules.proofs.LeavesLaws.{Takes, leaves-take, simple-leaves}

pub record Counts (ws : List ℤ) (budget : ℕ) (t : Tally) : Type 0 where
  pub part : Part ws t.unread
  pub steps : t.steps ≤ budget
  pub accepted : t.accepted ≤ t.steps

-- inside a statement, whose step is paid
pub record PaidCounts (ws : List ℤ) (budget : ℕ) (t : Tally) : Type 0 where
  pub counts : Counts ws budget t
  pub less : t.accepted < t.steps

pub counts-kept : (program ws : List ℤ) (budget : ℕ) → Kept program budget (Counts ws budget) (PaidCounts ws budget)
counts-kept program ws budget = record {
  pays = λ t i h. record { counts = record { part = i.part; steps = omega arith; accepted = omega (arith, i.accepted) }; less = omega (arith, i.accepted) };
  frees = λ t i. i.counts;
  notes = λ b t i. record { counts = record { part = i.counts.part; steps = i.counts.steps; accepted = i.counts.accepted }; less = i.less };
  simple = λ p here t i l e.
      let k : Takes t.unread l = leaves-take (simple-leaves program p t.state t.unread _ l e) in
      record { part = part-trans i.counts.part k.part; steps = i.counts.steps; accepted = omega (arith, i.less, k.few) };
}
