use Prim.Native.Nat.{◌+◌, ◌*◌}
use Rattle.text.specs.Told.{Ahead}
use Rattle.text.proofs.OnwardsCode.{Turns}
use Rattle.text.proofs.expressions.+climb_joined_onwards.Given as goal

abbrev pub decreases-climb : goal.decreases-climb
decreases-climb l = 3 * l.left

abbrev pub decreases-joined : goal.decreases-joined
decreases-joined l = 3 * l.left + 1

abbrev pub decreases-onwards : goal.decreases-onwards
decreases-onwards l = 3 * l.left + 2

abbrev pub invariant-onwards-loop-round : goal.invariant-onwards-loop-round
invariant-onwards-loop-round l =
    Ahead l.text l.initial.r.carried → Ahead l.text l.r.carried × Turns l.text l.from l.left l.in_c l.low l.brackets l.initial.r.lent l.initial.r.carried l.r.lent l.r.carried l.b l._round
