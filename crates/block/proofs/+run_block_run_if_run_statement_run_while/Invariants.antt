use Prim.Native.Nat.{◌+◌, ◌-◌, ◌*◌}
use Rattle.block.proofs.RunLaws.{Row}
use Rattle.block.proofs.RunLaws.{Turning}
use Rattle.block.proofs.+run_block_run_if_run_statement_run_while.Given as goal

abbrev pub decreases-run_block : goal.decreases-run_block
decreases-run_block l = 3 * l.d

abbrev pub decreases-run_if : goal.decreases-run_if
decreases-run_if l = 3 * l.d + 1

abbrev pub decreases-run_statement : goal.decreases-run_statement
decreases-run_statement l = 3 * l.d + 2

abbrev pub decreases-run_while : goal.decreases-run_while
decreases-run_while l = 3 * l.d + 1

abbrev pub invariant-run_block-loop-i : goal.invariant-run_block-loop-i
invariant-run_block-loop-i l = Row l.program l.p l.proposals l.initial.t l.t l.budget l.d l.n l.initial.u l.u l.left l.i

abbrev pub invariant-run_while-turns : goal.invariant-run_while-turns
invariant-run_while-turns l = Turning l.program l.p l.proposals l.initial.t l.t l.q l.body l.budget l.d l.while_place l.initial.u l.u

abbrev pub decreases-run_while-turns : goal.decreases-run_while-turns
decreases-run_while-turns l = l.budget - l.u.steps
