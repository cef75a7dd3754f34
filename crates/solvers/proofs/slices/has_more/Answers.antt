use Prim.Native.Nat.{◌+◌, ◌*◌}
use native.Mathlib.Omega.{arith}
use borrow.Author.Tests.{le-ltb}
use Rattle.words.specs.Words.{number_at}
use lib.ListN.{length}
use Rattle.rules.proofs.SolverClauses.{more-is}
use Rattle.solvers.proofs.slices.has_more.Goals as goal

-- src/slices.rt:30:9
pub returns-then-slice-n : goal.returns-then-slice-n
returns-then-slice-n c = rw (more-is c.args.slice.now, le-ltb (2 * number_at c.args.slice.now 0 + 1) (length c.args.slice.now) (omega (arith, c.number_at-n.ensures, c.if-slice-n.true)))

-- src/slices.rt:25:1
pub returns : goal.returns
returns c = rw (more-is c.args.slice.now, ← c.number_at-n.ensures)
