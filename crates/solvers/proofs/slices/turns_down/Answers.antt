use mathlib.Core.Bool.{and-true, and-false}
use lib.Dec.{leb}
use borrow.Author.Tests.{eq-eqb, ne_eqb, le-leb, lt-leb}
use Rattle.rules.proofs.SolverClauses.{turns-is}
use Rattle.solvers.proofs.slices.turns_down.Goals as goal

-- src/slices.rt:58:9
pub returns-then-number-eq6 : goal.returns-then-number-eq6
returns-then-number-eq6 c = rw (turns-is c.args.number, eq-eqb c.args.number 6 c.if-number-eq6.true)

-- src/slices.rt:61:9
pub returns-then-number-gt19 : goal.returns-then-number-gt19
returns-then-number-gt19 c = rw (turns-is c.args.number, ne_eqb c.args.number 6 c.if-number-eq6.false, lt-leb c.args.number 19 c.if-number-gt19.true, and-false (leb 16 c.args.number))

-- src/slices.rt:54:1
pub returns : goal.returns
returns c = rw (turns-is c.args.number, ne_eqb c.args.number 6 c.if-number-eq6.false, le-leb c.args.number 19 c.if-number-gt19.false, and-true (leb 16 c.args.number))
