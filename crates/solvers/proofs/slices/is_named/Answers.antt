use mathlib.Core.Path.{sym, ap, ◌∙◌}
use Rattle.words.specs.Words.{number_of}
use borrow.Author.Tests.{le-leb}
use native.Mathlib.Omega.{arith}
use Rattle.words.proofs.Signed.{back32}
use Rattle.rules.proofs.SolverClauses.{named-is}
use Rattle.solvers.proofs.slices.is_named.Goals as goal

-- src/slices.rt:17:17
pub returns-then-spot-eq0 : goal.returns-then-spot-eq0
returns-then-spot-eq0 c =
    let s = sym (rw (c.number.ensures ∙ ap number_of (back32 c.args.word c.ranges.word)) at c.statement_at.ensures) ∙ c.in-Some.is in
    rw (named-is c.args.program.now c.args.word, s, c.if-spot-eq0.true)

-- src/slices.rt:10:1
pub returns-in-None : goal.returns-in-None
returns-in-None c =
    let s = sym (rw (c.number.ensures ∙ ap number_of (back32 c.args.word c.ranges.word)) at c.statement_at.ensures) ∙ c.in-None.is in
    rw (named-is c.args.program.now c.args.word, s)

-- src/slices.rt:10:1
pub returns-else-spot-eq0 : goal.returns-else-spot-eq0
returns-else-spot-eq0 c =
    let s = sym (rw (c.number.ensures ∙ ap number_of (back32 c.args.word c.ranges.word)) at c.statement_at.ensures) ∙ c.in-Some.is in
    rw (named-is c.args.program.now c.args.word, s, le-leb 1 c.in-Some.spot.verb (omega (arith, c.if-spot-eq0.false)))
