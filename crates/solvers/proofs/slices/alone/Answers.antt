use mathlib.Core.Path.{sym, ◌∙◌}
use Rattle.phases.specs.Told.{state_in}
use Rattle.rules.proofs.SolverClauses.{whole-more, whole-all, alone-is}
use Rattle.solvers.proofs.slices.alone.Goals as goal

pub returns-then-has_more-clause-does : goal.returns-then-has_more-clause-does
returns-then-has_more-clause-does c = rw (alone-is c.args.program.now c.args.at (state_in c.args.t.now) c.args.slice.now, whole-more c.args.slice.now (sym c.has_more.ensures ∙ c.if-has_more.true)) c.alone.ensures.does

pub returns-clause-does : goal.returns-clause-does
returns-clause-does c = rw (alone-is c.args.program.now c.args.at (state_in c.args.t.now) c.args.slice.now, whole-all c.args.slice.now (sym c.has_more.ensures ∙ c.if-has_more.false)) c.alone-2.ensures.does
