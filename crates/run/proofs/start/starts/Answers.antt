use Rattle.fit.specs.Fit.{sized}
use Rattle.rules.specs.Start.{early, budget_fits, tables_at_start}
use mathlib.Core.Path.{sym, ◌∙◌}
use Rattle.words.specs.Answer.{◌>>◌}
use Rattle.words.proofs.Signed.{back32}
use Rattle.program.specs.Reading.{read_program}
use Rattle.rules.proofs.StartClauses.{starts_is}
use Rattle.phases.specs.Told.{state_seen}
use Rattle.run.proofs.BeginLaws.{test-stop, test_on, read-stop, read-on, and-false}
use Rattle.tables.proofs.SearchLaws.{and-true, and-false as and_second}
use Rattle.run.proofs.start.starts.Goals as goal

pub returns-then-not-are_sized : goal.returns-then-not-are_sized
returns-then-not-are_sized c =
    rw (starts_is c.args.program.now c.args.budget (state_seen c.args.t.now))
    (test-stop 1 0 _ (and-false _ _ (sym c.are_sized.ensures ∙ c.if-not-are_sized.true)))

pub returns-then-not-budget_fits : goal.returns-then-not-budget_fits
returns-then-not-budget_fits c =
    rw (starts_is c.args.program.now c.args.budget (state_seen c.args.t.now))
    (test-stop 1 0 _ (and_second (sized c.args.t.now.environment.now c.args.t.now.heap.now c.args.t.now.constraints.now) (budget_fits c.args.budget) (rw (back32 c.args.budget c.ranges.budget) at (sym c.budget_fits.ensures) ∙ c.if-not-budget_fits.true)))

pub returns-in-Err : goal.returns-in-Err
returns-in-Err c =
    let k = tables_at_start c.args.program.now (state_seen c.args.t.now) in
    rw (starts_is c.args.program.now c.args.budget (state_seen c.args.t.now))
    (read-stop (read_program c.args.program.now) k c.read_program.ensures c.in-Err.is
    ∙ test_on 1 0 (early 2 (read_program c.args.program.now) >> k) (and-true _ _ (sym c.are_sized.ensures ∙ c.if-not-are_sized.false) (rw (back32 c.args.budget c.ranges.budget) at (sym c.budget_fits.ensures) ∙ c.if-not-budget_fits.false)))

pub returns-in-Ok : goal.returns-in-Ok
returns-in-Ok c =
    let k = tables_at_start c.args.program.now (state_seen c.args.t.now) in
    rw (starts_is c.args.program.now c.args.budget (state_seen c.args.t.now))
    (c.fits_at_start.ensures
    ∙ read-on (read_program c.args.program.now) k c.read_program.ensures c.in-Ok.is
    ∙ test_on 1 0 (early 2 (read_program c.args.program.now) >> k) (and-true _ _ (sym c.are_sized.ensures ∙ c.if-not-are_sized.false) (rw (back32 c.args.budget c.ranges.budget) at (sym c.budget_fits.ensures) ∙ c.if-not-budget_fits.false)))
