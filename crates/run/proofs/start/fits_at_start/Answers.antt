use mathlib.Core.Path.{sym, ◌∙◌}
use Rattle.words.specs.Answer.{◌>>◌, want}
use Rattle.fit.specs.Fit.{heap_fits}
use Rattle.program.specs.Where.{constraints_stand}
use Rattle.rules.specs.Start.{early, kept_at_start}
use Rattle.phases.specs.Told.{state_seen}
use Rattle.run.proofs.BeginLaws.{test-stop, test_on}
use Rattle.run.proofs.start.fits_at_start.Goals as goal

pub returns-then-not-environment_fits : goal.returns-then-not-environment_fits
returns-then-not-environment_fits c = test-stop 3 0 _ (sym c.environment_fits.ensures ∙ c.if-not-environment_fits.true)

pub returns-then-not-heap_fits : goal.returns-then-not-heap_fits
returns-then-not-heap_fits c =
    let k = kept_at_start c.args.program.now (state_seen c.args.t.now) in
    let three = early 3 (want 2 (constraints_stand c.args.program.now c.args.t.now.constraints.now)) >> k in
    test-stop 3 1 three (sym c.heap_fits.ensures ∙ c.if-not-heap_fits.true)
    ∙ test_on 3 0 (early 3 (want 1 (heap_fits c.args.t.now.heap.now)) >> three) (sym c.environment_fits.ensures ∙ c.if-not-environment_fits.false)

pub returns-then-not-constraints_stand : goal.returns-then-not-constraints_stand
returns-then-not-constraints_stand c =
    let k = kept_at_start c.args.program.now (state_seen c.args.t.now) in
    let three = early 3 (want 2 (constraints_stand c.args.program.now c.args.t.now.constraints.now)) >> k in
    test-stop 3 2 k (sym c.constraints_stand.ensures ∙ c.if-not-constraints_stand.true)
    ∙ test_on 3 1 three (sym c.heap_fits.ensures ∙ c.if-not-heap_fits.false)
    ∙ test_on 3 0 (early 3 (want 1 (heap_fits c.args.t.now.heap.now)) >> three) (sym c.environment_fits.ensures ∙ c.if-not-environment_fits.false)

pub returns : goal.returns
returns c =
    let k = kept_at_start c.args.program.now (state_seen c.args.t.now) in
    let three = early 3 (want 2 (constraints_stand c.args.program.now c.args.t.now.constraints.now)) >> k in
    c.holds_at_start.ensures
    ∙ test_on 3 2 k (sym c.constraints_stand.ensures ∙ c.if-not-constraints_stand.false)
    ∙ test_on 3 1 three (sym c.heap_fits.ensures ∙ c.if-not-heap_fits.false)
    ∙ test_on 3 0 (early 3 (want 1 (heap_fits c.args.t.now.heap.now)) >> three) (sym c.environment_fits.ensures ∙ c.if-not-environment_fits.false)
