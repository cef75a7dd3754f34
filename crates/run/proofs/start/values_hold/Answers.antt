use mathlib.Core.Path.{ap, ◌∙◌}
use borrow.Author.Tests.{not-true, not-false}
use lib.ListN.{drop}
use Rattle.tables.specs.Lending.{seen}
use Rattle.tables.specs.Kept.{position_at}
use Rattle.tables.specs.declared.Sort.TheVariants.{Values}
use Rattle.rules.proofs.StartClauses.{values-none}
use Rattle.run.proofs.BeginLaws.{kept-start, kept_on, kept-end, kept-fails, value-unread, value-broken, value-holds}
use Rattle.run.proofs.start.values_hold.Goals as goal

pub loop-i-init : goal.loop-i-init
loop-i-init c = kept-start Values _ c.kept_count-n.ensures

pub returns-in-Err : goal.returns-in-Err
returns-in-Err c =
    let l = c.part_from.ensures ∙ ap (drop 1) c.part_from-statement.ensures in
    rw c.position_at-position.ensures (kept-fails Values _ c.loop-i.invariant c.loop-i-test.true (value-unread c.args.program.now (seen c.args.t.now) (position_at c.args.t.now.constraints.now Values c.loop-i.i) _ (rw c.position_at-position.ensures at l) c.constraint_at.ensures c.in-Err.is))

pub returns-then-not-parts : goal.returns-then-not-parts
returns-then-not-parts c =
    let l = c.part_from.ensures ∙ ap (drop 1) c.part_from-statement.ensures in
    rw c.position_at-position.ensures (kept-fails Values _ c.loop-i.invariant c.loop-i-test.true (value-broken c.args.program.now (seen c.args.t.now) (position_at c.args.t.now.constraints.now Values c.loop-i.i) _ (rw c.position_at-position.ensures at l) c.constraint_at.ensures c.in-Ok.is (not-true _ c.if-not-parts.true)))

pub loop-i-preserved : goal.loop-i-preserved
loop-i-preserved c =
    let l = c.part_from.ensures ∙ ap (drop 1) c.part_from-statement.ensures in
    kept_on Values _ c.loop-i.invariant c.loop-i-test.true (value-holds c.args.program.now (seen c.args.t.now) (position_at c.args.t.now.constraints.now Values c.loop-i.i) _ (rw c.position_at-position.ensures at l) c.constraint_at.ensures c.in-Ok.is (not-false _ c.if-not-parts.false))

pub returns : goal.returns
returns c = kept-end Values _ c.loop-i.invariant c.loop-i-test.false (values-none c.args.program.now (seen c.args.t.now))
