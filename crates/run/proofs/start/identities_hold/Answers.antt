use Rattle.tables.specs.Lending.{seen}
use Rattle.tables.specs.Kept.{position_at}
use Rattle.tables.specs.declared.Sort.TheVariants.{Identities}
use Rattle.rules.proofs.StartClauses.{identities-none}
use Rattle.run.proofs.BeginLaws.{kept-start, kept_on, kept-end, kept-fails, identity-fails, identity-holds}
use Rattle.run.proofs.start.identities_hold.Goals as goal

pub loop-i-init : goal.loop-i-init
loop-i-init c = kept-start Identities _ c.kept_count-n.ensures

pub returns-in-Err : goal.returns-in-Err
returns-in-Err c =
    rw c.position_at-position.ensures (kept-fails Identities _ c.loop-i.invariant c.loop-i-test.true (identity-fails c.args.program.now (seen c.args.t.now) (position_at c.args.t.now.constraints.now Identities c.loop-i.i) _ (rw c.position_at-position.ensures at c.part_from-statement.ensures) c.same_now.ensures c.in-Err.is))

pub loop-i-preserved : goal.loop-i-preserved
loop-i-preserved c =
    kept_on Identities _ c.loop-i.invariant c.loop-i-test.true (identity-holds c.args.program.now (seen c.args.t.now) (position_at c.args.t.now.constraints.now Identities c.loop-i.i) _ (rw c.position_at-position.ensures at c.part_from-statement.ensures) c.same_now.ensures c.in-Ok.is)

pub returns : goal.returns
returns c = kept-end Identities _ c.loop-i.invariant c.loop-i-test.false (identities-none c.args.program.now (seen c.args.t.now))
