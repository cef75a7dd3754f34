use native.Mathlib.Omega.{arith}
use Rattle.std.proofs.lemmas.Result.{err_from_is_err_and}
use Rattle.program.proofs.LengthLaws.{after-part, uses-keeps, part-uses}
use Rattle.program.proofs.RowLaws.{last-all, parts-many, row-starts, row-stops, row-goes-on, row_ends}
use Rattle.program.proofs.reading.read_parts.Goals as goal

pub loop-init : goal.loop-init
loop-init c = row-starts (omega arith) (rw (last-all c.args.p.now) (parts-many c.args.m c.args.p.now))

pub returns-in_err-left : goal.returns-in_err-left
returns-in_err-left c =
    let e = err_from_is_err_and c.from_residual.result c.from_residual.ensures.1 in
    rw (e.1, e.2) (row-stops c.loop.invariant c.loop-test.true c.part_last.ensures c.in_err-left.ensures)

pub loop-preserved : goal.loop-preserved
loop-preserved c = row-goes-on c.loop.invariant c.loop-test.true c.part_last.ensures c.in_ok-left.ensures (after-part _ (uses-keeps (part-uses _)))

pub returns : goal.returns
returns c = row_ends c.loop.invariant c.loop-test.false
