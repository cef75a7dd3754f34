use Rattle.std.proofs.Common.{◌≤◌, ◌<◌, drop}
use Rattle.words.specs.Words.{number_at}
use Rattle.tables.specs.Lending.{seen}
use Rattle.expressions.proofs.PathLaws.{named-variable, named-steps, named-is}
use Rattle.expressions.proofs.paths.cell_at.Goals as goal

pub returns-then-x-ge-VARIABLES : goal.returns-then-x-ge-VARIABLES
returns-then-x-ge-VARIABLES c = rw c.at.ensures (named-variable (seen c.args.t.now) c.args.p.now (rw c.number_at-x.ensures at c.if-x-ge-VARIABLES.true))

pub returns-then-n-gt-MOST_STEPS : goal.returns-then-n-gt-MOST_STEPS
returns-then-n-gt-MOST_STEPS c =
    let v : number_at c.args.p.now 0 < 64 = rw c.number_at-x.ensures at c.if-x-ge-VARIABLES.false in
    let n : 7 < number_at (drop 1 c.args.p.now) 0 = rw (c.number_at-n.ensures, c.part_from-q.ensures) at c.if-n-gt-MOST_STEPS.true in
    rw (c.at-then-n-gt-MOST_STEPS.ensures, c.part_from-q.ensures) (named-steps (seen c.args.t.now) c.args.p.now v n)

pub returns-in-Some : goal.returns-in-Some
returns-in-Some c =
    let v : number_at c.args.p.now 0 < 64 = rw c.number_at-x.ensures at c.if-x-ge-VARIABLES.false in
    let n : number_at (drop 1 c.args.p.now) 0 ≤ 7 = rw (c.number_at-n.ensures, c.part_from-q.ensures) at c.if-n-gt-MOST_STEPS.false in
    let e = rw (c.part_from-r.ensures, c.number_at-n.ensures, c.part_from-q.ensures, c.number_at-x.ensures) at c.land.ensures in
    rw (c.less.ensures, c.part_from-r.ensures, c.number_at-n.ensures, c.part_from-q.ensures) (rw c.in-Some.is at (named-is (seen c.args.t.now) c.args.p.now v n e))

pub returns-in-None : goal.returns-in-None
returns-in-None c =
    let v : number_at c.args.p.now 0 < 64 = rw c.number_at-x.ensures at c.if-x-ge-VARIABLES.false in
    let n : number_at (drop 1 c.args.p.now) 0 ≤ 7 = rw (c.number_at-n.ensures, c.part_from-q.ensures) at c.if-n-gt-MOST_STEPS.false in
    let e = rw (c.part_from-r.ensures, c.number_at-n.ensures, c.part_from-q.ensures, c.number_at-x.ensures) at c.land.ensures in
    rw c.at-in-None.ensures (rw c.in-None.is at (named-is (seen c.args.t.now) c.args.p.now v n e))
