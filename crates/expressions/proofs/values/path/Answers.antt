use Rattle.std.proofs.Common.{◌≤◌, ◌<◌, drop}
use Rattle.words.specs.Words.{number_at}
use Rattle.tables.specs.Lending.{seen}
use Rattle.expressions.proofs.LeafLaws.{path-variable, path-steps, path-is}
use Rattle.expressions.proofs.values.path.Goals as goal

pub returns-then-x-ge-VARIABLES : goal.returns-then-x-ge-VARIABLES
returns-then-x-ge-VARIABLES c = rw c.at.ensures (path-variable (seen c.args.t.now) c.args.q.now (rw c.number_at-x.ensures at c.if-x-ge-VARIABLES.true))

pub returns-then-n-gt-MOST_STEPS : goal.returns-then-n-gt-MOST_STEPS
returns-then-n-gt-MOST_STEPS c =
    let v : number_at c.args.q.now 0 < 64 = rw c.number_at-x.ensures at c.if-x-ge-VARIABLES.false in
    let m : 7 < number_at (drop 1 c.args.q.now) 0 = rw (c.number_at-n.ensures, c.part_from-r.ensures) at c.if-n-gt-MOST_STEPS.true in
    rw (c.at-then-n-gt-MOST_STEPS.ensures, c.part_from-r.ensures) (path-steps (seen c.args.t.now) c.args.q.now v m)

pub returns-in-Some : goal.returns-in-Some
returns-in-Some c =
    let v : number_at c.args.q.now 0 < 64 = rw c.number_at-x.ensures at c.if-x-ge-VARIABLES.false in
    let m : number_at (drop 1 c.args.q.now) 0 ≤ 7 = rw (c.number_at-n.ensures, c.part_from-r.ensures) at c.if-n-gt-MOST_STEPS.false in
    let e = path-is (seen c.args.t.now) c.args.q.now v m (rw (c.number_at-x.ensures, c.number_at-n.ensures, c.part_from-labels.ensures, c.part_from-r.ensures) at c.find.ensures) in
    rw (c.gives.ensures, c.less.ensures, c.number_at-n.ensures, c.part_from-labels.ensures, c.part_from-r.ensures) (rw c.in-Some.is at e)

pub returns-in-None : goal.returns-in-None
returns-in-None c =
    let v : number_at c.args.q.now 0 < 64 = rw c.number_at-x.ensures at c.if-x-ge-VARIABLES.false in
    let m : number_at (drop 1 c.args.q.now) 0 ≤ 7 = rw (c.number_at-n.ensures, c.part_from-r.ensures) at c.if-n-gt-MOST_STEPS.false in
    let e = path-is (seen c.args.t.now) c.args.q.now v m (rw (c.number_at-x.ensures, c.number_at-n.ensures, c.part_from-labels.ensures, c.part_from-r.ensures) at c.find.ensures) in
    rw c.at-in-None.ensures (rw c.in-None.is at e)
