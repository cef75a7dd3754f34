use mathlib.Core.Path.{ap, ◌∙◌}
use Rattle.std.proofs.lemmas.Result.{err_from_is_err_and}
use Rattle.tables.specs.Lending.{seen}
use Rattle.rules.specs.Identities.{tie_at}
use Rattle.phases.specs.Tying.{identity_at, tied_of, turn_of}
use Rattle.phases.proofs.TieLaws.{tie-low}
use Rattle.phases.proofs.WalkLaws.{walking-lost, walking-goes-on, walking-ends}
use Rattle.phases.proofs.classes.pass.Goals as goal

pub returns-in_err-ends : goal.returns-in_err-ends
returns-in_err-ends c =
    let e = err_from_is_err_and c.from_residual.result c.from_residual.ensures.1 in
    rw (e.1, e.2) (walking-lost c.loop-i.invariant c.loop-i-test.true (c.tie_at.ensures ∙ ap (λ q. tied_of (tie_at (seen c.args.t.now) q)) (c.identity_at-p.ensures ∙ ap (identity_at c.args.program.now c.args.t.now.constraints.now) c.turn.ensures)) c.in_err-ends.was)

pub loop-i-preserved : goal.loop-i-preserved
loop-i-preserved c = walking-goes-on c.loop-i.invariant c.loop-i-test.true (c.tie_at.ensures ∙ ap (λ q. tied_of (tie_at (seen c.args.t.now) q)) (c.identity_at-p.ensures ∙ ap (identity_at c.args.program.now c.args.t.now.constraints.now) c.turn.ensures)) c.in_ok-ends.was (tie-low (seen c.args.t.now) (identity_at c.args.program.now c.args.t.now.constraints.now (turn_of c.args.n c.loop-i.i c.args.back))) c.grow_tie-g.ensures

pub returns : goal.returns
returns c = walking-ends c.loop-i.invariant c.loop-i-test.false
