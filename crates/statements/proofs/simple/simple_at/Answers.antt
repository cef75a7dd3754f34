use mathlib.Core.Path.{refl, sym}
use Rattle.rules.proofs.StatementClauses.{simple-skip, simple-assign, simple-new, simple-always, simple-once, simple-always-same, simple-once-same}
use Rattle.phases.specs.Told.{state_in}
use Rattle.phases.proofs.PhaseLaws.{does-same, refuses}
use Rattle.statements.proofs.VerbLaws.{simple-other}
use Rattle.statements.proofs.simple.simple_at.Goals as goal

pub returns-in-Skip-clause-does : goal.returns-in-Skip-clause-does
returns-in-Skip-clause-does c =
    rw c.in-Skip.is (does-same (sym (simple-skip c.args.program.now c.args.p.now (state_in c.args.t.now) c.args.proposals.now)) (record { is = refl; leaves = refl }))

pub returns-in-Assign-clause-does : goal.returns-in-Assign-clause-does
returns-in-Assign-clause-does c =
    rw c.in-Assign.is (does-same (sym (simple-assign c.args.program.now c.args.p.now (state_in c.args.t.now) c.args.proposals.now)) c.assign.ensures.does)

pub returns-in-New-clause-does : goal.returns-in-New-clause-does
returns-in-New-clause-does c =
    rw c.in-New.is (does-same (sym (simple-new c.args.program.now c.args.p.now (state_in c.args.t.now) c.args.proposals.now)) c.make_new.ensures.does)

pub returns-in-Always-clause-does : goal.returns-in-Always-clause-does
returns-in-Always-clause-does c =
    rw c.in-Always.is (does-same (sym (simple-always c.args.program.now c.args.p.now (state_in c.args.t.now) c.args.proposals.now)) c.constrain.ensures.does)

pub returns-in-Once-clause-does : goal.returns-in-Once-clause-does
returns-in-Once-clause-does c =
    rw c.in-Once.is (does-same (sym (simple-once c.args.program.now c.args.p.now (state_in c.args.t.now) c.args.proposals.now)) c.constrain-in-Once.ensures.does)

pub returns-in-AlwaysSame-clause-does : goal.returns-in-AlwaysSame-clause-does
returns-in-AlwaysSame-clause-does c =
    rw c.in-AlwaysSame.is (does-same (sym (simple-always-same c.args.program.now c.args.p.now (state_in c.args.t.now) c.args.proposals.now)) c.identify.ensures.does)

pub returns-in-OnceSame-clause-does : goal.returns-in-OnceSame-clause-does
returns-in-OnceSame-clause-does c =
    rw c.in-OnceSame.is (does-same (sym (simple-once-same c.args.program.now c.args.p.now (state_in c.args.t.now) c.args.proposals.now)) c.identify-in-OnceSame.ensures.does)

pub returns-in_default-clause-does : goal.returns-in_default-clause-does
returns-in_default-clause-does c =
    rw c.at.ensures
    (refuses (simple-other c.args.program.now c.args.p.now (state_in c.args.t.now) c.args.proposals.now c.args.verb
    c.in_default.not-Skip c.in_default.not-Assign c.in_default.not-New c.in_default.not-Always c.in_default.not-Once c.in_default.not-AlwaysSame c.in_default.not-OnceSame))
