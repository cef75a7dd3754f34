use mathlib.Core.Path.{sym, ◌∙◌}
use Rattle.std.proofs.lemmas.Result.{err_from_is_err_and}
use Rattle.words.proofs.Signed.{back32}
use Rattle.phases.specs.Told.{state_in}
use Rattle.solvers.proofs.AskLaws.{tries-first, tries-neither, tries-second, tries-empty, tries-both}
use Rattle.solvers.proofs.whole.attempt.Goals as goal

pub returns-in_default-clause-given : goal.returns-in_default-clause-given
returns-in_default-clause-given c =
    let a = rw (back32 c.args.word c.ranges.word) at c.number-at.ensures in
    tries-first c.args.program.now c.args.word c.args.first.now c.args.second.now (state_in c.args.t.now) {Y = state_in c.alone.new.t} (rw a at c.alone.ensures.does) c.in_default.is

pub returns-then-not-turns_down-clause-given : goal.returns-then-not-turns_down-clause-given
returns-then-not-turns_down-clause-given c =
    let a = rw (back32 c.args.word c.ranges.word) at c.number-at.ensures in
    tries-neither c.args.program.now c.args.word c.args.first.now c.args.second.now (state_in c.args.t.now) {Y = state_in c.alone.new.t} (rw a at c.alone.ensures.does) c.in-Err.is (sym c.turns_down.ensures ∙ c.if-not-turns_down.true)

pub returns-then-second-eq0-clause-given : goal.returns-then-second-eq0-clause-given
returns-then-second-eq0-clause-given c =
    let a = rw (back32 c.args.word c.ranges.word) at c.number-at.ensures in
    tries-empty c.args.program.now c.args.word c.args.first.now c.args.second.now (state_in c.args.t.now) {Y = state_in c.alone.new.t} (rw a at c.alone.ensures.does) c.in-Err.is c.if-second-eq0.true

pub returns-in_err-alone-clause-given : goal.returns-in_err-alone-clause-given
returns-in_err-alone-clause-given c =
    let e = err_from_is_err_and c.from_residual.result c.from_residual.ensures.1 in
    let a = rw (back32 c.args.word c.ranges.word) at c.number-at.ensures in
    rw (e.1, e.2)
    (tries-both c.args.program.now c.args.word c.args.first.now c.args.second.now (state_in c.args.t.now) {Y = state_in c.alone.new.t} (rw a at c.alone.ensures.does) c.in-Err.is (sym c.turns_down.ensures ∙ c.if-not-turns_down.false) c.if-second-eq0.false {Z = state_in c.alone-2.new.t} (rw a at c.alone-2.ensures.does) c.in_err-alone.was)

pub returns-clause-given : goal.returns-clause-given
returns-clause-given c =
    let a = rw (back32 c.args.word c.ranges.word) at c.number-at.ensures in
    tries-second c.args.program.now c.args.word c.args.first.now c.args.second.now (state_in c.args.t.now) {Y = state_in c.alone.new.t} (rw a at c.alone.ensures.does) c.in-Err.is (sym c.turns_down.ensures ∙ c.if-not-turns_down.false) c.if-second-eq0.false {Z = state_in c.alone-2.new.t} (rw a at c.alone-2.ensures.does) c.in_ok-alone.was
