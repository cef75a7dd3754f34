use borrow.Author.Rules.{rules}
use mathlib.Core.Path.{refl, sym, ap, ◌∙◌}
use native.Mathlib.Omega.{arith}
use Rattle.std.specs.Prelude.{Ok}
use Rattle.words.proofs.Signed.{back32}
use Rattle.phases.specs.Told.{tables, state_seen, state_in}
use Rattle.solvers.proofs.AskLaws.{hands-early, hands-first, hands-second, hands-neither, of-solver, moved}
use Rattle.solvers.proofs.whole.ask.Goals as goal

pub returns-in-Err : goal.returns-in-Err
returns-in-Err c =
    let b = back32 c.args.word c.ranges.word in
    record {
      hands = hands-early c.args.program.now c.args.word c.args.first.now c.args.second.now (tables c.args.environment.now c.args.heap.now c.args.constraints.now) (state_seen c.view-seen.result) c.view-seen.ensures.cells c.view-seen.ensures.kept (rw b at c.opens.ensures) c.in-Err.is (rw (back32 c.in-Err.early.place (record { sfits = search rules })) at c.tell.ensures) refl;
      place = sym (of-solver 0 (omega arith) c.tell.ensures _ _);
    }

pub returns-in-Ok-First : goal.returns-in-Ok-First
returns-in-Ok-First c =
    let b = back32 c.args.word c.ranges.word in
    record {
      hands = moved c.attempt.new.t (search rules) (search rules) (search rules) (hands-first c.args.program.now c.args.word c.args.first.now c.args.second.now (tables c.args.environment.now c.args.heap.now c.args.constraints.now) (state_seen c.view-seen.result) c.view-seen.ensures.cells c.view-seen.ensures.kept (rw b at c.opens.ensures) c.in_default.is {Z = state_in c.attempt.new.t} (rw b at c.attempt.ensures.given) (c.in-Ok-First.is ∙ ap Ok (search rules)) (rw b at c.tell-in-Ok-First.ensures));
      place = sym (of-solver 1 (omega arith) c.tell-in-Ok-First.ensures _ _);
    }

pub returns-in-Ok-Second : goal.returns-in-Ok-Second
returns-in-Ok-Second c =
    let b = back32 c.args.word c.ranges.word in
    record {
      hands = moved c.attempt.new.t (search rules) (search rules) (search rules) (hands-second c.args.program.now c.args.word c.args.first.now c.args.second.now (tables c.args.environment.now c.args.heap.now c.args.constraints.now) (state_seen c.view-seen.result) c.view-seen.ensures.cells c.view-seen.ensures.kept (rw b at c.opens.ensures) c.in_default.is {Z = state_in c.attempt.new.t} (rw b at c.attempt.ensures.given) (c.in-Ok-Second.is ∙ ap Ok (search rules)) (rw b at c.tell-in-Ok-Second.ensures));
      place = sym (of-solver 2 (omega arith) c.tell-in-Ok-Second.ensures _ _);
    }

pub returns-in-Err-attempt : goal.returns-in-Err-attempt
returns-in-Err-attempt c =
    let b = back32 c.args.word c.ranges.word in
    record {
      hands = moved c.attempt.new.t (search rules) (search rules) (search rules) (hands-neither c.args.program.now c.args.word c.args.first.now c.args.second.now (tables c.args.environment.now c.args.heap.now c.args.constraints.now) (state_seen c.view-seen.result) c.view-seen.ensures.cells c.view-seen.ensures.kept (rw b at c.opens.ensures) c.in_default.is {Z = state_in c.attempt.new.t} (rw b at c.attempt.ensures.given) c.in-Err-attempt.is (rw (back32 c.word_of.result (record { sfits = c.word_of.type_inv }), c.word_of.ensures, c.less-place.ensures) at c.tell-in-Err-attempt.ensures) refl);
      place = sym (of-solver 0 (omega arith) c.tell-in-Err-attempt.ensures _ _);
    }
