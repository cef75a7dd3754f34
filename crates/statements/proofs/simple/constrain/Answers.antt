use Rattle.std.proofs.Common.{rules, refl}
use Rattle.std.proofs.lemmas.Result.{err_from_is_err_and}
use Rattle.statements.proofs.SimpleLaws.{moved, room-asked, constrain-refuses, constrain-keeps, constrain-once}
use Rattle.statements.proofs.simple.constrain.Goals as goal

pub returns-in_err-unread-clause-does : goal.returns-in_err-unread-clause-does
returns-in_err-unread-clause-does c =
    let b = room-asked c.args.keeps (rw (c.less-position.ensures, c.view-seen.ensures.kept) at c.has_room.ensures) in
    let e = err_from_is_err_and c.from_residual.result c.from_residual.ensures.1 in
    rw (e.1, e.2)
    (moved c.settle.new.t (search rules) (search rules) refl
    (constrain-refuses c.args.program.now c.args.p.now c.args.t.now.constraints.now c.args.proposals.now c.args.keeps b (rw c.part_from.ensures at c.settle.ensures.settles) c.in_err-unread.was))

pub returns-then-keeps-clause-does : goal.returns-then-keeps-clause-does
returns-then-keeps-clause-does c =
    let b = room-asked c.args.keeps (rw (c.less-position.ensures, c.view-seen.ensures.kept) at c.has_room.ensures) in
    moved c.settle.new.t (search rules) (search rules) refl
    (constrain-keeps c.args.program.now c.args.p.now c.args.t.now.constraints.now c.args.proposals.now c.args.keeps b (rw c.part_from.ensures at c.settle.ensures.settles) c.in_ok-unread.was
    c.if-keeps.true (rw c.less-position.ensures at c.keep_once.ensures))

pub returns-else-keeps-clause-does : goal.returns-else-keeps-clause-does
returns-else-keeps-clause-does c =
    let b = room-asked c.args.keeps (rw (c.less-position.ensures, c.view-seen.ensures.kept) at c.has_room.ensures) in
    moved c.settle.new.t (search rules) (search rules) refl
    (constrain-once c.args.program.now c.args.p.now c.args.t.now.constraints.now c.args.proposals.now c.args.keeps b (rw c.part_from.ensures at c.settle.ensures.settles) c.in_ok-unread.was
    c.if-keeps.false)
