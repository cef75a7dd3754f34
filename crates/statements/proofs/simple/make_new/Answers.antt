use Rattle.std.proofs.Common.{rules, sym}
use Rattle.std.proofs.lemmas.Result.{err_from_is_err_and}
use Rattle.tables.specs.Lending.{cells_in}
use Rattle.phases.proofs.PhaseLaws.{does-same}
use Rattle.statements.proofs.SimpleLaws.{moved, new-variable, new-many, new-fails, new-gives}
use Rattle.statements.proofs.simple.make_new.Goals as goal

pub returns-then-x-ge-VARIABLES-clause-does : goal.returns-then-x-ge-VARIABLES-clause-does
returns-then-x-ge-VARIABLES-clause-does c =
    rw c.at.ensures
    (new-variable c.args.program.now c.args.p.now c.args.t.now.constraints.now c.args.proposals.now (cells_in c.args.t.now) c.part_from-q.ensures c.number_at-x.ensures c.if-x-ge-VARIABLES.true)

pub returns-then-n-gt-FIELDS-clause-does : goal.returns-then-n-gt-FIELDS-clause-does
returns-then-n-gt-FIELDS-clause-does c =
    rw c.at-then-n-gt-FIELDS.ensures
    (new-many c.args.program.now c.args.p.now c.args.t.now.constraints.now c.args.proposals.now (cells_in c.args.t.now) c.part_from-q.ensures c.number_at-x.ensures c.if-x-ge-VARIABLES.false
    c.part_from-r.ensures c.number_at-n.ensures c.if-n-gt-FIELDS.true)

pub returns-in_err-field_words-clause-does : goal.returns-in_err-field_words-clause-does
returns-in_err-field_words-clause-does c =
    let e = err_from_is_err_and c.from_residual.result c.from_residual.ensures.1 in
    rw (e.1, e.2)
    (new-fails c.args.program.now c.args.p.now c.args.t.now.constraints.now c.args.proposals.now (cells_in c.args.t.now) c.part_from-q.ensures c.number_at-x.ensures c.if-x-ge-VARIABLES.false
    c.part_from-r.ensures c.number_at-n.ensures c.if-n-gt-FIELDS.false c.part_from.ensures (rw c.view-seen.ensures.cells at c.field_words.ensures) c.in_err-field_words.was)

pub returns-clause-does : goal.returns-clause-does
returns-clause-does c =
    moved c.give_new.new.t (search rules) (search rules) (sym c.give_new.ensures.rest.kept)
    (does-same
    (new-gives c.args.program.now c.args.p.now c.args.t.now.constraints.now c.args.proposals.now (cells_in c.args.t.now) c.part_from-q.ensures c.number_at-x.ensures c.if-x-ge-VARIABLES.false
    c.part_from-r.ensures c.number_at-n.ensures c.if-n-gt-FIELDS.false c.part_from.ensures (rw c.view-seen.ensures.cells at c.field_words.ensures) c.in_ok-field_words.was)
    c.give_new.ensures.does)
