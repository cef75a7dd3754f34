use Rattle.std.proofs.Common.{sym, ◌∙◌}
use Rattle.phases.specs.Told.{state_in}
use Rattle.lent.proofs.LentLaws.{begun-blocks, begun-broke, begun-few, begun-simple}
use Rattle.lent.proofs.stepping.begun.Goals as goal

pub returns-then-holds_blocks-clause-goes : goal.returns-then-holds_blocks-clause-goes
returns-then-holds_blocks-clause-goes c =
    begun-blocks c.args.program.now c.args.budget c.args.p.now c.args.proposals.now (state_in c.args.t.now) c.requires c.less-place.ensures
    (sym c.if-holds_blocks.true ∙ (rw (c.from-verb.ensures, c.number_at.ensures) at c.holds_blocks.ensures)) c.ended.ensures

pub returns-then-u-ne0-clause-goes : goal.returns-then-u-ne0-clause-goes
returns-then-u-ne0-clause-goes c =
    begun-broke c.args.program.now c.args.budget c.args.p.now c.args.proposals.now (state_in c.args.t.now) c.requires c.less-place.ensures
    (sym c.if-holds_blocks.false ∙ (rw (c.from-verb.ensures, c.number_at.ensures) at c.holds_blocks.ensures)) c.pay-u.ensures c.if-u-ne0.true

pub tallied-requires : goal.tallied-requires
tallied-requires c =
    begun-few c.args.program.now c.args.budget c.args.p.now c.args.proposals.now (state_in c.args.t.now) c.requires c.less-place.ensures
    (sym c.if-holds_blocks.false ∙ (rw (c.from-verb.ensures, c.number_at.ensures) at c.holds_blocks.ensures)) c.pay-u.ensures c.if-u-ne0.false c.part_last-unread.ensures
    (rw (c.from-verb.ensures, c.number_at.ensures) at c.simple_at.ensures.does)

pub returns-clause-goes : goal.returns-clause-goes
returns-clause-goes c =
    begun-simple c.args.program.now c.args.budget c.args.p.now c.args.proposals.now (state_in c.args.t.now) c.requires c.less-place.ensures
    (sym c.if-holds_blocks.false ∙ (rw (c.from-verb.ensures, c.number_at.ensures) at c.holds_blocks.ensures)) c.pay-u.ensures c.if-u-ne0.false c.part_last-unread.ensures
    (rw (c.from-verb.ensures, c.number_at.ensures) at c.simple_at.ensures.does) c.tallied.ensures
