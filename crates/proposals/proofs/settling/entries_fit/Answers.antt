use Rattle.std.proofs.Common.{sym, ◌∙◌}
use Rattle.words.proofs.Signed.{back32}
use Rattle.proposals.proofs.ProposalLaws.{entries-aimed, entries-unfit, entries-go-on, entries-end}
use Rattle.proposals.proofs.settling.entries_fit.Goals as goal

pub returns-then-is_target : goal.returns-then-is_target
returns-then-is_target c = entries-aimed c.loop-i.invariant c.loop-i-test.true c.number_at-l.ensures (sym c.is_target.ensures ∙ c.if-is_target.true)

pub returns-then-not-may_take : goal.returns-then-not-may_take
returns-then-not-may_take c =
    entries-unfit c.loop-i.invariant c.loop-i-test.true c.number_at-l.ensures (sym c.is_target.ensures ∙ c.if-is_target.false) c.cell.ensures
    (back32 c.word_at.result (record { sfits = c.word_at.type_inv }) ∙ c.word_at.ensures) (sym c.if-not-may_take.true ∙ c.may_take.ensures)

pub loop-i-preserved : goal.loop-i-preserved
loop-i-preserved c =
    entries-go-on c.loop-i.invariant c.loop-i-test.true c.number_at-l.ensures (sym c.is_target.ensures ∙ c.if-is_target.false) c.cell.ensures
    (back32 c.word_at.result (record { sfits = c.word_at.type_inv }) ∙ c.word_at.ensures) (sym c.if-not-may_take.false ∙ c.may_take.ensures)

pub returns : goal.returns
returns c = entries-end c.loop-i.invariant c.loop-i-test.false
