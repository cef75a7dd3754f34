use Rattle.std.proofs.Common.{rules, ◌∙◌}
use Rattle.words.proofs.Signed.{back32}
use Rattle.proposals.proofs.UndoLaws.{putting-back-goes-on, putting-back-ends}
use Rattle.proposals.proofs.undoing.put_back.Goals as goal

pub loop-i-preserved : goal.loop-i-preserved
loop-i-preserved c =
    let w = back32 c.word_at.result (record { sfits = c.word_at.type_inv }) in (
      putting-back-goes-on c.loop-i.invariant.0 c.loop-i-test.true c.number_at-l.ensures (w ∙ c.word_at.ensures) c.put_payload.ensures.swaps,
      search rules,
    )

pub returns-clause-cells : goal.returns-clause-cells
returns-clause-cells c = putting-back-ends c.loop-i.invariant.0 c.loop-i-test.false
