use Rattle.words.proofs.Signed.{back32}
use Rattle.text.proofs.RaisedLaws.{raising-goes-on, raising-ends}
use Rattle.text.proofs.writing.raise.Goals as goal

pub returns : goal.returns
returns c = record { words_after = raising-ends c.loop-i.invariant.0 c.loop-i-test.false; origins_after = raising-ends c.loop-i.invariant.1 c.loop-i-test.false }

pub loop-i-preserved : goal.loop-i-preserved
loop-i-preserved c = (
  raising-goes-on c.loop-i.invariant.0 c.loop-i-test.true c.word_at-w.ensures
      (rw (back32 c.word_at-w.result (record { sfits = c.word_at-w.type_inv })) at c.store.ensures),
  raising-goes-on c.loop-i.invariant.1 c.loop-i-test.true c.word-p.ensures c.put.ensures,
)
