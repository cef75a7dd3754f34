use mathlib.Core.Path.{◌∙◌}
use Rattle.words.proofs.Signed.{back32}
use Rattle.text.proofs.ToldNames.{telling-starts, telling-goes-on, telling-ends}
use Rattle.text.proofs.whole.tell.Goals as goal

pub returns : goal.returns
returns c = telling-ends c.loop-i.invariant c.loop-i-test.false

pub loop-i-init : goal.loop-i-init
loop-i-init c = telling-starts

pub loop-i-preserved : goal.loop-i-preserved
loop-i-preserved c =
    telling-goes-on c.loop-i.invariant c.loop-i-test.true c.word.ensures
    (back32 c.word_of.result (record { sfits = c.word_of.type_inv }) ∙ c.word_of.ensures) c.store.ensures
