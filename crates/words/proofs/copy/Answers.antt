use Rattle.words.proofs.Signed.{back32}
use mathlib.Core.Path.{◌∙◌}
use native.Mathlib.Omega.{arith}
use Rattle.words.proofs.Laws.{copying-starts, copying-stops, copying-goes-on, copying-ends}
use Rattle.words.proofs.copy.Goals as goal

pub loop-i-init : goal.loop-i-init
loop-i-init c = copying-starts

pub shape_of-s-then-room-i : goal.shape_of-s-then-room-i
shape_of-s-then-room-i c = c.loop-i.invariant.kept

pub returns-then-room-i : goal.returns-then-room-i
returns-then-room-i c = copying-stops c.loop-i.invariant (omega (arith, c.less-room.ensures, c.if-room-i.true))

pub loop-i-preserved : goal.loop-i-preserved
loop-i-preserved c = copying-goes-on c.loop-i.invariant c.loop-i-test.true c.store.ensures (back32 c.word_at.result (record { sfits = c.word_at.type_inv }) ∙ c.word_at.ensures)

pub shape_of-s : goal.shape_of-s
shape_of-s c = c.loop-i.invariant.kept

pub returns : goal.returns
returns c = copying-ends c.loop-i.invariant c.loop-i-test.false
