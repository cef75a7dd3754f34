use Rattle.tokens.proofs.ByteLaws.{spelt-length, spelling-starts, spelling-differs, spelling-goes-on, spelling-ends}
use Rattle.tokens.proofs.bytes.spells.Goals as goal

-- src/bytes.rt:62:9
pub returns-then-s-word : goal.returns-then-s-word
returns-then-s-word c = spelt-length c.args.word.now c.args.s.now c.if-s-word.true

-- src/bytes.rt:64:5
pub loop-i-init : goal.loop-i-init
loop-i-init c = spelling-starts c.if-s-word.false

-- src/bytes.rt:66:13
pub returns-then-s-i : goal.returns-then-s-i
returns-then-s-i c = spelling-differs c.loop-i.invariant c.loop-i-test.true c.if-s-i.true

-- src/bytes.rt:64:5
pub loop-i-preserved : goal.loop-i-preserved
loop-i-preserved c = spelling-goes-on c.loop-i.invariant c.loop-i-test.true c.if-s-i.false

-- src/bytes.rt:58:1
pub returns : goal.returns
returns c = spelling-ends c.loop-i.invariant c.loop-i-test.false
