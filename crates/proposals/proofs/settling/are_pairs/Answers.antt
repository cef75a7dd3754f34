use Rattle.proposals.proofs.FormLaws.{pairs-cut, pairs-low, pairs-high, pairs-go-on, pairs_end}
use Rattle.proposals.proofs.settling.are_pairs.Goals as goal

pub returns-then-q-lt2 : goal.returns-then-q-lt2
returns-then-q-lt2 c = pairs-cut c.loop-i.invariant c.loop-i-test.true c.part_from-q.ensures c.if-q-lt2.true

pub returns-then-l-low : goal.returns-then-l-low
returns-then-l-low c = pairs-low c.loop-i.invariant c.loop-i-test.true c.part_from-q.ensures c.if-q-lt2.false c.number_at-l.ensures c.if-l-low.true

pub returns-then-l-ge-LOCATIONS : goal.returns-then-l-ge-LOCATIONS
returns-then-l-ge-LOCATIONS c = pairs-high c.loop-i.invariant c.loop-i-test.true c.part_from-q.ensures c.if-q-lt2.false c.number_at-l.ensures c.if-l-low.false c.if-l-ge-LOCATIONS.true

pub loop-i-preserved : goal.loop-i-preserved
loop-i-preserved c = pairs-go-on c.loop-i.invariant c.loop-i-test.true c.part_from-q.ensures c.if-q-lt2.false c.number_at-l.ensures c.if-l-low.false c.if-l-ge-LOCATIONS.false

pub returns : goal.returns
returns c = pairs_end c.loop-i.invariant c.loop-i-test.false
