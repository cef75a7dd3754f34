use Rattle.words.proofs.Laws.{part-from, part-past}
use Rattle.words.proofs.part_from.Goals as goal

pub returns-then-k-s : goal.returns-then-k-s
returns-then-k-s g c = part-from c.args.s.now c.args.k

pub returns-else-k-s : goal.returns-else-k-s
returns-else-k-s g c = part-past c.args.s.now c.args.k c.if-k-s.false
