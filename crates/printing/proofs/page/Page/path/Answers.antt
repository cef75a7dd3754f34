use Rattle.printing.proofs.PageLaws.{wrote-variable}
use Rattle.printing.proofs.PieceLaws.{path-gives}
use Rattle.printing.proofs.page.Page.path.Goals as goal

pub returns : goal.returns
returns c = path-gives c.args.p.now c.number_at.ensures c.number_at-n.ensures c.part_from-q.ensures (wrote-variable c.name.ensures) c.labels.ensures c.part_from.ensures
