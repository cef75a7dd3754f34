use mathlib.Core.Path.{◌∙◌}
use Rattle.printing.specs.Naming.{naming_of}
use Rattle.printing.proofs.PageLaws.{wrote-plain}
use Rattle.printing.proofs.TextLaws.{priority-plain}
use Rattle.printing.proofs.PieceLaws.{part_gives}
use Rattle.printing.proofs.page.Page.part.Goals as goal

pub returns : goal.returns
returns c =
    let w = priority-plain (naming_of c.args.self.now.names) c.number_at.result in
    part_gives c.args.p.now c.number_at.ensures (wrote-plain (rw (c.priority.ensures ∙ w.0) at c.add.ensures) w.1) c.part_from-q.ensures c.expression.ensures
