use mathlib.Core.List.{[], ◌∷◌}
use Rattle.printing.specs.Signs.{line_bytes}
use Rattle.printing.proofs.PageLaws.{added_none, added_then}
use Rattle.printing.proofs.TextLaws.{between-some}
use Rattle.printing.proofs.page.Page.add_next.Goals as goal

pub returns-then-i-eq0 : goal.returns-then-i-eq0
returns-then-i-eq0 c = rw c.if-i-eq0.true added_none

pub returns : goal.returns
returns c = rw (between-some c.args.i (59 ∷ line_bytes c.args.d) c.if-i-eq0.false) (added_then (59 ∷ []) (line_bytes c.args.d) c.add.ensures c.add_line.ensures)
