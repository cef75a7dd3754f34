use mathlib.Core.Path.{refl}
use mathlib.Core.List.{[], ◌∷◌}
use Rattle.printing.specs.Signs.{space, becomes_sign}
use Rattle.printing.specs.Printing.{path_text, whole_text, assign_text}
use Rattle.printing.proofs.PageLaws.{wrote-plain}
use Rattle.printing.proofs.PieceLaws.{gives_then}
use Rattle.printing.proofs.page.Page.assignment.Goals as goal

pub returns : goal.returns
unfolding assign_text
returns c = gives_then path_text whole_text (space ∷ becomes_sign ∷ space ∷ []) c.path-q.ensures (wrote-plain c.add.ensures refl) c.expression.ensures
