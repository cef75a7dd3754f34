use mathlib.Core.Path.{refl}
use mathlib.Core.List.{[], ◌∷◌}
use Rattle.printing.specs.Signs.{space, identical_sign}
use Rattle.printing.specs.Printing.{path_text, sides_text}
use Rattle.printing.proofs.PageLaws.{wrote-plain}
use Rattle.printing.proofs.PieceLaws.{gives_then}
use Rattle.printing.proofs.page.Page.sides.Goals as goal

pub returns : goal.returns
unfolding sides_text
returns c = gives_then path_text path_text (space ∷ identical_sign ∷ space ∷ []) c.path-q.ensures (wrote-plain c.add.ensures refl) c.path.ensures
