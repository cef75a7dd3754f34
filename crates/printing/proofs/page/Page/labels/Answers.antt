use mathlib.Core.Path.{refl}
use mathlib.Core.List.{[], ◌∷◌}
use Rattle.printing.specs.Signs.{dot_sign}
use Rattle.printing.proofs.PageLaws.{wrote_then, wrote-plain, wrote-label}
use Rattle.printing.proofs.RowLaws.{labels-start, labels-go-on, labels-end}
use Rattle.printing.proofs.page.Page.labels.Goals as goal

pub loop-i-init : goal.loop-i-init
loop-i-init c = labels-start

pub loop-i-preserved : goal.loop-i-preserved
loop-i-preserved c =
    labels-go-on c.loop-i.invariant c.loop-i-test.true
    (wrote_then {ss = dot_sign ∷ []} (wrote-plain c.add.ensures refl) (wrote-label (rw c.label_at.ensures at c.name.ensures)))

pub returns : goal.returns
returns c = labels-end c.loop-i.invariant c.loop-i-test.false
