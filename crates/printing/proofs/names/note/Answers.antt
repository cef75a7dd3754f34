use mathlib.Core.Path.{sym, ◌∙◌}
use Rattle.printing.specs.declared.names.Standing.TheVariants.{Led, Early}
use Rattle.printing.proofs.FaultLaws.{noted-set}
use Rattle.printing.proofs.names.note.Goals as goal
use Rattle.printing.proofs.names.note.Goals.{then-is_led, else-is_led}

pub returns-after-is_led : goal.returns-after-is_led
returns-after-is_led c =
    let u = sym (rw c.standing_at.ensures at c.is_used.ensures) ∙ c.if-not-is_used.true in
    elim c.if-is_led.branch [
      | then-is_led w ↦ rw w.seen-is (noted-set c.args.seen.now c.args.i Led u (rw (sym c.is_led.ensures ∙ w.if-is_led.true)))
      | else-is_led w ↦ rw w.seen-is (noted-set c.args.seen.now c.args.i Early u (rw (sym c.is_led.ensures ∙ w.if-is_led.false)))
    ]
