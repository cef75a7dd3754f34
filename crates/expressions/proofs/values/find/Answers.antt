use Rattle.std.proofs.Common.{rules, sym, ap, ◌∙◌}
use Rattle.words.specs.Words.{number_of}
use Rattle.words.proofs.Signed.{back32}
use Rattle.expressions.proofs.PathLaws.{finding-starts, finding-none, finding-lost, finding-goes-on, finding-ends}
use Rattle.expressions.proofs.values.find.Goals as goal

pub loop-i-init : goal.loop-i-init
loop-i-init c = finding-starts c.cell-c.ensures

pub returns-then-number-ne4 : goal.returns-then-number-ne4
returns-then-number-ne4 c =
    let k = c.number.ensures ∙ ap number_of (back32 c.loop-i.c.kind (search rules)) in
    finding-none c.loop-i.invariant c.loop-i-test.true (λ h. c.if-number-ne4.true (k ∙ h))

pub returns-in_err-l : goal.returns-in_err-l
returns-in_err-l c =
    let k = c.number.ensures ∙ ap number_of (back32 c.loop-i.c.kind (search rules)) in
    let x = c.number-r.ensures ∙ ap number_of (back32 c.loop-i.c.payload (search rules)) in
    rw c.from_residual.ensures
    (finding-lost c.loop-i.invariant c.loop-i-test.true (sym k ∙ c.if-number-ne4.false) (rw (x, c.number_at.ensures) at c.find_field.ensures) c.in_err-l.was)

pub loop-i-preserved : goal.loop-i-preserved
loop-i-preserved c =
    let k = c.number.ensures ∙ ap number_of (back32 c.loop-i.c.kind (search rules)) in
    let x = c.number-r.ensures ∙ ap number_of (back32 c.loop-i.c.payload (search rules)) in
    finding-goes-on c.loop-i.invariant c.loop-i-test.true (sym k ∙ c.if-number-ne4.false) (rw (x, c.number_at.ensures) at c.find_field.ensures) c.in_ok-l.was
    c.cell-c-in-loop-i.ensures

pub returns : goal.returns
returns c = c.slot_of.ensures ∙ finding-ends c.loop-i.invariant c.loop-i-test.false
