use mathlib.Core.Path.{refl, sym, ◌∙◌}
use Rattle.std.proofs.Common.{rules}
use Rattle.printing.proofs.WholeLaws.{count-is, fault-answers, long-answers, whole-answers}
use Rattle.printing.proofs.whole.print.Goals as goal

pub returns-in-Some : goal.returns-in-Some
returns-in-Some c = fault-answers _ refl refl refl c.statements.ensures.wrote _ c.first_fault.ensures c.in-Some.is c.answer_with.ensures

pub returns-then-not-fits : goal.returns-then-not-fits
returns-then-not-fits c =
    long-answers _ refl refl refl c.statements.ensures.wrote _ c.first_fault.ensures c.in_default.is (count-is _ refl refl refl c.statements.ensures.wrote)
    (sym c.fits.ensures ∙ c.if-not-fits.true) c.answer_with-then-not-fits.ensures

pub returns : goal.returns
returns c =
    let w = whole-answers _ refl refl refl c.statements.ensures.wrote c.args.text.now c.first_fault.ensures c.in_default.is (count-is _ refl refl refl c.statements.ensures.wrote)
    (sym c.fits.ensures ∙ c.if-not-fits.false) refl refl refl c.statements-2.ensures.wrote c.used-variables.ensures c.used-labels.ensures c.answer_with-2.ensures in
    let r = sym c.statements-2.ensures.wrote.row in
    search rules
