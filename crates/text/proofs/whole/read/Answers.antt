use native.Mathlib.Omega.{arith}
use mathlib.Core.Path.{sym, ◌∙◌}
use Rattle.text.proofs.NamingLaws.{most-least}
use Rattle.text.proofs.WholeCode.{unsized, stops, accepts}
use Rattle.text.proofs.whole.read.Goals as goal

pub returns-then-not-are_sized : goal.returns-then-not-are_sized
returns-then-not-are_sized c =
    let a = c.args in
    unsized a.text.now a.program.now a.origins.now a.names.now (sym c.are_sized.ensures ∙ c.if-not-are_sized.true)
    c.answer_with.ensures

pub returns-then-r-ne0 : goal.returns-then-r-ne0
returns-then-r-ne0 c =
    let a = c.args in
    stops a.text.now a.program.now a.origins.now a.names.now (sym c.are_sized.ensures ∙ c.if-not-are_sized.false) _ _
    (c.text_at.ensures (omega arith) (omega arith) (omega arith)) c.if-r-ne0.true c.answer_with-then-r-ne0.ensures

pub returns : goal.returns
returns c =
    let a = c.args in
    accepts a.text.now a.program.now a.origins.now a.names.now (sym c.are_sized.ensures ∙ c.if-not-are_sized.false) _ _ _ _
    (c.text_at.ensures (omega arith) (omega arith) (omega arith)) c.if-r-ne0.false (omega arith) (omega arith) (most-least 4096 _ c.min-n.ensures)
    (most-least 64 _ c.min-variables.ensures) (most-least 32 _ c.min-labels.ensures) c.copy.ensures c.tell.ensures c.tell_names.ensures c.answer_with-2.ensures
