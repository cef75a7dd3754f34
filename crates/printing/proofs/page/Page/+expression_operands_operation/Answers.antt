use mathlib.Core.Path.{refl, ◌∙◌}
use native.Mathlib.Omega.{arith}
use Rattle.program.specs.declared.Form.TheVariants.{Nil as a_nil, False as a_false, True as a_true, Integer as an_integer, Path as a_path, Operation as an_operation, Identity as an_identity}
use Rattle.program.proofs.ReadLaws.{form-none}
use Rattle.text.proofs.LevelLaws.{level-most}
use Rattle.printing.specs.Naming.{naming_of}
use Rattle.printing.specs.Printing.{form_text, expression_text}
use Rattle.printing.proofs.PageLaws.{wrote-plain}
use Rattle.printing.proofs.TextLaws.{operator-plain}
use Rattle.printing.proofs.PieceLaws.{expression-deep, form-gives, no-form-gives, integer-gives, operands-give, operation-gives, brackets-give}
use Rattle.printing.proofs.page.Page.+expression_operands_operation.Goals as goal

pub expression-returns-then-d-eq0 : goal.expression-returns-then-d-eq0
expression-returns-then-d-eq0 t c = expression-deep c.args.d c.args.low c.args.p.now c.if-d-eq0.true

pub expression-returns-in-20 : goal.expression-returns-in-20
unfolding form_text
expression-returns-in-20 t c =
    form-gives c.args.d c.args.low c.args.p.now c.if-d-eq0.false c.number_at-form.ensures a_nil c.in-20.is (omega arith) (record { wrote = wrote-plain c.add.ensures refl; rest = c.part_from-q.ensures })

pub expression-returns-in-21 : goal.expression-returns-in-21
unfolding form_text
expression-returns-in-21 t c =
    form-gives c.args.d c.args.low c.args.p.now c.if-d-eq0.false c.number_at-form.ensures a_false c.in-21.is (omega arith) (record { wrote = wrote-plain c.add-in-21.ensures refl; rest = c.part_from-q.ensures })

pub expression-returns-in-22 : goal.expression-returns-in-22
unfolding form_text
expression-returns-in-22 t c =
    form-gives c.args.d c.args.low c.args.p.now c.if-d-eq0.false c.number_at-form.ensures a_true c.in-22.is (omega arith) (record { wrote = wrote-plain c.add-in-22.ensures refl; rest = c.part_from-q.ensures })

pub expression-returns-in-23 : goal.expression-returns-in-23
unfolding form_text
expression-returns-in-23 t c =
    form-gives c.args.d c.args.low c.args.p.now c.if-d-eq0.false c.number_at-form.ensures an_integer c.in-23.is (omega arith)
    (integer-gives c.args.p.now c.part_from-q.ensures c.word_at.ensures (record { sfits = c.word_at.type_inv }) c.add_number.ensures c.part_from.ensures)

pub expression-returns-in-24 : goal.expression-returns-in-24
unfolding form_text
expression-returns-in-24 t c =
    form-gives c.args.d c.args.low c.args.p.now c.if-d-eq0.false c.number_at-form.ensures a_path c.in-24.is (omega arith) (rw c.part_from-q.ensures at c.path.ensures)

pub expression-returns-in-25 : goal.expression-returns-in-25
unfolding form_text
expression-returns-in-25 t c =
    form-gives c.args.d c.args.low c.args.p.now c.if-d-eq0.false c.number_at-form.ensures an_operation c.in-25.is (omega arith) (rw c.part_from-q.ensures at c.operation.ensures)

pub expression-returns-in-26 : goal.expression-returns-in-26
unfolding form_text
expression-returns-in-26 t c =
    form-gives c.args.d c.args.low c.args.p.now c.if-d-eq0.false c.number_at-form.ensures an_identity c.in-26.is (omega arith) (rw c.part_from-q.ensures at c.sides.ensures)

pub expression-returns-in_default : goal.expression-returns-in_default
expression-returns-in_default t c =
    no-form-gives c.args.d c.args.low c.args.p.now c.if-d-eq0.false c.number_at-form.ensures
    (form-none c.number_at-form.result (omega arith) (omega arith) (omega arith) (omega arith) (omega arith) (omega arith) (omega arith))

pub operands-returns : goal.operands-returns
operands-returns t c =
    let w = operator-plain (naming_of c.expression-q.new.self.names) c.args.k in
    operands-give (λ l q. expression_text c.args.d l q) c.args.k c.args.p.now c.expression-q.ensures
    (wrote-plain (rw (c.operator.ensures ∙ w.0) at c.add.ensures) w.1) c.expression.ensures

pub operation-operands-requires : goal.operation-operands-requires
operation-operands-requires t c = omega (arith, c.decreases, c.level_of-level.ensures, level-most c.number_at-k.result)

pub operation-returns-then-low-level : goal.operation-returns-then-low-level
operation-returns-then-low-level t c =
    operation-gives (λ l q. expression_text c.args.d l q) c.number_at-k.result c.args.low c.args.p.now c.number_at-k.ensures c.level_of-level.ensures c.part_from-q.ensures c.if-low-level.true c.operands.ensures

pub operation-operands-rest-requires : goal.operation-operands-rest-requires
operation-operands-rest-requires t c = omega (arith, c.decreases, c.level_of-level.ensures, level-most c.number_at-k.result)

pub operation-returns : goal.operation-returns
operation-returns t c =
    brackets-give (λ l q. expression_text c.args.d l q) c.number_at-k.result c.args.low c.args.p.now c.number_at-k.ensures c.level_of-level.ensures c.part_from-q.ensures c.if-low-level.false
    (wrote-plain c.add.ensures refl) c.operands-rest.ensures (wrote-plain c.add-2.ensures refl)
