use Prim.Native.Nat.{◌-◌}
use mathlib.Core.Path.{refl}
use mathlib.Core.List.{[], ◌∷◌}
use native.Mathlib.Omega.{arith}
use lib.ListN.{drop}
use Rattle.program.specs.declared.Verb.TheVariants.{Skip as skip, Assign as assign, New as making, Always as always, Once as once, AlwaysSame as always_same, OnceSame as once_same, If as branch, While as loop}
use Rattle.program.proofs.BlockLaws.{verb-none}
use Rattle.printing.specs.Signs.{space, always_sign, once_sign}
use Rattle.printing.specs.Naming.{naming_of}
use Rattle.printing.specs.Printing.{sides_text, constraint_text, verb_text, block_text, statements_text}
use Rattle.printing.proofs.PageLaws.{wrote-plain}
use Rattle.printing.proofs.RowLaws.{row-starts, row-goes-on, row_ends}
use Rattle.printing.proofs.PieceLaws.{gives-say}
use Rattle.printing.proofs.StatementLaws.{wrote-line, next-bytes, loop-gives, branch-gives, verb-gives, no-verb-gives, block-deep, block-empty, block-gives}
use Rattle.printing.proofs.page.Page.+block_conditional_repeated_statement_statements.Goals as goal

pub block-returns-then-d-eq0 : goal.block-returns-then-d-eq0
block-returns-then-d-eq0 t c = block-deep c.args.d c.args.p.now c.if-d-eq0.true

pub block-returns-then-number_at-eq0 : goal.block-returns-then-number_at-eq0
block-returns-then-number_at-eq0 t c = block-empty c.args.d c.args.p.now c.if-d-eq0.false c.number_at.ensures c.if-number_at-eq0.true (wrote-plain c.add.ensures refl) c.part_from.ensures

pub block-returns : goal.block-returns
block-returns t c =
    block-gives c.args.d c.args.p.now c.if-d-eq0.false c.number_at.ensures c.if-number_at-eq0.false (wrote-plain c.add-2.ensures refl) (wrote-line (c.args.d - 1) c.add_line.ensures) c.statements-rest.ensures
    (wrote-line c.args.d c.add_line-2.ensures) (wrote-plain c.add-3.ensures refl)

pub conditional-returns : goal.conditional-returns
conditional-returns t c =
    branch-gives (λ q. block_text c.args.d q) c.args.p.now (wrote-plain c.add.ensures refl) c.expression-q.ensures (wrote-plain c.add-2.ensures refl)
    c.block-r.ensures (wrote-plain c.add-3.ensures refl) c.block.ensures

pub repeated-returns : goal.repeated-returns
repeated-returns t c =
    loop-gives (λ q. block_text c.args.d q) c.args.p.now (wrote-plain c.add.ensures refl) c.expression-q.ensures (wrote-plain c.add-2.ensures refl)
    c.block.ensures

pub statement-returns-in-0 : goal.statement-returns-in-0
unfolding verb_text
statement-returns-in-0 t c =
    verb-gives c.args.d c.args.p.now c.number_at-verb.ensures skip c.in-0.is (omega arith) (record { wrote = wrote-plain c.add.ensures refl; rest = c.part_from-q.ensures })

pub statement-returns-in-1 : goal.statement-returns-in-1
unfolding verb_text
statement-returns-in-1 t c =
    verb-gives c.args.d c.args.p.now c.number_at-verb.ensures assign c.in-1.is (omega arith) (rw c.part_from-q.ensures at c.assignment.ensures)

pub statement-returns-in-2 : goal.statement-returns-in-2
unfolding verb_text
statement-returns-in-2 t c =
    verb-gives c.args.d c.args.p.now c.number_at-verb.ensures making c.in-2.is (omega arith) (rw c.part_from-q.ensures at c.new_record.ensures)

pub statement-returns-in-3 : goal.statement-returns-in-3
unfolding verb_text
statement-returns-in-3 t c =
    verb-gives c.args.d c.args.p.now c.number_at-verb.ensures always c.in-3.is (omega arith)
    (gives-say (always_sign ∷ space ∷ []) (constraint_text (drop 1 c.args.p.now)) (wrote-plain c.add-in-3.ensures refl) (rw c.part_from-q.ensures at c.constraint.ensures))

pub statement-returns-in-4 : goal.statement-returns-in-4
unfolding verb_text
statement-returns-in-4 t c =
    verb-gives c.args.d c.args.p.now c.number_at-verb.ensures once c.in-4.is (omega arith)
    (gives-say (once_sign ∷ space ∷ []) (constraint_text (drop 1 c.args.p.now)) (wrote-plain c.add-in-4.ensures refl) (rw c.part_from-q.ensures at c.constraint-in-4.ensures))

pub statement-returns-in-5 : goal.statement-returns-in-5
unfolding verb_text
statement-returns-in-5 t c =
    verb-gives c.args.d c.args.p.now c.number_at-verb.ensures always_same c.in-5.is (omega arith)
    (gives-say (always_sign ∷ space ∷ []) (sides_text (drop 1 c.args.p.now)) (wrote-plain c.add-in-5.ensures refl) (rw c.part_from-q.ensures at c.sides.ensures))

pub statement-returns-in-6 : goal.statement-returns-in-6
unfolding verb_text
statement-returns-in-6 t c =
    verb-gives c.args.d c.args.p.now c.number_at-verb.ensures once_same c.in-6.is (omega arith)
    (gives-say (once_sign ∷ space ∷ []) (sides_text (drop 1 c.args.p.now)) (wrote-plain c.add-in-6.ensures refl) (rw c.part_from-q.ensures at c.sides-in-6.ensures))

pub statement-returns-in-7 : goal.statement-returns-in-7
unfolding verb_text
statement-returns-in-7 t c =
    verb-gives c.args.d c.args.p.now c.number_at-verb.ensures branch c.in-7.is (omega arith) (rw c.part_from-q.ensures at c.conditional.ensures)

pub statement-returns-in-8 : goal.statement-returns-in-8
unfolding verb_text
statement-returns-in-8 t c =
    verb-gives c.args.d c.args.p.now c.number_at-verb.ensures loop c.in-8.is (omega arith) (rw c.part_from-q.ensures at c.repeated.ensures)

pub statement-returns-in_default : goal.statement-returns-in_default
statement-returns-in_default t c =
    no-verb-gives c.args.d c.args.p.now c.number_at-verb.ensures (verb-none c.number_at-verb.result (omega arith) (omega arith) (omega arith) (omega arith) (omega arith) (omega arith) (omega arith) (omega arith) (omega arith))

pub statements-loop-i-init : goal.statements-loop-i-init
unfolding statements_text
statements-loop-i-init t c = rw c.number_at-n.ensures (row-starts c.part_from-rest.ensures refl)

pub statements-loop-i-preserved : goal.statements-loop-i-preserved
statements-loop-i-preserved t c =
    row-goes-on c.loop-i.invariant c.loop-i-test.true (rw (next-bytes (naming_of c.args.self.now.names) c.args.d) at c.add_next.ensures) refl c.statement-rest.ensures

pub statements-returns : goal.statements-returns
statements-returns t c = row_ends c.loop-i.invariant c.loop-i-test.false
