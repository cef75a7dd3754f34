use Rattle.std.proofs.Common.{◌≡◌, sym, ◌∙◌, ◌≤◌, ◌<◌, drop}
use Rattle.words.specs.Words.{number_at}
use Rattle.expressions.proofs.OperandLaws.{row-deep, row-alone, row-none, row-high, row-two}
use Rattle.expressions.proofs.values.row_at.Goals as goal

pub returns-then-d-eq0 : goal.returns-then-d-eq0
returns-then-d-eq0 c = rw c.at.ensures (row-deep c.args.d c.args.p.now c.if-d-eq0.true)

pub returns-then-number_at-ne25 : goal.returns-then-number_at-ne25
returns-then-number_at-ne25 c = row-alone c.args.d c.args.p.now c.if-d-eq0.false (λ e. c.if-number_at-ne25.true (c.number_at.ensures ∙ e))

pub returns-then-o-eq0 : goal.returns-then-o-eq0
returns-then-o-eq0 c =
    let o : number_at (drop 1 c.args.p.now) 0 ≡ 0 = rw (c.number_at-o.ensures, c.part_from-q.ensures) at c.if-o-eq0.true in
    rw (c.at-then-o-eq0.ensures, c.part_from-q.ensures) (row-none c.args.d c.args.p.now c.if-d-eq0.false (sym c.number_at.ensures ∙ c.if-number_at-ne25.false) o)

pub returns-then-o-gt-OPERATORS : goal.returns-then-o-gt-OPERATORS
returns-then-o-gt-OPERATORS c =
    let o : 11 < number_at (drop 1 c.args.p.now) 0 = rw (c.number_at-o.ensures, c.part_from-q.ensures) at c.if-o-gt-OPERATORS.true in
    rw (c.at-then-o-gt-OPERATORS.ensures, c.part_from-q.ensures) (row-high c.args.d c.args.p.now c.if-d-eq0.false (sym c.number_at.ensures ∙ c.if-number_at-ne25.false) o)

pub returns : goal.returns
returns c =
    let o : number_at (drop 1 c.args.p.now) 0 ≡ 0 → ⊥ = rw (c.number_at-o.ensures, c.part_from-q.ensures) at c.if-o-eq0.false in
    let m : number_at (drop 1 c.args.p.now) 0 ≤ 11 = rw (c.number_at-o.ensures, c.part_from-q.ensures) at c.if-o-gt-OPERATORS.false in
    rw (c.operator.ensures, c.number_at-o.ensures, c.part_from-first.ensures, c.part_from-q.ensures) (row-two c.args.d c.args.p.now c.if-d-eq0.false (sym c.number_at.ensures ∙ c.if-number_at-ne25.false) o m)
