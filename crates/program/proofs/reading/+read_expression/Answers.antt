use mathlib.Core.Path.{◌≡◌, sym, ◌∙◌}
use Prim.Native.Nat.{◌-◌, ◌≤◌}
use lib.ListN.{drop}
use Rattle.words.specs.Words.{number_at}
use Rattle.program.specs.Reading.{read_expression}
use Rattle.program.proofs.LengthLaws.{after-part, uses-keeps, expression-uses}
use Rattle.program.proofs.ReadLaws.{onward, right-follows}
use Rattle.program.proofs.reading.+read_expression.Goals as goal

pub returns-in_ok-left-in-25 : goal.returns-in_ok-left-in-25
returns-in_ok-left-in-25 t c =
    let o : number_at (drop 1 c.args.p.now) 0 ≡ 0 → ⊥ = rw (c.number_at-o.ensures, c.part_from-q.ensures) at c.if-o-eq0.false in
    let m : number_at (drop 1 c.args.p.now) 0 ≤ 11 = rw (c.number_at-o.ensures, c.part_from-q.ensures) at c.if-o-gt-OPERATORS.false in
    c.read_expression-in-25.ensures ∙ right-follows c.args.d c.args.in_c c.args.p.now c.if-d-eq0.false (sym c.number_at-form.ensures ∙ c.in-25.is) o m
    (onward (read_expression (c.args.d - 1) c.args.in_c (drop 1 (drop 1 c.args.p.now))) (after-part _ (uses-keeps (expression-uses (c.args.d - 1) c.args.in_c (drop 1 (drop 1 c.args.p.now)))))
    (rw (c.part_from-r.ensures, c.part_from-q.ensures) at c.in_ok-left-in-25.ensures) (rw (c.part_from-r.ensures, c.part_from-q.ensures) at c.part_last.ensures))
