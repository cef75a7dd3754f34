use mathlib.Core.Path.{◌∙◌}
use Rattle.std.proofs.lemmas.Result.{err_from_is_err_and}
use Rattle.program.specs.Reading.{read_path}
use Rattle.program.proofs.LengthLaws.{after-part, uses-keeps, path-uses}
use Rattle.program.proofs.ReadLaws.{onward}
use Rattle.entries.proofs.ReadLaws.{path-halts, form-low, form-high, form-literal}
use Rattle.entries.proofs.reading.read_entry.Goals as goal

-- src/reading.rt:16:9
pub returns-in_err-left : goal.returns-in_err-left
returns-in_err-left c =
    let e = err_from_is_err_and c.from_residual.result c.from_residual.ensures.1 in
    rw (e.1, e.2) (path-halts c.args.p.now c.in_err-left.ensures)

-- src/reading.rt:21:9
pub returns-then-form-lt20 : goal.returns-then-form-lt20
returns-then-form-lt20 c =
    let e = onward (read_path c.args.p.now) (after-part _ (uses-keeps (path-uses c.args.p.now))) c.in_ok-left.ensures c.part_last-q.ensures in
    c.unfit.ensures ∙ form-low c.args.p.now e (rw c.number_at-form.ensures at c.if-form-lt20.true)

-- src/reading.rt:24:9
pub returns-then-form-gt23 : goal.returns-then-form-gt23
returns-then-form-gt23 c =
    let e = onward (read_path c.args.p.now) (after-part _ (uses-keeps (path-uses c.args.p.now))) c.in_ok-left.ensures c.part_last-q.ensures in
    c.unfit-then-form-gt23.ensures ∙ form-high c.args.p.now e (rw c.number_at-form.ensures at c.if-form-gt23.true)

-- src/reading.rt:11:1
pub returns : goal.returns
returns c =
    let e = onward (read_path c.args.p.now) (after-part _ (uses-keeps (path-uses c.args.p.now))) c.in_ok-left.ensures c.part_last-q.ensures in
    c.read_expression.ensures ∙ form-literal c.args.p.now e (rw c.number_at-form.ensures at c.if-form-lt20.false) (rw c.number_at-form.ensures at c.if-form-gt23.false)
