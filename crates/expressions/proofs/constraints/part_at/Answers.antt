use Rattle.std.proofs.Common.{◌≡◌, sym, ◌∙◌, ◌≤◌, ◌<◌, drop, true}
use Rattle.std.proofs.lemmas.Result.{err_from_is_err_and}
use Rattle.expressions.specs.Valuing.{valued_at}
use Rattle.words.specs.Words.{number_at}
use Rattle.tables.specs.Lending.{seen}
use Rattle.expressions.proofs.ConstraintLaws.{part_low, part-high, part-rated}
use Rattle.expressions.proofs.constraints.part_at.Goals as goal

pub returns-then-priority-eq0 : goal.returns-then-priority-eq0
returns-then-priority-eq0 c = rw c.at.ensures (part_low (seen c.args.t.now) c.args.p.now (sym c.number_at-priority.ensures ∙ c.if-priority-eq0.true))

pub returns-then-priority-gt-REQUIRED : goal.returns-then-priority-gt-REQUIRED
returns-then-priority-gt-REQUIRED c =
    let o : number_at c.args.p.now 0 ≡ 0 → ⊥ = rw c.number_at-priority.ensures at c.if-priority-eq0.false in
    let m : 3 < number_at c.args.p.now 0 = rw c.number_at-priority.ensures at c.if-priority-gt-REQUIRED.true in
    rw c.at-then-priority-gt-REQUIRED.ensures (part-high (seen c.args.t.now) c.args.p.now o m)

pub returns-in_err-j : goal.returns-in_err-j
returns-in_err-j c =
    let o : number_at c.args.p.now 0 ≡ 0 → ⊥ = rw c.number_at-priority.ensures at c.if-priority-eq0.false in
    let m : number_at c.args.p.now 0 ≤ 3 = rw c.number_at-priority.ensures at c.if-priority-gt-REQUIRED.false in
    let j : c.evaluate_at.result ≡ valued_at true 16 (seen c.args.t.now) (drop 1 c.args.p.now) = rw c.part_from-q.ensures at c.evaluate_at.ensures in
    let e = err_from_is_err_and c.from_residual.result c.from_residual.ensures.1 in
    rw (e.1, e.2) (rw c.in_err-j.was at (part-rated (seen c.args.t.now) c.args.p.now o m j))

pub returns-in_err-truth : goal.returns-in_err-truth
returns-in_err-truth c =
    let o : number_at c.args.p.now 0 ≡ 0 → ⊥ = rw c.number_at-priority.ensures at c.if-priority-eq0.false in
    let m : number_at c.args.p.now 0 ≤ 3 = rw c.number_at-priority.ensures at c.if-priority-gt-REQUIRED.false in
    let j : c.evaluate_at.result ≡ valued_at true 16 (seen c.args.t.now) (drop 1 c.args.p.now) = rw c.part_from-q.ensures at c.evaluate_at.ensures in
    let e = err_from_is_err_and c.from_residual-in_err-truth.result c.from_residual-in_err-truth.ensures.1 in
    rw (e.1, e.2) (rw (c.in_ok-j.was, ← c.truth.ensures, c.in_err-truth.was) at (part-rated (seen c.args.t.now) c.args.p.now o m j))

pub returns : goal.returns
returns c =
    let o : number_at c.args.p.now 0 ≡ 0 → ⊥ = rw c.number_at-priority.ensures at c.if-priority-eq0.false in
    let m : number_at c.args.p.now 0 ≤ 3 = rw c.number_at-priority.ensures at c.if-priority-gt-REQUIRED.false in
    let j : c.evaluate_at.result ≡ valued_at true 16 (seen c.args.t.now) (drop 1 c.args.p.now) = rw c.part_from-q.ensures at c.evaluate_at.ensures in
    rw c.number_at-priority.ensures (rw (c.in_ok-j.was, ← c.truth.ensures, c.in_ok-truth.was) at (part-rated (seen c.args.t.now) c.args.p.now o m j))
