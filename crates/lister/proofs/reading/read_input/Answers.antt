use Rattle.std.proofs.Common.{rules, ◌≡◌, Some, None, Err}
use Rattle.words.proofs.Signed.{back32}
use Rattle.lister.proofs.ReadingLaws.{input-too-long, input-first, input-second, input-third, input-read}
use Rattle.lister.proofs.reading.read_input.Goals as goal

pub returns-then-text-gt-MOST_BYTES : goal.returns-then-text-gt-MOST_BYTES
returns-then-text-gt-MOST_BYTES c = input-too-long c.args.text.now c.if-text-gt-MOST_BYTES.true

pub returns-in_err-n : goal.returns-in_err-n
returns-in_err-n c =
    let none : c.read_line.result ≡ None = search rules in
    let e : c.from_residual.result ≡ Err 1 = search rules in
    rw e (input-first c.args.text.now c.if-text-gt-MOST_BYTES.false c.up_to.ensures c.read_line.ensures none)

pub returns-in_err-m : goal.returns-in_err-m
returns-in_err-m c =
    let first : c.read_line.result ≡ Some c.in_ok-n.n = search rules in
    let none : c.read_line-2.result ≡ None = search rules in
    let e : c.from_residual-in_err-m.result ≡ Err 2 = search rules in
    rw e (input-second c.args.text.now c.if-text-gt-MOST_BYTES.false c.up_to.ensures c.read_line.ensures first c.after-rest.ensures c.up_to-2.ensures c.read_line-2.ensures none)

pub returns-in_err-budget : goal.returns-in_err-budget
returns-in_err-budget c =
    let first : c.read_line.result ≡ Some c.in_ok-n.n = search rules in
    let second : c.read_line-2.result ≡ Some c.in_ok-m.m = search rules in
    let none : c.read_budget.result ≡ None = search rules in
    let e : c.from_residual-in_err-budget.result ≡ Err 3 = search rules in
    rw e (input-third c.args.text.now c.if-text-gt-MOST_BYTES.false c.up_to.ensures c.read_line.ensures first c.after-rest.ensures c.up_to-2.ensures c.read_line-2.ensures second c.after.ensures c.read_budget.ensures none)

pub returns : goal.returns
returns c =
    let first : c.read_line.result ≡ Some c.in_ok-n.n = search rules in
    let second : c.read_line-2.result ≡ Some c.in_ok-m.m = search rules in
    let third : c.read_budget.result ≡ Some c.in_ok-budget.budget = search rules in
    input-read c.args.text.now c.if-text-gt-MOST_BYTES.false c.up_to.ensures c.read_line.ensures first c.after-rest.ensures c.up_to-2.ensures c.read_line-2.ensures second c.after.ensures c.read_budget.ensures third (back32 _ (search rules))
