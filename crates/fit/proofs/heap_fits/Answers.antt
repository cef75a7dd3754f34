use mathlib.Core.Path.{◌≡◌, refl, sym, ◌∙◌}
use mathlib.Core.Bool.{Bool}
use Prim.Native.Nat.{ℕ}
use borrow.Author.Tests.{tests, le-leb}
use Rattle.std.proofs.Common.{rules, arith}
use Rattle.std.proofs.lemmas.Iterator.{YieldsList-from_range}
use Rattle.tables.specs.Search.{every}
use Rattle.tables.proofs.RangeLaws.{all_range}
use Rattle.fit.specs.Fit.{record_fits, heap_fits}
use Rattle.fit.proofs.RestLaws.{heap-refused, heap-rest}
use Rattle.fit.proofs.heap_fits.Goals as goal

pub returns-then-all : goal.returns-then-all
unfolding heap_fits
returns-then-all c =
    let n = c.record_count-n.result in
    let t : ℕ → Bool = record_fits c.args.heap.now in
    let e : c.all.result ≡ every t n = all_range _ _ _ t n c.all.ensures.ran (YieldsList-from_range 0 n n refl (omega arith)) (λ x b q k. search (rules, tests)) in
    rw (← c.record_count-n.ensures, le-leb _ 64 c.if-n-gt-RECORDS.false) (c.are_blank_from.ensures ∙ heap-rest c.args.heap.now n c.if-n-gt-RECORDS.false (sym e ∙ c.if-all.true))

pub returns-else-all : goal.returns-else-all
unfolding heap_fits
returns-else-all c =
    let n = c.record_count-n.result in
    let t : ℕ → Bool = record_fits c.args.heap.now in
    let e : c.all.result ≡ every t n = all_range _ _ _ t n c.all.ensures.ran (YieldsList-from_range 0 n n refl (omega arith)) (λ x b q k. search (rules, tests)) in
    rw (← c.record_count-n.ensures, le-leb _ 64 c.if-n-gt-RECORDS.false) (c.if-all.false ∙ sym (heap-refused c.args.heap.now n c.if-n-gt-RECORDS.false (sym e ∙ c.if-all.false)))
