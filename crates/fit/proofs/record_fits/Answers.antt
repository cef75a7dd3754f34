use mathlib.Core.Path.{◌≡◌, refl}
use mathlib.Core.Bool.{Bool}
use Prim.Native.Nat.{ℕ}
use borrow.Author.Tests.{tests, le-leb}
use Rattle.std.proofs.Common.{rules, arith}
use Rattle.std.proofs.lemmas.Iterator.{YieldsList-from_range}
use Rattle.tables.specs.Search.{every}
use Rattle.tables.proofs.RangeLaws.{all_range}
use Rattle.fit.specs.Fit.{place_fits, record_fits}
use Rattle.fit.proofs.record_fits.Goals as goal

pub returns-then-n-le-FIELDS : goal.returns-then-n-le-FIELDS
unfolding record_fits
returns-then-n-le-FIELDS c =
    let t : ℕ → Bool = place_fits c.args.heap.now c.args.r c.count_at-n.result in
    let e : c.all.result ≡ every t 8 = all_range _ _ _ t 8 c.all.ensures.ran (YieldsList-from_range 0 8 8 refl (omega arith)) (λ x b q k. search (rules, tests)) in
    rw (← c.count_at-n.ensures, le-leb _ 8 c.if-n-le-FIELDS.true) e
