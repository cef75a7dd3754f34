use mathlib.Core.Path.{◌≡◌, refl}
use mathlib.Core.Bool.{Bool, not}
use Prim.Native.Nat.{ℕ}
use borrow.Author.Tests.{tests, lt-ltb}
use lib.Dec.{eqb}
use Rattle.std.proofs.Common.{rules, arith}
use Rattle.std.proofs.lemmas.Iterator.{YieldsList-from_range}
use Rattle.tables.specs.Search.{every}
use Rattle.tables.specs.Records.{label_at}
use Rattle.tables.proofs.RangeLaws.{all_range}
use Rattle.fit.specs.Fit.{label_fits}
use Rattle.fit.proofs.label_fits.Goals as goal

pub returns-then-label-lt-LABELS : goal.returns-then-label-lt-LABELS
unfolding label_fits
returns-then-label-lt-LABELS c =
    let t : ℕ → Bool = λ g. not (eqb (label_at c.args.heap.now c.args.r g) (label_at c.args.heap.now c.args.r c.args.f)) in
    let e : c.all.result ≡ every t c.args.f = all_range _ _ _ t c.args.f c.all.ensures.ran (YieldsList-from_range 0 c.args.f c.args.f refl (omega arith)) (λ x b q k. search (rules, tests)) in
    rw (lt-ltb _ 32 (rw c.label_at-label.ensures at c.if-label-lt-LABELS.true)) e
