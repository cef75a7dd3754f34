use mathlib.Core.Path.{◌≡◌, refl}
use mathlib.Core.Bool.{Bool, not}
use Prim.Native.Nat.{ℕ}
use borrow.Author.Tests.{tests, lt-ltb}
use Rattle.std.proofs.Common.{rules, arith}
use Rattle.std.proofs.lemmas.Iterator.{YieldsList-from_range}
use lib.Dec.{eqb}
use Rattle.tables.specs.Search.{every}
use Rattle.tables.specs.Kept.{position_at}
use Rattle.tables.proofs.RangeLaws.{all_range}
use Rattle.fit.specs.Fit.{position_fits}
use Rattle.fit.proofs.position_fits.Goals as goal

pub returns-then-position-lt2147483648 : goal.returns-then-position-lt2147483648
unfolding position_fits
returns-then-position-lt2147483648 c =
    let t : ℕ → Bool = λ j. not (eqb (position_at c.args.constraints.now c.args.s j) (position_at c.args.constraints.now c.args.s c.args.i)) in
    let e : c.all.result ≡ every t c.args.i = all_range _ _ _ t c.args.i c.all.ensures.ran (YieldsList-from_range 0 c.args.i c.args.i refl (omega arith)) (λ x b q k. search (rules, tests)) in
    rw (lt-ltb _ 2147483648 (rw c.position_at-position.ensures at c.if-position-lt2147483648.true)) e
