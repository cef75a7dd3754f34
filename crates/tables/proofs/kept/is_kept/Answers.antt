use mathlib.Core.Path.{◌≡◌, refl}
use mathlib.Core.Bool.{Bool}
use Prim.Native.Nat.{ℕ}
use borrow.Author.Tests.{tests}
use lib.Dec.{eqb, ltb}
use Rattle.std.proofs.Common.{rules, arith}
use Rattle.std.proofs.lemmas.Iterator.{YieldsList-from_range}
use Rattle.tables.specs.Search.{first}
use Rattle.tables.specs.Kept.{position_at, is_kept}
use Rattle.tables.proofs.RangeLaws.{any_range}
use Rattle.tables.proofs.kept.is_kept.Goals as goal

pub returns : goal.returns
unfolding is_kept
returns c =
    let n = c.kept_count-n.result in
    let t : ℕ → Bool = λ i. eqb (position_at c.args.constraints.now c.args.s i) c.args.position in
    let e : c.any.result ≡ ltb (first t 0 n) n = any_range _ _ _ t n c.any.ensures.ran (YieldsList-from_range 0 n n refl (omega arith)) (λ x b q k. search (rules, tests)) in
    rw c.kept_count-n.ensures at e
