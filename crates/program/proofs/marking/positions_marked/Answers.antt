use mathlib.Core.Path.{◌≡◌, refl}
use mathlib.Core.Bool.{Bool}
use Prim.Native.Nat.{ℕ}
use borrow.Author.Tests.{tests}
use Rattle.std.proofs.Common.{rules, arith}
use Rattle.std.proofs.lemmas.Iterator.{YieldsList-from_range}
use Rattle.tables.specs.Kept.{position_at}
use Rattle.tables.specs.Search.{every}
use Rattle.tables.proofs.RangeLaws.{all_range}
use Rattle.program.specs.Where.{is_always, positions_stand}
use Rattle.program.proofs.marking.positions_marked.Goals as goal

pub returns : goal.returns
unfolding positions_stand
returns c =
    let n = c.kept_count-n.result in
    let t : ℕ → Bool = λ i. is_always c.args.program.now c.args.s (position_at c.args.constraints.now c.args.s i) in
    let e : c.all.result ≡ every t n = all_range _ _ _ t n c.all.ensures.ran (YieldsList-from_range 0 n n refl (omega arith)) (λ x b q k. search (rules, tests)) in
    rw c.kept_count-n.ensures at e
