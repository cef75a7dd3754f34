use mathlib.Core.Path.{refl}
use mathlib.Core.Bool.{Bool}
use Prim.Native.Nat.{ℕ, ◌+◌}
use borrow.Author.Tests.{tests}
use lib.IntN.{pos}
use Rattle.std.proofs.Common.{rules, arith}
use Rattle.std.proofs.lemmas.Iterator.{YieldsList-from_range}
use Rattle.words.specs.Words.{word_at, eq_z}
use Rattle.tables.specs.Cells.{zeros}
use Rattle.tables.proofs.RangeLaws.{all_range}
use Rattle.tables.proofs.cells.are_zeros.Goals as goal

pub returns : goal.returns
unfolding zeros
returns c =
    let t : ℕ → Bool = λ i. eq_z (word_at c.args.s.now (c.args.at + i)) (pos 0) in
    all_range _ _ _ t c.args.n c.all.ensures.ran (YieldsList-from_range 0 c.args.n c.args.n refl (omega arith)) (λ x b q k. search (rules, tests))
