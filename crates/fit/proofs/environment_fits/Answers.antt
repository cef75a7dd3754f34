use mathlib.Core.Path.{refl, sym, ◌∙◌}
use mathlib.Core.Bool.{Bool}
use Prim.Native.Nat.{ℕ, ◌*◌}
use borrow.Author.Tests.{tests}
use Rattle.std.proofs.Common.{rules, arith}
use Rattle.std.proofs.lemmas.Iterator.{YieldsList-from_range}
use Rattle.words.specs.Words.{word_at}
use Rattle.words.proofs.Signed.{back32}
use Rattle.tables.specs.Cells.{pair_at}
use Rattle.tables.proofs.RangeLaws.{all_range}
use Rattle.fit.specs.Fit.{cell_fits, environment_fits}
use Rattle.fit.proofs.RestLaws.{clear-cells}
use Rattle.fit.proofs.environment_fits.Goals as goal

pub returns-then-is_clear : goal.returns-then-is_clear
returns-then-is_clear c = sym (clear-cells (word_at c.args.heap.now 0) c.args.environment.now (sym c.is_clear.ensures ∙ c.if-is_clear.true))

pub returns : goal.returns
unfolding environment_fits
returns c =
    let b = back32 c.word_at-count.result (record { sfits = c.word_at-count.type_inv }) in
    let t : ℕ → Bool = λ x. cell_fits (word_at c.args.heap.now 0) (pair_at c.args.environment.now (2 * x)) in
    all_range _ _ _ t 64 c.all.ensures.ran (YieldsList-from_range 0 64 64 refl (omega arith)) (λ x b q k. search (rules, tests))
