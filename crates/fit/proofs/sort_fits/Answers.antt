use mathlib.Core.Path.{◌≡◌, refl, sym, ◌∙◌}
use mathlib.Core.Bool.{Bool}
use Prim.Native.Nat.{ℕ, ◌≤◌}
use borrow.Author.Tests.{tests, le-leb}
use Rattle.std.proofs.Common.{rules, arith}
use Rattle.std.proofs.lemmas.Iterator.{YieldsList-from_range}
use Rattle.tables.specs.Kept.{most_kept}
use Rattle.tables.specs.Search.{every}
use Rattle.tables.proofs.RangeLaws.{all_range}
use Rattle.fit.specs.Fit.{position_fits, sort_fits}
use Rattle.fit.proofs.RestLaws.{sort-refused, sort-rest}
use Rattle.fit.proofs.sort_fits.Goals as goal

pub returns-then-all : goal.returns-then-all
unfolding sort_fits
returns-then-all c =
    let n = c.count_at-n.result in
    let t : ℕ → Bool = position_fits c.args.constraints.now c.args.s in
    let e : c.all.result ≡ every t n = all_range _ _ _ t n c.all.ensures.ran (YieldsList-from_range 0 n n refl (omega arith)) (λ x b q k. search (rules, tests)) in
    let m : n ≤ most_kept c.args.s = rw c.most_kept.ensures at c.if-most_kept-n.false in
    rw (← c.count_at-n.ensures, le-leb n _ m) (c.are_blank_from.ensures ∙ sort-rest c.args.constraints.now c.args.s n m (sym e ∙ c.if-all.true))

pub returns-else-all : goal.returns-else-all
unfolding sort_fits
returns-else-all c =
    let n = c.count_at-n.result in
    let t : ℕ → Bool = position_fits c.args.constraints.now c.args.s in
    let e : c.all.result ≡ every t n = all_range _ _ _ t n c.all.ensures.ran (YieldsList-from_range 0 n n refl (omega arith)) (λ x b q k. search (rules, tests)) in
    let m : n ≤ most_kept c.args.s = rw c.most_kept.ensures at c.if-most_kept-n.false in
    rw (← c.count_at-n.ensures, le-leb n _ m) (c.if-all.false ∙ sym (sort-refused c.args.constraints.now c.args.s n m (sym e ∙ c.if-all.false)))
