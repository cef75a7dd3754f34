use mathlib.Core.Path.{◌≡◌, refl, ◌∙◌}
use mathlib.Core.Bool.{Bool}
use Prim.Native.Nat.{ℕ, ◌<◌}
use borrow.Author.Tests.{tests, lt-ltb, le-ltb}
use lib.Dec.{eqb}
use Rattle.std.proofs.Common.{rules, arith}
use Rattle.std.proofs.lemmas.Iterator.{YieldsList-from_range}
use Rattle.tables.specs.Sizes.{field_location}
use Rattle.tables.specs.Search.{first}
use Rattle.tables.specs.Records.{label_at, place_with, field_with}
use Rattle.tables.proofs.FindLaws.{field_in}
use Rattle.tables.proofs.RangeLaws.{position_range}
use Rattle.tables.proofs.records.find_field.Goals as goal

pub returns-in_err-f : goal.returns-in_err-f
unfolding field_with place_with
returns-in_err-f c =
    let n = c.field_count-n.result in
    let t : ℕ → Bool = λ f. eqb (label_at c.args.heap.now c.args.r f) c.args.label in
    let e : first t 0 n ≡ n = position_range _ _ _ t n c.in_err-f.ensures.ran (YieldsList-from_range 0 n n refl (omega arith)) (λ x b q k. search (rules, tests)) in
    c.from_residual.ensures ∙ rw (← c.field_count-n.ensures, e, le-ltb n n (omega arith))

pub overflow_mul-result : goal.overflow_mul-result
overflow_mul-result c = omega (arith, (field_in c.args.heap.now c.args.r c.in_ok-f.f (omega (arith, c.field_count-n.ensures, c.in_ok-f.ensures.bound))).0)

pub overflow_add-result : goal.overflow_add-result
overflow_add-result c = omega (arith, (field_in c.args.heap.now c.args.r c.in_ok-f.f (omega (arith, c.field_count-n.ensures, c.in_ok-f.ensures.bound))).0)

pub overflow_add-result-2 : goal.overflow_add-result-2
overflow_add-result-2 c =
    let i = field_in c.args.heap.now c.args.r c.in_ok-f.f (omega (arith, c.field_count-n.ensures, c.in_ok-f.ensures.bound)) in
    omega (arith, i.0, i.1)

pub returns : goal.returns
unfolding field_with place_with field_location
returns c =
    let n = c.field_count-n.result in
    let t : ℕ → Bool = λ f. eqb (label_at c.args.heap.now c.args.r f) c.args.label in
    let e : (c.in_ok-f.f < n) × (first t 0 n ≡ c.in_ok-f.f) = position_range _ _ _ t n c.in_ok-f.ensures.ran (YieldsList-from_range 0 n n refl (omega arith)) (λ x b q k. search (rules, tests)) in
    rw (← c.field_count-n.ensures, e.1, lt-ltb c.in_ok-f.f n e.0)
