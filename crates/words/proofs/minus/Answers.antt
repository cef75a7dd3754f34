use Rattle.words.proofs.Signed.{wide, as_wide, back64, difference-fits}
use mathlib.Core.Path.{◌∙◌}
use Rattle.words.proofs.minus.Goals as goal

pub overflow_cast-a : goal.overflow_cast-a
overflow_cast-a c = wide c.args.a c.ranges.a

pub overflow_cast-b : goal.overflow_cast-b
overflow_cast-b c = wide c.args.b c.ranges.b

pub overflow_sub-a : goal.overflow_sub-a
overflow_sub-a c = rw (as_wide c.args.a c.ranges.a, as_wide c.args.b c.ranges.b) (difference-fits c.args.a c.args.b c.ranges.a c.ranges.b)

pub returns : goal.returns
returns c =
    let p = as_wide c.args.a c.ranges.a in
    let q = as_wide c.args.b c.ranges.b in
    let w = back64 _ (difference-fits c.args.a c.args.b c.ranges.a c.ranges.b) in
    c.narrow.ensures ∙ rw (p, q, w)
