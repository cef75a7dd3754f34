use mathlib.Core.Path.{◌≡◌, sym, ◌∙◌}
use native.Mathlib.Omega.{arith}
use Rattle.text.proofs.NamingLaws.{naming-hits, naming-goes-on, naming-ends}
use Rattle.text.proofs.naming.number_in.Goals as goal

pub returns-then-is_name : goal.returns-then-is_name
returns-then-is_name c = naming-hits c.loop-i.invariant c.loop-i-test.true (sym c.is_name.ensures ∙ c.if-is_name.true)

pub returns : goal.returns
returns c =
    let e : c.loop-i.i ≡ c.args.count = omega (arith, c.loop-i-test.false, c.loop-i.auto.i-end) in
    sym e ∙ naming-ends c.loop-i.invariant c.loop-i-test.false

pub loop-i-preserved : goal.loop-i-preserved
loop-i-preserved c = naming-goes-on c.loop-i.invariant c.loop-i-test.true (sym c.is_name.ensures ∙ c.if-is_name.false)
