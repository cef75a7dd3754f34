use mathlib.Core.Path.{◌≡◌}
use Prim.Native.Nat.{◌+◌}
use native.Mathlib.Omega.{arith}
use lib.ListN.{length}
use Rattle.text.proofs.LiteralCode.{opening-stopped, opening-over, opening-ends, opening-goes-on}
use Rattle.text.proofs.AheadLaws.{ahead-counted}
use Rattle.text.proofs.Carried.opened.Goals as goal

pub returns-then-self-ne0 : goal.returns-then-self-ne0
returns-then-self-ne0 c = record { opens = λ h. opening-stopped (c.loop-b.invariant.0 h) c.if-self-ne0.true; ahead = c.loop-b.invariant.1 }

pub returns-then-self-ne-OPEN_BRACKET : goal.returns-then-self-ne-OPEN_BRACKET
returns-then-self-ne-OPEN_BRACKET c =
    record {
      opens = λ h. opening-ends (c.loop-b.invariant.0 h) (omega (arith, c.loop-b-test.true)) c.if-self-ne0.false (c.loop-b.invariant.1 h) c.if-self-ne-OPEN_BRACKET.true c.count.ensures;
      ahead = λ h. ahead-counted c.args.text.now c.loop-b.self c.loop-b.b c.count.ensures (c.loop-b.invariant.1 h);
    }

pub returns : goal.returns
returns c =
    let e : c.loop-b.b ≡ length c.args.text.now + 1 = omega (arith, c.loop-b-test.false, c.loop-b.auto.b-end) in record {
      opens = λ h. opening-over (c.loop-b.invariant.0 h) (omega (arith, c.loop-b-test.false)) (rw (← e) at c.count-2.ensures);
      ahead = λ h. ahead-counted c.args.text.now c.loop-b.self (length c.args.text.now + 1) c.count-2.ensures (c.loop-b.invariant.1 h);
    }

pub loop-b-preserved : goal.loop-b-preserved
loop-b-preserved c = (
  λ h. opening-goes-on (c.loop-b.invariant.0 h) (omega (arith, c.loop-b-test.true)) c.if-self-ne0.false (c.loop-b.invariant.1 h) c.if-self-ne-OPEN_BRACKET.false
      (c.take.ensures.follows (c.loop-b.invariant.1 h)),
  λ h. c.take.ensures.ahead (c.loop-b.invariant.1 h),
)
