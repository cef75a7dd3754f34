use mathlib.Core.Path.{refl}
use lib.Dec.{eqb}
use Rattle.text.proofs.WrittenLaws.{passes}
use Rattle.text.proofs.DoesLaws.{does-to}
use Rattle.text.proofs.PartCode.{parted-starts, parted-stopped, parted-full, parted-last, parted-on}
use Rattle.text.proofs.AheadLaws.{ahead-passed}
use Rattle.text.proofs.constraints.constraint_on.Goals as goal

pub returns-then-r-ne0 : goal.returns-then-r-ne0
returns-then-r-ne0 c =
    record { onward = λ h. parted-stopped (c.loop-m.invariant h).1 c.if-r-ne0.true; ahead = λ h. (c.loop-m.invariant h).0 }

pub returns-then-r-ne-BESIDE : goal.returns-then-r-ne-BESIDE
returns-then-r-ne-BESIDE c =
    record {
      onward = λ h most le pre. does-to c.put_number.ensures.names_after (parted-last (c.loop-m.invariant h).1 c.loop-m-test.true c.if-r-ne0.false (c.loop-m.invariant h).0 c.if-r-ne-BESIDE.true
          refl c.put_number.ensures.words_after c.put_number.ensures.origins_after most le pre);
      ahead = λ h. (c.loop-m.invariant h).0;
    }

pub returns : goal.returns
returns c = record { onward = λ h. parted-full (c.loop-m.invariant h).1 c.loop-m-test.false; ahead = λ h. (c.loop-m.invariant h).0 }

pub loop-m-init : goal.loop-m-init
loop-m-init c = λ h. (h, parted-starts)

pub loop-m-preserved : goal.loop-m-preserved
loop-m-preserved c =
    λ h.
    let i = c.loop-m.invariant h in
    let j = ahead-passed c.args.text.now c.take.new.self (eqb c.loop-m.m 16) c.pass.ensures (c.take.ensures.ahead i.0) in (
      c.part_at.ensures.ahead j,
      parted-on i.1 c.loop-m-test.true c.if-r-ne0.false i.0 c.if-r-ne-BESIDE.false (c.take.ensures.follows i.0)
          (passes (eqb c.loop-m.m 16) c.take.new.self c.pass.ensures) refl (c.part_at.ensures.piece j),
    )
