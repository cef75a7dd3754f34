use Prim.Native.Nat.{◌-◌}
use native.Mathlib.Omega.{arith}
use borrow.Author.Tests.{eq-eqb, ne_eqb}
use lib.Dec.{eqb}
use Rattle.text.proofs.WrittenLaws.{passes}
use Rattle.text.proofs.DoesLaws.{does-stopped, does-from}
use Rattle.text.proofs.PathCode.{steps-over, steps-last, steps-more}
use Rattle.text.proofs.AheadLaws.{ahead-wrote, ahead-passed}
use Rattle.text.proofs.paths.+steps.Goals as goal

pub returns-then-r-ne0-clause-piece : goal.returns-then-r-ne0-clause-piece
returns-then-r-ne0-clause-piece t c =
    λ h. does-stopped c.if-r-ne0.true

pub returns-then-r-ne-DOT-clause-piece : goal.returns-then-r-ne-DOT-clause-piece
returns-then-r-ne-DOT-clause-piece t c =
    λ h. steps-over c.args.text.now c.args.n h c.if-r-ne-DOT.true

pub returns-then-n-eq0 : goal.returns-then-n-eq0
returns-then-n-eq0 t c =
    record {
      piece = λ h. steps-last c.args.text.now c.if-r-ne0.false h c.if-r-ne-DOT.false (c.take.ensures.follows h)
          (passes (eqb c.args.n 0) c.take.new.self c.pass.ensures) c.label.auto.names
          (c.label.ensures.numbers (ahead-passed c.args.text.now c.take.new.self (eqb c.args.n 0) c.pass.ensures (c.take.ensures.ahead h)))
          c.args.n (eq-eqb c.args.n 0 c.if-n-eq0.true) c.if-n-eq0.true;
      ahead = λ h. c.label.ensures.ahead (ahead-passed c.args.text.now c.take.new.self (eqb c.args.n 0) c.pass.ensures (c.take.ensures.ahead h));
    }

pub returns : goal.returns
returns t c =
    record {
      piece = λ h. steps-more c.args.text.now c.if-r-ne0.false h c.if-r-ne-DOT.false (c.take.ensures.follows h)
          (passes (eqb c.args.n 0) c.take.new.self c.pass.ensures) c.label.auto.names
          (c.label.ensures.numbers (ahead-passed c.args.text.now c.take.new.self (eqb c.args.n 0) c.pass.ensures (c.take.ensures.ahead h)))
          c.args.n (c.args.n - 1) (ne_eqb c.args.n 0 c.if-n-eq0.false)
          (ahead-passed c.args.text.now c.take.new.self (eqb c.args.n 0) c.pass.ensures (c.take.ensures.ahead h))
          c.write_number.ensures.words_after c.write_number.ensures.origins_after
          c.write_number.ensures.carried_after (omega (arith, c.if-n-eq0.false))
          (does-from c.write_number.ensures.names_after (c.steps.ensures.piece
          (ahead-wrote c.args.text.now _ c.write_number.ensures.carried_after
          (c.label.ensures.ahead (ahead-passed c.args.text.now c.take.new.self (eqb c.args.n 0) c.pass.ensures (c.take.ensures.ahead h))))));
      ahead = λ h. c.steps.ensures.ahead
          (ahead-wrote c.args.text.now _ c.write_number.ensures.carried_after
          (c.label.ensures.ahead (ahead-passed c.args.text.now c.take.new.self (eqb c.args.n 0) c.pass.ensures (c.take.ensures.ahead h))));
    }
