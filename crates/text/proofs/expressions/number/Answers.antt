use mathlib.Core.Bool.{true}
use mathlib.Core.Path.{◌∙◌}
use Rattle.text.proofs.DoesLaws.{does-to}
use Rattle.words.proofs.Signed.{back32}
use Rattle.text.proofs.WrittenLaws.{passes}
use Rattle.text.proofs.LiteralCode.{number-outside, number-within}
use Rattle.text.proofs.AheadLaws.{ahead-wrote, ahead-passed}
use Rattle.text.proofs.expressions.number.Goals as goal

pub returns-in-None : goal.returns-in-None
returns-in-None c =
    record {
      piece = λ h. number-outside c.args.text.now c.args.r.now.lent.names h c.value.ensures c.in-None.is
          (passes true c.args.r.now.carried c.pass.ensures)
          (c.take.ensures.follows (ahead-passed c.args.text.now c.args.r.now.carried true c.pass.ensures h));
      ahead = λ h. c.take.ensures.ahead (ahead-passed c.args.text.now c.args.r.now.carried true c.pass.ensures h);
    }

pub returns-in-Some : goal.returns-in-Some
returns-in-Some c =
    record {
      piece = λ h. does-to (c.write-in-Some.ensures.names_after ∙ c.write.ensures.names_after)
          (number-within c.args.text.now c.args.r.now.lent.names h c.value.ensures c.in-Some.is (c.take-in-Some.ensures.follows h) c.write.ensures.words_after c.write.ensures.origins_after
          c.write.ensures.carried_after (rw (back32 c.in-Some.w search) at c.write-in-Some.ensures.words_after)
          c.write-in-Some.ensures.origins_after c.write-in-Some.ensures.carried_after);
      ahead = λ h. ahead-wrote c.args.text.now _ c.write-in-Some.ensures.carried_after (ahead-wrote c.args.text.now _ c.write.ensures.carried_after (c.take-in-Some.ensures.ahead h));
    }
