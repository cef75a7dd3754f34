use Rattle.text.proofs.DoesLaws.{does-to}
use Rattle.text.proofs.LiteralCode.{constant-does}
use Rattle.text.proofs.AheadLaws.{ahead-wrote}
use Rattle.words.proofs.Signed.{back32}
use Rattle.text.proofs.expressions.constant.Goals as goal

pub returns : goal.returns
returns c =
    let a = c.args in
    record {
      piece = λ h. does-to c.write.ensures.names_after
          (constant-does a.text.now a.r.now.lent.names h a.w (c.take.ensures.follows h) (rw (back32 a.w c.ranges.w) at c.write.ensures.words_after) c.write.ensures.origins_after c.write.ensures.carried_after);
      ahead = λ h. ahead-wrote a.text.now _ c.write.ensures.carried_after (c.take.ensures.ahead h);
    }
