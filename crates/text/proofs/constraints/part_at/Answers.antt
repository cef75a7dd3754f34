use mathlib.Core.Path.{refl}
use Rattle.text.specs.Told.{next_of}
use Rattle.text.proofs.DoesLaws.{does-from}
use Rattle.text.proofs.PartCode.{part-said, part-unsaid}
use Rattle.text.proofs.AheadLaws.{ahead-wrote}
use Rattle.text.proofs.constraints.part_at.Goals as goal

pub returns-then-n-gt0 : goal.returns-then-n-gt0
returns-then-n-gt0 c =
    record {
      piece = λ h. part-said c.args.text.now h (λ l. c.priority-n.ensures l (next_of c.args.r.now.carried) refl) c.if-n-gt0.true (c.take.ensures.follows h)
          refl c.write_number.ensures.words_after c.write_number.ensures.origins_after c.write_number.ensures.carried_after
          (does-from c.write_number.ensures.names_after (c.expression.ensures.expression (ahead-wrote c.args.text.now c.take.new.self c.write_number.ensures.carried_after (c.take.ensures.ahead h))));
      ahead = λ h. c.expression.ensures.ahead (ahead-wrote c.args.text.now c.take.new.self c.write_number.ensures.carried_after (c.take.ensures.ahead h));
    }

pub returns : goal.returns
returns c =
    record {
      piece = λ h. part-unsaid c.args.text.now h (λ l. c.priority-n.ensures l (next_of c.args.r.now.carried) refl) c.if-n-gt0.false c.owe.ensures.owes
          c.write.ensures.words_after c.write.ensures.origins_after c.write.ensures.carried_after
          (does-from c.write.ensures.names_after (c.expression-2.ensures.expression (ahead-wrote c.args.text.now c.owe.new.self c.write.ensures.carried_after (c.owe.ensures.ahead c.args.text.now h))));
      ahead = λ h. c.expression-2.ensures.ahead (ahead-wrote c.args.text.now c.owe.new.self c.write.ensures.carried_after (c.owe.ensures.ahead c.args.text.now h));
    }
