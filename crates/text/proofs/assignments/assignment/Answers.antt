use Rattle.text.proofs.DoesLaws.{does-from}
use Rattle.text.proofs.AheadLaws.{ahead-wrote}
use Rattle.text.proofs.AssignCode.{assign-value, assign-new}
use Rattle.text.proofs.assignments.assignment.Goals as goal

pub returns-then-new-alone : goal.returns-then-new-alone
returns-then-new-alone c =
    record {
      piece = λ ahead.
          let look = ahead-wrote c.args.text.now _ c.write.ensures.carried_after (c.owe.ensures.ahead c.args.text.now ahead) in
          let next = c.need.ensures.ahead (c.path.ensures.ahead look) in
          assign-new c.args.text.now ahead c.owe.ensures.owes c.write.ensures.words_after c.write.ensures.origins_after c.write.ensures.carried_after (does-from c.write.ensures.names_after (c.path.ensures.piece look))
          (c.need.ensures.follows (c.path.ensures.ahead look)) next (rw c.saturating_sub-alone.ensures at c.if-new-alone.true) c.put_word.ensures.words_after c.put_word.ensures.origins_after
          (c.take.ensures.follows next) c.saturating_sub-at.ensures (λ i. does-from c.put_word.ensures.names_after (c.fields_at.ensures.onward (c.take.ensures.ahead next) i));
      ahead = λ ahead. c.fields_at.ensures.ahead (c.take.ensures.ahead (c.need.ensures.ahead (c.path.ensures.ahead (ahead-wrote c.args.text.now _ c.write.ensures.carried_after (c.owe.ensures.ahead c.args.text.now ahead)))));
    }

pub returns : goal.returns
returns c =
    record {
      piece = λ ahead.
          let look = ahead-wrote c.args.text.now _ c.write.ensures.carried_after (c.owe.ensures.ahead c.args.text.now ahead) in
          let next = c.need.ensures.ahead (c.path.ensures.ahead look) in
          assign-value c.args.text.now ahead c.owe.ensures.owes c.write.ensures.words_after c.write.ensures.origins_after c.write.ensures.carried_after (does-from c.write.ensures.names_after (c.path.ensures.piece look))
          (c.need.ensures.follows (c.path.ensures.ahead look)) next (rw c.saturating_sub-alone.ensures at c.if-new-alone.false) (c.expression.ensures.expression next);
      ahead = λ ahead. c.expression.ensures.ahead (c.need.ensures.ahead (c.path.ensures.ahead (ahead-wrote c.args.text.now _ c.write.ensures.carried_after (c.owe.ensures.ahead c.args.text.now ahead))));
    }
