use Rattle.text.proofs.DoesLaws.{does-to}
use Rattle.text.proofs.AssignCode.{fields-none, fields-some}
use Rattle.text.proofs.assignments.fields_at.Goals as goal

pub returns-then-r-eq-CLOSE_BRACE-clause-onward : goal.returns-then-r-eq-CLOSE_BRACE-clause-onward
returns-then-r-eq-CLOSE_BRACE-clause-onward c =
    λ ahead i. does-to c.put_word.ensures.names_after (fields-none c.args.text.now ahead (c.need.ensures.follows ahead) (c.need.ensures.ahead ahead) c.if-r-eq-CLOSE_BRACE.true c.put_word.ensures.words_after c.put_word.ensures.origins_after
    (c.take.ensures.follows (c.need.ensures.ahead ahead)) i)

pub returns-clause-onward : goal.returns-clause-onward
returns-clause-onward c =
    λ ahead i. fields-some c.args.text.now ahead (c.need.ensures.follows ahead) (c.need.ensures.ahead ahead) c.if-r-eq-CLOSE_BRACE.false (c.fields.ensures.onward (c.need.ensures.ahead ahead)) i
