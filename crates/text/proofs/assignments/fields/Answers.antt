use mathlib.Core.List.{[], ◌∷◌}
use mathlib.Core.Path.{refl, ◌∙◌}
use Rattle.text.proofs.DoesLaws.{does-from, does-to}
use Rattle.text.proofs.FieldCode.{turn-ahead, fields-start, fields-halt, fields-end, fields-more, fields-past}
use Rattle.text.proofs.assignments.fields.Goals as goal

pub returns-then-r-ne0 : goal.returns-then-r-ne0
returns-then-r-ne0 c =
    let turn = turn-ahead c.loop-n.invariant refl c.pass.ensures c.label.auto.names c.label.ensures.numbers c.label.ensures.ahead
    refl c.write_number.ensures.words_after c.write_number.ensures.origins_after c.write_number.ensures.carried_after
    c.need.ensures.follows c.need.ensures.ahead (λ h. does-from c.write_number.ensures.names_after (c.expression.ensures.expression h)) c.expression.ensures.ahead in record {
      onward = λ ahead i. fields-halt (c.loop-n.invariant.fields ahead) (turn ahead).0 c.if-r-ne0.true i;
      ahead = λ ahead. (turn ahead).1;
    }

pub returns-then-r-ne-COMMA : goal.returns-then-r-ne-COMMA
returns-then-r-ne-COMMA c =
    let turn = turn-ahead c.loop-n.invariant refl c.pass.ensures c.label.auto.names c.label.ensures.numbers c.label.ensures.ahead
    refl c.write_number.ensures.words_after c.write_number.ensures.origins_after c.write_number.ensures.carried_after
    c.need.ensures.follows c.need.ensures.ahead (λ h. does-from c.write_number.ensures.names_after (c.expression.ensures.expression h)) c.expression.ensures.ahead in record {
      onward = λ ahead i. does-to c.put_number.ensures.names_after (fields-end (c.loop-n.invariant.fields ahead) (turn ahead).0 c.if-r-ne0.false (turn ahead).1 c.if-r-ne-COMMA.true
          refl c.put_number.ensures.words_after c.put_number.ensures.origins_after (c.need-then-r-ne-COMMA.ensures.follows (turn ahead).1) i);
      ahead = λ ahead. c.need-then-r-ne-COMMA.ensures.ahead (turn ahead).1;
    }

pub returns : goal.returns
returns c = record { onward = λ ahead i. fields-past (c.loop-n.invariant.fields ahead) c.loop-n-test.false i; ahead = λ ahead. c.loop-n.invariant.ahead ahead }

pub loop-n-init : goal.loop-n-init
loop-n-init c =
    record
    { size = refl; ahead = λ ahead. ahead; fields = λ ahead. fields-start {seen = 0 ∷ 0 ∷ 0 ∷ 0 ∷ 0 ∷ 0 ∷ 0 ∷ 0 ∷ []} refl }

pub loop-n-preserved : goal.loop-n-preserved
loop-n-preserved c =
    let turn = turn-ahead c.loop-n.invariant refl c.pass.ensures c.label.auto.names c.label.ensures.numbers c.label.ensures.ahead
    refl c.write_number.ensures.words_after c.write_number.ensures.origins_after c.write_number.ensures.carried_after
    c.need.ensures.follows c.need.ensures.ahead (λ h. does-from c.write_number.ensures.names_after (c.expression.ensures.expression h)) c.expression.ensures.ahead in
    record {
      size = c.put.auto.names ∙ c.loop-n.invariant.size;
      ahead = λ ahead. c.take.ensures.ahead (turn ahead).1;
      fields = λ ahead. fields-more (c.loop-n.invariant.fields ahead) (turn ahead).0 c.if-r-ne0.false (turn ahead).1 c.if-r-ne-COMMA.false
          (c.put.ensures ∙ rw c.saturating_sub.ensures refl) (c.take.ensures.follows (turn ahead).1);
    }
