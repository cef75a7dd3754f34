use Rattle.text.proofs.DoesLaws.{does-from}
use Rattle.text.proofs.OperandCode.{path-in, path-refused, path-alone, path-same}
use Rattle.text.proofs.AheadLaws.{ahead-wrote}
use Rattle.text.proofs.expressions.path_or_same.Goals as goal

pub returns-then-in_c : goal.returns-then-in_c
returns-then-in_c c =
    let a = c.args in
    let b = a.r.now.lent in record {
      piece = λ h.
          let i = ahead-wrote a.text.now _ c.write.ensures.carried_after (c.owe.ensures.ahead a.text.now h) in
          path-in a.text.now b.words b.origins h c.owe.ensures.owes c.write.ensures.words_after c.write.ensures.origins_after c.write.ensures.carried_after
          (does-from c.write.ensures.names_after (c.path.ensures.piece i)) c.if-in_c.true;
      ahead = λ h. c.path.ensures.ahead (ahead-wrote a.text.now _ c.write.ensures.carried_after (c.owe.ensures.ahead a.text.now h));
    }

pub returns-then-r-ne0 : goal.returns-then-r-ne0
returns-then-r-ne0 c =
    let a = c.args in
    let b = a.r.now.lent in record {
      piece = λ h.
          let i = ahead-wrote a.text.now _ c.write.ensures.carried_after (c.owe.ensures.ahead a.text.now h) in
          path-refused a.text.now b.words b.origins h c.owe.ensures.owes c.write.ensures.words_after c.write.ensures.origins_after c.write.ensures.carried_after
          (does-from c.write.ensures.names_after (c.path.ensures.piece i)) a.in_c c.if-r-ne0.true;
      ahead = λ h. c.path.ensures.ahead (ahead-wrote a.text.now _ c.write.ensures.carried_after (c.owe.ensures.ahead a.text.now h));
    }

pub returns-then-r-ne-IDENTICAL : goal.returns-then-r-ne-IDENTICAL
returns-then-r-ne-IDENTICAL c =
    let a = c.args in
    let b = a.r.now.lent in record {
      piece = λ h.
          let i = ahead-wrote a.text.now _ c.write.ensures.carried_after (c.owe.ensures.ahead a.text.now h) in
          path-alone a.text.now b.words b.origins h c.owe.ensures.owes c.write.ensures.words_after c.write.ensures.origins_after c.write.ensures.carried_after
          (does-from c.write.ensures.names_after (c.path.ensures.piece i)) c.if-in_c.false c.if-r-ne0.false (c.path.ensures.ahead i) c.if-r-ne-IDENTICAL.true;
      ahead = λ h. c.path.ensures.ahead (ahead-wrote a.text.now _ c.write.ensures.carried_after (c.owe.ensures.ahead a.text.now h));
    }

pub returns : goal.returns
returns c =
    let a = c.args in
    let b = a.r.now.lent in record {
      piece = λ h.
          let i = ahead-wrote a.text.now _ c.write.ensures.carried_after (c.owe.ensures.ahead a.text.now h) in
          let j = c.path.ensures.ahead i in
          path-same a.text.now b.words b.origins h c.owe.ensures.owes c.write.ensures.words_after c.write.ensures.origins_after c.write.ensures.carried_after
          (does-from c.write.ensures.names_after (c.path.ensures.piece i)) c.if-in_c.false c.if-r-ne0.false j
          c.if-r-ne-IDENTICAL.false c.put_word.ensures.words_after c.put_word.ensures.origins_after (c.take.ensures.follows j)
          (does-from c.put_word.ensures.names_after (c.path-2.ensures.piece (c.take.ensures.ahead j)));
      ahead = λ h. c.path-2.ensures.ahead
          (c.take.ensures.ahead (c.path.ensures.ahead (ahead-wrote a.text.now _ c.write.ensures.carried_after (c.owe.ensures.ahead a.text.now h))));
    }
