use mathlib.Core.Path.{refl, ◌∙◌}
use native.Mathlib.Omega.{arith}
use lib.Dec.{eqb}
use Rattle.text.specs.Told.{next_of}
use Rattle.text.proofs.WrittenLaws.{passes}
use Rattle.text.proofs.AheadLaws.{ahead-refused, ahead-wrote, ahead-passed}
use Rattle.text.proofs.DoesLaws.{does-stopped, does-from, does-to}
use Rattle.text.proofs.StatementCode.{code-name, code-skip, code-always, code-once, code-none, code-if, code-while, peeked-code}
use Rattle.text.proofs.BlockCode.{round-halts, round-ends, round-goes-on, round-over, block-deep, block-empty, block_row}
use Rattle.text.proofs.blocks.+block_conditional_repeated_statement_statements.Goals as goal

pub block-returns-then-d-eq0 : goal.block-returns-then-d-eq0
block-returns-then-d-eq0 t c =
    let a = c.args in record {
      piece = λ h. block-deep a.text.now a.d h (passes (eqb a.d 0) a.r.now.carried c.pass.ensures) (c.need.ensures.follows (ahead-passed a.text.now a.r.now.carried (eqb a.d 0) c.pass.ensures h)) c.if-d-eq0.true;
      ahead = λ h. (c.need.ensures.ahead (ahead-passed a.text.now a.r.now.carried (eqb a.d 0) c.pass.ensures h));
    }

pub block-returns-then-r-eq-CLOSE_BRACE : goal.block-returns-then-r-eq-CLOSE_BRACE
block-returns-then-r-eq-CLOSE_BRACE t c =
    let a = c.args in record {
      piece = λ h. let h1 = ahead-passed a.text.now a.r.now.carried (eqb a.d 0) c.pass.ensures h in
          let h2 = ahead-wrote a.text.now _ c.write.ensures.carried_after (c.need.ensures.ahead h1) in
          does-to c.write.ensures.names_after (block-empty a.text.now a.d h (passes (eqb a.d 0) a.r.now.carried c.pass.ensures) (c.need.ensures.follows h1) c.if-d-eq0.false c.write.ensures.words_after
          c.write.ensures.origins_after c.write.ensures.carried_after h2 c.if-r-eq-CLOSE_BRACE.true (c.take.ensures.follows h2));
      ahead = λ h. (c.take.ensures.ahead (ahead-wrote a.text.now _ c.write.ensures.carried_after (c.need.ensures.ahead (ahead-passed a.text.now a.r.now.carried (eqb a.d 0)
          c.pass.ensures h))));
    }

pub block-returns : goal.block-returns
block-returns t c =
    let a = c.args in record {
      piece = λ h. let h1 = ahead-passed a.text.now a.r.now.carried (eqb a.d 0) c.pass.ensures h in
          let h2 = ahead-wrote a.text.now _ c.write.ensures.carried_after (c.need.ensures.ahead h1) in
          block_row a.text.now a.d h (passes (eqb a.d 0) a.r.now.carried c.pass.ensures) (c.need.ensures.follows h1) c.if-d-eq0.false c.write.ensures.words_after
          c.write.ensures.origins_after c.write.ensures.carried_after h2 c.if-r-eq-CLOSE_BRACE.false (λ pre. does-from c.write.ensures.names_after (c.statements.ensures.onward h2 pre)) (c.need-2.ensures.follows (c.statements.ensures.ahead h2));
      ahead = λ h. (c.need-2.ensures.ahead (c.statements.ensures.ahead (ahead-wrote a.text.now _ c.write.ensures.carried_after (c.need.ensures.ahead (ahead-passed a.text.now a.r.now.carried (eqb a.d 0) c.pass.ensures h)))));
    }

pub conditional-returns : goal.conditional-returns
conditional-returns t c =
    let a = c.args in record {
      piece = λ h. let h1 = ahead-wrote a.text.now _ c.write.ensures.carried_after (c.take.ensures.ahead h) in
          let h2 = c.expression.ensures.ahead h1 in
          let h3 = c.need.ensures.ahead h2 in
          let h4 = c.block.ensures.ahead h3 in
          code-if a.text.now a.d a.r.now.carried (next_of a.r.now.carried) h (c.take.ensures.follows h) c.write.ensures.words_after c.write.ensures.origins_after
          c.write.ensures.carried_after (does-from c.write.ensures.names_after (c.expression.ensures.expression h1)) (c.need.ensures.follows h2) (c.block.ensures.piece h3) (c.need-2.ensures.follows h4) (c.block-2.ensures.piece
          (c.need-2.ensures.ahead h4));
      ahead = λ h. (c.block-2.ensures.ahead (c.need-2.ensures.ahead (c.block.ensures.ahead (c.need.ensures.ahead (c.expression.ensures.ahead (ahead-wrote a.text.now _ c.write.ensures.carried_after
          (c.take.ensures.ahead h)))))));
    }

pub repeated-returns : goal.repeated-returns
repeated-returns t c =
    let a = c.args in record {
      piece = λ h. let h1 = ahead-wrote a.text.now _ c.write.ensures.carried_after (c.take.ensures.ahead h) in
          let h2 = c.expression.ensures.ahead h1 in
          let h3 = c.need.ensures.ahead h2 in
          code-while a.text.now a.d a.r.now.carried (next_of a.r.now.carried) h (c.take.ensures.follows h) c.write.ensures.words_after c.write.ensures.origins_after
          c.write.ensures.carried_after (does-from c.write.ensures.names_after (c.expression.ensures.expression h1)) (c.need.ensures.follows h2) (c.block.ensures.piece h3);
      ahead = λ h. (c.block.ensures.ahead (c.need.ensures.ahead (c.expression.ensures.ahead (ahead-wrote a.text.now _ c.write.ensures.carried_after (c.take.ensures.ahead h)))));
    }

pub statement-returns-then-r-ne0-clause-piece : goal.statement-returns-then-r-ne0-clause-piece
statement-returns-then-r-ne0-clause-piece t c = λ _. does-stopped c.if-r-ne0.true

pub statement-returns-in-1-clause-piece : goal.statement-returns-in-1-clause-piece
statement-returns-in-1-clause-piece t c =
    let r = c.args.r.now.carried in
    λ h. code-name c.args.text.now c.args.d r (next_of r) h c.in-1.is (c.assignment.ensures.piece h)

pub statement-returns-in-11-clause-piece : goal.statement-returns-in-11-clause-piece
statement-returns-in-11-clause-piece t c =
    let r = c.args.r.now.carried in
    λ h. code-skip c.args.text.now c.args.d r (next_of r) h c.in-11.is (c.constant.ensures.piece h)

pub statement-returns-in-12-clause-piece : goal.statement-returns-in-12-clause-piece
statement-returns-in-12-clause-piece t c =
    let r = c.args.r.now.carried in
    λ h. code-always c.args.text.now c.args.d r (next_of r) h c.in-12.is (c.stated.ensures.piece h)

pub statement-returns-in-13-clause-piece : goal.statement-returns-in-13-clause-piece
statement-returns-in-13-clause-piece t c =
    let r = c.args.r.now.carried in
    λ h. code-once c.args.text.now c.args.d r (next_of r) h c.in-13.is (c.stated-in-13.ensures.piece h)

pub statement-returns-in-17-clause-piece : goal.statement-returns-in-17-clause-piece
statement-returns-in-17-clause-piece t c =
    let r = c.args.r.now.carried in
    λ h. c.conditional.ensures.piece h (peeked-code c.args.text.now r (next_of r) h ∙ c.in-17.is)

pub statement-returns-in-20-clause-piece : goal.statement-returns-in-20-clause-piece
statement-returns-in-20-clause-piece t c =
    let r = c.args.r.now.carried in
    λ h. c.repeated.ensures.piece h (peeked-code c.args.text.now r (next_of r) h ∙ c.in-20.is)

pub statement-returns-in_default-clause-piece : goal.statement-returns-in_default-clause-piece
statement-returns-in_default-clause-piece t c =
    let r = c.args.r.now.carried in
    λ h. code-none c.args.text.now c.args.d r (next_of r) h c.if-r-ne0.false (λ e. omega (arith, c.in_default, e)) (λ e. omega (arith, c.in_default, e)) (λ e. omega (arith, c.in_default, e))
    (λ e. omega (arith, c.in_default, e)) (λ e. omega (arith, c.in_default, e)) (λ e. omega (arith, c.in_default, e)) c.refused.ensures

pub statement-returns-in_default-clause-ahead : goal.statement-returns-in_default-clause-ahead
statement-returns-in_default-clause-ahead t c = λ h. ahead-refused c.args.text.now c.args.r.now.carried c.refused.ensures h

pub statements-returns-then-r-ne0 : goal.statements-returns-then-r-ne0
statements-returns-then-r-ne0 t c =
    let r = round-halts c.args.text.now c.loop-n.invariant c.pass.ensures c.statement.ensures.piece c.statement.ensures.ahead c.if-r-ne0.true in
    record { onward = r.0; ahead = r.1 }

pub statements-returns-then-r-ne-SEMICOLON : goal.statements-returns-then-r-ne-SEMICOLON
statements-returns-then-r-ne-SEMICOLON t c =
    let r = round-ends c.args.text.now c.loop-n.invariant c.pass.ensures c.statement.ensures.piece c.statement.ensures.ahead c.if-r-ne0.false c.if-r-ne-SEMICOLON.true refl refl c.put_number.ensures.words_after c.put_number.ensures.origins_after in
    record { onward = λ h pre. does-to c.put_number.ensures.names_after (r.0 h pre); ahead = r.1 }

pub statements-returns : goal.statements-returns
statements-returns t c =
    let r = round-over c.args.text.now c.loop-n.invariant c.loop-n-test.false in
    record { onward = r.0; ahead = r.1 }

pub statements-loop-n-preserved : goal.statements-loop-n-preserved
statements-loop-n-preserved t c =
    round-goes-on c.args.text.now c.loop-n.invariant c.pass.ensures c.statement.ensures.piece c.statement.ensures.ahead c.if-r-ne0.false c.if-r-ne-SEMICOLON.false
    c.take.ensures.follows c.take.ensures.ahead
