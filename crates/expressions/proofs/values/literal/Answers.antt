use Rattle.words.proofs.Signed.{back32}
use Rattle.expressions.proofs.LeafLaws.{literal-short, literal-there}
use Rattle.expressions.proofs.values.literal.Goals as goal

pub returns-then-q-eq0 : goal.returns-then-q-eq0
returns-then-q-eq0 c = literal-short c.args.q.now c.if-q-eq0.true

pub returns : goal.returns
returns c =
    let b = back32 c.word_at.result (record { sfits = c.word_at.type_inv }) in
    rw (c.gives.ensures, b, c.word_at.ensures) (literal-there c.args.q.now c.if-q-eq0.false)
