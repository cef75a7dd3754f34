use Rattle.text.proofs.DoesLaws.{does-from}
use Rattle.text.proofs.BlockCode.{text-ahead, text-empty, text-row, whole-to}
use Rattle.text.proofs.whole.text_at.Goals as goal

pub returns-then-r-eq-END : goal.returns-then-r-eq-END
returns-then-r-eq-END c =
    let a = c.args in
    let b = a.r.now.lent in
    let w = c.write.ensures in
    whole-to a.text.now b c.write.new.self.lent c.write.new.self.carried w.names_after (text-empty a.text.now b.names b.words b.origins c.begin.ensures w.words_after w.origins_after w.carried_after c.if-r-eq-END.true)

pub returns : goal.returns
returns c =
    let a = c.args in
    let b = a.r.now.lent in
    let w = c.write.ensures in
    let h = text-ahead a.text.now b.names b.words b.origins c.begin.ensures w.words_after w.origins_after w.carried_after in
    text-row a.text.now b.names b.words b.origins c.begin.ensures w.words_after w.origins_after w.carried_after c.if-r-eq-END.false
    (λ pre. does-from w.names_after (c.statements.ensures.onward h pre)) (c.need.ensures.follows (c.statements.ensures.ahead h))
