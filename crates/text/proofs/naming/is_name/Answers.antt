use Rattle.text.proofs.NamingLaws.{other_name, that-name}
use Rattle.text.proofs.naming.is_name.Goals as goal

pub returns-then-length-saturating_sub : goal.returns-then-length-saturating_sub
returns-then-length-saturating_sub c =
    let a = c.args in
    other_name a.text.now a.names.now a.i a.t c.word-length.ensures c.saturating_sub.ensures c.if-length-saturating_sub.true

pub returns : goal.returns
returns c =
    let a = c.args in
    that-name a.text.now a.names.now a.i a.t c.word-length.ensures c.saturating_sub.ensures c.if-length-saturating_sub.false c.word.ensures
    c.same.ensures
