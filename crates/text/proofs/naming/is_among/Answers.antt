use mathlib.Core.Path.{◌∙◌}
use borrow.Author.Tests.{lt-ltb}
use Rattle.text.proofs.NamingLaws.{any-among}
use Rattle.text.proofs.naming.is_among.Goals as goal

pub returns-then-number-count : goal.returns-then-number-count
returns-then-number-count c =
    let a = c.args in
    rw (lt-ltb a.number a.count c.if-number-count.true) (c.contains.ensures.value ∙ any-among a.number a.seen.now)
