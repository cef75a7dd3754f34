use borrow.Author.Tests.{lt-ltb}
use Rattle.text.specs.Told.{table_with}
use Rattle.text.proofs.NamingLaws.{table-with}
use Rattle.text.proofs.naming.with_name.Goals as goal

pub returns-then-number-count : goal.returns-then-number-count
unfolding table_with
returns-then-number-count c = rw (lt-ltb c.args.number c.args.count c.if-number-count.true)

pub returns : goal.returns
returns c =
    let a = c.args in
    table-with a.names.now a.from a.count a.number a.t c.if-number-count.false c.put.ensures c.saturating_sub.ensures
    c.put-2.ensures
