use borrow.Author.Rules.{rules}
use Rattle.words.proofs.Signed.{back32}
use Rattle.tables.proofs.cells.put_pair.Goals as goal

pub returns : goal.returns
returns c =
    let k = back32 c.args.c.kind (search rules) in
    let p = back32 c.args.c.payload (search rules) in
    cc
