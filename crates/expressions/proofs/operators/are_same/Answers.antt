use borrow.Author.Rules.{rules}
use Rattle.words.proofs.Signed.{same_bits}
use Rattle.rules.proofs.OperatorClauses.{same-is}
use Rattle.expressions.proofs.operators.are_same.Goals as goal

pub returns : goal.returns
returns c =
    let x = c.cell_of-x.result in
    let y = c.cell_of-y.result in
    let k = same_bits x.kind y.kind (search rules) (search rules) in
    let p = same_bits x.payload y.payload (search rules) (search rules) in
    rw (k, p, same-is c.args.a c.args.b, c.cell_of-x.ensures, c.cell_of-y.ensures)
