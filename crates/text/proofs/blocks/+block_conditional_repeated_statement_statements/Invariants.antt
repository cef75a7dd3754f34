use Prim.Native.Nat.{◌+◌, ◌*◌}
use Rattle.text.proofs.BlockCode.{Round}
use Rattle.text.proofs.blocks.+block_conditional_repeated_statement_statements.Given as goal

abbrev pub decreases-block : goal.decreases-block
decreases-block l = 4 * l.d

abbrev pub decreases-conditional : goal.decreases-conditional
decreases-conditional l = 4 * l.d + 1

abbrev pub decreases-repeated : goal.decreases-repeated
decreases-repeated l = 4 * l.d + 1

abbrev pub decreases-statement : goal.decreases-statement
decreases-statement l = 4 * l.d + 2

abbrev pub decreases-statements : goal.decreases-statements
decreases-statements l = 4 * l.d + 3

abbrev pub invariant-statements-loop-n : goal.invariant-statements-loop-n
invariant-statements-loop-n l =
    Round l.text l.d l.p l.from l.initial.r.lent l.initial.r.carried l.r.lent l.r.carried l.n
