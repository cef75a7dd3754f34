use Prim.Native.Nat.{◌+◌, ◌*◌}
use mathlib.Core.List.{[], ◌∷◌}
use Rattle.printing.specs.Signs.{line, semicolon_sign}
use Rattle.printing.specs.Printing.{statement_text, statements_text}
use Rattle.printing.proofs.RowLaws.{InRow}
use Rattle.printing.proofs.page.Page.+block_conditional_repeated_statement_statements.Given as goal

abbrev pub decreases-block : goal.decreases-block
decreases-block l = 4 * l.d

abbrev pub decreases-conditional : goal.decreases-conditional
decreases-conditional l = 4 * l.d + 1

abbrev pub decreases-repeated : goal.decreases-repeated
decreases-repeated l = 4 * l.d + 1

abbrev pub decreases-statement : goal.decreases-statement
decreases-statement l = 4 * l.d + 2

abbrev pub decreases-statements : goal.decreases-statements
decreases-statements l = 4 * l.d + 3

abbrev pub invariant-statements-loop-i : goal.invariant-statements-loop-i
invariant-statements-loop-i l =
    InRow l.initial.self (semicolon_sign ∷ line l.d ∷ []) (statement_text l.d) l.n (statements_text l.d l.p) l.i l.rest l.self
