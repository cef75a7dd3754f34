use Rattle.tokens.proofs.ByteLaws.{Spelling}
use Rattle.tokens.proofs.bytes.spells.Given as goal

abbrev pub invariant-loop-i : goal.invariant-loop-i
invariant-loop-i l = Spelling l.word l.s l.i
