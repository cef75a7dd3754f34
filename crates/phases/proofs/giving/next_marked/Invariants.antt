use mathlib.Core.Path.{◌≡◌}
use Prim.Native.Nat.{◌*◌}
use Rattle.words.specs.Bits.{next_marked}
use Rattle.phases.proofs.giving.next_marked.Given as goal

abbrev pub invariant-loop-i : goal.invariant-loop-i
invariant-loop-i l = next_marked l.class (64 * l.i) ≡ next_marked l.class l.l
