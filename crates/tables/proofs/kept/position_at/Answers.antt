use native.Mathlib.Omega.{arith}
use Rattle.tables.proofs.KeptLaws.{most-small, first_small}
use Rattle.tables.proofs.kept.position_at.Goals as goal

pub overflow_add-first_kept : goal.overflow_add-first_kept
overflow_add-first_kept c = omega (arith, c.first_kept.ensures, first_small c.args.s, c.most_kept.ensures, most-small c.args.s, c.if-most_kept-i.false)
