use Prim.Native.Nat.{◌-◌, ◌<◌}
use native.Mathlib.Omega.{arith}
use borrow.Author.Tests.{lt-ltb}
use Rattle.words.proofs.Signed.{back32}
use Rattle.words.proofs.Laws.{word-is}
use Rattle.tables.specs.Kept.{without_position, kept_count}
use Rattle.tables.proofs.KeptLaws.{most-small, first_small}
use Rattle.tables.proofs.FindLaws.{kept_in}
use Rattle.tables.proofs.kept.unkeep.Goals as goal

pub overflow_add-first_kept : goal.overflow_add-first_kept
overflow_add-first_kept c = omega (arith, c.first_kept.ensures, first_small c.args.s, most-small c.args.s, c.kept_count-n.ensures, kept_in c.args.constraints.now c.args.s)

pub returns : goal.returns
unfolding without_position
returns c =
    let l : 0 < kept_count c.args.constraints.now c.args.s = omega (arith, c.kept_count-n.ensures, c.if-n-eq0.false) in
    let q = back32 c.word_of.result (record { sfits = c.word_of.type_inv }) in
    let w = word-is (kept_count c.args.constraints.now c.args.s - 1) (omega (arith, most-small c.args.s, kept_in c.args.constraints.now c.args.s)) in
    rw (lt-ltb _ _ l) (cc)
