use Prim.Native.Nat.{◌+◌, ◌<◌}
use native.Mathlib.Omega.{arith}
use borrow.Author.Tests.{lt-ltb}
use Rattle.words.proofs.Signed.{back32}
use Rattle.words.proofs.Laws.{word-is}
use Rattle.tables.specs.Kept.{with_position, most_kept, kept_count}
use Rattle.tables.proofs.KeptLaws.{most-small, first_small}
use Rattle.tables.proofs.kept.keep.Goals as goal

pub overflow_add-first_kept : goal.overflow_add-first_kept
overflow_add-first_kept c = omega (arith, c.first_kept.ensures, first_small c.args.s, c.most_kept.ensures, most-small c.args.s, c.if-most_kept-n.false)

pub returns : goal.returns
unfolding with_position
returns c =
    let l : kept_count c.args.constraints.now c.args.s < most_kept c.args.s = rw (c.most_kept.ensures, c.kept_count-n.ensures) at c.if-most_kept-n.false in
    let p = back32 c.word_of.result (record { sfits = c.word_of.type_inv }) in
    let q = back32 c.word_of-2.result (record { sfits = c.word_of-2.type_inv }) in
    let w = word-is (kept_count c.args.constraints.now c.args.s + 1) (omega (arith, most-small c.args.s)) in
    rw (lt-ltb _ _ l) (cc)
