use Prim.Native.Nat.{◌-◌, ◌<◌, ◌≤◌}
use native.Mathlib.Omega.{arith}
use borrow.Author.Tests.{lt-ltb, le-leb}
use Rattle.words.proofs.Signed.{back32}
use Rattle.words.proofs.Laws.{word-is}
use Rattle.tables.specs.Sizes.{count_word}
use Rattle.tables.specs.Records.{record_count, without_record}
use Rattle.tables.proofs.records.drop_record.Goals as goal

pub returns : goal.returns
unfolding without_record count_word
returns c =
    let l : 0 < record_count c.args.heap.now = omega (arith, c.record_count-n.ensures, c.if-n-eq0.false) in
    let m : record_count c.args.heap.now ≤ 64 = rw c.record_count-n.ensures at c.if-n-gt-RECORDS.false in
    let q = back32 c.word_of.result (record { sfits = c.word_of.type_inv }) in
    let w = word-is (record_count c.args.heap.now - 1) (omega arith) in
    rw (lt-ltb 0 _ l, le-leb _ 64 m) (cc)
