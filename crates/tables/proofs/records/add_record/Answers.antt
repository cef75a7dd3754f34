use Prim.Native.Nat.{◌+◌, ◌<◌}
use native.Mathlib.Omega.{arith}
use borrow.Author.Tests.{lt-ltb, le-leb}
use Rattle.words.proofs.Signed.{back32}
use Rattle.words.proofs.Laws.{word-is}
use Rattle.tables.specs.Sizes.{count_word}
use Rattle.tables.specs.Records.{record_count, with_record}
use Rattle.tables.proofs.records.add_record.Goals as goal

pub returns : goal.returns
unfolding with_record count_word
returns c =
    let l : record_count c.args.heap.now < 64 = rw c.record_count-r.ensures at c.if-r-ge-RECORDS.false in
    let p = back32 c.word_of.result (record { sfits = c.word_of.type_inv }) in
    let q = back32 c.word_of-2.result (record { sfits = c.word_of-2.type_inv }) in
    let v = word-is c.args.n (omega (arith, c.if-n-gt-FIELDS.false)) in
    let w = word-is (record_count c.args.heap.now + 1) (omega arith) in
    rw (lt-ltb _ 64 l, le-leb c.args.n 8 c.if-n-gt-FIELDS.false) (cc)
