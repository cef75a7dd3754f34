use mathlib.Core.Path.{refl}
use Rattle.words.proofs.Signed.{back32}
use Rattle.text.proofs.WritingCode.{wrote-more, wrote_none, with_none, with-more}
use Rattle.text.proofs.Reader.write.Goals as goal

pub returns-then-at-ge-ROW : goal.returns-then-at-ge-ROW
returns-then-at-ge-ROW c =
    let a = c.args in
    let r = a.self.now in record {
      names_after = refl;
      words_after = with_none r.carried r.lent.words a.w c.if-at-ge-ROW.true;
      origins_after = with_none r.carried r.lent.origins a.p c.if-at-ge-ROW.true;
      carried_after = wrote_none r.carried c.if-at-ge-ROW.true;
    }

pub returns : goal.returns
returns c =
    let a = c.args in
    let r = a.self.now in record {
      names_after = c.put_word.ensures.names_after;
      words_after = with-more r.carried r.lent.words a.w c.if-at-ge-ROW.false (rw (back32 a.w c.ranges.w) at c.put_word.ensures.words_after);
      origins_after = with-more r.carried r.lent.origins a.p c.if-at-ge-ROW.false c.put_word.ensures.origins_after;
      carried_after = wrote-more r.carried c.if-at-ge-ROW.false;
    }
