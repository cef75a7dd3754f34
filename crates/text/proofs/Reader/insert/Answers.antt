use mathlib.Core.Path.{refl}
use native.Mathlib.Omega.{arith}
use lib.ListN.{length}
use Rattle.text.proofs.RaisedLaws.{inserts-none, inserts-nowhere, inserts}
use Rattle.text.proofs.AheadLaws.{ahead-grown}
use Rattle.text.proofs.Reader.insert.Goals as goal
use Rattle.text.proofs.Reader.insert.Goals.{then-end-ge-ROW-via-then-end-ge-ROW, then-end-ge-ROW-via-else-end-ge-ROW+then-k-ge-ROW, then-end-ge-ROW-via-else-end-ge-ROW+else-k-ge-ROW+then-end-from}

pub returns-then-end-ge-ROW : goal.returns-then-end-ge-ROW
returns-then-end-ge-ROW c =
    let a = c.args in
    let r = a.self.now in record {
      names_after = refl;
      inserts = elim c.then-end-ge-ROW.branch [
        | then-end-ge-ROW-via-then-end-ge-ROW w ↦ inserts-none a.from a.p a.gap.now r.lent.words r.lent.origins r.carried (omega (arith, w.if-end-ge-ROW.true))
        | then-end-ge-ROW-via-else-end-ge-ROW+then-k-ge-ROW w ↦ inserts-none a.from a.p a.gap.now r.lent.words r.lent.origins r.carried (omega (arith, w.if-k-ge-ROW.true))
        | then-end-ge-ROW-via-else-end-ge-ROW+else-k-ge-ROW+then-end-from w ↦ inserts-nowhere a.from a.p a.gap.now r.lent.words r.lent.origins r.carried w.if-end-from.true
      ];
      ahead = λ text h. h;
    }

pub returns : goal.returns
returns c =
    let a = c.args in
    let r = a.self.now in record {
      names_after = refl;
      inserts = inserts a.from a.p a.gap.now r.lent.words r.lent.origins r.carried c.if-end-from.false
          c.raise.ensures.words_after c.raise.ensures.origins_after c.fill.ensures.words_after c.fill.ensures.origins_after;
      ahead = λ text h. ahead-grown text r.carried (length a.gap.now) refl h;
    }
