use mathlib.Core.Path.{◌≡◌, sym, ap, ◌∙◌}
use mathlib.Core.Bool.{cond}
use Prim.Native.Nat.{suc, ◌≤◌}
use native.Mathlib.Omega.{arith}
use lib.Dec.{ltb}
use lib.ListN.{length}
use Rattle.tables.proofs.SearchLaws.{and_left}
use Rattle.text.specs.Told.{next_of, Ahead}
use Rattle.text.proofs.AnswerSteps.{refused-stops}
use Rattle.text.proofs.DoesLaws.{does-stopped, does-from}
use Rattle.text.proofs.WrittenLaws.{passes}
use Rattle.text.proofs.AheadLaws.{ahead-passed, ahead-deep, ahead-refused}
use Rattle.text.proofs.ClimbCode.{taken-shallow, joined-untaken, joined-stopped, joined-deep, joined-shallow, climb-none, climb-on, level-small, operator-word, operator-level}
use Rattle.words.proofs.Signed.{back32}
use Rattle.text.proofs.OnwardsCode.{turns-start, turns-stop, turns-over, turns-close, turns-join, turns-refuse, turns-end}
use Rattle.text.proofs.expressions.+climb_joined_onwards.Goals as goal
use Rattle.text.proofs.expressions.+climb_joined_onwards.Goals.{onwards-then-code-b, onwards-else-code-b+else-not-joins}

pub climb-returns-then-r-ne0 : goal.climb-returns-then-r-ne0
climb-returns-then-r-ne0 t c =
    record { expression = (λ ahead. does-stopped c.if-r-ne0.true); depth_bound = λ ahead z. absurd (c.if-r-ne0.true z); ahead = λ ahead. ahead }

pub climb-returns-then-left-eq0 : goal.climb-returns-then-left-eq0
climb-returns-then-left-eq0 t c =
    let a = c.args in
    let r = a.r.now.carried in record {
      expression = (λ ahead. climb-none a.text.now a.left a.in_c a.low c.if-r-ne0.false c.if-left-eq0.true ahead c.refused.ensures);
      depth_bound = λ ahead z. absurd (refused-stops (next_of r) r c.refused.ensures z);
      ahead = λ ahead. ahead-refused a.text.now r c.refused.ensures ahead;
    }

pub climb-returns : goal.climb-returns
climb-returns t c =
    let n = c.onwards in
    let z = c.if-left-eq0.false in
    let a = c.args in
    let read : Ahead a.text.now a.r.now.carried → Ahead a.text.now c.deepen.new.self =
    λ h. ahead-deep a.text.now c.operand.new.r.carried 1 c.deepen.ensures (c.operand.ensures.ahead (c.opened.ensures.ahead h)) in record {
      expression = (λ h. climb-on a.text.now a.left a.in_c a.low (c.opened.ensures.opens h) (c.operand.ensures.piece (c.opened.ensures.ahead h)) c.deepen.ensures z (n.ensures.onward (read h)));
      depth_bound = λ h y. omega (arith, n.ensures.depth_bound (read h) (λ x. omega (arith, ap (λ x. x.depth) c.deepen.ensures)) y, z);
      ahead = λ h. n.ensures.ahead (read h);
    }

pub joined-returns-then-r-ne0 : goal.joined-returns-then-r-ne0
joined-returns-then-r-ne0 t c =
    let k = c.take in
    let p = c.pass in
    let a = c.args in
    let r = a.r.now.carried in
    let read : Ahead a.text.now r → Ahead a.text.now p.new.self = λ h. ahead-passed a.text.now r (ltb a.left r.depth) p.ensures h in record {
      onward = (λ h op most le. joined-untaken a.text.now a.left a.in_c (next_of r) (passes (ltb a.left r.depth) r p.ensures) (k.ensures.follows (read h)) a.from most c.if-r-ne0.true);
      depth_bound = λ h z. absurd (c.if-r-ne0.true z);
      ahead = λ h. k.ensures.ahead (read h);
    }

pub joined-returns-then-r-ne0-2 : goal.joined-returns-then-r-ne0-2
joined-returns-then-r-ne0-2 t c =
    let l = c.level_of in
    let i = c.insert in
    let w = c.word_of in
    let y = c.if-r-ne0.false in
    let k = c.take in
    let p = c.pass in
    let q = c.saturating_sub-k in
    let a = c.args in
    let r = a.r.now.carried in
    let passed = passes (ltb a.left r.depth) r p.ensures in
    let read : Ahead a.text.now r → Ahead a.text.now p.new.self = λ h. ahead-passed a.text.now r (ltb a.left r.depth) p.ensures h in
    let into : Ahead a.text.now r → Ahead a.text.now i.new.self.carried = λ h. i.ensures.ahead a.text.now (k.ensures.ahead (read h)) in record {
      onward = (λ h op most le. joined-stopped a.text.now a.left a.in_c (next_of r) passed (k.ensures.follows (read h)) a.from most
          (back32 w.result (record { sfits = w.type_inv }) ∙ operator-word r.code q.result op q.ensures w.ensures)
          i.ensures.inserts (operator-level r.code q.ensures l.ensures) (does-from i.ensures.names_after (c.climb.ensures.expression (into h))) c.if-r-ne0-2.true);
      depth_bound = λ h z. absurd (c.if-r-ne0-2.true z);
      ahead = λ h. c.climb.ensures.ahead (into h);
    }

pub joined-returns : goal.joined-returns
joined-returns t c =
    let l = c.level_of in
    let i = c.insert in
    let w = c.word_of in
    let y = c.if-r-ne0.false in
    let k = c.take in
    let p = c.pass in
    let q = c.saturating_sub-k in
    let a = c.args in
    let r = a.r.now.carried in
    let passed = passes (ltb a.left r.depth) r p.ensures in
    let read : Ahead a.text.now r → Ahead a.text.now p.new.self = λ h. ahead-passed a.text.now r (ltb a.left r.depth) p.ensures h in
    let into : Ahead a.text.now r → Ahead a.text.now i.new.self.carried = λ h. i.ensures.ahead a.text.now (k.ensures.ahead (read h)) in
    let v = c.climb.new.r.carried in
    let left : Ahead a.text.now r → r.depth ≤ a.left = λ h. taken-shallow a.text.now passed (k.ensures.follows (read h)) y in
    let right : Ahead a.text.now r → v.depth ≤ a.left = λ h. c.climb.ensures.depth_bound (into h) c.if-r-ne0-2.false in
    let over : Ahead a.text.now r → c.above.result ≡ suc (cond (ltb r.depth v.depth) v.depth r.depth) =
    λ h. c.above.ensures (omega (arith, left h, c.requires)) (omega (arith, right h, c.requires)) in record {
      onward = (λ h op most le. joined-deep a.text.now a.left a.in_c (next_of r) passed (k.ensures.follows (read h)) a.from most
          (back32 w.result (record { sfits = w.type_inv }) ∙ operator-word r.code q.result op q.ensures w.ensures)
          i.ensures.inserts (operator-level r.code q.ensures l.ensures) (does-from i.ensures.names_after (c.climb.ensures.expression (into h))) (over h) c.deepen.ensures);
      depth_bound = λ h z. joined-shallow (ap (λ x. x.depth) c.deepen.ensures ∙ over h) (left h) (right h);
      ahead = λ h. ahead-deep a.text.now v c.above.result c.deepen.ensures (c.climb.ensures.ahead (into h));
    }

pub onwards-returns-then-r-ne0 : goal.onwards-returns-then-r-ne0
onwards-returns-then-r-ne0 t c =
    let i = c.loop-round.invariant in
    record { onward = (λ h. turns-stop (i h).1 c.if-r-ne0.true); depth_bound = λ h d z. absurd (c.if-r-ne0.true z); ahead = λ h. (i h).0 }

pub onwards-returns-then-b-gt0 : goal.onwards-returns-then-b-gt0
onwards-returns-then-b-gt0 t c =
    let i = c.loop-round.invariant in
    let r = c.loop-round.r.carried in
    let text = c.args.text.now in
    let j = c.joins in record {
      onward = (λ h. turns-refuse (i h).1 (omega (arith, c.loop-round-test.true)) c.if-r-ne0.false (i h).0 c.if-code-b.false
          (sym j.ensures ∙ c.if-not-joins.true) c.if-b-gt0.true c.refused.ensures);
      depth_bound = λ h d z. absurd (refused-stops (next_of r) r c.refused.ensures z);
      ahead = λ h. ahead-refused text r c.refused.ensures (i h).0;
    }

pub onwards-returns-else-b-gt0 : goal.onwards-returns-else-b-gt0
onwards-returns-else-b-gt0 t c =
    let i = c.loop-round.invariant in
    let j = c.joins in record {
      onward = (λ h. turns-end (i h).1 (omega (arith, c.loop-round-test.true)) c.if-r-ne0.false (i h).0 c.if-code-b.false
          (sym j.ensures ∙ c.if-not-joins.true) c.if-b-gt0.false);
      depth_bound = λ h d z. (i h).1.deep d z;
      ahead = λ h. (i h).0;
    }

pub onwards-returns-then-r-ne0-2 : goal.onwards-returns-then-r-ne0-2
onwards-returns-then-r-ne0-2 t c =
    let i = c.loop-round.invariant in
    record { onward = (λ h. turns-stop (i h).1 c.if-r-ne0-2.true); depth_bound = λ h d z. absurd (c.if-r-ne0-2.true z); ahead = λ h. (i h).0 }

pub onwards-returns : goal.onwards-returns
onwards-returns t c =
    let i = c.loop-round.invariant in
    let r = c.loop-round.r.carried in
    let text = c.args.text.now in record {
      onward = (λ h. turns-over (i h).1 (omega (arith, c.loop-round-test.false)) c.if-r-ne0-2.false (i h).0 c.refused-2.ensures);
      depth_bound = λ h d z. absurd (refused-stops (next_of r) r c.refused-2.ensures z);
      ahead = λ h. ahead-refused text r c.refused-2.ensures (i h).0;
    }

pub onwards-loop-round-preserved : goal.onwards-loop-round-preserved
onwards-loop-round-preserved t c =
    let i = c.loop-round.invariant in
    let more : c.loop-round._round ≤ length c.args.text.now = omega (arith, c.loop-round-test.true) in
    let z = c.if-r-ne0.false in
    λ h.
    elim c.if-code-b.branch [
      | onwards-then-code-b w ↦
          rw (w.r-is, w.b-is) (w.take.ensures.ahead (i h).0, turns-close (i h).1 more z (i h).0 w.if-code-b.true (w.take.ensures.follows (i h).0))
      | onwards-else-code-b+else-not-joins w ↦
          let j = sym w.joins.ensures ∙ w.if-not-joins.false in
          rw (w.r-is, w.b-is)
          (w.joined.ensures.ahead (i h).0, turns-join (i h).1 more z (i h).0 w.if-code-b.false j (w.joined.ensures.onward (i h).0 (and_left _ _ j)) (w.joined.ensures.depth_bound (i h).0))
    ]

pub joined-overflow_add-level_of : goal.joined-overflow_add-level_of
joined-overflow_add-level_of t c =
    let k = c.saturating_sub-k.result in
    omega (arith, c.level_of.ensures, level-small k)

pub onwards-loop-round-init : goal.onwards-loop-round-init
onwards-loop-round-init t c =
    λ ahead. (ahead, turns-start)
