use Rattle.std.proofs.Common.{rules, ◌≡◌, ◌∙◌, ap, refl, nat_eq, length, get_or, ◌<◌, length-append}
use native.Mathlib.Omega.{arith}
use lib.ListN.{set}
use mir.Syntax.{w32}
use mir.Val.{SFits}
use borrow.Author.Tests.{tests}
use Rattle.std.specs.List.{slice_split}
use Rattle.std.proofs.lemmas.Iterator.Splits.{YieldsList-from_slice_split}
use Rattle.std.proofs.lemmas.Iterator.Consumers.{YieldsList-turn, YieldsList-end}
use Rattle.words.proofs.Signed.{back32}
use Rattle.lister.proofs.ReadingLaws.{rowing-starts, row-full, row-unfit, row-goes-on, row-ends}
use Rattle.lister.proofs.reading.read_row.Goals as goal
use Rattle.lister.proofs.reading.read_row.Goals.{In-Some}

-- the piece of a turn is the next one that the text is cut into
here : (c : In-Some) → (length c.loop-piece.yielded < length (slice_split (λ x. nat_eq x 32) c.args.s.now))
    × (c.in-Some.piece.now ≡ get_or (slice_split (λ x. nat_eq x 32) c.args.s.now) (length c.loop-piece.yielded) c.in-Some.piece.now)
here c =
    YieldsList-turn (YieldsList-from_slice_split _ (λ x. nat_eq x 32) c.args.s.now (cc) (cc) (cc) (λ x b q k. search (rules, tests))) c.loop-piece.yielded _ c.loop-piece.yielded_by _
    _ _ c.in-Some.is c.next.ensures.steps

pub loop-piece-init : goal.loop-piece-init
loop-piece-init c = (rowing-starts, refl)

pub returns-then-n-eq-MOST_NUMBERS : goal.returns-then-n-eq-MOST_NUMBERS
returns-then-n-eq-MOST_NUMBERS c = row-full c.loop-piece.invariant.0 c.loop-piece.invariant.1 (here (goal.at.returns-then-n-eq-MOST_NUMBERS c).In-Some) c.if-n-eq-MOST_NUMBERS.true

pub returns-in_err-number : goal.returns-in_err-number
returns-in_err-number c =
    rw c.from_residual.ensures (row-unfit c.loop-piece.invariant.0 c.loop-piece.invariant.1 (here (goal.at.returns-in_err-number c).In-Some) c.if-n-eq-MOST_NUMBERS.false c.number.ensures c.in_err-number.was)

pub loop-piece-preserved : goal.loop-piece-preserved
loop-piece-preserved c =
    let f : SFits w32 c.in_ok-number.field-0 = search rules in (
      row-goes-on c.loop-piece.invariant.0 c.loop-piece.invariant.1 (here (goal.at.loop-piece-preserved c).In-Some) c.if-n-eq-MOST_NUMBERS.false c.number.ensures c.in_ok-number.was
          (c.store.ensures ∙ ap (λ z. set c.loop-piece.out c.loop-piece.n z) (back32 _ f)),
      rw (length-append c.loop-piece.yielded) (omega (arith, c.loop-piece.invariant.1)),
    )

pub returns : goal.returns
returns c =
    let end = YieldsList-end (YieldsList-from_slice_split _ (λ x. nat_eq x 32) c.args.s.now (cc) (cc) (cc) (λ x b q k. search (rules, tests))) c.loop-piece.yielded _ c.loop-piece.yielded_by
    _ _ c.in-None.is c.next.ensures.steps in
    row-ends c.loop-piece.invariant.0 c.loop-piece.invariant.1 end.1
