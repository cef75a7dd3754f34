use mathlib.Core.Path.{sym, ap, ◌∙◌}
use lib.ListN.{length}
use Rattle.words.proofs.Signed.{back32}
use Rattle.cordbasin.proofs.asking.cordbasin_ask.Goals as goal

-- src/asking.rt:7:1
pub returns : goal.returns
returns c =
    let r = rw (back32 c.args.word c.ranges.word) at c.ask-accepted.ensures.hands in
    record { answers = r.answers; leaves = r.leaves; counts = ap length r.hands_back; start = sym r.hands_back ∙ r.start }
