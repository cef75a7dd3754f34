use Rattle.lister.proofs.NumeralLaws.{put-number-negative, put-number-positive}
use Rattle.lister.proofs.numerals.put_number.Goals as goal

pub returns-then-w-lt0 : goal.returns-then-w-lt0
returns-then-w-lt0 c = put-number-negative c.args.w c.ranges.w c.unsigned_abs-n.ensures.value c.if-w-lt0.true c.put-to.ensures c.put_natural.ensures

pub returns : goal.returns
returns c = put-number-positive c.args.w c.ranges.w c.unsigned_abs-n.ensures.value c.if-w-lt0.false c.put_natural-2.ensures
