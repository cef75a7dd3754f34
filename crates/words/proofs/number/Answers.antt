use Rattle.words.proofs.Signed.{negative, cast_fits, cast_is}
use Rattle.words.proofs.number.Goals as goal

pub overflow_cast-result : goal.overflow_cast-result
overflow_cast-result c = cast_fits c.args.w c.ranges.w c.if-w-lt0.false

pub returns-then-w-lt0 : goal.returns-then-w-lt0
returns-then-w-lt0 c = negative c.args.w c.ranges.w c.if-w-lt0.true

pub returns-else-w-lt0 : goal.returns-else-w-lt0
returns-else-w-lt0 c = cast_is c.args.w c.ranges.w c.if-w-lt0.false
