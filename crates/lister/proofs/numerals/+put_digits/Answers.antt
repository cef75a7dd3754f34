use Rattle.lister.proofs.NumeralLaws.{put-digits-one, put-digits-more}
use Rattle.lister.proofs.numerals.+put_digits.Goals as goal

pub returns-then-n-lt10 : goal.returns-then-n-lt10
returns-then-n-lt10 t c = put-digits-one c.args.n c.args.places c.if-places-eq0.false c.if-n-lt10.true c.digit_byte.ensures c.put.ensures

pub returns : goal.returns
returns t c = put-digits-more c.args.n c.args.places c.if-places-eq0.false c.if-n-lt10.false c.put_digits-to.ensures c.digit_byte-2.ensures c.put-2.ensures
