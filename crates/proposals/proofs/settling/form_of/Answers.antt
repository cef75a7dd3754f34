use Rattle.proposals.proofs.FormLaws.{form-none, form-many, form-broken, form-pairs}
use Rattle.proposals.proofs.settling.form_of.Goals as goal

pub returns-then-proposals-eq0 : goal.returns-then-proposals-eq0
returns-then-proposals-eq0 c = form-none c.args.proposals.now c.if-proposals-eq0.true

pub returns-then-n-gt-LOCATIONS : goal.returns-then-n-gt-LOCATIONS
returns-then-n-gt-LOCATIONS c = form-many c.args.proposals.now c.if-proposals-eq0.false c.number_at-n.ensures c.if-n-gt-LOCATIONS.true

pub returns-then-not-are_pairs : goal.returns-then-not-are_pairs
returns-then-not-are_pairs c = form-broken c.args.proposals.now c.if-proposals-eq0.false c.number_at-n.ensures c.if-n-gt-LOCATIONS.false c.part_from.ensures c.are_pairs.ensures c.if-not-are_pairs.true

pub returns : goal.returns
returns c = form-pairs c.args.proposals.now c.if-proposals-eq0.false c.number_at-n.ensures c.if-n-gt-LOCATIONS.false c.part_from.ensures c.are_pairs.ensures c.if-not-are_pairs.false
