use Rattle.lister.proofs.ListingLaws.{put-field-absent, put-field-present}
use Rattle.lister.proofs.listing.put_field.Goals as goal

pub returns-in-None : goal.returns-in-None
returns-in-None c = put-field-absent c.args.heap.now c.args.r c.args.f c.field_at.ensures c.slot_of-slot.ensures c.in-None.is

pub returns-in-Some : goal.returns-in-Some
returns-in-Some c = put-field-present c.args.heap.now c.args.r c.args.f c.field_at.ensures c.slot_of-slot.ensures c.in-Some.is c.put-number.ensures c.put_natural-dot.ensures c.put-name.ensures c.label_at-label.ensures c.put_natural-given.ensures c.put_given.ensures
