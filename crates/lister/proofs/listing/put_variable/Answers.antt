use Rattle.tables.specs.Cells.{cells}
use Rattle.lister.proofs.ListingLaws.{put-variable-absent, put-variable-present}
use Rattle.lister.proofs.listing.put_variable.Goals as goal

pub returns-in-None : goal.returns-in-None
returns-in-None c = put-variable-absent (cells c.args.environment.now c.args.heap.now) c.args.x c.read_cell.ensures c.slot_of-slot.ensures c.in-None.is

pub returns-in-Some : goal.returns-in-Some
returns-in-Some c = put-variable-present (cells c.args.environment.now c.args.heap.now) c.args.x c.read_cell.ensures c.slot_of-slot.ensures c.in-Some.is c.put-number.ensures c.put_natural-given.ensures c.put_given.ensures
