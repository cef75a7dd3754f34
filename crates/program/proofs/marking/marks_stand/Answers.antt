use Rattle.program.proofs.MarkingLaws.{marks-of}
use Rattle.program.proofs.marking.marks_stand.Goals as goal

pub positions_marked-requires : goal.positions_marked-requires
positions_marked-requires c = marks-of 64 c.requires c.mark_block.ensures

pub positions_marked-requires-then-positions_marked : goal.positions_marked-requires-then-positions_marked
positions_marked-requires-then-positions_marked c = marks-of 64 c.requires c.mark_block.ensures
