use Rattle.program.specs.Reading.{read_path, read_assign}
use Rattle.program.proofs.LengthLaws.{after-part, uses-keeps, path-uses}
use Rattle.program.proofs.ReadLaws.{onward}
use Rattle.program.proofs.blocks.read_assign.Goals as goal

pub returns : goal.returns
unfolding read_assign
returns c = rw (onward (read_path c.args.p.now) (after-part _ (uses-keeps (path-uses c.args.p.now))) c.in_ok-left.ensures c.part_last.ensures) c.read_expression.ensures
