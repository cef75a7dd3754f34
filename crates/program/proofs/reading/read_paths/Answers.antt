use Rattle.program.specs.Reading.{read_path, read_paths}
use Rattle.program.proofs.LengthLaws.{after-part, uses-keeps, path-uses}
use Rattle.program.proofs.ReadLaws.{onward}
use Rattle.program.proofs.reading.read_paths.Goals as goal

pub returns : goal.returns
unfolding read_paths
returns c = rw (onward (read_path c.args.p.now) (after-part _ (uses-keeps (path-uses c.args.p.now))) c.in_ok-left.ensures c.part_last.ensures) c.read_path-2.ensures
