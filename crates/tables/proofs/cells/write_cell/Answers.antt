use native.Mathlib.Omega.{arith}
use Rattle.tables.proofs.CellLaws.{location-small}
use Rattle.tables.proofs.cells.write_cell.Goals as goal

pub put_pair-requires-then-l-lt-LOCATIONS : goal.put_pair-requires-then-l-lt-LOCATIONS
put_pair-requires-then-l-lt-LOCATIONS c = omega (arith, c.location_word.ensures, location-small c.args.l c.if-l-lt-LOCATIONS.true)
