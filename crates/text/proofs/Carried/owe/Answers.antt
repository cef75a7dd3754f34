use native.Mathlib.Omega.{arith}
use Rattle.text.specs.Reading.{peek}
use Rattle.text.specs.Told.{reader_of}
use Rattle.text.proofs.WrittenLaws.{owes-least}
use Rattle.text.proofs.Carried.owe.Goals as goal

pub returns : goal.returns
unfolding reader_of peek
returns c =
    record { owes = owes-least c.args.k c.args.self.now (λ x y. omega (arith, c.saturating_add-self.ensures)); ahead = λ text h names. h names }
