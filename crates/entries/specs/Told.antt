-- What the code answers of a list of entries. Assumes nothing: these are definitions.
use Rattle.std.specs.Prelude.{List, ℤ}
use Rattle.rules.specs.State.{State}
use Rattle.rules.specs.Start.{Ended, given_by}
use Rattle.lent.specs.declared.Tally.{Tally}
use Rattle.lent.specs.Tallied.{carries}

-- what is given for the tally r, with these tables and proposals: outcome and place are its own
abbrev pub given_of : List ℤ → State → Tally → Ended
given_of ws Z r = given_by r.outcome r.place (carries ws Z r)
