-- What the code answers of an identity, for what the rules answer. Assumes nothing: these are definitions.
use Rattle.std.specs.Prelude.{Result, Ok, Err}
use Rattle.words.specs.Answer.{got, stop}
use Rattle.program.specs.declared.Refusal.{Refusal}
use Rattle.rules.specs.State.{Res}

abbrev pub sameness_of : Res (Unit {0}) → Result (Unit {0}) Refusal
sameness_of (got u) = Ok tt
sameness_of (stop f) = Err f
