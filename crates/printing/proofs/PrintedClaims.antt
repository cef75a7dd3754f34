-- The definition writes exactly what the rules say. Assumes nothing.
use Rattle.program.proofs.GrammarLaws.{program-sound}
use Rattle.printing.specs.Claims.{PrintedExactly}
use Rattle.printing.proofs.StatedLaws.{program-said}
use Rattle.printing.proofs.OneText.{one-text}

pub printed-exactly : PrintedExactly
printed-exactly p e ss = let t = program-said (program-sound p e).yields in ((λ i. rw i at t), (λ u. one-text t u))
