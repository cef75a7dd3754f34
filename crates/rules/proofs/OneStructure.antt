-- Two runs that finished with the same test results leave one structure. Assumes nothing.
use mathlib.Core.Path.{refl, sym, ap, ◌∙◌}
use Rattle.words.specs.Words.{number_of}
use Rattle.program.specs.Forms.{block_depth}
use Rattle.rules.specs.Rules.Answers.{first_tally}
use Rattle.rules.specs.Claims.OneStructure.{OneStructure}
use Rattle.rules.proofs.Structure.{state-refl}
use Rattle.rules.proofs.SameRuns.{blocks-same}
use Rattle.rules.proofs.RunFacts.{finished-so}

pub one-structure : OneStructure
one-structure program ws us budget budget' S a b x y e g t =
    let u = finished-so program ws budget S a x e in
    let v = finished-so program us budget' S b y g in
    rw (ap (λ r. r.state) u.gives, ap (λ r. r.state) v.gives)
    (blocks-same program (number_of budget) (number_of budget') block_depth program (first_tally S ws) (first_tally S us) u.tally v.tally (state-refl S)
    u.passes.1.1.fit.sized v.passes.1.1.fit.sized refl
    u.comes v.comes (sym (ap (λ r. r.tests) u.gives) ∙ t ∙ ap (λ r. r.tests) v.gives))
