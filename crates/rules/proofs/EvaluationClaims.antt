-- What is claimed of expressions and constraints holds. Assumes nothing.
use Rattle.rules.specs.Steps.Evaluation.{EvaluationClaim}
use Rattle.rules.proofs.NameLaws.{names-iff}
use Rattle.rules.proofs.EvaluationLaws.{evaluate-iff}
use Rattle.rules.proofs.IdentityValues.{identity-true, identity-false}
use Rattle.rules.proofs.TypingLaws.{kind-iff}
use Rattle.rules.proofs.KindLaws.{kind-comes}
use Rattle.rules.proofs.PartLaws.{constraint-reads-iff, constraint-iff}

pub evaluation-claim : EvaluationClaim
evaluation-claim = record {
  paths = names-iff;
  values = evaluate-iff;
  same = λ d S p r fit. identity-true S fit d p r;
  differ = λ d S p r fit. identity-false S fit d p r;
  kinds = kind-iff;
  sound = kind-comes;
  reads = constraint-reads-iff;
  parts = constraint-iff;
}
