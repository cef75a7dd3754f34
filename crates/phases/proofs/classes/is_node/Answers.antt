use Rattle.phases.proofs.ClassLaws.{node-of, node-other}
use Rattle.phases.proofs.classes.is_node.Goals as goal

pub returns-in-Nil : goal.returns-in-Nil
returns-in-Nil c = node-of c.in-Nil.is

pub returns-in_default : goal.returns-in_default
returns-in_default c = node-other c.args.v c.in_default.not-Nil c.in_default.not-Ref
