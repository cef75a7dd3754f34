use mathlib.Core.Path.{sym}
use lib.Seq.{set_out}
use Rattle.text.proofs.naming.put.Goals as goal

pub returns-else-i-names : goal.returns-else-i-names
returns-else-i-names c = sym (set_out c.args.names.now c.args.i c.args.w c.if-i-names.false)
