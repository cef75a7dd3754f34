use mathlib.Core.Path.{◌∙◌}
use borrow.Author.Tests.{lt-ltb, le-ltb}
use mir.Syntax.{w32}
use mir.ValLaws.{to_z_pos}
use Rattle.words.specs.Words.{word_of}
use Rattle.words.proofs.word_of.Goals as goal

pub returns-then-n-lt2147483648 : goal.returns-then-n-lt2147483648
unfolding word_of
returns-then-n-lt2147483648 c = to_z_pos w32 c.args.n c.if-n-lt2147483648.true ∙ rw (lt-ltb c.args.n 2147483648 c.if-n-lt2147483648.true)

pub returns-else-n-lt2147483648 : goal.returns-else-n-lt2147483648
unfolding word_of
returns-else-n-lt2147483648 c = rw (le-ltb c.args.n 2147483648 c.if-n-lt2147483648.false)
