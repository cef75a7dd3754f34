use Rattle.std.proofs.Common.{rules, ap, ◌∙◌, not, length}
use borrow.Author.Tests.{tests}
use Rattle.std.specs.Option.{unwrap_or}
use Rattle.std.proofs.lemmas.Iterator.{YieldsList-from_slice}
use Rattle.std.proofs.lemmas.Iterator.Search.{position_from_yields_List}
use Rattle.tokens.specs.Bytes.{is_of}
use Rattle.tokens.proofs.ByteLaws.{run_position}
use Rattle.tokens.proofs.bytes.run.Goals as goal

pub returns : goal.returns
returns c =
    c.unwrap_or.ensures
    ∙ ap (λ o. unwrap_or o (length c.args.s.now))
    (position_from_yields_List (λ b. not (is_of c.args.class b)) _ _ c.position.result c.position.ensures.ran (YieldsList-from_slice c.args.s.now cc) (λ x b q k. search (rules, tests)))
    ∙ run_position (is_of c.args.class) c.args.s.now
