use Rattle.std.proofs.Common.{rules, ap, ◌∙◌, length, nat_eq}
use borrow.Author.Tests.{tests}
use Rattle.std.specs.Option.{unwrap_or}
use Rattle.std.proofs.lemmas.Iterator.{YieldsList-from_slice}
use Rattle.std.proofs.lemmas.Iterator.Search.{position_from_yields_List}
use Rattle.lister.proofs.ByteLaws.{first_place}
use Rattle.lister.proofs.bytes.before.Goals as goal

pub returns : goal.returns
returns c =
    c.unwrap_or.ensures
    ∙ ap (λ o. unwrap_or o (length c.args.s.now))
    (position_from_yields_List (λ x. nat_eq x c.args.b) _ _ c.position.result c.position.ensures.ran (YieldsList-from_slice c.args.s.now cc) (λ x b q k. search (rules, tests)))
    ∙ first_place c.args.b c.args.s.now
