use mathlib.Core.Path.{refl, sym, ◌∙◌}
use mathlib.Core.Bool.{◌&&◌}
use borrow.Author.Tests.{tests}
use Rattle.std.proofs.Common.{rules}
use Rattle.std.proofs.lemmas.Iterator.{YieldsList-from_range}
use Rattle.std.proofs.lemmas.Iterator.Search.{any_from_yields_List}
use Rattle.tokens.specs.Bytes.{spelt}
use Rattle.printing.specs.Naming.{ranks, naming_of, name_of}
use Rattle.printing.specs.Faults.{is_had}
use Rattle.printing.proofs.FaultLaws.{twins-any}
use Rattle.printing.proofs.names.Naming.twin_from.Goals as goal

pub returns : goal.returns
returns c =
    let N = naming_of c.args.self in
    any_from_yields_List (λ k. is_had N.names (ranks c.args.seen.now) k && spelt (name_of N c.args.i) (name_of N k)) _ _ c.any.result c.any.ensures.ran
    (YieldsList-from_range c.args.j c.args.i _ refl refl) (λ x b q k. search (rules, tests))
    ∙ sym (twins-any N (ranks c.args.seen.now) c.args.i c.args.j _)
