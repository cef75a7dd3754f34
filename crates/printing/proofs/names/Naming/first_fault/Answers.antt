use mathlib.Core.Path.{refl, sym, ◌∙◌}
use borrow.Author.Tests.{tests}
use Rattle.std.proofs.Common.{rules}
use Rattle.std.proofs.lemmas.Iterator.{YieldsList-from_range}
use Rattle.std.proofs.lemmas.Iterator.Search.{find_from_yields_List}
use Rattle.printing.specs.Naming.{ranks, naming_of}
use Rattle.printing.specs.Faults.{at_fault}
use Rattle.printing.proofs.FaultLaws.{same_found, fault-found}
use Rattle.printing.proofs.names.Naming.first_fault.Goals as goal

pub returns : goal.returns
returns c =
    let N = naming_of c.args.self in
    same_found c.find.result
    ∙ find_from_yields_List (λ k. at_fault N (ranks c.args.seen.now) k) _ _ c.find.result c.find.ensures.ran (YieldsList-from_range 0 96 _ refl refl) (λ x b q k. search (rules, tests))
    ∙ sym (fault-found N (ranks c.args.seen.now) 0 96 refl)
