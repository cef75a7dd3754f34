use mathlib.Core.Path.{◌≡◌, sym, ◌∙◌}
use lib.Dec.{ltb}
use lib.ListN.{take, drop}
use Rattle.std.proofs.Common.{rules}
use Rattle.std.specs.List.{count_by}
use Rattle.printing.specs.Naming.{rank}
use Rattle.printing.proofs.FaultLaws.{used-count}
use Rattle.printing.proofs.faults.used.Goals as goal

pub returns : goal.returns
returns c =
    let e : c.count.result ≡ count_by (λ x. ltb 0 (rank x)) (take c.args.n (drop c.args.from c.args.seen.now)) = search rules in
    e ∙ sym (used-count c.args.seen.now c.args.from c.args.n)
