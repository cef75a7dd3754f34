use Prim.Native.Nat.{◌-◌}
use mathlib.Core.Path.{◌≡◌, ◌∙◌}
use lib.ListN.{length}
use Rattle.std.proofs.Common.{rules}
use Rattle.printing.proofs.NameLaws.{put-short, default-variable, default-label}
use Rattle.printing.proofs.names.default_name.Goals as goal

pub returns-then-i-lt-FIRST_LABEL-clause-b_after : goal.returns-then-i-lt-FIRST_LABEL-clause-b_after
returns-then-i-lt-FIRST_LABEL-clause-b_after c =
    let l : length c.args.b.now ≡ 24 = search rules in
    (put-short c.args.i l c.put-k.ensures c.put_natural.ensures).0 ∙ default-variable c.args.i c.if-i-lt-FIRST_LABEL.true

pub returns-clause-b_after : goal.returns-clause-b_after
returns-clause-b_after c =
    let l : length c.args.b.now ≡ 24 = search rules in
    (put-short (c.args.i - 64) l c.put-k-2.ensures c.put_natural-2.ensures).0 ∙ default-label c.args.i c.if-i-lt-FIRST_LABEL.false
