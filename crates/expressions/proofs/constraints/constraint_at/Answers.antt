use mathlib.Core.Path.{◌≡◌, sym, ◌∙◌}
use Prim.Native.Nat.{◌≤◌, ◌<◌}
use Rattle.words.specs.Words.{number_at}
use Rattle.tables.specs.Lending.{seen}
use Rattle.expressions.proofs.ConstraintLaws.{constraint-low, constraint-high, constraint-parts}
use Rattle.expressions.proofs.constraints.constraint_at.Goals as goal

pub returns-then-m-eq0 : goal.returns-then-m-eq0
returns-then-m-eq0 c = rw c.at.ensures (constraint-low (seen c.args.t.now) c.args.p.now (sym c.number_at-m.ensures ∙ c.if-m-eq0.true))

pub returns-then-m-gt-MOST_PARTS : goal.returns-then-m-gt-MOST_PARTS
returns-then-m-gt-MOST_PARTS c =
    let o : number_at c.args.p.now 0 ≡ 0 → ⊥ = rw c.number_at-m.ensures at c.if-m-eq0.false in
    let m : 16 < number_at c.args.p.now 0 = rw c.number_at-m.ensures at c.if-m-gt-MOST_PARTS.true in
    rw c.at-then-m-gt-MOST_PARTS.ensures (constraint-high (seen c.args.t.now) c.args.p.now o m)

pub returns : goal.returns
returns c =
    let o : number_at c.args.p.now 0 ≡ 0 → ⊥ = rw c.number_at-m.ensures at c.if-m-eq0.false in
    let m : number_at c.args.p.now 0 ≤ 16 = rw c.number_at-m.ensures at c.if-m-gt-MOST_PARTS.false in
    (rw (c.part_from.ensures, c.number_at-m.ensures) at c.parts_at.ensures) ∙ constraint-parts (seen c.args.t.now) c.args.p.now o m
