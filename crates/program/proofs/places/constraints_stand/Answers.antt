use mathlib.Core.Path.{◌≡◌, ◌∙◌}
use native.Mathlib.Omega.{arith}
use Prim.Native.Nat.{◌+◌}
use Rattle.tables.specs.declared.Sort.TheVariants.{Values, Identities}
use Rattle.tables.specs.Kept.{kept_count}
use Rattle.tables.proofs.FindLaws.{kept_in}
use Rattle.tables.proofs.LoopLaws.{refused, passed}
use Rattle.program.proofs.StandLaws.{none_kept, stand-long, stand-unfit, stand-both}
use Rattle.program.proofs.places.constraints_stand.Goals as goal

pub returns-then-program-gt-MOST_WORDS : goal.returns-then-program-gt-MOST_WORDS
returns-then-program-gt-MOST_WORDS c = stand-long c.args.program.now c.args.constraints.now c.if-program-gt-MOST_WORDS.true

pub returns-then-not-constraints_fit : goal.returns-then-not-constraints_fit
returns-then-not-constraints_fit c = stand-unfit c.args.program.now c.args.constraints.now c.if-program-gt-MOST_WORDS.false (refused c.if-not-constraints_fit.true c.constraints_fit.ensures)

pub overflow_add-values : goal.overflow_add-values
overflow_add-values c = omega (arith, c.kept_count-values.ensures, kept_in c.args.constraints.now Values, c.kept_count-identities.ensures, kept_in c.args.constraints.now Identities)

pub returns-then-values-identities-eq0 : goal.returns-then-values-identities-eq0
returns-then-values-identities-eq0 c =
    let e : kept_count c.args.constraints.now Values + kept_count c.args.constraints.now Identities ≡ 0 = omega (arith, c.kept_count-values.ensures, c.kept_count-identities.ensures, c.if-values-identities-eq0.true) in
    none_kept c.args.program.now c.args.constraints.now e
    ∙ stand-both c.args.program.now c.args.constraints.now c.if-program-gt-MOST_WORDS.false (passed c.if-not-constraints_fit.false c.constraints_fit.ensures)

pub returns : goal.returns
returns c =
    c.marks_stand.ensures
    ∙ stand-both c.args.program.now c.args.constraints.now c.if-program-gt-MOST_WORDS.false (passed c.if-not-constraints_fit.false c.constraints_fit.ensures)
