use native.Mathlib.Omega.{arith}
use mathlib.Core.Path.{sym, ◌∙◌}
use Rattle.std.proofs.lemmas.Result.{err_from_is_err_and}
use Rattle.tables.specs.declared.Sort.TheVariants.{Identities}
use Rattle.tables.specs.Lending.{seen}
use Rattle.tables.proofs.FindLaws.{kept_in}
use Rattle.phases.proofs.ClassLaws.{class-alone, class-lost, leads-on, class-unfit, class-clashes, class-found}
use Rattle.phases.proofs.classes.mark_class.Goals as goal

pub returns-then-n-eq0 : goal.returns-then-n-eq0
returns-then-n-eq0 c = class-alone c.args.program.now c.args.t.now.constraints.now (seen c.args.t.now) c.args.p.now c.args.target c.args.v c.requires.unmarked c.requires.target_lt_locations c.mark.ensures (sym c.kept_count-n.ensures ∙ c.if-n-eq0.true)

pub pass-requires : goal.pass-requires
pass-requires c = omega (arith, c.kept_count-n.ensures, kept_in c.args.t.now.constraints.now Identities)

pub returns-in_err-passed : goal.returns-in_err-passed
returns-in_err-passed c =
    let e = err_from_is_err_and c.from_residual.result c.from_residual.ensures.1 in
    rw (e.1, e.2) (class-lost c.args.program.now c.args.t.now.constraints.now (seen c.args.t.now) c.args.p.now c.args.target c.args.v c.kept_count-n.ensures c.requires.unmarked c.requires.target_lt_locations c.mark.ensures c.pass.ensures c.in_err-passed.was)

pub returns-then-passed-is_node : goal.returns-then-passed-is_node
returns-then-passed-is_node c = rw c.at.ensures (class-unfit c.args.program.now c.args.t.now.constraints.now (seen c.args.t.now) c.args.p.now c.args.target c.args.v c.kept_count-n.ensures c.requires.unmarked c.requires.target_lt_locations c.mark.ensures c.pass.ensures c.in_ok-passed.was c.is_node.ensures c.if-passed-is_node.true)

pub pass_on-requires : goal.pass_on-requires
pass_on-requires c = record {
  n_le_most_ties = omega (arith, c.kept_count-n.ensures, kept_in c.args.t.now.constraints.now Identities);
  leads = leads-on c.args.program.now c.args.t.now.constraints.now (seen c.args.t.now) c.args.p.now c.args.target c.args.v c.kept_count-n.ensures c.requires.unmarked c.requires.target_lt_locations c.mark.ensures c.pass.ensures c.in_ok-passed.was;
}

pub returns-then-not-is_clash_free : goal.returns-then-not-is_clash_free
returns-then-not-is_clash_free c = rw c.at-then-not-is_clash_free.ensures (class-clashes c.args.program.now c.args.t.now.constraints.now (seen c.args.t.now) c.args.p.now c.args.target c.args.v c.kept_count-n.ensures c.requires.unmarked c.requires.target_lt_locations c.mark.ensures c.pass.ensures c.in_ok-passed.was c.is_node.ensures c.if-passed-is_node.false c.pass_on.ensures c.is_clash_free.ensures c.if-not-is_clash_free.true)

pub returns : goal.returns
returns c = class-found c.args.program.now c.args.t.now.constraints.now (seen c.args.t.now) c.args.p.now c.args.target c.args.v c.kept_count-n.ensures c.requires.unmarked c.requires.target_lt_locations c.mark.ensures c.pass.ensures c.in_ok-passed.was c.is_node.ensures c.if-passed-is_node.false c.pass_on.ensures c.is_clash_free.ensures c.if-not-is_clash_free.false
