use Rattle.std.proofs.Common.{◌≡◌, sym, ap, ◌∙◌, arith}
use Rattle.words.specs.Words.{number_at}
use Rattle.tables.specs.Lending.{seen}
use Rattle.program.proofs.ReadLaws.{form-none}
use Rattle.rules.proofs.EvaluateClauses.{evaluate-nil, evaluate-false, evaluate-true, evaluate-integer, evaluate-path, evaluate-identity, evaluate-none}
use Rattle.expressions.specs.Valuing.{value_only}
use Rattle.expressions.proofs.LeafLaws.{leaf-is, identity-inside, identity-outside}
use Rattle.expressions.proofs.values.leaf.Goals as goal

pub returns-then-inside : goal.returns-then-inside
returns-then-inside c = λ d ne.
    let f : number_at c.args.p.now 0 ≡ 26 = sym c.requires.form_value ∙ c.in-26.is in
    rw c.at.ensures (identity-inside (seen c.args.t.now) c.args.p.now d c.args.inside c.if-inside.true ne f)

pub returns-in-20 : goal.returns-in-20
returns-in-20 c = λ d ne.
    let f : number_at c.args.p.now 0 ≡ 20 = sym c.requires.form_value ∙ c.in-20.is in
    leaf-is (seen c.args.t.now) c.args.p.now d c.args.inside c.requires.fact (λ e. omega (arith, f, e)) (rw (c.gives.ensures, c.part_from-q.ensures)) (evaluate-nil (seen c.args.t.now) d c.args.p.now ne f)

pub returns-in-21 : goal.returns-in-21
returns-in-21 c = λ d ne.
    let f : number_at c.args.p.now 0 ≡ 21 = sym c.requires.form_value ∙ c.in-21.is in
    leaf-is (seen c.args.t.now) c.args.p.now d c.args.inside c.requires.fact (λ e. omega (arith, f, e)) (rw (c.gives-in-21.ensures, c.part_from-q.ensures)) (evaluate-false (seen c.args.t.now) d c.args.p.now ne f)

pub returns-in-22 : goal.returns-in-22
returns-in-22 c = λ d ne.
    let f : number_at c.args.p.now 0 ≡ 22 = sym c.requires.form_value ∙ c.in-22.is in
    leaf-is (seen c.args.t.now) c.args.p.now d c.args.inside c.requires.fact (λ e. omega (arith, f, e)) (rw (c.gives-in-22.ensures, c.part_from-q.ensures)) (evaluate-true (seen c.args.t.now) d c.args.p.now ne f)

pub returns-in-23 : goal.returns-in-23
returns-in-23 c = λ d ne.
    let f : number_at c.args.p.now 0 ≡ 23 = sym c.requires.form_value ∙ c.in-23.is in
    leaf-is (seen c.args.t.now) c.args.p.now d c.args.inside c.requires.fact (λ e. omega (arith, f, e)) (rw c.part_from-q.ensures at c.literal.ensures) (evaluate-integer (seen c.args.t.now) d c.args.p.now ne f)

pub returns-in-24 : goal.returns-in-24
returns-in-24 c = λ d ne.
    let f : number_at c.args.p.now 0 ≡ 24 = sym c.requires.form_value ∙ c.in-24.is in
    leaf-is (seen c.args.t.now) c.args.p.now d c.args.inside c.requires.fact (λ e. omega (arith, f, e)) (rw c.part_from-q.ensures at c.path.ensures) (evaluate-path (seen c.args.t.now) d c.args.p.now ne f)

pub returns-else-inside : goal.returns-else-inside
returns-else-inside c = λ d ne.
    let f : number_at c.args.p.now 0 ≡ 26 = sym c.requires.form_value ∙ c.in-26.is in
    (rw c.part_from-q.ensures at c.identity.ensures)
    ∙ (ap value_only (evaluate-identity (seen c.args.t.now) d c.args.p.now ne f) ∙ identity-outside (seen c.args.t.now) c.args.p.now d c.args.inside c.if-inside.false)

pub returns-in_default : goal.returns-in_default
returns-in_default c = λ d ne.
    let n : number_at c.args.p.now 0 ≡ 26 → ⊥ = λ e. omega (arith, e, c.requires.form_value) in
    let k = rw c.requires.form_value at (form-none c.args.form (λ e. omega (arith, e)) (λ e. omega (arith, e)) (λ e. omega (arith, e)) (λ e. omega (arith, e)) (λ e. omega (arith, e))
    (λ e. c.requires.fact (sym c.requires.form_value ∙ e)) (λ e. omega (arith, e))) in
    leaf-is (seen c.args.t.now) c.args.p.now d c.args.inside c.requires.fact n (rw c.at-in_default.ensures) (evaluate-none (seen c.args.t.now) d c.args.p.now ne k)
