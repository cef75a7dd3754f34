use Rattle.std.proofs.Common.{rules, ◌∙◌, ap, set}
use Rattle.words.proofs.Signed.{back32}
use Rattle.proposals.proofs.ProposalLaws.{applying-starts, applying-goes-on, applying-ends}
use Rattle.proposals.proofs.settling.apply.Goals as goal

pub loop-i-init : goal.loop-i-init
loop-i-init c = (applying-starts, search rules)

pub loop-i-preserved : goal.loop-i-preserved
loop-i-preserved c =
    let w = back32 c.word_at.result (record { sfits = c.word_at.type_inv }) in
    let o = back32 c.put_payload-old.result (record { sfits = c.put_payload-old.type_inv }) in (
      applying-goes-on c.loop-i.invariant.0 c.loop-i-test.true c.requires.n_in_bounds c.number_at-l.ensures (w ∙ c.word_at.ensures) c.put_payload-old.ensures.swaps
          (c.store.ensures ∙ ap (λ x. set c.loop-i.saved c.loop-i.i x) o),
      search rules,
    )

pub returns-clause-applies : goal.returns-clause-applies
returns-clause-applies c = applying-ends c.loop-i.invariant.0 c.loop-i-test.false
