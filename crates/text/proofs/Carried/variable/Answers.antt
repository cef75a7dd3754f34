use mathlib.Core.Path.{refl, sym, ap, ◌∙◌}
use Rattle.text.specs.Told.{next_of, took_by, named_variable}
use Rattle.text.proofs.NamingLaws.{most-least}
use Rattle.text.proofs.ToldLaws.{numbers-stopped, variable-unnamed, variable-full, variable-stopped, variable-named}
use Rattle.text.proofs.StateLaws.{took_number, took_numbers, took-variable}
use Rattle.text.proofs.AheadLaws.{ahead-refused, ahead-refused-at, ahead-took, ahead-variable}
use Rattle.text.proofs.Carried.variable.Goals as goal

pub returns-then-self-ne0-clause-numbers : goal.returns-then-self-ne0-clause-numbers
returns-then-self-ne0-clause-numbers c =
    λ h. numbers-stopped c.if-self-ne0.true

pub returns-then-self-ne-NAME : goal.returns-then-self-ne-NAME
returns-then-self-ne-NAME c =
    let a = c.args in
    let r = a.self.now in record {
      numbers = λ h. variable-unnamed a.text.now a.names.now r (next_of r) c.if-self-ne0.false h a.k c.if-self-ne-NAME.true c.refused.ensures;
      ahead = λ h. ahead-refused a.text.now r c.refused.ensures h;
    }

pub returns-then-n-ge-VARIABLES : goal.returns-then-n-ge-VARIABLES
returns-then-n-ge-VARIABLES c =
    let a = c.args in
    let r = a.self.now in record {
      numbers = λ h. variable-full a.text.now a.names.now r (next_of r) c.if-self-ne0.false h c.if-self-ne-NAME.false (most-least 64 c.args.self.now.variables c.min-count.ensures)
          (rw c.next-t.ensures at c.number_in-n.ensures) a.k c.if-n-ge-VARIABLES.true c.refused_at.ensures;
      ahead = λ h. ahead-refused-at a.text.now r 21 c.refused_at.ensures h;
    }

pub returns-then-self-ne0-2 : goal.returns-then-self-ne0-2
returns-then-self-ne0-2 c =
    let a = c.args in
    let r = a.self.now in record {
      numbers = λ h.
          took_numbers a.text.now a.k r c.taken.ensures
          (variable-stopped a.text.now a.names.now r (next_of r) c.if-self-ne0.false h c.if-self-ne-NAME.false (most-least 64 c.args.self.now.variables c.min-count.ensures)
          (rw c.next-t.ensures at c.number_in-n.ensures) a.k c.if-n-ge-VARIABLES.false refl
          (λ y. c.if-self-ne0-2.true (ap (λ q. q.number) c.taken.ensures ∙ took_number a.text.now a.k r ∙ y)));
      ahead = λ h. ahead-took a.text.now r a.k c.taken.ensures h;
    }

pub returns : goal.returns
returns c =
    let a = c.args in
    let r = a.self.now in
    let m = c.count_with-self.result in
    let n = c.number_in-n.result in
    let is = ap (named_variable m n) c.taken.ensures in record {
      numbers = λ h.
          took-variable a.text.now a.k r m n is
          (variable-named a.text.now a.names.now r (next_of r) c.if-self-ne0.false h c.if-self-ne-NAME.false (most-least 64 c.args.self.now.variables c.min-count.ensures)
          (rw c.next-t.ensures at c.number_in-n.ensures) a.k c.if-n-ge-VARIABLES.false refl
          (sym (took_number a.text.now a.k r) ∙ sym (ap (λ q. q.number) c.taken.ensures) ∙ c.if-self-ne0-2.false) (rw c.next-t.ensures at c.with_name.ensures)
          c.count_with-self.ensures refl);
      ahead = λ h. ahead-variable a.text.now (took_by a.text.now a.k r) m n is (ahead-took a.text.now r a.k refl h);
    }
