use mathlib.Core.Path.{refl, sym, ap, ◌∙◌}
use Rattle.text.specs.Told.{next_of, took_by, named_label}
use Rattle.text.proofs.NamingLaws.{most-least}
use Rattle.text.proofs.ToldLaws.{numbers-stopped, label-unnamed, label-full, label-seen, label-stopped, label-named}
use Rattle.text.proofs.StateLaws.{took_number, took_numbers, took-label}
use Rattle.text.proofs.AheadLaws.{ahead-refused, ahead-refused-at, ahead-took, ahead-label}
use Rattle.text.proofs.Carried.label.Goals as goal

pub returns-then-self-ne0-clause-numbers : goal.returns-then-self-ne0-clause-numbers
returns-then-self-ne0-clause-numbers c =
    λ h. numbers-stopped c.if-self-ne0.true

pub returns-then-self-ne-NAME : goal.returns-then-self-ne-NAME
returns-then-self-ne-NAME c =
    let a = c.args in
    let r = a.self.now in record {
      numbers = λ h. label-unnamed a.text.now a.names.now r (next_of r) c.if-self-ne0.false h a.seen.now c.if-self-ne-NAME.true c.refused.ensures;
      ahead = λ h. ahead-refused a.text.now r c.refused.ensures h;
    }

pub returns-then-is_among : goal.returns-then-is_among
returns-then-is_among c =
    let a = c.args in
    let r = a.self.now in record {
      numbers = λ h.
          label-seen a.text.now a.names.now r (next_of r) c.if-self-ne0.false h c.if-self-ne-NAME.false (most-least 32 c.args.self.now.labels c.min-count.ensures)
          (rw c.next-t.ensures at c.number_in-n.ensures) a.seen.now (sym c.is_among.ensures ∙ c.if-is_among.true)
          c.refused-then-is_among.ensures;
      ahead = λ h. ahead-refused a.text.now r c.refused-then-is_among.ensures h;
    }

pub returns-then-n-ge-LABELS : goal.returns-then-n-ge-LABELS
returns-then-n-ge-LABELS c =
    let a = c.args in
    let r = a.self.now in record {
      numbers = λ h. label-full a.text.now a.names.now r (next_of r) c.if-self-ne0.false h c.if-self-ne-NAME.false (most-least 32 c.args.self.now.labels c.min-count.ensures)
          (rw c.next-t.ensures at c.number_in-n.ensures) a.seen.now (sym c.is_among.ensures ∙ c.if-is_among.false) c.if-n-ge-LABELS.true c.refused_at.ensures;
      ahead = λ h. ahead-refused-at a.text.now r 21 c.refused_at.ensures h;
    }

pub returns-then-self-ne0-2 : goal.returns-then-self-ne0-2
returns-then-self-ne0-2 c =
    let a = c.args in
    let r = a.self.now in record {
      numbers = λ h.
          took_numbers a.text.now 1 r c.taken.ensures
          (label-stopped a.text.now a.names.now r (next_of r) c.if-self-ne0.false h c.if-self-ne-NAME.false (most-least 32 c.args.self.now.labels c.min-count.ensures)
          (rw c.next-t.ensures at c.number_in-n.ensures) a.seen.now (sym c.is_among.ensures ∙ c.if-is_among.false) c.if-n-ge-LABELS.false refl
          (λ y. c.if-self-ne0-2.true (ap (λ q. q.number) c.taken.ensures ∙ took_number a.text.now 1 r ∙ y)));
      ahead = λ h. ahead-took a.text.now r 1 c.taken.ensures h;
    }

pub returns : goal.returns
returns c =
    let a = c.args in
    let r = a.self.now in
    let m = c.count_with-self.result in
    let n = c.number_in-n.result in
    let is = ap (named_label m n) c.taken.ensures in record {
      numbers = λ h.
          took-label a.text.now 1 r m n is
          (label-named a.text.now a.names.now r (next_of r) c.if-self-ne0.false h c.if-self-ne-NAME.false (most-least 32 c.args.self.now.labels c.min-count.ensures)
          (rw c.next-t.ensures at c.number_in-n.ensures) a.seen.now (sym c.is_among.ensures ∙ c.if-is_among.false) c.if-n-ge-LABELS.false refl
          (sym (took_number a.text.now 1 r) ∙ sym (ap (λ q. q.number) c.taken.ensures) ∙ c.if-self-ne0-2.false) (rw c.next-t.ensures at c.with_name.ensures)
          c.count_with-self.ensures refl);
      ahead = λ h. ahead-label a.text.now (took_by a.text.now 1 r) m n is (ahead-took a.text.now r 1 refl h);
    }
