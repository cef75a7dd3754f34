use mathlib.Core.Path.{refl, ◌∙◌}
use Rattle.text.proofs.DoesLaws.{does-from}
use Rattle.text.proofs.AheadLaws.{ahead-wrote}
use Rattle.text.proofs.StatedCode.{stated-full, stated-path, stated-part}
use Rattle.text.proofs.constraints.stated.Goals as goal

pub returns-then-from-ge-ROW-clause-piece : goal.returns-then-from-ge-ROW-clause-piece
returns-then-from-ge-ROW-clause-piece c =
    λ h. stated-full c.args.text.now c.args.verb c.if-from-ge-ROW.true

pub returns-then-r-eq-NAME : goal.returns-then-r-eq-NAME
returns-then-r-eq-NAME c =
    record {
      piece = λ h.
          let i = ahead-wrote c.args.text.now c.take.new.self c.write_number.ensures.carried_after (c.take.ensures.ahead h) in
          stated-path c.args.text.now c.args.verb c.args.r.now.lent.names c.args.r.now.lent.words c.args.r.now.lent.origins
          c.if-from-ge-ROW.false c.requires h (c.take.ensures.follows h)
          refl c.write_number.ensures.words_after c.write_number.ensures.origins_after c.write_number.ensures.carried_after i c.if-r-eq-NAME.true
          (does-from c.write_number.ensures.names_after (c.path.ensures.piece i)) (c.stated_on.ensures.onward (c.path.ensures.ahead i));
      ahead = λ h.
          let i = ahead-wrote c.args.text.now c.take.new.self c.write_number.ensures.carried_after (c.take.ensures.ahead h) in
          c.stated_on.ensures.ahead (c.path.ensures.ahead i);
    }

pub returns : goal.returns
returns c =
    record {
      piece = λ h.
          let i = ahead-wrote c.args.text.now c.take.new.self c.write_number.ensures.carried_after (c.take.ensures.ahead h) in
          let l = ahead-wrote c.args.text.now c.owe.new.self c.write.ensures.carried_after (c.owe.ensures.ahead c.args.text.now i) in
          stated-part c.args.text.now c.args.verb c.args.r.now.lent.names c.args.r.now.lent.words c.args.r.now.lent.origins
          c.if-from-ge-ROW.false c.requires h (c.take.ensures.follows h)
          refl c.write_number.ensures.words_after c.write_number.ensures.origins_after c.write_number.ensures.carried_after i c.if-r-eq-NAME.false
          c.owe.ensures.owes c.write.ensures.words_after c.write.ensures.origins_after c.write.ensures.carried_after
          (does-from (c.write.ensures.names_after ∙ c.write_number.ensures.names_after) (c.part_at.ensures.piece l)) (c.constraint_on.ensures.onward (c.part_at.ensures.ahead l));
      ahead = λ h.
          let i = ahead-wrote c.args.text.now c.take.new.self c.write_number.ensures.carried_after (c.take.ensures.ahead h) in
          let l = ahead-wrote c.args.text.now c.owe.new.self c.write.ensures.carried_after (c.owe.ensures.ahead c.args.text.now i) in
          c.constraint_on.ensures.ahead (c.part_at.ensures.ahead l);
    }
