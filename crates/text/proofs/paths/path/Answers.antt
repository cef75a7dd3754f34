use mathlib.Core.Path.{refl, ◌∙◌}
use Rattle.text.proofs.DoesLaws.{does-from, does-to}
use Rattle.text.proofs.PathCode.{path-written}
use Rattle.text.proofs.AheadLaws.{ahead-wrote}
use Rattle.text.proofs.paths.path.Goals as goal

pub returns : goal.returns
returns c =
    record {
      piece = λ h. does-to c.put_number.ensures.names_after (path-written c.args.text.now c.args.r.now.lent.words c.args.r.now.lent.origins h c.variable.auto.names (c.variable.ensures.numbers h)
          c.write_number.ensures.words_after c.write_number.ensures.origins_after
          c.write_number.ensures.carried_after c.write.ensures.words_after c.write.ensures.origins_after c.write.ensures.carried_after
          (does-from (c.write.ensures.names_after ∙ c.write_number.ensures.names_after) (c.steps.ensures.piece
          (ahead-wrote c.args.text.now _ c.write.ensures.carried_after (ahead-wrote c.args.text.now _ c.write_number.ensures.carried_after (c.variable.ensures.ahead h)))))
          c.saturating_sub-n.ensures refl c.put_number.ensures.words_after
          c.put_number.ensures.origins_after);
      ahead = λ h. c.steps.ensures.ahead
          (ahead-wrote c.args.text.now _ c.write.ensures.carried_after (ahead-wrote c.args.text.now _ c.write_number.ensures.carried_after (c.variable.ensures.ahead h)));
    }
