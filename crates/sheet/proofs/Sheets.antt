-- Document 01's input gives document 01's output, byte for byte, by the sheets of the rules and of the lister. Assumes nothing.
use mathlib.Core.Path.{◌≡◌, ap, ◌∙◌}
use mathlib.Core.List.{List, [], ◌∷◌}
use Rattle.rules.specs.State.{fresh_state}
use Rattle.rules.specs.Start.{Ended, run}
use Rattle.rules.specs.Sheets.{K1, given, wanted}
use Rattle.rules.proofs.Sheets.{sheets-hold}
use Rattle.lister.proofs.Sheets.{input-sheet, output-sheet}
use Rattle.lister.specs.Reading.{Given}
use Rattle.sheet.specs.Answering.{fresh_tables, ended_text, answer_by, answer_to}
use Rattle.sheet.specs.Claims.{Shown}

first : Ended → List Ended → Ended
first e [] = e
first e (f ∷ fs) = f

k1 : run K1.program K1.proposals K1.budget fresh_tables ≡ K1.answer
unfolding given wanted fresh_state first
k1 = ap (first K1.answer) sheets-hold

pub shown : Shown
unfolding answer_to
shown = ap (λ (g : Given). answer_by g g.answer) input-sheet ∙ ap ended_text k1 ∙ output-sheet
