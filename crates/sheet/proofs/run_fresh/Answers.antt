use Rattle.words.proofs.Signed.{back32}
use Rattle.sheet.proofs.AnswerLaws.{ended-listed, four-words}
use Rattle.sheet.proofs.run_fresh.Goals as goal

pub slice_bounds-number_at-end : goal.slice_bounds-number_at-end
slice_bounds-number_at-end c = four-words c.run.ensures

pub slice_bounds-number_at-end-2 : goal.slice_bounds-number_at-end-2
slice_bounds-number_at-end-2 c = four-words c.run.ensures

pub slice_bounds-number_at-end-3 : goal.slice_bounds-number_at-end-3
slice_bounds-number_at-end-3 c = four-words c.run.ensures

pub slice_bounds-number_at-end-4 : goal.slice_bounds-number_at-end-4
slice_bounds-number_at-end-4 c = four-words c.run.ensures

pub returns : goal.returns
returns c = ended-listed (rw (back32 c.args.budget c.ranges.budget) at c.run.ensures) c.number_at.ensures c.number_at-2.ensures c.number_at-3.ensures c.number_at-4.ensures c.write_listing.ensures
