use mathlib.Core.Path.{sym, ◌∙◌}
use Rattle.words.proofs.Signed.{back32}
use Rattle.phases.specs.Told.{state_seen}
use Rattle.solvers.proofs.OpenLaws.{opens-wrong, opens-unread, opens-unnamed, opens-begins, opens-early}
use Rattle.solvers.proofs.whole.opens.Goals as goal

pub returns-then-not-are_sized : goal.returns-then-not-are_sized
returns-then-not-are_sized c = opens-wrong c.args.program.now c.args.word (state_seen c.args.t.now) (sym c.are_sized.ensures ∙ c.if-not-are_sized.true)

pub returns-then-not-is_named : goal.returns-then-not-is_named
returns-then-not-is_named c =
    rw (back32 c.args.word c.ranges.word) (opens-unnamed c.args.program.now c.args.word (state_seen c.args.t.now) (sym c.are_sized.ensures ∙ c.if-not-are_sized.false) c.read_program.ensures c.in_default.is (rw (back32 c.args.word c.ranges.word) at (sym c.is_named.ensures) ∙ c.if-not-is_named.true))

pub returns-in-Err : goal.returns-in-Err
returns-in-Err c =
    rw (back32 c.word_of.result (record { sfits = c.word_of.type_inv })) (opens-unread c.args.program.now c.args.word (state_seen c.args.t.now) (sym c.are_sized.ensures ∙ c.if-not-are_sized.false) c.read_program.ensures c.in-Err.is c.word_of.ensures)

pub returns-in-Ok : goal.returns-in-Ok
returns-in-Ok c = opens-begins c.args.program.now c.args.word (state_seen c.args.t.now) (sym c.are_sized.ensures ∙ c.if-not-are_sized.false) c.read_program.ensures c.in_default.is (rw (back32 c.args.word c.ranges.word) at (sym c.is_named.ensures) ∙ c.if-not-is_named.false) c.fits_at_start.ensures c.in-Ok.is

pub returns-in-Err-fits_at_start : goal.returns-in-Err-fits_at_start
returns-in-Err-fits_at_start c =
    rw (back32 c.word_of-in-Err-fits_at_start.result (record { sfits = c.word_of-in-Err-fits_at_start.type_inv })) (opens-early c.args.program.now c.args.word (state_seen c.args.t.now) (sym c.are_sized.ensures ∙ c.if-not-are_sized.false) c.read_program.ensures c.in_default.is (rw (back32 c.args.word c.ranges.word) at (sym c.is_named.ensures) ∙ c.if-not-is_named.false) c.fits_at_start.ensures c.in-Err-fits_at_start.is c.word_of-in-Err-fits_at_start.ensures)
