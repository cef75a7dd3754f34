-- A run from fresh tables is listed as it ended, and a text's numbers are the words that are run. Assumes nothing.
use mathlib.Core.Path.{◌≡◌, sym, ap, ◌∙◌}
use mathlib.Core.List.{List}
use Prim.Native.Nat.{ℕ}
use native.Mathlib.Omega.{arith}
use lib.IntN.{ℤ, pos}
use lib.ListN.{length, take}
use Rattle.words.specs.Words.{number_at}
use Rattle.words.proofs.Laws.{number_in}
use Rattle.tables.specs.Cells.{cells}
use Rattle.rules.specs.State.{State}
use Rattle.rules.specs.Start.{Ended, run}
use Rattle.phases.specs.Told.{tables}
use Rattle.run.specs.Told.{answer_of, Meets}
use Rattle.std.specs.Prelude.{Ok, Err}
use Rattle.lister.specs.declared.Input.{Input}
use Rattle.lister.specs.Reading.{InputRead, input_in}
use Rattle.lister.specs.Listing.{Listed, listing, unfit_text}
use Rattle.lister.proofs.StoredLaws.{program-stored, proposals-stored}
use Rattle.sheet.specs.Answering.{fresh_tables, ended_text, answer_to}

-- ---- the four words of an answer, as numbers

module _ (e : Ended) where
  outcome-is : number_at (answer_of e) 0 ≡ e.outcome
  outcome-is = sym (number_in (answer_of e) 0 (pos 0) (omega arith))

  place_is : number_at (answer_of e) 1 ≡ e.place
  place_is = sym (number_in (answer_of e) 1 (pos 0) (omega arith))

  steps-is : number_at (answer_of e) 2 ≡ e.steps
  steps-is = sym (number_in (answer_of e) 2 (pos 0) (omega arith))

  accepted-is : number_at (answer_of e) 3 ≡ e.accepted
  accepted-is = sym (number_in (answer_of e) 3 (pos 0) (omega arith))

pub four-words : {Z : State} {answer unread : List ℤ} {e : Ended} → Meets Z answer unread e → 4 ≡ length answer
four-words m = sym (ap length m.answers)

-- the listing of the four words and of the tables that a run leaves is that of how it ended
pub ended-listed : {E H K answer unread : List ℤ} {e : Ended} {before after : List ℕ} {a b c d n : ℕ} → Meets (tables E H K) answer unread e
    → a ≡ number_at answer 0 → b ≡ number_at answer 1 → c ≡ number_at answer 2 → d ≡ number_at answer 3
    → Listed (listing a b c d (cells E H) K) before after n → Listed (ended_text e) before after n
ended-listed {e = e} {before = before} {after = after} {n = n} m ha hb hc hd l =
    let s = m.leaves in
    let w = m.answers in
    let oa = ha ∙ ap (λ (r : List ℤ). number_at r 0) w ∙ outcome-is e in
    let ob = hb ∙ ap (λ (r : List ℤ). number_at r 1) w ∙ place_is e in
    let oc = hc ∙ ap (λ (r : List ℤ). number_at r 2) w ∙ steps-is e in
    let od = hd ∙ ap (λ (r : List ℤ). number_at r 3) w ∙ accepted-is e in
    rw (← oa, ← ob, ← oc, ← od, ← ap (λ (z : State). z.cells) s, ← ap (λ (z : State). z.kept) s) l

-- ---- the numbers of a text

-- an input that reads: its numbers are run
pub answer-reads : (t : List ℕ) {p p' q q' u v : List ℤ} {input : Input} {k : ℕ} {before after : List ℕ} → length p ≡ 4096 → length q ≡ 4096
    → InputRead (input_in t) p p' q q' (Ok input) → u ≡ take input.program p' → v ≡ take input.proposals q'
    → Listed (ended_text (run u v input.budget fresh_tables)) before after k → Listed (answer_to t) before after k
unfolding answer_to
answer-reads t lp lq r eu ev l = rw (← r.told, ← (eu ∙ program-stored t r lp), ← (ev ∙ proposals-stored t r lq)) l

-- an unfit input: its line is told
pub answer-unfit : (t : List ℕ) {p p' q q' : List ℤ} {line k : ℕ} {before after : List ℕ} → InputRead (input_in t) p p' q q' (Err line)
    → Listed (unfit_text line) before after k → Listed (answer_to t) before after k
unfolding answer_to
answer-unfit t r l = rw (← r.told) l
