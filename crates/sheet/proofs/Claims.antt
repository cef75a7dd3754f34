-- The output is written whole where there is room for a listing. Assumes nothing.
use mathlib.Core.List.{List}
use Prim.Native.Nat.{ℕ, ◌≤◌}
use native.Mathlib.Omega.{arith}
use lib.ListN.{length, drop}
use lib.Seq.{take-append_seam}
use Rattle.lister.specs.declared.Input.{Input}
use Rattle.std.specs.Prelude.{Result, Ok, Err}
use Rattle.lister.specs.Reading.{Given, input_in}
use Rattle.lister.specs.Listing.{listing_bytes}
use Rattle.lister.proofs.SizeLaws.{listing-length, unfit-length, listed-whole}
use Rattle.rules.specs.Start.{Ended, run}
use Rattle.sheet.specs.Answering.{fresh_tables, answer_by, answer_to}
use Rattle.sheet.specs.Claims.{Whole}

answer-length : (g : Given) (a : Result Input ℕ) → length (answer_by g a) ≤ listing_bytes
answer-length g (Ok input) =
    let e : Ended = run g.program g.proposals input.budget fresh_tables in
    listing-length e.outcome e.place e.steps e.accepted e.state.cells e.state.kept
answer-length g (Err line) = unfit-length line

text-length : (t : List ℕ) → length (answer_to t) ≤ listing_bytes
unfolding answer_to
text-length t = answer-length (input_in t) (input_in t).answer

pub whole : Whole
whole t before after n h l =
    let short : length (answer_to t) ≤ listing_bytes = text-length t in
    let stands = listed-whole l (omega arith) in
    rw (stands.1, stands.0) (take-append_seam (answer_to t) (drop (length (answer_to t)) before))
