-- What is claimed of the whole output. Assumes nothing: these are statements.
use Rattle.std.specs.Prelude.{◌≡◌, List, ℕ, ◌≤◌, length, take}
use Rattle.lister.specs.Listing.{Listed, listing_bytes}
use Rattle.lister.specs.Sheets.{input_text, output_text}
use Rattle.sheet.specs.Answering.{answer_to}

-- whatever the text, 30,930 bytes are enough for the whole output: the bytes that are counted are it
abbrev pub Whole : Type 0
Whole = (t before after : List ℕ) (n : ℕ) → listing_bytes ≤ length before → Listed (answer_to t) before after n → take n after ≡ answer_to t

-- "Input, whole", "Output, whole"
abbrev pub Shown : Type 0
Shown = answer_to input_text ≡ output_text
