-- What is claimed of the whole output. Assumes nothing: these are statements.
use Rattle.std.specs.Prelude.{◌≡◌, List, ℕ, ◌≤◌, length, take}
use Rattle.lister.specs.Listing.{Listed}
use Rattle.typed.specs.Typing.{typed_to}

-- whatever the text, 65,537 bytes are enough for the whole output: the bytes that are counted are it
abbrev pub Whole : Type 0
Whole = (t before after : List ℕ) (n : ℕ) → 65537 ≤ length before → Listed (typed_to t) before after n → take n after ≡ typed_to t
