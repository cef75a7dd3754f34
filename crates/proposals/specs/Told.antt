-- What the code answers, and what it leaves of the tables, for what the rules answer of a proposal. A part is told by how many words are left in it.
-- Assumes nothing: these are definitions.
use Rattle.std.specs.Prelude.{ℕ, ◌+◌, ◌*◌, ◌≡◌, Bool, true, false, not, ◌||◌, List, ℤ, length, Option, Result, Ok, Err}
use Rattle.words.specs.Words.{word_at, number_at}
use Rattle.words.specs.Answer.{Answer, got, stop, ◌>>=◌, ◌>>◌, want}
use Rattle.tables.specs.Cells.{Cells}
use Rattle.rules.specs.State.{Res, refused, listed}
use Rattle.rules.specs.Constraints.{counted, required_hold}
use Rattle.rules.specs.Proposals.{Entry, entries_fit, applied, none?}
use Rattle.rules.specs.Proposals.{Asked as Asks}
use Rattle.program.specs.declared.Refusal.{Refusal}
use Rattle.expressions.specs.Judging.{own_in}
use Rattle.proposals.specs.declared.Asked.{Asked}

-- the pair number i, as an entry, and n pairs from the first on
unfoldable pub entry_at : List ℤ → ℕ → Entry
entry_at pairs i = record { location = number_at pairs (2 * i); payload = word_at pairs (2 * i + 1) }

abbrev pub entries_in : List ℤ → ℕ → List Entry
entries_in pairs n = listed (entry_at pairs) 0 n

-- whether there is an answer
abbrev pub answers : {E A : Type 0} → Answer E A → Bool
answers (got x) = true
answers (stop e) = false

-- how many pairs there are; or the refusal's number
abbrev pub formed_of : Answer ℕ (List Entry × List ℤ) → Result ℕ ℕ
formed_of (got x) = Ok (length x.0)
formed_of (stop n) = Err n

-- what a statement asks
abbrev pub asks_of : Asked → Asks
asks_of a = record { own = own_in a.own; target = a.target; room = a.room }

-- the end of the judge: the entries are applied, and each required part must be true
abbrev pub tried : List ℤ → List ℤ → Option (List ℤ) → List ℤ → Cells → List Entry → List ℤ → Res (Cells × List ℤ)
tried program kept own word S es rest = do
  after ← counted program kept own (applied S es)
  want (refused 19 word) (required_hold after)
  got (applied S es, rest)

-- the judge of entries that read, where every part was satisfied before them or not
abbrev pub judged : List ℤ → List ℤ → Asks → List ℤ → Cells → Bool → List Entry → List ℤ → Res (Cells × List ℤ)
judged program kept asked word S all es rest = do
  want (refused 17 word) (entries_fit S asked.target es)
  want (refused 18 word) (not all || none? es)
  tried program kept asked.own word S es rest

-- how many words are unread after it; or the refusal
abbrev pub settled_of : Res (Cells × List ℤ) → Result ℕ Refusal
settled_of (got x) = Ok (length x.1)
settled_of (stop f) = Err f

-- the tables after a proposal; those before it where it is refused
abbrev pub settled_cells : Cells → Res (Cells × List ℤ) → Cells
settled_cells S (got x) = x.0
settled_cells S (stop f) = S

pub record Settles (S Z : Cells) (r : Result ℕ Refusal) (m : Res (Cells × List ℤ)) : Type 0 where
  pub is : r ≡ settled_of m
  pub leaves : Z ≡ settled_cells S m
