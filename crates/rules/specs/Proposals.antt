-- A proposal (01, "Proposal"): 6, 16, 17, 18, 19, in this order. Assumes nothing: these are definitions.
use Rattle.std.specs.Prelude.{ℕ, zero, suc, Bool, true, false, not, cond, ◌&&◌, ◌||◌, List, [], ◌∷◌, eqb, ltb, leb, ℤ, pos, Option, None, Some}
use Rattle.words.specs.Words.{number_of, eq_z}
use Rattle.words.specs.Answer.{Answer, got, stop, ◌>>=◌, ◌>>◌, want}
use Rattle.tables.specs.declared.Cell.{Cell}
use Rattle.tables.specs.Sizes.{locations}
use Rattle.tables.specs.Values.{cell}
use Rattle.tables.specs.Cells.{Cells, cell_at, put_cell}
use Rattle.rules.specs.State.{Res, refused}
use Rattle.rules.specs.Evaluation.{at}
use Rattle.rules.specs.Constraints.{counted, all_hold, required_hold}

pub record Entry : Type 0 where
  pub location : ℕ
  pub payload : ℤ

-- "n pairs of location and payload"; "They strictly increase": locations from `low` on, up to 575
unfoldable pub entries : ℕ → ℕ → List ℤ → Answer ℕ (List Entry × List ℤ)
entries zero low ws = got ([], ws)
entries (suc n) low [] = stop 16
entries (suc n) low (l ∷ []) = stop 16
entries (suc n) low (l ∷ v ∷ ws) = do
  want 16 (leb low (number_of l) && ltb (number_of l) locations)
  (es, rest) ← entries n (suc (number_of l)) ws
  got (record { location = number_of l; payload = v } ∷ es, rest)

-- one proposal, and the unread words after it: 6 "no proposal words left"; "n is 0 to 576"
unfoldable pub proposal : List ℤ → Answer ℕ (List Entry × List ℤ)
proposal [] = stop 6
proposal (n ∷ ws) = want 16 (leb (number_of n) locations) >> entries (number_of n) 0 ws

-- a payload that a cell may take by a proposal: "Each names an integer or boolean cell and gives a different payload of the same kind"
unfoldable pub may_take : Cell → ℤ → Bool
may_take c w =
    cond (eqb (number_of c.kind) 2) (eq_z w (pos 0) || eq_z w (pos 1))
    (eqb (number_of c.kind) 3)
    && not (eq_z w c.payload)

abbrev pub is_target : Option ℕ → ℕ → Bool
is_target None l = false
is_target (Some t) l = eqb l t

-- 17 "an entry names a cell or payload it may not"; "the target cell itself may not be changed by it"
unfoldable pub entry_fits : Cells → Option ℕ → Entry → Bool
entry_fits S target e = may_take (cell_at S e.location) e.payload && not (is_target target e.location)

unfoldable pub entries_fit : Cells → Option ℕ → List Entry → Bool
entries_fit S target [] = true
entries_fit S target (e ∷ es) = entry_fits S target e && entries_fit S target es

unfoldable pub put_entry : Cells → Entry → Cells
put_entry S e = put_cell S e.location (cell (cell_at S e.location).kind e.payload)

unfoldable pub applied : Cells → List Entry → Cells
applied S [] = S
applied S (e ∷ es) = applied (put_entry S e) es

abbrev pub none? : {A : Type 0} → List A → Bool
none? [] = true
none? (x ∷ xs) = false

-- what a statement that reads a proposal asks: its own C, the cell that may not be changed, and whether there is room for its position
pub record Asked : Type 0 where
  pub own : Option (List ℤ)
  pub target : Option ℕ
  pub room : Bool

-- The one judge of a proposal. S is the state before it, after any identity phase; `word` is the part at the statement's word.
-- "If the state before the proposal already satisfies every part .. only n = 0 is allowed. Afterwards each required part must be true."
-- The answer is the state after it and the unread words.
unfoldable pub settle : List ℤ → List ℤ → Asked → List ℤ → Cells → List ℤ → Res (Cells × List ℤ)
settle program kept asked word S ws = do
  before ← counted program kept asked.own S
  want (refused 14 word) asked.room
  (es, rest) ← at word (proposal ws)
  want (refused 17 word) (entries_fit S asked.target es)
  want (refused 18 word) (not (all_hold before) || none? es)
  after ← counted program kept asked.own (applied S es)
  want (refused 19 word) (required_hold after)
  got (applied S es, rest)
