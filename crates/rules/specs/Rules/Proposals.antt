-- A proposal, by plain facts (01, "Proposal"): its form, the conditions on it, when it is accepted, and the number with which it is refused.
-- Assumes nothing: these are definitions.
use Rattle.std.specs.Prelude.{ℕ, suc, ◌≤◌, ◌<◌, ◌≡◌, true, false, List, [], ◌∷◌, ℤ, pos, Option, Some}
use Rattle.tables.specs.Sizes.{locations}
use Rattle.tables.specs.Values.{cell}
use Rattle.tables.specs.Cells.{Cells, cell_at, put_cell}
use Rattle.program.specs.Forms.{required}
use Rattle.rules.specs.State.{Fault, refused}
use Rattle.rules.specs.Constraints.{Part}
use Rattle.rules.specs.Proposals.{Entry, Asked}
use Rattle.rules.specs.Rules.Constraints.{CountedAre, Uncounted}
use Rattle.rules.specs.Effects.{OfKind}

pub data Each {A : Type 0} (P : A → Type 0) : List A → Type 0 where
  none : Each P []
  more : {x : A} {xs : List A} → P x → Each P xs → Each P (x ∷ xs)

-- ---- well formed: "n, then n pairs of location and payload .. They strictly increase, so n is 0 to 576"

-- n entries, whose locations rise from `low` on and are below 576
pub data EntriesAre : ℕ → ℕ → List ℤ → List Entry → List ℤ → Type 0 where
  no_more : {low : ℕ} {ws : List ℤ} → EntriesAre low 0 ws [] ws
  next : {low n l : ℕ} {payload : ℤ} {ws rest : List ℤ} {es : List Entry} → low ≤ l → l < locations → EntriesAre (suc l) n ws es rest
      → EntriesAre low (suc n) (pos l ∷ payload ∷ ws) (record { location = l; payload = payload } ∷ es) rest

pub data Formed : List ℤ → List Entry → List ℤ → Type 0 where
  formed : {n : ℕ} {ws rest : List ℤ} {es : List Entry} → EntriesAre 0 n ws es rest → Formed (pos n ∷ ws) es rest

-- the entries' payloads put in S, one after the other, leave Z
pub data Puts : Cells → List Entry → Cells → Type 0 where
  no_entry : {S : Cells} → Puts S [] S
  entry : {S Z : Cells} {e : Entry} {es : List Entry} → Puts (put_cell S e.location (cell (cell_at S e.location).kind e.payload)) es Z → Puts S (e ∷ es) Z

-- ---- an entry, a part

-- "Each names an integer or boolean cell and gives a different payload of the same kind"; "the target cell itself may not be changed by it"
pub record Allowed (S : Cells) (target : Option ℕ) (e : Entry) : Type 0 where
  pub kind : OfKind (cell_at S e.location) e.payload
  pub different : e.payload ≡ (cell_at S e.location).payload → ⊥
  pub other : target ≡ Some e.location → ⊥

abbrev pub Met : Part → Type 0
Met x = x.priority ≡ required → x.satisfied ≡ true

-- "If the state before the proposal already satisfies every part .. only n = 0 is allowed."
abbrev pub Needed : List Part → List Entry → Type 0
Needed before es = Each (λ x. x.satisfied ≡ true) before → es ≡ []

-- ---- accepted: S is the state before the proposal, in which the parts that count read as `before`; the words ws leave Z and the unread words

pub record Settles (program kept : List ℤ) (asked : Asked) (S : Cells) (ws : List ℤ) (Z : Cells) (rest : List ℤ) : Type 0 where
  pub before : List Part
  pub counts : CountedAre program kept S asked.own before
  pub room : asked.room ≡ true
  pub es : List Entry
  pub formed : Formed ws es rest
  pub allowed : Each (Allowed S asked.target) es
  pub needed : Needed before es
  pub puts : Puts S es Z
  pub after : List Part
  pub reads : CountedAre program kept Z asked.own after
  pub met : Each Met after

-- ---- refused: the parts do not read, there is no room for the position; else the number of the first condition on a proposal that fails

pub data Fails (program kept : List ℤ) (asked : Asked) (S : Cells) (before : List Part) (ws : List ℤ) : ℕ → Type 0 where
  no_words : ws ≡ [] → Fails program kept asked S before ws 6
  not_formed : (ws ≡ [] → ⊥) → ((es : List Entry) (rest : List ℤ) → Formed ws es rest → ⊥) → Fails program kept asked S before ws 16
  not_allowed : {es : List Entry} {rest : List ℤ} → Formed ws es rest → (Each (Allowed S asked.target) es → ⊥) → Fails program kept asked S before ws 17
  not_needed : {es : List Entry} {rest : List ℤ} → Formed ws es rest → Each (Allowed S asked.target) es → (Needed before es → ⊥) → Fails program kept asked S before ws 18
  not_met : {es : List Entry} {rest : List ℤ} {Z : Cells} {after : List Part} → Formed ws es rest → Each (Allowed S asked.target) es → Needed before es
      → Puts S es Z → CountedAre program kept Z asked.own after → (Each Met after → ⊥) → Fails program kept asked S before ws 19

-- `word` is the part at the statement's word
pub data Unsettled (program kept : List ℤ) (asked : Asked) (word : List ℤ) (S : Cells) (ws : List ℤ) : Fault → Type 0 where
  uncounted : {f : Fault} → Uncounted program kept S asked.own f → Unsettled program kept asked word S ws f
  no_room : {before : List Part} → CountedAre program kept S asked.own before → asked.room ≡ false → Unsettled program kept asked word S ws (refused 14 word)
  turned-down : {n : ℕ} {before : List Part}
      → CountedAre program kept S asked.own before → asked.room ≡ true → Fails program kept asked S before ws n → Unsettled program kept asked word S ws (refused n word)
