-- One statement with two proposals, by the rules (02, W6): the statement of document 01, with each of them. Assumes nothing: these are definitions.
use Rattle.std.specs.Prelude.{◌≡◌, ◌≢◌, ℕ, ◌≤◌, ℤ, pos, drop}
use mathlib.Core.List.{List, [], ◌∷◌, Memᴰ as OneOf}
use Rattle.program.specs.Grammar.{Program}
use Rattle.program.specs.Where.{spot_of, statement_at}
use Rattle.rules.specs.State.{State, Fault, refused}
use Rattle.rules.specs.Proposals.{Entry}
use Rattle.rules.specs.Statements.{Left, place_of}
use Rattle.rules.specs.Solvers.{Given}
use Rattle.rules.specs.Rules.Proposals.{Formed}
use Rattle.rules.specs.Rules.Statements.{Steps, Refused}
use Rattle.rules.specs.Rules.Answers.{Measured, Unstarted, Passes}

-- "one of statements 1 to 4, named by its word": p is the part of the program that begins at it
pub data Named (program : List ℤ) : ℤ → List ℤ → Type 0 where
  named : {k verb nest : ℕ} → 1 ≤ verb → verb ≤ 4 → statement_at program k ≡ spot_of verb nest → Named program (pos k) (drop k program)

-- ---- the statement at p with one slice, "each one whole proposal"

-- accepted, and no word is left
pub record Accepts (program : List ℤ) (S : State) (p ws : List ℤ) (l : Left) : Type 0 where
  pub steps : Steps program S ws p l
  pub whole : l.unread ≡ []

-- nothing but its proposal can refuse it any more: without a word it is 6
abbrev pub Asks : List ℤ → State → List ℤ → Type 0
Asks program S p = Refused program S [] p (refused 6 p)

abbrev pub turning : List ℕ
turning = 6 ∷ 16 ∷ 17 ∷ 18 ∷ 19 ∷ []

-- "refused by 6 or by 16 to 19"; "Words left after a proposal make it 16 here", before 17, 18 and 19
pub data TurnsDown (program : List ℤ) (S : State) (p ws : List ℤ) : Fault → Type 0 where
  fails : {f : Fault} → Refused program S ws p f → OneOf f.number turning → ((es : List Entry) (rest : List ℤ) → Formed ws es rest → rest ≡ []) → TurnsDown program S p ws f
  left_over : {w : ℤ} {es : List Entry} {rest : List ℤ} → Asks program S p → Formed ws es (w ∷ rest) → TurnsDown program S p ws (refused 16 p)

-- ---- with both

-- "which is also the place of 0"; "hands back the accepted words as a part of whichever slice they came from"
abbrev pub accepted : ℤ → ℕ → List ℤ → State → Given
accepted word solver ws Z = record { outcome = 0; place = word; solver = solver; words = ws; state = Z }

-- "On every refusal the part handed back is the empty start of the first slice."
abbrev pub turned_down : State → ℕ → ℤ → Given
turned_down S n place = record { outcome = n; place = place; solver = 0; words = []; state = S }

abbrev pub refusal : List ℤ → State → Fault → Given
refusal program S f = turned_down S f.number (pos (place_of program f))

pub data Tries (program : List ℤ) (word : ℤ) (first second : List ℤ) (S : State) (p : List ℤ) : Given → Type 0 where
  -- "The first is tried"
  t_first : {l : Left} → Accepts program S p first l → Tries program word first second S p (accepted word 1 first l.state)
  -- "if it is refused by 6 or by 16 to 19 .., the second"
  t_second : {f : Fault} {l : Left} → TurnsDown program S p first f → Accepts program S p second l → Tries program word first second S p (accepted word 2 second l.state)
  -- "the number is the second's, or the first's where the second slice is empty"
  t_both : {f g : Fault} → TurnsDown program S p first f → TurnsDown program S p second g → second ≢ [] → Tries program word first second S p (refusal program S g)
  t_no_second : {f : Fault} → TurnsDown program S p first f → second ≡ [] → Tries program word first second S p (refusal program S f)
  -- every other refusal is the statement's own
  t_refused : {f : Fault} → Refused program S first p f → (OneOf f.number turning → ⊥) → Tries program word first second S p (refusal program S f)

-- the call gives this; without a budget, the start is that of a run with 0
pub data Asked (program : List ℤ) (word : ℤ) (first second : List ℤ) (S : State) : Given → Type 0 where
  -- 1, and 2 for the program; 3 and 4 where the word names a statement
  unstarted : {n place : ℕ} → Unstarted program (pos 0) S n place → (3 ≤ n → (p : List ℤ) × Named program word p) → Asked program word first second S (turned_down S n (pos place))
  -- "any other word is 2 there"
  unnamed : Measured (pos 0) S → Program program → ((p : List ℤ) → Named program word p → ⊥) → Asked program word first second S (turned_down S 2 word)
  started : {p : List ℤ} {e : Given} → Passes program (pos 0) S → Named program word p → Tries program word first second S p e → Asked program word first second S e
