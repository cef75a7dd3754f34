-- The grammar of the input's text, in the words of document 01, "The run lister", and apart from how it is read. Assumes nothing: these are definitions.
use Rattle.std.specs.Prelude.{ℕ, suc, ◌+◌, ◌*◌, ◌<◌, ◌≤◌, List, [], ◌∷◌, ◌++◌, ℤ, pos, negsuc, length}
use Rattle.lister.specs.Reading.{most_numbers, most_bytes, program_name, proposals_name, budget_name}

-- "in decimal, without .. leading zeros": digits, of which the first is not 0, and the number that they are
pub data Digits : List ℕ → ℕ → Type 0 where
  first : {d : ℕ} → 1 ≤ d → d < 10 → Digits ((48 + d) ∷ []) d
  next : {s : List ℕ} {n d : ℕ} → Digits s n → d < 10 → Digits (s ++ ((48 + d) ∷ [])) (10 * n + d)

-- "Numbers are 32-bit words in decimal, without plus sign, leading zeros or -0"
pub data Numeral : List ℕ → ℤ → Type 0 where
  nought : Numeral (48 ∷ []) (pos 0)
  positive : {s : List ℕ} {n : ℕ} → Digits s n → n < 2147483648 → Numeral s (pos n)
  negative : {s : List ℕ} {n : ℕ} → Digits s (suc n) → n < 2147483648 → Numeral (45 ∷ s) (negsuc n)

-- "one space between"
pub data Row : List ℕ → List ℤ → Type 0 where
  last : {s : List ℕ} {w : ℤ} → Numeral s w → Row s (w ∷ [])
  more : {s t : List ℕ} {w : ℤ} {ws : List ℤ} → Numeral s w → Row t ws → Row (s ++ 32 ∷ t) (w ∷ ws)

-- "either list may be empty"
pub data Numbers : List ℕ → List ℤ → Type 0 where
  none : Numbers [] []
  some : {s : List ℕ} {ws : List ℤ} → Row s ws → Numbers s ws

-- a line of a list: its name, its numbers, "at most 4,096 numbers each"
pub data ListLine (name : List ℕ) : List ℕ → List ℤ → Type 0 where
  line : {s : List ℕ} {ws : List ℤ} → Numbers s ws → length ws ≤ most_numbers → ListLine name (name ++ s) ws

pub data BudgetLine : List ℕ → ℤ → Type 0 where
  line : {s : List ℕ} {w : ℤ} → Numeral s w → BudgetLine (budget_name ++ s) w

-- a text is a line and what follows its newline; "the last newline may be missing"
pub data Opens (s : List ℕ) : List ℕ → List ℕ → Type 0 where
  ended : {t : List ℕ} → Opens s (s ++ 10 ∷ t) t
  missing : Opens s s []

-- the first line of t is fit and gives ps; t' follows it. "1 for size"
pub record First (t : List ℕ) (ps : List ℤ) (t' : List ℕ) : Type 0 where
  pub small : length t ≤ most_bytes
  pub text : List ℕ
  pub line : ListLine program_name text ps
  pub opens : Opens text t t'

-- the first two lines are fit
pub record Second (t : List ℕ) (ps qs : List ℤ) (t' : List ℕ) : Type 0 where
  pub rest : List ℕ
  pub before : First t ps rest
  pub text : List ℕ
  pub line : ListLine proposals_name text qs
  pub opens : Opens text rest t'

-- all three are fit; "anything after line 3 makes line 3 unfit"
pub record Third (t : List ℕ) (ps qs : List ℤ) (w : ℤ) : Type 0 where
  pub rest : List ℕ
  pub before : Second t ps qs rest
  pub text : List ℕ
  pub line : BudgetLine text w
  pub opens : Opens text rest []

-- the number of the first unfit line: the lines before it are fit, and with it they are not
pub data FirstUnfit (t : List ℕ) : ℕ → Type 0 where
  one : ((ps : List ℤ) (t' : List ℕ) → First t ps t' → ⊥) → FirstUnfit t 1
  two : {ps : List ℤ} {t' : List ℕ} → First t ps t' → ((ps qs : List ℤ) (t' : List ℕ) → Second t ps qs t' → ⊥) → FirstUnfit t 2
  three : {ps qs : List ℤ} {t' : List ℕ} → Second t ps qs t' → ((ps qs : List ℤ) (w : ℤ) → Third t ps qs w → ⊥) → FirstUnfit t 3
