-- Parts of a text, numbers laid over a table, and bytes stored in a row. Assumes nothing: these are definitions.
use Rattle.std.specs.Prelude.{ℕ, ◌+◌, ◌≡◌, Bool, true, false, cond, ◌&&◌, List, [], ◌∷◌, ltb, eqb, length, set}

-- "one space between", "the last newline may be missing"
abbrev pub newline : ℕ
newline = 10

abbrev pub space : ℕ
space = 32

-- ---- parts

-- the bytes before the first b, all of them where there is none
unfoldable pub up_to : ℕ → List ℕ → List ℕ
up_to b [] = []
up_to b (x ∷ s) = cond (eqb x b) [] (x ∷ up_to b s)

-- the bytes after the first b, none where there is none
unfoldable pub past : ℕ → List ℕ → List ℕ
past b [] = []
past b (x ∷ s) = cond (eqb x b) s (past b s)

-- the pieces between the bytes b, one more than there are such bytes
abbrev pub on_first : ℕ → List (List ℕ) → List (List ℕ)
on_first x [] = (x ∷ []) ∷ []
on_first x (p ∷ ps) = (x ∷ p) ∷ ps

unfoldable pub pieces : ℕ → List ℕ → List (List ℕ)
pieces b [] = [] ∷ []
pieces b (x ∷ s) = cond (eqb x b) ([] ∷ pieces b s) (on_first x (pieces b s))

-- the text begins with the name
unfoldable pub begins : List ℕ → List ℕ → Bool
begins [] s = true
begins (x ∷ name) [] = false
begins (x ∷ name) (y ∷ s) = eqb y x && begins name s

-- ---- what is stored

-- the list xs laid over the first elements of s; what would pass the end is not laid
unfoldable pub laid : {A : Type 0} → List A → List A → List A
laid [] s = s
laid (x ∷ xs) [] = []
laid (x ∷ xs) (y ∷ s) = x ∷ laid xs s

-- bytes, and the place where the next one goes
pub record Buffer : Type 0 where
  pub bytes : List ℕ
  pub at : ℕ

abbrev pub buffer : List ℕ → ℕ → Buffer
buffer s n = record { bytes = s; at = n }

-- a byte more; past the end nothing is stored
unfoldable pub with_byte : Buffer → ℕ → Buffer
with_byte s b = cond (ltb s.at (length s.bytes)) (buffer (set s.bytes s.at b) (s.at + 1)) s

-- the bytes of a text more
unfoldable pub written : Buffer → List ℕ → Buffer
written s [] = s
written s (b ∷ t) = written (with_byte s b) t

-- the text t, written into s from the place `at` on, leaves s' and the place at'
pub record Puts (s : List ℕ) (at : ℕ) (t s' : List ℕ) (at' : ℕ) : Type 0 where
  pub is : buffer s' at' ≡ written (buffer s at) t
