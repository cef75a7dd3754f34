-- What is written: words, and the places that they come from, one after the other. Assumes nothing: these are definitions.
use Rattle.std.specs.Prelude.{◌≡◌, ℕ, zero, suc, ◌+◌, ◌-◌, ◌≤◌, Bool, cond, ◌||◌, List, [], ◌∷◌, ltb, set, get_or, take, drop}
use Rattle.words.specs.Answer.{got}
use Rattle.program.specs.Forms.{most_words}
use Rattle.text.specs.Reading.{passing, owing}
use Rattle.text.specs.declared.Carried.{Carried}
use Rattle.text.specs.Told.{Follows}

-- how many words the rows hold: those that may be certain, and more than can be owed
abbrev pub row : ℕ
row = 4100

-- what is written from a word on
unfoldable pub since : {A : Type 0} → ℕ → List A → Carried → List A
since from ws r = take (r.written - from) (drop from ws)

-- one more
unfoldable pub with1 : {A : Type 0} → List A → Carried → A → List A
with1 ws r w = cond (ltb r.written row) (set ws r.written w) ws

abbrev pub one_more : Carried → Carried
one_more r = record r { written = r.written + 1 }

unfoldable pub wrote_one : Carried → Carried
wrote_one r = cond (ltb r.written row) (one_more r) r

-- the same reader, whose next token passes a limit where b says so, exactly
abbrev pub pass_by : Bool → Carried → Carried
pass_by b r = record r { passed = r.passed || b }

-- the same reader, whose next token passes a limit where b says so; and one that owes k words more, where what it owes is no more than there may be
abbrev pub Passes : Bool → Carried → Carried → Type 0
Passes b r s = Follows r (λ q. got (passing b q)) s

abbrev pub Owes : ℕ → Carried → Carried → Type 0
Owes k r s = (r.number ≡ 0 → r.owed ≤ most_words) → k ≤ most_words → Follows r (λ q. got (owing k q)) s

-- n words from a word on, k further up, the last of them first
unfoldable pub raised : {A : Type 0} → A → ℕ → ℕ → ℕ → List A → List A
raised z from k zero ws = ws
raised z from k (suc n) ws = raised z from k n (set ws (from + n + k) (get_or ws (from + n) z))

-- these, from a word on
unfoldable pub filled : {A : Type 0} → ℕ → List A → List A → List A
filled from [] ws = ws
filled from (w ∷ gap) ws = filled (suc from) gap (set ws from w)

-- the same reader, whose expression is d deep; and with n as the number that was read last
abbrev pub deep_by : ℕ → Carried → Carried
deep_by d r = record r { depth = d }

abbrev pub numbered_by : ℕ → Carried → Carried
numbered_by n r = record r { named = n }
