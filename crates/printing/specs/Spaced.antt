-- What makes the signs of a text fall apart into their tokens again, and the tokens that they are then. Assumes nothing: these are definitions on the way to what is claimed.
use Rattle.std.specs.Prelude.{ℕ, suc, ◌+◌, ◌≤◌, ◌<◌, ◌≡◌, true, false, List, [], ◌∷◌, ℤ, length}
use Rattle.tokens.specs.declared.Token.{Token}
use Rattle.tokens.specs.Bytes.{part, is_white, is_named}
use Rattle.tokens.specs.Codes.{name_code, number_code, colon_code, comma_code, dot_code, semicolon_code, open_brace_code, close_brace_code, open_bracket_code, close_bracket_code}
use Rattle.tokens.specs.Spelling.{row, keywords, pairs, singles}
use Rattle.tokens.specs.Rules.{All, In, is_question}
use Rattle.lister.specs.Numerals.{numeral}
use Rattle.text.specs.Reading.{due_after}
use Rattle.text.specs.Grammar.{Meaning}
use Rattle.printing.specs.Signs.{Sign, colon_sign}
use Rattle.printing.specs.Naming.{Naming, first_label, name_of}

-- ---- signs that stand apart

-- white space comes first
pub data Opened : List Sign → Type 0 where
  opened : {b : ℕ} {s : List ℕ} {ss : List Sign} → is_white b ≡ true → All is_white s → Opened (Sign.blank (b ∷ s) ∷ ss)

-- a name, a keyword or a number ends before these: nothing, white space, or a mark
pub data Ends : List Sign → Type 0 where
  over : Ends []
  spaced : {ss : List Sign} → Opened ss → Ends ss
  marked : {c b : ℕ} {s : List ℕ} {ss : List Sign} → is_named b ≡ false → is_question b ≡ false → Ends (Sign.fixed c (b ∷ s) ∷ ss)

-- marks of one byte that begin no mark of two
pub data Alone : ℕ → Type 0 where
  comma : Alone comma_code
  dot : Alone dot_code
  semicolon : Alone semicolon_code
  open_brace : Alone open_brace_code
  close_brace : Alone close_brace_code
  open_bracket : Alone open_bracket_code
  close_bracket : Alone close_bracket_code

-- a keyword or a mark, before these signs
pub data Fixed (ss : List Sign) : ℕ → List ℕ → Type 0 where
  keyword : {c b : ℕ} {s : List ℕ} → In (row (b ∷ s) c) keywords → Ends ss → Fixed ss c (b ∷ s)
  pair : {c a b : ℕ} → In (row (a ∷ b ∷ []) c) pairs → Fixed ss c (a ∷ b ∷ [])
  alone : {c b : ℕ} → In (row (b ∷ []) c) singles → Alone c → Fixed ss c (b ∷ [])
  single : {c b : ℕ} → In (row (b ∷ []) c) singles → Opened ss → Fixed ss c (b ∷ [])

-- no `:` comes first
pub data Uncoloned : List Sign → Type 0 where
  over : Uncoloned []
  spaced : {s : List ℕ} {ss : List Sign} → Uncoloned ss → Uncoloned (Sign.blank s ∷ ss)
  marked : {c : ℕ} {s : List ℕ} {ss : List Sign} → (c ≡ colon_code → ⊥) → Uncoloned (Sign.fixed c s ∷ ss)
  integer : {z : ℤ} {ss : List Sign} → Uncoloned (Sign.integer z ∷ ss)
  variable : {x : ℕ} {ss : List Sign} → Uncoloned (Sign.variable x ∷ ss)
  label : {l : ℕ} {ss : List Sign} → Uncoloned (Sign.label l ∷ ss)

-- behind a token of code `last`: each sign is one token where it stands, a sign belongs to the integer before which an operand is due, and a name is a label exactly behind `.` and
-- before `:`
pub data Fine : ℕ → List Sign → Type 0 where
  none : {last : ℕ} → Fine last []
  blank : {last : ℕ} {s : List ℕ} {ss : List Sign} → All is_white s → Fine last ss → Fine last (Sign.blank s ∷ ss)
  fixed : {last c : ℕ} {s : List ℕ} {ss : List Sign} → (c ≡ name_code → ⊥) → Fixed ss c s → Fine c ss → Fine last (Sign.fixed c s ∷ ss)
  integer : {last : ℕ} {z : ℤ} {ss : List Sign} → due_after last ≡ true → Ends ss → Fine number_code ss → Fine last (Sign.integer z ∷ ss)
  variable : {last x : ℕ} {ss : List Sign} → (last ≡ dot_code → ⊥) → Ends ss → Uncoloned ss → Fine name_code ss → Fine last (Sign.variable x ∷ ss)
  behind_dot : {l : ℕ} {ss : List Sign} → Ends ss → Fine name_code ss → Fine dot_code (Sign.label l ∷ ss)
  before_colon : {last l : ℕ} {ss : List Sign} → (last ≡ dot_code → ⊥) → Fine name_code (colon_sign ∷ ss) → Fine last (Sign.label l ∷ colon_sign ∷ ss)

-- ---- the tokens that signs are

-- a token of a text that is spelt so
pub record Spelling (text : List ℕ) (s : List ℕ) (t : Token) : Type 0 where
  pub spelt : part text t.place t.end ≡ s
  pub whole : t.place < t.end
  pub inside : t.end ≤ length text

-- one for each sign but white space, with its code, and its bytes where these matter
pub data Spells (N : Naming) (text : List ℕ) : List Sign → List Token → Type 0 where
  none : Spells N text [] []
  blank : {s : List ℕ} {ss : List Sign} {ts : List Token} → Spells N text ss ts → Spells N text (Sign.blank s ∷ ss) ts
  fixed : {c : ℕ} {s : List ℕ} {ss : List Sign} {t : Token} {ts : List Token} → t.code ≡ c → Spells N text ss ts → Spells N text (Sign.fixed c s ∷ ss) (t ∷ ts)
  integer : {z : ℤ} {ss : List Sign} {t : Token} {ts : List Token}
      → t.code ≡ number_code → Spelling text (numeral z) t → Spells N text ss ts → Spells N text (Sign.integer z ∷ ss) (t ∷ ts)
  variable : {x : ℕ} {ss : List Sign} {t : Token} {ts : List Token}
      → t.code ≡ name_code → Spelling text (name_of N x) t → Spells N text ss ts → Spells N text (Sign.variable x ∷ ss) (t ∷ ts)
  label : {l : ℕ} {ss : List Sign} {t : Token} {ts : List Token}
      → t.code ≡ name_code → Spelling text (name_of N (first_label + l)) t → Spells N text ss ts → Spells N text (Sign.label l ∷ ss) (t ∷ ts)

-- the same with what names and numbers stand for
pub data Tells (M : Meaning) : List Sign → List Token → Type 0 where
  none : Tells M [] []
  blank : {s : List ℕ} {ss : List Sign} {ts : List Token} → Tells M ss ts → Tells M (Sign.blank s ∷ ss) ts
  fixed : {c : ℕ} {s : List ℕ} {ss : List Sign} {t : Token} {ts : List Token} → t.code ≡ c → Tells M ss ts → Tells M (Sign.fixed c s ∷ ss) (t ∷ ts)
  integer : {z : ℤ} {ss : List Sign} {t : Token} {ts : List Token} → t.code ≡ number_code → M.integer t ≡ z → Tells M ss ts → Tells M (Sign.integer z ∷ ss) (t ∷ ts)
  variable : {x : ℕ} {ss : List Sign} {t : Token} {ts : List Token} → t.code ≡ name_code → M.variable t ≡ x → Tells M ss ts → Tells M (Sign.variable x ∷ ss) (t ∷ ts)
  label : {l : ℕ} {ss : List Sign} {t : Token} {ts : List Token} → t.code ≡ name_code → M.label t ≡ l → Tells M ss ts → Tells M (Sign.label l ∷ ss) (t ∷ ts)

-- tokens with the names of these numbers, of the sort whose number n is called `name n`
pub data Called (text : List ℕ) (name : ℕ → List ℕ) : List Token → List ℕ → Type 0 where
  none : Called text name [] []
  more : {t : Token} {ts : List Token} {x : ℕ} {xs : List ℕ} → t.code ≡ name_code → Spelling text (name x) t → Called text name ts xs → Called text name (t ∷ ts) (x ∷ xs)

-- numbers whose first appearances run on from k to n without a gap
pub data InOrder : ℕ → List ℕ → ℕ → Type 0 where
  none : {k : ℕ} → InOrder k [] k
  old : {k x n : ℕ} {xs : List ℕ} → x < k → InOrder k xs n → InOrder k (x ∷ xs) n
  new : {k n : ℕ} {xs : List ℕ} → InOrder (suc k) xs n → InOrder k (k ∷ xs) n

-- the variables and the labels that signs use, each by its own number
abbrev pub variables_of : List Sign → List ℕ
variables_of [] = []
variables_of (Sign.blank s ∷ ss) = variables_of ss
variables_of (Sign.fixed c s ∷ ss) = variables_of ss
variables_of (Sign.integer z ∷ ss) = variables_of ss
variables_of (Sign.variable x ∷ ss) = x ∷ variables_of ss
variables_of (Sign.label l ∷ ss) = variables_of ss

abbrev pub labels_of : List Sign → List ℕ
labels_of [] = []
labels_of (Sign.blank s ∷ ss) = labels_of ss
labels_of (Sign.fixed c s ∷ ss) = labels_of ss
labels_of (Sign.integer z ∷ ss) = labels_of ss
labels_of (Sign.variable x ∷ ss) = labels_of ss
labels_of (Sign.label l ∷ ss) = l ∷ labels_of ss
