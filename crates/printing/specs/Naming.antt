-- The names of variables and labels, the bytes of signs, and in which order numbers are used (02, W5). Assumes nothing: these are definitions.
use Rattle.std.specs.Prelude.{ℕ, ◌+◌, ◌-◌, ◌*◌, Bool, not, cond, ◌||◌, List, [], ◌∷◌, ◌++◌, eqb, ltb, ℤ, get_or, set, take, drop, map}
use Rattle.words.specs.Words.{word_at, number_of}
use Rattle.lister.specs.Numerals.{digits, numeral}
use Rattle.printing.specs.declared.names.Naming.{Naming as View}
use Rattle.printing.specs.declared.names.Standing.{Standing}
use Rattle.printing.specs.declared.names.Standing.TheVariants.{Unused, Led, Early}
use Rattle.printing.specs.Signs.{Sign, blank, fixed, integer, variable, label}

-- "names as cordbasin_read gives them, over the bytes of source"
pub record Naming : Type 0 where
  pub source : List ℕ
  pub names : List ℤ

abbrev pub naming : List ℕ → List ℤ → Naming
naming source names = record { source = source; names = names }

-- the naming that the code lends from function to function
abbrev pub naming_of : View → Naming
naming_of v = naming v.source.now v.names.now

-- variables are numbers 0 to 63 and labels 64 to 95, as 24's place has them: words 2i and 2i + 1 are number i's
abbrev pub numbers : ℕ
numbers = 96

abbrev pub first_label : ℕ
first_label = 64

unfoldable pub place_of : List ℤ → ℕ → ℕ
place_of names i = cond (ltb i numbers) (number_of (word_at names (2 * i))) 0

unfoldable pub length_of : List ℤ → ℕ → ℕ
length_of names i = cond (ltb i numbers) (number_of (word_at names (2 * i + 1))) 0

-- "length 0 means none is given"
abbrev pub is_given : Naming → ℕ → Bool
is_given N i = not (eqb (length_of N.names i) 0)

unfoldable pub given_name : Naming → ℕ → List ℕ
given_name N i = take (length_of N.names i) (drop (place_of N.names i) N.source)

-- "then variable 3 is `v3` and label 3 `f3`"
unfoldable pub default_name : ℕ → List ℕ
default_name i = cond (ltb i first_label) (118 ∷ digits i) (102 ∷ digits (i - first_label))

unfoldable pub name_of : Naming → ℕ → List ℕ
name_of N i = cond (is_given N i) (given_name N i) (default_name i)

-- ---- the bytes of signs, and the numbers that are used

abbrev pub sign_bytes : Naming → Sign → List ℕ
sign_bytes N (blank s) = s
sign_bytes N (fixed c s) = s
sign_bytes N (integer z) = numeral z
sign_bytes N (variable x) = name_of N x
sign_bytes N (label l) = name_of N (first_label + l)

abbrev pub bytes_of : Naming → List Sign → List ℕ
bytes_of N [] = []
bytes_of N (s ∷ ss) = sign_bytes N s ++ bytes_of N ss

abbrev pub numbers_of : List Sign → List ℕ
numbers_of [] = []
numbers_of (blank s ∷ ss) = numbers_of ss
numbers_of (fixed c s ∷ ss) = numbers_of ss
numbers_of (integer z ∷ ss) = numbers_of ss
numbers_of (variable x ∷ ss) = x ∷ numbers_of ss
numbers_of (label l ∷ ss) = (first_label + l) ∷ numbers_of ss

-- ---- first appearances in reading order

-- the number that stands for a standing below
abbrev pub rank : Standing → ℕ
rank Unused = 0
rank Led = 1
rank Early = 2

abbrev pub ranks : List Standing → List ℕ
ranks seen = map rank seen

-- it is the first of its sort, or the number before it is used
unfoldable pub is_led : List ℕ → ℕ → Bool
is_led seen i = eqb i 0 || eqb i first_label || ltb 0 (get_or seen (i - 1) 0)

-- a number's standing is 0 where it is not used, 1 where it is and was led when it appeared first, and else 2
unfoldable pub noted : List ℕ → ℕ → List ℕ
noted seen i = cond (ltb 0 (get_or seen i 0)) seen (set seen i (cond (is_led seen i) 1 2))

unfoldable pub noted_all : List ℕ → List ℕ → List ℕ
noted_all seen [] = seen
noted_all seen (i ∷ is) = noted_all (noted seen i) is
