-- The bytes of a text: their classes, runs of a class, and parts (docs/DECISIONS.md 74 to 76). Assumes nothing: these are definitions.
use Rattle.std.specs.Prelude.{ℕ, suc, ◌-◌, Bool, true, false, cond, ◌&&◌, List, [], ◌∷◌, ltb, leb, eqb, length, take, drop}
use Rattle.tokens.specs.declared.Class.{Class}
use Rattle.tokens.specs.declared.Class.TheVariants.{White, Lower, Named, Digit}

-- ---- classes

unfoldable pub between : ℕ → ℕ → ℕ → Bool
between low high b = cond (ltb b low) false (leb b high)

-- "Space, tab, newline and carriage return."
unfoldable pub is_white : ℕ → Bool
is_white b = cond (eqb b 32) true (cond (eqb b 9) true (cond (eqb b 10) true (eqb b 13)))

abbrev pub is_lower : ℕ → Bool
is_lower b = between 97 122 b

abbrev pub is_upper : ℕ → Bool
is_upper b = between 65 90 b

abbrev pub is_digit : ℕ → Bool
is_digit b = between 48 57 b

-- "letters, digits and `_`"
unfoldable pub is_named : ℕ → Bool
is_named b = cond (is_lower b) true (cond (is_upper b) true (cond (is_digit b) true (eqb b 95)))

abbrev pub is_of : Class → ℕ → Bool
is_of White b = is_white b
is_of Lower b = is_lower b
is_of Named b = is_named b
is_of Digit b = is_digit b

-- ---- runs and parts

-- how many bytes at the front are of a class
unfoldable pub run : (ℕ → Bool) → List ℕ → ℕ
run p [] = 0
run p (b ∷ s) = cond (p b) (suc (run p s)) 0

-- the bytes behind white space
unfoldable pub trimmed : List ℕ → List ℕ
trimmed s = drop (run is_white s) s

-- the bytes from place on to the one before end
abbrev pub part : List ℕ → ℕ → ℕ → List ℕ
part text place end = take (end - place) (drop place text)

-- the same bytes
unfoldable pub spelt : List ℕ → List ℕ → Bool
spelt [] [] = true
spelt [] (b ∷ s) = false
spelt (x ∷ w) [] = false
spelt (x ∷ w) (b ∷ s) = eqb b x && spelt w s

-- the n bytes from a on and the n bytes from b on are there and the same
unfoldable pub same_in : List ℕ → ℕ → ℕ → ℕ → Bool
same_in text a b n = cond (ltb (length (take n (drop a text))) n) false (spelt (take n (drop a text)) (take n (drop b text)))
