-- Which numbers are at fault, refusal 24 (02, W5). Assumes nothing: these are definitions.
use Rattle.std.specs.Prelude.{Option, Some, None, ℕ, zero, suc, ◌-◌, Bool, true, false, not, cond, ◌&&◌, ◌||◌, List, eqb, ltb, leb, ℤ, length, get_or, drop}
use Rattle.tokens.specs.Bytes.{spelt}
use Rattle.tokens.specs.Codes.{name_code}
use Rattle.tokens.specs.Tokens.{token_from}
use Rattle.printing.specs.Naming.{Naming, numbers, first_label, place_of, length_of, is_given, given_name, name_of}

-- "no name of W1, or longer than 65,536 bytes": all of the bytes are one token, which is a name; of more than 65,536 none is
unfoldable pub is_name : List ℕ → Bool
is_name s = eqb (token_from false s 0).code name_code && eqb (token_from false s 0).place 0 && eqb (token_from false s 0).end (length s)

-- "no part of source": a place below 0 is 2147483648, which no word is
unfoldable pub is_part : Naming → ℕ → Bool
is_part N i = not (eqb (place_of N.names i) 2147483648) && leb (length_of N.names i) (length (drop (place_of N.names i) N.source))

-- "its given name (used by the program or not)"
unfoldable pub is_fit : Naming → ℕ → Bool
is_fit N i = not (is_given N i) || (is_part N i && is_name (given_name N i))

-- "it is given a name or used"
unfoldable pub is_had : List ℤ → List ℕ → ℕ → Bool
is_had names seen i = not (eqb (length_of names i) 0) || ltb 0 (get_or seen i 0)

-- one of n numbers from j on is given a name or used, and has the name of i
unfoldable pub twin_from : Naming → List ℕ → ℕ → ℕ → ℕ → Bool
twin_from N seen i j zero = false
twin_from N seen i j (suc n) = cond (is_had N.names seen j && spelt (name_of N i) (name_of N j)) true (twin_from N seen i (suc j) n)

-- "has the name of an earlier number of its sort that is given one or used"
unfoldable pub has_twin : Naming → List ℕ → ℕ → Bool
has_twin N seen i = is_had N.names seen i && cond (ltb i first_label) (twin_from N seen i 0 i) (twin_from N seen i first_label (i - first_label))

-- "used by the program and is not 0 and the number before it is not used earlier": its standing is 2
unfoldable pub at_fault : Naming → List ℕ → ℕ → Bool
at_fault N seen i = not (is_fit N i) || eqb (get_or seen i 0) 2 || has_twin N seen i

-- "the first number at fault" of n from i on; the number behind them where there is none
unfoldable pub fault_from : Naming → List ℕ → ℕ → ℕ → ℕ
fault_from N seen i zero = i
fault_from N seen i (suc n) = cond (at_fault N seen i) i (fault_from N seen (suc i) n)

-- a number at fault, none where it lies behind them all
abbrev pub found : ℕ → Option ℕ
found i = cond (ltb i numbers) (Some i) None

-- how many of n numbers from i on are used
unfoldable pub used_from : List ℕ → ℕ → ℕ → ℕ
used_from seen i zero = 0
used_from seen i (suc n) = cond (ltb 0 (get_or seen i 0)) (suc (used_from seen (suc i) n)) (used_from seen (suc i) n)
