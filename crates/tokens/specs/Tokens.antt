-- How the token that begins at a byte is found (docs/DECISIONS.md 74 to 79 and 92). What a token is stands apart, in Rules. Assumes nothing: these are definitions.
use Rattle.std.specs.Prelude.{ℕ, suc, ◌+◌, ◌-◌, Bool, cond, ◌&&◌, List, [], ◌∷◌, ltb, eqb, length, get_or, take, drop}
use Rattle.tokens.specs.declared.Piece.{Piece}
use Rattle.tokens.specs.declared.Token.{Token}
use Rattle.tokens.specs.Bytes.{is_lower, is_digit, is_named, run, trimmed}
use Rattle.tokens.specs.Codes.{end_code, name_code, number_code, no_token, too_long}
use Rattle.tokens.specs.Spelling.{code_of, keywords, pairs, singles}

abbrev pub piece : ℕ → ℕ → Piece
piece c n = record { code = c; length = n }

abbrev pub token : ℕ → ℕ → ℕ → Token
token c p e = record { code = c; place = p; end = e }

-- "At 65,536 bytes a text fits."
abbrev pub most_bytes : ℕ
most_bytes = 65536

-- ---- the bytes of a token

-- n bytes of a name, and one more where `?` follows
unfoldable pub asked_from : List ℕ → ℕ → ℕ
asked_from s n = cond (eqb (get_or s n 0) 63) (suc n) n

unfoldable pub name_length : List ℕ → ℕ
name_length s = asked_from s (run is_named s)

-- a name, or the keyword that is spelt so
unfoldable pub name_at : List ℕ → Piece
name_at s = piece (code_of name_code keywords (take (name_length s) s)) (name_length s)

-- "the longest fits first"
unfoldable pub single_at : ℕ → Piece
single_at b = piece (code_of no_token singles (b ∷ [])) 1

unfoldable pub mark_at : ℕ → List ℕ → Piece
mark_at b [] = single_at b
mark_at b (c ∷ s) = cond (eqb (code_of no_token pairs (b ∷ c ∷ [])) no_token) (single_at b) (piece (code_of no_token pairs (b ∷ c ∷ [])) 2)

-- "`-` directly before a digit, where an operand is due, belongs to the number."
unfoldable pub signs : Bool → List ℕ → Bool
signs due s = due && (eqb (get_or s 0 0) 45 && is_digit (get_or s 1 0))

-- the token that these bytes begin with
unfoldable pub token_at : Bool → List ℕ → Piece
token_at due [] = piece end_code 0
token_at due (b ∷ s) =
    cond (is_lower b) (name_at (b ∷ s))
    (cond (is_digit b) (piece number_code (run is_digit (b ∷ s)))
    (cond (signs due (b ∷ s)) (piece number_code (suc (run is_digit s)))
    (mark_at b s)))

-- ---- in a whole text

-- "A token that goes on past it is not judged."
unfoldable pub limited : Piece → ℕ → Token
limited p place = cond (ltb most_bytes (place + p.length)) (token too_long most_bytes most_bytes) (token p.code place (place + p.length))

-- the bytes behind the white space at a byte
unfoldable pub rest_from : List ℕ → ℕ → List ℕ
rest_from text at = trimmed (drop at text)

-- the first token from a byte on; "The end of the text is a token too, at the text's length."
unfoldable pub token_from : Bool → List ℕ → ℕ → Token
token_from due text at = limited (token_at due (rest_from text at)) (length text - length (rest_from text at))
