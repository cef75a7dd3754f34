-- Where the statements of a program are (01, "Lent tables": "A position is the word of an always-statement of that sort in the program").
-- A word is named by how many words are left from it on. Assumes nothing: these are definitions.
use Rattle.std.specs.Prelude.{ℕ, zero, suc, ◌-◌, Bool, false, cond, ◌&&◌, List, eqb, ltb, leb, ℤ, length, drop, Option, Some, None}
use Rattle.words.specs.Words.{number_at}
use Rattle.tables.specs.declared.Sort.{Sort}
use Rattle.tables.specs.declared.Sort.TheVariants.{Values, Identities}
use Rattle.tables.specs.Search.{every}
use Rattle.tables.specs.Kept.{kept_count, position_at}
use Rattle.fit.specs.Fit.{constraints_fit}
use Rattle.program.specs.Forms.{most_words, most_statements, block_depth, expression_depth}
use Rattle.program.specs.Forms.{verb_of}
use Rattle.program.specs.declared.Verb.{Verb}
use Rattle.program.specs.declared.Verb.TheVariants.{Skip as skip, Assign as assign, New as new, Always as always, Once as once, AlwaysSame as always_same, OnceSame as once_same, If as branch, While as loop, Unknown as no_verb}
use Rattle.program.specs.Reading.{read_expression, read_block, read_statement, after}
use Rattle.program.specs.declared.Spot.{Spot}

-- a statement whose verb has this number, and whose own blocks may nest so deep
abbrev pub spot_of : ℕ → ℕ → Option Spot
spot_of verb nest = Some (record { verb = verb; nest = nest })

abbrev pub or_else : Option Spot → Option Spot → Option Spot
or_else (Some spot) other = Some spot
or_else None other = other

-- the blocks of the statement at p; `inner` looks into a block, and `past` is the part after one
unfoldable pub spot_inside : (List ℤ → Option Spot) → (List ℤ → List ℤ) → List ℤ → Verb → Option Spot
spot_inside inner past p skip = None
spot_inside inner past p assign = None
spot_inside inner past p new = None
spot_inside inner past p always = None
spot_inside inner past p once = None
spot_inside inner past p always_same = None
spot_inside inner past p once_same = None
spot_inside inner past p branch =
    or_else (inner (after (read_expression expression_depth false (drop 1 p))))
    (inner (past (after (read_expression expression_depth false (drop 1 p)))))
spot_inside inner past p loop = inner (after (read_expression expression_depth false (drop 1 p)))
spot_inside inner past p no_verb = None

-- the statement at p, whose blocks nest at most `nest` deep, or one inside it
unfoldable pub spot_statement : (List ℤ → Option Spot) → ℕ → ℕ → List ℤ → Option Spot
spot_statement inner nest left p =
    cond (eqb (length p) left) (spot_of (number_at p 0) nest)
    (spot_inside inner (λ q. after (read_block nest q)) p (verb_of (number_at p 0)))

unfoldable pub spot_statements : (List ℤ → Option Spot) → ℕ → ℕ → ℕ → List ℤ → Option Spot
spot_statements inner nest left zero p = None
spot_statements inner nest left (suc n) p =
    or_else (spot_statement inner nest left p) (spot_statements inner nest left n (after (read_statement nest p)))

-- the statement of the block at p from which on `left` words are left: its verb's number, and how deep its own blocks may nest
unfoldable pub spot_block : ℕ → ℕ → List ℤ → Option Spot
spot_block zero left p = None
spot_block (suc d) left p =
    cond (leb (number_at p 0) most_statements) (spot_statements (λ q. spot_block d left q) d left (number_at p 0) (drop 1 p)) None

-- the statement of the program p that begins at this word
unfoldable pub statement_at : List ℤ → ℕ → Option Spot
statement_at p at = cond (ltb at (length p)) (spot_block block_depth (length p - at) p) None

-- the number of the always-statement of a sort
abbrev pub always_of : Sort → ℕ
always_of Values = 3
always_of Identities = 5

abbrev pub has_verb : ℕ → Option Spot → Bool
has_verb n (Some spot) = eqb spot.verb n
has_verb n None = false

-- the word is that of an always-statement of the sort
unfoldable pub is_always : List ℤ → Sort → ℕ → Bool
is_always p s at = has_verb (always_of s) (statement_at p at)

-- outcome 3 at place 2: the table's own shape, and each kept position; nothing stands in a program of too many words ("A program is one block, filling at most 4,096 words")
unfoldable pub positions_stand : List ℤ → List ℤ → Sort → Bool
positions_stand p c s = every (λ i. is_always p s (position_at c s i)) (kept_count c s)

unfoldable pub constraints_stand : List ℤ → List ℤ → Bool
constraints_stand p c = leb (length p) most_words && constraints_fit c && positions_stand p c Values && positions_stand p c Identities
