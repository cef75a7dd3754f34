-- Cells and values (01, "Lent tables"). Assumes nothing: these are definitions.
use Rattle.std.specs.Prelude.{◌<◌, cond, eqb, ℤ, pos, None, Option, Some}
use Rattle.words.specs.Words.{number_of, word_of, eq_z}
use Rattle.tables.specs.Sizes.{no_number}
use Rattle.tables.specs.declared.Cell.{Cell}
use Rattle.tables.specs.declared.Value.{Value}
use Rattle.tables.specs.declared.Value.TheVariants.{Nil, Bool as Truth, Int, Ref}

abbrev pub cell : ℤ → ℤ → Cell
cell k p = record { kind = k; payload = p }

-- "A cell is two words, kind and payload: 0 absent (payload 0), 1 nil (0), 2 boolean (0 or 1), 3 integer, 4 reference."
unfoldable pub cell_of : Value → Cell
cell_of Nil = cell (pos 1) (pos 0)
cell_of (Truth b) = cell (pos 2) (cond b (pos 1) (pos 0))
cell_of (Int n) = cell (pos 3) n
cell_of (Ref r) = cell (pos 4) (word_of r)

abbrev pub absent : Cell
absent = cell (pos 0) (pos 0)

-- what a cell holds; a kind that no cell may have is read as absent
unfoldable pub slot_of : Cell → Option Value
slot_of c =
    cond (eqb (number_of c.kind) 1) (Some Nil)
    (cond (eqb (number_of c.kind) 2) (Some (Truth (eq_z c.payload (pos 1))))
    (cond (eqb (number_of c.kind) 3) (Some (Int c.payload))
    (cond (eqb (number_of c.kind) 4) (Some (Ref (number_of c.payload)))
    None)))

-- a value that a cell can hold: a reference is a number that a word can be
abbrev pub Sound : Value → Type 0
Sound Nil = Unit {0}
Sound (Truth b) = Unit {0}
Sound (Int n) = Unit {0}
Sound (Ref r) = r < no_number
