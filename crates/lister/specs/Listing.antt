-- The text of the output (01, "The run lister"), whole, for every answer and all tables. Assumes nothing: these are definitions.
use Rattle.std.specs.Prelude.{ℕ, zero, suc, ◌≡◌, cond, List, [], ◌∷◌, ◌++◌, leb, ℤ, length, None, Option, Some}
use Rattle.tables.specs.declared.Value.{Value}
use Rattle.tables.specs.declared.Value.TheVariants.{Nil, Bool as Truth, Int, Ref}
use Rattle.tables.specs.declared.Sort.{Sort}
use Rattle.tables.specs.declared.Sort.TheVariants.{Values, Identities}
use Rattle.tables.specs.Sizes.{variables, most_records}
use Rattle.tables.specs.Values.{slot_of}
use Rattle.tables.specs.Cells.{Cells, cell_at}
use Rattle.tables.specs.Records.{record_count, field_count, label_at, field_at}
use Rattle.tables.specs.Kept.{kept_count, position_at}
use Rattle.lister.specs.Bytes.{laid}
use Rattle.lister.specs.Numerals.{digits, numeral}
use Rattle.lister.specs.Reading.{proposals_name}

-- ---- a line

-- "Values print as `nil`, `bool 1`, `int -5`, `ref 0`."
unfoldable pub value_text : Value → List ℕ
value_text Nil = 110 ∷ 105 ∷ 108 ∷ []
value_text (Truth b) = 98 ∷ 111 ∷ 111 ∷ 108 ∷ 32 ∷ cond b 49 48 ∷ []
value_text (Int w) = (105 ∷ 110 ∷ 116 ∷ 32 ∷ []) ++ numeral w
value_text (Ref r) = (114 ∷ 101 ∷ 102 ∷ 32 ∷ []) ++ digits r

-- `=`, the value, and a newline
unfoldable pub given_text : Value → List ℕ
given_text v = (61 ∷ []) ++ value_text v ++ (10 ∷ [])

-- a name with its `=`, a number, and a newline
unfoldable pub named_line : List ℕ → ℕ → List ℕ
named_line name n = name ++ digits n ++ (10 ∷ [])

-- a letter with number i, `=`, a number, and a newline
unfoldable pub counted_line : ℕ → ℕ → ℕ → List ℕ
counted_line letter i n = (letter ∷ []) ++ digits i ++ named_line (61 ∷ []) n

-- ---- the tables

-- the texts of the numbers below n, in order
unfoldable pub each_below : (ℕ → List ℕ) → ℕ → List ℕ
each_below f zero = []
each_below f (suc n) = each_below f n ++ f n

-- a cell by its name; an absent cell prints nothing
abbrev pub cell_line : List ℕ → Option Value → List ℕ
cell_line name None = []
cell_line name (Some v) = name ++ given_text v

-- "v_n is a present variable"
unfoldable pub variable_text : Cells → ℕ → List ℕ
variable_text S x = cell_line ((118 ∷ []) ++ digits x) (slot_of (cell_at S x))

unfoldable pub variables_text : Cells → List ℕ
variables_text S = each_below (variable_text S) variables

-- "r_n.L a field by label in its own order"
unfoldable pub field_text : List ℤ → ℕ → ℕ → List ℕ
field_text h r f = cell_line ((114 ∷ []) ++ digits r ++ (46 ∷ []) ++ digits (label_at h r f)) (slot_of (field_at h r f))

unfoldable pub fields_text : List ℤ → ℕ → List ℕ
fields_text h r = each_below (field_text h r) (field_count h r)

-- "r_n a record's field count"
unfoldable pub record_text : List ℤ → ℕ → List ℕ
record_text h r = counted_line 114 r (field_count h r) ++ fields_text h r

-- the records that the heap has; no more than there is room for, whatever its count word says
unfoldable pub shown_records : List ℤ → ℕ
shown_records h = cond (leb (record_count h) most_records) (record_count h) most_records

unfoldable pub records_text : List ℤ → List ℕ
records_text h = each_below (record_text h) (shown_records h)

-- "c_n a kept position", "Then come identities, as `i0=`"
unfoldable pub positions_text : List ℤ → Sort → ℕ → List ℕ
positions_text c s letter = each_below (λ i. counted_line letter i (position_at c s i)) (kept_count c s)

unfoldable pub tables_text : Cells → List ℤ → List ℕ
tables_text S c = variables_text S ++ records_text S.heap ++ positions_text c Values 99 ++ positions_text c Identities 105

-- ---- the whole output

-- the names of the four numbers: `outcome=`, `place=`, `steps=`, and `proposals=` as in the input; and `input=`
abbrev pub outcome_name : List ℕ
outcome_name = 111 ∷ 117 ∷ 116 ∷ 99 ∷ 111 ∷ 109 ∷ 101 ∷ 61 ∷ []

abbrev pub place_name : List ℕ
place_name = 112 ∷ 108 ∷ 97 ∷ 99 ∷ 101 ∷ 61 ∷ []

abbrev pub steps_name : List ℕ
steps_name = 115 ∷ 116 ∷ 101 ∷ 112 ∷ 115 ∷ 61 ∷ []

abbrev pub input_name : List ℕ
input_name = 105 ∷ 110 ∷ 112 ∷ 117 ∷ 116 ∷ 61 ∷ []

unfoldable pub answer_text : ℕ → ℕ → ℕ → ℕ → List ℕ
answer_text outcome place steps proposals = named_line outcome_name outcome ++ named_line place_name place ++ named_line steps_name steps ++ named_line proposals_name proposals

unfoldable pub listing : ℕ → ℕ → ℕ → ℕ → Cells → List ℤ → List ℕ
listing outcome place steps proposals S c = answer_text outcome place steps proposals ++ tables_text S c

-- "an unfit line prints `input=` and the first unfit line's number"
unfoldable pub unfit_text : ℕ → List ℕ
unfit_text line = named_line input_name line

-- ---- what a writer promises

-- enough bytes for every listing
abbrev pub listing_bytes : ℕ
listing_bytes = 30930

-- the text is laid over the bytes from the first on, and the answer counts the bytes that were written
pub record Listed (text before after : List ℕ) (n : ℕ) : Type 0 where
  pub stored : after ≡ laid text before
  pub counted : n ≡ cond (leb (length text) (length before)) (length text) (length before)
