-- The operators' table (01, "Operators: 1 +, 2 -, 3 ×, 4 <, 5 ≤, 6 =, 7 ≠, 8 ≥, 9 >, 10 and, 11 or"; 000, T-OP and E-OP).
-- Assumes nothing: these are definitions.
use Rattle.std.specs.Prelude.{◌≡◌, ◌≢◌, ◌↔◌, ℕ, ◌≤◌, Bool, true, ◌&&◌, ◌||◌, ℤ, ◌+ℤ◌, ◌-ℤ◌, ◌*ℤ◌}
use Rattle.std.specs.Int.Signed.{lt_z, le_z}
use Rattle.words.specs.Range.{fits}
use Rattle.tables.specs.declared.Value.{Value}
use Rattle.tables.specs.declared.Value.TheVariants.{Bool as Truth, Int}
use Rattle.tables.specs.declared.Kind.{Kind}
use Rattle.tables.specs.declared.Kind.TheVariants.{Bool as is_bool, Int as is_int, Ref as is_ref}
use Rattle.rules.specs.Evaluation.{kind_of}

-- T-OP: the operator takes operands of the first two kinds, and gives the third: "Operators 1 to 5, 8 and 9 want integers, 10 and 11 booleans";
-- 02, W4: "operators 6 and 7 want two integers, two booleans or two nils"
pub data Gives : ℕ → Kind → Kind → Kind → Type 0 where
  number : {o : ℕ} → 1 ≤ o → o ≤ 3 → Gives o is_int is_int is_int
  order : {o : ℕ} → 4 ≤ o → o ≤ 5 → Gives o is_int is_int is_bool
  equality : {o : ℕ} {k : Kind} → 6 ≤ o → o ≤ 7 → k ≢ is_ref → Gives o k k is_bool
  reverse : {o : ℕ} → 8 ≤ o → o ≤ 9 → Gives o is_int is_int is_bool
  logic : {o : ℕ} → 10 ≤ o → o ≤ 11 → Gives o is_bool is_bool is_bool

-- E-OP: the operator makes the third value of the first two; "each result of 1 to 3 must fit 32 bits signed"
pub data Makes : ℕ → Value → Value → Value → Type 0 where
  plus : {m n : ℤ} → fits (m +ℤ n) ≡ true → Makes 1 (Int m) (Int n) (Int (m +ℤ n))
  minus : {m n : ℤ} → fits (m -ℤ n) ≡ true → Makes 2 (Int m) (Int n) (Int (m -ℤ n))
  times : {m n : ℤ} → fits (m *ℤ n) ≡ true → Makes 3 (Int m) (Int n) (Int (m *ℤ n))
  less : {m n : ℤ} → Makes 4 (Int m) (Int n) (Truth (lt_z m n))
  at_most : {m n : ℤ} → Makes 5 (Int m) (Int n) (Truth (le_z m n))
  -- two of one kind, and no references
  equal : {a b : Value} {t : Bool} → kind_of a ≡ kind_of b → kind_of a ≢ is_ref → (t ≡ true) ↔ (a ≡ b) → Makes 6 a b (Truth t)
  unequal : {a b : Value} {t : Bool} → kind_of a ≡ kind_of b → kind_of a ≢ is_ref → (t ≡ true) ↔ (a ≢ b) → Makes 7 a b (Truth t)
  at_least : {m n : ℤ} → Makes 8 (Int m) (Int n) (Truth (le_z n m))
  more : {m n : ℤ} → Makes 9 (Int m) (Int n) (Truth (lt_z n m))
  both : {a b : Bool} → Makes 10 (Truth a) (Truth b) (Truth (a && b))
  either : {a b : Bool} → Makes 11 (Truth a) (Truth b) (Truth (a || b))
