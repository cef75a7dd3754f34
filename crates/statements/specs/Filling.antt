-- The words of a new record's fields, as the code has them. Assumes nothing: these are definitions.
use Rattle.std.specs.Prelude.{ℕ, ◌*◌, ◌<◌, ◌≡◌, List, ℤ, Result, Ok, Err}
use Rattle.words.specs.Words.{word_at}
use Rattle.words.specs.Answer.{got, stop}
use Rattle.tables.specs.Sizes.{most_fields}
use Rattle.program.specs.declared.Refusal.{Refusal}
use Rattle.rules.specs.State.{Res}

-- label, kind and payload of each field
abbrev pub fields_words : ℕ
fields_words = 3 * most_fields

abbrev pub filled_of : Res (List ℤ) → Result (Unit {0}) Refusal
filled_of (got fs) = Ok tt
filled_of (stop f) = Err f

-- the fields of n labels and expressions; where they are evaluated, the first words of `fields` are theirs
pub record Fills (fields : List ℤ) (n : ℕ) (r : Result (Unit {0}) Refusal) (m : Res (List ℤ)) : Type 0 where
  pub is : r ≡ filled_of m
  pub same : (fs : List ℤ) → m ≡ got fs → (i : ℕ) → i < 3 * n → word_at fields i ≡ word_at fs i
