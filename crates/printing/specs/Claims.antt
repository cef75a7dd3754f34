-- What is claimed of a written program. Assumes nothing: these are statements.
use Rattle.std.specs.Prelude.{ℕ, suc, ◌+◌, ◌≤◌, ◌<◌, ◌≡◌, ◌↔◌, true, false, cond, List, [], ◌∷◌, ◌++◌, ℤ, eqb, length}
use Rattle.words.specs.Answer.{got, stop}
use Rattle.words.specs.Range.{fits}
use Rattle.tables.specs.Sizes.{variables, labels}
use Rattle.program.specs.Reading.{read_program}
use Rattle.tokens.specs.declared.Token.{Token}
use Rattle.tokens.specs.Codes.{open_bracket_code}
use Rattle.tokens.specs.Tokens.{most_bytes}
use Rattle.text.specs.Reading.{Form, Reader, text_at}
use Rattle.text.specs.Whole.{name_words}
use Rattle.text.specs.Grammar.{Meaning}
use Rattle.text.specs.Grammar.{Text as Reads}
use Rattle.printing.specs.Signs.{Sign, blank, fixed, integer, variable, label}
use Rattle.printing.specs.Printing.{program_text}
use Rattle.printing.specs.Rules.{Text}
use Rattle.printing.specs.Naming.{Naming, naming, numbers, first_label, is_given, given_name, name_of, numbers_of}
use Rattle.printing.specs.Faults.{is_name, is_part, used_from}
use Rattle.printing.specs.Whole.{Answered, text_of, standings, first_fault, refused, accepted, write}

-- the words of a lent program fit 32 bits
pub data Words : List ℤ → Type 0 where
  none : Words []
  more : {w : ℤ} {ws : List ℤ} → fits w ≡ true → Words ws → Words (w ∷ ws)

-- ---- the definition writes what the rules say

abbrev pub PrintedExactly : Type 0
PrintedExactly = (p : List ℤ) → read_program p ≡ got tt → (ss : List Sign) → (program_text p ≡ ss) ↔ Text p ss

-- ---- what is written is read back

-- the names that cordbasin_read tells of a text
abbrev pub told_names : Reader → List ℤ
told_names r = name_words variables r.variables ++ name_words labels r.labels

-- "What is written is read by W1 to the same words, with the same numbers of variables and labels, and writing what was read from it gives the same bytes."
pub record ReadBack (N : Naming) (p : List ℤ) : Type 0 where
  pub form : Form
  pub reader : Reader
  pub reads : text_at (text_of N p) ≡ got (form, reader)
  pub words : form.words ≡ p
  pub variable_count : length reader.variables ≡ used_from (standings p) 0 first_label
  pub label_count : length reader.labels ≡ used_from (standings p) first_label labels
  pub fit : first_fault (naming (text_of N p) (told_names reader)) p ≡ numbers
  pub again : text_of (naming (text_of N p) (told_names reader)) p ≡ text_of N p

abbrev pub ReadsBack : Type 0
ReadsBack = (N : Naming) (p : List ℤ) → Words p → read_program p ≡ got tt → first_fault N p ≡ numbers → length (text_of N p) ≤ most_bytes → ReadBack N p

-- ---- "fewest brackets"

abbrev pub brackets_in : List Sign → ℕ
brackets_in [] = 0
brackets_in (blank s ∷ ss) = brackets_in ss
brackets_in (fixed c s ∷ ss) = cond (eqb c open_bracket_code) 1 0 + brackets_in ss
brackets_in (integer z ∷ ss) = brackets_in ss
brackets_in (variable x ∷ ss) = brackets_in ss
brackets_in (label l ∷ ss) = brackets_in ss

abbrev pub brackets_of : List Token → ℕ
brackets_of [] = 0
brackets_of (t ∷ ts) = cond (eqb t.code open_bracket_code) 1 0 + brackets_of ts

-- whatever names and numbers stand for, no tokens with fewer brackets have the same words
abbrev pub FewestBrackets : Type 0
FewestBrackets = (M : Meaning) (ts : List Token) (p : List ℤ) (os : List ℕ) → read_program p ≡ got tt → Reads M ts p os → brackets_in (program_text p) ≤ brackets_of ts

-- ---- 24, in the words of the readings

-- i is one of these; j is one of them before the first i
pub data Used (i : ℕ) : List ℕ → Type 0 where
  here : {is : List ℕ} → Used i (i ∷ is)
  later : {j : ℕ} {is : List ℕ} → Used i is → Used i (j ∷ is)

pub data Earlier (j i : ℕ) : List ℕ → Type 0 where
  here : {is : List ℕ} → Earlier j i (j ∷ is)
  later : {k : ℕ} {is : List ℕ} → (k ≡ i → ⊥) → Earlier j i is → Earlier j i (k ∷ is)

-- variables before 64, labels from there on
pub data OfOneSort (i j : ℕ) : Type 0 where
  both_variables : i < first_label → j < first_label → OfOneSort i j
  both_labels : first_label ≤ i → first_label ≤ j → OfOneSort i j

pub data Had (N : Naming) (p : List ℤ) (i : ℕ) : Type 0 where
  given : is_given N i ≡ true → Had N p i
  used : Used i (numbers_of (program_text p)) → Had N p i

pub data AtFault (N : Naming) (p : List ℤ) (i : ℕ) : Type 0 where
  -- "where its given name (used by the program or not) is no part of source, no name of W1, or longer than 65,536 bytes"
  outside : is_given N i ≡ true → is_part N i ≡ false → AtFault N p i
  unnamed : is_given N i ≡ true → is_name (given_name N i) ≡ false → AtFault N p i
  -- "where it is given a name or used, and has the name of an earlier number of its sort that is given one or used"
  twin : {j : ℕ} → Had N p i → j < i → OfOneSort i j → Had N p j → name_of N i ≡ name_of N j → AtFault N p i
  -- "or where it is used by the program and is not 0 and the number before it is not used earlier (first appearance in reading order)"
  early : {j : ℕ} → Used i (numbers_of (program_text p)) → i ≡ suc j → OfOneSort i j → (Earlier j i (numbers_of (program_text p)) → ⊥) → AtFault N p i

-- "24's place is the first number at fault, variables 0 to 63 first, then labels as 64 to 95": the numbers before it are not, and it is, or there is none
pub record FirstAtFault (N : Naming) (p : List ℤ) (i : ℕ) : Type 0 where
  pub before : (j : ℕ) → j < i → AtFault N p j → ⊥
  pub most : i ≤ numbers
  pub there : i < numbers → AtFault N p i

abbrev pub FaultsExactly : Type 0
FaultsExactly = (N : Naming) (p : List ℤ) → read_program p ≡ got tt → FirstAtFault N p (first_fault N p)

-- ---- what a call comes to

-- "exactly when that is more than the buffer's bytes or 65,536"
pub data TooLong (room n : ℕ) : Type 0 where
  buffer : room < n → TooLong room n
  bytes : most_bytes < n → TooLong room n

-- "Order: 1; 2 with 01's place; 24; 25"; each refusal leaves the text as it was
pub data Comes (N : Naming) (p : List ℤ) (text : List ℕ) : Answered → Type 0 where
  sized : (length N.names ≡ 192 → ⊥) → Comes N p text (refused text 1 0)
  unread : {place : ℕ} → length N.names ≡ 192 → read_program p ≡ stop place → Comes N p text (refused text 2 place)
  unnamed : {i : ℕ} → length N.names ≡ 192 → read_program p ≡ got tt → FirstAtFault N p i → i < numbers → Comes N p text (refused text 24 i)
  long : length N.names ≡ 192 → read_program p ≡ got tt → FirstAtFault N p numbers → TooLong (length text) (length (text_of N p)) → Comes N p text (refused text 25 (length (text_of N p)))
  whole : length N.names ≡ 192 → read_program p ≡ got tt → FirstAtFault N p numbers → length (text_of N p) ≤ length text → length (text_of N p) ≤ most_bytes
      → Comes N p text (accepted (text_of N p) p text)

abbrev pub ComesExactly : Type 0
ComesExactly = (N : Naming) (p : List ℤ) (text : List ℕ) → Comes N p text (write p N.source N.names text)

-- "25's place is the length that the whole text has": it is a word
abbrev pub LengthsTold : Type 0
LengthsTold = (N : Naming) (p : List ℤ) → read_program p ≡ got tt → first_fault N p ≡ numbers → length (text_of N p) < 2147483648
