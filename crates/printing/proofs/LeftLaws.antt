-- What is left behind a piece is the last words of those that were there. Assumes nothing.
use mathlib.Core.Path.{◌≡◌, refl, ◌∙◌}
use mathlib.Core.List.{List, []}
use Prim.Native.Nat.{ℕ, zero, suc}
use lib.Dec.{leb}
use lib.IntN.{ℤ}
use lib.ListN.{length, drop}
use Rattle.tables.proofs.SearchLaws.{cases}
use Rattle.words.specs.Words.{number_at, last_of}
use Rattle.program.specs.Forms.{expression_depth, form_of, verb_of}
use Rattle.program.specs.declared.Form.{Form}
use Rattle.program.specs.declared.Form.TheVariants.{Nil as a_nil, False as a_false, True as a_true, Integer as an_integer, Path as a_path, Operation as an_operation, Identity as an_identity, Unknown as no_form}
use Rattle.program.specs.declared.Verb.{Verb}
use Rattle.program.specs.declared.Verb.TheVariants.{Skip as skip, Assign as assign, New as new, Always as always, Once as once, AlwaysSame as always_same, OnceSame as once_same, If as branch, While as loop, Unknown as no_verb}
use Rattle.program.proofs.LengthLaws.{Part, part-refl, part-drop, part-trans}
use Rattle.text.specs.Reading.{level_of}
use Rattle.printing.specs.Signs.{Sign}
use Rattle.printing.specs.Printing.{Printed, row_text, path_text, sides_text, operands_text, operation_text, form_text, expression_text, part_text, constraint_text, field_text, fields_text, new_text}
use Rattle.printing.specs.Printing.{assign_text, branch_text, loop_text, verb_text, verb_at, row_of, braces, block_text, statement_text, statements_text}

-- as many of the last words as are behind a piece are the words behind it
pub behind : {p q r : List ℤ} {left : ℕ} → Part p q → left ≡ length q → r ≡ last_of left p → r ≡ q
behind s e f = f ∙ rw e s.is

-- a piece that leaves the last words of those that it is written from
abbrev pub Leaves : (List ℤ → Printed) → Type 0
Leaves f = (p : List ℤ) → Part p (f p).1

-- from the word k on
from : (k : ℕ) {p q : List ℤ} → Part (drop k p) q → Part p q
from k {p} h = part-trans (part-drop k p) h

pub row-leaves : (lead sep : List Sign) (one : List ℤ → Printed) → Leaves one → (n : ℕ) → Leaves (row_text lead sep one n)
unfolding row_text
row-leaves lead sep one h zero p = part-refl p
row-leaves lead sep one h (suc n) p = part-trans (h p) (row-leaves sep sep one h n (one p).1)

pub path-leaves : Leaves path_text
unfolding path_text
path-leaves p = from 2 (part-drop (number_at p 1) (drop 2 p))

pub sides-leave : Leaves sides_text
unfolding sides_text
sides-leave p = part-trans (path-leaves p) (path-leaves (path_text p).1)

-- ---- expressions

module _ (go : ℕ → List ℤ → Printed) (h : (low : ℕ) → Leaves (go low)) where
  pub operands-leave : (k level : ℕ) → Leaves (operands_text go k level)
  unfolding operands_text
  operands-leave k level p = part-trans (h level p) (h (suc level) (go level p).1)

  pub operation-leaves : (low : ℕ) → Leaves (operation_text go low)
  unfolding operation_text
  operation-leaves low p =
      cases (leb low (level_of (number_at p 0)))
      (λ e. rw e (from 1 (operands-leave (number_at p 0) (level_of (number_at p 0)) (drop 1 p))))
      (λ e. rw e (from 1 (operands-leave (number_at p 0) (level_of (number_at p 0)) (drop 1 p))))

  form-leaves : (low : ℕ) (f : Form) → Leaves (λ p. form_text go low p f)
  unfolding form_text
  form-leaves low a_nil p = part-drop 1 p
  form-leaves low a_false p = part-drop 1 p
  form-leaves low a_true p = part-drop 1 p
  form-leaves low an_integer p = from 1 (part-drop 1 (drop 1 p))
  form-leaves low a_path p = from 1 (path-leaves (drop 1 p))
  form-leaves low an_operation p = from 1 (operation-leaves low (drop 1 p))
  form-leaves low an_identity p = from 1 (sides-leave (drop 1 p))
  form-leaves low no_form p = part-refl p

pub expression-leaves : (d low : ℕ) → Leaves (expression_text d low)
unfolding expression_text
expression-leaves zero low p = part-refl p
expression-leaves (suc d) low p = form-leaves (λ l q. expression_text d l q) (λ l. expression-leaves d l) low (form_of (number_at p 0)) p

-- ---- constraints and fields

pub part-leaves : Leaves part_text
unfolding part_text
part-leaves p = from 1 (expression-leaves expression_depth 1 (drop 1 p))

pub constraint-leaves : Leaves constraint_text
unfolding constraint_text
constraint-leaves p = from 1 (row-leaves [] _ part_text part-leaves (number_at p 0) (drop 1 p))

pub field-leaves : Leaves field_text
unfolding field_text
field-leaves p = from 1 (expression-leaves expression_depth 1 (drop 1 p))

pub fields-leave : Leaves fields_text
unfolding fields_text
fields-leave p = from 1 (row-leaves [] _ field_text field-leaves (number_at p 0) (drop 1 p))

pub new-leaves : Leaves new_text
unfolding new_text
new-leaves p = from 1 (fields-leave (drop 1 p))

-- ---- statements and blocks

pub assign-leaves : Leaves assign_text
unfolding assign_text
assign-leaves p = part-trans (path-leaves p) (expression-leaves expression_depth 1 (path_text p).1)

module _ (block : List ℤ → Printed) (h : Leaves block) where
  branch_leaves : Leaves (branch_text block)
  unfolding branch_text
  branch_leaves p = part-trans (expression-leaves expression_depth 1 p) (part-trans (h (expression_text expression_depth 1 p).1) (h (block (expression_text expression_depth 1 p).1).1))

  loop-leaves : Leaves (loop_text block)
  unfolding loop_text
  loop-leaves p = part-trans (expression-leaves expression_depth 1 p) (h (expression_text expression_depth 1 p).1)

  verb-leaves : (v : Verb) → Leaves (λ p. verb_text block p v)
  unfolding verb_text
  verb-leaves skip p = part-drop 1 p
  verb-leaves assign p = from 1 (assign-leaves (drop 1 p))
  verb-leaves new p = from 1 (new-leaves (drop 1 p))
  verb-leaves always p = from 1 (constraint-leaves (drop 1 p))
  verb-leaves once p = from 1 (constraint-leaves (drop 1 p))
  verb-leaves always_same p = from 1 (sides-leave (drop 1 p))
  verb-leaves once_same p = from 1 (sides-leave (drop 1 p))
  verb-leaves branch p = from 1 (branch_leaves (drop 1 p))
  verb-leaves loop p = from 1 (loop-leaves (drop 1 p))
  verb-leaves no_verb p = part-refl p

  at-leaves : Leaves (verb_at block)
  unfolding verb_at
  at-leaves p = verb-leaves (verb_of (number_at p 0)) p

-- braces leave what their statements leave
braced : (d n : ℕ) (a : Printed) → (braces d n a).1 ≡ a.1
braced d zero a = refl
braced d (suc n) a = refl

pub block-leaves : (d : ℕ) → Leaves (block_text d)
unfolding block_text
block-leaves zero p = part-refl p
block-leaves (suc d) p =
    rw (braced d (number_at p 0) (row_of d (verb_at (λ r. block_text d r)) p))
    (from 1 (row-leaves [] _ (verb_at (λ r. block_text d r)) (at-leaves (λ r. block_text d r) (block-leaves d)) (number_at p 0) (drop 1 p)))

pub statement-leaves : (d : ℕ) → Leaves (statement_text d)
unfolding statement_text
statement-leaves d p = at-leaves (λ r. block_text d r) (block-leaves d) p

pub statements-leave : (d : ℕ) → Leaves (statements_text d)
unfolding statements_text
statements-leave d p = from 1 (row-leaves [] _ (statement_text d) (statement-leaves d) (number_at p 0) (drop 1 p))
