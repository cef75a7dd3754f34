-- The variables of a program that reads are below 64 and its labels below 32, and so are those of its signs. Assumes nothing.
use mathlib.Core.Path.{◌≡◌, refl}
use mathlib.Core.Bool.{Bool}
use mathlib.Core.List.{List, [], ◌∷◌, ◌++◌, append_assoc, append-nil}
use Prim.Native.Nat.{ℕ, zero, suc, ◌<◌}
use native.Mathlib.Omega.{arith}
use lib.Dec.{leb}
use lib.IntN.{ℤ, pos}
use lib.ListN.{get_or, drop}
use Rattle.words.specs.Answer.{got}
use Rattle.words.specs.Words.{number_at}
use Rattle.words.proofs.Laws.{number-first, number-drop}
use Rattle.tables.specs.Sizes.{variables, labels}
use Rattle.tables.proofs.SearchLaws.{cases}
use Rattle.program.specs.declared.Form.TheVariants.{Nil as a_nil, False as a_false, True as a_true, Integer as an_integer, Path as a_path, Operation as an_operation, Identity as an_identity}
use Rattle.program.specs.declared.Verb.TheVariants.{Skip as skip, Assign as assign, New as new, Always as always, Once as once, AlwaysSame as always_same, OnceSame as once_same, If as branch, While as loop}
use Rattle.program.specs.Reading.{read_program}
use Rattle.program.specs.Grammar as Grammar
use Rattle.program.specs.Grammar.{Piece, block_of, statements_of, statement_of, Yields}
use Rattle.program.proofs.FormLaws.{form-is, verb-is}
use Rattle.program.proofs.GrammarLaws.{program-sound}
use Rattle.text.specs.Reading.{level_of}
use Rattle.printing.specs.Signs.{Sign, around, before, operator_text, operator_signs, priority_text, priority_signs, space, line}
use Rattle.printing.specs.Signs.{identical_sign, becomes_sign, then_sign, else_sign, do_sign, semicolon_sign}
use Rattle.printing.specs.Printing.{Printed, then, say, until, row_text, labels_text, path_text, sides_text, operands_text, operation_text, form_text, expression_text, whole_text}
use Rattle.printing.specs.Printing.{part_text, constraint_text, field_text, fields_text, new_text, assign_text, branch_text, loop_text, verb_text, verb_at}
use Rattle.printing.specs.Printing.{braces, block_text, statement_text, statements_text, program_text}

-- variables are below 64 and labels below 32
pub data Bounded : List Sign → Type 0 where
  none : Bounded []
  blank : {s : List ℕ} {ss : List Sign} → Bounded ss → Bounded (Sign.blank s ∷ ss)
  fixed : {c : ℕ} {s : List ℕ} {ss : List Sign} → Bounded ss → Bounded (Sign.fixed c s ∷ ss)
  integer : {z : ℤ} {ss : List Sign} → Bounded ss → Bounded (Sign.integer z ∷ ss)
  variable : {x : ℕ} {ss : List Sign} → x < variables → Bounded ss → Bounded (Sign.variable x ∷ ss)
  label : {l : ℕ} {ss : List Sign} → l < labels → Bounded ss → Bounded (Sign.label l ∷ ss)

bounded-on : {ss rs : List Sign} → Bounded ss → Bounded rs → Bounded (ss ++ rs)
bounded-on Bounded.none c = c
bounded-on (Bounded.blank b) c = Bounded.blank (bounded-on b c)
bounded-on (Bounded.fixed b) c = Bounded.fixed (bounded-on b c)
bounded-on (Bounded.integer b) c = Bounded.integer (bounded-on b c)
bounded-on (Bounded.variable h b) c = Bounded.variable h (bounded-on b c)
bounded-on (Bounded.label h b) c = Bounded.label h (bounded-on b c)

-- signs without names
plain-bounded : (s : Sign) → Bounded (around s) × Bounded (before s)
plain-bounded (Sign.blank s) = (Bounded.none, Bounded.none)
plain-bounded (Sign.fixed c s) = (Bounded.blank (Bounded.fixed (Bounded.blank Bounded.none)), Bounded.fixed (Bounded.blank Bounded.none))
plain-bounded (Sign.integer z) = (Bounded.none, Bounded.none)
plain-bounded (Sign.variable x) = (Bounded.none, Bounded.none)
plain-bounded (Sign.label l) = (Bounded.none, Bounded.none)

operator-bounded : (k : ℕ) → Bounded (operator_text k)
unfolding operator_text
operator-bounded k = (plain-bounded (get_or operator_signs k (Sign.blank []))).0

priority-bounded : (k : ℕ) → Bounded (priority_text k)
unfolding priority_text
priority-bounded k = (plain-bounded (get_or priority_signs k (Sign.blank []))).1

mark-spaced : {c : ℕ} {s t u : List ℕ} → Bounded (Sign.blank t ∷ Sign.fixed c s ∷ Sign.blank u ∷ [])
mark-spaced = Bounded.blank (Bounded.fixed (Bounded.blank Bounded.none))

mark-space : {c : ℕ} {s u : List ℕ} → Bounded (Sign.fixed c s ∷ Sign.blank u ∷ [])
mark-space = Bounded.fixed (Bounded.blank Bounded.none)

-- ---- a piece whose numbers are bounded, with these words behind it

record Writes (a : Printed) (q : List ℤ) : Type 0 where
  bounded : Bounded a.0
  left : a.1 ≡ q

write-say : {ss : List Sign} {a : Printed} {q : List ℤ} → Bounded ss → Writes a q → Writes (say ss a) q
write-say b w = record { bounded = bounded-on b w.bounded; left = w.left }

write-until : {ss : List Sign} {a : Printed} {q : List ℤ} → Writes a q → Bounded ss → Writes (until a ss) q
write-until w b = record { bounded = bounded-on w.bounded b; left = w.left }

write_then : {a : Printed} {q r : List ℤ} (f : List ℤ → Printed) → Writes a q → Writes (f q) r → Writes (then a f) r
write_then f w x = record { bounded = bounded-on w.bounded (rw w.left x.bounded); left = rw w.left x.left }

-- with a mark between two
write-next : {a : Printed} {q r : List ℤ} (ss : List Sign) (f : List ℤ → Printed) → Writes a q → Bounded ss → Writes (f q) r → Writes (then a (λ u. say ss (f u))) r
write-next ss f w b x = write_then (λ u. say ss (f u)) w (write-say b x)

-- ---- paths

labels-write : {n : ℕ} {ws : List ℤ} → Grammar.Labels n ws → (q : List ℤ) → Writes (labels_text n (ws ++ q), drop n (ws ++ q)) q
unfolding labels_text
labels-write Grammar.Labels.none q = record { bounded = Bounded.none; left = refl }
labels-write (Grammar.Labels.one h r) q =
    let w = labels-write r q in
    rw number-first (record { bounded = Bounded.fixed (Bounded.label h w.bounded); left = w.left })

path-writes : {ws : List ℤ} → Grammar.Path ws → (q : List ℤ) → Writes (path_text (ws ++ q)) q
unfolding path_text
path-writes (Grammar.Path.path {x = x} {n = n} {ls = ls} h k r) q =
    let w = labels-write r q in
    rw (number-first (pos x) (pos n ∷ ls ++ q), ← number-drop (pos x ∷ pos n ∷ ls ++ q) 1 0, number-first)
    (record { bounded = Bounded.variable h w.bounded; left = w.left })

sides-write : {a b : List ℤ} → Grammar.Path a → Grammar.Path b → (q : List ℤ) → Writes (sides_text ((a ++ b) ++ q)) q
unfolding sides_text
sides-write {a} {b} x y q = rw (append_assoc a b q) (write-next (space ∷ identical_sign ∷ space ∷ []) path_text (path-writes x (b ++ q)) mark-spaced (path-writes y q))

-- ---- expressions

fixed-writes : {c : ℕ} {s : List ℕ} {q : List ℤ} → Writes (Sign.fixed c s ∷ [], q) q
fixed-writes = record { bounded = Bounded.fixed Bounded.none; left = refl }

module _ (go : ℕ → List ℤ → Printed) (a b q : List ℤ) (first : (low : ℕ) → Writes (go low (a ++ (b ++ q))) (b ++ q)) (second : (low : ℕ) → Writes (go low (b ++ q)) q) where
  operands-write : (k level : ℕ) → Writes (operands_text go k level ((a ++ b) ++ q)) q
  unfolding operands_text
  operands-write k level = rw (append_assoc a b q) (write-next (operator_text k) (λ r. go (suc level) r) (first level) (operator-bounded k) (second (suc level)))

  operation-writes : (low o : ℕ) → Writes (operation_text go low (pos o ∷ (a ++ b) ++ q)) q
  unfolding operation_text
  operation-writes low o =
      let w : Writes (operands_text go (number_at (pos o ∷ (a ++ b) ++ q) 0) (level_of (number_at (pos o ∷ (a ++ b) ++ q) 0)) ((a ++ b) ++ q)) q = operands-write _ _ in
      cases (leb low (level_of (number_at (pos o ∷ (a ++ b) ++ q) 0)))
      (λ e. rw e w)
      (λ e. rw e (write-say (Bounded.fixed Bounded.none) (write-until w (Bounded.fixed Bounded.none))))

expression-writes : {in_c : Bool} {d : ℕ} {ws : List ℤ} → Grammar.Expression in_c d ws → (low : ℕ) (q : List ℤ) → Writes (expression_text d low (ws ++ q)) q
unfolding expression_text form_text
expression-writes Grammar.Expression.nil low q = rw (number-first, form-is a_nil (omega arith)) fixed-writes
expression-writes Grammar.Expression.no low q = rw (number-first, form-is a_false (omega arith)) fixed-writes
expression-writes Grammar.Expression.yes low q = rw (number-first, form-is a_true (omega arith)) fixed-writes
expression-writes Grammar.Expression.integer low q = rw (number-first, form-is an_integer (omega arith)) (record { bounded = Bounded.integer Bounded.none; left = refl })
expression-writes (Grammar.Expression.at x) low q = rw (number-first, form-is a_path (omega arith)) (path-writes x q)
expression-writes (Grammar.Expression.identity c x y) low q = rw (number-first, form-is an_identity (omega arith)) (sides-write x y q)
expression-writes (Grammar.Expression.operation {d = d} {o = o} {a = a} {b = b} h k x y) low q =
    rw (number-first, form-is an_operation (omega arith))
    (operation-writes (λ l r. expression_text d l r) a b q (λ l. expression-writes x l (b ++ q)) (λ l. expression-writes y l q) low o)

-- ---- constraints and fields

parts-write : {m : ℕ} {ws : List ℤ} {lead sep : List Sign} → Bounded lead → Bounded sep → Grammar.Parts m ws → (q : List ℤ) → Writes (row_text lead sep part_text m (ws ++ q)) q
unfolding row_text part_text
parts-write s t Grammar.Parts.none q = record { bounded = Bounded.none; left = refl }
parts-write {sep = sep} s t (Grammar.Parts.one {m = m} {e = e} {ps = ps} h k x y) q =
    rw (append_assoc e ps q)
    (write-say s (write_then (λ r. row_text sep sep part_text m r) (write-say (priority-bounded _) (expression-writes x 1 (ps ++ q))) (parts-write t t y q)))

constraint-writes : {ws : List ℤ} → Grammar.Constraint ws → (q : List ℤ) → Writes (constraint_text (ws ++ q)) q
unfolding constraint_text
constraint-writes (Grammar.Constraint.constraint h k x) q = rw number-first (parts-write Bounded.none mark-spaced x q)

fields-write : {n : ℕ} {seen : List ℕ} {ws : List ℤ} {lead sep : List Sign}
    → Bounded lead → Bounded sep → Grammar.Fields n seen ws → (q : List ℤ) → Writes (row_text lead sep field_text n (ws ++ q)) q
unfolding row_text field_text
fields-write s t Grammar.Fields.none q = record { bounded = Bounded.none; left = refl }
fields-write {sep = sep} s t (Grammar.Fields.one {n = n} {l = l} {e = e} {fs = fs} h k x y) q =
    rw (append_assoc e fs q, number-first)
    (write-say s (write_then (λ r. row_text sep sep field_text n r) (write-say (Bounded.label h mark-space) (expression-writes x 1 (fs ++ q))) (fields-write t t y q)))

new-writes : {x n : ℕ} {fs : List ℤ} → x < variables → Grammar.Fields n [] fs → (q : List ℤ) → Writes (new_text (pos x ∷ pos n ∷ fs ++ q)) q
unfolding new_text fields_text
new-writes {x} {n} {fs} h f q =
    rw (number-first (pos x) (pos n ∷ fs ++ q), number-first (pos n) (fs ++ q))
    (write-say (Bounded.variable h (Bounded.blank (Bounded.fixed (Bounded.blank (Bounded.fixed (Bounded.blank (Bounded.fixed Bounded.none)))))))
    (write-until (fields-write Bounded.none mark-space f q) (Bounded.fixed Bounded.none)))

-- ---- statements and blocks

braces-write : (d n : ℕ) {a : Printed} {q : List ℤ} → Writes a q → Writes (braces d n a) q
braces-write d zero w = record { bounded = Bounded.fixed (Bounded.fixed Bounded.none); left = w.left }
braces-write d (suc n) w = write-say mark-space (write-until w (Bounded.blank (Bounded.fixed Bounded.none)))

abbrev Written : Piece → List ℤ → List ℤ → Type 0
Written (block_of d) p q = Writes (block_text d p) q
Written (statements_of d n) p q = (lead sep : List Sign) → Bounded lead → Bounded sep → Writes (row_text lead sep (λ r. verb_at (λ s. block_text d s) r) n p) q
Written (statement_of d) p q = Writes (verb_at (λ r. block_text d r) p) q

piece-writes : {c : Piece} {ws : List ℤ} → Yields c ws → (q : List ℤ) → Written c (ws ++ q) q
unfolding block_text row_text verb_at verb_text assign_text branch_text loop_text
piece-writes (Yields.block {d = d} {n = n} h r) q = rw number-first (braces-write d n (piece-writes r q [] (semicolon_sign ∷ line d ∷ []) Bounded.none mark-space))
piece-writes Yields.none q = λ lead sep s t. record { bounded = Bounded.none; left = refl }
piece-writes (Yields.one {d = d} {n = n} {s = s} {ss = ss} x y) q = λ lead sep b c.
    rw (append_assoc s ss q)
    (write-say b (write_then (λ r. row_text sep sep (λ u. verb_at (λ v. block_text d v) u) n r) (piece-writes x (ss ++ q)) (piece-writes y q sep sep c c)))
piece-writes Yields.skip q = rw (number-first, verb-is skip (omega arith)) fixed-writes
piece-writes (Yields.assign {a = a} {e = e} x y) q =
    rw (number-first, verb-is assign (omega arith), append_assoc a e q)
    (write-next (space ∷ becomes_sign ∷ space ∷ []) whole_text (path-writes x (e ++ q)) mark-spaced (expression-writes y 1 q))
piece-writes (Yields.new h k f) q = rw (number-first, verb-is new (omega arith)) (new-writes h f q)
piece-writes (Yields.always x) q = rw (number-first, verb-is always (omega arith)) (write-say mark-space (constraint-writes x q))
piece-writes (Yields.once x) q = rw (number-first, verb-is once (omega arith)) (write-say mark-space (constraint-writes x q))
piece-writes (Yields.always_same x y) q = rw (number-first, verb-is always_same (omega arith)) (write-say mark-space (sides-write x y q))
piece-writes (Yields.once_same x y) q = rw (number-first, verb-is once_same (omega arith)) (write-say mark-space (sides-write x y q))
piece-writes (Yields.branch {d = d} {e = e} {a = a} {b = b} x y z) q =
    rw (number-first, verb-is branch (omega arith), append_assoc e (a ++ b) q, append_assoc a b q)
    (write-say mark-space
    (write-next (space ∷ then_sign ∷ space ∷ []) (λ r. then (block_text d r) (λ u. say (space ∷ else_sign ∷ space ∷ []) (block_text d u))) (expression-writes x 1 (a ++ (b ++ q))) mark-spaced
    (write-next (space ∷ else_sign ∷ space ∷ []) (λ r. block_text d r) (piece-writes y (b ++ q)) mark-spaced (piece-writes z q))))
piece-writes (Yields.loop {d = d} {e = e} {a = a} x y) q =
    rw (number-first, verb-is loop (omega arith), append_assoc e a q)
    (write-say mark-space (write-next (space ∷ do_sign ∷ space ∷ []) (λ r. block_text d r) (expression-writes x 1 (a ++ q)) mark-spaced (piece-writes y q)))

statements-bounded : {d : ℕ} {ws : List ℤ} → Yields (block_of (suc d)) ws → Bounded (statements_text d ws).0
unfolding statements_text statement_text
statements-bounded {d} (Yields.block {n = n} {ss = ss} h r) =
    rw (number-first, ← append-nil ss) (piece-writes r [] [] (semicolon_sign ∷ line d ∷ []) Bounded.none mark-space).bounded

pub program-bounded : (p : List ℤ) → read_program p ≡ got tt → Bounded (program_text p)
unfolding program_text
program-bounded p e = statements-bounded (program-sound p e).yields
