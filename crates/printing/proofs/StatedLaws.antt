-- Statements, blocks and programs are written as a rule says. Assumes nothing.
use mathlib.Core.Path.{◌≡◌, refl, ap, ◌∙◌}
use mathlib.Core.List.{List, [], ◌∷◌, ◌++◌, append-nil, append_assoc}
use Prim.Native.Nat.{ℕ, zero, suc, ◌≤◌, ◌<◌}
use native.Mathlib.Omega.{arith}
use lib.IntN.{ℤ, pos}
use Rattle.words.proofs.Laws.{number-first}
use Rattle.program.specs.Forms.{block_depth, expression_depth}
use Rattle.program.specs.declared.Verb.{Verb}
use Rattle.program.specs.declared.Verb.TheVariants.{Skip as skip, Assign as assign, New as new, Always as always, Once as once, AlwaysSame as always_same, OnceSame as once_same, If as branch, While as loop}
use Rattle.program.specs.Grammar as Grammar
use Rattle.program.proofs.FormLaws.{number_of_verb, verb-is}
use Rattle.printing.specs.Signs.{Sign, variable, space, line}
use Rattle.printing.specs.Signs.{new_sign, skip_sign, always_sign, once_sign, if_sign, then_sign, else_sign, while_sign, do_sign}
use Rattle.printing.specs.Signs.{becomes_sign, comma_sign, semicolon_sign, open_brace_sign, close_brace_sign, identical_sign, beside_sign}
use Rattle.printing.specs.Printing.{Printed, row_text, expression_text, part_text, constraint_text, field_text, fields_text}
use Rattle.printing.specs.Printing.{new_text, assign_text, branch_text, loop_text, verb_text, verb_at, block_text, statement_text, statements_text, program_text}
use Rattle.printing.specs.Rules as Rules
use Rattle.printing.proofs.RulesLaws.{Said, RowSaid, row_last, row_more, path-rule, path-writes, sides-write, expression-said, parts_said, fields-said}

row-none : (lead sep : List Sign) (one : List ℤ → Printed) (p : List ℤ) → row_text lead sep one 0 p ≡ ([], p)
unfolding row_text
row-none lead sep one p = refl

-- the definition writes these signs for an expression that stands under no operator, whatever words follow; and so for a block
abbrev Wholes : List ℤ → List Sign → Type 0
Wholes e se = (r : List ℤ) → expression_text expression_depth 1 (e ++ r) ≡ (se, r)

abbrev Blocks : ℕ → List ℤ → List Sign → Type 0
Blocks d a sa = (r : List ℤ) → block_text d (a ++ r) ≡ (sa, r)

verb-text : (d : ℕ) (v : Verb) (q : List ℤ) → number_of_verb v < 9
    → statement_text d (pos (number_of_verb v) ∷ q) ≡ verb_text (λ r. block_text d r) (pos (number_of_verb v) ∷ q) v
unfolding statement_text verb_at
verb-text d v q h = rw (number-first, verb-is v h)

assign-writes : (a e : List ℤ) {sa se : List Sign} → Rules.Path a sa → Wholes e se → (r : List ℤ) → assign_text ((a ++ e) ++ r) ≡ (sa ++ space ∷ becomes_sign ∷ space ∷ se, r)
unfolding assign_text
assign-writes a e x y r = rw (append_assoc a e r, path-writes x (e ++ r), y r)

new-writes : (x n : ℕ) (fs : List ℤ) {ss : List Sign} → ((r : List ℤ) → row_text [] (comma_sign ∷ space ∷ []) field_text n (fs ++ r) ≡ (ss, r))
    → (r : List ℤ) → new_text ((pos x ∷ pos n ∷ fs) ++ r) ≡ (variable x ∷ space ∷ becomes_sign ∷ space ∷ new_sign ∷ space ∷ open_brace_sign ∷ ss ++ close_brace_sign ∷ [], r)
unfolding new_text fields_text
new-writes x n fs f r = rw (number-first (pos x) (pos n ∷ (fs ++ r)), number-first (pos n) (fs ++ r), f r)

constraint-writes : (m : ℕ) (ps : List ℤ) {ss : List Sign} → ((r : List ℤ) → row_text [] (space ∷ beside_sign ∷ space ∷ []) part_text m (ps ++ r) ≡ (ss, r))
    → (r : List ℤ) → constraint_text ((pos m ∷ ps) ++ r) ≡ (ss, r)
unfolding constraint_text
constraint-writes m ps x r = rw (number-first, x r)

branch-writes : (d : ℕ) (e a b : List ℤ) {se sa sb : List Sign} → Wholes e se → Blocks d a sa → Blocks d b sb
    → (r : List ℤ) → branch_text (λ q. block_text d q) ((e ++ (a ++ b)) ++ r) ≡ (if_sign ∷ space ∷ se ++ space ∷ then_sign ∷ space ∷ sa ++ space ∷ else_sign ∷ space ∷ sb, r)
unfolding branch_text
branch-writes d e a b {se} {sa} {sb} x y z r =
    rw (append_assoc e (a ++ b) r, x ((a ++ b) ++ r), append_assoc a b r, y (b ++ r), z r, append_assoc se (space ∷ then_sign ∷ space ∷ sa) (space ∷ else_sign ∷ space ∷ sb))

loop-writes : (d : ℕ) (e a : List ℤ) {se sa : List Sign} → Wholes e se → Blocks d a sa
    → (r : List ℤ) → loop_text (λ q. block_text d q) ((e ++ a) ++ r) ≡ (while_sign ∷ space ∷ se ++ space ∷ do_sign ∷ space ∷ sa, r)
unfolding loop_text
loop-writes d e a x y r = rw (append_assoc e a r, x (a ++ r), y r)

-- ---- what is said of each piece

abbrev pub SaidOf : Grammar.Piece → List ℤ → Type 0
SaidOf (Grammar.Piece.block_of d) ws = Said (Rules.Prints (Rules.Piece.block d) ws) (λ p. block_text d p) ws
SaidOf (Grammar.Piece.statements_of d zero) ws = ws ≡ []
SaidOf (Grammar.Piece.statements_of d (suc n)) ws = RowSaid (Rules.Prints (Rules.Piece.row d (suc n)) ws) (semicolon_sign ∷ line d ∷ []) (λ p. statement_text d p) (suc n) ws
SaidOf (Grammar.Piece.statement_of d) ws = Said (Rules.Prints (Rules.Piece.statement d) ws) (λ p. statement_text d p) ws

row_on : (d n : ℕ) (s ss : List ℤ) → SaidOf (Grammar.Piece.statement_of d) s → SaidOf (Grammar.Piece.statements_of d n) ss → SaidOf (Grammar.Piece.statements_of d (suc n)) (s ++ ss)
row_on d zero s ss x e =
    rw (e, append-nil s) record {
      signs = x.signs;
      rule = Rules.Prints.last x.rule;
      says = λ lead r. row_last lead (semicolon_sign ∷ line d ∷ []) (λ p. statement_text d p) s x.says r;
    }
row_on d (suc n) s ss x y =
    record {
      signs = x.signs ++ semicolon_sign ∷ line d ∷ y.signs;
      rule = Rules.Prints.more x.rule y.rule;
      says = λ lead r. row_more lead (semicolon_sign ∷ line d ∷ []) (λ p. statement_text d p) (suc n) s ss y.signs x.says (y.says (semicolon_sign ∷ line d ∷ [])) r;
    }

block_on : (d n : ℕ) (ss : List ℤ) → SaidOf (Grammar.Piece.statements_of d n) ss → SaidOf (Grammar.Piece.block_of (suc d)) (pos n ∷ ss)
unfolding block_text statement_text
block_on d zero ss e =
    rw e record {
      signs = open_brace_sign ∷ close_brace_sign ∷ [];
      rule = Rules.Prints.empty;
      says = λ r. rw (number-first, row-none [] (semicolon_sign ∷ line d ∷ []) (λ p. statement_text d p) r);
    }
block_on d (suc n) ss x =
    record {
      signs = open_brace_sign ∷ line d ∷ x.signs ++ line (suc d) ∷ close_brace_sign ∷ [];
      rule = Rules.Prints.braces x.rule;
      says = λ r. rw (number-first, x.says [] r);
    }

new-on : (d x n : ℕ) (fs : List ℤ) → Grammar.Fields n [] fs → SaidOf (Grammar.Piece.statement_of d) (pos 2 ∷ pos x ∷ pos n ∷ fs)
unfolding verb_text
new-on d x zero fs Grammar.Fields.none =
    record {
      signs = variable x ∷ space ∷ becomes_sign ∷ space ∷ new_sign ∷ space ∷ open_brace_sign ∷ close_brace_sign ∷ [];
      rule = Rules.Prints.new_empty;
      says = λ r. verb-text d new (pos x ∷ pos 0 ∷ r) (omega arith) ∙ new-writes x 0 [] (λ q. row-none [] (comma_sign ∷ space ∷ []) field_text q) r;
    }
new-on d x (suc n) fs f =
    let i = fields-said n f in
    record {
      signs = variable x ∷ space ∷ becomes_sign ∷ space ∷ new_sign ∷ space ∷ open_brace_sign ∷ i.signs ++ close_brace_sign ∷ [];
      rule = Rules.Prints.new i.rule;
      says = λ r. verb-text d new (pos x ∷ pos (suc n) ∷ (fs ++ r)) (omega arith) ∙ new-writes x (suc n) fs (i.says []) r;
    }

-- a constraint: its parts and what is written of them
constraint-on : (m : ℕ) (ps : List ℤ) → 1 ≤ m → Grammar.Parts m ps → Said (Rules.Parts m ps) (λ p. constraint_text (pos m ∷ p)) ps
constraint-on zero ps h x = let z : ⊥ = omega arith in absurd z
constraint-on (suc m) ps h x =
    let i = parts_said m x in
    record { signs = i.signs; rule = i.rule; says = λ r. constraint-writes (suc m) ps (i.says []) r }

pub yields-said : {c : Grammar.Piece} {ws : List ℤ} → Grammar.Yields c ws → SaidOf c ws
unfolding verb_text
yields-said (Grammar.Yields.block {d = d} {n = n} {ss = ss} h x) = block_on d n ss (yields-said x)
yields-said Grammar.Yields.none = refl
yields-said (Grammar.Yields.one {d = d} {n = n} {s = s} {ss = ss} x y) = row_on d n s ss (yields-said x) (yields-said y)
yields-said (Grammar.Yields.skip {d = d}) = record { signs = skip_sign ∷ []; rule = Rules.Prints.skip; says = λ r. verb-text d skip r (omega arith) }
yields-said (Grammar.Yields.assign {d = d} {a = a} {e = e} x y) =
    let i = path-rule x in
    let j = expression-said y 1 in
    record {
      signs = i.0 ++ space ∷ becomes_sign ∷ space ∷ j.signs;
      rule = Rules.Prints.assign i.1 j.rule;
      says = λ r. verb-text d assign ((a ++ e) ++ r) (omega arith) ∙ assign-writes a e i.1 j.says r;
    }
yields-said (Grammar.Yields.new {d = d} {x = x} {n = n} {fs = fs} h k f) = new-on d x n fs f
yields-said (Grammar.Yields.always {d = d} (Grammar.Constraint.constraint {m = m} {ps = ps} h k x)) =
    let i = constraint-on m ps h x in
    record {
      signs = always_sign ∷ space ∷ i.signs;
      rule = Rules.Prints.always i.rule;
      says = λ r. verb-text d always (pos m ∷ (ps ++ r)) (omega arith) ∙ rw (i.says r);
    }
yields-said (Grammar.Yields.once {d = d} (Grammar.Constraint.constraint {m = m} {ps = ps} h k x)) =
    let i = constraint-on m ps h x in
    record {
      signs = once_sign ∷ space ∷ i.signs;
      rule = Rules.Prints.once i.rule;
      says = λ r. verb-text d once (pos m ∷ (ps ++ r)) (omega arith) ∙ rw (i.says r);
    }
yields-said (Grammar.Yields.always_same {d = d} {a = a} {b = b} x y) =
    let i = path-rule x in
    let j = path-rule y in
    record {
      signs = always_sign ∷ space ∷ i.0 ++ space ∷ identical_sign ∷ space ∷ j.0;
      rule = Rules.Prints.always-same i.1 j.1;
      says = λ r. verb-text d always_same ((a ++ b) ++ r) (omega arith) ∙ rw (sides-write i.1 j.1 r);
    }
yields-said (Grammar.Yields.once_same {d = d} {a = a} {b = b} x y) =
    let i = path-rule x in
    let j = path-rule y in
    record {
      signs = once_sign ∷ space ∷ i.0 ++ space ∷ identical_sign ∷ space ∷ j.0;
      rule = Rules.Prints.once-same i.1 j.1;
      says = λ r. verb-text d once_same ((a ++ b) ++ r) (omega arith) ∙ rw (sides-write i.1 j.1 r);
    }
yields-said (Grammar.Yields.branch {d = d} {e = e} {a = a} {b = b} x y z) =
    let i = expression-said x 1 in
    let j = yields-said y in
    let k = yields-said z in
    record {
      signs = if_sign ∷ space ∷ i.signs ++ space ∷ then_sign ∷ space ∷ j.signs ++ space ∷ else_sign ∷ space ∷ k.signs;
      rule = Rules.Prints.branch i.rule j.rule k.rule;
      says = λ r. verb-text d branch ((e ++ (a ++ b)) ++ r) (omega arith) ∙ branch-writes d e a b i.says j.says k.says r;
    }
yields-said (Grammar.Yields.loop {d = d} {e = e} {a = a} x y) =
    let i = expression-said x 1 in
    let j = yields-said y in
    record {
      signs = while_sign ∷ space ∷ i.signs ++ space ∷ do_sign ∷ space ∷ j.signs;
      rule = Rules.Prints.loop i.rule j.rule;
      says = λ r. verb-text d loop ((e ++ a) ++ r) (omega arith) ∙ loop-writes d e a i.says j.says r;
    }

-- ---- a program

program-row : (n : ℕ) (ss : List ℤ) → program_text (pos n ∷ ss) ≡ (row_text [] (semicolon_sign ∷ line 7 ∷ []) (λ p. statement_text 7 p) n ss).0
unfolding program_text statements_text
program-row n ss = ap (λ (m : ℕ). (row_text [] (semicolon_sign ∷ line 7 ∷ []) (λ p. statement_text 7 p) m ss).0) (number-first (pos n) ss)

whole-said : (n : ℕ) (ss : List ℤ) → SaidOf (Grammar.Piece.statements_of 7 n) ss → Rules.Text (pos n ∷ ss) (program_text (pos n ∷ ss))
whole-said zero ss e = rw (e, program-row 0 [], row-none [] (semicolon_sign ∷ line 7 ∷ []) (λ p. statement_text 7 p) []) Rules.Text.nothing
whole-said (suc n) ss x =
    let i : row_text [] (semicolon_sign ∷ line 7 ∷ []) (λ p. statement_text 7 p) (suc n) ss ≡ (x.signs, []) = rw (append-nil ss) at (x.says [] []) in
    rw (program-row (suc n) ss, i) (Rules.Text.some x.rule)

-- what is written of a program is what a rule says
pub program-said : {p : List ℤ} → Grammar.Yields (Grammar.Piece.block_of block_depth) p → Rules.Text p (program_text p)
program-said (Grammar.Yields.block {n = n} {ss = ss} h x) = whole-said n ss (yields-said x)
