-- Where a statement of a program that reads is found: what is found reads, and no other statement begins at its word. Assumes nothing.
use mathlib.Core.Path.{◌≡◌, refl, sym, ap, ◌∙◌}
use mathlib.Core.Bool.{false}
use mathlib.Core.List.{List, ◌∷◌, ◌++◌, append_assoc}
use Prim.Native.Nat.{ℕ, zero, suc, ◌+◌, ◌-◌, ◌≤◌, ◌<◌}
use native.Mathlib.Omega.{arith}
use native.Mathlib.Decide.{ℕ_discrete}
use lib.IntN.{ℤ, pos}
use lib.ListN.{length, length-append}
use lib.Seq.{drop-append_seam}
use Rattle.std.specs.Prelude.{Option, Some, None}
use Rattle.words.specs.Words.{number_at}
use Rattle.words.specs.Answer.{got}
use Rattle.words.proofs.Laws.{number-first}
use Rattle.program.specs.declared.Spot.{Spot}
use Rattle.program.specs.Told.{told}
use Rattle.program.specs.Reading.{read_expression, read_block, read_statement, after}
use Rattle.program.specs.Forms.{most_statements, expression_depth}
use Rattle.program.specs.Where.{spot_of, or_else, spot_statement, spot_block}
use Rattle.program.specs.Grammar.{block_of, statements_of, statement_of, Yields, Expression}
use Rattle.program.proofs.FormLaws.{number_of_verb}
use Rattle.program.proofs.LengthLaws.{Part, part-refl, part-trans, part-drop, after-got}
use Rattle.program.proofs.GrammarLaws.{expression-complete, yields-complete}
use Rattle.program.proofs.WhereLaws.{spot-here, spot-loop, spot-branch, spot-none, Looking, looking-starts, looking-finds, looking-goes-on, looking-ends}
use Rattle.rules.proofs.VerbLaws.{verb_in, verb-first}

-- what is left after words is a part
pub append-part : (xs ys : List ℤ) → Part (xs ++ ys) ys
append-part xs ys = record {
  short = simp length-append (omega arith);
  is = let e : length (xs ++ ys) - length ys ≡ length xs = omega (arith, length-append xs ys) in rw e (drop-append_seam xs ys);
}

module _ {d left n i : ℕ} {b p : List ℤ} (inv : Looking (suc d) left n b i (length p)) (more : i < n) (part : Part b p) where
  pub row-finds : {v k : ℕ} → spot_of v k ≡ spot_statement (λ r. spot_block d left r) d left p → spot_of v k ≡ spot_block (suc d) left b
  row-finds e = let s : suc d - 1 ≡ d = omega arith in looking-finds inv more (sym part.is) (rw s e) refl

  pub row-goes-on : {q : List ℤ} → None ≡ spot_statement (λ r. spot_block d left r) d left p → read_statement d p ≡ got q → Looking (suc d) left n b (i + 1) (length q)
  row-goes-on {q} e r = let s : suc d - 1 ≡ d = omega arith in looking-goes-on inv more (sym part.is) {r = told (got q)} (rw s e) refl (rw (s, r)) refl

-- a statement takes at least one word
pub long : {d : ℕ} {ws : List ℤ} → Yields (statement_of d) ws → 0 < length ws
long Yields.skip = omega arith
long (Yields.assign a b) = omega arith
long (Yields.new a b f) = omega arith
long (Yields.always c) = omega arith
long (Yields.once c) = omega arith
long (Yields.always_same a b) = omega arith
long (Yields.once_same a b) = omega arith
long (Yields.branch a b c) = omega arith
long (Yields.loop a b) = omega arith

-- ---- what is found in a piece reads there, and begins before the words q that are left after the piece

pub record Found (b q : List ℤ) (left v k : ℕ) : Type 0 where
  pub words : List ℤ
  pub part : Part b words
  pub long : length words ≡ left
  pub verb : number_at words 0 ≡ v
  pub rest : List ℤ
  pub reads : read_statement k words ≡ got rest
  pub before : length q < left

found_in : {b c q r : List ℤ} {left v k : ℕ} → Part b c → length q ≤ length r → Found c r left v k → Found b q left v k
found_in w h f = record {
  words = f.words;
  part = part-trans w f.part;
  long = f.long;
  verb = f.verb;
  rest = f.rest;
  reads = f.reads;
  before = omega (arith, f.before);
}

pub at-nowhere : {X : Type 0} {v k : ℕ} → spot_of v k ≡ None → X
at-nowhere {v = v} {k = k} e = absurd (let w : ◌≡◌ {A = ℕ} 0 1 = cc in omega arith)

-- two that are the same have the same verb, and blocks that nest as deep
abbrev verb_of_spot : Option Spot → ℕ
verb_of_spot (Some s) = s.verb
verb_of_spot None = 0

abbrev nest_of_spot : Option Spot → ℕ
nest_of_spot (Some s) = s.nest
nest_of_spot None = 0

spotted : {X : Type 0} (s : Option Spot) → ((v k : ℕ) → spot_of v k ≡ s → X) → (None ≡ s → X) → X
spotted (Some s) f g = f s.verb s.nest refl
spotted None f g = g refl

-- the place is in the one or in the other
or-else : {X : Type 0} {v k : ℕ} (one other : Option Spot) → spot_of v k ≡ or_else one other → (spot_of v k ≡ one → X) → (spot_of v k ≡ other → X) → X
or-else (Some s) other e f g = f e
or-else None other e f g = g e

module _ (d left : ℕ) where
  abbrev pub spot : List ℤ → Option Spot
  spot p = spot_statement (λ r. spot_block d left r) d left p

  -- in a statement that begins elsewhere, only its blocks count
  pub spot-in-loop : {e : List ℤ} (a : List ℤ) → Expression false expression_depth e → (q : List ℤ) → (length (pos 8 ∷ ((e ++ a) ++ q)) ≡ left → ⊥)
      → spot_block d left (a ++ q) ≡ spot (pos 8 ∷ ((e ++ a) ++ q))
  spot-in-loop {e} a x q ne =
      let one : after (read_expression expression_depth false ((e ++ a) ++ q)) ≡ a ++ q = after-got (rw (append_assoc e a q) (expression-complete x (a ++ q))) in
      rw one at (spot-loop d left (pos 8 ∷ ((e ++ a) ++ q)) ne (number-first (pos 8) ((e ++ a) ++ q)))

  pub spot-in-branch : {e a : List ℤ} (b : List ℤ) → Expression false expression_depth e → Yields (block_of d) a → (q : List ℤ) → (length (pos 7 ∷ ((e ++ (a ++ b)) ++ q)) ≡ left → ⊥)
      → or_else (spot_block d left (a ++ (b ++ q))) (spot_block d left (b ++ q)) ≡ spot (pos 7 ∷ ((e ++ (a ++ b)) ++ q))
  spot-in-branch {e} {a} b x y q ne =
      let one : after (read_expression expression_depth false ((e ++ (a ++ b)) ++ q)) ≡ a ++ (b ++ q) =
      after-got (rw (append_assoc e (a ++ b) q, append_assoc a b q) (expression-complete x (a ++ (b ++ q)))) in
      let two : after (read_block d (a ++ (b ++ q))) ≡ b ++ q = after-got (yields-complete y (b ++ q)) in
      rw (one, two) at (spot-branch d left (pos 7 ∷ ((e ++ (a ++ b)) ++ q)) ne (number-first (pos 7) ((e ++ (a ++ b)) ++ q)))

  module _ (block : (ws : List ℤ) → Yields (block_of d) ws → (q : List ℤ) (v k : ℕ) → spot_of v k ≡ spot_block d left (ws ++ q) → Found (ws ++ q) q left v k) where
    -- a statement that holds no block
    flat : {X : Type 0} {s : List ℤ} (y : Yields (statement_of d) s) (q : List ℤ) {v k : ℕ} → number_of_verb (verb_in y) < 7 → (length (s ++ q) ≡ left → ⊥) → spot_of v k ≡ spot (s ++ q) → X
    flat {s = s} y q h ne e =
        let i : number_at (s ++ q) 0 ≡ number_of_verb (verb_in y) = verb-first y q in
        at-nowhere (e ∙ sym (spot-none d left (s ++ q) ne (λ z. omega arith) (λ z. omega arith)))

    inside : {s : List ℤ} → Yields (statement_of d) s → (q : List ℤ) (v k : ℕ) → (length (s ++ q) ≡ left → ⊥) → spot_of v k ≡ spot (s ++ q) → Found (s ++ q) q left v k
    inside Yields.skip q v k ne e = flat Yields.skip q (omega arith) ne e
    inside (Yields.assign x y) q v k ne e = flat (Yields.assign x y) q (omega arith) ne e
    inside (Yields.new x y f) q v k ne e = flat (Yields.new x y f) q (omega arith) ne e
    inside (Yields.always c) q v k ne e = flat (Yields.always c) q (omega arith) ne e
    inside (Yields.once c) q v k ne e = flat (Yields.once c) q (omega arith) ne e
    inside (Yields.always_same x y) q v k ne e = flat (Yields.always_same x y) q (omega arith) ne e
    inside (Yields.once_same x y) q v k ne e = flat (Yields.once_same x y) q (omega arith) ne e
    inside (Yields.loop {e = u} {a = a} x y) q v k ne e =
        let w : Part (pos 8 ∷ ((u ++ a) ++ q)) (a ++ q) = rw append_assoc (append-part (pos 8 ∷ u) (a ++ q)) in
        found_in w (omega arith) (block a y q v k (e ∙ sym (spot-in-loop a x q ne)))
    inside (Yields.branch {e = u} {a = a} {b = b} x y z) q v k ne e =
        let w : Part (pos 7 ∷ ((u ++ (a ++ b)) ++ q)) (a ++ (b ++ q)) = rw (append_assoc u (a ++ b) q, append_assoc a b q) (append-part (pos 7 ∷ u) (a ++ (b ++ q))) in
        or-else (spot_block d left (a ++ (b ++ q))) (spot_block d left (b ++ q)) (e ∙ sym (spot-in-branch b x y q ne))
        (λ f. found_in w (append-part b q).short (block a y (b ++ q) v k f))
        (λ f. found_in (part-trans w (append-part a (b ++ q))) (omega arith) (block b z q v k f))

    statement-found : {s : List ℤ} → Yields (statement_of d) s → (q : List ℤ) (v k : ℕ) → spot_of v k ≡ spot (s ++ q) → Found (s ++ q) q left v k
    statement-found {s} y q v k e = go (ℕ_discrete (length (s ++ q)) left)
      where
        go : Dec (length (s ++ q) ≡ left) → Found (s ++ q) q left v k
        go (yes h) =
            let i : spot_of v k ≡ spot_of (number_at (s ++ q) 0) d = e ∙ sym (spot-here d left (s ++ q) h) in
            let n : k ≡ d = ap nest_of_spot i in
            record {
              words = s ++ q;
              part = part-refl (s ++ q);
              long = h;
              verb = sym (ap verb_of_spot i);
              rest = q;
              reads = rw n (yields-complete y q);
              before = omega (arith, long y, length-append s q);
            }
        go (no ne) = inside y q v k ne e

    -- the statements of a block b, from number i on
    row-found : {m : ℕ} {ws : List ℤ} (n i : ℕ) (b : List ℤ) → Yields (statements_of d m) ws → (q : List ℤ) (v k : ℕ) → i + m ≡ n → Part b (ws ++ q)
        → Looking (suc d) left n b i (length (ws ++ q)) → spot_of v k ≡ spot_block (suc d) left b → Found b q left v k
    row-found n i b Yields.none q v k h part inv e = at-nowhere (e ∙ sym (looking-ends inv (omega arith)))
    row-found n i b (Yields.one {n = m} {s = s} {ss = ss} x y) q v k h part inv e =
        let part' : Part b (s ++ (ss ++ q)) = rw append_assoc at part in
        let inv' : Looking (suc d) left n b i (length (s ++ (ss ++ q))) = rw append_assoc at inv in
        spotted (spot (s ++ (ss ++ q)))
        (λ u t f. found_in part' (append-part ss q).short (statement-found x (ss ++ q) v k (e ∙ sym (row-finds inv' (omega arith) part' f) ∙ f)))
        (λ f. row-found n (i + 1) b y q v k (omega arith) (part-trans part' (append-part s (ss ++ q))) (row-goes-on inv' (omega arith) part' f (yields-complete x (ss ++ q))) e)

-- the loop over a block's statements, at its first
pub row-starts : (d left n : ℕ) (p : List ℤ) → n ≤ most_statements → Looking (suc d) left n (pos n ∷ p) 0 (length p)
row-starts d left n p h =
    let i : number_at (pos n ∷ p) 0 ≡ n = number-first (pos n) p in
    let z : suc (length p) - 1 ≡ length p = omega arith in
    rw (i, z) at (looking-starts (suc d) left (pos n ∷ p) (λ e. omega arith) (rw i h))

pub block-found : (d left : ℕ) (ws : List ℤ) → Yields (block_of d) ws → (q : List ℤ) (v k : ℕ) → spot_of v k ≡ spot_block d left (ws ++ q) → Found (ws ++ q) q left v k
block-found zero left ws y q v k e = elim y [ ]
block-found (suc d) left ws (Yields.block {n = n} {ss = ss} a y) q v k e =
    row-found d left (block-found d left) n 0 (pos n ∷ (ss ++ q)) y q v k (omega arith) (part-drop 1 (pos n ∷ (ss ++ q))) (row-starts d left n (ss ++ q) a) e

-- the words that are left after a piece begin no statement inside it
out : {b q : List ℤ} {left : ℕ} (s : Option Spot) → left ≤ length q → ((v k : ℕ) → spot_of v k ≡ s → Found b q left v k) → None ≡ s
out s h f = spotted s (λ v k e. absurd (omega (arith, (f v k e).before))) (λ e. e)

pub out-statement : (d left : ℕ) {s : List ℤ} → Yields (statement_of d) s → (q : List ℤ) → left ≤ length q → None ≡ spot d left (s ++ q)
out-statement d left y q h = out _ h (statement-found d left (block-found d left) y q)

pub out-block : (d left : ℕ) {ws : List ℤ} → Yields (block_of d) ws → (q : List ℤ) → left ≤ length q → None ≡ spot_block d left (ws ++ q)
out-block d left y q h = out _ h (block-found d left _ y q)
