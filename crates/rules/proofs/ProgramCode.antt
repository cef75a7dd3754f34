-- The code of a program that reads: each statement that a run may meet stands in the program, and each piece's words are those of the grammar;
-- and what such a piece does.
-- Assumes nothing.
use mathlib.Core.Path.{◌≡◌, refl, sym, ap, ◌∙◌}
use mathlib.Core.Bool.{false}
use mathlib.Core.List.{List, [], ◌∷◌, ◌++◌, append_assoc, append-nil}
use Prim.Native.Nat.{ℕ, zero, suc, ◌+◌, ◌-◌, ◌≤◌, ◌<◌}
use native.Mathlib.Omega.{arith}
use native.Mathlib.Decide.{dec_lt}
use lib.IntN.{ℤ, pos}
use lib.ListN.{length, drop, length-append, length-drop}
use Rattle.words.specs.Words.{number_at}
use Rattle.program.specs.Forms.{most_words, most_statements, block_depth, expression_depth}
use Rattle.program.specs.Forms.{verb_of}
use Rattle.program.specs.declared.Verb.{Verb}
use Rattle.program.specs.declared.Verb.TheVariants.{Skip as skip, Assign as assign, New as new, Always as always, Once as once, AlwaysSame as always_same, OnceSame as once_same, If as branch, While as loop, Unknown as no_verb}
use Rattle.program.specs.Reading.{read_expression, read_block, read_statement, after}
use Rattle.program.specs.Where.{spot_of, spot_statement, spot_block, statement_at}
use Rattle.program.specs.Grammar.{block_of, statements_of, statement_of, Yields, Expression, Takes, Program}
use Rattle.program.proofs.FormLaws.{number_of_verb}
use Rattle.program.proofs.NumberLaws.{number-of}
use Rattle.program.proofs.LengthLaws.{Part, part-refl, part-trans, part-drop, after-got}
use Rattle.program.proofs.GrammarLaws.{expression-complete, yields-complete}
use Rattle.program.proofs.WhereLaws.{spot-here, Looking, statement-in, statement-past}
use Rattle.rules.specs.Statements.{position_of, do_simple}
use Rattle.rules.specs.Running.{Tally, Out, taken, turns, do_verb, do_statements, do_block}
use Rattle.rules.specs.Steps.Holds.{StatementThere}
use Rattle.rules.specs.Rules.Kept.{AtStatement, at}
use Rattle.rules.specs.Rules.Runs.{Code, block, statements, statement, turning}
use Rattle.rules.proofs.RunningClauses.{Simple, is-skip, is-assign, is-new, is-always, is-once, is-always-same, is-once-same, verb-simple}
use Rattle.rules.proofs.VerbLaws.{verb_in, verb-in}
use Rattle.rules.proofs.SpotLaws.{append-part, long, row-finds, row-goes-on, spot-in-loop, spot-in-branch, row-starts, at-nowhere, Found, block-found, out-statement, out-block}

-- this code is of the program
pub data InProgram (program : List ℤ) : Code → Type 0 where
  in_block : {d n : ℕ} {p : List ℤ} → n ≤ most_statements → InProgram program (statements d n p) → InProgram program (block (suc d) (pos n ∷ p))
  in-none : {d : ℕ} {p : List ℤ} → InProgram program (statements d 0 p)
  in_some : {d n : ℕ} {p q : List ℤ} → InProgram program (statement d p) → Takes (Yields (statement_of d)) p q → InProgram program (statements d n q)
      → InProgram program (statements d (suc n) p)
  in-simple : {d : ℕ} {p : List ℤ} → StatementThere program p → number_of_verb (verb_of (number_at p 0)) < 7 → InProgram program (statement d p)
  in-branch : {d : ℕ} {s p q r : List ℤ} → StatementThere program s → s ≡ pos 7 ∷ p → verb_of (number_at s 0) ≡ branch → Takes (Expression false expression_depth) p q → Takes (Yields (block_of d)) q r
      → InProgram program (block d q) → InProgram program (block d r) → InProgram program (statement d s)
  in-loop : {d : ℕ} {s p q : List ℤ} → StatementThere program s → s ≡ pos 8 ∷ p → verb_of (number_at s 0) ≡ loop → Takes (Expression false expression_depth) p q
      → InProgram program (block d q) → InProgram program (statement d s)

takes : {P : List ℤ → Type 0} (ws q : List ℤ) → P ws → Takes P (ws ++ q) q
takes ws q x = record { words = ws; piece = x; split = refl }

module _ (program : List ℤ) (short : length program ≤ most_words) where
  -- what is found in the block b, before the rest r, is found in the program
  abbrev FoundToo : ℕ → List ℤ → List ℤ → Type 0
  FoundToo d b r = (left v k : ℕ) → length r < left → left ≤ length b → spot_of v k ≡ spot_block d left b → spot_of v k ≡ spot_block block_depth left program

  -- every block of this nesting is of the program
  abbrev Blocks : ℕ → Type 0
  Blocks d = (ws : List ℤ) → Yields (block_of d) ws → (r : List ℤ) → Part program (ws ++ r) → FoundToo d (ws ++ r) r → InProgram program (block d (ws ++ r))

  -- the statement at p, number i of the n of the block b, with q after it
  module _ (d : ℕ) (blocks : Blocks d) (b r : List ℤ) (outer : Part program b) (found : FoundToo (suc d) b r) (n i : ℕ) (more : i < n) (q : List ℤ) (behind : length r ≤ length q) where
    abbrev At-row : List ℤ → Type 0
    At-row p = (left : ℕ) → left ≤ length p → Looking (suc d) left n b i (length p)

    -- what is found in the statement is found in the program
    found_in : (p : List ℤ) → Part b p → At-row p → (left v k : ℕ) → length q < left → left ≤ length p → spot_of v k ≡ spot_statement (λ u. spot_block d left u) d left p
        → spot_of v k ≡ spot_block block_depth left program
    found_in p part look left v k x y e = found left v k (omega arith) (omega (arith, part.short)) (row-finds (look left y) more part e)

    statement-here : {s : List ℤ} → Yields (statement_of d) s → Part b (s ++ q) → At-row (s ++ q) → StatementThere program (s ++ q)
    statement-here {s} y part look =
        let l : length (s ++ q) ≡ length s + length q = length-append s q in
        let whole : Part program (s ++ q) = part-trans outer part in
        let e : length program - (length program - length (s ++ q)) ≡ length (s ++ q) = omega (arith, whole.short) in
        let c = found_in (s ++ q) part look (length (s ++ q)) (number_at (s ++ q) 0) d (omega (arith, long y)) (omega arith) (spot-here d (length (s ++ q)) (s ++ q) refl) in
        record {
          short = short;
          part = whole.is;
          statement = record { nest = d; rest = q; reads = yields-complete y q };
          there = sym (c ∙ rw e at (statement-in program (position_of program (s ++ q)) (omega (arith, long y, whole.short))));
        }

    flat : {s : List ℤ} (y : Yields (statement_of d) s) → number_of_verb (verb_in y) < 7 → Part b (s ++ q) → At-row (s ++ q) → InProgram program (statement d (s ++ q))
    flat y h part look = in-simple (statement-here y part look) (rw (verb-in y q) h)

    statement-of : {s : List ℤ} → Yields (statement_of d) s → Part b (s ++ q) → At-row (s ++ q) → InProgram program (statement d (s ++ q))
    statement-of Yields.skip part look = flat Yields.skip (omega arith) part look
    statement-of (Yields.assign x y) part look = flat (Yields.assign x y) (omega arith) part look
    statement-of (Yields.new x y f) part look = flat (Yields.new x y f) (omega arith) part look
    statement-of (Yields.always c) part look = flat (Yields.always c) (omega arith) part look
    statement-of (Yields.once c) part look = flat (Yields.once c) (omega arith) part look
    statement-of (Yields.always_same x y) part look = flat (Yields.always_same x y) (omega arith) part look
    statement-of (Yields.once_same x y) part look = flat (Yields.once_same x y) (omega arith) part look
    statement-of (Yields.loop {e = e} {a = a} x y) part look =
        let inside : Part (pos 8 ∷ ((e ++ a) ++ q)) (a ++ q) = rw append_assoc (append-part (pos 8 ∷ e) (a ++ q)) in
        let shorter : length (a ++ q) < length (pos 8 ∷ ((e ++ a) ++ q)) = omega (arith, ap length (append_assoc e a q), (append-part e (a ++ q)).short) in
        let finds : FoundToo d (a ++ q) q = λ left v k h l f.
        found_in (pos 8 ∷ ((e ++ a) ++ q)) part look left v k h (omega arith) (f ∙ spot-in-loop d left a x q (λ z. omega arith)) in
        in-loop (statement-here (Yields.loop x y) part look) (ap (λ (z : List ℤ). pos 8 ∷ z) (append_assoc e a q)) (verb-in (Yields.loop x y) q) (takes e (a ++ q) x) (blocks a y q (part-trans outer (part-trans part inside)) finds)
    statement-of (Yields.branch {e = e} {a = a} {b = c} x y w) part look =
        let u : (e ++ (a ++ c)) ++ q ≡ e ++ (a ++ (c ++ q)) = append_assoc e (a ++ c) q ∙ ap (λ (z : List ℤ). e ++ z) (append_assoc a c q) in
        let first : Part (pos 7 ∷ ((e ++ (a ++ c)) ++ q)) (a ++ (c ++ q)) = rw u (append-part (pos 7 ∷ e) (a ++ (c ++ q))) in
        let shorter : length (a ++ (c ++ q)) < length (pos 7 ∷ ((e ++ (a ++ c)) ++ q)) = omega (arith, ap length u, (append-part e (a ++ (c ++ q))).short) in
        let second : Part (a ++ (c ++ q)) (c ++ q) = append-part a (c ++ q) in
        let third : Part (c ++ q) q = append-part c q in
        let whole : Part program (a ++ (c ++ q)) = part-trans outer (part-trans part first) in
        let finds : FoundToo d (a ++ (c ++ q)) (c ++ q) = λ left v k h l f.
        found_in (pos 7 ∷ ((e ++ (a ++ c)) ++ q)) part look left v k (omega (arith, third.short)) (omega arith) (rw (← f) at (spot-in-branch d left c x y q (λ z. omega arith))) in
        let finds' : FoundToo d (c ++ q) q = λ left v k h l f.
        found_in (pos 7 ∷ ((e ++ (a ++ c)) ++ q)) part look left v k h (omega (arith, second.short))
        (f ∙ rw (← out-block d left y (c ++ q) l) at (spot-in-branch d left c x y q (λ z. omega (arith, second.short)))) in
        in-branch (statement-here (Yields.branch x y w) part look) (ap (λ (z : List ℤ). pos 7 ∷ z) u) (verb-in (Yields.branch x y w) q) (takes e (a ++ (c ++ q)) x) (takes a (c ++ q) y) (blocks a y (c ++ q) whole finds)
        (blocks c w q (part-trans whole second) finds')

  -- the statements of a block from number i on
  row_of : (d : ℕ) → Blocks d → (b r : List ℤ) → Part program b → FoundToo (suc d) b r
      → (n : ℕ) {m : ℕ} {ws : List ℤ} → Yields (statements_of d m) ws → (i : ℕ) → i + m ≡ n → Part b (ws ++ r)
      → ((left : ℕ) → left ≤ length (ws ++ r) → Looking (suc d) left n b i (length (ws ++ r))) → InProgram program (statements d m (ws ++ r))
  row_of d blocks b r whole found n Yields.none i e part look = in-none
  row_of d blocks b r whole found n (Yields.one {n = m} {s = s} {ss = ss} x y) i e part look =
      let part' : Part b (s ++ (ss ++ r)) = rw append_assoc at part in
      let look' : (left : ℕ) → left ≤ length (s ++ (ss ++ r)) → Looking (suc d) left n b i (length (s ++ (ss ++ r))) = rw append_assoc at look in
      let behind : length r ≤ length (ss ++ r) = (append-part ss r).short in
      let more : i < n = omega arith in
      rw (append_assoc s ss r)
      (in_some (statement-of d blocks b r whole found n i more (ss ++ r) behind x part' look') (takes s (ss ++ r) x)
      (row_of d blocks b r whole found n y (i + 1) (omega arith) (part-trans part' (append-part s (ss ++ r)))
      (λ left h. row-goes-on (look' left (omega (arith, (append-part s (ss ++ r)).short))) more part' (out-statement d left x (ss ++ r) h)
      (yields-complete x (ss ++ r)))))

  block-of : (d : ℕ) → Blocks d
  block-of zero ws y r part found = elim y [ ]
  block-of (suc d) ws (Yields.block {n = n} {ss = ss} few y) r part found =
      in_block few (row_of d (block-of d) (pos n ∷ (ss ++ r)) r part found n y 0 (omega arith) (part-drop 1 (pos n ∷ (ss ++ r))) (λ left h. row-starts d left n (ss ++ r) few))

-- a program is of itself
pub program-of : (program : List ℤ) → Program program → InProgram program (block block_depth program)
program-of program g =
    let e : program ++ [] ≡ program = append-nil program in
    rw e at (block-of program g.short block_depth program g.yields [] (rw e (part-refl program)) (rw e (λ left v k h l f. f)))

-- ---- what is found in a program that reads is a statement that stands there, and no other does

-- a statement that is found at k
record FoundAt (program : List ℤ) (k verb nest : ℕ) : Type 0 where
  inside : k < length program
  found : Found program [] (length program - k) verb nest
  is : drop k program ≡ found.words

found_at : {program : List ℤ} (k : ℕ) {verb nest : ℕ} → Program program → statement_at program k ≡ spot_of verb nest → FoundAt program k verb nest
found_at {program} k {verb} {nest} g e = go (dec_lt k (length program))
  where
    go : Dec (k < length program) → FoundAt program k verb nest
    go (no h) = at-nowhere (sym e ∙ sym (statement-past program k (omega arith)))
    go (yes h) =
        let f : Found program [] (length program - k) verb nest =
        rw append-nil at (block-found block_depth (length program - k) program g.yields [] verb nest (rw append-nil (sym e ∙ sym (statement-in program k h)))) in
        let i : length program - length f.words ≡ k = omega (arith, f.long) in
        record { inside = h; found = f; is = rw i at f.part.is }

pub statement-there : {program p : List ℤ} → Program program → AtStatement program p → StatementThere program p
statement-there {program} g (at k {verb} {nest} e) =
    let x = found_at k g e in
    let j : position_of program (drop k program) ≡ k = omega (arith, length-drop k program, x.inside) in
    record {
      short = g.short;
      part = (part-drop k program).is;
      statement = record { nest = nest; rest = x.found.rest; reads = rw x.is x.found.reads };
      there = rw (j, x.is, x.found.verb) e;
    }

-- its first word is its verb's number
pub there-verb : {program : List ℤ} (k : ℕ) {verb nest : ℕ} → Program program → statement_at program k ≡ spot_of verb nest → number_at (drop k program) 0 ≡ verb
there-verb k g e = let x = found_at k g e in rw x.is x.found.verb

-- every statement of the program stands there
pub in-there : {program : List ℤ} {d : ℕ} {p : List ℤ} → InProgram program (statement d p) → StatementThere program p
in-there (in-simple h l) = h
in-there (in-branch h e v k j x y) = h
in-there (in-loop h e v k x) = h

-- the part at a statement is a part of the program
pub there-part : {program p : List ℤ} → StatementThere program p → Part program p
there-part {program} {p} here = rw here.part at (part-drop (position_of program p) program)

pub there-at : {program p : List ℤ} → StatementThere program p → AtStatement program p
there-at {program} {p} h = rw h.part at (AtStatement.at (position_of program p) h.there)

-- ---- what a piece does

simple-verb : (v : Verb) → number_of_verb v < 7 → Simple v
simple-verb skip h = is-skip
simple-verb assign h = is-assign
simple-verb new h = is-new
simple-verb always h = is-always
simple-verb once h = is-once
simple-verb always_same h = is-always-same
simple-verb once_same h = is-once-same
simple-verb branch h = absurd (omega arith)
simple-verb loop h = absurd (omega arith)
simple-verb no_verb h = absurd (omega arith)

pub past : {p q : List ℤ} → Takes (Expression false expression_depth) p q → after (read_expression expression_depth false p) ≡ q
past {q = q} t = after-got (rw t.split (expression-complete t.piece q))

pub past-block : {d : ℕ} {p q : List ℤ} → Takes (Yields (block_of d)) p q → after (read_block d p) ≡ q
past-block {q = q} t = after-got (rw t.split (yields-complete t.piece q))

pub past-statement : {d : ℕ} {p q : List ℤ} → Takes (Yields (statement_of d)) p q → after (read_statement d p) ≡ q
past-statement {q = q} t = after-got (rw t.split (yields-complete t.piece q))

module _ (program : List ℤ) (budget : ℕ) where
  abbrev pub does : Code → Tally → Out
  does (block d p) t = do_block d program budget p t
  does (statements d n p) t = do_statements (λ q w. do_block d program budget q w) d program budget n p t
  does (statement d p) t = do_verb (λ q w. do_block d program budget q w) (λ q. after (read_block d q)) program budget p (verb_of (number_at p 0)) t
  does (turning d p) t = turns (λ w. do_block d program budget (after (read_expression expression_depth false p)) w) program budget (position_of program (pos 8 ∷ p)) p (suc budget) t

  pub block-opens : (d n : ℕ) (p : List ℤ) (t : Tally) → n ≤ most_statements → does (block (suc d) (pos n ∷ p)) t ≡ does (statements d n p) t
  unfolding do_block
  block-opens d n p t few = rw (number-of 0 most_statements n p (omega arith) few, do_block)

  pub simple-is : (d : ℕ) (p : List ℤ) (t : Tally) → number_of_verb (verb_of (number_at p 0)) < 7
      → does (statement d p) t ≡ taken program t (do_simple program p t.state t.unread (verb_of (number_at p 0)))
  simple-is d p t low =
      verb-simple (λ q w. do_block d program budget q w) (λ q. after (read_block d q)) program budget p t (verb_of (number_at p 0)) (simple-verb (verb_of (number_at p 0)) low)
