-- A block of a program that reads comes, from a state that holds, to exactly what the rules say: it goes on or ends, with this number, place and tally.
-- Assumes nothing.
use mathlib.Core.Path.{◌≡◌, refl, sym, ap, ◌∙◌}
use mathlib.Core.Logic.{◌↔◌}
use Prim.Native.Nat.{ℕ, zero, suc, ◌+◌, ◌<◌, ◌≤◌}
use native.Mathlib.Omega.{arith}
use native.Mathlib.Decide.{dec_lt}
use mathlib.Core.Bool.{Bool, true, false}
use mathlib.Core.List.{List, ◌∷◌}
use lib.IntN.{ℤ, pos}
use lib.ListN.{drop}
use Rattle.words.specs.Words.{number_at}
use Rattle.words.specs.Answer.{got, stop}
use Rattle.words.proofs.AnswerLaws.{either}
use Rattle.words.proofs.Laws.{number-first}
use Rattle.tables.specs.declared.Value.{Value}
use Rattle.tables.specs.declared.Value.TheVariants.{Bool as Truth}
use Rattle.tables.specs.Cells.{Cells}
use Rattle.program.specs.Forms.{expression_depth}
use Rattle.program.specs.Forms.{verb_of}
use Rattle.program.specs.declared.Verb.TheVariants.{If as branch, While as loop}
use Rattle.program.specs.Reading.{read_expression, after}
use Rattle.program.specs.Grammar.{block_of, statement_of, Yields, Expression, Takes}
use Rattle.program.proofs.FormLaws.{number_of_verb, verb-number}
use Rattle.rules.specs.State.{State, Fault, Res}
use Rattle.rules.specs.Statements.{Left, position_of, do_simple}
use Rattle.rules.specs.Running.{Tally, Out, on, end, then_out, paid, taken, test, tested as tested_out, turns, do_verb, do_statement, do_statements, do_block}
use Rattle.rules.specs.Steps.Holds.{Holds, StatementThere}
use Rattle.rules.specs.Rules.Expressions.{Within, Untested}
use Rattle.rules.specs.Rules.Statements.{Gives, Steps, Refused}
use Rattle.rules.specs.Rules.Runs.{Code, block, statements, statement, turning, begun, knowing, Runs}
use Rattle.rules.specs.Rules.Runs.{r_block, r_none, r_some, r_unpaid, r_ended, r_simple, r_refused, r_then, r_else, r_no_if}
use Rattle.rules.specs.Rules.Runs.{r_while, r_stop, r_go, r_no_turn, r_broken, r_no_while}
use Rattle.rules.proofs.EvaluationLaws.{evaluate-iff}
use Rattle.rules.proofs.ReadingLaws.{evaluate-reads, test-reads}
use Rattle.rules.proofs.RunningClauses.{paid-on, paid-ends}
use Rattle.rules.proofs.StepRules.{steps-rule}
use Rattle.rules.proofs.RefusedPieces.{test-rule, untested-sound, untested-complete}
use Rattle.rules.proofs.RefusedRules.{refused-rule}
use Rattle.rules.proofs.WalkLaws.{tally_of}
use Rattle.rules.proofs.Holding.{statements-hold}
use Rattle.rules.proofs.ProgramCode.{InProgram, in_block, in-none, in_some, in-simple, in-branch, in-loop, in-there, does, block-opens, simple-is, past, past-block, past-statement}

-- ---- "If, while test a boolean"

-- what follows an expression with a value is what follows its words
pub value-rest : {S : Cells} {d : ℕ} {p q r : List ℤ} {v : Value} → Takes (Expression false d) p q → Within S d p v r → r ≡ q
value-rest {S} {d} {p} {q} {r} {v} t w =
    (evaluate-reads (λ n. Unit {0}) tt tt S tt t.piece q).good (v, r) (rw t.split at ((evaluate-iff d S p v r).1 w))

test-is : {S : Cells} {p q : List ℤ} {b : Bool} → Within S expression_depth p (Truth b) q → test S p ≡ got b
test-is {S} {p} {q} {b} w = (test-rule S p b).1 (q, w)

-- the test at p, with q after its expression
data Test (S : Cells) (p q : List ℤ) : Res Bool → Type 0 where
  comes-out : {b : Bool} → Within S expression_depth p (Truth b) q → Test S p q (got b)
  fails : {f : Fault} → Untested S false p p f → Test S p q (stop f)

test-out : (S : Cells) (p q : List ℤ) → Takes (Expression false expression_depth) p q → Test S p q (test S p)
test-out S p q t = either (test S p)
    (λ b e. let w = (test-rule S p b).0 e in rw e (comes-out (rw (value-rest t w.1) at w.1)))
    (λ f e. rw e (fails (untested-sound S p f e
    ((test-reads (λ n. n ≡ 2 → ⊥) (λ z. omega arith) (λ z. omega arith) S (λ z. omega arith) t.piece q).bad f (rw t.split at e)))))

module _ (program : List ℤ) (budget : ℕ) where
  -- ---- what a piece of the program comes to follows the rules

  -- what a run goes on from: the state holds, and the steps are within the budget
  pub record Well (S : State) (steps : ℕ) : Type 0 where
    pub held : Holds program S
    pub within : steps ≤ budget

  abbrev pub Good : Tally → Type 0
  Good t = Well t.state t.steps

  pub record Ran (c : Code) (t : Tally) (o : Out) : Type 0 where
    pub runs : Runs program budget c t o
    pub good : Good (tally_of o)
    pub grown : t.steps ≤ (tally_of o).steps

  ran-as : {c e : Code} {t u : Tally} {o : Out} → u.steps ≤ t.steps → (Runs program budget c t o → Runs program budget e u o) → Ran c t o → Ran e u o
  ran-as l f x = record { runs = f x.runs; good = x.good; grown = omega (arith, l, x.grown) }

  -- a statement and those after it
  some-ran : {d n : ℕ} {p q : List ℤ} (t : Tally) (f : Tally → Out) → t.steps < budget → Takes (Yields (statement_of d)) p q
      → (o : Out) → Ran (statement d p) (begun t) o → ((u : Tally) → Good u → Ran (statements d n q) u (f u)) → Ran (statements d (suc n) p) t (then_out o f)
  some-ran t f l k (on u) x g = let y = g u x.good in record { runs = r_some l x.runs k y.runs; good = y.good; grown = omega (arith, x.grown, y.grown) }
  some-ran t f l k (end m place u) x g = record { runs = r_ended l x.runs; good = x.good; grown = omega (arith, x.grown) }

  simple-ran : {d : ℕ} (p : List ℤ) (t : Tally) → StatementThere program p → number_of_verb (verb_of (number_at p 0)) < 7 → Good t
      → Ran (statement d p) t (taken program t (do_simple program p t.state t.unread (verb_of (number_at p 0))))
  unfolding taken
  simple-ran p t here low g = either (do_simple program p t.state t.unread (verb_of (number_at p 0)))
      (λ l e. rw e (record {
        runs = r_simple ((steps-rule program p t.state t.unread here.statement g.held l).0 e);
        good = record { held = statements-hold program p t.state t.unread l here g.held e; within = g.within };
        grown = omega arith;
      }))
      (λ f e. rw e (record {
        runs = r_refused ((refused-rule program p t.state t.unread here.statement g.held low f).0 e);
        good = g;
        grown = omega arith;
      }))

  if-ran : {d : ℕ} {p q r : List ℤ} (t : Tally) (f h : Tally → Out) → Good t → Takes (Yields (block_of d)) q r → (m : Res Bool) → Test t.state.cells p q m
      → ((u : Tally) → Good u → Ran (block d q) u (f u)) → ((u : Tally) → Good u → Ran (block d r) u (h u))
      → Ran (statement d (pos 7 ∷ p)) t (tested_out program t m f h)
  unfolding tested_out
  if-ran t f h g k (got true) (comes-out w) x y = ran-as (omega arith) (r_then w) (x (knowing true t) g)
  if-ran t f h g k (got false) (comes-out w) x y = ran-as (omega arith) (r_else w k) (y (knowing false t) g)
  if-ran t f h g k (stop e) (fails n) x y = record { runs = r_no_if n; good = g; grown = omega arith }

  -- a turn of a while, and those after it
  turn-ran : {d : ℕ} {p q : List ℤ} (t : Tally) (f : Tally → Out) → Within t.state.cells expression_depth p (Truth true) q
      → (o : Out) → Ran (block d q) (knowing true t) o → ((u : Tally) → Good u → t.steps < u.steps → Ran (turning d p) u (f u))
      → Ran (turning d p) t (then_out o λ w. then_out (paid budget (position_of program (pos 8 ∷ p)) w) f)
  turn-ran {d} {p} t f w (on u) x k = go (dec_lt u.steps budget)
    where
      go : Dec (u.steps < budget) → Ran (turning d p) t (then_out (paid budget (position_of program (pos 8 ∷ p)) u) f)
      go (yes l) =
          let y = k (begun u) (record { held = x.good.held; within = l }) (omega (arith, x.grown)) in
          rw (paid-on budget (position_of program (pos 8 ∷ p)) u l) (record { runs = r_go w x.runs l y.runs; good = y.good; grown = omega (arith, x.grown, y.grown) })
      go (no l) =
          let h : budget ≤ u.steps = omega arith in
          rw (paid-ends budget (position_of program (pos 8 ∷ p)) u h) (record { runs = r_no_turn w x.runs h; good = x.good; grown = x.grown })
  turn-ran t f w (end n place u) x k = record { runs = r_broken w x.runs; good = x.good; grown = x.grown }

  while-ran : {d : ℕ} {p q : List ℤ} (t : Tally) (body f : Tally → Out) → Good t → (m : Res Bool) → Test t.state.cells p q m
      → ((u : Tally) → Good u → Ran (block d q) u (body u)) → ((u : Tally) → Good u → t.steps < u.steps → Ran (turning d p) u (f u))
      → Ran (turning d p) t (tested_out program t m (λ u. then_out (body u) λ w. then_out (paid budget (position_of program (pos 8 ∷ p)) w) f) (λ u. on u))
  unfolding tested_out
  while-ran t body f g (got true) (comes-out w) x y = turn-ran t f w (body (knowing true t)) (x (knowing true t) g) y
  while-ran t body f g (got false) (comes-out w) x y = record { runs = r_stop w; good = g; grown = omega arith }
  while-ran t body f g (stop e) (fails n) x y = record { runs = r_no_while n; good = g; grown = omega arith }

  -- the fuel is more than the steps that are left, so it never runs out
  turns-ran : {d : ℕ} {p q : List ℤ} (body : Tally → Out) → Takes (Expression false expression_depth) p q → ((u : Tally) → Good u → Ran (block d q) u (body u))
      → (fuel : ℕ) (t : Tally) → Good t → budget < fuel + t.steps → Ran (turning d p) t (turns body program budget (position_of program (pos 8 ∷ p)) p fuel t)
  unfolding turns
  turns-ran body k x zero t g h = absurd (omega (arith, g.within))
  turns-ran {d} {p} {q} body k x (suc fuel) t g h =
      while-ran t body (λ z. turns body program budget (position_of program (pos 8 ∷ p)) p fuel z) g (test t.state.cells p) (test-out t.state.cells p q k) x
      (λ u i l. turns-ran body k x fuel u i (omega arith))

  pub ran : {c : Code} → InProgram program c → (t : Tally) → Good t → Ran c t (does program budget c t)
  unfolding do_statements do_statement do_verb
  ran (in_block {d = d} {n = n} {p = p} few x) t g = rw (block-opens program budget d n p t few) (ran-as (omega arith) (r_block few) (ran x t g))
  ran in-none t g = record { runs = r_none; good = g; grown = omega arith }
  ran (in_some {d = d} {n = n} {p = p} {q = q} x k y) t g = go (λ u i. ran x u i) (λ u i. ran y u i) (dec_lt t.steps budget)
    where
      go : ((u : Tally) → Good u → Ran (statement d p) u (does program budget (statement d p) u))
          → ((u : Tally) → Good u → Ran (statements d n q) u (does program budget (statements d n q) u))
          → Dec (t.steps < budget) → Ran (statements d (suc n) p) t (does program budget (statements d (suc n) p) t)
      go a b (yes l) =
          rw (paid-on budget (position_of program p) t l, past-statement k)
          (some-ran t (λ u. does program budget (statements d n q) u) l k (does program budget (statement d p) (begun t)) (a (begun t) (record { held = g.held; within = l })) b)
      go a b (no l) =
          let h : budget ≤ t.steps = omega arith in
          rw (paid-ends budget (position_of program p) t h) (record { runs = r_unpaid h; good = g; grown = omega arith })
  ran (in-simple {d = d} {p = p} here low) t g =
      rw (simple-is program budget d p t low)
      (simple-ran p t here low g)
  ran (in-branch {d = d} {p = p} {q = q} {r = r} h s v k j x y) t g =
      rw v (rw s (rw (past k, past-block j)
      (if-ran t (λ u. do_block d program budget q u) (λ u. do_block d program budget r u) g j (test t.state.cells p) (test-out t.state.cells p q k)
      (λ u i. ran x u i) (λ u i. ran y u i))))
  ran (in-loop {d = d} {p = p} {q = q} h s v k x) t g =
      rw v (rw s (rw (past k)
      (ran-as (omega arith) r_while (turns-ran (λ u. do_block d program budget q u) k (λ u i. ran x u i) (suc budget) t g (omega arith)))))

  -- ---- and what the rules say, the piece comes to

  gives-low : {S N : Cells} {p : List ℤ} {target : ℕ} {prefix : List ℕ} {v : Value} → Gives S p target prefix v N → number_at p 0 < 7
  gives-low (Gives.assigns a b) = rw number-first (omega arith)
  gives-low (Gives.makes a b c d e) = rw number-first (omega arith)

  steps_low : {S : State} {ws p : List ℤ} {l : Left} → Steps program S ws p l → number_at p 0 < 7
  steps_low (Steps.s_skip) = rw number-first (omega arith)
  steps_low (Steps.s_gives g a b) = gives-low g
  steps_low (Steps.s_always a b) = rw number-first (omega arith)
  steps_low (Steps.s_once a) = rw number-first (omega arith)
  steps_low (Steps.s_always_identity a b) = rw number-first (omega arith)
  steps_low (Steps.s_once_identity a) = rw number-first (omega arith)

  pub refused-low : {S : State} {ws p : List ℤ} {f : Fault} → Refused program S ws p f → number_at p 0 < 7
  refused-low (Refused.f_value a) = rw number-first (omega arith)
  refused-low (Refused.f_target a b) = rw number-first (omega arith)
  refused-low (Refused.f_field a b c) = rw number-first (omega arith)
  refused-low (Refused.f_full a b c d) = rw number-first (omega arith)
  refused-low (Refused.f_phase g a) = gives-low g
  refused-low (Refused.f_given g a b) = gives-low g
  refused-low (Refused.f_always a b) = rw number-first (omega arith)
  refused-low (Refused.f_once a) = rw number-first (omega arith)
  refused-low (Refused.f_identity a b c) = rw number-first (omega arith)
  refused-low (Refused.f_unkept a b) = rw number-first (omega arith)

  -- a statement of the program, by its first word
  first_word : {s p : List ℤ} {n : ℕ} → s ≡ pos n ∷ p → number_at s 0 ≡ n
  first_word {p = p} {n = n} e = rw e (number-first (pos n) p)

  pub as-simple {ℓ} : {X : Type ℓ} {d : ℕ} {s : List ℤ} → InProgram program (statement d s) → number_at s 0 < 7
      → (StatementThere program s → number_of_verb (verb_of (number_at s 0)) < 7 → X) → X
  as-simple (in-simple here low) h k = k here low
  as-simple (in-branch here e v a b x y) h k = absurd (omega (arith, first_word e))
  as-simple (in-loop here e v a x) h k = absurd (omega (arith, first_word e))

  pub as-branch {ℓ} : {X : Type ℓ} {d : ℕ} {s p : List ℤ} → InProgram program (statement d s) → s ≡ pos 7 ∷ p
      → ((q r : List ℤ) → verb_of (number_at s 0) ≡ branch → Takes (Expression false expression_depth) p q → Takes (Yields (block_of d)) q r
      → InProgram program (block d q) → InProgram program (block d r) → X) → X
  as-branch (in-simple {p = s} here low) e k = absurd (omega (arith, first_word e, low, verb-number (number_at s 0) (omega (arith, low))))
  as-branch (in-branch here f v a b x y) e k = k _ _ v (rw (ap (drop 1) (sym f ∙ e)) at a) b x y
  as-branch (in-loop here f v a x) e k = absurd (omega (arith, first_word e, first_word f))

  pub as-loop {ℓ} : {X : Type ℓ} {d : ℕ} {s p : List ℤ} → InProgram program (statement d s) → s ≡ pos 8 ∷ p
      → ((q : List ℤ) → verb_of (number_at s 0) ≡ loop → Takes (Expression false expression_depth) p q → InProgram program (block d q) → X) → X
  as-loop (in-simple {p = s} here low) e k = absurd (omega (arith, first_word e, low, verb-number (number_at s 0) (omega (arith, low))))
  as-loop (in-branch here f v a b x y) e k = absurd (omega (arith, first_word e, first_word f))
  as-loop (in-loop here f v a x) e k = k _ v (rw (ap (drop 1) (sym f ∙ e)) at a) x

  -- what is to be known of a piece, and what it comes to; for a while, with any fuel that the budget cannot use up
  abbrev pub Known : Code → Type 0
  Known (block d p) = InProgram program (block d p)
  Known (statements d n p) = InProgram program (statements d n p)
  Known (statement d p) = InProgram program (statement d p)
  Known (turning d p) = StatementThere program (pos 8 ∷ p) × ((q : List ℤ) × (Takes (Expression false expression_depth) p q × InProgram program (block d q)))

  abbrev Comes : Code → Tally → Out → Type 0
  Comes (block d p) t o = does program budget (block d p) t ≡ o
  Comes (statements d n p) t o = does program budget (statements d n p) t ≡ o
  Comes (statement d p) t o = does program budget (statement d p) t ≡ o
  Comes (turning d p) t o = (fuel : ℕ) → budget < fuel + t.steps
      → turns (λ w. do_block d program budget (after (read_expression expression_depth false p)) w) program budget (position_of program (pos 8 ∷ p)) p fuel t ≡ o

  ran_on : {c : Code} {t u : Tally} → InProgram program c → Good t → does program budget c t ≡ on u → Ran c t (on u)
  ran_on {t = t} x g e = rw e at (ran x t g)

  -- a while that tests once more
  once_more : (body : Tally → Out) (place : ℕ) (p : List ℤ) (t : Tally) (o : Out) → Good t
      → ((fuel : ℕ) → budget < suc fuel + t.steps
      → tested_out program t (test t.state.cells p) (λ u. then_out (body u) λ w. then_out (paid budget place w) λ z. turns body program budget place p fuel z) (λ u. on u) ≡ o)
      → (fuel : ℕ) → budget < fuel + t.steps → turns body program budget place p fuel t ≡ o
  unfolding turns
  once_more body place p t o g k zero h = absurd (omega (arith, g.within))
  once_more body place p t o g k (suc fuel) h = k fuel h

  pub same-statement : {d : ℕ} {p q r : List ℤ} → Takes (Yields (statement_of d)) p q → Takes (Yields (statement_of d)) p r → q ≡ r
  same-statement k j = sym (past-statement k) ∙ past-statement j

  pub same_block : {d : ℕ} {p q r : List ℤ} → Takes (Yields (block_of d)) p q → Takes (Yields (block_of d)) p r → q ≡ r
  same_block k j = sym (past-block k) ∙ past-block j

  comes : {c : Code} {t : Tally} {o : Out} → Runs program budget c t o → Known c → Good t → Comes c t o
  unfolding do_statements do_statement do_verb tested_out taken
  comes (r_block {d = d} {n = n} {p = p} {t = t} few r) (in_block few' x) g = block-opens program budget d n p t few ∙ comes r x g
  comes r_none x g = refl
  comes (r_some {d = d} {n = n} {p = p} {q = q} {t = t} l r k z) (in_some x k' y) g =
      let i : Good (begun t) = record { held = g.held; within = l } in
      let e = comes r x i in
      rw (paid-on budget (position_of program p) t l, e, past-statement k) (comes z (rw (same-statement k' k) at y) (ran_on x i e).good)
  comes (r_unpaid {p = p} {t = t} h) x g = rw (paid-ends budget (position_of program p) t h)
  comes (r_ended {p = p} {t = t} l r) (in_some x k y) g =
      rw (paid-on budget (position_of program p) t l, comes r x (record { held = g.held; within = l }))
  comes (r_simple {d = d} {p = p} {t = t} {l = l} s) x g = as-simple x (steps_low s) λ here low.
      rw (
        simple-is program budget d p t low,
        (steps-rule program p t.state t.unread here.statement g.held l).1 s,
      )
  comes (r_refused {d = d} {f = f} {p = p} {t = t} s) x g = as-simple x (refused-low s) λ here low.
      rw (
        simple-is program budget d p t low,
        (refused-rule program p t.state t.unread here.statement g.held low f).1 s,
      )
  comes (r_then {p = p} {t = t} w r) x g = as-branch x refl λ q' r' v k j y z.
      rw (v, test-is w, past k, ← value-rest k w) (comes r (rw (value-rest k w) y) g)
  comes (r_else {d = d} {r = s} {t = t} w i r) x g = as-branch x refl λ q' r' v k j y z.
      let e : r' ≡ s = same_block j (rw (value-rest k w) at i) in
      rw (v, test-is w, past k, past-block j, e) (comes r (rw e at z) g)
  comes (r_no_if {p = p} {t = t} u) x g = as-branch x refl λ q r v k j y z.
      rw (v, untested-complete t.state.cells p u)
  comes (r_while r) x g = as-loop x refl λ q v k y. rw v (comes r (in-there x, (q, (k, y))) g (suc budget) (omega arith))
  comes (r_stop {p = p} {t = t} w) x g = once_more _ _ p t _ g λ fuel h. rw (test-is w)
  comes (r_go {d = d} {p = p} {q = q} {t = t} {u = u} w r l z) (here, (q', (k, x))) g =
      let y : InProgram program (block d q) = rw (value-rest k w) x in
      let a : after (read_expression expression_depth false p) ≡ q = past k ∙ sym (value-rest k w) in
      let e : does program budget (block d q) (knowing true t) ≡ on u = comes r y g in
      once_more _ _ p t _ g λ fuel h.
      rw (test-is w, a, e, paid-on budget (position_of program (pos 8 ∷ p)) u l)
      (rw a at (comes z (here, (q', (k, x))) (record { held = (ran_on y g e).good.held; within = l }) fuel (omega (arith, (ran_on y g e).grown))))
  comes (r_no_turn {d = d} {p = p} {q = q} {t = t} {u = u} w r h) (here, (q', (k, x))) g =
      let a : after (read_expression expression_depth false p) ≡ q = past k ∙ sym (value-rest k w) in
      let e : does program budget (block d q) (knowing true t) ≡ on u = comes r (rw (value-rest k w) x) g in
      once_more _ _ p t _ g λ fuel m. rw (test-is w, a, e, paid-ends budget (position_of program (pos 8 ∷ p)) u h)
  comes (r_broken {d = d} {n = n} {place = place} {p = p} {q = q} {t = t} {u = u} w r) (here, (q', (k, x))) g =
      let a : after (read_expression expression_depth false p) ≡ q = past k ∙ sym (value-rest k w) in
      let e : does program budget (block d q) (knowing true t) ≡ end n place u = comes r (rw (value-rest k w) x) g in
      once_more _ _ p t _ g λ fuel m. rw (test-is w, a, e)
  comes (r_no_while {p = p} {t = t} u) x g =
      once_more _ _ p t _ g λ fuel m. rw (untested-complete t.state.cells p u)

  -- a block of the program comes to this exactly where the rules say so
  pub block-rule : (d : ℕ) (p : List ℤ) (t : Tally) (o : Out) → InProgram program (block d p) → Holds program t.state → t.steps ≤ budget
      → (do_block d program budget p t ≡ o) ↔ Runs program budget (block d p) t o
  block-rule d p t o x h l =
      let g : Good t = record { held = h; within = l } in
      (λ e. rw e at (ran x t g).runs, λ r. comes r x g)
