-- What the code of statements that hold blocks, and of blocks, comes to. Assumes nothing.
use mathlib.Core.Path.{◌≡◌, refl, sym, ap, ◌∙◌}
use mathlib.Core.Bool.{Bool, true, false}
use mathlib.Core.List.{List, []}
use Prim.Native.Nat.{ℕ, zero, suc, ◌+◌, ◌-◌, ◌≤◌, ◌<◌}
use native.Mathlib.Omega.{arith}
use native.Mathlib.Numerals.{sub-one}
use lib.IntN.{ℤ}
use lib.ListN.{length, drop}
use Rattle.std.specs.Prelude.{Result, Ok, Err}
use Rattle.words.specs.Words.{number_at, last_of}
use Rattle.words.specs.Answer.{got, stop}
use Rattle.tables.specs.declared.Tables.{Tables}
use Rattle.tables.specs.Lending.{cells_in, StillLent}
use Rattle.program.specs.declared.Refusal.{Refusal}
use Rattle.program.specs.Told.{told, words_left}
use Rattle.program.specs.Forms.{verb_of}
use Rattle.program.specs.declared.Verb.TheVariants.{If as branch, While as loop}
use Rattle.program.specs.Reading.{read_expression, read_block, read_statement, after}
use Rattle.program.proofs.LengthLaws.{Part, part-trans, after-part, uses-keeps, expression-uses, statement-uses, block-uses}
use Rattle.program.proofs.RowLaws.{last-part, last-all, last-but-one}
use Rattle.program.proofs.WhereLaws.{after_is}
use Rattle.rules.specs.State.{State, Res}
use Rattle.rules.specs.Statements.{position_of}
use Rattle.rules.specs.Running.{Out, on, then_out, paid, noted, test, tested, turns, past_test, do_verb, do_statement, do_statements, do_block}
use Rattle.rules.specs.Running.{Tally as Carries}
use Rattle.rules.proofs.RefusalLaws.{refusal-least, test-refuses}
use Rattle.rules.proofs.RunningClauses.{tested-true, tested-false, tested-stop, turns_more}
use Rattle.rules.proofs.RunningClauses.{verb-branch, verb-loop, statement-is, statements-none, statements-more, block_none, block-unfit, block-is}
use Rattle.proposals.proofs.FormLaws.{unlike}
use Rattle.expressions.specs.Judging.{tested_of}
use Rattle.phases.specs.Told.{state_in}
use Rattle.lent.specs.declared.Tally.{Tally}
use Rattle.lent.specs.Tallied.{carries, out_of, untold_out, Runs, Begins, Goes, ended_at, paid_by}
use Rattle.lent.specs.Lending.{holds_blocks, one_statement, Steps}
use Rattle.lent.proofs.TallyLaws.{halted, goes-from, goes_on, goes-ends, went_on, pay-one, pay-is, pay-goes}
use Rattle.lent.proofs.LentLaws.{is-loop}
use Rattle.lent.proofs.CodeClaims.{as-in-a-run}
use Rattle.block.proofs.TestLaws.{Forgets, then-untold, then-forgets, paid-forgets, turns-forget, turn-forgets, statements-forget, block-forgets}

-- what is still lent before a step, and after one step and the next
pub lent-same : {a : Tables} → StillLent a a
lent-same = record {
  environment = refl;
  heap = refl;
  constraints = refl;
  environment_length = refl;
  heap_length = refl;
  constraints_length = refl;
}

pub lent-then : {a b c : Tables} → StillLent a b → StillLent b c → StillLent a c
lent-then x y = record {
  environment = y.environment ∙ x.environment;
  heap = y.heap ∙ x.heap;
  constraints = y.constraints ∙ x.constraints;
  environment_length = y.environment_length ∙ x.environment_length;
  heap_length = y.heap_length ∙ x.heap_length;
  constraints_length = y.constraints_length ∙ x.constraints_length;
}

-- the parts after the test, and after a block
pub past-test : {r : Result ℕ ℕ} {left : ℕ} (p : List ℤ) {q first : List ℤ} → q ≡ drop 1 p → r ≡ told (read_expression 16 false q) → left ≡ words_left r → first ≡ last_of left q → first ≡ past_test p
past-test p {q = q} k e n l = rw (← k) (after_is (read_expression 16 false q) (after-part _ (uses-keeps (expression-uses 16 false q))) e n l)

pub past-block : {r : Result ℕ ℕ} {left : ℕ} (d : ℕ) (p : List ℤ) {q : List ℤ} → r ≡ told (read_block d p) → left ≡ words_left r → q ≡ last_of left p → q ≡ after (read_block d p)
past-block d p e n l = after_is (read_block d p) (after-part _ (uses-keeps (block-uses d p))) e n l

-- ---- a block

module _ (program : List ℤ) (budget : ℕ) (p ws : List ℤ) (S : State) {t : Tally} (b : Begins ws t) {place : ℕ} (l : place ≡ position_of program p) where
  pub block-deep : {r : Tally} (d : ℕ) → d ≡ 0 → r ≡ ended_at 2 place t → Goes ws t S r (do_block d program budget p (carries ws S t))
  block-deep d e k = goes-ends b (omega arith) (λ z. omega arith) k (rw (e, l, block_none program budget p (carries ws S t)))

  pub block-long : {r : Tally} (d : ℕ) → (d ≡ 0 → ⊥) → 255 < number_at p 0 → r ≡ ended_at 2 place t → Goes ws t S r (do_block d program budget p (carries ws S t))
  block-long zero ne h k = absurd (ne refl)
  block-long (suc d) ne h k = goes-ends b (omega arith) (λ z. omega arith) k (rw (l, block-unfit program budget p (carries ws S t) d h))

-- the loop over the n statements of the block at p: i are run, `left` words are left, and the rest gives the whole's answer
pub record Row (program p ws : List ℤ) (T₀ T : Tables) (budget d n : ℕ) (t u : Tally) (left i : ℕ) : Type 0 where
  pub inside : i ≤ n
  pub lent : StillLent T₀ T
  pub begins : Begins ws u
  pub grows : t.steps ≤ u.steps
  pub rest :
      untold_out (do_statements (λ q v. do_block (d - 1) program budget q v) (d - 1) program budget (n - i) (last_of left p) (carries ws (state_in T) u))
      ≡ untold_out (do_block d program budget p (carries ws (state_in T₀) t))

opened : (program : List ℤ) (budget : ℕ) (p : List ℤ) (t : Carries) (d : ℕ) → (d ≡ 0 → ⊥) → number_at p 0 ≤ 255
    → do_statements (λ q v. do_block (d - 1) program budget q v) (d - 1) program budget (number_at p 0) (drop 1 p) t ≡ do_block d program budget p t
opened program budget p t zero ne h = absurd (ne refl)
opened program budget p t (suc d) ne h = rw (sub-one (suc d)) (sym (block-is program budget p t d h))

pub row-starts : {program p ws : List ℤ} {T : Tables} {budget d : ℕ} {t : Tally} → (d ≡ 0 → ⊥) → number_at p 0 ≤ 255 → Begins ws t
    → Row program p ws T T budget d (number_at p 0) t t (length p - 1) 0
row-starts {program} {p} {ws} {T} {budget} {d} {t} ne k b =
    let z : number_at p 0 - 0 ≡ number_at p 0 = omega arith in
    record {
      inside = omega arith;
      lent = lent-same;
      begins = b;
      grows = omega arith;
      rest = rw (z, last-but-one p) (ap untold_out (opened program budget p (carries ws (state_in T) t) d ne k));
    }

module _ {program p ws : List ℤ} {T₀ T : Tables} {budget d n : ℕ} {t u : Tally} {left i : ℕ} (inv : Row program p ws T₀ T budget d n t u left i) where
  module _ (more : i < n) {q : List ℤ} (is : q ≡ last_of left p) (T' : Tables) {r : Tally}
      (g : Goes ws u (state_in T') r (do_statement (λ s v. do_block (d - 1) program budget s v) (λ s. after (read_block (d - 1) s)) program budget q (carries ws (state_in T) u)))
    where
      row-turn :
          untold_out (then_out (out_of ws (state_in T') r) λ v.
          do_statements (λ s w. do_block (d - 1) program budget s w) (d - 1) program budget (n - (i + 1)) (after (read_statement (d - 1) q)) v)
          ≡ untold_out (do_block d program budget p (carries ws (state_in T₀) t))
      row-turn =
          let z : n - i ≡ suc (n - (i + 1)) = omega arith in
          rw g.runs.is
          (sym
          (then-untold (statements-forget (λ s w. do_block (d - 1) program budget s w) (block-forgets (d - 1) program budget) (d - 1) program budget (n - (i + 1)) (after (read_statement (d - 1) q)))
          (do_statement (λ s w. do_block (d - 1) program budget s w) (λ s. after (read_block (d - 1) s)) program budget q (carries ws (state_in T) u)))
          ∙ (rw (z, ← is, statements-more (λ s w. do_block (d - 1) program budget s w) (d - 1) program budget q (carries ws (state_in T) u) (n - (i + 1))) at inv.rest))

      pub row-halts : (r.outcome ≡ 0 → ⊥) → Goes ws t (state_in T') r (do_block d program budget p (carries ws (state_in T₀) t))
      row-halts k = goes-from g inv.grows (sym (halted ws (state_in T') r _ k) ∙ row-turn)

      -- the last one is run
      pub row-quits : r.outcome ≡ 0 → n ≤ i + 1 → Goes ws t (state_in T') r (do_block d program budget p (carries ws (state_in T₀) t))
      row-quits k l =
          let z : n - (i + 1) ≡ 0 = omega arith in
          let y : untold_out (do_statements (λ s v. do_block (d - 1) program budget s v) (d - 1) program budget (n - (i + 1)) (after (read_statement (d - 1) q)) (carries ws (state_in T') r))
          ≡ untold_out (do_block d program budget p (carries ws (state_in T₀) t)) = rw k at row-turn in
          goes_on (went_on g k) (omega (arith, inv.grows, g.grows))
          (rw (z, statements-none (λ s v. do_block (d - 1) program budget s v) (d - 1) program budget (after (read_statement (d - 1) q)) (carries ws (state_in T') r)) at y)

      pub row-goes-on : {piece : Result ℕ ℕ} {rest : ℕ} → r.outcome ≡ 0 → piece ≡ told (read_statement (d - 1) q) → rest ≡ words_left piece → StillLent T T'
          → Row program p ws T₀ T' budget d n t r rest (i + 1)
      row-goes-on {rest = rest} k a m s =
          let part : Part p (after (read_statement (d - 1) q)) = part-trans (rw is (last-part left p)) (after-part _ (uses-keeps (statement-uses (d - 1) q))) in
          let y : last_of rest p ≡ after (read_statement (d - 1) q) = after_is (read_statement (d - 1) q) part a m refl in
          record {
            inside = omega arith;
            lent = lent-then inv.lent s;
            begins = went_on g k;
            grows = omega (arith, inv.grows, g.grows);
            rest = rw y (rw k at row-turn);
          }

  pub row_ends : n ≤ i → Goes ws t (state_in T) u (do_block d program budget p (carries ws (state_in T₀) t))
  row_ends k =
      let z : n - i ≡ 0 = omega arith in
      goes_on inv.begins inv.grows
      (rw (z, statements-none (λ q v. do_block (d - 1) program budget q v) (d - 1) program budget (last_of left p) (carries ws (state_in T) u)) at inv.rest)

-- ---- how a test comes out

module _ {g : Result Bool Refusal} (m : Res Bool) (k : g ≡ tested_of m) where
  is-got : {b : Bool} → g ≡ Ok b → m ≡ got b
  is-got {b} h = by m (sym k ∙ h)
    where
      by : (x : Res Bool) → tested_of x ≡ Ok b → x ≡ got b
      by (got y) e = cc
      by (stop f) e = unlike cc

  is_stop : {f : Refusal} → g ≡ Err f → m ≡ stop f
  is_stop {f} h = by m (sym k ∙ h)
    where
      by : (x : Res Bool) → tested_of x ≡ Err f → x ≡ stop f
      by (got b) e = unlike cc
      by (stop y) e = cc

-- ---- an if

module _ (program : List ℤ) (budget : ℕ) (p ws : List ℤ) (S : State) (t : Tally) (d : ℕ) where
  abbrev If : Out
  If = do_verb (λ q u. do_block d program budget q u) (λ q. after (read_block d q)) program budget p branch (carries ws S t)

  module _ {q : List ℤ} (is : q ≡ drop 1 p) {g : Result Bool Refusal} (k : g ≡ tested_of (test S.cells q)) where
    if-is : tested program (carries ws S t) (test S.cells q) (λ u. do_block d program budget (past_test p) u) (λ u. do_block d program budget (after (read_block d (past_test p))) u) ≡ If
    if-is = rw is (sym (verb-branch (λ r u. do_block d program budget r u) (λ r. after (read_block d r)) program budget p (carries ws S t)))

    pub if-refused : {f : Refusal} {place : ℕ} {r : Tally} → Begins ws t → place ≡ length program - f.word → g ≡ Err f → r ≡ ended_at f.number place t → Goes ws t S r If
    if-refused {f} b l h x =
        let e = is_stop (test S.cells q) k h in
        goes-ends b (omega arith) (λ z. let y = refusal-least ((test-refuses S.cells q).bad f e) in omega arith) x (rw l (ap untold_out (sym (tested-stop program (carries ws S t) f _ _) ∙ (rw e at if-is))))

    pub if-first : {Z : State} {r : Tally} {first : List ℤ} → g ≡ Ok true → first ≡ past_test p → Goes ws t Z r (do_block d program budget first (carries ws S t)) → Goes ws t Z r If
    if-first h l x =
        goes-from x (omega arith)
        (x.runs.is ∙ rw l (sym ((block-forgets d program budget (past_test p)).same (noted true (carries ws S t))))
        ∙ ap untold_out (sym (tested-true program (carries ws S t) _ _) ∙ (rw (is-got (test S.cells q) k h) at if-is)))

    pub if-second : {Z : State} {r : Tally} {first second : List ℤ} → g ≡ Ok false → first ≡ past_test p → second ≡ after (read_block d first)
        → Goes ws t Z r (do_block d program budget second (carries ws S t)) → Goes ws t Z r If
    if-second h l a x =
        goes-from x (omega arith)
        (x.runs.is ∙ rw (a, l) (sym ((block-forgets d program budget (after (read_block d (past_test p)))).same (noted false (carries ws S t))))
        ∙ ap untold_out (sym (tested-false program (carries ws S t) _ _) ∙ (rw (is-got (test S.cells q) k h) at if-is)))

-- ---- a while: u is the tally at a test, and the rest gives the whole's answer

pub record Turning (program p ws : List ℤ) (T₀ T : Tables) (q body : List ℤ) (budget d place : ℕ) (t u : Tally) : Type 0 where
  pub fuel : ℕ
  pub enough : budget - u.steps < fuel
  pub lent : StillLent T₀ T
  pub begins : Begins ws u
  pub grows : t.steps ≤ u.steps
  pub rest :
      untold_out (turns (λ v. do_block d program budget body v) program budget place q fuel (carries ws (state_in T) u))
      ≡ untold_out (do_verb (λ r v. do_block d program budget r v) (λ r. after (read_block d r)) program budget p loop (carries ws (state_in T₀) t))

pub turning-starts : {program p ws : List ℤ} {T : Tables} {q body : List ℤ} {budget d place : ℕ} {t : Tally} → q ≡ drop 1 p → body ≡ past_test p → place ≡ position_of program p → Begins ws t
    → Turning program p ws T T q body budget d place t t
turning-starts {program} {p} {ws} {T} {q} {body} {budget} {d} {place} {t} is a l b =
    record {
      fuel = suc budget;
      enough = omega arith;
      lent = lent-same;
      begins = b;
      grows = omega arith;
      rest = rw (is, a, l) (ap untold_out (sym (verb-loop (λ r v. do_block d program budget r v) (λ r. after (read_block d r)) program budget p (carries ws (state_in T) t))));
    }

module _ {program p ws : List ℤ} {T₀ T : Tables} {q body : List ℤ} {budget d place : ℕ} {t u : Tally} (inv : Turning program p ws T₀ T q body budget d place t u)
    {g : Result Bool Refusal} (k : g ≡ tested_of (test (cells_in T) q))
  where
    abbrev While : Out
    While = do_verb (λ r v. do_block d program budget r v) (λ r. after (read_block d r)) program budget p loop (carries ws (state_in T₀) t)

    abbrev Later : Carries → Out
    Later w = then_out (paid budget place w) λ z. turns (λ v. do_block d program budget body v) program budget place q (inv.fuel - 1) z

    turn : untold_out (tested program (carries ws (state_in T) u) (test (cells_in T) q) (λ v. then_out (do_block d program budget body v) Later) (λ v. on v)) ≡ untold_out While
    turn =
        let z : inv.fuel ≡ suc (inv.fuel - 1) = omega (arith, inv.enough) in
        ap untold_out (sym (turns_more (λ v. do_block d program budget body v) program budget place q (inv.fuel - 1) (carries ws (state_in T) u)))
        ∙ rw (← z) inv.rest

    pub turning-refused : {f : Refusal} {place' : ℕ} {r : Tally} → place' ≡ length program - f.word → g ≡ Err f → r ≡ ended_at f.number place' u → Goes ws t (state_in T) r While
    turning-refused {f} l a y =
        let x = is_stop (test (cells_in T) q) k a in
        goes-ends inv.begins inv.grows (λ z. let m = refusal-least ((test-refuses (cells_in T) q).bad f x) in omega arith) y (rw l (ap untold_out (sym (tested-stop program (carries ws (state_in T) u) f _ _)) ∙ (rw x at turn)))

    pub turning-quits : g ≡ Ok false → Goes ws t (state_in T) u While
    turning-quits a =
        goes_on inv.begins inv.grows (ap untold_out (sym (tested-false program (carries ws (state_in T) u) _ _)) ∙ (rw (is-got (test (cells_in T) q) k a) at turn))

    module _ (a : g ≡ Ok true) (T' : Tables) {r : Tally} (x : Goes ws u (state_in T') r (do_block d program budget body (carries ws (state_in T) u))) where
      turned : untold_out (then_out (out_of ws (state_in T') r) Later) ≡ untold_out While
      turned =
          let f : Forgets (λ v. do_block d program budget body v) = block-forgets d program budget body in
          let y : Forgets Later = then-forgets (turns-forget f program budget place q (inv.fuel - 1)) (paid-forgets budget place) in
          rw x.runs.is
          (sym (then-untold y (do_block d program budget body (carries ws (state_in T) u)))
          ∙ sym ((turn-forgets f program budget place q (inv.fuel - 1)).same (noted true (carries ws (state_in T) u)))
          ∙ ap untold_out (sym (tested-true program (carries ws (state_in T) u) _ _))
          ∙ (rw (is-got (test (cells_in T) q) k a) at turn))

      pub turning-halts : (r.outcome ≡ 0 → ⊥) → Goes ws t (state_in T') r While
      turning-halts y = goes-from x inv.grows (sym (halted ws (state_in T') r Later y) ∙ turned)

      -- the next test is paid, or not: 5
      module _ (y : r.outcome ≡ 0) {w : Tally} (l : w ≡ paid_by budget place r) where
        pays : Goes ws r (state_in T') w (paid budget place (carries ws (state_in T') r))
        pays = pay-goes budget place l (state_in T') (went_on x y)

        later : untold_out (then_out (out_of ws (state_in T') w) λ z. turns (λ v. do_block d program budget body v) program budget place q (inv.fuel - 1) z) ≡ untold_out While
        later = rw (pay-is budget place l (state_in T') (went_on x y)) (rw y at turned)

        pub turning-broke : (w.outcome ≡ 0 → ⊥) → Goes ws t (state_in T') w While
        turning-broke b = goes-from pays (omega (arith, inv.grows, x.grows)) (sym (halted ws (state_in T') w _ b) ∙ later)

        module _ (b : w.outcome ≡ 0) where
          pub turning-less : budget - w.steps < budget - u.steps
          turning-less = let s = pay-one budget place l b in rw s.1 (omega (arith, s.0, x.grows))

          pub turning-again : StillLent T T' → Turning program p ws T₀ T' q body budget d place t w
          turning-again s =
              let less = turning-less in
              record {
                fuel = inv.fuel - 1;
                enough = omega (arith, inv.enough);
                lent = lent-then inv.lent s;
                begins = went_on pays b;
                grows = omega (arith, inv.grows, x.grows, pays.grows);
                rest = rw b at later;
              }

-- ---- a statement

module _ (program : List ℤ) (budget : ℕ) (p ws : List ℤ) (S : State) {t : Tally} (d : ℕ) (b : Begins ws t) where
  abbrev Statement : Out
  Statement = do_statement (λ q u. do_block d program budget q u) (λ q. after (read_block d q)) program budget p (carries ws S t)

  -- one that holds no block
  pub statement-simple : {Z : State} {r : Tally} → false ≡ holds_blocks (verb_of (number_at p 0)) → Steps ws S Z t r (one_statement program budget p (carries ws S t)) → Goes ws t Z r Statement
  statement-simple h g =
      rw (as-in-a-run (λ q u. do_block d program budget q u) (λ q. after (read_block d q)) program budget p (carries ws S t) (sym h)) at (g.goes b)

  -- one whose step is paid, or not: 5
  module _ {place : ℕ} (l : place ≡ position_of program p) {u : Tally} (k : u ≡ paid_by budget place t) where
    abbrev Verb : Carries → Out
    Verb v = do_verb (λ q w. do_block d program budget q w) (λ q. after (read_block d q)) program budget p (verb_of (number_at p 0)) v

    paid-then : then_out (out_of ws S u) Verb ≡ Statement
    paid-then =
        rw (statement-is (λ q w. do_block d program budget q w) (λ q. after (read_block d q)) program budget p (carries ws S t), ← l)
        (ap (λ (o : Out). then_out o Verb) (pay-is budget place k S b))

    pub statement-begins : u.outcome ≡ 0 → Begins ws u
    statement-begins n = went_on (pay-goes budget place k S b) n

    pub statement-broke : (u.outcome ≡ 0 → ⊥) → Goes ws t S u Statement
    statement-broke n = goes-from (pay-goes budget place k S b) (omega arith) (sym (halted ws S u Verb n) ∙ ap untold_out paid-then)

    module _ (n : u.outcome ≡ 0) {Z : State} {r : Tally} where
      statement-as : {o : Out} → Goes ws u Z r o → o ≡ Statement → Goes ws t Z r Statement
      statement-as g e = goes-from g (pay-goes budget place k S b).grows (g.runs.is ∙ ap untold_out e)

      pub statement-if : verb_of (number_at p 0) ≡ branch
          → Goes ws u Z r (do_verb (λ q w. do_block d program budget q w) (λ q. after (read_block d q)) program budget p branch (carries ws S u))
          → Goes ws t Z r Statement
      statement-if v g = statement-as g (rw (n, v) at paid-then)

      pub statement-while : true ≡ holds_blocks (verb_of (number_at p 0)) → (verb_of (number_at p 0) ≡ branch → ⊥)
          → Goes ws u Z r (do_verb (λ q w. do_block d program budget q w) (λ q. after (read_block d q)) program budget p loop (carries ws S u))
          → Goes ws t Z r Statement
      statement-while h v g = statement-as g (rw (n, is-loop (verb_of (number_at p 0)) h v) at paid-then)

-- ---- the program's block

pub starts : (ws : List ℤ) → Begins ws (record { steps = 0; accepted = 0; unread = length ws; outcome = 0; place = 0 })
starts ws = record { few = omega arith; inside = omega arith; going = refl; nowhere = refl }

pub whole_is : (program ws : List ℤ) (budget : ℕ) (S : State) {Z : State} {r : Tally}
    → Goes ws (record { steps = 0; accepted = 0; unread = length ws; outcome = 0; place = 0 }) Z r
    (do_block 8 program budget program (carries ws S (record { steps = 0; accepted = 0; unread = length ws; outcome = 0; place = 0 })))
    → Runs ws Z r (do_block 8 program budget program (record { state = S; unread = ws; steps = 0; accepted = 0; tests = [] }))
whole_is program ws budget S g = rw (last-all ws) at g.runs
