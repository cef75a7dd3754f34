-- A list of entries goes through, or is refused, as its assignments in a row of a program are. Assumes nothing.
use mathlib.Core.Path.{◌≡◌, refl, sym, ap, ◌∙◌}
use Prim.Native.Nat.{ℕ, suc, ◌+◌, ◌<◌, ◌≤◌}
use native.Mathlib.Omega.{arith}
use mathlib.Core.Bool.{false}
use mathlib.Core.List.{List, [], ◌∷◌, ◌++◌, append_assoc, append-nil}
use lib.IntN.{ℤ, pos}
use lib.ListN.{length}
use Rattle.words.specs.Words.{number_at, number_of}
use Rattle.words.proofs.Laws.{number-first}
use Rattle.words.proofs.AnswerLaws.{got-inj, stop-inj, stop≢got}
use Rattle.tables.specs.declared.Value.{Value}
use Rattle.tables.specs.Cells.{Cells}
use Rattle.program.specs.Forms.{block_depth, expression_depth}
use Rattle.program.specs.Grammar.{Labels, Path, statement_of, Yields, Takes}
use Rattle.program.proofs.GrammarLaws.{yields-complete}
use Rattle.rules.specs.State.{State, Fault, refused}
use Rattle.rules.specs.Paths.{Way}
use Rattle.rules.specs.Proposals.{Asked}
use Rattle.rules.specs.Statements.{Left, place_of}
use Rattle.rules.specs.Running.{Tally, Out, on, end}
use Rattle.rules.specs.Start.{Ended}
use Rattle.rules.specs.Rules.Expressions.{HasField, Leads, here, by, Names, names, Literal, Within, e_literal, Astray, astray, Meets}
use Rattle.rules.specs.Rules.Proposals.{Each, Unsettled}
use Rattle.rules.specs.Rules.Statements.{past_path, Gives, assigns, makes, Steps, s_gives, Refused}
use Rattle.rules.specs.Rules.Runs.{block, statement, statements, begun, afterwards, Runs, r_block}
use Rattle.rules.specs.Rules.Runs.{r_none, r_some, r_unpaid, r_ended, r_simple, r_refused, r_then, r_else, r_no_if, r_while}
use Rattle.rules.specs.Rules.Answers.{Unstarted, Passes, first_tally, given, Answered, finished, stopped}
use Rattle.rules.specs.Rules.Entries.{Entry, entry, Sets, e_none, e_unfit, e_unpaid, e_refused, e_more, Listed, started}
use Rattle.rules.specs.Claims.Entries.{words_of, row_of, AsAProgram, program_of, tally_in, AsItsProgram}
use Rattle.rules.proofs.EvaluationLaws.{evaluate-iff}
use Rattle.rules.proofs.StatementWords.{path-past}
use Rattle.rules.proofs.WalkLaws.{tally_of}
use Rattle.rules.proofs.StartRules.{passes-iff, unstarted-iff}
use Rattle.rules.proofs.EntryRules.{entries-rules}
use Rattle.rules.proofs.EntryWords.{takes-shorter, entry-yields}
use Rattle.rules.proofs.EntrySteps.{other, entry-gave, literal-meets, Turned, by_value, by-target, by-phase, by-proposal, turned, entry-number}
use Rattle.rules.proofs.EntryStructure.{same-entry}

-- ---- what follows an entry is nothing to it: r and q are two things that may

literal-on : {e : List ℤ} {v : Value} → Literal e v [] → (q : List ℤ) → Literal (e ++ q) v q
literal-on Literal.nil q = Literal.nil
literal-on Literal.no q = Literal.no
literal-on Literal.yes q = Literal.yes
literal-on Literal.integer q = Literal.integer

module _ (S : Cells) where
  leads-on : (r q : List ℤ) {l n to : ℕ} {ls : List ℤ} {prefix : List ℕ} → Labels n ls → Leads S l n (ls ++ r) to prefix → Leads S l n (ls ++ q) to prefix
  leads-on r q Labels.none here = here
  leads-on r q (Labels.one {l = label} {ls = ls} h k) (by {r = record_of} {next = next} e f g) =
      let i : HasField S.heap record_of label next = rw (number-first (pos label) (ls ++ r)) at f in
      let j : HasField S.heap record_of (number_at (pos label ∷ (ls ++ q)) 0) next = rw (number-first (pos label) (ls ++ q)) i in
      by e j (leads-on r q k g)

  -- the L before r names the cell that it names before q
  record WayOn (p : List ℤ) (w : Way) : Type 0 where
    way : Way
    there : Names S p way
    cell : way.cell ≡ w.cell
    prefix : way.prefix ≡ w.prefix

  names-on : (r q : List ℤ) {a : List ℤ} {w : Way} → Path a → Names S (a ++ r) w → WayOn (a ++ q) w
  names-on r q (Path.path x n l) (names h k m) = record { way = _; there = names h k (leads-on r q l m); cell = refl; prefix = refl }

  astray-on : (r q : List ℤ) {a : List ℤ} → Path a → Astray S (a ++ r) → Astray S (a ++ q)
  astray-on r q (Path.path x n l) (astray h k m) = astray h k (λ to prefix y. m to prefix (leads-on q r l y))

  -- a literal before r has its value
  literal-is : (r : List ℤ) {e rest : List ℤ} {u v : Value} → Literal e u [] → Within S expression_depth (e ++ r) v rest → u ≡ v
  literal-is r {e} {rest} {u} {v} l w =
      let x : ◌≡◌ {A = Value × List ℤ} (u, r) (v, rest) = got-inj (sym ((evaluate-iff expression_depth S (e ++ r) u r).1 (e_literal (literal-on l r))) ∙ (evaluate-iff expression_depth S (e ++ r) v rest).1 w) in
      ap (λ y. y.0) x

  -- the value of the entry before r
  value_on : {a e : List ℤ} {u : Value} → Path a → Literal e u [] → (r : List ℤ) → Within S expression_depth (past_path ((a ++ e) ++ r)) u r
  value_on {a} {e} target literal r = rw (append_assoc a e r, path-past target (e ++ r)) (e_literal (literal-on literal r))

  gives-on : (r q : List ℤ) {s x : List ℤ} {target : ℕ} {prefix : List ℕ} {v : Value} {N : Cells} → Entry x → s ≡ pos 1 ∷ (x ++ r)
      → Gives S s target prefix v N → Gives S (pos 1 ∷ (x ++ q)) target prefix v N
  gives-on r q (entry {a = a} {e = e} {v = u} target literal) i (assigns {v = v} {w = w} {p = p} value way) =
      let j : p ≡ (a ++ e) ++ r = cc in
      let k : p ≡ a ++ (e ++ r) = j ∙ append_assoc a e r in
      let l : u ≡ v = literal-is r literal (rw (k, path-past target (e ++ r)) at value) in
      let m = names-on (e ++ r) (e ++ q) target (rw k at way) in
      let n : Names S ((a ++ e) ++ q) m.way = rw (append_assoc a e q) m.there in
      rw (m.cell, m.prefix, l) at (assigns (value_on target literal q) n)
  gives-on r q {x = x} en i (makes {x = y} {n = n} {p = p} a b c d f) =
      absurd (other 2 (pos y ∷ pos n ∷ p) (λ z. omega arith) refl (rw i (number-first (pos 1) (x ++ r))))

  not_met : (r : List ℤ) {x : List ℤ} {f : Fault} → Entry x → Meets S false expression_depth (past_path (x ++ r)) f → ⊥
  not_met r (entry {a = a} {e = e} target literal) m = literal-meets (literal-on literal r) (rw (append_assoc a e r, path-past target (e ++ r)) at m)

unsettled-on : {program kept ws w : List ℤ} {asked : Asked} {Y : Cells} {f : Fault} (u : List ℤ) → Unsettled program kept asked w Y ws f → (g : Fault) × ((g.number ≡ f.number) × Unsettled program kept asked u Y ws g)
unsettled-on u (Unsettled.uncounted c) = (_, (refl, Unsettled.uncounted c))
unsettled-on u (Unsettled.no_room c k) = (_, (refl, Unsettled.no_room c k))
unsettled-on u (Unsettled.turned-down c k f) = (_, (refl, Unsettled.turned-down c k f))

-- a refusal with this number
record RefusedOn (program : List ℤ) (S : State) (ws : List ℤ) (n : ℕ) (p : List ℤ) : Type 0 where
  fault : Fault
  number : fault.number ≡ n
  there : Refused program S ws p fault

module _ (program : List ℤ) (S : State) (ws r q : List ℤ) where
  steps_on : {x : List ℤ} {l : Left} → Entry x → Steps program S ws (pos 1 ∷ (x ++ r)) l → Steps program S ws (pos 1 ∷ (x ++ q)) l
  steps_on en s = let g = entry-gave s in rw g.leaving (s_gives (gives-on S.cells r q en refl g.gives) g.phase g.settles)

  target-on : {x : List ℤ} → Entry x → Astray S.cells (x ++ r) → RefusedOn program S ws 7 (pos 1 ∷ (x ++ q))
  target-on (entry {a = a} {e = e} target literal) b =
      let y : Astray S.cells ((a ++ e) ++ q) = rw (append_assoc a e q) (astray-on S.cells (e ++ r) (e ++ q) target (rw (append_assoc a e r) at b)) in
      record { fault = refused 7 ((a ++ e) ++ q); number = refl; there = Refused.f_target (value_on S.cells target literal q) y }

  turned_on : {x : List ℤ} {f : Fault} → Entry x → Turned program S ws (x ++ r) f → RefusedOn program S ws f.number (pos 1 ∷ (x ++ q))
  turned_on en (by_value m) = absurd (not_met S.cells r en m)
  turned_on en (by-target a b) = target-on en b
  turned_on {x} en (by-phase {n = n} g a) = record { fault = refused n (pos 1 ∷ (x ++ q)); number = refl; there = Refused.f_phase (gives-on S.cells r q en refl g) a }
  turned_on {x} en (by-proposal g a u) =
      let k = unsettled-on (pos 1 ∷ (x ++ q)) u in
      record { fault = k.0; number = k.1.0; there = Refused.f_given (gives-on S.cells r q en refl g) a k.1.1 }

  refused-on : {x : List ℤ} {f : Fault} → Entry x → Refused program S ws (pos 1 ∷ (x ++ r)) f → RefusedOn program S ws f.number (pos 1 ∷ (x ++ q))
  refused-on en s = turned_on en (turned s)

-- ---- an assignment in a run

-- what a statement that is an assignment comes to
data Did (program : List ℤ) (t : Tally) (s : List ℤ) : Out → Type 0 where
  goes : {l : Left} → Steps program t.state t.unread s l → Did program t s (on (afterwards l t))
  stops : {f : Fault} → Refused program t.state t.unread s f → Did program t s (end f.number (place_of program f) t)

did : {program s : List ℤ} {budget d : ℕ} {t : Tally} {o : Out} → Runs program budget (statement d s) t o → number_at s 0 ≡ 1 → Did program t s o
did (r_simple x) k = goes x
did (r_refused x) k = stops x
did (r_then {p = p} x y) k = absurd (other 7 p (λ z. omega arith) refl k)
did (r_else {p = p} x y z) k = absurd (other 7 p (λ z. omega arith) refl k)
did (r_no_if {p = p} x) k = absurd (other 7 p (λ z. omega arith) refl k)
did (r_while {p = p} x) k = absurd (other 8 p (λ z. omega arith) refl k)

-- what follows it is where the next begins
entry_past : {d : ℕ} {x r q : List ℤ} → Entry x → Takes (Yields (statement_of d)) (pos 1 ∷ (x ++ r)) q → q ≡ r
entry_past {d} {x} {r} {q} en k =
    let a = yields-complete (entry-yields {d = d} en) r in
    let b = yields-complete k.piece q in
    got-inj (sym (rw (← k.split) at b) ∙ a)

module _ (program : List ℤ) (budget d : ℕ) (r : List ℤ) where
  -- ---- from the row to the list

  data Lists (xs : List (List ℤ)) (i : ℕ) (t : Tally) : Out → Type 0 where
    all : {u : Tally} → Sets program budget i (words_of xs) t (given 0 (i + length xs) u) → Lists xs i t (on u)
    not-all : {n place k : ℕ} {u : Tally} → Sets program budget i (words_of xs) t (given n k u) → Lists xs i t (end n place u)

  -- the entry at the front of a list
  abbrev front : {x : List ℤ} (xs : List (List ℤ)) → Entry x → Takes Entry (x ++ words_of xs) (words_of xs)
  front {x} xs en = record { words = x; piece = en; split = refl }

  next-lists : {x : List ℤ} {xs : List (List ℤ)} {i : ℕ} {t : Tally} {l : Left} {o : Out} → Entry x → t.steps < budget → Steps program t.state t.unread (pos 1 ∷ x) l
      → Lists xs (suc i) (afterwards l (begun t)) o → Lists (x ∷ xs) i t o
  next-lists {x} {xs} {i} {t} en b s (all {u = u} m) =
      let e : suc i + length xs ≡ i + suc (length xs) = omega arith in
      let k : Sets program budget i (x ++ words_of xs) t (given 0 (suc i + length xs) u) = e_more (front xs en) b s m in
      all (rw e at k)
  next-lists {xs = xs} en b s (not-all m) = not-all (e_more (front xs en) b s m)

  row-verb : (x : List ℤ) {p : List ℤ} (xs : List (List ℤ)) → p ≡ pos 1 ∷ (x ++ (row_of xs ++ r)) → number_at p 0 ≡ 1
  row-verb x xs e = rw e (number-first (pos 1) (x ++ (row_of xs ++ r)))

  -- a row that begins with the entry x
  module _ {x : List ℤ} (xs : List (List ℤ)) (en : Entry x) (i : ℕ) {p : List ℤ} {t : Tally} (e : p ≡ pos 1 ∷ (x ++ (row_of xs ++ r))) where
    went-sets : {q : List ℤ} {u : Tally} {o : Out} → t.steps < budget → Did program (begun t) p (on u) → Takes (Yields (statement_of d)) p q → (q ≡ row_of xs ++ r → Lists xs (suc i) u o) → Lists (x ∷ xs) i t o
    went-sets b (goes s) y f =
        next-lists en b (rw (append-nil x) at (steps_on program t.state t.unread (row_of xs ++ r) [] en (rw e at s))) (f (entry_past {d = d} {r = row_of xs ++ r} en (rw e at y)))

    broke-sets : {n place : ℕ} {u : Tally} → t.steps < budget → Did program (begun t) p (end n place u) → Lists (x ∷ xs) i t (end n place u)
    broke-sets b (stops s) =
        let g = refused-on program t.state t.unread (row_of xs ++ r) [] en (rw e at s) in
        let m : Sets program budget i (x ++ words_of xs) t (given g.fault.number i (begun t)) = e_refused (front xs en) b (rw (append-nil x) at g.there) in
        not-all (rw g.number at m)

    some-sets : {o : Out} → ((q : List ℤ) (u : Tally) → q ≡ row_of xs ++ r → Runs program budget (statements d (length xs) q) u o → Lists xs (suc i) u o)
        → Runs program budget (statements d (suc (length xs)) p) t o → Lists (x ∷ xs) i t o
    some-sets f (r_some {q = q} {u = u} b s y n) = went-sets b (did s (row-verb x xs e)) y (λ z. f q u z n)
    some-sets f (r_unpaid b) = not-all (e_unpaid (front xs en) b)
    some-sets f (r_ended b s) = broke-sets b (did s (row-verb x xs e))

  row-sets : {xs : List (List ℤ)} → Each Entry xs → (i : ℕ) {p : List ℤ} {t : Tally} {o : Out} → p ≡ row_of xs ++ r → Runs program budget (statements d (length xs) p) t o → Lists xs i t o
  row-sets Each.none i e (r_none {t = t}) = let z : i + 0 ≡ i = omega arith in all {u = t} (rw z e_none)
  row-sets (Each.more {x = x} {xs = xs} en es) i e m =
      some-sets xs en i (e ∙ ap (λ (y : List ℤ). pos 1 ∷ y) (append_assoc x (row_of xs) r)) (λ q u z n. row-sets es (suc i) z n) m

  -- ---- from the list to the row

  data Rows (xs : List (List ℤ)) (i : ℕ) (t : Tally) : Ended → Type 0 where
    through : {u : Tally} → Runs program budget (statements d (length xs) (row_of xs ++ r)) t (on u) → Rows xs i t (given 0 (i + length xs) u)
    broken : {n place k : ℕ} {u : Tally} → 1 ≤ n → Runs program budget (statements d (length xs) (row_of xs ++ r)) t (end n place u) → Rows xs i t (given n k u)

  no-entries : {i : ℕ} {p : List ℤ} {t : Tally} {e : Ended} → length p ≤ 0 → Sets program budget i p t e → Rows [] i t e
  no-entries {i} {t = t} z e_none =
      let k : i + 0 ≡ i = omega arith in
      let m : Rows [] i t (given 0 (i + 0) t) = through r_none in
      rw k at m
  no-entries z (e_unfit n) = absurd (omega arith)
  no-entries z (e_unpaid y b) = absurd (omega (arith, takes-shorter y))
  no-entries z (e_refused y b f) = absurd (omega (arith, takes-shorter y))
  no-entries z (e_more y b s m) = absurd (omega (arith, takes-shorter y))

  module _ {x : List ℤ} (xs : List (List ℤ)) (en : Entry x) (i : ℕ) (t : Tally) where
    abbrev rest : List ℤ
    rest = row_of xs ++ r

    row : (row_of (x ∷ xs)) ++ r ≡ pos 1 ∷ (x ++ rest)
    row = ap (λ (y : List ℤ). pos 1 ∷ y) (append_assoc x (row_of xs) r)

    after-it : Takes (Yields (statement_of d)) (pos 1 ∷ (x ++ rest)) rest
    after-it = record { words = pos 1 ∷ x; piece = entry-yields en; split = refl }

    alone : x ≡ x ++ []
    alone = sym (append-nil x)

    next-runs : {l : Left} {o : Out} → t.steps < budget → Steps program t.state t.unread (pos 1 ∷ x) l
        → Runs program budget (statements d (length xs) rest) (afterwards l (begun t)) o → Runs program budget (statements d (suc (length xs)) (pos 1 ∷ (x ++ rest))) t o
    next-runs b s m = r_some b (r_simple (steps_on program t.state t.unread [] rest en (rw alone at s))) after-it m

    next_row : {l : Left} {e : Ended} → t.steps < budget → Steps program t.state t.unread (pos 1 ∷ x) l → Rows xs (suc i) (afterwards l (begun t)) e → Rows (x ∷ xs) i t e
    next_row b s (through {u = u} m) =
        let a : suc i + length xs ≡ i + suc (length xs) = omega arith in
        let k : Rows (x ∷ xs) i t (given 0 (i + suc (length xs)) u) = through {u = u} (rw row (next-runs b s m)) in
        rw (← a) at k
    next_row b s (broken {place = place} {u = u} h m) = broken {place = place} {u = u} h (rw row (next-runs b s m))

    refused-row : {n : ℕ} → 1 ≤ n → t.steps < budget → RefusedOn program t.state t.unread n (pos 1 ∷ (x ++ rest)) → Rows (x ∷ xs) i t (given n i (begun t))
    refused-row {n} h b g =
        let k : Runs program budget (statements d (suc (length xs)) (pos 1 ∷ (x ++ rest))) t (end g.fault.number (place_of program g.fault) (begun t)) = r_ended b (r_refused g.there) in
        let m : Runs program budget (statements d (suc (length xs)) (pos 1 ∷ (x ++ rest))) t (end n (place_of program g.fault) (begun t)) = rw g.number at k in
        broken {place = place_of program g.fault} {u = begun t} h (rw row m)

    broken-row : {f : Fault} → t.steps < budget → Refused program t.state t.unread (pos 1 ∷ x) f → Rows (x ∷ xs) i t (given f.number i (begun t))
    broken-row b s = refused-row (omega (arith, (entry-number en s).least)) b (refused-on program t.state t.unread [] rest en (rw alone at s))

    unpaid-row : budget ≤ t.steps → Rows (x ∷ xs) i t (given 5 i t)
    unpaid-row b = broken {n = 5} (omega arith) (r_unpaid b)

  -- a list that begins with the entry x
  some-row : {x : List ℤ} {xs : List (List ℤ)} {i : ℕ} {p : List ℤ} {t : Tally} {e : Ended} → Entry x → (mine : Takes Entry p (words_of xs)) → mine.words ≡ x
      → ((q : List ℤ) (u : Tally) → q ≡ words_of xs → Sets program budget (suc i) q u e → Rows xs (suc i) u e) → Sets program budget i p t e → Rows (x ∷ xs) i t e
  some-row en mine z f e_none = absurd (omega (arith, takes-shorter mine))
  some-row {xs = xs} en mine z f (e_unfit n) = absurd (n (words_of xs) mine)
  some-row {xs = xs} {i = i} {t = t} en mine z f (e_unpaid y b) = unpaid-row xs en i t b
  some-row {xs = xs} {i = i} {t = t} en mine z f (e_refused y b n) = broken-row xs en i t b (rw ((same-entry y mine).words, z) at n)
  some-row {xs = xs} {i = i} {t = t} en mine z f (e_more {q = q} {l = l} y b s n) = next_row xs en i t b (rw ((same-entry y mine).words, z) at s) (f q (afterwards l (begun t)) (same-entry y mine).rest n)

  sets-row : {xs : List (List ℤ)} → Each Entry xs → {i : ℕ} {p : List ℤ} {t : Tally} {e : Ended} → p ≡ words_of xs → Sets program budget i p t e → Rows xs i t e
  sets-row Each.none q m = no-entries (rw q (omega arith)) m
  sets-row (Each.more {x = x} {xs = xs} en es) q m = some-row en (record { words = x; piece = en; split = q }) refl (λ q u z n. sets-row es z n) m

-- ---- the claims

module _ {program : List ℤ} {budget d : ℕ} {r : List ℤ} {xs : List (List ℤ)} {t : Tally} where
  to-sets : {u : Tally} → Lists program budget d r xs 0 t (on u) → Sets program budget 0 (words_of xs) t (given 0 (length xs) u)
  to-sets (all m) = let z : 0 + length xs ≡ length xs = omega arith in rw z at m

  to-refusal : {n place : ℕ} {u : Tally} → Lists program budget d r xs 0 t (end n place u) → (i : ℕ) × Sets program budget 0 (words_of xs) t (given n i u)
  to-refusal (not-all {k = k} m) = (k, m)

  to_row : {e : Ended} {u : Tally} → Rows program budget d r xs 0 t e → e ≡ given 0 (length xs) u → Runs program budget (statements d (length xs) (row_of xs ++ r)) t (on u)
  to_row (through m) e = rw (ap tally_in e) at m
  to_row (broken h m) e = absurd (omega (arith, h, ap (λ y. y.outcome) e))

  to-broken : {e : Ended} {n i : ℕ} {u : Tally} → Rows program budget d r xs 0 t e → 1 ≤ n → e ≡ given n i u
      → (place : ℕ) × Runs program budget (statements d (length xs) (row_of xs ++ r)) t (end n place u)
  to-broken (through m) h e = absurd (omega (arith, h, ap (λ y. y.outcome) e))
  to-broken (broken {place = place} k m) h e = (place, rw (ap tally_in e, ap (λ y. y.outcome) e) at m)

pub as-a-program : AsAProgram
as-a-program program budget d xs r t es = record {
  through = λ u. (λ m. to-sets (row-sets program budget d r es 0 refl m), λ m. to_row (sets-row program budget d r es refl m) refl);
  refused = λ n u h. (λ m. to-refusal (row-sets program budget d r es 0 refl m.1), λ m. to-broken (sets-row program budget d r es refl m.1) h refl);
}

-- ---- the program of the assignments alone

abbrev outcome_of : Out → ℕ
outcome_of (on u) = 0
outcome_of (end n place u) = n

block_row : {program p : List ℤ} {budget d n : ℕ} {t : Tally} {o : Out} → Runs program budget (block (suc d) (pos n ∷ p)) t o → Runs program budget (statements d n p) t o
block_row (r_block few m) = m

module _ {xs : List (List ℤ)} (es : Each Entry xs) (ws : List ℤ) (budget : ℤ) (S : State) where
  -- its start is the list's
  not-both : {n k : ℕ} → Unstarted (program_of xs) budget S n k → Passes (program_of xs) budget S → ⊥
  not-both {n} {k} u p = stop≢got (sym ((unstarted-iff (program_of xs) budget S (record { number = n; place = k })).1 u) ∙ (passes-iff (program_of xs) budget S).1 p)

  same_start : {n m k l : ℕ} → Unstarted (program_of xs) budget S n k → Unstarted (program_of xs) budget S m l → n ≡ m
  same_start {n} {m} {k} {l} u v =
      ap (λ y. y.number)
      (stop-inj (sym ((unstarted-iff (program_of xs) budget S (record { number = n; place = k })).1 u) ∙ (unstarted-iff (program_of xs) budget S (record { number = m; place = l })).1 v))

  -- what its row comes to, the list gives
  listed : {o : Out} {b : Ended} → Passes (program_of xs) budget S → Lists (program_of xs) (number_of budget) 7 [] xs 0 (first_tally S ws) o
      → Listed (program_of xs) (words_of xs) ws budget S b → (outcome_of o ≡ b.outcome) × (tally_of o ≡ tally_in b)
  listed {b = b} p (all m) y =
      let e = sym ((entries-rules (program_of xs) (words_of xs) ws budget S _).1 (started p m)) ∙ (entries-rules (program_of xs) (words_of xs) ws budget S b).1 y in
      (ap (λ z. z.outcome) e, ap tally_in e)
  listed {b = b} p (not-all m) y =
      let e = sym ((entries-rules (program_of xs) (words_of xs) ws budget S _).1 (started p m)) ∙ (entries-rules (program_of xs) (words_of xs) ws budget S b).1 y in
      (ap (λ z. z.outcome) e, ap tally_in e)

  its-row : {o : Out} → Runs (program_of xs) (number_of budget) (block block_depth (program_of xs)) (first_tally S ws) o → Lists (program_of xs) (number_of budget) 7 [] xs 0 (first_tally S ws) o
  its-row m = row-sets (program_of xs) (number_of budget) 7 [] es 0 (sym (append-nil (row_of xs))) (block_row m)

  same-answers : {a b : Ended} → Answered (program_of xs) ws budget S a → Listed (program_of xs) (words_of xs) ws budget S b → (a.outcome ≡ b.outcome) × (tally_in a ≡ tally_in b)
  same-answers (Answered.unstarted u) (Listed.unstarted v) = (same_start u v, refl)
  same-answers (Answered.unstarted u) (started p m) = absurd (not-both u p)
  same-answers (finished p m) y = listed p (its-row m) y
  same-answers (stopped p m) y = listed p (its-row m) y

pub as-its-program : AsItsProgram
as-its-program xs ws budget S a b es x y = same-answers es ws budget S x y
