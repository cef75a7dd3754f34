-- The place of a refusal from 5 on: the statement's word, or, for 7, 8, 9 and 15, a word at which the number stands. Assumes nothing.
use mathlib.Core.Path.{◌≡◌, refl, sym, ap, ◌∙◌}
use mathlib.Core.Logic.{◌≢◌}
use Prim.Native.Nat.{ℕ, ◌+◌, ◌-◌, ◌≤◌, ◌<◌}
use native.Mathlib.Omega.{arith}
use native.Mathlib.Decide.{ℕ_discrete}
use mathlib.Core.Bool.{Bool, true, false, not, ◌&&◌, true≢false}
use mathlib.Core.List.{List, [], ◌∷◌, Memᴰ as OneOf}
use Rattle.std.specs.Prelude.{Option, None, Some}
use borrow.Author.Tests.{eqb-true, leb-true}
use lib.Dec.{eqb, leb}
use lib.IntN.{ℤ, pos}
use lib.ListN.{length, drop, length-drop}
use lib.Seq.{drop-drop}
use Rattle.words.specs.Words.{number_at}
use Rattle.words.specs.Answer.{got}
use Rattle.words.proofs.Laws.{number-cons}
use Rattle.tables.proofs.SearchLaws.{and_left, and_right}
use Rattle.words.proofs.AnswerLaws.{step}
use Rattle.tables.specs.declared.Value.{Value}
use Rattle.tables.specs.declared.Sort.TheVariants.{Values}
use Rattle.tables.specs.Cells.{Cells}
use Rattle.fit.specs.Fit.{Fit}
use Rattle.program.specs.Forms.{expression_depth}
use Rattle.program.specs.Reading.{Reading, read_path, read_expression, read_constraint, read_statement}
use Rattle.program.specs.declared.Spot.{Spot}
use Rattle.program.specs.Where.{spot_of, statement_at, has_verb, is_always}
use Rattle.program.specs.Grammar.{Program}
use Rattle.program.proofs.LengthLaws.{part-refl, part-drop, part-trans, after-got, path-uses, expression-uses}
use Rattle.program.proofs.GrammarSound.{expression-sound, statement-sound}
use Rattle.program.proofs.GrammarLaws.{expression-complete}
use Rattle.program.proofs.OpenLaws.{assign-opens, new-opens, always-opens, once-opens, same-opens}
use Rattle.program.proofs.StandLaws.{always-is, stand-iff}
use Rattle.rules.specs.State.{State, Fault, positions}
use Rattle.rules.specs.Constraints.{Part as Piece, kept_at}
use Rattle.rules.specs.Proposals.{Asked}
use Rattle.rules.specs.Statements.{position_of, place_of}
use Rattle.rules.specs.Running.{Tally}
use Rattle.rules.specs.Rules.Expressions.{nowhere, kinds, range}
use Rattle.rules.specs.Rules.Constraints.{Reads, FirstNot, ConstraintMeets, Uncounted}
use Rattle.rules.specs.Rules.Identities.{Phase, PhaseFails}
use Rattle.rules.specs.Rules.Proposals.{Each, more, Fails, Unsettled, uncounted, no_room, turned-down}
use Rattle.rules.specs.Rules.Proposals.{no_words, not_formed, not_allowed, not_needed, not_met}
use Rattle.rules.specs.Rules.Statements.{past_path, Gives, Refused, f_value, f_target, f_field, f_full, f_phase, f_given, f_always, f_once, f_identity, f_unkept}
use Rattle.rules.specs.Rules.Kept.{at}
use Rattle.rules.specs.Steps.Holds.{Holds, StatementThere}
use Rattle.rules.specs.Claims.Answers.{Wrong, path, operator, test, part, side, Found, in_statement, in_test, Inside, of_statement, of_kept}
use Rattle.rules.proofs.KeepLaws.{positions-iff}
use Rattle.rules.proofs.HoldLaws.{each_map}
use Rattle.rules.proofs.PartLaws.{constraint-iff}
use Rattle.rules.proofs.StatementWords.{past-path}
use Rattle.rules.proofs.GivesRules.{gives-fit}
use Rattle.rules.proofs.InnerLaws.{Inner, inner-on, lost-inner, meets-inner, test-inner, constraint-inner, fields-inner, Sided, at_side, both-differ, unsame-sided}
use Rattle.rules.proofs.ProgramCode.{statement-there, there-verb, there-part}
use Rattle.rules.proofs.Endings.{Ends, unpaid, refuses, untested}

-- what all of a list are, the first that is not something else is; and where all are it, there is none
pub first-each : {A : Type 0} {P Q : A → Type 0} {xs : List A} {x : A} → Each P xs → FirstNot Q xs x → P x
first-each Each.none f = elim f [ ]
first-each (more p ps) (FirstNot.here n) = p
first-each (more p ps) (FirstNot.later q f) = first-each ps f

first-none : {A : Type 0} {P : A → Type 0} {xs : List A} {x : A} → Each P xs → FirstNot P xs x → ⊥
first-none Each.none f = elim f [ ]
first-none (more p ps) (FirstNot.here n) = n p
first-none (more p ps) (FirstNot.later q f) = first-none ps f

-- the numbers whose place is inside the line
abbrev pub inner-numbers : List ℕ
inner-numbers = 7 ∷ 8 ∷ 9 ∷ 15 ∷ []

abbrev seven : {n : ℕ} → n ≡ 7 → OneOf n inner-numbers
seven e = OneOf.head e

abbrev eight : {n : ℕ} → n ≡ 8 → OneOf n inner-numbers
eight e = OneOf.tail (OneOf.head e)

abbrev nine : {n : ℕ} → n ≡ 9 → OneOf n inner-numbers
nine e = OneOf.tail (OneOf.tail (OneOf.head e))

abbrev fifteen : {n : ℕ} → n ≡ 15 → OneOf n inner-numbers
fifteen e = OneOf.tail (OneOf.tail (OneOf.tail (OneOf.head e)))

inner-cases {ℓ} : {X : Type ℓ} {n : ℕ} → OneOf n inner-numbers → (n ≡ 7 → X) → (n ≡ 8 → X) → (n ≡ 9 → X) → (n ≡ 15 → X) → X
inner-cases (OneOf.head e) a b c d = a e
inner-cases (OneOf.tail (OneOf.head e)) a b c d = b e
inner-cases (OneOf.tail (OneOf.tail (OneOf.head e))) a b c d = c e
inner-cases (OneOf.tail (OneOf.tail (OneOf.tail (OneOf.head e)))) a b c d = d e
inner-cases (OneOf.tail (OneOf.tail (OneOf.tail (OneOf.tail i)))) a b c d = elim i [ ]

wrong-number : {S : Cells} {c : Bool} {n : ℕ} {w : List ℤ} → Wrong S c n w → OneOf n inner-numbers
wrong-number (path l) = seven refl
wrong-number (operator (kinds a b x y never)) = eight refl
wrong-number (operator (range x y g never)) = nine refl
wrong-number (test x h) = eight refl
wrong-number (part x h) = eight refl
wrong-number (side x h) = eight refl

-- a number from 5 to 19 that is none of them
abbrev outside : ℕ → Bool
outside n = (leb 5 n && leb n 19) && (not (eqb n 7) && (not (eqb n 8) && (not (eqb n 9) && not (eqb n 15))))

module _ (program : List ℤ) where
  -- a refusal inside a statement that holds no block is found there
  found_in : {Y : Cells} {c : Bool} {p q : List ℤ} {f : Fault} → StatementThere program p → read_statement 0 p ≡ got q → Inner Y c (drop 1 p) q f
      → Found program Y f.number (place_of program f) c p
  found_in {Y} {c} {p} {q} {f} here e x =
      let w = there-part here in
      let whole = part-trans w (part-trans (part-drop 1 p) x.within) in
      let l : length x.at ≤ length p - 1 = rw (length-drop 1 p) at x.within.short in
      rw x.word
      (in_statement {c = c} (statement-sound 0 p q e) (omega (arith, x.before, l, w.short)) (omega (arith, x.before, whole.short)) (rw whole.is x.wrong))

  found-test : {Y : Cells} {verb : ℕ} {p q : List ℤ} {f : Fault} → StatementThere program (pos verb ∷ p) → 7 ≤ verb → read_expression expression_depth false p ≡ got q → Inner Y false p q f
      → Found program Y f.number (place_of program f) false (pos verb ∷ p)
  found-test {p = p} {q = q} here h e x =
      let w = part-trans (there-part here) (part-drop 1 (pos _ ∷ p)) in
      let whole = part-trans w x.within in
      rw x.word
      (in_test h (expression-sound expression_depth false p q e) (omega (arith, x.within.short, w.short)) (omega (arith, x.before, whole.short)) (rw whole.is x.wrong))

-- where the statement at p is refused: at its word, at a word of its own, or, for 15, in a kept constraint
pub data Placed (program : List ℤ) (S : State) (p : List ℤ) (n place : ℕ) : Type 0 where
  plain : place ≡ position_of program p → outside n ≡ true → Placed program S p n place
  inner : {c : Bool} → Found program S.cells n place c p → Placed program S p n place
  in_kept : n ≡ 15 → Inside program S p place 15 → Placed program S p n place

module _ (program : List ℤ) (g : Program program) (S : State) (hold : Holds program S) where
  -- ---- inside the statement

  within : {c : Bool} {p q : List ℤ} {f : Fault} → StatementThere program p → read_statement 0 p ≡ got q → Inner S.cells c (drop 1 p) q f → Placed program S p f.number (place_of program f)
  within here e x = inner (found_in program here e x)

  -- it reads as it does with no block inside it
  flat : {p : List ℤ} {m : Reading (List ℤ)} (here : StatementThere program p) → ((d : ℕ) → read_statement d p ≡ m) → read_statement 0 p ≡ got here.statement.rest
  flat here opens = opens 0 ∙ sym (opens here.statement.nest) ∙ here.statement.reads

  assign-placed : {p : List ℤ} {f : Fault} → StatementThere program (pos 1 ∷ p)
      → ((r q : List ℤ) → past_path p ≡ r → read_path p ≡ got r → read_expression expression_depth false r ≡ got q → Inner S.cells false p q f) → Placed program S (pos 1 ∷ p) f.number (place_of program f)
  assign-placed {p} here k =
      let e = flat here (λ d. assign-opens d p) in
      step (read_path p) _ (sym (assign-opens 0 p) ∙ e) λ r e1 e2.
      within here e (k r here.statement.rest (past-path p here.statement ∙ after-got e1) e1 e2)

  constraint-placed : {p : List ℤ} {f : Fault} (verb : ℕ) (here : StatementThere program (pos verb ∷ p)) → ((d : ℕ) → read_statement d (pos verb ∷ p) ≡ read_constraint p)
      → ConstraintMeets S.cells p f → Placed program S (pos verb ∷ p) f.number (place_of program f)
  constraint-placed verb here opens m =
      let e = flat here opens in
      within here e (constraint-inner S.cells hold.fit m (sym (opens 0) ∙ e))

  -- ---- in a kept constraint

  kept-reads : Each (Reads program S.cells) (positions S.kept Values)
  unfolding kept_at
  kept-reads = each_map (λ k h. (h.parts, (constraint-iff S.cells (drop (k + 1) program) h.parts).0 h.reads)) (positions S.kept Values) hold.values

  -- a kept position is that of an always-statement
  always-there : (k : ℕ) → is_always program Values k ≡ true → (nest : ℕ) × (statement_at program k ≡ spot_of 3 nest)
  always-there k e = go (statement_at program k) refl (sym (always-is program Values k) ∙ e)
    where
      go : (s : Option Spot) → statement_at program k ≡ s → has_verb 3 s ≡ true → (nest : ℕ) × (statement_at program k ≡ spot_of 3 nest)
      go (Some spot) i h = let z : spot.verb ≡ 3 = eqb-true spot.verb 3 h in (spot.nest, i ∙ rw z refl)
      go None i h = absurd (true≢false (sym h))

  kept-found : {Y : Cells} {k : ℕ} {f : Fault} → Fit Y → FirstNot (Reads program Y) (positions S.kept Values) k → ConstraintMeets Y (drop (k + 1) program) f
      → Found program Y f.number (place_of program f) true (drop k program)
  kept-found {Y} {k} {f} fit first m =
      let a = always-there k (first-each ((positions-iff (λ j. is_always program Values j ≡ true) S.kept Values).1 (((stand-iff program S.kept).0 hold.stands).1 Values)) first) in
      let word : number_at (drop k program) 0 ≡ 3 = there-verb k g a.1 in
      let is : drop k program ≡ pos 3 ∷ drop 1 (drop k program) = rw word at (number-cons (drop k program) (omega arith)) in
      let here = statement-there g (at k a.1) in
      let opens : (d : ℕ) → read_statement d (drop k program) ≡ read_constraint (drop 1 (drop k program)) = λ d. ap (λ (t : List ℤ). read_statement d t) is ∙ always-opens d (drop 1 (drop k program)) in
      let e = flat here opens in
      let m' : ConstraintMeets Y (drop 1 (drop k program)) f = rw (drop-drop 1 k program) m in
      found_in program here e (constraint-inner Y fit m' (sym (opens 0) ∙ e))

  -- ---- a proposal that is not settled

  turned-outer : {kept : List ℤ} {asked : Asked} {Y : Cells} {before : List Piece} {ws : List ℤ} {n : ℕ} → Fails program kept asked Y before ws n → outside n ≡ true
  turned-outer (no_words e) = refl
  turned-outer (not_formed a b) = refl
  turned-outer (not_allowed a b) = refl
  turned-outer (not_needed a b c) = refl
  turned-outer (not_met a b c d e f) = refl

  -- the parts that count are those of what is kept, and a C of its own
  unsettled-placed : {asked : Asked} {Y : Cells} {ws : List ℤ} {f : Fault} {p : List ℤ} → Unsettled program S.kept asked p Y ws f
      → (Uncounted program S.kept Y asked.own f → Placed program S p f.number (place_of program f)) → Placed program S p f.number (place_of program f)
  unsettled-placed (uncounted u) k = k u
  unsettled-placed (no_room c r) k = plain refl refl
  unsettled-placed (turned-down c r x) k = plain refl (turned-outer x)

  given-placed : {target : ℕ} {prefix : List ℕ} {v : Value} {N Y : Cells} {f : Fault} {p : List ℤ} {o : Option (List ℤ)} → o ≡ None → StatementThere program p
      → Gives S.cells p target prefix v N → Phase program S.kept S.cells N target prefix v Y → Uncounted program S.kept Y o f → Placed program S p f.number (place_of program f)
  given-placed e here gives phase (Uncounted.own m) = absurd (let z : ◌≡◌ {A = ℕ} 0 1 = cc in omega arith)
  given-placed e here gives phase (Uncounted.kept reads first m) =
      in_kept refl (of_kept gives phase first (kept-found (gives-fit program S hold gives here.statement phase) first m))

  own-placed : {f : Fault} {p c : List ℤ} {o : Option (List ℤ)} → o ≡ Some c → (ConstraintMeets S.cells c f → Placed program S p f.number (place_of program f))
      → Uncounted program S.kept S.cells o f → Placed program S p f.number (place_of program f)
  own-placed {c = c} e k (Uncounted.own {p = q} m) = let i : q ≡ c = cc in k (rw i at m)
  own-placed e k (Uncounted.kept reads first m) = absurd (first-none kept-reads first)

  -- ---- every refusal

  pub refused-placed : {ws p : List ℤ} {f : Fault} → StatementThere program p → Refused program S ws p f → Placed program S p f.number (place_of program f)
  refused-placed here (f_value m) = assign-placed here λ r q i e1 e2. inner-on ((path-uses _).good r e1).part (omega arith) (meets-inner S.cells hold.fit (rw i at m) e2)
  refused-placed here (f_target {p = p} v a) =
      assign-placed here λ r q i e1 e2. inner-on (part-refl p) ((expression-uses expression_depth false r).good q e2).part.short (lost-inner S.cells hold.fit (nowhere a) e1)
  refused-placed here (f_field {x = x} {m = m} {p = p} a b u) =
      let e = flat here (λ d. new-opens d p x m a b) in
      within here e (inner-on (part-drop 2 (pos x ∷ pos m ∷ p)) (omega arith) (fields-inner S.cells hold.fit [] u (sym (new-opens 0 p x m a b) ∙ e)))
  refused-placed here (f_full a b c d) = plain refl refl
  refused-placed here (f_phase gives (PhaseFails.no_node a b c)) = plain refl refl
  refused-placed here (f_phase gives (PhaseFails.clash a b c d e)) = plain refl refl
  refused-placed here (f_given gives phase u) = unsettled-placed u (given-placed refl here gives phase)
  refused-placed here (f_always {p = p} r u) = unsettled-placed u (own-placed refl (constraint-placed 3 here (λ d. always-opens d p)))
  refused-placed here (f_once {p = p} u) = unsettled-placed u (own-placed refl (constraint-placed 4 here (λ d. once-opens d p)))
  refused-placed here (f_identity {verb = verb} {p = p} a b u) =
      let e = flat here (λ d. same-opens d p verb a b) in
      go e (unsame-sided S.cells hold.fit u (sym (same-opens 0 p verb a b) ∙ e)) here
    where
      go : {q p : List ℤ} {f : Fault} → read_statement 0 (pos verb ∷ p) ≡ got q → Sided S.cells hold.fit (pos verb ∷ p) p q f → StatementThere program (pos verb ∷ p) → Placed program S (pos verb ∷ p) f.number (place_of program f)
      go e (at_side x) here = within here e x
      go e both-differ here = plain refl refl
  refused-placed here (f_unkept a b) = plain refl refl

-- every end of a run
pub ends-placed : {program : List ℤ} {budget n : ℕ} {u : Tally} {p : List ℤ} {place : ℕ} → Program program → Holds program u.state → Ends program budget u p n place → Placed program u.state p n place
ends-placed g hold (unpaid here) = plain refl refl
ends-placed {program} {u = u} g hold (refuses here low r) = refused-placed program g u.state hold here r
ends-placed {program} {u = u} g hold (untested {p = p} {q = q} here a b t x) =
    let e : read_expression expression_depth false p ≡ got q = rw t.split (expression-complete t.piece q) in
    inner (found-test program here a e (test-inner u.state.cells hold.fit x e))

-- ---- what follows for its number and its place

found_number : {program p : List ℤ} {S : Cells} {c : Bool} {n place : ℕ} → Found program S n place c p → OneOf n inner-numbers
found_number (in_statement a b c w) = wrong-number w
found_number (in_test a b c d w) = wrong-number w

pub inner-range : {n : ℕ} → OneOf n inner-numbers → (5 ≤ n) × (n ≤ 19)
inner-range o = inner-cases o (λ e. (omega arith, omega arith)) (λ e. (omega arith, omega arith)) (λ e. (omega arith, omega arith)) (λ e. (omega arith, omega arith))

module _ (n : ℕ) (h : outside n ≡ true) where
  abbrev low : Bool
  low = leb 5 n && leb n 19

  abbrev high : Bool
  high = not (eqb n 7) && (not (eqb n 8) && (not (eqb n 9) && not (eqb n 15)))

  outside-range : (5 ≤ n) × (n ≤ 19)
  outside-range = (leb-true 5 n (and_left (leb 5 n) (leb n 19) (and_left low high h)), leb-true n 19 (and_right (leb 5 n) (leb n 19) (and_left low high h)))

  outside-apart : OneOf n inner-numbers → ⊥
  outside-apart o = inner-cases o (λ e. true≢false (sym h ∙ rw e)) (λ e. true≢false (sym h ∙ rw e)) (λ e. true≢false (sym h ∙ rw e)) (λ e. true≢false (sym h ∙ rw e))

-- the number is from 5 to 19
pub placed-range : {program p : List ℤ} {S : State} {n place : ℕ} → Placed program S p n place → (5 ≤ n) × (n ≤ 19)
placed-range {n = n} (plain e h) = outside-range n h
placed-range (inner f) = inner-range (found_number f)
placed-range (in_kept e i) = (omega arith, omega arith)

-- the place is the statement's word, unless the number is 7, 8, 9 or 15
pub placed-own : {program p : List ℤ} {S : State} {n place : ℕ} → Placed program S p n place → (OneOf n inner-numbers → ⊥) → place ≡ position_of program p
placed-own (plain e h) k = e
placed-own (inner f) k = absurd (k (found_number f))
placed-own (in_kept e i) k = absurd (k (fifteen e))

pub placed-inside : {program p : List ℤ} {S : State} {n place : ℕ} → Placed program S p n place → OneOf n inner-numbers → Inside program S p place n
placed-inside {n = n} (plain e h) o = absurd (outside-apart n h o)
placed-inside (inner f) o = of_statement f
placed-inside (in_kept e i) o = rw e i

pub placed-found : {program p : List ℤ} {S : State} {n place : ℕ} → Placed program S p n place → OneOf n inner-numbers → n ≢ 15 → (c : Bool) × Found program S.cells n place c p
placed-found {n = n} (plain e h) o k = absurd (outside-apart n h o)
placed-found (inner {c = c} f) o k = (c, f)
placed-found (in_kept e i) o k = absurd (k e)

-- ---- a place inside the line is inside the program

found-short : {program p : List ℤ} {S : Cells} {c : Bool} {n place : ℕ} → Found program S n place c p → place < length program
found-short (in_statement t a b w) = omega arith
found-short (in_test h t a b w) = omega arith

pub inside-short : {program p : List ℤ} {S : State} {n place : ℕ} → Inside program S p place n → place < length program
inside-short (of_statement f) = found-short f
inside-short (of_kept g h k f) = found-short f

pub inner-or : (n : ℕ) → Dec (OneOf n inner-numbers)
inner-or n = go (ℕ_discrete n 7) (ℕ_discrete n 8) (ℕ_discrete n 9) (ℕ_discrete n 15)
  where
    go : Dec (n ≡ 7) → Dec (n ≡ 8) → Dec (n ≡ 9) → Dec (n ≡ 15) → Dec (OneOf n inner-numbers)
    go (yes e) b c d = yes (seven e)
    go (no a) (yes e) c d = yes (eight e)
    go (no a) (no b) (yes e) d = yes (nine e)
    go (no a) (no b) (no c) (yes e) = yes (fifteen e)
    go (no a) (no b) (no c) (no d) = no λ o. inner-cases o a b c d
