-- What an assignment or a new gives: how the definition goes on from it, with the phases of the rules, where what is kept holds; or how it is refused before that.
-- Assumes nothing.
use mathlib.Core.Path.{◌≡◌, refl, sym, ap, subst, ◌∙◌}
use mathlib.Core.Logic.{◌↔◌}
use Prim.Native.Nat.{ℕ, ◌-◌, ◌<◌, ◌≤◌}
use native.Mathlib.Omega.{arith}
use mathlib.Core.List.{List, [], ◌∷◌, ◌++◌}
use borrow.Author.Tests.{lt-ltb, ltb-true, ltb-false}
use lib.Dec.{ltb}
use lib.IntN.{ℤ, pos}
use lib.ListN.{drop}
use Rattle.words.specs.Words.{number_at}
use Rattle.words.specs.Answer.{got, stop, ◌>>=◌}
use Rattle.words.proofs.Laws.{number-first}
use Rattle.words.proofs.AnswerLaws.{either}
use Rattle.tables.specs.declared.Value.{Value}
use Rattle.tables.specs.declared.Value.TheVariants.{Ref}
use Rattle.tables.specs.declared.Sort.TheVariants.{Identities}
use Rattle.tables.specs.Sizes.{variables, most_fields, most_records}
use Rattle.tables.specs.Values.{Sound}
use Rattle.tables.specs.Cells.{Cells, Sized}
use Rattle.tables.specs.Records.{record_count}
use Rattle.tables.proofs.SearchLaws.{cases}
use Rattle.fit.specs.Fit.{Fit}
use Rattle.fit.proofs.FitLaws.{fit_count}
use Rattle.program.specs.Forms.{expression_depth, verb_of}
use Rattle.program.specs.declared.Verb.TheVariants.{Assign as assign, New as new}
use Rattle.program.specs.Grammar.{Fields}
use Rattle.program.proofs.FormLaws.{verb-word}
use Rattle.program.proofs.NumberLaws.{number-of}
use Rattle.program.proofs.GrammarSound.{statement-sound}
use Rattle.rules.specs.State.{State, Fault, refused, refuse, positions}
use Rattle.rules.specs.Paths.{way_at}
use Rattle.rules.specs.Evaluation.{evaluate}
use Rattle.rules.specs.Identities.{Tie, ties, identity_phase}
use Rattle.rules.specs.Statements.{field_words, value_phase, do_assign, do_new, do_simple}
use Rattle.rules.specs.Rules.Identities.{Phase, PhaseFails}
use Rattle.rules.specs.Rules.Statements.{past_path, Gives, assigns, makes, Refused, f_value, f_target, f_field, f_full}
use Rattle.rules.specs.Steps.Phases.{Target, by_variable, by_path, Ready, as_before, with-record}
use Rattle.rules.specs.Steps.Holds.{Holds, StatementReads}
use Rattle.rules.proofs.NameLaws.{names-iff}
use Rattle.rules.proofs.EvaluationLaws.{evaluate-iff}
use Rattle.rules.proofs.PhaseLaws.{small-sound}
use Rattle.rules.proofs.IdentitiesAfter.{ties-there}
use Rattle.rules.proofs.PhaseFit.{phase-fit}
use Rattle.rules.proofs.PhaseHolds.{identities-iff}
use Rattle.rules.proofs.AssignHolds.{evaluate-there}
use Rattle.rules.proofs.NewHolds.{new-fit, new-words}
use Rattle.rules.proofs.PhaseRules.{phase-rule, phase-fails-sound, phase-fails-complete}
use Rattle.rules.proofs.AddLaws.{made, words_of_fields, fields-sound, fields-complete, adds-rule}
use Rattle.rules.proofs.StatementWords.{statement-verb, past-path}
use Rattle.rules.proofs.LostLaws.{astray-sound}
use Rattle.rules.proofs.MeetLaws.{meets-sound}
use Rattle.rules.proofs.RefusedPieces.{fields-meet-sound}

-- the words after that of a new that reads: its variable, the number of its fields, its fields, and what follows it
record NewThere (p q : List ℤ) : Type 0 where
  x : ℕ
  n : ℕ
  fs : List ℤ
  is : p ≡ pos x ∷ pos n ∷ (fs ++ q)
  small : x < variables
  few : n ≤ most_fields
  fields : Fields n [] fs

new-there : (p : List ℤ) (here : StatementReads (pos 2 ∷ p)) → NewThere p here.rest
new-there p here =
    let t = statement-sound here.nest (pos 2 ∷ p) here.rest here.reads in
    let w = new-words here.rest t.piece (rw (← t.split) (number-first (pos 2) p)) in
    let e : pos 2 ∷ p ≡ pos 2 ∷ pos w.x ∷ pos w.n ∷ (w.fs ++ here.rest) = t.split ∙ ap (λ (us : List ℤ). us ++ here.rest) w.is in
    record { x = w.x; n = w.n; fs = w.fs; is = cc; small = w.small; few = w.few; fields = w.fields }

module _ (program : List ℤ) (S : State) (holds : Holds program S) where
  -- the kept identities can be followed
  kept_ties : (ts : List Tie) × (ties program S.kept S.cells ≡ got ts)
  kept_ties = ties-there program S.kept S.cells holds.fit ((identities-iff program S.cells (positions S.kept Identities)).1 holds.identities)

  -- ---- the phases of what is given

  record Given (target : ℕ) (prefix : List ℕ) (v : Value) (N : Cells) : Type 0 where
    fit : Fit N
    ready : Ready S.cells N
    reached : Target S.cells target prefix
    small : (r : ℕ) → v ≡ Ref r → r < record_count N.heap

  given-sound : {target : ℕ} {prefix : List ℕ} {v : Value} {N : Cells} → Given target prefix v N → Sound v
  given-sound {v = v} {N = N} x = small-sound v (record_count N.heap) (fit_count N x.fit) x.small

  given : {p : List ℤ} {target : ℕ} {prefix : List ℕ} {v : Value} {N : Cells} → Gives S.cells p target prefix v N → StatementReads p → Given target prefix v N
  given (assigns {v = v} {w = w} {p = p} {r = r} e way) here = record {
    fit = holds.fit;
    ready = as_before;
    reached = by_path p w ((names-iff S.cells p w).1 way);
    small = evaluate-there S.cells holds.fit expression_depth (past_path p) (v, r) ((evaluate-iff expression_depth S.cells (past_path p) v r).1 e);
  }
  given (makes {x = x} {n = n} {fs = fs} {N = N} {p = p} a b f room adds) here =
      let w = new-there (pos x ∷ pos n ∷ p) here in
      let q = w.is in
      let m : w.n ≡ n = cc in
      let i : p ≡ w.fs ++ here.rest = cc in
      let is : N ≡ made S.cells (words_of_fields fs) n = (adds-rule S.cells holds.fit room n p fs f b N).0 adds in
      record {
        fit = rw is (new-fit S.cells n w.fs here.rest (words_of_fields fs) holds.fit room b (rw m at w.fields) (rw (← i) (fields-complete f)));
        ready = rw is (with-record (words_of_fields fs) n room b);
        reached = by_variable a;
        small = λ r e. let k : record_count S.cells.heap ≡ r = cc in omega (arith, adds.records);
      }

  module _ {p : List ℤ} {target : ℕ} {prefix : List ℕ} {v : Value} {N : Cells} (g : Gives S.cells p target prefix v N) (here : StatementReads p) where
    pub gives-sized : Sized N
    gives-sized = (given g here).fit.sized

    pub gives-phase : (Z : Cells) → (identity_phase program S.kept S.cells N p target prefix v ≡ got Z) ↔ Phase program S.kept S.cells N target prefix v Z
    gives-phase =
        let x = given g here in
        phase-rule program S.kept S.cells N p target prefix v holds.fit x.fit x.ready x.reached (given-sound x)

    pub gives-fit : {Z : Cells} → Phase program S.kept S.cells N target prefix v Z → Fit Z
    gives-fit {Z} h =
        let x = given g here in
        phase-fit program S.kept S.cells N p target prefix v kept_ties.0 Z holds.fit x.fit x.ready x.reached x.small kept_ties.1 ((gives-phase Z).1 h)

    pub gives-fails-sound {ℓ} : {X : Type ℓ} (f : Fault) → identity_phase program S.kept S.cells N p target prefix v ≡ stop f
        → ((n : ℕ) → refused n p ≡ f → PhaseFails program S.kept S.cells target prefix v n → X) → X
    gives-fails-sound =
        let x = given g here in
        phase-fails-sound program S.kept S.cells N p target prefix v holds.fit x.fit x.ready x.reached (given-sound x) kept_ties.0 kept_ties.1

    pub gives-fails-complete : {n : ℕ} → PhaseFails program S.kept S.cells target prefix v n → identity_phase program S.kept S.cells N p target prefix v ≡ refuse n p
    gives-fails-complete =
        let x = given g here in
        phase-fails-complete program S.kept S.cells N p target prefix v holds.fit x.fit x.ready x.reached (given-sound x)

  -- the definition goes on with them
  pub gives_goes : {p : List ℤ} {target : ℕ} {prefix : List ℕ} {v : Value} {N : Cells} → Gives S.cells p target prefix v N → StatementReads p → (ws : List ℤ)
      → do_simple program p S ws (verb_of (number_at p 0)) ≡ (identity_phase program S.kept S.cells N p target prefix v >>= λ Y. value_phase program S.kept p target Y ws)
  unfolding do_simple do_assign do_new
  gives_goes (assigns {v = v} {w = w} {p = p} {r = r} e way) here ws =
      rw (
        statement-verb (pos 1 ∷ p) here assign (number-first (pos 1) p),
        ← past-path p here,
        (evaluate-iff expression_depth S.cells (past_path p) v r).1 e,
        (names-iff S.cells p w).1 way,
      )
  gives_goes (makes {x = x} {n = n} {fs = fs} {N = N} {p = p} a b f room adds) here ws =
      rw (
        statement-verb (pos 2 ∷ pos x ∷ pos n ∷ p) here new (number-first (pos 2) (pos x ∷ pos n ∷ p)),
        number-of 0 (variables - 1) x (pos n ∷ p) (omega arith) (omega arith),
        number-of 0 most_fields n p (omega arith) b,
        fields-complete f,
        lt-ltb (record_count S.cells.heap) most_records room,
        (adds-rule S.cells holds.fit room n p fs f b N).0 adds,
      )

  -- ---- an assignment or a new gives, or is refused before that

  module _ (ws : List ℤ) where
    pub data Opens (p : List ℤ) : Type 0 where
      gives : {target : ℕ} {prefix : List ℕ} {v : Value} {N : Cells} → Gives S.cells p target prefix v N → Opens p
      closed : (f : Fault) → do_simple program p S ws (verb_of (number_at p 0)) ≡ stop f → ((f.number ≡ 2 → ⊥) → Refused program S ws p f) → Opens p

    assign-after : (p : List ℤ) → StatementReads (pos 1 ∷ p) → Opens (pos 1 ∷ p)
    unfolding do_simple do_assign
    assign-after p here =
        let verb = statement-verb (pos 1 ∷ p) here assign (number-first (pos 1) p) in
        either (evaluate expression_depth S.cells (past_path p))
        (λ x e.
        let value = (evaluate-iff expression_depth S.cells (past_path p) x.0 x.1).0 e in
        either (way_at S.cells p)
        (λ w way. gives (assigns value ((names-iff S.cells p w).0 way)))
        (λ f way. closed f (rw (verb, ← past-path p here, e, way)) (λ two. let a = astray-sound S.cells p f way two in rw (← a.0) (f_target value a.1))))
        (λ f e. closed f (rw (verb, ← past-path p here, e)) (λ two. f_value (meets-sound S.cells expression_depth (past_path p) f e two)))

    new-fields : (x n : ℕ) (p : List ℤ) → x < variables → n ≤ most_fields → StatementReads (pos 2 ∷ pos x ∷ pos n ∷ p) → Opens (pos 2 ∷ pos x ∷ pos n ∷ p)
    unfolding do_simple do_new
    new-fields x n p a b here =
        let verb = statement-verb (pos 2 ∷ pos x ∷ pos n ∷ p) here new (number-first (pos 2) (pos x ∷ pos n ∷ p)) in
        let first = number-of 0 (variables - 1) x (pos n ∷ p) (omega arith) (omega arith) in
        let second = number-of 0 most_fields n p (omega arith) b in
        either (field_words n S.cells p)
        (λ us e.
        let fs = fields-sound S.cells n p us e in
        cases (ltb (record_count S.cells.heap) most_records)
        (λ c.
        let room = ltb-true (record_count S.cells.heap) most_records c in
        gives (makes a b fs.1.0 room ((adds-rule S.cells holds.fit room n p fs.0 fs.1.0 b (made S.cells (words_of_fields fs.0) n)).1 refl)))
        (λ c. closed (refused 10 (pos 2 ∷ pos x ∷ pos n ∷ p)) (rw (verb, first, second, e, c)) (λ two. f_full a b fs.1.0 (ltb-false (record_count S.cells.heap) most_records c))))
        (λ f e. closed f (rw (verb, first, second, e)) (λ two. f_field a b (fields-meet-sound S.cells n p f e two)))

    new-after : (p : List ℤ) → StatementReads (pos 2 ∷ p) → Opens (pos 2 ∷ p)
    new-after p here =
        let w = new-there p here in
        rw w.is (new-fields w.x w.n (w.fs ++ here.rest) w.small w.few (rw w.is at here))

    module _ (p : List ℤ) (here : StatementReads p) where
      pub assign-opens : verb_of (number_at p 0) ≡ assign → Opens p
      assign-opens e = subst (λ (t : List ℤ). StatementReads t → Opens t) (sym (verb-word e (omega arith))) (assign-after (drop 1 p)) here

      pub new-opens : verb_of (number_at p 0) ≡ new → Opens p
      new-opens e = subst (λ (t : List ℤ). StatementReads t → Opens t) (sym (verb-word e (omega arith))) (new-after (drop 1 p)) here
