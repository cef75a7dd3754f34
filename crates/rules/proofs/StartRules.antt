-- The start: what passes it and what it refuses, by the definitions exactly as by the rules. Assumes nothing.
use mathlib.Core.Path.{◌≡◌, refl, sym, ◌∙◌}
use mathlib.Core.Logic.{◌↔◌}
use Prim.Native.Nat.{ℕ, zero, suc, ◌+◌}
use mathlib.Core.Bool.{Bool, true, false, true≢false, ◌&&◌}
use mathlib.Core.List.{List, [], ◌∷◌, ◌++◌, map, append-nil}
use borrow.Author.Tests.{leb-true, le-leb}
use lib.IntN.{ℤ}
use lib.ListN.{drop}
use Rattle.words.specs.Words.{word_at, number_of}
use Rattle.words.specs.Answer.{Answer, got, stop, ◌>>◌, want}
use Rattle.words.proofs.AnswerLaws.{got-inj, stop-inj, stop≢got, either}
use Rattle.tables.specs.declared.Sort.{Sort}
use Rattle.tables.specs.declared.Sort.TheVariants.{Values, Identities}
use Rattle.tables.specs.Cells.{Cells}
use Rattle.tables.proofs.SearchLaws.{cases, and_left, and_right, and-true}
use Rattle.fit.specs.Fit.{sized, environment_fits, heap_fits}
use Rattle.fit.proofs.FitLaws.{environment-fits, heap-fits}
use Rattle.fit.proofs.StartLaws.{sized-lengths, lengths-sized, tables-fit}
use Rattle.program.specs.Reading.{read_program}
use Rattle.program.specs.Grammar.{Program}
use Rattle.program.specs.Where.{constraints_stand}
use Rattle.program.proofs.GrammarLaws.{program-sound, program-complete}
use Rattle.rules.specs.State.{State, positions}
use Rattle.rules.specs.Constraints.{kept_at, required_hold}
use Rattle.rules.specs.Identities.{same_now}
use Rattle.rules.specs.Start.{Early, budget_fits, values_hold, identities_hold, early, starts}
use Rattle.rules.specs.Rules.Constraints.{FirstNot}
use Rattle.rules.specs.Rules.Proposals.{Each, none, more}
use Rattle.rules.specs.Rules.Kept.{KeptStands, in_order, Stands}
use Rattle.rules.specs.Rules.Answers.{Measured, TableFits, Unstarted, wrong, unreadable, unfit, broken, Passes}
use Rattle.rules.proofs.AcceptanceLaws.{fails, met-iff}
use Rattle.rules.proofs.HoldLaws.{each_left, each_right}
use Rattle.rules.proofs.StandRules.{kept-iff}

-- ---- a test of each of a list, in order

data Tried (P : Type 0) : Type 0 where
  is : P → Tried P
  is-not : (P → ⊥) → Tried P

data Judged {A : Type 0} (P : A → Type 0) (xs : List A) : Type 0 where
  all : Each P xs → Judged P xs
  not-all : (x : A) → FirstNot P xs x → Judged P xs

judged : {A : Type 0} {P : A → Type 0} → ((x : A) → Tried (P x)) → (xs : List A) → Judged P xs
judged t [] = all none
judged {P = P} t (x ∷ xs) = go (t x) (judged t xs)
  where
    go : Tried (P x) → Judged P xs → Judged P (x ∷ xs)
    go (is a) (all e) = all (more a e)
    go (is a) (not-all y f) = not-all y (FirstNot.later a f)
    go (is-not a) j = not-all x (FirstNot.here a)

true-tried : (b : Bool) → Tried (b ≡ true)
true-tried true = is refl
true-tried false = is-not (λ e. true≢false (sym e))

-- ---- the kept constraints

module _ (program : List ℤ) (S : Cells) where
  abbrev hold_of : Sort → List ℕ → Answer ℕ (Unit {0})
  hold_of Values ns = values_hold program S ns
  hold_of Identities ns = identities_hold program S ns

  kept-tried : (x : Sort × ℕ) → Tried (KeptStands program S x)
  kept-tried (Values, n) = either (kept_at program S n)
      (λ parts e. cases (required_hold parts)
      (λ c. is ((kept-iff program S Values n).0 (record { parts = parts; reads = e; met = (met-iff parts).0 c })))
      (λ c. is-not λ v. let w = (kept-iff program S Values n).1 v in true≢false (sym ((met-iff parts).1 (rw (got-inj (sym w.reads ∙ e)) at w.met)) ∙ c)))
      (λ f e. is-not λ v. stop≢got (sym e ∙ ((kept-iff program S Values n).1 v).reads))
  kept-tried (Identities, n) = either (same_now S (drop n program) (drop (n + 1) program))
      (λ u e. is ((kept-iff program S Identities n).0 e))
      (λ f e. is-not λ s. stop≢got (sym e ∙ (kept-iff program S Identities n).1 s))

  none_left : (s : Sort) → hold_of s [] ≡ got tt
  unfolding values_hold identities_hold
  none_left Values = refl
  none_left Identities = refl

  goes_on : (s : Sort) (n : ℕ) (ns : List ℕ) → KeptStands program S (s, n) → hold_of s (n ∷ ns) ≡ hold_of s ns
  unfolding values_hold identities_hold
  goes_on Values n ns v = let w = (kept-iff program S Values n).1 v in rw (w.reads, values_hold) (rw ((met-iff w.parts).1 w.met))
  goes_on Identities n ns s = rw ((kept-iff program S Identities n).1 s, identities_hold)

  stops_at : (s : Sort) (n : ℕ) (ns : List ℕ) → (KeptStands program S (s, n) → ⊥) → hold_of s (n ∷ ns) ≡ stop n
  unfolding values_hold identities_hold
  stops_at Values n ns f = either (kept_at program S n)
      (λ parts e. cases (required_hold parts)
      (λ c. absurd (f ((kept-iff program S Values n).0 (record { parts = parts; reads = e; met = (met-iff parts).0 c }))))
      (λ c. rw (e, values_hold) (rw c)))
      (λ g e. rw (e, values_hold))
  stops_at Identities n ns f = either (same_now S (drop n program) (drop (n + 1) program))
      (λ u e. absurd (f ((kept-iff program S Identities n).0 e)))
      (λ g e. rw (e, identities_hold))

  each-passes : (s : Sort) (ns : List ℕ) → Each (KeptStands program S) (map (λ k. (s, k)) ns) → hold_of s ns ≡ got tt
  each-passes s [] none = none_left s
  each-passes s (n ∷ ns) (more a e) = goes_on s n ns a ∙ each-passes s ns e

  -- the first that does not stand is of this sort, or comes after it
  data Splits (s : Sort) (ns : List ℕ) (xs : List (Sort × ℕ)) (x : Sort × ℕ) : Type 0 where
    of-it : hold_of s ns ≡ stop x.1 → Splits s ns xs x
    after : hold_of s ns ≡ got tt → FirstNot (KeptStands program S) xs x → Splits s ns xs x

  first-splits : (s : Sort) (ns : List ℕ) (xs : List (Sort × ℕ)) (x : Sort × ℕ) → FirstNot (KeptStands program S) (map (λ k. (s, k)) ns ++ xs) x → Splits s ns xs x
  first-splits s [] xs x f = after (none_left s) f
  first-splits s (n ∷ ns) xs x (FirstNot.here a) = of-it (stops_at s n ns a)
  first-splits s (n ∷ ns) xs x (FirstNot.later a f) = go (first-splits s ns xs x f)
    where
      go : Splits s ns xs x → Splits s (n ∷ ns) xs x
      go (of-it e) = of-it (goes_on s n ns a ∙ e)
      go (after e g) = after (goes_on s n ns a ∙ e) g

  order-stops : (kept : List ℤ) (x : Sort × ℕ) → FirstNot (KeptStands program S) (in_order kept) x
      → (early 4 (values_hold program S (positions kept Values)) >> early 4 (identities_hold program S (positions kept Identities))) ≡ stop (record { number = 4; place = x.1 })
  unfolding early
  order-stops kept x f = go (first-splits Values (positions kept Values) _ x f)
    where
      rest : Splits Identities (positions kept Identities) [] x → early 4 (identities_hold program S (positions kept Identities)) ≡ stop (record { number = 4; place = x.1 })
      rest (of-it e) = rw e
      rest (after e i) = elim i [ ]

      go : Splits Values (positions kept Values) (map (λ k. (Identities, k)) (positions kept Identities)) x
          → (early 4 (values_hold program S (positions kept Values)) >> early 4 (identities_hold program S (positions kept Identities))) ≡ stop (record { number = 4; place = x.1 })
      go (of-it e) = rw e
      go (after e g) = rw e (rest (first-splits Identities (positions kept Identities) [] x (rw append-nil g)))

-- ---- the whole start

module _ (program : List ℤ) (budget : ℤ) (S : State) where
  abbrev pub measures : Bool
  measures = sized S.cells.environment S.cells.heap S.kept && budget_fits budget

  pub measured-iff : (measures ≡ true) ↔ Measured budget S
  unfolding budget_fits
  measured-iff = (
    λ e.
        let l = sized-lengths S.cells.environment S.cells.heap S.kept (and_left _ _ e) in
        record {
          environment = l.0;
          heap = l.1.0;
          constraints = l.1.1;
          few = leb-true (number_of budget) 1000000 (and_right (sized S.cells.environment S.cells.heap S.kept) _ e);
        },
    λ m. and-true _ _ (lengths-sized S.cells.environment S.cells.heap S.kept m.environment m.heap m.constraints) (le-leb (number_of budget) 1000000 m.few),
  )

  data Verdict : Type 0 where
    passes : Passes program budget S → Verdict
    refuses : {n place : ℕ} → Unstarted program budget S n place → Verdict

  stands : Measured budget S → Each (TableFits program S) (0 ∷ 1 ∷ 2 ∷ []) → Each (KeptStands program S.cells) (in_order S.kept) → Stands program S
  stands m (more a (more b (more c none))) e = record {
    fit = record { sized = record { environment = m.environment; heap = m.heap }; fits = tables-fit S.cells a b };
    long = m.constraints;
    positions-stand = c;
    constraints = e;
  }

  table-tried : (k : ℕ) → Tried (TableFits program S k)
  table-tried zero = true-tried _
  table-tried (suc zero) = true-tried _
  table-tried (suc (suc k)) = true-tried _

  -- the rules let every start pass, or refuse it
  verdict : Verdict
  verdict = cases measures
      (λ c. let m = measured-iff.0 c in
      either (read_program program) (λ u r. tables m (program-sound program r) (judged table-tried (0 ∷ 1 ∷ 2 ∷ []))) (λ k r. refuses (unreadable m r)))
      (λ c. refuses (wrong λ m. true≢false (sym (measured-iff.1 m) ∙ c)))
    where
      kept : Measured budget S → Program program → Each (TableFits program S) (0 ∷ 1 ∷ 2 ∷ []) → Judged (KeptStands program S.cells) (in_order S.kept) → Verdict
      kept m g t (all e) = passes (m, (g, stands m t e))
      kept m g t (not-all (s, k) f) = refuses (broken m g t f)

      tables : Measured budget S → Program program → Judged (TableFits program S) (0 ∷ 1 ∷ 2 ∷ []) → Verdict
      tables m g (all t) = kept m g t (judged (kept-tried program S.cells) (in_order S.kept))
      tables m g (not-all k f) = refuses (unfit m g f)

  -- ---- and what the rules say is so

  passes-complete : Passes program budget S → starts program budget S ≡ got tt
  unfolding starts early
  passes-complete p =
      rw (
        measured-iff.1 p.0,
        program-complete program p.1.0,
        environment-fits S.cells p.1.1.fit,
        heap-fits S.cells p.1.1.fit,
        p.1.1.positions-stand,
        each-passes program S.cells Values (positions S.kept Values) (each_left _ _ p.1.1.constraints),
        each-passes program S.cells Identities (positions S.kept Identities) (each_right (map (λ k. (Values, k)) (positions S.kept Values)) _ p.1.1.constraints),
      )

  unstarted-complete : {n place : ℕ} → Unstarted program budget S n place → starts program budget S ≡ stop (record { number = n; place = place })
  unfolding starts early
  unstarted-complete (wrong f) = rw (fails measures (λ e. f (measured-iff.0 e)))
  unstarted-complete (unreadable m r) = rw (measured-iff.1 m, r)
  unstarted-complete (unfit m g f) = rw (measured-iff.1 m, program-complete program g) (first _ f)
    where
      first : {k : ℕ} (rest : Answer Early (Unit {0})) → FirstNot (TableFits program S) (0 ∷ 1 ∷ 2 ∷ []) k
          → (early 3 (want 0 (environment_fits (word_at S.cells.heap 0) S.cells.environment))
          >> (early 3 (want 1 (heap_fits S.cells.heap)) >> (early 3 (want 2 (constraints_stand program S.kept)) >> rest)))
          ≡ stop (record { number = 3; place = k })
      first rest (FirstNot.here f) = rw (fails _ f)
      first rest (FirstNot.later a (FirstNot.here f)) = rw (a, fails _ f)
      first rest (FirstNot.later a (FirstNot.later b (FirstNot.here f))) = rw (a, b, fails _ f)
      first rest (FirstNot.later a (FirstNot.later b (FirstNot.later c i))) = elim i [ ]
  unstarted-complete (broken {s = s} {k = k} m g (more a (more b (more c none))) f) =
      rw (measured-iff.1 m, program-complete program g, a, b, c) (order-stops program S.cells S.kept (s, k) f)

  -- a start passes exactly where the rules say so
  pub passes-iff : (starts program budget S ≡ got tt) ↔ Passes program budget S
  passes-iff = (λ e. sound verdict e, passes-complete)
    where
      sound : Verdict → starts program budget S ≡ got tt → Passes program budget S
      sound (passes p) e = p
      sound (refuses u) e = stop≢got (sym (unstarted-complete u) ∙ e)

  -- and is refused with a number and a place exactly where they say so
  pub unstarted-iff : (e : Early) → (starts program budget S ≡ stop e) ↔ Unstarted program budget S e.number e.place
  unstarted-iff e = (λ h. sound verdict h, λ u. unstarted-complete u)
    where
      sound : Verdict → starts program budget S ≡ stop e → Unstarted program budget S e.number e.place
      sound (passes p) h = stop≢got (sym h ∙ passes-complete p)
      sound (refuses u) h = rw (← stop-inj (sym (unstarted-complete u) ∙ h)) u
