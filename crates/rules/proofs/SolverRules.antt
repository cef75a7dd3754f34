-- One statement with two proposals gives exactly what the rules derive. Assumes nothing.
use mathlib.Core.Path.{◌≡◌, refl, sym, ap, ◌∙◌}
use mathlib.Core.Logic.{◌↔◌, ◌⊎◌, inl, inr}
use Prim.Native.Nat.{ℕ, ◌<◌}
use native.Mathlib.Omega.{arith}
use mathlib.Core.Bool.{Bool, true, false, true≢false}
use mathlib.Core.List.{List, [], ◌∷◌, Memᴰ as OneOf}
use borrow.Author.Tests.{leb-true, le-leb}
use lib.Dec.{leb}
use lib.IntN.{ℤ, pos, negsuc}
use lib.ListN.{length, drop}
use Rattle.std.specs.Prelude.{Option, Some, None}
use Rattle.words.specs.Words.{number_of, number_at}
use Rattle.words.specs.Answer.{got, stop}
use Rattle.words.proofs.AnswerLaws.{stop-inj, either}
use Rattle.tables.proofs.SearchLaws.{cases, and_left, and_right, and-true}
use Rattle.fit.specs.Fit.{sized}
use Rattle.program.specs.Forms.{verb_of}
use Rattle.program.specs.Reading.{read_program}
use Rattle.program.specs.Grammar.{Program}
use Rattle.program.specs.Where.{statement_at}
use Rattle.program.specs.declared.Spot.{Spot}
use Rattle.program.proofs.FormLaws.{number_of_verb}
use Rattle.program.proofs.WhereLaws.{statement-past}
use Rattle.program.proofs.GrammarLaws.{program-sound, program-complete}
use Rattle.rules.specs.State.{State, Fault, refused}
use Rattle.rules.specs.Proposals.{Entry, none?}
use Rattle.rules.specs.Statements.{Left, do_simple}
use Rattle.rules.specs.Start.{budget_fits, early, starts, tables_at_start}
use Rattle.rules.specs.Solvers.{Given, refusing, refused_by, one_to_four, is_named, has_more, whole, alone, turns_down, then_second, tries, passing, ask}
use Rattle.rules.specs.Rules.Proposals.{Formed}
use Rattle.rules.specs.Rules.Statements.{Steps, Refused}
use Rattle.rules.specs.Rules.Answers.{Measured, Unstarted, wrong, unreadable, unfit, broken, Passes}
use Rattle.rules.specs.Rules.Solvers.{Named, named, Accepts, turning, TurnsDown, fails, left_over, Tries, t_first, t_second, t_both, t_no_second, t_refused}
use Rattle.rules.specs.Rules.Solvers.{Asked, unstarted, unnamed, started}
use Rattle.rules.specs.Claims.Solvers.{SolversRules}
use Rattle.rules.specs.Steps.Holds.{Holds}
use Rattle.rules.proofs.AcceptanceLaws.{fails as is_false}
use Rattle.rules.proofs.StepRules.{steps-rule}
use Rattle.rules.proofs.RefusedRules.{refused-rule}
use Rattle.rules.proofs.EntryRules.{passes-hold}
use Rattle.rules.proofs.StartClauses.{budget-is}
use Rattle.rules.proofs.StartRules.{measured-iff, passes-iff, unstarted-iff}
use Rattle.rules.proofs.SpotLaws.{at-nowhere}
use Rattle.rules.proofs.SolverClauses.{named-is, whole-more, whole-all, alone-is, second-takes, second-stops, first-takes, first-turned, first_stops, no_second}
use Rattle.rules.proofs.SolverSteps.{Stood, named-stands, stood-verb, turning-sound, turning-complete, not-turning, other-number}
use Rattle.rules.proofs.SolverSteps.{Comes, comes-asks, comes-unformed, steps-took, Whose, its_own, proposals, whose, own-always}
use Rattle.rules.proofs.SolverSteps.{formed-length, formed-whole, formed-more, more-words, never-formed, Shaped, is-formed, unformed, shaped, fails-unformed}
use Rattle.rules.proofs.SolverSteps.{six, sixteen, turned-number, asks-comes, turned-down-comes}

-- the words that stand for a slice with words left over
abbrev over : List ℤ
over = negsuc 0 ∷ []

over-words : over ≡ [] → ⊥
over-words e = omega (arith, ap length e)

some_words : (ws : List ℤ) → (ws ≡ [] → ⊥) → none? ws ≡ false
some_words [] h = absurd (h refl)
some_words (w ∷ ws) h = refl

without-words : (ws : List ℤ) → none? ws ≡ true → ws ≡ []
without-words [] e = refl
without-words (w ∷ ws) e = absurd (true≢false (sym e))

-- ---- the statement with one slice

abbrev pub Stops : List ℤ → State → List ℤ → List ℤ → Fault → Type 0
Stops program S p ws f = TurnsDown program S p ws f ⊎ (Refused program S ws p f × (OneOf f.number turning → ⊥))

module _ (program : List ℤ) (word : ℤ) (S : State) (p : List ℤ) (pass : Passes program (pos 0) S) (n : Named program word p) where
  stood : Stood program word p
  stood = named-stands pass.1.0 n

  holds : Holds program S
  holds = passes-hold program (pos 0) S pass

  low : number_of_verb (verb_of (number_at p 0)) < 7
  low = omega (arith, stood-verb stood, stood.most)

  doing : (ws us : List ℤ) → whole ws ≡ us → alone program (number_of word) S ws ≡ do_simple program p S us (verb_of (number_at p 0))
  doing ws us e =
      alone-is program (number_of word) S ws
      ∙ ap (λ (q : List ℤ). do_simple program q S (whole ws) (verb_of (number_at q 0))) stood.part-is
      ∙ ap (λ (vs : List ℤ). do_simple program p S vs (verb_of (number_at p 0))) e

  steps_of : (ws us : List ℤ) → whole ws ≡ us → (l : Left) → (alone program (number_of word) S ws ≡ got l) ↔ Steps program S us p l
  steps_of ws us e l =
      let r = steps-rule program p S us stood.here.statement holds l in
      (λ h. r.0 (sym (doing ws us e) ∙ h), λ s. doing ws us e ∙ r.1 s)

  refused-of : (ws us : List ℤ) → whole ws ≡ us → (f : Fault) → (alone program (number_of word) S ws ≡ stop f) ↔ Refused program S us p f
  refused-of ws us e f =
      let r = refused-rule program p S us stood.here.statement holds low f in
      (λ h. r.0 (sym (doing ws us e) ∙ h), λ s. doing ws us e ∙ r.1 s)

  -- ---- accepted

  accepts-sound : (ws : List ℤ) (l : Left) → alone program (number_of word) S ws ≡ got l → Accepts program S p ws l
  accepts-sound ws l e = cases (has_more ws)
      (λ c.
      let t = steps-took stood.least stood.most ((steps_of ws over (whole-more ws c) l).0 e) in
      absurd (never-formed t.es l.unread t.formed))
      (λ c.
      let s = (steps_of ws ws (whole-all ws c) l).0 e in
      record { steps = s; whole = formed-whole c (steps-took stood.least stood.most s).formed })

  accepts-complete : (ws : List ℤ) (l : Left) → Accepts program S p ws l → alone program (number_of word) S ws ≡ got l
  accepts-complete ws l a = cases (has_more ws)
      (λ c. absurd (formed-more c (steps-took stood.least stood.most a.steps).formed a.whole))
      (λ c. (steps_of ws ws (whole-all ws c) l).1 a.steps)

  pub accepts-comes : {ws : List ℤ} {l : Left} → Accepts program S p ws l → Comes program S p
  accepts-comes a = (steps-took stood.least stood.most a.steps).comes

  accepts-words : {ws : List ℤ} {l : Left} → Accepts program S p ws l → ws ≡ [] → ⊥
  accepts-words a e = omega (arith, formed-length (steps-took stood.least stood.most a.steps).formed, ap length e)

  pub alone-accepts : (ws : List ℤ) (l : Left) → (alone program (number_of word) S ws ≡ got l) ↔ Accepts program S p ws l
  alone-accepts ws l = (accepts-sound ws l, accepts-complete ws l)

  -- ---- refused

  -- it came to its proposal, and the slice has words left over: 16 whatever else is wrong with it
  over-stops : (ws : List ℤ) → has_more ws ≡ true → Comes program S p → alone program (number_of word) S ws ≡ stop (refused 16 p)
  over-stops ws c k = (refused-of ws over (whole-more ws c) (refused 16 p)).1 (comes-unformed k over over-words never-formed)

  over-turns : (ws : List ℤ) → has_more ws ≡ true → Comes program S p → TurnsDown program S p ws (refused 16 p)
  over-turns ws c k = go (shaped ws)
    where
      left : (es : List Entry) (rest : List ℤ) → Formed ws es rest → (rest ≡ [] → ⊥) → TurnsDown program S p ws (refused 16 p)
      left es [] f h = absurd (h refl)
      left es (w ∷ rest) f h = left_over (comes-asks k) f

      go : Shaped ws → TurnsDown program S p ws (refused 16 p)
      go (is-formed es rest f) = left es rest f (formed-more c f)
      go (unformed h) = fails (comes-unformed k ws (more-words c) h) sixteen (λ es rest f. absurd (h es rest f))

  refuses-sound : (ws : List ℤ) (f : Fault) → alone program (number_of word) S ws ≡ stop f → Stops program S p ws f
  refuses-sound ws f e = cases (has_more ws)
      (λ c. over-sound c (whose ((refused-of ws over (whole-more ws c) f).0 e)))
      (λ c.
      let r = (refused-of ws ws (whole-all ws c) f).0 e in
      cases (turns_down f.number)
      (λ t. inl (fails r (turning-sound f.number t) (λ es rest x. formed-whole c x)))
      (λ t. inr (r, not-turning t)))
    where
      over-sound : {f : Fault} → has_more ws ≡ true → Whose program S over p f → Stops program S p ws f
      over-sound c (its_own t h) = inr (h ws, not-turning t)
      over-sound c (proposals k x) = rw (fails-unformed over-words never-formed x) (inl (over-turns ws c k))

  turns-complete : (ws : List ℤ) {f : Fault} → TurnsDown program S p ws f → alone program (number_of word) S ws ≡ stop f
  turns-complete ws {f} (fails r t w) = cases (has_more ws)
      (λ c. unformed-stops c (λ es rest x. formed-more c x (w es rest x)) t (whose r))
      (λ c. (refused-of ws ws (whole-all ws c) f).1 r)
    where
      unformed-stops : {f : Fault} → has_more ws ≡ true → ((es : List Entry) (rest : List ℤ) → Formed ws es rest → ⊥) → OneOf f.number turning
          → Whose program S ws p f → alone program (number_of word) S ws ≡ stop f
      unformed-stops c h t (its_own e k) = absurd (not-turning e t)
      unformed-stops c h t (proposals k x) = rw (fails-unformed (more-words c) h x) (over-stops ws c k)
  turns-complete ws (left_over a x) = cases (has_more ws)
      (λ c. over-stops ws c (asks-comes a))
      (λ c. absurd (omega (arith, ap length (formed-whole c x))))

  pub alone-refuses : (ws : List ℤ) (f : Fault) → (alone program (number_of word) S ws ≡ stop f) ↔ Stops program S p ws f
  alone-refuses ws f = (refuses-sound ws f, complete)
    where
      complete : Stops program S p ws f → alone program (number_of word) S ws ≡ stop f
      complete (inl t) = turns-complete ws t
      complete (inr x) = (refused-of ws (whole ws) refl f).1 (own-always x.0 x.1 (whole ws))

  -- a statement is refused in one way
  pub one-refusal : (ws : List ℤ) {f g : Fault} → Refused program S ws p f → Refused program S ws p g → f ≡ g
  one-refusal ws {f} {g} a b =
      let r = refused-rule program p S ws stood.here.statement holds low in
      stop-inj (sym ((r f).1 a) ∙ (r g).1 b)

  -- where it came to its proposal, no refusal is its own
  pub never-own : {ws : List ℤ} {f : Fault} → Comes program S p → Refused program S ws p f → (OneOf f.number turning → ⊥) → ⊥
  never-own k r other = other (rw (one-refusal [] (own-always r other []) (comes-asks k)) six)

  -- ---- with both

  module _ (first second : List ℤ) where
    abbrev Now : Given → Type 0
    Now e = Tries program word first second S p e

    second-sound : {f : Fault} → TurnsDown program S p first f → (second ≡ [] → ⊥) → Now (then_second program word second S (alone program (number_of word) S second))
    second-sound t h = either (alone program (number_of word) S second)
        (λ l e. rw (e, second-takes program word second S l) (t_second t ((alone-accepts second l).0 e)))
        (λ g e. rw (e, second-stops program word second S g) (stopped ((alone-refuses second g).0 e)))
      where
        stopped : {g : Fault} → Stops program S p second g → Now (refused_by program S g)
        stopped (inl d) = t_both t d h
        stopped (inr x) = absurd (never-own (turned-down-comes t) x.0 x.1)

    tries-sound : Now (tries program word first second S (alone program (number_of word) S first))
    tries-sound = either (alone program (number_of word) S first)
        (λ l e. rw (e, first-takes program word second S first l) (t_first ((alone-accepts first l).0 e)))
        (λ f e. stopped e ((alone-refuses first f).0 e))
      where
        stopped : {f : Fault} → alone program (number_of word) S first ≡ stop f → Stops program S p first f → Now (tries program word first second S (alone program (number_of word) S first))
        stopped {f} e (inl t) = cases (none? second)
            (λ c. rw (e, no_second program word second S first f c) (t_no_second t (without-words second c)))
            (λ c. rw (e, first-turned program word second S first f (turning-complete (turned-number t)) c) (second-sound t (λ z. true≢false (ap none? (sym z) ∙ c))))
        stopped {f} e (inr x) = rw (e, first_stops program word second S first f (other-number x.1)) (t_refused x.0 x.1)

    after_first : {f : Fault} → TurnsDown program S p first f → (second ≡ [] → ⊥)
        → tries program word first second S (alone program (number_of word) S first) ≡ then_second program word second S (alone program (number_of word) S second)
    after_first {f} t h = rw ((alone-refuses first f).1 (inl t)) (first-turned program word second S first f (turning-complete (turned-number t)) (some_words second h))

    tries-complete : {e : Given} → Now e → tries program word first second S (alone program (number_of word) S first) ≡ e
    tries-complete (t_first {l = l} a) = rw ((alone-accepts first l).1 a) (first-takes program word second S first l)
    tries-complete (t_second {l = l} t a) = after_first t (accepts-words a) ∙ rw ((alone-accepts second l).1 a) (second-takes program word second S l)
    tries-complete (t_both {g = g} t d h) = after_first t h ∙ rw ((alone-refuses second g).1 (inl d)) (second-stops program word second S g)
    tries-complete (t_no_second {f = f} t e) = rw ((alone-refuses first f).1 (inl t)) (no_second program word second S first f (ap none? e))
    tries-complete (t_refused {f = f} r h) = rw ((alone-refuses first f).1 (inr (r, h))) (first_stops program word second S first f (other-number h))

    pub tries-rule : (e : Given) → (tries program word first second S (alone program (number_of word) S first) ≡ e) ↔ Tries program word first second S p e
    tries-rule e = (λ h. rw h at tries-sound, tries-complete)

-- ---- a statement is named exactly where the rules say so

pub named-sound : {program : List ℤ} {word : ℤ} → Program program → is_named program word ≡ true → (p : List ℤ) × Named program word p
named-sound {program} {word} g e = go word (statement_at program (number_of word)) refl (sym (named-is program word) ∙ e)
  where
    go : (w : ℤ) (s : Option Spot) → statement_at program (number_of w) ≡ s → one_to_four s ≡ true → (p : List ℤ) × Named program w p
    go w None i h = absurd (true≢false (sym h))
    go (pos k) (Some spot) i h = (drop k program, named {verb = spot.verb} {nest = spot.nest} (leb-true 1 spot.verb (and_left (leb 1 spot.verb) (leb spot.verb 4) h)) (leb-true spot.verb 4 (and_right (leb 1 spot.verb) (leb spot.verb 4) h)) i)
    go (negsuc k) (Some spot) i h = at-nowhere (sym i ∙ sym (statement-past program 2147483648 (omega (arith, g.short))))

pub named-complete : {program p : List ℤ} {word : ℤ} → Named program word p → is_named program word ≡ true
named-complete {program} (named {k = k} {verb = verb} a b e) = named-is program (pos k) ∙ rw e (and-true (leb 1 verb) (leb verb 4) (le-leb 1 verb a) (le-leb verb 4 b))

-- ---- the start

module _ (program : List ℤ) (S : State) where
  abbrev pub fits : Bool
  fits = sized S.cells.environment S.cells.heap S.kept

  pub sized-iff : (fits ≡ true) ↔ Measured (pos 0) S
  sized-iff = (
    λ e. (measured-iff program (pos 0) S).0 (and-true fits (budget_fits (pos 0)) e (budget-is (pos 0) ∙ le-leb 0 1000000 (omega arith))),
    λ m. and_left fits (budget_fits (pos 0)) ((measured-iff program (pos 0) S).1 m),
  )

  -- past 1 and 2 the start of a run is that of the call
  pub starts-tables : Measured (pos 0) S → Program program → starts program (pos 0) S ≡ tables_at_start program S
  unfolding starts early
  starts-tables m g = rw ((measured-iff program (pos 0) S).1 m, program-complete program g)

-- ---- the call

module _ (program : List ℤ) (word : ℤ) (first second : List ℤ) (S : State) where
  ask-wrong : fits program S ≡ false → ask program word first second S ≡ refusing S 1 (pos 0)
  unfolding ask early
  ask-wrong e = rw e

  module _ (m : Measured (pos 0) S) where
    ask-unread : {k : ℕ} → read_program program ≡ stop k → ask program word first second S ≡ refusing S 2 (pos k)
    unfolding ask early
    ask-unread e = rw ((sized-iff program S).1 m, e)

    ask-unnamed : Program program → is_named program word ≡ false → ask program word first second S ≡ refusing S 2 word
    unfolding ask early
    ask-unnamed g e = rw ((sized-iff program S).1 m, program-complete program g, e)

    ask-named : Program program → is_named program word ≡ true
        → ask program word first second S ≡ passing (tables_at_start program S) S (tries program word first second S (alone program (number_of word) S first))
    unfolding ask early
    ask-named g e = rw ((sized-iff program S).1 m, program-complete program g, e)

  -- what passed the start comes to the statement
  ask-tries : {p : List ℤ} → Passes program (pos 0) S → Named program word p → ask program word first second S ≡ tries program word first second S (alone program (number_of word) S first)
  ask-tries pass n =
      ask-named pass.0 pass.1.0 (named-complete n)
      ∙ ap (λ m. passing m S (tries program word first second S (alone program (number_of word) S first)))
      (sym (starts-tables program S pass.0 pass.1.0) ∙ (passes-iff program (pos 0) S).1 pass)

  sound : Asked program word first second S (ask program word first second S)
  sound = cases (fits program S)
      (λ c. either (read_program program) (λ u e. reads ((sized-iff program S).0 c) (program-sound program e)) (λ k e. unreads ((sized-iff program S).0 c) e))
      (λ c. rw (ask-wrong c) (unstarted (wrong λ m. true≢false (sym ((sized-iff program S).1 m) ∙ c)) (λ h. absurd (omega arith))))
    where
      unreads : {k : ℕ} → Measured (pos 0) S → read_program program ≡ stop k → Asked program word first second S (ask program word first second S)
      unreads m e = rw (ask-unread m e) (unstarted (unreadable m e) (λ h. absurd (omega arith)))

      names : {p : List ℤ} → Measured (pos 0) S → Program program → Named program word p → Asked program word first second S (ask program word first second S)
      names {p} m g n = either (tables_at_start program S)
          (λ u e.
          let pass = (passes-iff program (pos 0) S).0 (starts-tables program S m g ∙ e) in
          rw (ask-tries pass n) (started pass n ((tries-rule program word S p pass n first second _).0 refl)))
          (λ x e.
          rw (ask-named m g (named-complete n), e)
          (unstarted ((unstarted-iff program (pos 0) S x).0 (starts-tables program S m g ∙ e)) (λ h. (p, n))))

      reads : Measured (pos 0) S → Program program → Asked program word first second S (ask program word first second S)
      reads m g = cases (is_named program word)
          (λ c. names m g (named-sound g c).1)
          (λ c. rw (ask-unnamed m g c) (unnamed m g (λ p n. true≢false (sym (named-complete n) ∙ c))))

  -- 3 and 4
  late : {n place : ℕ} → Measured (pos 0) S → Program program → Unstarted program (pos 0) S n place → (p : List ℤ) × Named program word p
      → ask program word first second S ≡ refusing S n (pos place)
  late {n} {place} m g u x =
      ask-named m g (named-complete x.1)
      ∙ ap (λ t. passing t S (tries program word first second S (alone program (number_of word) S first)))
      (sym (starts-tables program S m g) ∙ (unstarted-iff program (pos 0) S (record { number = n; place = place })).1 u)

  complete : {e : Given} → Asked program word first second S e → ask program word first second S ≡ e
  complete (unstarted (wrong f) h) = ask-wrong (is_false (fits program S) (λ e. f ((sized-iff program S).0 e)))
  complete (unstarted (unreadable m e) h) = ask-unread m e
  complete (unstarted (unfit m g f) h) = late m g (unfit m g f) (h (omega arith))
  complete (unstarted (broken m g t f) h) = late m g (broken m g t f) (h (omega arith))
  complete (unnamed m g h) = ask-unnamed m g (is_false (is_named program word) (λ e. let x = named-sound g e in h x.0 x.1))
  complete (started {p = p} {e = e} pass n t) = ask-tries pass n ∙ (tries-rule program word S p pass n first second e).1 t

pub solvers-rules : SolversRules
solvers-rules program word first second S e = (λ h. rw h at (sound program word first second S), complete program word first second S)

-- what is asked of a statement that is named, past the start, is what it comes to with both
pub asked-tries : {program p : List ℤ} {word : ℤ} {first second : List ℤ} {S : State} {e : Given} → Passes program (pos 0) S → Named program word p
    → Asked program word first second S e → Tries program word first second S p e
asked-tries {program} {p} {word} {first} {second} {S} {e} pass n a =
    (tries-rule program word S p pass n first second e).0 (sym (ask-tries program word first second S pass n) ∙ complete program word first second S a)
