-- The definition takes exactly the inputs of the grammar, each as its numbers, and of every other it names the first unfit line. Assumes nothing.
use Rattle.std.specs.Prelude.{None, Option, Some, ℤ, Result, Ok, Err}
use mathlib.Core.Path.{◌≡◌, refl, sym, ap, ◌∙◌}
use mathlib.Core.List.{List, [], ◌∷◌, ◌++◌}
use Prim.Native.Nat.{ℕ, ◌≤◌, ◌<◌}
use native.Mathlib.Omega.{arith}
use borrow.Author.Tests.{ltb-true, ltb-false, lt-ltb}
use lib.Dec.{ltb}
use lib.IntN.{ℤ}
use lib.ListN.{length}
use Rattle.words.specs.Answer.{got, stop}
use Rattle.words.proofs.AnswerLaws.{stop≢got}
use Rattle.tables.proofs.SearchLaws.{cases}
use Rattle.lister.specs.declared.Input.{Input}
use Rattle.lister.specs.Bytes.{newline, up_to, past}
use Rattle.lister.specs.Reading.{program_name, proposals_name, budget_name, Line, line_in, only_by, budget_line, budget_in, Given, given, input_of, with_program, input_in}
use Rattle.lister.specs.Grammar.{Opens, First, Second, Third, FirstUnfit}
use Rattle.lister.proofs.ByteLaws.{split, whole, past_end}
use Rattle.lister.proofs.ReadingLaws.{input-lines}
use Rattle.lister.proofs.LineGrammar.{Over, over_by, over-up-to, over-past, over-whole, over_none, line-sound, line-complete, line-over, budget-sound, budget-complete, budget-over}

-- ---- the first line of a text

opens-whole : {s t : List ℕ} → t ≡ s → Opens s t []
opens-whole e = rw e Opens.missing

pub opens : (t : List ℕ) → Opens (up_to newline t) t (past newline t)
opens t =
    cases (ltb (length (up_to newline t)) (length t))
    (λ y. let k : Opens (up_to newline t) (up_to newline t ++ 10 ∷ past newline t) (past newline t) = Opens.ended in
    rw (← split newline t (ltb-true (length (up_to newline t)) (length t) y)) at k)
    (λ y. let l : length t ≤ length (up_to newline t) = ltb-false (length (up_to newline t)) (length t) y in
    rw (past_end newline t l) (opens-whole (whole newline t l)))

pub opens_one : {s t t' : List ℕ} → Over 11 s → Opens s t t' → (up_to newline t ≡ s) × (past newline t ≡ t')
opens_one {s = s} o (Opens.ended {t = t}) = (over-up-to 11 10 (omega arith) s t o, over-past 11 10 (omega arith) s t o)
opens_one {s = s} o Opens.missing = (over-whole 11 10 (omega arith) s o, over_none 11 10 (omega arith) s o)

-- the third line, and nothing after it
budget-alone : (t : List ℕ) (w : ℤ) → budget_in t ≡ Some w → (budget_line (up_to newline t) ≡ Some w) × (past newline t ≡ [])
unfolding budget_in
budget-alone t w e = go (past newline t) e
  where
    go : (r : List ℕ) → only_by (budget_line (up_to newline t)) r ≡ Some w → (budget_line (up_to newline t) ≡ Some w) × (r ≡ [])
    go [] e = (e, refl)
    go (b ∷ r) e = absurd (let z : ◌≡◌ {A = ℕ} 0 1 = cc in omega arith)

budget-only : (t : List ℕ) {g : Option ℤ} → budget_line (up_to newline t) ≡ g → past newline t ≡ [] → budget_in t ≡ g
unfolding budget_in
budget-only t e h = rw (h, e)

-- ---- fit lines are read

module _ (t : List ℕ) where
  pub first-fit : (ps : List ℤ) → length t ≤ 65536 → line_in program_name (up_to newline t) ≡ got ps → First t ps (past newline t)
  first-fit ps h e = record { small = h; text = up_to newline t; line = line-sound program_name (up_to newline t) ps e; opens = opens t }

  pub record FirstRead (ps : List ℤ) (t' : List ℕ) : Type 0 where
    pub small : length t ≤ 65536
    pub reads : line_in program_name (up_to newline t) ≡ got ps
    pub rest : past newline t ≡ t'

  pub first_read : {ps : List ℤ} {t' : List ℕ} → First t ps t' → FirstRead ps t'
  first_read {ps = ps} f =
      let o : (up_to newline t ≡ f.text) × (past newline t ≡ _) = opens_one (line-over program_name (over_by 11 program_name refl) f.line) f.opens in
      record { small = f.small; reads = ap (λ s. line_in program_name s) o.0 ∙ line-complete program_name f.line; rest = o.1 }

  pub second-fit : (ps qs : List ℤ) → length t ≤ 65536 → line_in program_name (up_to newline t) ≡ got ps
      → line_in proposals_name (up_to newline (past newline t)) ≡ got qs → Second t ps qs (past newline (past newline t))
  second-fit ps qs h e k = record {
    rest = past newline t;
    before = first-fit ps h e;
    text = up_to newline (past newline t);
    line = line-sound proposals_name (up_to newline (past newline t)) qs k;
    opens = opens (past newline t);
  }

  pub record SecondRead (ps qs : List ℤ) (t' : List ℕ) : Type 0 where
    pub before : FirstRead ps (past newline t)
    pub reads : line_in proposals_name (up_to newline (past newline t)) ≡ got qs
    pub rest : past newline (past newline t) ≡ t'

  pub second-read : {ps qs : List ℤ} {t' : List ℕ} → Second t ps qs t' → SecondRead ps qs t'
  second-read {ps = ps} {t' = t'} f =
      let b : FirstRead ps f.rest = first_read f.before in
      let o : (up_to newline f.rest ≡ f.text) × (past newline f.rest ≡ t') = opens_one (line-over proposals_name (over_by 11 proposals_name refl) f.line) f.opens in
      record {
        before = record { small = b.small; reads = b.reads; rest = refl };
        reads = ap (λ r. line_in proposals_name (up_to newline r)) b.rest ∙ ap (λ s. line_in proposals_name s) o.0 ∙ line-complete proposals_name f.line;
        rest = ap (λ r. past newline r) b.rest ∙ o.1;
      }

  pub third-fit : (ps qs : List ℤ) (w : ℤ) → length t ≤ 65536 → line_in program_name (up_to newline t) ≡ got ps
      → line_in proposals_name (up_to newline (past newline t)) ≡ got qs → budget_in (past newline (past newline t)) ≡ Some w → Third t ps qs w
  third-fit ps qs w h e k l =
      let b = budget-alone (past newline (past newline t)) w l in
      record {
        rest = past newline (past newline t);
        before = second-fit ps qs h e k;
        text = up_to newline (past newline (past newline t));
        line = budget-sound (up_to newline (past newline (past newline t))) w b.0;
        opens = rw b.1 at (opens (past newline (past newline t)));
      }

  pub third-read : {ps qs : List ℤ} {w : ℤ} → Third t ps qs w → budget_in (past newline (past newline t)) ≡ Some w
  third-read {ps = ps} {qs = qs} {w = w} f =
      let b : SecondRead ps qs f.rest = second-read f.before in
      let o : (up_to newline f.rest ≡ f.text) × (past newline f.rest ≡ []) = opens_one (budget-over (over_by 11 budget_name refl) f.line) f.opens in
      ap budget_in b.rest ∙ budget-only f.rest (ap budget_line o.0 ∙ budget-complete f.line) o.1

-- ---- the whole input

no_number_lem : {X : Type 0} {w : ℤ} → None ≡ Some w → X
no_number_lem e = absurd (let z : ◌≡◌ {A = ℕ} 0 1 = cc in omega arith)

-- what is read: three fit lines, whose numbers are stored, and the answer counts them
pub record Takes (t : List ℕ) (g : Given) (n m : ℕ) (w : ℤ) : Type 0 where
  pub fit : Third t g.program g.proposals w
  pub program : length g.program ≡ n
  pub proposals : length g.proposals ≡ m

-- what an answer says of the input
abbrev pub Says : List ℕ → Given → Result Input ℕ → Type 0
Says t g (Ok i) = Takes t g i.program i.proposals i.budget
Says t g (Err k) = FirstUnfit t k

module _ (t : List ℕ) (small : length t ≤ 65536) where
  said : (a l : Line) (b : Option ℤ) → line_in program_name (up_to newline t) ≡ a → line_in proposals_name (up_to newline (past newline t)) ≡ l
      → budget_in (past newline (past newline t)) ≡ b → Says t (with_program a l b) (with_program a l b).answer
  said (stop ps) l b e k h = FirstUnfit.one (λ qs r f. stop≢got (sym e ∙ (first_read t f).reads))
  said (got ps) (stop qs) b e k h = FirstUnfit.two (first-fit t ps small e) (λ us vs r f. stop≢got (sym k ∙ (second-read t f).reads))
  said (got ps) (got qs) None e k h = FirstUnfit.three (second-fit t ps qs small e k) (λ us vs w f. no_number_lem (sym h ∙ third-read t f))
  said (got ps) (got qs) (Some w) e k h = record { fit = third-fit t ps qs w small e k h; program = refl; proposals = refl }

too_long_lem : (t : List ℕ) → 65536 < length t → Says t (input_in t) (input_in t).answer
unfolding input_in
too_long_lem t h = rw (lt-ltb 65536 (length t) h) (FirstUnfit.one (λ ps r f. let z : length t ≤ 65536 = f.small in omega arith))

-- sound: an input that is read is one of the grammar, with its numbers; a line that is named is the first unfit one
pub input-says : (t : List ℕ) → Says t (input_in t) (input_in t).answer
input-says t =
    cases (ltb 65536 (length t))
    (λ y. too_long_lem t (ltb-true 65536 (length t) y))
    (λ y. let l : length t ≤ 65536 = ltb-false 65536 (length t) y in
    rw (input-lines t l) at (said t l (line_in program_name (up_to newline t)) (line_in proposals_name (up_to newline (past newline t))) (budget_in (past newline (past newline t))) refl refl refl))

-- complete: an input of the grammar is read
pub input-complete : (t : List ℕ) {ps qs : List ℤ} {w : ℤ} → Third t ps qs w → input_in t ≡ given (Ok (input_of (length ps) (length qs) w)) ps qs
input-complete t {ps = ps} {qs = qs} {w = w} f =
    let b : SecondRead t ps qs f.rest = second-read t f.before in
    sym (input-lines t b.before.small) ∙ (rw (b.before.reads, b.reads, third-read t f))

-- no two lines are the first unfit one, and none is where all are fit
pub unfit-once : {t : List ℕ} {j k : ℕ} → FirstUnfit t j → FirstUnfit t k → j ≡ k
unfit-once (FirstUnfit.one f) (FirstUnfit.one g) = refl
unfit-once (FirstUnfit.one f) (FirstUnfit.two a g) = absurd (f _ _ a)
unfit-once (FirstUnfit.one f) (FirstUnfit.three a g) = absurd (f _ _ a.before)
unfit-once (FirstUnfit.two b f) (FirstUnfit.one g) = absurd (g _ _ b)
unfit-once (FirstUnfit.two b f) (FirstUnfit.two a g) = refl
unfit-once (FirstUnfit.two b f) (FirstUnfit.three a g) = absurd (f _ _ _ a)
unfit-once (FirstUnfit.three b f) (FirstUnfit.one g) = absurd (g _ _ b.before)
unfit-once (FirstUnfit.three b f) (FirstUnfit.two a g) = absurd (g _ _ _ b)
unfit-once (FirstUnfit.three b f) (FirstUnfit.three a g) = refl

unfit-fit : {t : List ℕ} {k : ℕ} {ps qs : List ℤ} {w : ℤ} → FirstUnfit t k → Third t ps qs w → ⊥
unfit-fit (FirstUnfit.one f) h = f _ _ h.before.before
unfit-fit (FirstUnfit.two a f) h = f _ _ _ h.before
unfit-fit (FirstUnfit.three a f) h = f _ _ _ h

-- complete: the first unfit line is named
pub unfit-complete : (t : List ℕ) {k : ℕ} → FirstUnfit t k → (input_in t).answer ≡ Err k
unfit-complete t {k = k} f = go (input_in t).answer (input-says t)
  where
    go : (a : Result Input ℕ) → Says t (input_in t) a → a ≡ Err k
    go (Ok i) s = absurd (unfit-fit f s.fit)
    go (Err j) s = ap Err (unfit-once s f)
