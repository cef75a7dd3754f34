-- The definition reads exactly the lines of the grammar, each as its numbers. Assumes nothing.
use Rattle.std.specs.Prelude.{None, Option, Some, ℤ}
use mathlib.Core.Path.{◌≡◌, refl, sym, ap, ◌∙◌}
use mathlib.Core.Bool.{Bool, true, false, ◌&&◌}
use mathlib.Core.List.{List, [], ◌∷◌, ◌++◌}
use Prim.Native.Nat.{ℕ, zero, suc, ◌≤◌, ◌<◌}
use native.Mathlib.Omega.{arith}
use borrow.Author.Tests.{ltb-true, ltb-false, leb-true, eqb-true, eq-eqb}
use lib.Dec.{ltb, leb, eqb}
use lib.IntN.{ℤ}
use lib.ListN.{length, drop}
use lib.Seq.{drop-append_seam}
use Rattle.words.specs.Answer.{got, stop}
use Rattle.words.proofs.AnswerLaws.{got-inj, stop≢got}
use Rattle.tables.proofs.SearchLaws.{cases}
use Rattle.lister.specs.Bytes.{space, up_to, past, on_first, pieces, begins}
use Rattle.lister.specs.Numerals.{numeral_in}
use Rattle.lister.specs.Reading.{budget_name, Line, ahead, ahead_of, numbers_in, row_in, list_in, line_in, budget_line}
use Rattle.lister.specs.Grammar.{Digits, Numeral, Row, Numbers, ListLine, BudgetLine}
use Rattle.lister.proofs.ByteLaws.{up-to-here, up-to-on, up-to-none, past-here, past-on, past-none, pieces-here, pieces-on, pieces_none, pieces_more, pieces-last, split, whole, begins-none, begins-more, begins-short}
use Rattle.lister.proofs.NumeralGrammar.{numeral-sound, numeral-complete}

-- ---- texts that hold no byte below k

abbrev pub Over : ℕ → List ℕ → Type 0
Over k [] = Unit {0}
Over k (b ∷ s) = (k ≤ b) × Over k s

abbrev pub all_over : ℕ → List ℕ → Bool
all_over k [] = true
all_over k (b ∷ s) = leb k b && all_over k s

pub over_by : (k : ℕ) (s : List ℕ) → all_over k s ≡ true → Over k s
over_by k [] e = tt
over_by k (b ∷ s) e =
    cases (leb k b) (λ y. (leb-true k b y, over_by k s (rw y at e)))
    (λ y. absurd (let f : false ≡ true = rw y at e in let z : ◌≡◌ {A = ℕ} 0 1 = cc in omega arith))

pub over-both : (k : ℕ) (s t : List ℕ) → Over k s → Over k t → Over k (s ++ t)
over-both k [] t h l = l
over-both k (b ∷ s) t h l = (h.0, over-both k s t h.1 l)

pub over-less : (k l : ℕ) (s : List ℕ) → l ≤ k → Over k s → Over l s
over-less k l [] h o = tt
over-less k l (b ∷ s) h o = let z : k ≤ b = o.0 in (omega arith, over-less k l s h o.1)

digits-over : {s : List ℕ} {n : ℕ} → Digits s n → Over 45 s
digits-over (Digits.first a b) = (omega arith, tt)
digits-over (Digits.next {s = s} k b) = over-both 45 s _ (digits-over k) (omega arith, tt)

pub numeral-over : {s : List ℕ} {w : ℤ} → Numeral s w → Over 45 s
numeral-over Numeral.nought = (omega arith, tt)
numeral-over (Numeral.positive d h) = digits-over d
numeral-over (Numeral.negative d h) = (omega arith, digits-over d)

module _ (k b : ℕ) (low : b < k) where
  pub over-up-to : (s t : List ℕ) → Over k s → up_to b (s ++ b ∷ t) ≡ s
  over-up-to [] t o = up-to-here b b t refl
  over-up-to (x ∷ s) t o = let z : k ≤ x = o.0 in up-to-on b x (s ++ b ∷ t) (λ e. omega arith) ∙ ap (λ r. x ∷ r) (over-up-to s t o.1)

  pub over-past : (s t : List ℕ) → Over k s → past b (s ++ b ∷ t) ≡ t
  over-past [] t o = past-here b b t refl
  over-past (x ∷ s) t o = let z : k ≤ x = o.0 in past-on b x (s ++ b ∷ t) (λ e. omega arith) ∙ over-past s t o.1

  pub over-whole : (s : List ℕ) → Over k s → up_to b s ≡ s
  over-whole [] o = up-to-none b
  over-whole (x ∷ s) o = let z : k ≤ x = o.0 in up-to-on b x s (λ e. omega arith) ∙ ap (λ r. x ∷ r) (over-whole s o.1)

  pub over_none : (s : List ℕ) → Over k s → past b s ≡ []
  over_none [] o = past-none b
  over_none (x ∷ s) o = let z : k ≤ x = o.0 in past-on b x s (λ e. omega arith) ∙ over_none s o.1

  pub over-pieces : (s t : List ℕ) → Over k s → pieces b (s ++ b ∷ t) ≡ s ∷ pieces b t
  over-pieces [] t o = pieces-here b b t refl
  over-pieces (x ∷ s) t o = let z : k ≤ x = o.0 in pieces-on b x (s ++ b ∷ t) (λ e. omega arith) ∙ ap (λ r. on_first x r) (over-pieces s t o.1)

  pub over-piece : (s : List ℕ) → Over k s → pieces b s ≡ s ∷ []
  over-piece [] o = pieces_none b
  over-piece (x ∷ s) o = let z : k ≤ x = o.0 in pieces-on b x s (λ e. omega arith) ∙ ap (λ r. on_first x r) (over-piece s o.1)

-- ---- a row

-- a number before others that answered
by-ahead : {X : Type 0} (g : Option ℤ) (a : Line) (ws : List ℤ) → ahead_of g a ≡ got ws → ((w : ℤ) (vs : List ℤ) → g ≡ Some w → a ≡ got vs → ws ≡ w ∷ vs → X) → X
by-ahead (Some w) (got vs) ws e k = k w vs refl refl (sym (got-inj e))
by-ahead (Some w) (stop vs) ws e k = stop≢got e
by-ahead None a ws e k = stop≢got e

pub row-sound : (n : ℕ) (s : List ℕ) (ws : List ℤ) → numbers_in n (pieces space s) ≡ got ws → Row s ws × (length ws ≤ n)
unfolding numbers_in
row-sound zero s ws e =
    cases (ltb (length (up_to space s)) (length s))
    (λ y. stop≢got (rw (pieces_more space s (ltb-true (length (up_to space s)) (length s) y)) at e))
    (λ y. stop≢got (rw (pieces-last space s (ltb-false (length (up_to space s)) (length s) y)) at e))
row-sound (suc n) s ws e =
    cases (ltb (length (up_to space s)) (length s))
    (λ y. let l : length (up_to space s) < length s = ltb-true (length (up_to space s)) (length s) y in
    by-ahead (numeral_in (up_to space s)) (numbers_in n (pieces space (past space s))) ws (rw (pieces_more space s l) at e) λ w vs g a is.
    let r : Row (past space s) vs × (length vs ≤ n) = row-sound n (past space s) vs a in
    let t : Row (up_to space s ++ 32 ∷ past space s) (w ∷ vs) = Row.more (numeral-sound (up_to space s) w g) r.0 in
    rw is ((rw (← split space s l) at t), omega (arith, r.1)))
    (λ y. let l : length s ≤ length (up_to space s) = ltb-false (length (up_to space s)) (length s) y in
    by-ahead (numeral_in (up_to space s)) (numbers_in n []) ws (rw (pieces-last space s l) at e) λ w vs g a is.
    let v : vs ≡ [] = last n vs a in
    let t : Row (up_to space s) (w ∷ []) = Row.last (numeral-sound (up_to space s) w g) in
    rw (is, v) ((rw (← whole space s l) at t), omega arith))
  where
    last : (n : ℕ) (vs : List ℤ) → numbers_in n [] ≡ got vs → vs ≡ []
    last zero vs e = sym (got-inj e)
    last (suc n) vs e = sym (got-inj e)

pub row-complete : (n : ℕ) {s : List ℕ} {ws : List ℤ} → Row s ws → length ws ≤ n → numbers_in n (pieces space s) ≡ got ws
unfolding numbers_in
row-complete zero (Row.last d) h = absurd (omega arith)
row-complete zero (Row.more d r) h = absurd (omega arith)
row-complete (suc n) (Row.last {s = s} {w = w} d) h = rw (over-piece 45 32 (omega arith) s (numeral-over d), numeral-complete d) (none n)
  where
    none : (n : ℕ) → ahead (w ∷ []) (numbers_in n []) ≡ got (w ∷ [])
    none zero = refl
    none (suc n) = refl
row-complete (suc n) (Row.more {s = s} {t = t} {w = w} d r) h =
    rw (over-pieces 45 32 (omega arith) s t (numeral-over d), numeral-complete d, row-complete n r (omega arith))

-- ---- a list, and a line

pub list-sound : (s : List ℕ) (ws : List ℤ) → list_in s ≡ got ws → Numbers s ws × (length ws ≤ 4096)
unfolding list_in row_in
list-sound [] ws e = rw (← got-inj e) (Numbers.none, omega arith)
list-sound (b ∷ s) ws e = let r : Row (b ∷ s) ws × (length ws ≤ 4096) = row-sound 4096 (b ∷ s) ws e in (Numbers.some r.0, r.1)

pub list-complete : {s : List ℕ} {ws : List ℤ} → Numbers s ws → length ws ≤ 4096 → list_in s ≡ got ws
unfolding list_in row_in numbers_in numeral_in
list-complete Numbers.none h = refl
list-complete (Numbers.some {s = s} {ws = ws} r) h = go s (row-complete 4096 r h)
  where
    go : (s : List ℕ) → numbers_in 4096 (pieces space s) ≡ got ws → list_in s ≡ got ws
    go [] e = stop≢got (rw (pieces_none space) at e)
    go (b ∷ s) e = e

pub begins-sound : (name s : List ℕ) → begins name s ≡ true → s ≡ name ++ drop (length name) s
begins-sound [] s e = refl
begins-sound (x ∷ name) [] e = absurd (let z : ◌≡◌ {A = ℕ} 0 1 = cc (begins-short x name) in omega arith)
begins-sound (x ∷ name) (y ∷ s) e =
    cases (eqb y x)
    (λ t. let k : begins name s ≡ true = rw (begins-more x y name s, t) at e in
    rw (eqb-true y x t) (ap (λ r. x ∷ r) (begins-sound name s k)))
    (λ t. absurd (let k : false ≡ true = rw (begins-more x y name s, t) at e in let z : ◌≡◌ {A = ℕ} 0 1 = cc in omega arith))

pub begins-complete : (name s : List ℕ) → begins name (name ++ s) ≡ true
begins-complete [] s = begins-none s
begins-complete (x ∷ name) s = rw (begins-more x x name (name ++ s), eq-eqb x x refl) (begins-complete name s)

pub line-sound : (name s : List ℕ) (ws : List ℤ) → line_in name s ≡ got ws → ListLine name s ws
unfolding line_in
line-sound name s ws e =
    cases (begins name s)
    (λ t. let l : Numbers (drop (length name) s) ws × (length ws ≤ 4096) = list-sound (drop (length name) s) ws (rw t at e) in
    let k : ListLine name (name ++ drop (length name) s) ws = ListLine.line l.0 l.1 in
    rw (← begins-sound name s t) at k)
    (λ t. stop≢got (rw t at e))

pub line-complete : (name : List ℕ) {s : List ℕ} {ws : List ℤ} → ListLine name s ws → line_in name s ≡ got ws
unfolding line_in
line-complete name (ListLine.line {s = s} n h) = rw (begins-complete name s, drop-append_seam name s) (list-complete n h)

-- ---- the third line

pub budget-sound : (s : List ℕ) (w : ℤ) → budget_line s ≡ Some w → BudgetLine s w
unfolding budget_line
budget-sound s w e =
    cases (begins budget_name s)
    (λ t. let k : BudgetLine (budget_name ++ drop 7 s) w = BudgetLine.line (numeral-sound (drop 7 s) w (rw t at e)) in
    rw (← begins-sound budget_name s t) at k)
    (λ t. absurd (let k : None ≡ Some w = rw t at e in let z : ◌≡◌ {A = ℕ} 0 1 = cc in omega arith))

pub budget-complete : {s : List ℕ} {w : ℤ} → BudgetLine s w → budget_line s ≡ Some w
unfolding budget_line
budget-complete (BudgetLine.line {s = s} n) = rw (begins-complete budget_name s, drop-append_seam budget_name s) (numeral-complete n)

-- ---- no line holds a newline

row-over : {s : List ℕ} {ws : List ℤ} → Row s ws → Over 11 s
row-over (Row.last {s = s} d) = over-less 45 11 s (omega arith) (numeral-over d)
row-over (Row.more {s = s} {t = t} d r) = over-both 11 s (32 ∷ t) (over-less 45 11 s (omega arith) (numeral-over d)) (omega arith, row-over r)

numbers-over : {s : List ℕ} {ws : List ℤ} → Numbers s ws → Over 11 s
numbers-over Numbers.none = tt
numbers-over (Numbers.some r) = row-over r

pub line-over : (name : List ℕ) {s : List ℕ} {ws : List ℤ} → Over 11 name → ListLine name s ws → Over 11 s
line-over name o (ListLine.line {s = s} n h) = over-both 11 name s o (numbers-over n)

pub budget-over : {s : List ℕ} {w : ℤ} → Over 11 budget_name → BudgetLine s w → Over 11 s
budget-over o (BudgetLine.line {s = s} n) = over-both 11 budget_name s o (over-less 45 11 s (omega arith) (numeral-over n))
