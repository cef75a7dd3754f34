-- Kept identities, followed one by one, are the rules' ties. Assumes nothing.
use Rattle.std.specs.Prelude.{Result, Ok, Err}
use mathlib.Core.Path.{◌≡◌, refl, sym, ap, ap₂, subst, ◌∙◌}
use mathlib.Core.Bool.{Bool, true, ◌&&◌}
use mathlib.Core.List.Memᴰ
use mathlib.Core.List.{List, [], ◌∷◌, ◌++◌, Memᴰ as OneOf}
use Prim.Native.Nat.{ℕ, zero, suc, ◌+◌, ◌≤◌, ◌<◌}
use native.Mathlib.Omega.{arith}
use native.Mathlib.Decide.{ℕ_discrete}
use lib.IntN.{ℤ}
use lib.ListN.{length, drop}
use lib.Seq.{drop-drop}
use Rattle.words.specs.Words.{last_of}
use Rattle.words.specs.Answer.{got, stop, ◌>>=◌}
use Rattle.words.proofs.AnswerLaws.{either}
use Rattle.tables.specs.declared.Sort.TheVariants.{Identities}
use Rattle.tables.specs.Cells.{Cells}
use Rattle.tables.specs.Sizes.{locations}
use Rattle.tables.specs.Kept.{kept_count, position_at}
use Rattle.program.specs.declared.Refusal.{Refusal}
use Rattle.rules.specs.State.{Res, listed}
use Rattle.rules.specs.Paths.{Way, way_at}
use Rattle.rules.specs.Identities.{Tie, tie_at, ties_of, ties, frozen_by}
use Rattle.rules.proofs.ConstraintClauses.{positions-are, listed-none, listed_more}
use Rattle.rules.proofs.EvaluateClauses.{way-part}
use Rattle.rules.proofs.WayLaws.{way-below, one-of-cons}
use Rattle.rules.proofs.IdentityClauses.{tie-is, ties-none, ties-more, ties-are, frozen-none, frozen-more}
use Rattle.expressions.specs.declared.Named.{Named}
use Rattle.expressions.specs.Told.{named_of}
use Rattle.phases.specs.declared.Ends.{Ends}
use Rattle.phases.specs.Tying.{tie_no, tied_of, Found}

-- ---- an L

pub named-lost : (m : Res Way) {f : Refusal} → Err f ≡ named_of m → m ≡ stop f
named-lost (got w) e = cc
named-lost (stop g) e = cc

pub record NamedAt (m : Res Way) (n : Named) : Type 0 where
  pub way : Way
  pub is : m ≡ got way
  pub cell : n.cell ≡ way.cell
  pub rest : n.left ≡ length way.rest

pub named-at : (m : Res Way) {n : Named} → Ok n ≡ named_of m → NamedAt m n
named-at (got w) {n = n} e = let z : n ≡ record { cell = w.cell; left = length w.rest } = cc in record { way = w; is = refl; cell = rw z; rest = rw z }
named-at (stop f) e = cc

-- ---- an identity: one side, and then the other

abbrev pub ends : ℕ → ℕ → Result Ends Refusal
ends one two = Ok (record { one = one; two = two })

module _ (S : Cells) (p : List ℤ) {r : Result Named Refusal} (first : r ≡ named_of (way_at S p)) where
  pub tie-lost : {f : Refusal} → r ≡ Err f → Err f ≡ tied_of (tie_at S p)
  tie-lost e = rw (tie-is S p, named-lost (way_at S p) (sym e ∙ first))

  module _ {one : Named} (e : r ≡ Ok one) {q : List ℤ} {r' : Result Named Refusal} (part : q ≡ last_of one.left p) (second : r' ≡ named_of (way_at S q)) where
    side : NamedAt (way_at S p) one
    side = named-at (way_at S p) (sym e ∙ first)

    other : q ≡ side.way.rest
    other = part ∙ ap (λ x. last_of x p) side.rest ∙ (way-part S p side.way side.is).is

    pub tie-second-lost : {f : Refusal} → r' ≡ Err f → Err f ≡ tied_of (tie_at S p)
    tie-second-lost h = rw (tie-is S p, side.is, ← other, named-lost (way_at S q) (sym h ∙ second))

    pub tie-found : {two : Named} → r' ≡ Ok two → ends one.cell two.cell ≡ tied_of (tie_at S p)
    tie-found h =
        let w = named-at (way_at S q) (sym h ∙ second) in
        rw (tie-is S p, side.is, ← other, w.is) (ap₂ ends side.cell w.cell)

-- what a tie is made of
pub record Sides (S : Cells) (p : List ℤ) (t : Tie) : Type 0 where
  pub one : Way
  pub is_one : way_at S p ≡ got one
  pub two : Way
  pub is-two : way_at S one.rest ≡ got two
  pub made : t ≡ record { one = one.cell; two = two.cell; prefix = one.prefix ++ two.prefix }

pub tie-sides : (S : Cells) (p : List ℤ) (t : Tie) → tie_at S p ≡ got t → Sides S p t
tie-sides S p t e = either (way_at S p)
    (λ a f. either (way_at S a.rest)
    (λ b g. record { one = a; is_one = f; two = b; is-two = g; made = let z : got (record { one = a.cell; two = b.cell; prefix = a.prefix ++ b.prefix }) ≡ got t = sym (rw (f, g) at (tie-is S p)) ∙ e in sym (cc) })
    (λ h g. let z : stop h ≡ got t = sym (rw (f, g) at (tie-is S p)) ∙ e in cc))
    (λ h f. let z : stop h ≡ got t = sym (rw f at (tie-is S p)) ∙ e in cc)

pub tie-low : (S : Cells) (p : List ℤ) (t : Tie) → tie_at S p ≡ got t → (t.one < locations) × (t.two < locations)
tie-low S p t e =
    let s = tie-sides S p t e in
    rw s.made (way-below S p s.one s.is_one, way-below S s.one.rest s.two s.is-two)

-- ---- n ties, from number i on

module _ (program kept : List ℤ) (S : Cells) where
  abbrev T : ℕ → Res Tie
  T = tie_no program kept S

  abbrev row : ℕ → ℕ → Res (List Tie)
  row i n = ties_of program S (listed (position_at kept Identities) i n)

  row-none : (i : ℕ) → row i 0 ≡ got []
  row-none i = rw (listed-none (position_at kept Identities) i) (ties-none program S)

  row_more : (i n : ℕ) → row i (suc n) ≡ (T i >>= λ t. row (suc i) n >>= λ ts. got (t ∷ ts))
  row_more i n =
      let d : drop 1 (drop (position_at kept Identities i) program) ≡ drop (position_at kept Identities i + 1) program = drop-drop 1 (position_at kept Identities i) program in
      rw (listed_more (position_at kept Identities) i n, d) (ties-more program S (position_at kept Identities i) (listed (position_at kept Identities) (suc i) n))

  pub ties-row : ties program kept S ≡ row 0 (kept_count kept Identities)
  ties-row = ties-are program S kept ∙ rw (positions-are kept Identities)

  row-found : (i n : ℕ) → ((k : ℕ) → i ≤ k → k < i + n → (t : Tie) × (T k ≡ got t)) → (ts : List Tie) × (row i n ≡ got ts)
  row-found i zero h = ([], row-none i)
  row-found i (suc n) h =
      let t = h i (omega arith) (omega arith) in
      let ts = row-found (suc i) n (λ k a b. h k (omega arith) (omega arith)) in
      (t.0 ∷ ts.0, row_more i n ∙ rw (t.1, ts.1))

  row-lost : (f : Refusal) (at : ℕ) → T at ≡ stop f → (i n : ℕ) → i ≤ at → at < i + n → ((k : ℕ) → i ≤ k → k < at → (t : Tie) × (T k ≡ got t)) → row i n ≡ stop f
  row-lost f at e i zero a b h = let z : ⊥ = omega arith in absurd z
  row-lost f at e i (suc n) a b h = go (ℕ_discrete at i) (λ m. row-lost f at e (suc i) n m (omega arith) (λ k x y. h k (omega arith) y))
    where
      go : Dec (at ≡ i) → (suc i ≤ at → row (suc i) n ≡ stop f) → row i (suc n) ≡ stop f
      go (yes q) r = row_more i n ∙ rw (rw q at e)
      go (no q) r = let t = h i (omega arith) (omega arith) in row_more i n ∙ rw (t.1, r (omega arith))

  -- a row that is found, by its first tie and the others
  record Row (i n : ℕ) (ts : List Tie) : Type 0 where
    first : Tie
    is : T i ≡ got first
    others : List Tie
    are : row (suc i) n ≡ got others
    all : ts ≡ first ∷ others

  row_first : (i n : ℕ) (ts : List Tie) → row i (suc n) ≡ got ts → Row i n ts
  row_first i n ts e = either (T i)
      (λ t f. either (row (suc i) n)
      (λ us g. record { first = t; is = f; others = us; are = g; all = let z : got (t ∷ us) ≡ got ts = sym (rw (f, g) at (row_more i n)) ∙ e in sym (cc) })
      (λ h g. let z : stop h ≡ got ts = sym (rw (f, g) at (row_more i n)) ∙ e in cc))
      (λ h f. let z : stop h ≡ got ts = sym (rw f at (row_more i n)) ∙ e in cc)

  row_has : (i n : ℕ) (ts : List Tie) → row i n ≡ got ts → (k : ℕ) → i ≤ k → k < i + n → (t : Tie) → T k ≡ got t → OneOf t ts
  row_has i zero ts e k a b t f = let z : ⊥ = omega arith in absurd z
  row_has i (suc n) ts e k a b t f =
      let w = row_first i n ts e in
      go w (ℕ_discrete k i) (λ m. row_has (suc i) n w.others w.are k m (omega arith) t f)
    where
      go : (w : Row i n ts) → Dec (k ≡ i) → (suc i ≤ k → OneOf t w.others) → OneOf t ts
      go w (yes q) r = let z : got w.first ≡ got t = sym w.is ∙ (rw q at f) in let y : t ≡ w.first = cc in subst (λ us. OneOf t us) (sym w.all) (OneOf.head y)
      go w (no q) r = subst (λ us. OneOf t us) (sym w.all) (OneOf.tail (r (omega arith)))

  row_number : (i n : ℕ) (ts : List Tie) → row i n ≡ got ts → (t : Tie) → OneOf t ts → (k : ℕ) × ((i ≤ k) × ((k < i + n) × (T k ≡ got t)))
  row_number i zero ts e t m = let z : got [] ≡ got ts = sym (row-none i) ∙ e in let y : ts ≡ [] = cc in absurd (Memᴰ.not-nil (rw y at m))
  row_number i (suc n) ts e t m =
      let w = row_first i n ts e in
      one-of-cons t w.first w.others (rw w.all at m)
      (λ q. (i, (omega arith, (omega arith, rw q w.is))))
      (λ o. let r = row_number (suc i) n w.others w.are t o in (r.0, (omega (arith, r.1.0), (omega (arith, r.1.1.0), r.1.1.1))))

  abbrev n : ℕ
  n = kept_count kept Identities

  pub ties-found : Found T n → (ts : List Tie) × (ties program kept S ≡ got ts)
  ties-found h = let w = row-found 0 n (λ k a b. h k (omega arith)) in (w.0, ties-row ∙ w.1)

  pub ties-lost : (f : Refusal) (at : ℕ) → at < n → T at ≡ stop f → ((k : ℕ) → k < at → (t : Tie) × (T k ≡ got t)) → ties program kept S ≡ stop f
  ties-lost f at b e h = ties-row ∙ row-lost f at e 0 n (omega arith) (omega arith) (λ k x y. h k y)

  module _ (ts : List Tie) (e : ties program kept S ≡ got ts) where
    pub ties-have : (k : ℕ) → k < n → (t : Tie) → T k ≡ got t → OneOf t ts
    ties-have k b = row_has 0 n ts (sym ties-row ∙ e) k (omega arith) (omega arith)

    pub ties-number : (t : Tie) → OneOf t ts → (k : ℕ) × ((k < n) × (T k ≡ got t))
    ties-number t m = let w = row_number 0 n ts (sym ties-row ∙ e) t m in (w.0, (omega (arith, w.1.1.0), w.1.1.1))

  -- what n ties freeze, in their order
  pub row-frozen : (P : ℕ → ℕ → Bool) (F : List ℕ → Bool) → ((i : ℕ) → P i 0 ≡ true) → F [] ≡ true → ((a b : List ℕ) → F (a ++ b) ≡ (F a && F b))
      → ((i m : ℕ) (t : Tie) → T i ≡ got t → P i (suc m) ≡ (F t.prefix && P (suc i) m))
      → (i m : ℕ) (ts : List Tie) → row i m ≡ got ts → P i m ≡ F (frozen_by ts)
  row-frozen P F p f both more i zero ts e = let z : got [] ≡ got ts = sym (row-none i) ∙ e in let y : ts ≡ [] = cc in rw (y, frozen-none, p i, f)
  row-frozen P F p f both more i (suc m) ts e =
      let w = row_first i m ts e in
      more i m w.first w.is ∙ ap (λ b. F w.first.prefix && b) (row-frozen P F p f both more (suc i) m w.others w.are)
      ∙ sym (both w.first.prefix (frozen_by w.others)) ∙ ap F (sym (frozen-more w.first w.others) ∙ ap frozen_by (sym w.all))
