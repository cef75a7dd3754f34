-- Kept identities as ties in a row, and marks that grow with them. Assumes nothing: these are definitions.
use Rattle.std.specs.Prelude.{ℕ, zero, suc, ◌+◌, ◌-◌, ◌≤◌, ◌<◌, ◌≡◌, Bool, true, false, not, cond, ◌&&◌, ◌||◌, List, eqb, ℤ, length, drop, Result, Ok, Err}
use Rattle.words.specs.Answer.{got, stop}
use Rattle.words.specs.Bits.{marked, with_mark}
use Rattle.tables.specs.declared.Sort.TheVariants.{Identities}
use Rattle.tables.specs.Sizes.{locations}
use Rattle.tables.specs.Cells.{Cells}
use Rattle.tables.specs.Kept.{position_at}
use Rattle.program.specs.declared.Refusal.{Refusal}
use Rattle.rules.specs.State.{Res}
use Rattle.rules.specs.Identities.{Tie, tie_at}
use Rattle.phases.specs.declared.Ends.{Ends}
use Rattle.phases.specs.declared.Grown.{Grown}
use Rattle.phases.specs.declared.Passed.{Passed}

-- ---- ties

-- kept identity number k, from its first side on, and followed in the tables
abbrev pub identity_at : List ℤ → List ℤ → ℕ → List ℤ
identity_at program kept k = drop 1 (drop (position_at kept Identities k) program)

abbrev pub tie_no : List ℤ → List ℤ → Cells → ℕ → Res Tie
tie_no program kept S k = tie_at S (identity_at program kept k)

-- its two cells
abbrev pub tied_of : Res Tie → Result Ends Refusal
tied_of (got t) = Ok (record { one = t.one; two = t.two })
tied_of (stop f) = Err f

-- the i-th of n, from the first on or back from the last
abbrev pub turn_of : ℕ → ℕ → Bool → ℕ
turn_of n i back = cond back (n - i - 1) i

-- ---- marks and ties

-- how many of n numbers, from i on, pass
unfoldable pub how_many : (ℕ → Bool) → ℕ → ℕ → ℕ
how_many f i zero = 0
how_many f i (suc n) = cond (f i) 1 0 + how_many f (suc i) n

-- how many cells are marked
abbrev pub size : List ℕ → ℕ
size class = how_many (marked class) 0 locations

-- a tie whose two ends are marked, and one that names the target
abbrev pub joins : List ℕ → Res Tie → Bool
joins class (got t) = marked class t.one && marked class t.two
joins class (stop f) = false

abbrev pub named_by : ℕ → Res Tie → Bool
named_by target (got t) = eqb t.one target || eqb t.two target
named_by target (stop f) = false

-- both ends of a tie that has one end marked are marked
pub record GrowsTie (one two : ℕ) (class class' : List ℕ) (r : Grown) : Type 0 where
  pub same : r.new ≡ false → (class' ≡ class) × (marked class one ≡ marked class two)
  pub grows : r.new ≡ true → (class' ≡ with_mark (with_mark class one) two) × (marked class one ≡ not (marked class two))
  pub apart : r.apart ≡ (not (marked class one) && not (marked class two))

module _ (T : ℕ → Res Tie) (n : ℕ) where
  -- each of n ties leads somewhere
  abbrev pub Found : Type 0
  Found = (k : ℕ) → k < n → (t : Tie) × (T k ≡ got t)

  -- both ends of each pass, or neither
  abbrev pub Even : (ℕ → Bool) → Type 0
  Even f = (k : ℕ) → k < n → (t : Tie) → T k ≡ got t → f t.one ≡ f t.two

  abbrev pub joined : List ℕ → ℕ
  joined class = how_many (λ k. joins class (T k)) 0 n

  -- the marks grow, by ties alone; with each mark one tie more has both ends marked
  pub record Grows (class class' : List ℕ) : Type 0 where
    pub long : length class' ≡ length class
    pub keeps : (l : ℕ) → marked class l ≡ true → marked class' l ≡ true
    pub within : (f : ℕ → Bool) → Even f → ((l : ℕ) → marked class l ≡ true → f l ≡ true) → (l : ℕ) → marked class' l ≡ true → f l ≡ true
    pub few : size class' + joined class ≤ size class + joined class'
    pub most : joined class ≤ joined class'

  -- one walk over all ties
  pub record Walked (target : ℕ) (class class' : List ℕ) (names again : Bool) : Type 0 where
    pub found : Found
    pub grows : Grows class class'
    pub closed : again ≡ false → Even (marked class')
    pub more : again ≡ true → joined class < joined class'
    pub named : names ≡ true → (k : ℕ) × ((k < n) × (named_by target (T k) ≡ true))
    pub unnamed : names ≡ false → (k : ℕ) → k < n → named_by target (T k) ≡ false

  -- tie number k leads nowhere; those before it do, where they are walked in their order
  pub record Strays (back : Bool) (f : Refusal) : Type 0 where
    pub at : ℕ
    pub inside : at < n
    pub is : T at ≡ stop f
    pub first : back ≡ false → (k : ℕ) → k < at → (t : Tie) × (T k ≡ got t)

  pub record Passes (back : Bool) (target : ℕ) (class class' : List ℕ) (r : Result Passed Refusal) : Type 0 where
    pub lost : (f : Refusal) → r ≡ Err f → Strays back f
    pub over : (x : Passed) → r ≡ Ok x → Walked target class class' x.names x.again

  -- walks until no mark is new
  pub record PassesOn (again : Bool) (class class' : List ℕ) : Type 0 where
    pub grows : Grows class class'
    pub closed : (again ≡ false → Even (marked class)) → Even (marked class')
