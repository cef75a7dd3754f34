-- What the readers' code comes to, step by step. Assumes nothing.
use mathlib.Core.Path.{◌≡◌, refl, sym, ap, ◌∙◌}
use mathlib.Core.Bool.{Bool, true, false, not}
use Rattle.std.specs.Prelude.{Result, Ok, Err, is_ok}
use mathlib.Core.List.{List}
use Prim.Native.Nat.{ℕ, zero, suc, ◌+◌, ◌-◌, ◌≤◌, ◌<◌}
use native.Mathlib.Omega.{arith}
use native.Mathlib.Numerals.{sub-one}
use native.Mathlib.Decide.{dec_lt}
use lib.IntN.{ℤ}
use lib.ListN.{length, drop, length-drop}
use lib.Seq.{drop-drop}
use Rattle.words.specs.Words.{number_at, last_of}
use Rattle.words.specs.Answer.{got, stop, ◌>>=◌, ◌>>◌, want}
use Rattle.words.proofs.Laws.{number-drop}
use Rattle.program.specs.Forms.{form_of}
use Rattle.program.specs.declared.Form.TheVariants.{Unknown as no_form}
use Rattle.program.specs.Told.{told, words_left}
use Rattle.program.specs.Reading.{Reading, any_word, read_labels, read_path, read_paths, read_form, read_expression, read_part, read_parts, read_constraint, after}
use Rattle.program.proofs.NumberLaws.{number_fits_lem, number-low, number-high, any-fits, any-short, form-low, form-high}
use Rattle.program.proofs.LengthLaws.{Part}

-- ---- a piece and what follows it

-- a piece that does not read ends the whole
pub halted : {k : ℕ} (m : Reading (List ℤ)) (f : List ℤ → Reading (List ℤ)) → Err k ≡ told m → Err k ≡ told (m >>= f)
halted (got q) f e = let z : ◌≡◌ {A = Bool} false true = ap is_ok e in cc
halted (stop q) f e = e

-- a piece that reads leaves the part that the number of words left tells
pub onward : {k : ℕ} {p q : List ℤ} (m : Reading (List ℤ)) → Part p (after m) → Ok k ≡ told m → q ≡ last_of k p → m ≡ got q
unfolding after
onward {k} (got t) w e l =
    let n : k ≡ length t = ap words_left e in
    ap got (sym (l ∙ rw n w.is))
onward (stop t) w e l = let z : ◌≡◌ {A = Bool} true false = ap is_ok e in cc

pub told-left : {r : Result ℕ ℕ} (m : Reading (List ℤ)) → r ≡ told m → words_left r ≡ length (after m)
unfolding after
told-left (got q) e = ap words_left e
told-left (stop q) e = ap words_left e

-- ---- any word

pub word-short : (p : List ℤ) → length p ≡ 0 → told (stop p) ≡ told (any_word p)
word-short p h = ap told (sym (any-short p (omega arith)))

pub word-there : (p : List ℤ) → (length p ≡ 0 → ⊥) → Ok (length p - 1) ≡ told (any_word p)
word-there p h = rw (any-fits p (omega (arith, h)), length-drop 1 p)

-- ---- labels, of which i are read

module _ (n i : ℕ) (p : List ℤ) where
  pub labels-miss : i < n → 31 < number_at p i → read_labels (n - i) (drop i p) ≡ stop (drop i p)
  unfolding read_labels
  labels-miss h l =
      let e : n - i ≡ suc (n - (i + 1)) = omega arith in
      let z : i + 0 ≡ i = omega arith in
      let k : number_at (drop i p) 0 ≡ number_at p i = number-drop p i 0 ∙ rw z in
      rw (e, number-high 0 31 (drop i p) (omega arith) (rw k l))

  pub labels_next : i < n → number_at p i ≤ 31 → read_labels (n - i) (drop i p) ≡ read_labels (n - (i + 1)) (drop (i + 1) p)
  unfolding read_labels
  labels_next h l =
      let e : n - i ≡ suc (n - (i + 1)) = omega arith in
      let z : i + 0 ≡ i = omega arith in
      let k : number_at (drop i p) 0 ≡ number_at p i = number-drop p i 0 ∙ rw z in
      rw (e, number_fits_lem 0 31 (drop i p) (omega arith) (rw k l), drop-drop 1 i p)

  pub labels-end : n ≤ i → read_labels (n - i) (drop i p) ≡ got (drop i p)
  unfolding read_labels
  labels-end h = let e : n - i ≡ 0 = omega arith in rw e

pub record Labelling (n : ℕ) (p : List ℤ) (i : ℕ) : Type 0 where
  pub inside : i ≤ n
  pub rest : read_labels (n - i) (drop i p) ≡ read_labels n p

pub labelling-starts : {n : ℕ} {p : List ℤ} → Labelling n p 0
labelling-starts {n = n} {p = p} = let e : n - 0 ≡ n = omega arith in record { inside = omega arith; rest = rw e }

module _ {n i : ℕ} {p : List ℤ} (inv : Labelling n p i) where
  pub labelling-stops : i < n → 32 ≤ number_at p i → told (stop (drop i p)) ≡ told (read_labels n p)
  labelling-stops h l = ap told (sym (labels-miss n i p h (omega arith)) ∙ inv.rest)

  pub labelling-goes-on : i < n → number_at p i < 32 → Labelling n p (i + 1)
  labelling-goes-on h l = record { inside = omega arith; rest = sym (labels_next n i p h (omega arith)) ∙ inv.rest }

  pub labelling-ends : n ≤ i → Ok (length p - n) ≡ told (read_labels n p)
  labelling-ends h =
      let e : i ≡ n = omega (arith, inv.inside) in
      let k : length (drop i p) ≡ length p - n = length-drop i p ∙ rw e in
      rw k at (ap told (sym (labels-end n i p h) ∙ inv.rest))

-- ---- L and L == L

module _ (p : List ℤ) where
  pub path-variable : 64 ≤ number_at p 0 → told (stop p) ≡ told (read_path p)
  unfolding read_path
  path-variable h = rw (number-high 0 63 p (omega arith) (omega arith))

  pub path-steps : number_at p 0 < 64 → 7 < number_at (drop 1 p) 0 → told (stop (drop 1 p)) ≡ told (read_path p)
  unfolding read_path
  path-steps h l = rw (number_fits_lem 0 63 p (omega arith) (omega arith), number-high 0 7 (drop 1 p) (omega arith) l)

  pub path-labels : number_at p 0 < 64 → number_at (drop 1 p) 0 ≤ 7 → told (read_labels (number_at (drop 1 p) 0) (drop 1 (drop 1 p))) ≡ told (read_path p)
  unfolding read_path
  path-labels h l = rw (number_fits_lem 0 63 p (omega arith) (omega arith), number_fits_lem 0 7 (drop 1 p) (omega arith) l)

  pub paths-first : {k : ℕ} → Err k ≡ told (read_path p) → Err k ≡ told (read_paths p)
  unfolding read_paths
  paths-first e = halted (read_path p) _ e

  pub paths-second : {q : List ℤ} → read_path p ≡ got q → told (read_path q) ≡ told (read_paths p)
  unfolding read_paths
  paths-second e = rw e

-- ---- e

-- a number that is none of those up to k
pub past : {n k : ℕ} → k ≤ n → (n ≡ k → ⊥) → suc k ≤ n
past h f = omega (arith, f)

-- a number that is none of the forms
pub form-none : (n : ℕ) → (n ≡ 20 → ⊥) → (n ≡ 21 → ⊥) → (n ≡ 22 → ⊥) → (n ≡ 23 → ⊥) → (n ≡ 24 → ⊥) → (n ≡ 25 → ⊥) → (n ≡ 26 → ⊥) → form_of n ≡ no_form
form-none n a b c d e f g = go (dec_lt n 20) (λ h. past (past (past (past (past (past (past h a) b) c) d) e) f) g)
  where
    go : Dec (n < 20) → (20 ≤ n → 27 ≤ n) → form_of n ≡ no_form
    go (yes y) k = form-low n y
    go (no x) k = form-high n (k (omega arith))

-- a test before a piece
let_through : (p : List ℤ) (b : Bool) (m : Reading (List ℤ)) → b ≡ true → (want p b >> m) ≡ m
let_through p b m e = rw e

turned-back : (p : List ℤ) (b : Bool) (m : Reading (List ℤ)) → b ≡ false → (want p b >> m) ≡ stop p
turned-back p b m e = rw e

module _ (d : ℕ) (in_c : Bool) (p : List ℤ) where
  pub expression-deep : d ≡ 0 → told (stop p) ≡ told (read_expression d in_c p)
  unfolding read_expression
  expression-deep e = rw e

  expression-open : (e : ℕ) → (e ≡ 0 → ⊥) → read_form (λ q. read_expression (e - 1) in_c q) in_c p (form_of (number_at p 0)) ≡ read_expression e in_c p
  unfolding read_expression
  expression-open zero ne = absurd (ne refl)
  expression-open (suc e) ne = rw (sub-one (suc e))

  module _ (ne : d ≡ 0 → ⊥) where
    -- the form by its number
    pub expression-at : (k : ℕ) → number_at p 0 ≡ k → read_form (λ q. read_expression (d - 1) in_c q) in_c p (form_of k) ≡ read_expression d in_c p
    expression-at k e = rw (← e) (expression-open d ne)

    pub expression-none : form_of (number_at p 0) ≡ no_form → told (stop p) ≡ told (read_expression d in_c p)
    unfolding read_form
    expression-none e = ap told (rw e at (expression-open d ne))

    module _ (is : number_at p 0 ≡ 26) where
      pub identity-inside : in_c ≡ true → told (stop p) ≡ told (read_expression d in_c p)
      unfolding read_form form_of
      identity-inside e = ap told (sym (turned-back p (not in_c) (read_paths (drop 1 p)) (ap not e)) ∙ expression-at 26 is)

      pub identity-outside : in_c ≡ false → told (read_paths (drop 1 p)) ≡ told (read_expression d in_c p)
      unfolding read_form form_of
      identity-outside e = ap told (sym (let_through p (not in_c) (read_paths (drop 1 p)) (ap not e)) ∙ expression-at 26 is)

    module _ (is : number_at p 0 ≡ 25) where
      pub operator-none : number_at (drop 1 p) 0 ≡ 0 → told (stop (drop 1 p)) ≡ told (read_expression d in_c p)
      unfolding read_form form_of
      operator-none h = ap told (rw (number-low 1 11 (drop 1 p) (omega arith)) at (expression-at 25 is))

      pub operator-high : (number_at (drop 1 p) 0 ≡ 0 → ⊥) → 11 < number_at (drop 1 p) 0 → told (stop (drop 1 p)) ≡ told (read_expression d in_c p)
      unfolding read_form form_of
      operator-high n h = ap told (rw (number-high 1 11 (drop 1 p) (omega (arith, n)) h) at (expression-at 25 is))

      module _ (one : number_at (drop 1 p) 0 ≡ 0 → ⊥) (most : number_at (drop 1 p) 0 ≤ 11) where
        operands : (read_expression (d - 1) in_c (drop 1 (drop 1 p)) >>= λ r. read_expression (d - 1) in_c r) ≡ read_expression d in_c p
        unfolding read_form form_of
        operands = rw (number_fits_lem 1 11 (drop 1 p) (omega (arith, one)) most) at (expression-at 25 is)

        pub left-halts : {k : ℕ} → Err k ≡ told (read_expression (d - 1) in_c (drop 1 (drop 1 p))) → Err k ≡ told (read_expression d in_c p)
        left-halts e = halted (read_expression (d - 1) in_c (drop 1 (drop 1 p))) _ e ∙ ap told operands

        pub right-follows : {q : List ℤ} → read_expression (d - 1) in_c (drop 1 (drop 1 p)) ≡ got q → told (read_expression (d - 1) in_c q) ≡ told (read_expression d in_c p)
        right-follows e = ap told (rw e at operands)

-- ---- C

module _ (p : List ℤ) where
  pub part_low : number_at p 0 ≡ 0 → told (stop p) ≡ told (read_part p)
  unfolding read_part
  part_low h = rw (number-low 1 3 p (omega arith))

  pub part-high : (number_at p 0 ≡ 0 → ⊥) → 3 < number_at p 0 → told (stop p) ≡ told (read_part p)
  unfolding read_part
  part-high n h = rw (number-high 1 3 p (omega (arith, n)) h)

  pub part-is : (number_at p 0 ≡ 0 → ⊥) → number_at p 0 ≤ 3 → told (read_expression 16 true (drop 1 p)) ≡ told (read_part p)
  unfolding read_part
  part-is n h = rw (number_fits_lem 1 3 p (omega (arith, n)) h)

  pub constraint-low : number_at p 0 ≡ 0 → told (stop p) ≡ told (read_constraint p)
  unfolding read_constraint
  constraint-low h = rw (number-low 1 16 p (omega arith))

  pub constraint-high : (number_at p 0 ≡ 0 → ⊥) → 16 < number_at p 0 → told (stop p) ≡ told (read_constraint p)
  unfolding read_constraint
  constraint-high n h = rw (number-high 1 16 p (omega (arith, n)) h)

  pub constraint-is : (number_at p 0 ≡ 0 → ⊥) → number_at p 0 ≤ 16 → told (read_parts (number_at p 0) (drop 1 p)) ≡ told (read_constraint p)
  unfolding read_constraint
  constraint-is n h = rw (number_fits_lem 1 16 p (omega (arith, n)) h)
