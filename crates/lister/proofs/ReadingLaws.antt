-- What the code that reads the input comes to. Assumes nothing.
use Rattle.std.specs.Prelude.{None, Option, Some, Ok, Err, ℕ, ℤ}
use mathlib.Core.Path.{◌≡◌, refl, sym, ap, ◌∙◌}
use mathlib.Core.Bool.{true, false}
use mathlib.Core.List.{List, [], ◌∷◌, ◌++◌, append_assoc, append-nil}
use Prim.Native.Nat.{ℕ, zero, suc, ◌+◌, ◌-◌, ◌≤◌, ◌<◌}
use native.Mathlib.Omega.{arith}
use borrow.Author.Tests.{lt-ltb, le-ltb, ltb-true, ltb-false}
use lib.Dec.{ltb, eqb}
use Rattle.std.specs.List.{slice_split}
use Rattle.lister.proofs.ByteLaws.{pieces_more, pieces-last, pieces-split}
use Rattle.tables.proofs.SearchLaws.{cases}
use lib.IntN.{ℤ}
use lib.ListN.{length, get_or, drop, set, length-append, length-set, drop_of_length-le}
use lib.Seq.{drop-cons}
use native.Mathlib.Numerals.{add-one}
use Rattle.words.specs.Answer.{got, stop}
use Rattle.lister.specs.Bytes.{newline, up_to, past, pieces, begins, laid}
use Rattle.lister.specs.Numerals.{numeral_in}
use Rattle.lister.specs.Reading.{program_name, proposals_name, budget_name, Line, ahead, ahead_of, numbers_in, row_in, list_in, line_in, only_by, budget_line, budget_in}
use Rattle.lister.specs.Reading.{input_of, with_program, lines_in, input_in, RowRead, InputRead}
use Rattle.lister.proofs.BufferLaws.{laid_none, laid_more}

-- ---- numbers before others

pub ahead_none : (a : Line) → ahead [] a ≡ a
ahead_none (got ws) = refl
ahead_none (stop ws) = refl

pub ahead-both : (xs ys : List ℤ) (a : Line) → ahead xs (ahead ys a) ≡ ahead (xs ++ ys) a
ahead-both xs ys (got ws) = ap got (sym (append_assoc xs ys ws))
ahead-both xs ys (stop ws) = ap stop (sym (append_assoc xs ys ws))

pub row_as : {a b : Line} {s s' : List ℤ} {r : Option ℕ} → a ≡ b → RowRead a s s' r → RowRead b s s' r
row_as e h = rw (← e) h

-- ---- the loop over the pieces of a row: xs are read and stored, and the pieces after them give the whole's answer

pub record Rowing (s : List ℕ) (out₀ out : List ℤ) (n : ℕ) : Type 0 where
  pub inside : n ≤ 4096
  pub kept : length out ≡ length out₀
  pub xs : List ℤ
  pub many : length xs ≡ n
  pub stored : out ≡ laid xs out₀
  pub rest : ahead xs (numbers_in (4096 - n) (drop n (pieces 32 s))) ≡ row_in s

pub rowing-starts : {s : List ℕ} {out : List ℤ} → Rowing s out out 0
unfolding row_in
rowing-starts {s = s} {out = out} = record {
  inside = omega arith;
  kept = refl;
  xs = [];
  many = refl;
  stored = sym (laid_none out);
  rest = ahead_none (numbers_in 4096 (pieces 32 s));
}

numbers_more : (n : ℕ) (p : List ℕ) (ps : List (List ℕ)) → numbers_in (suc n) (p ∷ ps) ≡ ahead_of (numeral_in p) (numbers_in n ps)
unfolding numbers_in
numbers_more n p ps = refl

numbers-none : (n : ℕ) → numbers_in n [] ≡ got []
unfolding numbers_in
numbers-none zero = refl
numbers-none (suc n) = refl

numbers-full : (p : List ℕ) (ps : List (List ℕ)) → numbers_in 0 (p ∷ ps) ≡ stop []
unfolding numbers_in
numbers-full p ps = refl

-- the pieces of a text: its first, and whatever others there are
pub record Pieces (b : ℕ) (q : List ℕ) : Type 0 where
  pub others : List (List ℕ)
  pub are : pieces b q ≡ up_to b q ∷ others

pub some-pieces : (b : ℕ) (q : List ℕ) → Pieces b q
some-pieces b q =
    cases (ltb (length (up_to b q)) (length q)) (λ e. record { others = pieces b (past b q); are = pieces_more b q (ltb-true (length (up_to b q)) (length q) e) })
    (λ e. record { others = []; are = pieces-last b q (ltb-false (length (up_to b q)) (length q) e) })

module _ {s : List ℕ} {out₀ out : List ℤ} {n : ℕ} (inv : Rowing s out₀ out n) where
  stored-none : out ≡ laid (inv.xs ++ []) out₀
  stored-none = rw (append-nil inv.xs) inv.stored

  -- the next piece, which is the k-th that the library cuts
  module _ {k : ℕ} (at : k ≡ n) {p : List ℕ} (here : (k < length (slice_split (λ x. eqb x 32) s)) × (p ≡ get_or (slice_split (λ x. eqb x 32) s) k p)) where
    next : drop n (pieces 32 s) ≡ p ∷ drop (n + 1) (pieces 32 s)
    next =
        let more : n < length (pieces 32 s) = rw (pieces-split 32 s, at) at here.0 in
        let is : p ≡ get_or (pieces 32 s) n p = rw (pieces-split 32 s, at) at here.1 in
        rw add-one (drop-cons (pieces 32 s) n p more ∙ ap (λ q. q ∷ drop (suc n) (pieces 32 s)) (sym is))

    pub row-full : n ≡ 4096 → RowRead (row_in s) out₀ out None
    row-full h =
        let z : 4096 - n ≡ 0 = omega arith in
        let t : stop (inv.xs ++ []) ≡ row_in s = rw (next, z, numbers-full p (drop (n + 1) (pieces 32 s))) at inv.rest in
        row_as t (record { told = refl; stored = stored-none })

    module _ (some : n ≡ 4096 → ⊥) {g : Option ℤ} (read : g ≡ numeral_in p) where
      turn : ahead inv.xs (ahead_of g (numbers_in (4096 - (n + 1)) (drop (n + 1) (pieces 32 s)))) ≡ row_in s
      turn =
          let z : 4096 - n ≡ suc (4096 - (n + 1)) = omega (arith, inv.inside, some) in
          rw (next, z, numbers_more (4096 - (n + 1)) p (drop (n + 1) (pieces 32 s)), ← read) at inv.rest

      pub row-unfit : g ≡ None → RowRead (row_in s) out₀ out None
      row-unfit h =
          let t : stop (inv.xs ++ []) ≡ row_in s = rw h at turn in
          row_as t (record { told = refl; stored = stored-none })

      pub row-goes-on : {w : ℤ} → g ≡ Some w → {out' : List ℤ} → out' ≡ set out n w → Rowing s out₀ out' (n + 1)
      row-goes-on {w = w} number store =
          let t : ahead inv.xs (ahead (w ∷ []) (numbers_in (4096 - (n + 1)) (drop (n + 1) (pieces 32 s)))) ≡ row_in s = rw number at turn in
          record {
            inside = omega (arith, inv.inside, some);
            kept = ap length store ∙ simp length-set inv.kept;
            xs = inv.xs ++ (w ∷ []);
            many = simp length-append (omega (arith, inv.many));
            stored = store ∙ rw (inv.stored, ← inv.many) (laid_more inv.xs out₀ w);
            rest = sym (ahead-both inv.xs (w ∷ []) (numbers_in (4096 - (n + 1)) (drop (n + 1) (pieces 32 s)))) ∙ t;
          }

  pub row-ends : {k : ℕ} → k ≡ n → k ≡ length (slice_split (λ x. eqb x 32) s) → RowRead (row_in s) out₀ out (Some n)
  row-ends at h =
      let l : n ≡ length (pieces 32 s) = rw (pieces-split 32 s, at) at h in
      let d : drop n (pieces 32 s) ≡ [] = drop_of_length-le (pieces 32 s) {i = n} (omega arith) in
      let t : got (inv.xs ++ []) ≡ row_in s = rw (d, numbers-none (4096 - n)) at inv.rest in
      row_as t (record { told = ap Some (sym inv.many ∙ ap length (sym (append-nil inv.xs))); stored = stored-none })

-- ---- a line

pub listed-none : got [] ≡ list_in []
unfolding list_in
listed-none = refl

pub listed-some : (b : ℕ) (s : List ℕ) → row_in (b ∷ s) ≡ list_in (b ∷ s)
unfolding list_in
listed-some b s = refl

pub nothing_stored : (out : List ℤ) → RowRead (stop []) out out None
nothing_stored out = record { told = refl; stored = sym (laid_none out) }

module _ (name s : List ℕ) where
  pub line-unnamed : {out : List ℤ} → begins name s ≡ false → RowRead (line_in name s) out out None
  unfolding line_in
  line-unnamed {out = out} e = rw e (nothing_stored out)

  module _ {list : List ℕ} (e : begins name s ≡ true) (is : list ≡ drop (length name) s) where
    named : list_in list ≡ line_in name s
    unfolding line_in
    named = rw (e, is)

    pub line-empty : {out : List ℤ} → length list ≡ 0 → RowRead (line_in name s) out out (Some 0)
    line-empty {out = out} h = row_as (go list h ∙ named) (record { told = refl; stored = sym (laid_none out) })
      where
        go : (l : List ℕ) → length l ≡ 0 → got [] ≡ list_in l
        go [] h = listed-none
        go (b ∷ l) h = let z : ⊥ = omega arith in absurd z

    pub line_row : (length list ≡ 0 → ⊥) → {out out' : List ℤ} {r : Option ℕ} → RowRead (row_in list) out out' r → RowRead (line_in name s) out out' r
    line_row h k = row_as (go list h ∙ named) k
      where
        go : (l : List ℕ) → (length l ≡ 0 → ⊥) → row_in l ≡ list_in l
        go [] h = absurd (h refl)
        go (b ∷ l) h = listed-some b l

-- ---- the third line

module _ (t : List ℕ) where
  pub budget-more : {r : List ℕ} → r ≡ past newline t → (length r ≡ 0 → ⊥) → None ≡ budget_in t
  unfolding budget_in
  budget-more {r = r} e h = rw (← e) (go r h)
    where
      go : (r : List ℕ) → (length r ≡ 0 → ⊥) → None ≡ only_by (budget_line (up_to newline t)) r
      go [] h = absurd (h refl)
      go (b ∷ r) h = refl

  module _ {r l : List ℕ} (e : r ≡ past newline t) (h : length r ≡ 0) (is : l ≡ up_to newline t) where
    only : budget_line l ≡ budget_in t
    unfolding budget_in
    only = rw (is, ← e) (go r h)
      where
        go : (r : List ℕ) → length r ≡ 0 → budget_line (up_to newline t) ≡ only_by (budget_line (up_to newline t)) r
        go [] h = refl
        go (b ∷ r) h = let z : ⊥ = omega arith in absurd z

    pub budget-unnamed : begins budget_name l ≡ false → None ≡ budget_in t
    unfolding budget_line
    budget-unnamed k = rw k at only

    pub budget-number : begins budget_name l ≡ true → {p : List ℕ} {g : Option ℤ} → p ≡ drop 7 l → g ≡ numeral_in p → g ≡ budget_in t
    unfolding budget_line
    budget-number k d n = n ∙ ap numeral_in d ∙ rw k at only

-- ---- the whole input

no_row : {n : ℕ} {X : Type 0} → Some n ≡ None → X
no_row e = absurd (let z : ◌≡◌ {A = ℕ} 0 1 = cc in omega arith)

-- what the three lines come to, where the first two stored their numbers
module _ (l : Line) (b : Option ℤ) {ps ps' qs : List ℤ} {r : Option ℕ} where
  first-unfit : (a : Line) → RowRead a ps ps' r → r ≡ None → InputRead (with_program a l b) ps ps' qs qs (Err 1)
  first-unfit (got ws) h e = no_row (sym h.told ∙ e)
  first-unfit (stop ws) h e = record { told = refl; program = h.stored; proposals = sym (laid_none qs) }

module _ (b : Option ℤ) {ps ps' qs qs' : List ℤ} {r r' : Option ℕ} {n : ℕ} where
  second-unfit : (a l : Line) → RowRead a ps ps' r → r ≡ Some n → RowRead l qs qs' r' → r' ≡ None → InputRead (with_program a l b) ps ps' qs qs' (Err 2)
  second-unfit (stop ws) l h e k f = no_row (sym e ∙ h.told)
  second-unfit (got ws) (got vs) h e k f = no_row (sym k.told ∙ f)
  second-unfit (got ws) (stop vs) h e k f = record { told = refl; program = h.stored; proposals = k.stored }

module _ {ps ps' qs qs' : List ℤ} {r r' : Option ℕ} {n m : ℕ} where
  third-unfit : (a l : Line) (b : Option ℤ) → RowRead a ps ps' r → r ≡ Some n → RowRead l qs qs' r' → r' ≡ Some m → b ≡ None → InputRead (with_program a l b) ps ps' qs qs' (Err 3)
  third-unfit (stop ws) l b h e k f g = no_row (sym e ∙ h.told)
  third-unfit (got ws) (stop vs) b h e k f g = no_row (sym f ∙ k.told)
  third-unfit (got ws) (got vs) b h e k f g = rw g (record { told = refl; program = h.stored; proposals = k.stored })

  all_fit : (a l : Line) (b : Option ℤ) {w : ℤ} → RowRead a ps ps' r → r ≡ Some n → RowRead l qs qs' r' → r' ≡ Some m → b ≡ Some w
      → InputRead (with_program a l b) ps ps' qs qs' (Ok (input_of n m w))
  all_fit (stop ws) l b h e k f g = no_row (sym e ∙ h.told)
  all_fit (got ws) (stop vs) b h e k f g = no_row (sym f ∙ k.told)
  all_fit (got ws) (got vs) b {w = w} h e k f g =
      let x : Some n ≡ Some (length ws) = sym e ∙ h.told in
      let y : Some m ≡ Some (length vs) = sym f ∙ k.told in
      rw g (record { told = cc; program = h.stored; proposals = k.stored })

pub input-too-long : (t : List ℕ) {ps qs : List ℤ} → 65536 < length t → InputRead (input_in t) ps ps qs qs (Err 1)
unfolding input_in
input-too-long t {ps = ps} {qs = qs} h = rw (lt-ltb 65536 (length t) h) (record { told = refl; program = sym (laid_none ps); proposals = sym (laid_none qs) })

module _ (t : List ℕ) (short : length t ≤ 65536) where
  pub input-lines : with_program (line_in program_name (up_to newline t)) (line_in proposals_name (up_to newline (past newline t))) (budget_in (past newline (past newline t))) ≡ input_in t
  unfolding input_in lines_in
  input-lines = rw (le-ltb 65536 (length t) short)

  module _ {l : List ℕ} {ps ps' : List ℤ} {r : Option ℕ} (one : l ≡ up_to newline t) (program : RowRead (line_in program_name l) ps ps' r) where
    pub input-first : {qs : List ℤ} → r ≡ None → InputRead (input_in t) ps ps' qs qs (Err 1)
    input-first e = rw (← input-lines) (first-unfit _ _ (line_in program_name (up_to newline t)) (rw one at program) e)

    module _ {n : ℕ} (fit : r ≡ Some n) {u l' : List ℕ} {qs qs' : List ℤ} {r' : Option ℕ}
        (rest : u ≡ past newline t) (two : l' ≡ up_to newline u) (proposals : RowRead (line_in proposals_name l') qs qs' r') where
      second : RowRead (line_in proposals_name (up_to newline (past newline t))) qs qs' r'
      second = rw (two, rest) at proposals

      pub input-second : r' ≡ None → InputRead (input_in t) ps ps' qs qs' (Err 2)
      input-second e = rw (← input-lines) (second-unfit _ (line_in program_name (up_to newline t)) _ (rw one at program) fit second e)

      module _ {m : ℕ} (fit' : r' ≡ Some m) {v : List ℕ} {g : Option ℤ} (last : v ≡ past newline u) (budget : g ≡ budget_in v) where
        third : g ≡ budget_in (past newline (past newline t))
        third = budget ∙ rw (last, rest)

        pub input-third : g ≡ None → InputRead (input_in t) ps ps' qs qs' (Err 3)
        input-third e = rw (← input-lines) (third-unfit (line_in program_name (up_to newline t)) _ _ (rw one at program) fit second fit' (sym third ∙ e))

        pub input-read : {w z : ℤ} → g ≡ Some w → z ≡ w → InputRead (input_in t) ps ps' qs qs' (Ok (input_of n m z))
        input-read e y = rw (y, ← input-lines) (all_fit (line_in program_name (up_to newline t)) _ _ (rw one at program) fit second fit' (sym third ∙ e))
