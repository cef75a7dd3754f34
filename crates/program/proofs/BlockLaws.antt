-- What the code that reads statements, blocks and programs comes to, step by step. Assumes nothing.
use mathlib.Core.Path.{◌≡◌, refl, sym, ap, ◌∙◌}
use mathlib.Core.Bool.{Bool, true, false}
use Rattle.std.specs.Prelude.{Ok, Err, is_ok}
use mathlib.Core.List.{List, [], ◌∷◌}
use Prim.Native.Nat.{ℕ, zero, suc, ◌+◌, ◌-◌, ◌≤◌, ◌<◌}
use native.Mathlib.Omega.{arith}
use native.Mathlib.Numerals.{sub-one}
use borrow.Author.Tests.{le-leb, lt-leb, eq-eqb, ne_eqb, eqb-true, eqb-false}
use lib.Dec.{eqb}
use lib.IntN.{ℤ}
use lib.ListN.{length, drop, get_or, set, replicate, length-set, get_or-replicate}
use lib.Seq.{get_or-set_same, get_or-set_other}
use Rattle.words.specs.Words.{number_at, last_of}
use Rattle.words.specs.Answer.{got, stop, ◌>>=◌}
use Rattle.tables.proofs.SearchLaws.{cases}
use Rattle.program.specs.Forms.{verb_of}
use Rattle.program.specs.declared.Verb.TheVariants.{Unknown as no_verb}
use Rattle.program.specs.Told.{told, words_left, verdict_of}
use Rattle.program.specs.Reading.{Reading, read_path, read_expression, among, read_fields, read_new, read_assign, read_verb, read_with, read_block, read_statement, ends, place_in, read_program, after}
use Rattle.program.proofs.NumberLaws.{number_fits_lem, number-high, verb-high}
use Rattle.program.proofs.LengthLaws.{Part, part-trans, part-drop}
use Rattle.program.proofs.ReadLaws.{halted, onward, told-left, past}
use Rattle.program.proofs.RowLaws.{many, statements-many, last-part, last-length, last-all, last-but-one}

-- ---- assign and new

module _ (p : List ℤ) where
  pub assign-first : {k : ℕ} → Err k ≡ told (read_path p) → Err k ≡ told (read_assign p)
  unfolding read_assign
  assign-first e = halted (read_path p) _ e

  pub assign-second : {q : List ℤ} → read_path p ≡ got q → told (read_expression 16 false q) ≡ told (read_assign p)
  unfolding read_assign
  assign-second e = rw e

  pub new-variable : 64 ≤ number_at p 0 → told (stop p) ≡ told (read_new p)
  unfolding read_new
  new-variable h = rw (number-high 0 63 p (omega arith) (omega arith))

  pub new-count : number_at p 0 < 64 → 8 < number_at (drop 1 p) 0 → told (stop (drop 1 p)) ≡ told (read_new p)
  unfolding read_new
  new-count h l = rw (number_fits_lem 0 63 p (omega arith) (omega arith), number-high 0 8 (drop 1 p) (omega arith) l)

  pub new-fields : number_at p 0 < 64 → number_at (drop 1 p) 0 ≤ 8 → told (read_fields (number_at (drop 1 p) 0) [] (drop 1 (drop 1 p))) ≡ told (read_new p)
  unfolding read_new
  new-fields h l = rw (number_fits_lem 0 63 p (omega arith) (omega arith), number_fits_lem 0 8 (drop 1 p) (omega arith) l)

-- ---- the loop over the fields of new: i are read, and the marks tell the labels that came before

pub record InFields (n : ℕ) (p : List ℤ) (i left : ℕ) (marks : List Bool) : Type 0 where
  pub inside : i ≤ n
  pub short : left ≤ length p
  pub long : length marks ≡ 32
  pub seen : List ℕ
  pub agree : (l : ℕ) → l < 32 → get_or marks l false ≡ among l seen
  pub rest : read_fields (n - i) seen (last_of left p) ≡ read_fields n [] p

pub fields-start : {n : ℕ} {p : List ℤ} → InFields n p 0 (length p) (replicate 32 false)
unfolding among
fields-start {n = n} {p = p} =
    let z : n - 0 ≡ n = omega arith in
    record {
      inside = omega arith;
      short = omega arith;
      long = refl;
      seen = [];
      agree = λ l h. get_or-replicate 32 l false false h;
      rest = rw (z, last-all p);
    }

module _ {n i left : ℕ} {p q : List ℤ} {marks : List Bool} (inv : InFields n p i left marks) (more : i < n) (is : q ≡ last_of left p) where
  field-turn : read_fields (suc (n - (i + 1))) inv.seen q ≡ read_fields n [] p
  field-turn = let z : n - i ≡ suc (n - (i + 1)) = omega arith in rw (← z, is) inv.rest

  pub label-high : 32 ≤ number_at q 0 → told (stop q) ≡ told (read_fields n [] p)
  unfolding read_fields
  label-high h = ap told (rw (number-high 0 31 q (omega arith) (omega arith)) at field-turn)

  module _ (small : number_at q 0 < 32) where
    known : get_or marks (number_at q 0) false ≡ among (number_at q 0) inv.seen
    known = inv.agree (number_at q 0) small

    pub label-twice : get_or marks (number_at q 0) false ≡ true → told (stop q) ≡ told (read_fields n [] p)
    unfolding read_fields
    label-twice h = ap told (rw (number_fits_lem 0 31 q (omega arith) (omega arith), sym known ∙ h) at field-turn)

    module _ (fresh : get_or marks (number_at q 0) false ≡ false) where
      field-on : (read_expression 16 false (drop 1 q) >>= λ r. read_fields (n - (i + 1)) (number_at q 0 ∷ inv.seen) r) ≡ read_fields n [] p
      unfolding read_fields
      field-on = rw (number_fits_lem 0 31 q (omega arith) (omega arith), sym known ∙ fresh) at field-turn

      pub field-stops : {k : ℕ} → Err k ≡ told (read_expression 16 false (drop 1 q)) → Err k ≡ told (read_fields n [] p)
      field-stops e = halted (read_expression 16 false (drop 1 q)) _ e ∙ ap told field-on

      agrees : (l : ℕ) → l < 32 → get_or (set marks (number_at q 0) true) l false ≡ among l (number_at q 0 ∷ inv.seen)
      unfolding among
      agrees l h = cases (eqb l (number_at q 0))
          (λ e. rw (e, eqb-true l (number_at q 0) e) (get_or-set_same marks (number_at q 0) true false (omega (arith, inv.long))))
          (λ e. rw e (get_or-set_other marks (number_at q 0) l true false (eqb-false l (number_at q 0) e) ∙ inv.agree l h))

      pub field-goes-on : {k : ℕ} → Ok k ≡ told (read_expression 16 false (drop 1 q)) → Part (drop 1 q) (after (read_expression 16 false (drop 1 q))) → InFields n p (i + 1) k (set marks (number_at q 0) true)
      field-goes-on {k} e w =
          let b : Part p (after (read_expression 16 false (drop 1 q))) = part-trans (rw is (last-part left p)) (part-trans (part-drop 1 q) w) in
          let z : k ≡ length (after (read_expression 16 false (drop 1 q))) = told-left (read_expression 16 false (drop 1 q)) e in
          let g : read_expression 16 false (drop 1 q) ≡ got (last_of k p) = onward (read_expression 16 false (drop 1 q)) b e refl in
          record {
            inside = omega arith;
            short = omega (arith, b.short);
            long = length-set marks (number_at q 0) true ∙ inv.long;
            seen = number_at q 0 ∷ inv.seen;
            agree = agrees;
            rest = rw g at field-on;
          }

pub fields-end : {n i left : ℕ} {p : List ℤ} {marks : List Bool} → InFields n p i left marks → n ≤ i → Ok left ≡ told (read_fields n [] p)
unfolding read_fields
fields-end {n = n} {i = i} {left = left} {p = p} inv h =
    let z : n - i ≡ 0 = omega arith in
    let e : got (last_of left p) ≡ read_fields n [] p = rw z at inv.rest in
    rw (last-length left p inv.short) at (ap told e)

-- ---- a statement

-- a number that is none of the verbs
pub verb-none : (n : ℕ) → (n ≡ 0 → ⊥) → (n ≡ 1 → ⊥) → (n ≡ 2 → ⊥) → (n ≡ 3 → ⊥) → (n ≡ 4 → ⊥) → (n ≡ 5 → ⊥) → (n ≡ 6 → ⊥) → (n ≡ 7 → ⊥) → (n ≡ 8 → ⊥) → verb_of n ≡ no_verb
verb-none n a b c d e f g h i = verb-high n (past (past (past (past (past (past (past (past (past (omega arith) a) b) c) d) e) f) g) h) i)

module _ (d : ℕ) (p : List ℤ) where
  -- the verb by its number
  pub statement-at : (k : ℕ) → number_at p 0 ≡ k → read_verb (λ r. read_block d r) p (verb_of k) ≡ read_statement d p
  unfolding read_statement read_with
  statement-at k e = rw (← e)

  pub statement-none : verb_of (number_at p 0) ≡ no_verb → told (stop p) ≡ told (read_statement d p)
  unfolding read_statement read_with read_verb
  statement-none e = rw e

  module _ (is : number_at p 0 ≡ 7) where
    branches : (read_expression 16 false (drop 1 p) >>= λ q. read_block d q >>= λ r. read_block d r) ≡ read_statement d p
    unfolding verb_of read_verb
    branches = statement-at 7 is

    pub branch-test : {k : ℕ} → Err k ≡ told (read_expression 16 false (drop 1 p)) → Err k ≡ told (read_statement d p)
    branch-test e = halted (read_expression 16 false (drop 1 p)) _ e ∙ ap told branches

    pub branch-first : {q : List ℤ} {k : ℕ} → read_expression 16 false (drop 1 p) ≡ got q → Err k ≡ told (read_block d q) → Err k ≡ told (read_statement d p)
    branch-first {q = q} t e = halted (read_block d q) _ e ∙ ap told (rw t at branches)

    pub branch-second : {q r : List ℤ} → read_expression 16 false (drop 1 p) ≡ got q → read_block d q ≡ got r → told (read_block d r) ≡ told (read_statement d p)
    branch-second t u = ap told (rw (t, u) at branches)

  module _ (is : number_at p 0 ≡ 8) where
    body : (read_expression 16 false (drop 1 p) >>= λ q. read_block d q) ≡ read_statement d p
    unfolding verb_of read_verb
    body = statement-at 8 is

    pub loop-test : {k : ℕ} → Err k ≡ told (read_expression 16 false (drop 1 p)) → Err k ≡ told (read_statement d p)
    loop-test e = halted (read_expression 16 false (drop 1 p)) _ e ∙ ap told body

    pub loop-body : {q : List ℤ} → read_expression 16 false (drop 1 p) ≡ got q → told (read_block d q) ≡ told (read_statement d p)
    loop-body t = ap told (rw t at body)

-- ---- a block

module _ (d : ℕ) (p : List ℤ) where
  pub block-deep : d ≡ 0 → told (stop p) ≡ told (read_block d p)
  unfolding read_block
  block-deep e = rw e

  block_at : (e : ℕ) → (e ≡ 0 → ⊥) → number_at p 0 ≤ 255 → many (read_statement (e - 1)) (number_at p 0) (drop 1 p) ≡ read_block e p
  unfolding read_block read_statement
  block_at zero ne h = absurd (ne refl)
  block_at (suc e) ne h =
      statements-many (λ r. read_block (suc e - 1) r) (number_at p 0) (drop 1 p) ∙ rw (sub-one (suc e), number_fits_lem 0 255 p (omega arith) h)

  block-off : (e : ℕ) → (e ≡ 0 → ⊥) → 255 < number_at p 0 → told (stop p) ≡ told (read_block e p)
  unfolding read_block
  block-off zero ne h = absurd (ne refl)
  block-off (suc e) ne h = rw (number-high 0 255 p (omega arith) h)

  pub block-long : (d ≡ 0 → ⊥) → 255 < number_at p 0 → told (stop p) ≡ told (read_block d p)
  block-long ne h = block-off d ne h

  pub block_row : (d ≡ 0 → ⊥) → number_at p 0 ≤ 255 → many (read_statement (d - 1)) (number_at p 0) (last_of (length p - 1) p) ≡ read_block d p
  block_row ne h = rw (last-but-one p) (block_at d ne h)

-- ---- the program

module _ (p : List ℤ) where
  placed-unfit : {k : ℕ} (m : Reading (List ℤ)) → Err k ≡ told m → Err (length p - k) ≡ verdict_of (place_in p (m >>= λ q. ends q))
  unfolding place_in
  placed-unfit {k} (got q) e = let z : ◌≡◌ {A = Bool} false true = ap is_ok e in cc
  placed-unfit {k} (stop q) e = let z : k ≡ length q = ap words_left e in rw z

  placed-reads : (m : Reading (List ℤ)) → Ok 0 ≡ told m → Ok tt ≡ verdict_of (place_in p (m >>= λ q. ends q))
  unfolding place_in ends
  placed-reads (got q) e = let z : 0 ≡ length q = ap words_left e in rw (eq-eqb (length q) 0 (sym z))
  placed-reads (stop q) e = let z : ◌≡◌ {A = Bool} true false = ap is_ok e in cc

  placed-extra : {k : ℕ} (m : Reading (List ℤ)) → Ok k ≡ told m → (k ≡ 0 → ⊥) → Err (length p - k) ≡ verdict_of (place_in p (m >>= λ q. ends q))
  unfolding place_in ends
  placed-extra {k} (got q) e ne = let z : k ≡ length q = ap words_left e in rw (ne_eqb (length q) 0 (λ n. ne (z ∙ n)), z)
  placed-extra {k} (stop q) e ne = let z : ◌≡◌ {A = Bool} true false = ap is_ok e in cc

module _ (p : List ℤ) where
  pub program-long : 4096 < length p → Err 4096 ≡ verdict_of (read_program p)
  unfolding read_program
  program-long h = rw (lt-leb (length p) 4096 h)

  module _ (short : length p ≤ 4096) where
    program-is : place_in p (read_block 8 p >>= λ q. ends q) ≡ read_program p
    unfolding read_program
    program-is = rw (le-leb (length p) 4096 short)

    pub program-unfit : {k : ℕ} → Err k ≡ told (read_block 8 p) → Err (length p - k) ≡ verdict_of (read_program p)
    program-unfit e = placed-unfit p (read_block 8 p) e ∙ ap verdict_of program-is

    pub program-reads : Ok 0 ≡ told (read_block 8 p) → Ok tt ≡ verdict_of (read_program p)
    program-reads e = placed-reads p (read_block 8 p) e ∙ ap verdict_of program-is

    pub program-extra : {k : ℕ} → Ok k ≡ told (read_block 8 p) → (k ≡ 0 → ⊥) → Err (length p - k) ≡ verdict_of (read_program p)
    program-extra e ne = placed-extra p (read_block 8 p) e ne ∙ ap verdict_of program-is
