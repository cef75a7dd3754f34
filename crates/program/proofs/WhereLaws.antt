-- What the code that looks for a statement comes to, step by step. Assumes nothing.
use mathlib.Core.Path.{◌≡◌, refl, sym, ◌∙◌}
use mathlib.Core.Bool.{false}
use Rattle.std.specs.Prelude.{Option, Some, None, Result}
use mathlib.Core.List.{List}
use Prim.Native.Nat.{ℕ, zero, suc, ◌+◌, ◌-◌, ◌≤◌, ◌<◌}
use native.Mathlib.Omega.{arith}
use native.Mathlib.Numerals.{sub-one}
use borrow.Author.Tests.{le-leb, lt-leb, lt-ltb, le-ltb, eq-eqb, ne_eqb}
use lib.IntN.{ℤ}
use lib.ListN.{length, drop}
use Rattle.words.specs.Words.{number_at, last_of}
use Rattle.program.specs.Forms.{verb_of}
use Rattle.program.specs.declared.Verb.{Verb}
use Rattle.program.specs.declared.Verb.TheVariants.{Skip as skip, Assign as assign, New as new, Always as always, Once as once, AlwaysSame as always_same, OnceSame as once_same, If as branch, While as loop, Unknown as no_verb}
use Rattle.program.specs.declared.Spot.{Spot}
use Rattle.program.specs.Told.{told, words_left}
use Rattle.program.specs.Reading.{Reading, read_expression, read_block, read_statement, after}
use Rattle.program.specs.Where.{or_else, spot_inside, spot_statement, spot_statements, spot_block, statement_at}
use Rattle.program.proofs.FormLaws.{verb-number}
use Rattle.program.proofs.LengthLaws.{Part, part-trans, after-part, uses-keeps, statement-uses}
use Rattle.program.proofs.ReadLaws.{told-left}
use Rattle.program.proofs.RowLaws.{last-part, last-but-one}

-- the part that the number of words left tells is the part after the piece
pub after_is : {r : Result ℕ ℕ} {k : ℕ} {p q : List ℤ} (m : Reading (List ℤ)) → Part p (after m) → r ≡ told m → k ≡ words_left r → q ≡ last_of k p → q ≡ after m
after_is m w e k l = l ∙ rw (k ∙ told-left m e) w.is

-- ---- the statement at p

module _ (d left : ℕ) (p : List ℤ) where
  pub spot-here : length p ≡ left → Some (record { verb = number_at p 0; nest = d }) ≡ spot_statement (λ q. spot_block d left q) d left p
  unfolding spot_statement
  spot-here e = rw (eq-eqb (length p) left e)

  module _ (ne : length p ≡ left → ⊥) where
    inside : (k : ℕ) → number_at p 0 ≡ k → spot_inside (λ q. spot_block d left q) (λ q. after (read_block d q)) p (verb_of k) ≡ spot_statement (λ q. spot_block d left q) d left p
    unfolding spot_statement
    inside k e = rw (ne_eqb (length p) left ne, e)

    pub spot-loop : number_at p 0 ≡ 8 → spot_block d left (after (read_expression 16 false (drop 1 p))) ≡ spot_statement (λ q. spot_block d left q) d left p
    unfolding spot_inside verb_of
    spot-loop e = inside 8 e

    pub spot-branch : number_at p 0 ≡ 7
        → or_else (spot_block d left (after (read_expression 16 false (drop 1 p)))) (spot_block d left (after (read_block d (after (read_expression 16 false (drop 1 p))))))
        ≡ spot_statement (λ q. spot_block d left q) d left p
    unfolding spot_inside verb_of
    spot-branch e = inside 7 e

    -- a statement that holds no block
    pub spot-none : (number_at p 0 ≡ 7 → ⊥) → (number_at p 0 ≡ 8 → ⊥) → None ≡ spot_statement (λ q. spot_block d left q) d left p
    unfolding spot_inside
    spot-none a b = flat (verb_of (number_at p 0)) refl ∙ inside (number_at p 0) refl
      where
        flat : (v : Verb) → verb_of (number_at p 0) ≡ v → None ≡ spot_inside (λ q. spot_block d left q) (λ q. after (read_block d q)) p v
        flat skip e = refl
        flat assign e = refl
        flat new e = refl
        flat always e = refl
        flat once e = refl
        flat always_same e = refl
        flat once_same e = refl
        flat branch e = absurd (a (rw e at (verb-number (number_at p 0) (rw e (omega arith)))))
        flat loop e = absurd (b (rw e at (verb-number (number_at p 0) (rw e (omega arith)))))
        flat no_verb e = refl

-- ---- the loop over the statements of a block

pub record Looking (d left n : ℕ) (p : List ℤ) (i here : ℕ) : Type 0 where
  pub inside : i ≤ n
  pub short : here ≤ length p
  pub rest : spot_statements (λ q. spot_block (d - 1) left q) (d - 1) left (n - i) (last_of here p) ≡ spot_block d left p

module _ (d left : ℕ) (p : List ℤ) where
  pub spot-deep : d ≡ 0 → None ≡ spot_block d left p
  unfolding spot_block
  spot-deep e = rw e

  pub opened : (e : ℕ) → (e ≡ 0 → ⊥) → number_at p 0 ≤ 255 → spot_statements (λ q. spot_block (e - 1) left q) (e - 1) left (number_at p 0) (drop 1 p) ≡ spot_block e left p
  unfolding spot_block
  opened zero ne h = absurd (ne refl)
  opened (suc e) ne h = rw (sub-one (suc e), le-leb (number_at p 0) 255 h)

  closed : (e : ℕ) → (e ≡ 0 → ⊥) → 255 < number_at p 0 → None ≡ spot_block e left p
  unfolding spot_block
  closed zero ne h = absurd (ne refl)
  closed (suc e) ne h = rw (lt-leb (number_at p 0) 255 h)

  pub spot-long : (d ≡ 0 → ⊥) → 255 < number_at p 0 → None ≡ spot_block d left p
  spot-long ne h = closed d ne h

  pub looking-starts : (d ≡ 0 → ⊥) → number_at p 0 ≤ 255 → Looking d left (number_at p 0) p 0 (length p - 1)
  looking-starts ne h =
      let z : number_at p 0 - 0 ≡ number_at p 0 = omega arith in
      record { inside = omega arith; short = omega arith; rest = rw (z, last-but-one p) (opened d ne h) }

module _ {d left n i here : ℕ} {p q : List ℤ} (inv : Looking d left n p i here) (more : i < n) (is : q ≡ last_of here p) where
  look : or_else (spot_statement (λ r. spot_block (d - 1) left r) (d - 1) left q) (spot_statements (λ r. spot_block (d - 1) left r) (d - 1) left (n - (i + 1)) (after (read_statement (d - 1) q))) ≡ spot_block d left p
  unfolding spot_statements
  look = let z : n - i ≡ suc (n - (i + 1)) = omega arith in rw is (rw z at inv.rest)

  pub looking-finds : {s : Option Spot} {spot : Spot} → s ≡ spot_statement (λ r. spot_block (d - 1) left r) (d - 1) left q → s ≡ Some spot → Some spot ≡ spot_block d left p
  looking-finds e f = rw (sym e ∙ f) at look

  pub looking-goes-on : {s : Option Spot} {r : Result ℕ ℕ} {k : ℕ} → s ≡ spot_statement (λ r. spot_block (d - 1) left r) (d - 1) left q → s ≡ None → r ≡ told (read_statement (d - 1) q) → k ≡ words_left r → Looking d left n p (i + 1) k
  looking-goes-on {k = k} e f g l =
      let w : Part p (after (read_statement (d - 1) q)) = part-trans (rw is (last-part here p)) (after-part _ (uses-keeps (statement-uses (d - 1) q))) in
      let z : k ≡ length (after (read_statement (d - 1) q)) = l ∙ told-left (read_statement (d - 1) q) g in
      let a : last_of k p ≡ after (read_statement (d - 1) q) = rw z w.is in
      record { inside = omega arith; short = omega (arith, w.short); rest = rw a (rw (sym e ∙ f) at look) }

pub looking-ends : {d left n i here : ℕ} {p : List ℤ} → Looking d left n p i here → n ≤ i → None ≡ spot_block d left p
unfolding spot_statements
looking-ends {n = n} {i = i} inv h = let z : n - i ≡ 0 = omega arith in rw z at inv.rest

-- ---- the program

pub statement-past : (p : List ℤ) (at : ℕ) → length p ≤ at → None ≡ statement_at p at
unfolding statement_at
statement-past p at h = rw (le-ltb at (length p) h)

pub statement-in : (p : List ℤ) (at : ℕ) → at < length p → spot_block 8 (length p - at) p ≡ statement_at p at
unfolding statement_at
statement-in p at h = rw (lt-ltb at (length p) h)
