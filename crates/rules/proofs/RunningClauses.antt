-- Blocks, while, the budget and the tally, clause by clause: the laws by which code knows them. Assumes nothing.
use mathlib.Core.Path.{◌≡◌, refl}
use mathlib.Core.Bool.{true, false}
use mathlib.Core.List.{List}
use Prim.Native.Nat.{ℕ, suc, ◌≤◌, ◌<◌}
use native.Mathlib.Omega.{arith}
use borrow.Author.Tests.{lt-ltb, le-ltb}
use lib.IntN.{ℤ}
use lib.ListN.{drop}
use Rattle.words.specs.Words.{number_at}
use Rattle.words.specs.Answer.{got, stop}
use Rattle.program.specs.Forms.{verb_of}
use Rattle.program.specs.declared.Verb.{Verb}
use Rattle.program.specs.declared.Verb.TheVariants.{Skip as skip, Assign as assign, New as new, Always as always, Once as once, AlwaysSame as always_same, OnceSame as once_same, If as branch, While as loop, Unknown as no_verb}
use Rattle.program.specs.Reading.{read_block, read_statement, after}
use Rattle.program.proofs.NumberLaws.{number_fits_lem, number-high}
use Rattle.rules.specs.State.{Fault}
use Rattle.rules.specs.Statements.{Left, position_of, place_of, do_simple}
use Rattle.rules.specs.Running.{Tally, Out, on, end, then_out, one_more, paid, leaves, taken, noted, test, tested, turns, past_test, do_verb, do_statement, do_statements, do_block}

module _ (budget place : ℕ) (t : Tally) where
  pub paid-on : t.steps < budget → paid budget place t ≡ on (one_more t)
  unfolding paid
  paid-on h = rw (lt-ltb t.steps budget h, paid)

  pub paid-ends : budget ≤ t.steps → paid budget place t ≡ end 5 place t
  unfolding paid
  paid-ends h = rw (le-ltb t.steps budget h, paid)

module _ (program : List ℤ) (t : Tally) where
  pub taken-got : (l : Left) → taken program t (got l) ≡ on (leaves l t)
  unfolding taken
  taken-got l = refl

  pub taken-stop : (f : Fault) → taken program t (stop f) ≡ end f.number (place_of program f) t
  unfolding taken
  taken-stop f = refl

  pub tested-true : (f g : Tally → Out) → tested program t (got true) f g ≡ f (noted true t)
  unfolding tested
  tested-true f g = refl

  pub tested-false : (f g : Tally → Out) → tested program t (got false) f g ≡ g (noted false t)
  unfolding tested
  tested-false f g = refl

  pub tested-stop : (e : Fault) (f g : Tally → Out) → tested program t (stop e) f g ≡ end e.number (place_of program e) t
  unfolding tested
  tested-stop e f g = refl

pub turns-none : (body : Tally → Out) (program : List ℤ) (budget place : ℕ) (p : List ℤ) (t : Tally) → turns body program budget place p 0 t ≡ end 5 place t
unfolding turns
turns-none body program budget place p t = refl

pub turns_more : (body : Tally → Out) (program : List ℤ) (budget place : ℕ) (p : List ℤ) (fuel : ℕ) (t : Tally)
    → turns body program budget place p (suc fuel) t
    ≡ tested program t (test t.state.cells p) (λ u. then_out (body u) λ w. then_out (paid budget place w) λ z. turns body program budget place p fuel z) (λ u. on u)
unfolding turns
turns_more body program budget place p fuel t = refl

-- ---- a statement whose step is paid; one that holds no block is told once for all its verbs

pub data Simple : Verb → Type 0 where
  is-skip : Simple skip
  is-assign : Simple assign
  is-new : Simple new
  is-always : Simple always
  is-once : Simple once
  is-always-same : Simple always_same
  is-once-same : Simple once_same

module _ (block : List ℤ → Tally → Out) (past : List ℤ → List ℤ) (program : List ℤ) (budget : ℕ) (p : List ℤ) (t : Tally) where
  pub verb-simple : (v : Verb) → Simple v → do_verb block past program budget p v t ≡ taken program t (do_simple program p t.state t.unread v)
  unfolding do_verb
  verb-simple skip is-skip = refl
  verb-simple assign is-assign = refl
  verb-simple new is-new = refl
  verb-simple always is-always = refl
  verb-simple once is-once = refl
  verb-simple always_same is-always-same = refl
  verb-simple once_same is-once-same = refl
  verb-simple branch i = elim i [ ]
  verb-simple loop i = elim i [ ]
  verb-simple no_verb i = elim i [ ]

  -- a word that is no verb is refused as a simple statement that is none
  pub verb-none : do_verb block past program budget p no_verb t ≡ taken program t (do_simple program p t.state t.unread no_verb)
  unfolding do_verb taken do_simple
  verb-none = refl

  pub verb-branch : do_verb block past program budget p branch t
      ≡ tested program t (test t.state.cells (drop 1 p)) (λ u. block (past_test p) u) (λ u. block (past (past_test p)) u)
  unfolding do_verb
  verb-branch = refl

  pub verb-loop : do_verb block past program budget p loop t ≡ turns (λ u. block (past_test p) u) program budget (position_of program p) (drop 1 p) (suc budget) t
  unfolding do_verb
  verb-loop = refl

  pub statement-is : do_statement block past program budget p t ≡ then_out (paid budget (position_of program p) t) (λ u. do_verb block past program budget p (verb_of (number_at p 0)) u)
  unfolding do_statement
  statement-is = refl

module _ (block : List ℤ → Tally → Out) (d : ℕ) (program : List ℤ) (budget : ℕ) (p : List ℤ) (t : Tally) where
  pub statements-none : do_statements block d program budget 0 p t ≡ on t
  unfolding do_statements
  statements-none = refl

  pub statements-more : (n : ℕ) → do_statements block d program budget (suc n) p t
      ≡ then_out (do_statement block (λ q. after (read_block d q)) program budget p t) (λ u. do_statements block d program budget n (after (read_statement d p)) u)
  unfolding do_statements
  statements-more n = refl

module _ (program : List ℤ) (budget : ℕ) (p : List ℤ) (t : Tally) where
  pub block_none : do_block 0 program budget p t ≡ end 2 (position_of program p) t
  unfolding do_block
  block_none = refl

  pub block-unfit : (d : ℕ) → 255 < number_at p 0 → do_block (suc d) program budget p t ≡ end 2 (position_of program p) t
  unfolding do_block
  block-unfit d h = rw (number-high 0 255 p (omega arith) h, do_block)

  pub block-is : (d : ℕ) → number_at p 0 ≤ 255
      → do_block (suc d) program budget p t ≡ do_statements (λ q u. do_block d program budget q u) d program budget (number_at p 0) (drop 1 p) t
  unfolding do_block
  block-is d h = rw (number_fits_lem 0 255 p (omega arith) h, do_block)
