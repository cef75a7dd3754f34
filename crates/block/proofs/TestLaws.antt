-- How the tests of if and while came out does not matter for what a run comes to. Assumes nothing.
use mathlib.Core.Path.{◌≡◌, refl, sym, ap, ◌∙◌}
use mathlib.Core.Bool.{Bool, true, false}
use mathlib.Core.List.{List}
use Prim.Native.Nat.{ℕ, zero, suc, ◌<◌}
use native.Mathlib.Omega.{arith}
use native.Mathlib.Decide.{dec_lt}
use lib.IntN.{ℤ}
use lib.ListN.{drop}
use Rattle.words.specs.Words.{number_at}
use Rattle.words.specs.Answer.{got, stop}
use Rattle.program.specs.Forms.{verb_of}
use Rattle.program.specs.declared.Verb.{Verb}
use Rattle.program.specs.declared.Verb.TheVariants.{Skip as skip, Assign as assign, New as new, Always as always, Once as once, AlwaysSame as always_same, OnceSame as once_same, If as branch, While as loop, Unknown as no_verb}
use Rattle.program.specs.Reading.{read_block, read_statement, after}
use Rattle.rules.specs.State.{Res}
use Rattle.rules.specs.Statements.{Left, position_of, do_simple}
use Rattle.rules.specs.Running.{Tally, Out, on, end, then_out, paid, taken, noted, test, tested, turns, past_test, do_verb, do_statement, do_statements, do_block}
use Rattle.rules.proofs.RunningClauses.{paid-on, paid-ends, taken-got, taken-stop, tested-true, tested-false, tested-stop, turns-none, turns_more}
use Rattle.rules.proofs.RunningClauses.{Simple, is-skip, is-assign, is-new, is-always, is-once, is-always-same, is-once-same}
use Rattle.rules.proofs.RunningClauses.{verb-simple, verb-none, verb-branch, verb-loop, statement-is, statements-none, statements-more, block_none, block-unfit, block-is}
use Rattle.lent.specs.Tallied.{untold, untold_out}

-- a piece that comes to the same, but for the tests, whatever tests came before it
pub record Forgets (f : Tally → Out) : Type 0 where
  pub same : (t : Tally) → untold_out (f t) ≡ untold_out (f (untold t))

module _ {f : Tally → Out} (h : Forgets f) where
  -- what comes after a piece may begin without the tests
  pub then-untold : (o : Out) → untold_out (then_out o f) ≡ untold_out (then_out (untold_out o) f)
  then-untold (on t) = h.same t
  then-untold (end n place t) = refl

  pub then-forgets : {g : Tally → Out} → Forgets g → Forgets (λ t. then_out (g t) f)
  then-forgets {g} k =
      record { same = λ t. then-untold (g t) ∙ ap (λ (o : Out). untold_out (then_out o f)) (k.same t) ∙ sym (then-untold (g (untold t))) }

pub on-forgets : Forgets (λ t. on t)
on-forgets = record { same = λ t. refl }

pub paid-forgets : (budget place : ℕ) → Forgets (λ t. paid budget place t)
paid-forgets budget place = record { same = λ t. go t (dec_lt t.steps budget) }
  where
    go : (t : Tally) → Dec (t.steps < budget) → untold_out (paid budget place t) ≡ untold_out (paid budget place (untold t))
    go t (yes y) = rw (paid-on budget place t y, paid-on budget place (untold t) y)
    go t (no n) = rw (paid-ends budget place t (omega arith), paid-ends budget place (untold t) (omega arith))

pub taken-untold : (program : List ℤ) (t : Tally) (m : Res Left) → untold_out (taken program t m) ≡ untold_out (taken program (untold t) m)
taken-untold program t (got l) = rw (taken-got program t l, taken-got program (untold t) l)
taken-untold program t (stop f) = rw (taken-stop program t f, taken-stop program (untold t) f)

pub tested-untold : (program : List ℤ) (t : Tally) (m : Res Bool) {f g : Tally → Out} → Forgets f → Forgets g
    → untold_out (tested program t m f g) ≡ untold_out (tested program (untold t) m f g)
tested-untold program t (got true) {f} {g} h k =
    rw (tested-true program t f g, tested-true program (untold t) f g) (h.same (noted true t) ∙ sym (h.same (noted true (untold t))))
tested-untold program t (got false) {f} {g} h k =
    rw (tested-false program t f g, tested-false program (untold t) f g) (k.same (noted false t) ∙ sym (k.same (noted false (untold t))))
tested-untold program t (stop e) {f} {g} h k = rw (tested-stop program t e f g, tested-stop program (untold t) e f g)

module _ {body : Tally → Out} (h : Forgets body) (program : List ℤ) (budget place : ℕ) (p : List ℤ) where
  -- a turn whose test is true, and the later ones
  turn-then : (fuel : ℕ) → Forgets (λ t. turns body program budget place p fuel t)
      → Forgets (λ u. then_out (body u) λ w. then_out (paid budget place w) λ z. turns body program budget place p fuel z)
  turn-then fuel k = then-forgets (then-forgets k (paid-forgets budget place)) h

  pub turns-forget : (fuel : ℕ) → Forgets (λ t. turns body program budget place p fuel t)
  turns-forget zero = record { same = λ t. rw (turns-none body program budget place p t, turns-none body program budget place p (untold t)) }
  turns-forget (suc fuel) =
      record {
        same = λ t.
            rw (turns_more body program budget place p fuel t, turns_more body program budget place p fuel (untold t))
            (tested-untold program t (test t.state.cells p) (turn-then fuel (turns-forget fuel)) on-forgets);
      }

  pub turn-forgets : (fuel : ℕ) → Forgets (λ u. then_out (body u) λ w. then_out (paid budget place w) λ z. turns body program budget place p fuel z)
  turn-forgets fuel = turn-then fuel (turns-forget fuel)

module _ (block : List ℤ → Tally → Out) (h : (q : List ℤ) → Forgets (λ t. block q t)) (past : List ℤ → List ℤ) (program : List ℤ) (budget : ℕ) where
  simple-untold : (p : List ℤ) (v : Verb) (t : Tally) → Simple v
      → untold_out (do_verb block past program budget p v t) ≡ untold_out (do_verb block past program budget p v (untold t))
  simple-untold p v t s =
      rw (verb-simple block past program budget p t v s, verb-simple block past program budget p (untold t) v s)
      (taken-untold program t (do_simple program p t.state t.unread v))

  verb-untold : (p : List ℤ) (v : Verb) (t : Tally) → untold_out (do_verb block past program budget p v t) ≡ untold_out (do_verb block past program budget p v (untold t))
  verb-untold p skip t = simple-untold p skip t is-skip
  verb-untold p assign t = simple-untold p assign t is-assign
  verb-untold p new t = simple-untold p new t is-new
  verb-untold p always t = simple-untold p always t is-always
  verb-untold p once t = simple-untold p once t is-once
  verb-untold p always_same t = simple-untold p always_same t is-always-same
  verb-untold p once_same t = simple-untold p once_same t is-once-same
  verb-untold p branch t =
      rw (verb-branch block past program budget p t, verb-branch block past program budget p (untold t))
      (tested-untold program t (test t.state.cells (drop 1 p)) (h (past_test p)) (h (past (past_test p))))
  verb-untold p loop t =
      rw (verb-loop block past program budget p t, verb-loop block past program budget p (untold t))
      ((turns-forget (h (past_test p)) program budget (position_of program p) (drop 1 p) (suc budget)).same t)
  verb-untold p no_verb t =
      rw (verb-none block past program budget p t, verb-none block past program budget p (untold t))
      (taken-untold program t (do_simple program p t.state t.unread no_verb))

  pub verb-forgets : (p : List ℤ) (v : Verb) → Forgets (λ t. do_verb block past program budget p v t)
  verb-forgets p v = record { same = verb-untold p v }

  pub statement-forgets : (p : List ℤ) → Forgets (λ t. do_statement block past program budget p t)
  statement-forgets p =
      record {
        same = λ t.
            rw (statement-is block past program budget p t, statement-is block past program budget p (untold t))
            ((then-forgets (verb-forgets p (verb_of (number_at p 0))) (paid-forgets budget (position_of program p))).same t);
      }

module _ (block : List ℤ → Tally → Out) (h : (q : List ℤ) → Forgets (λ t. block q t)) (d : ℕ) (program : List ℤ) (budget : ℕ) where
  pub statements-forget : (n : ℕ) (p : List ℤ) → Forgets (λ t. do_statements block d program budget n p t)
  statements-forget zero p = record { same = λ t. rw (statements-none block d program budget p t, statements-none block d program budget p (untold t)) }
  statements-forget (suc n) p =
      record {
        same = λ t.
            rw (statements-more block d program budget p t n, statements-more block d program budget p (untold t) n)
            ((then-forgets (statements-forget n (after (read_statement d p))) (statement-forgets block h (λ q. after (read_block d q)) program budget p)).same t);
      }

pub block-forgets : (d : ℕ) (program : List ℤ) (budget : ℕ) (p : List ℤ) → Forgets (λ t. do_block d program budget p t)
block-forgets zero program budget p = record { same = λ t. rw (block_none program budget p t, block_none program budget p (untold t)) }
block-forgets (suc d) program budget p = record { same = λ t. go t (dec_lt 255 (number_at p 0)) (λ q. block-forgets d program budget q) }
  where
    go : (t : Tally) → Dec (255 < number_at p 0) → ((q : List ℤ) → Forgets (λ u. do_block d program budget q u))
        → untold_out (do_block (suc d) program budget p t) ≡ untold_out (do_block (suc d) program budget p (untold t))
    go t (yes y) h = rw (block-unfit program budget p t d y, block-unfit program budget p (untold t) d y)
    go t (no n) h =
        rw (block-is program budget p t d (omega arith), block-is program budget p (untold t) d (omega arith))
        ((statements-forget (λ q u. do_block d program budget q u) h d program budget (number_at p 0) (drop 1 p)).same t)
