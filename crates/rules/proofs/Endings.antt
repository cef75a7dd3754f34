-- Where the rules end a run: at a step that is not paid, at a statement that is refused, at a test that is. Assumes nothing.
use mathlib.Core.Path.{◌≡◌, refl, ◌∙◌}
use Prim.Native.Nat.{ℕ, ◌≤◌, ◌<◌}
use native.Mathlib.Omega.{arith}
use native.Mathlib.Decide.{ℕ_discrete}
use mathlib.Core.Bool.{true, false}
use mathlib.Core.List.{List, ◌∷◌, ◌++◌}
use lib.IntN.{ℤ, pos}
use Rattle.words.specs.Words.{number_at}
use Rattle.words.specs.Answer.{stop}
use Rattle.words.proofs.Laws.{number-first}
use Rattle.program.specs.Forms.{expression_depth, verb_of}
use Rattle.program.specs.declared.Verb.TheVariants.{If as branch, While as loop}
use Rattle.program.specs.Grammar.{Expression, Takes}
use Rattle.program.proofs.FormLaws.{number_of_verb}
use Rattle.rules.specs.State.{Fault}
use Rattle.rules.specs.Identities.{member}
use Rattle.rules.specs.Statements.{position_of, place_of}
use Rattle.rules.specs.Running.{Tally, Out, on, end, test}
use Rattle.rules.specs.Steps.Holds.{Holds, StatementThere}
use Rattle.rules.specs.Steps.ByVerb.{refusals}
use Rattle.rules.specs.Rules.Expressions.{Untested}
use Rattle.rules.specs.Rules.Statements.{Refused}
use Rattle.rules.specs.Rules.Runs.{Code, Runs}
use Rattle.rules.specs.Rules.Runs.{r_block, r_none, r_some, r_unpaid, r_ended, r_simple, r_refused, r_then, r_else, r_no_if}
use Rattle.rules.specs.Rules.Runs.{r_while, r_stop, r_go, r_no_turn, r_broken, r_no_while}
use Rattle.rules.proofs.ClassLaws.{member-head, member-tail}
use Rattle.rules.proofs.KeptReading.{Listed, tests-read}
use Rattle.rules.proofs.StatementWords.{statement-verb}
use Rattle.rules.proofs.RefusedPieces.{untested-complete}
use Rattle.rules.proofs.RefusedRules.{stops-listed, refused-rule}
use Rattle.rules.proofs.ProgramCode.{in_block, in_some, in-there}
use Rattle.rules.proofs.RunRules.{Known, value-rest, refused-low, as-simple, as-branch, as-loop, same-statement, same_block}

module _ (program : List ℤ) (budget : ℕ) where
  -- at the statement at p; the tally is that of the last accepted statement, so that its state is the one in which the statement or the test is refused
  pub data Ends (u : Tally) : List ℤ → ℕ → ℕ → Type 0 where
    unpaid : {p : List ℤ} → StatementThere program p → Ends u p 5 (position_of program p)
    refuses : {f : Fault} {p : List ℤ} → StatementThere program p → number_of_verb (verb_of (number_at p 0)) < 7 → Refused program u.state u.unread p f → Ends u p f.number (place_of program f)
    untested : {verb : ℕ} {f : Fault} {p q : List ℤ} → StatementThere program (pos verb ∷ p) → 7 ≤ verb → verb ≤ 8 → Takes (Expression false expression_depth) p q
        → Untested u.state.cells false p p f → Ends u (pos verb ∷ p) f.number (place_of program f)

  abbrev EndsIn : Out → Type 0
  EndsIn (on u) = Unit {0}
  EndsIn (end n place u) = (p : List ℤ) × Ends u p n place

  pub runs-end : {c : Code} {t : Tally} {o : Out} → Runs program budget c t o → Known program budget c → EndsIn o
  runs-end (r_block few r) (in_block few' x) = runs-end r x
  runs-end r_none x = tt
  runs-end (r_some l r k z) (in_some x k' y) = runs-end z (rw (same-statement program budget k' k) at y)
  runs-end (r_unpaid h) (in_some x k y) = (_, unpaid (in-there x))
  runs-end (r_ended l r) (in_some x k y) = runs-end r x
  runs-end (r_simple s) x = tt
  runs-end (r_refused s) x = as-simple program budget x (refused-low program budget s) λ here low. (_, refuses here low s)
  runs-end (r_then w r) x = as-branch program budget x refl λ q' r' v k j y z. runs-end r (rw (value-rest k w) y)
  runs-end (r_else w i r) x = as-branch program budget x refl λ q' r' v k j y z. runs-end r (rw (same_block program budget j (rw (value-rest k w) at i)) at z)
  runs-end (r_no_if u) x = as-branch program budget x refl λ q r v k j y z. (_, untested (in-there x) (omega arith) (omega arith) k u)
  runs-end (r_while r) x = as-loop program budget x refl λ q v k y. runs-end r (in-there x, (q, (k, y)))
  runs-end (r_stop w) x = tt
  runs-end (r_go w r l z) x = runs-end z x
  runs-end (r_no_turn w r h) (here, x) = (_, unpaid here)
  runs-end (r_broken w r) (here, (q', (k, x))) = runs-end r (rw (value-rest k w) x)
  runs-end (r_no_while u) (here, (q', (k, x))) = (_, untested here (omega arith) (omega arith) k u)

  -- ---- of the statement that ends it

  pub ends_there : {u : Tally} {p : List ℤ} {n place : ℕ} → Ends u p n place → StatementThere program p
  ends_there (unpaid here) = here
  ends_there (refuses here low r) = here
  ends_there (untested here a b t x) = here

  -- its number is 5 or one of its verb's
  pub ends-listed : {u : Tally} {p : List ℤ} {n place : ℕ} → Holds program u.state → Ends u p n place → member n (5 ∷ refusals (verb_of (number_at p 0))) ≡ true
  ends-listed hold (unpaid {p = p} here) = member-head 5 5 (refusals (verb_of (number_at p 0))) refl
  ends-listed {u} hold (refuses {f = f} {p = p} here low r) =
      member-tail f.number 5 (refusals (verb_of (number_at p 0)))
      (stops-listed program u.state u.unread hold p here.statement low f ((refused-rule program p u.state u.unread here.statement hold low f).1 r))
  ends-listed {u} hold (untested {verb = verb} {f = f} {p = p} {q = q} here a b t x) =
      member-tail f.number 5 (refusals (verb_of (number_at (pos verb ∷ p) 0))) (go (ℕ_discrete verb 7))
    where
      e : test u.state.cells (t.words ++ q) ≡ stop f
      e = rw t.split at (untested-complete u.state.cells p x)

      go : Dec (verb ≡ 7) → Listed (verb_of (number_at (pos verb ∷ p) 0)) f.number
      go (yes i) =
          rw (statement-verb (pos verb ∷ p) here.statement branch (number-first (pos verb) p ∙ i))
          ((tests-read program branch (omega arith) (omega arith) t.piece q u.state.cells).bad f e)
      go (no i) =
          let j : verb ≡ 8 = omega arith in
          rw (statement-verb (pos verb ∷ p) here.statement loop (number-first (pos verb) p ∙ j))
          ((tests-read program loop (omega arith) (omega arith) t.piece q u.state.cells).bad f e)
