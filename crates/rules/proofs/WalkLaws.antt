-- What every statement keeps, a run keeps, wherever it stops: a run meets only statements of its program. Assumes nothing.
use mathlib.Core.Path.{◌≡◌, refl}
use mathlib.Core.Bool.{Bool, true, false}
use mathlib.Core.List.{List, ◌∷◌}
use Prim.Native.Nat.{ℕ, zero, suc, ◌≤◌, ◌<◌}
use borrow.Author.Tests.{ltb-true}
use lib.Dec.{ltb}
use lib.IntN.{ℤ, pos}
use lib.ListN.{length}
use Rattle.words.specs.Words.{number_at}
use Rattle.words.specs.Answer.{got, stop}
use Rattle.tables.proofs.SearchLaws.{cases}
use Rattle.program.specs.Forms.{verb_of}
use Rattle.program.specs.Grammar.{block_of, Yields}
use Rattle.rules.specs.State.{Res}
use Rattle.rules.specs.Statements.{Left, position_of, do_simple}
use Rattle.rules.specs.Running.{Tally, Out, on, end, then_out, one_more, paid, leaves, taken, noted, test, tested, turns, do_verb, do_statement, do_statements, do_block}
use Rattle.rules.specs.Steps.Holds.{StatementThere}
use Rattle.rules.specs.Rules.Runs.{Code, block, statement, turning, statements}
use Rattle.rules.proofs.ProgramCode.{InProgram, in_block, in-none, in_some, in-simple, in-branch, in-loop}
use Rattle.rules.proofs.ProgramCode.{does, block-opens, simple-is, past, past-block, past-statement, program-of}

-- the tally with which a piece goes on or ends
abbrev pub tally_of : Out → Tally
tally_of (on t) = t
tally_of (end n place t) = t

-- what is carried: Inv between statements, Paid inside one, whose step is paid
pub record Kept (program : List ℤ) (budget : ℕ) (Inv Paid : Tally → Type 0) : Type 0 where
  pub pays : (t : Tally) → Inv t → t.steps < budget → Paid (one_more t)
  pub frees : (t : Tally) → Paid t → Inv t
  pub notes : (b : Bool) (t : Tally) → Paid t → Paid (noted b t)
  pub simple : (p : List ℤ) → StatementThere program p → (t : Tally) → Paid t → (l : Left) → do_simple program p t.state t.unread (verb_of (number_at p 0)) ≡ got l → Inv (leaves l t)

module _ (program : List ℤ) (budget : ℕ) (short : length program ≤ 4096) (Inv Paid : Tally → Type 0) (kept : Kept program budget Inv Paid) where
  -- f, which begins where P holds, leaves what is carried
  abbrev Keeps : (Tally → Type 0) → (Tally → Out) → Type 0
  Keeps P f = (t : Tally) → P t → Inv (tally_of (f t))

  then_keeps : (o : Out) (f : Tally → Out) → Inv (tally_of o) → Keeps Inv f → Inv (tally_of (then_out o f))
  then_keeps (on t) f a k = k t a
  then_keeps (end n place t) f a k = a

  paid-keeps : (place : ℕ) (f : Tally → Out) → Keeps Paid f → Keeps Inv (λ t. then_out (paid budget place t) f)
  unfolding paid
  paid-keeps place f k t a = cases (ltb t.steps budget) (λ c. rw (c, paid) (k (one_more t) (kept.pays t a (ltb-true t.steps budget c)))) (λ c. rw (c, paid) a)

  taken-keeps : (t : Tally) (r : Res Left) → Paid t → ((l : Left) → r ≡ got l → Inv (leaves l t)) → Inv (tally_of (taken program t r))
  unfolding taken
  taken-keeps t (got l) a k = k l refl
  taken-keeps t (stop f) a k = kept.frees t a

  tested-keeps : (t : Tally) (r : Res Bool) (f g : Tally → Out) → Paid t → Keeps Paid f → Keeps Paid g → Inv (tally_of (tested program t r f g))
  unfolding tested
  tested-keeps t (got true) f g a x y = x (noted true t) (kept.notes true t a)
  tested-keeps t (got false) f g a x y = y (noted false t) (kept.notes false t a)
  tested-keeps t (stop e) f g a x y = kept.frees t a

  turns_keeps : (body : Tally → Out) (place : ℕ) (p : List ℤ) → Keeps Inv body → (fuel : ℕ) → Keeps Paid (λ t. turns body program budget place p fuel t)
  unfolding turns
  turns_keeps body place p k zero t a = kept.frees t a
  turns_keeps body place p k (suc fuel) t a =
      tested-keeps t (test t.state.cells p) _ _ a
      (λ u x. then_keeps (body u) _ (k u (kept.frees u x)) (paid-keeps place _ (turns_keeps body place p k fuel)))
      (λ u x. kept.frees u x)

  -- what a piece begins with
  abbrev Begins : Code → Tally → Type 0
  Begins (block d p) t = Inv t
  Begins (statement d p) t = Paid t
  Begins (turning d p) t = Paid t
  Begins (statements d n p) t = Inv t

  -- each piece of the program leaves what is carried
  keeps : {c : Code} → InProgram program c → Keeps (Begins c) (λ t. does program budget c t)
  unfolding do_statements do_statement do_verb
  keeps (in_block {d = d} {n = n} {p = p} few x) t a = rw (block-opens program budget d n p t few) (keeps x t a)
  keeps in-none t a = a
  keeps (in_some {d = d} {n = n} {p = p} {q = q} x k y) t a =
      rw (past-statement k)
      (then_keeps (then_out (paid budget (position_of program p) t) (λ u. does program budget (statement d p) u)) (λ u. does program budget (statements d n q) u)
      (paid-keeps (position_of program p) (λ u. does program budget (statement d p) u) (λ u b. keeps x u b) t a)
      λ u b. keeps y u b)
  keeps (in-simple {d = d} {p = p} here low) t a =
      rw (simple-is program budget d p t low)
      (taken-keeps t (do_simple program p t.state t.unread (verb_of (number_at p 0))) a (λ l k. kept.simple p here t a l k))
  keeps (in-branch {p = p} h s v k j x y) t a =
      rw v (rw s (rw (past k, past-block j)
      (tested-keeps t (test t.state.cells p) _ _ a (λ u b. keeps x u (kept.frees u b)) (λ u b. keeps y u (kept.frees u b)))))
  keeps (in-loop {p = p} h s v k x) t a =
      rw v (rw s (rw (past k) (turns_keeps _ (position_of program (pos 8 ∷ p)) p (λ u b. keeps x u b) (suc budget) t a)))

  -- the whole program
  pub program-keeps : Yields (block_of 8) program → (t : Tally) → Inv t → Inv (tally_of (do_block 8 program budget program t))
  program-keeps y t a = keeps (program-of program (record { yields = y; short = short })) t a
