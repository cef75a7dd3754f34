-- What is kept still holds after an assignment and after a new.
-- Assumes nothing.
use Rattle.std.specs.Prelude.{Some}
use mathlib.Core.Path.{◌≡◌, ap, ◌∙◌}
use mathlib.Core.Bool.{Bool, true, false, not, ◌&&◌, ◌||◌}
use mathlib.Core.List.{List}
use Prim.Native.Nat.{ℕ, zero, suc, ◌<◌}
use native.Mathlib.Omega.{arith}
use lib.IntN.{ℤ, ◌+ℤ◌, ◌-ℤ◌, ◌*ℤ◌}
use lib.ListN.{drop}
use lib.Signed.{lt_z, le_z}
use Rattle.words.specs.Words.{word_at, number_at}
use Rattle.words.specs.Range.{fits}
use Rattle.words.specs.Answer.{got}
use Rattle.words.proofs.AnswerLaws.{stop≢got, got-inj, step, tested}
use Rattle.tables.specs.declared.Value.{Value}
use Rattle.tables.specs.declared.Value.TheVariants.{Bool as Truth, Int, Ref}
use Rattle.tables.specs.Values.{cell_of}
use Rattle.tables.specs.Cells.{Cells}
use Rattle.tables.specs.Records.{record_count}
use Rattle.fit.specs.Fit.{cell_fits, Fit}
use Rattle.fit.proofs.CellFits.{cell-fits}
use Rattle.fit.proofs.FitLaws.{fit-count-word, fit-ref}
use Rattle.program.specs.Forms.{operators, expression_depth}
use Rattle.program.specs.Forms.{form_of}
use Rattle.program.specs.declared.Form.{Form}
use Rattle.program.specs.declared.Form.TheVariants.{Nil as a_nil, False as a_false, True as a_true, Integer as an_integer, Path as a_path, Operation as an_operation, Identity as an_identity, Unknown as no_form}
use Rattle.program.specs.Reading.{number, any_word, read_path, after}
use Rattle.program.specs.declared.Operator.{Operator}
use Rattle.program.specs.declared.Operator.TheVariants.{Plus, Minus, Times, Below, AtMost, Equal, Unequal, AtLeast, Above, And, Or, Unknown}
use Rattle.rules.specs.State.{State, Res, reads, slot_at}
use Rattle.rules.specs.Paths.{way_at, value_at}
use Rattle.rules.specs.Evaluation.{op_of, takes, kind_of, int_of, bool_of, same, ranged, made, apply, at, evaluate_form, evaluate}
use Rattle.rules.specs.Identities.{identity_phase}
use Rattle.rules.specs.Steps.Phases.{by_path, as_before}
use Rattle.rules.specs.Proposals.{settle}
use Rattle.rules.specs.Statements.{Left, value_phase, do_assign}
use Rattle.rules.specs.Steps.Holds.{Holds}
use Rattle.rules.proofs.WordSteps.{at-got}
use Rattle.rules.proofs.HoldLaws.{Half, half_of, settle-half, settle-values}
use Rattle.rules.proofs.IdentitiesAfter.{value_of}
use Rattle.rules.proofs.PhaseHolds.{phase-half}

-- ---- a reference that an expression gives is to a record that is there

abbrev pub There : Cells → Value → Type 0
There S v = (r : ℕ) → v ≡ Ref r → r < record_count S.heap

module _ (S : Cells) (fit : Fit S) where
  not-ref : {v w : Value} → v ≡ w → ((r : ℕ) → v ≡ Ref r → ◌≡◌ {A = ℕ} 0 1) → There S w
  not-ref e n r q = let z = n r (e ∙ q) in absurd (let y : ⊥ = omega arith in y)

  int-there : (z : ℤ) {v : Value} → Int z ≡ v → There S v
  int-there z e = not-ref e (λ r q. cc)

  truth-there : (b : Bool) {v : Value} → Truth b ≡ v → There S v
  truth-there b e = not-ref e (λ r q. cc)

  ranged-there : (z : ℤ) (v : Value) → ranged z ≡ got v → There S v
  unfolding ranged
  ranged-there z v e = tested 9 (fits z) _ e λ c k. int-there z (got-inj k)

  made-there : (o : Operator) (a b v : Value) → made o a b ≡ got v → There S v
  unfolding made
  made-there Plus a b v e = ranged-there (int_of a +ℤ int_of b) v e
  made-there Minus a b v e = ranged-there (int_of a -ℤ int_of b) v e
  made-there Times a b v e = ranged-there (int_of a *ℤ int_of b) v e
  made-there Below a b v e = truth-there (lt_z (int_of a) (int_of b)) (got-inj e)
  made-there AtMost a b v e = truth-there (le_z (int_of a) (int_of b)) (got-inj e)
  made-there Equal a b v e = truth-there (same a b) (got-inj e)
  made-there Unequal a b v e = truth-there (not (same a b)) (got-inj e)
  made-there AtLeast a b v e = truth-there (le_z (int_of b) (int_of a)) (got-inj e)
  made-there Above a b v e = truth-there (lt_z (int_of b) (int_of a)) (got-inj e)
  made-there And a b v e = truth-there (bool_of a && bool_of b) (got-inj e)
  made-there Or a b v e = truth-there (bool_of a || bool_of b) (got-inj e)
  made-there Unknown a b v e = stop≢got e

  value_there : (p : List ℤ) (x : Value × List ℤ) → value_at S p ≡ got x → There S x.0
  unfolding slot_at
  value_there p x e r q = value_of S p x e λ w e1 h k. fit-ref S fit w.cell r (h ∙ ap Some q)

  fst-is : {v : Value} {q : List ℤ} {x : Value × List ℤ} → ◌≡◌ {A = Res (Value × List ℤ)} (got (v, q)) (got x) → v ≡ x.0
  fst-is e = ap (λ (y : Value × List ℤ). y.0) (got-inj e)

  form-there : (go : List ℤ → Res (Value × List ℤ)) (p : List ℤ) (f : Form) (x : Value × List ℤ) → evaluate_form go S p f ≡ got x → There S x.0
  unfolding evaluate_form apply
  form-there go p a_nil x e = not-ref (fst-is e) (λ r q. cc)
  form-there go p a_false x e = truth-there false (fst-is e)
  form-there go p a_true x e = truth-there true (fst-is e)
  form-there go p an_integer x e = step (reads (any_word (drop 1 p))) _ e λ q e1 k1. int-there (word_at (drop 1 p) 0) (fst-is k1)
  form-there go p a_path x e = value_there (drop 1 p) x e
  form-there go p an_operation x e =
      step (reads (number 1 operators (drop 1 p))) _ e λ o e1 k1.
      step (go o.1) _ k1 λ a e2 k2.
      step (go a.1) _ k2 λ b e3 k3.
      step (at p (apply (op_of o.0) a.0 b.0)) _ k3 λ v e4 k4.
      let h = at-got p (apply (op_of o.0) a.0 b.0) e4 in
      tested 8 (takes (op_of o.0) (kind_of a.0) (kind_of b.0)) _ h λ c k5.
      rw (← fst-is k4) (made-there (op_of o.0) a.0 b.0 v k5)
  form-there go p an_identity x e =
      step (value_at S (drop 1 p)) _ e λ a e1 k1.
      step (value_at S a.1) _ k1 λ b e2 k2.
      truth-there (same a.0 b.0) (fst-is k2)
  form-there go p no_form x e = stop≢got e

  pub evaluate-there : (d : ℕ) (p : List ℤ) (x : Value × List ℤ) → evaluate d S p ≡ got x → There S x.0
  unfolding evaluate
  evaluate-there zero p x e = stop≢got e
  evaluate-there (suc d) p x e = form-there (λ q. evaluate d S q) p (form_of (number_at p 0)) x e

  pub there-fits : (v : Value) → There S v → cell_fits (word_at S.heap 0) (cell_of v) ≡ true
  there-fits v h = rw (fit-count-word S fit) (cell-fits (record_count S.heap) v h)

-- ---- the value phase

module _ (program p : List ℤ) (S : State) (ws : List ℤ) (l : Left) (holds : Holds program S) where
  pub value-holds : (target : ℕ) (Z : Cells) → Half program S.kept Z → value_phase program S.kept p target Z ws ≡ got l → Holds program l.state
  unfolding value_phase
  value-holds target Z half e =
      step (settle program S.kept _ p Z ws) _ e λ x e1 k1.
      let half' = settle-half program S.kept _ p Z ws x.0 x.1 half e1 in
      rw (← got-inj k1) (record {
        fit = half'.fit;
        long = holds.long;
        stands = holds.stands;
        values = settle-values program S.kept _ p Z ws x.0 x.1 half e1;
        identities = half'.identities;
      })

  pub assign-holds : do_assign program p S ws ≡ got l → Holds program l.state
  unfolding do_assign
  assign-holds e =
      step (evaluate expression_depth S.cells (after (read_path (drop 1 p)))) _ e λ x e1 k1.
      step (way_at S.cells (drop 1 p)) _ k1 λ w e2 k2.
      step (identity_phase program S.kept S.cells S.cells p w.cell w.prefix x.0) _ k2 λ Z e3 k3.
      let t = evaluate-there S.cells holds.fit expression_depth (after (read_path (drop 1 p))) x e1 in
      value-holds w.cell Z
      (phase-half program S.kept S.cells S.cells p w.cell w.prefix x.0 Z (half_of holds) as_before (by_path (drop 1 p) w e2)
      e3 holds.fit t) k3
