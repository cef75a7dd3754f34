-- Two accepted runs of a statement that holds no block, from states of one structure, leave states of one structure.
-- Assumes nothing.
use mathlib.Core.Path.{◌≡◌, refl, sym, ◌∙◌}
use mathlib.Core.Bool.{Bool, true, false, cond}
use mathlib.Core.List.{List, []}
use Rattle.std.specs.Prelude.{None, Some}
use Prim.Native.Nat.{ℕ, ◌-◌, ◌<◌, ◌≤◌}
use borrow.Author.Tests.{ltb-true}
use lib.Dec.{ltb}
use lib.IntN.{ℤ}
use lib.ListN.{drop}
use Rattle.words.specs.Answer.{got}
use Rattle.words.proofs.AnswerLaws.{stop≢got, got-inj, step, step-on, tested}
use Rattle.tables.specs.declared.Value.TheVariants.{Ref}
use Rattle.tables.specs.declared.Sort.TheVariants.{Values, Identities}
use Rattle.tables.specs.Sizes.{variables, most_fields, most_records}
use Rattle.tables.specs.Cells.{Cells, cells, Sized}
use Rattle.tables.specs.Records.{record_count, with_record}
use Rattle.program.specs.Forms.{expression_depth}
use Rattle.program.specs.declared.Verb.{Verb}
use Rattle.program.specs.declared.Verb.TheVariants.{Skip as skip, Assign as assign, New as new, Always as always, Once as once, AlwaysSame as always_same, OnceSame as once_same, If as branch, While as loop, Unknown as no_verb}
use Rattle.program.specs.Reading.{number, read_path, after}
use Rattle.program.proofs.NumberLaws.{number_read}
use Rattle.rules.specs.State.{State, Res, refused, reads}
use Rattle.rules.specs.Paths.{way_at}
use Rattle.rules.specs.Evaluation.{evaluate}
use Rattle.rules.specs.Identities.{same_now, identity_phase}
use Rattle.rules.specs.Proposals.{Asked, settle}
use Rattle.rules.specs.Statements.{Left, position_of, has_room, keep, value_phase, do_assign, field_words, do_new, do_constraint, do_identity, do_simple}
use Rattle.rules.specs.Structure.{Same, SameState}
use Rattle.rules.proofs.Structure.{Alike, refs, same-sym, same-trans}
use Rattle.rules.proofs.WordSteps.{reads-got}
use Rattle.rules.proofs.SamePaths.{way_same}
use Rattle.rules.proofs.SameValues.{Near, evaluate-near}
use Rattle.rules.proofs.SamePhases.{phase-sized, phase-same, Settled, settle-same}
use Rattle.rules.proofs.SameRecords.{fields-alike, add-sized, new-same}

-- ---- the value phase

record Valued (kept : List ℤ) (S : Cells) (l : Left) : Type 0 where
  settled : Settled S l.state.cells
  kept-is : l.state.kept ≡ kept

valued : (program kept p : List ℤ) (target : ℕ) (S : Cells) (ws : List ℤ) (l : Left) → Sized S → value_phase program kept p target S ws ≡ got l → Valued kept S l
unfolding value_phase
valued program kept p target S ws l z e =
    step (settle program kept (record { own = None; target = Some target; room = true }) p S ws) _ e λ x e1 k1.
    rw (← got-inj k1) (record { settled = settle-same program kept _ p S ws z e1; kept-is = refl })

-- two states of one structure after the identity phase, and what the value phase leaves of each
met : {kept kept' : List ℤ} {X Y : Cells} {l m : Left} → kept ≡ kept' → Same X Y → Valued kept X l → Valued kept' Y m → SameState l.state m.state
met q t a b = record {
  cells = same-trans (same-sym a.settled.same) (same-trans t b.settled.same);
  kept = a.kept-is ∙ q ∙ sym b.kept-is;
}

-- ---- statement by statement

-- what a statement does alone, and what two runs of it leave
pub record Simple (h : State → List ℤ → Res Left) : Type 0 where
  pub sized : (S : State) (ws : List ℤ) (l : Left) → Sized S.cells → h S ws ≡ got l → Sized l.state.cells
  pub two : (S Z : State) (ws us : List ℤ) (l m : Left) → SameState S Z → Sized S.cells → Sized Z.cells → h S ws ≡ got l → h Z us ≡ got m → SameState l.state m.state

keep_same : (b : Bool) {k k' : List ℤ} (f : List ℤ → List ℤ) → k ≡ k' → cond b (f k) k ≡ cond b (f k') k'
keep_same b f q = rw q

-- an identity leaves the cells
identity-simple : (keeps : Bool) (program p : List ℤ) → Simple (λ S ws. do_identity keeps program p S ws)
unfolding do_identity
identity-simple keeps program p = record {
  sized = λ S ws l z e.
      step-on (same_now S.cells p (drop 1 p)) _ e λ x e1 k1.
      tested (refused 14 p) (cond keeps (has_room S.kept Identities (position_of program p)) true) _ k1 λ c2 k2.
      rw (← got-inj k2) z;
  two = λ S Z ws us l m s i j e g.
      step-on (same_now S.cells p (drop 1 p)) _ e λ x e1 k1.
      tested (refused 14 p) (cond keeps (has_room S.kept Identities (position_of program p)) true) _ k1 λ c2 k2.
      step-on (same_now Z.cells p (drop 1 p)) _ g λ y g1 m1.
      tested (refused 14 p) (cond keeps (has_room Z.kept Identities (position_of program p)) true) _ m1 λ d2 m2.
      rw (← got-inj k2, ← got-inj m2)
      (record { cells = s.cells; kept = keep_same keeps (λ k. keep k Identities (position_of program p)) s.kept });
}

-- a constraint reads a proposal, which keeps the structure
constraint-simple : (keeps : Bool) (program p : List ℤ) → Simple (λ S ws. do_constraint keeps program p S ws)
unfolding do_constraint
constraint-simple keeps program p = record {
  sized = λ S ws l z e.
      step (settle program S.kept (asked S.kept) p S.cells ws) _ e λ x e1 k1.
      rw (← got-inj k1) (settle-same program S.kept (asked S.kept) p S.cells ws z e1).sized;
  two = λ S Z ws us l m s i j e g.
      step (settle program S.kept (asked S.kept) p S.cells ws) _ e λ x e1 k1.
      step (settle program Z.kept (asked Z.kept) p Z.cells us) _ g λ y g1 m1.
      rw (← got-inj k1, ← got-inj m1)
      (record {
        cells = same-trans (same-sym (settle-same program S.kept (asked S.kept) p S.cells ws i e1).same)
            (same-trans s.cells (settle-same program Z.kept (asked Z.kept) p Z.cells us j g1).same);
        kept = keep_same keeps (λ k. keep k Values (position_of program p)) s.kept;
      });
}
  where
    asked : List ℤ → Asked
    asked kept = record { own = Some (drop 1 p); target = None; room = cond keeps (has_room kept Values (position_of program p)) true }

-- the tables with one record more
abbrev grown : State → List ℤ → ℕ → Cells
grown S fs n = cells S.cells.environment (with_record S.cells.heap fs n)

few-fields : (q : List ℤ) (n : ℕ × List ℤ) → reads (number 0 most_fields q) ≡ got n → n.0 ≤ 8
few-fields q n e = (number_read 0 most_fields q (reads-got (number 0 most_fields q) e)).most

module _ (program p : List ℤ) where
  assign-simple : Simple (λ S ws. do_assign program p S ws)
  unfolding do_assign
  assign-simple = record {
    sized = λ S ws l z e.
        step (evaluate expression_depth S.cells (after (read_path (drop 1 p)))) _ e λ v e1 k1.
        step (way_at S.cells (drop 1 p)) _ k1 λ w e2 k2.
        step (identity_phase program S.kept S.cells S.cells p w.cell w.prefix v.0) _ k2 λ X e3 k3.
        (valued program S.kept p w.cell X ws l (phase-sized program S.kept S.cells S.cells p w.cell w.prefix v.0 z e3) k3).settled.sized;
    two = λ S Z ws us l m s i j e g.
        step (evaluate expression_depth S.cells (after (read_path (drop 1 p)))) _ e λ v e1 k1.
        step (way_at S.cells (drop 1 p)) _ k1 λ w e2 k2.
        step (identity_phase program S.kept S.cells S.cells p w.cell w.prefix v.0) _ k2 λ X e3 k3.
        step (evaluate expression_depth Z.cells (after (read_path (drop 1 p)))) _ g λ v' g1 m1.
        step (way_at Z.cells (drop 1 p)) _ m1 λ w' g2 m2.
        step (identity_phase program Z.kept Z.cells Z.cells p w'.cell w'.prefix v'.0) _ m2 λ Y g3 m3.
        let q : w ≡ w' = got-inj (sym e2 ∙ way_same S.cells Z.cells s.cells (drop 1 p) ∙ g2) in
        let b : Near v v' = evaluate-near S.cells Z.cells s.cells expression_depth (after (read_path (drop 1 p))) v v' e1 g1 in
        let t : Same X Y = phase-same v.0 v'.0 b.0 S.cells Z.cells s.cells S.cells Z.cells s.cells i j
        program S.kept p w.cell w.prefix w.prefix X Y e3 (rw (s.kept, q) g3) in
        met s.kept t
        (valued program S.kept p w.cell X ws l (phase-sized program S.kept S.cells S.cells p w.cell w.prefix v.0 i e3) k3)
        (valued program Z.kept p w'.cell Y us m (phase-sized program Z.kept Z.cells Z.cells p w'.cell w'.prefix v'.0 j g3) m3);
  }

  new-simple : Simple (λ S ws. do_new program p S ws)
  unfolding do_new
  new-simple = record {
    sized = λ S ws l z e.
        step (reads (number 0 (variables - 1) (drop 1 p))) _ e λ x e1 k1.
        step (reads (number 0 most_fields x.1)) _ k1 λ n e2 k2.
        step (field_words n.0 S.cells n.1) _ k2 λ fs e3 k3.
        tested (refused 10 p) (ltb (record_count S.cells.heap) most_records) _ k3 λ c4 k4.
        step (identity_phase program S.kept S.cells (grown S fs n.0) p x.0 [] (Ref (record_count S.cells.heap))) _ k4 λ X e5 k5.
        (valued program S.kept p x.0 X ws l
        (phase-sized program S.kept S.cells (grown S fs n.0) p x.0 [] (Ref (record_count S.cells.heap)) (add-sized S.cells fs n.0 z) e5) k5).settled.sized;
    two = λ S Z ws us l m s i j e g.
        step (reads (number 0 (variables - 1) (drop 1 p))) _ e λ x e1 k1.
        step (reads (number 0 most_fields x.1)) _ k1 λ n e2 k2.
        step (field_words n.0 S.cells n.1) _ k2 λ fs e3 k3.
        tested (refused 10 p) (ltb (record_count S.cells.heap) most_records) _ k3 λ c4 k4.
        step (identity_phase program S.kept S.cells (grown S fs n.0) p x.0 [] (Ref (record_count S.cells.heap))) _ k4 λ X e5 k5.
        step (reads (number 0 (variables - 1) (drop 1 p))) _ g λ x' g1 m1.
        step (reads (number 0 most_fields x'.1)) _ m1 λ n' g2 m2.
        step (field_words n'.0 Z.cells n'.1) _ m2 λ gs g3 m3.
        tested (refused 10 p) (ltb (record_count Z.cells.heap) most_records) _ m3 λ d4 m4.
        step (identity_phase program Z.kept Z.cells (grown Z gs n'.0) p x'.0 [] (Ref (record_count Z.cells.heap))) _ m4 λ Y g5 m5.
        let q : x ≡ x' = got-inj (sym e1 ∙ g1) in
        let r : n ≡ n' = got-inj (sym e2 ∙ rw q g2) in
        let room : record_count S.cells.heap < 64 = ltb-true (record_count S.cells.heap) 64 c4 in
        let few : n.0 ≤ 8 = few-fields x.1 n e2 in
        let t : Same (grown S fs n.0) (grown Z gs n.0) =
        new-same S.cells Z.cells s.cells i j fs gs n.0 room few (fields-alike S.cells Z.cells s.cells n.0 n.1 fs gs e3 (rw r g3)) in
        let a : Alike (Ref (record_count S.cells.heap)) (Ref (record_count Z.cells.heap)) = rw s.cells.records refs in
        let u : Same X Y = phase-same (Ref (record_count S.cells.heap)) (Ref (record_count Z.cells.heap)) a S.cells Z.cells s.cells
        (grown S fs n.0) (grown Z gs n.0) t (add-sized S.cells fs n.0 i) (add-sized Z.cells gs n.0 j)
        program S.kept p x.0 [] [] X Y e5 (rw (s.kept, r, q) g5) in
        met s.kept u
        (valued program S.kept p x.0 X ws l
        (phase-sized program S.kept S.cells (grown S fs n.0) p x.0 [] (Ref (record_count S.cells.heap)) (add-sized S.cells fs n.0 i) e5) k5)
        (valued program Z.kept p x'.0 Y us m
        (phase-sized program Z.kept Z.cells (grown Z gs n'.0) p x'.0 [] (Ref (record_count Z.cells.heap)) (add-sized Z.cells gs n'.0 j) g5) m5);
  }

  -- a statement that holds no block: two accepted runs of it, whatever was proposed, leave one structure
  pub simple : (v : Verb) → Simple (λ S ws. do_simple program p S ws v)
  unfolding do_simple
  simple skip = record { sized = λ S ws l z e. rw (← got-inj e) z; two = λ S Z ws us l m s i j e g. rw (← got-inj e, ← got-inj g) s }
  simple assign = assign-simple
  simple new = new-simple
  simple always = constraint-simple true program p
  simple once = constraint-simple false program p
  simple always_same = identity-simple true program p
  simple once_same = identity-simple false program p
  simple branch = record { sized = λ S ws l z e. stop≢got e; two = λ S Z ws us l m s i j e g. stop≢got e }
  simple loop = record { sized = λ S ws l z e. stop≢got e; two = λ S Z ws us l m s i j e g. stop≢got e }
  simple no_verb = record { sized = λ S ws l z e. stop≢got e; two = λ S Z ws us l m s i j e g. stop≢got e }
