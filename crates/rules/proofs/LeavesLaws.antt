-- What an accepted statement leaves, by its definition. Assumes nothing.
use mathlib.Core.Path.{◌≡◌}
use Prim.Native.Nat.{ℕ, ◌-◌, ◌≤◌}
use native.Mathlib.Omega.{arith}
use mathlib.Core.Bool.{Bool, true, false}
use mathlib.Core.List.{List, []}
use lib.Dec.{ltb}
use lib.IntN.{ℤ}
use lib.ListN.{drop}
use Rattle.words.specs.Answer.{got}
use Rattle.words.proofs.AnswerLaws.{stop≢got, got-inj, step, step-on, tested}
use Rattle.tables.specs.declared.Value.TheVariants.{Ref}
use Rattle.tables.specs.declared.Sort.TheVariants.{Values, Identities}
use Rattle.tables.specs.Sizes.{variables, most_fields, most_records}
use Rattle.tables.specs.Cells.{Cells, cells}
use Rattle.tables.specs.Records.{record_count, with_record}
use Rattle.program.specs.Forms.{expression_depth}
use Rattle.program.specs.declared.Verb.{Verb}
use Rattle.program.specs.declared.Verb.TheVariants.{Skip as skip, Assign as assign, New as new, Always as always, Once as once, AlwaysSame as always_same, OnceSame as once_same, If as branch, While as loop, Unknown as no_verb}
use Rattle.program.specs.Reading.{number, read_path, after}
use Rattle.program.proofs.LengthLaws.{Part, part-refl, part-trans, part-drop}
use Rattle.rules.specs.State.{State, refused, reads}
use Rattle.rules.specs.Paths.{way_at}
use Rattle.rules.specs.Evaluation.{evaluate}
use Rattle.rules.specs.Identities.{same_now, identity_phase}
use Rattle.rules.specs.Proposals.{Entry, Asked, settle}
use Rattle.rules.specs.Statements.{Left, position_of, has_room, keep, field_words, value_phase, do_assign, do_new, do_constraint, do_identity, do_simple}
use Rattle.rules.specs.Rules.Proposals.{EntriesAre, no_more, next, Formed, formed, Settles}
use Rattle.rules.specs.Rules.Statements.{leaves}
use Rattle.rules.proofs.ProposalLaws.{settle-iff}

pub data Leaves (program p : List ℤ) (S : State) (ws : List ℤ) : Left → Type 0 where
  still : Leaves program p S ws (leaves S.cells S.kept ws 0)
  settled : {asked : Asked} {Y Z : Cells} {rest : List ℤ} → Settles program S.kept asked Y ws Z rest → Leaves program p S ws (leaves Z S.kept rest 1)
  value-kept : {asked : Asked} {Y Z : Cells} {rest : List ℤ} → Settles program S.kept asked Y ws Z rest
      → Leaves program p S ws (leaves Z (keep S.kept Values (position_of program p)) rest 1)
  identity-kept : same_now S.cells p (drop 1 p) ≡ got tt → has_room S.kept Identities (position_of program p) ≡ true
      → Leaves program p S ws (leaves S.cells (keep S.kept Identities (position_of program p)) ws 0)

module _ (program p : List ℤ) (S : State) (ws : List ℤ) where
  value-leaves : (target : ℕ) (Y : Cells) (l : Left) → value_phase program S.kept p target Y ws ≡ got l → Leaves program p S ws l
  unfolding value_phase
  value-leaves target Y l e =
      step (settle program S.kept _ p Y ws) _ e λ x s k.
      rw (← got-inj k) (settled ((settle-iff program S.kept _ p Y ws x.0 x.1).0 s))

  assign-leaves : (l : Left) → do_assign program p S ws ≡ got l → Leaves program p S ws l
  unfolding do_assign
  assign-leaves l e =
      step (evaluate expression_depth S.cells (after (read_path (drop 1 p)))) _ e λ x v k1.
      step (way_at S.cells (drop 1 p)) _ k1 λ w way k2.
      step (identity_phase program S.kept S.cells S.cells p w.cell w.prefix x.0) _ k2 λ Y phase k3.
      value-leaves w.cell Y l k3

  new-leaves : (l : Left) → do_new program p S ws ≡ got l → Leaves program p S ws l
  unfolding do_new
  new-leaves l e =
      step (reads (number 0 (variables - 1) (drop 1 p))) _ e λ x a k1.
      step (reads (number 0 most_fields x.1)) _ k1 λ n b k2.
      step (field_words n.0 S.cells n.1) _ k2 λ fs f k3.
      tested (refused 10 p) (ltb (record_count S.cells.heap) most_records) _ k3 λ room k4.
      step (identity_phase program S.kept S.cells (cells S.cells.environment (with_record S.cells.heap fs n.0)) p x.0 [] (Ref (record_count S.cells.heap))) _ k4 λ Y phase k5.
      value-leaves x.0 Y l k5

  constraint-leaves : (b : Bool) (l : Left) → do_constraint b program p S ws ≡ got l → Leaves program p S ws l
  unfolding do_constraint
  constraint-leaves true l e =
      step (settle program S.kept _ p S.cells ws) _ e λ x s k.
      rw (← got-inj k) (value-kept ((settle-iff program S.kept _ p S.cells ws x.0 x.1).0 s))
  constraint-leaves false l e =
      step (settle program S.kept _ p S.cells ws) _ e λ x s k.
      rw (← got-inj k) (settled ((settle-iff program S.kept _ p S.cells ws x.0 x.1).0 s))

  identity-leaves : (b : Bool) (l : Left) → do_identity b program p S ws ≡ got l → Leaves program p S ws l
  unfolding do_identity
  identity-leaves true l e =
      step-on (same_now S.cells p (drop 1 p)) _ e λ u s k1.
      tested (refused 14 p) (has_room S.kept Identities (position_of program p)) _ k1 λ room k2.
      rw (← got-inj k2) (identity-kept s room)
  identity-leaves false l e = step-on (same_now S.cells p (drop 1 p)) _ e λ u s k. rw (← got-inj k) still

  pub simple-leaves : (verb : Verb) (l : Left) → do_simple program p S ws verb ≡ got l → Leaves program p S ws l
  unfolding do_simple
  simple-leaves skip l e = rw (← got-inj e) still
  simple-leaves assign l e = assign-leaves l e
  simple-leaves new l e = new-leaves l e
  simple-leaves always l e = constraint-leaves true l e
  simple-leaves once l e = constraint-leaves false l e
  simple-leaves always_same l e = identity-leaves true l e
  simple-leaves once_same l e = identity-leaves false l e
  simple-leaves branch l e = stop≢got e
  simple-leaves loop l e = stop≢got e
  simple-leaves no_verb l e = stop≢got e

-- ---- a proposal is taken off the front

entries-part : {low n : ℕ} {ws rest : List ℤ} {es : List Entry} → EntriesAre low n ws es rest → Part ws rest
entries-part {ws = ws} no_more = part-refl ws
entries-part {ws = ws} (next a b others) = part-trans (part-drop 2 ws) (entries-part others)

pub formed-part : {ws rest : List ℤ} {es : List Entry} → Formed ws es rest → Part ws rest
formed-part {ws = ws} (formed is) = part-trans (part-drop 1 ws) (entries-part is)

-- a statement takes one proposal or none
pub record Takes (ws : List ℤ) (l : Left) : Type 0 where
  pub part : Part ws l.unread
  pub few : l.accepted ≤ 1

pub leaves-take : {program p ws : List ℤ} {S : State} {l : Left} → Leaves program p S ws l → Takes ws l
leaves-take {ws = ws} still = record { part = part-refl ws; few = omega arith }
leaves-take (settled s) = record { part = formed-part s.formed; few = omega arith }
leaves-take (value-kept s) = record { part = formed-part s.formed; few = omega arith }
leaves-take {ws = ws} (identity-kept a b) = record { part = part-refl ws; few = omega arith }
