-- Statements that hold no block, clause by clause: the laws by which code knows them. Assumes nothing.
use mathlib.Core.Path.{◌≡◌, refl}
use mathlib.Core.Bool.{Bool, true, false, cond, ◌||◌}
use mathlib.Core.List.{List, [], ◌∷◌}
use Rattle.std.specs.Prelude.{None, Some}
use Prim.Native.Nat.{ℕ, suc}
use lib.Dec.{ltb}
use lib.IntN.{ℤ, pos}
use lib.ListN.{drop}
use Rattle.words.specs.Answer.{got, ◌>>=◌, ◌>>◌, want}
use Rattle.tables.specs.declared.Value.TheVariants.{Ref}
use Rattle.tables.specs.declared.Sort.{Sort}
use Rattle.tables.specs.declared.Sort.TheVariants.{Values, Identities}
use Rattle.tables.specs.Values.{cell_of}
use Rattle.tables.specs.Cells.{Cells, cells}
use Rattle.tables.specs.Records.{record_count, with_record}
use Rattle.tables.specs.Kept.{most_kept, kept_count, is_kept, with_position}
use Rattle.program.specs.declared.Verb.TheVariants.{Skip as skip, Assign as assign, New as new, Always as always, Once as once, AlwaysSame as always_same, OnceSame as once_same, If as branch, While as loop, Unknown as no_verb}
use Rattle.program.specs.Reading.{number, read_path, after}
use Rattle.rules.specs.State.{State, refused, refuse, reads}
use Rattle.rules.specs.Paths.{way_at}
use Rattle.rules.specs.Evaluation.{evaluate}
use Rattle.rules.specs.Identities.{same_now, identity_phase}
use Rattle.rules.specs.Proposals.{settle}
use Rattle.rules.specs.Statements.{position_of, has_room, keep, value_phase, do_assign, field_words, do_new, do_constraint, do_identity, do_simple}

pub room-is : (kept : List ℤ) (s : Sort) (position : ℕ) → has_room kept s position ≡ (is_kept kept s position || ltb (kept_count kept s) (most_kept s))
unfolding has_room
room-is kept s position = refl

pub keep-is : (kept : List ℤ) (s : Sort) (position : ℕ) → keep kept s position ≡ cond (is_kept kept s position) kept (with_position kept s position)
unfolding keep
keep-is kept s position = refl

pub value-phase-is : (program kept p : List ℤ) (target : ℕ) (S : Cells) (ws : List ℤ)
    → value_phase program kept p target S ws
    ≡ (settle program kept (record { own = None; target = Some target; room = true }) p S ws >>= λ x. got (record { state = record { cells = x.0; kept = kept }; unread = x.1; accepted = 1 }))
unfolding value_phase
value-phase-is program kept p target S ws = refl

module _ (S : Cells) (p : List ℤ) where
  pub fields-none : field_words 0 S p ≡ got []
  unfolding field_words
  fields-none = refl

  pub fields-more : (n : ℕ)
      → field_words (suc n) S p
      ≡ (reads (number 0 31 p) >>= λ x. evaluate 16 S x.1 >>= λ y. field_words n S y.1 >>= λ more. got (pos x.0 ∷ (cell_of y.0).kind ∷ (cell_of y.0).payload ∷ more))
  unfolding field_words
  fields-more n = refl

module _ (program p : List ℤ) (S : State) (ws : List ℤ) where
  pub assign-is : do_assign program p S ws
      ≡ (evaluate 16 S.cells (after (read_path (drop 1 p))) >>= λ x. way_at S.cells (drop 1 p) >>= λ w. identity_phase program S.kept S.cells S.cells p w.cell w.prefix x.0 >>= λ Z. value_phase program S.kept p w.cell Z ws)
  unfolding do_assign
  assign-is = refl

  pub new_is : do_new program p S ws
      ≡ (reads (number 0 63 (drop 1 p)) >>= λ x. reads (number 0 8 x.1) >>= λ y. field_words y.0 S.cells y.1 >>= λ fs. want (refused 10 p) (ltb (record_count S.cells.heap) 64) >> (identity_phase program S.kept S.cells (cells S.cells.environment (with_record S.cells.heap fs y.0)) p x.0 [] (Ref (record_count S.cells.heap)) >>= λ Z. value_phase program S.kept p x.0 Z ws))
  unfolding do_new
  new_is = refl

  pub constrain-is : (keeps : Bool) → do_constraint keeps program p S ws
      ≡ (settle program S.kept (record { own = Some (drop 1 p); target = None; room = cond keeps (has_room S.kept Values (position_of program p)) true }) p S.cells ws >>= λ x. got (record { state = record { cells = x.0; kept = cond keeps (keep S.kept Values (position_of program p)) S.kept }; unread = x.1; accepted = 1 }))
  unfolding do_constraint
  constrain-is keeps = refl

  pub identify-is : (keeps : Bool) → do_identity keeps program p S ws
      ≡ (same_now S.cells p (drop 1 p) >> (want (refused 14 p) (cond keeps (has_room S.kept Identities (position_of program p)) true) >> got (record { state = record { cells = S.cells; kept = cond keeps (keep S.kept Identities (position_of program p)) S.kept }; unread = ws; accepted = 0 })))
  unfolding do_identity
  identify-is keeps = refl

  -- ---- by verb

  pub simple-skip : do_simple program p S ws skip ≡ got (record { state = S; unread = ws; accepted = 0 })
  unfolding do_simple
  simple-skip = refl

  pub simple-assign : do_simple program p S ws assign ≡ do_assign program p S ws
  unfolding do_simple
  simple-assign = refl

  pub simple-new : do_simple program p S ws new ≡ do_new program p S ws
  unfolding do_simple
  simple-new = refl

  pub simple-always : do_simple program p S ws always ≡ do_constraint true program p S ws
  unfolding do_simple
  simple-always = refl

  pub simple-once : do_simple program p S ws once ≡ do_constraint false program p S ws
  unfolding do_simple
  simple-once = refl

  pub simple-always-same : do_simple program p S ws always_same ≡ do_identity true program p S ws
  unfolding do_simple
  simple-always-same = refl

  pub simple-once-same : do_simple program p S ws once_same ≡ do_identity false program p S ws
  unfolding do_simple
  simple-once-same = refl

  pub simple-branch : do_simple program p S ws branch ≡ refuse 2 p
  unfolding do_simple
  simple-branch = refl

  pub simple-loop : do_simple program p S ws loop ≡ refuse 2 p
  unfolding do_simple
  simple-loop = refl

  pub simple-none : do_simple program p S ws no_verb ≡ refuse 2 p
  unfolding do_simple
  simple-none = refl
