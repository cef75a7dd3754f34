-- What a statement refuses with, given what its expressions, paths and kept identities refuse with. Assumes nothing.
use mathlib.Core.Path.{◌≡◌, refl}
use Prim.Native.Nat.{ℕ, zero, suc, ◌-◌}
use mathlib.Core.Bool.{Bool, true, false, not, cond, ◌&&◌, ◌||◌, true≢false}
use mathlib.Core.List.{List, [], ◌∷◌, ◌++◌}
use Rattle.std.specs.Prelude.{Option, None, Some}
use lib.Dec.{ltb, leb}
use lib.IntN.{ℤ}
use lib.ListN.{drop}
use Rattle.words.specs.Words.{number_of}
use Rattle.words.specs.Range.{fits}
use Rattle.words.specs.Answer.{got, stop}
use Rattle.tables.specs.declared.Value.{Value}
use Rattle.tables.specs.declared.Value.TheVariants.{Ref}
use Rattle.tables.specs.declared.Sort.TheVariants.{Values, Identities}
use Rattle.tables.specs.Sizes.{variables, most_fields, most_records, locations}
use Rattle.tables.specs.Cells.{Cells, cells}
use Rattle.tables.specs.Records.{record_count, with_record}
use Rattle.program.specs.Forms.{expression_depth}
use Rattle.program.specs.Reading.{number, read_path, after}
use Rattle.program.specs.declared.Operator.{Operator}
use Rattle.program.specs.declared.Operator.TheVariants.{Plus, Minus, Times, Below, AtMost, Equal, Unequal, AtLeast, Above, And, Or, Unknown}
use Rattle.rules.specs.State.{State, Res, refused, reads}
use Rattle.rules.specs.Paths.{way_at}
use Rattle.rules.specs.Evaluation.{kind_of, takes, ranged, made, apply, at, evaluate}
use Rattle.rules.specs.Constraints.{Part, constraint_at, fifteen, kept_at, kept_parts, own_parts, counted, all_hold, required_hold}
use Rattle.rules.specs.Identities.{is_node, same_now, ties, names, frozen_by, class_of, clash_free, identity_phase}
use Rattle.rules.specs.Proposals.{Asked, entries, proposal, entries_fit, applied, none?, settle}
use Rattle.rules.specs.Statements.{position_of, has_room, field_words, value_phase, do_assign, do_new, do_constraint, do_identity}
use Rattle.rules.proofs.EndLaws.{Ends, ends-got, ends-stop, ends-then, ends_on, ends-want, ends-room, Fine, Any, fine-at}

-- the numbers with which a proposal is turned down
pub record Judged (P : ℕ → Type 0) : Type 0 where
  pub six : P 6
  pub fifteen : P 15
  pub sixteen : P 16
  pub seventeen : P 17
  pub eighteen : P 18
  pub nineteen : P 19

-- P is any property that the numbers met have
module _ (P : ℕ → Type 0) where
  -- ---- operators

  ranged-fine : P 9 → (z : ℤ) → Ends Any P (ranged z)
  unfolding ranged
  ranged-fine nine z = ends-want 9 (fits z) _ nine λ c. ends-got tt

  pub made-fine : (o : Operator) → (o ≡ Unknown → P 8) → P 9 → (a b : Value) → Ends Any P (made o a b)
  unfolding made
  made-fine Plus eight nine a b = ranged-fine nine _
  made-fine Minus eight nine a b = ranged-fine nine _
  made-fine Times eight nine a b = ranged-fine nine _
  made-fine Below eight nine a b = ends-got tt
  made-fine AtMost eight nine a b = ends-got tt
  made-fine Equal eight nine a b = ends-got tt
  made-fine Unequal eight nine a b = ends-got tt
  made-fine AtLeast eight nine a b = ends-got tt
  made-fine Above eight nine a b = ends-got tt
  made-fine And eight nine a b = ends-got tt
  made-fine Or eight nine a b = ends-got tt
  made-fine Unknown eight nine a b = ends-stop (eight refl)

  pub apply-fine : P 8 → P 9 → (o : Operator) (a b : Value) → Ends Any P (apply o a b)
  unfolding apply
  apply-fine eight nine o a b = ends-want 8 (takes o (kind_of a) (kind_of b)) _ eight λ c. made-fine o (λ q. eight) nine a b

  -- ---- identities

  or-second : (a b : Bool) → (a || b) ≡ false → b ≡ false
  or-second true b e = absurd (true≢false e)
  or-second false b e = e

  room-met : (keeps room : Bool) → (keeps ≡ true → P 14) → cond keeps room true ≡ false → P 14
  room-met true room h e = h refl
  room-met false room h e = absurd (true≢false e)

  pub identity-fine : (program p : List ℤ) (S : State) (ws : List ℤ) → Fine P Any (same_now S.cells p (drop 1 p)) → (keeps : Bool) → (keeps ≡ true → P 14)
      → Fine P Any (do_identity keeps program p S ws)
  unfolding do_identity
  identity-fine program p S ws h keeps fourteen =
      ends_on (same_now S.cells p (drop 1 p)) _ h
      (ends-room (refused 14 p) (cond keeps (has_room S.kept Identities (position_of program p)) true) _
      (room-met keeps (has_room S.kept Identities (position_of program p)) fourteen) (ends-got tt))

  -- ---- proposals

  module _ (judged : Judged P) where
    kept_fine : (program : List ℤ) (S : Cells) (ps : List ℕ) → Fine P Any (kept_parts program S ps)
    unfolding kept_parts
    kept_fine program S [] = ends-got tt
    kept_fine program S (p ∷ ps) =
        ends-then (fifteen (kept_at program S p)) _ (a-fifteen (kept_at program S p)) λ x u.
        ends-then (kept_parts program S ps) _ (kept_fine program S ps) λ y v. ends-got tt
      where
        a-fifteen : (m : Res (List Part)) → Fine P Any (fifteen m)
        a-fifteen (got a) = ends-got tt
        a-fifteen (stop f) = ends-stop judged.fifteen

    entries-fine : (n low : ℕ) (ws : List ℤ) → Ends Any P (entries n low ws)
    unfolding entries
    entries-fine zero low ws = ends-got tt
    entries-fine (suc n) low [] = ends-stop judged.sixteen
    entries-fine (suc n) low (l ∷ []) = ends-stop judged.sixteen
    entries-fine (suc n) low (l ∷ v ∷ ws) =
        ends-want 16 (leb low (number_of l) && ltb (number_of l) locations) _ judged.sixteen λ c.
        ends-then (entries n (suc (number_of l)) ws) _ (entries-fine n (suc (number_of l)) ws) λ x u. ends-got tt

    proposal-fine : (ws : List ℤ) → Ends Any P (proposal ws)
    unfolding proposal
    proposal-fine [] = ends-stop judged.six
    proposal-fine (n ∷ ws) = ends-want 16 (leb (number_of n) locations) _ judged.sixteen λ c. entries-fine (number_of n) 0 ws

    module _ (program : List ℤ) where
      counted-fine : (kept : List ℤ) (own : Option (List ℤ)) (S : Cells) → Fine P Any (own_parts S own) → Fine P Any (counted program kept own S)
      unfolding counted
      counted-fine kept own S h =
          ends-then (own_parts S own) _ h λ x u.
          ends-then _ _ (kept_fine program S _) λ y v. ends-got tt

      settle-fine : (kept : List ℤ) (asked : Asked) (word : List ℤ) (S : Cells) (ws : List ℤ)
          → (asked.room ≡ false → P 14) → ((Z : Cells) → Fine P Any (own_parts Z asked.own)) → Fine P Any (settle program kept asked word S ws)
      unfolding settle
      settle-fine kept asked word S ws fourteen h =
          ends-then (counted program kept asked.own S) _ (counted-fine kept asked.own S (h S)) λ before u.
          ends-room (refused 14 word) asked.room _ fourteen
          (ends-then (at word (proposal ws)) _ (fine-at P word (proposal ws) (proposal-fine ws)) λ x v.
          ends-want (refused 17 word) (entries_fit S asked.target x.0) _ judged.seventeen λ c1.
          ends-want (refused 18 word) (not (all_hold before) || none? x.0) _ judged.eighteen λ c2.
          ends-then (counted program kept asked.own (applied S x.0)) _ (counted-fine kept asked.own (applied S x.0) (h (applied S x.0))) λ y w.
          ends-want (refused 19 word) (required_hold y) _ judged.nineteen λ c3. ends-got tt)

      -- ---- statements

      module _ (p : List ℤ) (S : State) (ws : List ℤ) where
        phase-fine : P 12 → (now : Cells) (target : ℕ) (prefix : List ℕ) (v : Value) → (is_node v ≡ false → P 13) → Fine P Any (ties program S.kept S.cells)
            → Fine P Any (identity_phase program S.kept S.cells now p target prefix v)
        unfolding identity_phase
        phase-fine twelve now target prefix v thirteen h =
            ends-then (ties program S.kept S.cells) _ h λ ts u.
            ends-room (refused 13 p) (not (names ts target) || is_node v) _ (λ e. thirteen (or-second (not (names ts target)) (is_node v) e))
            (ends-want (refused 12 p) (clash_free S.cells (prefix ++ frozen_by ts) v (class_of ts target)) _ twelve λ c1. ends-got tt)

        value-fine : (target : ℕ) (Y : Cells) → Fine P Any (value_phase program S.kept p target Y ws)
        unfolding value_phase own_parts
        value-fine target Y =
            ends-then (settle program S.kept (record { own = None; target = Some target; room = true }) p Y ws) _
            (settle-fine S.kept (record { own = None; target = Some target; room = true }) p Y ws (λ e. absurd (true≢false e)) (λ Z. ends-got tt)) λ x u. ends-got tt

        pub assign-fine : P 12 → P 13 → Fine P Any (evaluate expression_depth S.cells (after (read_path (drop 1 p)))) → Fine P Any (way_at S.cells (drop 1 p))
            → Fine P Any (ties program S.kept S.cells) → Fine P Any (do_assign program p S ws)
        unfolding do_assign
        assign-fine twelve thirteen e w t =
            ends-then (evaluate expression_depth S.cells (after (read_path (drop 1 p)))) _ e λ v u.
            ends-then (way_at S.cells (drop 1 p)) _ w λ way u1.
            ends-then (identity_phase program S.kept S.cells S.cells p way.cell way.prefix v.0) _
            (phase-fine twelve S.cells way.cell way.prefix v.0 (λ e. thirteen) t) λ Y u2.
            value-fine way.cell Y

        pub new-fine : P 10 → P 12 → Fine P Any (reads (number 0 (variables - 1) (drop 1 p)))
            → ((x : ℕ × List ℤ) → reads (number 0 (variables - 1) (drop 1 p)) ≡ got x → Fine P Any (reads (number 0 most_fields x.1)))
            → ((x : ℕ × List ℤ) → reads (number 0 (variables - 1) (drop 1 p)) ≡ got x
            → (n : ℕ × List ℤ) → reads (number 0 most_fields x.1) ≡ got n → Fine P Any (field_words n.0 S.cells n.1))
            → Fine P Any (ties program S.kept S.cells) → Fine P Any (do_new program p S ws)
        unfolding do_new is_node
        new-fine ten twelve a b c t =
            ends-then (reads (number 0 (variables - 1) (drop 1 p))) _ (with-answer a) λ x u.
            ends-then (reads (number 0 most_fields x.1)) _ (with-answer (b x u)) λ n v.
            ends-then (field_words n.0 S.cells n.1) _ (c x u n v) λ fs w.
            ends-want (refused 10 p) (ltb (record_count S.cells.heap) most_records) _ ten λ room.
            ends-then (identity_phase program S.kept S.cells (cells S.cells.environment (with_record S.cells.heap fs n.0)) p x.0 [] (Ref (record_count S.cells.heap))) _
            (phase-fine twelve (cells S.cells.environment (with_record S.cells.heap fs n.0)) x.0 [] (Ref (record_count S.cells.heap)) (λ e. absurd (true≢false e)) t) λ Y y.
            value-fine x.0 Y
          where
            with-answer : {A : Type 0} {m : Res A} → Fine P Any m → Fine P (λ a. m ≡ got a) m
            with-answer h = record { good = λ a e. e; bad = h.bad }

        pub constraint-fine : ((Z : Cells) → Fine P Any (constraint_at Z (drop 1 p))) → (keeps : Bool) → (keeps ≡ true → P 14) → Fine P Any (do_constraint keeps program p S ws)
        unfolding do_constraint own_parts
        constraint-fine h keeps fourteen =
            ends-then (settle program S.kept (record { own = Some (drop 1 p); target = None; room = cond keeps (has_room S.kept Values (position_of program p)) true }) p S.cells ws) _
            (settle-fine S.kept (record { own = Some (drop 1 p); target = None; room = cond keeps (has_room S.kept Values (position_of program p)) true }) p S.cells ws
            (room-met keeps (has_room S.kept Values (position_of program p)) fourteen) h) λ x u.
            ends-got tt
