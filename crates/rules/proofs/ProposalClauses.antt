-- A proposal, clause by clause: the laws by which code knows it. Assumes nothing.
use mathlib.Core.Path.{◌≡◌, refl}
use mathlib.Core.Bool.{true, not, cond, ◌&&◌, ◌||◌}
use mathlib.Core.List.{List, [], ◌∷◌}
use Rattle.std.specs.Prelude.{Option}
use Prim.Native.Nat.{ℕ, suc}
use lib.Dec.{eqb, ltb, leb}
use lib.IntN.{ℤ, pos}
use Rattle.words.specs.Words.{number_of, eq_z}
use Rattle.words.specs.Answer.{got, stop, ◌>>=◌, ◌>>◌, want}
use Rattle.tables.specs.declared.Cell.{Cell}
use Rattle.tables.specs.Values.{cell}
use Rattle.tables.specs.Cells.{Cells, cell_at, put_cell}
use Rattle.rules.specs.State.{refused}
use Rattle.rules.specs.Evaluation.{at}
use Rattle.rules.specs.Constraints.{counted, all_hold, required_hold}
use Rattle.rules.specs.Proposals.{Entry, entries, proposal, may_take, is_target, entry_fits, entries_fit, put_entry, applied, none?, Asked, settle}

-- ---- form

pub entries_none : (low : ℕ) (ws : List ℤ) → entries 0 low ws ≡ got ([], ws)
unfolding entries
entries_none low ws = refl

pub entries-no-words : (n low : ℕ) → entries (suc n) low [] ≡ stop 16
unfolding entries
entries-no-words n low = refl

pub entries-one-word : (n low : ℕ) (l : ℤ) → entries (suc n) low (l ∷ []) ≡ stop 16
unfolding entries
entries-one-word n low l = refl

pub entries-more : (n low : ℕ) (l v : ℤ) (ws : List ℤ)
    → entries (suc n) low (l ∷ v ∷ ws)
    ≡ (want 16 (leb low (number_of l) && ltb (number_of l) 576) >> (entries n (suc (number_of l)) ws >>= λ x. got (record { location = number_of l; payload = v } ∷ x.0, x.1)))
unfolding entries
entries-more n low l v ws = refl

pub proposal-none : proposal [] ≡ stop 6
unfolding proposal
proposal-none = refl

pub proposal-more : (n : ℤ) (ws : List ℤ) → proposal (n ∷ ws) ≡ (want 16 (leb (number_of n) 576) >> entries (number_of n) 0 ws)
unfolding proposal
proposal-more n ws = refl

-- ---- entries

pub may-take-is : (c : Cell) (w : ℤ)
    → may_take c w ≡ (cond (eqb (number_of c.kind) 2) (eq_z w (pos 0) || eq_z w (pos 1)) (eqb (number_of c.kind) 3) && not (eq_z w c.payload))
unfolding may_take
may-take-is c w = refl

module _ (S : Cells) where
  pub entry-fits-is : (t : Option ℕ) (e : Entry) → entry_fits S t e ≡ (may_take (cell_at S e.location) e.payload && not (is_target t e.location))
  unfolding entry_fits
  entry-fits-is t e = refl

  pub entries-fit-none : (t : Option ℕ) → entries_fit S t [] ≡ true
  unfolding entries_fit
  entries-fit-none t = refl

  pub entries-fit-more : (t : Option ℕ) (e : Entry) (es : List Entry) → entries_fit S t (e ∷ es) ≡ (entry_fits S t e && entries_fit S t es)
  unfolding entries_fit
  entries-fit-more t e es = refl

  pub put-entry-is : (e : Entry) → put_entry S e ≡ put_cell S e.location (cell (cell_at S e.location).kind e.payload)
  unfolding put_entry
  put-entry-is e = refl

  pub applied-none : applied S [] ≡ S
  unfolding applied
  applied-none = refl

  pub applied-more : (e : Entry) (es : List Entry) → applied S (e ∷ es) ≡ applied (put_entry S e) es
  unfolding applied
  applied-more e es = refl

-- ---- the judge

pub settle_is : (program kept : List ℤ) (asked : Asked) (word : List ℤ) (S : Cells) (ws : List ℤ)
    → settle program kept asked word S ws
    ≡ (counted program kept asked.own S >>= λ before. want (refused 14 word) asked.room >> (at word (proposal ws) >>= λ x. want (refused 17 word) (entries_fit S asked.target x.0) >> (want (refused 18 word) (not (all_hold before) || none? x.0) >> (counted program kept asked.own (applied S x.0) >>= λ after. want (refused 19 word) (required_hold after) >> got (applied S x.0, x.1)))))
unfolding settle
settle_is program kept asked word S ws = refl
