-- Laws of giving all cells of a class one value. Assumes nothing.
use Rattle.std.specs.Prelude.{Some}
use mathlib.Core.Path.{◌≡◌, refl, sym, ap, ◌∙◌}
use mathlib.Core.Bool.{true, false}
use mathlib.Core.List.{List, [], ◌∷◌}
use Prim.Native.Nat.{ℕ, ◌<◌}
use native.Mathlib.Omega.{arith}
use native.Mathlib.Decide.{dec_lt, ℕ_discrete}
use lib.ListN.{length}
use Rattle.words.specs.Words.{word_at, number_of}
use Rattle.tables.specs.declared.Value.{Value}
use Rattle.tables.specs.Values.{cell_of, slot_of, Sound}
use Rattle.tables.specs.Cells.{Cells, cell_at, put_cell, Sized}
use Rattle.tables.specs.Records.{record_count, count_at, field_count, label_at, field_with}
use Rattle.fit.specs.Fit.{Fit, MayHold, in_variable, in_field, cell_fits}
use Rattle.tables.proofs.SearchLaws.{cases}
use Rattle.tables.proofs.ValueLaws.{slot-of-cell, cell-used}
use Rattle.tables.proofs.CellLaws.{read_same, read-other, put-lengths, put-sized, put-count-word, put-records, put_count, put-fields, put-label, put-found, no_cell}
use Rattle.fit.proofs.FitChanges.{fit-put}
use Rattle.rules.specs.State.{slot_at}
use Rattle.rules.specs.Identities.{member, put_all}
use Rattle.rules.proofs.ClassLaws.{member-head, member-tail, member-cons, member-none, false≢true}

module _ (v : Value) where
  -- ---- cells

  -- a cell that is none of them stays
  pub put-all-other : (S : Cells) (ls : List ℕ) (l : ℕ) → member l ls ≡ false → cell_at (put_all S ls v) l ≡ cell_at S l
  unfolding put_all
  put-all-other S [] l e = refl
  put-all-other S (k ∷ ls) l e =
      put-all-other (put_cell S k (cell_of v)) ls l (cases (member l ls) (λ h. false≢true (sym e ∙ member-tail l k ls h)) (λ h. h))
      ∙ read-other S k l (cell_of v) (λ q. false≢true (sym e ∙ member-head l k ls q))

  -- a cell that has the value keeps it
  keeps-value : (S : Cells) (ls : List ℕ) (l : ℕ) → Sized S → l < 576 → cell_at S l ≡ cell_of v → cell_at (put_all S ls v) l ≡ cell_of v
  unfolding put_all
  keeps-value S [] l s h e = e
  keeps-value S (k ∷ ls) l s h e = keeps-value (put_cell S k (cell_of v)) ls l (put-sized S k (cell_of v) s) h (go (ℕ_discrete l k))
    where
      go : Dec (l ≡ k) → cell_at (put_cell S k (cell_of v)) l ≡ cell_of v
      go (yes q) = rw q (read_same S k (cell_of v) s (omega arith))
      go (no n) = read-other S k l (cell_of v) n ∙ e

  -- each of them takes the value
  pub put-all-same : (S : Cells) (ls : List ℕ) (l : ℕ) → Sized S → l < 576 → member l ls ≡ true → cell_at (put_all S ls v) l ≡ cell_of v
  unfolding put_all
  put-all-same S [] l s h e = member-none l e
  put-all-same S (k ∷ ls) l s h e = member-cons l k ls e
      (λ q. keeps-value (put_cell S k (cell_of v)) ls l (put-sized S k (cell_of v) s) h (rw q (read_same S k (cell_of v) s (omega arith))))
      (λ m. put-all-same (put_cell S k (cell_of v)) ls l (put-sized S k (cell_of v) s) h m)

  pub put-all-slot : (S : Cells) (ls : List ℕ) (l : ℕ) → Sound v → Sized S → l < 576 → member l ls ≡ true → slot_at (put_all S ls v) l ≡ Some v
  unfolding slot_at
  put-all-slot S ls l d s h e = rw (put-all-same S ls l s h e) (slot-of-cell v d)

  pub put-all-slot-other : (S : Cells) (ls : List ℕ) (l : ℕ) → member l ls ≡ false → slot_at (put_all S ls v) l ≡ slot_at S l
  unfolding slot_at
  put-all-slot-other S ls l e = ap slot_of (put-all-other S ls l e)

  -- ---- lengths, counts and labels

  pub put-all-lengths : (S : Cells) (ls : List ℕ) → (length (put_all S ls v).environment ≡ length S.environment) × (length (put_all S ls v).heap ≡ length S.heap)
  unfolding put_all
  put-all-lengths S [] = (refl, refl)
  put-all-lengths S (l ∷ ls) =
      let a = put-all-lengths (put_cell S l (cell_of v)) ls in
      let b = put-lengths S l (cell_of v) in
      (a.0 ∙ b.0, a.1 ∙ b.1)

  pub put-all-sized : (S : Cells) (ls : List ℕ) → Sized S → Sized (put_all S ls v)
  put-all-sized S ls s = let a = put-all-lengths S ls in record { environment = a.0 ∙ s.environment; heap = a.1 ∙ s.heap }

  pub put-all-records : (S : Cells) (ls : List ℕ) → record_count (put_all S ls v).heap ≡ record_count S.heap
  unfolding put_all
  put-all-records S [] = refl
  put-all-records S (l ∷ ls) = put-all-records (put_cell S l (cell_of v)) ls ∙ put-records S l (cell_of v)

  pub put-all-count-word : (S : Cells) (ls : List ℕ) → word_at (put_all S ls v).heap 0 ≡ word_at S.heap 0
  unfolding put_all
  put-all-count-word S [] = refl
  put-all-count-word S (l ∷ ls) = put-all-count-word (put_cell S l (cell_of v)) ls ∙ put-count-word S l (cell_of v)

  pub put-all-fields : (S : Cells) (ls : List ℕ) (r : ℕ) → field_count (put_all S ls v).heap r ≡ field_count S.heap r
  unfolding put_all
  put-all-fields S [] r = refl
  put-all-fields S (l ∷ ls) r = put-all-fields (put_cell S l (cell_of v)) ls r ∙ put-fields S l (cell_of v) r

  pub put-all-counts : (S : Cells) (ls : List ℕ) (r : ℕ) → count_at (put_all S ls v).heap r ≡ count_at S.heap r
  unfolding put_all
  put-all-counts S [] r = refl
  put-all-counts S (l ∷ ls) r = put-all-counts (put_cell S l (cell_of v)) ls r ∙ put_count S l (cell_of v) r

  pub put-all-label : (S : Cells) (ls : List ℕ) (r f : ℕ) → label_at (put_all S ls v).heap r f ≡ label_at S.heap r f
  unfolding put_all
  put-all-label S [] r f = refl
  put-all-label S (l ∷ ls) r f = put-all-label (put_cell S l (cell_of v)) ls r f ∙ put-label S l (cell_of v) r f

  pub put-all-found : (S : Cells) (ls : List ℕ) (r label : ℕ) → field_with (put_all S ls v).heap r label ≡ field_with S.heap r label
  unfolding put_all
  put-all-found S [] r label = refl
  put-all-found S (l ∷ ls) r label = put-all-found (put_cell S l (cell_of v)) ls r label ∙ put-found S l (cell_of v) r label

  -- ---- fitness

  -- a place that may hold the value may still hold it when another has taken it
  still-may-hold : (S : Cells) (k l : ℕ) → Sized S → MayHold S l (cell_of v) → MayHold (put_cell S k (cell_of v)) l (cell_of v)
  still-may-hold S k l s (in_variable h) = in_variable h
  still-may-hold S k l s (in_field a b) = in_field (go (ℕ_discrete l k) (dec_lt l 576)) b
    where
      go : Dec (l ≡ k) → Dec (l < 576) → number_of (cell_at (put_cell S k (cell_of v)) l).kind ≡ 0 → ⊥
      go (yes q) (yes h) = rw (q, read_same S k (cell_of v) s (omega arith)) (cell-used v)
      go (yes q) (no h) = λ e. a (rw (no_cell S l (omega arith)) refl)
      go (no n) d = rw (read-other S k l (cell_of v) n) a

  -- the tables stay fit where each of the cells may hold the value and the value fits
  pub put-all-fit : (S : Cells) (ls : List ℕ) → Fit S → ((l : ℕ) → member l ls ≡ true → MayHold S l (cell_of v)) → cell_fits (word_at S.heap 0) (cell_of v) ≡ true → Fit (put_all S ls v)
  unfolding put_all
  put-all-fit S [] f m c = f
  put-all-fit S (k ∷ ls) f m c =
      put-all-fit (put_cell S k (cell_of v)) ls (fit-put S k (cell_of v) f c (m k (member-head k k ls refl)))
      (λ l e. still-may-hold S k l f.sized (m l (member-tail l k ls e)))
      (rw (put-count-word S k (cell_of v)) c)
