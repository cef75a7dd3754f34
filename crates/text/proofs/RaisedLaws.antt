-- Words that move up, and a gap before them that is filled. Assumes nothing.
use mathlib.Core.Path.{◌≡◌, refl, sym, ap, ◌∙◌}
use mathlib.Core.List.{List, [], ◌∷◌, ◌++◌, append_assoc}
use Prim.Native.Nat.{ℕ, zero, suc, ◌+◌, ◌-◌, ◌≤◌, ◌<◌}
use native.Mathlib.Omega.{arith}
use native.Mathlib.Numerals.{add-one}
use borrow.Author.Tests.{eqb-true}
use lib.Dec.{eqb}
use lib.IntN.{ℤ, pos}
use lib.ListN.{length, get_or, set, take, drop, length-set, length-drop}
use lib.Seq.{take-set-le, take-suc, get_or-set_same, get_or-set_other, get_or-drop, drop-set-add, drop-cons, length-take-le, drop_at, take-append-add, sets, sets-eq}
use Rattle.tables.proofs.SearchLaws.{cases}
use Rattle.text.specs.Reading.{everywhere}
use Rattle.text.specs.declared.Carried.{Carried}
use Rattle.text.specs.Told.{reader_of}
use Rattle.text.specs.Written.{since, raised, filled}
use Rattle.text.specs.Pieces.{form_of, piece_of, Inserts}
use Rattle.text.proofs.RowsLaws.{fit-room}
use Rattle.text.proofs.StepLaws.{does-given, does-full}

-- ---- words that move up

module _ {A : Type 0} (z : A) (from k : ℕ) where
  raised-length : (n : ℕ) (ws : List A) → length (raised z from k n ws) ≡ length ws
  unfolding raised
  raised-length zero ws = refl
  raised-length (suc n) ws = raised-length n (set ws (from + n + k) (get_or ws (from + n) z)) ∙ length-set ws (from + n + k) (get_or ws (from + n) z)

  -- what stands before them stays, and what stands behind them
  raised-before : (m n : ℕ) (ws : List A) → m ≤ from → take m (raised z from k n ws) ≡ take m ws
  unfolding raised
  raised-before m zero ws h = refl
  raised-before m (suc n) ws h = raised-before m n (set ws (from + n + k) (get_or ws (from + n) z)) h ∙ take-set-le m ws (from + n + k) (get_or ws (from + n) z) (omega arith)

  raised-behind : (n j : ℕ) (ws : List A) → from + n + k ≤ j → get_or (raised z from k n ws) j z ≡ get_or ws j z
  unfolding raised
  raised-behind zero j ws h = refl
  raised-behind (suc n) j ws h =
      raised-behind n j (set ws (from + n + k) (get_or ws (from + n) z)) (omega arith) ∙ get_or-set_other ws (from + n + k) j (get_or ws (from + n) z) z (λ e. omega arith)

  -- a word that is set above others, and one more of two rows that agree
  one_more_lem : (n : ℕ) (us ws : List A) → n < length us → n < length ws → take n us ≡ take n ws → get_or us n z ≡ get_or ws n z → take (suc n) us ≡ take (suc n) ws
  one_more_lem n us ws a b e f = take-suc us n z a ∙ rw (e, f) (sym (take-suc ws n z b))

  set-above : (n : ℕ) (ws : List A) (v : A) → take n (drop from (set ws (from + n + k) v)) ≡ take n (drop from ws)
  set-above n ws v = let h : from + n + k ≡ from + (n + k) = omega arith in rw (h, drop-set-add from ws (n + k) v) (take-set-le n (drop from ws) (n + k) v (omega arith))

  set_there : (n : ℕ) (ws : List A) (v : A) → from + n + k < length ws → get_or (set ws (from + n + k) v) (from + k + n) z ≡ v
  set_there n ws v h = let e : from + k + n ≡ from + n + k = omega arith in rw e (get_or-set_same ws (from + n + k) v z h)

  -- they stand k further up
  raised-words : (n : ℕ) (ws : List A) → from + n + k ≤ length ws → take n (drop (from + k) (raised z from k n ws)) ≡ take n (drop from ws)
  unfolding raised
  raised-words zero ws h = refl
  raised-words (suc n) ws h = raised-more n ws (set ws (from + n + k) (get_or ws (from + n) z)) refl h (λ us l. raised-words n us l)
    where
      raised-more : (n : ℕ) (ws us : List A)
          → us ≡ set ws (from + n + k) (get_or ws (from + n) z) → from + suc n + k ≤ length ws
          → ((vs : List A) → from + n + k ≤ length vs → take n (drop (from + k) (raised z from k n vs)) ≡ take n (drop from vs))
          → take (suc n) (drop (from + k) (raised z from k n us)) ≡ take (suc n) (drop from ws)
      raised-more n ws us e h go =
          let long : length us ≡ length ws = rw e (length-set ws (from + n + k) (get_or ws (from + n) z)) in
          one_more_lem n (drop (from + k) (raised z from k n us)) (drop from ws)
          (rw (length-drop (from + k) (raised z from k n us), raised-length n us) (omega arith)) (rw (length-drop from ws) (omega arith))
          (go us (omega arith) ∙ rw e (set-above n ws (get_or ws (from + n) z)))
          (get_or-drop (from + k) (raised z from k n us) n z ∙ raised-behind n (from + k + n) us (omega arith)
          ∙ rw e (set_there n ws (get_or ws (from + n) z) (omega arith)) ∙ sym (get_or-drop from ws n z))

-- where the code is: those up to i are still to be moved
pub record Raising {A : Type 0} (z : A) (from k end : ℕ) (before ws : List A) (i : ℕ) : Type 0 where
  pub inside : i ≤ end
  pub rest : raised z from k (i - from) ws ≡ raised z from k (end - from) before
  pub long : length ws ≡ length before

module _ {A : Type 0} {z : A} {from k end : ℕ} {before : List A} where
  pub raising-starts : Raising z from k end before before end
  raising-starts = record { inside = omega arith; rest = refl; long = refl }

  module _ {ws : List A} {i : ℕ} (inv : Raising z from k end before ws i) where
    pub raising-goes-on : from < i → {us : List A} {w : A} → w ≡ get_or ws (i - 1) z → us ≡ set ws (i - 1 + k) w → Raising z from k end before us (i - 1)
    unfolding raised
    raising-goes-on h {us = us} {w = w} e f =
        let n : i - from ≡ suc (i - 1 - from) = omega arith in
        let m : from + (i - 1 - from) ≡ i - 1 = omega arith in
        let g : raised z from k (i - from) ws ≡ raised z from k (i - 1 - from) us = rw (f, e, n) (ap (λ j. raised z from k (i - 1 - from) (set ws (j + k) (get_or ws j z))) m) in
        record { inside = omega (arith, inv.inside); rest = sym g ∙ inv.rest; long = rw f (length-set ws (i - 1 + k) w ∙ inv.long) }

    pub raising-ends : i ≤ from → ws ≡ raised z from k (end - from) before
    unfolding raised
    raising-ends h = let n : i - from ≡ 0 = omega arith in rw n at inv.rest

-- ---- a gap that is filled

module _ {A : Type 0} where
  filled-sets : (from : ℕ) (gap ws : List A) → filled from gap ws ≡ sets ws from gap
  unfolding filled
  filled-sets from [] ws = refl
  filled-sets from (w ∷ gap) ws = filled-sets (suc from) gap (set ws from w)

  filled-length : (from : ℕ) (gap ws : List A) → length (filled from gap ws) ≡ length ws
  unfolding filled
  filled-length from [] ws = refl
  filled-length from (w ∷ gap) ws = filled-length (suc from) gap (set ws from w) ∙ length-set ws from w

  filled-before : (m from : ℕ) (gap ws : List A) → m ≤ from → take m (filled from gap ws) ≡ take m ws
  unfolding filled
  filled-before m from [] ws h = refl
  filled-before m from (w ∷ gap) ws h = filled-before m (suc from) gap (set ws from w) (omega arith) ∙ take-set-le m ws from w h

  -- the gap, and what stands behind it
  filled-words : (from n : ℕ) (gap ws : List A) → from + length gap ≤ length ws → take (length gap + n) (drop from (filled from gap ws)) ≡ gap ++ take n (drop (from + length gap) ws)
  filled-words from n gap ws h =
      let e : filled from gap ws ≡ take from ws ++ gap ++ drop (from + length gap) ws = filled-sets from gap ws ∙ sets-eq gap ws from h in
      rw e (rw (append_assoc (take from ws) gap (drop (from + length gap) ws), drop_at (take from ws) (gap ++ drop (from + length gap) ws) from (length-take-le from ws (omega arith)))
      (take-append-add gap (drop (from + length gap) ws) n))

-- where the code is: the gap from i on is still to be stored
pub record Filling {A : Type 0} (from : ℕ) (gap before rest ws : List A) (i : ℕ) : Type 0 where
  pub still : filled (from + i) rest ws ≡ filled from gap before
  pub long : length ws ≡ length before

module _ {A : Type 0} {from : ℕ} {gap before : List A} where
  pub filling-starts : Filling from gap before gap before 0
  filling-starts = let e : from + 0 ≡ from = omega arith in record { still = rw e; long = refl }

  module _ {rest ws : List A} {i : ℕ} (inv : Filling from gap before rest ws i) where
    pub filling-goes-on : {w : A} {later us : List A} → rest ≡ w ∷ later → us ≡ set ws (from + i) w → Filling from gap before later us (i + 1)
    unfolding filled
    filling-goes-on {w = w} {later = later} {us = us} e f =
        let n : from + (i + 1) ≡ suc (from + i) = omega arith in
        let g : filled (from + i) rest ws ≡ filled (suc (from + i)) later us = rw (e, f) in
        record { still = rw n (sym g ∙ inv.still); long = rw f (length-set ws (from + i) w ∙ inv.long) }

    pub filling-ends : rest ≡ [] → ws ≡ filled from gap before
    unfolding filled
    filling-ends e = rw e at inv.still

-- the gap from i on: its words, and their places
pub gap-words : (gap : List ℤ) (i : ℕ) → i < length gap → drop i gap ≡ get_or gap i (pos 0) ∷ drop (i + 1) gap
gap-words gap i h = rw (add-one i) (drop-cons gap i (pos 0) h)

pub gap-places : (p : ℕ) (gap : List ℤ) (i : ℕ) → i < length gap → everywhere p (drop i gap) ≡ p ∷ everywhere p (drop (i + 1) gap)
gap-places p gap i h = ap (everywhere p) (gap-words gap i h)

-- ---- a gap before what is written

everywhere-length : (p : ℕ) (gap : List ℤ) → length (everywhere p gap) ≡ length gap
everywhere-length p [] = refl
everywhere-length p (w ∷ gap) = ap suc (everywhere-length p gap)

since-inserted : {A : Type 0} (z : A) (from k : ℕ) (gap ws : List A) (r s : Carried)
    → length gap ≡ k → from ≤ r.written → r.written + k ≤ length ws → s.written ≡ r.written + k
    → since from (filled from gap (raised z from k (r.written - from) ws)) s ≡ gap ++ since from ws r
unfolding since
since-inserted z from k gap ws r s e h l w =
    let n : s.written - from ≡ length gap + (r.written - from) = omega arith in
    let m : from + length gap ≡ from + k = omega arith in
    rw n
    (filled-words from (r.written - from) gap (raised z from k (r.written - from) ws) (rw (raised-length z from k (r.written - from) ws) (omega arith))
    ∙ rw m (ap (λ l. gap ++ l) (raised-words z from k (r.written - from) ws (omega arith))))

-- the same reader, with k words more
abbrev pub grown_by : ℕ → Carried → Carried
grown_by k r = record r { written = r.written + k }

module _ (from p : ℕ) (gap ws : List ℤ) (os : List ℕ) (r : Carried) where
  -- what cannot be inserted is refused already
  pub inserts-none : 4100 ≤ r.written + length gap → Inserts from gap p ws os r ws os r
  inserts-none h names deep most lacking small =
      does-full small (omega arith)

  pub inserts-nowhere : r.written < from → Inserts from gap p ws os r ws os r
  inserts-nowhere h names deep most lacking small =
      does-given λ f. let z : ⊥ = omega (arith, f.begins) in absurd z

  module _ (h : from ≤ r.written) {xs vs : List ℤ} {ys us : List ℕ}
      (a : xs ≡ raised (pos 0) from (length gap) (r.written - from) ws) (b : ys ≡ raised 0 from (length gap) (r.written - from) os)
      (c : vs ≡ filled from gap xs) (d : us ≡ filled from (everywhere p gap) ys) where
    words_are : r.written + length gap ≤ length ws → since from vs (grown_by (length gap) r) ≡ gap ++ since from ws r
    words_are l = rw (c, a) (since-inserted (pos 0) from (length gap) gap ws r (grown_by (length gap) r) refl h l refl)

    origins-are : r.written + length gap ≤ length os → since from us (grown_by (length gap) r) ≡ everywhere p gap ++ since from os r
    origins-are l = rw (d, b) (since-inserted 0 from (length gap) (everywhere p gap) os r (grown_by (length gap) r) (everywhere-length p gap) h l refl)

    pub inserts : Inserts from gap p ws os r vs us (grown_by (length gap) r)
    unfolding piece_of form_of reader_of
    inserts names deep most lacking small =
        record {
          reads = λ f. cases (eqb r.number 0)
              (λ e. let z : r.number ≡ 0 = eqb-true r.number 0 e in
              let l : r.written + length gap ≤ 4100 = omega (arith, fit-room small f z) in
              rw (e, words_are (omega (arith, f.words)), origins-are (omega (arith, f.origins))))
              (λ e. rw e);
          fit = λ f.
              record {
                names = f.names;
                words = rw (c, filled-length from gap xs, a, raised-length (pos 0) from (length gap) (r.written - from) ws) f.words;
                origins = rw (d, filled-length from (everywhere p gap) ys, b, raised-length 0 from (length gap) (r.written - from) os) f.origins;
                begins = omega arith;
                counts = λ z. omega (arith, f.counts z);
                certain = f.certain;
                owed = f.owed;
              };
          words_before = λ f. rw c (filled-before from from gap xs (omega arith) ∙ rw a (raised-before (pos 0) from (length gap) from (r.written - from) ws (omega arith)));
          origins_before = λ f. rw d (filled-before from from (everywhere p gap) ys (omega arith) ∙ rw b (raised-before 0 from (length gap) from (r.written - from) os (omega arith)));
        }
