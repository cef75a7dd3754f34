-- Laws of reading and putting a cell by its location. Assumes nothing.
use mathlib.Core.Path.{◌≡◌, refl, sym, ap, ◌∙◌}
use mathlib.Core.Bool.{◌&&◌}
use mathlib.Core.List.{List}
use Prim.Native.Nat.{ℕ, ◌+◌, ◌-◌, ◌*◌, ◌/◌, ◌%◌, ◌≤◌, ◌<◌}
use native.Mathlib.Omega.{arith}
use native.Mathlib.Decide.{dec_lt}
use borrow.Author.Tests.{lt-ltb, le-ltb, ltb-true}
use lib.Dec.{ltb, eqb}
use lib.IntN.{ℤ, pos}
use lib.ListN.{length, get_or, set, length-set}
use lib.Seq.{get_or-set_same, get_or-set_other, set-get_or, set-set, set_comm}
use Rattle.words.specs.Words.{word_at, number_at}
use Rattle.tables.specs.Sizes.{field_location, field_word, count_word, label_word}
use Rattle.tables.specs.Values.{cell, absent}
use Rattle.tables.specs.Cells.{Cells, cells, Sized, pair_at, put_pair, location_word, cell_at, put_cell}
use Rattle.tables.specs.Records.{record_count, count_at, field_count, label_at, field_at, place_with, field_with}
use Rattle.tables.specs.declared.Cell.{Cell}
use Rattle.tables.proofs.WordLaws.{number_same}
use Rattle.tables.proofs.SearchLaws.{cases, first-same, and_right}

-- ---- where words stand

-- a word of the heap is in one record, at one place of it
pub apart_words : (r q a b : ℕ) → a < 25 → b < 25 → 25 * r + a ≡ 25 * q + b → (r ≡ q) × (a ≡ b)
apart_words r q a b x y e = go (dec_lt r q) (dec_lt q r)
  where
    go : Dec (r < q) → Dec (q < r) → (r ≡ q) × (a ≡ b)
    go (yes h) d = let z : ⊥ = omega arith in absurd z
    go (no h) (yes k) = let z : ⊥ = omega arith in absurd z
    go (no h) (no k) = let w : r ≡ q = omega arith in (w, omega arith)

-- two pairs of words of which none is in both
pub record Clear (i j : ℕ) : Type 0 where
  pub starts : j ≡ i → ⊥
  pub after : j ≡ i + 1 → ⊥
  pub before : i ≡ j + 1 → ⊥

pub fields-clear : (r q f g : ℕ) → f < 8 → g < 8 → (field_location q g ≡ field_location r f → ⊥) → Clear (field_word r f) (field_word q g)
unfolding field_word field_location
fields-clear r q f g a b n = record {
  starts = λ e. let k = apart_words q r (3 * g + 2) (3 * f + 2) (omega arith) (omega arith) (omega arith) in n (omega arith);
  after = λ e. let k = apart_words q r (3 * g + 2) (3 * f + 3) (omega arith) (omega arith) (omega arith) in omega arith;
  before = λ e. let k = apart_words r q (3 * f + 2) (3 * g + 3) (omega arith) (omega arith) (omega arith) in omega arith;
}

pub variables-clear : (x y : ℕ) → (y ≡ x → ⊥) → Clear (2 * x) (2 * y)
variables-clear x y n = record { starts = λ e. n (omega arith); after = λ e. omega arith; before = λ e. omega arith }

-- ---- a pair of words

module _ (s : List ℤ) (i : ℕ) where
  pub pair-length : (c : Cell) → length (put_pair s i c) ≡ length s
  pair-length c = simp length-set

  -- a word that is neither of the two is as it was
  pub pair-word : (c : Cell) (k : ℕ) (d : ℤ) → (k ≡ i → ⊥) → (k ≡ i + 1 → ⊥) → get_or (put_pair s i c) k d ≡ get_or s k d
  pair-word c k d m n = get_or-set_other (set s i c.kind) (i + 1) k c.payload d n ∙ get_or-set_other s i k c.kind d m

  pub pair_same : (c : Cell) → i + 1 < length s → pair_at (put_pair s i c) i ≡ c
  pair_same c h =
      let a : word_at (put_pair s i c) i ≡ c.kind = get_or-set_other (set s i c.kind) (i + 1) i c.payload (pos 0) (λ e. omega arith) ∙ get_or-set_same s i c.kind (pos 0) (omega arith) in
      let b : word_at (put_pair s i c) (i + 1) ≡ c.payload = get_or-set_same (set s i c.kind) (i + 1) c.payload (pos 0) (simp length-set h) in
      rw (a, b)

  pub pair-other : (c : Cell) (j : ℕ) → Clear i j → pair_at (put_pair s i c) j ≡ pair_at s j
  pair-other c j k =
      rw (pair-word c j (pos 0) k.starts k.after, pair-word c (j + 1) (pos 0) (λ e. k.before (sym e)) (λ e. k.starts (omega arith)))

  -- a pair that takes another payload keeps its kind, past the end too
  pair-kind : (w : ℤ) → word_at (put_pair s i (cell (word_at s i) w)) i ≡ word_at s i
  pair-kind w = get_or-set_other (set s i (word_at s i)) (i + 1) i w (pos 0) (λ e. omega arith) ∙ ap (λ t. word_at t i) (set-get_or s i (pos 0))

  pub pair-back : put_pair s i (pair_at s i) ≡ s
  pair-back = rw (set-get_or s i (pos 0)) (set-get_or s (i + 1) (pos 0))

  pub pair-again : (a b : Cell) → put_pair (put_pair s i a) i b ≡ put_pair s i b
  pair-again a b =
      let e : i ≡ i + 1 → ⊥ = λ q. omega arith in
      rw (sym (set_comm (set s i a.kind) i (i + 1) b.kind a.payload e), set-set s i a.kind b.kind, set-set (set s i b.kind) (i + 1) a.payload b.payload)

  pub pair-swap : (a b : Cell) (j : ℕ) → Clear i j → put_pair (put_pair s i a) j b ≡ put_pair (put_pair s j b) i a
  pair-swap a b j k =
      let p = set_comm (set s i a.kind) (i + 1) j a.payload b.kind (λ e. k.after (sym e)) in
      let q = set_comm s i j a.kind b.kind (λ e. k.starts (sym e)) in
      let u = set_comm (set (set s j b.kind) i a.kind) (i + 1) (j + 1) a.payload b.payload (λ e. k.starts (omega arith)) in
      let v = set_comm (set s j b.kind) i (j + 1) a.kind b.payload k.before in
      rw (p, q, u, v)

-- ---- where a location is

pub data Located : ℕ → Type 0 where
  a-variable : {x : ℕ} → x < 64 → Located x
  a-field : (r f : ℕ) → r < 64 → f < 8 → Located (field_location r f)
  nowhere : {l : ℕ} → 576 ≤ l → Located l

pub record AsField (l : ℕ) : Type 0 where
  pub row : ℕ
  pub place : ℕ
  pub is : l ≡ field_location row place
  pub row_small : row < 64
  pub place-small : place < 8

-- the location of a field place is none of a variable, is one of 576, and is that of one place of one record
pub location-high : (r f : ℕ) → 64 ≤ field_location r f
unfolding field_location
location-high r f = omega arith

pub location-low : (r f : ℕ) → r < 64 → f < 8 → field_location r f < 576
unfolding field_location
location-low r f a b = omega arith

pub same_place : (r q f g : ℕ) → f < 8 → g < 8 → field_location r f ≡ field_location q g → (r ≡ q) × (f ≡ g)
unfolding field_location
same_place r q f g a b e = go (dec_lt r q) (dec_lt q r)
  where
    go : Dec (r < q) → Dec (q < r) → (r ≡ q) × (f ≡ g)
    go (yes h) d = let z : ⊥ = omega arith in absurd z
    go (no h) (yes k) = let z : ⊥ = omega arith in absurd z
    go (no h) (no k) = let w : r ≡ q = omega arith in (w, omega arith)

-- a location is that of one of the first n field places of record r, or of none of them
pub data Among (r n l : ℕ) : Type 0 where
  the-place : (f : ℕ) → f < n → l ≡ field_location r f → Among r n l
  no_place : ((f : ℕ) → f < n → l ≡ field_location r f → ⊥) → Among r n l

pub among : (r n l : ℕ) → Among r n l
unfolding field_location
among r n l = go (dec_lt l (field_location r 0)) (dec_lt l (field_location r n))
  where
    go : Dec (l < field_location r 0) → Dec (l < field_location r n) → Among r n l
    go (yes a) d = no_place (λ f i e. omega arith)
    go (no a) (no b) = no_place (λ f i e. omega arith)
    go (no a) (yes b) = the-place (l - field_location r 0) (omega arith) (omega arith)

-- a location from 64 to 575 is a field place's
pub location-split : (l : ℕ) → 64 ≤ l → l < 576 → AsField l
unfolding field_location
location-split l a b = record { row = (l - 64) / 8; place = (l - 64) % 8; is = omega arith; row_small = omega arith; place-small = omega arith }

pub located : (l : ℕ) → Located l
located l = go (dec_lt l 64) (dec_lt l 576)
  where
    go : Dec (l < 64) → Dec (l < 576) → Located l
    go (yes h) d = a-variable h
    go (no h) (yes k) = let s = location-split l (omega arith) k in rw s.is (a-field s.row s.place s.row_small s.place-small)
    go (no h) (no k) = let m : 576 ≤ l = omega arith in nowhere m

pub location-word : (r f : ℕ) → f < 8 → location_word (field_location r f) ≡ field_word r f
unfolding location_word field_location
location-word r f h =
    let a : (64 + 8 * r + f - 64) / 8 ≡ r = omega arith in
    let b : (64 + 8 * r + f - 64) % 8 ≡ f = omega arith in
    rw (a, b)

pub location-small : (l : ℕ) → l < 576 → location_word l < 4096
unfolding location_word field_word
location-small l h = omega arith

-- ---- reading and putting, by the kind of location

module _ (S : Cells) where
  pub variable-cell : (x : ℕ) → x < 64 → cell_at S x ≡ pair_at S.environment (2 * x)
  unfolding cell_at
  variable-cell x h = rw (lt-ltb x 64 h)

  pub field-cell : (r f : ℕ) → r < 64 → f < 8 → cell_at S (field_location r f) ≡ pair_at S.heap (field_word r f)
  unfolding cell_at
  field-cell r f a b = rw (le-ltb (field_location r f) 64 (location-high r f), lt-ltb (field_location r f) 576 (location-low r f a b), location-word r f b)

  pub field-at : (r f : ℕ) → r < 64 → f < 8 → cell_at S (field_location r f) ≡ field_at S.heap r f
  unfolding field_at
  field-at r f a b = rw (lt-ltb r 64 a, lt-ltb f 8 b) (field-cell r f a b)

  pub no_cell : (l : ℕ) → 576 ≤ l → cell_at S l ≡ absent
  unfolding cell_at
  no_cell l h = rw (le-ltb l 64 (omega arith), le-ltb l 576 h)

  pub put-variable : (x : ℕ) (c : Cell) → x < 64 → put_cell S x c ≡ cells (put_pair S.environment (2 * x) c) S.heap
  unfolding put_cell
  put-variable x c h = rw (lt-ltb x 64 h)

  pub put-field : (r f : ℕ) (c : Cell) → r < 64 → f < 8 → put_cell S (field_location r f) c ≡ cells S.environment (put_pair S.heap (field_word r f) c)
  unfolding put_cell
  put-field r f c a b = rw (le-ltb (field_location r f) 64 (location-high r f), lt-ltb (field_location r f) 576 (location-low r f a b), location-word r f b)

  pub put-nowhere : (l : ℕ) (c : Cell) → 576 ≤ l → put_cell S l c ≡ S
  unfolding put_cell
  put-nowhere l c h = rw (le-ltb l 64 (omega arith), le-ltb l 576 h)

-- ---- what is put is read back, and the rest stays

pub read_same : (S : Cells) (l : ℕ) (c : Cell) → Sized S → l < 576 → cell_at (put_cell S l c) l ≡ c
unfolding field_word
read_same S l c s h = go l (located l) h
  where
    go : (k : ℕ) → Located k → k < 576 → cell_at (put_cell S k c) k ≡ c
    go k (a-variable a) h = rw (put-variable S k c a, variable-cell (cells (put_pair S.environment (2 * k) c) S.heap) k a) (pair_same S.environment (2 * k) c (omega arith))
    go _ (a-field r f a b) h =
        rw (put-field S r f c a b, field-cell (cells S.environment (put_pair S.heap (field_word r f) c)) r f a b) (pair_same S.heap (field_word r f) c (omega arith))
    go k (nowhere a) h = let z : ⊥ = omega arith in absurd z

module _ (S : Cells) (c : Cell) where
  other-cell : {l k : ℕ} → Located l → Located k → (k ≡ l → ⊥) → cell_at (put_cell S l c) k ≡ cell_at S k
  other-cell {l} {k} (a-variable a) (a-variable b) n =
      rw (put-variable S l c a, variable-cell (cells (put_pair S.environment (2 * l) c) S.heap) k b, variable-cell S k b)
      (pair-other S.environment (2 * l) c (2 * k) (variables-clear l k n))
  other-cell {l} (a-variable a) (a-field q g x y) n =
      rw (put-variable S l c a, field-cell (cells (put_pair S.environment (2 * l) c) S.heap) q g x y, field-cell S q g x y)
  other-cell {l} {k} (a-variable a) (nowhere b) n =
      rw (no_cell (put_cell S l c) k b, no_cell S k b)
  other-cell {k = k} (a-field r f a b) (a-variable x) n =
      rw (put-field S r f c a b, variable-cell (cells S.environment (put_pair S.heap (field_word r f) c)) k x, variable-cell S k x)
  other-cell (a-field r f a b) (a-field q g x y) n =
      rw (put-field S r f c a b, field-cell (cells S.environment (put_pair S.heap (field_word r f) c)) q g x y, field-cell S q g x y)
      (pair-other S.heap (field_word r f) c (field_word q g) (fields-clear r q f g b y n))
  other-cell {k = k} (a-field r f a b) (nowhere x) n =
      rw (no_cell (put_cell S (field_location r f) c) k x, no_cell S k x)
  other-cell {l} (nowhere a) _ n = rw (put-nowhere S l c a)

pub read-other : (S : Cells) (l k : ℕ) (c : Cell) → (k ≡ l → ⊥) → cell_at (put_cell S l c) k ≡ cell_at S k
read-other S l k c n = other-cell S c (located l) (located k) n

-- a cell that takes another payload keeps its kind, in tables of every length
pub read-kind : (S : Cells) (l : ℕ) (w : ℤ) → (cell_at (put_cell S l (cell (cell_at S l).kind w)) l).kind ≡ (cell_at S l).kind
read-kind S l w = go (located l)
  where
    go : {k : ℕ} → Located k → (cell_at (put_cell S k (cell (cell_at S k).kind w)) k).kind ≡ (cell_at S k).kind
    go {k} (a-variable a) =
        let c = cell (word_at S.environment (2 * k)) w in
        rw (variable-cell S k a, put-variable S k c a, variable-cell (cells (put_pair S.environment (2 * k) c) S.heap) k a) (pair-kind S.environment (2 * k) w)
    go (a-field r f a b) =
        let c = cell (word_at S.heap (field_word r f)) w in
        rw (field-cell S r f a b, put-field S r f c a b, field-cell (cells S.environment (put_pair S.heap (field_word r f) c)) r f a b) (pair-kind S.heap (field_word r f) w)
    go {k} (nowhere a) = rw (put-nowhere S k (cell (cell_at S k).kind w) a)

-- ---- putting twice

module _ (S : Cells) where
  pub put_same : (l : ℕ) → put_cell S l (cell_at S l) ≡ S
  put_same l = go (located l)
    where
      go : {k : ℕ} → Located k → put_cell S k (cell_at S k) ≡ S
      go {k} (a-variable a) = rw (variable-cell S k a, put-variable S k (pair_at S.environment (2 * k)) a, pair-back S.environment (2 * k))
      go (a-field r f a b) = rw (field-cell S r f a b, put-field S r f (pair_at S.heap (field_word r f)) a b, pair-back S.heap (field_word r f))
      go {k} (nowhere a) = put-nowhere S k (cell_at S k) a

  pub put-put : (l : ℕ) (a b : Cell) → put_cell (put_cell S l a) l b ≡ put_cell S l b
  put-put l a b = go (located l)
    where
      go : {k : ℕ} → Located k → put_cell (put_cell S k a) k b ≡ put_cell S k b
      go {k} (a-variable x) =
          rw (put-variable S k a x, put-variable S k b x, put-variable (cells (put_pair S.environment (2 * k) a) S.heap) k b x, pair-again S.environment (2 * k) a b)
      go (a-field r f x y) =
          rw (put-field S r f a x y, put-field S r f b x y, put-field (cells S.environment (put_pair S.heap (field_word r f) a)) r f b x y, pair-again S.heap (field_word r f) a b)
      go {k} (nowhere x) = rw (put-nowhere S k a x)

  pub put_back : (l : ℕ) (c : Cell) → put_cell (put_cell S l c) l (cell_at S l) ≡ S
  put_back l c = put-put l c (cell_at S l) ∙ put_same l

module _ (S : Cells) (a b : Cell) where
  swapped : {l k : ℕ} → Located l → Located k → (k ≡ l → ⊥) → put_cell (put_cell S l a) k b ≡ put_cell (put_cell S k b) l a
  swapped {l} {k} (a-variable x) (a-variable y) n =
      rw (
        put-variable S l a x,
        put-variable S k b y,
        put-variable (cells (put_pair S.environment (2 * l) a) S.heap) k b y,
        put-variable (cells (put_pair S.environment (2 * k) b) S.heap) l a x,
        pair-swap S.environment (2 * l) a b (2 * k) (variables-clear l k n),
      )
  swapped {l} (a-variable x) (a-field q g y z) n =
      rw (
        put-variable S l a x,
        put-field S q g b y z,
        put-field (cells (put_pair S.environment (2 * l) a) S.heap) q g b y z,
        put-variable (cells S.environment (put_pair S.heap (field_word q g) b)) l a x,
      )
  swapped {l} {k} (a-variable x) (nowhere y) n = rw (put-nowhere S k b y) (put-nowhere (put_cell S l a) k b y)
  swapped {k = k} (a-field r f x y) (a-variable z) n =
      rw (
        put-field S r f a x y,
        put-variable S k b z,
        put-variable (cells S.environment (put_pair S.heap (field_word r f) a)) k b z,
        put-field (cells (put_pair S.environment (2 * k) b) S.heap) r f a x y,
      )
  swapped (a-field r f x y) (a-field q g z w) n =
      rw (
        put-field S r f a x y,
        put-field S q g b z w,
        put-field (cells S.environment (put_pair S.heap (field_word r f) a)) q g b z w,
        put-field (cells S.environment (put_pair S.heap (field_word q g) b)) r f a x y,
        pair-swap S.heap (field_word r f) a b (field_word q g) (fields-clear r q f g y w n),
      )
  swapped {k = k} (a-field r f x y) (nowhere z) n = rw (put-nowhere S k b z) (put-nowhere (put_cell S (field_location r f) a) k b z)
  swapped {l} {k} (nowhere x) _ n = rw (put-nowhere S l a x) (sym (put-nowhere (put_cell S k b) l a x))

pub put-swap : (S : Cells) (l k : ℕ) (a b : Cell) → (k ≡ l → ⊥) → put_cell (put_cell S l a) k b ≡ put_cell (put_cell S k b) l a
put-swap S l k a b n = swapped S a b (located l) (located k) n

-- ---- what putting leaves: lengths, counts and labels

-- a word of the heap that is no cell's
abbrev pub NoCell : ℕ → Type 0
NoCell k = (r f : ℕ) → f < 8 → (k ≡ field_word r f → ⊥) × (k ≡ field_word r f + 1 → ⊥)

pub count-no-cell : (q : ℕ) → NoCell (count_word q)
unfolding count_word field_word
count-no-cell q r f h = (
  λ e. let k = apart_words q r 0 (3 * f + 2) (omega arith) (omega arith) (omega arith) in omega arith,
  λ e. let k = apart_words q r 0 (3 * f + 3) (omega arith) (omega arith) (omega arith) in omega arith,
)

pub label-no-cell : (q g : ℕ) → g < 8 → NoCell (label_word q g)
unfolding label_word field_word
label-no-cell q g l r f h = (
  λ e. let k = apart_words q r (3 * g + 1) (3 * f + 2) (omega arith) (omega arith) (omega arith) in omega arith,
  λ e. let k = apart_words q r (3 * g + 1) (3 * f + 3) (omega arith) (omega arith) (omega arith) in omega arith,
)

module _ (S : Cells) (l : ℕ) (c : Cell) where
  pub put-lengths : (length (put_cell S l c).environment ≡ length S.environment) × (length (put_cell S l c).heap ≡ length S.heap)
  put-lengths = go (located l)
    where
      go : {k : ℕ} → Located k → (length (put_cell S k c).environment ≡ length S.environment) × (length (put_cell S k c).heap ≡ length S.heap)
      go {k} (a-variable a) = rw (put-variable S k c a) (pair-length S.environment (2 * k) c, refl)
      go (a-field r f a b) = rw (put-field S r f c a b) (refl, pair-length S.heap (field_word r f) c)
      go {k} (nowhere a) = rw (put-nowhere S k c a) (refl, refl)

  pub put-sized : Sized S → Sized (put_cell S l c)
  put-sized s = record { environment = put-lengths.0 ∙ s.environment; heap = put-lengths.1 ∙ s.heap }

  pub put_word : (k : ℕ) (d : ℤ) → NoCell k → get_or (put_cell S l c).heap k d ≡ get_or S.heap k d
  put_word k d n = go (located l)
    where
      go : {j : ℕ} → Located j → get_or (put_cell S j c).heap k d ≡ get_or S.heap k d
      go {j} (a-variable a) = rw (put-variable S j c a)
      go (a-field r f a b) = rw (put-field S r f c a b) (pair-word S.heap (field_word r f) c k d (n r f b).0 (n r f b).1)
      go {j} (nowhere a) = rw (put-nowhere S j c a)

  pub put-number : (k : ℕ) → NoCell k → number_at (put_cell S l c).heap k ≡ number_at S.heap k
  put-number k n = number_same (put_cell S l c).heap S.heap k put-lengths.1 (put_word k (pos 0) n)

  pub put-count-word : word_at (put_cell S l c).heap 0 ≡ word_at S.heap 0
  unfolding field_word
  put-count-word = put_word 0 (pos 0) (λ r f h. (λ e. omega arith, λ e. omega arith))

  pub put-records : record_count (put_cell S l c).heap ≡ record_count S.heap
  unfolding record_count field_word
  put-records = put-number 0 (λ r f h. (λ e. omega arith, λ e. omega arith))

  pub put_count : (r : ℕ) → count_at (put_cell S l c).heap r ≡ count_at S.heap r
  unfolding count_at
  put_count r = rw (put-number (count_word r) (count-no-cell r))

  pub put-fields : (r : ℕ) → field_count (put_cell S l c).heap r ≡ field_count S.heap r
  unfolding field_count
  put-fields r = rw (put_count r)

  pub put-label : (r f : ℕ) → label_at (put_cell S l c).heap r f ≡ label_at S.heap r f
  unfolding label_at
  put-label r f = cases (ltb r 64 && ltb f 8)
      (λ e. rw (e, put-number (label_word r f) (label-no-cell r f (ltb-true f 8 (and_right (ltb r 64) (ltb f 8) e)))))
      (λ e. rw e)

  pub put-place : (r label : ℕ) → place_with (put_cell S l c).heap r label ≡ place_with S.heap r label
  unfolding place_with
  put-place r label =
      rw (put-fields r) (first-same (λ f. eqb (label_at (put_cell S l c).heap r f) label) (λ f. eqb (label_at S.heap r f) label) 0 (field_count S.heap r) (λ j a b. rw (put-label r j)))

  pub put-found : (r label : ℕ) → field_with (put_cell S l c).heap r label ≡ field_with S.heap r label
  unfolding field_with
  put-found r label = rw (put-place r label, put-fields r)
