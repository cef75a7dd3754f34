-- Laws of bytes stored in a row, and of lists laid over others. Assumes nothing.
use mathlib.Core.Path.{◌≡◌, refl, sym, ap, ◌∙◌}
use mathlib.Core.Bool.{cond}
use mathlib.Core.List.{List, [], ◌∷◌, ◌++◌, append_assoc}
use Prim.Native.Nat.{ℕ, suc, ◌+◌, ◌≤◌, ◌<◌}
use native.Mathlib.Omega.{arith}
use borrow.Author.Tests.{lt-ltb, le-ltb, le-leb, lt-leb, leb-true, leb-false}
use Rattle.tables.proofs.SearchLaws.{cases}
use lib.Dec.{leb}
use lib.ListN.{length, get_or, drop, set, length-append, drop_of_length-le}
use lib.Seq.{set-append_seam}
use Rattle.lister.specs.Bytes.{laid, Buffer, buffer, with_byte, written, Puts}
use Rattle.words.proofs.Laws.{drop-next}

-- ---- a list laid over another

pub laid_none : {A : Type 0} (s : List A) → laid [] s ≡ s
unfolding laid
laid_none s = refl

pub laid-length : {A : Type 0} (xs s : List A) → length (laid xs s) ≡ length s
unfolding laid
laid-length [] s = refl
laid-length (x ∷ xs) [] = refl
laid-length (x ∷ xs) (y ∷ s) = ap suc (laid-length xs s)

-- one element more, stored after those that are laid
pub laid_more : {A : Type 0} (xs s : List A) (w : A) → set (laid xs s) (length xs) w ≡ laid (xs ++ (w ∷ [])) s
unfolding laid
laid_more [] [] w = refl
laid_more [] (y ∷ s) w = refl
laid_more (x ∷ xs) [] w = refl
laid_more (x ∷ xs) (y ∷ s) w = ap (λ r. x ∷ r) (laid_more xs s w)

-- where there is room the list stands whole, and the rest is as it was
pub laid-fits : {A : Type 0} (xs s : List A) → length xs ≤ length s → laid xs s ≡ xs ++ drop (length xs) s
unfolding laid
laid-fits [] s h = refl
laid-fits (x ∷ xs) [] h = let z : ⊥ = omega arith in absurd z
laid-fits (x ∷ xs) (y ∷ s) h = ap (λ r. x ∷ r) (laid-fits xs s (omega arith))

-- ---- bytes in a row

pub written_none : (s : Buffer) → written s [] ≡ s
unfolding written
written_none s = refl

pub written_one : (s : Buffer) (b : ℕ) → written s (b ∷ []) ≡ with_byte s b
unfolding written
written_one s b = refl

pub written-append : (s : Buffer) (t u : List ℕ) → written s (t ++ u) ≡ written (written s t) u
unfolding written
written-append s [] u = refl
written-append s (b ∷ t) u = written-append (with_byte s b) t u

-- a text, and another after it
pub then : {s m e : List ℕ} {a b c : ℕ} {t u : List ℕ} → Puts s a t m b → Puts m b u e c → Puts s a (t ++ u) e c
then {s = s} {a = a} {t = t} {u = u} h k = record { is = k.is ∙ rw h.is (sym (written-append (buffer s a) t u)) }

pub puts_none : {s : List ℕ} {a : ℕ} → Puts s a [] s a
unfolding written
puts_none = record { is = refl }

-- the same text, named in another way
pub puts-as : {s e : List ℕ} {a c : ℕ} {t u : List ℕ} → t ≡ u → Puts s a t e c → Puts s a u e c
puts-as h k = rw (← h) k

-- a byte where there is room, and where there is none
pub put-room : {out : List ℕ} {at b : ℕ} → at < length out → Puts out at (b ∷ []) (set out at b) (at + 1)
unfolding written with_byte
put-room {out = out} {at = at} h = record { is = rw (lt-ltb at (length out) h) }

pub put_full : {out : List ℕ} {at b : ℕ} → length out ≤ at → Puts out at (b ∷ []) out at
unfolding written with_byte
put_full {out = out} {at = at} h = record { is = rw (le-ltb at (length out) h) }

full : (out : List ℕ) (at : ℕ) (t : List ℕ) → length out ≤ at → written (buffer out at) t ≡ buffer out at
unfolding written with_byte
full out at [] h = refl
full out at (b ∷ t) h = rw (le-ltb at (length out) h) (full out at t h)

-- a text written from the first byte on is laid over the bytes, and the place is behind it
abbrev pub counted : List ℕ → List ℕ → ℕ
counted t s = cond (leb (length t) (length s)) (length t) (length s)

count : (n l k : ℕ) → (n + 1) + cond (leb l k) l k ≡ n + cond (leb (suc l) (suc k)) (suc l) (suc k)
count n l k =
    cases (leb l k) (λ e. rw (e, le-leb (suc l) (suc k) (omega (arith, leb-true l k e))) (omega arith))
    (λ e. rw (e, lt-leb (suc l) (suc k) (omega (arith, leb-false l k e))) (omega arith))

behind : (a t s : List ℕ) → written (buffer (a ++ s) (length a)) t ≡ buffer (a ++ laid t s) (length a + counted t s)
unfolding written with_byte laid
behind a [] s = let z : length a + 0 ≡ length a = omega arith in rw (le-leb 0 (length s) (omega arith)) (ap (λ n. buffer (a ++ s) n) (sym z))
behind a (b ∷ t) [] =
    let l : length (a ++ []) ≤ length a = simp length-append (omega arith) in
    let z : length a + 0 ≡ length a = omega arith in
    full (a ++ []) (length a) (b ∷ t) l ∙ rw (lt-leb (suc (length t)) 0 (omega arith)) (ap (λ n. buffer (a ++ []) n) (sym z))
behind a (b ∷ t) (y ∷ s) =
    let l : length a < length (a ++ y ∷ s) = simp length-append (omega arith) in
    let one : length (a ++ (b ∷ [])) ≡ length a + 1 = simp length-append (omega arith) in
    let two : (a ++ (b ∷ [])) ++ s ≡ a ++ b ∷ s = append_assoc a (b ∷ []) s in
    let three : (a ++ (b ∷ [])) ++ laid t s ≡ a ++ b ∷ laid t s = append_assoc a (b ∷ []) (laid t s) in
    rw (lt-ltb (length a) (length (a ++ y ∷ s)) l, set-append_seam a y s b)
    (rw (one, two, three) at (behind (a ++ (b ∷ [])) t s) ∙ ap (λ n. buffer (a ++ b ∷ laid t s) n) (count (length a) (length t) (length s)))

written-from-start : (t s : List ℕ) → written (buffer s 0) t ≡ buffer (laid t s) (counted t s)
written-from-start t s = let z : 0 + counted t s ≡ counted t s = omega arith in behind [] t s ∙ ap (λ n. buffer (laid t s) n) z

pub puts-start : {t s e : List ℕ} {n : ℕ} → Puts s 0 t e n → (e ≡ laid t s) × (n ≡ counted t s)
puts-start {t} {s} h = let k = h.is ∙ written-from-start t s in (ap (λ (b : Buffer). b.bytes) k, ap (λ (b : Buffer). b.at) k)

-- ---- the loop that writes a text: i bytes of it are written

pub record Writing (out₀ : List ℕ) (at : ℕ) (t out : List ℕ) (to i : ℕ) : Type 0 where
  pub inside : i ≤ length t
  pub kept : length out ≡ length out₀
  pub rest : written (buffer out to) (drop i t) ≡ written (buffer out₀ at) t

pub writing-starts : {out₀ t : List ℕ} {at : ℕ} → Writing out₀ at t out₀ at 0
writing-starts = record { inside = omega arith; kept = refl; rest = refl }

module _ {out₀ t out : List ℕ} {at to i : ℕ} (inv : Writing out₀ at t out to i) where
  pub writing-goes-on : {out' : List ℕ} {to' : ℕ} → i < length t → Puts out to (get_or t i 0 ∷ []) out' to' → length out' ≡ length out → Writing out₀ at t out' to' (i + 1)
  writing-goes-on h e l = record {
    inside = omega arith;
    kept = l ∙ inv.kept;
    rest = rw (e.is, ← written-append) (rw (drop-next t i h) at inv.rest);
  }

  pub writing-ends : length t ≤ i → Puts out₀ at t out to
  writing-ends h = record { is = sym (written_none (buffer out to)) ∙ rw (drop_of_length-le t {i = i} h) at inv.rest }

-- the lemmas for `put`, and for the loop of `put_all`
pub ruleset one_byte = (put-room, put_full)

pub ruleset writing = (writing-starts, writing-goes-on, writing-ends)
