-- What the code comes to for names and standings. Assumes nothing.
use Prim.Native.Nat.{ℕ, ◌+◌, ◌-◌, ◌*◌, ◌≤◌, ◌<◌}
use mathlib.Core.Path.{◌≡◌, refl, sym, ap, ◌∙◌}
use mathlib.Core.Bool.{true, cond}
use mathlib.Core.List.{List, [], ◌∷◌}
use native.Mathlib.Omega.{arith}
use borrow.Author.Tests.{lt-ltb, le-ltb, le-leb, eq-eqb, ne_eqb}
use lib.Dec.{ltb}
use lib.IntN.{ℤ}
use lib.ListN.{length, get_or, set, take, drop}
use lib.Seq.{take-append_seam, set_out}
use Rattle.words.specs.Words.{word_at, number_of}
use Rattle.lister.specs.Bytes.{Puts}
use Rattle.lister.specs.Numerals.{digits}
use Rattle.lister.proofs.BufferLaws.{then, puts-start, counted, laid-fits, laid-length}
use Rattle.lister.proofs.SizeLaws.{digits-twenty}
use Rattle.printing.specs.Naming.{Naming, place_of, length_of, given_name, default_name, name_of, is_led, noted}

-- ---- the words of a name

module _ (names : List ℤ) (i : ℕ) where
  pub place_none : 96 ≤ i → 0 ≡ place_of names i
  unfolding place_of
  place_none h = rw (le-ltb i 96 h)

  pub place_is : i < 96 → {n : ℕ} → n ≡ number_of (word_at names (2 * i)) → n ≡ place_of names i
  unfolding place_of
  place_is h e = rw (lt-ltb i 96 h) e

  pub length_none : 96 ≤ i → 0 ≡ length_of names i
  unfolding length_of
  length_none h = rw (le-ltb i 96 h)

  pub length-is : i < 96 → {n : ℕ} → n ≡ number_of (word_at names (2 * i + 1)) → n ≡ length_of names i
  unfolding length_of
  length-is h e = rw (lt-ltb i 96 h) e

-- ---- names

-- a text put from the first byte on, where there is room for it
pub put_whole : {t s e : List ℕ} {n : ℕ} → Puts s 0 t e n → length t ≤ length s → (take n e ≡ t) × (length e ≡ length s)
put_whole {t = t} {s = s} p h =
    let k = puts-start p in
    let c : counted t s ≡ length t = rw (le-leb (length t) (length s) h) in (
      rw (k.1, c, k.0, laid-fits t s h) (take-append_seam t (drop (length t) s)),
      ap length k.0 ∙ laid-length t s,
    )

-- a letter and a number, in 24 bytes
pub put-short : (j : ℕ) {s m e : List ℕ} {b k n : ℕ} → length s ≡ 24 → Puts s 0 (b ∷ []) m k → Puts m k (digits j) e n → (take n e ≡ b ∷ digits j) × (length e ≡ 24)
put-short j {b = b} l p q =
    let w = put_whole {t = b ∷ digits j} (then p q) (omega (arith, digits-twenty j, l)) in
    (w.0, w.1 ∙ l)

module _ (i : ℕ) where
  pub default-variable : i < 64 → 118 ∷ digits i ≡ default_name i
  unfolding default_name
  default-variable h = rw (lt-ltb i 64 h)

  pub default-label : 64 ≤ i → 102 ∷ digits (i - 64) ≡ default_name i
  unfolding default_name
  default-label h = rw (le-ltb i 64 h)

module _ (N : Naming) (i : ℕ) {n : ℕ} (is : n ≡ length_of N.names i) where
  pub name-given : (n ≡ 0 → ⊥) → {s : List ℕ} → s ≡ given_name N i → s ≡ name_of N i
  unfolding name_of
  name-given h e = rw (← is, ne_eqb n 0 h) e

  pub name-default : n ≡ 0 → {s : List ℕ} → s ≡ default_name i → s ≡ name_of N i
  unfolding name_of
  name-default h e = rw (← is, eq-eqb n 0 h) e

-- ---- standings

module _ (seen : List ℕ) (i : ℕ) where
  pub led-first : i ≡ 0 → true ≡ is_led seen i
  unfolding is_led
  led-first h = rw (eq-eqb i 0 h)

  pub led-label : (i ≡ 0 → ⊥) → i ≡ 64 → true ≡ is_led seen i
  unfolding is_led
  led-label h k = rw (ne_eqb i 0 h, eq-eqb i 64 k)

  pub led-behind : (i ≡ 0 → ⊥) → (i ≡ 64 → ⊥) → {n : ℕ} → n ≡ get_or seen (i - 1) 0 → ltb 0 n ≡ is_led seen i
  unfolding is_led
  led-behind h k e = rw (ne_eqb i 0 h, ne_eqb i 64 k, e)

module _ (seen : List ℕ) (i : ℕ) {n : ℕ} (is : n ≡ get_or seen i 0) where
  pub noted-old : 0 < n → seen ≡ noted seen i
  unfolding noted
  noted-old h = rw (← is, lt-ltb 0 n h)

  pub noted-new : n ≤ 0 → {v : ℕ} → v ≡ cond (is_led seen i) 1 2 → set seen i v ≡ noted seen i
  unfolding noted
  noted-new h e = rw (← is, le-ltb 0 n h, e)

  pub noted-past : n ≤ 0 → length seen ≤ i → seen ≡ noted seen i
  noted-past h l = sym (set_out seen i (cond (is_led seen i) 1 2) l) ∙ noted-new h refl
