-- Laws of bytes behind each other on a page, and of signs that are written. Assumes nothing.
use mathlib.Core.Path.{◌≡◌, refl, sym, ap, ◌∙◌}
use mathlib.Core.List.{List, [], ◌∷◌, ◌++◌, append_assoc, append-nil}
use Prim.Native.Nat.{ℕ, ◌+◌, ◌≤◌, ◌<◌}
use borrow.Author.Tests.{lt-ltb, le-ltb}
use native.Mathlib.Numerals.{add-one}
use lib.ListN.{length, get_or, set, take, length-set}
use lib.Seq.{take-suc}
use Rattle.printing.specs.Signs.{Sign, blank, fixed, integer, variable, label}
use Rattle.printing.specs.Naming.{Naming, naming_of, ranks, first_label, name_of, sign_bytes, bytes_of, numbers_of, noted, noted_all}
use Rattle.printing.specs.Page.{Ink, far, byte_on, onto, ink_of, Added, Named, Wrote}
use Rattle.printing.specs.declared.page.Page.{Page}

-- ---- bytes

pub onto-none : (s : Ink) → onto s [] ≡ s
unfolding onto
onto-none s = refl

pub onto-append : (s : Ink) (t u : List ℕ) → onto s (t ++ u) ≡ onto (onto s t) u
unfolding onto
onto-append s [] u = refl
onto-append s (b ∷ t) u = onto-append (byte_on s b) t u

-- a text and then another
pub onto-then : {s u : Ink} (r : Ink) (t v : List ℕ) → s ≡ onto r t → u ≡ onto s v → u ≡ onto r (t ++ v)
onto-then r t v h k = k ∙ ap (λ x. onto x v) h ∙ sym (onto-append r t v)

-- as many bytes as before are there
pub onto-length : (s : Ink) (t : List ℕ) → length (onto s t).bytes ≡ length s.bytes
unfolding onto byte_on
onto-length s [] = refl
onto-length s (b ∷ t) = onto-length (byte_on s b) t ∙ length-set s.bytes s.at b

-- ---- bytes that are added

pub added_none : {a : Page} → Added a [] a
unfolding onto
added_none = record { ink = refl; seen = refl; names = refl; row = refl }

-- a text and then another
pub added_then : {a b c : Page} (t u : List ℕ) → Added a t b → Added b u c → Added a (t ++ u) c
added_then {a} t u h k = record {
  ink = k.ink ∙ ap (λ x. onto x u) h.ink ∙ sym (onto-append (ink_of a) t u);
  seen = k.seen ∙ h.seen;
  names = k.names ∙ h.names;
  row = k.row ∙ h.row;
}

-- a byte is stored where the next one stands, or lies past the end
pub record Stored (a : Page) (w : ℕ) (b : Page) : Type 0 where
  pub bytes : b.out.now ≡ set a.out.now a.at w
  pub at : b.at ≡ a.at
  pub seen : b.seen ≡ a.seen
  pub names : b.names ≡ a.names
  pub row : b.out.ghost_name ≡ a.out.ghost_name

-- it is counted as far as lengths are told
module _ {a b : Page} {w : ℕ} (s : Stored a w b) where
  pub put-counts : b.at < far → Added a (w ∷ []) (record b { at = b.at + 1 })
  unfolding onto byte_on
  put-counts h = let k : a.at < far = rw s.at at h in record { ink = rw (s.bytes, s.at, lt-ltb a.at far k, add-one a.at); seen = s.seen; names = s.names; row = s.row }

  pub put-stays : far ≤ b.at → Added a (w ∷ []) b
  unfolding onto byte_on
  put-stays h = let k : far ≤ a.at = rw s.at at h in record { ink = rw (s.bytes, s.at, le-ltb a.at far k); seen = s.seen; names = s.names; row = s.row }

-- the loop that adds a text, once i bytes of it are there
pub adding-goes-on : {a b c : Page} (t : List ℕ) (i : ℕ) → i < length t → Added a (take i t) b → Added b (get_or t i 0 ∷ []) c → Added a (take (i + 1) t) c
adding-goes-on t i h k l = rw (add-one i, take-suc t i 0 h) (added_then (take i t) (get_or t i 0 ∷ []) k l)

-- ---- signs in a row

pub bytes-append : (N : Naming) (ss tt : List Sign) → bytes_of N (ss ++ tt) ≡ bytes_of N ss ++ bytes_of N tt
bytes-append N [] tt = refl
bytes-append N (s ∷ ss) tt = ap (λ r. sign_bytes N s ++ r) (bytes-append N ss tt) ∙ sym (append_assoc (sign_bytes N s) (bytes_of N ss) (bytes_of N tt))

pub numbers-append : (ss tt : List Sign) → numbers_of (ss ++ tt) ≡ numbers_of ss ++ numbers_of tt
numbers-append [] tt = refl
numbers-append (blank s ∷ ss) tt = numbers-append ss tt
numbers-append (fixed c s ∷ ss) tt = numbers-append ss tt
numbers-append (integer z ∷ ss) tt = numbers-append ss tt
numbers-append (variable x ∷ ss) tt = ap (λ r. x ∷ r) (numbers-append ss tt)
numbers-append (label l ∷ ss) tt = ap (λ r. (first_label + l) ∷ r) (numbers-append ss tt)

pub noted-append : (seen is js : List ℕ) → noted_all seen (is ++ js) ≡ noted_all (noted_all seen is) js
unfolding noted_all
noted-append seen [] js = refl
noted-append seen (i ∷ is) js = noted-append (noted seen i) is js

-- ---- signs that are written

module _ {a : Page} where
  pub wrote_none : Wrote a [] a
  unfolding onto noted_all
  wrote_none = record { ink = refl; seen = refl; names = refl; row = refl }

  pub wrote-length : {b : Page} {ss : List Sign} → Wrote a ss b → length b.out.now ≡ length a.out.now
  wrote-length {ss = ss} h = ap (λ (s : Ink). length s.bytes) h.ink ∙ onto-length (ink_of a) (bytes_of (naming_of a.names) ss)

  -- signs and then others
  pub wrote_then : {b c : Page} {ss tt : List Sign} → Wrote a ss b → Wrote b tt c → Wrote a (ss ++ tt) c
  wrote_then {ss = ss} {tt = tt} h k =
      let N = naming_of a.names in record {
        ink = rw (bytes-append N ss tt) (rw h.names at k.ink ∙ ap (λ x. onto x (bytes_of N tt)) h.ink ∙ sym (onto-append (ink_of a) (bytes_of N ss) (bytes_of N tt)));
        seen = rw (numbers-append ss tt, noted-append (ranks a.seen) (numbers_of ss) (numbers_of tt), ← h.seen) k.seen;
        names = k.names ∙ h.names;
        row = k.row ∙ h.row;
      }

  -- signs that use no number
  pub wrote-plain : {b : Page} {ss : List Sign} → Added a (bytes_of (naming_of a.names) ss) b → numbers_of ss ≡ [] → Wrote a ss b
  unfolding noted_all
  wrote-plain w n = record { ink = w.ink; seen = rw n (ap ranks w.seen); names = w.names; row = w.row }

  -- a name, which is used
  pub wrote-variable : {b : Page} {x : ℕ} → Named a x b → Wrote a (variable x ∷ []) b
  unfolding noted_all
  wrote-variable {x = x} w = record { ink = rw (append-nil (name_of (naming_of a.names) x)) w.ink; seen = w.seen; names = w.names; row = w.row }

  pub wrote-label : {b : Page} {l : ℕ} → Named a (first_label + l) b → Wrote a (label l ∷ []) b
  unfolding noted_all
  wrote-label {l = l} w = record { ink = rw (append-nil (name_of (naming_of a.names) (first_label + l))) w.ink; seen = w.seen; names = w.names; row = w.row }
