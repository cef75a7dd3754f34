-- Names of a text: one that is known keeps its number when others come behind. Assumes nothing.
use mathlib.Core.Path.{◌≡◌, refl, sym, ap, ◌∙◌}
use mathlib.Core.Bool.{true, false, ◌&&◌}
use mathlib.Core.List.{List, [], ◌∷◌, ◌++◌, append_assoc, append-nil}
use Prim.Native.Nat.{ℕ, suc, ◌-◌, ◌≤◌, ◌<◌}
use native.Mathlib.Omega.{arith}
use borrow.Author.Tests.{ltb-true, ltb-false, lt-ltb, le-ltb, eq-eqb, eqb-true}
use lib.Dec.{eqb, ltb}
use lib.ListN.{length, length-append}
use Rattle.tables.proofs.SearchLaws.{cases}
use Rattle.tokens.specs.declared.Token.{Token}
use Rattle.tokens.specs.Bytes.{same_in}
use Rattle.text.specs.Reading.{Named, number_in, known, with_name, room_for}
use Rattle.text.specs.Claims.{NamesAre}

-- these names, and others behind
pub record Extends (ns ms : List Named) : Type 0 where
  pub behind : List Named
  pub split : ms ≡ ns ++ behind

pub extends-same : (ns : List Named) → Extends ns ns
extends-same ns = record { behind = []; split = sym (append-nil ns) }

pub extends-on : {ns ms ls : List Named} → Extends ns ms → Extends ms ls → Extends ns ls
extends-on {ns} a b = record { behind = a.behind ++ b.behind; split = b.split ∙ rw a.split (append_assoc ns a.behind b.behind) }

module _ (text : List ℕ) where
  pub number-most : (ns : List Named) (t : Token) → number_in text ns t ≤ length ns
  unfolding number_in
  number-most [] t = omega arith
  number-most (n ∷ ns) t =
      cases (eqb n.length (t.end - t.place) && same_in text n.place t.place n.length)
      (λ y. rw y (omega arith)) (λ y. rw y (let z : number_in text ns t ≤ length ns = number-most ns t in omega arith))

  pub number-keeps : (ns xs : List Named) (t : Token) → number_in text ns t < length ns → number_in text (ns ++ xs) t ≡ number_in text ns t
  unfolding number_in
  number-keeps [] xs t h = absurd (omega arith)
  number-keeps (n ∷ ns) xs t h =
      cases (eqb n.length (t.end - t.place) && same_in text n.place t.place n.length)
      (λ y. rw y) (λ y. rw y (ap suc (number-keeps ns xs t (let z : suc (number_in text ns t) < suc (length ns) = rw y at h in omega arith))))

  pub number-new : (ns : List Named) (t : Token) → length ns ≤ number_in text ns t → same_in text t.place t.place (t.end - t.place) ≡ true
      → number_in text (ns ++ record { place = t.place; length = t.end - t.place } ∷ []) t ≡ number_in text ns t
  unfolding number_in
  number-new [] t h e = rw (eq-eqb (t.end - t.place) (t.end - t.place) refl, e)
  number-new (n ∷ ns) t h e =
      cases (eqb n.length (t.end - t.place) && same_in text n.place t.place n.length)
      (λ y. rw y) (λ y. rw y (ap suc (number-new ns t (let z : suc (length ns) ≤ suc (number_in text ns t) = rw y at h in omega arith) e)))

  pub with-extends : (ns : List Named) (t : Token) → Extends ns (with_name text ns t)
  unfolding with_name
  with-extends ns t = cases (known text ns t) (λ y. rw y (extends-same ns)) (λ y. rw y (record { behind = record { place = t.place; length = t.end - t.place } ∷ []; split = refl }))

  pub with-known : (ns : List Named) (t : Token) → number_in text ns t < length ns → with_name text ns t ≡ ns
  unfolding with_name known
  with-known ns t h = rw (lt-ltb (number_in text ns t) (length ns) h)

  pub with-new : (ns : List Named) (t : Token) → length ns ≤ number_in text ns t → with_name text ns t ≡ ns ++ record { place = t.place; length = t.end - t.place } ∷ []
  unfolding with_name known
  with-new ns t h = rw (le-ltb (number_in text ns t) (length ns) h)

  pub names-extend : {ns ms : List Named} {ts : List Token} → NamesAre text ns ts ms → Extends ns ms
  names-extend (NamesAre.none {ns = ns}) = extends-same ns
  names-extend (NamesAre.more {ns = ns} {t = t} k) = extends-on (with-extends ns t) (names-extend k)

  -- a name has its number from the moment that it is known
  pub number-stays : (ns : List Named) (t : Token) (vs : List Named) → same_in text t.place t.place (t.end - t.place) ≡ true
      → Extends (with_name text ns t) vs → number_in text vs t ≡ number_in text ns t
  unfolding with_name known
  number-stays ns t vs s x =
      cases (known text ns t)
      (λ y. let f : vs ≡ ns ++ x.behind = rw y at x.split in rw f (number-keeps ns x.behind t (ltb-true (number_in text ns t) (length ns) y)))
      (λ y. let f : vs ≡ (ns ++ record { place = t.place; length = t.end - t.place } ∷ []) ++ x.behind = rw y at x.split in
      let h : length ns ≤ number_in text ns t = ltb-false (number_in text ns t) (length ns) y in
      let z : number_in text ns t ≤ length ns = number-most ns t in
      let n : number_in text (ns ++ record { place = t.place; length = t.end - t.place } ∷ []) t ≡ number_in text ns t = number-new ns t h s in
      rw f (number-keeps (ns ++ record { place = t.place; length = t.end - t.place } ∷ []) x.behind t (rw (n, length-append) (omega arith)) ∙ n))

  pub number-within : (ns : List Named) (t : Token) → number_in text ns t < length (with_name text ns t)
  unfolding with_name known
  number-within ns t =
      cases (known text ns t)
      (λ y. rw y (ltb-true (number_in text ns t) (length ns) y))
      (λ y. rw (y, length-append) (let z : number_in text ns t ≤ length ns = number-most ns t in omega arith))

  pub with-most : (most : ℕ) (ns : List Named) (t : Token) → room_for text most ns t ≡ true → length ns ≤ most → length (with_name text ns t) ≤ most
  unfolding with_name room_for
  with-most most ns t r h =
      cases (known text ns t)
      (λ y. rw y h)
      (λ y. let l : ltb (length ns) most ≡ true = rw y at r in let z : length ns < most = ltb-true (length ns) most l in rw (y, length-append) (omega arith))

  -- numbers below that of a name that is not known
  pub unknown-apart : (ns : List Named) (t : Token) (n : ℕ) → known text ns t ≡ false → n < length ns → eqb (number_in text ns t) n ≡ false
  unfolding known
  unknown-apart ns t n k h =
      let z : length ns ≤ number_in text ns t = ltb-false (number_in text ns t) (length ns) k in
      cases (eqb (number_in text ns t) n) (λ y. absurd (let q : number_in text ns t ≡ n = eqb-true (number_in text ns t) n y in omega arith)) (λ y. y)
