-- The names that a text is found to have, where its tokens have the names of numbers that appear in order. Assumes nothing.
use mathlib.Core.Path.{◌≡◌, refl, sym, ap, ◌∙◌}
use mathlib.Core.List.{List, [], ◌∷◌, ◌++◌}
use Prim.Native.Nat.{ℕ, suc, ◌+◌, ◌-◌, ◌≤◌, ◌<◌}
use native.Mathlib.Omega.{arith}
use native.Mathlib.Decide.{dec_lt}
use lib.ListN.{length, take, drop, length-append, length-drop, get_or-append}
use lib.Seq.{length-take-le, get_or-append_seam}
use Rattle.tokens.specs.declared.Token.{Token}
use Rattle.tokens.proofs.SameLaws.{same-itself}
use Rattle.text.specs.Reading.{Named, number_in, with_name}
use Rattle.text.specs.Claims.{NamesAre}
use Rattle.text.specs.Names.{named, Alike}
use Rattle.text.specs.Names.{name_of as token_name}
use Rattle.text.proofs.NameLaws.{names-extend, number-most, number-stays, with-known, with-new}
use Rattle.text.proofs.NamesClaims.{number-alike, number-unlike}
use Rattle.printing.specs.Spaced.{Spelling, Called, InOrder}

pub order-grows : {k n : ℕ} {xs : List ℕ} → InOrder k xs n → k ≤ n
order-grows InOrder.none = omega arith
order-grows (InOrder.old h o) = order-grows o
order-grows {k = k} {n = n} (InOrder.new o) = let z : suc k ≤ n = order-grows o in omega arith

-- ---- a name of a text that is spelt so

pub record Stands (text s : List ℕ) (n : Named) : Type 0 where
  pub bytes : take n.length (drop n.place text) ≡ s
  pub whole : 0 < n.length
  pub inside : n.place + n.length ≤ length text

module _ (text : List ℕ) where
  token-stands : {s : List ℕ} (t : Token) → Spelling text s t → Stands text s (token_name t)
  token-stands t p = record { bytes = p.spelt; whole = omega arith; inside = omega arith }

  stands-long : {s : List ℕ} (n : Named) → Stands text s n → (n.length ≤ length (drop n.place text)) × (length s ≡ n.length)
  stands-long n p =
      let h : n.length ≤ length (drop n.place text) = rw length-drop (omega arith) in
      (h, ap length (sym p.bytes) ∙ length-take-le n.length (drop n.place text) h)

  stands_alike : {s : List ℕ} (a b : Named) → Stands text s a → Stands text s b → Alike text a b
  stands_alike a b p q =
      let e : a.length ≡ b.length = sym (stands-long a p).1 ∙ (stands-long b q).1 in
      (e, record { there = (stands-long a p).0; same = p.bytes ∙ sym q.bytes ∙ rw e })

  alike-stands : {s u : List ℕ} (a b : Named) → Stands text s a → Stands text u b → Alike text a b → s ≡ u
  alike-stands a b p q l =
      let e : take a.length (drop b.place text) ≡ take b.length (drop b.place text) = rw l.0 in
      sym p.bytes ∙ l.1.same ∙ e ∙ q.bytes

-- ---- the names

-- these tokens have these numbers
pub data NumbersAre (text : List ℕ) (vs : List Named) : List Token → List ℕ → Type 0 where
  none : NumbersAre text vs [] []
  more : {t : Token} {ts : List Token} {x : ℕ} {xs : List ℕ} → number_in text vs t ≡ x → NumbersAre text vs ts xs → NumbersAre text vs (t ∷ ts) (x ∷ xs)

-- n names in all, each called as its number is
pub record NamesFound (text : List ℕ) (name : ℕ → List ℕ) (ns : List Named) (ts : List Token) (xs : List ℕ) (n : ℕ) : Type 0 where
  pub names : List Named
  pub are : NamesAre text ns ts names
  pub count : length names ≡ n
  pub stand : (i : ℕ) → i < n → Stands text (name i) (named names i)
  pub numbers : NumbersAre text names ts xs

module _ (text : List ℕ) (name : ℕ → List ℕ) (n : ℕ) (apart : (i j : ℕ) → i < n → j < n → name i ≡ name j → i ≡ j) where
  module _ (ns : List Named) (few : length ns ≤ n) (stand : (i : ℕ) → i < length ns → Stands text (name i) (named ns i)) (t : Token) where
    -- a name that is known has the number that is called so
    number-called : {x : ℕ} → Spelling text (name x) t → x < n → number_in text ns t < length ns → number_in text ns t ≡ x
    number-called {x} p h k =
        apart (number_in text ns t) x (omega arith) h
        (alike-stands text (named ns (number_in text ns t)) (token_name t) (stand (number_in text ns t) k) (token-stands text t p) (number-alike text ns t k))

    called-known : {x : ℕ} → Spelling text (name x) t → x < length ns → number_in text ns t < length ns
    called-known {x} p h = go (dec_lt (number_in text ns t) (length ns))
      where
        go : Dec (number_in text ns t < length ns) → number_in text ns t < length ns
        go (yes y) = y
        go (no m) = absurd (number-unlike text ns t x (omega arith) h (stands_alike text (named ns x) (token_name t) (stand x h) (token-stands text t p)))

    called-new : Spelling text (name (length ns)) t → length ns < n → length ns ≤ number_in text ns t
    called-new p h = go (dec_lt (number_in text ns t) (length ns))
      where
        go : Dec (number_in text ns t < length ns) → length ns ≤ number_in text ns t
        go (yes y) = absurd (let z : number_in text ns t ≡ length ns = number-called p h y in omega arith)
        go (no m) = omega arith

    stand-new : Spelling text (name (length ns)) t → (i : ℕ) → i < suc (length ns) → Stands text (name i) (named (ns ++ token_name t ∷ []) i)
    stand-new p i h = go (dec_lt i (length ns))
      where
        go : Dec (i < length ns) → Stands text (name i) (named (ns ++ token_name t ∷ []) i)
        go (yes y) = rw (get_or-append ns (token_name t ∷ []) (record { place = 0; length = 0 }) i y) (stand i y)
        go (no m) =
            let e : i ≡ length ns = omega arith in
            rw (e, get_or-append_seam ns (token_name t) [] (record { place = 0; length = 0 })) (token-stands text t p)

  found-more : {ns : List Named} {t : Token} {ts : List Token} {x : ℕ} {xs : List ℕ} → Spelling text (name x) t → number_in text ns t ≡ x
      → NamesFound text name (with_name text ns t) ts xs n → NamesFound text name ns (t ∷ ts) (x ∷ xs) n
  found-more {ns} {t} p e f =
      record {
        names = f.names;
        are = NamesAre.more f.are;
        count = f.count;
        stand = f.stand;
        numbers =
            NumbersAre.more
            (number-stays text ns t f.names (same-itself text t.place (t.end - t.place) (omega (arith, p.inside, p.whole))) (names-extend text f.are) ∙ e)
            f.numbers;
      }

  names-from : (ns : List Named) {k : ℕ} {ts : List Token} {xs : List ℕ} → length ns ≡ k → ((i : ℕ) → i < k → Stands text (name i) (named ns i)) → Called text name ts xs → InOrder k xs n
      → NamesFound text name ns ts xs n
  names-from ns l stand Called.none InOrder.none = record { names = ns; are = NamesAre.none; count = l; stand = stand; numbers = NumbersAre.none }
  names-from ns {k = k} l stand (Called.more {t = t} {x = x} c p d) (InOrder.old h o) =
      let m : k ≤ n = order-grows o in
      let s : (i : ℕ) → i < length ns → Stands text (name i) (named ns i) = λ i y. stand i (omega arith) in
      let y : number_in text ns t < length ns = called-known ns (omega arith) s t p (omega arith) in
      found-more p (number-called ns (omega arith) s t p (omega arith) y) (rw (with-known text ns t y) (names-from ns l stand d o))
  names-from ns {k = k} l stand (Called.more {t = t} c p d) (InOrder.new o) =
      let m : suc k ≤ n = order-grows o in
      let s : (i : ℕ) → i < length ns → Stands text (name i) (named ns i) = λ i y. stand i (omega arith) in
      let q : Spelling text (name (length ns)) t = rw l p in
      let y : length ns ≤ number_in text ns t = called-new ns (omega arith) s t q (omega arith) in
      found-more p (omega (arith, number-most text ns t))
      (rw (with-new text ns t y) (names-from (ns ++ token_name t ∷ []) (rw length-append (omega arith)) (λ i h. stand-new ns (omega arith) s t q i (omega arith)) d o))

  pub names-found : {ts : List Token} {xs : List ℕ} → Called text name ts xs → InOrder 0 xs n → NamesFound text name [] ts xs n
  names-found d o = names-from [] refl (λ i h. absurd (omega arith)) d o
