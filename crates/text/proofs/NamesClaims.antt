-- The words of an accepted text are a program, and its names are numbered by first appearance. Assumes nothing.
use mathlib.Core.Path.{◌≡◌, refl, sym, ap, ◌∙◌}
use mathlib.Core.Bool.{Bool, true, true≢false, ◌&&◌}
use mathlib.Core.List.{List, [], ◌∷◌, ◌++◌, append_assoc, append-nil}
use Prim.Native.Nat.{ℕ, zero, suc, ◌+◌, ◌-◌, ◌≤◌, ◌<◌}
use native.Mathlib.Omega.{arith}
use native.Mathlib.Decide.{dec_lt}
use borrow.Author.Tests.{ltb-true, ltb-false, eq-eqb, eqb-true}
use lib.Dec.{eqb}
use lib.ListN.{length, take, drop, length-append, get_or-append}
use lib.Seq.{length-take-le, take_all, get_or-append_seam}
use Rattle.program.proofs.GrammarLaws.{program-complete}
use Rattle.tables.proofs.SearchLaws.{cases, and_left, and_right}
use Rattle.tokens.specs.declared.Token.{Token}
use Rattle.tokens.specs.Bytes.{same_in}
use Rattle.tokens.specs.Codes.{name_code}
use Rattle.tokens.specs.Tokens.{most_bytes, token_from}
use Rattle.tokens.specs.Rules.{Shared}
use Rattle.tokens.specs.Claims.{Makes}
use Rattle.tokens.proofs.ByteLaws.{shares}
use Rattle.tokens.proofs.SameLaws.{same-itself}
use Rattle.tokens.proofs.TextRules.{makes-up}
use Rattle.text.specs.Reading.{Named, due_after, number_in, known, with_name}
use Rattle.text.specs.Claims.{TokensOf, NamesAre, Sorted, Reads}
use Rattle.text.specs.Names.{name_of, named, Alike, Each, First, Numbered, Names, NumberedByAppearance, AlwaysReads}
use Rattle.text.proofs.AcceptedSound.{accepted-sound}
use Rattle.text.proofs.NameLaws.{number-most, number-keeps, number-new}

-- ---- each of the tokens

each-end : {P : Token → Type 0} {ts : List Token} {t : Token} → Each P ts → P t → Each P (ts ++ t ∷ [])
each-end Each.none p = Each.more p Each.none
each-end (Each.more q e) p = Each.more q (each-end e p)

each-as : {P Q : Token → Type 0} {ts : List Token} → ((t : Token) → P t → Q t) → Each P ts → Each Q ts
each-as f Each.none = Each.none
each-as f (Each.more {t = t} p e) = Each.more (f t p) (each-as f e)

-- ---- names that are spelt the same

reaches : (text : List ℕ) (a b n : ℕ) → Shared text a b n → n ≤ length (drop b text)
reaches text a b n s = go (sym (ap length s.same) ∙ length-take-le n (drop a text) s.there) (dec_lt (length (drop b text)) n)
  where
    go : length (take n (drop b text)) ≡ n → Dec (length (drop b text) < n) → n ≤ length (drop b text)
    go e (yes y) = let z : length (take n (drop b text)) ≡ length (drop b text) = ap length (take_all n (drop b text) (omega arith)) in omega arith
    go e (no f) = omega arith

module _ (text : List ℕ) where
  pub alike-back : (a b : Named) → Alike text a b → Alike text b a
  alike-back a b s = (sym s.0, rw (← s.0) (record { there = reaches text a.place b.place a.length s.1; same = sym s.1.same }))

  pub alike-on : (a b c : Named) → Alike text a b → Alike text b c → Alike text a c
  alike-on a b c s u =
      let v : Shared text b.place c.place a.length = rw s.0 u.1 in
      (s.0 ∙ u.0, record { there = s.1.there; same = s.1.same ∙ v.same })

  abbrev pub test : Named → Token → Bool
  test n t = eqb n.length (t.end - t.place) && same_in text n.place t.place n.length

  pub test-alike : (n : Named) (t : Token) → test n t ≡ true → Alike text n (name_of t)
  test-alike n t e = (
    eqb-true n.length (t.end - t.place) (and_left (eqb n.length (t.end - t.place)) (same_in text n.place t.place n.length) e),
    (shares text n.place t.place n.length).0 (and_right (eqb n.length (t.end - t.place)) (same_in text n.place t.place n.length) e),
  )

  pub alike-test : (n : Named) (t : Token) → Alike text n (name_of t) → test n t ≡ true
  alike-test n t s = rw (eq-eqb n.length (t.end - t.place) s.0, (shares text n.place t.place n.length).1 s.1)

  -- a number below is that of a name that is spelt so, and else there is none
  pub number-alike : (ns : List Named) (t : Token) → number_in text ns t < length ns → Alike text (named ns (number_in text ns t)) (name_of t)
  unfolding number_in
  number-alike [] t h = let z : ⊥ = omega arith in absurd z
  number-alike (n ∷ ns) t h =
      cases (test n t)
      (λ y. rw y (test-alike n t y))
      (λ y. rw y (number-alike ns t (let z : suc (number_in text ns t) < suc (length ns) = rw y at h in omega arith)))

  pub number-unlike : (ns : List Named) (t : Token) (i : ℕ) → length ns ≤ number_in text ns t → i < length ns → Alike text (named ns i) (name_of t) → ⊥
  unfolding number_in
  number-unlike [] t i h l s = omega arith
  number-unlike (n ∷ ns) t zero h l s =
      cases (test n t) (λ y. let z : suc (length ns) ≤ 0 = rw y at h in omega arith) (λ y. true≢false (sym (alike-test n t s) ∙ y))
  number-unlike (n ∷ ns) t (suc i) h l s =
      cases (test n t)
      (λ y. let z : suc (length ns) ≤ 0 = rw y at h in omega arith)
      (λ y. number-unlike ns t i (let z : suc (length ns) ≤ suc (number_in text ns t) = rw y at h in omega arith) (omega arith) s)

-- ---- where the tokens of a sort stand

data Inside (text : List ℕ) : ℕ → List Token → Type 0 where
  none : {at : ℕ} → Inside text at []
  more : {at : ℕ} {t : Token} {ts : List Token} → at ≤ t.place → t.place < t.end → t.end ≤ length text → Inside text t.end ts → Inside text at (t ∷ ts)

inside-from : {text : List ℕ} {at to : ℕ} {ts : List Token} → at ≤ to → Inside text to ts → Inside text at ts
inside-from h Inside.none = Inside.none
inside-from {at = at} h (Inside.more {t = t} a b c i) = let l : at ≤ t.place = omega arith in Inside.more l b c i

module _ (text : List ℕ) (at : ℕ) (h : at ≤ length text) (m : at ≤ most_bytes) (due : Bool) {t : Token} (e : token_from due text at ≡ t) where
  made : Makes text at t
  made = rw e at (makes-up due text at h)

  ends-in : (t.end ≤ length text) × ((t.end ≤ most_bytes) × (at ≤ t.end))
  ends-in = go made
    where
      go : Makes text at t → (t.end ≤ length text) × ((t.end ≤ most_bytes) × (at ≤ t.end))
      go (Makes.whole x y a b c d) = (c, (d, omega arith))
      go (Makes.end a q b) = rw q (omega arith, (b, a))
      go (Makes.longer a q) = rw q (omega arith, (omega arith, m))

  name_in : t.code ≡ name_code → (at ≤ t.place) × (t.place < t.end)
  name_in n = go made
    where
      go : Makes text at t → (at ≤ t.place) × (t.place < t.end)
      go (Makes.whole x y a b c d) = (a, b)
      go (Makes.end a q b) = absurd (let z : ◌≡◌ {A = ℕ} 0 1 = rw q at n in omega arith)
      go (Makes.longer a q) = absurd (let z : ◌≡◌ {A = ℕ} 4 1 = rw q at n in omega arith)

tokens-end : {text : List ℕ} {at end to last : ℕ} {ts : List Token} {t : Token} → TokensOf text at end ts to last → token_from (due_after last) text to ≡ t
    → TokensOf text at end (ts ++ t ∷ []) t.end t.code
tokens-end TokensOf.none e = TokensOf.more e TokensOf.none
tokens-end (TokensOf.more q k) e = TokensOf.more q (tokens-end k e)

module _ (text : List ℕ) where
  sorted-inside : {at end to last before : ℕ} {ts vs ls : List Token} → at ≤ length text → at ≤ most_bytes → TokensOf text at end ts to last → Sorted before ts vs ls
      → Inside text at vs × Inside text at ls
  sorted-inside h m k Sorted.none = (Inside.none, Inside.none)
  sorted-inside {at} {end} h m (TokensOf.more e k) (Sorted.other n s) =
      let x = ends-in text at h m (due_after end) e in
      let i = sorted-inside x.0 x.1.0 k s in
      (inside-from x.1.1 i.0, inside-from x.1.1 i.1)
  sorted-inside {at} {end} h m (TokensOf.more e k) (Sorted.behind_dot c s) =
      let x = ends-in text at h m (due_after end) e in
      let y = name_in text at h m (due_after end) e c in
      let i = sorted-inside x.0 x.1.0 k s in
      (inside-from x.1.1 i.0, Inside.more y.0 y.1 x.0 i.1)
  sorted-inside {at} {end} h m (TokensOf.more e k) (Sorted.before_colon d c n s) =
      let x = ends-in text at h m (due_after end) e in
      let y = name_in text at h m (due_after end) e c in
      let i = sorted-inside x.0 x.1.0 k s in
      (inside-from x.1.1 i.0, Inside.more y.0 y.1 x.0 i.1)
  sorted-inside {at} {end} h m (TokensOf.more e k) (Sorted.variable d c n s) =
      let x = ends-in text at h m (due_after end) e in
      let y = name_in text at h m (due_after end) e c in
      let i = sorted-inside x.0 x.1.0 k s in
      (Inside.more y.0 y.1 x.0 i.0, inside-from x.1.1 i.1)

-- ---- the tokens before a byte are seen

record Seen (text : List ℕ) (at : ℕ) (done : List Token) (ns : List Named) : Type 0 where
  apart : (i j : ℕ) → i < length ns → j < length ns → Alike text (named ns i) (named ns j) → i ≡ j
  first : (i : ℕ) → i < length ns → First text done (named ns i)
  order : (i j : ℕ) → i < j → j < length ns → (named ns i).place < (named ns j).place
  below : (i : ℕ) → i < length ns → (named ns i).place < at
  numbers : Each (λ t. number_in text ns t < length ns) done
  others : (n : Named) → ((i : ℕ) → i < length ns → Alike text (named ns i) n → ⊥) → Each (λ t. Alike text (name_of t) n → ⊥) done

seen_none : (text : List ℕ) → Seen text 0 [] []
seen_none text = record {
  apart = λ i j h l s. let z : ⊥ = omega arith in absurd z;
  first = λ i h. let z : ⊥ = omega arith in absurd z;
  order = λ i j h l. let z : ⊥ = omega arith in absurd z;
  below = λ i h. let z : ⊥ = omega arith in absurd z;
  numbers = Each.none;
  others = λ n u. Each.none;
}

seen-numbered : {text : List ℕ} {at : ℕ} {done : List Token} {ns : List Named} → Seen text at done ns → Numbered text done ns
seen-numbered {text} {ns = ns} S = record { apart = S.apart; first = S.first; order = S.order; numbers = each-as (λ t h. (h, number-alike text ns t h)) S.numbers }

first_on : {text : List ℕ} {done : List Token} {n : Named} (t : Token) → First text done n → First text (done ++ t ∷ []) n
first_on t f = record {
  before = f.before;
  token = f.token;
  behind = f.behind ++ t ∷ [];
  split = ap (λ s. s ++ t ∷ []) f.split ∙ append_assoc f.before (f.token ∷ f.behind) (t ∷ []);
  there = f.there;
  earlier = f.earlier;
}

module _ {text : List ℕ} {at : ℕ} {done : List Token} {ns : List Named} (S : Seen text at done ns) (t : Token) (a : at ≤ t.place) (b : t.place < t.end) (c : t.end ≤ length text) where
  seen-known : number_in text ns t < length ns → Seen text t.end (done ++ t ∷ []) ns
  seen-known k = record {
    apart = S.apart;
    first = λ i h. first_on t (S.first i h);
    order = S.order;
    below = λ i h. omega (arith, S.below i h);
    numbers = each-end S.numbers k;
    others = λ n u. each-end (S.others n u) (λ s. u (number_in text ns t) k (alike-on text (named ns (number_in text ns t)) (name_of t) n (number-alike text ns t k) s));
  }

  module _ (h : length ns ≤ number_in text ns t) where
    abbrev ms : List Named
    ms = ns ++ name_of t ∷ []

    long : length ms ≡ suc (length ns)
    long = length-append ns (name_of t ∷ []) ∙ (let z : length ns + 1 ≡ suc (length ns) = omega arith in z)

    old : (i : ℕ) → i < length ns → named ms i ≡ named ns i
    old i l = get_or-append ns (name_of t ∷ []) (record { place = 0; length = 0 }) i l

    new : (i : ℕ) → i ≡ length ns → named ms i ≡ name_of t
    new i e = rw e (get_or-append_seam ns (name_of t) [] (record { place = 0; length = 0 }))

    either : {X : Type 0} (i : ℕ) → i < length ms → (i < length ns → X) → (i ≡ length ns → X) → X
    either {X} i l f g = go (dec_lt i (length ns))
      where
        go : Dec (i < length ns) → X
        go (yes y) = f y
        go (no n) = g (omega (arith, long))

    seen-new : Seen text t.end (done ++ t ∷ []) ms
    seen-new = record {
      apart = λ i j x y s.
          either i x
          (λ p. either j y
          (λ q. S.apart i j p q (rw (old i p, old j q) at s))
          (λ q. absurd (number-unlike text ns t i h p (rw (old i p, new j q) at s))))
          (λ p. either j y
          (λ q. absurd (number-unlike text ns t j h q (alike-back text (name_of t) (named ns j) (rw (new i p, old j q) at s))))
          (λ q. omega arith));
      first = λ i x.
          either i x
          (λ p. rw (old i p) (first_on t (S.first i p)))
          (λ p. rw (new i p) (record { before = done; token = t; behind = []; split = refl; there = refl; earlier = S.others (name_of t) (λ j l s. number-unlike text ns t j h l s) }));
      order = λ i j x y.
          either j y
          (λ q. rw (old i (omega arith), old j q) (S.order i j x q))
          (λ q. let p : i < length ns = omega arith in rw (old i p, new j q) (omega (arith, S.below i p)));
      below = λ i x. either i x (λ p. rw (old i p) (omega (arith, S.below i p))) (λ p. rw (new i p) b);
      numbers =
          each-end
          (each-as (λ u l. rw (number-keeps text ns (name_of t ∷ []) u l, long) (omega arith)) S.numbers)
          (rw (number-new text ns t h (same-itself text t.place (t.end - t.place) (omega arith)), long) (omega (arith, number-most text ns t)));
      others = λ n u.
          each-end
          (S.others n (λ i l s. u i (rw long (omega arith)) (rw (old i l) s)))
          (λ s. u (length ns) (rw long (omega arith)) (rw (new (length ns) refl) s));
    }

  seen-with : Seen text t.end (done ++ t ∷ []) (with_name text ns t)
  unfolding with_name known
  seen-with =
      cases (known text ns t)
      (λ y. rw y (seen-known (ltb-true (number_in text ns t) (length ns) y)))
      (λ y. rw y (seen-new (ltb-false (number_in text ns t) (length ns) y)))

names-numbered : {text : List ℕ} {at : ℕ} (done : List Token) {ts : List Token} {ns ms : List Named}
    → NamesAre text ns ts ms → Inside text at ts → Seen text at done ns → Numbered text (done ++ ts) ms
names-numbered done NamesAre.none i S = rw (append-nil done) (seen-numbered S)
names-numbered {at = at} done (NamesAre.more {t = t} {ts = ts} k) (Inside.more a b c i) S =
    rw (append_assoc done (t ∷ []) ts) at (names-numbered {at = t.end} (done ++ t ∷ []) k i (seen-with S t a b c))

-- ---- the claims

pub numbered-by-appearance : NumberedByAppearance
numbered-by-appearance text f r e = go (accepted-sound text f r e)
  where
    go : Reads text f.words f.origins r.variables r.labels → Names text f r
    go d =
        let i : Inside text 0 d.variable_tokens × Inside text 0 d.label_tokens = sorted-inside text (omega arith) (omega arith) (tokens-end d.spelt refl) d.sorted in
        record { reads = d; variables = names-numbered [] d.variable_names i.0 (seen_none text); labels = names-numbered [] d.label_names i.1 (seen_none text) }

pub always-reads : AlwaysReads
always-reads text f r e = program-complete f.words (accepted-sound text f r e).limits
