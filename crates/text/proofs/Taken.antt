-- Tokens taken one by one: what a reader that stands before known tokens sees, takes and names. Assumes nothing.
use mathlib.Core.Path.{◌≡◌, refl, sym, ap, ◌∙◌}
use mathlib.Core.Bool.{Bool, true, false}
use mathlib.Core.List.{List, [], ◌∷◌, ◌++◌}
use Prim.Native.Nat.{ℕ, ◌+◌, ◌-◌, ◌≤◌, ◌<◌}
use native.Mathlib.Omega.{arith}
use borrow.Author.Tests.{le-leb, lt-ltb, eq-eqb, ne_eqb}
use lib.Dec.{ltb}
use lib.ListN.{length, length-append}
use Rattle.words.specs.Answer.{got}
use Rattle.words.specs.Range.{fits}
use Rattle.tables.specs.Sizes.{variables, labels}
use Rattle.tables.proofs.SearchLaws.{cases, and-false}
use Rattle.program.specs.Forms.{most_words}
use Rattle.program.specs.Reading.{among}
use Rattle.tokens.specs.declared.Token.{Token}
use Rattle.tokens.specs.Codes.{end_code, name_code, number_code, too_long, dot_code, colon_code}
use Rattle.tokens.specs.Bytes.{part, same_in}
use Rattle.tokens.specs.Numbers.{integer_of}
use Rattle.tokens.specs.Tokens.{token_from}
use Rattle.tokens.specs.Claims.{Makes, MakesUp}
use Rattle.text.specs.Reading.{Named, Reader, owing, passing, due_after, peek, is, take, need, number_in, known, with_name, room_for, variable, label}
use Rattle.text.specs.Claims.{TokensOf, NamesAre, Sorted, NumbersFit}
use Rattle.text.proofs.NameLaws.{Extends, extends-same, names-extend, number-stays}

-- bytes are the same as themselves, where they are there
abbrev pub SameSelf : Type 0
SameSelf = (text : List ℕ) (a n : ℕ) → a + n ≤ length text → same_in text a a n ≡ true

-- a token that is no name, not the end and not past it
abbrev pub Plain : ℕ → Type 0
Plain c = c < 5 → c ≡ number_code

-- a token's end is behind its place, and inside the text
pub moves : MakesUp → (text : List ℕ) (last at : ℕ) → at ≤ length text → ((token_from (due_after last) text at).code ≡ end_code → ⊥) → ((token_from (due_after last) text at).code ≡ too_long → ⊥)
    → (at ≤ (token_from (due_after last) text at).place) × (((token_from (due_after last) text at).place < (token_from (due_after last) text at).end) × ((token_from (due_after last) text at).end ≤ length text))
moves makes-up text last at h e l = by (token_from (due_after last) text at) (makes-up (due_after last) text at h) e l
  where
    by : (t : Token) → Makes text at t → (t.code ≡ end_code → ⊥) → (t.code ≡ too_long → ⊥) → (at ≤ t.place) × ((t.place < t.end) × (t.end ≤ length text))
    by t (Makes.whole not_end not-long a b c d) e l = (a, (b, c))
    by t (Makes.end a q c) e l = absurd (e (ap (λ (t : Token). t.code) q))
    by t (Makes.longer a q) e l = absurd (l (ap (λ (t : Token). t.code) q))

-- ---- numbers of names

module _ (text : List ℕ) where
  -- a token's number is that which it has among all names, and there is room for it where these are few
  module _ (same_self : SameSelf) (ns : List Named) (t : Token) {ms : List Named} (x : Extends (with_name text ns t) ms) (p : t.place < t.end) (e : t.end ≤ length text) where
    number_same : number_in text ns t ≡ number_in text ms t
    number_same = sym (number-stays text ns t ms (same_self text t.place (t.end - t.place) (omega arith)) x)

    room-for : (most : ℕ) → length ms ≤ most → room_for text most ns t ≡ true
    unfolding with_name known room_for
    room-for most h =
        cases (ltb (number_in text ns t) (length ns)) (λ c. rw c refl)
        (λ c. rw (c, lt-ltb (length ns) most (longer (rw (c, with_name, known) at x.split))) refl)
      where
        longer : ms ≡ (ns ++ record { place = t.place; length = t.end - t.place } ∷ []) ++ x.behind → length ns < most
        longer q = let l : length ms ≡ length ns + 1 + length x.behind = rw (q, length-append (ns ++ record { place = t.place; length = t.end - t.place } ∷ []) x.behind, length-append ns (record { place = t.place; length = t.end - t.place } ∷ [])) refl in omega arith

-- ---- what is known of a first token

spelt-on : {text : List ℕ} {at end to last : ℕ} {t : Token} {ts : List Token} → TokensOf text at end (t ∷ ts) to last → TokensOf text t.end t.code ts to last
spelt-on (TokensOf.more h q) = q

names-on : {text : List ℕ} {ns ms : List Named} {t : Token} {ts : List Token} → NamesAre text ns (t ∷ ts) ms → NamesAre text (with_name text ns t) ts ms
names-on (NamesAre.more h) = h

numbers_on : {text : List ℕ} {t : Token} {ts : List Token} → NumbersFit text (t ∷ ts) → NumbersFit text ts
numbers_on (NumbersFit.more f h) = h

sorted-other : {last : ℕ} {t : Token} {ts vs ls : List Token} → Sorted last (t ∷ ts) vs ls → (t.code ≡ name_code → ⊥) → Sorted t.code ts vs ls
sorted-other (Sorted.other h s) n = s
sorted-other (Sorted.behind_dot h s) n = absurd (n h)
sorted-other (Sorted.before_colon d h c s) n = absurd (n h)
sorted-other (Sorted.variable d h c s) n = absurd (n h)

pub first_code : {a b : Token} {s t : List Token} → a ∷ s ≡ b ∷ t → a.code ≡ b.code
first_code e = cc

sorted-label : {last : ℕ} {t : Token} {ts vs ls : List Token} → Sorted last (t ∷ ts) vs ls → last ≡ dot_code → t.code ≡ name_code
    → (xs : List Token) × ((ls ≡ t ∷ xs) × Sorted t.code ts vs xs)
sorted-label (Sorted.other h s) d n = absurd (h n)
sorted-label (Sorted.behind_dot {ls = ls} h s) d n = (ls, (refl, rw n s))
sorted-label (Sorted.before_colon h k c s) d n = absurd (h d)
sorted-label (Sorted.variable h k c s) d n = absurd (h d)

sorted-field : {last : ℕ} {t c : Token} {ts us vs ls : List Token} → Sorted last (t ∷ ts) vs ls → ts ≡ c ∷ us → (last ≡ dot_code → ⊥) → t.code ≡ name_code → c.code ≡ colon_code
    → (xs : List Token) × ((ls ≡ t ∷ xs) × Sorted t.code ts vs xs)
sorted-field (Sorted.other h s) q d n e = absurd (h n)
sorted-field (Sorted.behind_dot h s) q d n e = absurd (d refl)
sorted-field (Sorted.before_colon {ls = ls} h k c s) q d n e = (ls, (refl, rw n s))
sorted-field (Sorted.variable h k c s) q d n e = absurd (c (first_code q ∙ e))

sorted-variable : {last : ℕ} {t c : Token} {ts us vs ls : List Token} → Sorted last (t ∷ ts) vs ls → ts ≡ c ∷ us → (last ≡ dot_code → ⊥) → t.code ≡ name_code → (c.code ≡ colon_code → ⊥)
    → (xs : List Token) × ((vs ≡ t ∷ xs) × Sorted t.code ts xs ls)
sorted-variable (Sorted.other h s) q d n e = absurd (h n)
sorted-variable (Sorted.behind_dot h s) q d n e = absurd (d refl)
sorted-variable (Sorted.before_colon h k c s) q d n e = absurd (e (sym (first_code q) ∙ c))
sorted-variable (Sorted.variable {vs = vs} h k c s) q d n e = (vs, (refl, rw n s))

-- ---- a reader before known tokens

-- a text that ends at `to`, behind a token of the code `last`, with all its names; and what crate tokens says of it
pub record Given : Type 0 where
  pub makes-up : MakesUp
  pub same_self : SameSelf
  pub text : List ℕ
  pub vs : List Named
  pub ls : List Named
  pub to : ℕ
  pub last : ℕ
  pub few_variables : length vs ≤ variables
  pub few_labels : length ls ≤ labels

module _ (G : Given) where
  abbrev pub ending : Token
  ending = token_from (due_after G.last) G.text G.to

  -- the first of these tokens, or the end
  abbrev pub next : List Token → Token
  next [] = ending
  next (t ∷ ts) = t

  -- r has counted c words, and these tokens are the rest of the text
  pub record At (r : Reader) (c : ℕ) (ts : List Token) : Type 0 where
    pub variable_tokens : List Token
    pub label_tokens : List Token
    pub counted : r.certain + r.owed ≡ c
    pub unpassed : r.passed ≡ false
    pub inside : r.at ≤ length G.text
    pub spelt : TokensOf G.text r.at r.last ts G.to G.last
    pub sorted : Sorted r.last (ts ++ ending ∷ []) variable_tokens label_tokens
    pub variable_names : NamesAre G.text r.variables variable_tokens G.vs
    pub label_names : NamesAre G.text r.labels label_tokens G.ls
    pub numbers : NumbersFit G.text ts

  pub peek-next : {r : Reader} {c : ℕ} {ts : List Token} → At r c ts → peek G.text r ≡ next ts
  unfolding peek
  peek-next {r} {c} {ts} a = by ts r.at r.last a.spelt
    where
      by : (ts : List Token) (at end : ℕ) → TokensOf G.text at end ts G.to G.last → token_from (due_after end) G.text at ≡ next ts
      by ts at end TokensOf.none = refl
      by ts at end (TokensOf.more h q) = h

  pub owed_more : {r : Reader} {c : ℕ} {ts : List Token} (k : ℕ) → At r c ts → At (owing k r) (c + k) ts
  owed_more k a = record {
    variable_tokens = a.variable_tokens;
    label_tokens = a.label_tokens;
    counted = omega (arith, a.counted);
    unpassed = a.unpassed;
    inside = a.inside;
    spelt = a.spelt;
    sorted = a.sorted;
    variable_names = a.variable_names;
    label_names = a.label_names;
    numbers = a.numbers;
  }

  -- a limit that is not passed
  pub unpassing : {r : Reader} {c : ℕ} {ts : List Token} (b : Bool) → b ≡ false → At r c ts → At (passing b r) c ts
  unpassing b e a = record {
    variable_tokens = a.variable_tokens;
    label_tokens = a.label_tokens;
    counted = a.counted;
    unpassed = rw a.unpassed e;
    inside = a.inside;
    spelt = a.spelt;
    sorted = a.sorted;
    variable_names = a.variable_names;
    label_names = a.label_names;
    numbers = a.numbers;
  }

  pub number_fits_lem : {r : Reader} {c : ℕ} {t : Token} {ts : List Token} → At r c (t ∷ ts) → t.code ≡ number_code → fits (integer_of (part G.text t.place t.end)) ≡ true
  number_fits_lem a e = by a.numbers e
    where
      by : {t : Token} {ts : List Token} → NumbersFit G.text (t ∷ ts) → t.code ≡ number_code → fits (integer_of (part G.text t.place t.end)) ≡ true
      by (NumbersFit.more f h) e = f e

  -- the reader behind a token that makes k words certain
  abbrev pub taken : ℕ → Reader → Reader
  taken k r = record { at = (peek G.text r).end; last = (peek G.text r).code; certain = r.certain + r.owed + k; owed = 0; passed = false; variables = r.variables; labels = r.labels }

  pub takes : {r : Reader} {c : ℕ} {ts : List Token} (k : ℕ) → At r c ts → c + k ≤ most_words → take G.text k r ≡ got (taken k r)
  unfolding take
  takes {r} k a h = rw (a.unpassed, le-leb (r.certain + r.owed + k) most_words (omega (arith, a.counted))) refl

  headed : (ts : List Token) → (us : List Token) × (ts ++ ending ∷ [] ≡ next ts ∷ us)
  headed [] = ([], refl)
  headed (t ∷ ts) = (ts ++ ending ∷ [], refl)

  -- where a token ends that is not the end of the text
  onward : {r : Reader} {c : ℕ} {t : Token} {ts : List Token} → At r c (t ∷ ts) → (t.code ≡ end_code → ⊥) → (t.code ≡ too_long → ⊥)
      → (t.place < t.end) × ((t.end ≤ length G.text) × (r.at < t.end))
  unfolding peek
  onward {r} {c} {t} a e l =
      let q : token_from (due_after r.last) G.text r.at ≡ t = peek-next a in
      let m = moves G.makes-up G.text r.last r.at a.inside (λ z. e (ap (λ (t : Token). t.code) (sym q) ∙ z)) (λ z. l (ap (λ (t : Token). t.code) (sym q) ∙ z)) in
      let m0 : r.at ≤ t.place = rw q at m.0 in
      let m1 : t.place < t.end = rw q at m.1.0 in
      let m2 : t.end ≤ length G.text = rw q at m.1.1 in
      (m1, (m2, omega arith))

  -- behind a token that is no name
  pub plain : {r : Reader} {c : ℕ} {t : Token} {ts : List Token} (k : ℕ) → At r c (t ∷ ts) → Plain t.code → At (taken k r) (c + k) ts × (r.at < (peek G.text r).end)
  plain {r} {c} {t} {ts} k a h =
      let o = onward a (λ z. absurd (let y : t.code ≡ number_code = h (omega arith) in omega arith)) (λ z. absurd (let y : t.code ≡ number_code = h (omega arith) in omega arith)) in
      rw (peek-next a) (
        record {
          variable_tokens = a.variable_tokens;
          label_tokens = a.label_tokens;
          counted = omega (arith, a.counted);
          unpassed = refl;
          inside = o.1.0;
          spelt = spelt-on a.spelt;
          sorted = sorted-other a.sorted (λ z. absurd (let y : t.code ≡ number_code = h (omega arith) in omega arith));
          variable_names = a.variable_names;
          label_names = a.label_names;
          numbers = numbers_on a.numbers;
        },
        o.1.1,
      )

  -- the test for a token's code
  pub is-so : {r : Reader} {c : ℕ} {ts : List Token} (code : ℕ) → At r c ts → (next ts).code ≡ code → is G.text r code ≡ true
  is-so {r} {c} {ts} code a e = rw (peek-next a) (eq-eqb (next ts).code code e)

  pub is-not : {r : Reader} {c : ℕ} {ts : List Token} (code : ℕ) → At r c ts → ((next ts).code ≡ code → ⊥) → is G.text r code ≡ false
  is-not {r} {c} {ts} code a e = rw (peek-next a) (ne_eqb (next ts).code code e)

  pub needs : {r : Reader} {c : ℕ} {t : Token} {ts : List Token} (code k : ℕ) → At r c (t ∷ ts) → t.code ≡ code → c + k ≤ most_words → need G.text code k r ≡ got (taken k r)
  unfolding need
  needs {r} {c} {t} code k a e h = rw (is-so code a e) (takes k a h)

  -- ---- names

  pub takes-variable : {r : Reader} {c : ℕ} {t : Token} {ts : List Token} (k : ℕ) → At r c (t ∷ ts) → t.code ≡ name_code → (r.last ≡ dot_code → ⊥) → ((next ts).code ≡ colon_code → ⊥)
      → c + k ≤ most_words → (s : Reader) × ((variable G.text k r ≡ got (number_in G.text G.vs t, s)) × (At s (c + k) ts × (r.at < s.at)))
  unfolding variable
  takes-variable {r} {c} {t} {ts} k a n d e h =
      by (onward a (λ z. absurd (omega arith)) (λ z. absurd (omega arith))) (sorted-variable a.sorted (headed ts).1 d n e)
    where
      to : (xs : List Token) (g : Extends (with_name G.text r.variables t) G.vs) → NamesAre G.text (with_name G.text r.variables t) xs G.vs
          → Sorted t.code (ts ++ ending ∷ []) xs a.label_tokens → t.place < t.end → t.end ≤ length G.text → r.at < t.end
          → (s : Reader) × ((variable G.text k r ≡ got (number_in G.text G.vs t, s)) × (At s (c + k) ts × (r.at < s.at)))
      to xs g ns so p q o = (
        record { at = t.end; last = t.code; certain = r.certain + r.owed + k; owed = 0; passed = false; variables = with_name G.text r.variables t; labels = r.labels },
        (
          rw (
            is-so name_code a n,
            peek-next a,
            room-for G.text G.same_self r.variables t g p q variables G.few_variables,
            takes k a h,
            peek-next a,
            number_same G.text G.same_self r.variables t g p q,
          ) refl,
          (
            record {
              variable_tokens = xs;
              label_tokens = a.label_tokens;
              counted = omega (arith, a.counted);
              unpassed = refl;
              inside = q;
              spelt = spelt-on a.spelt;
              sorted = so;
              variable_names = ns;
              label_names = a.label_names;
              numbers = numbers_on a.numbers;
            },
            o,
          ),
        ),
      )

      by : (t.place < t.end) × ((t.end ≤ length G.text) × (r.at < t.end)) → (xs : List Token) × ((a.variable_tokens ≡ t ∷ xs) × Sorted t.code (ts ++ ending ∷ []) xs a.label_tokens)
          → (s : Reader) × ((variable G.text k r ≡ got (number_in G.text G.vs t, s)) × (At s (c + k) ts × (r.at < s.at)))
      by o (xs, (q, so)) = let ns : NamesAre G.text (with_name G.text r.variables t) xs G.vs = names-on (rw q at a.variable_names) in to xs (names-extend G.text ns) ns so o.0 o.1.0 o.1.1

  -- its number among the names up to it
  pub variable-number : {r : Reader} {c : ℕ} {t : Token} {ts : List Token} → At r c (t ∷ ts) → t.code ≡ name_code → (r.last ≡ dot_code → ⊥) → ((next ts).code ≡ colon_code → ⊥)
      → number_in G.text (with_name G.text r.variables t) t ≡ number_in G.text G.vs t
  variable-number {r} {c} {t} {ts} a n d e = by (onward a (λ z. absurd (omega arith)) (λ z. absurd (omega arith))) (sorted-variable a.sorted (headed ts).1 d n e)
    where
      to : (g : Extends (with_name G.text r.variables t) G.vs) → t.place < t.end → t.end ≤ length G.text → number_in G.text (with_name G.text r.variables t) t ≡ number_in G.text G.vs t
      to g p q =
          sym (number_same G.text G.same_self r.variables t (extends-same (with_name G.text r.variables t)) p q)
          ∙ number_same G.text G.same_self r.variables t g p q

      by : (t.place < t.end) × ((t.end ≤ length G.text) × (r.at < t.end)) → (xs : List Token) × ((a.variable_tokens ≡ t ∷ xs) × Sorted t.code (ts ++ ending ∷ []) xs a.label_tokens)
          → number_in G.text (with_name G.text r.variables t) t ≡ number_in G.text G.vs t
      by o (xs, (q, so)) = let ns : NamesAre G.text (with_name G.text r.variables t) xs G.vs = names-on (rw q at a.variable_names) in to (names-extend G.text ns) o.0 o.1.0

  module _ {r : Reader} {c : ℕ} {t : Token} {ts : List Token} (seen : List ℕ) (a : At r c (t ∷ ts)) (n : t.code ≡ name_code) (f : among (number_in G.text G.ls t) seen ≡ false) (h : c + 1 ≤ most_words) where
    abbrev pub Label : Type 0
    Label = (s : Reader) × ((label G.text seen r ≡ got (number_in G.text G.ls t, s)) × (At s (c + 1) ts × (r.at < s.at)))

    label-to : (xs : List Token) (g : Extends (with_name G.text r.labels t) G.ls) → NamesAre G.text (with_name G.text r.labels t) xs G.ls
        → Sorted t.code (ts ++ ending ∷ []) a.variable_tokens xs → t.place < t.end → t.end ≤ length G.text → r.at < t.end → Label
    unfolding label
    label-to xs g ns so p q o = (
      record { at = t.end; last = t.code; certain = r.certain + r.owed + 1; owed = 0; passed = false; variables = r.variables; labels = with_name G.text r.labels t },
      (
        rw (
          is-so name_code a n,
          peek-next a,
          number_same G.text G.same_self r.labels t g p q,
          f,
          and-false (known G.text r.labels t) false refl,
          room-for G.text G.same_self r.labels t g p q labels G.few_labels,
          takes 1 a h,
          peek-next a,
        ) refl,
        (
          record {
            variable_tokens = a.variable_tokens;
            label_tokens = xs;
            counted = omega (arith, a.counted);
            unpassed = refl;
            inside = q;
            spelt = spelt-on a.spelt;
            sorted = so;
            variable_names = a.variable_names;
            label_names = ns;
            numbers = numbers_on a.numbers;
          },
          o,
        ),
      ),
    )

    label-by : (xs : List Token) × ((a.label_tokens ≡ t ∷ xs) × Sorted t.code (ts ++ ending ∷ []) a.variable_tokens xs) → Label
    label-by (xs, (q, so)) =
        let o = onward a (λ z. absurd (omega arith)) (λ z. absurd (omega arith)) in
        let ns : NamesAre G.text (with_name G.text r.labels t) xs G.ls = names-on (rw q at a.label_names) in
        label-to xs (names-extend G.text ns) ns so o.0 o.1.0 o.1.1

    pub takes-label : r.last ≡ dot_code → Label
    takes-label d = label-by (sorted-label a.sorted d n)

    pub takes_field : (r.last ≡ dot_code → ⊥) → (next ts).code ≡ colon_code → Label
    takes_field d e = label-by (sorted-field a.sorted (headed ts).1 d n e)
