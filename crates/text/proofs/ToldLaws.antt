-- What the code's reader is after each step, as the definitions have it. Assumes nothing.
use mathlib.Core.Path.{◌≡◌, refl, sym, ap, ◌∙◌}
use mathlib.Core.Bool.{Bool, true, false, not, cond, ◌&&◌}
use mathlib.Core.List.{List}
use Prim.Native.Nat.{ℕ, ◌+◌, ◌≤◌, ◌<◌}
use native.Mathlib.Omega.{arith}
use borrow.Author.Tests.{leb-true, eq-eqb, ne_eqb}
use lib.Dec.{eqb, ltb, leb}
use lib.ListN.{length}
use Rattle.words.specs.Answer.{Answer, got, stop}
use Rattle.tables.proofs.SearchLaws.{cases}
use Rattle.program.specs.Forms.{most_words}
use Rattle.program.specs.Reading.{among}
use Rattle.tokens.specs.declared.Token.{Token}
use Rattle.text.specs.Reading.{Fault, Named, Reader, peek, refusal, take, need, variable, label, number_in, known, with_name}
use Rattle.text.specs.declared.Carried.{Carried}
use Rattle.text.specs.Told.{names_from, table_with, count_with, at_most, reader_of, reading_of, numbered_of}
use Rattle.text.specs.Told.{refused_at, refused_by, room_with, behind, taken_by, named_variable, named_label, Peeks, Follows, Numbers}
use Rattle.text.proofs.NameLaws.{number-most}
use Rattle.text.proofs.NamingLaws.{most-small, room-full, room-there, is_known, count_most, length-names, other-names, names-with}

-- ---- a reader that is stopped stays

pub follows-stopped : {r : Carried} {step : Reader → Answer Fault Reader} → (r.number ≡ 0 → ⊥) → Follows r step r
unfolding reading_of
follows-stopped {r = r} h = record { reads = λ names. rw (ne_eqb r.number 0 h); written = refl; depth = refl }

pub numbers-stopped : {names : List ℕ} {r : Carried} {step : Reader → Answer Fault (ℕ × Reader)} → (r.number ≡ 0 → ⊥) → Numbers names r step names r
unfolding reading_of numbered_of
numbers-stopped {r = r} h = record { reads = λ long. rw (ne_eqb r.number 0 h); written = refl; depth = refl }

-- ---- room

module _ (r : Carried) (k : ℕ) where
  pub room-is : r.passed ≡ false → leb (r.certain + r.owed + k) 4096 ≡ room_with k r
  unfolding room_with
  room-is e = rw e

  pub room_small : room_with k r ≡ true → r.certain + r.owed + k ≤ 4096
  unfolding room_with
  room_small e = small r.passed e
    where
      small : (b : Bool) → not b && leb (r.certain + r.owed + k) most_words ≡ true → r.certain + r.owed + k ≤ 4096
      small true h = absurd (let z : ◌≡◌ {A = Bool} false true = h in let y : ◌≡◌ {A = ℕ} 0 1 = ap (λ b. cond b 1 0) z in omega arith)
      small false h = leb-true (r.certain + r.owed + k) 4096 h

-- ---- a reader that goes on

module _ (r : Carried) (z : r.number ≡ 0) where
  pub goes_on : (names : List ℕ) → reading_of names r ≡ got (reader_of names r)
  unfolding reading_of
  goes_on names = rw (eq-eqb r.number 0 z)

  pub room-taken : (t : Token) (k : ℕ) → (taken_by t k r).number ≡ 0 → room_with k r ≡ true
  unfolding taken_by
  room-taken t k h = cases (room_with k r) (λ e. e) (λ e. let y : 22 ≡ 0 = rw e at h in let x : ⊥ = omega arith in absurd x)

  taken-reads : (text names : List ℕ) (t : Token) (k : ℕ) → t ≡ peek text (reader_of names r) → reading_of names (taken_by t k r) ≡ take text k (reader_of names r)
  unfolding reading_of reader_of take taken_by room_with
  taken-reads text names t k is = cases (room_with k r) (λ e. rw (← is, e, z)) (λ e. rw (← is, e))

taken-written : (t : Token) (k : ℕ) (r : Carried) → (taken_by t k r).written ≡ r.written
unfolding taken_by
taken-written t k r = cases (room_with k r) (λ e. rw e) (λ e. rw e)

taken-depth : (t : Token) (k : ℕ) (r : Carried) → (taken_by t k r).depth ≡ r.depth
unfolding taken_by
taken-depth t k r = cases (room_with k r) (λ e. rw e) (λ e. rw e)

pub refused-written : (t : Token) (r : Carried) → (refused_by t r).written ≡ r.written
unfolding refused_by
refused-written t r = cases (eqb t.code 4) (λ e. rw e) (λ e. rw e)

pub refused-depth : (t : Token) (r : Carried) → (refused_by t r).depth ≡ r.depth
unfolding refused_by
refused-depth t r = cases (eqb t.code 4) (λ e. rw e) (λ e. rw e)

pub refused-reads : (text names : List ℕ) (t : Token) (r : Carried) → reading_of names (refused_by t r) ≡ stop (refusal text t)
unfolding reading_of refused_by refusal
refused-reads text names t r = cases (eqb t.code 4) (λ e. rw e) (λ e. rw e)

refused-numbered : (text names : List ℕ) (t : Token) (r : Carried) → numbered_of names (refused_by t r) ≡ stop (refusal text t)
unfolding numbered_of refused_by refusal
refused-numbered text names t r = cases (eqb t.code 4) (λ e. rw e) (λ e. rw e)

-- ---- taking a token

module _ (text : List ℕ) (r : Carried) (t : Token) (k : ℕ) (z : r.number ≡ 0) (p : Peeks text r t) where
  pub take-follows : {s : Carried} → s ≡ taken_by t k r → Follows r (λ q. take text k q) s
  take-follows is =
      record {
        reads = λ names. rw (is, goes_on r z names) (taken-reads r z text names t k (p names));
        written = rw is (taken-written t k r);
        depth = rw is (taken-depth t k r);
      }

  pub need-refused : {s : Carried} (c : ℕ) → (t.code ≡ c → ⊥) → s ≡ refused_by t r → Follows r (λ q. need text c k q) s
  unfolding need
  need-refused c h is =
      record {
        reads = λ names. rw (is, goes_on r z names, ← p names, ne_eqb t.code c h) (refused-reads text names t r);
        written = rw is (refused-written t r);
        depth = rw is (refused-depth t r);
      }

  pub need-taken : {s : Carried} (c : ℕ) → t.code ≡ c → s ≡ taken_by t k r → Follows r (λ q. need text c k q) s
  unfolding need
  need-taken c h is =
      record {
        reads = λ names. rw (is, goes_on r z names, ← p names, eq-eqb t.code c h) (taken-reads r z text names t k (p names));
        written = rw is (taken-written t k r);
        depth = rw is (taken-depth t k r);
      }

-- ---- names

-- the number and the reader of an answer that reads a name
numbered_is : (names : List ℕ) (s : Carried) (n : ℕ) (q : Reader) → s.number ≡ 0 → s.named ≡ n → reader_of names s ≡ q → numbered_of names s ≡ got (n, q)
unfolding numbered_of
numbered_is names s n q z e f = rw (eq-eqb s.number 0 z) (cc)

module _ (text names : List ℕ) (r : Carried) (t : Token) (z : r.number ≡ 0) (p : Peeks text r t) where
  pub variable-unnamed : (k : ℕ) {s : Carried} → (t.code ≡ 1 → ⊥) → s ≡ refused_by t r → Numbers names r (λ q. variable text k q) names s
  unfolding variable
  variable-unnamed k h is =
      record {
        reads = λ long. rw (is, goes_on r z names, ← p names, ne_eqb t.code 1 h) (refused-numbered text names t r);
        written = rw is (refused-written t r);
        depth = rw is (refused-depth t r);
      }

  pub label-unnamed : (seen : List ℕ) {s : Carried} → (t.code ≡ 1 → ⊥) → s ≡ refused_by t r → Numbers names r (λ q. label text seen q) names s
  unfolding label
  label-unnamed seen h is =
      record {
        reads = λ long. rw (is, goes_on r z names, ← p names, ne_eqb t.code 1 h) (refused-numbered text names t r);
        written = rw is (refused-written t r);
        depth = rw is (refused-depth t r);
      }

  module _ (code : t.code ≡ 1) {count n : ℕ} (counted : count ≡ at_most 64 r.variables) (number : n ≡ number_in text (names_from names 0 count) t) where
    abbrev vs : List Named
    vs = names_from names 0 (at_most 64 r.variables)

    v-number : n ≡ number_in text vs t
    v-number = rw (← counted) number

    v-length : length vs ≡ count
    v-length = length-names names 0 (at_most 64 r.variables) ∙ sym counted

    v_count : count ≤ 64
    v_count = rw counted (most-small 64 r.variables)

    pub variable-full : (k : ℕ) {s : Carried} → 64 ≤ n → s ≡ refused_at 21 t.place r → Numbers names r (λ q. variable text k q) names s
    unfolding variable numbered_of reader_of
    variable-full k h is =
        record {
          reads = λ long. rw (is, goes_on r z names, ← p names, eq-eqb t.code 1 code, room-full text vs t v-number h (omega (arith, v-length, v_count)));
          written = rw is;
          depth = rw is;
        }

    pub variable-stopped : (k : ℕ) {s : Carried} → n < 64 → s ≡ taken_by t k r → (s.number ≡ 0 → ⊥) → Numbers names r (λ q. variable text k q) names s
    unfolding variable numbered_of reading_of reader_of
    variable-stopped k {s = s} h is over =
        let w : reading_of names s ≡ take text k (reader_of names r) = rw is (taken-reads r z text names t k (p names)) in
        record {
          reads = λ long. rw (goes_on r z names, ← p names, eq-eqb t.code 1 code, room-there text vs t v-number h, ← w, ne_eqb s.number 0 over);
          written = rw is (taken-written t k r);
          depth = rw is (taken-depth t k r);
        }

    module _ (k : ℕ) {s : Carried} (h : n < 64) (is : s ≡ taken_by t k r) (goes : s.number ≡ 0) where
      v-room : room_with k r ≡ true
      v-room = room-taken r z t k (rw (← is) goes)

      -- what the definition answers
      v-answer : variable text k (reader_of names r) ≡ got (
        n,
        record {
          at = t.end;
          last = t.code;
          certain = r.certain + r.owed + k;
          owed = 0;
          passed = false;
          variables = with_name text vs t;
          labels = names_from names 128 (at_most 32 r.labels);
        },
      )
      unfolding variable take reader_of room_with
      v-answer = rw (← p names, eq-eqb t.code 1 code, room-there text vs t v-number h, v-room, ← v-number)

      v-behind : s ≡ behind t k r
      unfolding taken_by
      v-behind = rw (is, v-room)

      pub variable-named : {u : Carried} {after : List ℕ} {grown : ℕ} → after ≡ table_with names 0 count n t → grown ≡ count_with count n → u ≡ named_variable grown n s → Numbers names r (λ q. variable text k q) after u
      unfolding reader_of
      variable-named {u = u} {after = after} {grown = grown} table more named =
          record {
            reads = λ long.
                let a : names_from after 0 (at_most 64 grown) ≡ with_name text vs t =
                rw (more, count_most 64 count n v_count (omega (arith, number, number-most text (names_from names 0 count) t, length-names names 0 count)) h, table)
                (names-with text names 0 count n t (λ l. omega arith) number ∙ rw counted refl) in
                let b : names_from after 128 (at_most 32 r.labels) ≡ names_from names 128 (at_most 32 r.labels) =
                rw table (other-names names 0 count n t 128 (at_most 32 r.labels) (λ l m. omega arith)) in
                rw (goes_on r z names, v-answer) (numbered_is after u n _ (rw (named, v-behind) z) (rw named refl) (rw (named, v-behind, a, b) refl));
            written = rw (named, is) (taken-written t k r);
            depth = rw (named, is) (taken-depth t k r);
          }

  module _ (code : t.code ≡ 1) {count n : ℕ} (counted : count ≡ at_most 32 r.labels) (number : n ≡ number_in text (names_from names 128 count) t) (seen : List ℕ) where
    abbrev ls : List Named
    ls = names_from names 128 (at_most 32 r.labels)

    l-number : n ≡ number_in text ls t
    l-number = rw (← counted) number

    l-length : length ls ≡ count
    l-length = length-names names 128 (at_most 32 r.labels) ∙ sym counted

    l-count : count ≤ 32
    l-count = rw counted (most-small 32 r.labels)

    l-known : known text ls t ≡ ltb n count
    l-known = is_known text ls t l-number ∙ ap (ltb n) l-length

    pub label-seen : {s : Carried} → ltb n count && among n seen ≡ true → s ≡ refused_by t r → Numbers names r (λ q. label text seen q) names s
    unfolding label reader_of
    label-seen h is =
        record {
          reads = λ long. rw (is, goes_on r z names, ← p names, eq-eqb t.code 1 code, l-known, ← l-number, h) (refused-numbered text names t r);
          written = rw is (refused-written t r);
          depth = rw is (refused-depth t r);
        }

    module _ (new : ltb n count && among n seen ≡ false) where
      pub label-full : {s : Carried} → 32 ≤ n → s ≡ refused_at 21 t.place r → Numbers names r (λ q. label text seen q) names s
      unfolding label numbered_of reader_of
      label-full h is =
          record {
            reads = λ long. rw (is, goes_on r z names, ← p names, eq-eqb t.code 1 code, l-known, ← l-number, new, room-full text ls t l-number h (omega (arith, l-length, l-count)));
            written = rw is;
            depth = rw is;
          }

      module _ {s : Carried} (h : n < 32) (is : s ≡ taken_by t 1 r) where
        pub label-stopped : (s.number ≡ 0 → ⊥) → Numbers names r (λ q. label text seen q) names s
        unfolding label numbered_of reading_of reader_of
        label-stopped over =
            let w : reading_of names s ≡ take text 1 (reader_of names r) = rw is (taken-reads r z text names t 1 (p names)) in
            record {
              reads = λ long. rw (goes_on r z names, ← p names, eq-eqb t.code 1 code, l-known, ← l-number, new, room-there text ls t l-number h, ← w, ne_eqb s.number 0 over);
              written = rw is (taken-written t 1 r);
              depth = rw is (taken-depth t 1 r);
            }

        module _ (goes : s.number ≡ 0) where
          l-room : room_with 1 r ≡ true
          l-room = room-taken r z t 1 (rw (← is) goes)

          l-answer : label text seen (reader_of names r) ≡ got (
            n,
            record {
              at = t.end;
              last = t.code;
              certain = r.certain + r.owed + 1;
              owed = 0;
              passed = false;
              variables = names_from names 0 (at_most 64 r.variables);
              labels = with_name text ls t;
            },
          )
          unfolding label take reader_of room_with
          l-answer = rw (← p names, eq-eqb t.code 1 code, l-known, ← l-number, new, room-there text ls t l-number h, l-room)

          l-behind : s ≡ behind t 1 r
          unfolding taken_by
          l-behind = rw (is, l-room)

          pub label-named : {u : Carried} {after : List ℕ} {grown : ℕ} → after ≡ table_with names 128 count n t → grown ≡ count_with count n → u ≡ named_label grown n s → Numbers names r (λ q. label text seen q) after u
          unfolding reader_of
          label-named {u = u} {after = after} {grown = grown} table more named =
              record {
                reads = λ long.
                    let a : names_from after 128 (at_most 32 grown) ≡ with_name text ls t =
                    rw (more, count_most 32 count n l-count (omega (arith, number, number-most text (names_from names 128 count) t, length-names names 128 count)) h, table)
                    (names-with text names 128 count n t (λ l. omega arith) number ∙ rw counted refl) in
                    let b : names_from after 0 (at_most 64 r.variables) ≡ names_from names 0 (at_most 64 r.variables) =
                    rw table (other-names names 128 count n t 0 (at_most 64 r.variables) (λ l m. omega (arith, most-small 64 r.variables))) in
                    rw (goes_on r z names, l-answer) (numbered_is after u n _ (rw (named, l-behind) z) (rw named refl) (rw (named, l-behind, a, b) refl));
                written = rw (named, is) (taken-written t 1 r);
                depth = rw (named, is) (taken-depth t 1 r);
              }
