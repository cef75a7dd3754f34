-- The names that are told of a text, as names over it: each number that has one is called as it is there. Assumes nothing.
use mathlib.Core.Path.{◌≡◌, ◌∙◌}
use mathlib.Core.Bool.{true, false}
use mathlib.Core.List.{List, ◌++◌}
use Prim.Native.Nat.{ℕ, ◌+◌, ◌*◌, ◌≤◌, ◌<◌}
use native.Mathlib.Omega.{arith}
use borrow.Author.Tests.{ne_eqb, lt-ltb, le-leb}
use lib.IntN.{ℤ, pos}
use lib.ListN.{length, get_or, drop, length-drop, get_or-append}
use lib.Seq.{get_or-append-add}
use Rattle.words.specs.Words.{word_of, word_at}
use Rattle.words.proofs.Laws.{number_word}
use Rattle.tables.specs.Sizes.{variables, labels}
use Rattle.tokens.specs.Tokens.{most_bytes}
use Rattle.text.specs.Reading.{Named}
use Rattle.text.specs.Names.{named}
use Rattle.text.specs.Whole.{name_words}
use Rattle.text.proofs.TableLaws.{table-length, table-place, table-long, table_none}
use Rattle.printing.specs.Naming.{Naming, naming, numbers, first_label, place_of, length_of, is_given, given_name, name_of}
use Rattle.printing.specs.Faults.{is_part}
use Rattle.printing.proofs.CalledLaws.{Stands}

-- a number to which this name is given
pub record Called (N : Naming) (i : ℕ) (s : List ℕ) : Type 0 where
  pub given : is_given N i ≡ true
  pub part : is_part N i ≡ true
  pub bytes : given_name N i ≡ s
  pub name : name_of N i ≡ s

module _ (text : List ℕ) (short : length text ≤ most_bytes) (vs ls : List Named) where
  abbrev pub table : List ℤ
  table = name_words variables vs ++ name_words labels ls

  abbrev pub told : Naming
  told = naming text table

  -- ---- the words of a number

  front : (i k : ℕ) → i < first_label → k < 2 → word_at table (2 * i + k) ≡ get_or (name_words variables vs) (2 * i + k) (pos 0)
  front i k h l = get_or-append (name_words variables vs) (name_words labels ls) (pos 0) (2 * i + k) (rw (table-length variables vs) (omega arith))

  back : (l k : ℕ) → word_at table (2 * (first_label + l) + k) ≡ get_or (name_words labels ls) (2 * l + k) (pos 0)
  back l k =
      let e : 2 * (first_label + l) + k ≡ 2 * variables + (2 * l + k) = omega arith in
      rw (e, ← table-length variables vs) (get_or-append-add (name_words variables vs) (name_words labels ls) (2 * l + k) (pos 0))

  place_is : (i n : ℕ) → i < numbers → n < 2147483648 → word_at table (2 * i + 0) ≡ word_of n → place_of table i ≡ n
  unfolding place_of
  place_is i n h l e = let z : 2 * i ≡ 2 * i + 0 = omega arith in rw (lt-ltb i numbers h, z, e) (number_word n l)

  length-is : (i n : ℕ) → i < numbers → n < 2147483648 → word_at table (2 * i + 1) ≡ word_of n → length_of table i ≡ n
  unfolding length_of
  length-is i n h l e = rw (lt-ltb i numbers h, e) (number_word n l)

  length_none : (i : ℕ) → i < numbers → word_at table (2 * i + 1) ≡ pos 0 → is_given told i ≡ false
  unfolding length_of
  length_none i h e = rw (lt-ltb i numbers h, e)

  -- ---- a number that has a name

  called : (i : ℕ) (n : Named) {s : List ℕ} → i < numbers → Stands text s n → word_at table (2 * i + 0) ≡ word_of n.place → word_at table (2 * i + 1) ≡ word_of n.length
      → Called told i s
  unfolding given_name name_of is_part
  called i n {s} h p a b =
      let m : n.place + n.length ≤ length text = p.inside in
      let q : place_of table i ≡ n.place = place_is i n.place h (omega arith) a in
      let r : length_of table i ≡ n.length = length-is i n.length h (omega arith) b in
      let o : n.length ≤ length (drop n.place text) = rw (length-drop n.place text) (omega arith) in
      record {
        given = rw (r, ne_eqb n.length 0 (λ z. omega (arith, p.whole)));
        part = rw (q, r, ne_eqb n.place 2147483648 (λ z. omega arith), le-leb n.length (length (drop n.place text)) o);
        bytes = rw (q, r) p.bytes;
        name = rw (r, ne_eqb n.length 0 (λ z. omega (arith, p.whole)), q) p.bytes;
      }

  pub variable-called : (i : ℕ) {s : List ℕ} → i < first_label → i < length vs → Stands text s (named vs i) → Called told i s
  variable-called i h l p =
      called i (named vs i) (omega arith) p (front i 0 h (omega arith) ∙ table-place variables vs i h l) (front i 1 h (omega arith) ∙ table-long variables vs i h l)

  pub label-called : (i : ℕ) {s : List ℕ} → i < labels → i < length ls → Stands text s (named ls i) → Called told (first_label + i) s
  label-called i h l p =
      called (first_label + i) (named ls i) (omega arith) p (back i 0 ∙ table-place labels ls i h l) (back i 1 ∙ table-long labels ls i h l)

  pub variable-uncalled : (i : ℕ) → i < first_label → length vs ≤ i → is_given told i ≡ false
  variable-uncalled i h l = length_none i (omega arith) (front i 1 h (omega arith) ∙ table_none variables vs i h l)

  pub label-uncalled : (i : ℕ) → i < labels → length ls ≤ i → is_given told (first_label + i) ≡ false
  label-uncalled i h l = length_none (first_label + i) (omega arith) (back i 1 ∙ table_none labels ls i h l)
