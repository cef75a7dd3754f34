-- No listing is longer than 30,930 bytes, and one that fits is written whole. Assumes nothing.
use Rattle.std.specs.Prelude.{None, Option, Some}
use mathlib.Core.Path.{◌≡◌, ◌∙◌}
use mathlib.Core.Bool.{true}
use mathlib.Core.List.{List, [], ◌∷◌, ◌++◌}
use Prim.Native.Nat.{ℕ, zero, suc, ◌+◌, ◌*◌, ◌/◌, ◌%◌, ◌≤◌, ◌<◌}
use native.Mathlib.Nat.{suc-mul}
use native.Mathlib.Omega.{arith}
use borrow.Author.Tests.{lt-ltb, le-leb, leb-true}
use lib.Dec.{ltb, leb}
use lib.IntN.{ℤ, pos, negsuc}
use lib.ListN.{length, drop, length-append}
use Rattle.tables.specs.declared.Value.{Value}
use Rattle.tables.specs.declared.Value.TheVariants.{Nil, Bool as Truth, Int, Ref}
use Rattle.tables.specs.declared.Sort.{Sort}
use Rattle.tables.specs.declared.Sort.TheVariants.{Values, Identities}
use Rattle.tables.specs.Values.{slot_of}
use Rattle.tables.specs.Cells.{Cells, cell_at}
use Rattle.tables.specs.Records.{record_count, field_count, label_at, field_at}
use Rattle.tables.specs.Kept.{most_kept, kept_count, position_at}
use Rattle.tables.proofs.SearchLaws.{cases}
use Rattle.tables.proofs.FindLaws.{kept_in, fields-small}
use Rattle.lister.specs.Numerals.{digits_by, digits, numeral}
use Rattle.lister.specs.Listing.{value_text, given_text, named_line, counted_line, each_below, cell_line, variable_text, variables_text, field_text, fields_text, record_text, shown_records, records_text, positions_text, tables_text, outcome_name, place_name, steps_name, input_name, answer_text, listing, unfit_text, listing_bytes, Listed}
use Rattle.lister.specs.Reading.{proposals_name}
use Rattle.lister.proofs.BufferLaws.{laid-fits}

-- a text and another after it
both : (a b : List ℕ) {n m : ℕ} → length a ≤ n → length b ≤ m → length (a ++ b) ≤ n + m
both a b h k = rw (length-append a b) (omega arith)

-- ---- numbers

places : (k n : ℕ) → length (digits_by k n) ≤ k
unfolding digits_by
places zero n = omega arith
places (suc k) n =
    cases (ltb n 10) (λ y. rw y (omega arith))
    (λ y. rw (y, length-append (digits_by k (n / 10)) ((48 + n % 10) ∷ [])) (omega (arith, places k (n / 10))))

one_place : (k n : ℕ) → n < 10 → length (digits_by (suc k) n) ≤ 1
unfolding digits_by
one_place k n h = rw (lt-ltb n 10 h) (omega arith)

two-places : (k n : ℕ) → n < 100 → length (digits_by (suc (suc k)) n) ≤ 2
unfolding digits_by
two-places k n h =
    cases (ltb n 10) (λ y. rw y (omega arith))
    (λ y. rw (y, length-append (digits_by (suc k) (n / 10)) ((48 + n % 10) ∷ [])) (omega (arith, one_place k (n / 10) (omega arith))))

pub digits-twenty : (n : ℕ) → length (digits n) ≤ 20
unfolding digits
digits-twenty n = places 20 n

pub digits-one : (n : ℕ) → n < 10 → length (digits n) ≤ 1
unfolding digits
digits-one n h = one_place 19 n h

pub digits-two : (n : ℕ) → n < 100 → length (digits n) ≤ 2
unfolding digits
digits-two n h = two-places 18 n h

pub numeral-length : (w : ℤ) → length (numeral w) ≤ 21
unfolding numeral
numeral-length (pos n) = omega (arith, digits-twenty n)
numeral-length (negsuc n) = omega (arith, digits-twenty (suc n))

-- ---- lines

value-length : (v : Value) → length (value_text v) ≤ 25
unfolding value_text
value-length Nil = omega arith
value-length (Truth b) = omega arith
value-length (Int w) = omega (arith, numeral-length w)
value-length (Ref r) = omega (arith, digits-twenty r)

given-length : (v : Value) → length (given_text v) ≤ 27
unfolding given_text
given-length v = both ((61 ∷ []) ++ value_text v) (10 ∷ []) {n = 26} {m = 1} (omega (arith, value-length v)) (omega arith)

pub named-length : (name : List ℕ) (n : ℕ) {k l : ℕ} → length name ≤ k → length (digits n) ≤ l → length (named_line name n) ≤ k + l + 1
unfolding named_line
named-length name n h d = both (name ++ digits n) (10 ∷ []) (both name (digits n) h d) (omega arith)

counted-length : (letter i n : ℕ) {k l : ℕ} → length (digits i) ≤ k → length (digits n) ≤ l → length (counted_line letter i n) ≤ 1 + k + (1 + l + 1)
unfolding counted_line
counted-length letter i n h d = both ((letter ∷ []) ++ digits i) (named_line (61 ∷ []) n) (both (letter ∷ []) (digits i) {n = 1} (omega arith) h) (named-length (61 ∷ []) n {k = 1} (omega arith) d)

cell-length : (name : List ℕ) (s : Option Value) {k : ℕ} → length name ≤ k → length (cell_line name s) ≤ k + 27
cell-length name None h = omega arith
cell-length name (Some v) h = both name (given_text v) h (given-length v)

-- ---- lines in a row

each-length : (f : ℕ → List ℕ) (k n : ℕ) → ((i : ℕ) → i < n → length (f i) ≤ k) → length (each_below f n) ≤ n * k
unfolding each_below
each-length f k zero h = omega arith
each-length f k (suc n) h = rw (suc-mul n k) (both (each_below f n) (f n) (each-length f k n (λ i l. h i (omega arith))) (h n (omega arith)))

variables-length : (S : Cells) → length (variables_text S) ≤ 64 * 30
unfolding variables_text variable_text
variables-length S =
    each-length (variable_text S) 30 64
    (λ x h. cell-length ((118 ∷ []) ++ digits x) (slot_of (cell_at S x)) {k = 3} (omega (arith, digits-two x (omega arith))))

field-length : (h : List ℤ) (r f : ℕ) → r < 64 → length (field_text h r f) ≤ 51
unfolding field_text
field-length h r f row =
    cell-length ((114 ∷ []) ++ digits r ++ (46 ∷ []) ++ digits (label_at h r f)) (slot_of (field_at h r f)) {k = 24}
    (both ((114 ∷ []) ++ digits r ++ (46 ∷ [])) (digits (label_at h r f)) {n = 4} {m = 20}
    (both ((114 ∷ []) ++ digits r) (46 ∷ []) {n = 3} {m = 1} (omega (arith, digits-two r (omega arith))) (omega arith)) (digits-twenty (label_at h r f)))

fields-length : (h : List ℤ) (r : ℕ) → r < 64 → length (fields_text h r) ≤ 8 * 51
unfolding fields_text
fields-length h r row =
    let n : field_count h r ≤ 8 = fields-small h r in
    let l : length (each_below (field_text h r) (field_count h r)) ≤ field_count h r * 51 = each-length (field_text h r) 51 (field_count h r) (λ f k. field-length h r f row) in
    omega arith

record-length : (h : List ℤ) (r : ℕ) → r < 64 → length (record_text h r) ≤ 414
unfolding record_text
record-length h r row =
    both (counted_line 114 r (field_count h r)) (fields_text h r) {n = 6} {m = 408}
    (counted-length 114 r (field_count h r) {k = 2} {l = 1} (digits-two r (omega arith)) (digits-one (field_count h r) (omega (arith, fields-small h r))))
    (fields-length h r row)

shown-most : (h : List ℤ) → shown_records h ≤ 64
unfolding shown_records
shown-most h = cases (leb (record_count h) 64) (λ y. rw y (leb-true (record_count h) 64 y)) (λ y. rw y (omega arith))

records-length : (h : List ℤ) → length (records_text h) ≤ 64 * 414
unfolding records_text
records-length h =
    let n : shown_records h ≤ 64 = shown-most h in
    let l : length (each_below (record_text h) (shown_records h)) ≤ shown_records h * 414 = each-length (record_text h) 414 (shown_records h) (λ r k. record-length h r (omega arith)) in
    omega arith

positions-length : (c : List ℤ) (s : Sort) (letter : ℕ) → most_kept s ≤ 64 → length (positions_text c s letter) ≤ kept_count c s * 25
unfolding positions_text
positions-length c s letter h =
    let n : kept_count c s ≤ most_kept s = kept_in c s in
    each-length (λ i. counted_line letter i (position_at c s i)) 25 (kept_count c s)
    (λ i k. counted-length letter i (position_at c s i) {k = 2} {l = 20} (digits-two i (omega arith)) (digits-twenty (position_at c s i)))

-- ---- the whole

tables-length : (S : Cells) (c : List ℤ) → length (tables_text S c) ≤ 30816
unfolding tables_text
tables-length S c =
    let v : kept_count c Values ≤ 64 = kept_in c Values in
    let i : kept_count c Identities ≤ 32 = kept_in c Identities in
    both (variables_text S ++ records_text S.heap ++ positions_text c Values 99) (positions_text c Identities 105) {n = 30016} {m = 800}
    (both (variables_text S ++ records_text S.heap) (positions_text c Values 99) {n = 28416} {m = 1600} (both (variables_text S) (records_text S.heap) (variables-length S) (records-length S.heap))
    (omega (arith, positions-length c Values 99 (omega arith))))
    (omega (arith, positions-length c Identities 105 (omega arith)))

answer-length : (outcome place steps proposals : ℕ) → length (answer_text outcome place steps proposals) ≤ 114
unfolding answer_text
answer-length outcome place steps proposals =
    both (named_line outcome_name outcome ++ named_line place_name place ++ named_line steps_name steps) (named_line proposals_name proposals) {n = 83} {m = 31}
    (both (named_line outcome_name outcome ++ named_line place_name place) (named_line steps_name steps) {n = 56} {m = 27}
    (both (named_line outcome_name outcome) (named_line place_name place) {n = 29} {m = 27}
    (named-length outcome_name outcome {k = 8} (omega arith) (digits-twenty outcome)) (named-length place_name place {k = 6} (omega arith) (digits-twenty place)))
    (named-length steps_name steps {k = 6} (omega arith) (digits-twenty steps)))
    (named-length proposals_name proposals {k = 10} (omega arith) (digits-twenty proposals))

pub listing-length : (outcome place steps proposals : ℕ) (S : Cells) (c : List ℤ) → length (listing outcome place steps proposals S c) ≤ listing_bytes
unfolding listing
listing-length outcome place steps proposals S c =
    both (answer_text outcome place steps proposals) (tables_text S c) {n = 114} {m = 30816} (answer-length outcome place steps proposals) (tables-length S c)

pub unfit-length : (line : ℕ) → length (unfit_text line) ≤ listing_bytes
unfolding unfit_text
unfit-length line = let h = named-length input_name line {k = 6} (omega arith) (digits-twenty line) in omega arith

-- where there is room the text stands whole, the bytes behind it are as they were, and the answer is its length
pub listed-whole : {text before after : List ℕ} {n : ℕ} → Listed text before after n → length text ≤ length before
    → (after ≡ text ++ drop (length text) before) × (n ≡ length text)
listed-whole {text = text} {before = before} l h =
    (l.stored ∙ laid-fits text before h, l.counted ∙ (let e : leb (length text) (length before) ≡ true = le-leb (length text) (length before) h in rw e))
