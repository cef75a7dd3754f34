-- The loop over the fields of a new record. Assumes nothing.
use mathlib.Core.Path.{◌≡◌, refl, sym, ap, ◌∙◌}
use mathlib.Core.List.{List, [], ◌∷◌, ◌++◌, append_assoc, append-nil}
use Prim.Native.Nat.{ℕ, suc, ◌+◌, ◌-◌, ◌*◌, ◌≤◌, ◌<◌}
use native.Mathlib.Omega.{arith}
use native.Mathlib.Decide.{dec_lt}
use lib.IntN.{ℤ, pos}
use lib.ListN.{length, set, drop, length-set, length-append, get_or-append}
use lib.Seq.{get_or-set_same, get_or-set_other, get_or-append-add}
use Rattle.std.specs.Prelude.{Result, Ok, Err}
use Rattle.program.specs.declared.Refusal.{Refusal}
use Rattle.words.specs.Words.{word_at, number_at, last_of, word_of}
use Rattle.words.specs.Answer.{got, stop, ◌>>=◌}
use Rattle.words.proofs.Laws.{word-is}
use Rattle.words.proofs.AnswerLaws.{stop≢got, got-inj}
use Rattle.tables.specs.declared.Value.{Value}
use Rattle.tables.specs.declared.Cell.{Cell}
use Rattle.tables.specs.Values.{cell_of}
use Rattle.tables.specs.Sizes.{most_fields, labels}
use Rattle.tables.specs.Cells.{Cells}
use Rattle.program.specs.Reading.{number}
use Rattle.program.proofs.NumberLaws.{number_fits_lem, number-high}
use Rattle.program.proofs.LengthLaws.{Part, part-drop, part-trans}
use Rattle.program.proofs.RowLaws.{last-part, last-all}
use Rattle.rules.specs.State.{Res, refused, reads}
use Rattle.rules.specs.Evaluation.{evaluate}
use Rattle.rules.specs.Statements.{field_words}
use Rattle.rules.proofs.EvaluateClauses.{evaluate-part}
use Rattle.rules.proofs.StatementClauses.{fields-none, fields-more}
use Rattle.expressions.specs.declared.Evaluated.{Evaluated}
use Rattle.expressions.specs.Told.{evaluated_of}
use Rattle.expressions.proofs.LeafLaws.{got-on}
use Rattle.proposals.proofs.FormLaws.{unlike}
use Rattle.statements.specs.Filling.{fields_words, Fills}

-- ---- three words more

abbrev three_at : List ℤ → ℕ → ℤ → ℤ → ℤ → List ℤ
three_at s i a b c = set (set (set s (3 * i) a) (3 * i + 1) b) (3 * i + 2) c

module _ (s done : List ℤ) (i : ℕ) (a b c : ℤ) where
  three-before : (k : ℕ) → k < 3 * i → word_at (three_at s i a b c) k ≡ word_at s k
  three-before k h =
      get_or-set_other (set (set s (3 * i) a) (3 * i + 1) b) (3 * i + 2) k c (pos 0) (λ e. omega arith)
      ∙ get_or-set_other (set s (3 * i) a) (3 * i + 1) k b (pos 0) (λ e. omega arith) ∙ get_or-set_other s (3 * i) k a (pos 0) (λ e. omega arith)

  module _ (long : 3 * i + 2 < length s) where
    three-first : word_at (three_at s i a b c) (3 * i) ≡ a
    three-first =
        get_or-set_other (set (set s (3 * i) a) (3 * i + 1) b) (3 * i + 2) (3 * i) c (pos 0) (λ e. omega arith)
        ∙ get_or-set_other (set s (3 * i) a) (3 * i + 1) (3 * i) b (pos 0) (λ e. omega arith) ∙ get_or-set_same s (3 * i) a (pos 0) (omega arith)

    three-second : word_at (three_at s i a b c) (3 * i + 1) ≡ b
    three-second =
        get_or-set_other (set (set s (3 * i) a) (3 * i + 1) b) (3 * i + 2) (3 * i + 1) c (pos 0) (λ e. omega arith)
        ∙ get_or-set_same (set s (3 * i) a) (3 * i + 1) b (pos 0) (simp length-set (omega arith))

    three_third : word_at (three_at s i a b c) (3 * i + 2) ≡ c
    three_third = get_or-set_same (set (set s (3 * i) a) (3 * i + 1) b) (3 * i + 2) c (pos 0) (simp length-set (omega arith))

    -- the words stored are those of a list that grows by the same three
    three-more : length done ≡ 3 * i → ((k : ℕ) → k < 3 * i → word_at s k ≡ word_at done k)
        → (k : ℕ) → k < 3 * (i + 1) → word_at (three_at s i a b c) k ≡ word_at (done ++ a ∷ b ∷ c ∷ []) k
    three-more l f k h = go (dec_lt k (3 * i)) (dec_lt k (3 * i + 1)) (dec_lt k (3 * i + 2))
      where
        after : (j : ℕ) → word_at (done ++ a ∷ b ∷ c ∷ []) (3 * i + j) ≡ word_at (a ∷ b ∷ c ∷ []) j
        after j = rw l at (get_or-append-add done (a ∷ b ∷ c ∷ []) j (pos 0))

        go : Dec (k < 3 * i) → Dec (k < 3 * i + 1) → Dec (k < 3 * i + 2) → word_at (three_at s i a b c) k ≡ word_at (done ++ a ∷ b ∷ c ∷ []) k
        go (yes y) d e = three-before k y ∙ f k y ∙ sym (get_or-append done (a ∷ b ∷ c ∷ []) (pos 0) k (omega arith))
        go (no n) (yes y) e =
            let q : k ≡ 3 * i = omega arith in
            let z : 3 * i + 0 ≡ 3 * i = omega arith in
            rw q (three-first ∙ sym (rw z at (after 0)))
        go (no n) (no m) (yes y) = let q : k ≡ 3 * i + 1 = omega arith in rw q (three-second ∙ sym (after 1))
        go (no n) (no m) (no o) = let q : k ≡ 3 * i + 2 = omega arith in rw q (three_third ∙ sym (after 2))

-- ---- i fields are done, `left` words are left, and the rest gives the whole

pub record FieldsLeft (S : Cells) (n : ℕ) (p before fields : List ℤ) (i left : ℕ) : Type 0 where
  pub inside : i ≤ n
  pub long : length fields ≡ length before
  pub done : List ℤ
  pub count : length done ≡ 3 * i
  pub same : (k : ℕ) → k < 3 * i → word_at fields k ≡ word_at done k
  pub rest : (field_words (n - i) S (last_of left p) >>= λ more. got (done ++ more)) ≡ field_words n S p

pub fields-start : {S : Cells} {n : ℕ} {p fields : List ℤ} → FieldsLeft S n p fields fields 0 (length p)
fields-start {S = S} {n = n} {p = p} =
    let z : n - 0 ≡ n = omega arith in
    record { inside = omega arith; long = refl; done = []; count = refl; same = λ k h. absurd (omega arith); rest = rw (z, last-all p) (by (field_words n S p)) }
  where
    by : (m : Res (List ℤ)) → (m >>= λ more. got more) ≡ m
    by (got x) = refl
    by (stop f) = refl

not-filled : {fields : List ℤ} {n : ℕ} {f : Refusal} {m : Res (List ℤ)} → stop f ≡ m → Fills fields n (Err f) m
not-filled e = record { is = rw (← e); same = λ fs h. stop≢got (e ∙ h) }

module _ {S : Cells} {n : ℕ} {p before fields : List ℤ} {i left : ℕ} (inv : FieldsLeft S n p before fields i left) where
  module _ (more : i < n) {q : List ℤ} (part : q ≡ last_of left p) where
    fields-turn : ((reads (number 0 31 q) >>= λ x. evaluate 16 S x.1 >>= λ y. field_words (n - (i + 1)) S y.1 >>= λ more. got (pos x.0 ∷ (cell_of y.0).kind ∷ (cell_of y.0).payload ∷ more)) >>= λ more. got (inv.done ++ more)) ≡ field_words n S p
    fields-turn = let z : n - i ≡ suc (n - (i + 1)) = omega arith in rw (z, ← part, fields-more S q (n - (i + 1))) at inv.rest

    pub fields-label : labels ≤ number_at q 0 → Fills fields n (Err (refused 2 q)) (field_words n S p)
    fields-label h = not-filled (rw (number-high 0 31 q (omega arith) (omega arith)) at fields-turn)

    module _ {label : ℕ} (is : label ≡ number_at q 0) (small : label < labels) {t : List ℤ} (after : t ≡ drop 1 q) {r : Result Evaluated Refusal} (e : r ≡ evaluated_of (evaluate 16 S t)) where
      fields_value : ((evaluate 16 S t >>= λ y. field_words (n - (i + 1)) S y.1 >>= λ more. got (pos label ∷ (cell_of y.0).kind ∷ (cell_of y.0).payload ∷ more)) >>= λ more. got (inv.done ++ more)) ≡ field_words n S p
      fields_value = rw (number_fits_lem 0 31 q (omega arith) (omega arith), ← is, ← after) at fields-turn

      pub fields-stop : {f : Refusal} → r ≡ Err f → Fills fields n (Err f) (field_words n S p)
      fields-stop h = not-filled (by (evaluate 16 S t) _ _ (sym e ∙ h) ∙ fields_value)
        where
          by : {f : Refusal} (m : Res (Value × List ℤ)) (k : Value × List ℤ → Res (List ℤ)) (g : List ℤ → Res (List ℤ)) → evaluated_of m ≡ Err f → stop f ≡ (m >>= k >>= g)
          by (got x) k g h = unlike cc
          by {f = f} (stop x) k g h = let y : x ≡ f = cc in rw (← y)

      pub fields-go-on : {x : Evaluated} {c : Cell} {one two three : List ℤ} {word kind payload : ℤ} → r ≡ Ok x → n ≤ most_fields → fields_words ≤ length before → c ≡ cell_of x.value
          → word ≡ word_of label → kind ≡ c.kind → payload ≡ c.payload → one ≡ set fields (3 * i) word → two ≡ set one (3 * i + 1) kind → three ≡ set two (3 * i + 2) payload
          → FieldsLeft S n p before three (i + 1) x.left
      fields-go-on {x = g} {three = three} h few room m w kd py x y z =
          let a : evaluate 16 S t ≡ got (g.value, last_of g.left t) = got-on (evaluate 16 S t) (λ x j. evaluate-part S 16 t x j) e h refl in
          let kind = (cell_of g.value).kind in
          let payload = (cell_of g.value).payload in
          let s : three ≡ three_at fields i (pos label) kind payload = z ∙ rw (y, x, w, kd, py, m, word-is label (omega arith)) in
          let l : length three ≡ length fields = rw s (simp length-set) in
          let u : last_of g.left p ≡ last_of g.left t = here a in
          record {
            inside = omega arith;
            long = l ∙ inv.long;
            done = inv.done ++ pos label ∷ kind ∷ payload ∷ [];
            count = length-append inv.done (pos label ∷ kind ∷ payload ∷ []) ∙ omega (arith, inv.count);
            same = rw s (three-more fields inv.done i (pos label) kind payload (omega (arith, inv.long)) inv.count inv.same);
            rest = rw u (by (field_words (n - (i + 1)) S (last_of g.left t)) ∙ (rw a at fields_value));
          }
        where
          here : evaluate 16 S t ≡ got (g.value, last_of g.left t) → last_of g.left p ≡ last_of g.left t
          here a =
              let pq : Part p q = rw part (last-part left p) in
              let qt : Part q t = rw after (part-drop 1 q) in
              let w = part-trans pq (part-trans qt (evaluate-part S 16 t (g.value, last_of g.left t) a)) in
              let k : length (last_of g.left t) ≡ g.left = let y : Ok g ≡ Ok (record { value = g.value; left = length (last_of g.left t) }) = sym h ∙ e ∙ rw a in cc in
              rw k at w.is

          by : (m : Res (List ℤ)) → (m >>= λ more. got (inv.done ++ pos label ∷ (cell_of g.value).kind ∷ (cell_of g.value).payload ∷ [] ++ more))
              ≡ ((m >>= λ more. got (pos label ∷ (cell_of g.value).kind ∷ (cell_of g.value).payload ∷ more)) >>= λ more. got (inv.done ++ more))
          by (got x) = ap got (append_assoc inv.done (pos label ∷ (cell_of g.value).kind ∷ (cell_of g.value).payload ∷ []) x)
          by (stop f) = refl

  pub fields-end : n ≤ i → Fills fields n (Ok tt) (field_words n S p)
  fields-end h =
      let z : n - i ≡ 0 = omega arith in
      let j : i ≡ n = omega (arith, inv.inside) in
      let d : got inv.done ≡ field_words n S p = rw (z, fields-none S (last_of left p), append-nil inv.done) at inv.rest in
      record {
        is = rw (← d);
        same = λ fs e k l. let f : inv.done ≡ fs = got-inj (d ∙ e) in rw (← f) (inv.same k (omega arith));
      }
