-- Literals, and the brackets that open, as the code reads them. Assumes nothing.
use Rattle.std.specs.Prelude.{None, Option, Some, ℤ}
use mathlib.Core.Path.{◌≡◌, refl, sym, ap, ◌∙◌}
use mathlib.Core.Bool.{Bool, true, false, cond}
use mathlib.Core.List.{List, [], ◌∷◌}
use Prim.Native.Nat.{ℕ, suc, ◌+◌, ◌-◌, ◌≤◌, ◌<◌}
use native.Mathlib.Omega.{arith}
use borrow.Author.Tests.{eq-eqb, ne_eqb}
use lib.Dec.{eqb}
use lib.IntN.{ℤ, pos}
use lib.ListN.{length}
use Rattle.words.specs.Answer.{Answer, got, stop, ◌>>=◌}
use Rattle.words.specs.Range.{fits}
use Rattle.words.proofs.AnswerLaws.{stop≢got}
use Rattle.words.proofs.Laws.{ranged-is}
use Rattle.tables.proofs.SearchLaws.{cases}
use Rattle.program.specs.Forms.{most_words}
use Rattle.tokens.specs.declared.Token.{Token}
use Rattle.tokens.specs.Bytes.{part}
use Rattle.tokens.specs.Numbers.{integer_of, value_of}
use Rattle.tokens.proofs.NumberLaws.{value-is}
use Rattle.text.specs.Reading.{Fault, fault, Reader, Form, form, peek, passing, opened, enough, literal, literal_at, outside}
use Rattle.text.specs.Reading.{take as take_by}
use Rattle.text.specs.declared.Carried.{Carried}
use Rattle.text.specs.Told.{reader_of, reading_of, numbered_of, refused_by, Peeks, Follows}
use Rattle.text.specs.Written.{with1, wrote_one, numbered_by, Passes}
use Rattle.text.specs.declared.Lent.{Lent}
use Rattle.text.specs.Pieces.{lent, form_of, Does, Piece, Opens, number_by, constant_by}
use Rattle.text.proofs.ToldLaws.{goes_on}
use Rattle.text.proofs.RowsLaws.{follows-got, Counted, take_counted}
use Rattle.text.proofs.AnswerSteps.{beside, passing-none, passing-one, take-passed}
use Rattle.text.proofs.DoesLaws.{ended, does-then, does-as, does-stops, does-refused, does-take, does-pass, does-word, does-got}
use Rattle.text.proofs.StepLaws.{does-went, form-empty}

-- ---- brackets that open

-- where the code is: b of them have been taken
pub record Opening (text : List ℕ) (r s : Carried) (b : ℕ) : Type 0 where
  pub inside : b ≤ suc (length text)
  pub rest : (names : List ℕ) → (reading_of names s >>= λ q. opened text (enough text - b) b q) ≡ (reading_of names r >>= λ q. opened text (enough text) 0 q)
  pub written : s.written ≡ r.written
  pub counts : s.number ≡ 0 → s.certain + s.owed ≡ r.certain + r.owed
  pub certain : s.number ≡ 0 → r.certain ≤ most_words → s.certain ≤ most_words
  pub owed : s.number ≡ 0 → s.owed ≤ r.owed

pub opening-starts : (text : List ℕ) (r : Carried) → Opening text r r 0
opening-starts text r =
    let e : suc (length text) - 0 ≡ suc (length text) = omega arith in
    record { inside = omega arith; rest = λ names. rw e; written = refl; counts = λ z. refl; certain = λ z h. h; owed = λ z. omega arith }

module _ {text : List ℕ} {r s : Carried} {b : ℕ} (inv : Opening text r s b) where
  pub opening-stopped : (s.number ≡ 0 → ⊥) → Opens text r s
  unfolding reading_of numbered_of
  opening-stopped h =
      record {
        reads = λ names. rw (ne_eqb s.number 0 h) (rw (ne_eqb s.number 0 h) at (inv.rest names));
        written = inv.written;
        counts = inv.counts;
        certain = inv.certain;
        owed = inv.owed;
      }

  -- the reader that says how many they are
  counted : {u : Carried} → u ≡ numbered_by b s
      → ((names : List ℕ) → (reading_of names s >>= λ q. opened text (enough text - b) b q) ≡ (reading_of names s >>= λ q. got (b, q))) → Opens text r u
  unfolding reading_of numbered_of reader_of
  counted is e =
      record {
        reads = λ names. rw is (cases (eqb s.number 0) (λ c. rw c (rw c at (sym (e names) ∙ inv.rest names))) (λ c. rw c (rw c at (sym (e names) ∙ inv.rest names))));
        written = rw is inv.written;
        counts = rw is inv.counts;
        certain = rw is inv.certain;
        owed = rw is inv.owed;
      }

  pub opening-over : length text < b → {u : Carried} → u ≡ numbered_by b s → Opens text r u
  unfolding opened
  opening-over h is = let n : suc (length text) - b ≡ 0 = omega arith in counted is (λ names. rw n)

  module _ (h : b ≤ length text) (z : s.number ≡ 0) {t : Token} (p : Peeks text s t) where
    pub opening-ends : (t.code ≡ 37 → ⊥) → {u : Carried} → u ≡ numbered_by b s → Opens text r u
    unfolding opened
    opening-ends other is =
        let n : suc (length text) - b ≡ suc (length text - b) = omega arith in
        counted is (λ names. rw (n, goes_on s z names, ← p names, ne_eqb t.code 37 other))

    pub opening-goes-on : t.code ≡ 37 → {u : Carried} → Follows s (λ q. take_by text 0 q) u → Opening text r u (b + 1)
    unfolding opened reader_of
    opening-goes-on bracket {u = u} f =
        let n : suc (length text) - b ≡ suc (length text - b) = omega arith in
        let m : suc (length text) - (b + 1) ≡ length text - b = omega arith in
        let o : b + 1 ≡ suc b = omega arith in
        let e : (names : List ℕ) → (reading_of names s >>= λ q. opened text (enough text - b) b q) ≡ (take_by text 0 (reader_of names s) >>= λ v. opened text (length text - b) (suc b) v) =
        λ names. rw (n, goes_on s z names, ← p names, eq-eqb t.code 37 bracket) in
        let counted-by : u.number ≡ 0 → Counted 0 (reader_of [] s) (reader_of [] u) = λ y. take_counted text 0 _ _ (follows-got [] f y).1 in
        record {
          inside = omega arith;
          rest = λ names. rw (m, o, f.reads names, goes_on s z names) (sym (e names) ∙ inv.rest names);
          written = f.written ∙ inv.written;
          counts = λ y. omega (arith, (counted-by y).certain, (counted-by y).owed, inv.counts z);
          certain = λ y l. (counted-by y).few;
          owed = λ y. omega (arith, (counted-by y).owed);
        }

-- ---- words behind a token

-- a piece with a word more, and the reader behind it
abbrev ended_with : ℤ → ℕ → Answer Fault (Form × Reader) → Answer Fault (Form × Reader)
ended_with w p a = a >>= λ x. got (ended x.0 w p, x.1)

one_word : (m : Answer Fault Reader) (f g : Form) (w : ℤ) (p : ℕ) → ended f w p ≡ g → ended_with w p (beside f m) ≡ beside g m
one_word (got v) f g w p e = ap (λ h. beside h (got v)) e
one_word (stop n) f g w p e = refl

two-words : (m : Answer Fault Reader) (f g : Form) (w y : ℤ) (p : ℕ) → ended (ended f w p) y p ≡ g → ended_with y p (ended_with w p (beside f m)) ≡ beside g m
two-words (got v) f g w y p e = ap (λ h. beside h (got v)) e
two-words (stop n) f g w y p e = refl

-- the first word of a piece
ended-first : (a : Lent) (r : Carried) (w : ℤ) (p : ℕ) → ended (form_of false r.written a r) w p ≡ form (w ∷ []) (p ∷ [])
ended-first a r w p = rw (form-empty a r)

-- ---- literals

-- what the code is told of a number
outside-is : (s : List ℕ) {v : (Option ℤ)} → v ≡ value_of s → v ≡ None → fits (integer_of s) ≡ false
outside-is s a b = by (fits (integer_of s)) (sym (ranged-is (integer_of s)) ∙ sym (value-is s) ∙ sym a ∙ b)
  where
    by : (c : Bool) → cond c (Some (integer_of s)) None ≡ None → c ≡ false
    by true e = absurd (let z : ◌≡◌ {A = ℕ} 0 1 = cc in omega arith)
    by false e = refl

within-is : (s : List ℕ) {v : (Option ℤ)} {w : ℤ} → v ≡ value_of s → v ≡ Some w → (fits (integer_of s) ≡ true) × (integer_of s ≡ w)
within-is s {w = w} a b = by (fits (integer_of s)) (sym (ranged-is (integer_of s)) ∙ sym (value-is s) ∙ sym a ∙ b)
  where
    by : (c : Bool) → cond c (Some (integer_of s)) None ≡ Some w → (c ≡ true) × (integer_of s ≡ w)
    by true e = (refl, cc)
    by false e = absurd (let z : ◌≡◌ {A = ℕ} 0 1 = cc in omega arith)

module _ (text names : List ℕ) {r : Carried} {t : Token} (p : Peeks text r t) where
  pub constant-does : (w : ℤ) {ws vs : List ℤ} {os us : List ℕ} {s u : Carried}
      → Follows r (λ q. take_by text 1 q) s → vs ≡ with1 ws s w → us ≡ with1 os s t.place → u ≡ wrote_one s
      → Piece 3 0 (lent names ws os) r (λ q. constant_by text w q) (lent names vs us) u
  constant-does w {ws = ws} {os = os} f a b c =
      does-as (does-then (does-take text 1 f) (does-word w t.place (omega arith) a b c))
      (λ fit z. rw (← p names)
      (one_word (take_by text 1 (reader_of names r)) (form_of false r.written (lent names ws os) r) (form (w ∷ []) (t.place ∷ [])) w t.place
      (ended-first (lent names ws os) r w t.place)))

  module _ {v : (Option ℤ)} (is : v ≡ value_of (part text t.place t.end)) where
    pub number-outside : {ws : List ℤ} {os : List ℕ} {s u : Carried}
        → v ≡ None → Passes true r s → Follows s (λ q. take_by text 2 q) u → Piece 3 0 (lent names ws os) r (λ q. number_by text q) (lent names ws os) u
    number-outside {ws = ws} {os = os} {u = u} out b f =
        let stops : take_by text 2 (passing true (reader_of names r)) ≡ stop (fault 22 (peek text (passing true (reader_of names r))).place) =
        take-passed text 2 (passing true (reader_of names r)) (passing-one (reader_of names r)) in
        let d : Does false 3 0 0 2 r.written (lent names ws os) r (λ g q. beside g (take_by text 2 (passing true q))) (lent names ws os) u =
        does-then (does-pass text true b) (does-take text 2 f) in
        does-as (does-stops d (λ fit z. stop≢got (rw stops at (does-got d fit (does-went d fit z) z))))
        (λ fit z. rw (← p names, outside-is (part text t.place t.end) is out, stops))

    pub number-within : {w : ℤ} {ws vs vs' : List ℤ} {os us us' : List ℕ} {s u u' : Carried}
        → v ≡ Some w → Follows r (λ q. take_by text 2 q) s
        → vs ≡ with1 ws s (pos 23) → us ≡ with1 os s t.place → u ≡ wrote_one s
        → vs' ≡ with1 vs u w → us' ≡ with1 us u t.place → u' ≡ wrote_one u
        → Piece 3 0 (lent names ws os) r (λ q. number_by text q) (lent names vs' us') u'
    number-within {w = w} {ws = ws} {os = os} within f a b c a' b' c' =
        let k : (fits (integer_of (part text t.place t.end)) ≡ true) × (integer_of (part text t.place t.end) ≡ w) = within-is (part text t.place t.end) is within in
        does-as (does-then (does-then (does-take text 2 f) (does-word (pos 23) t.place (omega arith) a b c)) (does-word w t.place (omega arith) a' b' c'))
        (λ fit z. rw (← p names, k.0, k.1, passing-none (reader_of names r))
        (two-words (take_by text 2 (reader_of names r)) (form_of false r.written (lent names ws os) r) (form (pos 23 ∷ w ∷ []) (t.place ∷ t.place ∷ [])) (pos 23) w t.place
        (ap (λ g. ended g w t.place) (ended-first (lent names ws os) r (pos 23) t.place))))

  -- which literal a token is
  module _ {a b : Lent} {s : Carried} where
    one-literal : (w : ℤ) → literal text t ≡ got (w ∷ []) → (t.code ≡ 2 → ⊥)
        → Piece 3 0 a r (λ q. constant_by text w q) b s → Piece 3 0 a r (λ q. literal_at text q (literal text (peek text q))) b s
    unfolding literal_at outside
    one-literal w e other d =
        does-as d (λ fit z. rw (← p a.names, e, ← p a.names, ne_eqb t.code 2 other, passing-none (reader_of a.names r)))

    pub literal-nil : t.code ≡ 24 → Piece 3 0 a r (λ q. constant_by text (pos 20) q) b s → Piece 3 0 a r (λ q. literal_at text q (literal text (peek text q))) b s
    unfolding literal
    literal-nil h d = one-literal (pos 20) (rw h) (λ e. omega arith) d

    pub literal-false : t.code ≡ 23 → Piece 3 0 a r (λ q. constant_by text (pos 21) q) b s → Piece 3 0 a r (λ q. literal_at text q (literal text (peek text q))) b s
    unfolding literal
    literal-false h d = one-literal (pos 21) (rw h) (λ e. omega arith) d

    pub literal-true : t.code ≡ 22 → Piece 3 0 a r (λ q. constant_by text (pos 22) q) b s → Piece 3 0 a r (λ q. literal_at text q (literal text (peek text q))) b s
    unfolding literal
    literal-true h d = one-literal (pos 22) (rw h) (λ e. omega arith) d

    pub literal-number : t.code ≡ 2 → Piece 3 0 a r (λ q. number_by text q) b s → Piece 3 0 a r (λ q. literal_at text q (literal text (peek text q))) b s
    unfolding literal literal_at outside
    literal-number h d =
        let e : literal text t ≡ got (pos 23 ∷ integer_of (part text t.place t.end) ∷ []) = rw h in
        does-as d (λ fit z. rw (← p a.names, e, ← p a.names, h))

  pub literal-none : {ws : List ℤ} {os : List ℕ} {s : Carried}
      → r.number ≡ 0 → (t.code ≡ 24 → ⊥) → (t.code ≡ 23 → ⊥) → (t.code ≡ 22 → ⊥) → (t.code ≡ 2 → ⊥) → s ≡ refused_by t r
      → Piece 3 0 (lent names ws os) r (λ q. literal_at text q (literal text (peek text q))) (lent names ws os) s
  unfolding literal literal_at
  literal-none z a b c d is =
      let e : literal text t ≡ stop tt = rw (ne_eqb t.code 24 a, ne_eqb t.code 23 b, ne_eqb t.code 22 c, ne_eqb t.code 2 d) in
      does-as (does-refused text z p is) (λ fit y. rw (← p names, e, ← p names))
