-- Answers of a reader: a piece beside one, what a step says of the reader behind it, and that nothing is read where a limit is passed. Assumes nothing.
use mathlib.Core.Path.{◌≡◌, refl, sym, ◌∙◌}
use mathlib.Core.Bool.{Bool, true, false, not, ◌&&◌}
use mathlib.Core.List.{List}
use Prim.Native.Nat.{ℕ, ◌<◌}
use native.Mathlib.Omega.{arith}
use borrow.Author.Tests.{eq-eqb, eqb-true}
use lib.Dec.{eqb}
use lib.IntN.{ℤ}
use lib.ListN.{length}
use lib.Seq.{drop-append-le}
use Rattle.words.specs.Answer.{Answer, got, stop, ◌>>=◌}
use Rattle.words.proofs.AnswerLaws.{stop≢got, got-inj, step, tested}
use Rattle.tables.specs.Sizes.{variables, labels}
use Rattle.tables.proofs.SearchLaws.{cases}
use Rattle.program.specs.Reading.{among}
use Rattle.tokens.specs.declared.Token.{Token}
use Rattle.tokens.specs.Codes.{name_code}
use Rattle.text.specs.Reading.{Fault, fault, Reader, Form, form, word_then, and_then, passing, peek, is, refusal, take, need, number_in, known, room_for, variable, label, field_at}
use Rattle.text.specs.declared.Carried.{Carried}
use Rattle.text.specs.Told.{reader_of, reading_of, refused_by, Follows}
use Rattle.text.specs.Pieces.{behind_first}

-- ---- a piece beside a reader

-- the piece f beside the reader of an answer
abbrev pub beside : Form → Answer Fault Reader → Answer Fault (Form × Reader)
beside f m = m >>= λ v. got (f, v)

-- an answer's piece without its depth, behind f, and behind a word
abbrev pub flat : Answer Fault (Form × Reader) → Answer Fault (Form × Reader)
flat m = m >>= λ x. got (form x.0.words x.0.origins, x.1)

abbrev pub following : Form → Answer Fault (Form × Reader) → Answer Fault (Form × Reader)
following f m = m >>= λ x. got (and_then f x.0, x.1)

abbrev pub worded : ℤ → ℕ → Answer Fault (Form × Reader) → Answer Fault (Form × Reader)
worded w p m = m >>= λ x. got (word_then w p x.0, x.1)

pub bind-pair : {E A B F : Type 0} (m : Answer E A) (f : F) (k : F × A → Answer E B) → ((m >>= λ v. got (f, v)) >>= k) ≡ (m >>= λ v. k (f, v))
bind-pair (got a) f k = refl
bind-pair (stop e) f k = refl

-- the first word of a piece stays its first where another piece is behind it
pub behind-first : (f g : Form) → 0 < length f.words → 0 < length f.origins → behind_first (and_then f g) ≡ and_then (behind_first f) g
unfolding behind_first
behind-first f g h k = rw (drop-append-le 1 f.words g.words (omega arith), drop-append-le 1 f.origins g.origins (omega arith))

-- ---- the reader behind a step

-- where a step answers, its reader is the answer's
pub follows_is : {r s : Carried} {step : Reader → Answer Fault Reader} (names : List ℕ) (q : Reader)
    → Follows r step s → r.number ≡ 0 → step (reader_of names r) ≡ got q → (s.number ≡ 0) × (reader_of names s ≡ q)
unfolding reading_of
follows_is {r = r} {s = s} names q f z e =
    let h : reading_of names s ≡ got q = f.reads names ∙ rw (eq-eqb r.number 0 z) e in
    cases (eqb s.number 0) (λ c. (eqb-true s.number 0 c, got-inj (rw c at h))) (λ c. stop≢got (rw c at h))

pub refused-stops : (t : Token) (r : Carried) {s : Carried} → s ≡ refused_by t r → s.number ≡ 0 → ⊥
unfolding refused_by
refused-stops t r is z = cases (eqb t.code 4) (λ e. let y : 22 ≡ 0 = rw (is, e) at z in omega arith) (λ e. let y : 20 ≡ 0 = rw (is, e) at z in omega arith)

-- ---- a limit that is passed

pub passing-none : (q : Reader) → passing false q ≡ q
passing-none q = cases q.passed (λ e. rw e) (λ e. rw e)

pub passing-one : (q : Reader) → (passing true q).passed ≡ true
passing-one q = cases q.passed (λ e. rw e) (λ e. rw e)

module _ (text : List ℕ) where
  pub take-passed : (k : ℕ) (q : Reader) → q.passed ≡ true → take text k q ≡ stop (fault 22 (peek text q).place)
  unfolding take
  take-passed k q e = rw e

  pub take-never {ℓ} : {X : Type ℓ} (k : ℕ) (q s : Reader) → q.passed ≡ true → take text k q ≡ got s → X
  take-never k q s h e = stop≢got (sym (take-passed k q h) ∙ e)

  pub need-never {ℓ} : {X : Type ℓ} (c k : ℕ) (q s : Reader) → q.passed ≡ true → need text c k q ≡ got s → X
  unfolding need
  need-never c k q s h e = tested (refusal text (peek text q)) (is text q c) _ e λ _ e1. take-never k q s h e1

  pub variable-never {ℓ} : {X : Type ℓ} (k : ℕ) (q : Reader) (x : ℕ × Reader) → q.passed ≡ true → variable text k q ≡ got x → X
  unfolding variable
  variable-never k q x h e =
      tested (refusal text (peek text q)) (is text q name_code) _ e λ a e1.
      tested (fault 21 (peek text q).place) (room_for text variables q.variables (peek text q)) _ e1 λ b e2.
      step (take text k q) _ e2 λ s e3 e4. take-never k q s h e3

  pub label-never {ℓ} : {X : Type ℓ} (seen : List ℕ) (q : Reader) (x : ℕ × Reader) → q.passed ≡ true → label text seen q ≡ got x → X
  unfolding label
  label-never seen q x h e =
      tested (refusal text (peek text q)) (is text q name_code && not (known text q.labels (peek text q) && among (number_in text q.labels (peek text q)) seen)) _ e λ a e1.
      tested (fault 21 (peek text q).place) (room_for text labels q.labels (peek text q)) _ e1 λ b e2.
      step (take text 1 q) _ e2 λ s e3 e4. take-never 1 q s h e3

  pub field-never {ℓ} : {X : Type ℓ} (seen : List ℕ) (q : Reader) (x : ℕ × (Form × Reader)) → q.passed ≡ true → field_at text seen q ≡ got x → X
  unfolding field_at
  field-never seen q x h e = step (label text seen q) _ e λ l e1 e2. label-never seen q l h e1

  -- a token is taken only where no limit is passed
  pub take_within : (k : ℕ) (b : Bool) (q s : Reader) → take text k (passing b q) ≡ got s → b ≡ false
  take_within k b q s e = cases b (λ h. take-never k (passing b q) s (rw h (passing-one q)) e) (λ h. h)
