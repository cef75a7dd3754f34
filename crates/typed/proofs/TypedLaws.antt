-- What is typed of a program is its text, or its refusal; and the program is that of the sheet's first line. Assumes nothing.
use mathlib.Core.Path.{◌≡◌, sym, ap, ◌∙◌}
use mathlib.Core.List.{List, [], ◌∷◌}
use Prim.Native.Nat.{ℕ}
use borrow.Author.Tests.{eq-eqb, ne_eqb}
use lib.IntN.{ℤ, pos}
use lib.ListN.{length, take, replicate}
use Rattle.words.specs.Words.{number_at}
use Rattle.tokens.specs.Tokens.{most_bytes}
use Rattle.std.specs.Prelude.{Ok, Err}
use Rattle.lister.specs.declared.Input.{Input}
use Rattle.lister.specs.Bytes.{Puts}
use Rattle.lister.specs.Reading.{InputRead, input_in}
use Rattle.lister.specs.Listing.{Listed, unfit_text}
use Rattle.lister.proofs.BufferLaws.{then, puts-as, puts-start}
use Rattle.lister.proofs.StoredLaws.{program-stored}
use Rattle.printing.specs.Whole.{Answered, answered, write}
use Rattle.printing.proofs.ComesLaws.{four-words}
use Rattle.typed.specs.Typing.{refused_text, answered_text, program_typed, typed_to}

module _ (p : List ℤ) {page : List ℕ} {answer : List ℤ} {n : ℕ} (w : answered page answer n ≡ write p [] (replicate 192 (pos 0)) (replicate most_bytes 0)) where
  pub answer-four : 4 ≡ length answer
  answer-four = sym (ap (λ (a : Answered). length a.answer) w ∙ four-words p [] (replicate 192 (pos 0)) (replicate most_bytes 0))

  pub typed-refused : {s e : List ℕ} {o q r : ℕ} → o ≡ number_at answer 0 → (o ≡ 0 → ⊥) → q ≡ number_at answer 1 → Puts s 0 (refused_text o q) e r → Puts s 0 (program_typed p) e r
  unfolding program_typed
  typed-refused {o = o} is h k u = puts-as (sym (ap answered_text (sym w) ∙ rw (← is, ne_eqb o 0 h, k))) u

  pub typed-written : {s m e t : List ℕ} {o k r : ℕ} → o ≡ number_at answer 0 → o ≡ 0 → t ≡ take n page → Puts s 0 t m k → Puts m k (10 ∷ []) e r → Puts s 0 (program_typed p) e r
  unfolding program_typed
  typed-written {o = o} is h i u v = puts-as (sym (ap answered_text (sym w) ∙ rw (← is, eq-eqb o 0 h, i))) (then u v)

pub listed : {t s e : List ℕ} {n : ℕ} → Puts s 0 t e n → Listed t s e n
listed u = let x = puts-start u in record { stored = x.0; counted = x.1 }

-- an input that reads: its program is typed
pub typed-reads : (t : List ℕ) {p p' q q' u : List ℤ} {input : Input} {k : ℕ} {before after : List ℕ} → length p ≡ 4096 → InputRead (input_in t) p p' q q' (Ok input)
    → u ≡ take input.program p' → Puts before 0 (program_typed u) after k → Listed (typed_to t) before after k
unfolding typed_to
typed-reads t l r e w = rw (← r.told, ← (e ∙ program-stored t r l)) (listed w)

-- an unfit input: its line is told
pub typed-unfit : (t : List ℕ) {p p' q q' : List ℤ} {line k : ℕ} {before after : List ℕ} → InputRead (input_in t) p p' q q' (Err line)
    → Listed (unfit_text line) before after k → Listed (typed_to t) before after k
unfolding typed_to
typed-unfit t r l = rw (← r.told) l
