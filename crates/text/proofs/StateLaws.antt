-- What the reader is when a token is taken. Assumes nothing.
use mathlib.Core.Path.{◌≡◌, refl}
use mathlib.Core.Bool.{true, false}
use mathlib.Core.List.{List}
use Prim.Native.Nat.{ℕ}
use Rattle.words.specs.Answer.{Answer}
use Rattle.tables.proofs.SearchLaws.{cases}
use Rattle.text.specs.declared.Carried.{Carried}
use Rattle.text.specs.Reading.{Fault, Reader}
use Rattle.text.specs.Told.{next_of, reader_of, reading_of, numbered_of, refused_at, room_with, behind, taken_by, named_variable, named_label}
use Rattle.text.specs.Told.{looked_by, took_by, Follows, Numbers}

-- ---- a token is taken, and the next one looked at

module _ (text : List ℕ) (k : ℕ) (r : Carried) where
  -- as if it were not looked at
  took-as : (P : Carried → Carried → Type 0) → ((u : Carried) → P (looked_by text u) u) → ((u : Carried) → P u u) → P (took_by text k r) (taken_by (next_of r) k r)
  unfolding took_by taken_by
  took-as P f g = cases (room_with k r) (λ e. rw e (f (behind (next_of r) k r))) (λ e. rw e (g (refused_at 22 r.start r)))

  pub took_number : (took_by text k r).number ≡ (taken_by (next_of r) k r).number
  took_number = took-as (λ s u. s.number ≡ u.number) (λ u. refl) (λ u. refl)

  pub took-room : room_with k r ≡ true → took_by text k r ≡ looked_by text (behind (next_of r) k r)
  unfolding took_by
  took-room e = rw e

  pub took-none : room_with k r ≡ false → took_by text k r ≡ refused_at 22 r.start r
  unfolding took_by
  took-none e = rw e

  pub took-follows : {s : Carried} {step : Reader → Answer Fault Reader} → s ≡ took_by text k r → Follows r step (taken_by (next_of r) k r) → Follows r step s
  unfolding reading_of reader_of
  took-follows {step = step} is =
      rw is (took-as (λ s u. Follows r step u → Follows r step s) (λ u F. record { reads = F.reads; written = F.written; depth = F.depth }) (λ u F. F))

  module _ {before after : List ℕ} {s : Carried} {step : Reader → Answer Fault (ℕ × Reader)} where
    pub took_numbers : s ≡ took_by text k r → Numbers before r step after (taken_by (next_of r) k r) → Numbers before r step after s
    unfolding numbered_of reader_of
    took_numbers is =
        rw is (took-as (λ s u. Numbers before r step after u → Numbers before r step after s) (λ u F. record { reads = F.reads; written = F.written; depth = F.depth }) (λ u F. F))

    pub took-variable : (c n : ℕ) → s ≡ named_variable c n (took_by text k r) → Numbers before r step after (named_variable c n (taken_by (next_of r) k r)) → Numbers before r step after s
    unfolding numbered_of reader_of
    took-variable c n is =
        rw
        is
        (took-as
        (λ s u. Numbers before r step after (named_variable c n u) → Numbers before r step after (named_variable c n s))
        (λ u F. record { reads = F.reads; written = F.written; depth = F.depth })
        (λ u F. F))

    pub took-label : (c n : ℕ) → s ≡ named_label c n (took_by text k r) → Numbers before r step after (named_label c n (taken_by (next_of r) k r)) → Numbers before r step after s
    unfolding numbered_of reader_of
    took-label c n is =
        rw
        is
        (took-as
        (λ s u. Numbers before r step after (named_label c n u) → Numbers before r step after (named_label c n s))
        (λ u F. record { reads = F.reads; written = F.written; depth = F.depth })
        (λ u F. F))
