-- A call comes to what the readings say, in their order. Assumes nothing.
use mathlib.Core.Path.{◌≡◌, refl, subst}
use mathlib.Core.Bool.{false}
use mathlib.Core.List.{List}
use Prim.Native.Nat.{ℕ, ◌≤◌}
use native.Mathlib.Omega.{arith}
use borrow.Author.Tests.{eqb-true, eqb-false, ltb-true, ltb-false, leb-false}
use lib.Dec.{eqb, ltb, leb}
use lib.IntN.{ℤ}
use lib.ListN.{length}
use Rattle.words.specs.Answer.{Answer, got, stop}
use Rattle.tables.proofs.SearchLaws.{cases}
use Rattle.program.specs.Reading.{read_program}
use Rattle.tokens.specs.Tokens.{most_bytes}
use Rattle.printing.specs.Naming.{Naming, naming, numbers}
use Rattle.printing.specs.Whole.{Answered, text_of, first_fault, fits_in, refused, printed, write}
use Rattle.printing.specs.Claims.{FirstAtFault, TooLong, Comes, ComesExactly}
use Rattle.printing.proofs.FaultsExactly.{faults-exactly}
use Rattle.printing.proofs.WholeLaws.{fits-small}

too_long_lem : (room n : ℕ) → fits_in room n ≡ false → TooLong room n
too_long_lem room n e =
    cases (leb n room)
    (λ a. TooLong.bytes (leb-false n most_bytes (rw a at e)))
    (λ a. TooLong.buffer (leb-false n room a))

module _ (N : Naming) (p : List ℤ) (text : List ℕ) (l : length N.names ≡ 192) (r : read_program p ≡ got tt) where
  first : FirstAtFault N p (first_fault N p)
  first = faults-exactly N p r

  printed-comes : Comes N p text (printed N p text)
  unfolding printed
  printed-comes =
      cases (ltb (first_fault N p) numbers)
      (λ a. rw a (Comes.unnamed l r first (ltb-true (first_fault N p) numbers a)))
      (λ a. let z : first_fault N p ≡ numbers = omega (arith, first.most, ltb-false (first_fault N p) numbers a) in
      let f : FirstAtFault N p numbers = subst (FirstAtFault N p) z first in
      cases (fits_in (length text) (length (text_of N p)))
      (λ b. let h = fits-small (length text) (length (text_of N p)) b in rw (a, b) (Comes.whole l r f h.0 h.1))
      (λ b. rw (a, b) (Comes.long l r f (too_long_lem (length text) (length (text_of N p)) b))))

pub comes-exactly : ComesExactly
unfolding write
comes-exactly N p text =
    cases (eqb (length N.names) 192)
    (λ a. let l : length N.names ≡ 192 = eqb-true (length N.names) 192 a in rw a (by-reading l (read_program p) refl))
    (λ a. rw a (Comes.sized (eqb-false (length N.names) 192 a)))
  where
    by-reading : length N.names ≡ 192 → (v : Answer ℕ (Unit {0})) → read_program p ≡ v → Comes N p text (elim (v) [ got u ↦ printed N p text | stop place ↦ refused text 2 place ])
    by-reading l (got u) e = printed-comes N p text l e
    by-reading l (stop place) e = Comes.unread l e

-- ---- whatever it comes to, the answer has four words, and the text no more than 65,536 bytes

four : {N : Naming} {p : List ℤ} {text : List ℕ} {a : Answered} → Comes N p text a → length a.answer ≡ 4
four (Comes.sized n) = refl
four (Comes.unread l r) = refl
four (Comes.unnamed l r f h) = refl
four (Comes.long l r f t) = refl
four (Comes.whole l r f h b) = refl

few : {N : Naming} {p : List ℤ} {text : List ℕ} {a : Answered} → Comes N p text a → a.bytes ≤ most_bytes
few (Comes.sized n) = omega arith
few (Comes.unread l r) = omega arith
few (Comes.unnamed l r f h) = omega arith
few (Comes.long l r f t) = omega arith
few (Comes.whole l r f h b) = b

module _ (p : List ℤ) (source : List ℕ) (names : List ℤ) (text : List ℕ) where
  pub four-words : length (write p source names text).answer ≡ 4
  four-words = four (comes-exactly (naming source names) p text)

  pub bytes_most : (write p source names text).bytes ≤ most_bytes
  bytes_most = few (comes-exactly (naming source names) p text)
