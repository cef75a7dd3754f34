-- The output is written whole where there is room for the longest text and its newline. Assumes nothing.
use mathlib.Core.List.{List, [], ◌∷◌, ◌++◌}
use Prim.Native.Nat.{ℕ, zero, suc, ◌≤◌}
use native.Mathlib.Omega.{arith}
use lib.Dec.{eqb}
use lib.IntN.{ℤ, pos}
use lib.ListN.{length, take, drop, replicate, length-append}
use lib.Seq.{take-append_seam}
use Rattle.words.specs.Words.{number_at}
use Rattle.tables.proofs.SearchLaws.{cases}
use Rattle.tokens.specs.Tokens.{most_bytes}
use Rattle.std.specs.Prelude.{Result, Ok, Err}
use Rattle.lister.specs.declared.Input.{Input}
use Rattle.lister.specs.Reading.{Given, input_in}
use Rattle.lister.specs.Listing.{named_line, outcome_name, place_name}
use Rattle.lister.proofs.SizeLaws.{digits-twenty, named-length, unfit-length, listed-whole}
use Rattle.printing.specs.Whole.{Answered, write}
use Rattle.printing.proofs.ComesLaws.{bytes_most}
use Rattle.typed.specs.Typing.{refused_text, answered_text, program_typed, typed_by, typed_to}
use Rattle.typed.specs.Claims.{Whole}

refused-length : (outcome place : ℕ) → length (refused_text outcome place) ≤ 65537
refused-length outcome place =
    let a = named-length outcome_name outcome {k = 8} (omega arith) (digits-twenty outcome) in
    let b = named-length place_name place {k = 6} (omega arith) (digits-twenty place) in
    rw (length-append (named_line outcome_name outcome) (named_line place_name place)) (omega arith)

length-take-most : (n : ℕ) (s : List ℕ) → length (take n s) ≤ n
length-take-most zero s = omega arith
length-take-most (suc n) [] = omega arith
length-take-most (suc n) (b ∷ s) = let h : length (take n s) ≤ n = length-take-most n s in omega arith

written-length : (n : ℕ) (s : List ℕ) → n ≤ most_bytes → length (take n s ++ 10 ∷ []) ≤ 65537
written-length n s h = rw (length-append (take n s) (10 ∷ [])) (omega (arith, length-take-most n s))

answered-length : (a : Answered) → a.bytes ≤ most_bytes → length (answered_text a) ≤ 65537
answered-length a h =
    cases (eqb (number_at a.answer 0) 0)
    (λ e. rw e (written-length a.bytes a.text h))
    (λ e. rw e (refused-length (number_at a.answer 0) (number_at a.answer 1)))

program-length : (p : List ℤ) → length (program_typed p) ≤ 65537
unfolding program_typed
program-length p = answered-length (write p [] (replicate 192 (pos 0)) (replicate most_bytes 0)) (bytes_most p [] (replicate 192 (pos 0)) (replicate most_bytes 0))

typed-length : (g : Given) (a : Result Input ℕ) → length (typed_by g a) ≤ 65537
typed-length g (Ok input) = program-length g.program
typed-length g (Err line) = omega (arith, unfit-length line)

text-length : (t : List ℕ) → length (typed_to t) ≤ 65537
unfolding typed_to
text-length t = typed-length (input_in t) (input_in t).answer

pub whole : Whole
whole t before after n h l =
    let short : length (typed_to t) ≤ 65537 = text-length t in
    let stands = listed-whole l (omega arith) in
    rw (stands.1, stands.0) (take-append_seam (typed_to t) (drop (length (typed_to t)) before))
