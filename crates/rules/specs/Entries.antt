-- A list of entries (02, W3): the assignments one by one, by the assignment's rule (Statements.do_assign). Assumes nothing: these are definitions.
use Rattle.std.specs.Prelude.{ℕ, zero, suc, ◌-◌, false, List, [], ◌∷◌, ℤ, pos, length, take}
use Rattle.words.specs.Words.{number_of}
use Rattle.words.specs.Answer.{got, stop, ◌>>=◌}
use Rattle.program.specs.Reading.{Reading, number, read_path, read_expression}
use Rattle.rules.specs.State.{State}
use Rattle.rules.specs.Statements.{do_assign}
use Rattle.rules.specs.Running.{Tally, Out, on, end, then_out, paid, taken}
use Rattle.rules.specs.Start.{Ended, starts, given_by, from_start, tally_from}

-- "each an L and one of 20 to 23": the part after the entry at p
unfoldable pub read_entry : List ℤ → Reading (List ℤ)
read_entry p = do
  q ← read_path p
  (form, r) ← number 20 23 q
  read_expression 1 false q

-- the statement that the entry at p is, with q after it: 1, assign, and its words
abbrev pub assigning : List ℤ → List ℤ → List ℤ
assigning p q = pos 1 ∷ take (length p - length q) p

-- "Each one begun costs a step": the assignment s, as a run does it
unfoldable pub do_entry : List ℤ → ℕ → ℕ → List ℤ → Tally → Out
do_entry program budget i s t = then_out (paid budget i t) λ u. taken program u (do_assign program s u.state u.unread)

-- "up to the first refusal, with the entry's index, from 0, as place"
unfoldable pub onwards : (Tally → Ended) → ℕ → Out → Ended
onwards more i (on u) = more u
onwards more i (end n place u) = given_by n i u

-- the entry at p, whose index is i, for what its reading comes to, and then those after it: "23 for an entry whose words are no target and literal, found at its turn, before 5"
unfoldable pub judged : (List ℤ → Tally → Ended) → List ℤ → ℕ → ℕ → List ℤ → Tally → Reading (List ℤ) → Ended
judged more program budget i p t (got q) = onwards (λ u. more q u) i (do_entry program budget i (assigning p q) t)
judged more program budget i p t (stop q) = given_by 23 i t

-- ".. or their number when all go through"
unfoldable pub next_entry : (List ℤ → Tally → Ended) → List ℤ → ℕ → ℕ → List ℤ → Tally → Ended
next_entry more program budget i [] t = given_by 0 i t
next_entry more program budget i (w ∷ p) t = judged more program budget i (w ∷ p) t (read_entry (w ∷ p))

-- the entries at p, the first of which has the index i; as each has a word, the fuel, as many as there are words, does not run out before they do
unfoldable pub do_entries : ℕ → List ℤ → ℕ → ℕ → List ℤ → Tally → Ended
do_entries zero program budget i p t = given_by 0 i t
do_entries (suc fuel) program budget i p t = next_entry (λ q u. do_entries fuel program budget (suc i) q u) program budget i p t

-- "a call that takes a list of entries .. and one proposal for each, over a state and program as in 01"
unfoldable pub assigns : List ℤ → List ℤ → List ℤ → ℤ → State → Ended
assigns program entries ws budget S =
    from_start (starts program budget S) (tally_from S ws) λ t. do_entries (length entries) program (number_of budget) 0 entries t
