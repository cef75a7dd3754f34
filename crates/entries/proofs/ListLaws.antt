-- The loop over the entries: so many are done, and the rest gives the whole's answer. Assumes nothing.
use mathlib.Core.Path.{◌≡◌, refl, sym, ap, ◌∙◌}
use mathlib.Core.List.{List, ◌∷◌}
use Prim.Native.Nat.{ℕ, suc, ◌+◌, ◌-◌, ◌≤◌, ◌<◌}
use native.Mathlib.Omega.{arith}
use native.Mathlib.Decide.{dec_lt}
use lib.IntN.{ℤ, pos}
use lib.ListN.{length, take, length-append}
use lib.Seq.{drop-drop, drop-length}
use Rattle.std.specs.Prelude.{Err}
use Rattle.words.specs.Words.{number_at, last_of}
use Rattle.words.proofs.AnswerLaws.{either}
use Rattle.tables.specs.declared.Tables.{Tables}
use Rattle.tables.specs.Lending.{StillLent}
use Rattle.program.specs.Forms.{verb_of}
use Rattle.program.specs.declared.Verb.TheVariants.{Assign as assign}
use Rattle.program.specs.Told.{told}
use Rattle.program.specs.Reading.{read_block, after}
use Rattle.program.proofs.RowLaws.{last-length, last-all}
use Rattle.rules.specs.State.{State}
use Rattle.rules.specs.Statements.{position_of, do_assign}
use Rattle.rules.specs.Running.{Out, on, end, then_out, one_more, paid, taken, do_verb, do_block}
use Rattle.rules.specs.Running.{Tally as Carries}
use Rattle.rules.specs.Start.{Ended, tally_from}
use Rattle.rules.specs.Entries.{read_entry, do_entry, onwards, next_entry, do_entries}
use Rattle.rules.specs.Rules.Entries.{Entry}
use Rattle.rules.proofs.RunningClauses.{is-assign, paid-on, paid-ends, taken-got, taken-stop, verb-simple, statement-is}
use Rattle.rules.proofs.StatementClauses.{simple-assign}
use Rattle.rules.proofs.EntryClauses.{entry-unpaid, entry-goes, entry-stops, onwards-on, onwards-end, next-unfit, next-got, entries_none, entries-open}
use Rattle.rules.proofs.EntryWords.{entry-reads, entry-short, takes-shorter, takes-last, assigning-is, entry-verb}
use Rattle.phases.specs.Told.{state_in}
use Rattle.block.proofs.RunLaws.{lent-same, lent-then}
use Rattle.lent.specs.declared.Tally.{Tally}
use Rattle.lent.specs.Tallied.{carries, out_of, untold_out, Begins, Goes, ended_at}
use Rattle.lent.specs.Lending.{holds_blocks, one_statement}
use Rattle.lent.proofs.TallyLaws.{ends_by, went_on}
use Rattle.entries.specs.Told.{given_of}
use Rattle.entries.proofs.ReadLaws.{Reads}
use Rattle.entries.proofs.ReadLaws.{entry-stops as not-read}

-- ---- the run's statement does the entry; only the place, which is the index here, differs

module _ (program : List ℤ) (budget : ℕ) {x : List ℤ} (e : Entry x) (T : Carries) where
  abbrev s : List ℤ
  s = pos 1 ∷ x

  abbrev block : List ℤ → Carries → Out
  block q u = do_block 0 program budget q u

  abbrev past : List ℤ → List ℤ
  past q = after (read_block 0 q)

  opens : one_statement program budget s T ≡ then_out (paid budget (position_of program s) T) (λ u. do_verb block past program budget s (verb_of (number_at s 0)) u)
  opens = rw (ap holds_blocks (entry-verb e)) (statement-is block past program budget s T)

  unpaid : budget ≤ T.steps → one_statement program budget s T ≡ end 5 (position_of program s) T
  unpaid h = opens ∙ rw (paid-ends budget (position_of program s) T h)

  paid-is : T.steps < budget → one_statement program budget s T ≡ taken program (one_more T) (do_assign program s T.state T.unread)
  paid-is h =
      opens
      ∙ rw (paid-on budget (position_of program s) T h, entry-verb e)
      (verb-simple block past program budget s (one_more T) assign is-assign ∙ ap (λ m. taken program (one_more T) m) (simple-assign program s T.state T.unread))

module _ (program : List ℤ) (budget i : ℕ) {x : List ℤ} (e : Entry x) (ws : List ℤ) (Z : State) (t : Tally) (more : Carries → Ended) where
  abbrev T : Carries
  T = carries ws Z t

  pub as-entry : onwards more i (untold_out (one_statement program budget (pos 1 ∷ x) T)) ≡ onwards more i (do_entry program budget i (pos 1 ∷ x) T)
  as-entry = go (dec_lt t.steps budget)
    where
      go : Dec (t.steps < budget) → onwards more i (untold_out (one_statement program budget (pos 1 ∷ x) T)) ≡ onwards more i (do_entry program budget i (pos 1 ∷ x) T)
      go (no n) =
          let h : budget ≤ t.steps = omega arith in
          rw (unpaid program budget e T h, entry-unpaid program budget i (pos 1 ∷ x) T h, onwards-end more i 5 (position_of program (pos 1 ∷ x)) T) (sym (onwards-end more i 5 i T))
      go (yes h) =
          either (do_assign program (pos 1 ∷ x) Z (last_of t.unread ws))
          (λ l q. rw (paid-is program budget e T h, q, taken-got program (one_more T) l, entry-goes program budget i (pos 1 ∷ x) T h q))
          (λ f q. rw (paid-is program budget e T h, q, taken-stop program (one_more T) f, entry-stops program budget i (pos 1 ∷ x) T h q))

-- ---- the loop

last-last : (a b : ℕ) (l : List ℤ) → a ≤ b → b ≤ length l → last_of a (last_of b l) ≡ last_of a l
last-last a b l h k =
    let n : length (last_of b l) ≡ b = last-length b l k in
    let m : length l - b + (b - a) ≡ length l - a = omega arith in
    rw n (drop-drop (b - a) (length l - b) l ∙ rw m)

-- `left` words of the entries are left, the first of which has the index i; the fuel of the definition is enough for them
pub record Entering (program entries ws : List ℤ) (budget : ℕ) (T₀ T : Tables) (t : Tally) (left i : ℕ) : Type 0 where
  pub fuel : ℕ
  pub enough : left ≤ fuel
  pub inside : i + left ≤ length entries
  pub lent : StillLent T₀ T
  pub begins : Begins ws t
  pub rest : do_entries fuel program budget i (last_of left entries) (carries ws (state_in T) t) ≡ do_entries (length entries) program budget 0 entries (tally_from (state_in T₀) ws)

pub starts : (program entries ws : List ℤ) (budget : ℕ) (T : Tables)
    → Entering program entries ws budget T T (record { steps = 0; accepted = 0; unread = length ws; outcome = 0; place = 0 }) (length entries) 0
starts program entries ws budget T = record {
  fuel = length entries;
  enough = omega arith;
  inside = omega arith;
  lent = lent-same;
  begins = record { few = omega arith; inside = omega arith; going = refl; nowhere = refl };
  rest = rw (last-all entries, last-all ws);
}

module _ {program entries ws : List ℤ} {budget : ℕ} {T₀ T : Tables} {t : Tally} {left i : ℕ} (inv : Entering program entries ws budget T₀ T t left i) where
  abbrev wanted : Ended
  wanted = do_entries (length entries) program budget 0 entries (tally_from (state_in T₀) ws)

  abbrev next : List ℤ → Carries → Ended
  next q u = do_entries (inv.fuel - 1) program budget (suc i) q u

  pub ends-all : {r : Tally} → left ≤ 0 → r ≡ ended_at 0 i t → given_of ws (state_in T) r ≡ wanted
  ends-all l e =
      let z : left ≡ 0 = omega arith in
      let k : length entries - 0 ≡ length entries = omega arith in
      rw e (sym (entries_none program budget inv.fuel i (carries ws (state_in T) t)) ∙ (rw (z, k, drop-length entries) at inv.rest))

  module _ {p : List ℤ} (here : p ≡ last_of left entries) (some : 0 < left) where
    long : length p ≡ left
    long = rw here (last-length left entries (omega (arith, inv.inside)))

    opened : next_entry next program budget i p (carries ws (state_in T) t) ≡ wanted
    opened = sym (entries-open program budget inv.fuel i p (carries ws (state_in T) t) (omega (arith, inv.enough))) ∙ (rw (← here) at inv.rest)

    pub ends-unfit : {k : ℕ} {r : Tally} → Err k ≡ told (read_entry p) → r ≡ ended_at 23 i t → given_of ws (state_in T) r ≡ wanted
    ends-unfit e k =
        let x = not-read p e in
        rw k (sym (next-unfit next program budget i (carries ws (state_in T) t) p (omega (arith, long)) x.1) ∙ opened)

    module _ {rest : ℕ} (x : Reads p rest) where
      -- the words that the entry has
      pub fewer : rest < left
      fewer = omega (arith, takes-shorter x.takes, x.left, long)

      words_are : length p ≡ length x.takes.words + length x.q
      words_are = ap length x.takes.split ∙ length-append x.takes.words x.q

      pub inside-it : left - rest ≤ length p
      inside-it = omega (arith, long)

      pub short-it : left - rest < 12
      short-it = omega (arith, long, words_are, x.left, entry-short x.takes.piece)

      statement : pos 1 ∷ take (left - rest) p ≡ pos 1 ∷ x.takes.words
      statement = rw (x.left, ← long) (assigning-is x.takes)

      module _ {Y : State} {u : Tally} (g : Goes ws t Y u (one_statement program budget (pos 1 ∷ take (left - rest) p) (carries ws (state_in T) t))) where
        came : onwards (λ v. next x.q v) i (out_of ws Y u) ≡ wanted
        came =
            let s = x.takes in
            let a : out_of ws Y u ≡ untold_out (one_statement program budget (pos 1 ∷ s.words) (carries ws (state_in T) t)) = g.runs.is ∙ ap (λ y. untold_out (one_statement program budget y (carries ws (state_in T) t))) statement in
            rw a
            (as-entry program budget i s.piece ws (state_in T) t (λ v. next x.q v)
            ∙ ap (λ y. onwards (λ v. next x.q v) i (do_entry program budget i y (carries ws (state_in T) t))) (sym (assigning-is s))
            ∙ sym (next-got next program budget i (carries ws (state_in T) t) p x.q (omega (arith, long)) (entry-reads s))
            ∙ opened)

        pub ends-refused : {r : Tally} → (u.outcome ≡ 0 → ⊥) → r ≡ ended_at u.outcome i u → given_of ws Y r ≡ wanted
        ends-refused h k =
            rw k
            (sym (onwards-end (λ v. next x.q v) i u.outcome u.place (carries ws Y u))
            ∙ ap (λ o. onwards (λ v. next x.q v) i o) (sym (ends_by u.outcome u.place (carries ws Y u) h))
            ∙ came)

      pub goes_on : {T' : Tables} {u : Tally} → Goes ws t (state_in T') u (one_statement program budget (pos 1 ∷ take (left - rest) p) (carries ws (state_in T) t)) → u.outcome ≡ 0 → StillLent T T'
          → Entering program entries ws budget T₀ T' u rest (i + 1)
      goes_on {T' = T'} {u = u} g h n =
          let a : x.q ≡ last_of rest entries = sym (takes-last x.takes) ∙ rw (← x.left, here) (last-last rest left entries (omega (arith, fewer)) (omega (arith, inv.inside))) in
          let b : suc i ≡ i + 1 = omega arith in
          let c : onwards (λ v. next x.q v) i (on (carries ws (state_in T') u)) ≡ wanted = rw h at (came g) in
          record {
            fuel = inv.fuel - 1;
            enough = omega (arith, fewer, inv.enough);
            inside = omega (arith, fewer, inv.inside);
            lent = lent-then inv.lent n;
            begins = went_on g h;
            rest = rw (← a, ← b) (sym (onwards-on (λ v. next x.q v) i (carries ws (state_in T') u)) ∙ c);
          }
