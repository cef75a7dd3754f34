-- What the reading of an entry comes to. Assumes nothing.
use mathlib.Core.Path.{◌≡◌, sym, ap, ◌∙◌}
use mathlib.Core.Bool.{false, true≢false}
use mathlib.Core.List.{List}
use Prim.Native.Nat.{◌≤◌, ◌<◌}
use lib.IntN.{ℤ}
use lib.ListN.{length}
use Rattle.std.specs.Prelude.{ℕ, Ok, Err, is_ok}
use Rattle.words.specs.Words.{number_at}
use Rattle.words.specs.Answer.{got, stop}
use Rattle.words.proofs.AnswerLaws.{either}
use Rattle.program.specs.Told.{told, words_left}
use Rattle.program.specs.Grammar.{Takes}
use Rattle.program.specs.Reading.{read_path, read_expression}
use Rattle.rules.specs.Entries.{read_entry}
use Rattle.rules.specs.Rules.Entries.{Entry}
use Rattle.rules.proofs.EntryClauses.{entry-path, entry-low, entry-high, entry-literal}
use Rattle.rules.proofs.EntryWords.{entry-sound}

module _ (p : List ℤ) where
  pub path-halts : {k : ℕ} → Err k ≡ told (read_path p) → Err k ≡ told (read_entry p)
  path-halts {k} e =
      either {X = Err k ≡ told (read_entry p)} (read_path p)
      (λ q x. absurd (true≢false (ap is_ok (sym (e ∙ ap told x)))))
      (λ q x. e ∙ rw (x, entry-path p x))

  module _ {q : List ℤ} (e : read_path p ≡ got q) where
    pub form-low : number_at q 0 < 20 → told (stop q) ≡ told (read_entry p)
    form-low h = ap told (sym (entry-low p e h))

    pub form-high : 23 < number_at q 0 → told (stop q) ≡ told (read_entry p)
    form-high h = ap told (sym (entry-high p e h))

    pub form-literal : 20 ≤ number_at q 0 → number_at q 0 ≤ 23 → told (read_expression 1 false q) ≡ told (read_entry p)
    form-literal h k = ap told (sym (entry-literal p e h k))

-- ---- what is told of an entry

-- it reads, and these words are left after it
pub record Reads (p : List ℤ) (rest : ℕ) : Type 0 where
  pub q : List ℤ
  pub takes : Takes Entry p q
  pub left : rest ≡ length q

pub entry-reads : (p : List ℤ) {rest : ℕ} → Ok rest ≡ told (read_entry p) → Reads p rest
entry-reads p {rest} e =
    either {X = Reads p rest} (read_entry p)
    (λ q x. record { q = q; takes = entry-sound p q x; left = ap words_left (e ∙ ap told x) })
    (λ q x. absurd (true≢false (ap is_ok (e ∙ ap told x))))

-- it does not
pub entry-stops : (p : List ℤ) {k : ℕ} → Err k ≡ told (read_entry p) → (r : List ℤ) × (read_entry p ≡ stop r)
entry-stops p e =
    either {X = (r : List ℤ) × (read_entry p ≡ stop r)} (read_entry p)
    (λ q x. absurd (true≢false (ap is_ok (sym (e ∙ ap told x)))))
    (λ q x. (q, x))
