-- In a program that reads a statement refuses with one of the outcomes of its verb: its own words read, and so do those of every kept identity.
-- Assumes nothing.
use mathlib.Core.Path.{◌≡◌, refl, sym}
use Prim.Native.Nat.{ℕ, ◌+◌, ◌-◌, ◌<◌}
use native.Mathlib.Omega.{arith}
use mathlib.Core.Bool.{true, false, true≢false}
use mathlib.Core.List.{List, ◌∷◌, ◌++◌, append_assoc}
use lib.IntN.{ℤ, pos}
use lib.ListN.{drop}
use Rattle.words.specs.Answer.{got}
use Rattle.words.proofs.AnswerLaws.{got-inj}
use Rattle.tables.specs.declared.Sort.TheVariants.{Identities}
use Rattle.tables.specs.Sizes.{variables, most_fields}
use Rattle.tables.specs.Cells.{Cells}
use Rattle.tables.specs.Kept.{kept_count, position_at}
use Rattle.program.specs.Forms.{expression_depth}
use Rattle.program.specs.declared.Verb.{Verb}
use Rattle.program.specs.declared.Verb.TheVariants.{Skip as skip, Assign as assign, New as new, Always as always, Once as once, AlwaysSame as always_same, OnceSame as once_same, If as branch, While as loop, Unknown as no_verb}
use Rattle.program.specs.Grammar.{statement_of, Yields, Expression}
use Rattle.program.specs.Reading.{number, read_path, after}
use Rattle.program.proofs.FormLaws.{number_of_verb}
use Rattle.program.proofs.NumberLaws.{number-of}
use Rattle.program.proofs.LengthLaws.{after-got}
use Rattle.program.proofs.GrammarLaws.{path-complete}
use Rattle.rules.specs.State.{State, positions}
use Rattle.rules.specs.Identities.{member, ties}
use Rattle.rules.specs.Steps.Holds.{IdentityHolds, Holds}
use Rattle.rules.specs.Steps.ByVerb.{refusals}
use Rattle.rules.specs.Statements.{do_simple}
use Rattle.rules.specs.Running.{test}
use Rattle.rules.proofs.KeepLaws.{positions-iff}
use Rattle.rules.proofs.EndLaws.{ends-got, ends-any, Fine, Any}
use Rattle.rules.proofs.FineLaws.{Judged, assign-fine, new-fine, constraint-fine, identity-fine}
use Rattle.rules.proofs.VerbLaws.{verb_in}
use Rattle.rules.proofs.ReadingLaws.{path-at, TieAt, tie-at, same-was, way-reads, same_reads, ties-read, evaluate-reads, test-reads, constraint-reads, fields_read}

-- ---- the outcomes of a verb

abbrev pub Listed : Verb → ℕ → Type 0
Listed v n = member n (refusals v) ≡ true

judged-assign : Judged (Listed assign)
unfolding member
judged-assign = record { six = refl; fifteen = refl; sixteen = refl; seventeen = refl; eighteen = refl; nineteen = refl }

judged-new : Judged (Listed new)
unfolding member
judged-new = record { six = refl; fifteen = refl; sixteen = refl; seventeen = refl; eighteen = refl; nineteen = refl }

judged-always : Judged (Listed always)
unfolding member
judged-always = record { six = refl; fifteen = refl; sixteen = refl; seventeen = refl; eighteen = refl; nineteen = refl }

judged-once : Judged (Listed once)
unfolding member
judged-once = record { six = refl; fifteen = refl; sixteen = refl; seventeen = refl; eighteen = refl; nineteen = refl }

-- 2 is none of them
pub two-not-listed : (v : Verb) → Listed v 2 → ⊥
unfolding member
two-not-listed skip e = true≢false (sym e)
two-not-listed assign e = true≢false (sym e)
two-not-listed new e = true≢false (sym e)
two-not-listed always e = true≢false (sym e)
two-not-listed once e = true≢false (sym e)
two-not-listed always_same e = true≢false (sym e)
two-not-listed once_same e = true≢false (sym e)
two-not-listed branch e = true≢false (sym e)
two-not-listed loop e = true≢false (sym e)
two-not-listed no_verb e = true≢false (sym e)

-- ---- the words of every kept identity read

abbrev pub TiesRead : List ℤ → List ℤ → Type 0
TiesRead program c = (i : ℕ) → i < kept_count c Identities → TieAt (drop (position_at c Identities i + 1) program)

pub ties-are-read : (program : List ℤ) (S : State) → Holds program S → TiesRead program S.kept
ties-are-read program S holds i l = same-was S.cells _ _ ((positions-iff (IdentityHolds program S.cells) S.kept Identities).0 holds.identities i l)

module _ (program : List ℤ) where
  -- ---- statements

  ties-fine : (P : ℕ → Type 0) → P 7 → (S : State) → TiesRead program S.kept → Fine P Any (ties program S.kept S.cells)
  unfolding ties positions
  ties-fine P seven S h = ties-read P seven S.cells program (position_at S.kept Identities) 0 (kept_count S.kept Identities) (λ j l. h j (omega arith))

  pub simple-reads : {d : ℕ} {s : List ℤ} (y : Yields (statement_of d) s) (q : List ℤ) (S : State) (ws : List ℤ) → TiesRead program S.kept → number_of_verb (verb_in y) < 7
      → Fine (Listed (verb_in y)) Any (do_simple program (s ++ q) S ws (verb_in y))
  unfolding do_simple member
  simple-reads Yields.skip q S ws h l = ends-got tt
  simple-reads (Yields.assign {a = a} {e = e} x y) q S ws h l =
      let r : after (read_path ((a ++ e) ++ q)) ≡ e ++ q = after-got (rw (append_assoc a e q) (path-complete x (e ++ q))) in
      assign-fine (Listed assign) judged-assign program (pos 1 ∷ ((a ++ e) ++ q)) S ws refl refl
      (rw r (ends-any (evaluate-reads (Listed assign) refl refl S.cells refl y q)))
      (rw (append_assoc a e q) (ends-any (way-reads (Listed assign) refl S.cells (path-at x (e ++ q)))))
      (ties-fine (Listed assign) refl S h)
  simple-reads (Yields.new {x = x} {n = n} {fs = fs} a b f) q S ws h l =
      let r : number 0 (variables - 1) (pos x ∷ pos n ∷ (fs ++ q)) ≡ got (x, pos n ∷ (fs ++ q)) = number-of 0 (variables - 1) x (pos n ∷ (fs ++ q)) (omega arith) (omega arith) in
      let t : number 0 most_fields (pos n ∷ (fs ++ q)) ≡ got (n, fs ++ q) = number-of 0 most_fields n (fs ++ q) (omega arith) b in
      new-fine (Listed new) judged-new program (pos 2 ∷ pos x ∷ pos n ∷ (fs ++ q)) S ws refl refl
      (rw r (ends-got tt))
      (λ y e. rw (← got-inj (rw r at e), t) (ends-got tt))
      (λ y e z g. rw (← got-inj (rw t at (rw (← got-inj (rw r at e)) at g))) (fields_read (Listed new) refl refl S.cells refl f q))
      (ties-fine (Listed new) refl S h)
  simple-reads (Yields.always {c = c} x) q S ws h l =
      constraint-fine (Listed always) judged-always program (pos 3 ∷ (c ++ q)) S ws (λ Z. constraint-reads (Listed always) refl refl Z x q) true (λ e. refl)
  simple-reads (Yields.once {c = c} x) q S ws h l =
      constraint-fine (Listed once) judged-once program (pos 4 ∷ (c ++ q)) S ws (λ Z. constraint-reads (Listed once) refl refl Z x q) false (λ e. absurd (true≢false (sym e)))
  simple-reads (Yields.always_same {a = a} {b = b} x y) q S ws h l =
      identity-fine (Listed always_same) program (pos 5 ∷ ((a ++ b) ++ q)) S ws (same_reads (Listed always_same) refl S.cells refl refl _ (tie-at x y q)) true (λ e. refl)
  simple-reads (Yields.once_same {a = a} {b = b} x y) q S ws h l =
      identity-fine (Listed once_same) program (pos 6 ∷ ((a ++ b) ++ q)) S ws (same_reads (Listed once_same) refl S.cells refl refl _ (tie-at x y q)) false
      (λ e. absurd (true≢false (sym e)))
  simple-reads (Yields.branch x y z) q S ws h l = absurd (omega arith)
  simple-reads (Yields.loop x y) q S ws h l = absurd (omega arith)

  -- the test of an if or a while
  pub tests-read : {e : List ℤ} (v : Verb) → 6 < number_of_verb v → number_of_verb v < 9 → Expression false expression_depth e → (q : List ℤ) (S : Cells) → Fine (Listed v) Any (test S (e ++ q))
  unfolding member
  tests-read skip a b x q S = absurd (omega arith)
  tests-read assign a b x q S = absurd (omega arith)
  tests-read new a b x q S = absurd (omega arith)
  tests-read always a b x q S = absurd (omega arith)
  tests-read once a b x q S = absurd (omega arith)
  tests-read always_same a b x q S = absurd (omega arith)
  tests-read once_same a b x q S = absurd (omega arith)
  tests-read branch a b x q S = test-reads (Listed branch) refl refl S refl x q
  tests-read loop a b x q S = test-reads (Listed loop) refl refl S refl x q
  tests-read no_verb a b x q S = absurd (omega arith)
