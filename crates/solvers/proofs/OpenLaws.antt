-- What is tried before the statement, in its order. Assumes nothing.
use mathlib.Core.Path.{◌≡◌, sym, ◌∙◌}
use mathlib.Core.Bool.{true, false}
use mathlib.Core.List.{List}
use Prim.Native.Nat.{ℕ, ◌<◌}
use native.Mathlib.Omega.{arith}
use lib.IntN.{ℤ, pos}
use Rattle.std.specs.Prelude.{Result, Ok, Err}
use Rattle.words.specs.Words.{word_of}
use Rattle.words.specs.Answer.{got}
use Rattle.words.proofs.Laws.{word-is}
use Rattle.words.proofs.AnswerLaws.{either}
use Rattle.fit.specs.Fit.{sized}
use Rattle.program.specs.Reading.{read_program}
use Rattle.program.specs.Told.{verdict_of}
use Rattle.program.proofs.GrammarLaws.{program-sound}
use Rattle.rules.specs.State.{State}
use Rattle.rules.specs.Start.{tables_at_start}
use Rattle.rules.specs.Solvers.{is_named}
use Rattle.rules.proofs.StartClauses.{early-got, early-stop}
use Rattle.rules.proofs.StartRules.{unstarted-iff}
use Rattle.rules.proofs.RunFacts.{unread-places}
use Rattle.rules.proofs.SolverRules.{sized-iff, starts-tables}
use Rattle.proposals.proofs.FormLaws.{unlike}
use Rattle.run.specs.declared.Early.{Early as Stops}
use Rattle.run.specs.Told.{started_of}
use Rattle.run.proofs.ExactLaws.{early-small}
use Rattle.solvers.specs.declared.Early.{Early as Stopped}
use Rattle.solvers.specs.Told.{opened_by, opening}

abbrev refused : ℕ → ℤ → Result (Unit {0}) Stopped
refused n place = Err (record { number = n; place = place })

module _ (program : List ℤ) (word : ℤ) (S : State) where
  pub opens-wrong : sized S.cells.environment S.cells.heap S.kept ≡ false → refused 1 (pos 0) ≡ opening program word S
  opens-wrong s = rw (s, early-stop 1 0)

  module _ (s : sized S.cells.environment S.cells.heap S.kept ≡ true) where
    pub opens-unread : {v : Result (Unit {0}) ℕ} {place : ℕ} {w : ℤ} → v ≡ verdict_of (read_program program) → v ≡ Err place → w ≡ word_of place → refused 2 w ≡ opening program word S
    opens-unread {place = place} e h w =
        either (read_program program)
        (λ u x. unlike (let y = sym (rw x at e) ∙ h in cc))
        (λ k x.
        let y = sym (rw x at e) ∙ h in
        let z : k ≡ place = cc in
        rw (s, early-got 1 tt, x, early-stop 2 k, w, ← z, word-is k (omega (arith, (unread-places program k x).0))))

    module _ {v : Result (Unit {0}) ℕ} (e : v ≡ verdict_of (read_program program)) (h : v ≡ Ok tt) where
      reads : read_program program ≡ got tt
      reads = either {X = read_program program ≡ got tt} (read_program program) (λ u x. x) (λ k x. unlike (let y = sym (rw x at e) ∙ h in cc))

      pub opens-unnamed : is_named program word ≡ false → refused 2 word ≡ opening program word S
      opens-unnamed n = rw (s, early-got 1 tt, reads, early-got 2 tt, n)

      module _ (n : is_named program word ≡ true) {t : Result (Unit {0}) Stops} (o : t ≡ started_of (tables_at_start program S)) where
        here : opening program word S ≡ opened_by (tables_at_start program S) (Ok tt)
        here = rw (s, early-got 1 tt, reads, early-got 2 tt, n)

        pub opens-begins : t ≡ Ok tt → Ok tt ≡ opening program word S
        opens-begins b =
            either (tables_at_start program S)
            (λ u x. rw (here, x))
            (λ f x. unlike (let y = sym (rw x at o) ∙ b in cc))

        pub opens-early : {e : Stops} {w : ℤ} → t ≡ Err e → w ≡ word_of e.place → refused e.number w ≡ opening program word S
        opens-early {e = e} b w =
            either (tables_at_start program S)
            (λ u x. unlike (let y = sym (rw x at o) ∙ b in cc))
            (λ f x.
            let y : Err (record { number = f.number; place = f.place }) ≡ Err e = sym (rw x at o) ∙ b in
            let y1 : f.number ≡ e.number = cc in
            let y2 : f.place ≡ e.place = cc in
            let small : f.place < 2147483648 = early-small ((unstarted-iff program (pos 0) S f).0 (starts-tables program S ((sized-iff program S).0 s) (program-sound program reads) ∙ x)) in
            rw (here, x, w, ← y1, ← y2, word-is f.place small))
