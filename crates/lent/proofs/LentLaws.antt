-- What the code of one statement comes to. Assumes nothing.
use mathlib.Core.Path.{◌≡◌, refl, sym, ap, ◌∙◌}
use mathlib.Core.Bool.{true, false, true≢false}
use mathlib.Core.List.{List}
use Prim.Native.Nat.{ℕ, ◌+◌, ◌≤◌}
use native.Mathlib.Omega.{arith}
use native.Mathlib.Decide.{ℕ_discrete}
use borrow.Author.Tests.{eq-eqb, ne_eqb}
use lib.Dec.{eqb}
use lib.IntN.{ℤ}
use lib.ListN.{length}
use Rattle.std.specs.Prelude.{Result}
use Rattle.program.specs.declared.Refusal.{Refusal}
use Rattle.words.specs.Words.{number_at, last_of}
use Rattle.words.specs.Answer.{got, stop}
use Rattle.program.specs.Forms.{verb_of}
use Rattle.program.specs.declared.Verb.{Verb}
use Rattle.program.specs.declared.Verb.TheVariants.{Skip as skip, Assign as assign, New as new, Always as always, Once as once, AlwaysSame as always_same, OnceSame as once_same, If as branch, While as loop, Unknown as no_verb}
use Rattle.program.specs.Reading.{read_block, after}
use Rattle.program.proofs.FormLaws.{verb-number}
use Rattle.program.proofs.LengthLaws.{Part, part-trans}
use Rattle.program.proofs.RowLaws.{last-part}
use Rattle.rules.specs.State.{State, Res}
use Rattle.rules.specs.Statements.{Left, position_of, do_simple}
use Rattle.rules.specs.Running.{Out, then_out, taken, do_verb, do_block}
use Rattle.rules.specs.Running.{Tally as Carries}
use Rattle.rules.proofs.LeavesLaws.{Takes, leaves-take, simple-leaves}
use Rattle.rules.proofs.RefusalLaws.{refusal-least, simple-refuses}
use Rattle.rules.proofs.RunningClauses.{is-skip, is-assign, is-new, is-always, is-once, is-always-same, is-once-same}
use Rattle.rules.proofs.RunningClauses.{taken-got, taken-stop, verb-simple, verb-none, statement-is}
use Rattle.phases.specs.declared.Done.{Done}
use Rattle.phases.specs.Told.{done_of, done_state, Does}
use Rattle.statements.proofs.VerbLaws.{verb-is}
use Rattle.lent.specs.declared.Tally.{Tally}
use Rattle.lent.specs.Tallied.{carries, out_of, untold_out, Begins, Goes, ended_at, paid_by, accepted_in, done_by}
use Rattle.lent.specs.Lending.{holds_blocks, one_statement, Steps}
use Rattle.lent.proofs.TallyLaws.{halted, goes-from, goes_on, goes-ends, went_on, pay-one, pay-is, pay-goes}

-- ---- which statements hold blocks

pub seven-holds : {n : ℕ} → n ≡ 7 → true ≡ holds_blocks (verb_of n)
seven-holds e = rw (e, verb-is branch (omega arith))

eight-holds : {n : ℕ} → n ≡ 8 → true ≡ holds_blocks (verb_of n)
eight-holds e = rw (e, verb-is loop (omega arith))

none-holds : (n : ℕ) → (n ≡ 7 → ⊥) → (n ≡ 8 → ⊥) → false ≡ holds_blocks (verb_of n)
none-holds n a c = by (verb_of n) refl
  where
    by : (v : Verb) → verb_of n ≡ v → false ≡ holds_blocks v
    by skip e = refl
    by assign e = refl
    by new e = refl
    by always e = refl
    by once e = refl
    by always_same e = refl
    by once_same e = refl
    by branch e = absurd (a (rw e at (verb-number n (rw e (omega arith)))))
    by loop e = absurd (c (rw e at (verb-number n (rw e (omega arith)))))
    by no_verb e = refl

pub eight-or-none : (n : ℕ) → (n ≡ 7 → ⊥) → eqb n 8 ≡ holds_blocks (verb_of n)
eight-or-none n a = by (ℕ_discrete n 8)
  where
    by : Dec (n ≡ 8) → eqb n 8 ≡ holds_blocks (verb_of n)
    by (yes y) = rw (eq-eqb n 8 y) (eight-holds y)
    by (no z) = rw (ne_eqb n 8 z) (none-holds n a z)

pub is-eight : (n : ℕ) → true ≡ holds_blocks (verb_of n) → (n ≡ 7 → ⊥) → n ≡ 8
is-eight n h a = by (ℕ_discrete n 8)
  where
    by : Dec (n ≡ 8) → n ≡ 8
    by (yes y) = y
    by (no z) = absurd (true≢false (h ∙ sym (none-holds n a z)))

-- a verb that holds blocks and is no if is a while
pub is-loop : (v : Verb) → true ≡ holds_blocks v → (v ≡ branch → ⊥) → v ≡ loop
is-loop skip h n = absurd (true≢false h)
is-loop assign h n = absurd (true≢false h)
is-loop new h n = absurd (true≢false h)
is-loop always h n = absurd (true≢false h)
is-loop once h n = absurd (true≢false h)
is-loop always_same h n = absurd (true≢false h)
is-loop once_same h n = absurd (true≢false h)
is-loop branch h n = absurd (n refl)
is-loop loop h n = refl
is-loop no_verb h n = absurd (true≢false h)

-- what a statement that holds no block does
pub verb-flat : (block : List ℤ → Carries → Out) (past : List ℤ → List ℤ) (program : List ℤ) (budget : ℕ) (p : List ℤ) (u : Carries) (v : Verb) → holds_blocks v ≡ false
    → do_verb block past program budget p v u ≡ taken program u (do_simple program p u.state u.unread v)
verb-flat block past program budget p u skip h = verb-simple block past program budget p u skip is-skip
verb-flat block past program budget p u assign h = verb-simple block past program budget p u assign is-assign
verb-flat block past program budget p u new h = verb-simple block past program budget p u new is-new
verb-flat block past program budget p u always h = verb-simple block past program budget p u always is-always
verb-flat block past program budget p u once h = verb-simple block past program budget p u once is-once
verb-flat block past program budget p u always_same h = verb-simple block past program budget p u always_same is-always-same
verb-flat block past program budget p u once_same h = verb-simple block past program budget p u once_same is-once-same
verb-flat block past program budget p u branch h = absurd (true≢false h)
verb-flat block past program budget p u loop h = absurd (true≢false h)
verb-flat block past program budget p u no_verb h = verb-none block past program budget p u

-- ---- a statement that takes no more than one proposal

module _ (program p ws : List ℤ) (S : State) (v : Verb) where
  takes : {l : Left} → do_simple program p S ws v ≡ got l → Takes ws l
  takes {l} e = leaves-take (simple-leaves program p S ws v l e)

  few-in : (m : Res Left) → do_simple program p S ws v ≡ m → accepted_in (done_of m) ≤ 1
  few-in (got l) e = (takes e).few
  few-in (stop f) e = omega arith

-- ---- a statement that is begun with a tally that a run carries

module _ (program : List ℤ) (budget : ℕ) (p ws : List ℤ) (S : State) {t : Tally} (b : Begins ws t) {place : ℕ} (l : place ≡ position_of program p) where
  abbrev One : Out
  One = one_statement program budget p (carries ws S t)

  pub begun-blocks : {r : Tally} → true ≡ holds_blocks (verb_of (number_at p 0)) → r ≡ ended_at 2 place t → Goes ws t S r One
  begun-blocks h e = goes-ends b (omega arith) (λ z. omega arith) e (rw (← h, l))

  module _ (h : false ≡ holds_blocks (verb_of (number_at p 0))) {u : Tally} (k : u ≡ paid_by budget place t) where
    abbrev Taken : Carries → Out
    Taken v = do_verb (λ q w. do_block 0 program budget q w) (λ q. after (read_block 0 q)) program budget p (verb_of (number_at p 0)) v

    paid-then : then_out (out_of ws S u) Taken ≡ One
    paid-then =
        rw (← h, statement-is (λ q w. do_block 0 program budget q w) (λ q. after (read_block 0 q)) program budget p (carries ws S t), ← l)
        (ap (λ (o : Out). then_out o Taken) (pay-is budget place k S b))

    pub begun-broke : (u.outcome ≡ 0 → ⊥) → Goes ws t S u One
    begun-broke n = goes-from (pay-goes budget place k S b) (omega arith) (sym (halted ws S u Taken n) ∙ ap untold_out paid-then)

    module _ (n : u.outcome ≡ 0) {unread : List ℤ} (is : unread ≡ last_of u.unread ws) {Z : State} {done : Result Done Refusal} (g : Does S Z done (do_simple program p S unread (verb_of (number_at p 0)))) where
      few-one : {a : ℕ} → a ≤ 1 → u.accepted + a ≤ u.steps
      few-one h = rw (pay-one budget place k n).1 (omega (arith, b.few))

      pub begun-few : u.accepted + accepted_in done ≤ u.steps
      begun-few = rw g.is (few-one (few-in program p unread S (verb_of (number_at p 0)) (do_simple program p S unread (verb_of (number_at p 0))) refl))

      simple-is : taken program (carries ws S u) (do_simple program p S unread (verb_of (number_at p 0))) ≡ One
      simple-is =
          rw is (sym (verb-flat (λ q w. do_block 0 program budget q w) (λ q. after (read_block 0 q)) program budget p (carries ws S u) (verb_of (number_at p 0)) (sym h)))
          ∙ (rw n at paid-then)

      pub begun-simple : {r : Tally} → r ≡ done_by (length program) u done → Goes ws t Z r One
      begun-simple {r} e =
          rw (e, g.is, g.leaves) (by (do_simple program p S unread (verb_of (number_at p 0))) refl)
        where
          by : (m : Res Left) → do_simple program p S unread (verb_of (number_at p 0)) ≡ m
              → Goes ws t (done_state S m) (done_by (length program) u (done_of m)) One
          by (got x) q =
              let y : Takes unread x = takes program p unread S (verb_of (number_at p 0)) q in
              let z : Part ws x.unread = part-trans (last-part u.unread ws) (rw is at y.part) in
              goes_on (record { few = few-one y.few; inside = z.short; going = refl; nowhere = refl }) (pay-goes budget place k S b).grows
              (rw z.is (ap untold_out (sym (taken-got program (carries ws S u) x) ∙ (rw q at simple-is))))
          by (stop f) q =
              goes-ends (went_on (pay-goes budget place k S b) n) (pay-goes budget place k S b).grows (λ z. let y = refusal-least ((simple-refuses program p S unread (verb_of (number_at p 0))).bad f q) in omega arith) refl
              (ap untold_out (sym (taken-stop program (carries ws S u) f) ∙ (rw q at simple-is)))

-- ---- a tally that a run carries, and one that none does

module _ {ws : List ℤ} {S : State} {t : Tally} {o : Out} where
  pub stays-so : (Begins ws t → ⊥) → Steps ws S S t t o
  stays-so n = record { goes = λ b. absurd (n b); stays = λ _. (refl, refl) }

  pub steps-so : {Z : State} {r : Tally} → Begins ws t → Goes ws t Z r o → Steps ws S Z t r o
  steps-so b g = record { goes = λ _. g; stays = λ n. absurd (n b) }
