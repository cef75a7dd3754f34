-- The claims of specs/Claims.antt. Assumes nothing.
use mathlib.Core.Path.{◌≡◌, refl, sym, ap, subst, ◌∙◌}
use mathlib.Core.Logic.{◌⊎◌, inl, inr}
use native.Mathlib.Omega.{arith}
use Prim.Native.Nat.{ℕ, zero, suc, ◌≤◌}
use lib.IntN.{pos}
use Rattle.words.specs.Words.{word_at, number_of, number_at}
use Rattle.words.proofs.Laws.{number-first, number-drop}
use Rattle.rules.specs.Solvers.{Given, ask}
use Rattle.rules.specs.Claims.Answers.{Inside}
use Rattle.rules.proofs.SolverRules.{solvers-rules}
use Rattle.rules.proofs.SolverJudged.{solvers-alone}
use Rattle.rules.proofs.SolverFacts.{solvers-answers, solvers-stand, solvers-move, solvers-structure}
use Rattle.solvers.specs.Told.{answer_of}
use Rattle.solvers.specs.Claims.{OneAnswer, EveryAnswer, AnswersExactly, EitherAlone, StandsAfter, MovesOnly, OneStructure}

-- the words of an answer are its numbers, and its place
module _ (e : Given) where
  outcome-is : number_at (answer_of e) 0 ≡ e.outcome
  outcome-is = number-first (pos e.outcome) _

  place_is : word_at (answer_of e) 1 ≡ e.place
  place_is = refl

  number_is : {k : ℕ} → e.place ≡ pos k → number_at (answer_of e) 1 ≡ k
  number_is z = sym (number-drop (answer_of e) 1 0) ∙ number-first e.place _ ∙ ap number_of z

  solver-is : number_at (answer_of e) 2 ≡ e.solver
  solver-is = sym (number-drop (answer_of e) 2 0) ∙ number-first (pos e.solver) _

pub one_answer : OneAnswer
one_answer first second e Z Y a b u w m n = (m.leaves ∙ sym n.leaves, (m.answers ∙ sym n.answers, m.hands_back ∙ sym n.hands_back))

pub every-answer : EveryAnswer
every-answer program word first second S Z a u m =
    let e = ask program word first second S in
    let f = solvers-answers program word first second S e ((solvers-rules program word first second S e).0 refl) in
    rw (m.answers, m.leaves, m.hands_back)
    (record {
      three = refl;
      known = rw (outcome-is e) f.known;
      accepts = λ z. let q = f.accepts (rw (outcome-is e) at z) in rw (solver-is e) q;
      untouched = λ l.
          let q = f.refuses (rw (outcome-is e) at l) in
          rw (solver-is e) (ap (λ x. x.state) q, (ap (λ x. x.words) q, ap (λ x. x.solver) q));
      at_statement = λ h apart. f.at_statement (rw (outcome-is e) at h) (rw (outcome-is e) at apart);
      inside = λ o.
          let q = f.inside (rw (outcome-is e) at o) in
          let i = q.1.1 in
          (q.0, (q.1.0, subst (λ k. Inside program S q.0 k (number_at (answer_of e) 0)) (sym (number_is e i.1.0)) (subst (Inside program S q.0 i.0) (sym (outcome-is e)) i.1.1)));
    })

pub answers-exactly : AnswersExactly
answers-exactly program word first second S Z a u m = (
  (ask program word first second S, (solvers-rules program word first second S (ask program word first second S)).0 refl),
  λ e d. rw ((solvers-rules program word first second S e).1 d) at m,
)

-- where neither is accepted alone, the outcome is not 0
neither : {A B : Type 0} (n : ℕ) → (n ≡ 0 → A ⊎ B) → (A → ⊥) → (B → ⊥) → 1 ≤ n
neither {A} {B} zero f a b = absurd (go (f refl))
  where
    go : A ⊎ B → ⊥
    go (inl x) = a x
    go (inr x) = b x
neither (suc n) f a b = omega arith

pub either-alone : EitherAlone
either-alone program word first second S Z a u p m passes there =
    let e = ask program word first second S in
    let o = solvers-alone program word first second S p e passes there ((solvers-rules program word first second S e).0 refl) in
    rw (m.answers, m.leaves)
    (record {
      by_first = λ l x. let q = o.by_first l x in rw (outcome-is e, solver-is e) (ap (λ x. x.outcome) q, (ap (λ x. x.solver) q, ap (λ x. x.state) q));
      by_second = λ l n x. let q = o.by_second l n x in rw (outcome-is e, solver-is e) (ap (λ x. x.outcome) q, (ap (λ x. x.solver) q, ap (λ x. x.state) q));
      by_neither = λ n k. rw (outcome-is e) (neither e.outcome o.either.0 n k);
    })

pub stands_after : StandsAfter
stands_after program word first second S Z a u m h =
    let e = ask program word first second S in
    rw m.leaves (solvers-stand program word first second S e (rw (m.answers, outcome-is e) at h) ((solvers-rules program word first second S e).0 refl))

pub moves-only : MovesOnly
moves-only program word first second S Z a u m z =
    let e = ask program word first second S in
    rw m.leaves (solvers-move program word first second S e (rw (m.answers, outcome-is e) at z) ((solvers-rules program word first second S e).0 refl))

pub code-one-structure : OneStructure
code-one-structure program word first second third fourth S Z Y a b u w m n x y =
    let d = ask program word first second S in
    let e = ask program word third fourth S in
    rw (m.leaves, n.leaves)
    (solvers-structure program word first second third fourth S d e
    ((solvers-rules program word first second S d).0 refl) ((solvers-rules program word third fourth S e).0 refl)
    (rw (m.answers, outcome-is d) at x) (rw (n.answers, outcome-is e) at y))
