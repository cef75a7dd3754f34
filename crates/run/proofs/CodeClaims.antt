-- The claims of specs/Claims.antt. Assumes nothing.
use mathlib.Core.Path.{◌≡◌, refl, sym, ap, ◌∙◌}
use lib.IntN.{pos}
use Rattle.words.specs.Words.{number_at}
use Rattle.words.proofs.Laws.{number-first, number-drop}
use Rattle.rules.specs.Start.{Ended, run}
use Rattle.rules.proofs.RunFacts.{answers}
use Rattle.rules.proofs.AnswerRules.{rules}
use Rattle.rules.proofs.StandClaims.{runs-stand}
use Rattle.rules.proofs.OneStructure.{one-structure}
use Rattle.run.specs.Told.{answer_of}
use Rattle.run.specs.Claims.{OneAnswer, EveryAnswer, AnswersExactly, StandsAfter, OneStructure}

-- the words of an answer are its numbers
module _ (e : Ended) where
  pub outcome-is : number_at (answer_of e) 0 ≡ e.outcome
  outcome-is = number-first (pos e.outcome) _

  pub place_is : number_at (answer_of e) 1 ≡ e.place
  place_is = sym (number-drop (answer_of e) 1 0) ∙ number-first (pos e.place) _

  pub steps-are : number_at (answer_of e) 2 ≡ e.steps
  steps-are = sym (number-drop (answer_of e) 2 0) ∙ number-first (pos e.steps) _

  pub accepted-are : number_at (answer_of e) 3 ≡ e.accepted
  accepted-are = sym (number-drop (answer_of e) 3 0) ∙ number-first (pos e.accepted) _

pub one_answer : OneAnswer
one_answer e Z Y a b u w m n = (m.leaves ∙ sym n.leaves, (m.answers ∙ sym n.answers, m.hands_back ∙ sym n.hands_back))

pub every-answer : EveryAnswer
every-answer program ws budget S Z a u m =
    let e = run program ws budget S in
    let f = answers program ws budget S e ((rules program ws budget S e).0 refl) in
    rw (m.answers, m.leaves, m.hands_back)
    (record {
      four = refl;
      known = rw (outcome-is e) f.known;
      untouched = λ l h.
          let q = (f.early (rw (outcome-is e) at l) (rw (outcome-is e) at h)).1 in
          rw (steps-are e, accepted-are e) (ap (λ x. x.state) q, (ap (λ x. x.unread) q, (ap (λ x. x.steps) q, ap (λ x. x.accepted) q)));
      at_statement = λ h apart. rw (place_is e) (f.at_statement (rw (outcome-is e) at h) (rw (outcome-is e) at apart));
      inside = λ o. rw (outcome-is e, place_is e) (f.inside (rw (outcome-is e) at o));
      steps = rw (steps-are e) f.steps;
      accepted = rw (accepted-are e, steps-are e) f.accepted;
      part = f.unread;
      reached = rw (accepted-are e) f.reached;
    })

pub answers-exactly : AnswersExactly
answers-exactly program ws budget S Z a u m = (
  (run program ws budget S, (rules program ws budget S (run program ws budget S)).0 refl),
  λ e d. rw ((rules program ws budget S e).1 d) at m,
)

pub stands_after : StandsAfter
stands_after program ws budget S Z a u m h =
    rw m.leaves (runs-stand program ws budget S (run program ws budget S) (rw (m.answers, outcome-is (run program ws budget S)) at h) ((rules program ws budget S (run program ws budget S)).0 refl))

pub code-one-structure : OneStructure
code-one-structure program ws us budget budget' S Z Y a b u w m n x y t =
    let d = run program ws budget S in
    let e = run program us budget' S in
    rw (m.leaves, n.leaves)
    (one-structure program ws us budget budget' S d e ((rules program ws budget S d).0 refl) ((rules program us budget' S e).0 refl)
    (rw (m.answers, outcome-is d) at x) (rw (n.answers, outcome-is e) at y) t)
