-- The claims of specs/Claims.antt. Assumes nothing.
use mathlib.Core.Path.{refl, ap}
use Rattle.rules.specs.Entries.{assigns}
use Rattle.rules.proofs.EntryRules.{entries-rules}
use Rattle.rules.proofs.EntryFacts.{entries-answers, entries-stand}
use Rattle.rules.proofs.EntryStructure.{entries-structure}
use Rattle.run.proofs.CodeClaims.{outcome-is, place_is, steps-are, accepted-are}
use Rattle.entries.specs.Claims.{EveryAnswer, AnswersExactly, StandsAfter, OneStructure}

pub every-answer : EveryAnswer
every-answer program entries ws budget S Z a u m =
    let e = assigns program entries ws budget S in
    let f = entries-answers program entries ws budget S e ((entries-rules program entries ws budget S e).0 refl) in
    rw (m.answers, m.leaves, m.hands_back)
    (record {
      four = refl;
      known = rw (outcome-is e) f.known;
      untouched = λ l h.
          let q = (f.early (rw (outcome-is e) at l) (rw (outcome-is e) at h)).1 in
          rw (steps-are e, accepted-are e) (ap (λ x. x.state) q, (ap (λ x. x.unread) q, (ap (λ x. x.steps) q, ap (λ x. x.accepted) q)));
      went = λ h. rw (accepted-are e, place_is e) (f.went (rw (outcome-is e) at h));
      counted = λ o. rw (steps-are e, accepted-are e) (f.counted (rw (outcome-is e) at o));
      begun = λ l h. rw (steps-are e, accepted-are e) (f.begun (rw (outcome-is e) at l) (rw (outcome-is e) at h));
      steps = rw (steps-are e) f.steps;
      part = f.unread;
    })

pub answers-exactly : AnswersExactly
answers-exactly program entries ws budget S Z a u m = (
  (assigns program entries ws budget S, (entries-rules program entries ws budget S (assigns program entries ws budget S)).0 refl),
  λ e d. rw ((entries-rules program entries ws budget S e).1 d) at m,
)

pub stands_after : StandsAfter
stands_after program entries ws budget S Z a u m h =
    let e = assigns program entries ws budget S in
    rw m.leaves (entries-stand program entries ws budget S e (rw (m.answers, outcome-is e) at h) ((entries-rules program entries ws budget S e).0 refl))

pub code-one-structure : OneStructure
code-one-structure program entries ws us budget budget' S Z Y a b u w m n x y =
    let d = assigns program entries ws budget S in
    let e = assigns program entries us budget' S in
    rw (m.leaves, n.leaves)
    (entries-structure program entries ws us budget budget' S d e ((entries-rules program entries ws budget S d).0 refl) ((entries-rules program entries us budget' S e).0 refl)
    (rw (m.answers, outcome-is d) at x) (rw (n.answers, outcome-is e) at y))
