-- What is claimed of texts holds. Assumes nothing.
use mathlib.Core.Path.{◌≡◌, sym, ap, ◌∙◌}
use Rattle.tokens.proofs.TextRules.{makes-up}
use Rattle.tokens.proofs.SameLaws.{same-itself}
use Rattle.words.proofs.AnswerLaws.{got-inj}
use Rattle.text.specs.Reading.{Form, Reader}
use Rattle.text.specs.Claims.{AcceptedExactly, Unambiguous, OneReading, Reads}
use Rattle.text.specs.Judge.{RefusedExactly, StandsExactly}
use Rattle.text.proofs.AcceptedSound.{accepted-sound}
use Rattle.text.proofs.TextRead.{accepted-complete}
use Rattle.text.proofs.JudgeLaws.{refused-exactly, stands-exactly}
use Rattle.text.proofs.OneStatement.{text-one}

-- a text is accepted, with these words, origins and names, exactly where the grammar yields it so within the limits
pub accepted-exactly : AcceptedExactly
accepted-exactly text words origins vs ls = (
  λ x. let d : Reads text x.0.words x.0.origins x.1.0.variables x.1.0.labels = accepted-sound text x.0 x.1.0 x.1.1.0 in
      rw (x.1.1.1.0, x.1.1.1.1.0, x.1.1.1.1.1.0, x.1.1.1.1.1.1) at d,
  λ d. accepted-complete makes-up same-itself text words origins vs ls d,
)

-- tokens have one reading at most, limits or not
pub unambiguous : Unambiguous
unambiguous M ts ws vs os us x y = text-one M x y

-- a text reads in one way at most: what is accepted is that of the one reading
pub one-reading : OneReading
one-reading text words words' origins origins' vs vs' ls ls' d e =
    let x = (accepted-exactly text words origins vs ls).1 d in
    let y = (accepted-exactly text words' origins' vs' ls').1 e in
    let same : ◌≡◌ {A = Form × Reader} (x.0, x.1.0) (y.0, y.1.0) = got-inj (sym x.1.1.0 ∙ y.1.1.0) in
    let p = x.1.1.1 in
    let q = y.1.1.1 in (
      sym p.0 ∙ ap (λ (z : Form × Reader). z.0.words) same ∙ q.0,
      (
        sym p.1.0 ∙ ap (λ (z : Form × Reader). z.0.origins) same ∙ q.1.0,
        (
          sym p.1.1.0 ∙ ap (λ (z : Form × Reader). z.1.variables) same ∙ q.1.1.0,
          sym p.1.1.1 ∙ ap (λ (z : Form × Reader). z.1.labels) same ∙ q.1.1.1,
        ),
      ),
    )

-- a refusal's number and place are those of the judge of tokens
pub judge-refused : RefusedExactly
judge-refused = refused-exactly makes-up

-- and a text is accepted exactly where each of its tokens may stand
pub judge-accepted : StandsExactly
judge-accepted = stands-exactly makes-up
