use mathlib.Core.Path.{refl}
use Rattle.words.proofs.Signed.{back32}
use Rattle.words.proofs.answer_with.Goals as goal

pub returns : goal.returns
returns c =
    rw (
      back32 c.word_of-a.result (record { sfits = c.word_of-a.type_inv }),
      back32 c.word_of-b.result (record { sfits = c.word_of-b.type_inv }),
      back32 c.word_of-c.result (record { sfits = c.word_of-c.type_inv }),
      back32 c.word_of-d.result (record { sfits = c.word_of-d.type_inv }),
      c.word_of-a.ensures,
      c.word_of-b.ensures,
      c.word_of-c.ensures,
      c.word_of-d.ensures,
    ) refl
