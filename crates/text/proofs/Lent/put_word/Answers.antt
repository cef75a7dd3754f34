use mathlib.Core.Path.{refl}
use Rattle.words.proofs.Signed.{back32}
use Rattle.text.proofs.Lent.put_word.Goals as goal

pub returns : goal.returns
returns c =
    let a = c.args in
    record { names_after = refl; words_after = rw (back32 a.w c.ranges.w) at c.store.ensures; origins_after = c.put.ensures }
