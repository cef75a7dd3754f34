-- The cells that a path leads through: one label at a time, and where the path leads to a cell they are its prefix cells. Assumes nothing.
use Rattle.std.specs.Prelude.{None, Some}
use mathlib.Core.Path.{◌≡◌, refl, ap, ◌∙◌}
use mathlib.Core.List.{List, [], ◌∷◌}
use Prim.Native.Nat.{ℕ, zero, suc}
use lib.IntN.{ℤ}
use lib.ListN.{drop}
use lib.Seq.{drop-drop}
use Rattle.words.specs.Words.{number_at}
use Rattle.words.specs.Answer.{got}
use Rattle.words.proofs.Laws.{number-drop}
use Rattle.tables.specs.declared.Value.TheVariants.{Ref}
use Rattle.tables.specs.Cells.{Cells}
use Rattle.tables.specs.Records.{field_with}
use Rattle.program.proofs.NumberLaws.{number_read}
use Rattle.rules.specs.State.{slot_at}
use Rattle.rules.specs.Paths.{follow, Way, way_at}
use Rattle.rules.proofs.WayLaws.{follow-step, follow-none, way_of}
use Rattle.expressions.specs.Following.{step_to, passed}

-- ---- one label at a time

pub passed_none : (S : Cells) (l : ℕ) (p : List ℤ) → passed S 0 l p ≡ []
unfolding passed
passed_none S l p = refl

pub passed-lost : (S : Cells) (n l : ℕ) (p : List ℤ) → step_to S l (number_at p 0) ≡ None → passed S (suc n) l p ≡ l ∷ []
unfolding passed
passed-lost S n l p e = rw e

pub passed-more : (S : Cells) (n l next : ℕ) (p : List ℤ) → step_to S l (number_at p 0) ≡ Some next → passed S (suc n) l p ≡ l ∷ passed S n next (drop 1 p)
unfolding passed
passed-more S n l next p e = rw e

-- ---- labels that lead to a cell

goes : (S : Cells) (l r next label : ℕ) → slot_at S l ≡ Some (Ref r) → field_with S.heap r label ≡ Some next → step_to S l label ≡ Some next
unfolding step_to
goes S l r next label e h = rw e h

passed-follow : (S : Cells) (n l : ℕ) (p : List ℤ) (x : ℕ × List ℕ) → follow S n l p ≡ got x → x.1 ≡ passed S n l p
passed-follow S zero l p x e = rw (passed_none S l p, follow-none S l p x e)
passed-follow S (suc n) l p x e = follow-step S n l p x e λ r next y e1 e2 e3 q.
    rw (passed-more S n l next p (goes S l r next (number_at p 0) e1 e2), q) (ap (λ ls. l ∷ ls) (passed-follow S n next (drop 1 p) y e3))

-- ---- an L that leads to a cell

-- where its labels stand, and the cells that they lead through
record Labels (S : Cells) (p : List ℤ) (w : Way) : Type 0 where
  leads : follow S (number_at p 1) (number_at p 0) (drop 2 p) ≡ got (w.cell, w.prefix)
  after : w.rest ≡ drop (number_at p 1) (drop 2 p)

module _ (S : Cells) (p : List ℤ) (w : Way) (e : way_at S p ≡ got w) where
  labels : Labels S p w
  labels =
      let o = way_of S p w e in
      let a = number_read 0 63 p o.first_word in
      let b = number_read 0 7 o.counted o.second_word in
      let n : o.steps ≡ number_at p 1 = b.is ∙ rw a.rest (number-drop p 1 0) in
      let ls : o.labels ≡ drop 2 p = b.rest ∙ rw a.rest (drop-drop 1 1 p) in
      record { leads = rw (n, a.is, ls) at o.leads; after = rw (n, ls) at o.after }

  pub way-prefix : w.prefix ≡ passed S (number_at p 1) (number_at p 0) (drop 2 p)
  way-prefix = passed-follow S (number_at p 1) (number_at p 0) (drop 2 p) (w.cell, w.prefix) labels.leads

  pub way-rest : w.rest ≡ drop (number_at p 1) (drop 2 p)
  way-rest = labels.after
