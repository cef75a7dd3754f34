-- Ways, kinds, ties and what a path names depend on the structure only.
-- Assumes nothing.
use Rattle.std.specs.Prelude.{Option}
use mathlib.Core.Path.{◌≡◌, refl}
use mathlib.Core.List.{List, [], ◌∷◌}
use Prim.Native.Nat.{ℕ, zero, suc, ◌+◌, ◌-◌}
use lib.IntN.{ℤ}
use lib.ListN.{drop}
use Rattle.words.specs.Words.{number_at}
use Rattle.words.specs.Answer.{got, stop, ◌>>=◌}
use Rattle.words.proofs.AnswerLaws.{either, bind-cong}
use Rattle.tables.specs.declared.Value.{Value}
use Rattle.tables.specs.declared.Kind.{Kind}
use Rattle.tables.specs.Sizes.{variables}
use Rattle.tables.specs.Cells.{Cells, cell_at}
use Rattle.tables.specs.Records.{field_with}
use Rattle.program.specs.Forms.{operators, most_steps, form_of}
use Rattle.program.specs.declared.Form.{Form}
use Rattle.program.specs.declared.Form.TheVariants.{Nil as a_nil, False as a_false, True as a_true, Integer as an_integer, Path as a_path, Operation as an_operation, Identity as an_identity, Unknown as no_form}
use Rattle.program.specs.Reading.{number}
use Rattle.rules.specs.State.{Fault, Res, or_refuse, reads, slot_at, present}
use Rattle.rules.specs.Paths.{a_record, a_field, follow, way_at, value_at}
use Rattle.rules.specs.Evaluation.{kind_of, kind_form, kind}
use Rattle.rules.specs.Identities.{tie_at, ties_of, ties}
use Rattle.rules.specs.Structure.{Same}
use Rattle.rules.proofs.Structure.{Alike, nils, truths, ints, refs, AlikeSlot, absents, held, alike_at, slots-alike, field-same}

-- two answers of a path: alike values with the same part after them, or the same refusal
pub data Both : Res (Value × List ℤ) → Res (Value × List ℤ) → Type 0 where
  answers : {v w : Value} {q : List ℤ} → Alike v w → Both (got (v, q)) (got (w, q))
  refuses : {f : Fault} → Both (stop f) (stop f)

record_same : {x y : Option Value} → AlikeSlot x y → a_record x ≡ a_record y
record_same absents = refl
record_same (held nils) = refl
record_same (held truths) = refl
record_same (held ints) = refl
record_same (held refs) = refl

present-both : (p q : List ℤ) {x y : Option Value} → AlikeSlot x y → Both (or_refuse 7 p (present x) >>= λ v. got (v, q)) (or_refuse 7 p (present y) >>= λ v. got (v, q))
present-both p q absents = refuses
present-both p q (held a) = answers a

alike-kind : {v w : Value} → Alike v w → kind_of v ≡ kind_of w
alike-kind nils = refl
alike-kind truths = refl
alike-kind ints = refl
alike-kind refs = refl

abbrev kinded : Value × List ℤ → Res (Kind × List ℤ)
kinded u = got (kind_of u.0, u.1)

both-kind : {x y : Res (Value × List ℤ)} → Both x y → (x >>= kinded) ≡ (y >>= kinded)
both-kind (answers a) = rw (alike-kind a)
both-kind refuses = refl

module _ (S Z : Cells) (s : Same S Z) where
  -- a cell holds alike values in both
  pub slot_same : (l : ℕ) → AlikeSlot (slot_at S l) (slot_at Z l)
  unfolding slot_at
  slot_same l = slots-alike (cell_at S l) (cell_at Z l) (alike_at s l)

  follow-same : (n l : ℕ) (p : List ℤ) → follow S n l p ≡ follow Z n l p
  unfolding follow
  follow-same zero l p = refl
  follow-same (suc n) l p =
      rw (← record_same (slot_same l))
      (bind-cong (a_record (slot_at S l)) _ _ λ r e.
      rw (← field-same S Z s r (number_at p 0))
      (bind-cong (a_field (field_with S.heap r (number_at p 0))) _ _ λ next e1.
      rw (← follow-same n next (drop 1 p))))

  -- an L has the same way in both: the same cell and prefix cells, or the same refusal
  pub way_same : (p : List ℤ) → way_at S p ≡ way_at Z p
  unfolding way_at
  way_same p =
      bind-cong (reads (number 0 (variables - 1) p)) _ _ λ x e.
      bind-cong (reads (number 0 most_steps x.1)) _ _ λ n e1.
      rw (← follow-same n.0 x.0 n.1)

  -- and names alike values
  pub value-both : (p : List ℤ) → Both (value_at S p) (value_at Z p)
  unfolding value_at
  value-both p =
      rw (← way_same p)
      (either (way_at S p)
      (λ w e. rw e (present-both p w.rest (slot_same w.cell)))
      (λ f e. rw e refuses))

  -- ---- kinds

  module _ (go no : List ℤ → Res (Kind × List ℤ)) (ih : (q : List ℤ) → go q ≡ no q) where
    kind-form : (p : List ℤ) (x : Form) → kind_form go S p x ≡ kind_form no Z p x
    unfolding kind_form
    kind-form p a_nil = refl
    kind-form p a_false = refl
    kind-form p a_true = refl
    kind-form p an_integer = refl
    kind-form p a_path = both-kind (value-both (drop 1 p))
    kind-form p an_operation =
        bind-cong (reads (number 1 operators (drop 1 p))) _ _ λ o e.
        rw (← ih o.1)
        (bind-cong (go o.1) _ _ λ a e1.
        rw (← ih a.1))
    kind-form p an_identity = refl
    kind-form p no_form = refl

  -- an expression has the same kind in both, or the same refusal
  pub kind-same : (d : ℕ) (p : List ℤ) → kind d S p ≡ kind d Z p
  unfolding kind
  kind-same zero p = refl
  kind-same (suc d) p = kind-form (λ q. kind d S q) (λ q. kind d Z q) (λ q. kind-same d q) p (form_of (number_at p 0))

  -- ---- kept identities

  tie-same : (p : List ℤ) → tie_at S p ≡ tie_at Z p
  unfolding tie_at
  tie-same p =
      rw (← way_same p)
      (bind-cong (way_at S p) _ _ λ a e.
      rw (← way_same a.rest))

  ties-of-same : (program : List ℤ) (ps : List ℕ) → ties_of program S ps ≡ ties_of program Z ps
  unfolding ties_of
  ties-of-same program [] = refl
  ties-of-same program (position ∷ more) = rw (← tie-same (drop (position + 1) program), ← ties-of-same program more)

  -- the kept identities tie the same cells, with the same prefix cells; so frozen cells and classes, which are made from the ties, are the same
  pub ties-same : (program kept : List ℤ) → ties program kept S ≡ ties program kept Z
  unfolding ties
  ties-same program kept = ties-of-same program _
