-- In fit tables what names a cell, has a value or has a kind also reads, with the same rest. Assumes nothing.
use mathlib.Core.Path.{◌≡◌, refl}
use mathlib.Core.Bool.{Bool, true, false}
use mathlib.Core.List.{List}
use Prim.Native.Nat.{ℕ, suc, ◌+◌, ◌<◌}
use native.Mathlib.Omega.{arith}
use lib.IntN.{ℤ}
use lib.ListN.{drop}
use lib.Seq.{drop-drop}
use Rattle.words.specs.Words.{number_at}
use Rattle.words.specs.Answer.{got}
use Rattle.words.proofs.Laws.{number-cons}
use Rattle.tables.specs.declared.Value.{Value}
use Rattle.tables.specs.declared.Kind.{Kind}
use Rattle.tables.specs.Sizes.{labels}
use Rattle.tables.specs.Cells.{Cells}
use Rattle.fit.specs.Fit.{Fit}
use Rattle.fit.proofs.FitLaws.{fit-labels}
use Rattle.program.specs.Reading.{read_path, read_expression, read_constraint}
use Rattle.program.specs.Grammar.{Labels, Path, Expression, Parts, Constraint, Takes}
use Rattle.program.proofs.GrammarSound.{takes_none, takes-word, takes-as, takes_two}
use Rattle.program.proofs.GrammarLaws.{path-complete, expression-complete, constraint-complete}
use Rattle.rules.specs.Paths.{Way, way_at}
use Rattle.rules.specs.Evaluation.{evaluate, kind}
use Rattle.rules.specs.Rules.Expressions.{HasField, Leads, here, by, Names, names, Holds, holds}
use Rattle.rules.specs.Rules.Expressions.{Literal, e_literal, e_path, e_operation, e_same, e_differ, Within}
use Rattle.rules.specs.Rules.Expressions.{t_literal, t_path, t_operation, KindWithin}
use Rattle.rules.specs.Steps.Evaluation.{PartReads, PartsRead, ConstraintReads}
use Rattle.rules.proofs.NameLaws.{names-iff}
use Rattle.rules.proofs.OperatorLaws.{makes-operator, gives-operator}
use Rattle.rules.proofs.EvaluationLaws.{evaluate-sound}
use Rattle.rules.proofs.TypingLaws.{kind-sound}

module _ (S : Cells) (fit : Fit S) where
  -- ---- what the rules derive takes words of the grammar

  field-label : {r label l : ℕ} → HasField S.heap r label l → label < labels
  field-label {r} (HasField.field f used is first) = rw is at (fit-labels S fit r f used).0

  leads-take : {l n to : ℕ} {p : List ℤ} {prefix : List ℕ} → Leads S l n p to prefix → Takes (Labels n) p (drop n p)
  leads-take here = takes_none refl Labels.none
  leads-take (by {n = n} {p = p} e h k) =
      let b : number_at p 0 < labels = field-label h in
      let c : 1 + n ≡ suc n = omega arith in
      let d : drop n (drop 1 p) ≡ drop (suc n) p = rw c at (drop-drop n 1 p) in
      takes-word (number-cons p (omega arith)) (takes-as (rw d at (leads-take k)) λ ls x. Labels.one b x)

  names-take : {p : List ℤ} {w : Way} → Names S p w → Takes Path p w.rest
  names-take (names a b l) = takes-word refl (takes-word refl (takes-as (leads-take l) λ ls x. Path.path a b x))

  holds-take : {p q : List ℤ} {v : Value} → Holds S p v q → Takes Path p q
  holds-take (holds n e) = names-take n

  literal-take : {in_c : Bool} {d : ℕ} {p q : List ℤ} {v : Value} → Literal p v q → Takes (Expression in_c (suc d)) p q
  literal-take Literal.nil = takes-word refl (takes_none refl Expression.nil)
  literal-take Literal.no = takes-word refl (takes_none refl Expression.no)
  literal-take Literal.yes = takes-word refl (takes_none refl Expression.yes)
  literal-take Literal.integer = takes-word refl (takes-word refl (takes_none refl Expression.integer))

  value-take : {d : ℕ} {p q : List ℤ} {v : Value} → Within S d p v q → Takes (Expression false d) p q
  value-take (e_literal l) = literal-take l
  value-take (e_path k) = takes-word refl (takes-as (holds-take k) λ a x. Expression.at x)
  value-take (e_operation l r m) =
      takes-word refl (takes-word refl (takes_two (value-take l) (value-take r) λ x y f g. Expression.operation (makes-operator m).0 (makes-operator m).1 f g))
  value-take (e_same k l e) = takes-word refl (takes_two (holds-take k) (holds-take l) λ a b x y. Expression.identity refl x y)
  value-take (e_differ k l e) = takes-word refl (takes_two (holds-take k) (holds-take l) λ a b x y. Expression.identity refl x y)

  kind-take : {d : ℕ} {p q : List ℤ} {k : Kind} → KindWithin S d p k q → Takes (Expression true d) p q
  kind-take (t_literal l) = literal-take l
  kind-take (t_path k) = takes-word refl (takes-as (holds-take k) λ a x. Expression.at x)
  kind-take (t_operation l r t) =
      takes-word refl (takes-word refl (takes_two (kind-take l) (kind-take r) λ x y f g. Expression.operation (gives-operator t).0 (gives-operator t).1 f g))

  parts-take : {m : ℕ} {p q : List ℤ} → PartsRead S m p q → Takes (Parts m) p q
  parts-take PartsRead.none = takes_none refl Parts.none
  parts-take (PartsRead.one x y) = first x (parts-take y)
    where
      first : {m : ℕ} {p q r : List ℤ} → PartReads S p q → Takes (Parts m) q r → Takes (Parts (suc m)) p r
      first (PartReads.part a b k) t = takes-word refl (takes_two (kind-take k) t λ x y f g. Parts.one a b f g)

  -- ---- so it reads

  -- an L that names a cell reads
  pub way-reads : (p : List ℤ) (w : Way) → way_at S p ≡ got w → read_path p ≡ got w.rest
  way-reads p w e = done (names-take ((names-iff S p w).0 e))
    where
      done : {p q : List ℤ} → Takes Path p q → read_path p ≡ got q
      done {q = q} t = rw t.split (path-complete t.piece q)

  taken : {p q : List ℤ} {in_c : Bool} {d : ℕ} → Takes (Expression in_c d) p q → read_expression d in_c p ≡ got q
  taken {q = q} t = rw t.split (expression-complete t.piece q)

  -- an expression that has a value reads
  pub evaluate-reads : (d : ℕ) (p : List ℤ) (v : Value) (q : List ℤ) → evaluate d S p ≡ got (v, q) → read_expression d false p ≡ got q
  evaluate-reads d p v q e = let w : Within S d p v q = evaluate-sound S d p (v, q) e in taken (value-take w)

  -- one that has a kind reads inside C
  pub kind-reads : (d : ℕ) (p : List ℤ) (k : Kind) (q : List ℤ) → kind d S p ≡ got (k, q) → read_expression d true p ≡ got q
  kind-reads d p k q e = let w : KindWithin S d p k q = kind-sound S d p (k, q) e in taken (kind-take w)

  -- a C that reads by its kinds and paths reads by its words
  pub constraint-take : {p : List ℤ} → ConstraintReads S p → (q : List ℤ) × Takes Constraint p q
  constraint-take (ConstraintReads.constraint {q = q} a b x) = (q, takes-word refl (takes-as (parts-take x) λ ps y. Constraint.constraint a b y))

  pub constraint-reads : {p : List ℤ} → ConstraintReads S p → (q : List ℤ) × (read_constraint p ≡ got q)
  constraint-reads c = let t = constraint-take c in (t.0, done t.1)
    where
      done : {p q : List ℤ} → Takes Constraint p q → read_constraint p ≡ got q
      done {q = q} t = rw t.split (constraint-complete t.piece q)
