-- What a piece reads on with, by its first words. Assumes nothing.
use mathlib.Core.Path.{◌≡◌, refl}
use mathlib.Core.Bool.{Bool, true, false, not}
use mathlib.Core.List.{List, [], ◌∷◌}
use Prim.Native.Nat.{ℕ, suc, ◌-◌, ◌≤◌, ◌<◌}
use native.Mathlib.Omega.{arith}
use native.Mathlib.Decide.{ℕ_discrete}
use lib.IntN.{ℤ, pos}
use Rattle.words.proofs.Laws.{number-first}
use Rattle.words.specs.Answer.{got, ◌>>=◌}
use Rattle.words.proofs.AnswerLaws.{tested}
use Rattle.tables.specs.Sizes.{variables, labels, most_fields}
use Rattle.program.specs.Forms.{expression_depth, most_parts, required, operators, form_of, verb_of}
use Rattle.program.specs.Reading.{among, read_path, read_paths, read_form, read_expression, read_part, read_parts, read_constraint, read_fields, read_new}
use Rattle.program.specs.Reading.{read_assign, read_verb, read_with, read_statement}
use Rattle.program.proofs.NumberLaws.{number-of}

-- ---- an expression

module _ (in_c : Bool) (d : ℕ) where
  pub path-opens : (p : List ℤ) → read_expression (suc d) in_c (pos 24 ∷ p) ≡ read_path p
  unfolding read_expression read_form form_of
  path-opens p = rw number-first

  pub operation-opens : (o : ℕ) (p : List ℤ) → 1 ≤ o → o ≤ operators
      → read_expression (suc d) in_c (pos 25 ∷ pos o ∷ p) ≡ (read_expression d in_c p >>= λ r. read_expression d in_c r)
  unfolding read_expression read_form form_of
  operation-opens o p a b = rw (number-first, number-of 1 operators o p a b)

pub paths-open : (p : List ℤ) → read_paths p ≡ (read_path p >>= λ r. read_path r)
unfolding read_paths
paths-open p = refl

pub identity-opens : (d : ℕ) (p : List ℤ) → read_expression (suc d) false (pos 26 ∷ p) ≡ read_paths p
unfolding read_expression read_form form_of
identity-opens d p = rw number-first

-- ---- the parts of C, the fields of a new record

pub parts-open : (m k : ℕ) (p : List ℤ) → 1 ≤ k → k ≤ required → read_parts (suc m) (pos k ∷ p) ≡ (read_expression expression_depth true p >>= λ r. read_parts m r)
unfolding read_parts read_part
parts-open m k p a b = rw (number-of 1 required k p a b)

pub constraint-opens : (m : ℕ) (p : List ℤ) → 1 ≤ m → m ≤ most_parts → read_constraint (pos m ∷ p) ≡ read_parts m p
unfolding read_constraint
constraint-opens m p a b = rw (number-of 1 most_parts m p a b)

pub fields_open {ℓ} : {X : Type ℓ} (n l : ℕ) (seen : List ℕ) (p q : List ℤ) → l < labels → read_fields (suc n) seen (pos l ∷ p) ≡ got q
    → ((read_expression expression_depth false p >>= λ r. read_fields n (l ∷ seen) r) ≡ got q → X) → X
unfolding read_fields
fields_open n l seen p q h e k = tested (pos l ∷ p) (not (among l seen)) _ (rw (number-of 0 (labels - 1) l p (omega arith) (omega arith)) at e) λ c k1. k k1

-- ---- a statement that holds no block

module _ (d : ℕ) (p : List ℤ) where
  pub assign-opens : read_statement d (pos 1 ∷ p) ≡ (read_path p >>= λ r. read_expression expression_depth false r)
  unfolding read_statement read_with read_verb read_assign verb_of
  assign-opens = rw number-first

  pub new-opens : (x n : ℕ) → x < variables → n ≤ most_fields → read_statement d (pos 2 ∷ pos x ∷ pos n ∷ p) ≡ read_fields n [] p
  unfolding read_statement read_with read_verb read_new verb_of
  new-opens x n a b = rw (number-first, number-of 0 (variables - 1) x (pos n ∷ p) (omega arith) (omega arith), number-of 0 most_fields n p (omega arith) b)

  pub always-opens : read_statement d (pos 3 ∷ p) ≡ read_constraint p
  unfolding read_statement read_with read_verb verb_of
  always-opens = rw number-first

  pub once-opens : read_statement d (pos 4 ∷ p) ≡ read_constraint p
  unfolding read_statement read_with read_verb verb_of
  once-opens = rw number-first

  pub same-opens : (verb : ℕ) → 5 ≤ verb → verb ≤ 6 → read_statement d (pos verb ∷ p) ≡ read_paths p
  unfolding read_statement read_with read_verb verb_of
  same-opens verb a b = go (ℕ_discrete verb 5)
    where
      go : Dec (verb ≡ 5) → read_statement d (pos verb ∷ p) ≡ read_paths p
      go (yes e) = rw (e, number-first)
      go (no n) = let e : verb ≡ 6 = omega arith in rw (e, number-first)
