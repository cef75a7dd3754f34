-- Each number from 0 to 8 stands for its verb, and what a statement that holds no block does, by the number of its verb. Assumes nothing.
use mathlib.Core.Path.{◌≡◌, refl, sym, ap, ◌∙◌}
use mathlib.Core.List.{List, [], ◌∷◌, ◌++◌}
use Prim.Native.Nat.{ℕ, ◌<◌}
use native.Mathlib.Omega.{arith}
use lib.IntN.{ℤ, pos}
use Rattle.words.proofs.Laws.{number-first}
use Rattle.program.specs.Forms.{verb_of}
use Rattle.program.specs.declared.Verb.{Verb}
use Rattle.program.specs.declared.Verb.TheVariants.{Skip as skip, Assign as assign, New as new, Always as always, Once as once, AlwaysSame as always_same, OnceSame as once_same, If as branch, While as loop, Unknown as no_verb}
use Rattle.program.specs.Grammar.{Labels, Path, Expression, Parts, Constraint, Fields, Yields, statement_of, block_of}
use Rattle.program.proofs.FormLaws.{number_of_verb}
use Rattle.rules.specs.State.{State, Res, refuse}
use Rattle.rules.specs.Statements.{Left, do_simple}
use Rattle.rules.proofs.VerbLaws.{verb_in, verb-in}
use Rattle.rules.proofs.StatementClauses.{simple-branch, simple-loop, simple-none}

-- ---- a statement of each verb

variable : Path (pos 0 ∷ pos 0 ∷ [])
variable = Path.path {x = 0} {n = 0} (omega arith) (omega arith) Labels.none

one-part : Constraint (pos 1 ∷ pos 1 ∷ pos 20 ∷ [])
one-part = Constraint.constraint {m = 1} (omega arith) (omega arith) (Parts.one {k = 1} (omega arith) (omega arith) Expression.nil Parts.none)

empty : Yields (block_of 1) (pos 0 ∷ [])
empty = Yields.block {n = 0} (omega arith) Yields.none

verb-begins : (k : ℕ) (ws : List ℤ) (y : Yields (statement_of 1) (pos k ∷ ws)) → verb_of k ≡ verb_in y
verb-begins k ws y = rw (number-first (pos k) (ws ++ [])) at (verb-in y [])

pub verb-is : (v : Verb) → number_of_verb v < 9 → verb_of (number_of_verb v) ≡ v
verb-is skip h = verb-begins 0 [] Yields.skip
verb-is assign h = verb-begins 1 _ (Yields.assign variable Expression.nil)
verb-is new h = verb-begins 2 _ (Yields.new {x = 0} {n = 0} (omega arith) (omega arith) Fields.none)
verb-is always h = verb-begins 3 _ (Yields.always one-part)
verb-is once h = verb-begins 4 _ (Yields.once one-part)
verb-is always_same h = verb-begins 5 _ (Yields.always_same variable variable)
verb-is once_same h = verb-begins 6 _ (Yields.once_same variable variable)
verb-is branch h = verb-begins 7 _ (Yields.branch Expression.nil empty empty)
verb-is loop h = verb-begins 8 _ (Yields.loop Expression.nil empty)
verb-is no_verb h = let z : ⊥ = omega arith in absurd z

-- ---- by the number of the verb

module _ (program p : List ℤ) (S : State) (ws : List ℤ) {verb : ℕ} where
  pub simple-by : (v : Verb) {m : Res Left} → verb ≡ number_of_verb v → number_of_verb v < 9 → do_simple program p S ws v ≡ m → m ≡ do_simple program p S ws (verb_of verb)
  simple-by v e h q = sym q ∙ ap (do_simple program p S ws) (sym (verb-is v h) ∙ ap verb_of (sym e))

-- ---- what holds blocks, or is no verb

pub simple-other : (program p : List ℤ) (S : State) (ws : List ℤ) (v : Verb) → (v ≡ skip → ⊥) → (v ≡ assign → ⊥) → (v ≡ new → ⊥) → (v ≡ always → ⊥) → (v ≡ once → ⊥) → (v ≡ always_same → ⊥) → (v ≡ once_same → ⊥)
    → do_simple program p S ws v ≡ refuse 2 p
simple-other program p S ws skip a b c d e f g = absurd (a refl)
simple-other program p S ws assign a b c d e f g = absurd (b refl)
simple-other program p S ws new a b c d e f g = absurd (c refl)
simple-other program p S ws always a b c d e f g = absurd (d refl)
simple-other program p S ws once a b c d e f g = absurd (e refl)
simple-other program p S ws always_same a b c d e f g = absurd (f refl)
simple-other program p S ws once_same a b c d e f g = absurd (g refl)
simple-other program p S ws branch a b c d e f g = simple-branch program p S ws
simple-other program p S ws loop a b c d e f g = simple-loop program p S ws
simple-other program p S ws no_verb a b c d e f g = simple-none program p S ws
