-- The verb of a statement that reads. Assumes nothing.
use mathlib.Core.Path.{◌≡◌, refl, sym, ap, ◌∙◌}
use Prim.Native.Nat.{ℕ, ◌<◌}
use native.Mathlib.Omega.{arith}
use native.Mathlib.Decide.{dec_lt}
use mathlib.Core.Bool.{true, false}
use mathlib.Core.List.{List, ◌++◌}
use lib.IntN.{ℤ}
use lib.ListN.{get_or}
use Rattle.std.specs.Prelude.{is_ok}
use Rattle.words.specs.Words.{number_at}
use Rattle.words.specs.Answer.{got, stop}
use Rattle.words.proofs.Laws.{number-first}
use Rattle.program.specs.Forms.{verbs, verb_of}
use Rattle.program.specs.declared.Verb.{Verb}
use Rattle.program.specs.declared.Verb.TheVariants.{Skip as skip, Assign as assign, New as new, Always as always, Once as once, AlwaysSame as always_same, OnceSame as once_same, If as branch, While as loop, Unknown as no_verb}
use Rattle.program.specs.Grammar.{statement_of, Yields}
use Rattle.program.specs.Told.{told}
use Rattle.program.proofs.FormLaws.{number_of_verb, verb-number}
use Rattle.program.proofs.GrammarLaws.{yields-complete}
use Rattle.program.proofs.BlockLaws.{statement-none}

pub verb-back : (v : Verb) → get_or verbs (number_of_verb v) no_verb ≡ v
verb-back skip = refl
verb-back assign = refl
verb-back new = refl
verb-back always = refl
verb-back once = refl
verb-back always_same = refl
verb-back once_same = refl
verb-back branch = refl
verb-back loop = refl
verb-back no_verb = refl

pub verb-none : (v : Verb) → (number_of_verb v < 9 → ⊥) → v ≡ no_verb
verb-none skip h = absurd (h (omega arith))
verb-none assign h = absurd (h (omega arith))
verb-none new h = absurd (h (omega arith))
verb-none always h = absurd (h (omega arith))
verb-none once h = absurd (h (omega arith))
verb-none always_same h = absurd (h (omega arith))
verb-none once_same h = absurd (h (omega arith))
verb-none branch h = absurd (h (omega arith))
verb-none loop h = absurd (h (omega arith))
verb-none no_verb h = refl

pub told-apart : (p q : List ℤ) → told (stop p) ≡ told (got q) → ⊥
told-apart p q e = let z : false ≡ true = ap is_ok e in absurd (let w : ◌≡◌ {A = ℕ} 0 1 = cc in omega arith)

-- the statement's own word stands for its verb
abbrev pub verb_in : {d : ℕ} {s : List ℤ} → Yields (statement_of d) s → Verb
verb_in Yields.skip = skip
verb_in (Yields.assign x y) = assign
verb_in (Yields.new h k f) = new
verb_in (Yields.always c) = always
verb_in (Yields.once c) = once
verb_in (Yields.always_same x y) = always_same
verb_in (Yields.once_same x y) = once_same
verb_in (Yields.branch x y z) = branch
verb_in (Yields.loop x y) = loop

pub verb-first : {d : ℕ} {s : List ℤ} (y : Yields (statement_of d) s) (q : List ℤ) → number_at (s ++ q) 0 ≡ number_of_verb (verb_in y)
verb-first Yields.skip q = number-first _ _
verb-first (Yields.assign x y) q = number-first _ _
verb-first (Yields.new h k f) q = number-first _ _
verb-first (Yields.always c) q = number-first _ _
verb-first (Yields.once c) q = number-first _ _
verb-first (Yields.always_same x y) q = number-first _ _
verb-first (Yields.once_same x y) q = number-first _ _
verb-first (Yields.branch x y z) q = number-first _ _
verb-first (Yields.loop x y) q = number-first _ _

pub verb-in : {d : ℕ} {s : List ℤ} (y : Yields (statement_of d) s) (q : List ℤ) → verb_of (number_at (s ++ q) 0) ≡ verb_in y
verb-in {d} {s} y q = go (dec_lt (number_of_verb (verb_of (number_at (s ++ q) 0))) 9)
  where
    go : Dec (number_of_verb (verb_of (number_at (s ++ q) 0)) < 9) → verb_of (number_at (s ++ q) 0) ≡ verb_in y
    go (yes l) =
        sym (verb-back (verb_of (number_at (s ++ q) 0)))
        ∙ ap (λ n. get_or verbs n no_verb) (sym (verb-number (number_at (s ++ q) 0) l) ∙ verb-first y q) ∙ verb-back (verb_in y)
    go (no n) = absurd (told-apart (s ++ q) q (statement-none d (s ++ q) (verb-none (verb_of (number_at (s ++ q) 0)) n) ∙ ap told (yields-complete y q)))
