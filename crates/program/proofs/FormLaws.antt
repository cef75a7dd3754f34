-- The number of a form and of a verb: a word that stands for one is its number. Assumes nothing.
use mathlib.Core.Path.{◌≡◌, refl, ◌∙◌}
use mathlib.Core.Bool.{Bool, true, false}
use mathlib.Core.List.{List, ◌∷◌}
use Prim.Native.Nat.{ℕ, zero, suc, ◌+◌, ◌-◌, ◌<◌}
use native.Mathlib.Omega.{arith}
use borrow.Author.Tests.{leb-true}
use lib.Dec.{leb}
use lib.IntN.{ℤ, pos}
use lib.ListN.{drop, get_or}
use Rattle.words.specs.Words.{number_at}
use Rattle.words.proofs.Laws.{number-cons}
use Rattle.program.specs.Forms.{forms, form_of}
use Rattle.program.specs.declared.Form.{Form}
use Rattle.program.specs.declared.Form.TheVariants.{Nil as a_nil, False as a_false, True as a_true, Integer as an_integer, Path as a_path, Operation as an_operation, Identity as an_identity, Unknown as no_form}
use Rattle.program.specs.Forms.{verbs, verb_of}
use Rattle.program.specs.declared.Verb.{Verb}
use Rattle.program.specs.declared.Verb.TheVariants.{Skip as skip, Assign as assign, New as new, Always as always, Once as once, AlwaysSame as always_same, OnceSame as once_same, If as branch, While as loop, Unknown as no_verb}

-- what is no form has a number past those of the forms, and so for verbs
abbrev pub number_of_form : Form → ℕ
number_of_form a_nil = 20
number_of_form a_false = 21
number_of_form a_true = 22
number_of_form an_integer = 23
number_of_form a_path = 24
number_of_form an_operation = 25
number_of_form an_identity = 26
number_of_form no_form = 27

abbrev pub number_of_verb : Verb → ℕ
number_of_verb skip = 0
number_of_verb assign = 1
number_of_verb new = 2
number_of_verb always = 3
number_of_verb once = 4
number_of_verb always_same = 5
number_of_verb once_same = 6
number_of_verb branch = 7
number_of_verb loop = 8
number_of_verb no_verb = 9

form-at : (k : ℕ) → number_of_form (get_or forms k no_form) < 27 → k + 20 ≡ number_of_form (get_or forms k no_form)
form-at zero h = refl
form-at (suc zero) h = refl
form-at (suc (suc zero)) h = refl
form-at (suc (suc (suc zero))) h = refl
form-at (suc (suc (suc (suc zero)))) h = refl
form-at (suc (suc (suc (suc (suc zero))))) h = refl
form-at (suc (suc (suc (suc (suc (suc zero)))))) h = refl
form-at (suc (suc (suc (suc (suc (suc (suc k))))))) h = absurd (omega arith)

verb-at : (n : ℕ) → number_of_verb (get_or verbs n no_verb) < 9 → n ≡ number_of_verb (get_or verbs n no_verb)
verb-at zero h = refl
verb-at (suc zero) h = refl
verb-at (suc (suc zero)) h = refl
verb-at (suc (suc (suc zero))) h = refl
verb-at (suc (suc (suc (suc zero)))) h = refl
verb-at (suc (suc (suc (suc (suc zero))))) h = refl
verb-at (suc (suc (suc (suc (suc (suc zero)))))) h = refl
verb-at (suc (suc (suc (suc (suc (suc (suc zero))))))) h = refl
verb-at (suc (suc (suc (suc (suc (suc (suc (suc zero)))))))) h = refl
verb-at (suc (suc (suc (suc (suc (suc (suc (suc (suc k))))))))) h = absurd (omega arith)

-- a number that stands for a form, or a verb, is its number
pub form-number : (n : ℕ) → number_of_form (form_of n) < 27 → n ≡ number_of_form (form_of n)
unfolding form_of
form-number n h = go (leb 20 n) refl
  where
    go : (b : Bool) → leb 20 n ≡ b → n ≡ number_of_form (form_of n)
    go true c =
        let e : n ≡ n - 20 + 20 = omega (arith, leb-true 20 n c) in
        rw (c, form_of) (e ∙ form-at (n - 20) (rw (c, form_of) at h))
    go false c = let z : 27 < 27 = rw (c, form_of) at h in absurd (omega arith)

pub verb-number : (n : ℕ) → number_of_verb (verb_of n) < 9 → n ≡ number_of_verb (verb_of n)
unfolding verb_of
verb-number n h = verb-at n h

-- and each number stands for its form, and its verb
pub form-is : (f : Form) → number_of_form f < 27 → form_of (number_of_form f) ≡ f
unfolding form_of
form-is a_nil h = refl
form-is a_false h = refl
form-is a_true h = refl
form-is an_integer h = refl
form-is a_path h = refl
form-is an_operation h = refl
form-is an_identity h = refl
form-is no_form h = absurd (omega arith)

pub verb-is : (v : Verb) → number_of_verb v < 9 → verb_of (number_of_verb v) ≡ v
unfolding verb_of
verb-is skip h = refl
verb-is assign h = refl
verb-is new h = refl
verb-is always h = refl
verb-is once h = refl
verb-is always_same h = refl
verb-is once_same h = refl
verb-is branch h = refl
verb-is loop h = refl
verb-is no_verb h = absurd (omega arith)

module _ {p : List ℤ} where
  -- the words of a piece whose first word stands for a form, and for a verb
  pub form-word : {f : Form} → form_of (number_at p 0) ≡ f → number_of_form f < 27 → p ≡ pos (number_of_form f) ∷ drop 1 p
  form-word {f} e h =
      let i : number_at p 0 ≡ number_of_form f = rw e at (form-number (number_at p 0) (rw e h)) in
      rw i at (number-cons p (rw i (omega arith)))

  pub verb-word : {v : Verb} → verb_of (number_at p 0) ≡ v → number_of_verb v < 9 → p ≡ pos (number_of_verb v) ∷ drop 1 p
  verb-word {v} e h =
      let i : number_at p 0 ≡ number_of_verb v = rw e at (verb-number (number_at p 0) (rw e h)) in
      rw i at (number-cons p (rw i (omega arith)))
