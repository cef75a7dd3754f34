-- Laws of single words: a number in its range, any word, and the forms and verbs by their numbers. Assumes nothing.
use mathlib.Core.Path.{◌≡◌, sym, ap, ◌∙◌}
use mathlib.Core.Bool.{◌&&◌}
use mathlib.Core.List.{List, ◌∷◌}
use Prim.Native.Nat.{ℕ, ◌-◌, ◌≤◌, ◌<◌}
use native.Mathlib.Omega.{arith}
use borrow.Author.Tests.{le-leb, lt-leb, leb-true, lt-ltb, le-ltb, ltb-true}
use lib.Dec.{leb, ltb}
use lib.IntN.{ℤ, pos}
use lib.ListN.{length, drop, get_or-eq_default}
use Rattle.words.specs.Words.{number_at}
use Rattle.words.specs.Answer.{got, stop}
use Rattle.words.proofs.AnswerLaws.{tested, got-inj}
use Rattle.words.proofs.Laws.{number-first, number-cons}
use Rattle.tables.proofs.SearchLaws.{and_left, and_right, and-true}
use Rattle.program.specs.Forms.{forms, form_of, verbs, verb_of}
use Rattle.program.specs.declared.Form.TheVariants.{Unknown as no_form}
use Rattle.program.specs.declared.Verb.TheVariants.{Unknown as no_verb}
use Rattle.program.specs.Reading.{number, any_word}

-- a number that was read: its range, and the word that it is
pub record IsNumber (low high : ℕ) (p : List ℤ) (n : ℕ) (q : List ℤ) : Type 0 where
  pub least : low ≤ n
  pub most : n ≤ high
  pub is : n ≡ number_at p 0
  pub rest : q ≡ drop 1 p

module _ (low high : ℕ) (p : List ℤ) where
  pub number_read : {n : ℕ} {q : List ℤ} → number low high p ≡ got (n, q) → IsNumber low high p n q
  unfolding number
  number_read e =
      tested p (leb low (number_at p 0) && leb (number_at p 0) high) _ e λ c k. record {
        least = let i : number_at p 0 ≡ _ = ap (λ (x : ℕ × List ℤ). x.0) (got-inj k) in rw i at (leb-true low (number_at p 0) (and_left (leb low (number_at p 0)) (leb (number_at p 0) high) c));
        most = let i : number_at p 0 ≡ _ = ap (λ (x : ℕ × List ℤ). x.0) (got-inj k) in rw i at (leb-true (number_at p 0) high (and_right (leb low (number_at p 0)) (leb (number_at p 0) high) c));
        is = sym (ap (λ (x : ℕ × List ℤ). x.0) (got-inj k));
        rest = sym (ap (λ (x : ℕ × List ℤ). x.1) (got-inj k));
      }

  pub number_fits_lem : low ≤ number_at p 0 → number_at p 0 ≤ high → number low high p ≡ got (number_at p 0, drop 1 p)
  unfolding number
  number_fits_lem a b = rw (and-true (leb low (number_at p 0)) (leb (number_at p 0) high) (le-leb low (number_at p 0) a) (le-leb (number_at p 0) high b))

  pub number-low : number_at p 0 < low → number low high p ≡ stop p
  unfolding number
  number-low a = rw (lt-leb low (number_at p 0) a)

  pub number-high : low ≤ number_at p 0 → high < number_at p 0 → number low high p ≡ stop p
  unfolding number
  number-high a b = rw (le-leb low (number_at p 0) a, lt-leb (number_at p 0) high b)

-- the same of a word written as a number
pub number-of : (low high n : ℕ) (q : List ℤ) → low ≤ n → n ≤ high → number low high (pos n ∷ q) ≡ got (n, q)
number-of low high n q a b =
    let i : number_at (pos n ∷ q) 0 ≡ n = number-first (pos n) q in
    number_fits_lem low high (pos n ∷ q) (rw i a) (rw i b) ∙ rw i

-- a part whose first word is a number of a range begins with that word
pub number_is : {low high : ℕ} {p q : List ℤ} {n : ℕ} → high < 2147483648 → IsNumber low high p n q → p ≡ pos n ∷ q
number_is {p = p} h r =
    let l : number_at p 0 < 2147483648 = omega (arith, r.most, r.is) in
    number-cons p l ∙ rw (sym r.is, sym r.rest)

-- any word
pub any-fits : (p : List ℤ) → 0 < length p → any_word p ≡ got (drop 1 p)
unfolding any_word
any-fits p h = rw (lt-ltb 0 (length p) h)

pub any-short : (p : List ℤ) → length p ≤ 0 → any_word p ≡ stop p
unfolding any_word
any-short p h = rw (le-ltb 0 (length p) h)

pub any-read : (p q : List ℤ) → any_word p ≡ got q → (0 < length p) × (q ≡ drop 1 p)
unfolding any_word
any-read p q e = tested p (ltb 0 (length p)) _ e λ c k. (ltb-true 0 (length p) c, sym (got-inj k))

-- ---- numbers that are no form and no verb

pub form-low : (n : ℕ) → n < 20 → form_of n ≡ no_form
unfolding form_of
form-low n h = rw (lt-leb 20 n h)

pub form-high : (n : ℕ) → 26 < n → form_of n ≡ no_form
unfolding form_of
form-high n h = rw (le-leb 20 n (omega arith)) (get_or-eq_default forms no_form {n = n - 20} (omega arith))

pub verb-high : (n : ℕ) → 8 < n → verb_of n ≡ no_verb
unfolding verb_of
verb-high n h = get_or-eq_default verbs no_verb {n = n} (omega arith)
