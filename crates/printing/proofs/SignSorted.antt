-- The names of a text's tokens are sorted as its signs are, and its tokens stand for what the signs stand for. Assumes nothing.
use Rattle.std.specs.Prelude.{None, Some}
use mathlib.Core.Path.{◌≡◌, refl, sym, ap, subst, ◌∙◌}
use mathlib.Core.Bool.{true}
use mathlib.Core.List.{List, [], ◌∷◌, ◌++◌}
use Prim.Native.Nat.{ℕ, ◌+◌, ◌*◌, ◌<◌}
use native.Mathlib.Omega.{arith}
use lib.IntN.{ℤ}
use Rattle.words.specs.Range.{fits, ranged}
use Rattle.words.proofs.Laws.{ranged-is}
use Rattle.tables.proofs.SearchLaws.{cases}
use Rattle.tokens.specs.declared.Token.{Token}
use Rattle.tokens.specs.Bytes.{part}
use Rattle.tokens.specs.Codes.{end_code, name_code, number_code, colon_code}
use Rattle.tokens.specs.Numbers.{integer_of}
use Rattle.tokens.specs.Rules.{Digits, Says}
use Rattle.tokens.proofs.NumberLaws.{value-is}
use Rattle.tokens.proofs.NumberRules.{values}
use Rattle.lister.specs.Numerals.{numeral}
use Rattle.lister.specs.Grammar.{Numeral}
use Rattle.lister.specs.Grammar.{Digits as Written}
use Rattle.text.specs.Reading.{Named, number_in}
use Rattle.text.specs.Claims.{Sorted, NumbersFit, meaning}
use Rattle.printing.specs.Signs.{Sign}
use Rattle.printing.specs.Naming.{Naming, first_label, name_of}
use Rattle.printing.specs.Spaced.{Uncoloned, Fine, Spelling, Spells, Tells, Called, variables_of, labels_of}
use Rattle.printing.proofs.FineLaws.{fixed-great}
use Rattle.printing.proofs.SignLaws.{numeral-is}
use Rattle.printing.proofs.SignTokens.{Fitted}
use Rattle.printing.proofs.CalledLaws.{NumbersAre}

-- ---- what a written integer says

digits-say : {s : List ℕ} {n : ℕ} → Written s n → Digits s n
digits-say (Written.first {d = d} l h) = let z : 10 * 0 + d ≡ d = omega arith in subst (λ (m : ℕ). Digits ((48 + d) ∷ []) m) z (Digits.next Digits.none h)
digits-say (Written.next d h) = Digits.next (digits-say d) h

numeral-says : {s : List ℕ} {z : ℤ} → Numeral s z → Says s z
numeral-says Numeral.nought = Says.plain (Digits.next Digits.none (let z : 0 < 10 = omega arith in z))
numeral-says (Numeral.positive d h) = Says.plain (digits-say d)
numeral-says (Numeral.negative {n = n} d h) = Says.negative (digits-say d)

-- a number within 32 bits is known by its range
ranged-one : (y z : ℤ) → fits z ≡ true → ranged y ≡ ranged z → y ≡ z
ranged-one y z h e =
    cases (fits y)
    (λ a. let q : Some y ≡ Some z = sym (ranged-is y ∙ rw a) ∙ e ∙ ranged-is z ∙ rw h in cc)
    (λ a. let q : None ≡ Some z = sym (ranged-is y ∙ rw a) ∙ e ∙ ranged-is z ∙ rw h in let n : ◌≡◌ {A = ℕ} 0 1 = cc in let k : ⊥ = omega arith in absurd k)

integer-is : (z : ℤ) → fits z ≡ true → integer_of (numeral z) ≡ z
integer-is z h = ranged-one (integer_of (numeral z)) z h (sym (value-is (numeral z)) ∙ values (numeral z) z (numeral-says (numeral-is z h)))

module _ (N : Naming) (text : List ℕ) where
  integer-told : (z : ℤ) {t : Token} → fits z ≡ true → Spelling text (numeral z) t → integer_of (part text t.place t.end) ≡ z
  integer-told z h s = ap integer_of s.spelt ∙ integer-is z h

  first-number : {vs : List Named} {t : Token} {ts : List Token} {x : ℕ} {xs : List ℕ} → NumbersAre text vs (t ∷ ts) (x ∷ xs) → number_in text vs t ≡ x
  first-number (NumbersAre.more e n) = e

  other-numbers : {vs : List Named} {t : Token} {ts : List Token} {x : ℕ} {xs : List ℕ} → NumbersAre text vs (t ∷ ts) (x ∷ xs) → NumbersAre text vs ts xs
  other-numbers (NumbersAre.more e n) = n

  -- ---- names are sorted as the signs are

  record Next (ts : List Token) (e : Token) : Type 0 where
    first : Token
    others : List Token
    is : ts ++ e ∷ [] ≡ first ∷ others
    uncoloned : first.code ≡ colon_code → ⊥

  next : {ss : List Sign} {ts : List Token} (e : Token) → e.code ≡ end_code → Uncoloned ss → Spells N text ss ts → Next ts e
  next e k Uncoloned.over Spells.none = record { first = e; others = []; is = refl; uncoloned = λ (z : e.code ≡ colon_code). omega arith }
  next e k (Uncoloned.spaced u) (Spells.blank s) = next e k u s
  next e k (Uncoloned.marked n) (Spells.fixed {t = t} {ts = ts} c s) = record { first = t; others = ts ++ e ∷ []; is = refl; uncoloned = λ z. n (sym c ∙ z) }
  next e k Uncoloned.integer (Spells.integer {t = t} {ts = ts} c l s) = record { first = t; others = ts ++ e ∷ []; is = refl; uncoloned = λ (z : t.code ≡ colon_code). omega arith }
  next e k Uncoloned.variable (Spells.variable {t = t} {ts = ts} c l s) = record { first = t; others = ts ++ e ∷ []; is = refl; uncoloned = λ (z : t.code ≡ colon_code). omega arith }
  next e k Uncoloned.label (Spells.label {t = t} {ts = ts} c l s) = record { first = t; others = ts ++ e ∷ []; is = refl; uncoloned = λ (z : t.code ≡ colon_code). omega arith }

  pub record SortedAs (last : ℕ) (ts : List Token) (e : Token) (ss : List Sign) : Type 0 where
    pub variables : List Token
    pub labels : List Token
    pub sorted : Sorted last (ts ++ e ∷ []) variables labels
    pub variable_names : Called text (name_of N) variables (variables_of ss)
    pub label_names : Called text (λ l. name_of N (first_label + l)) labels (labels_of ss)
    pub fit : NumbersFit text ts
    pub tells : (vs ls : List Named) → NumbersAre text vs variables (variables_of ss) → NumbersAre text ls labels (labels_of ss) → Tells (meaning text vs ls) ss ts

  pub signs-sorted : {last : ℕ} {ss : List Sign} {ts : List Token} (e : Token) → e.code ≡ end_code → Fine last ss → Fitted ss → Spells N text ss ts → SortedAs last ts e ss
  signs-sorted e k Fine.none Fitted.none Spells.none =
      record {
        variables = [];
        labels = [];
        sorted = Sorted.other (λ (z : e.code ≡ name_code). omega arith) Sorted.none;
        variable_names = Called.none;
        label_names = Called.none;
        fit = NumbersFit.none;
        tells = λ vs ls a b. Tells.none;
      }
  signs-sorted e k (Fine.blank b f) (Fitted.blank i) (Spells.blank s) =
      let r = signs-sorted e k f i s in
      record {
        variables = r.variables;
        labels = r.labels;
        sorted = r.sorted;
        variable_names = r.variable_names;
        label_names = r.label_names;
        fit = r.fit;
        tells = λ vs ls a b. Tells.blank (r.tells vs ls a b);
      }
  signs-sorted e k (Fine.fixed n x f) (Fitted.fixed i) (Spells.fixed {t = t} {ts = ts} c s) =
      let r = signs-sorted e k f i s in
      let g = fixed-great x in
      record {
        variables = r.variables;
        labels = r.labels;
        sorted = Sorted.other (λ z. n (sym c ∙ z)) (subst (λ (m : ℕ). Sorted m (ts ++ e ∷ []) r.variables r.labels) (sym c) r.sorted);
        variable_names = r.variable_names;
        label_names = r.label_names;
        fit = NumbersFit.more (λ (z : t.code ≡ number_code). let y : ⊥ = omega arith in absurd y) r.fit;
        tells = λ vs ls a b. Tells.fixed c (r.tells vs ls a b);
      }
  signs-sorted e k (Fine.integer d x f) (Fitted.integer {z = y} h i) (Spells.integer {t = t} {ts = ts} c l s) =
      let r = signs-sorted e k f i s in
      let q : integer_of (part text t.place t.end) ≡ y = integer-told y h l in
      record {
        variables = r.variables;
        labels = r.labels;
        sorted = Sorted.other (λ (z : t.code ≡ name_code). omega arith) (subst (λ (m : ℕ). Sorted m (ts ++ e ∷ []) r.variables r.labels) (sym c) r.sorted);
        variable_names = r.variable_names;
        label_names = r.label_names;
        fit = NumbersFit.more {t = t} (λ z. rw q h) r.fit;
        tells = λ vs ls a b. Tells.integer c q (r.tells vs ls a b);
      }
  signs-sorted {last} e k (Fine.variable n x u f) (Fitted.variable i) (Spells.variable {t = t} {ts = ts} c l s) =
      let r = signs-sorted e k f i s in
      let q : Next ts e = next e k u s in
      record {
        variables = t ∷ r.variables;
        labels = r.labels;
        sorted =
            subst (λ (y : List Token). Sorted last (t ∷ y) (t ∷ r.variables) r.labels) (sym q.is)
            (Sorted.variable n c q.uncoloned (subst (λ (y : List Token). Sorted name_code y r.variables r.labels) q.is r.sorted));
        variable_names = Called.more c l r.variable_names;
        label_names = r.label_names;
        fit = NumbersFit.more (λ (z : t.code ≡ number_code). let y : ⊥ = omega arith in absurd y) r.fit;
        tells = λ vs ls a b. Tells.variable c (first-number a) (r.tells vs ls (other-numbers a) b);
      }
  signs-sorted e k (Fine.behind_dot x f) (Fitted.label i) (Spells.label {t = t} c l s) =
      let r = signs-sorted e k f i s in
      record {
        variables = r.variables;
        labels = t ∷ r.labels;
        sorted = Sorted.behind_dot c r.sorted;
        variable_names = r.variable_names;
        label_names = Called.more c l r.label_names;
        fit = NumbersFit.more (λ (z : t.code ≡ number_code). let y : ⊥ = omega arith in absurd y) r.fit;
        tells = λ vs ls a b. Tells.label c (first-number b) (r.tells vs ls a (other-numbers b));
      }
  signs-sorted e k (Fine.before_colon n f) (Fitted.label i) (Spells.label {t = t} c l (Spells.fixed d s)) =
      let r = signs-sorted e k f i (Spells.fixed d s) in
      record {
        variables = r.variables;
        labels = t ∷ r.labels;
        sorted = Sorted.before_colon n c d r.sorted;
        variable_names = r.variable_names;
        label_names = Called.more c l r.label_names;
        fit = NumbersFit.more (λ (z : t.code ≡ number_code). let y : ⊥ = omega arith in absurd y) r.fit;
        tells = λ vs ls a b. Tells.label c (first-number b) (r.tells vs ls a (other-numbers b));
      }
