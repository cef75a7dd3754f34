-- What the code writes of a piece is the piece's signs, and what it leaves are the words behind it: the pieces of paths, expressions, constraints and fields. Assumes nothing.
use mathlib.Core.Path.{◌≡◌, refl, sym, ap, ◌∙◌}
use mathlib.Core.List.{List, [], ◌∷◌, append-nil}
use Prim.Native.Nat.{ℕ, zero, suc, ◌+◌, ◌-◌, ◌≤◌, ◌<◌}
use native.Mathlib.Numerals.{add-one, sub-one}
use borrow.Author.Tests.{le-leb, lt-leb}
use lib.IntN.{ℤ}
use lib.ListN.{drop}
use mir.Syntax.{w32}
use mir.Val.{SFits, to_z, of_z}
use Rattle.words.specs.Words.{word_at, number_at}
use Rattle.words.proofs.Signed.{back32}
use Rattle.lister.specs.Numerals.{numeral}
use Rattle.program.specs.Forms.{form_of}
use Rattle.program.specs.declared.Form.{Form}
use Rattle.program.specs.declared.Form.TheVariants.{Unknown as no_form}
use Rattle.program.proofs.FormLaws.{number_of_form, form-is}
use Rattle.text.specs.Reading.{level_of}
use Rattle.printing.specs.Signs.{Sign, integer, variable, label, space, colon_sign, open_brace_sign, close_brace_sign, open_bracket_sign, close_bracket_sign, becomes_sign, new_sign}
use Rattle.printing.specs.Signs.{operator_text, priority_text}
use Rattle.printing.specs.Printing.{Printed, then, say, until, labels_text, path_text, operands_text, operation_text, form_text, expression_text, whole_text, part_text, field_text, fields_text, new_text}
use Rattle.printing.specs.Page.{Added, Wrote}
use Rattle.printing.specs.declared.page.Page.{Page}
use Rattle.printing.proofs.PageLaws.{wrote_none, wrote_then, wrote-plain}

-- a piece is written, and r are the words behind it
abbrev pub Gives : Page → Printed → Page → List ℤ → Type 0
Gives a x b r = record { wrote : Wrote a x.0 b; rest : r ≡ x.1 }

-- a piece that is nothing
pub gives_none : {a : Page} (p : List ℤ) → Gives a ([], p) a p
gives_none p = record { wrote = wrote_none; rest = refl }

module _ {a : Page} where
  -- signs before a piece, and behind it
  pub gives-say : {b c : Page} {r : List ℤ} (ss : List Sign) (x : Printed) → Wrote a ss b → Gives b x c r → Gives a (say ss x) c r
  gives-say ss x w g = record { wrote = wrote_then {ss = ss} {tt = x.0} w g.wrote; rest = g.rest }

  pub gives-until : {b c : Page} {r : List ℤ} (x : Printed) (ss : List Sign) → Gives a x b r → Wrote b ss c → Gives a (until x ss) c r
  gives-until x ss g w = record { wrote = wrote_then {ss = x.0} {tt = ss} g.wrote w; rest = g.rest }

  -- a piece, signs, and a piece from the words behind the first
  pub gives_then : {b c e : Page} {p q r : List ℤ} (x f : List ℤ → Printed) (ss : List Sign)
      → Gives a (x p) b q → Wrote b ss c → Gives c (f q) e r → Gives a (then (x p) (λ s. say ss (f s))) e r
  gives_then {p = p} x f ss g w h =
      let k : Gives _ (f (x p).1) _ _ = rw g.rest at h in
      record { wrote = wrote_then {ss = (x p).0} g.wrote (wrote_then {ss = ss} w k.wrote); rest = k.rest }

-- ---- paths

pub path-gives : {a b c : Page} {x n : ℕ} {q r : List ℤ} (p : List ℤ) → x ≡ number_at p 0 → n ≡ number_at p 1 → q ≡ drop 2 p
    → Wrote a (variable x ∷ []) b → Wrote b (labels_text n q) c → r ≡ drop n q → Gives a (path_text p) c r
unfolding path_text
path-gives p i j k w v l =
    record { wrote = wrote_then {ss = variable (number_at p 0) ∷ []} (rw i at w) (rw (j, k) at v); rest = rw (j, k) at l }

-- ---- expressions

pub expression-deep : {a : Page} (d low : ℕ) (p : List ℤ) → d ≡ 0 → Gives a (expression_text d low p) a p
unfolding expression_text
expression-deep d low p e = rw e (gives_none p)

expression-open : (d low : ℕ) (p : List ℤ) → (d ≡ 0 → ⊥) → form_text (λ l q. expression_text (d - 1) l q) low p (form_of (number_at p 0)) ≡ expression_text d low p
unfolding expression_text
expression-open zero low p h = absurd (h refl)
expression-open (suc d) low p h = rw (sub-one (suc d))

module _ {a : Page} {n : ℕ} (d low : ℕ) (p : List ℤ) (deep : d ≡ 0 → ⊥) (is : n ≡ number_at p 0) where
  -- by the number of its form
  pub form-gives : {b : Page} {r : List ℤ} (f : Form) → n ≡ number_of_form f → number_of_form f < 27
      → Gives a (form_text (λ l q. expression_text (d - 1) l q) low p f) b r → Gives a (expression_text d low p) b r
  form-gives f k h g =
      let e : form_of (number_at p 0) ≡ f = ap form_of (sym is ∙ k) ∙ form-is f h in
      rw (← expression-open d low p deep, e) g

  pub no-form-gives : form_of n ≡ no_form → Gives a (expression_text d low p) a p
  unfolding form_text
  no-form-gives e =
      let z : form_of (number_at p 0) ≡ no_form = ap form_of (sym is) ∙ e in
      rw (← expression-open d low p deep, z) (gives_none p)

pub integer-gives : {a b : Page} {q : List ℤ} {r : List ℤ} {w : ℤ} (p : List ℤ) → q ≡ drop 1 p → w ≡ word_at q 0 → SFits w32 w
    → Added a (numeral (to_z w32 (of_z w32 w))) b → r ≡ drop 1 q
    → Gives a (integer (word_at (drop 1 p) 0) ∷ [], drop 1 (drop 1 p)) b r
integer-gives {a} {b} {q = q} {w = w} p i j f e l =
    let z : word_at (drop 1 p) 0 ≡ w = sym (j ∙ ap (λ s. word_at s 0) i) in record {
      wrote = wrote-plain {ss = integer (word_at (drop 1 p) 0) ∷ []} (rw (append-nil (numeral (word_at (drop 1 p) 0)), z) (rw (back32 w f) at e)) refl;
      rest = rw i at l;
    }

module _ {a : Page} {level : ℕ} {q r : List ℤ} (go : ℕ → List ℤ → Printed) (k : ℕ) where
  pub operands-give : {b c e : Page} (p : List ℤ) → Gives a (go level p) b q → Wrote b (operator_text k) c → Gives c (go (level + 1) q) e r → Gives a (operands_text go k level p) e r
  unfolding operands_text
  operands-give p g w h = gives_then (go level) (go (suc level)) (operator_text k) g w (rw (add-one level) at h)

  module _ (low : ℕ) (p : List ℤ) (i : k ≡ number_at p 0) (j : level ≡ level_of k) (o : q ≡ drop 1 p) where
    pub operation-gives : {b : Page} → low ≤ level → Gives a (operands_text go k level q) b r → Gives a (operation_text go low p) b r
    unfolding operation_text
    operation-gives h g =
        let l : level ≡ level_of (number_at p 0) = j ∙ ap level_of i in
        rw (← l, le-leb low level h, ← i, ← o) g

    pub brackets-give : {b c e : Page} → level < low → Wrote a (open_bracket_sign ∷ []) b → Gives b (operands_text go k level q) c r → Wrote c (close_bracket_sign ∷ []) e
        → Gives a (operation_text go low p) e r
    unfolding operation_text
    brackets-give h w g v =
        let l : level ≡ level_of (number_at p 0) = j ∙ ap level_of i in
        rw (← l, lt-leb low level h, ← i, ← o)
        (gives-say (open_bracket_sign ∷ []) (until (operands_text go k level q) (close_bracket_sign ∷ [])) w (gives-until (operands_text go k level q) (close_bracket_sign ∷ []) g v))

-- ---- constraints and fields

module _ {a b c : Page} {q r : List ℤ} (p : List ℤ) where
  pub part_gives : {k : ℕ} → k ≡ number_at p 0 → Wrote a (priority_text k) b → q ≡ drop 1 p → Gives b (whole_text q) c r → Gives a (part_text p) c r
  unfolding part_text
  part_gives i w o g = gives-say (priority_text (number_at p 0)) (whole_text (drop 1 p)) (rw i at w) (rw o at g)

  pub field-gives : {e : Page} → Wrote a (label (number_at p 0) ∷ []) e → Wrote e (colon_sign ∷ space ∷ []) b → q ≡ drop 1 p → Gives b (whole_text q) c r → Gives a (field_text p) c r
  unfolding field_text
  field-gives w v o g =
      gives-say (label (number_at p 0) ∷ colon_sign ∷ space ∷ []) (whole_text (drop 1 p)) (wrote_then {ss = label (number_at p 0) ∷ []} {tt = colon_sign ∷ space ∷ []} w v) (rw o at g)

  pub new-gives : {e f : Page} {k : ℕ} → k ≡ number_at p 0 → Wrote a (variable k ∷ []) e → Wrote e (space ∷ becomes_sign ∷ space ∷ new_sign ∷ space ∷ open_brace_sign ∷ []) f
      → q ≡ drop 1 p → Gives f (fields_text q) b r → Wrote b (close_brace_sign ∷ []) c → Gives a (new_text p) c r
  unfolding new_text
  new-gives i w v o g u =
      gives-say (variable (number_at p 0) ∷ space ∷ becomes_sign ∷ space ∷ new_sign ∷ space ∷ open_brace_sign ∷ []) (until (fields_text (drop 1 p)) (close_brace_sign ∷ []))
      (wrote_then {ss = variable (number_at p 0) ∷ []} {tt = space ∷ becomes_sign ∷ space ∷ new_sign ∷ space ∷ open_brace_sign ∷ []} (rw i at w) v)
      (gives-until (fields_text (drop 1 p)) (close_brace_sign ∷ []) (rw o at g) u)
