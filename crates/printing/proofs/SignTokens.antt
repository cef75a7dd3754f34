-- A text whose signs stand apart has exactly their tokens. Assumes nothing.
use mathlib.Core.Path.{◌≡◌, refl, sym, ap, subst, ◌∙◌}
use mathlib.Core.Bool.{Bool, true}
use mathlib.Core.List.{List, [], ◌∷◌, ◌++◌, append_assoc}
use Prim.Native.Nat.{ℕ, ◌+◌, ◌-◌, ◌≤◌}
use native.Mathlib.Omega.{arith}
use lib.IntN.{ℤ}
use lib.ListN.{length, drop, length-drop, length-append}
use lib.Seq.{drop-drop, take-append_seam, drop-append_seam}
use Rattle.words.specs.Range.{fits}
use Rattle.tokens.specs.declared.Token.{Token}
use Rattle.tokens.specs.Bytes.{part, is_white}
use Rattle.tokens.specs.Codes.{end_code, number_code, dot_code}
use Rattle.tokens.specs.Tokens.{token, most_bytes, token_from}
use Rattle.tokens.specs.Rules.{All, Over, TokenIs, TokenFrom}
use Rattle.tokens.proofs.TextRules.{follows-complete}
use Rattle.tokens.proofs.ApartLaws.{unnamed-58}
use Rattle.lister.specs.Numerals.{numeral}
use Rattle.text.specs.Reading.{due_after}
use Rattle.text.specs.Claims.{TokensOf}
use Rattle.printing.specs.Signs.{Sign, colon_sign}
use Rattle.printing.specs.Naming.{Naming, first_label, name_of, bytes_of, numbers_of}
use Rattle.printing.specs.Faults.{is_name}
use Rattle.printing.specs.Claims.{Used}
use Rattle.printing.specs.Spaced.{Ends, Fine, Spelling, Spells}
use Rattle.printing.proofs.SignLaws.{Begins, name-begins, integer-begins, fixed-begins}

-- every integer fits 32 bits
pub data Fitted : List Sign → Type 0 where
  none : Fitted []
  blank : {s : List ℕ} {ss : List Sign} → Fitted ss → Fitted (Sign.blank s ∷ ss)
  fixed : {c : ℕ} {s : List ℕ} {ss : List Sign} → Fitted ss → Fitted (Sign.fixed c s ∷ ss)
  integer : {z : ℤ} {ss : List Sign} → fits z ≡ true → Fitted ss → Fitted (Sign.integer z ∷ ss)
  variable : {x : ℕ} {ss : List Sign} → Fitted ss → Fitted (Sign.variable x ∷ ss)
  label : {l : ℕ} {ss : List Sign} → Fitted ss → Fitted (Sign.label l ∷ ss)

-- every name is one of the notation
abbrev pub Good : Naming → List Sign → Type 0
Good N ss = (i : ℕ) → Used i (numbers_of ss) → is_name (name_of N i) ≡ true

all_append : {p : ℕ → Bool} {s t : List ℕ} → All p s → All p t → All p (s ++ t)
all_append All.none b = b
all_append (All.more e a) b = All.more e (all_append a b)

module _ (N : Naming) (text : List ℕ) where
  -- ---- where a sign's bytes lie

  record Lies (at : ℕ) (s rest : List ℕ) : Type 0 where
    behind : drop (at + length s) text ≡ rest
    inside : at + length s ≤ length text
    spelt : part text at (at + length s) ≡ s

  lies : (at : ℕ) (s rest : List ℕ) → at ≤ length text → drop at text ≡ s ++ rest → Lies at s rest
  lies at s rest h e =
      let k : length text - at ≡ length s + length rest = sym (length-drop at text) ∙ ap length e ∙ length-append s rest in
      let z : at + length s - at ≡ length s = omega arith in
      record {
        behind = sym (drop-drop (length s) at text) ∙ ap (drop (length s)) e ∙ drop-append_seam s rest;
        inside = omega arith;
        spelt = rw (z, e) (take-append_seam s rest);
      }

  -- the tokens of signs from a byte on, behind a token of code `last`
  pub record Told (last at : ℕ) (ss : List Sign) : Type 0 where
    pub tokens : List Token
    pub to : ℕ
    pub behind : ℕ
    pub spelt : TokensOf text at last tokens to behind
    pub ends : (token_from (due_after behind) text to).code ≡ end_code
    pub spells : Spells N text ss tokens

  module _ (short : length text ≤ most_bytes) where
    -- one sign, behind white space
    one : {last at c : ℕ} {ss : List Sign} (sign : Sign) (w s : List ℕ) → All is_white w → at ≤ length text → drop at text ≡ w ++ (s ++ bytes_of N ss)
        → Begins (due_after last) s (bytes_of N ss) c
        → ((t : Token) (ts : List Token) → t.code ≡ c → Spelling text s t → Spells N text ss ts → Spells N text (sign ∷ ss) (t ∷ ts))
        → ((to : ℕ) → to ≤ length text → drop to text ≡ bytes_of N ss → Told c to ss) → Told last at (sign ∷ ss)
    one {last} {at} {c} {ss} sign w s a h e b f go =
        let x : Lies at w (s ++ bytes_of N ss) = lies at w (s ++ bytes_of N ss) h e in
        let y : Lies (at + length w) s (bytes_of N ss) = lies (at + length w) s (bytes_of N ss) x.inside x.behind in
        let t : Token = token c (at + length w) (at + length w + length s) in
        let r : Told c (at + length w + length s) ss = go (at + length w + length s) y.inside y.behind in
        let i = y.inside in
        record {
          tokens = t ∷ r.tokens;
          to = r.to;
          behind = r.behind;
          spelt = TokensOf.more (follows-complete (due_after last) text at h t (TokenFrom.within e a b.dark b.token (omega arith))) r.spelt;
          ends = r.ends;
          spells = f t r.tokens refl (record { spelt = y.spelt; whole = omega (arith, b.some); inside = y.inside }) r.spells;
        }

    pub signs-tokens : {last : ℕ} {ss : List Sign} → Fine last ss → Good N ss → Fitted ss → (at : ℕ) (w : List ℕ) → All is_white w → at ≤ length text
        → drop at text ≡ w ++ bytes_of N ss → Told last at ss
    signs-tokens {last} Fine.none g i at w a h e =
        let x : Lies at w [] = lies at w [] h e in
        let k = x.inside in
        record {
          tokens = [];
          to = at;
          behind = last;
          spelt = TokensOf.none;
          ends =
              ap (λ (t : Token). t.code)
              (follows-complete (due_after last) text at h (token end_code (at + length w) (at + length w + 0)) (TokenFrom.within e a Over.ended TokenIs.ended (omega arith)));
          spells = Spells.none;
        }
    signs-tokens {last} (Fine.blank {s = s} {ss = ss} b f) g (Fitted.blank i) at w a h e =
        let r : Told last at ss = signs-tokens f g i at (w ++ s) (all_append a b) h (e ∙ sym (append_assoc w s (bytes_of N ss))) in
        record { tokens = r.tokens; to = r.to; behind = r.behind; spelt = r.spelt; ends = r.ends; spells = Spells.blank r.spells }
    signs-tokens {last} (Fine.fixed {c = c} {s = s} n x f) g (Fitted.fixed i) at w a h e =
        one (Sign.fixed c s) w s a h e (fixed-begins (due_after last) N x) (λ t ts k l r. Spells.fixed k r) (λ to l d. signs-tokens f g i to [] All.none l d)
    signs-tokens {last} (Fine.integer {z = z} {ss = ss} d k f) g (Fitted.integer q i) at w a h e =
        one (Sign.integer z) w (numeral z) a h e (subst (λ (b : Bool). Begins b (numeral z) (bytes_of N ss) number_code) (sym d) (integer-begins N z q k)) (λ t ts c l r. Spells.integer c l r)
        (λ to l b. signs-tokens f g i to [] All.none l b)
    signs-tokens {last} (Fine.variable {x = x} n k u f) g (Fitted.variable i) at w a h e =
        one (Sign.variable x) w (name_of N x) a h e (name-begins (due_after last) N (name_of N x) (g x Used.here) k) (λ t ts c l r. Spells.variable c l r)
        (λ to l b. signs-tokens f (λ j q. g j (Used.later q)) i to [] All.none l b)
    signs-tokens (Fine.behind_dot {l = l} k f) g (Fitted.label i) at w a h e =
        one (Sign.label l) w (name_of N (first_label + l)) a h e (name-begins (due_after dot_code) N (name_of N (first_label + l)) (g (first_label + l) Used.here) k)
        (λ t ts c x r. Spells.label c x r)
        (λ to x b. signs-tokens f (λ j q. g j (Used.later q)) i to [] All.none x b)
    signs-tokens {last} (Fine.before_colon {l = l} {ss = ss} n f) g (Fitted.label i) at w a h e =
        one (Sign.label l) w (name_of N (first_label + l)) a h e
        (name-begins (due_after last) N (name_of N (first_label + l)) {ss = colon_sign ∷ ss} (g (first_label + l) Used.here) (Ends.marked unnamed-58 refl))
        (λ t ts c x r. Spells.label c x r)
        (λ to x b. signs-tokens f (λ j q. g j (Used.later q)) i to [] All.none x b)
