-- A text in which no number is at fault has fewer than 2147483648 bytes: at most 65,600 for each word of its program. Assumes nothing.
use mathlib.Core.Path.{◌≡◌, refl, sym, ap, ◌∙◌}
use mathlib.Core.Bool.{Bool, true, false, not, true≢false, ◌&&◌}
use mathlib.Core.List.{List, [], ◌∷◌, ◌++◌}
use Prim.Native.Nat.{ℕ, zero, suc, ◌+◌, ◌-◌, ◌*◌, ◌≤◌, ◌<◌}
use native.Mathlib.Omega.{arith}
use native.Mathlib.Decide.{dec_lt}
use borrow.Author.Tests.{eqb-true, eq-eqb}
use lib.Dec.{eqb}
use lib.IntN.{ℤ}
use lib.ListN.{length, length-append}
use Rattle.words.specs.Answer.{got}
use Rattle.tables.proofs.SearchLaws.{cases, and_left, and_right}
use Rattle.lister.proofs.SizeLaws.{digits-twenty, numeral-length}
use Rattle.program.specs.Forms.{block_depth}
use Rattle.program.specs.Reading.{read_program}
use Rattle.program.proofs.GrammarLaws.{program-sound}
use Rattle.tokens.specs.declared.Token.{Token}
use Rattle.tokens.specs.Codes.{name_code}
use Rattle.tokens.specs.Tokens.{most_bytes, token_from}
use Rattle.tokens.specs.Claims.{Makes}
use Rattle.tokens.proofs.TextRules.{makes-up}
use Rattle.text.proofs.LevelLaws.{by-operator}
use Rattle.printing.specs.Signs.{Sign, space, line, indent, line_bytes, operator_text, priority_text}
use Rattle.printing.specs.Signs.{new_sign, then_sign, else_sign, do_sign, becomes_sign, colon_sign, comma_sign, semicolon_sign, open_brace_sign, close_brace_sign, close_bracket_sign, identical_sign, beside_sign}
use Rattle.printing.specs.Rules.{Labels, Path, Expression, Parts, Fields, Piece, Prints, Text}
use Rattle.printing.specs.Naming.{Naming, numbers, length_of, is_given, given_name, default_name, name_of, sign_bytes, bytes_of}
use Rattle.printing.specs.Faults.{is_name}
use Rattle.printing.specs.Whole.{text_of, first_fault}
use Rattle.printing.specs.Claims.{AtFault, LengthsTold}
use Rattle.printing.proofs.NameLaws.{length_none, default-variable, default-label}
use Rattle.printing.proofs.PageLaws.{bytes-append}
use Rattle.printing.proofs.FaultsExactly.{faults-exactly}
use Rattle.printing.proofs.StatedLaws.{program-said}

-- ---- names

name-short : (s : List ℕ) → is_name s ≡ true → length s ≤ most_bytes
unfolding is_name
name-short s e = go (makes-up false s 0 (omega arith))
  where
    t : Token
    t = token_from false s 0

    coded : t.code ≡ name_code
    coded = eqb-true t.code name_code (and_left (eqb t.code name_code) (eqb t.place 0) (and_left (eqb t.code name_code && eqb t.place 0) (eqb t.end (length s)) e))

    whole : t.end ≡ length s
    whole = eqb-true t.end (length s) (and_right (eqb t.code name_code && eqb t.place 0) (eqb t.end (length s)) e)

    go : Makes s 0 t → length s ≤ most_bytes
    go (Makes.whole a b c d f g) = omega (arith, whole)
    go (Makes.end a b c) = c
    go (Makes.longer a b) = absurd (omega (arith, ap (λ (u : Token). u.code) b, coded))

default-short : (i : ℕ) → length (default_name i) ≤ most_bytes
default-short i =
    elim (dec_lt i 64) [
      | yes h ↦ rw (← default-variable i h) (omega (arith, digits-twenty i))
      | no h ↦ rw (← default-label i (omega arith)) (omega (arith, digits-twenty (i - 64)))
    ]

-- every name is short where no number is at fault
names-short : (N : Naming) (p : List ℤ) → read_program p ≡ got tt → first_fault N p ≡ numbers → (i : ℕ) → length (name_of N i) ≤ most_bytes
unfolding name_of
names-short N p r f i = cases (is_given N i) (λ g. rw g (name-short (given_name N i) (named g))) (λ g. rw g (default-short i))
  where
    inside : is_given N i ≡ true → i < numbers
    inside g =
        elim (dec_lt i numbers) [
          | yes h ↦ h
          | no h ↦ absurd (true≢false (sym g ∙ ap not (eq-eqb (length_of N.names i) 0 (sym (length_none N.names i (omega arith))))))
        ]

    named : is_given N i ≡ true → is_name (given_name N i) ≡ true
    named g = cases (is_name (given_name N i)) (λ e. e) (λ e. absurd ((faults-exactly N p r).before i (rw f (inside g)) (AtFault.unnamed g e)))

-- ---- signs

indent-length : (n : ℕ) → length (indent n) ≡ 2 * n
unfolding indent
indent-length zero = refl
indent-length (suc n) = omega (arith, indent-length n)

line-short : (d : ℕ) → length (line_bytes d) ≤ 15
unfolding line_bytes
line-short d = omega (arith, indent-length (block_depth - 1 - d))

module _ (N : Naming) (named : (i : ℕ) → length (name_of N i) ≤ most_bytes) where
  abbrev size : List Sign → ℕ
  size ss = length (bytes_of N ss)

  size-first : (s : Sign) (ss : List Sign) → size (s ∷ ss) ≡ length (sign_bytes N s) + size ss
  size-first s ss = length-append (sign_bytes N s) (bytes_of N ss)

  size-append : (a b : List Sign) → size (a ++ b) ≡ size a + size b
  size-append a b = ap length (bytes-append N a b) ∙ length-append (bytes_of N a) (bytes_of N b)

  size-joined : (a s b : List Sign) → size (a ++ (s ++ b)) ≡ size a + size s + size b
  size-joined a s b = omega (arith, size-append a (s ++ b), size-append s b)

  size-operator : (o : ℕ) → 1 ≤ o → o ≤ 11 → size (operator_text o) ≤ 5
  unfolding operator_text
  size-operator o h k =
      by-operator (λ n. size (operator_text n) ≤ 5) o h k (omega arith) (omega arith) (omega arith) (omega arith) (omega arith) (omega arith) (omega arith) (omega arith)
      (omega arith)
      (omega arith)
      (omega arith)

  size-priority : (k : ℕ) → 1 ≤ k → k ≤ 3 → size (priority_text k) ≤ 9
  unfolding priority_text
  size-priority zero h k = omega arith
  size-priority (suc zero) h k = omega arith
  size-priority (suc (suc zero)) h k = omega arith
  size-priority (suc (suc (suc zero))) h k = omega arith
  size-priority (suc (suc (suc (suc n)))) h k = let z : ⊥ = omega arith in absurd z

  -- ---- at most 65,600 bytes for each word, and 20 to spare

  abbrev Short : List ℤ → List Sign → Type 0
  Short ws ss = 20 + size ss ≤ 65600 * length ws

  labels-short : {n : ℕ} {ws : List ℤ} {ss : List Sign} → Labels n ws ss → size ss ≤ 65600 * length ws
  labels-short Labels.none = omega arith
  labels-short (Labels.one {l = l} {ss = ss} x) = omega (arith, size-first (Sign.label l) ss, named (64 + l), labels-short x)

  path-short : {ws : List ℤ} {ss : List Sign} → Path ws ss → Short ws ss
  path-short (Path.path {x = x} {ss = ss} l) = omega (arith, size-first (Sign.variable x) ss, named x, labels-short l)

  sides-short : {a b : List ℤ} {sa sb : List Sign} → Path a sa → Path b sb → Short (a ++ b) (sa ++ space ∷ identical_sign ∷ space ∷ sb)
  sides-short {a} {b} {sa} {sb} x y = omega (arith, size-joined sa (space ∷ identical_sign ∷ space ∷ []) sb, length-append a b, path-short x, path-short y)

  operands_short : (o : ℕ) (a b : List ℤ) (sa sb : List Sign) → 1 ≤ o → o ≤ 11 → Short a sa → Short b sb → size (sa ++ operator_text o ++ sb) ≤ 65600 * length (a ++ b)
  operands_short o a b sa sb h k x y =
      omega (arith, size-append (sa ++ operator_text o) sb, size-append sa (operator_text o), size-operator o h k, length-append a b)

  expression-short : {in_c : Bool} {low : ℕ} {ws : List ℤ} {ss : List Sign} → Expression in_c low ws ss → Short ws ss
  expression-short Expression.nil = omega arith
  expression-short Expression.no = omega arith
  expression-short Expression.yes = omega arith
  expression-short (Expression.number {w = w}) = omega (arith, size-first (Sign.integer w) [], numeral-length w)
  expression-short (Expression.at x) = omega (arith, path-short x)
  expression-short (Expression.identity c x y) = omega (arith, sides-short x y)
  expression-short (Expression.operation {o = o} {a = a} {b = b} {sa = sa} {sb = sb} h k v m x y) =
      omega (arith, operands_short o a b sa sb h k (expression-short x) (expression-short y))
  expression-short (Expression.brackets {o = o} {a = a} {b = b} {sa = sa} {sb = sb} h k v m x y) =
      omega
      (arith, operands_short o a b sa sb h k (expression-short x) (expression-short y), size-append (sa ++ operator_text o ++ sb) (close_bracket_sign ∷ []))

  parts-short : {n : ℕ} {ws : List ℤ} {ss : List Sign} → Parts n ws ss → Short ws ss
  parts-short (Parts.one {k = k} {se = se} h l x) = omega (arith, size-append (priority_text k) se, size-priority k h l, expression-short x)
  parts-short (Parts.more {k = k} {e = e} {ps = ps} {se = se} {ss = ss} h l x y) =
      omega (
        arith,
        size-joined (priority_text k ++ se) (space ∷ beside_sign ∷ space ∷ []) ss,
        size-append (priority_text k) se,
        size-priority k h l,
        length-append e ps,
        expression-short x,
        parts-short y,
      )

  fields-short : {n : ℕ} {ws : List ℤ} {ss : List Sign} → Fields n ws ss → Short ws ss
  fields-short (Fields.one {l = l} {se = se} x) = omega (arith, size-first (Sign.label l) (colon_sign ∷ space ∷ se), named (64 + l), expression-short x)
  fields-short (Fields.more {l = l} {e = e} {fs = fs} {se = se} {ss = ss} x y) =
      omega (
        arith,
        size-first (Sign.label l) ((colon_sign ∷ space ∷ se) ++ comma_sign ∷ space ∷ ss),
        size-joined se (comma_sign ∷ space ∷ []) ss,
        named (64 + l),
        length-append e fs,
        expression-short x,
        fields-short y,
      )

  size-line : (d : ℕ) (ss : List Sign) → size (line d ∷ ss) ≤ 15 + size ss
  size-line d ss = omega (arith, size-first (line d) ss, line-short d)

  prints-short : {c : Piece} {ws : List ℤ} {ss : List Sign} → Prints c ws ss → Short ws ss
  prints-short Prints.skip = omega arith
  prints-short (Prints.assign {a = a} {e = e} {sa = sa} {se = se} x y) =
      omega (arith, size-joined sa (space ∷ becomes_sign ∷ space ∷ []) se, length-append a e, path-short x, expression-short y)
  prints-short (Prints.new_empty {x = x}) =
      omega (arith, size-first (Sign.variable x) (space ∷ becomes_sign ∷ space ∷ new_sign ∷ space ∷ open_brace_sign ∷ close_brace_sign ∷ []), named x)
  prints-short (Prints.new {x = x} {ss = ss} f) =
      omega (
        arith,
        size-first (Sign.variable x) (space ∷ becomes_sign ∷ space ∷ new_sign ∷ space ∷ open_brace_sign ∷ ss ++ close_brace_sign ∷ []),
        size-append ss (close_brace_sign ∷ []),
        named x,
        fields-short f,
      )
  prints-short (Prints.always x) = omega (arith, parts-short x)
  prints-short (Prints.once x) = omega (arith, parts-short x)
  prints-short (Prints.always-same x y) = omega (arith, sides-short x y)
  prints-short (Prints.once-same x y) = omega (arith, sides-short x y)
  prints-short (Prints.branch {e = e} {a = a} {b = b} {se = se} {sa = sa} {sb = sb} x y z) =
      omega (
        arith,
        size-joined (se ++ space ∷ then_sign ∷ space ∷ sa) (space ∷ else_sign ∷ space ∷ []) sb,
        size-joined se (space ∷ then_sign ∷ space ∷ []) sa,
        length-append e (a ++ b),
        length-append a b,
        expression-short x,
        prints-short y,
        prints-short z,
      )
  prints-short (Prints.loop {e = e} {a = a} {se = se} {sa = sa} x y) =
      omega (arith, size-joined se (space ∷ do_sign ∷ space ∷ []) sa, length-append e a, expression-short x, prints-short y)
  prints-short (Prints.last x) = prints-short x
  prints-short (Prints.more {d = d} {s = s} {t = t} {ss = ss} {st = st} x y) =
      omega (arith, size-append ss (semicolon_sign ∷ line d ∷ st), size-line d st, length-append s t, prints-short x, prints-short y)
  prints-short Prints.empty = omega arith
  prints-short (Prints.braces {d = d} {ss = ss} x) =
      omega
      (arith, size-line d (ss ++ line (suc d) ∷ close_brace_sign ∷ []), size-append ss (line (suc d) ∷ close_brace_sign ∷ []), size-line (suc d) (close_brace_sign ∷ []), prints-short x)

  text-short : {p : List ℤ} {ss : List Sign} → Text p ss → size ss ≤ 65600 * length p
  text-short Text.nothing = omega arith
  text-short (Text.some x) = omega (arith, prints-short x)

pub lengths-told : LengthsTold
unfolding text_of
lengths-told N p e f = let g = program-sound p e in omega (arith, text-short N (names-short N p e f) (program-said g.yields), g.short)
