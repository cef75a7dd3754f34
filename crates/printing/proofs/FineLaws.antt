-- What the rules write falls apart into its tokens again. Assumes nothing.
use mathlib.Core.Path.{◌≡◌, refl, subst}
use Prim.Native.Nat.{ℕ, zero, suc, ◌+◌, ◌≤◌, ◌<◌}
use mathlib.Core.Bool.{Bool, true, false}
use mathlib.Core.List.{List, [], ◌∷◌, ◌++◌, append_assoc, append-nil}
use native.Mathlib.Omega.{arith}
use lib.IntN.{ℤ}
use Rattle.tokens.specs.Bytes.{is_white, is_named}
use Rattle.tokens.specs.Codes.{name_code, number_code, comma_code, beside_code, then_code, else_code, do_code, colon_code, dot_code, semicolon_code, open_brace_code, close_brace_code, close_bracket_code}
use Rattle.tokens.specs.Spelling.{row, keywords, singles}
use Rattle.tokens.specs.Rules.{All, In, is_question}
use Rattle.tokens.proofs.SpellingLaws.{keyword-great, pair-great, single-great}
use Rattle.tokens.proofs.ApartLaws.{white-space, white-line, unnamed-41, unnamed-44, unnamed-46, unnamed-59, unnamed-125}
use Rattle.tokens.proofs.ThereLaws.{new-there, skip-there, always-there, once-there, if-there, then-there, else-there, while-there, do-there, true-there, false-there, nil-there}
use Rattle.tokens.proofs.ThereLaws.{becomes-there, identical-there, beside-there, colon-there, comma-there, dot-there, semicolon-there}
use Rattle.tokens.proofs.ThereLaws.{open-brace-there, close-brace-there, open-bracket-there, close-bracket-there}
use Rattle.text.specs.Reading.{due_after}
use Rattle.text.proofs.LevelLaws.{due-operator, due-becomes, due-colon, due-bracket, due-if, due-while}
use Rattle.printing.specs.Signs.{Sign, space, line, indent, line_bytes, operator_text, priority_text}
use Rattle.printing.specs.Signs.{new_sign, then_sign, else_sign, do_sign, becomes_sign, colon_sign, comma_sign, semicolon_sign}
use Rattle.printing.specs.Signs.{open_brace_sign, close_brace_sign, close_bracket_sign, identical_sign, beside_sign}
use Rattle.printing.specs.Rules.{Labels, Path, Expression, Parts, Fields, Piece, Prints, Text}
use Rattle.printing.specs.Spaced.{Opened, Ends, Alone, Fixed, Uncoloned, Fine}
use Rattle.printing.proofs.OperatorLaws.{operator-is, operands-are, priority-is}

-- ---- white space

indent-white : (n : ℕ) → All is_white (indent n)
unfolding indent
indent-white zero = All.none
indent-white (suc n) = All.more white-space (All.more white-space (indent-white n))

line-white : (d : ℕ) → All is_white (line_bytes d)
unfolding line_bytes
line-white d = All.more white-line (indent-white _)

line-opened : (d : ℕ) {ss : List Sign} → Opened (line d ∷ ss)
unfolding line_bytes
line-opened d = Opened.opened white-line (indent-white _)

space-opened : {ss : List Sign} → Opened (space ∷ ss)
space-opened = Opened.opened white-space All.none

spaced : {c : ℕ} {ss : List Sign} → Fine c ss → Fine c (space ∷ ss)
spaced f = Fine.blank (All.more white-space All.none) f

-- ---- what may follow a piece: a name ends before it, and it falls apart behind whatever token

pub record Follows (ss : List Sign) : Type 0 where
  pub ends : Ends ss
  pub uncoloned : Uncoloned ss
  pub fine : (c : ℕ) → Fine c ss

nothing-follows : Follows []
nothing-follows = record { ends = Ends.over; uncoloned = Uncoloned.over; fine = λ c. Fine.none }

-- ---- words and marks

pub fixed-great : {c : ℕ} {s : List ℕ} {ss : List Sign} → Fixed ss c s → 9 < c
fixed-great (Fixed.keyword i e) = keyword-great i
fixed-great (Fixed.pair i) = pair-great i
fixed-great (Fixed.alone i a) = single-great i
fixed-great (Fixed.single i o) = single-great i

fixed-fine : {last c : ℕ} {s : List ℕ} {ss : List Sign} → Fixed ss c s → Fine c ss → Fine last (Sign.fixed c s ∷ ss)
fixed-fine {c = c} i f = let h : 9 < c = fixed-great i in Fine.fixed {c = c} (λ z. omega arith) i f

alone-uncoloned : {c : ℕ} → Alone c → c ≡ colon_code → ⊥
alone-uncoloned Alone.comma e = omega arith
alone-uncoloned Alone.dot e = omega arith
alone-uncoloned Alone.semicolon e = omega arith
alone-uncoloned Alone.open_brace e = omega arith
alone-uncoloned Alone.close_brace e = omega arith
alone-uncoloned Alone.open_bracket e = omega arith
alone-uncoloned Alone.close_bracket e = omega arith

-- a mark that stands alone
mark-fine : {last c b : ℕ} {ss : List Sign} → In (row (b ∷ []) c) singles → Alone c → Fine c ss → Fine last (Sign.fixed c (b ∷ []) ∷ ss)
mark-fine i a f = fixed-fine (Fixed.alone i a) f

mark-follows : {c b : ℕ} {ss : List Sign} → In (row (b ∷ []) c) singles → Alone c → is_named b ≡ false → is_question b ≡ false → Fine c ss → Follows (Sign.fixed c (b ∷ []) ∷ ss)
mark-follows i a n q f = record { ends = Ends.marked n q; uncoloned = Uncoloned.marked (alone-uncoloned a); fine = λ last. mark-fine i a f }

-- a word or a mark with its spaces
spaced-follows : {c : ℕ} {s : List ℕ} {ss : List Sign}
    → ((st : List Sign) → Opened st → Fixed st c s) → (c ≡ colon_code → ⊥) → Fine c ss → Follows (space ∷ Sign.fixed c s ∷ space ∷ ss)
spaced-follows a k f =
    record {
      ends = Ends.spaced space-opened;
      uncoloned = Uncoloned.spaced (Uncoloned.marked k);
      fine = λ last. spaced (fixed-fine (a _ space-opened) (spaced f));
    }

-- the closing brace on its own line
brace-follows : (d : ℕ) {ss : List Sign} → Follows ss → Follows (line d ∷ close_brace_sign ∷ ss)
brace-follows d f =
    record {
      ends = Ends.spaced (line-opened d);
      uncoloned = Uncoloned.spaced (Uncoloned.marked (alone-uncoloned Alone.close_brace));
      fine = λ last. Fine.blank (line-white d) (mark-fine close-brace-there Alone.close_brace (f.fine close_brace_code));
    }

-- a keyword that ends a piece, and one with a space behind it
last_word : {last c b : ℕ} {s : List ℕ} {ss : List Sign} → In (row (b ∷ s) c) keywords → Follows ss → Fine last (Sign.fixed c (b ∷ s) ∷ ss)
last_word {c = c} i f = fixed-fine (Fixed.keyword i f.ends) (f.fine c)

word-fine : {last c b : ℕ} {s : List ℕ} {ss : List Sign} → In (row (b ∷ s) c) keywords → Fine c ss → Fine last (Sign.fixed c (b ∷ s) ∷ space ∷ ss)
word-fine i f = fixed-fine (Fixed.keyword i (Ends.spaced space-opened)) (spaced f)

-- ---- paths

labels-follow : {n : ℕ} {ws : List ℤ} {ss rest : List Sign} → Labels n ws ss → Follows rest → Follows (ss ++ rest)
labels-follow Labels.none f = f
labels-follow (Labels.one ls) f =
    let g = labels-follow ls f in
    mark-follows dot-there Alone.dot unnamed-46 refl (Fine.behind_dot g.ends (g.fine name_code))

named-fine : {last x : ℕ} {ss : List Sign} → (last ≡ dot_code → ⊥) → Follows ss → Fine last (Sign.variable x ∷ ss)
named-fine u f = Fine.variable u f.ends f.uncoloned (f.fine name_code)

pub path-fine : {last : ℕ} {ws : List ℤ} {ss rest : List Sign} → Path ws ss → (last ≡ dot_code → ⊥) → Follows rest → Fine last (ss ++ rest)
path-fine (Path.path ls) u f = named-fine u (labels-follow ls f)

sides-fine : {last : ℕ} {a b : List ℤ} {sa sb rest : List Sign}
    → Path a sa → Path b sb → (last ≡ dot_code → ⊥) → Follows rest → Fine last (sa ++ space ∷ identical_sign ∷ space ∷ sb ++ rest)
sides-fine {sa = sa} {sb = sb} {rest = rest} p q u f =
    rw (append_assoc sa (space ∷ identical_sign ∷ space ∷ sb) rest)
    (path-fine p u (spaced-follows (λ st o. Fixed.pair identical-there) (λ z. omega arith) (path-fine q (λ z. omega arith) f)))

-- ---- expressions

operands-fine : {last o : ℕ} (sa sb rest : List Sign)
    → 1 ≤ o → o ≤ 11 → ((st : List Sign) → Follows st → Fine last (sa ++ st)) → (due_after (40 + o) ≡ true → (40 + o ≡ dot_code → ⊥) → Fine (40 + o) (sb ++ rest))
    → Fine last (sa ++ operator_text o ++ sb ++ rest)
operands-fine {o = o} sa sb rest x y p q =
    let k = operator-is o x y in
    rw (operands-are k sa sb, append_assoc sa (space ∷ Sign.fixed (40 + o) k.spelling ∷ space ∷ sb) rest)
    (p _ (spaced-follows k.apart (λ z. omega arith) (q (due-operator o x y) (λ z. omega arith))))

pub expression-fine : {in_c : Bool} {last low : ℕ} {ws : List ℤ} {ss rest : List Sign}
    → Expression in_c low ws ss → due_after last ≡ true → (last ≡ dot_code → ⊥) → Follows rest → Fine last (ss ++ rest)
expression-fine Expression.nil d u f = last_word nil-there f
expression-fine Expression.no d u f = last_word false-there f
expression-fine Expression.yes d u f = last_word true-there f
expression-fine Expression.number d u f = Fine.integer d f.ends (f.fine number_code)
expression-fine (Expression.at p) d u f = path-fine p u f
expression-fine (Expression.identity n p q) d u f = sides-fine p q u f
expression-fine {last = last} {rest = rest} (Expression.operation {o = o} {sa = sa} {sb = sb} x y v m p q) d u f =
    operands-fine sa sb rest x y (λ st g. expression-fine {last = last} p d u g) (λ e w. expression-fine {last = 40 + o} q e w f)
expression-fine {rest = rest} (Expression.brackets {o = o} {sa = sa} {sb = sb} x y v m p q) d u f =
    let g : Follows (close_bracket_sign ∷ rest) = mark-follows close-bracket-there Alone.close_bracket unnamed-41 refl (f.fine close_bracket_code) in
    rw (append_assoc (sa ++ operator_text o ++ sb) (close_bracket_sign ∷ []) rest)
    (mark-fine open-bracket-there Alone.open_bracket
    (operands-fine sa sb (close_bracket_sign ∷ rest) x y (λ st h. expression-fine p due-bracket (λ z. omega arith) h) (λ e w. expression-fine q e w g)))

-- ---- constraints and fields

part-fine : {last k : ℕ} {e : List ℤ} {se rest : List Sign} → 1 ≤ k → k ≤ 3 → Expression true 1 e se → Follows rest → Fine last (priority_text k ++ se ++ rest)
part-fine {k = k} a b p f =
    let i = priority-is k a b in
    rw i.text (fixed-fine (i.apart _ space-opened) (spaced (expression-fine p i.due (λ z. omega (arith, i.numbered)) f)))

pub parts-fine : {last n : ℕ} {ws : List ℤ} {ss rest : List Sign} → Parts n ws ss → Follows rest → Fine last (ss ++ rest)
parts-fine (Parts.one a b p) f = part-fine a b p f
parts-fine {last = last} {rest = rest} (Parts.more {k = k} {se = se} {ss = ss} a b p ps) f =
    rw (append_assoc (priority_text k ++ se) (space ∷ beside_sign ∷ space ∷ ss) rest)
    (part-fine a b p (spaced-follows (λ st o. Fixed.pair beside-there) (λ z. omega arith) (parts-fine {last = beside_code} ps f)))

field-fine : {last l : ℕ} {e : List ℤ} {se rest : List Sign}
    → Expression false 1 e se → (last ≡ dot_code → ⊥) → Follows rest → Fine last (Sign.label l ∷ colon_sign ∷ space ∷ (se ++ rest))
field-fine p u f =
    Fine.before_colon u (fixed-fine (Fixed.single colon-there space-opened) (spaced (expression-fine p due-colon (λ z. omega arith) f)))

pub fields-fine : {last n : ℕ} {ws : List ℤ} {ss rest : List Sign} → Fields n ws ss → (last ≡ dot_code → ⊥) → Follows rest → Fine last (ss ++ rest)
fields-fine (Fields.one p) u f = field-fine p u f
fields-fine {last = last} {rest = rest} (Fields.more {se = se} {ss = ss} p fs) u f =
    rw (append_assoc se (comma_sign ∷ space ∷ ss) rest)
    (field-fine p u (mark-follows comma-there Alone.comma unnamed-44 refl (spaced (fields-fine {last = comma_code} fs (λ z. omega arith) f))))

-- ---- statements and blocks

-- `x := new {`
created-fine : {last x : ℕ} {ss : List Sign}
    → (last ≡ dot_code → ⊥) → Fine open_brace_code ss → Fine last (Sign.variable x ∷ space ∷ becomes_sign ∷ space ∷ new_sign ∷ space ∷ open_brace_sign ∷ ss)
created-fine u f =
    named-fine u
    (spaced-follows (λ st o. Fixed.pair becomes-there) (λ z. omega arith)
    (word-fine new-there (mark-fine open-brace-there Alone.open_brace f)))

pub prints-fine : {last : ℕ} {p : Piece} {ws : List ℤ} {ss rest : List Sign} → Prints p ws ss → (last ≡ dot_code → ⊥) → Follows rest → Fine last (ss ++ rest)
prints-fine Prints.skip u f = last_word skip-there f
prints-fine {rest = rest} (Prints.assign {sa = sa} {se = se} p e) u f =
    rw (append_assoc sa (space ∷ becomes_sign ∷ space ∷ se) rest)
    (path-fine p u (spaced-follows (λ st o. Fixed.pair becomes-there) (λ z. omega arith) (expression-fine e due-becomes (λ z. omega arith) f)))
prints-fine Prints.new_empty u f = created-fine u (mark-fine close-brace-there Alone.close_brace (f.fine close_brace_code))
prints-fine {rest = rest} (Prints.new {ss = ss} fs) u f =
    rw (append_assoc ss (close_brace_sign ∷ []) rest)
    (created-fine u
    (fields-fine fs (λ z. omega arith) (mark-follows close-brace-there Alone.close_brace unnamed-125 refl (f.fine close_brace_code))))
prints-fine (Prints.always ps) u f = word-fine always-there (parts-fine ps f)
prints-fine (Prints.once ps) u f = word-fine once-there (parts-fine ps f)
prints-fine (Prints.always-same p q) u f = word-fine always-there (sides-fine p q (λ z. omega arith) f)
prints-fine (Prints.once-same p q) u f = word-fine once-there (sides-fine p q (λ z. omega arith) f)
prints-fine {last = last} {rest = rest} (Prints.branch {se = se} {sa = sa} {sb = sb} e p q) u f =
    rw (append_assoc (se ++ space ∷ then_sign ∷ space ∷ sa) (space ∷ else_sign ∷ space ∷ sb) rest, append_assoc se (space ∷ then_sign ∷ space ∷ sa) (space ∷ else_sign ∷ space ∷ sb ++ rest))
    (word-fine if-there
    (expression-fine e due-if (λ z. omega arith)
    (spaced-follows (λ st o. Fixed.keyword then-there (Ends.spaced o)) (λ z. omega arith)
    (prints-fine {last = then_code} p (λ z. omega arith)
    (spaced-follows (λ st o. Fixed.keyword else-there (Ends.spaced o)) (λ z. omega arith) (prints-fine {last = else_code} q (λ z. omega arith) f))))))
prints-fine {last = last} {rest = rest} (Prints.loop {se = se} {sa = sa} e p) u f =
    rw (append_assoc se (space ∷ do_sign ∷ space ∷ sa) rest)
    (word-fine while-there
    (expression-fine e due-while (λ z. omega arith)
    (spaced-follows (λ st o. Fixed.keyword do-there (Ends.spaced o)) (λ z. omega arith) (prints-fine {last = do_code} p (λ z. omega arith) f))))
prints-fine (Prints.last p) u f = prints-fine p u f
prints-fine {last = last} {rest = rest} (Prints.more {d = d} {ss = ss} {st = st} p q) u f =
    rw (append_assoc ss (semicolon_sign ∷ line d ∷ st) rest)
    (prints-fine p u
    (mark-follows semicolon-there Alone.semicolon unnamed-59 refl (Fine.blank (line-white d) (prints-fine {last = semicolon_code} q (λ z. omega arith) f))))
prints-fine Prints.empty u f = mark-fine open-brace-there Alone.open_brace (mark-fine close-brace-there Alone.close_brace (f.fine close_brace_code))
prints-fine {last = last} {rest = rest} (Prints.braces {d = d} {ss = ss} p) u f =
    rw (append_assoc ss (line (suc d) ∷ close_brace_sign ∷ []) rest)
    (mark-fine open-brace-there Alone.open_brace (Fine.blank (line-white d) (prints-fine {last = open_brace_code} p (λ z. omega arith) (brace-follows (suc d) f))))

pub text-fine : {p : List ℤ} {ss : List Sign} → Text p ss → Fine semicolon_code ss
text-fine Text.nothing = Fine.none
text-fine (Text.some {ss = ss} p) = subst (λ s. Fine semicolon_code s) (append-nil ss) (prints-fine p (λ z. omega arith) nothing-follows)
