-- No tokens with the same words have fewer brackets than a written program. Assumes nothing.
use mathlib.Core.Path.{◌≡◌, refl}
use mathlib.Core.Bool.{Bool, true, cond}
use mathlib.Core.List.{List, [], ◌∷◌, ◌++◌}
use Prim.Native.Nat.{ℕ, zero, suc, ◌+◌, ◌≤◌, ◌<◌}
use native.Mathlib.Omega.{arith}
use native.Mathlib.Decide.{dec_le}
use lib.Dec.{eqb}
use lib.IntN.{ℤ, pos}
use Rattle.tokens.specs.declared.Token.{Token}
use Rattle.tokens.specs.Codes.{open_bracket_code}
use Rattle.program.proofs.GrammarLaws.{program-sound}
use Rattle.text.specs.Grammar as Notation
use Rattle.text.specs.Grammar.{Meaning}
use Rattle.text.proofs.OperatorsRead.{level-of}
use Rattle.printing.specs.Signs.{Sign, variable, label, integer, space, line, operator_text, priority_text}
use Rattle.printing.specs.Signs.{new_sign, skip_sign, always_sign, once_sign, if_sign, then_sign, else_sign, while_sign, do_sign, true_sign, false_sign, nil_sign}
use Rattle.printing.specs.Signs.{becomes_sign, colon_sign, comma_sign, dot_sign, semicolon_sign, open_brace_sign, close_brace_sign, open_bracket_sign, close_bracket_sign, identical_sign, beside_sign}
use Rattle.printing.specs.Rules as Rules
use Rattle.printing.specs.Claims.{brackets_in, brackets_of, FewestBrackets}
use Rattle.printing.proofs.BracketsIn.{in-append, in-joined, of-append, in-operator, in-priority}
use Rattle.printing.proofs.StatedLaws.{program-said}
use Rattle.printing.proofs.OneText.{branch-brackets, loop-brackets, row-brackets, block-brackets, one-text, text-brackets}

-- signs that a rule has for a piece, with no more brackets than its tokens
record Fewer (Rule : List Sign → Type 0) (ts : List Token) : Type 0 where
  signs : List Sign
  rule : Rule signs
  fewer : brackets_in signs ≤ brackets_of ts

-- ---- paths

labels-fewer : {M : Meaning} {n : ℕ} {ts : List Token} {ws : List ℤ} {os : List ℕ} → Notation.Labels M n ts ws os → Fewer (Rules.Labels n ws) ts
labels-fewer Notation.Labels.none = record { signs = []; rule = Rules.Labels.none; fewer = omega arith }
labels-fewer {M} (Notation.Labels.one d l c e x) =
    let i = labels-fewer x in
    record { signs = dot_sign ∷ label (M.label l) ∷ i.signs; rule = Rules.Labels.one i.rule; fewer = omega (arith, i.fewer) }

path-fewer : {M : Meaning} {ts : List Token} {ws : List ℤ} {os : List ℕ} → Notation.Path M ts ws os → Fewer (Rules.Path ws) ts
path-fewer {M} (Notation.Path.path x c l) =
    let i = labels-fewer l in
    record { signs = variable (M.variable x) ∷ i.signs; rule = Rules.Path.path i.rule; fewer = omega (arith, i.fewer) }

-- ---- expressions

-- the same words where another level is asked for: a lower one never takes more brackets, and a higher one at most one more
record Relevelled (in_c : Bool) (low high : ℕ) (ws : List ℤ) (ss : List Sign) : Type 0 where
  signs : List Sign
  rule : Rules.Expression in_c high ws signs
  most : brackets_in signs ≤ 1 + brackets_in ss
  fewer : high ≤ low → brackets_in signs ≤ brackets_in ss

bracketed : (ss : List Sign) → brackets_in (open_bracket_sign ∷ ss ++ close_bracket_sign ∷ []) ≡ 1 + brackets_in ss
bracketed ss = omega (arith, in-joined ss (close_bracket_sign ∷ []) [] refl)

relevel : {in_c : Bool} {low : ℕ} {ws : List ℤ} {ss : List Sign} (high : ℕ) → Rules.Expression in_c low ws ss → Relevelled in_c low high ws ss
relevel high Rules.Expression.nil = record { signs = nil_sign ∷ []; rule = Rules.Expression.nil; most = omega arith; fewer = omega arith }
relevel high Rules.Expression.no = record { signs = false_sign ∷ []; rule = Rules.Expression.no; most = omega arith; fewer = omega arith }
relevel high Rules.Expression.yes = record { signs = true_sign ∷ []; rule = Rules.Expression.yes; most = omega arith; fewer = omega arith }
relevel high (Rules.Expression.number {w = w}) = record { signs = integer w ∷ []; rule = Rules.Expression.number; most = omega arith; fewer = omega arith }
relevel high (Rules.Expression.at {sa = sa} x) = record { signs = sa; rule = Rules.Expression.at x; most = omega arith; fewer = omega arith }
relevel {ss = ss} high (Rules.Expression.identity c x y) = record { signs = ss; rule = Rules.Expression.identity c x y; most = omega arith; fewer = omega arith }
relevel {ss = ss} high (Rules.Expression.operation {l = l} h k v m x y) =
    elim (dec_le high l) [
      | yes c ↦ record { signs = ss; rule = Rules.Expression.operation h k v c x y; most = omega arith; fewer = omega arith }
      | no c ↦ let n : l < high = omega arith in
          record {
            signs = open_bracket_sign ∷ ss ++ close_bracket_sign ∷ [];
            rule = Rules.Expression.brackets h k v n x y;
            most = omega (arith, bracketed ss);
            fewer = λ z. absurd (omega arith);
          }
    ]
relevel {ss = ss} high (Rules.Expression.brackets {o = o} {l = l} {sa = sa} {sb = sb} h k v m x y) =
    elim (dec_le high l) [
      | yes c ↦
          let i : brackets_in (sa ++ operator_text o ++ sb) ≤ brackets_in ss = omega (arith, bracketed (sa ++ operator_text o ++ sb)) in
          record { signs = sa ++ operator_text o ++ sb; rule = Rules.Expression.operation h k v c x y; most = omega arith; fewer = omega arith }
      | no c ↦ let n : l < high = omega arith in record { signs = ss; rule = Rules.Expression.brackets h k v n x y; most = omega arith; fewer = omega arith }
    ]

open-one : (t : Token) → t.code ≡ open_bracket_code → ◌≡◌ {A = ℕ} (cond (eqb t.code open_bracket_code) 1 0) 1
open-one t e = rw e

expression-fewer : {M : Meaning} {in_c : Bool} {l : ℕ} {ts : List Token} {ws : List ℤ} {os : List ℕ} → Notation.Expression M in_c l ts ws os → Fewer (Rules.Expression in_c l ws) ts
expression-fewer (Notation.Expression.nil t c) = record { signs = nil_sign ∷ []; rule = Rules.Expression.nil; fewer = omega arith }
expression-fewer (Notation.Expression.no t c) = record { signs = false_sign ∷ []; rule = Rules.Expression.no; fewer = omega arith }
expression-fewer (Notation.Expression.yes t c) = record { signs = true_sign ∷ []; rule = Rules.Expression.yes; fewer = omega arith }
expression-fewer {M} (Notation.Expression.number t c) = record { signs = integer (M.integer t) ∷ []; rule = Rules.Expression.number; fewer = omega arith }
expression-fewer (Notation.Expression.at t p) = let i = path-fewer p in record { signs = i.signs; rule = Rules.Expression.at i.rule; fewer = i.fewer }
expression-fewer (Notation.Expression.identity {a = a} {b = b} e h p n q) =
    let i = path-fewer p in
    let j = path-fewer q in
    record {
      signs = i.signs ++ space ∷ identical_sign ∷ space ∷ j.signs;
      rule = Rules.Expression.identity h i.rule j.rule;
      fewer = omega (arith, in-joined i.signs (space ∷ identical_sign ∷ space ∷ []) j.signs refl, of-append a (e ∷ b), i.fewer, j.fewer);
    }
expression-fewer (Notation.Expression.brackets {ts = ts} o c m p n) =
    let i = expression-fewer p in
    let j = relevel 6 i.rule in
    record { signs = j.signs; rule = j.rule; fewer = omega (arith, j.most, i.fewer, of-append ts (c ∷ []), open-one o m) }
expression-fewer (Notation.Expression.tighter {l = l} h p) =
    let i = expression-fewer p in
    let j = relevel l i.rule in
    record { signs = j.signs; rule = j.rule; fewer = omega (arith, j.fewer (omega arith), i.fewer) }
expression-fewer (Notation.Expression.operation {k = k} {l = l} {a = a} {b = b} o p n v q) =
    let i = expression-fewer p in
    let j = expression-fewer q in
    let least = (level-of v).1.0 in
    let most = (level-of v).1.1.0 in
    record {
      signs = i.signs ++ operator_text k ++ j.signs;
      rule = Rules.Expression.operation {low = l} least most v (omega arith) i.rule j.rule;
      fewer =
          omega
          (arith, in-append (i.signs ++ operator_text k) j.signs, in-append i.signs (operator_text k), in-operator k least most, of-append a (o ∷ b), i.fewer, j.fewer);
    }

-- ---- constraints and fields

record PartFewer (ts : List Token) (ws : List ℤ) : Type 0 where
  priority : ℕ
  words : List ℤ
  is : ws ≡ pos priority ∷ words
  least : 1 ≤ priority
  most : priority ≤ 3
  expression : Fewer (Rules.Expression true 1 words) ts

part-fewer : {M : Meaning} {ts : List Token} {ws : List ℤ} {os : List ℕ} → Notation.Part M ts ws os → PartFewer ts ws
part-fewer (Notation.Part.said {k = k} t {ws = ws} h m n x) =
    let i = expression-fewer x in
    record { priority = k; words = ws; is = refl; least = h; most = m; expression = record { signs = i.signs; rule = i.rule; fewer = omega (arith, i.fewer) } }
part-fewer (Notation.Part.unsaid t {ws = ws} x) = record { priority = 3; words = ws; is = refl; least = omega arith; most = omega arith; expression = expression-fewer x }

parts-fewer : {M : Meaning} {n : ℕ} {ts : List Token} {ws : List ℤ} {os : List ℕ} → Notation.Parts M n ts ws os → Fewer (Rules.Parts n ws) ts
parts-fewer (Notation.Parts.one x) =
    let i = part-fewer x in
    let k = i.priority in
    let e = i.expression in
    rw i.is record {
      signs = priority_text k ++ e.signs;
      rule = Rules.Parts.one i.least i.most e.rule;
      fewer = omega (arith, in-append (priority_text k) e.signs, in-priority k i.least i.most, e.fewer);
    }
parts-fewer (Notation.Parts.more {a = a} {b = b} j x n y) =
    let i = part-fewer x in
    let k = i.priority in
    let e = i.expression in
    let l = parts-fewer y in
    rw i.is record {
      signs = (priority_text k ++ e.signs) ++ space ∷ beside_sign ∷ space ∷ l.signs;
      rule = Rules.Parts.more i.least i.most e.rule l.rule;
      fewer =
          omega (
            arith,
            in-joined (priority_text k ++ e.signs) (space ∷ beside_sign ∷ space ∷ []) l.signs refl,
            in-append (priority_text k) e.signs,
            in-priority k i.least i.most,
            of-append a (j ∷ b),
            e.fewer,
            l.fewer,
          );
    }

fields-fewer : {M : Meaning} {n : ℕ} {ts : List Token} {ws : List ℤ} {os : List ℕ} → Notation.Fields M n ts ws os → Fewer (Rules.Fields n ws) ts
fields-fewer {M} (Notation.Fields.one l c h k x) =
    let i = expression-fewer x in
    record { signs = label (M.label l) ∷ colon_sign ∷ space ∷ i.signs; rule = Rules.Fields.one i.rule; fewer = omega (arith, i.fewer) }
fields-fewer {M} (Notation.Fields.more l c j {a = a} {b = b} h k x n y) =
    let i = expression-fewer x in
    let m = fields-fewer y in
    record {
      signs = (label (M.label l) ∷ colon_sign ∷ space ∷ i.signs) ++ comma_sign ∷ space ∷ m.signs;
      rule = Rules.Fields.more i.rule m.rule;
      fewer =
          omega
          (arith, in-joined (label (M.label l) ∷ colon_sign ∷ space ∷ i.signs) (comma_sign ∷ space ∷ []) m.signs refl, of-append a (j ∷ b), i.fewer, m.fewer);
    }

-- ---- statements, rows and blocks: where blocks may nest deep enough

record Deep (Rule : ℕ → List Sign → Type 0) (ts : List Token) : Type 0 where
  depth : ℕ
  at : (d : ℕ) → depth ≤ d → Fewer (Rule d) ts

anywhere : {Rule : ℕ → List Sign → Type 0} {ts : List Token} → ((d : ℕ) → Fewer (Rule d) ts) → Deep Rule ts
anywhere f = record { depth = 0; at = λ d h. f d }

abbrev piece_at : Notation.Piece → ℕ → Rules.Piece
piece_at Notation.Piece.statement d = Rules.Piece.statement d
piece_at (Notation.Piece.row n) d = Rules.Piece.row d n
piece_at Notation.Piece.block d = Rules.Piece.block d

abbrev DeepOf : Notation.Piece → List Token → List ℤ → Type 0
DeepOf c ts ws = Deep (λ d ss. Rules.Prints (piece_at c d) ws ss) ts

sides-fewer : {M : Meaning} {a b : List Token} {va vb : List ℤ} {oa ob : List ℕ} (e : Token)
    → Notation.Path M a va oa → Notation.Path M b vb ob
    → (sa sb : List Sign) × Rules.Path va sa × Rules.Path vb sb × (brackets_in (sa ++ space ∷ identical_sign ∷ space ∷ sb) ≤ brackets_of (a ++ e ∷ b))
sides-fewer {a = a} {b = b} e x y =
    let i = path-fewer x in
    let j = path-fewer y in
    (i.signs, j.signs, i.rule, j.rule, omega (arith, in-joined i.signs (space ∷ identical_sign ∷ space ∷ []) j.signs refl, of-append a (e ∷ b), i.fewer, j.fewer))

block-deep : {n : ℕ} (ts : List Token) {ws : List ℤ} (o c : Token) → DeepOf (Notation.Piece.row n) ts ws → DeepOf Notation.Piece.block (o ∷ ts ++ c ∷ []) (pos n ∷ ws)
block-deep {n} ts {ws} o c x = record { depth = suc x.depth; at = go }
  where
    go : (d : ℕ) → suc x.depth ≤ d → Fewer (Rules.Prints (Rules.Piece.block d) (pos n ∷ ws)) (o ∷ ts ++ c ∷ [])
    go zero h = let z : ⊥ = omega arith in absurd z
    go (suc d) h =
        let i = x.at d (omega arith) in
        record {
          signs = open_brace_sign ∷ line d ∷ i.signs ++ line (suc d) ∷ close_brace_sign ∷ [];
          rule = Rules.Prints.braces i.rule;
          fewer = omega (arith, block-brackets d i.signs, of-append ts (c ∷ []), i.fewer);
        }

yields-fewer : {M : Meaning} {c : Notation.Piece} {ts : List Token} {ws : List ℤ} {os : List ℕ} → Notation.Yields M c ts ws os → DeepOf c ts ws
yields-fewer (Notation.Yields.skip t c) = anywhere (λ d. record { signs = skip_sign ∷ []; rule = Rules.Prints.skip; fewer = omega arith })
yields-fewer (Notation.Yields.assign x b {a = a} {ts = ts} p n q) =
    let i = path-fewer p in
    let j = expression-fewer q in
    anywhere (λ d. record {
      signs = i.signs ++ space ∷ becomes_sign ∷ space ∷ j.signs;
      rule = Rules.Prints.assign i.rule j.rule;
      fewer = omega (arith, in-joined i.signs (space ∷ becomes_sign ∷ space ∷ []) j.signs refl, of-append (x ∷ a) (b ∷ ts), i.fewer, j.fewer);
    })
yields-fewer {M} (Notation.Yields.new_empty x b w o c e f g h k) =
    anywhere (λ d. record {
      signs = variable (M.variable x) ∷ space ∷ becomes_sign ∷ space ∷ new_sign ∷ space ∷ open_brace_sign ∷ close_brace_sign ∷ [];
      rule = Rules.Prints.new_empty;
      fewer = omega arith;
    })
yields-fewer {M} (Notation.Yields.new x b w o c {ts = ts} e f g h k m) =
    let i = fields-fewer k in
    anywhere (λ d. record {
      signs = variable (M.variable x) ∷ space ∷ becomes_sign ∷ space ∷ new_sign ∷ space ∷ open_brace_sign ∷ i.signs ++ close_brace_sign ∷ [];
      rule = Rules.Prints.new i.rule;
      fewer = omega (arith, in-joined i.signs (close_brace_sign ∷ []) [] refl, of-append ts (c ∷ []), i.fewer);
    })
yields-fewer (Notation.Yields.always t n (Notation.Constraint.constraint u x)) =
    let i = parts-fewer x in
    anywhere (λ d. record { signs = always_sign ∷ space ∷ i.signs; rule = Rules.Prints.always i.rule; fewer = omega (arith, i.fewer) })
yields-fewer (Notation.Yields.once t n (Notation.Constraint.constraint u x)) =
    let i = parts-fewer x in
    anywhere (λ d. record { signs = once_sign ∷ space ∷ i.signs; rule = Rules.Prints.once i.rule; fewer = omega (arith, i.fewer) })
yields-fewer (Notation.Yields.always-same t e n x m y) =
    let i = sides-fewer e x y in
    anywhere (λ d. record { signs = always_sign ∷ space ∷ i.0 ++ space ∷ identical_sign ∷ space ∷ i.1; rule = Rules.Prints.always-same i.2 i.3; fewer = omega (arith, i.4) })
yields-fewer (Notation.Yields.once-same t e n x m y) =
    let i = sides-fewer e x y in
    anywhere (λ d. record { signs = once_sign ∷ space ∷ i.0 ++ space ∷ identical_sign ∷ space ∷ i.1; rule = Rules.Prints.once-same i.2 i.3; fewer = omega (arith, i.4) })
yields-fewer (Notation.Yields.branch t h s {a = a} {b = b} {c = c} k x l y m z) =
    let e = expression-fewer x in
    let i = yields-fewer y in
    let j = yields-fewer z in
    record {
      depth = i.depth + j.depth;
      at = λ d n.
          let u = i.at d (omega arith) in
          let v = j.at d (omega arith) in
          record {
            signs = if_sign ∷ space ∷ e.signs ++ space ∷ then_sign ∷ space ∷ u.signs ++ space ∷ else_sign ∷ space ∷ v.signs;
            rule = Rules.Prints.branch e.rule u.rule v.rule;
            fewer =
                omega
                (arith, branch-brackets e.signs u.signs v.signs, of-append (a ++ h ∷ b) (s ∷ c), of-append a (h ∷ b), e.fewer, u.fewer, v.fewer);
          };
    }
yields-fewer (Notation.Yields.loop w t {a = a} {b = b} k x l y) =
    let e = expression-fewer x in
    let i = yields-fewer y in
    record {
      depth = i.depth;
      at = λ d n.
          let u = i.at d n in
          record {
            signs = while_sign ∷ space ∷ e.signs ++ space ∷ do_sign ∷ space ∷ u.signs;
            rule = Rules.Prints.loop e.rule u.rule;
            fewer = omega (arith, loop-brackets e.signs u.signs, of-append a (t ∷ b), e.fewer, u.fewer);
          };
    }
yields-fewer (Notation.Yields.last x) =
    let i = yields-fewer x in
    record { depth = i.depth; at = λ d n. let u = i.at d n in record { signs = u.signs; rule = Rules.Prints.last u.rule; fewer = u.fewer } }
yields-fewer (Notation.Yields.more {a = a} {b = b} s x k y) =
    let i = yields-fewer x in
    let j = yields-fewer y in
    record {
      depth = i.depth + j.depth;
      at = λ d n.
          let u = i.at d (omega arith) in
          let v = j.at d (omega arith) in
          record {
            signs = u.signs ++ semicolon_sign ∷ line d ∷ v.signs;
            rule = Rules.Prints.more u.rule v.rule;
            fewer = omega (arith, row-brackets d u.signs v.signs, of-append a (s ∷ b), u.fewer, v.fewer);
          };
    }
yields-fewer (Notation.Yields.empty o c h k) = anywhere (λ d. record { signs = open_brace_sign ∷ close_brace_sign ∷ []; rule = Rules.Prints.empty; fewer = omega arith })
yields-fewer (Notation.Yields.braces o c {ts = ts} h x k) = block-deep ts o c (yields-fewer x)

text-fewest : {M : Meaning} {ts : List Token} {p : List ℤ} {os : List ℕ} {ss : List Sign} → Rules.Text p ss → Notation.Text M ts p os → brackets_in ss ≤ brackets_of ts
text-fewest t Notation.Text.nothing = rw (one-text t Rules.Text.nothing) (omega arith)
text-fewest t (Notation.Text.some y) =
    let i = yields-fewer y in
    let u = i.at i.depth (omega arith) in
    omega (arith, text-brackets i.depth t u.rule, u.fewer)

pub fewest-brackets : FewestBrackets
fewest-brackets M ts p os e x = text-fewest (program-said (program-sound p e).yields) x
