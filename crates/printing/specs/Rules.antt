-- The form of a written program as rules (02, W5), apart from how it is written: the signs that stand for the words of each piece. Assumes nothing: these are definitions.
use Rattle.std.specs.Prelude.{ℕ, suc, ◌≤◌, ◌<◌, ◌≡◌, Bool, true, false, List, [], ◌∷◌, ◌++◌, ℤ, pos}
use Rattle.text.specs.Grammar.{Level}
use Rattle.printing.specs.Signs.{Sign, integer, variable, label, space, line, operator_text, priority_text}
use Rattle.printing.specs.Signs.{new_sign, skip_sign, always_sign, once_sign, if_sign, then_sign, else_sign, while_sign, do_sign, true_sign, false_sign, nil_sign}
use Rattle.printing.specs.Signs.{becomes_sign, colon_sign, comma_sign, dot_sign, semicolon_sign, open_brace_sign, close_brace_sign, open_bracket_sign, close_bracket_sign, identical_sign, beside_sign}

pub data Labels : ℕ → List ℤ → List Sign → Type 0 where
  none : Labels 0 [] []
  one : {n l : ℕ} {ws : List ℤ} {ss : List Sign} → Labels n ws ss → Labels (suc n) (pos l ∷ ws) (dot_sign ∷ label l ∷ ss)

pub data Path : List ℤ → List Sign → Type 0 where
  path : {x n : ℕ} {ws : List ℤ} {ss : List Sign} → Labels n ws ss → Path (pos x ∷ pos n ∷ ws) (variable x ∷ ss)

-- an expression where one is asked for that binds as tightly as `low` or more; "Brackets only where reading would otherwise give other words: a left operand whose operator
-- binds less tightly, a right operand whose operator does not bind more tightly"
pub data Expression (in_c : Bool) : ℕ → List ℤ → List Sign → Type 0 where
  nil : {low : ℕ} → Expression in_c low (pos 20 ∷ []) (nil_sign ∷ [])
  no : {low : ℕ} → Expression in_c low (pos 21 ∷ []) (false_sign ∷ [])
  yes : {low : ℕ} → Expression in_c low (pos 22 ∷ []) (true_sign ∷ [])
  number : {low : ℕ} {w : ℤ} → Expression in_c low (pos 23 ∷ w ∷ []) (integer w ∷ [])
  at : {low : ℕ} {a : List ℤ} {sa : List Sign} → Path a sa → Expression in_c low (pos 24 ∷ a) sa
  identity : {low : ℕ} {a b : List ℤ} {sa sb : List Sign}
      → in_c ≡ false → Path a sa → Path b sb → Expression in_c low (pos 26 ∷ a ++ b) (sa ++ space ∷ identical_sign ∷ space ∷ sb)
  operation : {low o l : ℕ} {a b : List ℤ} {sa sb : List Sign}
      → 1 ≤ o → o ≤ 11 → Level o l → low ≤ l → Expression in_c l a sa → Expression in_c (suc l) b sb → Expression in_c low (pos 25 ∷ pos o ∷ a ++ b) (sa ++ operator_text o ++ sb)
  brackets : {low o l : ℕ} {a b : List ℤ} {sa sb : List Sign}
      → 1 ≤ o → o ≤ 11 → Level o l → l < low → Expression in_c l a sa → Expression in_c (suc l) b sb
      → Expression in_c low (pos 25 ∷ pos o ∷ a ++ b) (open_bracket_sign ∷ (sa ++ operator_text o ++ sb) ++ close_bracket_sign ∷ [])

-- "Parts joined by ` /\ `, each with its priority written out."
pub data Parts : ℕ → List ℤ → List Sign → Type 0 where
  one : {k : ℕ} {e : List ℤ} {se : List Sign} → 1 ≤ k → k ≤ 3 → Expression true 1 e se → Parts 1 (pos k ∷ e) (priority_text k ++ se)
  more : {m k : ℕ} {e ps : List ℤ} {se ss : List Sign}
      → 1 ≤ k → k ≤ 3 → Expression true 1 e se → Parts m ps ss → Parts (suc m) (pos k ∷ e ++ ps) ((priority_text k ++ se) ++ space ∷ beside_sign ∷ space ∷ ss)

-- "`x := new {a: 1, b: 2}`"
pub data Fields : ℕ → List ℤ → List Sign → Type 0 where
  one : {l : ℕ} {e : List ℤ} {se : List Sign} → Expression false 1 e se → Fields 1 (pos l ∷ e) (label l ∷ colon_sign ∷ space ∷ se)
  more : {n l : ℕ} {e fs : List ℤ} {se ss : List Sign}
      → Expression false 1 e se → Fields n fs ss → Fields (suc n) (pos l ∷ e ++ fs) ((label l ∷ colon_sign ∷ space ∷ se) ++ comma_sign ∷ space ∷ ss)

-- the pieces that hold one another, each with the nesting left: a statement, n statements in a row, and a block in its braces
pub data Piece : Type 0 where
  statement : ℕ → Piece
  row : ℕ → ℕ → Piece
  block : ℕ → Piece

pub data Prints : Piece → List ℤ → List Sign → Type 0 where
  skip : {d : ℕ} → Prints (statement d) (pos 0 ∷ []) (skip_sign ∷ [])
  assign : {d : ℕ} {a e : List ℤ} {sa se : List Sign} → Path a sa → Expression false 1 e se → Prints (statement d) (pos 1 ∷ a ++ e) (sa ++ space ∷ becomes_sign ∷ space ∷ se)
  new_empty : {d x : ℕ} → Prints (statement d) (pos 2 ∷ pos x ∷ pos 0 ∷ []) (variable x ∷ space ∷ becomes_sign ∷ space ∷ new_sign ∷ space ∷ open_brace_sign ∷ close_brace_sign ∷ [])
  new : {d x n : ℕ} {fs : List ℤ} {ss : List Sign} → Fields n fs ss
      → Prints (statement d) (pos 2 ∷ pos x ∷ pos n ∷ fs) (variable x ∷ space ∷ becomes_sign ∷ space ∷ new_sign ∷ space ∷ open_brace_sign ∷ ss ++ close_brace_sign ∷ [])
  always : {d m : ℕ} {ps : List ℤ} {ss : List Sign} → Parts m ps ss → Prints (statement d) (pos 3 ∷ pos m ∷ ps) (always_sign ∷ space ∷ ss)
  once : {d m : ℕ} {ps : List ℤ} {ss : List Sign} → Parts m ps ss → Prints (statement d) (pos 4 ∷ pos m ∷ ps) (once_sign ∷ space ∷ ss)
  always-same : {d : ℕ} {a b : List ℤ} {sa sb : List Sign}
      → Path a sa → Path b sb → Prints (statement d) (pos 5 ∷ a ++ b) (always_sign ∷ space ∷ sa ++ space ∷ identical_sign ∷ space ∷ sb)
  once-same : {d : ℕ} {a b : List ℤ} {sa sb : List Sign}
      → Path a sa → Path b sb → Prints (statement d) (pos 6 ∷ a ++ b) (once_sign ∷ space ∷ sa ++ space ∷ identical_sign ∷ space ∷ sb)
  branch : {d : ℕ} {e a b : List ℤ} {se sa sb : List Sign} → Expression false 1 e se → Prints (block d) a sa → Prints (block d) b sb
      → Prints (statement d) (pos 7 ∷ e ++ (a ++ b)) (if_sign ∷ space ∷ se ++ space ∷ then_sign ∷ space ∷ sa ++ space ∷ else_sign ∷ space ∷ sb)
  loop : {d : ℕ} {e a : List ℤ} {se sa : List Sign} → Expression false 1 e se → Prints (block d) a sa
      → Prints (statement d) (pos 8 ∷ e ++ a) (while_sign ∷ space ∷ se ++ space ∷ do_sign ∷ space ∷ sa)
  -- "statements parted by `;` and a newline"
  last : {d : ℕ} {s : List ℤ} {ss : List Sign} → Prints (statement d) s ss → Prints (row d 1) s ss
  more : {d n : ℕ} {s t : List ℤ} {ss st : List Sign} → Prints (statement d) s ss → Prints (row d n) t st → Prints (row d (suc n)) (s ++ t) (ss ++ semicolon_sign ∷ line d ∷ st)
  -- "a closing brace stands on its own line under the statement that opened it; an empty block is `{}`"
  empty : {d : ℕ} → Prints (block d) (pos 0 ∷ []) (open_brace_sign ∷ close_brace_sign ∷ [])
  braces : {d n : ℕ} {ws : List ℤ} {ss : List Sign} → Prints (row d n) ws ss → Prints (block (suc d)) (pos n ∷ ws) (open_brace_sign ∷ line d ∷ ss ++ line (suc d) ∷ close_brace_sign ∷ [])

-- "no newline at the end of the text"; "The program `0` is the empty text."
pub data Text : List ℤ → List Sign → Type 0 where
  nothing : Text (pos 0 ∷ []) []
  some : {n : ℕ} {ws : List ℤ} {ss : List Sign} → Prints (row 7 n) ws ss → Text (pos n ∷ ws) ss
