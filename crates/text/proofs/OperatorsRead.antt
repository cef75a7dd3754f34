-- One operator with its right operand, and a closing bracket: how a reader behind an operand goes on. Assumes nothing.
use mathlib.Core.Path.{◌≡◌, refl, sym, ap, ◌∙◌}
use mathlib.Core.Bool.{Bool, true, false, cond}
use mathlib.Core.List.{List, ◌∷◌, ◌++◌}
use Prim.Native.Nat.{ℕ, zero, suc, ◌+◌, ◌-◌, ◌≤◌, ◌<◌}
use native.Mathlib.Omega.{arith}
use borrow.Author.Tests.{ne_eqb, le-leb, lt-leb, le-ltb, lt-ltb}
use lib.Dec.{ltb}
use lib.IntN.{ℤ, pos}
use lib.ListN.{length}
use Rattle.words.specs.Answer.{Answer}
use Rattle.tables.proofs.SearchLaws.{cases, and-false}
use Rattle.program.specs.Forms.{most_words}
use Rattle.program.specs.Grammar.{Expression as Of}
use Rattle.tokens.specs.declared.Token.{Token}
use Rattle.tokens.specs.Codes.{dot_code, colon_code, identical_code, close_bracket_code}
use Rattle.text.specs.Grammar.{Level, Expression}
use Rattle.text.specs.Reading.{Fault, Reader, Form, passing, peek, is, level_of, is_operator, joins, onwards}
use Rattle.text.proofs.ExpressionLaws.{deeper}
use Rattle.text.proofs.Taken.{Given, At, next, taken, takes, plain, peek-next, is-so, is-not, unpassing}
use Rattle.text.proofs.PathsRead.{M, Done, made}

pub level-of : {k l : ℕ} → Level k l → (level_of k ≡ l) × ((1 ≤ k) × ((k ≤ 11) × (1 ≤ l)))
unfolding level_of
level-of Level.times = (refl, (omega arith, (omega arith, omega arith)))
level-of (Level.sums {k = k} a b) = (rw (ne_eqb k 3 (λ z. omega arith), le-leb k 2 b) refl, (a, (omega arith, omega arith)))
level-of (Level.comparisons {k = k} a b) = (rw (ne_eqb k 3 (λ z. omega arith), lt-leb k 2 (omega arith), le-leb k 9 b) refl, (omega arith, (omega arith, omega arith)))
level-of Level.both = (refl, (omega arith, (omega arith, omega arith)))
level-of Level.either = (refl, (omega arith, (omega arith, omega arith)))

-- the token goes on with no path, with no identity, and with no operator that binds more tightly than l
pub record Stops (in_c : Bool) (l : ℕ) (t : Token) : Type 0 where
  pub undotted : t.code ≡ dot_code → ⊥
  pub uncoloned : t.code ≡ colon_code → ⊥
  pub unlike : in_c ≡ false → t.code ≡ identical_code → ⊥
  pub looser : is_operator t.code ≡ true → level_of (t.code - 40) ≤ l

pub stops-looser : {in_c : Bool} {l m : ℕ} {t : Token} → l ≤ m → Stops in_c l t → Stops in_c m t
stops-looser h s = record { undotted = s.undotted; uncoloned = s.uncoloned; unlike = s.unlike; looser = λ e. omega (arith, s.looser e) }

-- a token that is no operator and none of those
pub stops-by : {in_c : Bool} {l : ℕ} (c : ℕ) (t : Token) → t.code ≡ c → (c ≡ dot_code → ⊥) → (c ≡ colon_code → ⊥) → (c ≡ identical_code → ⊥) → is_operator c ≡ false → Stops in_c l t
stops-by c t e d f g h = record { undotted = λ z. d (sym e ∙ z); uncoloned = λ z. f (sym e ∙ z); unlike = λ x z. g (sym e ∙ z); looser = λ z. absurd (let y : true ≡ false = sym z ∙ rw e h in let n : ◌≡◌ {A = ℕ} 0 1 = cc in omega arith) }

pub is-operator : {k l : ℕ} (t : Token) → t.code ≡ 40 + k → Level k l → (is_operator t.code ≡ true) × ((level_of (t.code - 40) ≡ l) × (t.code - 40 ≡ k))
is-operator {k} {l} t e v =
    let b = level-of v in let b1 = b.1.0 in let b2 = b.1.1.0 in
    let z : t.code - 40 ≡ k = omega arith in
    (rw (le-leb 41 t.code (omega arith), le-leb t.code 51 (omega arith)) refl, (rw z b.0, z))

pub stops-operator : {in_c : Bool} {k l : ℕ} {t : Token} → t.code ≡ 40 + k → Level k l → Stops in_c l t
stops-operator {k = k} {l = l} {t = t} e v =
    let b1 = (level-of v).1.0 in let b2 = (is-operator t e v).1.0 in
    record { undotted = λ z. omega arith; uncoloned = λ z. omega arith; unlike = λ x z. omega arith; looser = λ z. omega arith }

module _ (text : List ℕ) where
  stops-joins : {in_c : Bool} {l : ℕ} {t : Token} → Stops in_c l t → joins text (suc l) t ≡ false
  stops-joins {l = l} {t = t} s =
      cases (is_operator t.code) (λ c. rw c (lt-leb (suc l) (level_of (t.code - 40)) (omega (arith, s.looser c)))) (λ c. rw c refl)

  operator-joins : {k l : ℕ} (low b : ℕ) (t : Token) → t.code ≡ 40 + k → Level k l → (b ≡ 0 → low ≤ l) → joins text (cond (ltb 0 b) 1 low) t ≡ true
  operator-joins {k} {l} low zero t e v h = let i = is-operator t e v in rw (i.0, i.1.0) (le-leb low l (h refl))
  operator-joins {k} {l} low (suc b) t e v h = let i = is-operator t e v in rw (lt-ltb 0 (suc b) (omega arith), i.0, i.1.0) (le-leb 1 l (level-of v).1.1.1)

module _ (G : Given) (in_c : Bool) (left : ℕ) (go : ℕ → Reader → Answer Fault (Form × Reader)) where
  -- `go` reads what the grammar yields, nested at most `left` deep
  abbrev pub Goes : Type 0
  Goes = (l d c : ℕ) (r : Reader) (ts rest : List Token) (ws : List ℤ) (os : List ℕ) → Expression (M G) in_c (suc l) ts ws os → Of in_c d ws → d ≤ left
      → At G r c (ts ++ rest) → (r.last ≡ dot_code → ⊥) → Stops in_c l (next G rest) → c + length ws ≤ most_words → Done G (go (suc l) r) r.at (c + length ws) rest ws os d

  -- m comes to where an operand of these words has been read, with b brackets open
  pub record Arrives (m : Answer Fault (Form × Reader)) (from low b c : ℕ) (rest : List Token) (ws : List ℤ) (os : List ℕ) (d : ℕ) : Type 0 where
    pub fuel : ℕ
    pub depth : ℕ
    pub reader : Reader
    pub answer : m ≡ onwards G.text go fuel left low b (made ws os depth) reader
    pub room : length G.text < fuel + reader.at
    pub shallow : depth ≤ d
    pub behind : At G reader c rest
    pub on : from ≤ reader.at

  -- the bracket that was opened last closes
  pub closes : {m : Answer Fault (Form × Reader)} {from low b c d : ℕ} {t : Token} {rest : List Token} {ws : List ℤ} {os : List ℕ}
      → Arrives m from low (suc b) c (t ∷ rest) ws os d → t.code ≡ close_bracket_code → c ≤ most_words → Arrives m from low b c rest ws os d
  unfolding onwards
  closes {m} {from} {low} {b} {c} {d} {t} {rest} {ws} {os} a e h = by a.fuel a.answer a.room (plain G 0 a.behind (λ z. absurd (omega arith)))
    where
      by : (fuel : ℕ) → m ≡ onwards G.text go fuel left low (suc b) (made ws os a.depth) a.reader → length G.text < fuel + a.reader.at
          → At G (taken G 0 a.reader) (c + 0) rest × (a.reader.at < (peek G.text a.reader).end) → Arrives m from low b c rest ws os d
      by zero q f p = absurd (omega (arith, a.behind.inside))
      by (suc fuel) q f (p, o) =
          let x : suc b - 1 ≡ b = omega arith in let y : c + 0 ≡ c = omega arith in let z : c + 0 ≤ most_words = omega arith in
          record {
            fuel = fuel;
            depth = a.depth;
            reader = taken G 0 a.reader;
            answer = rw (is-so G close_bracket_code a.behind e, lt-ltb 0 (suc b) (omega arith), onwards, takes G 0 a.behind z, x) at q;
            room = omega arith;
            shallow = a.shallow;
            behind = rw y at p;
            on = omega (arith, a.on);
          }

  -- nothing goes on with the operand, and it is all
  pub ends : {m : Answer Fault (Form × Reader)} {from l c d : ℕ} {rest : List Token} {ws : List ℤ} {os : List ℕ}
      → Arrives m from (suc l) 0 c rest ws os d → Stops in_c l (next G rest) → Done G m from c rest ws os d
  unfolding onwards
  ends {m} {from} {l} {c} {d} {rest} {ws} {os} a s = by a.fuel a.answer a.room
    where
      by : (fuel : ℕ) → m ≡ onwards G.text go fuel left (suc l) 0 (made ws os a.depth) a.reader → length G.text < fuel + a.reader.at → Done G m from c rest ws os d
      by zero q f = absurd (omega (arith, a.behind.inside))
      by (suc fuel) q f =
          let x : joins G.text (suc l) (peek G.text a.reader) ≡ false = rw (peek-next G a.behind) (stops-joins G.text s) in
          record {
            depth = a.depth;
            reader = a.reader;
            answer = rw (and-false (is G.text a.reader close_bracket_code) false refl, onwards, x) at q;
            shallow = a.shallow;
            behind = a.behind;
            on = a.on;
          }

  -- an operator follows, with its right operand
  pub joined : {m : Answer Fault (Form × Reader)} {from low b c e k l : ℕ} {us rest : List Token} {va vb : List ℤ} {oa ob : List ℕ} (t : Token)
      → Goes → Arrives m from low b c (t ∷ (us ++ rest)) va oa e → t.code ≡ 40 + k → Level k l → (b ≡ 0 → low ≤ l) → e ≤ left
      → Expression (M G) in_c (suc l) us vb ob → Of in_c e vb → Stops in_c l (next G rest) → c + 2 + length vb ≤ most_words
      → Arrives m from low b (c + 2 + length vb) rest (pos 25 ∷ pos k ∷ va ++ vb) (t.place ∷ t.place ∷ oa ++ ob) (suc e)
  unfolding onwards
  joined {m} {from} {low} {b} {c} {e} {k} {l} {us} {rest} {va} {vb} {oa} {ob} t goes a q v f g z o s h =
      by a.fuel a.answer a.room (plain G 2 at (λ z. absurd (omega arith)))
    where
      at : At G (passing (ltb left a.depth) a.reader) c (t ∷ (us ++ rest))
      at = unpassing G (ltb left a.depth) (le-ltb left a.depth (omega (arith, a.shallow))) a.behind

      shut : is G.text a.reader close_bracket_code ≡ false
      shut = is-not G close_bracket_code a.behind (λ z. omega arith)

      join : joins G.text (cond (ltb 0 b) 1 low) (peek G.text a.reader) ≡ true
      join = rw (peek-next G a.behind) (operator-joins G.text low b t q v f)

      level : level_of ((peek G.text a.reader).code - 40) ≡ l
      level = rw (peek-next G a.behind) (is-operator t q v).1.0

      code : (peek G.text a.reader).code - 40 ≡ k
      code = rw (peek-next G a.behind) (is-operator t q v).1.1

      place : (peek G.text a.reader).place ≡ t.place
      place = ap (λ (t : Token). t.place) (peek-next G a.behind)

      to : (fuel : ℕ) → m ≡ onwards G.text go (suc fuel) left low b (made va oa a.depth) a.reader → length G.text < suc fuel + a.reader.at
          → a.reader.at < (peek G.text (passing (ltb left a.depth) a.reader)).end
          → Done G (go (suc l) (taken G 2 (passing (ltb left a.depth) a.reader))) (peek G.text (passing (ltb left a.depth) a.reader)).end (c + 2 + length vb) rest vb ob e
          → Arrives m from low b (c + 2 + length vb) rest (pos 25 ∷ pos k ∷ va ++ vb) (t.place ∷ t.place ∷ oa ++ ob) (suc e)
      to fuel w y p i = let x : c + 2 ≤ most_words = omega arith in record {
        fuel = fuel;
        depth = suc (cond (ltb a.depth i.depth) i.depth a.depth);
        reader = i.reader;
        answer = rw (shut, onwards, join, takes G 2 at x, level, i.answer, code, place) at w;
        room = omega (arith, i.on);
        shallow = deeper e a.depth i.depth a.shallow i.shallow;
        behind = i.behind;
        on = omega (arith, a.on, i.on);
      }

      by : (fuel : ℕ) → m ≡ onwards G.text go fuel left low b (made va oa a.depth) a.reader → length G.text < fuel + a.reader.at
          → At G (taken G 2 (passing (ltb left a.depth) a.reader)) (c + 2) (us ++ rest) × (a.reader.at < (peek G.text (passing (ltb left a.depth) a.reader)).end)
          → Arrives m from low b (c + 2 + length vb) rest (pos 25 ∷ pos k ∷ va ++ vb) (t.place ∷ t.place ∷ oa ++ ob) (suc e)
      by zero w y p = absurd (omega (arith, a.behind.inside))
      by (suc fuel) w y (p, j) =
          let n : (peek G.text (passing (ltb left a.depth) a.reader)).code ≡ 40 + k = ap (λ (t : Token). t.code) (peek-next G at) ∙ q in
          to fuel w y j (goes l e (c + 2) (taken G 2 (passing (ltb left a.depth) a.reader)) us rest vb ob z o g p (λ z. omega arith) s h)
