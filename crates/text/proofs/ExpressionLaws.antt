-- Expressions that are read are the grammar's, within the limits. Assumes the two laws of tokens that `TokenLaws` names.
use mathlib.Core.Path.{◌≡◌, refl, sym, ap}
use mathlib.Core.Bool.{Bool, true, false, cond, ◌&&◌}
use mathlib.Core.List.{List, [], ◌∷◌, ◌++◌}
use Prim.Native.Nat.{ℕ, zero, suc, ◌+◌, ◌-◌, ◌≤◌, ◌<◌}
use native.Mathlib.Omega.{arith}
use borrow.Author.Tests.{leb-true, leb-false, ltb-true, ltb-false, eqb-true, eqb-false, le-leb, ne_eqb, le-ltb}
use lib.Dec.{eqb, ltb, leb}
use lib.IntN.{ℤ, pos}
use lib.ListN.{length-append}
use Rattle.words.specs.Answer.{Answer, got}
use Rattle.words.proofs.AnswerLaws.{got-inj, stop≢got, step}
use Rattle.tables.proofs.SearchLaws.{cases, and_left, and_right}
use Rattle.program.specs.Forms.{expression_depth}
use Rattle.program.specs.Grammar as Limits
use Rattle.tokens.specs.declared.Token.{Token}
use Rattle.tokens.specs.Codes.{colon_code, dot_code, open_bracket_code, close_bracket_code}
use Rattle.text.specs.Grammar.{Meaning, Level, Expression}
use Rattle.text.specs.Reading.{Fault, Reader, Form, passing, peek, take, is, level_of, is_operator, joins, over, opened, operand, onwards, enough, climb, expression, expression_on}
use Rattle.text.specs.Claims.{TokensOf}
use Rattle.text.proofs.TookLaws.{Spot, spot, total, Fine, Took, took-none, took-on, before, ordinary}
use Rattle.text.proofs.TakenLaws.{TokenLaws, One, take-one}
use Rattle.text.proofs.PieceLaws.{either_way, Piece, Nested, Operand, or-false, operand_sound}

-- every operator is on some level
pub level-some : (k : ℕ) → leb 1 (level_of k) ≡ true
unfolding level_of
level-some k =
    cases (eqb k 3) (λ a. rw a) (λ a. cases (leb k 2) (λ b. rw (a, b)) (λ b. cases (leb k 9) (λ c. rw (a, b, c)) (λ c. cases (leb k 10) (λ d. rw (a, b, c, d)) (λ d. rw (a, b, c, d)))))

-- one level over both of two operands
pub deeper : (n a b : ℕ) → a ≤ n → b ≤ n → suc (cond (ltb a b) b a) ≤ suc n
deeper n a b h k = cases (ltb a b) (λ y. rw y (omega arith)) (λ y. rw y (omega arith))

-- ---- operators

level-is : (c : ℕ) → is_operator c ≡ true → Level (c - 40) (level_of (c - 40))
unfolding level_of
level-is c o =
    let low : 41 ≤ c = leb-true 41 c (and_left (leb 41 c) _ o) in
    let high : c ≤ 51 = leb-true c 51 (and_right (leb 41 c) _ o) in
    cases (eqb (c - 40) 3)
    (λ a. let k : c - 40 ≡ 3 = eqb-true (c - 40) 3 a in rw k Level.times)
    (λ a. let not-3 : c - 40 ≡ 3 → ⊥ = eqb-false (c - 40) 3 a in
    cases (leb (c - 40) 2)
    (λ b. let k : c - 40 ≤ 2 = leb-true (c - 40) 2 b in rw (a, b) (Level.sums {k = c - 40} (omega arith) k))
    (λ b. let k : 2 < c - 40 = leb-false (c - 40) 2 b in
    cases (leb (c - 40) 9)
    (λ d. let j : c - 40 ≤ 9 = leb-true (c - 40) 9 d in rw (a, b, d) (Level.comparisons {k = c - 40} (four (c - 40) k not-3) j))
    (λ d. let j : 9 < c - 40 = leb-false (c - 40) 9 d in
    cases (leb (c - 40) 10)
    (λ g. let l : c - 40 ≤ 10 = leb-true (c - 40) 10 g in let m : c - 40 ≡ 10 = omega arith in rw m Level.both)
    (λ g. let l : 10 < c - 40 = leb-false (c - 40) 10 g in let m : c - 40 ≡ 11 = omega arith in rw m Level.either))))
  where
    four : (k : ℕ) → 2 < k → (k ≡ 3 → ⊥) → 4 ≤ k
    four k a b = cases (leb k 3) (λ y. let z : k ≤ 3 = leb-true k 3 y in absurd (b (omega arith))) (λ y. leb-false k 3 y)

level-within : (k : ℕ) → (1 ≤ level_of k) × (level_of k ≤ 5)
unfolding level_of
level-within k =
    cases (eqb k 3) (λ a. rw a (omega arith, omega arith))
    (λ a. cases (leb k 2) (λ b. rw (a, b) (omega arith, omega arith))
    (λ b. cases (leb k 9) (λ c. rw (a, b, c) (omega arith, omega arith))
    (λ c. cases (leb k 10) (λ d. rw (a, b, c, d) (omega arith, omega arith)) (λ d. rw (a, b, c, d) (omega arith, omega arith)))))

level-low : (k : ℕ) → 1 ≤ level_of k
level-low k = (level-within k).0

level-high : (k : ℕ) → level_of k ≤ 5
level-high k = (level-within k).1

operator-ordinary : (c : ℕ) → is_operator c ≡ true → ordinary c ≡ true
operator-ordinary c o =
    let low : 41 ≤ c = leb-true 41 c (and_left (leb 41 c) _ o) in
    rw (le-leb 10 c (omega arith), ne_eqb c colon_code (λ e. omega arith), ne_eqb c dot_code (λ e. omega arith))

-- an expression of a tighter level
looser : {M : Meaning} {in_c : Bool} (l : ℕ) {L : ℕ} {ts : List Token} {ws : List ℤ} {os : List ℕ} → 1 ≤ l → l ≤ L → Expression M in_c L ts ws os → Expression M in_c l ts ws os
looser {M} {in_c} l {L} {ts} {ws} {os} a b e = go (L - l) l a (omega arith)
  where
    go : (n l : ℕ) → 1 ≤ l → n + l ≡ L → Expression M in_c l ts ws os
    go zero l a q = let z : l ≡ L = omega arith in rw z e
    go (suc n) l a q = Expression.tighter a (go n (suc l) (omega arith) (omega arith))

-- ---- brackets

-- the second tokens are the first behind so many open brackets
data Inside : ℕ → List Token → List Token → Type 0 where
  here : {ts : List Token} → Inside 0 ts ts
  behind : {b : ℕ} {o : Token} {ts us : List Token} → o.code ≡ open_bracket_code → Inside b (o ∷ ts) us → Inside (suc b) ts us

inside_on : {b : ℕ} {ts us : List Token} (xs : List Token) → Inside b ts us → Inside b (ts ++ xs) (us ++ xs)
inside_on xs Inside.here = Inside.here
inside_on xs (Inside.behind h k) = Inside.behind h (inside_on xs k)

data Within (M : Meaning) (in_c : Bool) (b l : ℕ) : List Token → List ℤ → List ℕ → Type 0 where
  within : {ts us : List Token} {ws : List ℤ} {os : List ℕ} → Inside b ts us → Expression M in_c l ts ws os → Within M in_c b l us ws os

close : {M : Meaning} {in_c : Bool} {b l : ℕ} {us : List Token} {ws : List ℤ} {os : List ℕ} (c : Token) → 0 < b → 1 ≤ l → c.code ≡ close_bracket_code
    → Within M in_c b l us ws os → Within M in_c (b - 1) 6 (us ++ c ∷ []) ws os
close c h j i (Within.within Inside.here e) = absurd (omega arith)
close c h j i (Within.within (Inside.behind {b = b} {o = o} g k) e) =
    let z : suc b - 1 ≡ b = omega arith in rw z (Within.within (inside_on (c ∷ []) k) (Expression.brackets o c g (looser 1 (omega arith) j e) i))

joined : {M : Meaning} {in_c : Bool} {b l : ℕ} {us vs : List Token} {wa wb : List ℤ} {oa ob : List ℕ} (o : Token) → is_operator o.code ≡ true → level_of (o.code - 40) ≤ l
    → Within M in_c b l us wa oa → Expression M in_c (suc (level_of (o.code - 40))) vs wb ob
    → Within M in_c b (level_of (o.code - 40)) (us ++ o ∷ vs) (pos 25 ∷ pos (o.code - 40) ∷ wa ++ wb) (o.place ∷ o.place ∷ oa ++ ob)
joined {vs = vs} o i h (Within.within k e) f =
    let low : 41 ≤ o.code = leb-true 41 o.code (and_left (leb 41 o.code) _ i) in
    Within.within (inside_on (o ∷ vs) k) (Expression.operation {k = o.code - 40} o (looser _ (level-low (o.code - 40)) h e) (omega arith) (level-is o.code i) f)

alone : {M : Meaning} {in_c : Bool} {b l : ℕ} (low : ℕ) {us : List Token} {ws : List ℤ} {os : List ℕ} → b ≤ 0 → 1 ≤ low → low ≤ l
    → Within M in_c b l us ws os → Expression M in_c low us ws os
alone low h a c (Within.within Inside.here e) = looser low a c e
alone low h a c (Within.within (Inside.behind g k) e) = absurd (omega arith)

module _ (text : List ℕ) where
  -- e
  abbrev pub ExpressionIs : Bool → Reader → Reader → ℕ → Form → Type 0
  ExpressionIs in_c r s k f = Piece text (λ M. Expression M in_c 1) (λ g. Limits.Expression in_c expression_depth g.words) r s k f

module _ {text : List ℕ} (L : TokenLaws text) where
  record Opened (b : ℕ) (r : Reader) (x : ℕ × Reader) : Type 0 where
    tokens : List Token
    took : Took text (spot r) (spot x.1) tokens
    inside : (ts us : List Token) → Inside b (tokens ++ ts) us → Inside x.0 ts us
    sum : total x.1 ≡ total r
    unpassed : x.1.passed ≡ false → r.passed ≡ false

  opened-sound : (fuel b : ℕ) (r : Reader) (x : ℕ × Reader) → Fine text (spot r) → opened text fuel b r ≡ got x → Opened b r x
  unfolding opened
  opened-sound zero b r x f e = rw (← got-inj e) (record { tokens = []; took = took-none f; inside = λ ts us k. k; sum = refl; unpassed = λ p. p })
  opened-sound (suc fuel) b r x f e =
      either_way (is text r open_bracket_code) _ _ e
      (λ t e1.
      step (take text 0 r) _ e1 λ s e2 e3.
      let i : (peek text r).code ≡ open_bracket_code = eqb-true (peek text r).code open_bracket_code t in
      let o : One text 0 r s = take-one L 0 r s open_bracket_code f i refl e2 in
      let z : Opened (suc b) s x = opened-sound fuel (suc b) s x o.took.fine e3 in
      record {
        tokens = peek text r ∷ z.tokens;
        took = took-on o.took z.took;
        inside = λ ts us k. z.inside ts us (Inside.behind i k);
        sum = omega (arith, z.sum, o.sum);
        unpassed = λ p. o.unpassed;
      })
      (λ t e1. rw (← got-inj e1) (record { tokens = []; took = took-none f; inside = λ ts us k. k; sum = refl; unpassed = λ p. p }))

  -- an expression that was read, up to a token that does not join it
  record Climbed (in_c : Bool) (left low : ℕ) (r s : Reader) (extra : ℕ) (f : Form) : Type 0 where
    piece : Piece text (λ M. Expression M in_c low) (Nested text in_c) r s extra f
    shallow : f.depth ≤ left
    stops : joins text low (peek text s) ≡ false

  module _ (in_c : Bool) (left : ℕ) (go : ℕ → Reader → Answer Fault (Form × Reader))
      (ih : (low : ℕ) (r : Reader) (x : Form × Reader) → 1 ≤ low → low ≤ 6 → Fine text (spot r) → go low r ≡ got x → Climbed in_c left low r x.1 0 x.0) where
    onwards-sound : (fuel low b : ℕ) (e : Form) (r0 r : Reader) (extra l : ℕ) (x : Form × Reader) → 1 ≤ low → low ≤ 6 → 1 ≤ l → (b ≡ 0 → low ≤ l)
        → (is_operator (peek text r).code ≡ true → level_of ((peek text r).code - 40) ≤ l) → e.depth ≤ suc left → Piece text (λ M. Within M in_c b l) (Nested text in_c) r0 r extra e
        → onwards text go fuel left low b e r ≡ got x → Climbed in_c (suc left) low r0 x.1 extra x.0
    unfolding onwards peek
    onwards-sound zero low b e r0 r extra l x h1 h2 h3 h4 h5 h6 p q = stop≢got q
    onwards-sound (suc fuel) low b e r0 r extra l x h1 h2 h3 h4 h5 h6 p q =
        either_way (is text r close_bracket_code && ltb 0 b) _ _ q
        (λ t q1.
        step (take text 0 r) _ q1 λ s q2 q3.
        let i : (peek text r).code ≡ close_bracket_code = eqb-true (peek text r).code close_bracket_code (and_left (is text r close_bracket_code) _ t) in
        let c : 0 < b = ltb-true 0 b (and_right (is text r close_bracket_code) _ t) in
        let o : One text 0 r s = take-one L 0 r s close_bracket_code p.took.fine i refl q2 in
        let high : level_of ((peek text s).code - 40) ≤ 5 = level-high ((peek text s).code - 40) in
        onwards-sound fuel low (b - 1) e r0 s extra 6 x h1 h2 (omega arith) (λ z. h2) (λ z. omega arith) h6
        (record {
          rest = p.rest ++ peek text r ∷ [];
          took = took-on p.took o.took;
          yields = λ vs ls y. close (peek text r) c h3 i (p.yields vs ls (before o.took y));
          limits = p.limits;
          sum = omega (arith, p.sum, o.sum);
          unpassed = p.unpassed;
        }) q3)
        (λ t q1. either_way (joins text (cond (ltb 0 b) 1 low) (peek text r)) _ _ q1
        (λ j q2.
        step (take text 2 (passing (ltb left e.depth) r)) _ q2 λ s q3 q4.
        step (go (suc (level_of ((peek text r).code - 40))) s) _ q4 λ f q5 q6.
        let i : is_operator (peek text r).code ≡ true = and_left (is_operator (peek text r).code) _ j in
        let o : One text 2 (passing (ltb left e.depth) r) s =
        take-one L 2 (passing (ltb left e.depth) r) s (peek text r).code p.took.fine refl (operator-ordinary (peek text r).code i) q3 in
        let low-l : 1 ≤ level_of ((peek text r).code - 40) = level-low ((peek text r).code - 40) in
        let high-l : level_of ((peek text r).code - 40) ≤ 5 = level-high ((peek text r).code - 40) in
        let c : Climbed in_c left (suc (level_of ((peek text r).code - 40))) s f.1 0 f.0 = ih (suc (level_of ((peek text r).code - 40))) s f (omega arith) (omega arith) o.took.fine q5 in
        let sh : e.depth ≤ left = ltb-false left e.depth (or-false r.passed (ltb left e.depth) o.unpassed) in
        onwards-sound fuel low b (over text (peek text r) e f.0) r0 f.1 extra (level_of ((peek text r).code - 40)) x h1 h2 low-l
        (λ z. leb-true low (level_of ((peek text r).code - 40)) (loose b low z (level_of ((peek text r).code - 40)) (and_right (is_operator (peek text r).code) _ j)))
        (λ z. next (peek text f.1) (level_of ((peek text r).code - 40)) z c.stops)
        (deeper left e.depth f.0.depth sh c.shallow)
        (record {
          rest = p.rest ++ peek text r ∷ peek text s ∷ c.piece.rest;
          took = took-on p.took (took-on o.took c.piece.took);
          yields = λ vs ls y. joined (peek text r) i (h5 i) (p.yields vs ls (before o.took (before c.piece.took y))) (c.piece.yields vs ls y);
          limits = λ d k. nested (peek text r).code i e f.0 p.limits c.piece.limits d k;
          sum = rw (length-append e.words f.0.words) (omega (arith, p.sum, o.sum, c.piece.sum));
          unpassed = p.unpassed;
        }) q6)
        (λ j q2. either_way (ltb 0 b) _ _ q2 (λ z q3. stop≢got q3)
        (λ z q3.
        let none : b ≤ 0 = ltb-false 0 b z in
        rw (← got-inj q3) (record {
          piece = record {
            rest = p.rest;
            took = p.took;
            yields = λ vs ls y. alone low none h1 (h4 (omega arith)) (p.yields vs ls y);
            limits = p.limits;
            sum = p.sum;
            unpassed = p.unpassed;
          };
          shallow = h6;
          stops = rw z at j;
        }))))
      where
        loose : (b low : ℕ) → b ≡ 0 → (k : ℕ) → leb (cond (ltb 0 b) 1 low) k ≡ true → leb low k ≡ true
        loose b low z k e = rw (le-ltb 0 b (omega arith)) at e

        next : (t : Token) (k : ℕ) → is_operator t.code ≡ true → joins text (suc k) t ≡ false → level_of (t.code - 40) ≤ k
        next t k i e =
            let z : leb (suc k) (level_of (t.code - 40)) ≡ false = rw i at e in
            let y : level_of (t.code - 40) < suc k = leb-false (suc k) (level_of (t.code - 40)) z in omega arith

        deepest : (n a b : ℕ) → suc (cond (ltb a b) b a) ≤ suc n → (a ≤ n) × (b ≤ n)
        deepest n a b h =
            cases (ltb a b)
            (λ z. let g : a < b = ltb-true a b z in let k : suc b ≤ suc n = rw z at h in (omega arith, omega arith))
            (λ z. let g : b ≤ a = ltb-false a b z in let k : suc a ≤ suc n = rw z at h in (omega arith, omega arith))

        nested : (c : ℕ) → is_operator c ≡ true → (a b : Form) → Nested text in_c a → Nested text in_c b → (d : ℕ) → suc (cond (ltb a.depth b.depth) b.depth a.depth) ≤ d
            → Limits.Expression in_c d (pos 25 ∷ pos (c - 40) ∷ a.words ++ b.words)
        nested c i a b x y zero h = absurd (omega arith)
        nested c i a b x y (suc d) h =
            let low : 41 ≤ c = leb-true 41 c (and_left (leb 41 c) _ i) in
            let high : c ≤ 51 = leb-true c 51 (and_right (leb 41 c) _ i) in
            let k : (a.depth ≤ d) × (b.depth ≤ d) = deepest d a.depth b.depth h in
            Limits.Expression.operation {o = c - 40} (omega arith) (omega arith) (x d k.0) (y d k.1)

  first-token : (r : Reader) {q : Spot} (ts : List Token) (t : Token) (us : List Token) → Took text (spot r) q (ts ++ t ∷ us) → (rest : List Token) × (ts ++ t ∷ us ≡ peek text r ∷ rest)
  unfolding peek
  first-token r [] t us k = go k.spelt
    where
      go : {n m : ℕ} → TokensOf text r.at r.last (t ∷ us) n m → (rest : List Token) × (t ∷ us ≡ peek text r ∷ rest)
      go (TokensOf.more e j) = (us, ap (λ z. z ∷ us) (sym e))
  first-token r (x ∷ ts) t us k = go k.spelt
    where
      go : {n m : ℕ} → TokensOf text r.at r.last (x ∷ ts ++ t ∷ us) n m → (rest : List Token) × (x ∷ ts ++ t ∷ us ≡ peek text r ∷ rest)
      go (TokensOf.more e j) = (ts ++ t ∷ us, ap (λ z. z ∷ ts ++ t ∷ us) (sym e))

  operand-within : (in_c : Bool) (r : Reader) (x : ℕ × Reader) (y : Form × Reader) → Opened 0 r x → Operand text in_c x.1 y.1 0 y.0
      → Piece text (λ M. Within M in_c x.0 6) (Nested text in_c) r y.1 0 y.0
  operand-within in_c r x y o p =
      let k : Took text (spot r) (spot y.1) (o.tokens ++ peek text x.1 ∷ p.rest) = took-on o.took p.took in
      let f : (rest : List Token) × (o.tokens ++ peek text x.1 ∷ p.rest ≡ peek text r ∷ rest) = first-token r o.tokens (peek text x.1) p.rest k in
      record {
        rest = f.0;
        took = rw f.1 at k;
        yields = λ vs ls l. Within.within (o.inside (peek text x.1 ∷ p.rest) (peek text r ∷ f.0) (rw f.1 Inside.here)) (p.yields vs ls l);
        limits = p.limits.0;
        sum = omega (arith, p.sum, o.sum);
        unpassed = o.unpassed p.unpassed;
      }

  climb-sound : (left : ℕ) (in_c : Bool) (low : ℕ) (r : Reader) (x : Form × Reader) → 1 ≤ low → low ≤ 6 → Fine text (spot r) → climb text left in_c low r ≡ got x
      → Climbed in_c left low r x.1 0 x.0
  unfolding climb
  climb-sound zero in_c low r x a b f e = stop≢got e
  climb-sound (suc left) in_c low r x a b f e =
      step (opened text (enough text) 0 r) _ e λ y e1 e2.
      step (operand text in_c y.1) _ e2 λ z e3 e4.
      let o : Opened 0 r y = opened-sound (enough text) 0 r y f e1 in
      let p : Operand text in_c y.1 z.1 0 z.0 = operand_sound L in_c y.1 z o.took.fine e3 in
      let one : z.0.depth ≡ 1 = p.limits.1 in
      onwards-sound in_c left (λ l v. climb text left in_c l v) (λ l v w c d g h. climb-sound left in_c l v w c d g h) (enough text) low y.0 z.0 r z.1 0 6 x a b (omega arith) (λ k. b)
      (λ k. let m : level_of ((peek text z.1).code - 40) ≤ 5 = level-high ((peek text z.1).code - 40) in omega arith) (omega arith) (operand-within in_c r y z o p) e4

  climbed-is : {in_c : Bool} {r s : Reader} {k : ℕ} {f : Form} → Climbed in_c expression_depth 1 r s k f → ExpressionIs text in_c r s k f
  climbed-is c =
      let p : Piece text _ _ _ _ _ _ = c.piece in
      record { rest = p.rest; took = p.took; yields = p.yields; limits = p.limits expression_depth c.shallow; sum = p.sum; unpassed = p.unpassed }

  pub expression-sound : (in_c : Bool) (r : Reader) (x : Form × Reader) → Fine text (spot r) → expression text in_c r ≡ got x → ExpressionIs text in_c r x.1 0 x.0
  unfolding expression
  expression-sound in_c r x f e = climbed-is (climb-sound expression_depth in_c 1 r x (omega arith) (omega arith) f e)

  -- an expression whose first operand has been read, from r to s
  pub expression-on-sound : (in_c : Bool) (f : Form) (r s : Reader) (k : ℕ) (x : Form × Reader) → Operand text in_c r s k f → expression_on text in_c f s ≡ got x
      → ExpressionIs text in_c r x.1 k x.0
  unfolding expression_on
  expression-on-sound in_c f r s k x p e =
      let one : f.depth ≡ 1 = p.limits.1 in
      climbed-is (onwards-sound in_c 15 (λ l v. climb text 15 in_c l v) (λ l v w c d g h. climb-sound 15 in_c l v w c d g h) (enough text) 1 0 f r s k 6 x (omega arith) (omega arith) (omega arith)
      (λ z. omega arith) (λ z. let m : level_of ((peek text s).code - 40) ≤ 5 = level-high ((peek text s).code - 40) in omega arith) (omega arith)
      (record { rest = p.rest; took = p.took; yields = λ vs ls l. Within.within Inside.here (p.yields vs ls l); limits = p.limits.0; sum = p.sum; unpassed = p.unpassed }) e)
