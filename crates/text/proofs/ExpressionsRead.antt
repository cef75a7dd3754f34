-- What the grammar yields as an expression is read, with its words, where it nests within the limit and the token behind it does not go on with it. Assumes nothing.
use mathlib.Core.Path.{◌≡◌, refl, ap, ◌∙◌}
use mathlib.Core.Bool.{Bool, false}
use mathlib.Core.List.{List, [], ◌∷◌, ◌++◌, append_assoc}
use Prim.Native.Nat.{ℕ, zero, suc, ◌+◌, ◌≤◌, ◌<◌}
use native.Mathlib.Omega.{arith}
use lib.IntN.{ℤ, pos}
use lib.ListN.{length, length-append}
use Rattle.words.specs.Answer.{Answer, got, ◌>>=◌}
use Rattle.program.specs.Forms.{most_words, expression_depth}
use Rattle.program.specs.Grammar.{Expression as Of}
use Rattle.tokens.specs.declared.Token.{Token}
use Rattle.tokens.specs.Codes.{dot_code, open_bracket_code, close_bracket_code}
use Rattle.text.specs.Grammar.{Path, Expression}
use Rattle.text.specs.Reading.{Fault, Reader, Form, peek, is, operand, enough, opened, onwards, climb, expression}
use Rattle.text.proofs.Taken.{Given, At, next, taken, takes, plain, peek-next, is-so, is-not}
use Rattle.text.proofs.PathsRead.{M, Done}
use Rattle.text.proofs.Cuts.{path-of-length, path-part, identity-parts, operation-parts}
use Rattle.text.proofs.OperandsRead.{nil-read, no_read, yes-read, number_read, at_read, same_read}
use Rattle.text.proofs.OperatorsRead.{Stops, stops-looser, stops-by, stops-operator, Goes, Arrives, closes, ends, joined}

-- a leaf is nested 1 deep
pub some-depth : {in_c : Bool} {d : ℕ} {p : List ℤ} → Of in_c d p → 1 ≤ d
some-depth Of.nil = omega arith
some-depth Of.no = omega arith
some-depth Of.yes = omega arith
some-depth Of.integer = omega arith
some-depth (Of.at x) = omega arith
some-depth (Of.operation m n x y) = omega arith
some-depth (Of.identity z x y) = omega arith

module _ (G : Given) (in_c : Bool) (left : ℕ) (go : ℕ → Reader → Answer Fault (Form × Reader)) where
  -- from where brackets may open, b of them open already
  abbrev begun : ℕ → ℕ → ℕ → Reader → Answer Fault (Form × Reader)
  begun low fuel b r = opened G.text fuel b r >>= λ x. operand G.text in_c x.1 >>= λ e. onwards G.text go (enough G.text) left low x.0 e.0 e.1

  none-opened : (fuel b : ℕ) (r : Reader) → is G.text r open_bracket_code ≡ false → opened G.text fuel b r ≡ got (b, r)
  unfolding opened
  none-opened zero b r e = refl
  none-opened (suc fuel) b r e = rw e refl

  -- an operand without brackets
  begins : {low b c d : ℕ} (fuel : ℕ) (r : Reader) {rest : List Token} {ws : List ℤ} {os : List ℕ} → is G.text r open_bracket_code ≡ false → 1 ≤ d
      → Done G (operand G.text in_c r) r.at c rest ws os 1 → Arrives G in_c left go (begun low fuel b r) r.at low b c rest ws os d
  begins {low} {b} {c} {d} fuel r e h i = record {
    fuel = enough G.text;
    depth = i.depth;
    reader = i.reader;
    answer = rw (none-opened fuel b r e, i.answer) refl;
    room = omega arith;
    shallow = omega (arith, i.shallow);
    behind = i.behind;
    on = i.on;
  }

  -- a bracket opens
  opens : {low b c e d : ℕ} (fuel : ℕ) (r : Reader) {t : Token} {us rest : List Token} {ws : List ℤ} {os : List ℕ} → At G r c (t ∷ us) → t.code ≡ open_bracket_code → c ≤ most_words
      → r.at < (peek G.text r).end → Arrives G in_c left go (begun low fuel (suc b) (taken G 0 r)) (peek G.text r).end low b e rest ws os d
      → Arrives G in_c left go (begun low (suc fuel) b r) r.at low b e rest ws os d
  unfolding opened
  opens {low} {b} {c} {e} {d} fuel r a q h o i = let z : c + 0 ≤ most_words = omega arith in record {
    fuel = i.fuel;
    depth = i.depth;
    reader = i.reader;
    answer = rw (is-so G open_bracket_code a q, opened, takes G 0 a z) i.answer;
    room = i.room;
    shallow = i.shallow;
    behind = i.behind;
    on = omega (arith, i.on);
  }

  path-unopened : {c : ℕ} {r : Reader} {a : List Token} (us : List Token) {ws : List ℤ} {os : List ℕ} → Path (M G) a ws os → At G r c (a ++ us) → is G.text r open_bracket_code ≡ false
  path-unopened us (Path.path x n y) a = is-not G open_bracket_code a (λ z. omega arith)

  arrives : Goes G in_c left go → {l d c : ℕ} (low fuel b e : ℕ) (r : Reader) {ts : List Token} (rest : List Token) {ws : List ℤ} {os : List ℕ} → Expression (M G) in_c l ts ws os → Of in_c d ws
      → d ≤ suc left → At G r c (ts ++ rest) → (r.last ≡ dot_code → ⊥) → (b ≡ 0 → low ≤ l) → Stops in_c l (next G rest) → e ≡ c + length ws → e ≤ most_words → length G.text < fuel + r.at
      → Arrives G in_c left go (begun low fuel b r) r.at low b e rest ws os d
  arrives goes low fuel b e r rest (Expression.nil t n) o h a d f s q m g = begins fuel r (is-not G open_bracket_code a (λ z. omega arith)) (some-depth o) (rw q (nil-read G in_c a n (omega arith)))
  arrives goes low fuel b e r rest (Expression.no t n) o h a d f s q m g = begins fuel r (is-not G open_bracket_code a (λ z. omega arith)) (some-depth o) (rw q (no_read G in_c a n (omega arith)))
  arrives goes low fuel b e r rest (Expression.yes t n) o h a d f s q m g = begins fuel r (is-not G open_bracket_code a (λ z. omega arith)) (some-depth o) (rw q (yes-read G in_c a n (omega arith)))
  arrives goes low fuel b e r rest (Expression.number t n) o h a d f s q m g = begins fuel r (is-not G open_bracket_code a (λ z. omega arith)) (some-depth o) (rw q (number_read G in_c a n (omega arith)))
  arrives goes low fuel b e r rest (Expression.at t p) o h a d f s q m g =
      begins fuel r (path-unopened rest p a) (some-depth o) (at_read G in_c e p a d s.undotted s.uncoloned s.unlike (path-of-length (path-part o)) (omega arith) m)
  arrives goes low fuel b e r rest (Expression.identity {a = x} {b = y} t {va = va} {vb = vb} n p k w) o h a d f s q m g =
      let i = identity-parts p o in
      let at : At G r _ (x ++ t ∷ (y ++ rest)) = rw (append_assoc x (t ∷ y) rest) at a in
      begins fuel r (path-unopened (t ∷ (y ++ rest)) p at) (some-depth o)
      (same_read G in_c t e n p k w at d s.undotted s.uncoloned (path-of-length i.0) (path-of-length i.1) (omega (arith, length-append va vb)) m)
  arrives goes {d = depth} {c = c} low fuel b e r rest (Expression.brackets {ts = ts} t k {ws = ws} {os = os} n p w) o h a d f s q m g =
      by fuel g (rw (append_assoc ts (k ∷ []) rest) at a) (λ F at z y. arrives goes low F (suc b) e (taken G 0 r) (k ∷ rest) p o h at z (λ x. absurd (omega arith)) (stops-by close_bracket_code k w (λ x. omega arith) (λ x. omega arith) (λ x. omega arith) refl) (omega arith) m y)
    where
      by : (fuel : ℕ) → length G.text < fuel + r.at → At G r c (t ∷ (ts ++ k ∷ rest))
          → ((F : ℕ) → At G (taken G 0 r) (c + 0) (ts ++ k ∷ rest) → ((peek G.text r).code ≡ dot_code → ⊥) → length G.text < F + (peek G.text r).end
          → Arrives G in_c left go (begun low F (suc b) (taken G 0 r)) (peek G.text r).end low (suc b) e (k ∷ rest) ws os depth)
          → Arrives G in_c left go (begun low fuel b r) r.at low b e rest ws os depth
      by zero g at ih = absurd (omega (arith, at.inside))
      by (suc F) g at ih =
          let i = plain G 0 at (λ z. absurd (omega arith)) in
          let y : (peek G.text r).code ≡ open_bracket_code = ap (λ (t : Token). t.code) (peek-next G at) ∙ n in
          opens F r at n (omega arith) i.1 (closes G in_c left go (ih F i.0 (λ z. omega arith) (omega (arith, i.1))) w m)
  arrives goes low fuel b e r rest (Expression.tighter {l = l} k p) o h a d f s q m g =
      arrives goes low fuel b e r rest p o h a d (λ z. omega (arith, f z)) (stops-looser (omega arith) s) q m g
  arrives goes {l = l} {d = depth} {c = c} low fuel b e r rest (Expression.operation {k = k} {a = x} {b = y} t {va = va} {vb = vb} {oa = oa} {ob = ob} p n v w) o h a d f s q m g =
      by (operation-parts p o) (λ E z i. arrives goes low fuel b (c + length va) r (t ∷ (y ++ rest)) p i z (rw (append_assoc x (t ∷ y) rest) at a) d f (stops-operator n v) refl (omega (arith, length-append va vb)) g)
    where
      by : (E : ℕ) × ((depth ≡ suc E) × (Of in_c E va × Of in_c E vb)) → ((E : ℕ) → E ≤ suc left → Of in_c E va → Arrives G in_c left go (begun low fuel b r) r.at low b (c + length va) (t ∷ (y ++ rest)) va oa E)
          → Arrives G in_c left go (begun low fuel b r) r.at low b e rest (pos 25 ∷ pos k ∷ va ++ vb) (t.place ∷ t.place ∷ oa ++ ob) depth
      by (E, (z, (i, j))) ih =
          let u : e ≡ c + length va + 2 + length vb = omega (arith, length-append va vb) in
          rw (u, z) (joined G in_c left go t goes (ih E (omega arith) i) n v f (omega arith) w j s (omega arith))

-- how an expression is read, nested at most so deep
pub climbs : (G : Given) (in_c : Bool) (left : ℕ) → Goes G in_c left (λ l v. climb G.text left in_c l v)
unfolding climb
climbs G in_c zero l d c r ts rest ws os x o h a n s m = absurd (omega (arith, some-depth o))
climbs G in_c (suc left) l d c r ts rest ws os x o h a n s m =
    ends G in_c left (λ l v. climb G.text left in_c l v)
    (arrives G in_c left (λ l v. climb G.text left in_c l v) (climbs G in_c left) (suc l) (enough G.text) 0 (c + length ws) r rest x o h a n (λ z. omega arith) (stops-looser (omega arith) s) refl m (omega arith)) s

-- e
pub expression-read : {G : Given} {in_c : Bool} {d c : ℕ} {r : Reader} {ts : List Token} (rest : List Token) {ws : List ℤ} {os : List ℕ} → Expression (M G) in_c 1 ts ws os → Of in_c d ws → d ≤ expression_depth
    → At G r c (ts ++ rest) → (r.last ≡ dot_code → ⊥) → Stops in_c 0 (next G rest) → c + length ws ≤ most_words → Done G (expression G.text in_c r) r.at (c + length ws) rest ws os d
unfolding expression
expression-read {G} {in_c} {d} {c} {r} {ts} rest {ws} {os} x o h a n s m = climbs G in_c expression_depth 0 d c r ts rest ws os x o h a n s m
