-- An expression in a constraint that begins with a path, read on from behind that path. Assumes nothing.
use mathlib.Core.Path.{◌≡◌, refl, sym, ap, ◌∙◌}
use mathlib.Core.Bool.{true, false}
use mathlib.Core.List.{List, [], ◌∷◌, ◌++◌, append-nil, append_assoc}
use Prim.Native.Nat.{ℕ, suc, ◌+◌, ◌-◌, ◌≤◌}
use native.Mathlib.Omega.{arith}
use lib.IntN.{ℤ, pos}
use lib.ListN.{length, length-append}
use Rattle.words.specs.Answer.{Answer}
use Rattle.program.specs.Forms.{most_words, most_steps, expression_depth}
use Rattle.program.specs.Grammar.{Expression as Of}
use Rattle.tokens.specs.declared.Token.{Token}
use Rattle.tokens.specs.Codes.{name_code}
use Rattle.text.specs.Grammar.{Path, Expression}
use Rattle.text.specs.Reading.{Fault, Reader, Form, enough, onwards, climb, expression_on}
use Rattle.text.proofs.Taken.{Given, At, next}
use Rattle.text.proofs.PathsRead.{M, Done, made}
use Rattle.text.proofs.Cuts.{path-of-length, path-part, operation-parts}
use Rattle.text.proofs.OperatorsRead.{Stops, stops-looser, stops-operator, Goes, Arrives, ends, joined}
use Rattle.text.proofs.ExpressionsRead.{some-depth, climbs}

pub in-constraint : {l : ℕ} {t : Token} → Stops false l t → Stops true l t
in-constraint s = record { undotted = s.undotted; uncoloned = s.uncoloned; unlike = λ x z. s.unlike refl z; looser = s.looser }

module _ (G : Given) (left : ℕ) (go : ℕ → Reader → Answer Fault (Form × Reader)) where
  -- its first path, and how it is read on from there
  pub record Led (low e c d : ℕ) (ts rest : List Token) (ws : List ℤ) (os : List ℕ) : Type 0 where
    pub first : Token
    pub path-rest : List Token
    pub tokens : List Token
    pub path-words : List ℤ
    pub path-origins : List ℕ
    pub split : ts ≡ (first ∷ path-rest) ++ tokens
    pub is-path : Path (M G) (first ∷ path-rest) path-words path-origins
    pub short : length path-words ≤ most_steps + 2
    pub after : (m : ℕ) × Stops false m (next G (tokens ++ rest))
    pub fewer : 1 + length path-words ≤ length ws
    pub goes_on : (u : Reader) → At G u (c + 1 + length path-words) (tokens ++ rest)
        → Arrives G true left go (onwards G.text go (enough G.text) left low 0 (made (pos 24 ∷ path-words) (first.place ∷ path-origins) 1) u) u.at low 0 e rest ws os d

  led : Goes G true left go → {l d c : ℕ} (low e : ℕ) {ts : List Token} (rest : List Token) {ws : List ℤ} {os : List ℕ} → Expression (M G) true l ts ws os
      → ((t : Token) (us : List Token) → ts ≡ t ∷ us → t.code ≡ name_code) → Of true d ws → d ≤ suc left → low ≤ l → Stops false l (next G rest) → e ≡ c + length ws → e ≤ most_words
      → Led low e c d ts rest ws os
  led goes low e rest (Expression.nil t x) n o h f s q w = let z : t.code ≡ name_code = n t [] refl in absurd (omega arith)
  led goes low e rest (Expression.no t x) n o h f s q w = let z : t.code ≡ name_code = n t [] refl in absurd (omega arith)
  led goes low e rest (Expression.yes t x) n o h f s q w = let z : t.code ≡ name_code = n t [] refl in absurd (omega arith)
  led goes low e rest (Expression.number t x) n o h f s q w = let z : t.code ≡ name_code = n t [] refl in absurd (omega arith)
  led goes {c = c} low e rest (Expression.at t {ts = ts} {ws = ws} {os = os} p) n o h f s q w = record {
    first = t;
    path-rest = ts;
    tokens = [];
    path-words = ws;
    path-origins = os;
    split = sym (append-nil (t ∷ ts));
    is-path = p;
    short = path-of-length (path-part o);
    after = (6, s);
    fewer = omega arith;
    goes_on = λ u a. record {
      fuel = enough G.text;
      depth = 1;
      reader = u;
      answer = refl;
      room = omega arith;
      shallow = some-depth o;
      behind = let z : e ≡ c + 1 + length ws = omega arith in rw z a;
      on = omega arith;
    };
  }
  led goes low e rest (Expression.identity t x p k y) n o h f s q w = absurd (let z : ◌≡◌ {A = ℕ} 0 1 = cc in omega arith)
  led goes low e rest (Expression.brackets {ts = ts} t k x p y) n o h f s q w = let z : t.code ≡ name_code = n t (ts ++ k ∷ []) refl in absurd (omega arith)
  led goes low e rest (Expression.tighter k p) n o h f s q w = led goes low e rest p n o h (omega arith) (stops-looser (omega arith) s) q w
  led goes {l = l} {d = depth} {c = c} low e rest (Expression.operation {k = k} {a = x} {b = y} t {va = va} {vb = vb} {oa = oa} {ob = ob} p j v z) n o h f s q w =
      by (operation-parts p o) (λ E i r. led goes low (c + length va) (t ∷ (y ++ rest)) p (λ a us r. n a (us ++ t ∷ y) (ap (λ (b : List Token). b ++ t ∷ y) r)) i r f (stops-operator j v) refl (omega (arith, length-append va vb)))
    where
      to : (E : ℕ) → depth ≡ suc E → Of true E vb → Led low (c + length va) c E x (t ∷ (y ++ rest)) va oa → Led low e c depth (x ++ t ∷ y) rest (pos 25 ∷ pos k ∷ va ++ vb) (t.place ∷ t.place ∷ oa ++ ob)
      to E r b i =
          let u : e ≡ c + length va + 2 + length vb = omega (arith, length-append va vb) in
          let g : i.tokens ++ t ∷ (y ++ rest) ≡ (i.tokens ++ t ∷ y) ++ rest = sym (append_assoc i.tokens (t ∷ y) rest) in
          record {
            first = i.first;
            path-rest = i.path-rest;
            tokens = i.tokens ++ t ∷ y;
            path-words = i.path-words;
            path-origins = i.path-origins;
            split = ap (λ (b : List Token). b ++ t ∷ y) i.split ∙ append_assoc (i.first ∷ i.path-rest) i.tokens (t ∷ y);
            is-path = i.is-path;
            short = i.short;
            after = rw g at i.after;
            fewer = omega (arith, i.fewer, length-append va vb);
            goes_on = λ r0 a. rw (u, r) (joined G true left go t goes (i.goes_on r0 (rw (← g) at a)) j v (λ y. f) (omega arith) z b (in-constraint s) (omega arith));
          }

      by : (E : ℕ) × ((depth ≡ suc E) × (Of true E va × Of true E vb)) → ((E : ℕ) → Of true E va → E ≤ suc left → Led low (c + length va) c E x (t ∷ (y ++ rest)) va oa)
          → Led low e c depth (x ++ t ∷ y) rest (pos 25 ∷ pos k ∷ va ++ vb) (t.place ∷ t.place ∷ oa ++ ob)
      by (E, (r, (i, b))) ih = to E r b (ih E i (omega arith))

-- how an expression in a constraint is read on behind its first path
pub led_on : {G : Given} {d c : ℕ} {ts : List Token} (rest : List Token) {ws : List ℤ} {os : List ℕ} (e : ℕ) → Expression (M G) true 1 ts ws os
    → ((t : Token) (us : List Token) → ts ≡ t ∷ us → t.code ≡ name_code) → Of true d ws → d ≤ expression_depth → Stops false 0 (next G rest) → e ≡ c + length ws → e ≤ most_words
    → Led G (expression_depth - 1) (λ l v. climb G.text (expression_depth - 1) true l v) 1 e c d ts rest ws os
led_on {G} rest e x n o h s q w = led G (expression_depth - 1) (λ l v. climb G.text (expression_depth - 1) true l v) (climbs G true (expression_depth - 1)) 1 e rest x n o h (omega arith) (stops-looser (omega arith) s) q w

-- what is read there
pub led-read : {G : Given} {e c d : ℕ} {ts rest : List Token} {ws : List ℤ} {os : List ℕ} (i : Led G (expression_depth - 1) (λ l v. climb G.text (expression_depth - 1) true l v) 1 e c d ts rest ws os)
    (u : Reader) → At G u (c + 1 + length i.path-words) (i.tokens ++ rest) → Stops false 0 (next G rest)
    → Done G (expression_on G.text true (made (pos 24 ∷ i.path-words) (i.first.place ∷ i.path-origins) 1) u) u.at e rest ws os d
unfolding expression_on
led-read {G} i u a s = ends G true (expression_depth - 1) (λ l v. climb G.text (expression_depth - 1) true l v) (i.goes_on u a) (in-constraint s)
