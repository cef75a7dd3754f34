-- What the grammar yields as a constraint is read, with its words. Assumes nothing.
use mathlib.Core.Path.{◌≡◌, refl, sym, ap, ◌∙◌}
use mathlib.Core.Bool.{Bool, true}
use mathlib.Core.List.{List, [], ◌∷◌, ◌++◌, append-nil, append_assoc}
use Prim.Native.Nat.{ℕ, zero, suc, ◌+◌, ◌-◌, ◌≤◌, ◌<◌}
use native.Mathlib.Omega.{arith}
use borrow.Author.Tests.{leb-true, le-leb, lt-leb, lt-ltb}
use lib.Dec.{leb}
use lib.IntN.{ℤ, pos}
use lib.ListN.{length, drop, length-append}
use Rattle.words.specs.Answer.{Answer, got}
use Rattle.tables.proofs.SearchLaws.{cases}
use Rattle.program.specs.Forms.{most_words, expression_depth}
use Rattle.program.specs.Grammar.{Expression as Of, Parts as PartsOf}
use Rattle.tokens.specs.declared.Token.{Token}
use Rattle.tokens.specs.Codes.{dot_code, weak_code, beside_code}
use Rattle.text.specs.Grammar.{Meaning, Path, Expression, Part, Parts}
use Rattle.text.specs.Reading.{Fault, Reader, Form, owing, peek, expression, priority, part_at, parts_on}
use Rattle.text.proofs.Taken.{first_code, Given, At, next, taken, takes, plain, peek-next, is-so, is-not, owed_more}
use Rattle.text.proofs.PathsRead.{M, Done, made}
use Rattle.text.proofs.Cuts.{tails, expression-cut}
use Rattle.text.proofs.OperatorsRead.{Stops, stops-by}
use Rattle.text.proofs.ExpressionsRead.{expression-read}

-- a token that an expression begins with
abbrev pub First : Token → Type 0
First t = 3 ≤ t.code → 22 ≤ t.code

pub expression-first : {N : Meaning} {in_c : Bool} {l : ℕ} {ts : List Token} {ws : List ℤ} {os : List ℕ} → Expression N in_c l ts ws os → (t : Token) × ((us : List Token) × ((ts ≡ t ∷ us) × First t))
expression-first (Expression.nil t e) = (t, ([], (refl, λ z. omega arith)))
expression-first (Expression.no t e) = (t, ([], (refl, λ z. omega arith)))
expression-first (Expression.yes t e) = (t, ([], (refl, λ z. omega arith)))
expression-first (Expression.number t e) = (t, ([], (refl, λ z. omega arith)))
expression-first (Expression.at t {ts = ts} (Path.path x e y)) = (t, (ts, (refl, λ z. omega arith)))
expression-first (Expression.identity {b = b} e n (Path.path x {ts = ts} q y) p w) = (x, (ts ++ e ∷ b, (refl, λ z. omega arith)))
expression-first (Expression.brackets {ts = ts} o c e p f) = (o, (ts ++ c ∷ [], (refl, λ z. omega arith)))
expression-first (Expression.tighter h p) = expression-first p
expression-first (Expression.operation {b = b} o p e v w) = let i = expression-first p in (i.0, (i.1.0 ++ o ∷ b, (ap (λ (x : List Token). x ++ o ∷ b) i.1.1.0, i.1.1.1)))

pub begins-with : {N : Meaning} {in_c : Bool} {l : ℕ} {t : Token} {ts : List Token} {ws : List ℤ} {os : List ℕ} → Expression N in_c l (t ∷ ts) ws os → First t
begins-with {t = t} p z = let i = expression-first p in let e : t.code ≡ i.0.code = first_code i.1.1.0 in omega (arith, i.1.1.1 (omega arith))

unsaid-priority : (text : List ℕ) (t : Token) → First t → priority text t ≡ 0
unfolding priority
unsaid-priority text t f =
    cases (leb weak_code t.code) (λ c. let y = leb-true weak_code t.code c in let z = f (omega arith) in rw (c, lt-leb t.code (weak_code + 2) (omega arith)) refl) (λ c. rw c refl)

said-priority : {k : ℕ} (text : List ℕ) (t : Token) → 1 ≤ k → k ≤ 3 → t.code + 1 ≡ weak_code + k → priority text t ≡ k
unfolding priority
said-priority {k} text t a b e = let z : suc (t.code - weak_code) ≡ k = omega arith in rw (le-leb weak_code t.code (omega arith), le-leb t.code (weak_code + 2) (omega arith)) z

-- the first of a row of parts within the limits
pub part_cut : {N : Meaning} {m : ℕ} {ts : List Token} {ws p x y : List ℤ} {os : List ℕ} → Part N ts ws os → PartsOf (suc m) p → ws ++ x ≡ p ++ y
    → Of true expression_depth (drop 1 ws) × ((ps : List ℤ) × (PartsOf m ps × (x ≡ ps ++ y)))
part_cut {x = x} {y = y} d (PartsOf.one {m = m} {e = e} {ps = ps} a b o r) q = by d q
  where
    to : (ws : List ℤ) → (ws ≡ e) × (x ≡ ps ++ y) → Of true expression_depth ws × ((ps : List ℤ) × (PartsOf m ps × (x ≡ ps ++ y)))
    to ws (i, j) = (rw i o, (ps, (r, j)))

    by : {N : Meaning} {ts : List Token} {w : ℤ} {ws : List ℤ} {os : List ℕ} → Part N ts ws os → ws ++ x ≡ w ∷ ((e ++ ps) ++ y) → Of true expression_depth (drop 1 ws) × ((ps : List ℤ) × (PartsOf m ps × (x ≡ ps ++ y)))
    by (Part.said t {ws = ws} f g h z) q = to ws (expression-cut z o (tails q ∙ append_assoc e ps y))
    by (Part.unsaid t {ws = ws} z) q = to ws (expression-cut z o (tails q ∙ append_assoc e ps y))

module _ (G : Given) where
  part-one : {c : ℕ} {r : Reader} {ts : List Token} (rest : List Token) {w : ℤ} {ws : List ℤ} {os : List ℕ} → Part (M G) ts (w ∷ ws) os → Of true expression_depth ws → At G r c (ts ++ rest)
      → (r.last ≡ dot_code → ⊥) → Stops true 0 (next G rest) → c + 1 + length ws ≤ most_words → Done G (part_at G.text r) r.at (c + 1 + length ws) rest (w ∷ ws) os 1
  unfolding part_at
  part-one {c} {r} rest {w} {ws} (Part.said {k = k} t {ts = ts} {os = os} a b e x) o at d s h = by (plain G 1 at (λ z. absurd (omega arith)))
    where
      to : r.at < (peek G.text r).end → Done G (expression G.text true (taken G 1 r)) (peek G.text r).end (c + 1 + length ws) rest ws os expression_depth
          → Done G (part_at G.text r) r.at (c + 1 + length ws) rest (pos k ∷ ws) (t.place ∷ os) 1
      to y i =
          let p : priority G.text (peek G.text r) ≡ k = rw (peek-next G at) (said-priority G.text t a b e) in
          let z : c + 1 ≤ most_words = omega arith in
          record {
            depth = 1;
            reader = i.reader;
            answer = rw (p, lt-ltb 0 k a, takes G 1 at z, i.answer, ap (λ (t : Token). t.place) (peek-next G at)) refl;
            shallow = omega arith;
            behind = i.behind;
            on = omega (arith, i.on);
          }

      by : At G (taken G 1 r) (c + 1) (ts ++ rest) × (r.at < (peek G.text r).end) → Done G (part_at G.text r) r.at (c + 1 + length ws) rest (pos k ∷ ws) (t.place ∷ os) 1
      by (u, y) = let n : (peek G.text r).code ≡ t.code = ap (λ (t : Token). t.code) (peek-next G at) in to y (expression-read rest x o (omega arith) u (λ z. omega arith) s h)
  part-one {c} {r} rest {w} {ws} (Part.unsaid t {ts = ts} {os = os} x) o at d s h = to (expression-read rest x o (omega arith) (owed_more G 1 at) d s h)
    where
      to : Done G (expression G.text true (owing 1 r)) r.at (c + 1 + length ws) rest ws os expression_depth → Done G (part_at G.text r) r.at (c + 1 + length ws) rest (pos 3 ∷ ws) (t.place ∷ os) 1
      to i =
          let p : priority G.text (peek G.text r) ≡ 0 = rw (peek-next G at) (unsaid-priority G.text t (begins-with x)) in
          record {
            depth = 1;
            reader = i.reader;
            answer = rw (p, i.answer, ap (λ (t : Token). t.place) (peek-next G at)) refl;
            shallow = omega arith;
            behind = i.behind;
            on = i.on;
          }

  pub part-read : {c : ℕ} {r : Reader} {ts : List Token} (rest : List Token) {ws : List ℤ} {os : List ℕ} (e : ℕ) → Part (M G) ts ws os → Of true expression_depth (drop 1 ws) → At G r c (ts ++ rest)
      → (r.last ≡ dot_code → ⊥) → Stops true 0 (next G rest) → e ≡ c + length ws → e ≤ most_words → Done G (part_at G.text r) r.at e rest ws os 1
  part-read {c} rest e (Part.said t {ws = ws} a b f x) o at d s q h = let z : e ≡ c + 1 + length ws = omega arith in rw z (part-one rest (Part.said t a b f x) o at d s (omega arith))
  part-read {c} rest e (Part.unsaid t {ws = ws} x) o at d s q h = let z : e ≡ c + 1 + length ws = omega arith in rw z (part-one rest (Part.unsaid t x) o at d s (omega arith))

  -- ---- parts behind the first one

  -- m answers with n pieces in a row
  pub record Counts (m : Answer Fault (ℕ × (Form × Reader))) (n from c : ℕ) (rest : List Token) (ws : List ℤ) (os : List ℕ) : Type 0 where
    pub reader : Reader
    pub answer : m ≡ got (n, (made ws os 1, reader))
    pub behind : At G reader c rest
    pub on : from ≤ reader.at

  pub no_part : {c : ℕ} {r : Reader} {rest : List Token} (m : ℕ) → At G r c rest → ((next G rest).code ≡ beside_code → ⊥) → Counts (parts_on G.text m r) 0 r.at c rest [] []
  unfolding parts_on
  no_part {r = r} zero a e = record { reader = r; answer = rw (is-not G beside_code a e) refl; behind = a; on = omega arith }
  no_part {r = r} (suc m) a e = record { reader = r; answer = rw (is-not G beside_code a e) refl; behind = a; on = omega arith }

  -- `/\`, a part, and those behind it
  part-on : {c n e : ℕ} {r : Reader} {j : Token} {us ts rest : List Token} {va vb : List ℤ} {oa ob : List ℕ} (m f : ℕ) → At G r c (j ∷ us) → j.code ≡ beside_code → c ≤ most_words → r.at < (peek G.text r).end
      → (i : Done G (part_at G.text (taken G 0 r)) (peek G.text r).end f ts va oa 1) → Counts (parts_on G.text m i.reader) n i.reader.at e rest vb ob
      → Counts (parts_on G.text (suc m) r) (suc n) r.at e rest (va ++ vb) (oa ++ ob)
  unfolding parts_on
  part-on {c = c} m f a q h o i k = let z : c + 0 ≤ most_words = omega arith in record {
    reader = k.reader;
    answer = rw (is-so G beside_code a q, takes G 0 a z, i.answer, k.answer) refl;
    behind = k.behind;
    on = omega (arith, i.on, k.on);
  }

  stops-beside : (j : Token) → j.code ≡ beside_code → Stops true 0 j
  stops-beside j e = stops-by beside_code j e (λ x. omega arith) (λ x. omega arith) (λ x. omega arith) refl

  pub parts-read : {c n : ℕ} {r : Reader} {j : Token} {ts : List Token} (rest : List Token) {ws p : List ℤ} (x y : List ℤ) {os : List ℕ} (m e : ℕ) → Parts (M G) n ts ws os → PartsOf n p → ws ++ x ≡ p ++ y
      → j.code ≡ beside_code → n ≤ m → At G r c (j ∷ (ts ++ rest)) → Stops true 0 (next G rest) → ((next G rest).code ≡ beside_code → ⊥) → e ≡ c + length ws → e ≤ most_words
      → Counts (parts_on G.text m r) n r.at e rest ws os
  parts-read rest x y zero e (Parts.one d) l q b h at s u z w = absurd (omega arith)
  parts-read rest x y zero e (Parts.more k d f g) l q b h at s u z w = absurd (omega arith)
  parts-read {c} {r = r} {ts = ts} rest {ws} x y {os = os} (suc m) e (Parts.one d) l q b h at s u z w = by (part_cut d l q) (plain G 0 at (λ v. absurd (omega arith)))
    where
      to : (o : r.at < (peek G.text r).end) → Done G (part_at G.text (taken G 0 r)) (peek G.text r).end e rest ws os 1 → Counts (parts_on G.text (suc m) r) 1 r.at e rest ws os
      to o i = rw (append-nil ws, append-nil os) at (part-on m e at b (omega arith) o i (no_part m i.behind u))

      by : Of true expression_depth (drop 1 ws) × ((ps : List ℤ) × (PartsOf 0 ps × (x ≡ ps ++ y))) → At G (taken G 0 r) (c + 0) (ts ++ rest) × (r.at < (peek G.text r).end)
          → Counts (parts_on G.text (suc m) r) 1 r.at e rest ws os
      by (o, (ps, (k, v))) (g, f) =
          let n : (peek G.text r).code ≡ beside_code = ap (λ (t : Token). t.code) (peek-next G at) ∙ b in
          to f (part-read rest e d o g (λ a. omega arith) s (omega arith) w)
  parts-read {c} {r = r} {j = j} rest x y (suc m) e (Parts.more {n = n} {a = a} {b = us} t {va = va} {vb = vb} {oa = oa} {ob = ob} d k g) l q b h at s u z w =
      let at' : At G r c (j ∷ (a ++ t ∷ (us ++ rest))) = rw (append_assoc a (t ∷ us) rest) at at in
      by at' (part_cut d l (sym (append_assoc va vb x) ∙ q)) (plain G 0 at' (λ v. absurd (omega arith)))
      (λ i ps l v at. parts-read {c = c + length va} rest x y m e g l v k (omega arith) at s u (omega (arith, length-append va vb)) w)
    where
      to : {f : ℕ} → At G r c (j ∷ (a ++ t ∷ (us ++ rest))) → (o : r.at < (peek G.text r).end) → (i : Done G (part_at G.text (taken G 0 r)) (peek G.text r).end f (t ∷ (us ++ rest)) va oa 1)
          → Counts (parts_on G.text m i.reader) n i.reader.at e rest vb ob → Counts (parts_on G.text (suc m) r) (suc n) r.at e rest (va ++ vb) (oa ++ ob)
      to {f} at o i v = part-on m f at b (omega arith) o i v

      by : At G r c (j ∷ (a ++ t ∷ (us ++ rest))) → Of true expression_depth (drop 1 va) × ((ps : List ℤ) × (PartsOf n ps × (vb ++ x ≡ ps ++ y)))
          → At G (taken G 0 r) (c + 0) (a ++ t ∷ (us ++ rest)) × (r.at < (peek G.text r).end)
          → ((i : Reader) (ps : List ℤ) → PartsOf n ps → vb ++ x ≡ ps ++ y → At G i (c + length va) (t ∷ (us ++ rest)) → Counts (parts_on G.text m i) n i.at e rest vb ob)
          → Counts (parts_on G.text (suc m) r) (suc n) r.at e rest (va ++ vb) (oa ++ ob)
      by at (o, (ps, (l, v))) (g, f) ih =
          let n : (peek G.text r).code ≡ beside_code = ap (λ (t : Token). t.code) (peek-next G at) ∙ b in
          let i = part-read (t ∷ (us ++ rest)) (c + length va) d o g (λ a. omega arith) (stops-beside t k) (omega arith) (omega (arith, length-append va vb)) in
          to at f i (ih i.reader ps l v i.behind)
