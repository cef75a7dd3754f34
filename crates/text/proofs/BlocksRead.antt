-- What the grammar yields as statements in a row and as a block is read, with its words. Assumes nothing.
use mathlib.Core.Path.{◌≡◌, refl, sym, ap, ◌∙◌}
use mathlib.Core.Bool.{false}
use mathlib.Core.List.{List, [], ◌∷◌, ◌++◌, append_assoc}
use Prim.Native.Nat.{ℕ, zero, suc, ◌+◌, ◌-◌, ◌≤◌, ◌<◌}
use native.Mathlib.Omega.{arith}
use lib.IntN.{ℤ, pos}
use lib.ListN.{length, length-append}
use Rattle.words.specs.Answer.{Answer, got}
use Rattle.program.specs.Forms.{most_words, most_statements}
use Rattle.program.specs.Grammar.{statements_of, statement_of, Yields as Yo}
use Rattle.tokens.specs.declared.Token.{Token}
use Rattle.tokens.specs.Codes.{dot_code, semicolon_code, open_brace_code, close_brace_code, beside_code}
use Rattle.text.specs.Grammar.{Meaning, Path, statement, row, Yields}
use Rattle.text.specs.Reading.{Fault, Reader, Form, peek, is, statement_at, row_at, block_at}
use Rattle.text.proofs.Taken.{Given, At, next, taken, takes, plain, needs, peek-next, is-so, is-not}
use Rattle.text.proofs.PathsRead.{M, Done, made}
use Rattle.text.proofs.OperatorsRead.{Stops, stops-by}
use Rattle.text.proofs.StatementCuts.{as-block, as_none, as_one}
use Rattle.text.proofs.StatementsRead.{Blocks, statement-read}

-- the codes of a statement's first token
statement-first : {N : Meaning} {ts : List Token} {ws : List ℤ} {os : List ℕ} → Yields N statement ts ws os → (t : Token) × ((us : List Token) × ((ts ≡ t ∷ us) × ((1 ≤ t.code) × (t.code ≤ 20))))
statement-first (Yields.skip t n) = (t, ([], (refl, (omega arith, omega arith))))
statement-first (Yields.assign x b {a = a} {ts = ts} (Path.path v n g) k m) = (x, (a ++ b ∷ ts, (refl, (omega arith, omega arith))))
statement-first (Yields.new_empty x b w o c p q r s t) = (x, (b ∷ w ∷ o ∷ c ∷ [], (refl, (omega arith, omega arith))))
statement-first (Yields.new x b w o c {ts = ts} p q r s f t) = (x, (b ∷ w ∷ o ∷ (ts ++ c ∷ []), (refl, (omega arith, omega arith))))
statement-first (Yields.always t {ts = ts} n c) = (t, (ts, (refl, (omega arith, omega arith))))
statement-first (Yields.once t {ts = ts} n c) = (t, (ts, (refl, (omega arith, omega arith))))
statement-first (Yields.always-same t e {a = a} {b = b} n p q r) = (t, (a ++ e ∷ b, (refl, (omega arith, omega arith))))
statement-first (Yields.once-same t e {a = a} {b = b} n p q r) = (t, (a ++ e ∷ b, (refl, (omega arith, omega arith))))
statement-first (Yields.branch i h s {a = a} {b = b} {c = c} n p q r k l) = (i, ((a ++ h ∷ b) ++ s ∷ c, (refl, (omega arith, omega arith))))
statement-first (Yields.loop w d {a = a} {b = b} n p q r) = (w, (a ++ d ∷ b, (refl, (omega arith, omega arith))))

pub row_first : {N : Meaning} {n : ℕ} {ts : List Token} {ws : List ℤ} {os : List ℕ} → Yields N (row n) ts ws os → (t : Token) × ((us : List Token) × ((ts ≡ t ∷ us) × ((1 ≤ t.code) × (t.code ≤ 20))))
row_first (Yields.last d) = statement-first d
row_first (Yields.more {b = b} s d n r) = let i = statement-first d in (i.0, (i.1.0 ++ s ∷ b, (ap (λ (x : List Token). x ++ s ∷ b) i.1.1.0, i.1.1.1)))

row-some : {N : Meaning} {n : ℕ} {ts : List Token} {ws : List ℤ} {os : List ℕ} → Yields N (row n) ts ws os → 1 ≤ n
row-some (Yields.last d) = omega arith
row-some (Yields.more s d n r) = omega (arith, row-some r)

module _ (G : Given) where
  -- m answers with n statements
  pub record Rows (m : Answer Fault (ℕ × (Form × Reader))) (n from c : ℕ) (rest : List Token) (ws : List ℤ) (os : List ℕ) : Type 0 where
    pub depth : ℕ
    pub reader : Reader
    pub answer : m ≡ got (n, (made ws os depth, reader))
    pub behind : At G reader c rest
    pub on : from ≤ reader.at

  -- a row does not begin with a token of such a code
  pub row-not : {c n : ℕ} {u : Reader} {ts : List Token} (rest : List Token) {ws : List ℤ} {os : List ℕ} (code : ℕ) → Yields (M G) (row n) ts ws os → (1 ≤ code → code ≤ 20 → ⊥) → At G u c (ts ++ rest)
      → is G.text u code ≡ false
  row-not {c} {u = u} {ts = ts} rest code d h a = by (row_first d)
    where
      by : (t : Token) × ((us : List Token) × ((ts ≡ t ∷ us) × ((1 ≤ t.code) × (t.code ≤ 20)))) → is G.text u code ≡ false
      by (t, (us, (q, (f, g)))) = let b : At G u c (t ∷ (us ++ rest)) = rw (ap (λ (x : List Token). x ++ rest) q) at a in is-not G code b (λ z. h (omega arith) (omega arith))

  module _ (d : ℕ) (go : Reader → Answer Fault (Form × Reader)) (goes : Blocks G d go) where
    single : {c : ℕ} (r : Reader) {rest : List Token} {ws : List ℤ} {os : List ℕ} (m : ℕ) → ((next G rest).code ≡ semicolon_code → ⊥) → Done G (statement_at G.text go r) r.at c rest ws os 1
        → Rows (row_at G.text go m r) 1 r.at c rest ws os
    unfolding row_at
    single r zero h i = record { depth = i.depth; reader = i.reader; answer = rw (i.answer, is-not G semicolon_code i.behind h) refl; behind = i.behind; on = i.on }
    single r (suc m) h i = record { depth = i.depth; reader = i.reader; answer = rw (i.answer, is-not G semicolon_code i.behind h) refl; behind = i.behind; on = i.on }

    several : {c n e : ℕ} (r : Reader) {s : Token} {us rest : List Token} {va vb : List ℤ} {oa ob : List ℕ} (m : ℕ) → s.code ≡ semicolon_code → c ≤ most_words
        → (i : Done G (statement_at G.text go r) r.at c (s ∷ us) va oa 1) → i.reader.at < (peek G.text i.reader).end
        → Rows (row_at G.text go m (taken G 0 i.reader)) n (peek G.text i.reader).end e rest vb ob → Rows (row_at G.text go (suc m) r) (suc n) r.at e rest (va ++ vb) (oa ++ ob)
    unfolding row_at
    several {c} r m n h i o j = let z : c + 0 ≤ most_words = omega arith in record {
      depth = 1;
      reader = j.reader;
      answer = rw (i.answer, is-so G semicolon_code i.behind n, takes G 0 i.behind z, j.answer) refl;
      behind = j.behind;
      on = omega (arith, i.on, j.on);
    }

    pub rows-read : {c n : ℕ} {ts : List Token} {ws p : List ℤ} {os : List ℕ} (r : Reader) (rest : List Token) (x y : List ℤ) (m e : ℕ) → Yields (M G) (row n) ts ws os → Yo (statements_of d n) p → ws ++ x ≡ p ++ y
        → n ≤ suc m → At G r c (ts ++ rest) → (r.last ≡ dot_code → ⊥) → Stops false 0 (next G rest) → ((next G rest).code ≡ beside_code → ⊥) → ((next G rest).code ≡ semicolon_code → ⊥)
        → e ≡ c + length ws → e ≤ most_words → Rows (row_at G.text go m r) n r.at e rest ws os × (x ≡ y)
    rows-read {ws = ws} {os = os} r rest x y m e (Yields.last g) l q h a f s b k z w = by (as_one l refl q)
      where
        to : {ss : List ℤ} → Yo (statements_of d 0) ss → Done G (statement_at G.text go r) r.at e rest ws os 1 × (x ≡ ss ++ y) → Rows (row_at G.text go m r) 1 r.at e rest ws os × (x ≡ y)
        to v (i, j) = (single r m k i, as_none v refl j)

        by : (t : List ℤ) × ((ss : List ℤ) × (Yo (statement_of d) t × (Yo (statements_of d 0) ss × (ws ++ x ≡ t ++ (ss ++ y))))) → Rows (row_at G.text go m r) 1 r.at e rest ws os × (x ≡ y)
        by (t, (ss, (u, (v, j)))) = to v (statement-read G d go goes r rest x (ss ++ y) e g u j a f s b z w)
    rows-read r rest x y zero e (Yields.more t g n v) l q h a f s b k z w = absurd (omega (arith, row-some v))
    rows-read {c = c} r rest x y (suc m) e (Yields.more {n = n'} {a = us} {b = vs} t {va = va} {vb = vb} {oa = oa} {ob = ob} g n v) l q h a f s b k z w =
        by (as_one l refl (sym (append_assoc va vb x) ∙ q)) (λ u ss l q i at. rows-read {c = c + length va + 0} u rest x y m e v l q (omega arith) at i s b k (omega (arith, length-append va vb)) w)
      where
        at : At G r c (us ++ t ∷ (vs ++ rest))
        at = rw (append_assoc us (t ∷ vs) rest) at a

        to : (ss : List ℤ) → Yo (statements_of d n') ss → Done G (statement_at G.text go r) r.at (c + length va) (t ∷ (vs ++ rest)) va oa 1 × (vb ++ x ≡ ss ++ y)
            → ((u : Reader) (ss : List ℤ) → Yo (statements_of d n') ss → vb ++ x ≡ ss ++ y → (u.last ≡ dot_code → ⊥) → At G u (c + length va + 0) (vs ++ rest) → Rows (row_at G.text go m u) n' u.at e rest vb ob × (x ≡ y))
            → Rows (row_at G.text go (suc m) r) (suc n') r.at e rest (va ++ vb) (oa ++ ob) × (x ≡ y)
        to ss o (i, j) ih =
            let u = plain G 0 i.behind (λ y. absurd (omega arith)) in
            let p : (peek G.text i.reader).code ≡ semicolon_code = ap (λ (t : Token). t.code) (peek-next G i.behind) ∙ n in
            let k = ih (taken G 0 i.reader) ss o j (λ y. omega arith) u.0 in
            (several r m n (omega (arith, length-append va vb)) i u.1 k.0, k.1)

        by : (t' : List ℤ) × ((ss : List ℤ) × (Yo (statement_of d) t' × (Yo (statements_of d n') ss × (va ++ (vb ++ x) ≡ t' ++ (ss ++ y)))))
            → ((u : Reader) (ss : List ℤ) → Yo (statements_of d n') ss → vb ++ x ≡ ss ++ y → (u.last ≡ dot_code → ⊥) → At G u (c + length va + 0) (vs ++ rest) → Rows (row_at G.text go m u) n' u.at e rest vb ob × (x ≡ y))
            → Rows (row_at G.text go (suc m) r) (suc n') r.at e rest (va ++ vb) (oa ++ ob) × (x ≡ y)
        by (t', (ss, (u, (o, j)))) ih =
            to ss o (statement-read G d go goes r (t ∷ (vs ++ rest)) (vb ++ x) (ss ++ y) (c + length va) g u j at f (stops-by semicolon_code t n (λ z. omega arith) (λ z. omega arith) (λ z. omega arith) refl) (λ z. omega arith) refl (omega (arith, length-append va vb))) ih

  module _ (d : ℕ) (goes : Blocks G d (λ v. block_at G.text d v)) where
    empty-read : {c : ℕ} {r : Reader} {o k : Token} {rest : List Token} → o.code ≡ open_brace_code → k.code ≡ close_brace_code → At G r c (o ∷ k ∷ rest) → c + 1 ≤ most_words
        → Done G (block_at G.text (suc d) r) r.at (c + 1) rest (pos 0 ∷ []) (o.place ∷ []) 1
    unfolding block_at
    empty-read {c} {r} p q a h =
        let u = plain G 1 a (λ y. absurd (omega arith)) in let v = plain G 0 u.0 (λ y. absurd (omega arith)) in
        let z : c + 1 + 0 ≤ most_words = omega arith in let y : c + 1 + 0 ≡ c + 1 = omega arith in
        record {
          depth = 1;
          reader = taken G 0 (taken G 1 r);
          answer = rw (needs G open_brace_code 1 a p h, is-so G close_brace_code u.0 q, takes G 0 u.0 z, ap (λ (t : Token). t.place) (peek-next G a)) refl;
          shallow = omega arith;
          behind = rw y at v.0;
          on = omega (arith, u.1, v.1);
        }

    braces-read : {c n : ℕ} {r : Reader} {o : Token} (k : Token) {ts : List Token} (rest : List Token) {ws ss : List ℤ} {os : List ℕ} (x y : List ℤ) (e : ℕ) → o.code ≡ open_brace_code → Yields (M G) (row n) ts ws os
        → k.code ≡ close_brace_code → Yo (statements_of d n) ss → ws ++ x ≡ ss ++ y → n ≤ most_statements → At G r c (o ∷ (ts ++ k ∷ rest)) → e ≡ c + 1 + length ws → e ≤ most_words
        → Done G (block_at G.text (suc d) r) r.at e rest (pos n ∷ ws) (o.place ∷ os) 1 × (x ≡ y)
    unfolding block_at
    braces-read {c} {n} {r} {o} k {ts} rest {ws} {ss} {os} x y e p g q l j h a z w = by (plain G 1 a (λ y. absurd (omega arith)))
      where
        to : r.at < (peek G.text r).end → is G.text (taken G 1 r) close_brace_code ≡ false
            → Rows (row_at G.text (λ v. block_at G.text d v) (most_statements - 1) (taken G 1 r)) n (peek G.text r).end e (k ∷ rest) ws os × (x ≡ y)
            → Done G (block_at G.text (suc d) r) r.at e rest (pos n ∷ ws) (o.place ∷ os) 1 × (x ≡ y)
        to u v (i, f) =
            let b = plain G 0 i.behind (λ y. absurd (omega arith)) in
            let s : c + 1 ≤ most_words = omega arith in let t : e + 0 ≤ most_words = omega arith in let m : e + 0 ≡ e = omega arith in (
              record {
                depth = 1;
                reader = taken G 0 i.reader;
                answer = rw (needs G open_brace_code 1 a p s, v, i.answer, needs G close_brace_code 0 i.behind q t, ap (λ (t : Token). t.place) (peek-next G a)) refl;
                shallow = omega arith;
                behind = rw m at b.0;
                on = omega (arith, i.on, b.1);
              },
              f,
            )

        by : At G (taken G 1 r) (c + 1) (ts ++ k ∷ rest) × (r.at < (peek G.text r).end) → Done G (block_at G.text (suc d) r) r.at e rest (pos n ∷ ws) (o.place ∷ os) 1 × (x ≡ y)
        by (b, f) =
            let s : (peek G.text r).code ≡ open_brace_code = ap (λ (t : Token). t.code) (peek-next G a) ∙ p in
            to f (row-not (k ∷ rest) close_brace_code g (λ u v. omega arith) b)
            (rows-read d (λ v. block_at G.text d v) goes (taken G 1 r) (k ∷ rest) x y (most_statements - 1) e g l j (omega arith) b (λ z. omega arith)
            (stops-by close_brace_code k q (λ z. omega arith) (λ z. omega arith) (λ z. omega arith) refl) (λ z. omega arith) (λ z. omega arith) z w)

no_blocks : (G : Given) (go : Reader → Answer Fault (Form × Reader)) → Blocks G 0 go
no_blocks G go c e r ts rest ws p x y os (Yields.empty o k a b) l q at z w = absurd (omega (arith, (as-block l q).1.0))
no_blocks G go c e r ts rest ws p x y os (Yields.braces o k a g b) l q at z w = absurd (omega (arith, (as-block l q).1.0))

block_on : (G : Given) (d : ℕ) → Blocks G d (λ v. block_at G.text d v) → Blocks G (suc d) (λ v. block_at G.text (suc d) v)
block_on G d ih c e r ts rest ws p x y os (Yields.empty o k a b) l q at z w = let i = as-block l q in (rw z (empty-read G d ih a b at (omega arith)), as_none i.1.1.1.1.0 refl i.1.1.1.1.1)
block_on G d ih c e r ts rest ws p x y os (Yields.braces {n = n} o k {ts = us} {ws = vs} {os = us2} a g b) l q at z w = by (as-block l q)
  where
    by : (m : ℕ) × ((suc d ≡ suc m) × ((n ≤ most_statements) × ((ss : List ℤ) × (Yo (statements_of m n) ss × (vs ++ x ≡ ss ++ y)))))
        → Done G (block_at G.text (suc d) r) r.at e rest (pos n ∷ vs) (o.place ∷ us2) 1 × (x ≡ y)
    by (m, (f, (h, (ss, (i, j))))) =
        let v : d ≡ m = omega arith in let i' : Yo (statements_of d n) ss = rw v i in
        braces-read G d ih k rest x y e a g b i' j h (rw (append_assoc us (k ∷ []) rest) at at) (omega arith) w

-- blocks, nested at most so deep
pub blocks : (G : Given) (d : ℕ) → Blocks G d (λ v. block_at G.text d v)
blocks G zero = no_blocks G (λ v. block_at G.text 0 v)
blocks G (suc d) = block_on G d (blocks G d)
