-- What the grammar yields as a statement is read, with its words, where its blocks are. Assumes nothing.
use mathlib.Core.Path.{◌≡◌, refl, sym, ap, ◌∙◌}
use mathlib.Core.Bool.{Bool, false}
use mathlib.Core.List.{List, [], ◌∷◌, ◌++◌, append_assoc}
use Prim.Native.Nat.{ℕ, ◌+◌, ◌≤◌, ◌<◌}
use native.Mathlib.Omega.{arith}
use borrow.Author.Tests.{lt-leb}
use lib.IntN.{ℤ, pos}
use lib.ListN.{length, length-append}
use Rattle.words.specs.Answer.{Answer}
use Rattle.program.specs.Forms.{most_words, expression_depth}
use Rattle.program.specs.Grammar.{Path as PathOf, Expression as Of, block_of, statement_of, Yields as Yo}
use Rattle.tokens.specs.declared.Token.{Token}
use Rattle.tokens.specs.Codes.{name_code, skip_code, always_code, once_code, if_code, then_code, else_code, while_code, do_code, dot_code, beside_code}
use Rattle.text.specs.Grammar.{Path, Expression, statement, block, Yields}
use Rattle.text.specs.Reading.{Fault, Reader, Form, peek, expression, stated, assignment, statement_at}
use Rattle.text.proofs.Taken.{Given, At, next, taken, takes, plain, needs, peek-next, is-so, is-not}
use Rattle.text.proofs.PathsRead.{M, Done}
use Rattle.text.proofs.Cuts.{path-cut, path-of-length, expression-cut}
use Rattle.text.proofs.OperatorsRead.{Stops, stops-by}
use Rattle.text.proofs.ExpressionsRead.{expression-read}
use Rattle.text.proofs.StatedRead.{constraint-read, identity-read}
use Rattle.text.proofs.FieldsRead.{fields_read, no-fields-read, fields-cut, no-fields-of}
use Rattle.text.proofs.AssignRead.{assign-read, new-read}
use Rattle.text.proofs.StatementCuts.{as-skip, as-assign, as-new, as-always, as-once, as-always-same, as-once-same, as-branch, as-loop}

module _ (G : Given) where
  -- `go` reads blocks in which blocks nest at most d deep
  abbrev pub Blocks : ℕ → (Reader → Answer Fault (Form × Reader)) → Type 0
  Blocks d go = (c e : ℕ) (r : Reader) (ts rest : List Token) (ws p x y : List ℤ) (os : List ℕ) → Yields (M G) block ts ws os → Yo (block_of d) p → ws ++ x ≡ p ++ y
      → At G r c (ts ++ rest) → e ≡ c + length ws → e ≤ most_words → Done G (go r) r.at e rest ws os 1 × (x ≡ y)

  module _ (d : ℕ) (go : Reader → Answer Fault (Form × Reader)) (goes : Blocks d go) where
    code_of : {c : ℕ} {r : Reader} {t : Token} {ts : List Token} {k : ℕ} → At G r c (t ∷ ts) → t.code ≡ k → (peek G.text r).code ≡ k
    code_of a e = ap (λ (t : Token). t.code) (peek-next G a) ∙ e

    place_of : {c : ℕ} {r : Reader} {t : Token} {ts : List Token} → At G r c (t ∷ ts) → (peek G.text r).place ≡ t.place
    place_of a = ap (λ (t : Token). t.place) (peek-next G a)

    -- a statement that begins with a name
    by_name : {c e : ℕ} {r : Reader} {t : Token} {ts rest : List Token} {ws : List ℤ} {os : List ℕ} → At G r c (t ∷ ts) → t.code ≡ name_code
        → Done G (assignment G.text r) r.at e rest ws os 1 → Done G (statement_at G.text go r) r.at e rest ws os 1
    unfolding statement_at
    by_name a n i = record { depth = i.depth; reader = i.reader; answer = rw (is-so G name_code a n) i.answer; shallow = i.shallow; behind = i.behind; on = i.on }

    skip_read : {c : ℕ} {r : Reader} {t : Token} {rest : List Token} → At G r c (t ∷ rest) → t.code ≡ skip_code → c + 1 ≤ most_words
        → Done G (statement_at G.text go r) r.at (c + 1) rest (pos 0 ∷ []) (t.place ∷ []) 1
    unfolding statement_at
    skip_read {r = r} a n h =
        let u = plain G 1 a (λ y. absurd (omega arith)) in
        record { depth = 1; reader = taken G 1 r; answer = rw (is-not G name_code a (λ z. omega arith), is-so G skip_code a n, takes G 1 a h, place_of a) refl; shallow = omega arith; behind = u.0; on = omega (arith, u.1) }

    -- `always` and `once`, and what follows
    always-on : {c e : ℕ} {r : Reader} {t : Token} {ts rest : List Token} {ws : List ℤ} {os : List ℕ} → At G r c (t ∷ ts) → t.code ≡ always_code → c + 1 ≤ most_words
        → ((p : ℕ) → Done G (stated G.text 3 p (taken G 1 r)) (peek G.text r).end e rest ws (p ∷ os) 1) → Done G (statement_at G.text go r) r.at e rest ws (t.place ∷ os) 1
    unfolding statement_at
    always-on {t = t} a n h i =
        let u = plain G 1 a (λ y. absurd (omega arith)) in
        record {
          depth = (i t.place).depth;
          reader = (i t.place).reader;
          answer = rw (code_of a n, takes G 1 a h, place_of a) (i t.place).answer;
          shallow = (i t.place).shallow;
          behind = (i t.place).behind;
          on = omega (arith, u.1, (i t.place).on);
        }

    once-on : {c e : ℕ} {r : Reader} {t : Token} {ts rest : List Token} {ws : List ℤ} {os : List ℕ} → At G r c (t ∷ ts) → t.code ≡ once_code → c + 1 ≤ most_words
        → ((p : ℕ) → Done G (stated G.text 4 p (taken G 1 r)) (peek G.text r).end e rest ws (p ∷ os) 1) → Done G (statement_at G.text go r) r.at e rest ws (t.place ∷ os) 1
    unfolding statement_at
    once-on {t = t} a n h i =
        let u = plain G 1 a (λ y. absurd (omega arith)) in
        record {
          depth = (i t.place).depth;
          reader = (i t.place).reader;
          answer = rw (code_of a n, takes G 1 a h, place_of a) (i t.place).answer;
          shallow = (i t.place).shallow;
          behind = (i t.place).behind;
          on = omega (arith, u.1, (i t.place).on);
        }

    stops-word : {in_c : Bool} (c : ℕ) (t : Token) → t.code ≡ c → c ≤ 21 → Stops in_c 0 t
    stops-word c t e h = stops-by c t e (λ x. omega arith) (λ x. omega arith) (λ x. omega arith) (rw (lt-leb 41 c (omega arith)) refl)

    -- `while`, an expression and a block
    loop-read : {c : ℕ} {r : Reader} {w : Token} (t : Token) {a b : List Token} (rest : List Token) {va vb p : List ℤ} (x y : List ℤ) {oa ob : List ℕ} (e : ℕ) → w.code ≡ while_code → Expression (M G) false 1 a va oa → t.code ≡ do_code
        → Yields (M G) block b vb ob → Of false expression_depth va → Yo (block_of d) p → vb ++ x ≡ p ++ y → At G r c (w ∷ (a ++ t ∷ (b ++ rest))) → e ≡ c + 1 + length va + length vb → e ≤ most_words
        → Done G (statement_at G.text go r) r.at e rest (pos 8 ∷ va ++ vb) (w.place ∷ oa ++ ob) 1 × (x ≡ y)
    unfolding statement_at
    loop-read {c} {r} {w} t {a} {b} rest {va} {vb} {p} x y {oa} {ob} e n f m g o h q at z l = by (plain G 1 at (λ y. absurd (omega arith)))
      where
        to : r.at < (peek G.text r).end → (i : Done G (expression G.text false (taken G 1 r)) (peek G.text r).end (c + 1 + length va) (t ∷ (b ++ rest)) va oa expression_depth)
            → i.reader.at < (peek G.text i.reader).end → Done G (go (taken G 0 i.reader)) (peek G.text i.reader).end e rest vb ob 1 × (x ≡ y)
            → Done G (statement_at G.text go r) r.at e rest (pos 8 ∷ va ++ vb) (w.place ∷ oa ++ ob) 1 × (x ≡ y)
        to u i v (j, k) =
            let s : c + 1 ≤ most_words = omega arith in let s2 : c + 1 + length va + 0 ≤ most_words = omega arith in (
              record {
                depth = 1;
                reader = j.reader;
                answer = rw (code_of at n, takes G 1 at s, i.answer, needs G do_code 0 i.behind m s2, j.answer, place_of at) refl;
                shallow = omega arith;
                behind = j.behind;
                on = omega (arith, i.on, j.on);
              },
              k,
            )

        by : At G (taken G 1 r) (c + 1) (a ++ t ∷ (b ++ rest)) × (r.at < (peek G.text r).end) → Done G (statement_at G.text go r) r.at e rest (pos 8 ∷ va ++ vb) (w.place ∷ oa ++ ob) 1 × (x ≡ y)
        by (u, v) =
            let s : (peek G.text r).code ≡ while_code = code_of at n in
            let i = expression-read (t ∷ (b ++ rest)) f o (omega arith) u (λ y. omega arith) (stops-word do_code t m (omega arith)) (omega arith) in
            let k = plain G 0 i.behind (λ y. absurd (omega arith)) in
            to v i k.1 (goes (c + 1 + length va + 0) e (taken G 0 i.reader) b rest vb p x y ob g h q k.0 (omega arith) l)

    -- `if`, an expression and two blocks
    branch_read : {c : ℕ} {r : Reader} {w : Token} (t s : Token) {a b k : List Token} (rest : List Token) {va vb vc p p2 : List ℤ} (x y : List ℤ) {oa ob oc : List ℕ} (e : ℕ) → w.code ≡ if_code
        → Expression (M G) false 1 a va oa → t.code ≡ then_code → Yields (M G) block b vb ob → s.code ≡ else_code → Yields (M G) block k vc oc → Of false expression_depth va → Yo (block_of d) p → Yo (block_of d) p2
        → vb ++ (vc ++ x) ≡ p ++ (p2 ++ y) → At G r c (w ∷ (a ++ t ∷ (b ++ s ∷ (k ++ rest)))) → e ≡ c + 1 + length va + length vb + length vc → e ≤ most_words
        → Done G (statement_at G.text go r) r.at e rest (pos 7 ∷ va ++ (vb ++ vc)) (w.place ∷ oa ++ (ob ++ oc)) 1 × (x ≡ y)
    unfolding statement_at
    branch_read {c} {r} {w} t s {a} {b} {k} rest {va} {vb} {vc} {p} {p2} x y {oa} {ob} {oc} e n f m g m2 g2 o h h2 q at z l = by (plain G 1 at (λ y. absurd (omega arith)))
      where
        to : r.at < (peek G.text r).end → (i : Done G (expression G.text false (taken G 1 r)) (peek G.text r).end (c + 1 + length va) (t ∷ (b ++ s ∷ (k ++ rest))) va oa expression_depth)
            → i.reader.at < (peek G.text i.reader).end
            → (j : Done G (go (taken G 0 i.reader)) (peek G.text i.reader).end (c + 1 + length va + length vb) (s ∷ (k ++ rest)) vb ob 1)
            → j.reader.at < (peek G.text j.reader).end → Done G (go (taken G 0 j.reader)) (peek G.text j.reader).end e rest vc oc 1 × (x ≡ y)
            → Done G (statement_at G.text go r) r.at e rest (pos 7 ∷ va ++ (vb ++ vc)) (w.place ∷ oa ++ (ob ++ oc)) 1 × (x ≡ y)
        to u i v j f (g, cut) =
            let s1 : c + 1 ≤ most_words = omega arith in let s2 : c + 1 + length va + 0 ≤ most_words = omega arith in let s3 : c + 1 + length va + length vb + 0 ≤ most_words = omega arith in (
              record {
                depth = 1;
                reader = g.reader;
                answer = rw (code_of at n, takes G 1 at s1, i.answer, needs G then_code 0 i.behind m s2, j.answer, needs G else_code 0 j.behind m2 s3, g.answer, place_of at) refl;
                shallow = omega arith;
                behind = g.behind;
                on = omega (arith, i.on, j.on, g.on);
              },
              cut,
            )

        second : r.at < (peek G.text r).end → (i : Done G (expression G.text false (taken G 1 r)) (peek G.text r).end (c + 1 + length va) (t ∷ (b ++ s ∷ (k ++ rest))) va oa expression_depth)
            → i.reader.at < (peek G.text i.reader).end
            → Done G (go (taken G 0 i.reader)) (peek G.text i.reader).end (c + 1 + length va + length vb) (s ∷ (k ++ rest)) vb ob 1 × (vc ++ x ≡ p2 ++ y)
            → Done G (statement_at G.text go r) r.at e rest (pos 7 ∷ va ++ (vb ++ vc)) (w.place ∷ oa ++ (ob ++ oc)) 1 × (x ≡ y)
        second u i v (j, cut) =
            let f = plain G 0 j.behind (λ y. absurd (omega arith)) in
            to u i v j f.1 (goes (c + 1 + length va + length vb + 0) e (taken G 0 j.reader) k rest vc p2 x y oc g2 h2 cut f.0 (omega arith) l)

        by : At G (taken G 1 r) (c + 1) (a ++ t ∷ (b ++ s ∷ (k ++ rest))) × (r.at < (peek G.text r).end)
            → Done G (statement_at G.text go r) r.at e rest (pos 7 ∷ va ++ (vb ++ vc)) (w.place ∷ oa ++ (ob ++ oc)) 1 × (x ≡ y)
        by (u, v) =
            let s1 : (peek G.text r).code ≡ if_code = code_of at n in
            let i = expression-read (t ∷ (b ++ s ∷ (k ++ rest))) f o (omega arith) u (λ y. omega arith) (stops-word then_code t m (omega arith)) (omega arith) in
            let j = plain G 0 i.behind (λ y. absurd (omega arith)) in
            second v i j.1 (goes (c + 1 + length va + 0) (c + 1 + length va + length vb) (taken G 0 i.reader) b (s ∷ (k ++ rest)) vb p (vc ++ x) (p2 ++ y) ob g h q j.0 (omega arith) (omega arith))

    path-name : {x : Token} {a : List Token} {va : List ℤ} {oa : List ℕ} → Path (M G) (x ∷ a) va oa → x.code ≡ name_code
    path-name (Path.path x n y) = n

    pub statement-read : {c : ℕ} {ts : List Token} {ws p : List ℤ} {os : List ℕ} (r : Reader) (rest : List Token) (x y : List ℤ) (e : ℕ) → Yields (M G) statement ts ws os → Yo (statement_of d) p → ws ++ x ≡ p ++ y
        → At G r c (ts ++ rest) → (r.last ≡ dot_code → ⊥) → Stops false 0 (next G rest) → ((next G rest).code ≡ beside_code → ⊥) → e ≡ c + length ws → e ≤ most_words
        → Done G (statement_at G.text go r) r.at e rest ws os 1 × (x ≡ y)
    statement-read r rest x y e (Yields.skip t n) l q a f s b z w = (rw z (skip_read a n (omega arith)), as-skip l q)
    statement-read {c = c} r rest x y e (Yields.assign v t {a = us} {ts = ts} {va = va} {ws = ws} {oa = oa} {os = os} p n g) l q a f s b z w = by (as-assign l q)
      where
        to : {e' : List ℤ} → PathOf va → Of false expression_depth e' → (ws ≡ e') × (x ≡ y) → Done G (statement_at G.text go r) r.at e rest (pos 1 ∷ va ++ ws) (v.place ∷ oa ++ os) 1 × (x ≡ y)
        to u o (i, j) =
            let at : At G r c (v ∷ (us ++ t ∷ (ts ++ rest))) = rw (append_assoc (v ∷ us) (t ∷ ts) rest) at a in
            (by_name at (path-name p) (assign-read G t rest e p n g (path-of-length u) (rw i o) at f s (omega (arith, length-append va ws)) w), j)

        by : (a' : List ℤ) × ((e' : List ℤ) × (PathOf a' × (Of false expression_depth e' × ((va ++ ws) ++ x ≡ a' ++ (e' ++ y)))))
            → Done G (statement_at G.text go r) r.at e rest (pos 1 ∷ va ++ ws) (v.place ∷ oa ++ os) 1 × (x ≡ y)
        by (a', (e', (u, (o, k)))) = let i = path-cut p u (sym (append_assoc va ws x) ∙ k) in to (rw i.0 u) o (expression-cut g o i.1)
    statement-read {c = c} r rest x y e (Yields.new_empty v t n o k p1 p2 p3 p4 p5) l q a f s b z w =
        let i = as-new l q in let z2 : c + 3 ≡ e = omega arith in
        (by_name a p1 (new-read G rest e p1 p2 p3 a f (omega arith) (λ u at. rw z2 at (no-fields-read G rest p4 p5 at (omega arith)))), no-fields-of i.1.1.0 refl i.1.1.1)
    statement-read {c = c} r rest x y e (Yields.new {n = m} v t n o k {ts = ts} {ws = ws} {os = os} p1 p2 p3 p4 g p5) l q a f s b z w =
        let i = as-new l q in let at : At G r c (v ∷ t ∷ n ∷ o ∷ (ts ++ k ∷ rest)) = rw (append_assoc ts (k ∷ []) rest) at a in
        (by_name at p1 (new-read G rest e p1 p2 p3 at f (omega arith) (λ u at. fields_read G k rest x y e p4 g p5 i.1.1.0 i.1.1.1 i.1.0 at (omega arith) w)), fields-cut g i.1.1.0 i.1.1.1)
    statement-read {c = c} r rest x y e (Yields.always t {ts = ts} n g) l q a f s b z w =
        let i = as-always l q in let u = plain G 1 a (λ y. absurd (omega arith)) in let v : (peek G.text r).code ≡ always_code = code_of a n in (
          always-on a n (omega arith) (λ p. (constraint-read G rest 3 p e g i.1.0 i.1.1 u.0 (λ y. omega arith) s b (omega arith) w).0),
          (constraint-read G rest 3 0 e g i.1.0 i.1.1 u.0 (λ y. omega arith) s b (omega arith) w).1,
        )
    statement-read {c = c} r rest x y e (Yields.once t {ts = ts} n g) l q a f s b z w =
        let i = as-once l q in let u = plain G 1 a (λ y. absurd (omega arith)) in let v : (peek G.text r).code ≡ once_code = code_of a n in (
          once-on a n (omega arith) (λ p. (constraint-read G rest 4 p e g i.1.0 i.1.1 u.0 (λ y. omega arith) s b (omega arith) w).0),
          (constraint-read G rest 4 0 e g i.1.0 i.1.1 u.0 (λ y. omega arith) s b (omega arith) w).1,
        )
    statement-read {c = c} r rest x y e (Yields.always-same t k {a = a1} {b = b1} {va = va} {vb = vb} n g m h) l q a f s b z w =
        let i = as-always-same l q in let at : At G r c (t ∷ (a1 ++ k ∷ (b1 ++ rest))) = rw (append_assoc a1 (k ∷ b1) rest) at a in
        let u = plain G 1 at (λ y. absurd (omega arith)) in let v : (peek G.text r).code ≡ always_code = code_of a n in
        let j = path-cut g i.1.1.0 (sym (append_assoc va vb x) ∙ i.1.1.1.1) in let o = path-cut h i.1.1.1.0 j.1 in (
          always-on at n (omega arith) (λ p. identity-read G rest k 3 p e g m h u.0 (λ y. omega arith) s.undotted s.uncoloned (rw j.0 (path-of-length i.1.1.0)) (rw o.0 (path-of-length i.1.1.1.0))
              (omega (arith, length-append va vb)) w),
          o.1,
        )
    statement-read {c = c} r rest x y e (Yields.once-same t k {a = a1} {b = b1} {va = va} {vb = vb} n g m h) l q a f s b z w =
        let i = as-once-same l q in let at : At G r c (t ∷ (a1 ++ k ∷ (b1 ++ rest))) = rw (append_assoc a1 (k ∷ b1) rest) at a in
        let u = plain G 1 at (λ y. absurd (omega arith)) in let v : (peek G.text r).code ≡ once_code = code_of a n in
        let j = path-cut g i.1.1.0 (sym (append_assoc va vb x) ∙ i.1.1.1.1) in let o = path-cut h i.1.1.1.0 j.1 in (
          once-on at n (omega arith) (λ p. identity-read G rest k 4 p e g m h u.0 (λ y. omega arith) s.undotted s.uncoloned (rw j.0 (path-of-length i.1.1.0)) (rw o.0 (path-of-length i.1.1.1.0))
              (omega (arith, length-append va vb)) w),
          o.1,
        )
    statement-read {c = c} r rest x y e (Yields.branch i t k {a = a1} {b = b1} {c = c1} {va = va} {vb = vb} {vc = vc} {oa = oa} {ob = ob} {oc = oc} n g m h m2 h2) l q a f s b z w = by (as-branch l q)
      where
        to : {e' a' b' : List ℤ} → Of false expression_depth e' → Yo (block_of d) a' → Yo (block_of d) b' → (va ≡ e') × ((vb ++ vc) ++ x ≡ a' ++ (b' ++ y))
            → Done G (statement_at G.text go r) r.at e rest (pos 7 ∷ va ++ (vb ++ vc)) (i.place ∷ oa ++ (ob ++ oc)) 1 × (x ≡ y)
        to o u v (j, k2) =
            let at : At G r c (i ∷ (a1 ++ t ∷ (b1 ++ k ∷ (c1 ++ rest)))) = rw (append_assoc (a1 ++ t ∷ b1) (k ∷ c1) rest, append_assoc a1 (t ∷ b1) (k ∷ (c1 ++ rest))) at a in
            branch_read t k rest x y e n g m h m2 h2 (rw j o) u v (sym (append_assoc vb vc x) ∙ k2) at (omega (arith, length-append va (vb ++ vc), length-append vb vc)) w

        by : (e' : List ℤ) × ((a' : List ℤ) × ((b' : List ℤ) × (Of false expression_depth e' × (Yo (block_of d) a' × (Yo (block_of d) b' × ((va ++ (vb ++ vc)) ++ x ≡ e' ++ (a' ++ (b' ++ y))))))))
            → Done G (statement_at G.text go r) r.at e rest (pos 7 ∷ va ++ (vb ++ vc)) (i.place ∷ oa ++ (ob ++ oc)) 1 × (x ≡ y)
        by (e', (a', (b', (o, (u, (v, k)))))) = to o u v (expression-cut g o (sym (append_assoc va (vb ++ vc) x) ∙ k))
    statement-read {c = c} r rest x y e (Yields.loop i t {a = a1} {b = b1} {va = va} {vb = vb} {oa = oa} {ob = ob} n g m h) l q a f s b z w = by (as-loop l q)
      where
        to : {e' a' : List ℤ} → Of false expression_depth e' → Yo (block_of d) a' → (va ≡ e') × (vb ++ x ≡ a' ++ y) → Done G (statement_at G.text go r) r.at e rest (pos 8 ∷ va ++ vb) (i.place ∷ oa ++ ob) 1 × (x ≡ y)
        to o u (j, k2) =
            let at : At G r c (i ∷ (a1 ++ t ∷ (b1 ++ rest))) = rw (append_assoc a1 (t ∷ b1) rest) at a in
            loop-read t rest x y e n g m h (rw j o) u k2 at (omega (arith, length-append va vb)) w

        by : (e' : List ℤ) × ((a' : List ℤ) × (Of false expression_depth e' × (Yo (block_of d) a' × ((va ++ vb) ++ x ≡ e' ++ (a' ++ y)))))
            → Done G (statement_at G.text go r) r.at e rest (pos 8 ∷ va ++ vb) (i.place ∷ oa ++ ob) 1 × (x ≡ y)
        by (e', (a', (o, (u, k)))) = to o u (expression-cut g o (sym (append_assoc va vb x) ∙ k))
