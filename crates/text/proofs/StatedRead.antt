-- What the grammar yields behind `always` and `once` is read, with its words. Assumes nothing.
use mathlib.Core.Path.{◌≡◌, refl, sym, ap, ◌∙◌}
use mathlib.Core.Bool.{true, false}
use mathlib.Core.List.{List, [], ◌∷◌, ◌++◌, append-nil, append_assoc}
use Prim.Native.Nat.{ℕ, suc, ◌+◌, ◌-◌, ◌≤◌, ◌<◌}
use native.Mathlib.Omega.{arith}
use borrow.Author.Tests.{eq-eqb, eqb-true, eqb-false}
use lib.Dec.{eqb}
use lib.IntN.{ℤ, pos}
use lib.ListN.{length, drop, length-append}
use Rattle.tables.proofs.SearchLaws.{cases}
use Rattle.program.specs.Forms.{most_words, most_steps, expression_depth, most_parts}
use Rattle.program.specs.Grammar.{Expression as Of, Parts as PartsOf, Constraint as ConstraintOf}
use Rattle.tokens.specs.declared.Token.{Token}
use Rattle.tokens.specs.Codes.{name_code, dot_code, colon_code, identical_code, beside_code}
use Rattle.text.specs.Grammar.{Meaning, Path, Part, Parts, Constraint}
use Rattle.text.specs.Reading.{Reader, owing, peek, is, path, climb, expression_on, part_at, parts_on, constraint_on, stated_on, stated}
use Rattle.text.proofs.Taken.{first_code, Given, At, next, taken, takes, plain, peek-next, is-so, is-not, owed_more}
use Rattle.text.proofs.PathsRead.{M, Done, made, path-read}
use Rattle.text.proofs.Cuts.{heads, tails}
use Rattle.text.proofs.OperatorsRead.{Stops, stops-by}
use Rattle.text.proofs.PartsRead.{part_cut, part-read, Counts, no_part, parts-read}
use Rattle.text.proofs.LedRead.{in-constraint, Led, led_on, led-read}

none_left : {n : ℕ} {x y : List ℤ} (ps : List ℤ) → PartsOf n ps → n ≡ 0 → x ≡ ps ++ y → x ≡ y
none_left ps PartsOf.none n v = v
none_left ps (PartsOf.one a b o r) n v = absurd (omega arith)

-- the words of a row of parts are cut off in one way
pub parts_cut : {N : Meaning} {n : ℕ} {ts : List Token} {ws p x y : List ℤ} {os : List ℕ} → Parts N n ts ws os → PartsOf n p → ws ++ x ≡ p ++ y → x ≡ y
parts_cut (Parts.one d) l q = let i = part_cut d l q in none_left i.1.0 i.1.1.0 refl i.1.1.1
parts_cut {x = x} (Parts.more t {va = va} {vb = vb} d k g) l q = let i = part_cut d l (sym (append_assoc va vb x) ∙ q) in parts_cut g i.1.1.0 i.1.1.1

module _ (G : Given) where
  -- the parts behind the first one, and the count before it
  counted-on : {n e : ℕ} (u : Reader) {rest : List Token} (va : List ℤ) {vb : List ℤ} (oa : List ℕ) {ob : List ℕ} (place depth : ℕ) → Counts G (parts_on G.text (most_parts - 1) u) n u.at e rest vb ob
      → Done G (constraint_on G.text place (made va oa depth) u) u.at e rest (pos (suc n) ∷ va ++ vb) (place ∷ oa ++ ob) 1
  unfolding constraint_on
  counted-on u va oa place depth i = record { depth = 1; reader = i.reader; answer = rw i.answer refl; shallow = omega arith; behind = i.behind; on = i.on }

  -- a row of parts by its first one
  record Front (n c e : ℕ) (ts rest : List Token) (ws x y : List ℤ) (os : List ℕ) : Type 0 where
    part-tokens : List Token
    tokens : List Token
    part-words : List ℤ
    part-origins : List ℕ
    split : ts ≡ part-tokens ++ tokens
    is-part : Part (M G) part-tokens part-words part-origins
    limit : Of true expression_depth (drop 1 part-words)
    after : Stops false 0 (next G (tokens ++ rest))
    fewer : length part-words ≤ length ws
    goes_on : (u : Reader) (place depth : ℕ) → At G u (c + length part-words) (tokens ++ rest)
        → Done G (constraint_on G.text place (made part-words part-origins depth) u) u.at e rest (pos n ∷ ws) (place ∷ os) 1
    cut : x ≡ y

  front : {n c : ℕ} (e : ℕ) {ts : List Token} (rest : List Token) {ws p x y : List ℤ} {os : List ℕ} → Parts (M G) n ts ws os → PartsOf n p → n ≤ most_parts → ws ++ x ≡ p ++ y
      → Stops false 0 (next G rest) → ((next G rest).code ≡ beside_code → ⊥) → e ≡ c + length ws → e ≤ most_words → Front n c e ts rest ws x y os
  front {c = c} e {ts} rest {ws} {x = x} {y = y} {os = os} (Parts.one d) l h q s b z w = by (part_cut d l q)
    where
      by : Of true expression_depth (drop 1 ws) × ((ps : List ℤ) × (PartsOf 0 ps × (x ≡ ps ++ y))) → Front 1 c e ts rest ws x y os
      by (o, (ps, (r, v))) = record {
        part-tokens = ts;
        tokens = [];
        part-words = ws;
        part-origins = os;
        split = sym (append-nil ts);
        is-part = d;
        limit = o;
        after = s;
        fewer = omega arith;
        goes_on = λ u place depth a. rw (append-nil ws, append-nil os, ← z) at (counted-on u ws os place depth (no_part G (most_parts - 1) a b));
        cut = none_left ps r refl v;
      }
  front {c = c} e rest {x = x} {y = y} (Parts.more {n = n} {a = a} {b = us} t {va = va} {vb = vb} {oa = oa} {ob = ob} d k g) l h q s b z w = by (part_cut d l (sym (append_assoc va vb x) ∙ q))
    where
      by : Of true expression_depth (drop 1 va) × ((ps : List ℤ) × (PartsOf n ps × (vb ++ x ≡ ps ++ y))) → Front (suc n) c e (a ++ t ∷ us) rest (va ++ vb) x y (oa ++ ob)
      by (o, (ps, (r, v))) = record {
        part-tokens = a;
        tokens = t ∷ us;
        part-words = va;
        part-origins = oa;
        split = refl;
        is-part = d;
        limit = o;
        after = stops-by beside_code t k (λ x. omega arith) (λ x. omega arith) (λ x. omega arith) refl;
        fewer = omega (arith, length-append va vb);
        goes_on = λ u place depth at. counted-on u va oa place depth (parts-read G rest x y (most_parts - 1) e g r v k (omega arith) at (in-constraint s) b (omega (arith, length-append va vb)) w);
        cut = parts_cut g r v;
      }

  -- C that begins with no name
  said_read : {n c e : ℕ} {r : Reader} {t : Token} {ts rest : List Token} {ws x y : List ℤ} {os : List ℕ} (verb p : ℕ) → Front n (c + 1) e (t ∷ ts) rest ws x y os → e ≤ most_words → e ≡ c + 1 + length ws
      → At G r c (t ∷ (ts ++ rest)) → (r.last ≡ dot_code → ⊥) → (t.code ≡ name_code → ⊥)
      → Done G (stated G.text verb p r) r.at e rest (pos verb ∷ pos n ∷ ws) (p ∷ t.place ∷ os) 1
  unfolding stated
  said_read {n} {c} {e} {r} {t} {ts} {rest} {ws} {os = os} verb p f w z a d k = by (part-read G (f.tokens ++ rest) (c + 1 + length f.part-words) f.is-part f.limit at d (in-constraint f.after) refl (omega (arith, f.fewer)))
    where
      at : At G (owing 1 r) (c + 1) (f.part-tokens ++ (f.tokens ++ rest))
      at = rw (ap (λ (x : List Token). x ++ rest) f.split ∙ append_assoc f.part-tokens f.tokens rest) at (owed_more G 1 a)

      to : (i : Done G (part_at G.text (owing 1 r)) r.at (c + 1 + length f.part-words) (f.tokens ++ rest) f.part-words f.part-origins 1)
          → Done G (constraint_on G.text t.place (made f.part-words f.part-origins i.depth) i.reader) i.reader.at e rest (pos n ∷ ws) (t.place ∷ os) 1
          → Done G (stated G.text verb p r) r.at e rest (pos verb ∷ pos n ∷ ws) (p ∷ t.place ∷ os) 1
      to i j = record {
        depth = 1;
        reader = j.reader;
        answer = rw (is-not G name_code a k, i.answer, ap (λ (t : Token). t.place) (peek-next G a), j.answer) refl;
        shallow = omega arith;
        behind = j.behind;
        on = omega (arith, i.on, j.on);
      }

      by : Done G (part_at G.text (owing 1 r)) r.at (c + 1 + length f.part-words) (f.tokens ++ rest) f.part-words f.part-origins 1
          → Done G (stated G.text verb p r) r.at e rest (pos verb ∷ pos n ∷ ws) (p ∷ t.place ∷ os) 1
      by i = to i (f.goes_on i.reader t.place i.depth i.behind)

  -- C that begins with a name
  module _ (n c e : ℕ) (r : Reader) (R rest : List Token) (ws : List ℤ) (os : List ℕ) (verb p : ℕ) (d : r.last ≡ dot_code → ⊥) (name : (peek G.text r).code ≡ name_code) (s : Stops false 0 (next G R)) where
    named-on : {w f : ℕ} {ts : List Token} {wp v : List ℤ} {op ov : List ℕ} → is G.text r name_code ≡ true → Stops false w (next G ts)
        → (j : Done G (path G.text 2 r) r.at f ts wp op 1)
        → (k : Done G (expression_on G.text true (made (pos 24 ∷ wp) ((peek G.text r).place ∷ op) 1) (owing 3 j.reader)) j.reader.at (c + 2 + length v) R v ov expression_depth)
        → Done G (constraint_on G.text (peek G.text r).place (made (pos 3 ∷ v) ((peek G.text r).place ∷ ov) 1) k.reader) k.reader.at e rest (pos n ∷ ws) ((peek G.text r).place ∷ os) 1
        → Done G (stated G.text verb p r) r.at e rest (pos verb ∷ pos n ∷ ws) (p ∷ (peek G.text r).place ∷ os) 1
    unfolding stated stated_on
    named-on x a j k l = record {
      depth = 1;
      reader = l.reader;
      answer = rw (x, j.answer, is-not G identical_code j.behind (a.unlike refl), k.answer, l.answer) refl;
      shallow = omega arith;
      behind = l.behind;
      on = omega (arith, j.on, k.on, l.on);
    }

    named-led : {t : Token} {ts : List Token} {v : List ℤ} {ov : List ℕ} → At G r c (t ∷ (ts ++ R)) → c + 2 + length v ≤ most_words
        → Led G (expression_depth - 1) (λ l v. climb G.text (expression_depth - 1) true l v) 1 (c + 2 + length v) (c + 2) expression_depth (t ∷ ts) R v ov
        → ((u : Reader) (place depth : ℕ) → At G u (c + 1 + suc (length v)) R → Done G (constraint_on G.text place (made (pos 3 ∷ v) (t.place ∷ ov) depth) u) u.at e rest (pos n ∷ ws) (place ∷ os) 1)
        → Done G (stated G.text verb p r) r.at e rest (pos verb ∷ pos n ∷ ws) (p ∷ (peek G.text r).place ∷ os) 1
    named-led {t} {ts} {v} {ov} a h i go =
        by (path-read G 2 (c + length i.path-words) i.is-path at d i.after.1.undotted i.after.1.uncoloned i.short (omega arith) (omega (arith, i.fewer)))
      where
        at : At G r c ((i.first ∷ i.path-rest) ++ (i.tokens ++ R))
        at = rw (ap (λ (x : List Token). x ++ R) i.split ∙ append_assoc (i.first ∷ i.path-rest) i.tokens R) at a

        place : i.first.place ≡ (peek G.text r).place
        place = ap (λ (t : Token). t.place) (sym (peek-next G at))

        start : t.place ≡ (peek G.text r).place
        start = ap (λ (t : Token). t.place) (sym (peek-next G a))

        yes : is G.text r name_code ≡ true
        yes = eq-eqb (peek G.text r).code name_code name

        to : (j : Done G (path G.text 2 r) r.at (c + length i.path-words) (i.tokens ++ R) i.path-words i.path-origins 1)
            → Done G (expression_on G.text true (made (pos 24 ∷ i.path-words) ((peek G.text r).place ∷ i.path-origins) 1) (owing 3 j.reader)) j.reader.at (c + 2 + length v) R v ov expression_depth
            → Done G (stated G.text verb p r) r.at e rest (pos verb ∷ pos n ∷ ws) (p ∷ (peek G.text r).place ∷ os) 1
        to j k =
            let z : c + 2 + length v ≡ c + 1 + suc (length v) = omega arith in
            named-on yes i.after.1 j k (rw start at (go k.reader (peek G.text r).place 1 (rw z at k.behind)))

        by : Done G (path G.text 2 r) r.at (c + length i.path-words) (i.tokens ++ R) i.path-words i.path-origins 1
            → Done G (stated G.text verb p r) r.at e rest (pos verb ∷ pos n ∷ ws) (p ∷ (peek G.text r).place ∷ os) 1
        by j =
            let z : c + length i.path-words + 3 ≡ c + 2 + 1 + length i.path-words = omega arith in
            to j (rw place at (led-read i (owing 3 j.reader) (rw z at (owed_more G 3 j.behind)) s))

    named-part : {pt : List Token} {pw : List ℤ} {po : List ℕ} → Part (M G) pt pw po → Of true expression_depth (drop 1 pw) → At G r c (pt ++ R) → c + 1 + length pw ≤ most_words
        → ((u : Reader) (place depth : ℕ) → At G u (c + 1 + length pw) R → Done G (constraint_on G.text place (made pw po depth) u) u.at e rest (pos n ∷ ws) (place ∷ os) 1)
        → Done G (stated G.text verb p r) r.at e rest (pos verb ∷ pos n ∷ ws) (p ∷ (peek G.text r).place ∷ os) 1
    named-part (Part.said t f g h x) o a w go = let z : t.code ≡ name_code = ap (λ (t : Token). t.code) (sym (peek-next G a)) ∙ name in absurd (omega arith)
    named-part (Part.unsaid t {ts = ts} {ws = v} x) o a w go =
        let z : t.code ≡ name_code = ap (λ (t : Token). t.code) (sym (peek-next G a)) ∙ name in
        named-led a (omega arith) (led_on R (c + 2 + length v) x (λ u us q. sym (first_code q) ∙ z) o (omega arith) s refl (omega arith)) go

  -- C
  pub constraint-read : {c : ℕ} {r : Reader} {ts : List Token} (rest : List Token) {ws cs x y : List ℤ} {os : List ℕ} (verb p e : ℕ) → Constraint (M G) ts ws os → ConstraintOf cs → ws ++ x ≡ cs ++ y
      → At G r c (ts ++ rest) → (r.last ≡ dot_code → ⊥) → Stops false 0 (next G rest) → ((next G rest).code ≡ beside_code → ⊥) → e ≡ c + length ws → e ≤ most_words
      → Done G (stated G.text verb p r) r.at e rest (pos verb ∷ ws) (p ∷ os) 1 × (x ≡ y)
  constraint-read {c} {r} rest {x = x} {y = y} verb p e (Constraint.constraint {n = n} t {ts = ts} {ws = ws} {os = os} d) (ConstraintOf.constraint {m = m} {ps = ps} k l b) q a f s g z w =
      let h : n ≡ m = heads q in let ps' : PartsOf n ps = rw h b in by (front {c = c + 1} e rest d ps' (omega arith) (tails q) s g (omega arith) w)
    where
      by : Front n (c + 1) e (t ∷ ts) rest ws x y os → Done G (stated G.text verb p r) r.at e rest (pos verb ∷ pos n ∷ ws) (p ∷ t.place ∷ os) 1 × (x ≡ y)
      by i = (
        cases (eqb t.code name_code)
            (λ v. rw (peek-next G a) at (named-part n c e r (i.tokens ++ rest) rest ws os verb p f (ap (λ (t : Token). t.code) (peek-next G a) ∙ eqb-true t.code name_code v) i.after i.is-part i.limit
            (rw (ap (λ (x : List Token). x ++ rest) i.split ∙ append_assoc i.part-tokens i.tokens rest) at a) (omega (arith, i.fewer)) i.goes_on))
            (λ v. said_read verb p i w (omega arith) a f (eqb-false t.code name_code v)),
        i.cut,
      )

  -- L == L
  pub identity-read : {c : ℕ} {r : Reader} {a b : List Token} (rest : List Token) {va vb : List ℤ} {oa ob : List ℕ} (t : Token) (verb p e : ℕ) → Path (M G) a va oa → t.code ≡ identical_code → Path (M G) b vb ob
      → At G r c (a ++ t ∷ (b ++ rest)) → (r.last ≡ dot_code → ⊥) → ((next G rest).code ≡ dot_code → ⊥) → ((next G rest).code ≡ colon_code → ⊥)
      → length va ≤ most_steps + 2 → length vb ≤ most_steps + 2 → e ≡ c + length va + length vb → e ≤ most_words
      → Done G (stated G.text verb p r) r.at e rest (pos (verb + 2) ∷ va ++ vb) (p ∷ oa ++ ob) 1
  unfolding stated stated_on
  identity-read {c} {r} {a} {b} rest {va} {vb} {oa} {ob} t verb p e x n q at d f g l m z h =
      by (name x at) (path-read G 2 (c + length va) x at d (λ y. omega arith) (λ y. omega arith) l (omega arith) (omega arith))
    where
      name : {a : List Token} {ws : List ℤ} {os : List ℕ} → Path (M G) a ws os → At G r c (a ++ t ∷ (b ++ rest)) → is G.text r name_code ≡ true
      name (Path.path x n y) a = is-so G name_code a n

      to : is G.text r name_code ≡ true → (i : Done G (path G.text 2 r) r.at (c + length va) (t ∷ (b ++ rest)) va oa 1) → i.reader.at < (peek G.text i.reader).end
          → Done G (path G.text 2 (taken G 0 i.reader)) (peek G.text i.reader).end e rest vb ob 1
          → Done G (stated G.text verb p r) r.at e rest (pos (verb + 2) ∷ va ++ vb) (p ∷ oa ++ ob) 1
      to x i u j = let y : c + length va + 0 ≤ most_words = omega arith in record {
        depth = 1;
        reader = j.reader;
        answer = rw (x, i.answer, is-so G identical_code i.behind n, takes G 0 i.behind y, j.answer) refl;
        shallow = omega arith;
        behind = j.behind;
        on = omega (arith, i.on, j.on);
      }

      by : is G.text r name_code ≡ true → Done G (path G.text 2 r) r.at (c + length va) (t ∷ (b ++ rest)) va oa 1
          → Done G (stated G.text verb p r) r.at e rest (pos (verb + 2) ∷ va ++ vb) (p ∷ oa ++ ob) 1
      by x i =
          let u = plain G 0 i.behind (λ y. absurd (omega arith)) in
          let v : (peek G.text i.reader).code ≡ identical_code = ap (λ (t : Token). t.code) (peek-next G i.behind) ∙ n in
          to x i u.1 (path-read G 2 e q u.0 (λ y. omega arith) f g m (omega arith) h)
