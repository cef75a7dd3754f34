-- What the grammar yields as the fields of a record is read, with its words. Assumes nothing.
use mathlib.Core.Path.{◌≡◌, refl, sym, ap, ◌∙◌}
use mathlib.Core.Bool.{Bool, true, false}
use mathlib.Core.List.{List, [], ◌∷◌, ◌++◌, append-nil, append_assoc}
use Prim.Native.Nat.{ℕ, zero, suc, ◌+◌, ◌-◌, ◌≤◌, ◌<◌}
use native.Mathlib.Omega.{arith}
use borrow.Author.Tests.{lt-leb}
use lib.Dec.{leb}
use lib.IntN.{ℤ, pos}
use lib.ListN.{length, length-append}
use Rattle.words.specs.Answer.{got}
use Rattle.tables.specs.Sizes.{most_fields}
use Rattle.program.specs.Forms.{most_words, expression_depth}
use Rattle.program.specs.Reading.{among}
use Rattle.program.specs.Grammar.{Expression as Of, Fields as FieldsOf}
use Rattle.tokens.specs.declared.Token.{Token}
use Rattle.tokens.specs.Codes.{name_code, dot_code, colon_code, comma_code, open_brace_code, close_brace_code}
use Rattle.text.specs.Grammar.{Meaning, Expression, Fields}
use Rattle.text.specs.Reading.{Reader, peek, is, need, is_operator, number_in, label, expression, field_at, fields_on, fields_at}
use Rattle.text.proofs.Taken.{Given, At, next, taken, takes, plain, needs, peek-next, is-so, is-not, takes_field}
use Rattle.text.proofs.PathsRead.{M, Done}
use Rattle.text.proofs.Cuts.{heads, tails, expression-cut}
use Rattle.text.proofs.OperatorsRead.{Stops}
use Rattle.text.proofs.ExpressionsRead.{expression-read}
use Rattle.text.proofs.PartsRead.{Counts}

-- the first of a row of fields within the limits
field_cut : {N : Meaning} {n k l : ℕ} {seen : List ℕ} {ts : List Token} {ws p x y : List ℤ} {os : List ℕ} → Expression N false k ts ws os → FieldsOf (suc n) seen p → pos l ∷ ws ++ x ≡ p ++ y
    → (among l seen ≡ false) × (Of false expression_depth ws × ((fs : List ℤ) × (FieldsOf n (l ∷ seen) fs × (x ≡ fs ++ y))))
field_cut {n = n} {l = l} {seen = seen} {ws = ws} {x = x} {y = y} d (FieldsOf.one {l = m} {e = e} {fs = fs} a b o r) q = by (heads q) (expression-cut d o (tails q ∙ append_assoc e fs y))
  where
    by : l ≡ m → (ws ≡ e) × (x ≡ fs ++ y) → (among l seen ≡ false) × (Of false expression_depth ws × ((fs : List ℤ) × (FieldsOf n (l ∷ seen) fs × (x ≡ fs ++ y))))
    by h (i, j) = (rw h b, (rw i o, (fs, (rw h r, j))))

pub no-fields-of : {n : ℕ} {seen : List ℕ} {p x y : List ℤ} → FieldsOf n seen p → n ≡ 0 → x ≡ p ++ y → x ≡ y
no-fields-of FieldsOf.none e q = q
no-fields-of (FieldsOf.one a b o r) e q = absurd (omega arith)

-- the words of a row of fields are cut off in one way
pub fields-cut : {N : Meaning} {n : ℕ} {seen : List ℕ} {ts : List Token} {ws p x y : List ℤ} {os : List ℕ} → Fields N n ts ws os → FieldsOf n seen p → ws ++ x ≡ p ++ y → x ≡ y
fields-cut (Fields.one l c a b d) g q = let i = field_cut d g q in no-fields-of i.1.1.1.0 refl i.1.1.1.1
fields-cut {N = N} {x = x} (Fields.more l c j {va = va} {vb = vb} a b d k f) g q =
    let i = field_cut d g (ap (λ (ws : List ℤ). pos (N.label l) ∷ ws) (sym (append_assoc va vb x)) ∙ q) in fields-cut f i.1.1.1.0 i.1.1.1.1

module _ (G : Given) where
  pub field-read : {c : ℕ} {r : Reader} {l k : Token} {ts : List Token} (rest : List Token) {ws : List ℤ} {os : List ℕ} (seen : List ℕ) (e : ℕ) → l.code ≡ name_code → k.code ≡ colon_code → Expression (M G) false 1 ts ws os
      → Of false expression_depth ws → among (number_in G.text G.ls l) seen ≡ false → At G r c (l ∷ k ∷ (ts ++ rest)) → (r.last ≡ dot_code → ⊥) → Stops false 0 (next G rest)
      → e ≡ c + 1 + length ws → e ≤ most_words
      → Counts G (field_at G.text seen r) (number_in G.text G.ls l) r.at e rest (pos (number_in G.text G.ls l) ∷ ws) (l.place ∷ os)
  unfolding field_at
  field-read {c} {r} {l} {k} {ts} rest {ws} {os} seen e n m x o f a d s z w = by (takes_field G seen a n f (omega arith) d m)
    where
      to : (u : Reader) → label G.text seen r ≡ got (number_in G.text G.ls l, u) → At G u (c + 1) (k ∷ (ts ++ rest)) → r.at < u.at → u.at < (peek G.text u).end
          → Done G (expression G.text false (taken G 0 u)) (peek G.text u).end (c + 1 + 0 + length ws) rest ws os expression_depth
          → Counts G (field_at G.text seen r) (number_in G.text G.ls l) r.at e rest (pos (number_in G.text G.ls l) ∷ ws) (l.place ∷ os)
      to u q b p g i =
          let y : c + 1 + 0 ≤ most_words = omega arith in let v : c + 1 + 0 + length ws ≡ e = omega arith in
          record {
            reader = i.reader;
            answer = rw (q, needs G colon_code 0 b m y, i.answer, ap (λ (t : Token). t.place) (peek-next G a)) refl;
            behind = rw v at i.behind;
            on = omega (arith, i.on);
          }

      by : (u : Reader) × ((label G.text seen r ≡ got (number_in G.text G.ls l, u)) × (At G u (c + 1) (k ∷ (ts ++ rest)) × (r.at < u.at)))
          → Counts G (field_at G.text seen r) (number_in G.text G.ls l) r.at e rest (pos (number_in G.text G.ls l) ∷ ws) (l.place ∷ os)
      by (u, (q, (b, p))) =
          let g = plain G 0 b (λ y. absurd (omega arith)) in
          let v : (peek G.text u).code ≡ colon_code = ap (λ (t : Token). t.code) (peek-next G b) ∙ m in
          to u q b p g.1 (expression-read rest x o (omega arith) g.0 (λ y. omega arith) s (omega arith))

  no_field : {c : ℕ} {r : Reader} {rest : List Token} (m : ℕ) (seen : List ℕ) → At G r c rest → ((next G rest).code ≡ comma_code → ⊥) → Counts G (fields_on G.text m seen r) 0 r.at c rest [] []
  unfolding fields_on
  no_field {r = r} zero seen a e = record { reader = r; answer = rw (is-not G comma_code a e) refl; behind = a; on = omega arith }
  no_field {r = r} (suc m) seen a e = record { reader = r; answer = rw (is-not G comma_code a e) refl; behind = a; on = omega arith }

  field-on : {c n l e : ℕ} {r : Reader} {j : Token} {us ts rest : List Token} {va vb : List ℤ} {oa ob : List ℕ} (m f : ℕ) (seen : List ℕ) → At G r c (j ∷ us) → j.code ≡ comma_code → c ≤ most_words
      → r.at < (peek G.text r).end → (i : Counts G (field_at G.text seen (taken G 0 r)) l (peek G.text r).end f ts va oa) → Counts G (fields_on G.text m (l ∷ seen) i.reader) n i.reader.at e rest vb ob
      → Counts G (fields_on G.text (suc m) seen r) (suc n) r.at e rest (va ++ vb) (oa ++ ob)
  unfolding fields_on
  field-on {c = c} m f seen a q h o i k = let z : c + 0 ≤ most_words = omega arith in record {
    reader = k.reader;
    answer = rw (is-so G comma_code a q, takes G 0 a z, i.answer, k.answer) refl;
    behind = k.behind;
    on = omega (arith, i.on, k.on);
  }

  fields-some : {n : ℕ} {ts : List Token} {ws : List ℤ} {os : List ℕ} → Fields (M G) n ts ws os → 1 ≤ n
  fields-some (Fields.one l c p q d) = omega arith
  fields-some (Fields.more l c j p q d k f) = omega (arith, fields-some f)

  -- a row of fields: the first one, and those behind it
  record Row (m n : ℕ) (seen : List ℕ) (r : Reader) (e : ℕ) (rest : List Token) (ws : List ℤ) (os : List ℕ) : Type 0 where
    number : ℕ
    k : ℕ
    f : ℕ
    tokens : List Token
    va : List ℤ
    vb : List ℤ
    oa : List ℕ
    ob : List ℕ
    first : Counts G (field_at G.text seen r) number r.at f tokens va oa
    others : Counts G (fields_on G.text m (number ∷ seen) first.reader) k first.reader.at e rest vb ob
    count : n ≡ suc k
    words : ws ≡ va ++ vb
    origins : os ≡ oa ++ ob

  stops_at : (c : ℕ) (t : Token) → t.code ≡ c → 32 ≤ c → c ≤ 36 → (c ≡ dot_code → ⊥) → Stops false 0 t
  stops_at c t e a b d = record { undotted = λ z. d (sym e ∙ z); uncoloned = λ z. omega arith; unlike = λ x z. omega arith; looser = λ z. absurd (by z) }
    where
      by : is_operator t.code ≡ true → ⊥
      by z = let y : leb 41 t.code ≡ false = lt-leb 41 t.code (omega arith) in let v : ◌≡◌ {A = Bool} false true = rw y at z in let n : ◌≡◌ {A = ℕ} 0 1 = cc in omega arith

  row_read : {c n : ℕ} {r : Reader} {ts : List Token} (rest : List Token) {ws p : List ℤ} (x y : List ℤ) {os : List ℕ} (m : ℕ) (seen : List ℕ) (e : ℕ) → Fields (M G) n ts ws os → FieldsOf n seen p → ws ++ x ≡ p ++ y
      → n ≤ suc m → At G r c (ts ++ rest) → (r.last ≡ dot_code → ⊥) → (next G rest).code ≡ close_brace_code → e ≡ c + length ws → e ≤ most_words → Row m n seen r e rest ws os
  row_read {c} {r = r} {ts = ts} rest x y m seen e (Fields.one l k {ts = us} {ws = ws} {os = os} p q d) g h o a n s z w = by (field_cut d g h)
    where
      by : (among (number_in G.text G.ls l) seen ≡ false) × (Of false expression_depth ws × ((fs : List ℤ) × (FieldsOf 0 (number_in G.text G.ls l ∷ seen) fs × (x ≡ fs ++ y))))
          → Row m 1 seen r e rest (pos (number_in G.text G.ls l) ∷ ws) (l.place ∷ os)
      by (b, (f, v)) =
          let i = field-read rest seen e p q d f b a n (stops_at close_brace_code (next G rest) s (omega arith) (omega arith) (λ z. omega arith)) (omega arith) w in
          record {
            number = number_in G.text G.ls l;
            k = 0;
            f = e;
            tokens = rest;
            va = pos (number_in G.text G.ls l) ∷ ws;
            vb = [];
            oa = l.place ∷ os;
            ob = [];
            first = i;
            others = no_field m (number_in G.text G.ls l ∷ seen) i.behind (λ z. omega arith);
            count = refl;
            words = sym (append-nil (pos (number_in G.text G.ls l) ∷ ws));
            origins = sym (append-nil (l.place ∷ os));
          }
  row_read rest x y zero seen e (Fields.more l k j p q d t v) g h o a n s z w = absurd (omega (arith, fields-some v))
  row_read {c} {r = r} rest x y (suc m) seen e (Fields.more {n = n'} l k j {a = us} {b = b} {va = va} {vb = vb} {oa = oa} {ob = ob} p q d t v) g h o a n s z w =
      by (field_cut d g (ap (λ (ws : List ℤ). pos (number_in G.text G.ls l) ∷ ws) (sym (append_assoc va vb x)) ∙ h))
      (λ u fs f g i at. row_read {c = c + 1 + length va + 0} rest x y m (number_in G.text G.ls l ∷ seen) e v f g (omega arith) at i s (omega (arith, length-append va vb)) w)
    where
      at : At G r c (l ∷ k ∷ (us ++ j ∷ (b ++ rest)))
      at = rw (append_assoc us (j ∷ b) rest) at a

      again : (u : Reader) → u.at < (peek G.text u).end → At G u (c + 1 + length va) (j ∷ (b ++ rest)) → Row m n' (number_in G.text G.ls l ∷ seen) (taken G 0 u) e rest vb ob
          → Counts G (fields_on G.text (suc m) (number_in G.text G.ls l ∷ seen) u) n' u.at e rest vb ob
      again u o h i = rw (i.count, i.words, i.origins) (field-on m i.f (number_in G.text G.ls l ∷ seen) h t (omega (arith, length-append va vb)) o i.first i.others)

      to : (i : Counts G (field_at G.text seen r) (number_in G.text G.ls l) r.at (c + 1 + length va) (j ∷ (b ++ rest)) (pos (number_in G.text G.ls l) ∷ va) (l.place ∷ oa))
          → Counts G (fields_on G.text (suc m) (number_in G.text G.ls l ∷ seen) i.reader) n' i.reader.at e rest vb ob
          → Row (suc m) (suc n') seen r e rest (pos (number_in G.text G.ls l) ∷ va ++ vb) (l.place ∷ oa ++ ob)
      to i f = record {
        number = number_in G.text G.ls l;
        k = n';
        f = c + 1 + length va;
        tokens = j ∷ (b ++ rest);
        va = pos (number_in G.text G.ls l) ∷ va;
        vb = vb;
        oa = l.place ∷ oa;
        ob = ob;
        first = i;
        others = f;
        count = refl;
        words = refl;
        origins = refl;
      }

      by : (among (number_in G.text G.ls l) seen ≡ false) × (Of false expression_depth va × ((fs : List ℤ) × (FieldsOf n' (number_in G.text G.ls l ∷ seen) fs × (vb ++ x ≡ fs ++ y))))
          → ((u : Reader) (fs : List ℤ) → FieldsOf n' (number_in G.text G.ls l ∷ seen) fs → vb ++ x ≡ fs ++ y → ((peek G.text u).code ≡ dot_code → ⊥) → At G (taken G 0 u) (c + 1 + length va + 0) (b ++ rest)
          → Row m n' (number_in G.text G.ls l ∷ seen) (taken G 0 u) e rest vb ob)
          → Row (suc m) (suc n') seen r e rest (pos (number_in G.text G.ls l) ∷ va ++ vb) (l.place ∷ oa ++ ob)
      by (f, (g, (fs, (h, v)))) ih =
          let i = field-read (j ∷ (b ++ rest)) seen (c + 1 + length va) p q d g f at n (stops_at comma_code j t (omega arith) (omega arith) (λ z. omega arith)) refl (omega (arith, length-append va vb)) in
          let u = plain G 0 i.behind (λ z. absurd (omega arith)) in
          let y : (peek G.text i.reader).code ≡ comma_code = ap (λ (t : Token). t.code) (peek-next G i.behind) ∙ t in
          to i (again i.reader u.1 i.behind (ih i.reader fs h v (λ z. omega arith) u.0))

  -- `{`, fields, `}`
  pub fields_read : {c n : ℕ} {r : Reader} {o : Token} (k : Token) {ts : List Token} (rest : List Token) {ws p : List ℤ} (x y : List ℤ) {os : List ℕ} (e : ℕ) → o.code ≡ open_brace_code → Fields (M G) n ts ws os → k.code ≡ close_brace_code
      → FieldsOf n [] p → ws ++ x ≡ p ++ y → n ≤ most_fields → At G r c (o ∷ (ts ++ k ∷ rest)) → e ≡ c + length ws → e ≤ most_words → Counts G (fields_at G.text r) n r.at e rest ws os
  unfolding fields_at
  fields_read {c} {n} {r} {o} k {ts} rest {ws} x0 y0 {os} e p d q g q0 h a z w = by (plain G 0 a (λ y. absurd (omega arith)))
    where
      shut : {u : Reader} {n f : ℕ} {ts : List Token} {ws : List ℤ} {os : List ℕ} → Fields (M G) n ts ws os → At G u f (ts ++ k ∷ rest) → is G.text u close_brace_code ≡ false
      shut (Fields.one l c p q d) a = is-not G close_brace_code a (λ z. omega arith)
      shut (Fields.more l c j p q d t v) a = is-not G close_brace_code a (λ z. omega arith)

      to : {u : Reader} → need G.text open_brace_code 0 r ≡ got u → r.at < u.at → is G.text u close_brace_code ≡ false → (i : Row (most_fields - 1) n [] u e (k ∷ rest) ws os)
          → At G (taken G 0 i.others.reader) (e + 0) rest → i.others.reader.at < (peek G.text i.others.reader).end
          → Counts G (fields_at G.text r) n r.at e rest ws os
      to x y v i b f =
          let m : e + 0 ≡ e = omega arith in let t : e + 0 ≤ most_words = omega arith in
          record {
            reader = taken G 0 i.others.reader;
            answer = rw (x, v, i.first.answer, i.others.answer, needs G close_brace_code 0 i.others.behind q t, i.count, i.words, i.origins) refl;
            behind = rw m at b;
            on = omega (arith, i.first.on, i.others.on);
          }

      by : At G (taken G 0 r) (c + 0) (ts ++ k ∷ rest) × (r.at < (peek G.text r).end) → Counts G (fields_at G.text r) n r.at e rest ws os
      by (b, f) =
          let x : c + 0 ≤ most_words = omega arith in
          let y : (peek G.text r).code ≡ open_brace_code = ap (λ (t : Token). t.code) (peek-next G a) ∙ p in
          let i = row_read (k ∷ rest) x0 y0 (most_fields - 1) [] e d g q0 (omega arith) b (λ z. omega arith) q (omega arith) w in
          let u = plain G 0 i.others.behind (λ z. absurd (omega arith)) in
          to (needs G open_brace_code 0 a p x) f (shut d b) i u.0 u.1

  -- `{`, `}`
  pub no-fields-read : {c : ℕ} {r : Reader} {o k : Token} (rest : List Token) → o.code ≡ open_brace_code → k.code ≡ close_brace_code → At G r c (o ∷ k ∷ rest) → c ≤ most_words
      → Counts G (fields_at G.text r) 0 r.at c rest [] []
  unfolding fields_at
  no-fields-read {c} {r} {o} {k} rest p q a w = by (plain G 0 a (λ y. absurd (omega arith)))
    where
      by : At G (taken G 0 r) (c + 0) (k ∷ rest) × (r.at < (peek G.text r).end) → Counts G (fields_at G.text r) 0 r.at c rest [] []
      by (b, f) =
          let x : c + 0 ≤ most_words = omega arith in let y : c + 0 + 0 ≤ most_words = omega arith in let z : c + 0 + 0 ≡ c = omega arith in
          let u = plain G 0 b (λ z. absurd (omega arith)) in
          record {
            reader = taken G 0 (taken G 0 r);
            answer = rw (needs G open_brace_code 0 a p x, is-so G close_brace_code b q, takes G 0 b y) refl;
            behind = rw z at u.0;
            on = omega (arith, u.1);
          }
