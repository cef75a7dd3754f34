-- What the grammar yields as an assignment, and as one of a new record, is read, with its words. Assumes nothing.
use mathlib.Core.Path.{◌≡◌, refl, ap, ◌∙◌}
use mathlib.Core.Bool.{false}
use mathlib.Core.List.{List, [], ◌∷◌, ◌++◌}
use Prim.Native.Nat.{ℕ, ◌+◌, ◌≤◌, ◌<◌}
use native.Mathlib.Omega.{arith}
use lib.IntN.{ℤ, pos}
use lib.ListN.{length}
use Rattle.program.specs.Forms.{most_words, most_steps, expression_depth}
use Rattle.program.specs.Grammar.{Expression as Of}
use Rattle.tokens.specs.declared.Token.{Token}
use Rattle.tokens.specs.Codes.{name_code, new_code, becomes_code, dot_code}
use Rattle.text.specs.Grammar.{Labels, Path, Expression}
use Rattle.text.specs.Reading.{Reader, owing, peek, is, number_in, with_name, path, expression, fields_at, assignment}
use Rattle.text.proofs.Taken.{Given, At, next, taken, takes, plain, needs, peek-next, is-so, is-not, owed_more, variable-number}
use Rattle.text.proofs.PathsRead.{M, Done, path-read}
use Rattle.text.proofs.OperatorsRead.{Stops}
use Rattle.text.proofs.ExpressionsRead.{expression-read}
use Rattle.text.proofs.PartsRead.{expression-first, First, Counts}

module _ (G : Given) where
  -- an expression begins with no `new`
  not_new : {c l : ℕ} {u : Reader} {ts : List Token} (rest : List Token) {ws : List ℤ} {os : List ℕ} → Expression (M G) false l ts ws os → At G u c (ts ++ rest) → is G.text u new_code ≡ false
  not_new {c} {u = u} {ts = ts} rest x a = by (expression-first x)
    where
      by : (t : Token) × ((us : List Token) × ((ts ≡ t ∷ us) × First t)) → is G.text u new_code ≡ false
      by (t, (us, (q, f))) = let b : At G u c (t ∷ (us ++ rest)) = rw (ap (λ (x : List Token). x ++ rest) q) at a in is-not G new_code b (λ z. absurd (let y = f (omega arith) in omega arith))

  pub assign-read : {c : ℕ} {r : Reader} {x : Token} (b : Token) {a ts : List Token} (rest : List Token) {va ws : List ℤ} {oa os : List ℕ} (e : ℕ) → Path (M G) (x ∷ a) va oa → b.code ≡ becomes_code → Expression (M G) false 1 ts ws os
      → length va ≤ most_steps + 2 → Of false expression_depth ws → At G r c (x ∷ (a ++ b ∷ (ts ++ rest))) → (r.last ≡ dot_code → ⊥) → Stops false 0 (next G rest)
      → e ≡ c + 1 + length va + length ws → e ≤ most_words → Done G (assignment G.text r) r.at e rest (pos 1 ∷ va ++ ws) (x.place ∷ oa ++ os) 1
  unfolding assignment
  assign-read {c} {r} {x} b {a} {ts} rest {va} {ws} {oa} {os} e p q d l o at n s z w =
      by (path-read G 2 (c + 1 + length va) p (owed_more G 1 at) n (λ y. omega arith) (λ y. omega arith) l (omega arith) (omega arith))
    where
      to : (i : Done G (path G.text 2 (owing 1 r)) r.at (c + 1 + length va) (b ∷ (ts ++ rest)) va oa 1) → i.reader.at < (peek G.text i.reader).end → is G.text (taken G 0 i.reader) new_code ≡ false
          → Done G (expression G.text false (taken G 0 i.reader)) (peek G.text i.reader).end (c + 1 + length va + 0 + length ws) rest ws os expression_depth
          → Done G (assignment G.text r) r.at e rest (pos 1 ∷ va ++ ws) (x.place ∷ oa ++ os) 1
      to i f g j =
          let y : c + 1 + length va + 0 ≤ most_words = omega arith in let v : c + 1 + length va + 0 + length ws ≡ e = omega arith in
          record {
            depth = 1;
            reader = j.reader;
            answer = rw (i.answer, needs G becomes_code 0 i.behind q y, g, j.answer, ap (λ (t : Token). t.place) (peek-next G at)) refl;
            shallow = omega arith;
            behind = rw v at j.behind;
            on = omega (arith, i.on, j.on);
          }

      by : Done G (path G.text 2 (owing 1 r)) r.at (c + 1 + length va) (b ∷ (ts ++ rest)) va oa 1 → Done G (assignment G.text r) r.at e rest (pos 1 ∷ va ++ ws) (x.place ∷ oa ++ os) 1
      by i =
          let u = plain G 0 i.behind (λ y. absurd (omega arith)) in
          let v : (peek G.text i.reader).code ≡ becomes_code = ap (λ (t : Token). t.code) (peek-next G i.behind) ∙ q in
          to i u.1 (not_new rest d u.0) (expression-read rest d o (omega arith) u.0 (λ y. omega arith) s (omega arith))

  -- x := new, and then what `fields_at` reads
  pub new-read : {c n : ℕ} {r : Reader} {x b w o : Token} {ts : List Token} (rest : List Token) {ws : List ℤ} {os : List ℕ} (e : ℕ) → x.code ≡ name_code → b.code ≡ becomes_code → w.code ≡ new_code
      → At G r c (x ∷ b ∷ w ∷ o ∷ ts) → (r.last ≡ dot_code → ⊥) → c + 3 ≤ most_words
      → ((u : Reader) → At G u (c + 3) (o ∷ ts) → Counts G (fields_at G.text u) n u.at e rest ws os)
      → Done G (assignment G.text r) r.at e rest (pos 2 ∷ pos (number_in G.text G.vs x) ∷ pos n ∷ ws) (x.place ∷ x.place ∷ o.place ∷ os) 1
  unfolding assignment
  new-read {c} {n} {r} {x} {b} {w} {o} {ts} rest {ws} {os} e p q k a d h g =
      by (path-read G {ts = x ∷ []} 2 (c + 3) (Path.path x p Labels.none) (owed_more G 1 a) d (λ y. omega arith) (λ y. omega arith) (omega arith) (omega arith) h)
    where
      number : number_in G.text (with_name G.text r.variables x) x ≡ number_in G.text G.vs x
      number = variable-number G a p d (λ y. omega arith)

      to : (i : Done G (path G.text 2 (owing 1 r)) r.at (c + 3) (b ∷ w ∷ o ∷ ts) (pos (number_in G.text G.vs x) ∷ pos 0 ∷ []) (x.place ∷ x.place ∷ []) 1)
          → i.reader.at < (peek G.text i.reader).end → At G (taken G 0 i.reader) (c + 3 + 0) (w ∷ o ∷ ts)
          → (peek G.text i.reader).end < (peek G.text (taken G 0 i.reader)).end → At G (taken G 0 (taken G 0 i.reader)) (c + 3) (o ∷ ts)
          → Counts G (fields_at G.text (taken G 0 (taken G 0 i.reader))) n (peek G.text (taken G 0 i.reader)).end e rest ws os
          → Done G (assignment G.text r) r.at e rest (pos 2 ∷ pos (number_in G.text G.vs x) ∷ pos n ∷ ws) (x.place ∷ x.place ∷ o.place ∷ os) 1
      to i f u y v j =
          let s : c + 3 + 0 ≤ most_words = omega arith in let t : c + 3 + 0 + 0 ≤ most_words = omega arith in
          record {
            depth = 1;
            reader = j.reader;
            answer = rw (i.answer, needs G becomes_code 0 i.behind q s, is-so G new_code u k, takes G 0 u t, j.answer, peek-next G v, peek-next G a, number) refl;
            shallow = omega arith;
            behind = j.behind;
            on = omega (arith, i.on, j.on);
          }

      by : Done G (path G.text 2 (owing 1 r)) r.at (c + 3) (b ∷ w ∷ o ∷ ts) (pos (number_in G.text G.vs x) ∷ pos 0 ∷ []) (x.place ∷ x.place ∷ []) 1
          → Done G (assignment G.text r) r.at e rest (pos 2 ∷ pos (number_in G.text G.vs x) ∷ pos n ∷ ws) (x.place ∷ x.place ∷ o.place ∷ os) 1
      by i =
          let u = plain G 0 i.behind (λ y. absurd (omega arith)) in let v = plain G 0 u.0 (λ y. absurd (omega arith)) in
          let s : c + 3 + 0 + 0 ≡ c + 3 = omega arith in let t : At G (taken G 0 (taken G 0 i.reader)) (c + 3) (o ∷ ts) = rw s at v.0 in
          to i u.1 u.0 v.1 t (g (taken G 0 (taken G 0 i.reader)) t)
