-- What the grammar yields as an operand without brackets is read, with its words. Assumes nothing.
use mathlib.Core.Path.{◌≡◌, refl, ap, ◌∙◌}
use mathlib.Core.Bool.{Bool, true, false, not, ◌&&◌}
use mathlib.Core.List.{List, [], ◌∷◌, ◌++◌}
use Prim.Native.Nat.{ℕ, ◌+◌, ◌≤◌, ◌<◌}
use native.Mathlib.Omega.{arith}
use lib.IntN.{ℤ, pos}
use lib.ListN.{length}
use Rattle.words.specs.Answer.{got}
use Rattle.program.specs.Forms.{most_words, most_steps}
use Rattle.tokens.specs.declared.Token.{Token}
use Rattle.tokens.specs.Codes.{name_code, number_code, true_code, false_code, nil_code, dot_code, colon_code, identical_code}
use Rattle.tokens.specs.Bytes.{part}
use Rattle.tokens.specs.Numbers.{integer_of}
use Rattle.text.specs.Grammar.{Path}
use Rattle.text.specs.Reading.{Reader, passing, peek, is, path, literal, outside, everywhere, literal_at, path_or_same, operand}
use Rattle.text.proofs.Taken.{Given, Plain, At, next, taken, takes, plain, peek-next, is-so, is-not, unpassing, number_fits_lem}
use Rattle.text.proofs.PathsRead.{M, Done, path-read}

module _ (G : Given) (in_c : Bool) where
  -- ---- literals

  literal-read : {c : ℕ} {r : Reader} {t : Token} {rest : List Token} (ws : List ℤ) (e : ℕ) → At G r c (t ∷ rest) → (t.code ≡ name_code → ⊥) → Plain t.code
      → literal G.text t ≡ got ws → outside G.text t ≡ false → e ≡ c + length ws → e ≤ most_words
      → Done G (operand G.text in_c r) r.at e rest ws (everywhere t.place ws) 1
  unfolding operand literal_at
  literal-read {c} {r} {t} {rest} ws e a n p l o q h = by (plain G (length ws) b p)
    where
      b : At G (passing (outside G.text (peek G.text r)) r) c (t ∷ rest)
      b = unpassing G (outside G.text (peek G.text r)) (rw (peek-next G a) o) a

      by : At G (taken G (length ws) (passing (outside G.text (peek G.text r)) r)) (c + length ws) rest × (r.at < (peek G.text (passing (outside G.text (peek G.text r)) r)).end)
          → Done G (operand G.text in_c r) r.at e rest ws (everywhere t.place ws) 1
      by (d, g) = let m : literal G.text (peek G.text r) ≡ got ws = rw (peek-next G a) l in let f : c + length ws ≤ most_words = omega arith in record {
        depth = 1;
        reader = taken G (length ws) (passing (outside G.text (peek G.text r)) r);
        answer = rw (is-not G name_code a n, m, literal_at, takes G (length ws) b f, ap (λ (t : Token). t.place) (peek-next G a)) refl;
        shallow = omega arith;
        behind = rw q d;
        on = omega arith;
      }

  pub nil-read : {c : ℕ} {r : Reader} {t : Token} {rest : List Token} → At G r c (t ∷ rest) → t.code ≡ nil_code → c + 1 ≤ most_words
      → Done G (operand G.text in_c r) r.at (c + 1) rest (pos 20 ∷ []) (t.place ∷ []) 1
  unfolding literal outside
  nil-read {c} a e h = literal-read (pos 20 ∷ []) (c + 1) a (λ z. omega arith) (λ z. absurd (omega arith)) (rw e refl) (rw e refl) refl h

  pub no_read : {c : ℕ} {r : Reader} {t : Token} {rest : List Token} → At G r c (t ∷ rest) → t.code ≡ false_code → c + 1 ≤ most_words
      → Done G (operand G.text in_c r) r.at (c + 1) rest (pos 21 ∷ []) (t.place ∷ []) 1
  unfolding literal outside
  no_read {c} a e h = literal-read (pos 21 ∷ []) (c + 1) a (λ z. omega arith) (λ z. absurd (omega arith)) (rw e refl) (rw e refl) refl h

  pub yes-read : {c : ℕ} {r : Reader} {t : Token} {rest : List Token} → At G r c (t ∷ rest) → t.code ≡ true_code → c + 1 ≤ most_words
      → Done G (operand G.text in_c r) r.at (c + 1) rest (pos 22 ∷ []) (t.place ∷ []) 1
  unfolding literal outside
  yes-read {c} a e h = literal-read (pos 22 ∷ []) (c + 1) a (λ z. omega arith) (λ z. absurd (omega arith)) (rw e refl) (rw e refl) refl h

  pub number_read : {c : ℕ} {r : Reader} {t : Token} {rest : List Token} → At G r c (t ∷ rest) → t.code ≡ number_code → c + 2 ≤ most_words
      → Done G (operand G.text in_c r) r.at (c + 2) rest (pos 23 ∷ integer_of (part G.text t.place t.end) ∷ []) (t.place ∷ t.place ∷ []) 1
  unfolding literal outside
  number_read {c} {t = t} a e h =
      literal-read (pos 23 ∷ integer_of (part G.text t.place t.end) ∷ []) (c + 2) a (λ z. omega arith) (λ z. e) (rw e refl) (rw (e, number_fits_lem G a e) refl) refl h

  -- ---- paths, and two with `==` between them

  pub at_read : {c : ℕ} {r : Reader} {t : Token} {ts : List Token} {rest : List Token} {ws : List ℤ} {os : List ℕ} (e : ℕ) → Path (M G) (t ∷ ts) ws os → At G r c (t ∷ ts ++ rest) → (r.last ≡ dot_code → ⊥)
      → ((next G rest).code ≡ dot_code → ⊥) → ((next G rest).code ≡ colon_code → ⊥) → (in_c ≡ false → (next G rest).code ≡ identical_code → ⊥) → length ws ≤ most_steps + 2 → e ≡ c + 1 + length ws → e ≤ most_words
      → Done G (operand G.text in_c r) r.at e rest (pos 24 ∷ ws) (t.place ∷ os) 1
  unfolding operand path_or_same
  at_read {c} {r} {t} {ts} {rest = rest} {ws = ws} {os = os} e p a d f g s l q h = by (name p) (path-read G 3 e p a d f g l (omega arith) h)
    where
      name : {ts : List Token} {ws : List ℤ} {os : List ℕ} → Path (M G) (t ∷ ts) ws os → t.code ≡ name_code
      name (Path.path x n y) = n

      none : (b : Bool) {u : Reader} → (b ≡ false → (next G rest).code ≡ identical_code → ⊥) → At G u e rest → (not b && is G.text u identical_code) ≡ false
      none true s b = refl
      none false s b = is-not G identical_code b (s refl)

      by : t.code ≡ name_code → Done G (path G.text 3 r) r.at e rest ws os 1 → Done G (operand G.text in_c r) r.at e rest (pos 24 ∷ ws) (t.place ∷ os) 1
      by n i = record {
        depth = 1;
        reader = i.reader;
        answer = rw (is-so G name_code a n, i.answer, none in_c s i.behind, ap (λ (t : Token). t.place) (peek-next G a)) refl;
        shallow = omega arith;
        behind = i.behind;
        on = i.on;
      }

  pub same_read : {c : ℕ} {r : Reader} {a b : List Token} {rest : List Token} {va vb : List ℤ} {oa ob : List ℕ} (t : Token) (e : ℕ) → in_c ≡ false → Path (M G) a va oa → t.code ≡ identical_code → Path (M G) b vb ob
      → At G r c (a ++ t ∷ (b ++ rest)) → (r.last ≡ dot_code → ⊥) → ((next G rest).code ≡ dot_code → ⊥) → ((next G rest).code ≡ colon_code → ⊥)
      → length va ≤ most_steps + 2 → length vb ≤ most_steps + 2 → e ≡ c + 1 + length va + length vb → e ≤ most_words
      → Done G (operand G.text in_c r) r.at e rest (pos 26 ∷ va ++ vb) (t.place ∷ oa ++ ob) 1
  unfolding operand path_or_same
  same_read {c} {r} {a} {b} {rest} {va} {vb} {oa} {ob} t e o p n q at d f g l m z h =
      by (name p at) (path-read G 3 (c + 1 + length va) p at d (λ y. omega arith) (λ y. omega arith) l (omega arith) (omega arith))
    where
      name : {a : List Token} {ws : List ℤ} {os : List ℕ} → Path (M G) a ws os → At G r c (a ++ t ∷ (b ++ rest)) → is G.text r name_code ≡ true
      name (Path.path x n y) a = is-so G name_code a n

      to : is G.text r name_code ≡ true → (i : Done G (path G.text 3 r) r.at (c + 1 + length va) (t ∷ (b ++ rest)) va oa 1) → i.reader.at < (peek G.text i.reader).end
          → Done G (path G.text 2 (taken G 0 i.reader)) (peek G.text i.reader).end e rest vb ob 1
          → Done G (operand G.text in_c r) r.at e rest (pos 26 ∷ va ++ vb) (t.place ∷ oa ++ ob) 1
      to x i u j = let y : c + 1 + length va + 0 ≤ most_words = omega arith in record {
        depth = 1;
        reader = j.reader;
        answer = rw (x, i.answer, o, is-so G identical_code i.behind n, takes G 0 i.behind y, j.answer, ap (λ (t : Token). t.place) (peek-next G i.behind)) refl;
        shallow = omega arith;
        behind = j.behind;
        on = omega (arith, i.on, j.on);
      }

      by : is G.text r name_code ≡ true → Done G (path G.text 3 r) r.at (c + 1 + length va) (t ∷ (b ++ rest)) va oa 1
          → Done G (operand G.text in_c r) r.at e rest (pos 26 ∷ va ++ vb) (t.place ∷ oa ++ ob) 1
      by x i =
          let u = plain G 0 i.behind (λ y. absurd (omega arith)) in
          let v : (peek G.text i.reader).code ≡ identical_code = ap (λ (t : Token). t.code) (peek-next G i.behind) ∙ n in
          to x i u.1 (path-read G 2 e q u.0 (λ y. omega arith) f g m (omega arith) h)
