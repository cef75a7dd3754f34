-- What the grammar yields as a path is read, with its words, where the token behind it goes on with no path. Assumes nothing.
use mathlib.Core.Path.{◌≡◌, refl, ap, ◌∙◌}
use mathlib.Core.List.{List, [], ◌∷◌, ◌++◌}
use Prim.Native.Nat.{ℕ, zero, suc, ◌+◌, ◌≤◌, ◌<◌}
use native.Mathlib.Omega.{arith}
use lib.IntN.{ℤ, pos}
use lib.ListN.{length}
use Rattle.words.specs.Answer.{Answer, got}
use Rattle.program.specs.Forms.{most_words, most_steps}
use Rattle.program.proofs.AmongLaws.{among_none}
use Rattle.tokens.specs.declared.Token.{Token}
use Rattle.tokens.specs.Codes.{dot_code, colon_code}
use Rattle.text.specs.Grammar.{Meaning, Labels, Path}
use Rattle.text.specs.Reading.{Fault, Reader, Form, peek, number_in, variable, label, steps, path}
use Rattle.text.specs.Claims.{meaning}
use Rattle.text.proofs.Taken.{Given, At, next, taken, takes, plain, peek-next, is-so, is-not, takes-variable, takes-label}

abbrev pub made : List ℤ → List ℕ → ℕ → Form
made ws os n = record { words = ws; origins = os; depth = n }

module _ (G : Given) where
  abbrev pub M : Meaning
  M = meaning G.text G.vs G.ls

  -- m answers with a piece of these words and origins, nested at most d deep; c words are counted then, and the rest is still to be read
  pub record Done (m : Answer Fault (Form × Reader)) (from c : ℕ) (rest : List Token) (ws : List ℤ) (os : List ℕ) (d : ℕ) : Type 0 where
    pub depth : ℕ
    pub reader : Reader
    pub answer : m ≡ got (made ws os depth, reader)
    pub shallow : depth ≤ d
    pub behind : At G reader c rest
    pub on : from ≤ reader.at

  labels_next : {n : ℕ} {ts : List Token} (rest : List Token) {ws : List ℤ} {os : List ℕ} → Labels M n ts ws os → ((next G rest).code ≡ colon_code → ⊥) → (next G (ts ++ rest)).code ≡ colon_code → ⊥
  labels_next rest Labels.none h e = h e
  labels_next rest (Labels.one d l p q x) h e = absurd (omega arith)

  pub labels_length : {n : ℕ} {ts : List Token} {ws : List ℤ} {os : List ℕ} → Labels M n ts ws os → length ws ≡ n
  labels_length Labels.none = refl
  labels_length (Labels.one d l p q x) = ap suc (labels_length x)

  -- `.` and a label, and then the rest
  step-on : (n : ℕ) {c w e : ℕ} {r s : Reader} {x d : Token} {ts us : List Token} {ws : List ℤ} {os : List ℕ} → At G r c (d ∷ x ∷ us) → d.code ≡ dot_code → c + 0 ≤ most_words
      → r.at < (peek G.text r).end → At G (taken G 0 r) (c + 0) (x ∷ us)
      → label G.text [] (taken G 0 r) ≡ got (w, s) → (peek G.text r).end ≤ s.at → Done (steps G.text n s) s.at e ts ws os 1
      → Done (steps G.text (suc n) r) r.at e ts (pos w ∷ ws) (x.place ∷ os) 1
  unfolding steps
  step-on n {c} {w} {e} {r} {s} {x} {d} {ts} {us} {ws} {os} a p h o b l q i = record {
    depth = 1;
    reader = i.reader;
    answer = rw (is-so G dot_code a p, takes G 0 a h, l, i.answer, peek-next G b) refl;
    shallow = omega arith;
    behind = i.behind;
    on = omega (arith, i.on);
  }

  no_step : {c : ℕ} {r : Reader} {rest : List Token} (m : ℕ) → At G r c rest → ((next G rest).code ≡ dot_code → ⊥) → Done (steps G.text m r) r.at c rest [] [] 1
  unfolding steps
  no_step {r = r} zero a e = record { depth = 1; reader = r; answer = rw (is-not G dot_code a e) refl; shallow = omega arith; behind = a; on = omega arith }
  no_step {r = r} (suc m) a e = record { depth = 1; reader = r; answer = rw (is-not G dot_code a e) refl; shallow = omega arith; behind = a; on = omega arith }

  labels-read : {n c : ℕ} {r : Reader} {ts : List Token} {rest : List Token} {ws : List ℤ} {os : List ℕ} (m e : ℕ) → n ≤ m → Labels M n ts ws os → At G r c (ts ++ rest) → ((next G rest).code ≡ dot_code → ⊥)
      → e ≡ c + n → e ≤ most_words → Done (steps G.text m r) r.at e rest ws os 1
  labels-read {c = c} m e l Labels.none a f z h = let y : e ≡ c = omega arith in rw y (no_step m a f)
  labels-read zero e l (Labels.one d x p q y) a f z h = absurd (omega arith)
  labels-read {c = c} {r = r} {rest = rest} (suc m) e l (Labels.one {n = n} d x {ts = ts} {ws = ws} {os = os} p q y) a f z h = one (plain G 0 a (λ v. absurd (omega arith)))
      (λ s b. labels-read {c = c + 0 + 1} m e (omega arith) y b f (omega arith) h)
    where
      one : At G (taken G 0 r) (c + 0) (x ∷ ts ++ rest) × (r.at < (peek G.text r).end)
          → ((s : Reader) → At G s (c + 0 + 1) (ts ++ rest) → Done (steps G.text m s) s.at e rest ws os 1)
          → Done (steps G.text (suc m) r) r.at e rest (pos (number_in G.text G.ls x) ∷ ws) (x.place ∷ os) 1
      one (b, o) ih = two (takes-label G [] b q (among_none (number_in G.text G.ls x)) (omega arith) (ap (λ (t : Token). t.code) (peek-next G a) ∙ p))
        where
          two : (s : Reader) × ((label G.text [] (taken G 0 r) ≡ got (number_in G.text G.ls x, s)) × (At G s (c + 0 + 1) (ts ++ rest) × ((peek G.text r).end < s.at)))
              → Done (steps G.text (suc m) r) r.at e rest (pos (number_in G.text G.ls x) ∷ ws) (x.place ∷ os) 1
          two (s, (g, (v, j))) = step-on m a p (omega arith) o b g (omega arith) (ih s v)

  -- L, whose variable makes k words certain
  pub path-read : {c : ℕ} {r : Reader} {ts : List Token} {rest : List Token} {ws : List ℤ} {os : List ℕ} (k e : ℕ) → Path M ts ws os → At G r c (ts ++ rest) → (r.last ≡ dot_code → ⊥)
      → ((next G rest).code ≡ dot_code → ⊥) → ((next G rest).code ≡ colon_code → ⊥) → length ws ≤ most_steps + 2 → e + 2 ≡ c + k + length ws → e ≤ most_words
      → Done (path G.text k r) r.at e rest ws os 1
  unfolding path
  path-read {c = c} {r = r} {rest = rest} k e (Path.path {n = n} x {ts = ts} {ws = ws} {os = os} p y) a d f g l q h =
      by (labels_length y) (takes-variable G k a p d (labels_next rest y g) (omega arith))
    where
      to : (s : Reader) → length ws ≡ n → variable G.text k r ≡ got (number_in G.text G.vs x, s) → r.at < s.at → Done (steps G.text most_steps s) s.at e rest ws os 1
          → Done (path G.text k r) r.at e rest (pos (number_in G.text G.vs x) ∷ pos n ∷ ws) (x.place ∷ x.place ∷ os) 1
      to s m v o i = record {
        depth = 1;
        reader = i.reader;
        answer = rw (v, i.answer, peek-next G a, m) refl;
        shallow = omega arith;
        behind = i.behind;
        on = omega (arith, i.on);
      }

      by : length ws ≡ n → (s : Reader) × ((variable G.text k r ≡ got (number_in G.text G.vs x, s)) × (At G s (c + k) (ts ++ rest) × (r.at < s.at)))
          → Done (path G.text k r) r.at e rest (pos (number_in G.text G.vs x) ∷ pos n ∷ ws) (x.place ∷ x.place ∷ os) 1
      by m (s, (v, (b, o))) = to s m v o (labels-read {c = c + k} most_steps e (omega arith) y b f (omega arith) h)
