-- What the code of a row of statements, of a block and of a whole text comes to. Assumes nothing.
use mathlib.Core.Path.{◌≡◌, refl, sym, ap, ◌∙◌}
use mathlib.Core.Bool.{true, false, cond}
use mathlib.Core.List.{List, [], ◌∷◌, append_assoc}
use Prim.Native.Nat.{ℕ, zero, suc, ◌+◌, ◌-◌, ◌≤◌, ◌<◌}
use native.Mathlib.Omega.{arith}
use borrow.Author.Tests.{lt-ltb, le-ltb, ltb-true, ltb-false, eq-eqb, ne_eqb}
use lib.Dec.{eqb, ltb}
use lib.IntN.{ℤ, pos}
use lib.ListN.{length, set}
use Rattle.words.specs.Answer.{Answer, got, stop, ◌>>=◌}
use Rattle.words.specs.Words.{word_of}
use Rattle.words.proofs.AnswerLaws.{got-inj, stop≢got, step, either}
use Rattle.words.proofs.Laws.{word-is}
use Rattle.tables.proofs.SearchLaws.{cases}
use Rattle.tokens.specs.declared.Token.{Token}
use Rattle.tokens.specs.Codes.{end_code, semicolon_code, open_brace_code, close_brace_code}
use Rattle.text.specs.Reading.{Fault, Reader, Form, form, empty, word_then, and_then, passing, is, peek, take, need, statement_at, row_at, block_at, first_reader, text_at}
use Rattle.text.specs.declared.Carried.{Carried}
use Rattle.text.specs.Told.{names_from, at_most, next_of, reader_of, looked_by, Peeks, Ahead, Follows}
use Rattle.text.specs.Written.{with1, wrote_one, pass_by, Passes}
use Rattle.text.specs.declared.Lent.{Lent}
use Rattle.text.specs.Pieces.{lent, form_of, piece_of, Fit, Does, Piece, Onward, behind_first, first_carried, row_by, Whole}
use Rattle.text.proofs.RowsLaws.{fit-room, fit-here, wrote-number, wrote-more}
use Rattle.text.proofs.AnswerSteps.{behind-first, passing-none, passing-one, need-never}
use Rattle.text.proofs.DoesLaws.{Program, ended, does-then, does-as, does-stops, does-take, does-need, does-pass, does-word, does-first, does-piece, does-got, form-length}
use Rattle.text.proofs.StepLaws.{does-given, does-went, does-halted, does-answered, form-empty}
use Rattle.text.proofs.WrittenLaws.{passes}
use Rattle.text.proofs.AheadLaws.{ahead-looked, ahead-wrote, ahead-passed}
use Rattle.text.proofs.StatementCode.{statement-never}

module _ (text : List ℕ) where
  -- ---- a row of statements

  module _ (block : Reader → Answer Fault (Form × Reader)) where
    row-stops : {x : Fault} (k : ℕ) (q : Reader) → statement_at text block q ≡ stop x → row_at text block k q ≡ stop x
    unfolding row_at
    row-stops zero q e = rw e
    row-stops (suc k) q e = rw e

    row_one : (k : ℕ) (q : Reader) (y : Form × Reader) → statement_at text block q ≡ got y → is text y.1 semicolon_code ≡ false → row_at text block k q ≡ got (1, y)
    unfolding row_at
    row_one zero q y e h = rw (e, h)
    row_one (suc k) q y e h = rw (e, h)

    -- what is left of a row behind f when n of its statements were read: no more than 255 are accepted
    abbrev rest_by : ℕ → ℕ → Form → Reader → Answer Fault (Form × Reader)
    rest_by p n f q =
        cond (ltb n 255)
        (row_at text block (254 - n) q >>= λ g. got (word_then (pos (n + g.0)) p (and_then (behind_first f) g.1.0), g.1.1))
        (statement_at text block (passing true q))

    rest-whole : (p : ℕ) (f : Form) (q : Reader) → rest_by p 0 f q ≡ (row_at text block 254 q >>= λ g. got (word_then (pos g.0) p (and_then (behind_first f) g.1.0), g.1.1))
    rest-whole p f q = either (row_at text block 254 q) (λ x e. let m : 0 + x.0 ≡ x.0 = omega arith in rw (e, m)) (λ x e. rw e)

    module _ (p n : ℕ) (few : n ≤ 255) (f : Form) (q : Reader) where
      rest-stops : {x : Fault} → statement_at text block (passing (eqb n 255) q) ≡ stop x → rest_by p n f q ≡ stop x
      rest-stops e = cases (ltb n 255)
          (λ h. rw (h, row-stops (254 - n) q (rw (ne_eqb n 255 (λ z. omega (arith, ltb-true n 255 h)), passing-none q) at e)))
          (λ h. rw h (rw (eq-eqb n 255 (omega (arith, ltb-false n 255 h))) at e))

      module _ (y : Form × Reader) (e : statement_at text block (passing (eqb n 255) q) ≡ got y) where
        -- the 256th is not accepted
        rest-within : n < 255
        rest-within = cases (ltb n 255) (λ h. ltb-true n 255 h)
            (λ h. statement-never text block (passing true q) y (passing-one q) (rw (eq-eqb n 255 (omega (arith, ltb-false n 255 h))) at e))

        rest_read : statement_at text block q ≡ got y
        rest_read = rw (ne_eqb n 255 (λ z. omega (arith, rest-within)), passing-none q) at e

        module _ (ws : 0 < length f.words) (os : 0 < length f.origins) where
          rest-ends : is text y.1 semicolon_code ≡ false → got (word_then (word_of (n + 1)) p (behind_first (and_then f y.0)), y.1) ≡ rest_by p n f q
          rest-ends h = rw (lt-ltb n 255 rest-within, row_one (254 - n) q y rest_read h, behind-first f y.0 ws os, word-is (n + 1) (omega arith))

          module _ (h : is text y.1 semicolon_code ≡ true) where
            rest_more : (k : ℕ) → 254 - n ≡ k → (take text 0 y.1 >>= λ v. rest_by p (n + 1) (and_then f y.0) v) ≡ rest_by p n f q
            unfolding row_at
            rest_more zero g =
                rw (lt-ltb n 255 rest-within, le-ltb (n + 1) 255 (omega (arith, g)), g, rest_read, h)
                (either (take text 0 y.1)
                (λ v a. rw a (either (statement_at text block (passing true v)) (λ x b. statement-never text block (passing true v) x (passing-one v) b) (λ x b. rw b)))
                (λ v a. rw a))
            rest_more (suc k) g =
                let l : 254 - (n + 1) ≡ k = omega (arith, g) in
                rw (lt-ltb n 255 rest-within, lt-ltb (n + 1) 255 (omega (arith, g)), g, l, rest_read, h, behind-first f y.0 ws os)
                (either (take text 0 y.1)
                (λ v a. rw a (either (row_at text block k v)
                (λ x b.
                let m : n + 1 + x.0 ≡ n + suc x.0 = omega arith in
                rw (b, m, append_assoc (behind_first f).words y.0.words x.1.0.words, append_assoc (behind_first f).origins y.0.origins x.1.0.origins))
                (λ x b. rw b)))
                (λ v a. rw a))

            rest-goes-on : (take text 0 y.1 >>= λ v. rest_by p (n + 1) (and_then f y.0) v) ≡ rest_by p n f q
            rest-goes-on = rest_more (254 - n) refl

  -- the rest of the row from here is the whole row, if the rows fit where it begins
  pub record Going (d p from : ℕ) (a₀ : Lent) (s₀ : Carried) (a : Lent) (s : Carried) (n : ℕ) : Type 0 where
    pub within : n ≤ 255
    pub fit : Fit 0 0 from a s
    pub above : s.number ≡ 0 → from < s.written
    pub onward : (c : Lent) (u : Carried) → Does false 0 0 3 0 from a s (λ f q. rest_by (λ v. block_at text d v) p n f q) c u
        → Does false 0 0 3 0 from a₀ s₀ (λ f q. row_by text d p (behind_first f) q) c u

  pub record Turn (d p from : ℕ) (a₀ : Lent) (s₀ : Carried) (a : Lent) (s : Carried) (n : ℕ) : Type 0 where
    pub goes : (s₀.number ≡ 0 → from < s₀.written) → Fit 0 0 from a₀ s₀ → Going d p from a₀ s₀ a s n

  turn-starts : {d p from : ℕ} {a : Lent} {s : Carried} → Turn d p from a s a s 0
  turn-starts {d = d} {p = p} {from = from} {a = a} {s = s} =
      record {
        goes = λ pre fit. record {
          within = omega arith;
          fit = fit;
          above = pre;
          onward = λ c u x. does-as x λ _ _. rest-whole (λ v. block_at text d v) p (form_of false from a s) (reader_of a.names s);
        };
      }

  -- after 255 statements none is accepted
  turn-over : {d p from n : ℕ} {a₀ a : Lent} {s₀ s : Carried} → Turn d p from a₀ s₀ a s n → 255 < n
      → (s₀.number ≡ 0 → from < s₀.written) → Onward false 0 3 from a₀ s₀ (λ f q. row_by text d p (behind_first f) q) a s
  turn-over inv h pre = does-given λ fit. absurd (omega (arith, (inv.goes pre fit).within))

  module _ {d p from n : ℕ} {a₀ a b : Lent} {s₀ s u v : Carried} (inv : Turn d p from a₀ s₀ a s n) (passed : Passes (eqb n 255) s u)
      (reads : Piece 0 3 a u (λ q. statement_at text (λ v. block_at text d v) q) b v) where
    abbrev block : Reader → Answer Fault (Form × Reader)
    block q = block_at text d q

    abbrev one_by : Form → Reader → Answer Fault (Form × Reader)
    one_by f q = statement_at text block (passing (eqb n 255) q) >>= λ x. got (and_then f x.0, x.1)

    one : Does false 0 0 3 0 from a s (λ f q. one_by f q) b v
    one = does-then (does-pass text (eqb n 255) passed) (does-piece reads)

    turn-halts : (v.number ≡ 0 → ⊥) → (s₀.number ≡ 0 → from < s₀.written) → Onward false 0 3 from a₀ s₀ (λ f q. row_by text d p (behind_first f) q) b v
    turn-halts n0 pre =
        does-given λ fit.
        let g = inv.goes pre fit in
        g.onward b v (does-as one λ h z.
        let q = reader_of a.names s in
        let f = form_of false from a s in
        let e = does-halted one h z n0 in
        either (statement_at text block (passing (eqb n 255) q))
        (λ y k. stop≢got (sym (rw k at e)))
        (λ x k. rw k (sym (rest-stops block p n g.within f q k))))

    module _ (goes : v.number ≡ 0) (pre : s₀.number ≡ 0 → from < s₀.written) (fit : Fit 0 0 from a₀ s₀) where
      abbrev going : Going d p from a₀ s₀ a s n
      going = inv.goes pre fit

      began : s.number ≡ 0
      began = does-went one going.fit goes

      grown : s.written ≤ v.written
      grown =
          let x : Does false 0 0 0 0 from a s (λ f q. got (f, passing (eqb n 255) q)) a u = does-pass text (eqb n 255) passed in
          omega (arith, passed.written, (reads.fit (fit-here (x.fit going.fit))).begins)

      -- what the definition reads here
      abbrev q : Reader
      q = reader_of a.names s

      abbrev f : Form
      f = form_of false from a s

      long : (0 < length f.words) × (0 < length f.origins)
      long =
          let l = form-length false going.fit (omega arith) began in
          let h = going.above began in
          (omega (arith, l.0, h), omega (arith, l.1, h))

      read_as {ℓ} : {X : Type ℓ} → ((y : Form × Reader) → statement_at text block (passing (eqb n 255) q) ≡ got y → y.1 ≡ reader_of b.names v → X) → X
      read_as k = step (statement_at text block (passing (eqb n 255) q)) _ (does-got one going.fit began goes) λ y e1 e2. k y e1 (ap (λ x. x.1) (got-inj e2))

    turn-ends : {names : List ℕ} {ws vs : List ℤ} {os us : List ℕ} {t : Token} {w : ℤ} → v.number ≡ 0 → Peeks text v t → (t.code ≡ semicolon_code → ⊥)
        → b ≡ lent names ws os → w ≡ word_of (n + 1) → vs ≡ set ws from w → us ≡ set os from p
        → (s₀.number ≡ 0 → from < s₀.written) → Onward false 0 3 from a₀ s₀ (λ f q. row_by text d p (behind_first f) q) (lent names vs us) v
    turn-ends {names = names} {ws = ws} {vs = vs} {os = os} {us = us} {t = t} {w = w} goes peeks last rows e e1 e2 pre =
        does-given λ fit.
        let g = inv.goes pre fit in
        let x : Does false 0 0 3 0 from a s (λ f q. one_by f q) (lent names ws os) v = rw (← rows) one in
        let h : from < v.written = omega (arith, grown goes pre fit, g.above (began goes pre fit)) in
        g.onward (lent names vs us) v (does-as (does-then x (does-first w p (omega arith) h e1 e2)) λ _ _.
        read_as goes pre fit λ y e3 e4.
        let l = long goes pre fit in
        rw (e3, e) (rest-ends block p n g.within (form_of false from a s) (reader_of a.names s) y e3 l.0 l.1 (rw (e4, ← peeks b.names) (ne_eqb t.code semicolon_code last))))

    turn-goes-on : {t : Token} {w : Carried} → v.number ≡ 0 → Peeks text v t → t.code ≡ semicolon_code → Follows v (λ q. take text 0 q) w
        → Turn d p from a₀ s₀ b w (n + 1)
    turn-goes-on {t = t} {w = w} goes peeks more takes =
        record {
          goes = λ pre fit.
              let g = inv.goes pre fit in
              let x : Does false 0 0 0 0 from a s (λ f q. one_by f q >>= λ x. take text 0 x.1 >>= λ y. got (x.0, y)) b w = does-then one (does-take text 0 takes) in
              read_as goes pre fit λ y e3 e4.
              let l = long goes pre fit in
              record {
                within = omega (arith, rest-within block p n g.within (form_of false from a s) (reader_of a.names s) y e3);
                fit = x.fit g.fit;
                above = λ _. omega (arith, takes.written, grown goes pre fit, g.above (began goes pre fit));
                onward = λ c u z. g.onward c u (does-as (does-then x z) λ _ _.
                    rw (e3, ← rest-goes-on block p n g.within (form_of false from a s) (reader_of a.names s) y e3 l.0 l.1 (rw (e4, ← peeks b.names) (eq-eqb t.code semicolon_code more)))
                    (either (take text 0 y.1) (λ x k. rw k) (λ x k. rw k)));
              };
        }

  -- the same of a reader that has the token which stands there, and keeps it
  pub record Round (d p from : ℕ) (a₀ : Lent) (s₀ : Carried) (a : Lent) (s : Carried) (n : ℕ) : Type 0 where
    pub turn : Ahead text s₀ → Turn d p from a₀ s₀ a s n
    pub ahead : Ahead text s₀ → Ahead text s

  -- what the row promises
  abbrev pub Rows : ℕ → ℕ → ℕ → Lent → Carried → Lent → Carried → Type 0
  Rows d p from a r b s =
      (Ahead text r → (r.number ≡ 0 → from < r.written) → Onward false 0 3 from a r (λ f q. row_by text d p (behind_first f) q) b s) × (Ahead text r → Ahead text s)

  pub round-starts : {d p from : ℕ} {a : Lent} {s : Carried} → Round d p from a s a s 0
  round-starts = record { turn = λ _. turn-starts; ahead = λ h. h }

  pub round-over : {d p from n : ℕ} {a₀ a : Lent} {s₀ s : Carried} → Round d p from a₀ s₀ a s n → 255 < n → Rows d p from a₀ s₀ a s
  round-over inv h = (λ e pre. turn-over (inv.turn e) h pre, inv.ahead)

  module _ {d p from n : ℕ} {a₀ a b : Lent} {s₀ s u v : Carried} (inv : Round d p from a₀ s₀ a s n) (passed : u ≡ pass_by (eqb n 255) s)
      (reads : Ahead text u → Piece 0 3 a u (λ q. statement_at text (λ v. block_at text d v) q) b v) (keeps : Ahead text u → Ahead text v) where
    met : Ahead text s₀ → Ahead text u
    met h = ahead-passed text s (eqb n 255) passed (inv.ahead h)

    pub round-halts : (v.number ≡ 0 → ⊥) → Rows d p from a₀ s₀ b v
    round-halts n0 = (λ h pre. turn-halts (inv.turn h) (passes (eqb n 255) s passed) (reads (met h)) n0 pre, λ h. keeps (met h))

    pub round-ends : {names : List ℕ} {ws vs : List ℤ} {os us : List ℕ} {w : ℤ} → v.number ≡ 0 → (v.code ≡ semicolon_code → ⊥)
        → b ≡ lent names ws os → w ≡ word_of (n + 1) → vs ≡ set ws from w → us ≡ set os from p → Rows d p from a₀ s₀ (lent names vs us) v
    round-ends goes last rows e e1 e2 =
        (λ h pre. turn-ends (inv.turn h) (passes (eqb n 255) s passed) (reads (met h)) goes (keeps (met h)) last rows e e1 e2 pre, λ h. keeps (met h))

    pub round-goes-on : {w : Carried} → v.number ≡ 0 → v.code ≡ semicolon_code → (Ahead text v → Follows v (λ q. take text 0 q) w) → (Ahead text v → Ahead text w) → Round d p from a₀ s₀ b w (n + 1)
    round-goes-on goes more takes on =
        record {
          turn = λ h. turn-goes-on (inv.turn h) (passes (eqb n 255) s passed) (reads (met h)) goes (keeps (met h)) more (takes (keeps (met h)));
          ahead = λ h. on (keeps (met h));
        }

  -- ---- a block

  block-is : (d : ℕ) (q : Reader) → (d ≡ 0 → ⊥)
      → (need text open_brace_code 1 q >>= λ s.
      cond (is text s close_brace_code)
      (take text 0 s >>= λ u. got (form (pos 0 ∷ []) ((peek text q).place ∷ []), u))
      (row_at text (λ v. block_at text (d - 1) v) 254 s >>= λ g. need text close_brace_code 0 g.1.1 >>= λ u. got (word_then (pos g.0) (peek text q).place g.1.0, u)))
      ≡ block_at text d q
  unfolding block_at
  block-is zero q h = absurd (h refl)
  block-is (suc d) q h = let e : suc d - 1 ≡ d = omega arith in rw e

  module _ (d : ℕ) {r u s : Carried} {t : Token} (peeks : Peeks text r t) (passed : Passes (eqb d 0) r u) (needs : Follows u (λ q. need text open_brace_code 1 q) s) where
    entered : (a : Lent) → Does false 0 0 0 1 r.written a r (λ f q. need text open_brace_code 1 (passing (eqb d 0) q) >>= λ v. got (f, v)) a s
    entered a = does-then (does-pass text (eqb d 0) passed) (does-need text open_brace_code 1 needs)

    -- on depth 9 none is accepted
    pub block-deep : {a : Lent} → d ≡ 0 → Piece 0 0 a r (λ q. block_at text d q) a s
    unfolding block_at
    block-deep {a = a} e =
        let x : Does false 0 0 0 1 r.written a r (λ f q. need text open_brace_code 1 (passing true q) >>= λ v. got (f, v)) a s = rw (eq-eqb d 0 e) at (entered a) in
        rw e
        (does-as
        (does-stops x λ fit z.
        step (need text open_brace_code 1 (passing true (reader_of a.names r))) _ (does-got x fit (does-went x fit z) z) λ v k _.
        need-never text open_brace_code 1 (passing true (reader_of a.names r)) v (passing-one (reader_of a.names r)) k)
        λ _ _. rw (form-empty a r))

    module _ {names : List ℕ} {ws vs : List ℤ} {os us : List ℕ} {w : Carried} (inner : d ≡ 0 → ⊥) (e1 : vs ≡ with1 ws s (pos 0)) (e2 : us ≡ with1 os s t.place) (e3 : w ≡ wrote_one s) where
      begun : Does false 0 0 0 0 r.written (lent names ws os) r (λ f q. need text open_brace_code 1 q >>= λ v. got (form (pos 0 ∷ []) ((peek text q).place ∷ []), v)) (lent names vs us) w
      begun =
          does-as (does-then (entered (lent names ws os)) (does-word (pos 0) t.place (omega arith) e1 e2 e3)) λ _ _.
          rw (form-empty (lent names ws os) r, ne_eqb d 0 inner, passing-none (reader_of names r), ← peeks names)
          (either (need text open_brace_code 1 (reader_of names r)) (λ v k. rw k) (λ v k. rw k))

      begun-at : Fit 0 0 r.written (lent names ws os) r → r.number ≡ 0 → (v : Reader) → need text open_brace_code 1 (reader_of names r) ≡ got v → v ≡ reader_of names w
      begun-at fit z v k = ap (λ x. x.1) (does-answered begun fit {x = (form (pos 0 ∷ []) ((peek text (reader_of names r)).place ∷ []), v)} z (rw k)).1

      module _ {l : Token} (next : Peeks text w l) where
        pub block-empty : {x : Carried} → l.code ≡ close_brace_code → Follows w (λ q. take text 0 q) x → Piece 0 0 (lent names ws os) r (λ q. block_at text d q) (lent names vs us) x
        block-empty c takes =
            does-as (does-then begun (does-take text 0 takes)) λ fit z.
            rw (← block-is d (reader_of names r) inner)
            (either (need text open_brace_code 1 (reader_of names r))
            (λ v k.
            let h : is text v close_brace_code ≡ true = rw (begun-at fit z v k, ← next names) (eq-eqb l.code close_brace_code c) in
            rw (k, h))
            (λ v k. rw k))

        above : Fit 0 0 r.written (lent names ws os) r → w.number ≡ 0 → r.written < w.written
        above fit z =
            let f = (entered (lent names ws os)).fit fit in
            let n : s.number ≡ 0 = sym (wrote-number s) ∙ (rw e3 at z) in
            omega (arith, wrote-more s e3 (omega (arith, fit-room (omega arith) f n)), f.begins)

        pub block_row : {c : Lent} {v x : Carried} → (l.code ≡ close_brace_code → ⊥)
            → ((w.number ≡ 0 → r.written < w.written) → Onward false 0 3 r.written (lent names vs us) w (λ f q. row_by text (d - 1) t.place (behind_first f) q) c v)
            → Follows v (λ q. need text close_brace_code 0 q) x → Piece 0 0 (lent names ws os) r (λ q. block_at text d q) c x
        unfolding behind_first
        block_row n row closes =
            does-given λ fit.
            does-as (does-then (does-then begun (row (above fit))) (does-need text close_brace_code 0 closes)) λ _ z.
            rw (← block-is d (reader_of names r) inner)
            (either (need text open_brace_code 1 (reader_of names r))
            (λ v k.
            let h : is text v close_brace_code ≡ false = rw (begun-at fit z v k, ← next names) (ne_eqb l.code close_brace_code n) in
            rw (k, h, ← peeks names)
            (either (row_at text (λ v. block_at text (d - 1) v) 254 v) (λ g j. rw j (either (need text close_brace_code 0 g.1.1) (λ y i. rw i) (λ y i. rw i))) (λ g j. rw j)))
            (λ v k. rw k))

  -- ---- a whole text

  -- the reader that has the first token
  abbrev looked : Carried
  looked = looked_by text first_carried

  first-is : (names : List ℕ) → reader_of names looked ≡ first_reader text
  unfolding reader_of at_most names_from
  first-is names = refl

  written_is : (names : List ℕ) → reader_of names (wrote_one looked) ≡ first_reader text
  unfolding reader_of at_most names_from wrote_one
  written_is names = refl

  -- the same where the names are told apart from the rows
  pub whole-to : (a b : Lent) (s : Carried) {names : List ℕ} → b.names ≡ names → Whole text a (lent names b.words b.origins) s → Whole text a b s
  whole-to a b s e d = rw (← e) at d

  module _ (names : List ℕ) (ws : List ℤ) (os : List ℕ) {vs : List ℤ} {us : List ℕ} {r s : Carried}
      (first : r ≡ looked) (e1 : vs ≡ with1 ws r (pos 0)) (e2 : us ≡ with1 os r 0) (e3 : s ≡ wrote_one r) where
    zero-first : Does false 0 1 0 0 0 (lent names ws os) looked (λ f q. got (ended f (pos 0) 0, q)) (lent names vs us) s
    zero-first = does-word (pos 0) 0 (omega arith) (rw (← first) e1) (rw (← first) e2) (rw (← first) e3)

    pub text-ahead : Ahead text s
    text-ahead = ahead-wrote text r e3 (ahead-looked text first_carried first)

    first-token : peek text (first_reader text) ≡ next_of s
    first-token = sym (text-ahead names ∙ rw (e3, first) (ap (peek text) (written_is names)))

    whole-does : {m k : ℕ} {c : Lent} {x : Carried} {p : Program} → Does false 0 1 m k 0 (lent names ws os) looked p c x → p empty (first_reader text) ≡ text_at text → Whole text (lent names ws os) c x
    unfolding piece_of
    whole-does {p = p} d e a b c =
        let fit : Fit 0 1 0 (lent names ws os) looked =
        record { names = a; words = b; origins = c; begins = omega arith; counts = λ _. refl; certain = λ _. omega arith; owed = λ _. omega arith } in
        d.reads fit ∙ rw (form-empty (lent names ws os) looked, first-is names) e

    pub text-empty : s.code ≡ end_code → Whole text (lent names ws os) (lent names vs us) s
    unfolding text_at
    text-empty h = whole-does zero-first (rw (first-token, eq-eqb s.code end_code h))

    pub text-row : {c : Lent} {v x : Carried} → (s.code ≡ end_code → ⊥)
        → ((s.number ≡ 0 → 0 < s.written) → Onward false 0 3 0 (lent names vs us) s (λ f q. row_by text 7 0 (behind_first f) q) c v)
        → Follows v (λ q. need text end_code 0 q) x → Whole text (lent names ws os) c x
    unfolding text_at behind_first wrote_one
    text-row h row ends =
        whole-does (does-then (does-then zero-first (row λ _. rw (e3, first) (omega arith))) (does-need text end_code 0 ends))
        (rw (first-token, ne_eqb s.code end_code h)
        (either (row_at text (λ v. block_at text 7 v) 254 (first_reader text)) (λ g j. rw j (either (need text end_code 0 g.1.1) (λ y i. rw i) (λ y i. rw i))) (λ g j. rw j)))
