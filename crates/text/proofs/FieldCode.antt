-- What the code does with the fields of new, as the definitions have it. Assumes nothing.
use mathlib.Core.Path.{◌≡◌, refl, sym, ap, ◌∙◌}
use mathlib.Core.Bool.{Bool, true, false}
use mathlib.Core.List.{List, [], ◌∷◌, append_assoc, append-nil}
use Prim.Native.Nat.{ℕ, zero, suc, ◌+◌, ◌-◌, ◌≤◌, ◌<◌}
use native.Mathlib.Omega.{arith}
use native.Mathlib.Numerals.{add-one}
use borrow.Author.Tests.{eq-eqb, ne_eqb}
use lib.Dec.{eqb}
use lib.IntN.{ℤ, pos}
use lib.ListN.{length, set, take, drop, length-set}
use lib.Seq.{drop-length}
use Rattle.words.specs.Answer.{Answer, got, ◌>>=◌}
use Rattle.words.specs.Words.{word_of}
use Rattle.words.proofs.AnswerLaws.{step, stop≢got, got-inj, either, bind-cong}
use Rattle.words.proofs.Laws.{word-is}
use Rattle.tokens.specs.declared.Token.{Token}
use Rattle.words.proofs.Laws.{part-from}
use Rattle.tokens.specs.Codes.{colon_code, comma_code, close_brace_code}
use Rattle.text.specs.Reading.{Fault, Reader, Form, word_then, and_then, passing, peek, is, need, label, expression, field_at, fields_on}
use Rattle.text.specs.Reading.{take as take_by}
use Rattle.text.specs.declared.Carried.{Carried}
use Rattle.text.specs.Told.{next_of, reader_of, Peeks, Ahead, Follows, Numbers}
use Rattle.text.specs.Written.{with1, wrote_one, pass_by, Passes}
use Rattle.text.specs.declared.Lent.{Lent}
use Rattle.text.specs.Pieces.{lent, form_of, Fit, Does, Expression, behind_first, fields_by}
use Rattle.text.proofs.RowsLaws.{bind_assoc, going, numbered-stopped, fit-here}
use Rattle.text.proofs.AnswerSteps.{behind-first, follows_is, passing-none, passing-one, field-never}
use Rattle.text.proofs.DoesLaws.{does-then, does-as, does-wider, does-stopped, does-take, does-need, does-pass, does-label, does-first}
use Rattle.text.proofs.DoesLaws.{label_is, does-piece, expression-piece, does-got, form-length}
use Rattle.text.proofs.StepLaws.{does-given, does-went}
use Rattle.text.proofs.WrittenLaws.{passes}
use Rattle.text.proofs.AheadLaws.{ahead-wrote, ahead-passed}

-- where a label is read, its number is the one that the reader has
label-read : (text seen : List ℕ) {before after : List ℕ} {r s : Carried} (x : ℕ × Reader)
    → 192 ≤ length before → r.number ≡ 0 → Numbers before r (λ q. label text seen q) after s → label text seen (reader_of before r) ≡ got x → x.0 ≡ s.named
label-read text seen {before} {after} {r} {s} x long z N e =
    going s (λ y. ap (λ v. v.0) (got-inj (sym e ∙ (label_is text seen long N y).1.0))) (λ n. stop≢got (sym (numbered-stopped before after r s _ (N.reads long) n z) ∙ e))

-- ---- one field

-- the code's turn from a and s to c and e reads a field behind what is written; l is the label's number
pub record Turn (text seen : List ℕ) (b : Bool) (a : Lent) (s : Carried) (l : ℕ) (c : Lent) (e : Carried) : Type 0 where
  pub does : (from : ℕ) → Does false 0 0 0 0 from a s (λ f q. field_at text seen (passing b q) >>= λ x. got (and_then f x.1.0, x.1.1)) c e
  pub named : 192 ≤ length a.names → s.number ≡ 0 → (x : ℕ × Reader) → label text seen (passing b (reader_of a.names s)) ≡ got x → x.0 ≡ l

module _ (text seen : List ℕ) (b : Bool) {names names1 names2 : List ℕ} {words words1 words2 : List ℤ} {origins origins1 origins2 : List ℕ} {s s1 u v w e : Carried} {t : Token} {x : ℤ} where
  turn : Peeks text s t → Passes b s s1 → length names1 ≡ length names → Numbers names s1 (λ q. label text seen q) names1 u
      → x ≡ word_of u.named → words1 ≡ with1 words u x → origins1 ≡ with1 origins u t.place → v ≡ wrote_one u
      → Follows v (λ q. need text colon_code 0 q) w
      → Expression 2 0 (lent names1 words1 origins1) w (λ q. expression text false q) (lent names2 words2 origins2) e
      → Turn text seen b (lent names words origins) s u.named (lent names2 words2 origins2) e
  unfolding field_at peek
  turn look pass long read number ws os is colon value =
      record {
        does = λ from.
            does-as (does-then (does-then (does-then (does-pass text b pass) (does-label text seen t.place long read (rw number at ws) os is)) (does-need text colon_code 0 colon))
            (does-wider (omega arith) (omega arith) (does-piece (expression-piece value))))
            (λ F z.
            either (label text seen (passing b (reader_of names s)))
            (λ l h. rw h
            (either (need text colon_code 0 l.1)
            (λ x i. rw i
            (either (expression text false x)
            (λ y j. let f : Form = form_of false from (lent names words origins) s in
            rw (j, look names, append_assoc f.words (pos l.0 ∷ []) y.0.words, append_assoc f.origins ((peek text (reader_of names s)).place ∷ []) y.0.origins))
            (λ y j. rw j)))
            (λ x i. rw i)))
            (λ l h. rw h));
        named = λ far z x h.
            let k = follows_is names (passing b (reader_of names s)) pass z refl in
            label-read text seen x far k.0 read (rw k.1 h);
      }

-- ---- the fields that follow

module _ (text : List ℕ) where
  -- behind n fields with these labels k may follow; f has the words of those that were read
  unfoldable pub on_by : ℕ → List ℕ → ℕ → ℕ → Form → Reader → Answer Fault (Form × Reader)
  on_by k seen p n f q = fields_on text k seen q >>= λ g. need text close_brace_code 0 g.1.1 >>= λ u. got (word_then (pos (n + g.0)) p (and_then f g.1.0), u)

  -- the same behind a field for which k were left, and before it
  unfoldable pub tail_by : ℕ → List ℕ → ℕ → ℕ → Form → Reader → Answer Fault (Form × Reader)
  tail_by zero seen p n f q = need text close_brace_code 0 q >>= λ u. got (word_then (pos (n + 0)) p f, u)
  tail_by (suc k) seen p n f q = on_by k seen p (suc n) f q

  unfoldable pub rest_by : ℕ → List ℕ → ℕ → ℕ → Form → Reader → Answer Fault (Form × Reader)
  rest_by k seen p n f q = field_at text seen (passing (eqb k 0) q) >>= λ x. tail_by k (x.0 ∷ seen) p n (and_then f x.1.0) x.1.1

  -- the first of them
  rest-first : (p : ℕ) (f : Form) (q : Reader) → rest_by 8 [] p 0 f q ≡ fields_by text p f q
  unfolding rest_by tail_by on_by
  rest-first p f q =
      rw (passing-none q)
      (bind-cong (field_at text [] q) _ _ λ x h.
      bind-cong (fields_on text 7 (x.0 ∷ []) x.1.1) _ _ λ g i.
      let y : 1 + g.0 ≡ suc g.0 = omega arith in
      rw (y, append_assoc f.words x.1.0.words g.1.0.words, append_assoc f.origins x.1.0.origins g.1.0.origins))

  -- no comma
  on-ends : (k : ℕ) (seen : List ℕ) (p n : ℕ) (f : Form) (q : Reader) → is text q comma_code ≡ false
      → on_by k seen p n f q ≡ (need text close_brace_code 0 q >>= λ u. got (word_then (pos n) p f, u))
  unfolding on_by fields_on
  on-ends zero seen p n f q h = let y : n + 0 ≡ n = omega arith in rw (h, y, append-nil f.words, append-nil f.origins)
  on-ends (suc k) seen p n f q h = let y : n + 0 ≡ n = omega arith in rw (h, y, append-nil f.words, append-nil f.origins)

  -- a comma
  on-more : (k : ℕ) (seen : List ℕ) (p n : ℕ) (f : Form) (q : Reader) → is text q comma_code ≡ true → on_by k seen p n f q ≡ (take_by text 0 q >>= λ s. rest_by k seen p n f s)
  unfolding on_by tail_by rest_by fields_on
  on-more zero seen p n f q h =
      rw h
      (either (take_by text 0 q)
      (λ s i. rw i
      (either (field_at text seen (passing true s))
      (λ x j. rw j)
      (λ x j. rw j)))
      (λ s i. rw i))
  on-more (suc k) seen p n f q h =
      rw h
      (either (take_by text 0 q)
      (λ s i. let z : eqb (suc k) 0 ≡ false = ne_eqb (suc k) 0 (λ e. omega arith) in rw (i, z, passing-none s)
      (either (field_at text seen s)
      (λ x j. rw j
      (either (fields_on text k (x.0 ∷ seen) x.1.1)
      (λ g o. let y : n + suc g.0 ≡ suc n + g.0 = omega arith in
      rw (o, y, append_assoc f.words x.1.0.words g.1.0.words, append_assoc f.origins x.1.0.origins g.1.0.origins))
      (λ g o. rw o)))
      (λ x j. rw j)))
      (λ s i. rw i))

  field-label : (seen : List ℕ) (q : Reader) (x : ℕ × (Form × Reader)) → field_at text seen q ≡ got x → (l : ℕ × Reader) × ((label text seen q ≡ got l) × (l.0 ≡ x.0))
  unfolding field_at
  field-label seen q x h =
      step (label text seen q) _ h λ l i h1.
      step (need text colon_code 0 l.1) _ h1 λ s j h2.
      step (expression text false s) _ h2 λ f o h3. (l, (i, ap (λ y. y.0) (got-inj h3)))

-- ---- the code's loop

-- What is left behind n fields does the whole; their labels stand at the end of `seen`, the latest first.
pub record Left (text : List ℕ) (from p : ℕ) (a₀ : Lent) (r : Carried) (a : Lent) (seen : List ℕ) (s : Carried) (n : ℕ) : Type 0 where
  pub few : n ≤ 8
  pub inside : from < s.written
  pub fit : Fit 0 0 from a s
  pub on : (c : Lent) (e : Carried) → Does false 0 0 0 0 from a s (λ f q. rest_by text (8 - n) (drop (8 - n) seen) p n (behind_first f) q) c e
      → Does false 0 0 0 0 from a₀ r (λ f q. fields_by text p (behind_first f) q) c e

pub record Fields (text : List ℕ) (from p : ℕ) (a₀ : Lent) (r : Carried) (a : Lent) (seen : List ℕ) (s : Carried) (n : ℕ) : Type 0 where
  pub size : length seen ≡ 8
  pub rest : from < r.written → Fit 0 0 from a₀ r → Left text from p a₀ r a seen s n

pub fields-start : {text : List ℕ} {from p : ℕ} {a : Lent} {r : Carried} {seen : List ℕ} → length seen ≡ 8 → Fields text from p a r a seen r 0
fields-start {text = text} {p = p} {a = a} {r = r} {seen = seen} size =
    record {
      size = size;
      rest = λ h F. record {
        few = omega arith;
        inside = h;
        fit = F;
        on = λ c e D. does-as D (λ G z.
            let y : drop 8 seen ≡ [] = rw (← size) (drop-length seen) in
            rw y (rest-first text p (behind_first (form_of false _ a r)) (reader_of a.names r)));
      };
    }

drop-put : (seen : List ℕ) (k l : ℕ) → k < length seen → drop k (set seen k l) ≡ l ∷ drop (suc k) seen
drop-put [] k l h = let z : ⊥ = omega arith in absurd z
drop-put (x ∷ xs) zero l h = refl
drop-put (x ∷ xs) (suc k) l h = drop-put xs k l (omega arith)

either_left {ℓ} : {X : Type ℓ} (m : ℕ) → (m ≡ 0 → X) → ((k : ℕ) → m ≡ suc k → X) → X
either_left zero f g = f refl
either_left (suc k) f g = g k refl

module _ {text : List ℕ} {from p : ℕ} {a₀ : Lent} {r : Carried} {a : Lent} {seen : List ℕ} {s : Carried} {n : ℕ} {l : ℕ} {c : Lent} {e : Carried}
    (T : Turn text (drop (8 - n) seen) (eqb (8 - n) 0) a s l c e) (L : Left text from p a₀ r a seen s n) where
  -- what is done behind the field
  turned : (c' : Lent) (e' : Carried) → Does false 0 0 0 0 from c e (λ f q. tail_by text (8 - n) (l ∷ drop (8 - n) seen) p n (behind_first f) q) c' e'
      → Does false 0 0 0 0 from a₀ r (λ f q. fields_by text p (behind_first f) q) c' e'
  unfolding rest_by
  turned c' e' D =
      L.on c' e' (does-as (does-then (T.does from) D) (λ F z.
      bind_assoc (field_at text (drop (8 - n) seen) (passing (eqb (8 - n) 0) (reader_of a.names s))) _ _
      ∙ bind-cong (field_at text (drop (8 - n) seen) (passing (eqb (8 - n) 0) (reader_of a.names s))) _ _ λ x h.
      let y = field-label text (drop (8 - n) seen) (passing (eqb (8 - n) 0) (reader_of a.names s)) x h in
      let w : x.0 ≡ l = sym y.1.1 ∙ T.named F.names z y.0 y.1.0 in
      let g = form-length false F (omega arith) z in
      rw (w, behind-first (form_of false from a s) x.1.0 (omega (arith, g.0, L.inside)) (omega (arith, g.1, L.inside)))))

  grown : from < e.written
  grown = omega (arith, ((T.does s.written).fit (fit-here L.fit)).begins, L.inside)

  -- the 9th field is never read
  turn_last : 8 - n ≡ 0 → e.number ≡ 0 → ⊥
  turn_last h z =
      let z0 : s.number ≡ 0 = does-went (T.does from) L.fit z in
      step (field_at text (drop (8 - n) seen) (passing (eqb (8 - n) 0) (reader_of a.names s))) _ (does-got (T.does from) L.fit z0 z) λ x i j.
      field-never text _ (passing true (reader_of a.names s)) x (passing-one (reader_of a.names s)) (rw h at i)

-- the labels before it, as the code finds them
turn_at : {text : List ℕ} {from p : ℕ} {a₀ : Lent} {r : Carried} {a : Lent} {seen : List ℕ} {s : Carried} {n free l : ℕ} {c : Lent} {e : Carried}
    → Fields text from p a₀ r a seen s n → free ≡ 8 - n → Turn text (take (8 - free) (drop free seen)) (eqb free 0) a s l c e → Turn text (drop (8 - n) seen) (eqb (8 - n) 0) a s l c e
turn_at {seen = seen} {free = free} inv is T =
    let y : take (8 - free) (drop free seen) ≡ drop free seen = rw (← inv.size) (part-from seen free) in
    rw (y, is) at T

-- What the code's loop keeps, with the token that stands there.
pub record Turns (text : List ℕ) (from p : ℕ) (a₀ : Lent) (r : Carried) (a : Lent) (seen : List ℕ) (s : Carried) (n : ℕ) : Type 0 where
  pub size : length seen ≡ 8
  pub ahead : Ahead text r → Ahead text s
  pub fields : Ahead text r → Fields text from p a₀ r a seen s n

-- one turn, and the token behind it
pub turn-ahead : {text : List ℕ} {from p : ℕ} {a₀ : Lent} {r : Carried} {names names1 names2 : List ℕ} {words words1 words2 : List ℤ} {origins origins1 origins2 seen : List ℕ}
    {s s1 u v w e : Carried} {x : ℤ} {n free : ℕ}
    → Turns text from p a₀ r (lent names words origins) seen s n → free ≡ 8 - n → s1 ≡ pass_by (eqb free 0) s → length names1 ≡ length names
    → (Ahead text s1 → Numbers names s1 (λ q. label text (take (8 - free) (drop free seen)) q) names1 u) → (Ahead text s1 → Ahead text u)
    → x ≡ word_of u.named → words1 ≡ with1 words u x → origins1 ≡ with1 origins u s.start → v ≡ wrote_one u
    → (Ahead text v → Follows v (λ q. need text colon_code 0 q) w) → (Ahead text v → Ahead text w)
    → (Ahead text w → Expression 2 0 (lent names1 words1 origins1) w (λ q. expression text false q) (lent names2 words2 origins2) e) → (Ahead text w → Ahead text e)
    → Ahead text r → Turn text (drop (8 - n) seen) (eqb (8 - n) 0) (lent names words origins) s u.named (lent names2 words2 origins2) e × Ahead text e
turn-ahead {text = text} {seen = seen} {s = s} {s1 = s1} {u = u} {v = v} {w = w} {free = free} inv is pass long read read-on number ws os wrote colon colon-on value Value-on ahead =
    let look : Ahead text s = inv.ahead ahead in
    let look1 : Ahead text s1 = ahead-passed text s (eqb free 0) pass look in
    let look2 : Ahead text v = ahead-wrote text u wrote (read-on look1) in
    let look3 : Ahead text w = colon-on look2 in (
      turn_at (inv.fields ahead) is
          (turn text (take (8 - free) (drop free seen)) (eqb free 0) {t = next_of s} look (passes (eqb free 0) s pass) long (read look1) number ws os wrote (colon look2) (value look3)),
      Value-on look3,
    )

module _ {text : List ℕ} {from p : ℕ} {a₀ : Lent} {r : Carried} {a : Lent} {seen : List ℕ} {s : Carried} {n : ℕ} {l : ℕ} {names : List ℕ} {words : List ℤ} {origins : List ℕ} {e : Carried}
    (inv : Fields text from p a₀ r a seen s n) (T : Turn text (drop (8 - n) seen) (eqb (8 - n) 0) a s l (lent names words origins) e) where
  -- a field that is refused
  pub fields-halt : (e.number ≡ 0 → ⊥) → from < r.written → Does false 0 0 0 0 from a₀ r (λ f q. fields_by text p (behind_first f) q) (lent names words origins) e
  fields-halt h i = does-given λ F. turned T (inv.rest i F) (lent names words origins) e (does-stopped h)

  module _ (goes : e.number ≡ 0) {t : Token} (look : Peeks text e t) where
    -- the last field
    pub fields-end : {ws : List ℤ} {os : List ℕ} {e' : Carried} {x : ℤ} → (t.code ≡ comma_code → ⊥) → x ≡ word_of (n + 1) → ws ≡ set words from x → os ≡ set origins from p
        → Follows e (λ q. need text close_brace_code 0 q) e'
        → from < r.written → Does false 0 0 0 0 from a₀ r (λ f q. fields_by text p (behind_first f) q) (lent names ws os) e'
    unfolding tail_by
    fields-end {ws = ws} {os = os} {e' = e'} {x = x} other count is at close i =
        does-given λ F.
        let L = inv.rest i F in
        either_left (8 - n)
        (λ k. let z : ⊥ = turn_last T L k goes in absurd z)
        (λ k left. turned T L (lent names ws os) e'
        (does-as (does-then (does-first x p (omega arith) (grown T L) is at) (does-need text close_brace_code 0 close))
        (λ G z.
        let y : x ≡ pos (suc n) = count ∙ word-is (n + 1) (omega (arith, L.few)) ∙ ap pos (add-one n) in
        rw (y, left) (sym (on-ends text k (l ∷ drop (suc k) seen) p (suc n) (behind_first (form_of false from (lent names words origins) e)) (reader_of names e)
        (rw (← look names) (ne_eqb t.code comma_code other)))))))

    -- a comma, and more
    pub fields-more : {e' : Carried} {seen' : List ℕ}
        → t.code ≡ comma_code → seen' ≡ set seen (8 - n - 1) l → Follows e (λ q. take_by text 0 q) e' → Fields text from p a₀ r (lent names words origins) seen' e' (n + 1)
    unfolding tail_by
    fields-more {e' = e'} {seen' = seen'} comma put next =
        record {
          size = rw put (simp length-set inv.size);
          rest = λ i F.
              let L = inv.rest i F in
              either_left (8 - n)
              (λ k. let z : ⊥ = turn_last T L k goes in absurd z)
              (λ k left. record {
                few = omega arith;
                inside = omega (arith, grown T L, next.written);
                fit = (does-take text {deep = false} 0 next).fit ((T.does from).fit L.fit);
                on = λ c' e2 D. turned T L c' e2 (does-as (does-then (does-take text 0 next) D) (λ G z.
                    let x : 8 - (n + 1) ≡ k = omega arith in
                    let y : 8 - n - 1 ≡ k = omega arith in
                    let d : drop k seen' ≡ l ∷ drop (suc k) seen = rw (put, y) (drop-put seen k l (omega (arith, inv.size))) in
                    rw (left, x, d, add-one n)
                    (bind_assoc (take_by text 0 (reader_of names e)) _ _
                    ∙ sym (on-more text k (l ∷ drop (suc k) seen) p (suc n) (behind_first (form_of false from (lent names words origins) e)) (reader_of names e)
                    (rw (← look names) (eq-eqb t.code comma_code comma))))));
              });
        }

-- no more turns than fields and one
pub fields-past : {text : List ℕ} {from p : ℕ} {a₀ : Lent} {r : Carried} {a : Lent} {seen : List ℕ} {s : Carried} {n : ℕ} → Fields text from p a₀ r a seen s n → 8 < n
    → from < r.written → Does false 0 0 0 0 from a₀ r (λ f q. fields_by text p (behind_first f) q) a s
fields-past inv h i = does-given λ F. let z : ⊥ = omega (arith, (inv.rest i F).few) in absurd z
