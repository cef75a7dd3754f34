-- What the code does with new and with an assignment, as the definitions have it. Assumes nothing.
use mathlib.Core.Path.{◌≡◌, refl, sym, ap, ◌∙◌}
use mathlib.Core.Bool.{Bool, true, false, ◌&&◌}
use mathlib.Core.List.{List, [], ◌∷◌, append-nil}
use Prim.Native.Nat.{ℕ, suc, ◌+◌, ◌-◌, ◌≤◌, ◌<◌}
use native.Mathlib.Omega.{arith}
use borrow.Author.Tests.{eq-eqb, ne_eqb, eqb-true, leb-true, leb-false}
use lib.Dec.{eqb, leb}
use lib.IntN.{ℤ, pos}
use lib.ListN.{length, set}
use Rattle.words.specs.Answer.{got, ◌>>=◌}
use Rattle.words.proofs.AnswerLaws.{step, tested, got-inj, either}
use Rattle.tables.proofs.SearchLaws.{cases, and_left, and_right}
use Rattle.tokens.specs.declared.Token.{Token}
use Rattle.tables.specs.Sizes.{variables}
use Rattle.program.specs.Forms.{most_steps}
use Rattle.tokens.specs.Bytes.{same_in}
use Rattle.tokens.specs.Codes.{name_code, too_long, becomes_code, new_code, open_brace_code, close_brace_code}
use Rattle.tokens.specs.Tokens.{token, most_bytes, token_at, token_from, rest_from}
use Rattle.tokens.proofs.SameLaws.{same-itself}
use Rattle.tokens.proofs.TokenLaws.{token-past, token-in}
use Rattle.tokens.proofs.TokenRules.{end-inside}
use Rattle.text.specs.Reading.{fault, Reader, Form, form, word_then, and_then, owing, due_after, peek, is, refusal, take, need, number_in, with_name, room_for}
use Rattle.text.specs.Reading.{variable, steps, path, expression, field_at, fields_on, fields_at, assignment}
use Rattle.text.specs.declared.Carried.{Carried}
use Rattle.text.specs.Told.{reader_of, Peeks, Follows}
use Rattle.text.specs.Written.{with1, wrote_one, Owes}
use Rattle.text.specs.declared.Lent.{Lent}
use Rattle.text.specs.Pieces.{lent, form_of, Fit, Does, Piece, Expression, behind_first, fields_by, fields_at_by}
use Rattle.text.proofs.NameLaws.{extends-same, number-stays}
use Rattle.text.proofs.RowsLaws.{bind_assoc, fit-here, wrote-number, wrote-reader, wrote-begins, wrote-more}
use Rattle.text.proofs.AnswerSteps.{follows_is}
use Rattle.text.proofs.DoesLaws.{ended, does-then, does-as, does-wider, does-take, does-need, does-owe, does-word, does-first}
use Rattle.text.proofs.DoesLaws.{does-piece, does-later, expression-piece, form-none, form-length}
use Rattle.text.proofs.StepLaws.{does-given, does-answered}

-- ---- `{`, fields or nothing, `}`

module _ (text : List ℕ) {names : List ℕ} {words : List ℤ} {origins : List ℕ} {from : ℕ} {r s : Carried} {t v : Token}
    (look : Peeks text r t) (brace : Follows r (λ q. need text open_brace_code 0 q) s) (next : Peeks text s v) where
  pub fields-none : {ws : List ℤ} {os : List ℕ} {u : Carried} → v.code ≡ close_brace_code → ws ≡ set words from (pos 0) → os ≡ set origins from t.place
      → Follows s (λ q. take text 0 q) u
      → from < r.written → Does false 0 0 0 0 from (lent names words origins) r (λ f q. fields_at_by text (behind_first f) q) (lent names ws os) u
  unfolding fields_at
  fields-none close is at taken i =
      does-as (does-then (does-then (does-need text open_brace_code 0 brace) (does-first (pos 0) t.place (omega arith) (omega (arith, brace.written)) is at)) (does-take text 0 taken))
      (λ F z.
      either (need text open_brace_code 0 (reader_of names r))
      (λ x h.
      let k = follows_is names x brace z h in
      let c : eqb (peek text x).code close_brace_code ≡ true = rw (← k.1, ← next names) (eq-eqb v.code close_brace_code close) in
      rw (h, c)
      (either (take text 0 x)
      (λ y j.
      let f : Form = behind_first (form_of false from (lent names words origins) r) in
      rw (j, look names, append-nil f.words, append-nil f.origins))
      (λ y j. rw j)))
      (λ x h. rw h))

  pub fields-some : {c : Lent} {u : Carried} → (v.code ≡ close_brace_code → ⊥)
      → (from < s.written → Does false 0 0 0 0 from (lent names words origins) s (λ f q. fields_by text t.place (behind_first f) q) c u)
      → from < r.written → Does false 0 0 0 0 from (lent names words origins) r (λ f q. fields_at_by text (behind_first f) q) c u
  unfolding fields_at
  fields-some other fields i =
      does-as (does-then (does-need text open_brace_code 0 brace) (fields (omega (arith, brace.written))))
      (λ F z.
      either (need text open_brace_code 0 (reader_of names r))
      (λ x h.
      let k = follows_is names x brace z h in
      let c : eqb (peek text x).code close_brace_code ≡ false = rw (← k.1, ← next names) (ne_eqb v.code close_brace_code other) in
      rw (h, c, look names)
      (either (field_at text [] x)
      (λ y j. rw j
      (either (fields_on text 7 (y.0 ∷ []) y.1.1)
      (λ g l. rw l
      (either (need text close_brace_code 0 g.1.1)
      (λ w o. rw o)
      (λ w o. rw o)))
      (λ g l. rw l)))
      (λ y j. rw j)))
      (λ x h. rw h))

-- ---- names and paths

-- a name is the same as itself
name-itself : (due : Bool) (text : List ℕ) (at : ℕ) → (token_from due text at).code ≡ name_code
    → same_in text (token_from due text at).place (token_from due text at).place ((token_from due text at).end - (token_from due text at).place) ≡ true
name-itself due text at code =
    let place : ℕ = length text - length (rest_from text at) in
    let n : ℕ = (token_at due (rest_from text at)).length in
    let i : place + n ≤ length text = end-inside due text at refl refl in
    cases (leb (place + n) 65536)
    (λ h. rw (← token-in due text at refl refl (leb-true (place + n) 65536 h)) (same-itself text place (place + n - place) (omega arith)))
    (λ h.
    let k : token too_long most_bytes most_bytes ≡ token_from due text at = token-past due text at refl refl (leb-false (place + n) 65536 h) in
    absurd (let z : ◌≡◌ {A = ℕ} 4 1 = rw (← k) at code in omega arith))

no_words : {A : Type 0} (xs : List A) → length xs ≡ 0 → xs ≡ []
no_words [] h = refl
no_words (x ∷ xs) h = let z : ⊥ = omega arith in absurd z

module _ (text : List ℕ) where
  -- the number of a variable, before and behind its name
  variable-number : (k : ℕ) (q : Reader) (x : ℕ × Reader) → variable text k q ≡ got x → x.0 ≡ number_in text (with_name text q.variables (peek text q)) (peek text q)
  unfolding variable peek
  variable-number k q x h =
      tested (refusal text (peek text q)) (is text q name_code) _ h λ c h1.
      tested (fault 21 (peek text q).place) (room_for text variables q.variables (peek text q)) _ h1 λ m h2.
      step (take text k q) _ h2 λ s h3 h4.
      let w : same_in text (peek text q).place (peek text q).place ((peek text q).end - (peek text q).place) ≡ true =
      name-itself (due_after q.last) text q.at (eqb-true (peek text q).code name_code c) in
      let g : number_in text q.variables (peek text q) ≡ x.0 = ap (λ y. y.0) (got-inj h4) in
      sym g ∙ sym (number-stays text q.variables (peek text q) (with_name text q.variables (peek text q)) w (extends-same (with_name text q.variables (peek text q))))

  -- a path without labels
  path-alone : (q : Reader) (x : Form × Reader) → path text 2 q ≡ got x → length x.0.words ≡ 2 → length x.0.origins ≡ 2
      → x.0 ≡ form (pos (number_in text (with_name text q.variables (peek text q)) (peek text q)) ∷ pos 0 ∷ []) ((peek text q).place ∷ (peek text q).place ∷ [])
  unfolding path
  path-alone q x h lw lo =
      step (variable text 2 q) _ h λ y h1 h2.
      step (steps text most_steps y.1) _ h2 λ g h3 h4.
      let e : word_then (pos y.0) (peek text q).place (word_then (pos (length g.0.words)) (peek text q).place g.0) ≡ x.0 = ap (λ z. z.0) (got-inj h4) in
      let kw : suc (suc (length g.0.words)) ≡ 2 = rw (← e) at lw in
      let ko : suc (suc (length g.0.origins)) ≡ 2 = rw (← e) at lo in
      rw (← e, no_words g.0.words (omega arith), no_words g.0.origins (omega arith), variable-number 2 q y h1)

-- ---- what begins with a name

module _ (text : List ℕ) {names names2 : List ℕ} {words words1 words2 : List ℤ} {origins origins1 origins2 : List ℕ} {r r1 s u v : Carried} {t t2 : Token}
    (look : Peeks text r t) (owe : Owes 1 r r1) (is1 : words1 ≡ with1 words r1 (pos 1)) (at1 : origins1 ≡ with1 origins r1 t.place) (wrote : s ≡ wrote_one r1)
    (way : Piece 3 0 (lent names words1 origins1) s (λ q. path text 2 q) (lent names2 words2 origins2) u)
    (becomes : Follows u (λ q. need text becomes_code 0 q) v) (next : Peeks text v t2) where
  -- the first word
  first : Does false 0 0 1 0 r.written (lent names words origins) r (λ f q. got (ended f (pos 1) t.place, owing 1 q)) (lent names words1 origins1) s
  first = does-then (does-owe text 1 (omega arith) (omega arith) owe) (does-word {l = 0} (pos 1) t.place (omega arith) is1 at1 wrote)

  -- and the path, up to `:=`
  begun : Does false 0 0 0 0 r.written (lent names words origins) r
      (λ f q. path text 2 (owing 1 q) >>= λ x. need text becomes_code 0 x.1 >>= λ w. got (and_then (ended f (pos 1) t.place) x.0, w))
      (lent names2 words2 origins2) v
  begun =
      does-as (does-then {m1 = 0} (does-then first (does-wider (omega arith) (omega arith) (does-piece way))) (does-need text becomes_code 0 becomes))
      (λ F z. bind_assoc (path text 2 (owing 1 (reader_of names r))) _ _)

  module _ (F : Fit 0 0 r.written (lent names words origins) r) where
    owing-follows : Follows r (λ q. got (owing 1 q)) r1
    owing-follows = owe (λ z. omega (arith, F.owed z)) (omega arith)

    -- no word is lost
    one_more_lem : r1.number ≡ 0 → s.written ≡ r.written + 1
    one_more_lem z =
        let O : Fit 1 1 r.written (lent names words origins) r1 = (does-owe text {deep = false} {m = 0} {l = 0} 1 (omega arith) (omega arith) owe).fit F in
        wrote-more r1 wrote (omega (arith, O.counts z, O.certain z, O.owed z)) ∙ ap (λ n. n + 1) owing-follows.written

    path-fit : Fit 1 0 s.written (lent names words1 origins1) s
    path-fit = fit-here (first.fit F)

    way1 : Does false 1 0 0 0 s.written (lent names words1 origins1) s (λ f q. path text 2 q) (lent names2 words2 origins2) u
    way1 = does-wider (omega arith) (omega arith) way

    module _ (z : r.number ≡ 0) (x : Form × Reader) (h : path text 2 (owing 1 (reader_of names r)) ≡ got x) where
      owing-is : (r1.number ≡ 0) × (reader_of names r1 ≡ owing 1 (reader_of names r))
      owing-is = follows_is names (owing 1 (reader_of names r)) owing-follows z refl

      path-is : (u.number ≡ 0) × (x ≡ (form_of false s.written (lent names2 words2 origins2) u, reader_of names2 u))
      path-is = does-answered way1 path-fit (rw wrote (wrote-number r1 ∙ owing-is.0)) (rw (wrote, wrote-reader r1 names, owing-is.1) h)

      path-length : (length x.0.words ≡ u.written - s.written) × (length x.0.origins ≡ u.written - s.written)
      path-length =
          let g = form-length false (way1.fit path-fit) (omega arith) path-is.0 in
          rw path-is.1 (omega (arith, g.0), omega (arith, g.1))

      -- the token behind `:=`
      next-is : (y : Reader) → need text becomes_code 0 x.1 ≡ got y → t2 ≡ peek text y
      next-is y i =
          let k = follows_is names2 y becomes path-is.0 (rw (← ap (λ w. w.1) path-is.1) i) in
          next names2 ∙ ap (λ q. peek text q) k.1

  pub assign-value : {c : Lent} {e : Carried} → eqb t2.code new_code && eqb (u.written - s.written) 2 ≡ false
      → Expression 2 0 (lent names2 words2 origins2) v (λ q. expression text false q) c e → Piece 0 0 (lent names words origins) r (λ q. assignment text q) c e
  unfolding assignment
  assign-value test value =
      does-as (does-then {m1 = 0} begun (does-wider (omega arith) (omega arith) (does-piece (expression-piece value))))
      (λ F z.
      either (path text 2 (owing 1 (reader_of names r)))
      (λ x h. rw h
      (either (need text becomes_code 0 x.1)
      (λ y i.
      let c : is text y new_code && eqb (length x.0.words) 2 ≡ false = rw (← next-is F z x h y i, (path-length F z x h).0) test in
      rw (i, c)
      (either (expression text false y)
      (λ g j. rw (j, (form-none false (lent names words origins) r).0, (form-none false (lent names words origins) r).1, look names))
      (λ g j. rw j)))
      (λ y i. rw i)))
      (λ x h. rw h))

  pub assign-new : {words3 : List ℤ} {origins3 : List ℕ} {w : Carried} {k : ℕ} {c : Lent} {e : Carried} → eqb t2.code new_code && eqb (u.written - s.written) 2 ≡ true
      → words3 ≡ set words2 r.written (pos 2) → origins3 ≡ set origins2 r.written t.place → Follows v (λ q. take text 0 q) w → k ≡ v.written - 1
      → (k < w.written → Does false 0 0 0 0 k (lent names2 words3 origins3) w (λ f q. fields_at_by text (behind_first f) q) c e)
      → Piece 0 0 (lent names words origins) r (λ q. assignment text q) c e
  unfolding assignment behind_first peek
  assign-new {words3 = words3} {origins3 = origins3} {w = w} {c = c} {e = e} test is3 at3 taken slot fields =
      does-given λ F.
      let two : u.written - s.written ≡ 2 = eqb-true (u.written - s.written) 2 (and_right (eqb t2.code new_code) _ test) in
      let w1 : r.written ≤ s.written = rw (wrote, ← (owing-follows F).written) (wrote-begins r1) in
      let w2 : v.written ≡ u.written = becomes.written in
      let w3 : w.written ≡ v.written = taken.written in
      let j : r.written + (v.written - 1 - r.written) ≡ v.written - 1 = omega arith in
      let D : Does false 0 0 0 0 (r.written + (v.written - 1 - r.written)) (lent names2 words3 origins3) w (λ f q. fields_at_by text (behind_first f) q) c e =
      rw (j, ← slot) (fields (omega (arith, slot))) in
      does-as
      (does-then (does-then (does-then begun (does-first (pos 2) t.place (omega arith) (omega arith) is3 at3)) (does-take text 0 taken)) (does-later (v.written - 1 - r.written) (omega arith) D))
      (λ G z.
      either (path text 2 (owing 1 (reader_of names r)))
      (λ x h.
      let n = path-length F z x h in
      let a = path-alone text (owing 1 (reader_of names r)) x h (n.0 ∙ two) (n.1 ∙ two) in
      let m : v.written - 1 - r.written ≡ 2 = omega (arith, one_more_lem F (owing-is F z x h).0) in
      rw (h, a, m, (form-none false (lent names words origins) r).0, (form-none false (lent names words origins) r).1, look names)
      (either (need text becomes_code 0 x.1)
      (λ y i.
      let b : is text y new_code ≡ true = rw (← next-is F z x h y i) (and_left _ _ test) in
      rw (i, b)
      (either (take text 0 y)
      (λ o k. rw k
      (either (fields_at text o)
      (λ g l. rw l)
      (λ g l. rw l)))
      (λ o k. rw k)))
      (λ y i. rw i)))
      (λ x h. rw h))
