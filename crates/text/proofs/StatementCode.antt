-- What the code of a statement comes to, and that none is accepted whose first token passes a limit. Assumes nothing.
use mathlib.Core.Path.{◌≡◌, sym, ap, ◌∙◌}
use mathlib.Core.Bool.{true, false}
use mathlib.Core.List.{List, [], ◌∷◌, append_assoc}
use Prim.Native.Nat.{ℕ}
use native.Mathlib.Omega.{arith}
use borrow.Author.Tests.{ne_eqb}
use lib.IntN.{ℤ, pos}
use Rattle.words.specs.Answer.{Answer, got, stop, ◌>>=◌}
use Rattle.words.proofs.AnswerLaws.{stop≢got, step, either}
use Rattle.tokens.specs.declared.Token.{Token}
use Rattle.tokens.specs.Codes.{name_code, skip_code, always_code, once_code, if_code, then_code, else_code, while_code, do_code}
use Rattle.text.specs.Reading.{Fault, Reader, Form, form, word_then, and_then, owing, is, peek, refusal, take, need, variable, path, expression, assignment, statement_at, block_at}
use Rattle.text.specs.declared.Carried.{Carried}
use Rattle.text.specs.Told.{reader_of, refused_by, Peeks, Follows}
use Rattle.text.specs.Written.{with1, wrote_one}
use Rattle.text.specs.declared.Lent.{Lent}
use Rattle.text.specs.Pieces.{lent, Does, Piece, Expression, constant_by, next_code, stated_from}
use Rattle.text.proofs.DoesLaws.{does-then, does-as, does-wider, does-refused, does-need, does-piece, expression-piece}
use Rattle.text.proofs.PieceLaws.{either_way}
use Rattle.text.proofs.AnswerSteps.{take-never, variable-never}
use Rattle.text.proofs.LiteralCode.{constant-does}

module _ (text : List ℕ) where
  pub peeked-code : (r : Carried) (t : Token) → Peeks text r t → next_code text r ≡ t.code
  unfolding peek reader_of
  peeked-code r t p = sym (ap (λ t. t.code) (p []))

  -- ---- a limit that is passed

  assignment-never {ℓ} : {X : Type ℓ} (q : Reader) (x : Form × Reader) → q.passed ≡ true → assignment text q ≡ got x → X
  unfolding assignment path
  assignment-never q x h e = step (path text 2 (owing 1 q)) _ e λ f e1 _. step (variable text 2 (owing 1 q)) _ e1 λ v e2 _. variable-never text 2 (owing 1 q) v h e2

  module _ (block : Reader → Answer Fault (Form × Reader)) where
    pub statement-never {ℓ} : {X : Type ℓ} (q : Reader) (x : Form × Reader) → q.passed ≡ true → statement_at text block q ≡ got x → X
    unfolding statement_at
    statement-never q x h e =
        either_way (is text q name_code) _ _ e (λ _ e1. assignment-never q x h e1)
        λ _ e. either_way (is text q skip_code) _ _ e (λ _ e1. step (take text 1 q) _ e1 λ s e2 _. take-never text 1 q s h e2)
        λ _ e. either_way (is text q always_code) _ _ e (λ _ e1. step (take text 1 q) _ e1 λ s e2 _. take-never text 1 q s h e2)
        λ _ e. either_way (is text q once_code) _ _ e (λ _ e1. step (take text 1 q) _ e1 λ s e2 _. take-never text 1 q s h e2)
        λ _ e. either_way (is text q if_code) _ _ e (λ _ e1. step (take text 1 q) _ e1 λ s e2 _. take-never text 1 q s h e2)
        λ _ e. either_way (is text q while_code) _ _ e (λ _ e1. step (take text 1 q) _ e1 λ s e2 _. take-never text 1 q s h e2)
        λ _ e. stop≢got e

    -- ---- by the first token

    module _ (q : Reader) where
      statement-name : (peek text q).code ≡ name_code → assignment text q ≡ statement_at text block q
      unfolding statement_at
      statement-name e = rw e

      statement-skip : (peek text q).code ≡ skip_code → (take text 1 q >>= λ s. got (form (pos 0 ∷ []) ((peek text q).place ∷ []), s)) ≡ statement_at text block q
      unfolding statement_at
      statement-skip e = rw e

      statement-always : (peek text q).code ≡ always_code → stated_from text 3 q ≡ statement_at text block q
      unfolding statement_at
      statement-always e = rw e

      statement-once : (peek text q).code ≡ once_code → stated_from text 4 q ≡ statement_at text block q
      unfolding statement_at
      statement-once e = rw e

      statement-if : (peek text q).code ≡ if_code
          → (take text 1 q >>= λ s. expression text false s >>= λ e. need text then_code 0 e.1 >>= λ u. block u >>= λ a. need text else_code 0 a.1 >>= λ v. block v >>= λ b.
          got (word_then (pos 7) (peek text q).place (and_then e.0 (and_then a.0 b.0)), b.1))
          ≡ statement_at text block q
      unfolding statement_at
      statement-if e = rw e

      statement-while : (peek text q).code ≡ while_code
          → (take text 1 q >>= λ s. expression text false s >>= λ e. need text do_code 0 e.1 >>= λ u. block u >>= λ a. got (word_then (pos 8) (peek text q).place (and_then e.0 a.0), a.1))
          ≡ statement_at text block q
      unfolding statement_at
      statement-while e = rw e

      statement-none : ((peek text q).code ≡ name_code → ⊥) → ((peek text q).code ≡ skip_code → ⊥) → ((peek text q).code ≡ always_code → ⊥) → ((peek text q).code ≡ once_code → ⊥)
          → ((peek text q).code ≡ if_code → ⊥) → ((peek text q).code ≡ while_code → ⊥) → stop (refusal text (peek text q)) ≡ statement_at text block q
      unfolding statement_at
      statement-none a b c d e f =
          let k = (peek text q).code in
          rw (ne_eqb k name_code a, ne_eqb k skip_code b, ne_eqb k always_code c, ne_eqb k once_code d, ne_eqb k if_code e, ne_eqb k while_code f)

  -- ---- the code

  module _ (d : ℕ) where
    abbrev reads : Reader → Answer Fault (Form × Reader)
    reads q = statement_at text (λ v. block_at text d v) q

    module _ (r : Carried) (t : Token) (p : Peeks text r t) where
      token-is : {c : ℕ} (names : List ℕ) → t.code ≡ c → (peek text (reader_of names r)).code ≡ c
      token-is names e = rw (← p names) e

      token-not : {c : ℕ} (names : List ℕ) → (t.code ≡ c → ⊥) → (peek text (reader_of names r)).code ≡ c → ⊥
      token-not names n e = n (rw (p names) e)

      pub code-name : {a b : Lent} {s : Carried} → t.code ≡ name_code → Piece 0 0 a r (λ q. assignment text q) b s → Piece 0 3 a r (λ q. reads q) b s
      code-name {a = a} e x = does-wider (omega arith) (omega arith) (does-as x λ _ _. statement-name (λ v. block_at text d v) (reader_of a.names r) (token-is a.names e))

      pub code-skip : {a b : Lent} {s : Carried} → t.code ≡ skip_code → Piece 3 0 a r (λ q. constant_by text (pos 0) q) b s → Piece 0 3 a r (λ q. reads q) b s
      code-skip {a = a} e x = does-wider (omega arith) (omega arith) (does-as x λ _ _. statement-skip (λ v. block_at text d v) (reader_of a.names r) (token-is a.names e))

      pub code-always : {a b : Lent} {s : Carried} → t.code ≡ always_code → Piece 0 3 a r (λ q. stated_from text 3 q) b s → Piece 0 3 a r (λ q. reads q) b s
      code-always {a = a} e x = does-as x λ _ _. statement-always (λ v. block_at text d v) (reader_of a.names r) (token-is a.names e)

      pub code-once : {a b : Lent} {s : Carried} → t.code ≡ once_code → Piece 0 3 a r (λ q. stated_from text 4 q) b s → Piece 0 3 a r (λ q. reads q) b s
      code-once {a = a} e x = does-as x λ _ _. statement-once (λ v. block_at text d v) (reader_of a.names r) (token-is a.names e)

      pub code-none : {a : Lent} {s : Carried} → r.number ≡ 0
          → (t.code ≡ name_code → ⊥) → (t.code ≡ skip_code → ⊥) → (t.code ≡ always_code → ⊥) → (t.code ≡ once_code → ⊥) → (t.code ≡ if_code → ⊥) → (t.code ≡ while_code → ⊥)
          → s ≡ refused_by t r → Piece 0 3 a r (λ q. reads q) a s
      code-none {a = a} z h1 h2 h3 h4 h5 h6 is =
          let n = a.names in
          does-as (does-refused text z p is) λ _ _.
          statement-none (λ v. block_at text d v) (reader_of n r) (token-not n h1) (token-not n h2) (token-not n h3) (token-not n h4) (token-not n h5) (token-not n h6)

      module _ {names : List ℕ} {ws vs : List ℤ} {os us : List ℕ} {u s : Carried} (taken : Follows r (λ q. take text 1 q) u) where
        -- a first word, which is certain with its token
        begun : (w : ℤ) → vs ≡ with1 ws u w → us ≡ with1 os u t.place → s ≡ wrote_one u
            → Does false 0 0 0 0 r.written (lent names ws os) r (λ f q. take text 1 q >>= λ v. got (form (w ∷ []) ((peek text q).place ∷ []), v)) (lent names vs us) s
        begun w e1 e2 e3 = does-wider (omega arith) (omega arith) (constant-does text names p w taken e1 e2 e3)

        -- a test behind the first word, and the keyword behind it
        tested-then : {c : Lent} {e v : Carried} (w : ℤ) (k : ℕ) → vs ≡ with1 ws u w → us ≡ with1 os u t.place → s ≡ wrote_one u
            → Expression 2 0 (lent names vs us) s (λ q. expression text false q) c e → Follows e (λ q. need text k 0 q) v
            → Does false 0 0 0 0 r.written (lent names ws os) r
            (λ f q. take text 1 q >>= λ x. expression text false x >>= λ g. need text k 0 g.1 >>= λ y. got (word_then w (peek text q).place g.0, y)) c v
        tested-then w k e1 e2 e3 x n =
            does-as
            (does-then {m1 = 0} (does-then (begun w e1 e2 e3) (does-wider (omega arith) (omega arith) (does-piece (expression-piece x)))) (does-need text k 0 n)) λ _ _.
            either (take text 1 (reader_of names r))
            (λ a f. rw f (either (expression text false a) (λ g h. rw h (either (need text k 0 g.1) (λ y j. rw j) (λ y j. rw j))) (λ g h. rw h)))
            (λ a f. rw f)

        pub code-while : {c c1 : Lent} {e v b : Carried} → vs ≡ with1 ws u (pos 8) → us ≡ with1 os u t.place → s ≡ wrote_one u
            → Expression 2 0 (lent names vs us) s (λ q. expression text false q) c e → Follows e (λ q. need text do_code 0 q) v → Piece 0 0 c v (λ q. block_at text d q) c1 b
            → next_code text r ≡ while_code → Piece 0 3 (lent names ws os) r (λ q. reads q) c1 b
        code-while e1 e2 e3 x n y code =
            let q = reader_of names r in
            does-wider (omega arith) (omega arith)
            (does-as (does-then (tested-then (pos 8) do_code e1 e2 e3 x n) (does-piece y)) λ _ _.
            rw (← statement-while (λ v. block_at text d v) q (token-is names (sym (peeked-code r t p) ∙ code)))
            (either (take text 1 q)
            (λ a f. rw f (either (expression text false a)
            (λ g h. rw h (either (need text do_code 0 g.1)
            (λ y j. rw j (either (block_at text d y) (λ z l. rw l) (λ z l. rw l))) (λ y j. rw j)))
            (λ g h. rw h)))
            (λ a f. rw f)))

        pub code-if : {c c1 c2 : Lent} {e v b w l : Carried} → vs ≡ with1 ws u (pos 7) → us ≡ with1 os u t.place → s ≡ wrote_one u
            → Expression 2 0 (lent names vs us) s (λ q. expression text false q) c e → Follows e (λ q. need text then_code 0 q) v → Piece 0 0 c v (λ q. block_at text d q) c1 b
            → Follows b (λ q. need text else_code 0 q) w → Piece 0 0 c1 w (λ q. block_at text d q) c2 l
            → next_code text r ≡ if_code → Piece 0 3 (lent names ws os) r (λ q. reads q) c2 l
        code-if e1 e2 e3 x n y m z code =
            let q = reader_of names r in
            does-wider (omega arith) (omega arith)
            (does-as (does-then (does-then (does-then (tested-then (pos 7) then_code e1 e2 e3 x n) (does-piece y)) (does-need text else_code 0 m)) (does-piece z)) λ _ _.
            rw (← statement-if (λ v. block_at text d v) q (token-is names (sym (peeked-code r t p) ∙ code)))
            (either (take text 1 q)
            (λ a f. rw f (either (expression text false a)
            (λ g h. rw h (either (need text then_code 0 g.1)
            (λ y j. rw j (either (block_at text d y)
            (λ z l. rw l (either (need text else_code 0 z.1)
            (λ y' j'. rw j' (either (block_at text d y')
            (λ z' l'. rw (l', append_assoc g.0.words z.0.words z'.0.words, append_assoc g.0.origins z.0.origins z'.0.origins))
            (λ z' l'. rw l')))
            (λ y' j'. rw j')))
            (λ z l. rw l)))
            (λ y j. rw j)))
            (λ g h. rw h)))
            (λ a f. rw f)))
