-- Two runs of a block, with any proposals and budgets, whose tests came out alike and which both came through, leave one structure.
-- Assumes nothing.
use mathlib.Core.Path.{◌≡◌, refl, sym, ap, ◌∙◌}
use mathlib.Core.Bool.{Bool, true, false}
use mathlib.Core.List.{List, [], ◌∷◌, ◌++◌, append_assoc}
use Prim.Native.Nat.{ℕ, zero, suc}
use native.Mathlib.Omega.{arith}
use lib.Dec.{ltb}
use lib.IntN.{ℤ}
use lib.ListN.{length, length-append, drop}
use Rattle.words.specs.Words.{number_at}
use Rattle.words.specs.Answer.{got, stop}
use Rattle.words.proofs.AnswerLaws.{either}
use Rattle.tables.specs.Cells.{Sized}
use Rattle.tables.proofs.SearchLaws.{cases}
use Rattle.program.specs.Forms.{most_statements, verb_of}
use Rattle.program.specs.declared.Verb.{Verb}
use Rattle.program.specs.declared.Verb.TheVariants.{Skip as skip, Assign as assign, New as new, Always as always, Once as once, AlwaysSame as always_same, OnceSame as once_same, If as branch, While as loop, Unknown as no_verb}
use Rattle.program.specs.Reading.{number, read_block, read_statement, after}
use Rattle.rules.specs.State.{State, Res}
use Rattle.rules.specs.Statements.{Left, position_of, do_simple}
use Rattle.rules.specs.Running.{Tally, Out, on, end, then_out, paid, taken, noted, test, tested, turns, past_test, do_verb, do_statement, do_statements, do_block}
use Rattle.rules.specs.Structure.{SameState}
use Rattle.rules.proofs.OutLaws.{end≢on, on-inj, then-on}
use Rattle.rules.proofs.SameStatements.{Simple, simple}

-- ---- two runs

-- two tallies whose states have one structure, with the tests so far alike
record Rel (t u : Tally) : Type 0 where
  same : SameState t.state u.state
  sized : Sized t.state.cells
  sized' : Sized u.state.cells
  log : t.tests ≡ u.tests

-- the tests so far may still come to one list
record Compat (t u : Tally) : Type 0 where
  one : List Bool
  two : List Bool
  meet : one ++ t.tests ≡ two ++ u.tests

-- the tests after t' are those after t and some more
record Grown (t t' : Tally) : Type 0 where
  new : List Bool
  is : t'.tests ≡ new ++ t.tests

abbrev Grows : (Tally → Out) → Type 0
Grows f = (t t' : Tally) → f t ≡ on t' → Grown t t'

-- f and g are one piece of the program in two runs
record Good (f g : Tally → Out) : Type 0 where
  grows : Grows f
  grows' : Grows g
  two : (t u t' u' : Tally) → Rel t u → f t ≡ on t' → g u ≡ on u' → Compat t' u' → Rel t' u'

grown-trans : {t u w : Tally} → Grown t u → Grown u w → Grown t w
grown-trans {t} a b = record { new = b.new ++ a.new; is = b.is ∙ ap (λ x. b.new ++ x) a.is ∙ sym (append_assoc b.new a.new t.tests) }

-- what meets later meets now
compat-back : {t u t' u' : Tally} → Grown t t' → Grown u u' → Compat t' u' → Compat t u
compat-back {t} {u} a b c = record {
  one = c.one ++ a.new;
  two = c.two ++ b.new;
  meet = append_assoc c.one a.new t.tests ∙ ap (λ x. c.one ++ x) (sym a.is) ∙ c.meet
      ∙ ap (λ x. c.two ++ x) b.is ∙ sym (append_assoc c.two b.new u.tests);
}

then_grows : (f g : Tally → Out) → Grows f → Grows g → Grows (λ t. then_out (f t) g)
then_grows f g a b t t' e = then-on (f t) g e λ m e1 e2. grown-trans (a t m e1) (b m t' e2)

then-good : (f f' g g' : Tally → Out) → Good f f' → Good g g' → Good (λ t. then_out (f t) g) (λ t. then_out (f' t) g')
then-good f f' g g' a b = record {
  grows = then_grows f g a.grows b.grows;
  grows' = then_grows f' g' a.grows' b.grows';
  two = λ t u t' u' r e h c.
      then-on (f t) g e λ m e1 e2.
      then-on (f' u) g' h λ n h1 h2.
      b.two m n t' u' (a.two t u m n r e1 h1 (compat-back (b.grows m t' e2) (b.grows' n u' h2) c)) e2 h2 c;
}

-- ---- tests

-- the first tests of two lists that end alike
same-cut : (x y : List Bool) {s t : List Bool} → length x ≡ length y → x ++ s ≡ y ++ t → s ≡ t
same-cut [] [] h e = e
same-cut [] (b ∷ y) h e = absurd (omega arith)
same-cut (a ∷ x) [] h e = absurd (omega arith)
same-cut (a ∷ x) (b ∷ y) h e = same-cut x y (omega arith) (cc)

last-eq : (x y l : List Bool) (a b : Bool) → x ++ (a ∷ l) ≡ y ++ (b ∷ l) → a ≡ b
last-eq x y l a b e =
    let h : length x ≡ length y = omega (arith, simp length-append at (ap length e)) in
    let t : a ∷ l ≡ b ∷ l = same-cut x y h e in
    cc

abbrev side : Bool → (Tally → Out) → (Tally → Out) → Tally → Out
side true f g = f
side false f g = g

side-good : (b : Bool) (f f' g g' : Tally → Out) → Good f f' → Good g g' → Good (side b f g) (side b f' g')
side-good true f f' g g' x y = x
side-good false f f' g g' x y = y

side-grows : (b : Bool) (f g : Tally → Out) → Grows f → Grows g → Grows (side b f g)
side-grows true f g x y = x
side-grows false f g x y = y

test_out {ℓ} : {X : Type ℓ} {t' : Tally} (program : List ℤ) (t : Tally) (r : Res Bool) (f g : Tally → Out) → tested program t r f g ≡ on t' → ((b : Bool) → side b f g (noted b t) ≡ on t' → X) → X
unfolding tested
test_out program t (got true) f g e k = k true e
test_out program t (got false) f g e k = k false e
test_out program t (stop n) f g e k = end≢on e

note-grows : (b : Bool) (t : Tally) → Grown t (noted b t)
note-grows b t = record { new = b ∷ []; is = refl }

heads : (b d : Bool) (t u : Tally) → Compat (noted b t) (noted d u) → t.tests ≡ u.tests → b ≡ d
heads b d t u z l = last-eq z.one z.two u.tests b d (rw l at z.meet)

test-grows : (program p : List ℤ) (f g : Tally → Out) → Grows f → Grows g → Grows (λ t. tested program t (test t.state.cells p) f g)
test-grows program p f g x y t t' e =
    test_out program t (test t.state.cells p) f g e λ b k. grown-trans (note-grows b t) (side-grows b f g x y (noted b t) t' k)

test_good : (program p : List ℤ) (f f' g g' : Tally → Out) → Good f f' → Good g g'
    → Good (λ t. tested program t (test t.state.cells p) f g) (λ t. tested program t (test t.state.cells p) f' g')
test_good program p f f' g g' x y = record {
  grows = test-grows program p f g x.grows y.grows;
  grows' = test-grows program p f' g' x.grows' y.grows';
  two = λ t u t' u' r e h c.
      test_out program t (test t.state.cells p) f g e λ b k.
      test_out program u (test u.state.cells p) f' g' h λ d m.
      let z : Compat (noted b t) (noted d u) =
      compat-back (side-grows b f g x.grows y.grows (noted b t) t' k) (side-grows d f' g' x.grows' y.grows' (noted d u) u' m) c in
      let q : b ≡ d = heads b d t u z r.log in
      (side-good b f f' g g' x y).two (noted b t) (noted d u) t' u'
      (record { same = r.same; sized = r.sized; sized' = r.sized'; log = cc (r.log, q) }) k (rw q m) c;
}

-- ---- pieces that test nothing

on-good : Good (λ t. on t) (λ t. on t)
on-good = record {
  grows = λ t t' e. record { new = []; is = ap (λ x. x.tests) (sym (on-inj e)) };
  grows' = λ t t' e. record { new = []; is = ap (λ x. x.tests) (sym (on-inj e)) };
  two = λ t u t' u' r e h c. rw (← on-inj e, ← on-inj h) r;
}

end-good : (n m place place' : ℕ) → Good (λ t. end n place t) (λ t. end m place' t)
end-good n m place place' = record { grows = λ t t' e. end≢on e; grows' = λ t t' e. end≢on e; two = λ t u t' u' r e h c. end≢on e }

-- the state and the tests stay
record Stays (t t' : Tally) : Type 0 where
  state : t.state ≡ t'.state
  tests : t.tests ≡ t'.tests

paid-stays : (budget place : ℕ) (t t' : Tally) → paid budget place t ≡ on t' → Stays t t'
unfolding paid
paid-stays budget place t t' e = cases (ltb t.steps budget)
    (λ c. let k = on-inj (rw (c, paid) at e) in record { state = ap (λ x. x.state) k; tests = ap (λ x. x.tests) k })
    (λ c. end≢on (rw (c, paid) at e))

stays-grown : {t t' : Tally} → Stays t t' → Grown t t'
stays-grown s = record { new = []; is = sym s.tests }

stays-rel : (t u t' u' : Tally) → Rel t u → Stays t t' → Stays u u' → Rel t' u'
stays-rel t u t' u' r a b = record {
  same = rw (← a.state, ← b.state) r.same;
  sized = rw (← a.state) r.sized;
  sized' = rw (← b.state) r.sized';
  log = sym a.tests ∙ r.log ∙ b.tests;
}

paid-good : (budget budget' place : ℕ) → Good (λ t. paid budget place t) (λ t. paid budget' place t)
paid-good budget budget' place = record {
  grows = λ t t' e. stays-grown (paid-stays budget place t t' e);
  grows' = λ t t' e. stays-grown (paid-stays budget' place t t' e);
  two = λ t u t' u' r e h c. stays-rel t u t' u' r (paid-stays budget place t t' e) (paid-stays budget' place u u' h);
}

-- ---- while

-- one turn more, and the rest
abbrev turn : (Tally → Out) → ℕ → ℕ → (Tally → Out) → Tally → Out
turn body budget place rest u = then_out (body u) λ w. then_out (paid budget place w) λ z. rest z

turns-grows : (body : Tally → Out) (program : List ℤ) (budget place : ℕ) (p : List ℤ) → Grows body → (fuel : ℕ) → Grows (λ t. turns body program budget place p fuel t)
unfolding turns
turns-grows body program budget place p a zero = (end-good 5 5 place place).grows
turns-grows body program budget place p a (suc fuel) =
    test-grows program p (turn body budget place (λ z. turns body program budget place p fuel z)) (λ u. on u)
    (then_grows body _ a (then_grows (λ t. paid budget place t) _ (paid-good budget budget place).grows (turns-grows body program budget place p a fuel)))
    on-good.grows

turns-good : (body body' : Tally → Out) (program : List ℤ) (budget budget' place : ℕ) (p : List ℤ) → Good body body' → (fuel fuel' : ℕ)
    → Good (λ t. turns body program budget place p fuel t) (λ t. turns body' program budget' place p fuel' t)
unfolding turns
turns-good body body' program budget budget' place p a zero fuel' = record {
  grows = λ t t' e. end≢on e;
  grows' = turns-grows body' program budget' place p a.grows' fuel';
  two = λ t u t' u' r e h c. end≢on e;
}
turns-good body body' program budget budget' place p a (suc fuel) zero = record {
  grows = turns-grows body program budget place p a.grows (suc fuel);
  grows' = λ t t' e. end≢on e;
  two = λ t u t' u' r e h c. end≢on h;
}
turns-good body body' program budget budget' place p a (suc fuel) (suc fuel') =
    test_good program p (turn body budget place (λ z. turns body program budget place p fuel z)) (turn body' budget' place (λ z. turns body' program budget' place p fuel' z)) (λ u. on u) (λ u. on u)
    (then-good body body' _ _ a
    (then-good (λ t. paid budget place t) (λ t. paid budget' place t) _ _ (paid-good budget budget' place) (turns-good body body' program budget budget' place p a fuel fuel')))
    on-good

-- ---- statements that hold no block

taken_out {ℓ} : {X : Type ℓ} {t' : Tally} (program : List ℤ) (t : Tally) (r : Res Left) → taken program t r ≡ on t' → ((l : Left) → r ≡ got l → l.state ≡ t'.state → t.tests ≡ t'.tests → X) → X
unfolding taken
taken_out program t (got l) e k = k l refl (ap (λ x. x.state) (on-inj e)) (ap (λ x. x.tests) (on-inj e))
taken_out program t (stop n) e k = end≢on e

simple-good : (program : List ℤ) (h : State → List ℤ → Res Left) → Simple h → Good (λ t. taken program t (h t.state t.unread)) (λ t. taken program t (h t.state t.unread))
simple-good program h s = record {
  grows = still;
  grows' = still;
  two = λ t u t' u' r e g c.
      taken_out program t (h t.state t.unread) e λ l e1 q k.
      taken_out program u (h u.state u.unread) g λ m g1 q' k'.
      record {
        same = rw (← q, ← q') (s.two t.state u.state t.unread u.unread l m r.same r.sized r.sized' e1 g1);
        sized = rw (← q) (s.sized t.state t.unread l r.sized e1);
        sized' = rw (← q') (s.sized u.state u.unread m r.sized' g1);
        log = sym k ∙ r.log ∙ k';
      };
}
  where
    still : Grows (λ t. taken program t (h t.state t.unread))
    still t t' e = taken_out program t (h t.state t.unread) e λ l e1 q k. record { new = []; is = sym k }

-- ---- blocks

module _ (program : List ℤ) (budget budget' : ℕ) where
  module _ (block block' : List ℤ → Tally → Out) (b : (q : List ℤ) → Good (block q) (block' q)) (past : List ℤ → List ℤ) where
    verb-good : (p : List ℤ) (v : Verb) → Good (λ t. do_verb block past program budget p v t) (λ t. do_verb block' past program budget' p v t)
    unfolding do_verb
    verb-good p skip = simple-good program (λ S ws. do_simple program p S ws skip) (simple program p skip)
    verb-good p assign = simple-good program (λ S ws. do_simple program p S ws assign) (simple program p assign)
    verb-good p new = simple-good program (λ S ws. do_simple program p S ws new) (simple program p new)
    verb-good p always = simple-good program (λ S ws. do_simple program p S ws always) (simple program p always)
    verb-good p once = simple-good program (λ S ws. do_simple program p S ws once) (simple program p once)
    verb-good p always_same = simple-good program (λ S ws. do_simple program p S ws always_same) (simple program p always_same)
    verb-good p once_same = simple-good program (λ S ws. do_simple program p S ws once_same) (simple program p once_same)
    verb-good p branch = test_good program (drop 1 p) _ _ _ _ (b (past_test p)) (b (past (past_test p)))
    verb-good p loop = turns-good _ _ program budget budget' (position_of program p) (drop 1 p) (b (past_test p)) (suc budget) (suc budget')
    verb-good p no_verb = end-good 2 2 (position_of program p) (position_of program p)

    statement-good : (p : List ℤ) → Good (λ t. do_statement block past program budget p t) (λ t. do_statement block' past program budget' p t)
    unfolding do_statement
    statement-good p =
        then-good (λ t. paid budget (position_of program p) t) (λ t. paid budget' (position_of program p) t) _ _
        (paid-good budget budget' (position_of program p)) (verb-good p (verb_of (number_at p 0)))

  statements-good : (block block' : List ℤ → Tally → Out) → ((q : List ℤ) → Good (block q) (block' q)) → (d n : ℕ) (p : List ℤ)
      → Good (λ t. do_statements block d program budget n p t) (λ t. do_statements block' d program budget' n p t)
  unfolding do_statements
  statements-good block block' b d zero p = on-good
  statements-good block block' b d (suc n) p =
      then-good _ _ _ _ (statement-good block block' b (λ q. after (read_block d q)) p) (statements-good block block' b d n (after (read_statement d p)))

  block-good : (d : ℕ) (p : List ℤ) → Good (λ t. do_block d program budget p t) (λ t. do_block d program budget' p t)
  unfolding do_block
  block-good zero p = end-good 2 2 (position_of program p) (position_of program p)
  block-good (suc d) p =
      either (number 0 most_statements p)
      (λ x e. rw (e, do_block) (statements-good (λ q u. do_block d program budget q u) (λ q u. do_block d program budget' q u) (λ q. block-good d q) d x.0 x.1))
      (λ q e. rw (e, do_block) (end-good 2 2 (position_of program q) (position_of program q)))

  -- Two runs of one block, from states of one structure, with any proposals and budgets:
  -- if both come through, and their tests came out alike, they leave states of one structure.
  pub blocks-same : (d : ℕ) (p : List ℤ) (t u t' u' : Tally) → SameState t.state u.state → Sized t.state.cells → Sized u.state.cells → t.tests ≡ u.tests
      → do_block d program budget p t ≡ on t' → do_block d program budget' p u ≡ on u' → t'.tests ≡ u'.tests → SameState t'.state u'.state
  blocks-same d p t u t' u' s i j l e h k =
      ((block-good d p).two t u t' u' (record { same = s; sized = i; sized' = j; log = l }) e h (record { one = []; two = []; meet = k })).same
