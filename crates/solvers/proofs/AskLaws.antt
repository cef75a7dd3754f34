-- What the statement with both slices comes to, and what the call hands back: the rules' answer, whole. Assumes nothing.
use mathlib.Core.Path.{◌≡◌, refl, sym, ap, ◌∙◌}
use mathlib.Core.Bool.{Bool, true, false, cond}
use mathlib.Core.List.{List, [], ◌∷◌}
use Prim.Native.Nat.{ℕ, ◌-◌, ◌≤◌}
use native.Mathlib.Omega.{arith}
use lib.IntN.{ℤ, pos}
use lib.ListN.{length, take, drop}
use lib.Seq.{take_all}
use Rattle.std.specs.Prelude.{Result, Ok, Err}
use Rattle.words.specs.Words.{number_of, number_at, word_of}
use Rattle.words.specs.Answer.{Answer, got, stop}
use Rattle.words.proofs.Laws.{word-is, number-first, number-drop}
use Rattle.words.proofs.AnswerLaws.{either}
use Rattle.tables.specs.declared.Tables.{Tables}
use Rattle.tables.proofs.SearchLaws.{cases}
use Rattle.program.specs.Forms.{verb_of}
use Rattle.program.specs.Reading.{read_program}
use Rattle.program.proofs.GrammarLaws.{program-sound}
use Rattle.rules.specs.State.{State, Fault, Res}
use Rattle.rules.specs.Proposals.{none?}
use Rattle.rules.specs.Statements.{Left}
use Rattle.rules.specs.Start.{Early, early, tables_at_start}
use Rattle.rules.specs.Solvers.{Given, accepting, refusing, refused_by, is_named, whole, alone, turns_down, then_second, tries, passing, ask}
use Rattle.rules.specs.Claims.Solvers.{slice_of}
use Rattle.rules.proofs.EndLaws.{Ends, ends-got, ends-stop, ends_on}
use Rattle.rules.proofs.RefusalLaws.{Refusal, told, unread, simple-refuses}
use Rattle.rules.proofs.StartClauses.{early-got, early-stop}
use Rattle.rules.proofs.SolverClauses.{alone-is, second-takes, second-stops, first-takes, first-turned, first_stops, no_second, ask-is}
use Rattle.proposals.proofs.FormLaws.{unlike}
use Rattle.program.specs.declared.Refusal.{Refusal as Fails}
use Rattle.phases.specs.declared.Done.{Done}
use Rattle.phases.specs.Told.{tables, state_in, Does}
use Rattle.phases.proofs.PhaseLaws.{not_done}
use Rattle.solvers.specs.declared.Solver.{Solver}
use Rattle.solvers.specs.declared.Solver.TheVariants.{First, Second}
use Rattle.solvers.specs.declared.Early.{Early as Stopped}
use Rattle.solvers.specs.Told.{given_by, opened_by, opening, Hands}

-- ---- a slice that is accepted, and the tables that it leaves; one that is empty

record Taken (Z : State) (m : Res Left) : Type 0 where
  left : Left
  is : m ≡ got left
  leaves : Z ≡ left.state

taken : {S Z : State} {r : Result Done Fails} {m : Res Left} {x : Done} → Does S Z r m → r ≡ Ok x → Taken Z m
taken {Z = Z} {m = m} d h =
    either {X = Taken Z m} m
    (λ l e. record { left = l; is = e; leaves = rw e at d.leaves })
    (λ f e. unlike (let y = sym h ∙ (rw e at d.is) in cc))

empty : (ws : List ℤ) → length ws ≡ 0 → none? ws ≡ true
empty [] z = refl
empty (w ∷ ws) z = absurd (omega arith)

not-empty : (ws : List ℤ) → (length ws ≡ 0 → ⊥) → none? ws ≡ false
not-empty [] z = absurd (z refl)
not-empty (w ∷ ws) z = refl

-- ---- the numbers of the start

abbrev Starts : Type 0 → Answer Early (Unit {0}) → Type 0
Starts G m = Ends (λ u. G) (λ e. e.number ≤ 4) m

early-starts : {G : Type 0} (n : ℕ) (m : Answer ℕ (Unit {0})) → n ≤ 4 → (m ≡ got tt → G) → Starts G (early n m)
early-starts n (got u) l k = rw (early-got n u) (ends-got (k refl))
early-starts n (stop place) l k = rw (early-stop n place) (ends-stop l)

tables_start : {G : Type 0} (program : List ℤ) (S : State) → G → Starts G (tables_at_start program S)
tables_start program S x =
    ends_on _ _ (early-starts 3 _ (omega arith) λ e. x)
    (ends_on _ _ (early-starts 3 _ (omega arith) λ e. x)
    (ends_on _ _ (early-starts 3 _ (omega arith) λ e. x)
    (ends_on _ _ (early-starts 4 _ (omega arith) λ e. x)
    (early-starts 4 _ (omega arith) λ e. x))))

-- ---- both slices, and the call

module _ (program : List ℤ) (word : ℤ) (first second : List ℤ) (S : State) where
  abbrev both : Given
  both = tries program word first second S (alone program (number_of word) S first)

  -- ---- the statement with the first slice, and then with the second

  module _ {Y : State} {r : Result Done Fails} (d : Does S Y r (alone program (number_of word) S first)) where
    pub tries-first : {x : Done} → r ≡ Ok x → given_by program word first second Y (Ok First) ≡ both
    tries-first h =
        let t = taken d h in
        ap (accepting word 1 first) t.leaves ∙ sym (first-takes program word second S first t.left) ∙ ap (tries program word first second S) (sym t.is)

    module _ {fault : Fault} (h : r ≡ Err fault) where
      stays : Y ≡ S
      stays = (not_done d h).stays

      stopped : tries program word first second S (stop fault) ≡ both
      stopped = ap (tries program word first second S) (sym (not_done d h).is)

      firsts : tries program word first second S (stop fault) ≡ refused_by program S fault → given_by program word first second Y (Err fault) ≡ both
      firsts x = ap (λ (X : State). refused_by program X fault) stays ∙ sym x ∙ stopped

      pub tries-neither : turns_down fault.number ≡ false → given_by program word first second Y (Err fault) ≡ both
      tries-neither e = firsts (first_stops program word second S first fault e)

      pub tries-empty : length second ≡ 0 → given_by program word first second Y (Err fault) ≡ both
      tries-empty z = firsts (no_second program word second S first fault (empty second z))

      -- the first is turned down, and the second has words: it is tried from the same tables
      module _ (e : turns_down fault.number ≡ true) (z : length second ≡ 0 → ⊥) {Z : State} {q : Result Done Fails} (g : Does Y Z q (alone program (number_of word) Y second)) where
        tried : Does S Z q (alone program (number_of word) S second)
        tried = rw stays at g

        turned : {m : Res Left} → alone program (number_of word) S second ≡ m → then_second program word second S m ≡ both
        turned x = ap (then_second program word second S) (sym x) ∙ sym (first-turned program word second S first fault e (not-empty second z)) ∙ stopped

        pub tries-second : {x : Done} → q ≡ Ok x → given_by program word first second Z (Ok Second) ≡ both
        tries-second i =
            let t = taken tried i in
            ap (accepting word 2 second) t.leaves ∙ sym (second-takes program word second S t.left) ∙ turned t.is

        pub tries-both : {other : Fault} → q ≡ Err other → given_by program word first second Z (Err other) ≡ both
        tries-both {other} i =
            let t = not_done tried i in
            ap (λ (X : State). refused_by program X other) t.stays ∙ sym (second-stops program word second S other) ∙ turned t.is

  -- ---- the numbers of a refusal

  alone-small : (ws : List ℤ) {f : Fault} → alone program (number_of word) S ws ≡ stop f → f.number ≤ 19
  alone-small ws {f} e = small ((simple-refuses program (drop (number_of word) program) S (whole ws) (verb_of (number_at (drop (number_of word) program) 0))).bad f (sym (alone-is program (number_of word) S ws) ∙ e))
    where
      small : {n : ℕ} → Refusal n → n ≤ 19
      small (told a b) = b
      small (unread x) = omega arith

  both_small : both.outcome ≤ 19
  both_small =
      either (alone program (number_of word) S first)
      (λ l e. rw (e, first-takes program word second S first l) (omega arith))
      (λ f e. cases (turns_down f.number)
      (λ c. cases (none? second)
      (λ z. rw (e, no_second program word second S first f z) (alone-small first e))
      (λ z. either (alone program (number_of word) S second)
      (λ l k. rw (e, first-turned program word second S first f c z, k, second-takes program word second S l) (omega arith))
      (λ g k. rw (e, first-turned program word second S first f c z, k, second-stops program word second S g) (alone-small second k))))
      (λ c. rw (e, first_stops program word second S first f c) (alone-small first e)))

  -- ---- the start

  -- what is opened goes on or refuses as what is given does
  record Alike (h : Result (Unit {0}) Stopped) (g : Given) : Type 0 where
    begins : h ≡ Ok tt → (g ≡ both) × (length program ≤ 4096)
    refuses : {f : Stopped} → h ≡ Err f → (g ≡ refusing S f.number f.place) × (f.number ≤ 4)

  begun : length program ≤ 4096 → Alike (Ok tt) both
  begun l = record { begins = λ h. (refl, l); refuses = λ h. unlike (cc) }

  refused : (n : ℕ) (place : ℤ) → n ≤ 4 → Alike (Err (record { number = n; place = place })) (refusing S n place)
  refused n place l = record {
    begins = λ h. unlike (cc);
    refuses = λ {f = f} h. let a : n ≡ f.number = cc in let b : place ≡ f.place = cc in (rw (a, b), rw (← a) l);
  }

  -- a test before it
  alike-on : {h : Result (Unit {0}) Stopped} {g : Given} (m : Answer Early (Unit {0})) → Starts (Alike h g) m → Alike (opened_by m h) (passing m S g)
  alike-on (got u) c = c.good u refl
  alike-on (stop e) c = refused e.number (pos e.place) (c.bad e refl)

  alike-cond : {h k : Result (Unit {0}) Stopped} {g e : Given} (b : Bool) → Alike h g → Alike k e → Alike (cond b h k) (cond b g e)
  alike-cond true x y = x
  alike-cond false x y = y

  alike : Alike (opening program word S) (ask program word first second S)
  alike =
      rw (ask-is program word first second S)
      (alike-on _ (early-starts 1 _ (omega arith) λ a.
      alike-on _ (early-starts 2 (read_program program) (omega arith) λ b.
      alike-cond (is_named program word) (alike-on _ (tables_start program S (begun (program-sound program b).short))) (refused 2 word (omega arith)))))

  -- ---- what the call hands back

  hands_none : {e : Given} {Z : State} {n : ℕ} {place : ℤ} {answer words : List ℤ} → e ≡ refusing Z n place → n ≤ 19 → answer ≡ word_of n ∷ place ∷ word_of 0 ∷ [] → words ≡ take 0 first
      → Hands first second Z answer words e
  hands_none {n = n} x l a w =
      rw (x, w) (record { answers = a ∙ rw (word-is n (omega arith), word-is 0 (omega arith)); leaves = refl; hands_back = refl; start = refl })

  hands-all : {e : Given} {Z : State} (solver : ℕ) {answer : List ℤ} → e ≡ accepting word solver (slice_of solver first second) Z → solver ≤ 2
      → answer ≡ word_of 0 ∷ word ∷ word_of solver ∷ [] → Hands first second Z answer (slice_of solver first second) e
  hands-all solver x l a =
      rw x
      (record {
        answers = a ∙ rw (word-is 0 (omega arith), word-is solver (omega arith));
        leaves = refl;
        hands_back = refl;
        start = sym (take_all (length (slice_of solver first second)) (slice_of solver first second) (omega arith));
      })

  -- the start is said of S₀, which is seen of the lent tables
  module _ {h : Result (Unit {0}) Stopped} (S₀ : State) (a : S₀.cells ≡ S.cells) (k : S₀.kept ≡ S.kept) (said : h ≡ opening program word S₀) where
    o : h ≡ opening program word S
    o = said ∙ ap (opening program word) (λ i. record { cells = a i; kept = k i })

    pub hands-early : {f : Stopped} {answer words : List ℤ} → h ≡ Err f → answer ≡ word_of f.number ∷ f.place ∷ word_of 0 ∷ [] → words ≡ take 0 first
        → Hands first second S answer words (ask program word first second S)
    hands-early x a w = let r = alike.refuses (sym o ∙ x) in hands_none r.0 (omega (arith, r.1)) a w

    module _ (b : h ≡ Ok tt) where
      begins : (ask program word first second S ≡ both) × (length program ≤ 4096)
      begins = alike.begins (sym o ∙ b)

      module _ {Z : State} {t : Result Solver Fails} (e : given_by program word first second Z t ≡ both) where
        pub hands-first : {answer : List ℤ} → t ≡ Ok First → answer ≡ word_of 0 ∷ word ∷ word_of 1 ∷ [] → Hands first second Z answer first (ask program word first second S)
        hands-first x a = hands-all 1 (begins.0 ∙ sym (rw x at e)) (omega arith) a

        pub hands-second : {answer : List ℤ} → t ≡ Ok Second → answer ≡ word_of 0 ∷ word ∷ word_of 2 ∷ [] → Hands first second Z answer second (ask program word first second S)
        hands-second x a = hands-all 2 (begins.0 ∙ sym (rw x at e)) (omega arith) a

        pub hands-neither : {f : Fails} {answer words : List ℤ} → t ≡ Err f → answer ≡ word_of f.number ∷ word_of (length program - f.word) ∷ word_of 0 ∷ [] → words ≡ take 0 first
            → Hands first second Z answer words (ask program word first second S)
        hands-neither {f} x a w =
            let y : refusing Z f.number (pos (length program - f.word)) ≡ both = rw x at e in
            let l : f.number ≤ 19 = rw (← y) at both_small in
            hands_none (begins.0 ∙ sym y) l (rw (word-is (length program - f.word) (omega (arith, begins.1))) at a) w

-- what is the solver's that the answer tells
pub of-solver : {A : Type 0} (k : ℕ) → k ≤ 2 → {a b : ℤ} {answer : List ℤ} → answer ≡ a ∷ b ∷ word_of k ∷ [] → (one two : A) → slice_of (number_at answer 2) one two ≡ slice_of k one two
of-solver k l {a} {b} x one two = rw (x, word-is k (omega arith), sym (number-drop (a ∷ b ∷ pos k ∷ []) 2 0) ∙ number-first (pos k) [])

-- the tables that were lent have what is lent of them
pub moved : (T : Tables) {e h k : List ℤ} → e ≡ T.environment.now → h ≡ T.heap.now → k ≡ T.constraints.now
    → {first second answer words : List ℤ} {x : Given} → Hands first second (state_in T) answer words x → Hands first second (tables e h k) answer words x
moved T a b c m = rw (a, b, c) m
