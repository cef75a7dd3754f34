-- A statement that is named, with its proposal: where it stands, whether it comes to its proposal, and the words of one slice. Assumes nothing.
use mathlib.Core.Path.{◌≡◌, refl, sym, ap, ◌∙◌}
use Prim.Native.Nat.{ℕ, ◌+◌, ◌*◌, ◌≤◌}
use native.Mathlib.Omega.{arith}
use native.Mathlib.Decide.{ℕ_discrete}
use mathlib.Core.Bool.{Bool, true, false, true≢false, ◌&&◌}
use mathlib.Core.List.{List, [], ◌∷◌, Memᴰ as OneOf}
use Rattle.std.specs.Prelude.{Option}
use borrow.Author.Tests.{eqb-true, leb-true, lt-ltb, ltb-true}
use lib.Dec.{eqb, leb}
use lib.IntN.{ℤ, pos, negsuc}
use lib.ListN.{length, drop, length-drop}
use Rattle.words.specs.Words.{number_of, number_at}
use Rattle.words.proofs.Laws.{number-first, number-there}
use Rattle.words.proofs.AnswerLaws.{either, stop≢got}
use Rattle.tables.specs.declared.Value.{Value}
use Rattle.tables.specs.Cells.{Cells}
use Rattle.tables.proofs.SearchLaws.{cases, and_left, and_right}
use Rattle.program.specs.Forms.{verb_of}
use Rattle.program.specs.Grammar.{Program}
use Rattle.program.proofs.FormLaws.{number_of_verb, verb-number}
use Rattle.rules.specs.State.{State, Fault, refused}
use Rattle.rules.specs.Constraints.{Part}
use Rattle.rules.specs.Proposals.{Entry, Asked, proposal}
use Rattle.rules.specs.Statements.{Left, position_of}
use Rattle.rules.specs.Solvers.{has_more, turns_down}
use Rattle.rules.specs.Rules.Expressions.{Meets, Unmade, Untested}
use Rattle.rules.specs.Rules.Constraints.{PartMeets, PartsMeet, ConstraintMeets, CountedAre, Uncounted}
use Rattle.rules.specs.Rules.Identities.{Unsame, PhaseFails}
use Rattle.rules.specs.Rules.Proposals.{EntriesAre, no_more, next, Formed, formed, Settles, Fails, no_words, not_formed, not_allowed, not_needed, not_met, Unsettled, uncounted, no_room, turned-down}
use Rattle.rules.specs.Rules.Statements.{leaves, FieldsMeet, Steps, s_skip, s_gives, s_always, s_once, s_always_identity, s_once_identity}
use Rattle.rules.specs.Rules.Statements.{Refused, f_value, f_target, f_field, f_full, f_phase, f_given, f_always, f_once, f_identity, f_unkept}
use Rattle.rules.specs.Rules.Kept.{AtStatement, at}
use Rattle.rules.specs.Rules.Solvers.{Named, named, Asks, turning, TurnsDown, fails, left_over}
use Rattle.rules.specs.Steps.Holds.{StatementThere}
use Rattle.rules.proofs.EntryLaws.{formed-iff}
use Rattle.rules.proofs.StatementWords.{known}
use Rattle.rules.proofs.ProgramCode.{statement-there, there-verb}
use Rattle.rules.proofs.SolverClauses.{more-is}

-- ---- where it stands

-- the statement at p is one of 1 to 4, and word is its word
pub record Stood (program : List ℤ) (word : ℤ) (p : List ℤ) : Type 0 where
  pub here : StatementThere program p
  pub least : 1 ≤ number_at p 0
  pub most : number_at p 0 ≤ 4
  pub word-is : word ≡ pos (position_of program p)
  pub part-is : drop (number_of word) program ≡ p

pub named-at : {program p : List ℤ} {word : ℤ} → Named program word p → AtStatement program p
named-at (named {k = k} a b e) = at k e

pub named-stands : {program p : List ℤ} {word : ℤ} → Program program → Named program word p → Stood program word p
named-stands {program} g (named {k = k} a b e) =
    let v = there-verb k g e in
    let l = number-there (drop k program) 0 (omega (arith, v)) in
    record {
      here = statement-there g (at k e);
      least = rw v a;
      most = rw v b;
      word-is = ap pos (omega (arith, length-drop k program, l));
      part-is = refl;
    }

-- its verb is that number
pub stood-verb : {program p : List ℤ} {word : ℤ} → Stood program word p → number_at p 0 ≡ number_of_verb (verb_of (number_at p 0))
stood-verb {p = p} s = verb-number (number_at p 0) (known p s.here.statement)

-- ---- the numbers that turn a proposal down, and those of the statement itself

pub turning-sound : (n : ℕ) → turns_down n ≡ true → OneOf n turning
unfolding turns_down
turning-sound n e = cases (eqb n 6)
    (λ c. OneOf.head (eqb-true n 6 c))
    (λ c. let h : (leb 16 n && leb n 19) ≡ true = rw c at e in
    OneOf.tail (among (leb-true 16 n (and_left (leb 16 n) (leb n 19) h)) (leb-true n 19 (and_right (leb 16 n) (leb n 19) h))))
  where
    among : 16 ≤ n → n ≤ 19 → OneOf n (16 ∷ 17 ∷ 18 ∷ 19 ∷ [])
    among a b = go (ℕ_discrete n 16) (ℕ_discrete n 17) (ℕ_discrete n 18)
      where
        go : Dec (n ≡ 16) → Dec (n ≡ 17) → Dec (n ≡ 18) → OneOf n (16 ∷ 17 ∷ 18 ∷ 19 ∷ [])
        go (yes e) f g = OneOf.head e
        go (no d) (yes e) g = OneOf.tail (OneOf.head e)
        go (no d) (no f) (yes e) = OneOf.tail (OneOf.tail (OneOf.head e))
        go (no d) (no f) (no g) = let e : n ≡ 19 = omega arith in OneOf.tail (OneOf.tail (OneOf.tail (OneOf.head e)))

pub turning-complete : {n : ℕ} → OneOf n turning → turns_down n ≡ true
unfolding turns_down
turning-complete (OneOf.head e) = rw e
turning-complete (OneOf.tail (OneOf.head e)) = rw e
turning-complete (OneOf.tail (OneOf.tail (OneOf.head e))) = rw e
turning-complete (OneOf.tail (OneOf.tail (OneOf.tail (OneOf.head e)))) = rw e
turning-complete (OneOf.tail (OneOf.tail (OneOf.tail (OneOf.tail (OneOf.head e))))) = rw e
turning-complete (OneOf.tail (OneOf.tail (OneOf.tail (OneOf.tail (OneOf.tail i))))) = elim i [ ]

-- a number that is none of them
pub not-turning : {n : ℕ} → turns_down n ≡ false → OneOf n turning → ⊥
not-turning e o = true≢false (sym (turning-complete o) ∙ e)

pub other-number : {n : ℕ} → (OneOf n turning → ⊥) → turns_down n ≡ false
other-number {n} h = cases (turns_down n) (λ c. absurd (h (turning-sound n c))) (λ c. c)

unmade-own : {S : Cells} {c : Bool} {d n : ℕ} {p : List ℤ} → Unmade S c d p n → turns_down n ≡ false
unfolding turns_down
unmade-own (Unmade.kinds a b x y never) = refl
unmade-own (Unmade.range x y g never) = refl

meets-own : {S : Cells} {c : Bool} {d : ℕ} {p : List ℤ} {f : Fault} → Meets S c d p f → turns_down f.number ≡ false
unfolding turns_down
meets-own (Meets.m_path l) = refl
meets-own (Meets.m_left a b m) = meets-own m
meets-own (Meets.m_right a b x m) = meets-own m
meets-own (Meets.m_here u) = unmade-own u
meets-own (Meets.m_one l) = refl
meets-own (Meets.m_other h l) = refl

fields-own : {S : Cells} {n : ℕ} {p : List ℤ} {f : Fault} → FieldsMeet S n p f → turns_down f.number ≡ false
fields-own (FieldsMeet.first h m) = meets-own m
fields-own (FieldsMeet.later h w m) = fields-own m

untested-own : {S : Cells} {c : Bool} {w p : List ℤ} {f : Fault} → Untested S c w p f → turns_down f.number ≡ false
unfolding turns_down
untested-own (Untested.meets m) = meets-own m
untested-own (Untested.no_boolean x h) = refl

part-own : {S : Cells} {p : List ℤ} {f : Fault} → PartMeets S p f → turns_down f.number ≡ false
part-own (PartMeets.part a b u) = untested-own u

parts-own : {S : Cells} {m : ℕ} {p : List ℤ} {f : Fault} → PartsMeet S m p f → turns_down f.number ≡ false
parts-own (PartsMeet.first m) = part-own m
parts-own (PartsMeet.later x m) = parts-own m

constraint-own : {S : Cells} {p : List ℤ} {f : Fault} → ConstraintMeets S p f → turns_down f.number ≡ false
constraint-own (ConstraintMeets.constraint a b m) = parts-own m

uncounted-own : {program kept : List ℤ} {S : Cells} {own : Option (List ℤ)} {f : Fault} → Uncounted program kept S own f → turns_down f.number ≡ false
unfolding turns_down
uncounted-own (Uncounted.own m) = constraint-own m
uncounted-own (Uncounted.kept a b c) = refl

phase-own : {program kept : List ℤ} {before : Cells} {target n : ℕ} {prefix : List ℕ} {v : Value} → PhaseFails program kept before target prefix v n → turns_down n ≡ false
unfolding turns_down
phase-own (PhaseFails.no_node a b c) = refl
phase-own (PhaseFails.clash a b c d e) = refl

unsame-own : {S : Cells} {word p : List ℤ} {f : Fault} → Unsame S word p f → turns_down f.number ≡ false
unfolding turns_down
unsame-own (Unsame.one_lost l) = refl
unsame-own (Unsame.other_lost h l) = refl
unsame-own (Unsame.one_plain a b c) = refl
unsame-own (Unsame.other_plain a b c d) = refl
unsame-own (Unsame.differ a b c d e) = refl

pub fails-turning : {program kept : List ℤ} {asked : Asked} {S : Cells} {before : List Part} {ws : List ℤ} {n : ℕ} → Fails program kept asked S before ws n → turns_down n ≡ true
unfolding turns_down
fails-turning (no_words e) = refl
fails-turning (not_formed a b) = refl
fails-turning (not_allowed a b) = refl
fails-turning (not_needed a b c) = refl
fails-turning (not_met a b c d e f) = refl

-- ---- the statement comes to its proposal: what it asks of one, in which state, and that a proposal that fails is refused with its number

pub record Comes (program : List ℤ) (S : State) (p : List ℤ) : Type 0 where
  pub asked : Asked
  pub cells : Cells
  pub before : List Part
  pub counts : CountedAre program S.kept cells asked.own before
  pub room : asked.room ≡ true
  pub refuses : (us : List ℤ) (n : ℕ) → Fails program S.kept asked cells before us n → Refused program S us p (refused n p)

module _ {program : List ℤ} {S : State} {p : List ℤ} (c : Comes program S p) where
  pub comes-asks : Asks program S p
  comes-asks = c.refuses [] 6 (no_words refl)

  -- words that are no proposal are 16
  pub comes-unformed : (us : List ℤ) → (us ≡ [] → ⊥) → ((es : List Entry) (rest : List ℤ) → Formed us es rest → ⊥) → Refused program S us p (refused 16 p)
  comes-unformed us a b = c.refuses us 16 (not_formed a b)

-- what is not settled is refused
abbrev Refusing : List ℤ → State → List ℤ → Asked → Cells → Type 0
Refusing program S p asked Y = (us : List ℤ) (f : Fault) → Unsettled program S.kept asked p Y us f → Refused program S us p f

abbrev counted-comes : {program p : List ℤ} {S : State} {asked : Asked} {Y : Cells} {before : List Part} → CountedAre program S.kept Y asked.own before → asked.room ≡ true
    → Refusing program S p asked Y → Comes program S p
counted-comes {p = p} {asked = asked} {Y = Y} {before = before} c r k = record {
  asked = asked;
  cells = Y;
  before = before;
  counts = c;
  room = r;
  refuses = λ us n x. k us (refused n p) (turned-down c r x);
}

-- an accepted statement came to it, and took its words off the front
pub record Took (program : List ℤ) (S : State) (ws p : List ℤ) (l : Left) : Type 0 where
  pub comes : Comes program S p
  pub es : List Entry
  pub formed : Formed ws es l.unread

settles-took : {program ws p kept rest : List ℤ} {S : State} {asked : Asked} {Y Z : Cells} → Settles program S.kept asked Y ws Z rest
    → Refusing program S p asked Y → Took program S ws p (leaves Z kept rest 1)
settles-took s k = record { comes = counted-comes s.counts s.room k; es = s.es; formed = s.formed }

pub steps-took : {program ws p : List ℤ} {S : State} {l : Left} → 1 ≤ number_at p 0 → number_at p 0 ≤ 4 → Steps program S ws p l → Took program S ws p l
steps-took a b (s_skip {p = p}) = absurd (omega (arith, number-first (pos 0) p))
steps-took a b (s_gives g phase s) = settles-took s (λ us f u. f_given g phase u)
steps-took a b (s_always {kept = kept} s k) = settles-took s (λ us f u. f_always (λ e. (kept, k), λ e. refl) u)
steps-took a b (s_once s) = settles-took s (λ us f u. f_once u)
steps-took a b (s_always_identity {p = p} s k) = absurd (omega (arith, number-first (pos 5) p))
steps-took a b (s_once_identity {p = p} s) = absurd (omega (arith, number-first (pos 6) p))

-- ---- a refusal is the statement's own, whatever is proposed, or its proposal's

pub data Whose (program : List ℤ) (S : State) (ws p : List ℤ) : Fault → Type 0 where
  its_own : {f : Fault} → turns_down f.number ≡ false → ((us : List ℤ) → Refused program S us p f) → Whose program S ws p f
  proposals : {n : ℕ} (c : Comes program S p) → Fails program S.kept c.asked c.cells c.before ws n → Whose program S ws p (refused n p)

unsettled-whose : {program ws p : List ℤ} {S : State} {f : Fault} {asked : Asked} {Y : Cells} → Unsettled program S.kept asked p Y ws f
    → Refusing program S p asked Y → Whose program S ws p f
unfolding turns_down
unsettled-whose {f = f} (uncounted u) k = its_own (uncounted-own u) (λ us. k us f (uncounted u))
unsettled-whose {p = p} (no_room c r) k = its_own refl (λ us. k us (refused 14 p) (no_room c r))
unsettled-whose (turned-down c r x) k = proposals (counted-comes c r k) x

pub whose : {program ws p : List ℤ} {S : State} {f : Fault} → Refused program S ws p f → Whose program S ws p f
unfolding turns_down
whose (f_value m) = its_own (meets-own m) (λ us. f_value m)
whose (f_target v a) = its_own refl (λ us. f_target v a)
whose (f_field a b m) = its_own (fields-own m) (λ us. f_field a b m)
whose (f_full a b c d) = its_own refl (λ us. f_full a b c d)
whose (f_phase g x) = its_own (phase-own x) (λ us. f_phase g x)
whose (f_given g phase u) = unsettled-whose u (λ us h v. f_given g phase v)
whose (f_always r u) = unsettled-whose u (λ us h v. f_always r v)
whose (f_once u) = unsettled-whose u (λ us h v. f_once v)
whose (f_identity a b u) = its_own (unsame-own u) (λ us. f_identity a b u)
whose (f_unkept a b) = its_own refl (λ us. f_unkept a b)

-- refused by a number of a proposal, it came to it
pub turned-comes : {program ws p : List ℤ} {S : State} {f : Fault} → Refused program S ws p f → OneOf f.number turning → Comes program S p
turned-comes r o = go (whose r) o
  where
    go : {program ws p : List ℤ} {S : State} {f : Fault} → Whose program S ws p f → OneOf f.number turning → Comes program S p
    go (its_own e h) o = absurd (not-turning e o)
    go (proposals c x) o = c

-- one that is its own comes whatever is proposed
pub own-always : {program ws p : List ℤ} {S : State} {f : Fault} → Refused program S ws p f → (OneOf f.number turning → ⊥) → (us : List ℤ) → Refused program S us p f
own-always r other = go (whose r) other
  where
    go : {program ws p : List ℤ} {S : State} {f : Fault} → Whose program S ws p f → (OneOf f.number turning → ⊥) → (us : List ℤ) → Refused program S us p f
    go (its_own t h) other = h
    go (proposals {n = m} c x) other = absurd (other (turning-sound m (fails-turning x)))

-- ---- the words of one slice

entries-length : {low n : ℕ} {ws rest : List ℤ} {es : List Entry} → EntriesAre low n ws es rest → length ws ≡ 2 * n + length rest
entries-length no_more = omega arith
entries-length (next a b others) = let e = entries-length others in omega arith

pub formed-length : {ws rest : List ℤ} {es : List Entry} → Formed ws es rest → length ws ≡ 2 * number_at ws 0 + 1 + length rest
formed-length (formed {n = n} {ws = ws} is) = omega (arith, number-first (pos n) ws, entries-length is)

pub formed-whole : {ws rest : List ℤ} {es : List Entry} → has_more ws ≡ false → Formed ws es rest → rest ≡ []
formed-whole {ws} {rest} h f = go rest (formed-length f)
  where
    go : (r : List ℤ) → length ws ≡ 2 * number_at ws 0 + 1 + length r → r ≡ []
    go [] e = refl
    go (w ∷ r) e = absurd (true≢false (sym (lt-ltb (2 * number_at ws 0 + 1) (length ws) (omega arith)) ∙ sym (more-is ws) ∙ h))

pub formed-more : {ws rest : List ℤ} {es : List Entry} → has_more ws ≡ true → Formed ws es rest → rest ≡ [] → ⊥
formed-more {ws} h f e =
    let l = ltb-true (2 * number_at ws 0 + 1) (length ws) (sym (more-is ws) ∙ h) in
    omega (arith, formed-length f, ap length e)

-- a slice with words left over has words
pub more-words : {ws : List ℤ} → has_more ws ≡ true → ws ≡ [] → ⊥
more-words {ws} h e = let l = ltb-true (2 * number_at ws 0 + 1) (length ws) (sym (more-is ws) ∙ h) in omega (arith, ap length e)

-- the words that stand for such a slice are no proposal
pub never-formed : (es : List Entry) (rest : List ℤ) → Formed (negsuc 0 ∷ []) es rest → ⊥
never-formed es rest f = go f refl
  where
    go : {ws : List ℤ} → Formed ws es rest → ws ≡ negsuc 0 ∷ [] → ⊥
    go (formed is) e = let z : ◌≡◌ {A = ℕ} 0 1 = cc in omega arith

-- a slice is well formed or it is not
pub data Shaped (ws : List ℤ) : Type 0 where
  is-formed : (es : List Entry) (rest : List ℤ) → Formed ws es rest → Shaped ws
  unformed : ((es : List Entry) (rest : List ℤ) → Formed ws es rest → ⊥) → Shaped ws

pub shaped : (ws : List ℤ) → Shaped ws
shaped ws = either (proposal ws)
    (λ x e. is-formed x.0 x.1 ((formed-iff ws x.0 x.1).0 e))
    (λ k e. unformed (λ es rest f. stop≢got (sym e ∙ (formed-iff ws es rest).1 f)))

-- words that are no proposal fail with 16
pub fails-unformed : {program kept : List ℤ} {asked : Asked} {S : Cells} {before : List Part} {ws : List ℤ} {n : ℕ} → (ws ≡ [] → ⊥)
    → ((es : List Entry) (rest : List ℤ) → Formed ws es rest → ⊥) → Fails program kept asked S before ws n → n ≡ 16
fails-unformed h k (no_words e) = absurd (h e)
fails-unformed h k (not_formed a b) = refl
fails-unformed h k (not_allowed {es} {rest} f a) = absurd (k es rest f)
fails-unformed h k (not_needed {es} {rest} f a b) = absurd (k es rest f)
fails-unformed h k (not_met {es} {rest} f a b c d e) = absurd (k es rest f)

-- ---- what turns a slice down

pub six : OneOf 6 turning
six = OneOf.head refl

pub sixteen : OneOf 16 turning
sixteen = OneOf.tail (OneOf.head refl)

pub turned-number : {program p ws : List ℤ} {S : State} {f : Fault} → TurnsDown program S p ws f → OneOf f.number turning
turned-number (fails r t w) = t
turned-number (left_over a f) = sixteen

pub asks-comes : {program p : List ℤ} {S : State} → Asks program S p → Comes program S p
asks-comes a = turned-comes a six

pub turned-down-comes : {program p ws : List ℤ} {S : State} {f : Fault} → TurnsDown program S p ws f → Comes program S p
turned-down-comes (fails r t w) = turned-comes r t
turned-down-comes (left_over a f) = asks-comes a
