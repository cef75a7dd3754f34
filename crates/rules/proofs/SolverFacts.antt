-- What every answer to one statement with two proposals keeps to, and what holds after it. Assumes nothing.
use mathlib.Core.Path.{◌≡◌, refl, sym, ap, ◌∙◌}
use mathlib.Core.Logic.{inl, inr}
use Prim.Native.Nat.{ℕ, ◌≤◌}
use native.Mathlib.Omega.{arith}
use mathlib.Core.Bool.{Bool, true, ◌&&◌}
use mathlib.Core.List.{List, [], ◌∷◌, Memᴰ as OneOf}
use lib.IntN.{ℤ, pos}
use lib.ListN.{length}
use lib.Seq.{take_all}
use Rattle.words.specs.Words.{number_at}
use Rattle.words.proofs.Laws.{number-first}
use Rattle.tables.proofs.SearchLaws.{and_left, and_right}
use Rattle.program.specs.Forms.{verb_of}
use Rattle.program.specs.declared.Verb.{Verb}
use Rattle.program.specs.declared.Verb.TheVariants.{Skip as skip, Assign as assign, New as new, Always as always, Once as once, AlwaysSame as always_same, OnceSame as once_same, If as branch, While as loop, Unknown as no_verb}
use Rattle.program.proofs.FormLaws.{number_of_verb}
use Rattle.rules.specs.State.{State, Fault}
use Rattle.rules.specs.Identities.{member}
use Rattle.rules.specs.Statements.{Left, place_of}
use Rattle.rules.specs.Solvers.{Given}
use Rattle.rules.specs.Structure.{SameState}
use Rattle.rules.specs.Rules.Statements.{Steps, s_skip, s_gives, s_always, s_once, s_always_identity, s_once_identity, Refused}
use Rattle.rules.specs.Rules.Kept.{Stands}
use Rattle.rules.specs.Rules.Answers.{Unstarted, wrong, unreadable, unfit, broken, Passes}
use Rattle.rules.specs.Rules.Solvers.{Named, TurnsDown, fails, left_over, accepted, turned_down, refusal}
use Rattle.rules.specs.Rules.Solvers.{Tries, t_first, t_second, t_both, t_no_second, t_refused, Asked, unstarted, unnamed, started}
use Rattle.rules.specs.Steps.Holds.{Holds, StatementReads}
use Rattle.rules.specs.Steps.ByVerb.{refusals}
use Rattle.rules.specs.Claims.Room.{Stays}
use Rattle.rules.specs.Claims.Solvers.{slice_of, Kept, SolversAnswers, SolversStand, Moves, given, SolversMove, SolversStructure, SolversStay}
use Rattle.rules.proofs.ClassLaws.{member-cons, member-none, member-in}
use Rattle.rules.proofs.KeptReading.{Listed}
use Rattle.rules.proofs.PlacedLaws.{inner-range, Placed, plain, refused-placed, placed-range, placed-own, placed-inside}
use Rattle.rules.proofs.Structure.{state-refl}
use Rattle.rules.proofs.SameStatements.{simple}
use Rattle.rules.proofs.GivesRules.{gives-fit}
use Rattle.rules.proofs.ProposalLaws.{proposals-move}
use Rattle.rules.proofs.StepRules.{steps-rule}
use Rattle.rules.proofs.RefusedRules.{stops-listed, refused-rule}
use Rattle.rules.proofs.RunFacts.{unstarted-low}
use Rattle.rules.proofs.RoomLaws.{steps-stay, stays-self}
use Rattle.rules.proofs.StandClaims.{statements-stand}
use Rattle.rules.proofs.EntryRules.{passes-hold}
use Rattle.rules.proofs.EntrySteps.{there}
use Rattle.rules.proofs.SolverSteps.{named-at, named-stands, stood-verb}

-- ---- the numbers with which a statement 1 to 4 is refused

-- the numbers of the call
abbrev outcomes : List ℕ
outcomes = 0 ∷ 1 ∷ 2 ∷ 3 ∷ 4 ∷ 6 ∷ 7 ∷ 8 ∷ 9 ∷ 10 ∷ 12 ∷ 13 ∷ 14 ∷ 15 ∷ 16 ∷ 17 ∷ 18 ∷ 19 ∷ []

abbrev covered : List ℕ → Bool
covered [] = true
covered (n ∷ ns) = member n outcomes && covered ns

covered-known : (ns : List ℕ) → covered ns ≡ true → (n : ℕ) → member n ns ≡ true → OneOf n outcomes
covered-known [] c n e = member-none n e
covered-known (k ∷ ns) c n e =
    member-cons n k ns e
    (λ q. rw q (member-in k outcomes (and_left (member k outcomes) (covered ns) c)))
    (covered-known ns (and_right (member k outcomes) (covered ns) c) n)

verb-known : (v : Verb) → number_of_verb v ≤ 4 → (n : ℕ) → Listed v n → OneOf n outcomes
unfolding member
verb-known skip h = covered-known (refusals skip) refl
verb-known assign h = covered-known (refusals assign) refl
verb-known new h = covered-known (refusals new) refl
verb-known always h = covered-known (refusals always) refl
verb-known once h = covered-known (refusals once) refl
verb-known always_same h = absurd (omega arith)
verb-known once_same h = absurd (omega arith)
verb-known branch h = absurd (omega arith)
verb-known loop h = absurd (omega arith)
verb-known no_verb h = absurd (omega arith)

-- ---- how the call came out

-- a refusal by the statement at p, or by its proposal: its number and its place
record Blamed (program : List ℤ) (S : State) (p : List ℤ) (f : Fault) : Type 0 where
  known : OneOf f.number outcomes
  placed : Placed program S p f.number (place_of program f)

blamed-late : {program p : List ℤ} {S : State} {f : Fault} → Blamed program S p f → 5 ≤ f.number
blamed-late b = (placed-range b.placed).0

-- refused before the statement, accepted with the slice of one solver, or refused at the statement
data Came (program : List ℤ) (word : ℤ) (first second : List ℤ) (S : State) : Given → Type 0 where
  early : {n k : ℕ} → Unstarted program (pos 0) S n k → Came program word first second S (turned_down S n (pos k))
  unknown : ((p : List ℤ) → Named program word p → ⊥) → Came program word first second S (turned_down S 2 word)
  takes : {solver : ℕ} {p : List ℤ} {l : Left} → Passes program (pos 0) S → Named program word p → OneOf solver (1 ∷ 2 ∷ [])
      → Steps program S (slice_of solver first second) p l → Came program word first second S (accepted word solver (slice_of solver first second) l.state)
  blames : {p : List ℤ} {f : Fault} → Passes program (pos 0) S → Named program word p → Blamed program S p f → Came program word first second S (refusal program S f)

early-known : {program : List ℤ} {budget : ℤ} {S : State} {n k : ℕ} → Unstarted program budget S n k → OneOf n outcomes
early-known (wrong x) = there 1 outcomes (omega arith)
early-known (unreadable x e) = there 2 outcomes (omega arith)
early-known (unfit x y z) = there 3 outcomes (omega arith)
early-known (broken x y z w) = there 4 outcomes (omega arith)

module _ {program : List ℤ} {word : ℤ} {S : State} {p : List ℤ} (g : Passes program (pos 0) S) (n : Named program word p) where
  refused-blamed : {ws : List ℤ} {f : Fault} → Refused program S ws p f → Blamed program S p f
  refused-blamed {ws} {f} r =
      let s = named-stands g.1.0 n in
      let holds = passes-hold program (pos 0) S g in
      let v = stood-verb s in
      let low : number_of_verb (verb_of (number_at p 0)) ≤ 4 = omega (arith, s.most) in
      let e = (refused-rule program p S ws s.here.statement holds (omega arith) f).1 r in
      record {
        known = verb-known (verb_of (number_at p 0)) low f.number (stops-listed program S ws holds p s.here.statement (omega arith) f e);
        placed = refused-placed program g.1.0 S holds s.here r;
      }

  -- words left over are 16 at the statement's word
  turned-blamed : {ws : List ℤ} {f : Fault} → TurnsDown program S p ws f → Blamed program S p f
  turned-blamed (fails r o w) = refused-blamed r
  turned-blamed (left_over a x) = record { known = there 14 outcomes (omega arith); placed = plain refl refl }

  tries-came : {first second : List ℤ} {e : Given} → Tries program word first second S p e → Came program word first second S e
  tries-came (t_first a) = takes {solver = 1} g n (there 0 (1 ∷ 2 ∷ []) (omega arith)) a.steps
  tries-came (t_second t a) = takes {solver = 2} g n (there 1 (1 ∷ 2 ∷ []) (omega arith)) a.steps
  tries-came (t_both t u w) = blames g n (turned-blamed u)
  tries-came (t_no_second t w) = blames g n (turned-blamed t)
  tries-came (t_refused r o) = blames g n (refused-blamed r)

came : {program : List ℤ} {word : ℤ} {first second : List ℤ} {S : State} {e : Given} → Asked program word first second S e → Came program word first second S e
came (unstarted u w) = early u
came (unnamed m g w) = unknown w
came (started g n t) = tries-came g n t

-- ---- what the answer keeps to

module _ (program : List ℤ) (word : ℤ) (first second : List ℤ) (S : State) where
  kept : {e : Given} → Came program word first second S e → Kept program word first second S e
  kept (early {k = k} u) =
      let low = unstarted-low u in
      record {
        known = early-known u;
        accepts = λ z. absurd (omega (arith, low.0));
        refuses = λ h. refl;
        part = refl;
        early = λ h l. inl (k, (refl, u));
        at_statement = λ h w. absurd (omega (arith, low.1));
        inside = λ i. absurd (let r = inner-range i in omega (arith, r.0, low.1));
      }
  kept (unknown w) = record {
    known = there 2 outcomes (omega arith);
    accepts = λ z. absurd (omega arith);
    refuses = λ h. refl;
    part = refl;
    early = λ h l. inr (refl, (refl, w));
    at_statement = λ h x. absurd (omega arith);
    inside = λ i. absurd (let r = inner-range i in omega (arith, r.0));
  }
  kept (takes {solver = solver} g n o s) = record {
    known = there 0 outcomes (omega arith);
    accepts = λ z. (refl, (o, refl));
    refuses = λ h. absurd (omega arith);
    part = sym (take_all (length (slice_of solver first second)) (slice_of solver first second) (omega arith));
    early = λ h l. absurd (omega arith);
    at_statement = λ h w. absurd (omega arith);
    inside = λ i. absurd (let r = inner-range i in omega (arith, r.0));
  }
  kept (blames {p = p} {f = f} g n b) = record {
    known = b.known;
    accepts = λ z. absurd (omega (arith, blamed-late b));
    refuses = λ h. refl;
    part = refl;
    early = λ h l. absurd (omega (arith, blamed-late b));
    at_statement = λ h w. ap pos (placed-own b.placed w) ∙ sym (named-stands g.1.0 n).word-is;
    inside = λ i. (p, (n, (place_of program f, (refl, placed-inside b.placed i))));
  }

  stands : {e : Given} → (1 ≤ e.outcome → 5 ≤ e.outcome) → Came program word first second S e → Stands program e.state
  stands later (early u) = let low = unstarted-low u in absurd (let five = later low.0 in omega (arith, low.1))
  stands later (unknown w) = absurd (let five = later (omega arith) in omega arith)
  stands later (takes {solver = solver} {p = p} {l = l} g n o s) = statements-stand program p S (slice_of solver first second) l g.1.0 (named-at n) g.1.1 s
  stands later (blames g n b) = g.1.1

  stays : {e : Given} → Came program word first second S e → Stays S e.state
  stays (early u) = stays-self S
  stays (unknown w) = stays-self S
  stays (takes {solver = solver} {p = p} {l = l} g n o s) = steps-stay program p S (slice_of solver first second) l g.1.1.fit.sized g.1.1.long s
  stays (blames g n b) = stays-self S

pub solvers-answers : SolversAnswers
solvers-answers program word first second S e a = kept program word first second S (came a)

pub solvers-stand : SolversStand
solvers-stand program word first second S e later a = stands program word first second S later (came a)

pub solvers-stay : SolversStay
solvers-stay program word first second S e a = stays program word first second S (came a)

-- ---- what is accepted

module _ (program : List ℤ) (S : State) (holds : Holds program S) where
  -- a proposal moves the cells after the identity phase, or those of the state before
  proposed : {ws p : List ℤ} {l : Left} → StatementReads p → 1 ≤ number_at p 0 → number_at p 0 ≤ 4 → Steps program S ws p l → Moves program S p l.state
  proposed here a b (s_skip {p = p}) = absurd (omega (arith, number-first (pos 0) p))
  proposed {ws} here a b (s_gives {Y = Y} {Z = Z} {rest = rest} g h s) =
      given g h (proposals-move program S.kept _ Y ws Z rest (gives-fit program S holds g here h).sized s)
  proposed {ws} here a b (s_always {Z = Z} {rest = rest} s k) =
      Moves.always (proposals-move program S.kept _ S.cells ws Z rest holds.fit.sized s) k
  proposed {ws} here a b (s_once {Z = Z} {rest = rest} s) =
      Moves.once (proposals-move program S.kept _ S.cells ws Z rest holds.fit.sized s)
  proposed here a b (s_always_identity {p = p} x k) = absurd (omega (arith, number-first (pos 5) p))
  proposed here a b (s_once_identity {p = p} x) = absurd (omega (arith, number-first (pos 6) p))

  one-structure : {p ws us : List ℤ} {l m : Left} → StatementReads p → Steps program S ws p l → Steps program S us p m → SameState l.state m.state
  one-structure {p} {ws} {us} {l} {m} here s r =
      (simple program p (verb_of (number_at p 0))).two S S ws us l m (state-refl S) holds.fit.sized holds.fit.sized
      ((steps-rule program p S ws here holds l).1 s) ((steps-rule program p S us here holds m).1 r)

module _ (program : List ℤ) (word : ℤ) (S : State) where
  moves : {first second : List ℤ} {e : Given} → e.outcome ≡ 0 → Came program word first second S e → (p : List ℤ) × (Named program word p × Moves program S p e.state)
  moves z (early u) = let low = unstarted-low u in absurd (omega (arith, low.0))
  moves z (unknown w) = absurd (omega arith)
  moves z (takes {p = p} g n o s) =
      let v = named-stands g.1.0 n in
      (p, (n, proposed program S (passes-hold program (pos 0) S g) v.here.statement v.least v.most s))
  moves z (blames g n b) = absurd (omega (arith, blamed-late b))

  alike : {first second third fourth : List ℤ} {a b : Given} → Came program word first second S a → Came program word third fourth S b → a.outcome ≡ 0 → b.outcome ≡ 0
      → SameState a.state b.state
  alike (early u) y e f = let low = unstarted-low u in absurd (omega (arith, low.0))
  alike (unknown w) y e f = absurd (omega arith)
  alike (blames g n b) y e f = absurd (omega (arith, blamed-late b))
  alike (takes g n o s) (early u) e f = let low = unstarted-low u in absurd (omega (arith, low.0))
  alike (takes g n o s) (unknown w) e f = absurd (omega arith)
  alike (takes g n o s) (blames h m b) e f = absurd (omega (arith, blamed-late b))
  alike (takes g n o s) (takes h m q r) e f =
      let v = named-stands g.1.0 n in
      let w = named-stands h.1.0 m in
      one-structure program S (passes-hold program (pos 0) S g) v.here.statement s (rw (← w.part-is, v.part-is) at r)

pub solvers-move : SolversMove
solvers-move program word first second S e z a = moves program word S z (came a)

pub solvers-structure : SolversStructure
solvers-structure program word first second third fourth S a b x y e f = alike program word S (came x) (came y) e f
