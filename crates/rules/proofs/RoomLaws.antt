-- No room is given back: the claims of specs/Claims/Room.antt. Assumes nothing.
use mathlib.Core.Path.{◌≡◌, refl, ◌∙◌}
use mathlib.Core.List.{List}
use Prim.Native.Nat.{ℕ, ◌≤◌, ◌<◌}
use native.Mathlib.Omega.{arith}
use native.Mathlib.Decide.{dec_lt}
use lib.IntN.{ℤ}
use lib.ListN.{length}
use Rattle.tables.specs.declared.Value.{Value}
use Rattle.tables.specs.declared.Sort.{Sort}
use Rattle.tables.specs.Sizes.{constraints_words}
use Rattle.tables.specs.Cells.{Cells, Sized}
use Rattle.tables.specs.Records.{record_count, field_count, label_at}
use Rattle.tables.specs.Kept.{most_kept, kept_count, position_at, with_position}
use Rattle.tables.proofs.FindLaws.{fields-same}
use Rattle.tables.proofs.KeptLaws.{keep-length, keep-full, keep-count, keep-count-other, keep-old, keep-position-other}
use Rattle.rules.specs.State.{State}
use Rattle.rules.specs.Proposals.{Asked}
use Rattle.rules.specs.Statements.{Left}
use Rattle.rules.specs.Start.{Ended}
use Rattle.rules.specs.Claims.Answers.{Reached, at_first, after_one}
use Rattle.rules.specs.Rules.Identities.{Phase}
use Rattle.rules.specs.Rules.Proposals.{Settles}
use Rattle.rules.specs.Rules.Statements.{Adds, Keeps, again, added, Gives, assigns, makes}
use Rattle.rules.specs.Rules.Statements.{Steps, s_skip, s_gives, s_once, s_always, s_once_identity, s_always_identity}
use Rattle.rules.specs.Rules.Answers.{Passes, Answered, unstarted, finished, stopped}
use Rattle.rules.specs.Claims.Room.{Stays, StepsStay, RunsStay}
use Rattle.rules.proofs.ProposalLaws.{proposals-move}
use Rattle.rules.proofs.KeepLaws.{same-sort}
use Rattle.rules.proofs.RunFacts.{answers}

-- ---- records

pub record RecordsStay (S Z : Cells) : Type 0 where
  count : record_count S.heap ≤ record_count Z.heap
  fields : (r : ℕ) → r < record_count S.heap → field_count Z.heap r ≡ field_count S.heap r
  labels : (r f : ℕ) → r < record_count S.heap → label_at Z.heap r f ≡ label_at S.heap r f

-- what becomes of an environment and a heap of their lengths
pub record Grows (S Z : Cells) : Type 0 where
  pub stay : RecordsStay S Z
  pub sized : Sized Z

records-trans : {S Y Z : Cells} → RecordsStay S Y → RecordsStay Y Z → RecordsStay S Z
records-trans a b = record {
  count = omega (arith, a.count, b.count);
  fields = λ r h. b.fields r (omega (arith, a.count)) ∙ a.fields r h;
  labels = λ r f h. b.labels r f (omega (arith, a.count)) ∙ a.labels r f h;
}

grows-trans : {S Y Z : Cells} → Grows S Y → Grows Y Z → Grows S Z
grows-trans a b = record { stay = records-trans a.stay b.stay; sized = b.sized }

records-self : (S : Cells) → RecordsStay S S
records-self S = record { count = omega arith; fields = λ r h. refl; labels = λ r f h. refl }

grows_self : (S : Cells) → Sized S → Grows S S
grows_self S z = record { stay = records-self S; sized = z }

-- the identity phase moves cells only
phase-grows : {program kept : List ℤ} {before now Y : Cells} {target : ℕ} {prefix : List ℕ} {v : Value} → Sized now → Phase program kept before now target prefix v Y → Grows now Y
phase-grows {now = now} {Y = Y} z h =
    let u = h.update in
    record {
      stay = record { count = rw u.records (omega arith); fields = λ r b. fields-same Y.heap now.heap r (u.counts r); labels = λ r f b. u.labels r f };
      sized = record { environment = u.environment_length ∙ z.environment; heap = u.heap_length ∙ z.heap };
    }

-- and so does a proposal
settles-grows : (program kept : List ℤ) (asked : Asked) (S : Cells) (ws : List ℤ) (Z : Cells) (rest : List ℤ) → Sized S → Settles program kept asked S ws Z rest → Grows S Z
settles-grows program kept asked S ws Z rest z s =
    let n = proposals-move program kept asked S ws Z rest z s in
    record {
      stay = record { count = rw n.records (omega arith); fields = λ r h. n.fields r; labels = λ r f h. n.labels r f };
      sized = record { environment = n.environment ∙ z.environment; heap = n.heap ∙ z.heap };
    }

-- a record more
new-grows : {S now : Cells} {fs : List (ℕ × Value)} → Sized S → Adds S fs now → Grows S now
new-grows {S} {now} z a = record {
  stay = record {
    count = rw a.records (omega arith);
    fields = λ r h. fields-same now.heap S.heap r (a.counts r (λ e. omega arith));
    labels = λ r f h. a.labels r f (λ e g. omega arith);
  };
  sized = record { environment = a.environment_length ∙ z.environment; heap = a.heap_length ∙ z.heap };
}

-- what an assignment or a new gives
gives-grows : {S N : Cells} {p : List ℤ} {target : ℕ} {prefix : List ℕ} {v : Value} → Sized S → Gives S p target prefix v N → Grows S N
gives-grows {S} z (assigns e w) = grows_self S z
gives-grows z (makes a b f room adds) = new-grows z adds

-- ---- kept positions

pub record PositionsStay (c d : List ℤ) : Type 0 where
  count : (s : Sort) → kept_count c s ≤ kept_count d s
  places : (s : Sort) (i : ℕ) → i < kept_count c s → position_at d s i ≡ position_at c s i

positions-self : (c : List ℤ) → PositionsStay c c
positions-self c = record { count = λ s. omega arith; places = λ s i h. refl }

positions-trans : {c d e : List ℤ} → PositionsStay c d → PositionsStay d e → PositionsStay c e
positions-trans a b = record { count = λ s. omega (arith, a.count s, b.count s); places = λ s i h. b.places s i (omega (arith, a.count s)) ∙ a.places s i h }

module _ (c : List ℤ) (s : Sort) (k : ℕ) (long : length c ≡ constraints_words) where
  with-stays : PositionsStay c (with_position c s k)
  with-stays = record { count = λ t. counts t (same-sort t s) (dec_lt (kept_count c s) (most_kept s)); places = λ t i h. place t i h (same-sort t s) }
    where
      counts : (t : Sort) → Dec (t ≡ s) → Dec (kept_count c s < most_kept s) → kept_count c t ≤ kept_count (with_position c s k) t
      counts t (yes e) (yes l) = rw (e, keep-count c s k long l) (omega arith)
      counts t (yes e) (no l) = rw (keep-full c s k (omega arith)) (omega arith)
      counts t (no n) d = rw (keep-count-other c s k t n) (omega arith)

      place : (t : Sort) (i : ℕ) → i < kept_count c t → Dec (t ≡ s) → position_at (with_position c s k) t i ≡ position_at c t i
      place t i h (yes e) = rw e (keep-old c s k i (rw e at h))
      place t i h (no n) = keep-position-other c s k t i n

keeps-stay : {c : List ℤ} {s : Sort} {k : ℕ} {d : List ℤ} → length c ≡ constraints_words → Keeps c s k d → PositionsStay c d
keeps-stay {c} long (again e) = positions-self c
keeps-stay {c} {s = s} {k = k} long (added e l) = with-stays c s k long

keeps-long : {c : List ℤ} {s : Sort} {k : ℕ} {d : List ℤ} → Keeps c s k d → length d ≡ length c
keeps-long (again e) = refl
keeps-long {c} {s = s} {k = k} (added e l) = keep-length c s k

-- ---- statements

-- what stays, and the lengths of the tables after it
pub record Step (S Z : State) : Type 0 where
  pub cells : Grows S.cells Z.cells
  pub kept : PositionsStay S.kept Z.kept
  pub long : length Z.kept ≡ constraints_words

pub step_stays : {S Z : State} → Step S Z → Stays S Z
step_stays a = let r = a.cells.stay in record { records = r.count; fields = r.fields; labels = r.labels; kept = a.kept.count; places = a.kept.places }

pub step-trans : {S Y Z : State} → Step S Y → Step Y Z → Step S Z
step-trans a b = record { cells = grows-trans a.cells b.cells; kept = positions-trans a.kept b.kept; long = b.long }

pub step-self : (S : State) → Sized S.cells → length S.kept ≡ constraints_words → Step S S
step-self S z long = record { cells = grows_self S.cells z; kept = positions-self S.kept; long = long }

module _ (program : List ℤ) (S : State) (ws : List ℤ) (z : Sized S.cells) (long : length S.kept ≡ constraints_words) where
  pub step_of : {p : List ℤ} {l : Left} → Steps program S ws p l → Step S l.state
  step_of s_skip = step-self S z long
  step_of (s_gives {Y = Y} {Z = Z} {rest = rest} g phase s) =
      let a = gives-grows z g in
      let b = phase-grows a.sized phase in
      record { cells = grows-trans a (grows-trans b (settles-grows program S.kept _ Y ws Z rest b.sized s)); long = long; kept = positions-self S.kept }
  step_of (s_always {Z = Z} {rest = rest} s k) =
      record { cells = settles-grows program S.kept _ S.cells ws Z rest z s; long = keeps-long k ∙ long; kept = keeps-stay long k }
  step_of (s_once {Z = Z} {rest = rest} s) =
      record { cells = settles-grows program S.kept _ S.cells ws Z rest z s; long = long; kept = positions-self S.kept }
  step_of (s_always_identity a k) = record { cells = grows_self S.cells z; long = keeps-long k ∙ long; kept = keeps-stay long k }
  step_of (s_once_identity a) = step-self S z long

pub steps-stay : StepsStay
steps-stay program p S ws l z long s = step_stays (step_of program S ws z long s)

-- ---- chains and runs

chain : (program ws : List ℤ) (S Z : State) (us : List ℤ) (n : ℕ) → Sized S.cells → length S.kept ≡ constraints_words → Reached program ws S Z us n → Step S Z
chain program ws S Z us n z long at_first = step-self S z long
chain program ws S Z us n z long (after_one {Z = Y} {us = vs} {n = m} r here s) =
    let a = chain program ws S Y vs m z long r in
    step-trans a (step_of program Y vs a.cells.sized a.long s)

pub stays-self : (S : State) → Stays S S
stays-self S = record { records = omega arith; fields = λ r h. refl; labels = λ r f h. refl; kept = λ s. omega arith; places = λ s i h. refl }

passed-stays : (program ws : List ℤ) (budget : ℤ) (S : State) (e : Ended) → Passes program budget S → Answered program ws budget S e → Stays S e.state
passed-stays program ws budget S e p a =
    step_stays (chain program ws S _ _ _ p.1.1.fit.sized p.1.1.long (answers program ws budget S e a).reached)

pub runs-stay : RunsStay
runs-stay program ws budget S e (unstarted u) = stays-self S
runs-stay program ws budget S e (finished p r) = passed-stays program ws budget S _ p (finished p r)
runs-stay program ws budget S e (stopped p r) = passed-stays program ws budget S _ p (stopped p r)
