-- What an entry that is accepted went through, and the numbers with which one is refused. Assumes nothing.
use mathlib.Core.Path.{◌≡◌, refl, sym, ap, subst, ◌∙◌}
use Prim.Native.Nat.{ℕ, zero, suc, ◌<◌, ◌≤◌}
use native.Mathlib.Omega.{arith}
use mathlib.Core.Bool.{true, false, true≢false}
use mathlib.Core.List.{List, [], ◌∷◌, Memᴰ as OneOf}
use Rattle.std.specs.Prelude.{Option, None, Some}
use lib.IntN.{ℤ, pos}
use lib.ListN.{length, get_or}
use Rattle.words.specs.Words.{number_at}
use Rattle.words.proofs.Laws.{number-first}
use Rattle.words.proofs.AnswerLaws.{stop≢got}
use Rattle.tables.specs.declared.Value.{Value}
use Rattle.tables.specs.Cells.{Cells, Sized}
use Rattle.program.specs.Forms.{expression_depth}
use Rattle.rules.specs.State.{State, Fault, refused}
use Rattle.rules.specs.Constraints.{Part}
use Rattle.rules.specs.Proposals.{Asked}
use Rattle.rules.specs.Statements.{Left}
use Rattle.rules.specs.Effects.{Effect}
use Rattle.rules.specs.Rules.Expressions.{Literal, Within, e_literal, Astray, Meets}
use Rattle.rules.specs.Rules.Constraints.{Uncounted}
use Rattle.rules.specs.Rules.Identities.{Phase, PhaseFails}
use Rattle.rules.specs.Rules.Proposals.{Settles, Fails, Unsettled}
use Rattle.rules.specs.Rules.Statements.{leaves, asking, past_path, Gives, assigns, makes, Steps, Refused}
use Rattle.rules.specs.Rules.Entries.{Entry, entry}
use Rattle.rules.specs.Claims.Entries.{EntriesMove}
use Rattle.rules.proofs.EvaluationLaws.{evaluate-iff}
use Rattle.rules.proofs.MeetLaws.{meets-complete}
use Rattle.rules.proofs.ProposalLaws.{proposals-move}
use Rattle.rules.proofs.StatementWords.{path-past}

-- a statement with this word is not one with that
pub other : {s : List ℤ} (n : ℕ) (p : List ℤ) → (n ≡ 1 → ⊥) → s ≡ pos n ∷ p → number_at s 0 ≡ 1 → ⊥
other n p h e k = h (sym (number-first (pos n) p) ∙ ap (λ s. number_at s 0) (sym e) ∙ k)

-- ---- accepted

pub record Gave (program : List ℤ) (S : State) (ws s : List ℤ) (l : Left) : Type 0 where
  pub target : ℕ
  pub prefix : List ℕ
  pub value : Value
  pub now : Cells
  pub cells : Cells
  pub rest : List ℤ
  pub gives : Gives S.cells s target prefix value S.cells
  pub phase : Phase program S.kept S.cells S.cells target prefix value now
  pub settles : Settles program S.kept (asking None (Some target) true) now ws cells rest
  pub leaving : l ≡ leaves cells S.kept rest 1

-- an assignment writes no record before its identity phase
same_tables : {S N : Cells} {s : List ℤ} {target : ℕ} {prefix : List ℕ} {v : Value} → Gives S s target prefix v N → number_at s 0 ≡ 1 → N ≡ S
same_tables (assigns a b) k = refl
same_tables (makes {x = x} {n = n} {p = p} a b c d e) k = absurd (other 2 (pos x ∷ pos n ∷ p) (λ z. omega arith) refl k)

pub gave : {program : List ℤ} {S : State} {ws s : List ℤ} {l : Left} → Steps program S ws s l → number_at s 0 ≡ 1 → Gave program S ws s l
gave (Steps.s_skip {p = p}) k = absurd (other 0 p (λ z. omega arith) refl k)
gave {program} {S} (Steps.s_gives {target = target} {prefix = prefix} {v = v} {Y = Y} {Z = Z} {rest = rest} g a b) k =
    let e = same_tables g k in
    record {
      target = target;
      prefix = prefix;
      value = v;
      now = Y;
      cells = Z;
      rest = rest;
      gives = rw e at g;
      phase = rw e at a;
      settles = b;
      leaving = refl;
    }
gave (Steps.s_always {p = p} a b) k = absurd (other 3 p (λ z. omega arith) refl k)
gave (Steps.s_once {p = p} a) k = absurd (other 4 p (λ z. omega arith) refl k)
gave (Steps.s_always_identity {p = p} a b) k = absurd (other 5 p (λ z. omega arith) refl k)
gave (Steps.s_once_identity {p = p} a) k = absurd (other 6 p (λ z. omega arith) refl k)

pub entry-gave : {program : List ℤ} {S : State} {ws x : List ℤ} {l : Left} → Steps program S ws (pos 1 ∷ x) l → Gave program S ws (pos 1 ∷ x) l
entry-gave {x = x} s = gave s (number-first (pos 1) x)

phase-sized : {program kept : List ℤ} {before now Z : Cells} {target : ℕ} {prefix : List ℕ} {v : Value} → Sized now → Phase program kept before now target prefix v Z → Sized Z
phase-sized s h = record { environment = h.update.environment_length ∙ s.environment; heap = h.update.heap_length ∙ s.heap }

pub entries-move : EntriesMove
entries-move program x ws S l e sized s =
    let g = entry-gave s in
    record {
      target = g.target;
      prefix = g.prefix;
      value = g.value;
      now = g.now;
      gives = g.gives;
      phase = g.phase;
      proposed = subst (λ (m : Left). Effect (asking None (Some g.target) true) g.now m.state.cells) (sym g.leaving) (proposals-move program S.kept (asking None (Some g.target) true) g.now ws g.cells g.rest (phase-sized sized g.phase) g.settles);
      kept = ap (λ m. m.state.kept) g.leaving;
    }

-- ---- refused

-- the numbers of a list
abbrev pub numbers : List ℕ
numbers = 0 ∷ 1 ∷ 2 ∷ 3 ∷ 4 ∷ 5 ∷ 6 ∷ 7 ∷ 12 ∷ 13 ∷ 15 ∷ 16 ∷ 17 ∷ 18 ∷ 19 ∷ 23 ∷ []

pub there : (k : ℕ) (ns : List ℕ) → k < length ns → OneOf (get_or ns k 0) ns
there k [] h = absurd (omega arith)
there zero (n ∷ ns) h = OneOf.head refl
there (suc k) (n ∷ ns) h = OneOf.tail (there k ns (omega arith))

-- the number of a refused entry
pub record Number (n : ℕ) : Type 0 where
  pub known : OneOf n numbers
  pub least : 6 ≤ n
  pub most : n ≤ 19

phase-number : {program kept : List ℤ} {before : Cells} {target n : ℕ} {prefix : List ℕ} {v : Value} → PhaseFails program kept before target prefix v n → Number n
phase-number (PhaseFails.no_node a b c) = record { known = there 9 numbers (omega arith); least = omega arith; most = omega arith }
phase-number (PhaseFails.clash a b c d e) = record { known = there 8 numbers (omega arith); least = omega arith; most = omega arith }

-- a literal is not refused
pub literal-meets : {S : Cells} {e r : List ℤ} {v : Value} {f : Fault} → Literal e v r → Meets S false expression_depth e f → ⊥
literal-meets {S} {e} {r} {v} l m = stop≢got (sym (meets-complete m) ∙ (evaluate-iff expression_depth S e v r).1 (e_literal l))

entry-meets : {S : Cells} {x : List ℤ} {f : Fault} → Entry x → Meets S false expression_depth (past_path x) f → ⊥
entry-meets (entry {e = e} target literal) m = literal-meets literal (rw (path-past target e) at m)

fails-number : {program kept : List ℤ} {asked : Asked} {S : Cells} {before : List Part} {ws : List ℤ} {n : ℕ} → Fails program kept asked S before ws n → Number n
fails-number (Fails.no_words a) = record { known = there 6 numbers (omega arith); least = omega arith; most = omega arith }
fails-number (Fails.not_formed a b) = record { known = there 11 numbers (omega arith); least = omega arith; most = omega arith }
fails-number (Fails.not_allowed a b) = record { known = there 12 numbers (omega arith); least = omega arith; most = omega arith }
fails-number (Fails.not_needed a b c) = record { known = there 13 numbers (omega arith); least = omega arith; most = omega arith }
fails-number (Fails.not_met a b c d e g) = record { known = there 14 numbers (omega arith); least = omega arith; most = omega arith }

-- where no C is stated, 15 is the only number before the proposal
uncounted-number : {program kept : List ℤ} {S : Cells} {own : Option (List ℤ)} {f : Fault} → own ≡ None → Uncounted program kept S own f → Number f.number
uncounted-number e (Uncounted.own m) = absurd (let z : ◌≡◌ {A = ℕ} 0 1 = cc in omega arith)
uncounted-number e (Uncounted.kept a b c) = record { known = there 10 numbers (omega arith); least = omega arith; most = omega arith }

unsettled-number : {program kept word : List ℤ} {asked : Asked} {S : Cells} {ws : List ℤ} {f : Fault}
    → asked.own ≡ None → asked.room ≡ true → Unsettled program kept asked word S ws f → Number f.number
unsettled-number own room (Unsettled.uncounted u) = uncounted-number own u
unsettled-number own room (Unsettled.no_room c r) = absurd (true≢false (sym room ∙ r))
unsettled-number own room (Unsettled.turned-down c r f) = fails-number f

-- an assignment is refused by its value, its target, its identity phase, or what is asked of its proposal
pub data Turned (program : List ℤ) (S : State) (ws x : List ℤ) : Fault → Type 0 where
  by_value : {f : Fault} → Meets S.cells false expression_depth (past_path x) f → Turned program S ws x f
  by-target : {v : Value} {r : List ℤ} → Within S.cells expression_depth (past_path x) v r → Astray S.cells x → Turned program S ws x (refused 7 x)
  by-phase : {n target : ℕ} {prefix : List ℕ} {v : Value} {N : Cells} → Gives S.cells (pos 1 ∷ x) target prefix v N
      → PhaseFails program S.kept S.cells target prefix v n → Turned program S ws x (refused n (pos 1 ∷ x))
  by-proposal : {target : ℕ} {prefix : List ℕ} {v : Value} {N Y : Cells} {f : Fault} → Gives S.cells (pos 1 ∷ x) target prefix v N
      → Phase program S.kept S.cells N target prefix v Y → Unsettled program S.kept (asking None (Some target) true) (pos 1 ∷ x) Y ws f → Turned program S ws x f

turned_by : {program : List ℤ} {S : State} {ws s x : List ℤ} {f : Fault} → s ≡ pos 1 ∷ x → Refused program S ws s f → Turned program S ws x f
turned_by {x = x} q (Refused.f_value {p = p} m) = let i : p ≡ x = cc in by_value (rw i at m)
turned_by {x = x} q (Refused.f_target {p = p} a b) = let i : p ≡ x = cc in rw i (by-target (rw i at a) (rw i at b))
turned_by {x = x} q (Refused.f_field {x = y} {m = m} {p = p} a b c) = absurd (other 2 (pos y ∷ pos m ∷ p) (λ z. omega arith) refl (rw q (number-first (pos 1) x)))
turned_by {x = x} q (Refused.f_full {x = y} {m = m} {p = p} a b c d) = absurd (other 2 (pos y ∷ pos m ∷ p) (λ z. omega arith) refl (rw q (number-first (pos 1) x)))
turned_by q (Refused.f_phase g a) = rw q (by-phase (rw q at g) a)
turned_by q (Refused.f_given g a u) = by-proposal (rw q at g) a (rw q at u)
turned_by {x = x} q (Refused.f_always {p = p} a b) = absurd (other 3 p (λ z. omega arith) refl (rw q (number-first (pos 1) x)))
turned_by {x = x} q (Refused.f_once {p = p} a) = absurd (other 4 p (λ z. omega arith) refl (rw q (number-first (pos 1) x)))
turned_by {x = x} q (Refused.f_identity {verb = verb} {p = p} a b c) = absurd (other verb p (λ z. omega arith) refl (rw q (number-first (pos 1) x)))
turned_by {x = x} q (Refused.f_unkept {p = p} a b) = absurd (other 5 p (λ z. omega arith) refl (rw q (number-first (pos 1) x)))

pub turned : {program : List ℤ} {S : State} {ws x : List ℤ} {f : Fault} → Refused program S ws (pos 1 ∷ x) f → Turned program S ws x f
turned r = turned_by refl r

turned-number : {program : List ℤ} {S : State} {ws x : List ℤ} {f : Fault} → Entry x → Turned program S ws x f → Number f.number
turned-number e (by_value m) = absurd (entry-meets e m)
turned-number e (by-target a b) = record { known = there 7 numbers (omega arith); least = omega arith; most = omega arith }
turned-number e (by-phase g a) = phase-number a
turned-number e (by-proposal g a u) = unsettled-number refl refl u

pub entry-number : {program : List ℤ} {S : State} {ws x : List ℤ} {f : Fault} → Entry x → Refused program S ws (pos 1 ∷ x) f → Number f.number
entry-number e r = turned-number e (turned r)
