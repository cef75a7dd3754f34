-- A statement that holds no block is accepted exactly where the rules say so, and leaves what they say, where what is kept holds. Assumes nothing.
use mathlib.Core.Path.{◌≡◌, refl, sym, subst, ◌∙◌}
use mathlib.Core.Logic.{◌↔◌}
use Prim.Native.Nat.{ℕ, ◌<◌}
use native.Mathlib.Omega.{arith}
use mathlib.Core.Bool.{true, false}
use mathlib.Core.List.{List, ◌∷◌}
use Rattle.std.specs.Prelude.{None, Some}
use lib.IntN.{ℤ, pos}
use Rattle.words.specs.Words.{number_at}
use Rattle.words.specs.Answer.{got}
use Rattle.words.proofs.Laws.{number-first}
use Rattle.words.proofs.AnswerLaws.{stop≢got, got-inj, step, step-on, tested}
use Rattle.tables.specs.declared.Sort.TheVariants.{Values, Identities}
use Rattle.tables.specs.Cells.{Cells}
use Rattle.program.specs.Forms.{verb_of}
use Rattle.program.specs.declared.Verb.{Verb}
use Rattle.program.specs.declared.Verb.TheVariants.{Skip as skip, Assign as assign, New as new, Always as always, Once as once, AlwaysSame as always_same, OnceSame as once_same, If as branch, While as loop, Unknown as no_verb}
use Rattle.program.proofs.FormLaws.{number_of_verb, verb-word}
use Rattle.rules.specs.State.{State, refused}
use Rattle.rules.specs.Identities.{same_now, identity_phase}
use Rattle.rules.specs.Proposals.{settle}
use Rattle.rules.specs.Statements.{Left, position_of, has_room, value_phase, do_constraint, do_identity, do_simple}
use Rattle.rules.specs.Rules.Proposals.{Settles}
use Rattle.rules.specs.Rules.Statements.{leaves, asking}
use Rattle.rules.specs.Rules.Statements.{Steps, s_skip, s_gives, s_always, s_once, s_always_identity, s_once_identity}
use Rattle.rules.specs.Steps.Holds.{Holds, StatementReads}
use Rattle.rules.proofs.ProposalLaws.{settle-iff}
use Rattle.rules.proofs.TieLaws.{same-iff}
use Rattle.rules.proofs.StatementWords.{statement-verb}
use Rattle.rules.proofs.RefusedPieces.{keeps-sound, keeps-room, keeps-is}
use Rattle.rules.proofs.GivesRules.{gives-phase, gives_goes, Opens, gives, closed, assign-opens, new-opens}

module _ (program : List ℤ) (S : State) (ws : List ℤ) (holds : Holds program S) where
  -- ---- the value phase

  value-sound : (p : List ℤ) (target : ℕ) (Y : Cells) (l : Left) {X : Type 0} → value_phase program S.kept p target Y ws ≡ got l
      → ((Z : Cells) (rest : List ℤ) → Settles program S.kept (asking None (Some target) true) Y ws Z rest → leaves Z S.kept rest 1 ≡ l → X) → X
  unfolding value_phase
  value-sound p target Y l e k =
      step (settle program S.kept (asking None (Some target) true) p Y ws) _ e λ x s k1.
      k x.0 x.1 ((settle-iff program S.kept (asking None (Some target) true) p Y ws x.0 x.1).0 s) (got-inj k1)

  value-complete : (p : List ℤ) (target : ℕ) (Y : Cells) (Z : Cells) (rest : List ℤ) → Settles program S.kept (asking None (Some target) true) Y ws Z rest
      → value_phase program S.kept p target Y ws ≡ got (leaves Z S.kept rest 1)
  unfolding value_phase
  value-complete p target Y Z rest s = rw ((settle-iff program S.kept (asking None (Some target) true) p Y ws Z rest).1 s)

  -- ---- what is accepted followed the rules

  gives-sound : {p : List ℤ} (l : Left) → StatementReads p → Opens program S holds ws p → do_simple program p S ws (verb_of (number_at p 0)) ≡ got l → Steps program S ws p l
  gives-sound l here (closed f c r) e = stop≢got (sym c ∙ e)
  gives-sound {p} l here (gives {target = target} {prefix = prefix} {v = v} {N = N} g) e =
      step (identity_phase program S.kept S.cells N p target prefix v) _ (sym (gives_goes program S holds g here ws) ∙ e) λ Y phase k.
      value-sound p target Y l k λ Z rest s q.
      rw (← q) (s_gives g ((gives-phase program S holds g here Y).0 phase) s)

  -- p is the part after the statement's word

  module _ (p : List ℤ) (l : Left) where
    always-sound : do_constraint true program (pos 3 ∷ p) S ws ≡ got l → Steps program S ws (pos 3 ∷ p) l
    unfolding do_constraint
    always-sound e =
        let room = has_room S.kept Values (position_of program (pos 3 ∷ p)) in
        step (settle program S.kept (asking (Some p) None room) (pos 3 ∷ p) S.cells ws) _ e λ x s k.
        let y = (settle-iff program S.kept (asking (Some p) None room) (pos 3 ∷ p) S.cells ws x.0 x.1).0 s in
        rw (← got-inj k) (s_always (subst (λ b. Settles program S.kept (asking (Some p) None b) S.cells ws x.0 x.1) y.room y)
        (keeps-sound S.kept Values (position_of program (pos 3 ∷ p)) y.room))

    once-sound : do_constraint false program (pos 4 ∷ p) S ws ≡ got l → Steps program S ws (pos 4 ∷ p) l
    unfolding do_constraint
    once-sound e =
        step (settle program S.kept (asking (Some p) None true) (pos 4 ∷ p) S.cells ws) _ e λ x s k.
        rw (← got-inj k) (s_once ((settle-iff program S.kept (asking (Some p) None true) (pos 4 ∷ p) S.cells ws x.0 x.1).0 s))

    always-identity-sound : do_identity true program (pos 5 ∷ p) S ws ≡ got l → Steps program S ws (pos 5 ∷ p) l
    unfolding do_identity
    always-identity-sound e =
        step-on (same_now S.cells (pos 5 ∷ p) p) _ e λ u s k1.
        tested (refused 14 (pos 5 ∷ p)) (has_room S.kept Identities (position_of program (pos 5 ∷ p))) _ k1 λ room k2.
        rw (← got-inj k2) (s_always_identity ((same-iff S.cells (pos 5 ∷ p) p).0 s) (keeps-sound S.kept Identities (position_of program (pos 5 ∷ p)) room))

    once-identity-sound : do_identity false program (pos 6 ∷ p) S ws ≡ got l → Steps program S ws (pos 6 ∷ p) l
    unfolding do_identity
    once-identity-sound e = step-on (same_now S.cells (pos 6 ∷ p) p) _ e λ u s k. rw (← got-inj k) (s_once_identity ((same-iff S.cells (pos 6 ∷ p) p).0 s))

  module _ (p : List ℤ) (here : StatementReads p) (l : Left) where
    -- the statement's word and the part after it
    worded : (v : Verb) → verb_of (number_at p 0) ≡ v → number_of_verb v < 9
        → ((q : List ℤ) → do_simple program (pos (number_of_verb v) ∷ q) S ws v ≡ got l → Steps program S ws (pos (number_of_verb v) ∷ q) l)
        → do_simple program p S ws v ≡ got l → Steps program S ws p l
    worded v q h f = subst (λ (t : List ℤ). do_simple program t S ws v ≡ got l → Steps program S ws t l) (sym (verb-word q h)) (f _)

    steps-sound : (v : Verb) → verb_of (number_at p 0) ≡ v → do_simple program p S ws v ≡ got l → Steps program S ws p l
    unfolding do_simple
    steps-sound skip q = worded skip q (omega arith) (λ r e. rw (← got-inj e) s_skip)
    steps-sound assign q = λ e. gives-sound l here (assign-opens program S holds ws p here q) (rw q e)
    steps-sound new q = λ e. gives-sound l here (new-opens program S holds ws p here q) (rw q e)
    steps-sound always q = worded always q (omega arith) (λ r. always-sound r l)
    steps-sound once q = worded once q (omega arith) (λ r. once-sound r l)
    steps-sound always_same q = worded always_same q (omega arith) (λ r. always-identity-sound r l)
    steps-sound once_same q = worded once_same q (omega arith) (λ r. once-identity-sound r l)
    steps-sound branch q = λ e. stop≢got e
    steps-sound loop q = λ e. stop≢got e
    steps-sound no_verb q = λ e. stop≢got e

  -- ---- what the rules say is accepted

  steps-complete : {p : List ℤ} {l : Left} → Steps program S ws p l → StatementReads p → do_simple program p S ws (verb_of (number_at p 0)) ≡ got l
  unfolding do_simple do_constraint do_identity
  steps-complete (s_skip {p = p}) here = rw (statement-verb (pos 0 ∷ p) here skip (number-first (pos 0) p))
  steps-complete (s_gives {target = target} {Y = Y} {Z = Z} {p = p} {rest = rest} g phase s) here =
      rw (gives_goes program S holds g here ws, (gives-phase program S holds g here Y).1 phase) (value-complete p target Y Z rest s)
  steps-complete (s_always {Z = Z} {p = p} {rest = rest} s k) here =
      rw (
        statement-verb (pos 3 ∷ p) here always (number-first (pos 3) p),
        keeps-room S.kept Values (position_of program (pos 3 ∷ p)) k,
        (settle-iff program S.kept (asking (Some p) None true) (pos 3 ∷ p) S.cells ws Z rest).1 s,
        keeps-is S.kept Values (position_of program (pos 3 ∷ p)) k,
      )
  steps-complete (s_once {Z = Z} {p = p} {rest = rest} s) here =
      rw (
        statement-verb (pos 4 ∷ p) here once (number-first (pos 4) p),
        (settle-iff program S.kept (asking (Some p) None true) (pos 4 ∷ p) S.cells ws Z rest).1 s,
      )
  steps-complete (s_always_identity {p = p} s k) here =
      rw (
        statement-verb (pos 5 ∷ p) here always_same (number-first (pos 5) p),
        (same-iff S.cells (pos 5 ∷ p) p).1 s,
        keeps-room S.kept Identities (position_of program (pos 5 ∷ p)) k,
        keeps-is S.kept Identities (position_of program (pos 5 ∷ p)) k,
      )
  steps-complete (s_once_identity {p = p} s) here =
      rw (statement-verb (pos 6 ∷ p) here once_same (number-first (pos 6) p), (same-iff S.cells (pos 6 ∷ p) p).1 s)

-- a statement that holds no block comes through exactly where the rules say so
pub steps-rule : (program p : List ℤ) (S : State) (ws : List ℤ) → StatementReads p → Holds program S
    → (l : Left) → (do_simple program p S ws (verb_of (number_at p 0)) ≡ got l) ↔ Steps program S ws p l
steps-rule program p S ws here holds l = (
  steps-sound program S ws holds p here l (verb_of (number_at p 0)) refl,
  λ s. steps-complete program S ws holds s here,
)
