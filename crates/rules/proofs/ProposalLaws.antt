-- A proposal is settled exactly where the rules accept it, and then it moves payloads alone. Assumes nothing.
use mathlib.Core.Path.{◌≡◌, ap}
use mathlib.Core.Logic.{◌↔◌}
use mathlib.Core.Bool.{not, ◌||◌}
use mathlib.Core.List.{List}
use lib.IntN.{ℤ}
use Rattle.words.specs.Answer.{got}
use Rattle.words.proofs.AnswerLaws.{got-inj, step, tested}
use Rattle.tables.specs.Cells.{Cells}
use Rattle.rules.specs.State.{refused}
use Rattle.rules.specs.Evaluation.{at}
use Rattle.rules.specs.Constraints.{counted, all_hold, required_hold}
use Rattle.rules.specs.Proposals.{entries_fit, proposal, applied, none?, Asked, settle}
use Rattle.rules.specs.Rules.Proposals.{Settles}
use Rattle.rules.specs.Claims.Effect.{ProposalsMove}
use Rattle.rules.proofs.WordSteps.{at-got}
use Rattle.rules.proofs.EntryLaws.{formed-iff}
use Rattle.rules.proofs.EffectLaws.{settles-near}
use Rattle.rules.proofs.CountedLaws.{counted-iff}
use Rattle.rules.proofs.AcceptanceLaws.{allowed-iff, needed-iff, puts-iff, met-iff}

module _ (program kept : List ℤ) (asked : Asked) (word : List ℤ) (S : Cells) (ws : List ℤ) (Z : Cells) (rest : List ℤ) where
  pub settle-iff : (settle program kept asked word S ws ≡ got (Z, rest)) ↔ Settles program kept asked S ws Z rest
  unfolding settle
  settle-iff = (
    λ e.
        step (counted program kept asked.own S) _ e λ before e1 k1.
        tested (refused 14 word) asked.room _ k1 λ room k2.
        step (at word (proposal ws)) _ k2 λ x e3 k3.
        tested (refused 17 word) (entries_fit S asked.target x.0) _ k3 λ fits k4.
        tested (refused 18 word) (not (all_hold before) || none? x.0) _ k4 λ need k5.
        step (counted program kept asked.own (applied S x.0)) _ k5 λ after e6 k6.
        tested (refused 19 word) (required_hold after) _ k6 λ met k7.
        let i : applied S x.0 ≡ Z = ap (λ (y : Cells × List ℤ). y.0) (got-inj k7) in
        let j : x.1 ≡ rest = ap (λ (y : Cells × List ℤ). y.1) (got-inj k7) in
        record {
          before = before;
          counts = (counted-iff program S kept asked.own before).0 e1;
          room = room;
          es = x.0;
          formed = (formed-iff ws x.0 rest).0 (rw j at (at-got word (proposal ws) e3));
          allowed = (allowed-iff S asked.target x.0).0 fits;
          needed = (needed-iff before x.0).0 need;
          puts = (puts-iff S x.0 Z).0 i;
          after = after;
          reads = (counted-iff program Z kept asked.own after).0 (rw i at e6);
          met = (met-iff after).0 met;
        },
    λ s. rw (
      (counted-iff program S kept asked.own s.before).1 s.counts,
      s.room,
      (formed-iff ws s.es rest).1 s.formed,
      (allowed-iff S asked.target s.es).1 s.allowed,
      (needed-iff s.before s.es).1 s.needed,
      (puts-iff S s.es Z).1 s.puts,
      (counted-iff program Z kept asked.own s.after).1 s.reads,
      (met-iff s.after).1 s.met,
    ),
  )

-- an accepted proposal moves nothing but payloads of booleans and integers, each to one of its kind, and not the target
pub proposals-move : ProposalsMove
proposals-move program kept asked S ws Z rest z s = (settles-near z s).effect
