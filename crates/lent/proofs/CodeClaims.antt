-- The claims of specs/Claims.antt. Assumes nothing.
use mathlib.Core.Path.{◌≡◌, refl, sym, ap, ◌∙◌}
use mathlib.Core.Bool.{false}
use mathlib.Core.List.{List}
use Prim.Native.Nat.{ℕ, zero, suc, ◌≤◌}
use native.Mathlib.Decide.{ℕ_discrete, dec_le}
use lib.IntN.{ℤ}
use lib.ListN.{length}
use Rattle.words.specs.Words.{number_at, last_of}
use Rattle.program.specs.Forms.{verb_of}
use Rattle.program.specs.Reading.{read_block, after}
use Rattle.program.proofs.RowLaws.{last-length}
use Rattle.rules.specs.Statements.{position_of}
use Rattle.rules.specs.Running.{Out, on, end, then_out, paid, do_verb, do_block}
use Rattle.rules.specs.Running.{Tally as Carries}
use Rattle.rules.proofs.RunningClauses.{statement-is}
use Rattle.proposals.proofs.FormLaws.{unlike}
use Rattle.lent.specs.declared.Tally.{Tally}
use Rattle.lent.specs.Tallied.{carries, out_by, Begins}
use Rattle.lent.specs.Lending.{holds_blocks}
use Rattle.lent.specs.Claims.{AsInARun, OneTally, OneStep}
use Rattle.lent.proofs.LentLaws.{verb-flat}

-- ---- a statement in a run

then_same : (block block' : List ℤ → Carries → Out) (past past' : List ℤ → List ℤ) (program : List ℤ) (budget : ℕ) (p : List ℤ) → holds_blocks (verb_of (number_at p 0)) ≡ false → (o : Out)
    → then_out o (λ u. do_verb block past program budget p (verb_of (number_at p 0)) u) ≡ then_out o (λ u. do_verb block' past' program budget p (verb_of (number_at p 0)) u)
then_same block block' past past' program budget p h (on u) =
    verb-flat block past program budget p u (verb_of (number_at p 0)) h ∙ sym (verb-flat block' past' program budget p u (verb_of (number_at p 0)) h)
then_same block block' past past' program budget p h (end n place u) = refl

pub as-in-a-run : AsInARun
as-in-a-run block past program budget p u h =
    rw h
    (statement-is (λ q v. do_block 0 program budget q v) (λ q. after (read_block 0 q)) program budget p u
    ∙ then_same (λ q v. do_block 0 program budget q v) block (λ q. after (read_block 0 q)) past program budget p h (paid budget (position_of program p) u)
    ∙ sym (statement-is block past program budget p u))

-- ---- one answer

-- what is told of a tally tells its outcome, its place where it has ended, and what it carries
pub record SameOut (n m k l : ℕ) (u v : Carries) : Type 0 where
  pub outcome : n ≡ m
  pub place : (n ≡ 0 → ⊥) → k ≡ l
  pub carried : u ≡ v

same_out : (n m k l : ℕ) (u v : Carries) → out_by n k u ≡ out_by m l v → SameOut n m k l u v
same_out zero zero k l u v e = record { outcome = refl; place = λ h. absurd (h refl); carried = cc }
same_out zero (suc m) k l u v e = unlike cc
same_out (suc n) zero k l u v e = unlike cc
same_out (suc n) (suc m) k l u v e = record { outcome = cc; place = λ _. cc; carried = cc }

same-tally : (r r' : Tally) → r.steps ≡ r'.steps → r.accepted ≡ r'.accepted → r.unread ≡ r'.unread → r.outcome ≡ r'.outcome → r.place ≡ r'.place → r ≡ r'
same-tally r r' a b c d e = λ i. record { steps = a i; accepted = b i; unread = c i; outcome = d i; place = e i }

pub one-tally : OneTally
one-tally ws Z Z' r r' o x y =
    let s : SameOut r.outcome r'.outcome r.place r'.place (carries ws Z r) (carries ws Z' r') = same_out _ _ _ _ _ _ (x.is ∙ sym y.is) in
    let unread : last_of r.unread ws ≡ last_of r'.unread ws = ap (λ (c : Carries). c.unread) s.carried in (
      same-tally r r'
          (ap (λ (c : Carries). c.steps) s.carried)
          (ap (λ (c : Carries). c.accepted) s.carried)
          (sym (last-length r.unread ws x.inside) ∙ ap length unread ∙ last-length r'.unread ws y.inside)
          s.outcome
          (placed (ℕ_discrete r.outcome 0) x.nowhere y.nowhere s.outcome s.place),
      ap (λ (c : Carries). c.state) s.carried,
    )
  where
    placed : Dec (r.outcome ≡ 0) → (r.outcome ≡ 0 → r.place ≡ 0) → (r'.outcome ≡ 0 → r'.place ≡ 0) → r.outcome ≡ r'.outcome → ((r.outcome ≡ 0 → ⊥) → r.place ≡ r'.place) → r.place ≡ r'.place
    placed (yes z) a b e f = a z ∙ sym (b (sym e ∙ z))
    placed (no n) a b e f = f n

begins-or : (ws : List ℤ) (t : Tally) → Dec (Begins ws t)
begins-or ws t = by (dec_le t.accepted t.steps) (dec_le t.unread (length ws)) (ℕ_discrete t.outcome 0) (ℕ_discrete t.place 0)
  where
    by : Dec (t.accepted ≤ t.steps) → Dec (t.unread ≤ length ws) → Dec (t.outcome ≡ 0) → Dec (t.place ≡ 0) → Dec (Begins ws t)
    by (yes a) (yes b) (yes c) (yes d) = yes (record { few = a; inside = b; going = c; nowhere = d })
    by (no a) b c d = no (λ x. a x.few)
    by (yes a) (no b) c d = no (λ x. b x.inside)
    by (yes a) (yes b) (no c) d = no (λ x. c x.going)
    by (yes a) (yes b) (yes c) (no d) = no (λ x. d x.nowhere)

pub one-step : OneStep
one-step ws S Z Z' t r r' o x y = by (begins-or ws t)
  where
    by : Dec (Begins ws t) → (r ≡ r') × (Z ≡ Z')
    by (yes b) = one-tally ws Z Z' r r' o (x.goes b).runs (y.goes b).runs
    by (no n) = ((x.stays n).0 ∙ sym (y.stays n).0, (x.stays n).1 ∙ sym (y.stays n).1)
