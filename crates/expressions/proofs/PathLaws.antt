-- What the code that follows a path comes to. Assumes nothing.
use Rattle.std.specs.Prelude.{None, Option, Some, Result, Ok, Err}
use mathlib.Core.Path.{◌≡◌, refl, sym, ap, ◌∙◌}
use mathlib.Core.List.{List, ◌∷◌}
use Prim.Native.Nat.{ℕ, zero, suc, ◌+◌, ◌-◌, ◌≤◌, ◌<◌}
use native.Mathlib.Omega.{arith}
use borrow.Author.Tests.{eqb-true}
use mathlib.Core.Bool.{Bool, true, false, cond}
use lib.Dec.{eqb}
use lib.IntN.{ℤ, pos}
use lib.ListN.{length, drop, length-drop}
use lib.Seq.{drop-drop}
use Rattle.words.specs.Words.{number_of, number_at, eq_z}
use Rattle.words.specs.Answer.{Answer, got, stop, ◌>>=◌}
use Rattle.words.proofs.Laws.{number-drop}
use Rattle.tables.specs.declared.Value.{Value}
use Rattle.tables.specs.declared.Cell.{Cell}
use Rattle.tables.specs.declared.Value.TheVariants.{Nil, Bool as Truth, Int, Ref}
use Rattle.tables.specs.Cells.{Cells, cell_at}
use Rattle.tables.specs.Values.{slot_of}
use Rattle.tables.specs.Records.{field_with}
use Rattle.tables.proofs.SearchLaws.{cases}
use Rattle.tables.proofs.ValueLaws.{slot-reference, slot-other}
use Rattle.rules.specs.State.{Res, or_refuse, slot_at, present}
use Rattle.rules.specs.Paths.{a_record, a_field, follow, Way, way_at, value_at}
use Rattle.rules.proofs.PathClauses.{slot_is, follow-none, follow-more, way-variable, way-steps, way-is, value-is}
use Rattle.expressions.specs.declared.Named.{Named}
use Rattle.expressions.specs.declared.Evaluated.{Evaluated}
use Rattle.program.specs.declared.Refusal.{Refusal}
use Rattle.expressions.specs.Judging.{refusal}
use Rattle.expressions.specs.Told.{named_of, evaluated_of}
use Rattle.expressions.specs.Following.{step_from, step_to, land_on, landed, slot_in}

pub step_is : (S : Cells) (l label : ℕ) (s : Option Value) → s ≡ slot_of (cell_at S l) → step_from S.heap s label ≡ step_to S l label
unfolding step_to
step_is S l label s e = rw (e, slot_is S l)

-- the same as a rewriting, for the code that goes on by one label
pub step-read : (S : Cells) (l label : ℕ) → step_to S l label ≡ step_from S.heap (slot_of (cell_at S l)) label
step-read S l label = sym (step_is S l label (slot_of (cell_at S l)) refl)

pub ruleset one_step = (step-read)

-- the cell alone, of what the rules say of a path
abbrev pub cell_only : Answer (Unit {0}) (ℕ × List ℕ) → Option ℕ
cell_only (got x) = Some x.0
cell_only (stop u) = None

only-more : (l : ℕ) (m : Answer (Unit {0}) (ℕ × List ℕ)) → cell_only m ≡ cell_only (m >>= λ x. got (x.0, l ∷ x.1))
only-more l (got x) = refl
only-more l (stop u) = refl

on-field : (l : ℕ) (f : ℕ → (Option ℕ)) (g : ℕ → Answer (Unit {0}) (ℕ × List ℕ)) → ((next : ℕ) → f next ≡ cell_only (g next)) → (w : Option ℕ)
    → land_on w f ≡ cell_only (a_field w >>= λ next. g next >>= λ x. got (x.0, l ∷ x.1))
on-field l f g h (Some next) = h next ∙ only-more l (g next)
on-field l f g h None = refl

on-slot : (S : Cells) (l label : ℕ) (f : ℕ → (Option ℕ)) (g : ℕ → Answer (Unit {0}) (ℕ × List ℕ)) → ((next : ℕ) → f next ≡ cell_only (g next)) → (s : Option Value)
    → land_on (step_from S.heap s label) f ≡ cell_only (a_record s >>= λ r. a_field (field_with S.heap r label) >>= λ next. g next >>= λ x. got (x.0, l ∷ x.1))
on-slot S l label f g h (Some (Ref r)) = on-field l f g h (field_with S.heap r label)
on-slot S l label f g h (Some Nil) = refl
on-slot S l label f g h (Some (Truth b)) = refl
on-slot S l label f g h (Some (Int n)) = refl
on-slot S l label f g h None = refl

pub land-follow : (S : Cells) (n l : ℕ) (p : List ℤ) → landed S n l p ≡ cell_only (follow S n l p)
unfolding landed step_to
land-follow S zero l p = rw (follow-none S l p)
land-follow S (suc n) l p = rw (follow-more S n l p) (on-slot S l (number_at p 0) _ (λ next. follow S n next (drop 1 p)) (λ next. land-follow S n next (drop 1 p)) (slot_at S l))

-- one label, by the words of the cell that it begins at
module _ (S : Cells) (l label : ℕ) {c : Cell} (e : c ≡ cell_at S l) where
  pub next-none : (number_of c.kind ≡ 4 → ⊥) → None ≡ step_to S l label
  next-none h =
      cases (eqb (number_of c.kind) 4)
      (λ k. absurd (h (eqb-true (number_of c.kind) 4 k)))
      (λ k. (rw (slot-other c k) (by (eqb (number_of c.kind) 1) (eqb (number_of c.kind) 2) (eqb (number_of c.kind) 3))) ∙ step_is S l label (slot_of c) (ap slot_of e))
    where
      by : (a b d : Bool) → None ≡ step_from S.heap (cond a (Some Nil) (cond b (Some (Truth (eq_z c.payload (pos 1)))) (cond d (Some (Int c.payload)) None))) label
      by true b d = refl
      by false true d = refl
      by false false true = refl
      by false false false = refl

  pub next_field : number_of c.kind ≡ 4 → {f : (Option ℕ)} → f ≡ field_with S.heap (number_of c.payload) label → f ≡ step_to S l label
  next_field h k = k ∙ ((rw (slot-reference c h)) ∙ step_is S l label (slot_of c) (ap slot_of e))

-- ---- the loop over the labels: i are followed, and the cell reached is `at`

pub record Landing (S : Cells) (n l : ℕ) (p : List ℤ) (i at : ℕ) : Type 0 where
  pub inside : i ≤ n
  pub rest : landed S (n - i) at (drop i p) ≡ landed S n l p

pub landing-starts : {S : Cells} {n l : ℕ} {p : List ℤ} → Landing S n l p 0 l
landing-starts {n = n} = let z : n - 0 ≡ n = omega arith in record { inside = omega arith; rest = rw z }

module _ {S : Cells} {n l : ℕ} {p : List ℤ} {i at : ℕ} (inv : Landing S n l p i at) (more : i < n) where
  turn : land_on (step_to S at (number_at p i)) (λ next. landed S (n - (i + 1)) next (drop (i + 1) p)) ≡ landed S n l p
  unfolding landed
  turn =
      let z : n - i ≡ suc (n - (i + 1)) = omega arith in
      let k : number_at (drop i p) 0 ≡ number_at p i = number-drop p i 0 ∙ (let y : i + 0 ≡ i = omega arith in rw y) in
      rw (z, k, drop-drop 1 i p) at inv.rest

  pub landing-lost : {f : (Option ℕ)} → f ≡ step_to S at (number_at p i) → f ≡ None → None ≡ landed S n l p
  landing-lost e h = rw (sym e ∙ h) at turn

  pub landing-goes-on : {f : (Option ℕ)} {next : ℕ} → f ≡ step_to S at (number_at p i) → f ≡ Some next → Landing S n l p (i + 1) next
  landing-goes-on e h = record { inside = omega arith; rest = rw (sym e ∙ h) at turn }

pub landing-ends : {S : Cells} {n l : ℕ} {p : List ℤ} {i at : ℕ} → Landing S n l p i at → n ≤ i → Some at ≡ landed S n l p
unfolding landed
landing-ends {n = n} {i = i} inv h = let z : n - i ≡ 0 = omega arith in rw z at inv.rest

-- the same with the cell reached in hand
pub record Finding (S : Cells) (n l : ℕ) (p : List ℤ) (i : ℕ) (c : Cell) : Type 0 where
  pub at : ℕ
  pub holds : c ≡ cell_at S at
  pub landing : Landing S n l p i at

pub finding-starts : {S : Cells} {n l : ℕ} {p : List ℤ} {c : Cell} → c ≡ cell_at S l → Finding S n l p 0 c
finding-starts {l = l} e = record { at = l; holds = e; landing = landing-starts }

module _ {S : Cells} {n l : ℕ} {p : List ℤ} {i : ℕ} {c : Cell} (inv : Finding S n l p i c) (more : i < n) where
  pub finding-none : (number_of c.kind ≡ 4 → ⊥) → None ≡ slot_in S (landed S n l p)
  finding-none h = ap (slot_in S) (landing-lost inv.landing more (next-none S inv.at (number_at p i) inv.holds h) refl)

  module _ (is : number_of c.kind ≡ 4) {f : (Option ℕ)} (e : f ≡ field_with S.heap (number_of c.payload) (number_at p i)) where
    pub finding-lost : f ≡ None → None ≡ slot_in S (landed S n l p)
    finding-lost h = ap (slot_in S) (landing-lost inv.landing more (next_field S inv.at (number_at p i) inv.holds is e) h)

    pub finding-goes-on : {next : ℕ} {b : Cell} → f ≡ Some next → b ≡ cell_at S next → Finding S n l p (i + 1) b
    finding-goes-on {next = next} h k = record { at = next; holds = k; landing = landing-goes-on inv.landing more (next_field S inv.at (number_at p i) inv.holds is e) h }

pub finding-ends : {S : Cells} {n l : ℕ} {p : List ℤ} {i : ℕ} {c : Cell} → Finding S n l p i c → n ≤ i → slot_of c ≡ slot_in S (landed S n l p)
finding-ends {S = S} inv h = ap slot_of inv.holds ∙ (slot_is S inv.at ∙ ap (slot_in S) (landing-ends inv.landing h))

-- ---- an L

-- what the code answers where a path led to a cell or to nothing
abbrev pub named_by : ℕ → ℕ → Option ℕ → Result Named Refusal
named_by word left (Some l) = Ok (record { cell = l; left = left })
named_by word left None = Err (refusal 7 word)

abbrev pub value_by : ℕ → ℕ → Option Value → Result Evaluated Refusal
value_by word left (Some v) = Ok (record { value = v; left = left })
value_by word left None = Err (refusal 7 word)

module _ (S : Cells) (p : List ℤ) where
  pub named-variable : 64 ≤ number_at p 0 → Err (refusal 2 (length p)) ≡ named_of (way_at S p)
  named-variable h = rw (way-variable S p h)

  module _ (v : number_at p 0 < 64) where
    pub named-steps : 7 < number_at (drop 1 p) 0 → Err (refusal 2 (length (drop 1 p))) ≡ named_of (way_at S p)
    named-steps h = rw (way-steps S p v h)

    module _ (few : number_at (drop 1 p) 0 ≤ 7) where
      pub named-is : {f : (Option ℕ)} → f ≡ landed S (number_at (drop 1 p) 0) (number_at p 0) (drop 1 (drop 1 p))
          → named_by (length p) (length (drop 1 (drop 1 p)) - number_at (drop 1 p) 0) f ≡ named_of (way_at S p)
      named-is e =
          rw (way-is S p v few) (by (follow S (number_at (drop 1 p) 0) (number_at p 0) (drop 1 (drop 1 p))) (e ∙ land-follow S (number_at (drop 1 p) 0) (number_at p 0) (drop 1 (drop 1 p))))
        where
          by : {f : (Option ℕ)} (m : Answer (Unit {0}) (ℕ × List ℕ)) → f ≡ cell_only m
              → named_by (length p) (length (drop 1 (drop 1 p)) - number_at (drop 1 p) 0) f
              ≡ named_of (or_refuse 7 p m >>= λ x. got (record { cell = x.0; prefix = x.1; rest = drop (number_at (drop 1 p) 0) (drop 1 (drop 1 p)) }))
          by (got x) e = rw (e, length-drop (number_at (drop 1 p) 0) (drop 1 (drop 1 p)))
          by (stop u) e = rw e

-- the value that an L names
module _ (S : Cells) (p : List ℤ) where
  pub value-lost : {r : Result Named Refusal} {f : Refusal} → r ≡ named_of (way_at S p) → r ≡ Err f → Err f ≡ evaluated_of (value_at S p)
  value-lost e h = rw (value-is S p) (by (way_at S p) (sym e ∙ h))
    where
      by : {f : Refusal} (m : Res Way) → named_of m ≡ Err f → Err f ≡ evaluated_of (m >>= λ w. or_refuse 7 p (present (slot_at S w.cell)) >>= λ v. got (v, w.rest))
      by (got x) e = cc
      by (stop f) e = cc

  pub value-named : {r : Result Named Refusal} {n : Named} {s : (Option Value)} → r ≡ named_of (way_at S p) → r ≡ Ok n → s ≡ slot_of (cell_at S n.cell) → value_by (length p) n.left s ≡ evaluated_of (value_at S p)
  value-named e h k = rw (value-is S p) (by (way_at S p) (sym e ∙ h) (k ∙ slot_is S _))
    where
      by : {n : Named} {s : (Option Value)} (m : Res Way) → named_of m ≡ Ok n → s ≡ slot_at S n.cell
          → value_by (length p) n.left s ≡ evaluated_of (m >>= λ w. or_refuse 7 p (present (slot_at S w.cell)) >>= λ v. got (v, w.rest))
      by {n = n} {s = s} (got x) e k =
          let a : n ≡ record { cell = x.cell; left = length x.rest } = cc in
          let b : s ≡ slot_at S x.cell = rw a at k in
          rw (a, b) (there (slot_at S x.cell))
        where
          there : (s : Option Value) → value_by (length p) (length x.rest) s ≡ evaluated_of (or_refuse 7 p (present s) >>= λ v. got (v, x.rest))
          there (Some v) = refl
          there None = refl
      by (stop f) e k = cc
