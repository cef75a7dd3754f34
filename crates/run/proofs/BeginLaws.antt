-- What the code of the start comes to: the loops over kept positions, and outcomes 1 to 4 in their order. Assumes nothing.
use mathlib.Core.Path.{◌≡◌, sym, ◌∙◌}
use mathlib.Core.Bool.{Bool, true, false, ◌&&◌}
use mathlib.Core.List.{List, [], ◌∷◌}
use Prim.Native.Nat.{ℕ, suc, ◌+◌, ◌-◌, ◌≤◌, ◌<◌}
use native.Mathlib.Omega.{arith}
use lib.IntN.{ℤ}
use lib.ListN.{drop}
use lib.Seq.{drop-drop}
use Rattle.std.specs.Prelude.{Result, Ok, Err}
use Rattle.words.specs.Answer.{Answer, got, stop, ◌>>◌, want}
use Rattle.words.proofs.AnswerLaws.{either}
use Rattle.tables.specs.declared.Sort.{Sort}
use Rattle.tables.specs.Cells.{Cells}
use Rattle.program.specs.declared.Refusal.{Refusal}
use Rattle.tables.specs.Kept.{kept_count, position_at}
use Rattle.program.specs.Told.{verdict_of}
use Rattle.rules.specs.State.{listed, positions}
use Rattle.rules.specs.Constraints.{constraint_at, kept_at, required_hold}
use Rattle.rules.specs.Identities.{same_now}
use Rattle.rules.specs.Start.{Early, values_hold, identities_hold, early}
use Rattle.rules.proofs.ConstraintClauses.{positions-are, listed-none, listed_more, kept-is}
use Rattle.rules.proofs.StartClauses.{values-read, values-stop, identities-hold, identities-stop, early-got, early-stop}
use Rattle.expressions.specs.declared.Weighed.{Weighed}
use Rattle.expressions.specs.Judging.{weighed_of}
use Rattle.proposals.proofs.FormLaws.{unlike}
use Rattle.statements.specs.Told.{sameness_of}
use Rattle.run.specs.declared.Early.{Early as Stopped}
use Rattle.run.specs.Told.{held_of, started_of}

abbrev pub stopped : ℕ → ℕ → Stopped
stopped n place = record { number = n; place = place }

-- ---- the loop over kept positions of a sort, for either test: i are looked at, and the rest gives the whole's answer

module _ (s : Sort) (test : List ℕ → Answer ℕ (Unit {0})) where
  pub record KeptLeft (kept : List ℤ) (n i : ℕ) : Type 0 where
    pub inside : i ≤ n
    pub rest : test (listed (position_at kept s) i (n - i)) ≡ test (positions kept s)

  pub kept-start : {kept : List ℤ} {n : ℕ} → n ≡ kept_count kept s → KeptLeft kept n 0
  kept-start {kept = kept} {n = n} e = let z : n - 0 ≡ kept_count kept s = omega (arith, e) in record { inside = omega arith; rest = rw (z, positions-are kept s) }

  module _ {kept : List ℤ} {n i : ℕ} (inv : KeptLeft kept n i) where
    pub kept-turn : i < n → test (position_at kept s i ∷ listed (position_at kept s) (suc i) (n - (i + 1))) ≡ test (positions kept s)
    kept-turn h = let z : n - i ≡ suc (n - (i + 1)) = omega arith in rw (z, listed_more (position_at kept s) i (n - (i + 1))) at inv.rest

    pub kept_on : i < n → test (listed (position_at kept s) (suc i) (n - (i + 1))) ≡ test (position_at kept s i ∷ listed (position_at kept s) (suc i) (n - (i + 1))) → KeptLeft kept n (i + 1)
    kept_on h e = let z : suc i ≡ i + 1 = omega arith in record { inside = omega arith; rest = rw z at (e ∙ kept-turn h) }

    pub kept-end : n ≤ i → test [] ≡ got tt → Ok tt ≡ held_of (test (positions kept s))
    kept-end h e = let z : n - i ≡ 0 = omega arith in rw (← (rw (z, listed-none (position_at kept s) i, e) at inv.rest))

    pub kept-fails : {position : ℕ} → i < n → test (position_at kept s i ∷ listed (position_at kept s) (suc i) (n - (i + 1))) ≡ stop position → Err position ≡ held_of (test (positions kept s))
    kept-fails h e = rw (← kept-turn h, e)

-- ---- one kept value constraint

module _ (program : List ℤ) (S : Cells) (position : ℕ) (more : List ℕ) {w : Result Weighed Refusal} {q : List ℤ} (l : q ≡ drop 1 (drop position program)) (e : w ≡ weighed_of (constraint_at S q)) where
  kept_here : kept_at program S position ≡ constraint_at S q
  kept_here = kept-is program S position ∙ rw (l, drop-drop 1 position program)

  pub value-unread : {f : Refusal} → w ≡ Err f → values_hold program S (position ∷ more) ≡ stop position
  value-unread h =
      either (kept_at program S position)
      (λ parts g. unlike (let y = sym (rw (← kept_here, g) at e) ∙ h in cc))
      (λ f g. values-stop program S position more f g)

  pub value-broken : {x : Weighed} → w ≡ Ok x → x.required ≡ false → values_hold program S (position ∷ more) ≡ stop position
  value-broken {x = x} h z =
      either (kept_at program S position)
      (λ parts g.
      let y = sym (rw (← kept_here, g) at e) ∙ h in
      let b : required_hold parts ≡ x.required = cc in
      let d = b ∙ z in
      rw (values-read program S position more parts g, d))
      (λ f g. unlike (let y = sym (rw (← kept_here, g) at e) ∙ h in cc))

  pub value-holds : {x : Weighed} → w ≡ Ok x → x.required ≡ true → values_hold program S more ≡ values_hold program S (position ∷ more)
  value-holds {x = x} h z =
      either (kept_at program S position)
      (λ parts g.
      let y = sym (rw (← kept_here, g) at e) ∙ h in
      let b : required_hold parts ≡ x.required = cc in
      let d = b ∙ z in
      rw (values-read program S position more parts g, d))
      (λ f g. unlike (let y = sym (rw (← kept_here, g) at e) ∙ h in cc))

-- ---- one kept identity

module _ (program : List ℤ) (S : Cells) (position : ℕ) (more : List ℕ) {w : Result (Unit {0}) Refusal} {q : List ℤ} (l : q ≡ drop position program) (e : w ≡ sameness_of (same_now S q (drop 1 q))) where
  same_here : same_now S (drop position program) (drop (position + 1) program) ≡ same_now S q (drop 1 q)
  same_here = rw (l, drop-drop 1 position program)

  pub identity-fails : {f : Refusal} → w ≡ Err f → identities_hold program S (position ∷ more) ≡ stop position
  identity-fails h =
      either (same_now S (drop position program) (drop (position + 1) program))
      (λ u g. unlike (let y = sym (rw (← same_here, g) at e) ∙ h in cc))
      (λ f g. identities-stop program S position more f g)

  pub identity-holds : w ≡ Ok tt → identities_hold program S more ≡ identities_hold program S (position ∷ more)
  identity-holds h =
      either (same_now S (drop position program) (drop (position + 1) program))
      (λ u g. sym (identities-hold program S position more u g))
      (λ f g. unlike (let y = sym (rw (← same_here, g) at e) ∙ h in cc))

-- ---- outcomes in their order

module _ (n : ℕ) (m : Answer ℕ (Unit {0})) {h : Result (Unit {0}) ℕ} (e : h ≡ held_of m) where
  pub held-stop : {place : ℕ} (k : Answer Early (Unit {0})) → h ≡ Err place → Err (stopped n place) ≡ started_of (early n m >> k)
  held-stop {place = place} k x = by m (sym e ∙ x)
    where
      by : (m : Answer ℕ (Unit {0})) → held_of m ≡ Err place → Err (stopped n place) ≡ started_of (early n m >> k)
      by (got u) y = unlike (cc)
      by (stop p) y = rw (early-stop n p) (cc)

  pub held_on : (k : Answer Early (Unit {0})) → h ≡ Ok tt → started_of k ≡ started_of (early n m >> k)
  held_on k x = by m (sym e ∙ x)
    where
      by : (m : Answer ℕ (Unit {0})) → held_of m ≡ Ok tt → started_of k ≡ started_of (early n m >> k)
      by (got u) y = rw (early-got n u)
      by (stop p) y = unlike (cc)

  pub held-last-stop : {place : ℕ} → h ≡ Err place → Err (stopped n place) ≡ started_of (early n m)
  held-last-stop {place = place} x = by m (sym e ∙ x)
    where
      by : (m : Answer ℕ (Unit {0})) → held_of m ≡ Err place → Err (stopped n place) ≡ started_of (early n m)
      by (got u) y = unlike (cc)
      by (stop p) y = rw (early-stop n p) (cc)

  pub held-last-on : h ≡ Ok tt → Ok tt ≡ started_of (early n m)
  held-last-on x = by m (sym e ∙ x)
    where
      by : (m : Answer ℕ (Unit {0})) → held_of m ≡ Ok tt → Ok tt ≡ started_of (early n m)
      by (got u) y = rw (early-got n u)
      by (stop p) y = unlike (cc)

module _ (n place : ℕ) (k : Answer Early (Unit {0})) where
  pub test-stop : {b : Bool} → b ≡ false → Err (stopped n place) ≡ started_of (early n (want place b) >> k)
  test-stop e = rw (e, early-stop n place)

  pub test_on : {b : Bool} → b ≡ true → started_of k ≡ started_of (early n (want place b) >> k)
  test_on e = rw (e, early-got n tt)

module _ (m : Answer ℕ (Unit {0})) (k : Answer Early (Unit {0})) {v : Result (Unit {0}) ℕ} (e : v ≡ verdict_of m) where
  pub read-stop : {place : ℕ} → v ≡ Err place → Err (stopped 2 place) ≡ started_of (early 2 m >> k)
  read-stop {place = place} x = by m (sym e ∙ x)
    where
      by : (m : Answer ℕ (Unit {0})) → verdict_of m ≡ Err place → Err (stopped 2 place) ≡ started_of (early 2 m >> k)
      by (got u) y = unlike (cc)
      by (stop p) y = rw (early-stop 2 p) (cc)

  pub read-on : v ≡ Ok tt → started_of k ≡ started_of (early 2 m >> k)
  read-on x = by m (sym e ∙ x)
    where
      by : (m : Answer ℕ (Unit {0})) → verdict_of m ≡ Ok tt → started_of k ≡ started_of (early 2 m >> k)
      by (got u) y = rw (early-got 2 u)
      by (stop p) y = unlike (cc)

-- ---- two tests in one

pub and-false : (a b : Bool) → a ≡ false → a && b ≡ false
and-false a b e = rw e
