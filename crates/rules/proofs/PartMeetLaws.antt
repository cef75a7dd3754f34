-- A C that does not read, and parts that cannot be counted: the definitions stop with 7, 8 or 15, at a word, exactly where the rules say so. Assumes nothing.
use mathlib.Core.Path.{◌≡◌, refl, sym, ap, ◌∙◌}
use mathlib.Core.Logic.{◌≢◌}
use mathlib.Core.Bool.{false, true≢false}
use mathlib.Core.List.{List, [], ◌∷◌}
use Rattle.std.specs.Prelude.{Option, None, Some}
use Prim.Native.Nat.{ℕ, zero, suc, ◌+◌}
use native.Mathlib.Omega.{arith}
use lib.IntN.{ℤ}
use lib.ListN.{drop}
use Rattle.words.specs.Answer.{got, stop}
use Rattle.words.proofs.AnswerLaws.{stop-inj, stop≢got}
use Rattle.tables.specs.declared.Sort.TheVariants.{Values}
use Rattle.tables.specs.declared.Kind.{Kind}
use Rattle.tables.specs.declared.Kind.TheVariants.{Nil as is_nil, Bool as is_bool, Int as is_int, Ref as is_ref}
use Rattle.tables.specs.Cells.{Cells}
use Rattle.program.specs.Forms.{expression_depth, most_parts, required}
use Rattle.program.proofs.NumberLaws.{number-of}
use Rattle.rules.specs.State.{Fault, Res, refused, positions}
use Rattle.rules.specs.Evaluation.{a_bool, kind}
use Rattle.rules.specs.Constraints.{Part, part_at, parts_at, constraint_at, fifteen, kept_at, kept_parts, own_parts, counted}
use Rattle.rules.specs.Rules.Expressions.{typed, meets, no_boolean}
use Rattle.rules.specs.Rules.Constraints.{Reads, FirstNot, PartMeets, PartsMeet, ConstraintMeets, Uncounted}
use Rattle.rules.specs.Rules.Proposals.{Each}
use Rattle.rules.proofs.TypingLaws.{kind-sound, kind-complete}
use Rattle.rules.proofs.PartLaws.{part-iff, constraint-iff}
use Rattle.rules.proofs.NearLaws.{fifteen-got}
use Rattle.rules.proofs.KeepLaws.{each-head, each_tail}
use Rattle.rules.proofs.StopLaws.{stops_then, stopped, failed, stopped-number}
use Rattle.rules.proofs.KindMeetLaws.{kind-meets-sound, kind-meets-complete}

pub no_bool : (k : Kind) → k ≢ is_bool → a_bool k ≡ false
no_bool is_nil h = refl
no_bool is_bool h = absurd (h refl)
no_bool is_int h = refl
no_bool is_ref h = refl

-- 15 with the word at fault
abbrev fifteenth : Fault → Fault
fifteenth f = record { number = 15; word = f.word }

fifteen-stop {ℓ} : {X : Type ℓ} {f : Fault} (m : Res (List Part)) → fifteen m ≡ stop f → ((g : Fault) → m ≡ stop g → f ≡ fifteenth g → X) → X
fifteen-stop (got x) e k = stop≢got (sym e)
fifteen-stop (stop g) e k = k g refl (sym (stop-inj e))

module _ (S : Cells) where
  -- ---- where the definitions stop, the rules refuse

  part-meets-sound : (p : List ℤ) (f : Fault) → part_at S p ≡ stop f → (f.number ≡ 2 → ⊥) → PartMeets S p f
  unfolding part_at
  part-meets-sound p f e two =
      stopped-number 1 required p _ (omega arith) e two λ n q a b s k.
      rw s
      (stopped (kind expression_depth S q) _ k (λ e1. PartMeets.part a b (meets (kind-meets-sound S expression_depth q f e1 two))) λ y e1 k1.
      failed (refused 8 p) (a_bool y.0) _ k1
      (λ c i. rw (← i, s) (PartMeets.part a b (no_boolean (typed (kind-sound S expression_depth q y e1)) (λ z. true≢false (sym (ap a_bool z) ∙ c)))))
      (λ c k2. stop≢got (sym k2)))

  parts-meet-sound : (m : ℕ) (p : List ℤ) (f : Fault) → parts_at m S p ≡ stop f → (f.number ≡ 2 → ⊥) → PartsMeet S m p f
  unfolding parts_at
  parts-meet-sound zero p f e two = stop≢got (sym e)
  parts-meet-sound (suc m) p f e two =
      stopped (part_at S p) _ e (λ e1. PartsMeet.first (part-meets-sound p f e1 two)) λ y e1 k1.
      stopped (parts_at m S y.1) _ k1 (λ e2. PartsMeet.later ((part-iff S p y.0 y.1).0 e1) (parts-meet-sound m y.1 f e2 two)) (λ z e2 k2. stop≢got (sym k2))

  pub constraint-meets-sound : (p : List ℤ) (f : Fault) → constraint_at S p ≡ stop f → (f.number ≡ 2 → ⊥) → ConstraintMeets S p f
  unfolding constraint_at
  constraint-meets-sound p f e two =
      stopped-number 1 most_parts p _ (omega arith) e two λ m q a b s k.
      rw s (stopped (parts_at m S q) _ k (λ e1. ConstraintMeets.constraint a b (parts-meet-sound m q f e1 two)) (λ y e1 k1. stop≢got (sym k1)))

  -- ---- where the rules refuse, the definitions stop

  part-meets-complete : {p : List ℤ} {f : Fault} → PartMeets S p f → part_at S p ≡ stop f
  unfolding part_at
  part-meets-complete (PartMeets.part {priority = k} {p = p} a b (meets m)) = rw (number-of 1 required k p a b) (stops_then _ (kind-meets-complete m))
  part-meets-complete (PartMeets.part {priority = k} {p = p} a b (no_boolean {k = c} (typed t) h)) = rw (number-of 1 required k p a b, kind-complete t, no_bool c h)

  parts-meet-complete : {m : ℕ} {p : List ℤ} {f : Fault} → PartsMeet S m p f → parts_at m S p ≡ stop f
  unfolding parts_at
  parts-meet-complete (PartsMeet.first m) = stops_then _ (part-meets-complete m)
  parts-meet-complete (PartsMeet.later {x = x} {p = p} {q = q} i m) = rw ((part-iff S p x q).1 i) (stops_then _ (parts-meet-complete m))

  pub constraint-meets-complete : {p : List ℤ} {f : Fault} → ConstraintMeets S p f → constraint_at S p ≡ stop f
  unfolding constraint_at
  constraint-meets-complete (ConstraintMeets.constraint {m = m} {p = p} a b x) = rw (number-of 1 most_parts m p a b) (stops_then _ (parts-meet-complete x))

-- ---- the parts that count

-- the words of the constraints at these positions read
abbrev pub Worded : List ℤ → Cells → List ℕ → Type 0
Worded program S ps = Each (λ k. (f : Fault) → kept_at program S k ≡ stop f → f.number ≡ 2 → ⊥) ps

module _ (program : List ℤ) (S : Cells) where
  -- the first kept constraint that does not read, and the word at fault in it
  record Unkept (ps : List ℕ) (f : Fault) : Type 0 where
    position : ℕ
    fault : Fault
    first : FirstNot (Reads program S) ps position
    meets : ConstraintMeets S (drop (position + 1) program) fault
    is : f ≡ fifteenth fault

  unread : (k : ℕ) {f : Fault} → kept_at program S k ≡ stop f → Reads program S k → ⊥
  unfolding kept_at
  unread k e r = stop≢got (sym e ∙ (constraint-iff S (drop (k + 1) program) r.0).1 r.1)

  kept-sound : (ps : List ℕ) (f : Fault) → Worded program S ps → kept_parts program S ps ≡ stop f → Unkept ps f
  unfolding kept_parts kept_at
  kept-sound [] f w e = stop≢got (sym e)
  kept-sound (k ∷ ps) f w e =
      stopped (fifteen (kept_at program S k)) _ e
      (λ e1. fifteen-stop (kept_at program S k) e1 λ g e2 i.
      record { position = k; fault = g; first = FirstNot.here (unread k e2); meets = constraint-meets-sound S (drop (k + 1) program) g e2 (each-head w g e2); is = i })
      (λ x e1 k1.
      let r : Reads program S k = (x, (constraint-iff S (drop (k + 1) program) x).0 (fifteen-got (kept_at program S k) x e1)) in
      stopped (kept_parts program S ps) _ k1
      (λ e2. let u = kept-sound ps f (each_tail w) e2 in record { position = u.position; fault = u.fault; first = FirstNot.later r u.first; meets = u.meets; is = u.is })
      (λ y e2 k2. stop≢got (sym k2)))

  kept-complete : {ps : List ℕ} {k : ℕ} {f : Fault} → FirstNot (Reads program S) ps k → ConstraintMeets S (drop (k + 1) program) f → kept_parts program S ps ≡ stop (fifteenth f)
  unfolding kept_parts kept_at
  kept-complete (FirstNot.here n) m = rw (constraint-meets-complete S m)
  kept-complete (FirstNot.later {x = k} r n) m = rw ((constraint-iff S (drop (k + 1) program) r.0).1 r.1, kept-complete n m)

  module _ (kept : List ℤ) where
    pub uncounted-sound : (own : Option (List ℤ)) (f : Fault) → Worded program S (positions kept Values) → counted program kept own S ≡ stop f → (f.number ≡ 2 → ⊥)
        → Uncounted program kept S own f
    unfolding counted own_parts
    uncounted-sound None f w e two =
        stopped (kept_parts program S (positions kept Values)) _ e
        (λ e1.
        let k = kept-sound (positions kept Values) f w e1 in
        rw k.is (Uncounted.kept {own = None} (λ p q. absurd (let z : ◌≡◌ {A = ℕ} 0 1 = cc in omega arith)) k.first k.meets))
        (λ ys e1 k1. stop≢got (sym k1))
    uncounted-sound (Some p) f w e two =
        stopped (constraint_at S p) _ e (λ e1. Uncounted.own (constraint-meets-sound S p f e1 two)) λ xs e1 k1.
        stopped (kept_parts program S (positions kept Values)) _ k1
        (λ e2.
        let k = kept-sound (positions kept Values) f w e2 in
        rw k.is (Uncounted.kept {own = Some p} (λ q i. let j : p ≡ q = cc in (xs, rw (← j) ((constraint-iff S p xs).0 e1))) k.first k.meets))
        (λ ys e2 k2. stop≢got (sym k2))

    pub uncounted-complete : {own : Option (List ℤ)} {f : Fault} → Uncounted program kept S own f → counted program kept own S ≡ stop f
    unfolding counted own_parts
    uncounted-complete (Uncounted.own m) = stops_then _ (constraint-meets-complete S m)
    uncounted-complete (Uncounted.kept {own = None} reads first m) = stops_then _ (kept-complete first m)
    uncounted-complete (Uncounted.kept {own = Some p} reads first m) =
        let r = reads p refl in
        rw ((constraint-iff S p r.0).1 r.1) (stops_then _ (kept-complete first m))
